use Rattle.std.proofs.Common.{ℕ, List, not, true, ◌≡◌, sym, subst}
use Rattle.std.specs.List.{AllByRecursion}
use Rattle.std.proofs.lemmas.Result.{IfOk-weaker}
use Rattle.schema.specs.Superclasses.{has_number, is_required}
use Rattle.sentences.proofs.Lists.{all_required}
use Rattle.sentences.proofs.record_words.Refused.lacked_types.Goals as goal

pub returns : goal.returns
returns c =
    let classes = c.args.self.now.conf.now.classes in
    IfOk-weaker c.left.result _ _ (λ types is. subst (λ (ts : List ℕ). AllByRecursion (λ t. is_required classes c.args.class t ≡ true) ts) (sym is)
    (all_required c.required.result.now (is_required classes c.args.class) (λ t. not (has_number c.as_slice.result.now t)) c.required.ensures)) c.left.ensures
