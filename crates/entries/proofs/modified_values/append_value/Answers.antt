use Rattle.std.proofs.Common.{◌≡◌, ◌∙◌, ◌++◌, ◌∷◌, [], Bool, List, sym, ap, subst, cond, true, false, Ok}
use Rattle.std.proofs.lemmas.Bool.{not-false, not-true}
use Rattle.values.specs.Values.{Value}
use Rattle.schema.specs.Values.{norm_at}
use Rattle.entries.specs.StoredEntries.{raws, AreNormal}
use Rattle.entries.proofs.LineLemmas.{ava_normal}
use Rattle.entries.proofs.Pushed.{all_push}
use Rattle.entries.proofs.ModifyLemmas.{append_is}
use Rattle.entries.proofs.modified_values.append_value.Goals as goal

pub returns-in-Ok-false-clause-gives : goal.returns-in-Ok-false-clause-gives
returns-in-Ok-false-clause-gives c =
    append_is c.args.conf.now.types c.args.t c.args.values.now c.requires.normal c.args.raw.now c.in_ok-value.ensures.0 c.in_ok-value.value c.in_ok-value.ensures.1 true
    (not-false _ (sym c.in-Ok-false.ensures.is_new ∙ c.in-Ok-false.field-0-test))

pub returns-in-Ok-true-clause-normal : goal.returns-in-Ok-true-clause-normal
returns-in-Ok-true-clause-normal c =
    let types = c.args.conf.now.types in
    let old : List Value = c.args.values.now in
    let v : Value = c.in_ok-value.value in
    subst (AreNormal types c.args.t) (sym (c.in-Ok-true.ensures.values ∙ ap (λ (b : Bool). cond b (old ++ v ∷ []) old) c.in-Ok-true.field-0-test))
    (all_push (λ (x : Value). x.norm ≡ norm_at types c.args.t x.raw) old v c.requires.normal (ava_normal types c.args.t c.args.raw.now v c.in_ok-value.ensures.1))

pub returns-in-Ok-true-clause-gives : goal.returns-in-Ok-true-clause-gives
returns-in-Ok-true-clause-gives c =
    let old : List Value = c.args.values.now in
    let v : Value = c.in_ok-value.value in
    append_is c.args.conf.now.types c.args.t old c.requires.normal c.args.raw.now c.in_ok-value.ensures.0 v c.in_ok-value.ensures.1 false
    (not-true _ (sym c.in-Ok-true.ensures.is_new ∙ c.in-Ok-true.field-0-test))
    ∙ ap (λ vs. Ok (raws vs)) (sym (c.in-Ok-true.ensures.values ∙ ap (λ (b : Bool). cond b (old ++ v ∷ []) old) c.in-Ok-true.field-0-test))
