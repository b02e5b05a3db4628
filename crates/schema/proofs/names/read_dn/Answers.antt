use Rattle.std.proofs.Common.{List, ℕ, Bool, cond, Result, Err, sym, ap, subst, ◌∙◌}
use Rattle.std.specs.Str.{is_utf8}
use Rattle.std.proofs.lemmas.Bool.{false_from_ne_true}
use Rattle.std.proofs.lemmas.Str.{IsUtf8-from_is_utf8, is_utf8-from_IsUtf8}
use Rattle.dn.specs.Names.{Name}
use Rattle.dn.specs.Reading.{name_of}
use Rattle.schema.specs.declared.code.Code.{Code}
use Rattle.schema.specs.declared.code.Code.TheVariants.{InvalidDnSyntax}
use Rattle.schema.specs.Names.{or_invalid, name_in}
use Rattle.schema.specs.Gives.{Gives}
use Rattle.schema.proofs.names.read_dn.Goals as goal

abbrev by_test : List ℕ → Bool → Result Name Code
by_test text b = cond b (or_invalid (name_of text)) (Err InvalidDnSyntax)

pub returns-in-Ok : goal.returns-in-Ok
unfolding name_in
returns-in-Ok c =
    subst (λ (r : Result Name Code). Gives (λ n. n) c.read_text.result r)
    (ap (λ (t : List ℕ). or_invalid (name_of t)) c.in-Ok.ensures.cases.0
    ∙ sym (ap (by_test c.args.text.now) (is_utf8-from_IsUtf8 c.args.text.now c.in-Ok.ensures.cases.1)))
    c.read_text.ensures

pub returns-in-Err : goal.returns-in-Err
unfolding name_in
returns-in-Err c = ap (by_test c.args.text.now) (false_from_ne_true (is_utf8 c.args.text.now) (λ is. c.in-Err.ensures.cases.0 (IsUtf8-from_is_utf8 c.args.text.now is)))
