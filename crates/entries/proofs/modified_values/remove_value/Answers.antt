use Rattle.std.proofs.Common.{◌≡◌, ◌∙◌, sym, ap, subst, true, false, Ok, not}
use Rattle.std.specs.Str.{bytes_eq}
use Rattle.values.specs.Values.{Value}
use Rattle.schema.specs.Values.{norm_at}
use Rattle.entries.specs.StoredEntries.{raws, AreNormal}
use Rattle.values.specs.Norms.{has_norm, but_norm}
use Rattle.entries.proofs.StaysGood.{all_kept}
use Rattle.entries.proofs.ModifyLemmas.{remove_is}
use Rattle.entries.proofs.modified_values.remove_value.Goals as goal

pub returns-in-Ok-false-clause-gives : goal.returns-in-Ok-false-clause-gives
returns-in-Ok-false-clause-gives c =
    remove_is c.args.conf.now.types c.args.t c.args.values.now c.requires.normal c.args.raw.now c.in_ok-value.ensures.0 c.in_ok-value.value c.in_ok-value.ensures.1 false
    (ap (λ n. has_norm n c.args.values.now) (sym c.norm.ensures) ∙ sym c.in-Ok-false.ensures.there ∙ c.in-Ok-false.field-0-test)

pub returns-in-Ok-true-clause-normal : goal.returns-in-Ok-true-clause-normal
returns-in-Ok-true-clause-normal c =
    subst (AreNormal c.args.conf.now.types c.args.t) (sym c.in-Ok-true.ensures.values)
    (all_kept (λ (v : Value). v.norm ≡ norm_at c.args.conf.now.types c.args.t v.raw) (λ (v : Value). not (bytes_eq v.norm c.norm.result.now)) c.args.values.now c.requires.normal)

pub returns-in-Ok-true-clause-gives : goal.returns-in-Ok-true-clause-gives
returns-in-Ok-true-clause-gives c =
    remove_is c.args.conf.now.types c.args.t c.args.values.now c.requires.normal c.args.raw.now c.in_ok-value.ensures.0 c.in_ok-value.value c.in_ok-value.ensures.1 true
    (ap (λ n. has_norm n c.args.values.now) (sym c.norm.ensures) ∙ sym c.in-Ok-true.ensures.there ∙ c.in-Ok-true.field-0-test)
    ∙ ap (λ vs. Ok (raws vs)) (ap (λ n. but_norm n c.args.values.now) (sym c.norm.ensures) ∙ sym c.in-Ok-true.ensures.values)
