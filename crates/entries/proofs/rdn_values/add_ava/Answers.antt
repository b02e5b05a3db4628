use Rattle.std.proofs.Common.{◌≡◌, ◌∙◌, sym, subst, ap, cond, refl, true, false, Bool, List, ℕ, length, not}
use Rattle.std.specs.List.{list_any}
use Rattle.std.specs.Str.{bytes_eq}
use Rattle.std.proofs.lemmas.Bool.{ltb-true}
use Rattle.values.specs.Values.{Value}
use Rattle.entries.specs.Entries.{values_of, push_value}
use Rattle.entries.specs.StoredEntries.{EntryAttribute, attributes_of, IsMade}
use Rattle.values.specs.Norms.{has_norm}
use Rattle.entries.proofs.LineLemmas.{ava_is, ava_value, ava_normal}
use Rattle.entries.proofs.StoredLemmas.{raws_pushed, made_pushed, written_is_equal}
use Rattle.entries.proofs.rdn_values.add_ava.Goals as goal

pub returns-clause-made : goal.returns-clause-made
returns-clause-made c =
    let types = c.args.conf.now.types in
    let es : List EntryAttribute = c.args.attrs.now.entries in
    let t = c.args.ava.now.0 in
    let v : Value = c.in_ok-value.value in
    subst (IsMade types) (sym c.in_ok-put.ensures.entries)
    (elim c.in_ok-put.field-0 as (λ (b : Bool). IsMade types (cond b (push_value es t v) es)) [
      | true ↦ made_pushed types t es v c.requires.made (ltb-true t (length types) c.requires.ava.known) (ava_normal types t c.as_slice-raw.result.now v c.in_ok-value.ensures)
      | false ↦ c.requires.made
    ])

pub returns-clause-values : goal.returns-clause-values
returns-clause-values c =
    let types = c.args.conf.now.types in
    let es : List EntryAttribute = c.args.attrs.now.entries in
    let t = c.args.ava.now.0 in
    let v : Value = c.in_ok-value.value in
    let there : Bool = has_norm v.norm (values_of es t) in
    ap attributes_of (c.in_ok-put.ensures.entries ∙ ap (λ (b : Bool). cond b (push_value es t v) es) c.in_ok-put.ensures.is_new)
    ∙ (elim there as (λ (b : Bool). attributes_of (cond (not b) (push_value es t v) es) ≡ cond b (attributes_of es) (push_value (attributes_of es) t v.raw)) [
      | true ↦ refl
      | false ↦ raws_pushed es t v
    ])
    ∙ sym (ava_is types es c.requires.made t v (ava_normal types t c.as_slice-raw.result.now v c.in_ok-value.ensures) there refl
    c.args.ava.now (ava_value types c.args.ava.now c.as_slice-raw.result.now v c.as_slice-raw.ensures c.in_ok-value.ensures))

pub returns-then-has_raw-clause-values : goal.returns-then-has_raw-clause-values
returns-then-has_raw-clause-values c =
    let types = c.args.conf.now.types in
    let es : List EntryAttribute = c.args.attrs.now.entries in
    let t = c.args.ava.now.0 in
    let there = written_is_equal types t c.args.ava.now.1 es (ap (λ (raw : List ℕ). list_any (λ (v : Value). bytes_eq v.raw raw) (values_of es t)) (sym c.as_slice-raw.ensures) ∙ sym c.has_raw.ensures ∙ c.if-has_raw.true) in
    sym (ap (λ (b : Bool). cond b (attributes_of es) (push_value (attributes_of es) t c.args.ava.now.1)) there)
