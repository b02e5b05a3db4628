use Rattle.std.proofs.Common.{◌≡◌, ℕ, ◌+◌, ◌<◌, ◌≤◌, suc, List, length, take, drop, ap, subst, ◌∙◌, arith}
use Rattle.std.specs.Option.{option_map}
use Rattle.values.specs.Values.{Value}
use Rattle.entries.specs.Entries.{values_of}
use Rattle.entries.specs.StoredEntries.{EntryAttribute, attributes_of}
use Rattle.reasons.specs.BlockFlaws.{HasValueFlaw}
use Rattle.reasons.specs.Flaws.{HasFlaw, value_checks}
use Rattle.reasons.specs.Reasons.{value_flaw_of}
use Rattle.reasons.specs.inner.Changes.{KeepsValues, value_order, changed_values}
use Rattle.reasons.specs.inner.Found.{FindsFirst, Leaves}
use Rattle.reasons.proofs.Finding.{where_some, where_none}
use Rattle.reasons.proofs.BlocksFound.{value_found, value_passed, values_done, all_taken}
use Rattle.reasons.proofs.ValuesFound.{made_after, attributes_after, kept_where_none}
use Rattle.reasons.proofs.explainer.Explainer.values_reason.Goals as goal

pub returns-in-Some-clause-found : goal.returns-in-Some-clause-found
returns-in-Some-clause-found c =
    let conf = c.args.self.now.conf.now in
    let m = c.args.block.now in
    let before = attributes_of c.args.attrs.now.items in
    let i = c.loop-value.value in
    let within : i < length m.values = omega (arith, c.len-value-end.ensures, c.loop-value-test.true) in
    let found = subst (λ (es : List EntryAttribute). FindsFirst (HasValueFlaw conf.types (attributes_of es) m i) value_order (option_map value_flaw_of c.in_ok-found.found)) c.deref-in-loop-value.ensures.value c.in_ok-found.ensures.found in
    value_found conf c.args.self.now.mode c.args.self.now.tree.now.entries c.args.self.now.asked.now c.args.index m before c.requires.block i within c.loop-value.invariant.left c.in-Some.why
    (where_some (HasValueFlaw conf.types before m i) value_order value_flaw_of c.in_ok-found.found c.in-Some.why c.in-Some.is found)

pub loop-value-preserved : goal.loop-value-preserved
loop-value-preserved c =
    let conf = c.args.self.now.conf.now in
    let mode = c.args.self.now.mode in
    let d = c.args.self.now.tree.now.entries in
    let r = c.args.self.now.asked.now in
    let b = c.args.index in
    let m = c.args.block.now in
    let es = c.args.attrs.now.items in
    let before = attributes_of es in
    let i = c.loop-value.value in
    let one : suc i ≡ i + 1 = omega arith in
    let within : i < length m.values = omega (arith, c.len-value-end.ensures, c.loop-value-test.true) in
    let found = subst (λ (xs : List EntryAttribute). FindsFirst (HasValueFlaw conf.types (attributes_of xs) m i) value_order (option_map value_flaw_of c.in_ok-found.found)) c.deref-in-loop-value.ensures.value c.in_ok-found.ensures.found in
    let kept = kept_where_none (KeepsValues conf.types c.args.t (values_of c.deref-in-loop-value.result.now c.args.t) (take (i + 1) m.values) c.value_reason.new.changed) c.in_ok-found.found c.in_default.is c.in_ok-found.ensures.kept in
    record {
      kept = subst (λ (xs : List EntryAttribute). KeepsValues conf.types c.args.t (values_of xs c.args.t) (take (i + 1) m.values) c.value_reason.new.changed) c.deref-in-loop-value.ensures.value kept;
      left = subst (λ (n : ℕ). Leaves (HasFlaw conf mode d r) (value_checks b 0 m.values) (value_checks b n (drop n m.values))) one
          (value_passed conf mode d r b m before c.requires.block i within c.loop-value.invariant.left
          (where_none (HasValueFlaw conf.types before m i) value_order value_flaw_of c.in_ok-found.found c.in_default.is found));
    }

pub returns-clause-found : goal.returns-clause-found
returns-clause-found c =
    values_done c.args.self.now.conf.now c.args.self.now.mode c.args.self.now.tree.now.entries c.args.self.now.asked.now c.args.index c.args.block.now (attributes_of c.args.attrs.now.items) c.requires.block
    c.loop-value.value (let past : length c.args.block.now.values ≤ c.loop-value.value = omega (arith, c.len-value-end.ensures, c.loop-value-test.false) in past) c.loop-value.invariant.left

pub returns-clause-made : goal.returns-clause-made
returns-clause-made c =
    let types = c.args.self.now.conf.now.types in
    let t = c.args.t in
    let m = c.args.block.now in
    let es = c.args.attrs.now.items in
    let changed = c.loop-value.changed in
    let past : length m.values ≤ c.loop-value.value = omega (arith, c.len-value-end.ensures, c.loop-value-test.false) in
    let kept = subst (λ (vs : List (List ℕ)). KeepsValues types t (values_of es t) vs changed) (all_taken m.values c.loop-value.value past) c.loop-value.invariant.kept in
    let old : c.in_ok-old.old ≡ values_of es t = c.in_ok-old.ensures ∙ ap (λ (xs : List EntryAttribute). values_of xs t) c.deref.ensures.value in
    made_after types es c.set_values.new.attrs.items m t c.requires.type_id c.requires.made c.requires.known changed kept c.in_ok-new.new (c.in_ok-new.ensures ∙ ap (λ (vs : List Value). changed_values m.op vs changed.come) old) c.in_ok-set_values.ensures

pub returns-clause-after : goal.returns-clause-after
returns-clause-after c =
    let types = c.args.self.now.conf.now.types in
    let t = c.args.t in
    let m = c.args.block.now in
    let es = c.args.attrs.now.items in
    let changed = c.loop-value.changed in
    let past : length m.values ≤ c.loop-value.value = omega (arith, c.len-value-end.ensures, c.loop-value-test.false) in
    let kept = subst (λ (vs : List (List ℕ)). KeepsValues types t (values_of es t) vs changed) (all_taken m.values c.loop-value.value past) c.loop-value.invariant.kept in
    let old : c.in_ok-old.old ≡ values_of es t = c.in_ok-old.ensures ∙ ap (λ (xs : List EntryAttribute). values_of xs t) c.deref.ensures.value in
    attributes_after types es c.set_values.new.attrs.items m t c.requires.type_id c.requires.made c.requires.known changed kept c.in_ok-new.new (c.in_ok-new.ensures ∙ ap (λ (vs : List Value). changed_values m.op vs changed.come) old) c.in_ok-set_values.ensures
