use Rattle.std.proofs.Common.{◌≡◌, ℕ, Some, None, nat_lt, refl, sym, ap, ◌∙◌, arith}
use Rattle.std.specs.Option.{option_map}
use Rattle.std.proofs.lemmas.Grind.{common_steps}
use Rattle.values.specs.Types.{type_of}
use Rattle.entries.specs.Modifies.{has_values}
use Rattle.entries.specs.StoredEntries.{attributes_of}
use Rattle.reasons.specs.Reasons.{block_flaw_of}
use Rattle.reasons.specs.inner.Changes.{operation_flaw}
use Rattle.reasons.proofs.BlocksFound.{unknown_block, fixed_block, operated, there_is_some, block_is}
use Rattle.reasons.proofs.explainer.Explainer.block_reason.Goals as goal

pub returns-in_default : goal.returns-in_default
returns-in_default c = unknown_block c.args.self.now.conf.now.types (attributes_of c.args.attrs.now) c.args.block.now (grind (arith, common_steps))

pub returns-then-fixed : goal.returns-then-fixed
returns-then-fixed c = fixed_block c.args.self.now.conf.now.types (attributes_of c.args.attrs.now) c.args.block.now c.in-Some.t (grind (arith, common_steps)) (sym c.fixed.ensures ∙ c.if-fixed.true)

pub returns-in-Some-operation_reason : goal.returns-in-Some-operation_reason
returns-in-Some-operation_reason c =
    let types = c.args.self.now.conf.now.types in
    let attrs = attributes_of c.args.attrs.now in
    let m = c.args.block.now in
    let known : type_of types m.attr ≡ Some c.in-Some.t = grind (arith, common_steps) in
    block_is types attrs m (Some (block_flaw_of c.in-Some-operation_reason.why)) (operation_flaw types c.in-Some.t m.op c.has_values-there.result (has_values m.values))
    (sym (ap (option_map block_flaw_of) c.in-Some-operation_reason.is) ∙ c.operation_reason.ensures ∙ ap (λ (n : ℕ). operation_flaw types c.in-Some.t m.op c.has_values-there.result (nat_lt 0 n)) c.len.ensures)
    (operated types attrs m c.in-Some.t known (sym c.fixed.ensures ∙ c.if-fixed.false) m.op refl c.has_values-there.result (has_values m.values) (there_is_some types c.args.attrs.now c.in-Some.t c.has_values-there.result c.has_values-there.ensures) refl)

pub returns-in-None : goal.returns-in-None
returns-in-None c =
    let types = c.args.self.now.conf.now.types in
    let attrs = attributes_of c.args.attrs.now in
    let m = c.args.block.now in
    let known : type_of types m.attr ≡ Some c.in-Some.t = grind (arith, common_steps) in (
      known,
      block_is types attrs m None (operation_flaw types c.in-Some.t m.op c.has_values-there.result (has_values m.values))
          (sym (ap (option_map block_flaw_of) c.in-None.is) ∙ c.operation_reason.ensures ∙ ap (λ (n : ℕ). operation_flaw types c.in-Some.t m.op c.has_values-there.result (nat_lt 0 n)) c.len.ensures)
          (operated types attrs m c.in-Some.t known (sym c.fixed.ensures ∙ c.if-fixed.false) m.op refl c.has_values-there.result (has_values m.values) (there_is_some types c.args.attrs.now c.in-Some.t c.has_values-there.result c.has_values-there.ensures) refl),
    )
