use Rattle.std.proofs.Common.{List, sym, ap, ◌∙◌}
use Rattle.std.proofs.lemmas.Result.{err_from_is_err_and}
use Rattle.std.proofs.lemmas.Bool.{eqb-true}
use Rattle.ldif.specs.declared.record.Mod.{Mod}
use Rattle.ldif.specs.Gives.{fault_of}
use Rattle.base.specs.Answers.{each}
use Rattle.ldif.specs.Reading.{block, blocks}
use Rattle.ldif.proofs.Blocks.{blocks_nil}
use Rattle.base.proofs.Each.{with_front, nothing_front, on_cons, ends_cons, done_nil}
use Rattle.ldif.proofs.modify.mods_of.Goals as goal

pub walk-init : goal.walk-init
walk-init c = ap (λ (front : List Mod). with_front front (each block (blocks c.args.lines))) c.new-mods.ensures ∙ nothing_front _

pub walk-preserved : goal.walk-preserved
walk-preserved c =
    ap (λ (front : List Mod). with_front front (each block (blocks c.split_block-front.result.1))) c.in_ok-push.ensures.ok
    ∙ on_cons block (blocks c.walk.rest) c.split_block-front.result.0 (blocks c.split_block-front.result.1) c.walk.mods c.in_ok-block.field-0 _ c.split_block-front.ensures.parts c.in_ok-block.ensures c.walk.invariant

pub returns-in_err-block : goal.returns-in_err-block
returns-in_err-block c =
    let p = err_from_is_err_and c.from_residual.result c.from_residual.ensures.1 in
    rw (p.1, p.2) (ends_cons block (blocks c.walk.rest) c.split_block-front.result.0 (blocks c.split_block-front.result.1) (fault_of c.in_err-block.field-0.0) c.walk.mods _ c.split_block-front.ensures.parts c.in_err-block.ensures c.walk.invariant)

pub returns : goal.returns
returns c = done_nil block (blocks c.walk.rest) c.walk.mods _ (blocks_nil c.walk.rest (eqb-true _ _ (sym c.is_empty.ensures ∙ c.walk-test.false))) c.walk.invariant
