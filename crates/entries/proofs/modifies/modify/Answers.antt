use Rattle.std.proofs.Common.{sym, ap, ◌∙◌, subst}
use Rattle.std.proofs.lemmas.Result.{IfOk-from_err, err_from_is_err_and}
use Rattle.ldif.specs.declared.record.Mod.{Mod}
use Rattle.base.specs.Answers.{Fails}
use Rattle.base.proofs.Through.{goes_on, is_done, ends}
use Rattle.entries.specs.Gives.{fault_of}
use Rattle.entries.specs.StoredEntries.{attributes_of}
use Rattle.entries.specs.Modifies.{modify_block}
use Rattle.entries.proofs.modifies.modify.Goals as goal

pub loop-block-preserved : goal.loop-block-preserved
loop-block-preserved c =
    let step = modify_block c.args.conf.now.types in
    let old = attributes_of c.loop-block.attrs in
    record {
      made = c.in_ok-modify_block.ensures.made;
      rest = goes_on step c.args.mods.now c.loop-block.block-index c.block-item.result old _ _ c.loop-block-test.true (ap (step old) (sym c.block-item.is) ∙ c.in_ok-modify_block.ensures.gives) c.loop-block.invariant.rest;
    }

pub returns-clause-gives : goal.returns-clause-gives
returns-clause-gives c = is_done (modify_block c.args.conf.now.types) c.args.mods.now c.loop-block.block-index (attributes_of c.loop-block.attrs) _ c.loop-block-test.false c.loop-block.invariant.rest

pub returns-in_err-modify_block-clause-made : goal.returns-in_err-modify_block-clause-made
returns-in_err-modify_block-clause-made c = IfOk-from_err _ _ c.from_residual.ensures.0

pub returns-in_err-modify_block-clause-gives : goal.returns-in_err-modify_block-clause-gives
returns-in_err-modify_block-clause-gives c =
    let step = modify_block c.args.conf.now.types in
    let old = attributes_of c.loop-block.attrs in
    let fault = fault_of c.in_err-modify_block.field-0.0 in
    let p = err_from_is_err_and c.from_residual.result c.from_residual.ensures.1 in
    rw (p.1, p.2) (ends step c.args.mods.now c.loop-block.block-index c.block-item.result old fault _ c.loop-block-test.true (subst (λ (m : Mod). Fails fault (step old m)) c.block-item.is c.in_err-modify_block.ensures.gives) c.loop-block.invariant.rest)
