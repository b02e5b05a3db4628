use Rattle.std.proofs.Common.{◌++◌, Ok, Err, map}
use Rattle.entries.proofs.Pushed.{type_below}
use Rattle.entries.specs.StoredEntries.{attributes_of}
use Rattle.reasons.specs.BlockFlaws.{block_order}
use Rattle.reasons.specs.Flaws.{Block, value_checks}
use Rattle.reasons.specs.inner.Found.{Finds}
use Rattle.reasons.proofs.BlocksFound.{block_found, block_fine, looks_is}
use Rattle.reasons.proofs.RecordFound.{ok_map}
use Rattle.reasons.proofs.explainer.Explainer.whole_block_reason.Goals as goal

pub values_reason-requires-clause-known : goal.values_reason-requires-clause-known
values_reason-requires-clause-known c = type_below c.args.self.now.conf.now.types c.args.block.now.attr c.in-Ok.t c.in-Ok.ensures.0

pub returns-in-Ok-clause-found : goal.returns-in-Ok-clause-found
returns-in-Ok-clause-found c =
    let conf = c.args.self.now.conf.now in
    let mode = c.args.self.now.mode in
    let d = c.args.self.now.tree.now.entries in
    let r = c.args.self.now.asked.now in
    let b = c.args.index in
    let m = c.args.block.now in
    let before = attributes_of c.args.attrs.now.items in
    let looks = looks_is conf.types c.deref.result.now c.args.attrs.now.items m c.block_reason.result (Ok c.in-Ok.t) c.deref.ensures.value c.in-Ok.is c.block_reason.ensures in
    ok_map (Finds conf mode d r (value_checks b 0 m.values)) (Finds conf mode d r (map (Block b) block_order ++ value_checks b 0 m.values))
    (λ found is. block_fine conf mode d r b m before c.requires.block (value_checks b 0 m.values) found looks.1 is) c.values_reason.result c.values_reason.ensures.found

pub returns-in-Err-clause-found : goal.returns-in-Err-clause-found
returns-in-Err-clause-found c =
    let conf = c.args.self.now.conf.now in
    let b = c.args.index in
    let m = c.args.block.now in
    let before = attributes_of c.args.attrs.now.items in
    let looks = looks_is conf.types c.deref.result.now c.args.attrs.now.items m c.block_reason.result (Err c.in-Err.why) c.deref.ensures.value c.in-Err.is c.block_reason.ensures in
    block_found conf c.args.self.now.mode c.args.self.now.tree.now.entries c.args.self.now.asked.now b m before c.requires.block (value_checks b 0 m.values) c.in-Err.why looks
