use Rattle.std.proofs.Common.{◌++◌, ◌∷◌, sym, ap}
use Rattle.std.specs.Prelude.{is_some}
use Rattle.entries.specs.StoredEntries.{content_of}
use Rattle.reasons.specs.Flaws.{NoRdnValue, block_checks, entry_checks, modify_checks}
use Rattle.reasons.specs.inner.Found.{Finds}
use Rattle.reasons.proofs.ModifyFound.{good_rdn}
use Rattle.reasons.proofs.RecordFound.{ok_map, no_entry, entry_there}
use Rattle.reasons.proofs.explainer.Explainer.modify_reason.Goals as goal

pub blocks_and_entry_reason-requires-clause-good : goal.blocks_and_entry_reason-requires-clause-good
blocks_and_entry_reason-requires-clause-good c =
    good_rdn c.args.self.now.conf.now c.args.self.now.tree.now.conf c.args.self.now.tree.now.entries c.args.path.now (content_of c.in-Some.entry.now) c.args.self.now.same_conf c.entries_are_a_directory.ensures c.in-Some.ensures.entry

pub returns-in-Some : goal.returns-in-Some
returns-in-Some c =
    let conf = c.args.self.now.conf.now in
    let mode = c.args.self.now.mode in
    let d = c.args.self.now.tree.now.entries in
    let r = c.args.self.now.asked.now in
    let rest = block_checks 0 c.args.blocks.now ++ NoRdnValue ∷ entry_checks in
    ok_map (Finds conf mode d r rest) (Finds conf mode d r (modify_checks c.args.blocks.now))
    (λ found is. entry_there conf mode d r c.args.path.now c.requires.at rest found (sym (ap is_some c.in-Some.ensures.entry)) is) c.blocks_and_entry_reason.result c.blocks_and_entry_reason.ensures

pub returns-in-None : goal.returns-in-None
returns-in-None c =
    no_entry c.args.self.now.conf.now c.args.self.now.mode c.args.self.now.tree.now.entries c.args.self.now.asked.now c.args.path.now c.requires.at (block_checks 0 c.args.blocks.now ++ NoRdnValue ∷ entry_checks) (sym (ap is_some c.in-None.ensures.entry))
