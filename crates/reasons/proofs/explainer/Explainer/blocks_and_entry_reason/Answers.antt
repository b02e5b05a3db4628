use Rattle.std.proofs.Common.{◌≡◌, ◌++◌, ◌∷◌, List, sym, ap, ◌∙◌}
use Rattle.ldif.specs.declared.record.Mod.{Mod}
use Rattle.entries.specs.StoredEntries.{attributes_of, content_of}
use Rattle.reasons.specs.BlockFlaws.{modified}
use Rattle.reasons.specs.Flaws.{NoRdnValue, block_checks, entry_checks}
use Rattle.reasons.specs.inner.Found.{Finds}
use Rattle.reasons.proofs.LinesFound.{kept_at}
use Rattle.reasons.proofs.ModifyFound.{becomes_modified}
use Rattle.reasons.proofs.RecordFound.{ok_map, found_behind, none_so}
use Rattle.reasons.proofs.explainer.Explainer.blocks_and_entry_reason.Goals as goal

pub modified_reason-requires-clause-becomes : goal.modified_reason-requires-clause-becomes
modified_reason-requires-clause-becomes c =
    let conf = c.args.self.now.conf.now in
    let r = c.args.self.now.asked.now in
    let old = content_of c.args.entry.now in
    let after = kept_at (attributes_of c.blocks_reason.new.attrs.items ≡ modified conf.types old.attrs c.args.blocks.now) c.in_ok-found.found (sym c.is_some.ensures ∙ c.if-is_some.false) c.in_ok-found.ensures.after in
    becomes_modified conf c.args.self.now.mode c.args.self.now.tree.now.entries r old (attributes_of c.deref.result.now) c.requires.modifies c.requires.about
    (ap attributes_of c.deref.ensures.value ∙ after ∙ ap (λ (ms : List Mod). modified conf.types old.attrs ms) c.requires.blocks)

pub returns : goal.returns
returns c =
    let conf = c.args.self.now.conf.now in
    let mode = c.args.self.now.mode in
    let d = c.args.self.now.tree.now.entries in
    let r = c.args.self.now.asked.now in
    let blocks = block_checks 0 c.args.blocks.now in
    let rest = NoRdnValue ∷ entry_checks in
    ok_map (Finds conf mode d r rest) (Finds conf mode d r (blocks ++ rest))
    (λ found is. found_behind conf mode d r blocks rest found (none_so conf mode d r blocks c.in_ok-found.found (sym c.is_some.ensures ∙ c.if-is_some.false) c.in_ok-found.ensures.found) is) c.modified_reason.result c.modified_reason.ensures
