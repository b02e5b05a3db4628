use Rattle.std.proofs.Common.{ap, ◌∙◌}
use Rattle.index_keys.specs.EntryKeys.{keys_by}
use Rattle.index_keys.proofs.StoredNorms.{norms_are}
use Rattle.index.proofs.entry_keys.EntryKeys.of.Goals as goal

pub returns : goal.returns
returns c = c.by.ensures ∙ ap (keys_by c.args.slot.now.kind) (c.of.ensures ∙ norms_are c.args.conf.now.types c.args.entry.now.attrs c.requires.each c.args.slot.now.type_id)
