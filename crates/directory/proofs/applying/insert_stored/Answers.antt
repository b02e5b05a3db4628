use Rattle.std.proofs.Common.{refl}
use Rattle.index.proofs.Edits.{none_counted}
use Rattle.index_text.specs.SlotKeys.{same_slot_key}
use Rattle.index_text.proofs.SlotKeyOrder.{itself, slot_key_is}
use Rattle.index_text.specs.Indexes.{members}
use Rattle.directory.proofs.KeptIndex.{none_come, none_count}
use Rattle.directory.proofs.applying.insert_stored.Goals as goal

pub returns-in-None-clause-ok : goal.returns-in-None-clause-ok
returns-in-None-clause-ok c = none_come c.args.conf.now c.args.stored c.args.index.now c.args.number c.in-None.is

pub returns-in-None-clause-count : goal.returns-in-None-clause-count
returns-in-None-clause-count c = none_count c.args.conf.now c.args.stored c.in-None.is

pub returns-in-None-clause-counted : goal.returns-in-None-clause-counted
returns-in-None-clause-counted c = none_counted same_slot_key itself slot_key_is (members c.args.index.now) (members c.args.index.now) c.args.index.now.edits c.args.index.now.edits (λ k. refl) refl
