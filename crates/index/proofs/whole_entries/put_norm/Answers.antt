use Rattle.std.proofs.Common.{◌∙◌, ◌&&◌, ◌||◌, [], ◌∷◌, nat_eq, ap, sym}
use Rattle.std.specs.FinSet as set
use Rattle.schema.specs.declared.slots.IndexKind.{IndexKind}
use Rattle.index_keys.specs.EntryKeys.{gives_key}
use Rattle.index_text.specs.KeySets.{members_in}
use Rattle.index.proofs.WholeEntries.{put_one, ok_put}
use Rattle.index.proofs.whole_entries.put_norm.Goals as goal

pub returns-in-Equality-clause-put : goal.returns-in-Equality-clause-put
returns-in-Equality-clause-put c =
    ok_put c.put_key.result c.put_key.ensures.came (λ came q n.
    put_one c.args.sets.now c.put_key.new.sets c.args.numbered.now.number c.args.numbered.now.norm.now came q n
    ∙ ap (λ (kind : IndexKind). set.contains (members_in c.args.sets.now q) n || (nat_eq n c.args.numbered.now.number && gives_key kind (c.args.numbered.now.norm.now ∷ []) q)) (sym c.in-Equality.is))

pub returns-in-Presence-clause-put : goal.returns-in-Presence-clause-put
returns-in-Presence-clause-put c =
    ok_put c.put_key-in-Presence.result c.put_key-in-Presence.ensures.came (λ came q n.
    put_one c.args.sets.now c.put_key-in-Presence.new.sets c.args.numbered.now.number [] came q n
    ∙ ap (λ (kind : IndexKind). set.contains (members_in c.args.sets.now q) n || (nat_eq n c.args.numbered.now.number && gives_key kind (c.args.numbered.now.norm.now ∷ []) q)) (sym c.in-Presence.is))
