use Rattle.std.proofs.Common.{◌≡◌, nat_lt, refl, sym, ap, ◌∙◌}
use Rattle.std.specs.FinSet as set
use Rattle.std.specs.Map.{keys_of}
use Rattle.dense_sets.specs.declared.key_set.KeySet.{KeySet}
use Rattle.index.proofs.Keyed.{retained, in_order}
use Rattle.index.proofs.keyed_sets.forget_in.Goals as goal

pub returns-clause-full : goal.returns-clause-full
returns-clause-full g c = λ q. (retained g.K.StoredKey.bytes _ (λ f. f.0 ≡ c.args.number) c.args.number (λ f k v b w f' of e. let m = e.called.met in (ap (λ (s : KeySet). s.members) (sym e.leaves) ∙ m.1.0 ∙ (λ i. set.remove ((e.shows.1 i).members) (of i)), (m.1.1 ∙ ap (λ (s : KeySet). nat_lt 0 (set.len s.members)) e.leaves, m.0 ∙ of))) q c.args.sets.now.entries c.retain.new.self.entries _ refl c.retain.ensures.filtered (in_order g.K.StoredKey.bytes g.K.Ord.cmp g.met.K.StoredKey.by_bytes (keys_of c.args.sets.now.entries) c.retain.ensures.was_ordered)).1

pub returns-clause-members : goal.returns-clause-members
returns-clause-members g c = λ q. (retained g.K.StoredKey.bytes _ (λ f. f.0 ≡ c.args.number) c.args.number (λ f k v b w f' of e. let m = e.called.met in (ap (λ (s : KeySet). s.members) (sym e.leaves) ∙ m.1.0 ∙ (λ i. set.remove ((e.shows.1 i).members) (of i)), (m.1.1 ∙ ap (λ (s : KeySet). nat_lt 0 (set.len s.members)) e.leaves, m.0 ∙ of))) q c.args.sets.now.entries c.retain.new.self.entries _ refl c.retain.ensures.filtered (in_order g.K.StoredKey.bytes g.K.Ord.cmp g.met.K.StoredKey.by_bytes (keys_of c.args.sets.now.entries) c.retain.ensures.was_ordered)).0
