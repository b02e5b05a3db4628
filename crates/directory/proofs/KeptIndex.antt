-- An index after the keys of one entry came and went.
use Rattle.std.proofs.Common.{◌≡◌, ◌≢◌, ℕ, ◌+◌, ◌*◌, ◌<◌, Bool, true, false, not, cond, ◌&&◌, ◌||◌, nat_eq, List, [], ◌∷◌, length, Option, Some, None, refl, sym, ap, subst, ◌∙◌, arith}
use Rattle.std.specs.Prelude.{Result, Ok, Err, OnErr}
use Rattle.std.specs.List.{list_any, AllByRecursion, IsDistinct}
use Rattle.std.specs.FinSet as set
use Rattle.std.specs.Cmp.{nat_cmp_total, unsigned_tied}
use Rattle.std.proofs.lemmas.Bool.{eqb-true, eqb-false, eq-eqb, ne_eqb, both_ways}
use Rattle.std.proofs.lemmas.Cmp.{eq_by_cmp_equiv}
use Rattle.schema.specs.Conf.{Conf}
use Rattle.std.specs.Borrow.{Bor}
use Rattle.entries.specs.Entries.{EntryContent}
use Rattle.entries.specs.StoredEntries.{Entry}
use Rattle.tree.specs.Directories.{Entries}
use Rattle.tree.specs.Changes.{Change, Nothing, Put, Remove, Move, changed}
use Rattle.tree.specs.Trees.{Tree, Numbers, HasEntry}
use Rattle.tree.specs.Plans.{Planned, KeepsEntries, before, after, number_of, numbers_after}
use Rattle.index_text.specs.declared.slot_key.SlotKey.{SlotKey}
use Rattle.index_text.specs.KeySets.{Members}
use Rattle.index_text.specs.SlotKeys.{same_slot_key, is_among, slot_key_cmp}
use Rattle.index_text.specs.Indexes.{Index, members}
use Rattle.index.specs.Indexes.{AllHave, Inserts, Removes, KeepsMembers, Forgets, IsNowhere}
use Rattle.index_keys.specs.EntryKeys.{slot_keys, slot_keys_in, edits}
use Rattle.index.specs.KeyChanges.{AreChanges, content_in}
use Rattle.index.specs.Edits.{differ, has_changed, same_member, CountsEdits, RisesUpTo}
use Rattle.index.proofs.Counted.{those_came, taken_back as counted_back}
use Rattle.index.proofs.Edits.{differ_itself}
use Rattle.index.proofs.OneByOne.{back}
use Rattle.index_text.proofs.SlotKeyOrder.{itself, slot_key_total, slot_key_exact}
use Rattle.directory.specs.Indexes.{IsIndexOf, edits_of}

-- ---- one key

put_has : (s : Members) (n m : ℕ) → set.contains (set.insert s n) m ≡ (nat_eq m n || set.contains s m)
put_has s n m = set.contains-insert nat_cmp_total s n m ∙ ap (λ b. b || set.contains s m) (unsigned_tied m n)

take_has : (s : Members) (n m : ℕ) → set.contains (set.remove s n) m ≡ (not (nat_eq m n) && set.contains s m)
take_has s n m = set.contains-remove nat_cmp_total s n m ∙ ap (λ b. not b && set.contains s m) (unsigned_tied m n)

-- after what came and what went, the number stands there as it should, and each other number as before
settled : (old mid new : Members) (came gone had has : Bool) (n m : ℕ)
    → came ≡ (has && not had) → gone ≡ (had && not has) → set.contains old n ≡ had
    → mid ≡ cond came (set.insert old n) old → new ≡ cond gone (set.remove mid n) mid
    → set.contains new m ≡ cond (nat_eq m n) has (set.contains old m)
settled old mid new came gone had has n m is_came is_gone was is_mid is_new =
    ap (λ (s : Members). set.contains s m) (is_new ∙ ap (λ (s : Members). cond gone (set.remove s n) s) is_mid)
    ∙ ap (λ b. set.contains (cond gone (set.remove (cond b (set.insert old n) old) n) (cond b (set.insert old n) old)) m) is_came
    ∙ ap (λ b. set.contains (cond b (set.remove (cond (has && not had) (set.insert old n) old) n) (cond (has && not had) (set.insert old n) old)) m) is_gone
    ∙ by had has was (nat_eq m n) refl
  where
    here : nat_eq m n ≡ true → set.contains old m ≡ set.contains old n
    here e = ap (set.contains old) (eqb-true m n e)

    by : (had has : Bool) → set.contains old n ≡ had → (b : Bool) → nat_eq m n ≡ b → set.contains (cond (had && not has) (set.remove (cond (has && not had) (set.insert old n) old) n) (cond (has && not had) (set.insert old n) old)) m ≡ cond b has (set.contains old m)
    by true true was true e = here e ∙ was
    by true true was false e = refl
    by true false was true e = take_has old n m ∙ ap (λ b. not b && set.contains old m) e
    by true false was false e = take_has old n m ∙ ap (λ b. not b && set.contains old m) e
    by false true was true e = put_has old n m ∙ ap (λ b. b || set.contains old m) e
    by false true was false e = put_has old n m ∙ ap (λ b. b || set.contains old m) e
    by false false was true e = here e ∙ was
    by false false was false e = refl

-- ---- an index that is as before

pub kept_same : (conf : Conf) (old new : Tree) (x y : Index) → new ≡ old → IsIndexOf conf old.entries old.numbers x → y.conf ≡ x.conf → KeepsMembers x y → IsIndexOf conf new.entries new.numbers y
kept_same conf old new x y is kept same_conf same = subst (λ (t : Tree). IsIndexOf conf t.entries t.numbers y) (sym is) (record {
  same_conf = same_conf ∙ kept.same_conf;
  has = λ n e h k. ap (λ (s : Members). set.contains s n) (same k) ∙ kept.has n e h k;
  none = λ n nobody k. ap (λ (s : Members). set.contains s n) (same k) ∙ kept.none n nobody k;
})

-- ---- an index that is settled: the number stands under the keys that its entry has afterwards, and each other number where it stood

module _ (conf : Conf) (p : Planned) (x z : Index) (n : ℕ) (kept : IsIndexOf conf p.tree.entries p.tree.numbers x) (follows : KeepsEntries p) (number : number_of p ≡ Some n)
    (settles : (k : SlotKey) (m : ℕ) → set.contains (members z k) m ≡ cond (nat_eq m n) (set.contains (slot_keys_in conf (after p)) k) (set.contains (members x k) m)) where
  at_own : (k : SlotKey) (m : ℕ) → m ≡ n → set.contains (members z k) m ≡ set.contains (slot_keys_in conf (after p)) k
  at_own k m is = settles k m ∙ ap (λ b. cond b (set.contains (slot_keys_in conf (after p)) k) (set.contains (members x k) m)) (eq-eqb m n is)

  at_other : (k : SlotKey) (m : ℕ) → m ≢ n → set.contains (members z k) m ≡ set.contains (members x k) m
  at_other k m apart = settles k m ∙ ap (λ b. cond b (set.contains (slot_keys_in conf (after p)) k) (set.contains (members x k) m)) (ne_eqb m n apart)

  other_number : (m : ℕ) → m ≢ n → number_of p ≢ Some m
  other_number m apart is = apart (let same : Some m ≡ Some n = sym is ∙ number in cc)

  abbrev Now : ℕ → EntryContent → Type 0
  Now m e = HasEntry (changed p.tree.entries p.change) (numbers_after p.tree p.change) m e

  has_new : (m : ℕ) (e : EntryContent) → Now m e → (k : SlotKey) → set.contains (members z k) m ≡ set.contains (slot_keys conf e.attrs) k
  has_new m e h k = by (nat_eq m n) refl
    where
      by : (b : Bool) → nat_eq m n ≡ b → set.contains (members z k) m ≡ set.contains (slot_keys conf e.attrs) k
      by true is =
          let same = eqb-true m n is in
          at_own k m same ∙ ap (λ (o : Option EntryContent). set.contains (slot_keys_in conf o) k) ((follows.has n e number).0 (subst (λ (i : ℕ). Now i e) same h))
      by false is =
          let apart = eqb-false m n is in
          at_other k m apart ∙ kept.has m e ((follows.others m e (other_number m apart)).1 h) k

  none_new : (m : ℕ) → ((e : EntryContent) → Now m e → ⊥) → (k : SlotKey) → set.contains (members z k) m ≡ false
  none_new m nobody k = by (nat_eq m n) refl
    where
      nothing : (o : Option EntryContent) → after p ≡ o → m ≡ n → set.contains (slot_keys_in conf o) k ≡ false
      nothing None is same = set.contains-empty slot_key_cmp k
      nothing (Some e) is same = absurd (nobody e (subst (λ (i : ℕ). Now i e) (sym same) ((follows.has n e number).1 is)))

      by : (b : Bool) → nat_eq m n ≡ b → set.contains (members z k) m ≡ false
      by true is = let same = eqb-true m n is in at_own k m same ∙ nothing (after p) refl same
      by false is =
          let apart = eqb-false m n is in
          at_other k m apart ∙ kept.none m (λ e h. nobody e ((follows.others m e (other_number m apart)).0 h)) k

  index_after : z.conf ≡ x.conf → IsIndexOf conf (changed p.tree.entries p.change) (numbers_after p.tree p.change) z
  index_after same_conf = record { same_conf = same_conf ∙ kept.same_conf; has = has_new; none = none_new }

  pub settled_index : (old new : Tree) → p.tree ≡ old → z.conf ≡ x.conf → new.entries ≡ changed old.entries p.change → new.numbers ≡ numbers_after old p.change → IsIndexOf conf new.entries new.numbers z
  settled_index old new of same_conf entries numbers =
      subst (λ (d : Entries). IsIndexOf conf d new.numbers z) (sym (entries ∙ ap (λ (t : Tree). changed t.entries p.change) (sym of)))
      (subst (λ (m : Numbers). IsIndexOf conf (changed p.tree.entries p.change) m z) (sym (numbers ∙ ap (λ (t : Tree). numbers_after t p.change) (sym of))) (index_after same_conf))

-- ---- a change that is ready to be carried out

pub record IsReady (conf : Conf) (p : Planned) (x : Index) (n : ℕ) (came gone : List SlotKey) : Type 0 where
  pub kept : IsIndexOf conf p.tree.entries p.tree.numbers x
  pub follows : KeepsEntries p
  pub number : number_of p ≡ Some n
  pub changes : AreChanges conf (before p) (after p) came gone

pub ready : (conf : Conf) (d : Tree) (p : Planned) (x : Index) (n : ℕ) (came gone : List SlotKey) (b a : Option EntryContent)
    → p.tree ≡ d → IsIndexOf conf d.entries d.numbers x → KeepsEntries p → Some n ≡ number_of p → b ≡ before p → a ≡ after p → AreChanges conf b a came gone
    → IsReady conf p x n came gone
ready conf d p x n came gone b a of kept follows number is_b is_a changes = record {
  kept = subst (λ (t : Tree). IsIndexOf conf t.entries t.numbers x) (sym of) kept;
  follows = follows;
  number = sym number;
  changes = subst (λ (o : Option EntryContent). AreChanges conf o (after p) came gone) is_b
      (subst (λ (o : Option EntryContent). AreChanges conf b o came gone) is_a changes);
}

all_of : (P : SlotKey → Type 0) (ks : List SlotKey) → ((k : SlotKey) → is_among k ks ≡ true → P k) → AllByRecursion P ks
all_of P [] h = tt
all_of P (x ∷ xs) h = (h x (ap (λ b. b || is_among x xs) (itself x)), all_of P xs (λ k e. h k (ap (λ b. same_slot_key x k || b) e ∙ or_true (same_slot_key x k))))
  where
    or_true : (b : Bool) → (b || true) ≡ true
    or_true true = refl
    or_true false = refl

second : (a b : Bool) → (a && not b) ≡ true → b ≡ false
second true true h = cc
second true false h = refl
second false b h = cc

first : (a b : Bool) → (a && not b) ≡ true → a ≡ true
first true b h = refl
first false b h = cc

module _ (conf : Conf) (p : Planned) (x : Index) (n : ℕ) (came gone : List SlotKey) (r : IsReady conf p x n came gone) where
  had_is : (k : SlotKey) → set.contains (members x k) n ≡ set.contains (slot_keys_in conf (before p)) k
  had_is k = by (before p) refl
    where
      by : (o : Option EntryContent) → before p ≡ o → set.contains (members x k) n ≡ set.contains (slot_keys_in conf o) k
      by None is = r.kept.none n (λ e h. let bad : None ≡ Some e = sym is ∙ (r.follows.had n e r.number).0 h in absurd cc) k ∙ sym (set.contains-empty slot_key_cmp k)
      by (Some e) is = r.kept.has n e ((r.follows.had n e r.number).1 is) k

  slots_are : length conf.slots ≡ length x.conf.slots
  slots_are = ap (λ (c : Conf). length c.slots) (sym r.kept.same_conf)

  known : (y : Index) (ks ls : List SlotKey) → y.conf ≡ x.conf → ls ≡ ks → AllByRecursion (λ k. k.slot.0 < length conf.slots) ks → AllByRecursion (λ k. k.slot.0 < length y.conf.slots) ls
  known y ks ls same is all = subst (λ zs. AllByRecursion (λ k. k.slot.0 < length y.conf.slots) zs) (sym is)
      (subst (λ c. AllByRecursion (λ k. k.slot.0 < c) ks) (slots_are ∙ ap (λ (c : Conf). length c.slots) (sym same)) all)

  pub come_known : (y : Index) (ls : List SlotKey) → y.conf ≡ x.conf → ls ≡ came → AllByRecursion (λ k. k.slot.0 < length y.conf.slots) ls
  come_known y ls same is = known y came ls same is r.changes.come.within

  pub go_known : (y : Index) (ls : List SlotKey) → y.conf ≡ x.conf → ls ≡ gone → AllByRecursion (λ k. k.slot.0 < length y.conf.slots) ls
  go_known y ls same is = known y gone ls same is r.changes.go.within

  pub lacking : (ls : List SlotKey) → ls ≡ came → AllByRecursion (λ k. set.contains (members x k) n ≡ false) ls
  lacking ls is = subst (AllByRecursion (λ k. set.contains (members x k) n ≡ false)) (sym is) (all_of _ came (λ k h. had_is k ∙ second _ _ (sym (r.changes.come.exact k) ∙ h)))

  pub apart_came : (ls : List SlotKey) → ls ≡ came → IsDistinct same_slot_key ls
  apart_came ls is = subst (IsDistinct same_slot_key) (sym is) r.changes.come.apart

  pub apart_gone : (ls : List SlotKey) → ls ≡ gone → IsDistinct same_slot_key ls
  apart_gone ls is = subst (IsDistinct same_slot_key) (sym is) r.changes.go.apart

  -- the number stands under all that came
  pub came_there : (y : Index) (ls ms : List SlotKey) → ls ≡ came → ms ≡ came → Inserts (λ k. is_among k ls) n x y → AllHave n y ms
  came_there y ls ms is_ls is_ms puts = subst (AllHave n y) (sym is_ms) (all_of (λ k. set.contains (members y k) n ≡ true) came (λ k h.
      ap (λ (s : Members). set.contains s n) (puts k ∙ ap (λ (qs : List SlotKey). cond (is_among k qs) (set.insert (members x k) n) (members x k)) is_ls ∙ ap (λ b. cond b (set.insert (members x k) n) (members x k)) h)
      ∙ put_has (members x k) n n
      ∙ ap (λ b. b || set.contains (members x k) n) (eq-eqb n n refl)))

  -- some of what came was counted, and taken back, an edit each again
  pub came_few : (ls : List SlotKey) (d : Entries) (z : Index) → ls ≡ came → p.tree.entries ≡ d → RisesUpTo (2 * length ls) x z → RisesUpTo (2 * edits_of conf d p.change) x z
  came_few ls d z is_ls is_d h =
      let all : length came + length gone ≡ edits_of conf d p.change = r.changes.count ∙ ap (λ (e : Entries). edits_of conf e p.change) is_d in
      let same = ap length is_ls in
      let few = h.few in
      record { rises = h.rises; few = omega (arith, all, same, few) }

  -- what was put in is taken out again
  pub taken_back : (y z : Index) (ls ms : List SlotKey) → ls ≡ came → ms ≡ came → Inserts (λ k. is_among k ls) n x y → Removes (λ k. is_among k ms) n y z → KeepsMembers x z
  taken_back y z ls ms is_ls is_ms puts takes k =
      takes k ∙ ap (λ (qs : List SlotKey). cond (is_among k qs) (set.remove (members y k) n) (members y k)) is_ms
      ∙ ap (λ (s : Members). cond (is_among k came) (set.remove s n) s) (puts k ∙ ap (λ (qs : List SlotKey). cond (is_among k qs) (set.insert (members x k) n) (members x k)) is_ls)
      ∙ by (is_among k came) (r.changes.come.exact k) (had_is k)
    where
      by : (b : Bool) → b ≡ (set.contains (slot_keys_in conf (after p)) k && not (set.contains (slot_keys_in conf (before p)) k)) → set.contains (members x k) n ≡ set.contains (slot_keys_in conf (before p)) k
          → cond b (set.remove (cond b (set.insert (members x k) n) (members x k)) n) (cond b (set.insert (members x k) n) (members x k)) ≡ members x k
      by true is was = back (members x k) n (was ∙ second _ _ (sym is))
      by false is was = refl

  -- ---- what came and what went

  module _ (y z : Index) (ls ms : List SlotKey) (is_ls : ls ≡ came) (is_ms : ms ≡ gone) (puts : Inserts (λ k. is_among k ls) n x y) (takes : Removes (λ k. is_among k ms) n y z) where
    mid_is : (k : SlotKey) → members y k ≡ cond (is_among k came) (set.insert (members x k) n) (members x k)
    mid_is k = puts k ∙ ap (λ (qs : List SlotKey). cond (is_among k qs) (set.insert (members x k) n) (members x k)) is_ls

    new_is : (k : SlotKey) → members z k ≡ cond (is_among k gone) (set.remove (members y k) n) (members y k)
    new_is k = takes k ∙ ap (λ (qs : List SlotKey). cond (is_among k qs) (set.remove (members y k) n) (members y k)) is_ms

    settles : (k : SlotKey) (m : ℕ) → set.contains (members z k) m ≡ cond (nat_eq m n) (set.contains (slot_keys_in conf (after p)) k) (set.contains (members x k) m)
    settles k m = settled (members x k) (members y k) (members z k) (is_among k came) (is_among k gone) _ _ n m (r.changes.come.exact k) (r.changes.go.exact k) (had_is k) (mid_is k) (new_is k)

    pub done : (old new : Tree) → p.tree ≡ old → z.conf ≡ x.conf → new.entries ≡ changed old.entries p.change → new.numbers ≡ numbers_after old p.change → IsIndexOf conf new.entries new.numbers z
    done = settled_index conf p x z n r.kept r.follows r.number settles

  -- those that go have the number until then
  pub there : (y : Index) (ls ms : List SlotKey) → ls ≡ came → ms ≡ gone → Inserts (λ k. is_among k ls) n x y → AllByRecursion (λ k. set.contains (members y k) n ≡ true) ms
  there y ls ms is_ls is_ms puts = subst (AllByRecursion (λ k. set.contains (members y k) n ≡ true)) (sym is_ms) (all_of _ gone (λ k h.
      ap (λ (s : Members). set.contains s n) (puts k) ∙ by k (is_among k ls) (had_is k ∙ first _ _ (sym (r.changes.go.exact k) ∙ h))))
    where
      by : (k : SlotKey) (b : Bool) → set.contains (members x k) n ≡ true → set.contains (cond b (set.insert (members x k) n) (members x k)) n ≡ true
      by k true was = set.contains-insert nat_cmp_total (members x k) n n ∙ ap (λ b. b || set.contains (members x k) n) ((eq_by_cmp_equiv nat_cmp_total).refl n)
      by k false was = was

  pub count_is : (d : Entries) → p.tree.entries ≡ d → length came + length gone ≡ edits_of conf d p.change
  count_is d is = r.changes.count ∙ ap (λ (e : Entries). edits_of conf e p.change) is

-- ---- an entry that is new

taken : (s : Members) (n : ℕ) → set.contains s n ≡ false → set.remove s n ≡ s
taken s n lacks = set.same_set nat_cmp_total set.nat_cmp-IsAntisymmetric _ _ (λ q. take_has s n q ∙ by q (nat_eq q n) refl)
  where
    by : (q : ℕ) (b : Bool) → nat_eq q n ≡ b → (not b && set.contains s q) ≡ set.contains s q
    by q true is = sym lacks ∙ ap (set.contains s) (sym (eqb-true q n is))
    by q false is = refl

-- no key has the number that it gets
pub nowhere_yet : (conf : Conf) (d : Tree) (p : Planned) (x : Index) (n : ℕ) → p.tree ≡ d → IsIndexOf conf d.entries d.numbers x → KeepsEntries p → number_of p ≡ Some n → before p ≡ None → IsNowhere n x
nowhere_yet conf d p x n of kept follows number new =
    (subst (λ (t : Tree). IsIndexOf conf t.entries t.numbers x) (sym of) kept).none n (λ e h. absurd (let bad : None ≡ Some e = sym new ∙ (follows.had n e number).0 h in cc))

pub never_came : (n : ℕ) (x z : Index) → IsNowhere n x → Forgets n x z → KeepsMembers x z
never_came n x z nowhere gone k = gone k ∙ taken (members x k) n (nowhere k)

module _ (n : ℕ) (has : SlotKey → Bool) (x y : Index) (nowhere : IsNowhere n x) (puts : Inserts has n x y) where
  pub came_and_went : (z : Index) → Forgets n y z → KeepsMembers x z
  came_and_went z gone k = gone k ∙ ap (λ (s : Members). set.remove s n) (puts k) ∙ by (has k)
    where
      by : (b : Bool) → set.remove (cond b (set.insert (members x k) n) (members x k)) n ≡ members x k
      by true = back (members x k) n (nowhere k)
      by false = taken (members x k) n (nowhere k)

  came : (k : SlotKey) (m : ℕ) → set.contains (members y k) m ≡ cond (nat_eq m n) (has k) (set.contains (members x k) m)
  came k m = settled (members x k) (members y k) (members y k) (has k) false false (has k) n m (sym (and_true (has k))) refl (nowhere k) (puts k) refl
    where
      and_true : (b : Bool) → (b && true) ≡ b
      and_true true = refl
      and_true false = refl

pub added : (conf : Conf) (old new : Tree) (p : Planned) (x y : Index) (n : ℕ) (stored : Option EntryContent) → p.tree ≡ old → IsIndexOf conf old.entries old.numbers x → KeepsEntries p → number_of p ≡ Some n → before p ≡ None
    → stored ≡ after p → Inserts (set.contains (slot_keys_in conf stored)) n x y → y.conf ≡ x.conf → new.entries ≡ changed old.entries p.change → new.numbers ≡ numbers_after old p.change → IsIndexOf conf new.entries new.numbers y
added conf old new p x y n stored of kept follows number is_new is_after puts same_conf entries numbers =
    settled_index conf p x y n (subst (λ (t : Tree). IsIndexOf conf t.entries t.numbers x) (sym of) kept) follows number
    (came n (set.contains (slot_keys_in conf (after p))) x y (nowhere_yet conf old p x n of kept follows number is_new) (subst (λ (o : Option EntryContent). Inserts (set.contains (slot_keys_in conf o)) n x y) is_after puts))
    old new of same_conf entries numbers

no_edits : (conf : Conf) → edits conf None None ≡ 0
no_edits conf = ap (λ s. set.len s + set.len s) same ∙ ap (λ k. k + k) (set.len-empty slot_key_cmp)
  where
    same : set.difference (set.empty {R = slot_key_cmp}) set.empty ≡ set.empty
    same = set.same_set slot_key_total slot_key_exact _ _ (λ k.
        set.contains-difference slot_key_total set.empty set.empty k ∙ ap (λ b. b && not (set.contains (set.empty {R = slot_key_cmp}) k)) (set.contains-empty slot_key_cmp k) ∙ sym (set.contains-empty slot_key_cmp k))

pub nothing_edits : (conf : Conf) (p : Planned) (d : Entries) → None ≡ number_of p → 0 ≡ edits_of conf d p.change
nothing_edits conf p d is = by p.change is
  where
    by : (c : Change) → None ≡ number_of (record { tree = p.tree; change = c }) → 0 ≡ edits_of conf d c
    by Nothing is = sym (no_edits conf)
    by (Put path e) is = cc
    by (Remove path) is = cc
    by (Move from to e) is = cc

-- where no entry is stored, no key comes
pub none_come : (conf : Conf) (stored : Option (Bor Entry)) (x : Index) (n : ℕ) → stored ≡ None → Inserts (set.contains (slot_keys_in conf (content_in stored))) n x x
none_come conf stored x n is k =
    sym (ap (λ (o : Option (Bor Entry)). cond (set.contains (slot_keys_in conf (content_in o)) k) (set.insert (members x k) n) (members x k)) is ∙ ap (λ b. cond b (set.insert (members x k) n) (members x k)) (set.contains-empty slot_key_cmp k))

pub none_count : (conf : Conf) (stored : Option (Bor Entry)) → stored ≡ None → 0 ≡ edits conf None (content_in stored)
none_count conf stored is = sym (ap (λ (o : Option (Bor Entry)). edits conf None (content_in o)) is ∙ no_edits conf)

-- ---- edits that were taken back

-- where no member came or went, there was none
nothing_more : (old new : Index) → KeepsMembers old new → CountsEdits old new → new.edits ≡ old.edits
nothing_more old new same counts = by counts.changed refl
  where
    unchanged : (a : SlotKey × ℕ) → has_changed (members old) (members new) a ≡ false
    unchanged a = ap (λ (s : Members). differ (set.contains (members old a.0) a.1) (set.contains s a.1)) (same a.0) ∙ differ_itself (set.contains (members old a.0) a.1)

    by : (changed : List (SlotKey × ℕ)) → counts.changed ≡ changed → new.edits ≡ old.edits
    by [] is =
        let rise = counts.rise in
        let none = ap (λ (xs : List (SlotKey × ℕ)). length xs) is in
        omega (arith, rise, none)
    by (x ∷ xs) is =
        let among : list_any (λ y. same_member same_slot_key y x) (x ∷ xs) ≡ true = ap (λ b. b || list_any (λ y. same_member same_slot_key y x) xs) (λ i. itself x.0 i && eq-eqb x.1 x.1 refl i) in
        absurd (both_ways (has_changed (members old) (members new) x) (unchanged x) (sym (counts.exact x) ∙ ap (list_any (λ y. same_member same_slot_key y x)) is ∙ among))

-- those of an entry that is new, where one is there
pub all_taken_back : (conf : Conf) (stored : Option EntryContent) (n : ℕ) (old mid new : Index) → IsNowhere n old → Inserts (set.contains (slot_keys_in conf stored)) n old mid → CountsEdits old mid → Forgets n mid new → CountsEdits mid new
    → RisesUpTo (2 * edits conf None stored) old new
all_taken_back conf None n old mid new nowhere puts first went next =
    let came : KeepsMembers old mid = λ k. puts k ∙ ap (λ b. cond b (set.insert (members old k) n) (members old k)) (set.contains-empty slot_key_cmp k) in
    let gone : KeepsMembers old new = came_and_went n (set.contains (slot_keys_in conf None)) old mid nowhere puts new went in
    let one = nothing_more old mid came first in
    let two = nothing_more mid new (λ k. gone k ∙ sym (came k)) next in
    record { rises = omega (arith, one, two); few = omega (arith, one, two) }
all_taken_back conf (Some e) n old mid new nowhere puts first went next =
    counted_back conf e n old mid new nowhere (those_came (set.contains (slot_keys conf e.attrs)) (set.contains (slot_keys conf e.attrs)) n old mid (λ p h. h) puts) first went next

-- how many keys an entry has that is new
pub new_edits : (conf conf' : Conf) (d : Tree) (p : Planned) (stored : Option EntryContent) → conf' ≡ conf → p.tree ≡ d → before p ≡ None → stored ≡ after p → edits conf' None stored ≡ edits_of conf d.entries p.change
new_edits conf conf' d p stored same of new is_after =
    ap (λ (k : Conf). edits k None stored) same ∙ ap (edits conf None) is_after ∙ ap (λ (o : Option EntryContent). edits conf o (after p)) (sym new) ∙ ap (λ (t : Tree). edits_of conf t.entries p.change) of

-- whatever the answer is
pub on_err : {A E : Type 0} {P : Type 0} (answer : Result A E) → P → OnErr answer P
on_err (Ok a) so = tt
on_err (Err e) so = so
