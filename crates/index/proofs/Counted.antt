-- How many keys have a number, while it comes under one after the other.
use Rattle.std.proofs.Common.{◌≡◌, ℕ, ◌+◌, Bool, true, false, cond, not, ◌&&◌, ◌||◌, List, ◌∷◌, ◌*◌, ◌⊎◌, inl, inr, nat_eq, Some, None, refl, sym, ap, ◌∙◌, arith}
use Rattle.std.specs.List.{list_any}
use Rattle.std.specs.Str.{bytes_eq}
use Rattle.std.specs.FinSet as set
use Rattle.std.specs.Ordering.{nat_cmp, eq_by_cmp}
use Rattle.std.specs.Cmp.{nat_cmp_total, eq_by_cmp_equiv}
use Rattle.schema.specs.Conf.{Conf}
use Rattle.entries.specs.Entries.{EntryContent}
use Rattle.index_text.specs.declared.slot_key.SlotKey.{SlotKey}
use Rattle.index_text.specs.KeySets.{Members}
use Rattle.index_text.specs.SlotKeys.{SlotKeys, slot_key, same_slot_key, slot_key_cmp}
use Rattle.index_text.specs.Indexes.{Index, members}
use Rattle.index.specs.Indexes.{Inserts, KeepsMembers, Forgets, IsNowhere}
use Rattle.index_keys.specs.EntryKeys.{slot_keys, edits}
use Rattle.index.specs.Edits.{differ, has_changed, CountsEdits, RisesUpTo}
use Rattle.index.specs.inner.Counts.{HaveNumber, InsertsSome}
use Rattle.std.proofs.lemmas.Bool.{eqb-true, or_left, or_right, and_parts, both_ways}
use Rattle.index.proofs.Edits.{Grows, grows_by, came_counted, inserted, differ_itself, put_has, left_has, few_counted}
use Rattle.index.proofs.OneByOne.{put_again}
use Rattle.index_text.proofs.SlotKeyOrder.{slot_key_total, slot_key_exact, slot_key_is, itself, tied_is, turned}

has_own : (s : Members) (n : ℕ) → set.contains (set.insert s n) n ≡ true
has_own s n = set.contains-insert nat_cmp_total s n n ∙ ap (λ b. b || set.contains s n) ((eq_by_cmp_equiv nat_cmp_total).refl n)

-- the number comes under one key
pub one_more_has : (old new : Index) (key : SlotKey) (n count after : ℕ) (is_new : Bool) → Inserts (same_slot_key key) n old new → is_new ≡ not (set.contains (members old key) n) → after ≡ count + cond is_new 1 0
    → HaveNumber old n count → HaveNumber new n after
one_more_has old new key n count after is_new puts told more had = record {
  keys = set.insert had.keys key;
  are = λ p.
      set.contains-insert slot_key_total had.keys key p
      ∙ (λ i. (tied_is p key ∙ turned p key) i || had.are p i)
      ∙ by p (same_slot_key key p)
      ∙ ap (λ (s : Members). set.contains s n) (sym (puts p));
  many =
      set.len-insert slot_key_total had.keys key
      ∙ (λ i. cond (had.are key i) (had.many i) (had.many i + 1))
      ∙ counts (set.contains (members old key) n)
      ∙ ap (λ b. count + cond b 1 0) (sym told)
      ∙ sym more;
}
  where
    by : (p : SlotKey) (b : Bool) → (b || set.contains (members old p) n) ≡ set.contains (cond b (set.insert (members old p) n) (members old p)) n
    by p true = sym (has_own (members old p) n)
    by p false = refl

    counts : (b : Bool) → cond b count (count + 1) ≡ count + cond (not b) 1 0
    counts true = omega arith
    counts false = refl

-- before it came under any key
pub none_has_number : (x : Index) (n : ℕ) → IsNowhere n x → HaveNumber x n 0
none_has_number x n nowhere = record { keys = set.empty; are = λ p. set.contains-empty slot_key_cmp p ∙ sym (nowhere p); many = set.len-empty slot_key_cmp }

less_none : (ks : SlotKeys) → set.difference ks set.empty ≡ ks
less_none ks = set.same_set slot_key_total slot_key_exact _ _ (λ p. set.contains-difference slot_key_total ks set.empty p ∙ ap (λ b. set.contains ks p && not b) (set.contains-empty slot_key_cmp p) ∙ and_true (set.contains ks p))
  where
    and_true : (b : Bool) → (b && true) ≡ b
    and_true true = refl
    and_true false = refl

none_less : (ks : SlotKeys) → set.difference set.empty ks ≡ set.empty
none_less ks = set.same_set slot_key_total slot_key_exact _ _ (λ p. set.contains-difference slot_key_total set.empty ks p ∙ ap (λ b. b && not (set.contains ks p)) (set.contains-empty slot_key_cmp p) ∙ sym (set.contains-empty slot_key_cmp p))

-- when it came under all keys of an entry that is new
pub all_counted : (conf : Conf) (e : EntryContent) (old new : Index) (n count : ℕ) → Inserts (set.contains (slot_keys conf e.attrs)) n old new → IsNowhere n old → HaveNumber new n count → count ≡ edits conf None (Some e)
all_counted conf e old new n count puts nowhere have =
    sym have.many
    ∙ ap set.len same
    ∙ ap set.len (sym (less_none (slot_keys conf e.attrs)))
    ∙ (let none = set.len-empty slot_key_cmp in let gone = ap set.len (none_less (slot_keys conf e.attrs)) in omega (arith, none, gone))
  where
    has : (p : SlotKey) (b : Bool) → set.contains (cond b (set.insert (members old p) n) (members old p)) n ≡ b
    has p true = has_own (members old p) n
    has p false = nowhere p

    same : have.keys ≡ slot_keys conf e.attrs
    same = set.same_set slot_key_total slot_key_exact have.keys (slot_keys conf e.attrs) (λ p. have.are p ∙ ap (λ (s : Members). set.contains s n) (puts p) ∙ has p (set.contains (slot_keys conf e.attrs) p))

-- ---- the other members of each key

left_same : (s : Members) (n : ℕ) → set.remove (set.insert s n) n ≡ set.remove s n
left_same s n = set.same_set nat_cmp_total set.nat_cmp-IsAntisymmetric _ _ (λ q.
    set.contains-remove nat_cmp_total (set.insert s n) n q
    ∙ ap (λ b. not (eq_by_cmp nat_cmp q n) && b) (set.contains-insert nat_cmp_total s n q)
    ∙ by (eq_by_cmp nat_cmp q n) (set.contains s q)
    ∙ sym (set.contains-remove nat_cmp_total s n q))
  where
    by : (a b : Bool) → (not a && (a || b)) ≡ (not a && b)
    by true b = refl
    by false b = refl

left_if : (b : Bool) (s : Members) (n : ℕ) → set.remove (cond b (set.insert s n) s) n ≡ set.remove s n
left_if true s n = left_same s n
left_if false s n = refl

-- ---- which keys got the number

-- none did
pub none_came : (test : SlotKey → Bool) (n : ℕ) (old new : Index) → KeepsMembers old new → InsertsSome test n old new
none_came test n old new same p = inl (same p)

-- all that pass a narrower test did
pub those_came : (test here : SlotKey → Bool) (n : ℕ) (old new : Index) → ((p : SlotKey) → here p ≡ true → test p ≡ true) → Inserts here n old new → InsertsSome test n old new
those_came test here n old new within puts p = by (here p) refl (puts p)
  where
    by : (b : Bool) → here p ≡ b → members new p ≡ cond b (set.insert (members old p) n) (members old p) → (members new p ≡ members old p) ⊎ ((test p ≡ true) × (members new p ≡ set.insert (members old p) n))
    by true is put = inr (within p is, put)
    by false is put = inl put

-- one after the other
pub then_some : (test here : SlotKey → Bool) (n : ℕ) (old mid new : Index) → ((p : SlotKey) → here p ≡ true → test p ≡ true) → InsertsSome test n old mid → InsertsSome here n mid new → InsertsSome test n old new
then_some test here n old mid new within first second p =
    elim (second p) [
      | inl same ↦ elim (first p) [ inl was ↦ inl (same ∙ was) | inr came ↦ inr (came.0, same ∙ came.1) ]
      | inr put ↦ elim (first p) [
        | inl was ↦ inr (within p put.0, put.1 ∙ ap (λ (s : Members). set.insert s n) was)
        | inr came ↦ inr (came.0, put.1 ∙ ap (λ (s : Members). set.insert s n) came.1 ∙ put_again (members old p) n)
      ]
    ]

pub some_grow : (test : SlotKey → Bool) (n : ℕ) (old new : Index) → InsertsSome test n old new → Grows (members old) (members new)
some_grow test n old new some p m h =
    elim (some p) [
      | inl same ↦ ap (λ (s : Members). set.contains s m) same ∙ h
      | inr came ↦ ap (λ (s : Members). set.contains s m) came.1 ∙ set.contains-insert nat_cmp_total (members old p) n m ∙ or_right (eq_by_cmp nat_cmp m n) (set.contains (members old p) m) h
    ]

-- each key has the other members that it had
pub others_left : (test : SlotKey → Bool) (n : ℕ) (old new : Index) → InsertsSome test n old new → (p : SlotKey) → set.remove (members new p) n ≡ set.remove (members old p) n
others_left test n old new some p =
    elim (some p) [
      | inl same ↦ ap (λ (s : Members). set.remove s n) same
      | inr came ↦ ap (λ (s : Members). set.remove s n) came.1 ∙ left_same (members old p) n
    ]

-- ---- how many edits these are at most, where no key had the number

-- what is new is of one of these keys
came_of : (test : SlotKey → Bool) (n : ℕ) (old new : Index) → InsertsSome test n old new → (a : SlotKey × ℕ) → has_changed (members old) (members new) a ≡ true → (test a.0 ≡ true) × (a.1 ≡ n)
came_of test n old new some a h =
    elim (some a.0) [
      | inl same ↦ absurd (both_ways (differ was (set.contains (members new a.0) a.1)) (ap (λ (s : Members). differ was (set.contains s a.1)) same ∙ differ_itself was) h)
      | inr came ↦ (came.0, of_number (nat_eq a.1 n) refl (sym (ap (λ (s : Members). differ was (set.contains s a.1)) came.1 ∙ ap (differ was) (put_has (members old a.0) n a.1)) ∙ h))
    ]
  where
    was : Bool
    was = set.contains (members old a.0) a.1

    of_number : (b : Bool) → nat_eq a.1 n ≡ b → differ was (b || was) ≡ true → a.1 ≡ n
    of_number true is e = eqb-true a.1 n is
    of_number false is e = absurd (both_ways (differ was was) (differ_itself was) e)

-- and so is what goes again
went_of : (test : SlotKey → Bool) (n : ℕ) (old mid new : Index) → IsNowhere n old → InsertsSome test n old mid → Forgets n mid new → (a : SlotKey × ℕ) → has_changed (members mid) (members new) a ≡ true → (test a.0 ≡ true) × (a.1 ≡ n)
went_of test n old mid new nowhere some went a h = by (nat_eq a.1 n) refl (sym (ap (λ (s : Members). differ was (set.contains s a.1)) (went a.0) ∙ ap (differ was) (left_has (members mid a.0) n a.1)) ∙ h)
  where
    was : Bool
    was = set.contains (members mid a.0) a.1

    there : (b : Bool) → differ b false ≡ true → b ≡ true
    there true e = refl
    there false e = e

    by : (b : Bool) → nat_eq a.1 n ≡ b → differ was (not b && was) ≡ true → (test a.0 ≡ true) × (a.1 ≡ n)
    by true is e =
        let here : set.contains (members mid a.0) n ≡ true = ap (set.contains (members mid a.0)) (sym (eqb-true a.1 n is)) ∙ there was e in (
          elim (some a.0) [
            | inl same ↦ absurd (both_ways (set.contains (members mid a.0) n) (ap (λ (s : Members). set.contains s n) same ∙ nowhere a.0) here)
            | inr came ↦ came.0
          ],
          eqb-true a.1 n is,
        )
    by false is e = absurd (both_ways (differ was was) (differ_itself was) e)

-- how many keys an entry has that is new
pub keys_of_new : (conf : Conf) (e : EntryContent) → edits conf None (Some e) ≡ set.len (slot_keys conf e.attrs)
keys_of_new conf e =
    let none = set.len-empty slot_key_cmp in
    let gone = ap set.len (none_less (slot_keys conf e.attrs)) in
    let all = ap set.len (less_none (slot_keys conf e.attrs)) in
    omega (arith, none, gone, all)

-- what came for an entry, and went again
pub taken_back : (conf : Conf) (e : EntryContent) (n : ℕ) (old mid new : Index) → IsNowhere n old → InsertsSome (set.contains (slot_keys conf e.attrs)) n old mid → CountsEdits old mid → Forgets n mid new → CountsEdits mid new
    → RisesUpTo (2 * edits conf None (Some e)) old new
taken_back conf e n old mid new nowhere some first went next =
    let keys = slot_keys conf e.attrs in
    let all = keys_of_new conf e in
    let up = few_counted (members old) (members mid) old.edits mid.edits n keys first (came_of (set.contains keys) n old mid some) in
    let on = few_counted (members mid) (members new) mid.edits new.edits n keys next (went_of (set.contains keys) n old mid new nowhere some went) in
    let one = first.rise in
    let two = next.rise in
    record { rises = omega (arith, one, two); few = omega (arith, up, on, all) }

-- a key of those that are still to come under a slot
pub under_key : (slot : ℕ) (key : List ℕ) (all left rest : List (List ℕ)) → left ≡ key ∷ rest → ((q : List ℕ) → list_any (λ k. bytes_eq k q) left ≡ true → list_any (λ k. bytes_eq k q) all ≡ true)
    → (p : SlotKey) → same_slot_key (slot_key slot key) p ≡ true → (nat_eq slot p.slot.0 && list_any (λ k. bytes_eq k p.key) all) ≡ true
under_key slot key all left rest is more p h =
    let parts = and_parts (nat_eq slot p.slot.0) (bytes_eq key p.key) h in
    (λ i. parts.0 i && more p.key (ap (list_any (λ k. bytes_eq k p.key)) is ∙ or_left (bytes_eq key p.key) (list_any (λ k. bytes_eq k p.key) rest) parts.1) i)

-- one more key of a slot, while the number comes under several
module _ (slot n : ℕ) (key : List ℕ) (all left rest : List (List ℕ)) (old mid new : Index) where
  abbrev test : SlotKey → Bool
  test p = nat_eq slot p.slot.0 && list_any (λ k. bytes_eq k p.key) all

  pub key_came : left ≡ key ∷ rest → ((q : List ℕ) → list_any (λ k. bytes_eq k q) left ≡ true → list_any (λ k. bytes_eq k q) all ≡ true)
      → InsertsSome test n old mid → Inserts (same_slot_key (slot_key slot key)) n mid new → InsertsSome test n old new
  key_came is more so_far puts =
      then_some test (same_slot_key (slot_key slot key)) n old mid new (under_key slot key all left rest is more) so_far
      (those_came (same_slot_key (slot_key slot key)) (same_slot_key (slot_key slot key)) n mid new (λ p h. h) puts)

  pub key_counted : InsertsSome test n old mid → CountsEdits old mid → Inserts (same_slot_key (slot_key slot key)) n mid new → (told : Bool) → told ≡ not (set.contains (members mid (slot_key slot key)) n) → new.edits ≡ mid.edits + cond told 1 0 → CountsEdits old new
  key_counted so_far counts puts told is_new rise =
      came_counted same_slot_key itself slot_key_is (members old) (members mid) (members new) old.edits mid.edits new.edits counts
      (inserted same_slot_key itself slot_key_is (members mid) (members new) (slot_key slot key) n puts mid.edits new.edits told is_new rise)
      (some_grow test n old mid so_far)
      (grows_by (members mid) (members new) (same_slot_key (slot_key slot key)) n puts)
