-- An index that is made of many entries, slot by slot.
use Rattle.std.proofs.Common.{◌≡◌, ℕ, zero, suc, ◌+◌, ◌<◌, Bool, true, false, cond, ◌&&◌, ◌||◌, nat_eq, List, [], ◌∷◌, ◌++◌, length, get_or, take, refl, sym, ap, subst, ◌∙◌, arith}
use Rattle.std.specs.Prelude.{slice_index_or}
use Rattle.std.specs.List.{list_any, slice_get}
use Rattle.std.specs.FinMap as finite
use Rattle.std.specs.FinSet as set
use Rattle.std.specs.Ordering.{nat_cmp}
use Rattle.std.specs.Cmp.{nat_cmp_total, unsigned_tied}
use Rattle.std.specs.Str.{bytes_eq}
use Rattle.std.proofs.lemmas.List.{take_more}
use Rattle.std.proofs.lemmas.List.Folds.{list_any-append}
use Rattle.values.specs.declared.types.AttributeType.{AttributeType}
use Rattle.schema.specs.declared.slots.IndexKind.{IndexKind}
use Rattle.schema.specs.declared.slots.Slot.{Slot}
use Rattle.schema.specs.Conf.{Conf}
use Rattle.entries.specs.StoredEntries.{attributes_of}
use Rattle.index_text.specs.declared.slot_key.SlotKey.{SlotKey}
use Rattle.index_keys.specs.declared.type_norms.Numbered.{Numbered}
use Rattle.index_keys.specs.declared.type_norms.NumberedNorm.{NumberedNorm}
use Rattle.index_keys.specs.EntryKeys.{has_key, gives_key}
use Rattle.index_text.specs.KeySets.{Members, SetsByKey, members_in}
use Rattle.index_keys.specs.NumberedEntries.{has_among}
use Rattle.index_text.specs.inner.SlotTests.{is_slot_that}
use Rattle.index_keys.specs.TypeNorms.{has_for, AreNormsOf}
use Rattle.index.specs.inner.SlotEntries.{PutsEach, IsSetOf, AreSetsOf, members_of}
use Rattle.index_keys.proofs.Agreement.{contains-slot_keys}
use Rattle.std.specs.Prelude.{Result, Ok, Err, IfOk, OnOk}
use Rattle.std.proofs.lemmas.Bool.{or_left, both_ways, false_from_ne_true, eqb-true, eq-eqb}
use Rattle.index.proofs.Edits.{Grows, slot_counted}
use Rattle.index.specs.Edits.{CountsEach, CountsEdits, no_index}
use Rattle.index_text.specs.Indexes.{Index, members}
use Rattle.index_text.specs.SlotKeys.{same_slot_key}
use Rattle.index.proofs.Keyed.{none_in}

pub put_has : (s : Members) (n m : ℕ) → set.contains (set.insert s n) m ≡ (nat_eq m n || set.contains s m)
put_has s n m = set.contains-insert nat_cmp_total s n m ∙ ap (λ b. b || set.contains s m) (unsigned_tied m n)

nothing_has : (q : List ℕ) (n : ℕ) → set.contains (members_in finite.empty q) n ≡ false
nothing_has q n = ap (λ (s : Members). set.contains s n) (none_in q) ∙ set.contains-empty nat_cmp n

-- ---- one key after the other

pub one_key : (old new : SetsByKey) (n : ℕ) (key : List ℕ) (rest whole : List (List ℕ)) → whole ≡ key ∷ rest
    → ((q : List ℕ) → members_in new q ≡ cond (bytes_eq key q) (set.insert (members_in old q) n) (members_in old q))
    → (q : List ℕ) (m : ℕ) → (set.contains (members_in new q) m || (nat_eq m n && list_any (λ k. bytes_eq k q) rest)) ≡ (set.contains (members_in old q) m || (nat_eq m n && list_any (λ k. bytes_eq k q) whole))
one_key old new n key rest whole is came q m =
    ap (λ (s : Members). set.contains s m || (nat_eq m n && list_any (λ k. bytes_eq k q) rest)) (came q)
    ∙ by (bytes_eq key q)
    ∙ ap (λ (ks : List (List ℕ)). set.contains (members_in old q) m || (nat_eq m n && list_any (λ k. bytes_eq k q) ks)) (sym is)
  where
    turn : (a c r : Bool) → ((a || c) || (a && r)) ≡ (c || (a && true))
    turn true true r = refl
    turn true false r = refl
    turn false true r = refl
    turn false false r = refl

    by : (b : Bool) → (set.contains (cond b (set.insert (members_in old q) n) (members_in old q)) m || (nat_eq m n && list_any (λ k. bytes_eq k q) rest)) ≡ (set.contains (members_in old q) m || (nat_eq m n && (b || list_any (λ k. bytes_eq k q) rest)))
    by true = ap (λ b. b || (nat_eq m n && list_any (λ k. bytes_eq k q) rest)) (put_has (members_in old q) n m) ∙ turn (nat_eq m n) (set.contains (members_in old q) m) (list_any (λ k. bytes_eq k q) rest)
    by false = refl

-- ---- one normal form after the other

pub none_yet : (kind : IndexKind) (x : SetsByKey) → x ≡ finite.empty → IsSetOf kind [] x
none_yet kind x none q n = ap (λ (y : SetsByKey). set.contains (members_in y q) n) none ∙ nothing_has q n

-- what is put under one key
pub put_one : (old new : SetsByKey) (number : ℕ) (key : List ℕ) → ((q : List ℕ) → members_in new q ≡ cond (bytes_eq key q) (set.insert (members_in old q) number) (members_in old q))
    → (q : List ℕ) (n : ℕ) → set.contains (members_in new q) n ≡ (set.contains (members_in old q) n || (nat_eq n number && (bytes_eq key q || false)))
put_one old new number key came q n = ap (λ (s : Members). set.contains s n) (came q) ∙ by (bytes_eq key q)
  where
    turn : (a c : Bool) → (a || c) ≡ (c || (a && true))
    turn true true = refl
    turn true false = refl
    turn false true = refl
    turn false false = refl

    none : (a c : Bool) → c ≡ (c || (a && false))
    none true true = refl
    none true false = refl
    none false true = refl
    none false false = refl

    by : (b : Bool) → set.contains (cond b (set.insert (members_in old q) number) (members_in old q)) n ≡ (set.contains (members_in old q) n || (nat_eq n number && (b || false)))
    by true = put_has (members_in old q) number n ∙ turn (nat_eq n number) (set.contains (members_in old q) n)
    by false = none (nat_eq n number) (set.contains (members_in old q) n)

-- one more
pub one_norm : (kind : IndexKind) (ns : List NumberedNorm) (i : ℕ) (d : NumberedNorm) (x y : SetsByKey) → i < length ns → PutsEach (gives_key kind ((get_or ns i d).norm.now ∷ [])) (get_or ns i d).number x y
    → IsSetOf kind (take i ns) x → IsSetOf kind (take (i + 1) ns) y
one_norm kind ns i d x y lt puts so_far q n =
    puts q n
    ∙ ap (λ b. b || test (get_or ns i d)) (so_far q n)
    ∙ ap (λ b. list_any test (take i ns) || b) (or_false (test (get_or ns i d)))
    ∙ sym (list_any-append test (take i ns) (get_or ns i d ∷ []))
    ∙ ap (list_any test) (sym (take_more ns i d lt))
  where
    test : NumberedNorm → Bool
    test z = nat_eq n z.number && gives_key kind (z.norm.now ∷ []) q

    or_false : (b : Bool) → b ≡ (b || false)
    or_false true = refl
    or_false false = refl

pub ok_put : {X E P Q : Type 0} (r : Result X E) → OnOk r P → (P → Q) → OnOk r Q
ok_put (Ok x) h f = f h
ok_put (Err e) h f = tt

-- each member comes, while each number does
pub puts_grow : (test : List ℕ → Bool) (n : ℕ) (old new : SetsByKey) → PutsEach test n old new → Grows (members_in old) (members_in new)
puts_grow test n old new puts q m h = puts q m ∙ or_left (set.contains (members_in old q) m) (nat_eq m n && test q) h

-- ---- one slot after the other

sets_more_by : (types : List AttributeType) (es : List Numbered) (ss : List Slot) (xs : List SetsByKey) (s : Slot) (x : SetsByKey) → AreSetsOf types es ss xs
    → ((q : List ℕ) (n : ℕ) → set.contains (members_in x q) n ≡ has_for types es s.type_id s.kind q n) → AreSetsOf types es (ss ++ s ∷ []) (xs ++ x ∷ [])
sets_more_by types es [] [] s x are is = (is, tt)
sets_more_by types es [] (y ∷ ys) s x are is = absurd are
sets_more_by types es (t ∷ ss) [] s x are is = absurd are
sets_more_by types es (t ∷ ss) (y ∷ ys) s x are is = (are.0, sets_more_by types es ss ys s x are.1 is)

pub sets_more : (types : List AttributeType) (es : List Numbered) (ss : List Slot) (old new : List SetsByKey) (i : ℕ) (s : Slot) (x : SetsByKey) (t : ℕ) (ns : List NumberedNorm) → s ≡ get_or ss i s → i < length ss → new ≡ old ++ x ∷ []
    → t ≡ s.type_id → AreNormsOf types es t ns → IsSetOf s.kind ns x
    → AreSetsOf types es (take i ss) old → AreSetsOf types es (take (i + 1) ss) new
sets_more types es ss old new i s x t ns is lt pushed same norms one are =
    subst (λ (ts : List Slot). AreSetsOf types es ts new) (sym (take_more ss i s lt))
    (subst (λ (ys : List SetsByKey). AreSetsOf types es (take i ss ++ get_or ss i s ∷ []) ys) (sym pushed)
    (sets_more_by types es (take i ss) old (get_or ss i s) x are
    (subst (λ (u : Slot). (q : List ℕ) (n : ℕ) → set.contains (members_in x q) n ≡ has_for types es u.type_id u.kind q n) is
    (λ q n. one q n ∙ norms s.kind q n ∙ ap (λ (u : ℕ). has_for types es u s.kind q n) same))))

pub as_many : (types : List AttributeType) (es : List Numbered) (ss : List Slot) (xs : List SetsByKey) → AreSetsOf types es ss xs → length xs ≡ length ss
as_many types es [] [] are = refl
as_many types es [] (x ∷ xs) are = absurd are
as_many types es (s ∷ ss) [] are = absurd are
as_many types es (s ∷ ss) (x ∷ xs) are = let rest = as_many types es ss xs are.1 in omega (arith, rest)

-- ---- the members under all slots

none_has : (es : List Numbered) (m : ℕ) → list_any (λ (e : Numbered). nat_eq m e.number && false) es ≡ false
none_has [] m = refl
none_has (e ∷ es) m = by (nat_eq m e.number) ∙ none_has es m
  where
    by : (a : Bool) → ((a && false) || list_any (λ (e : Numbered). nat_eq m e.number && false) es) ≡ list_any (λ (e : Numbered). nat_eq m e.number && false) es
    by true = refl
    by false = refl

at_place : (types : List AttributeType) (es : List Numbered) (ss : List Slot) (xs : List SetsByKey) (i : ℕ) (q : List ℕ) (m : ℕ) → AreSetsOf types es ss xs
    → set.contains (members_in (slice_index_or xs i finite.empty) q) m ≡ list_any (λ e. nat_eq m e.number && is_slot_that (λ s. has_key types (attributes_of e.entry.now.attrs) s.type_id s.kind q) (slice_get ss i)) es
at_place types es [] [] i q m are = nothing_has q m ∙ sym (none_has es m)
at_place types es [] (x ∷ xs) i q m are = absurd are
at_place types es (s ∷ ss) [] i q m are = absurd are
at_place types es (s ∷ ss) (x ∷ xs) zero q m are = are.0 q m
at_place types es (s ∷ ss) (x ∷ xs) (suc i) q m are = at_place types es ss xs i q m are.1

same_tests : (conf : Conf) (es : List Numbered) (p : SlotKey) (m : ℕ)
    → list_any (λ e. nat_eq m e.number && is_slot_that (λ s. has_key conf.types (attributes_of e.entry.now.attrs) s.type_id s.kind p.key) (slice_get conf.slots p.slot.0)) es ≡ has_among conf es m p
same_tests conf [] p m = refl
same_tests conf (e ∷ es) p m = λ i. (nat_eq m e.number && sym (contains-slot_keys conf (attributes_of e.entry.now.attrs) p) i) || same_tests conf es p m i

pub all_slots : (conf : Conf) (es : List Numbered) (xs : List SetsByKey) → AreSetsOf conf.types es conf.slots xs
    → (p : SlotKey) (m : ℕ) → set.contains (members_in (slice_index_or xs p.slot.0 finite.empty) p.key) m ≡ has_among conf es m p
all_slots conf es xs are p m = at_place conf.types es conf.slots xs p.slot.0 p.key m are ∙ same_tests conf es p m

-- ---- the members that come, slot by slot

slot_at_end : (xs : List SetsByKey) (x : SetsByKey) → slice_index_or (xs ++ x ∷ []) (length xs) finite.empty ≡ x
slot_at_end [] x = refl
slot_at_end (y ∷ ys) x = slot_at_end ys x

slot_past : (xs : List SetsByKey) → slice_index_or xs (length xs) finite.empty ≡ finite.empty
slot_past [] = refl
slot_past (y ∷ ys) = slot_past ys

slot_else : (xs : List SetsByKey) (x : SetsByKey) (i : ℕ) → nat_eq (length xs) i ≡ false → slice_index_or (xs ++ x ∷ []) i finite.empty ≡ slice_index_or xs i finite.empty
slot_else [] x zero e = absurd (both_ways (nat_eq 0 0) e refl)
slot_else [] x (suc i) e = refl
slot_else (y ∷ ys) x zero e = refl
slot_else (y ∷ ys) x (suc i) e = slot_else ys x i (false_from_ne_true (nat_eq (length ys) i) (λ h. both_ways (nat_eq (suc (length ys)) (suc i)) e (eq-eqb (suc (length ys)) (suc i) (ap suc (eqb-true (length ys) i h)))))

module _ (xs : List SetsByKey) (x : SetsByKey) (e e' : ℕ) (counts : CountsEach bytes_eq (λ q. set.empty) (members_in x) e e') where
  pub slot_comes : CountsEach same_slot_key (members_of xs) (members_of (xs ++ x ∷ [])) e e'
  slot_comes =
      slot_counted (length xs) (members_of xs) (members_of (xs ++ x ∷ [])) (λ q. set.empty) (members_in x) e e'
      (λ p other. ap (λ (s : SetsByKey). members_in s p.key) (slot_else xs x p.slot.0 other))
      (λ p here. ap (λ (i : ℕ). members_in (slice_index_or xs i finite.empty) p.key) (sym (eqb-true (length xs) p.slot.0 here)) ∙ ap (λ (s : SetsByKey). members_in s p.key) (slot_past xs) ∙ none_in p.key)
      (λ p here. ap (λ (i : ℕ). members_in (slice_index_or (xs ++ x ∷ []) i finite.empty) p.key) (sym (eqb-true (length xs) p.slot.0 here)) ∙ ap (λ (s : SetsByKey). members_in s p.key) (slot_at_end xs x))
      counts

  pub slot_grows : Grows (members_of xs) (members_of (xs ++ x ∷ []))
  slot_grows p n h = by (nat_eq (length xs) p.slot.0) refl
    where
      by : (b : Bool) → nat_eq (length xs) p.slot.0 ≡ b → set.contains (members_of (xs ++ x ∷ []) p) n ≡ true
      by true here =
          absurd (both_ways (set.contains (members_of xs p) n)
          (ap (λ (i : ℕ). set.contains (members_in (slice_index_or xs i finite.empty) p.key) n) (sym (eqb-true (length xs) p.slot.0 here)) ∙ ap (λ (s : SetsByKey). set.contains (members_in s p.key) n) (slot_past xs) ∙ nothing_has p.key n)
          h)
      by false other = ap (λ (s : SetsByKey). set.contains (members_in s p.key) n) (slot_else xs x p.slot.0 other) ∙ h

pub no_slot_has : (p : SlotKey) → members_of [] p ≡ set.empty
no_slot_has p = none_in p.key

-- so it is of an index that was made of them
pub whole_counted : {E : Type 0} (conf : Conf) (r : Result Index E) (xs : List SetsByKey) (e e' : ℕ) → e ≡ 0 → IfOk r (λ x. x.slots ≡ xs) → IfOk r (λ x. x.edits ≡ e') → CountsEach same_slot_key (λ p. set.empty) (members_of xs) e e' → IfOk r (CountsEdits (no_index conf))
whole_counted conf (Err error) xs e e' start slots edits counts = tt
whole_counted conf (Ok x) xs e e' start slots edits counts =
    subst (λ (f : SlotKey → Members). CountsEach same_slot_key f (members x) 0 x.edits) (λ i p. sym (none_in p.key) i)
    (subst (λ (ys : List SetsByKey). CountsEach same_slot_key (λ p. set.empty) (members_of ys) 0 x.edits) (sym slots)
    (subst (λ (n : ℕ). CountsEach same_slot_key (λ p. set.empty) (members_of xs) 0 n) (sym edits)
    (subst (λ (n : ℕ). CountsEach same_slot_key (λ p. set.empty) (members_of xs) n e') start counts)))
