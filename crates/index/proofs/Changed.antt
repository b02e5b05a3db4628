-- What comes and what goes of the keys, as sets.
use Rattle.std.proofs.Common.{◌≡◌, ℕ, ◌+◌, ◌<◌, ◌≤◌, Bool, true, false, cond, not, ◌&&◌, ◌||◌, List, [], ◌∷◌, length, nat_lt, Option, Some, None, get_or, refl, sym, ap, subst, ◌∙◌, arith}
use Rattle.std.specs.List.{slice_get, AllByRecursion, IsDistinct}
use Rattle.std.specs.FinSet as set
use Rattle.std.proofs.lemmas.Option.{slice_get_read}
use Rattle.schema.specs.declared.slots.Slot.{Slot}
use Rattle.schema.specs.Conf.{Conf}
use Rattle.entries.specs.Entries.{EntryContent}
use Rattle.index_text.specs.declared.slot_key.SlotKey.{SlotKey}
use Rattle.index_text.specs.SlotKeys.{slot_key, slot_key_cmp, same_slot_key, is_among}
use Rattle.index_keys.specs.EntryKeys.{gives_key, slot_keys, slot_keys_in}
use Rattle.index_text.specs.inner.SlotTests.{is_slot_that}
use Rattle.index.specs.inner.SlotTests.{norms_in, has_slot_key, is_only_in, has_only}
use Rattle.index.specs.KeyChanges.{AreOnlyIn, AreChanges}
use Rattle.index.specs.inner.KeyLists.{AreSlotKeys}
use Rattle.index.proofs.KnownSlots.{contains-slot_keys_in, known}
use Rattle.index.proofs.Listed.{apart}
use Rattle.index_text.proofs.SlotKeyOrder.{slot_key_total, slot_key_exact, turned, contains-from_list}

-- under the slot at a place: what one entry has and the other hasn't
pub at_slot : (conf : Conf) (a b : Option EntryContent) (n : ℕ) (s : Slot) → slice_get conf.slots n ≡ Some s → (q : List ℕ) → is_only_in conf.types s a b q ≡ has_only conf a b (slot_key n q)
at_slot conf a b n s is q = λ i. is_slot_that (λ s. gives_key s.kind (norms_in conf.types a s.type_id) q) (sym is i) && not (is_slot_that (λ s. gives_key s.kind (norms_in conf.types b s.type_id) q) (sym is i))

-- the slot that is read at a place, from slots that were lent
pub slot_read : (slots items : List Slot) (i : ℕ) (s : Slot) → items ≡ slots → i < length items → s ≡ get_or items i s → slice_get slots i ≡ Some s
slot_read slots items i s is lt read = ap (λ ss. slice_get ss i) (sym is) ∙ slice_get_read items (length items) i s refl lt read

pub all_read : (slots items : List Slot) (i : ℕ) → items ≡ slots → length items ≤ i → i ≤ length items → i ≡ length slots
all_read slots items i is past end = let same = ap length is in omega (arith, same, past, end)

-- ---- how many they are

none_among : (x : SlotKey) (xs : List SlotKey) → AllByRecursion (λ y. same_slot_key x y ≡ false) xs → is_among x xs ≡ false
none_among x [] h = refl
none_among x (y ∷ ys) h = ap (λ b. b || is_among x ys) (turned y x ∙ h.0) ∙ none_among x ys h.1

len_distinct : (ps : List SlotKey) → IsDistinct same_slot_key ps → set.len (set.from_list {R = slot_key_cmp} ps) ≡ length ps
unfolding IsDistinct
len_distinct [] h = set.len-empty slot_key_cmp
len_distinct (x ∷ xs) h =
    set.len-insert slot_key_total (set.from_list xs) x
    ∙ ap (λ b. cond b (set.len (set.from_list {R = slot_key_cmp} xs)) (set.len (set.from_list {R = slot_key_cmp} xs) + 1)) (contains-from_list xs x ∙ none_among x xs h.0)
    ∙ (let rest = len_distinct xs h.1 in omega (arith, rest))

count_only : (conf : Conf) (a b : Option EntryContent) (ps : List SlotKey) → AreOnlyIn conf a b ps → length ps ≡ set.len (set.difference (slot_keys_in conf a) (slot_keys_in conf b))
count_only conf a b ps h =
    sym (len_distinct ps h.apart)
    ∙ ap set.len (set.same_set slot_key_total slot_key_exact (set.from_list ps) (set.difference (slot_keys_in conf a) (slot_keys_in conf b)) (λ p. contains-from_list ps p ∙ h.exact p ∙ sym (set.contains-difference slot_key_total (slot_keys_in conf a) (slot_keys_in conf b) p)))

-- ---- all of them

module _ (conf : Conf) (a b : Option EntryContent) where
  within : (p : SlotKey) → (nat_lt p.slot.0 (length conf.slots) && has_only conf a b p) ≡ has_only conf a b p
  within p = assoc (nat_lt p.slot.0 (length conf.slots)) (has_slot_key conf a p) (not (has_slot_key conf b p)) ∙ ap (λ x. x && not (has_slot_key conf b p)) (known conf a p)
    where
      assoc : (x y z : Bool) → (x && (y && z)) ≡ ((x && y) && z)
      assoc true y z = refl
      assoc false y z = refl

  only_in : (ps : List SlotKey) → AreSlotKeys (length conf.slots) (has_only conf a b) ps → AreOnlyIn conf a b ps
  only_in ps h = record {
    rise = h.rise;
    apart = apart ps h.rise;
    within = h.within;
    exact = λ p. h.exact p ∙ within p ∙ (λ i. sym (contains-slot_keys_in conf a p) i && not (sym (contains-slot_keys_in conf b p) i));
  }

pub changes_are : (conf : Conf) (before after : Option EntryContent) (n : ℕ) (came gone : List SlotKey) → n ≡ length conf.slots
    → AreSlotKeys n (has_only conf after before) came → AreSlotKeys n (has_only conf before after) gone → AreChanges conf before after came gone
changes_are conf before after n came gone end come go =
    let c = only_in conf after before came (subst (λ k. AreSlotKeys k (has_only conf after before) came) end come) in
    let g = only_in conf before after gone (subst (λ k. AreSlotKeys k (has_only conf before after) gone) end go) in
    record {
      come = c;
      go = g;
      count = let x = count_only conf after before came c in let y = count_only conf before after gone g in omega (arith, x, y);
    }

-- the keys that come where no entry was are those of the entry
pub all_come : (conf : Conf) (e : EntryContent) (ps : List SlotKey) → AreOnlyIn conf (Some e) None ps → set.from_list ps ≡ slot_keys conf e.attrs
all_come conf e ps h = set.same_set slot_key_total slot_key_exact (set.from_list ps) (slot_keys conf e.attrs) (λ p. contains-from_list ps p ∙ h.exact p ∙ ap (λ b. set.contains (slot_keys conf e.attrs) p && not b) (set.contains-empty slot_key_cmp p) ∙ and_true (set.contains (slot_keys conf e.attrs) p))
  where
    and_true : (b : Bool) → (b && true) ≡ b
    and_true true = refl
    and_true false = refl
