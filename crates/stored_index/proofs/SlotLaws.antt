-- The lines of slots as they are written, and as they are read.
use Rattle.std.proofs.Common.{◌≡◌, ℕ, Bool, true, false, cond, List, [], ◌∷◌, ◌++◌, Option, Some, None, codes, refl, sym, ap, ◌∙◌, subst}
use Rattle.std.proofs.lemmas.Slice.Eq.{bytes_eq-Decides}
use Rattle.std.proofs.lemmas.List.Splits.{join_with_byte-slice_split}
use Rattle.std.specs.List.{join_with_byte}
use Rattle.std.specs.Str.{bytes_eq}
use Rattle.base.specs.Ascii.{space}
use Rattle.values.specs.declared.types.AttributeType.{AttributeType}
use Rattle.values.specs.Types.{type_of, name_of, is_known}
use Rattle.schema.specs.declared.slots.IndexKind.{IndexKind}
use Rattle.schema.specs.declared.slots.IndexKind.TheVariants.{Equality, Presence, Substrings}
use Rattle.schema.specs.declared.slots.Slot.{Slot}
use Rattle.schema.proofs.Found.{found_is_known}
use Rattle.schema.proofs.SlotOrder.{same_is}
use Rattle.index_text.specs.IndexTexts.{kind_name, slot_line}
use Rattle.stored_index.specs.Cuts.{parts}
use Rattle.stored_index.specs.SlotLines.{kind_named, if_printed, type_printed, slot_with, slot_of, slot_in, is_slot}

abbrev slot : ℕ → IndexKind → Slot
slot t kind = record { type_id = t; kind = kind }

-- ---- what is read is written so

-- what a test lets through
pub test_some : {X : Type 0} (b : Bool) (r : Option X) (x : X) → cond b r None ≡ Some x → (b ≡ true) × (r ≡ Some x)
test_some true r x e = (refl, e)
test_some false r x e = absurd cc

pub some_of : {X : Type 0} (x y : X) → ◌≡◌ {A = Option X} (Some x) (Some y) → x ≡ y
some_of x y e = cc

kind_by : (a b c : Bool) (kind : IndexKind) (word : List ℕ) → bytes_eq word (kind_name Equality) ≡ a → bytes_eq word (kind_name Presence) ≡ b → bytes_eq word (kind_name Substrings) ≡ c
    → cond a (Some Equality) (cond b (Some Presence) (cond c (Some Substrings) None)) ≡ Some kind → word ≡ kind_name kind
kind_by true b c kind word one two three e = (bytes_eq-Decides word (kind_name Equality)).0 one ∙ ap kind_name (some_of Equality kind e)
kind_by false true c kind word one two three e = (bytes_eq-Decides word (kind_name Presence)).0 two ∙ ap kind_name (some_of Presence kind e)
kind_by false false true kind word one two three e = (bytes_eq-Decides word (kind_name Substrings)).0 three ∙ ap kind_name (some_of Substrings kind e)
kind_by false false false kind word one two three e = absurd cc

kind_writes : (word : List ℕ) (kind : IndexKind) → kind_named word ≡ Some kind → word ≡ kind_name kind
kind_writes word kind e = kind_by (bytes_eq word (kind_name Equality)) (bytes_eq word (kind_name Presence)) (bytes_eq word (kind_name Substrings)) kind word refl refl refl e

module _ (types : List AttributeType) where
  printed_by : (name : List ℕ) (o : Option ℕ) (t : ℕ) → if_printed types name o ≡ Some t → name ≡ name_of types t
  printed_by name None t e = absurd cc
  printed_by name (Some u) t e =
      let here = test_some (bytes_eq (name_of types u) name) (Some u) t e in
      sym ((bytes_eq-Decides (name_of types u) name).0 here.0) ∙ ap (name_of types) (some_of u t here.1)

  with_by : (t : Option ℕ) (k : Option IndexKind) (s : Slot) → slot_with t k ≡ Some s → (t ≡ Some s.type_id) × (k ≡ Some s.kind)
  with_by None k s e = absurd cc
  with_by (Some t) None s e = absurd cc
  with_by (Some t) (Some k) s e =
      let same = some_of (slot t k) s e in
      (ap (λ (s : Slot). Some s.type_id) same, ap (λ (s : Slot). Some s.kind) same)

  words_write : (words : List (List ℕ)) (s : Slot) → slot_of types words ≡ Some s → join_with_byte space words ≡ slot_line types s
  words_write [] s e = absurd cc
  words_write (word ∷ []) s e = absurd cc
  words_write (word ∷ name ∷ []) s e = absurd cc
  words_write (word ∷ name ∷ kind ∷ []) s e =
      let here = test_some (bytes_eq word (codes "slot")) (slot_with (type_printed types name) (kind_named kind)) s e in
      let both = with_by (type_printed types name) (kind_named kind) s here.1 in
      let one = (bytes_eq-Decides word (codes "slot")).0 here.0 in
      let two = printed_by name (type_of types name) s.type_id both.0 in
      let three = kind_writes kind s.kind both.1 in
      λ i. one i ++ space ∷ (two i ++ space ∷ three i)
  words_write (word ∷ name ∷ kind ∷ more ∷ others) s e = absurd cc

  pub slot_writes : (line : List ℕ) (s : Slot) → slot_in types line ≡ Some s → line ≡ slot_line types s
  unfolding slot_in
  slot_writes line s e = sym (join_with_byte-slice_split space line) ∙ words_write (parts space line) s e

  pub is_by : (due : Slot) (o : Option Slot) → is_slot due o ≡ true → o ≡ Some due
  is_by due None e = absurd cc
  is_by due (Some s) e = ap (λ (s : Slot). Some s) (same_is s due e)

  pub due_writes : (line : List ℕ) (due : Slot) → is_slot due (slot_in types line) ≡ true → line ≡ slot_line types due
  due_writes line due e = slot_writes line due (is_by due (slot_in types line) e)

-- ---- the type of a slot that was read is known

printed_known : (types : List AttributeType) (name : List ℕ) (o : Option ℕ) (t : ℕ) → type_of types name ≡ o → if_printed types name o ≡ Some t → is_known types t ≡ true
printed_known types name None t is e = absurd cc
printed_known types name (Some u) t is e =
    subst (λ (n : ℕ). is_known types n ≡ true) (some_of u t (test_some (bytes_eq (name_of types u) name) (Some u) t e).1) (found_is_known types name u is)

pub words_known : (types : List AttributeType) (words : List (List ℕ)) (s : Slot) → slot_of types words ≡ Some s → is_known types s.type_id ≡ true
words_known types [] s e = absurd cc
words_known types (word ∷ []) s e = absurd cc
words_known types (word ∷ name ∷ []) s e = absurd cc
words_known types (word ∷ name ∷ kind ∷ []) s e =
    let here = test_some (bytes_eq word (codes "slot")) (slot_with (type_printed types name) (kind_named kind)) s e in
    printed_known types name (type_of types name) s.type_id refl (with_by types (type_printed types name) (kind_named kind) s here.1).0
words_known types (word ∷ name ∷ kind ∷ more ∷ others) s e = absurd cc
