-- A name is written in ASCII.
use Rattle.std.proofs.Common.{◌≡◌, ℕ, ◌/◌, ◌%◌, ◌<◌, Bool, true, false, cond, not, ◌&&◌, eqb, List, [], ◌∷◌, ◌++◌, map, length, refl, ap, ◌∙◌, arith}
use Rattle.std.specs.List.{list_all, join_with_byte}
use Rattle.std.specs.Str.{IsUtf8}
use Rattle.std.proofs.lemmas.Bool.{and_parts, ltb-true}
use Rattle.std.proofs.lemmas.Bool.Decides.{nat_tests}
use Rattle.std.proofs.lemmas.List.Folds.{list_all-append}
use Rattle.std.proofs.lemmas.List.Sums.{AllPass-from_list_all}
use Rattle.std.proofs.lemmas.Str.{IsUtf8-from_ascii}
use Rattle.std.proofs.lemmas.Str.Ascii.{IsAscii-from_all}
use Rattle.dn.specs.Names.{Ava, Rdn, Name, is_byte, is_ascii, is_type_byte, is_type, is_ava, is_rdn, is_name}
use Rattle.dn.specs.Writing.{digit, is_nothing, needs_pair, stands, written, text_from, value_text, ava_text, rdn_text, text_of}

abbrev AreAscii : List ℕ → Type 0
AreAscii text = list_all is_ascii text ≡ true

both : (a b : Bool) → a ≡ true → b ≡ true → (a && b) ≡ true
both a b h k = ap (λ (x : Bool). x && b) h ∙ k

append : (xs ys : List ℕ) → AreAscii xs → AreAscii ys → AreAscii (xs ++ ys)
append xs ys h g = list_all-append is_ascii xs ys ∙ both (list_all is_ascii xs) (list_all is_ascii ys) h g

onto : (b : ℕ) (bs : List ℕ) → is_ascii b ≡ true → AreAscii bs → AreAscii (b ∷ bs)
onto b bs h g = both (is_ascii b) (list_all is_ascii bs) h g

joined : {X : Type 0} (sep : ℕ) → is_ascii sep ≡ true → (text : X → List ℕ) (good : X → Bool) → ((x : X) → good x ≡ true → AreAscii (text x)) → (xs : List X) → list_all good xs ≡ true → AreAscii (join_with_byte sep (map text xs))
joined sep low text good is [] h = refl
joined sep low text good is (x ∷ []) h = is x (and_parts (good x) true h).0
joined sep low text good is (x ∷ y ∷ ys) h =
    let k = and_parts (good x) (list_all good (y ∷ ys)) h in
    append (text x) (sep ∷ join_with_byte sep (map text (y ∷ ys))) (is x k.0) (onto sep (join_with_byte sep (map text (y ∷ ys))) low (joined sep low text good is (y ∷ ys) k.1))

digit_low : (d : ℕ) → d < 16 → is_ascii (digit d) ≡ true
digit_low d lt = grind (arith, nat_tests)

low : (b : ℕ) → needs_pair b ≡ false → is_ascii b ≡ true
low b h = grind (arith, nat_tests)

below : (b : ℕ) → (b % 16) < 16
below b = omega arith

written_by : (b : ℕ) (c r : Bool) → b < 256 → needs_pair b ≡ c → AreAscii (cond c (92 ∷ digit (b / 16) ∷ digit (b % 16) ∷ []) (cond r (b ∷ []) (92 ∷ b ∷ [])))
written_by b true r lt e = onto (digit (b / 16)) (digit (b % 16) ∷ []) (digit_low (b / 16) (omega arith)) (onto (digit (b % 16)) [] (digit_low (b % 16) (below b)) refl)
written_by b false true lt e = onto b [] (low b e) refl
written_by b false false lt e = onto b [] (low b e) refl

byte_ascii : (first last : Bool) (b : ℕ) → b < 256 → AreAscii (written first last b)
unfolding written
byte_ascii first last b lt = written_by b (needs_pair b) (stands first last b) lt refl

value_ascii : (first : Bool) (v : List ℕ) → list_all is_byte v ≡ true → AreAscii (text_from first v)
unfolding text_from
value_ascii first [] h = refl
value_ascii first (b ∷ bs) h =
    let k = and_parts (is_byte b) (list_all is_byte bs) h in
    append (written first (is_nothing bs) b) (text_from false bs) (byte_ascii first (is_nothing bs) b (ltb-true b 256 k.0)) (value_ascii false bs k.1)

type_low : (b : ℕ) → is_type_byte b ≡ true → is_ascii b ≡ true
type_low b h = grind (arith, nat_tests)

types_ascii : (bs : List ℕ) → list_all is_type_byte bs ≡ true → AreAscii bs
types_ascii [] h = refl
types_ascii (b ∷ bs) h =
    let k = and_parts (is_type_byte b) (list_all is_type_byte bs) h in
    onto b bs (type_low b k.0) (types_ascii bs k.1)

ava_ascii : (p : Ava) → is_ava p ≡ true → AreAscii (ava_text p)
ava_ascii p h =
    let k = and_parts (is_type p.0) (list_all is_byte p.1) h in
    append p.0 (61 ∷ value_text p.1) (types_ascii p.0 (and_parts (not (eqb (length p.0) 0)) (list_all is_type_byte p.0) k.0).1) (value_ascii true p.1 k.1)

rdn_ascii : (r : Rdn) → is_rdn r ≡ true → AreAscii (rdn_text r)
rdn_ascii r h = joined 43 refl ava_text is_ava ava_ascii r (and_parts (not (eqb (length r) 0)) (list_all is_ava r) h).1

pub name_ascii : (n : Name) → is_name n ≡ true → AreAscii (text_of n)
unfolding text_of
name_ascii n h = joined 44 refl rdn_text is_rdn rdn_ascii n h

pub ascii_utf8 : (text : List ℕ) → AreAscii text → IsUtf8 text
ascii_utf8 text h = IsUtf8-from_ascii text (IsAscii-from_all text (λ k d lt. ltb-true _ 128 (AllPass-from_list_all is_ascii text h k d lt)))
