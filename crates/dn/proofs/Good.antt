-- A name that a text of bytes spells can be written.
use Rattle.std.proofs.Common.{◌≡◌, ℕ, suc, ◌+◌, ◌*◌, ◌<◌, Bool, true, not, ◌&&◌, eqb, List, [], ◌∷◌, ◌++◌, map, length, refl, sym, ap, subst, ◌∙◌, arith}
use Rattle.std.specs.List.{list_all}
use Rattle.std.proofs.lemmas.Bool.{and_parts, lt-ltb}
use Rattle.std.proofs.lemmas.Bool.Decides.{nat_tests}
use Rattle.std.proofs.lemmas.List.Folds.{list_all-append}
use Rattle.dn.specs.Names.{Ava, Rdn, Name, is_byte, is_type, is_ava, is_rdn, is_name}
use Rattle.dn.specs.Spelling.{Octet, may_follow, is_hex, hex, IsOctet, AreOctets, byte_of, spaces, SpellsAva, AreJoined, SpellsRdn, Spells}

abbrev AreBytes : List ℕ → Type 0
AreBytes text = list_all is_byte text ≡ true

both : (a b : Bool) → a ≡ true → b ≡ true → (a && b) ≡ true
both a b h k = ap (λ (x : Bool). x && b) h ∙ k

-- the two parts of a text
cut : (xs ys : List ℕ) → AreBytes (xs ++ ys) → AreBytes xs × AreBytes ys
cut xs ys h = and_parts (list_all is_byte xs) (list_all is_byte ys) (sym (list_all-append is_byte xs ys) ∙ h)

behind : (b : ℕ) (bs : List ℕ) → AreBytes (b ∷ bs) → AreBytes bs
behind b bs h = (and_parts (is_byte b) (list_all is_byte bs) h).1

follow_byte : (b : ℕ) → may_follow b ≡ true → is_byte b ≡ true
follow_byte b h = grind (arith, nat_tests)

digit_low : (b : ℕ) → is_hex b ≡ true → hex b < 16
digit_low b h = grind (arith, nat_tests)

pair_byte : (b c : ℕ) → is_hex b ≡ true → is_hex c ≡ true → is_byte (16 * hex b + hex c) ≡ true
pair_byte b c h k = let low = digit_low b h in let lower = digit_low c k in lt-ltb (16 * hex b + hex c) 256 (omega arith)

octet_byte : (o : Octet) (front : List ℕ) → IsOctet o front → AreBytes front → is_byte o.byte ≡ true
octet_byte o [] is h = absurd is
octet_byte o (b ∷ []) is h = ap (λ (x : Octet). is_byte x.byte) is.1 ∙ (and_parts (is_byte b) true h).0
octet_byte o (s ∷ b ∷ []) is h = ap (λ (x : Octet). is_byte x.byte) is.2 ∙ follow_byte b is.1
octet_byte o (s ∷ b ∷ c ∷ []) is h = ap (λ (x : Octet). is_byte x.byte) is.3 ∙ pair_byte b c is.1 is.2
octet_byte o (s ∷ b ∷ c ∷ d ∷ bs) is h = absurd is

octets_bytes : (os : List Octet) (body : List ℕ) → AreOctets os body → AreBytes body → AreBytes (map byte_of os)
octets_bytes [] body e h = refl
octets_bytes (o ∷ os) body (front, rest, is, e, are) h =
    let k = cut front rest (subst AreBytes e h) in
    both (is_byte o.byte) (list_all is_byte (map byte_of os)) (octet_byte o front is k.0) (octets_bytes os rest are k.1)

ava_good : (text : List ℕ) (p : Ava) → SpellsAva text p → AreBytes text → is_ava p ≡ true
ava_good text p s h =
    let value = s.body ++ spaces s.behind in
    let equals = 61 ∷ (spaces s.after ++ value) in
    let a = (cut (spaces s.before) (p.0 ++ (spaces s.between ++ equals)) (subst AreBytes s.text_is h)).1 in
    let b = (cut (spaces s.between) equals (cut p.0 (spaces s.between ++ equals) a).1).1 in
    let c = (cut (spaces s.after) value (behind 61 (spaces s.after ++ value) b)).1 in
    both (is_type p.0) (list_all is_byte p.1) s.type_is (subst AreBytes (sym s.value_is) (octets_bytes s.octets s.body s.body_is (cut s.body (spaces s.behind) c).0))

joined_good : {X : Type 0} (P : List ℕ → X → Type 0) (sep : ℕ) (good : X → Bool) → ((text : List ℕ) (x : X) → P text x → AreBytes text → good x ≡ true)
    → (text : List ℕ) (xs : List X) → AreJoined P sep text xs → AreBytes text → list_all good xs ≡ true
joined_good P sep good is text [] j h = absurd j
joined_good P sep good is text (x ∷ []) j h = both (good x) true (is text x j h) refl
joined_good P sep good is text (x ∷ y ∷ ys) (front, rest, s, e, more) h =
    let k = cut front (sep ∷ rest) (subst AreBytes e h) in
    both (good x) (list_all good (y ∷ ys)) (is front x s k.0) (joined_good P sep good is rest (y ∷ ys) more (behind sep rest k.1))

rdn_good : (text : List ℕ) (r : Rdn) → SpellsRdn text r → AreBytes text → is_rdn r ≡ true
rdn_good text [] s h = absurd s
rdn_good text (p ∷ ps) s h = both (not (eqb (length (p ∷ ps)) 0)) (list_all is_ava (p ∷ ps)) (some (length ps)) (joined_good SpellsAva 43 is_ava ava_good text (p ∷ ps) s h)
  where
    some : (n : ℕ) → not (eqb (suc n) 0) ≡ true
    some n = grind (arith, nat_tests)

pub name_good : (text : List ℕ) (n : Name) → Spells text n → AreBytes text → is_name n ≡ true
name_good text [] s h = refl
name_good text (r ∷ rs) s h = joined_good SpellsRdn 44 is_rdn rdn_good text (r ∷ rs) s h
