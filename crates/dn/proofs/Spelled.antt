-- What is written spells the name.
use Rattle.std.proofs.Common.{◌≡◌, ℕ, ◌+◌, ◌*◌, ◌/◌, ◌%◌, ◌<◌, Bool, true, false, cond, not, ◌&&◌, ◌||◌, eqb, List, [], ◌∷◌, ◌++◌, map, length, refl, sym, ap, ◌∙◌, arith}
use Rattle.std.specs.List.{list_all, join_with_byte}
use Rattle.std.proofs.lemmas.List.{append-nil}
use Rattle.std.proofs.lemmas.Bool.{and_parts, ltb-true}
use Rattle.std.proofs.lemmas.Bool.Decides.{nat_tests}
use Rattle.dn.specs.Names.{Ava, Rdn, Name, is_byte, is_type, is_ava, is_rdn, is_name}
use Rattle.dn.specs.Spelling.{Octet, may_stand, may_follow, is_hex, hex, IsOctet, AreOctets, is_raw_space, begins_well, ends_well, byte_of, SpellsAva, AreJoined, SpellsRdn, Spells}
use Rattle.dn.specs.Writing.{digit, is_nothing, needs_pair, stands, written, text_from, value_text, ava_text, rdn_text, text_of}

-- ---- a byte

digit_hex : (d : ℕ) → d < 16 → is_hex (digit d) ≡ true
digit_hex d lt = grind (arith, nat_tests)

digit_value : (d : ℕ) → d < 16 → hex (digit d) ≡ d
digit_value d lt = grind (arith, nat_tests)

-- a byte that may not stand raw there may follow a backslash
may_follow_else : (first last : Bool) (b : ℕ) → needs_pair b ≡ false → stands first last b ≡ false → may_follow b ≡ true
may_follow_else first last b h e = grind (arith, nat_tests)

no_raw_space : (first : Bool) (b : ℕ) → stands first true b ≡ true → eqb b 32 ≡ false
no_raw_space first b e = grind (arith, nat_tests)

no_raw_front : (last : Bool) (b : ℕ) → stands true last b ≡ true → (eqb b 32 || eqb b 35) ≡ false
no_raw_front last b e = grind (arith, nat_tests)

stood : (first last : Bool) (b : ℕ) → stands first last b ≡ true → may_stand b ≡ true
stood first last b e = (and_parts (may_stand b) (not (eqb b 32 && (first || last))) (and_parts (may_stand b && not (eqb b 32 && (first || last))) (not (eqb b 35 && first)) e).0).0

-- these bytes are an octet of that byte: no raw space at the end, no raw space or number sign at the front
record Written (front : List ℕ) (b : ℕ) (first last : Bool) : Type 0 where
  pub octet : Octet
  pub is : IsOctet octet front
  pub byte : byte_of octet ≡ b
  pub ends : last ≡ true → is_raw_space octet ≡ false
  pub begins : first ≡ true → not (octet.raw && (eqb octet.byte 32 || eqb octet.byte 35)) ≡ true

pair_is : (b : ℕ) → b < 256 → b ≡ 16 * hex (digit (b / 16)) + hex (digit (b % 16))
pair_is b lt = rw (digit_value (b / 16) (omega arith), digit_value (b % 16) (omega arith)) (omega arith)

raw_ends : (first last : Bool) (b : ℕ) → stands first last b ≡ true → last ≡ true → eqb b 32 ≡ false
raw_ends first last b h e = no_raw_space first b (ap (λ (l : Bool). stands first l b) (sym e) ∙ h)

raw_begins : (first last : Bool) (b : ℕ) → stands first last b ≡ true → first ≡ true → not (eqb b 32 || eqb b 35) ≡ true
raw_begins first last b h e = ap not (no_raw_front last b (ap (λ (f : Bool). stands f last b) (sym e) ∙ h))

written_by : (first last : Bool) (b : ℕ) (c r : Bool) → b < 256 → needs_pair b ≡ c → stands first last b ≡ r
    → Written (cond c (92 ∷ digit (b / 16) ∷ digit (b % 16) ∷ []) (cond r (b ∷ []) (92 ∷ b ∷ []))) b first last
written_by first last b true r lt e f = record {
  octet = record { raw = false; byte = b };
  is = (refl, digit_hex (b / 16) (omega arith), digit_hex (b % 16) (omega arith), ap (λ (x : ℕ). record { raw = false; byte = x }) (pair_is b lt));
  byte = refl;
  ends = λ _. refl;
  begins = λ _. refl;
}
written_by first last b false true lt e f = record {
  octet = record { raw = true; byte = b };
  is = (stood first last b f, refl);
  byte = refl;
  ends = raw_ends first last b f;
  begins = raw_begins first last b f;
}
written_by first last b false false lt e f = record {
  octet = record { raw = false; byte = b };
  is = (refl, may_follow_else first last b e f, refl);
  byte = refl;
  ends = λ _. refl;
  begins = λ _. refl;
}

a_byte : (first last : Bool) (b : ℕ) → b < 256 → Written (written first last b) b first last
unfolding written
a_byte first last b lt = written_by first last b (needs_pair b) (stands first last b) lt refl refl

-- ---- a value

abbrev AreBytes : List ℕ → Type 0
AreBytes v = list_all is_byte v ≡ true

first_byte : (b : ℕ) (bs : List ℕ) → AreBytes (b ∷ bs) → b < 256
first_byte b bs h = ltb-true b 256 (and_parts (is_byte b) (list_all is_byte bs) h).0

others : (b : ℕ) (bs : List ℕ) → AreBytes (b ∷ bs) → AreBytes bs
others b bs h = (and_parts (is_byte b) (list_all is_byte bs) h).1

octet_at : (first : Bool) (b : ℕ) (bs : List ℕ) → AreBytes (b ∷ bs) → Written (written first (is_nothing bs) b) b first (is_nothing bs)
octet_at first b bs h = a_byte first (is_nothing bs) b (first_byte b bs h)

octets : (first : Bool) (v : List ℕ) → AreBytes v → List Octet
octets first [] h = []
octets first (b ∷ bs) h = (octet_at first b bs h).octet ∷ octets false bs (others b bs h)

octets_are : (first : Bool) (v : List ℕ) (h : AreBytes v) → AreOctets (octets first v h) (text_from first v)
unfolding octets text_from
octets_are first [] h = refl
octets_are first (b ∷ bs) h = (written first (is_nothing bs) b, text_from false bs, (octet_at first b bs h).is, refl, octets_are false bs (others b bs h))

octets_give : (first : Bool) (v : List ℕ) (h : AreBytes v) → v ≡ map byte_of (octets first v h)
unfolding octets
octets_give first [] h = refl
octets_give first (b ∷ bs) h =
    ap (λ (x : ℕ). x ∷ bs) (sym (octet_at first b bs h).byte) ∙ ap (λ (xs : List ℕ). (octet_at first b bs h).octet.byte ∷ xs) (octets_give false bs (others b bs h))

octets_end : (first : Bool) (v : List ℕ) (h : AreBytes v) → ends_well (octets first v h) ≡ true
unfolding octets
octets_end first [] h = refl
octets_end first (b ∷ []) h = ap not ((octet_at first b [] h).ends refl)
octets_end first (b ∷ c ∷ bs) h = octets_end false (c ∷ bs) (others b (c ∷ bs) h)

octets_begin : (v : List ℕ) (h : AreBytes v) → begins_well (octets true v h) ≡ true
unfolding octets
octets_begin [] h = refl
octets_begin (b ∷ bs) h = (octet_at true b bs h).begins refl

-- ---- an AVA, an RDN, a name

pub ava_spelled : (p : Ava) → is_ava p ≡ true → SpellsAva (ava_text p) p
ava_spelled p h =
    let k = and_parts (is_type p.0) (list_all is_byte p.1) h in
    record {
      before = 0;
      between = 0;
      after = 0;
      behind = 0;
      octets = octets true p.1 k.1;
      body = value_text p.1;
      text_is = ap (λ (x : List ℕ). p.0 ++ 61 ∷ x) (sym (append-nil (value_text p.1)));
      type_is = k.0;
      body_is = octets_are true p.1 k.1;
      begins = octets_begin p.1 k.1;
      ends = octets_end true p.1 k.1;
      value_is = octets_give true p.1 k.1;
    }

joined_spelled : {X : Type 0} (P : List ℕ → X → Type 0) (sep : ℕ) (text : X → List ℕ) (good : X → Bool) → ((x : X) → good x ≡ true → P (text x) x)
    → (x : X) (xs : List X) → list_all good (x ∷ xs) ≡ true → AreJoined P sep (join_with_byte sep (map text (x ∷ xs))) (x ∷ xs)
joined_spelled P sep text good is x [] h = is x (and_parts (good x) true h).0
joined_spelled P sep text good is x (y ∷ ys) h =
    let k = and_parts (good x) (list_all good (y ∷ ys)) h in
    (text x, join_with_byte sep (map text (y ∷ ys)), is x k.0, refl, joined_spelled P sep text good is y ys k.1)

rdn_spelled : (r : Rdn) → is_rdn r ≡ true → SpellsRdn (rdn_text r) r
rdn_spelled [] h = absurd cc
rdn_spelled (p ∷ ps) h = joined_spelled SpellsAva 43 ava_text is_ava ava_spelled p ps (and_parts (not (eqb (length (p ∷ ps)) 0)) (list_all is_ava (p ∷ ps)) h).1

pub name_spelled : (n : Name) → is_name n ≡ true → Spells (text_of n) n
unfolding text_of
name_spelled [] h = (0, refl)
name_spelled (r ∷ rs) h = joined_spelled SpellsRdn 44 rdn_text is_rdn rdn_spelled r rs h
