-- Where names stand: the name of RDNs leads back to them, and what is found are RDNs of the configuration.
use Rattle.std.proofs.Common.{◌≡◌, ℕ, ◌≤◌, Bool, true, false, cond, not, ◌&&◌, ◌||◌, List, [], ◌∷◌, ◌++◌, length, map, reverse, Result, Ok, Err, refl, sym, ap, subst, ◌∙◌, append_assoc, arith, lit≤}
use Rattle.std.specs.Prelude.{◌==◌, nat_eq}
use Rattle.std.specs.List.{list_all, AllByRecursion, IsDistinct}
use Rattle.std.specs.Char.{is_ascii_alphabetic, is_ascii_digit, to_ascii_lowercase}
use Rattle.std.specs.Ordering.{is_eq}
use Rattle.std.proofs.lemmas.Bool.{and_parts, ne_eqb}
use Rattle.std.proofs.lemmas.Bool.Decides.{nat_tests}
use Rattle.std.proofs.lemmas.List.{append-nil, length-map, reverse-append, reverse-reverse}
use Rattle.std.proofs.lemmas.Str.{is_utf8-from_IsUtf8}
use Rattle.std.proofs.lemmas.Cmp.{tied_itself}
use Rattle.values.specs.declared.types.AttributeType.{AttributeType}
use Rattle.schema.specs.declared.code.Code.{Code}
use Rattle.schema.specs.declared.code.Code.TheVariants.{InvalidDnSyntax, NamingViolation, NoSuchObject}
use Rattle.base.specs.Answers.{◌>>=◌}
use Rattle.values.specs.Types.{printed_name, name_of, type_at, is_known, has_equality, first_or}
use Rattle.base.specs.Naming.{is_oid, are_groups, is_name, is_name_byte, is_type_name, is_reserved}
use Rattle.schema.specs.Rdns.{Ava, TypedRdn, is_valid_ava, has_type, ava_type, type_among, avas_from, rdns_from, rdn_key_of}
use Rattle.schema.specs.GoodRdns.{IsAva, IsRdn, type_in}
use Rattle.dn.specs.Names as names
use Rattle.dn.specs.Names.{is_type_byte, is_type, is_byte, is_ava, is_rdn, is_ascii}
use Rattle.dn.specs.Reading as reading
use Rattle.dn.specs.Writing.{text_of}
use Rattle.schema.specs.Names.{or_invalid, name_in, written_ava, written_rdn}
use Rattle.schema.proofs.AvaValues.{HaveBytes, plain_is, valid_are_bytes}
use Rattle.schema.specs.Conf.{Conf, IsConf, IsType, below, place_of, located, name_text}
use Rattle.schema.proofs.Named.{type_is, is_type_at}
use Rattle.paths.specs.PathLaws.{rdn_key_total}
use Rattle.paths.proofs.Unpacked.{all_append}
use Rattle.dn.proofs.Ascii.{ascii_utf8}

both : (a b : Bool) → a ≡ true → b ≡ true → (a && b) ≡ true
both a b h k = ap (λ x. x && b) h ∙ k

-- ---- printed names

name_byte_plain : (b : ℕ) → is_name_byte b ≡ true → is_type_byte b ≡ true
name_byte_plain b h = grind (arith, nat_tests)

letter_plain : (b : ℕ) → is_ascii_alphabetic b ≡ true → is_type_byte b ≡ true
letter_plain b h = grind (arith, nat_tests)

digit_plain : (b : ℕ) → is_ascii_digit b ≡ true → is_type_byte b ≡ true
digit_plain b h = grind (arith, nat_tests)

dot_plain : (b : ℕ) → (b == 46) ≡ true → is_type_byte b ≡ true
dot_plain b h = grind (arith, nat_tests)

digit_is_low : (b : ℕ) → is_ascii_digit b ≡ true → (100 == to_ascii_lowercase b) ≡ false
digit_is_low b h = grind (arith, nat_tests)

names_plain : (bs : List ℕ) → list_all is_name_byte bs ≡ true → list_all is_type_byte bs ≡ true
names_plain [] h = refl
names_plain (b ∷ bs) h =
    let k = and_parts (is_name_byte b) (list_all is_name_byte bs) h in
    both (is_type_byte b) (list_all is_type_byte bs) (name_byte_plain b k.0) (names_plain bs k.1)

text_from : (b : ℕ) (bs : List ℕ) → list_all is_type_byte (b ∷ bs) ≡ true → is_type (b ∷ bs) ≡ true
text_from b bs h = both (not (length (b ∷ bs) == 0)) (list_all is_type_byte (b ∷ bs)) (ap not (ne_eqb (length (b ∷ bs)) 0 (λ e. omega arith))) h

name_is_text : (t : List ℕ) → is_name t ≡ true → is_type t ≡ true
name_is_text [] h = absurd cc
name_is_text (b ∷ bs) h =
    let k = and_parts (is_ascii_alphabetic b) (list_all is_name_byte bs) h in
    text_from b bs (both (is_type_byte b) (list_all is_type_byte bs) (letter_plain b k.0) (names_plain bs k.1))

groups_plain : (due : Bool) (bs : List ℕ) → are_groups due bs ≡ true → list_all is_type_byte bs ≡ true
unfolding are_groups
groups_plain due [] h = refl
groups_plain due (b ∷ bs) h =
    elim (is_ascii_digit b) as (λ d. is_ascii_digit b ≡ d → cond d (are_groups false bs) (b == 46 && not due && are_groups true bs) ≡ true → list_all is_type_byte (b ∷ bs) ≡ true) [
      | true ↦ λ is k. both (is_type_byte b) (list_all is_type_byte bs) (digit_plain b is) (groups_plain false bs k)
      | false ↦ λ is k.
          let p = and_parts (b == 46 && not due) (are_groups true bs) k in
          both (is_type_byte b) (list_all is_type_byte bs) (dot_plain b (and_parts (b == 46) (not due) p.0).0) (groups_plain true bs p.1)
    ] refl h

-- an OID begins with a digit
oid_digit : (b : ℕ) (bs : List ℕ) → is_oid (b ∷ bs) ≡ true → is_ascii_digit b ≡ true
unfolding are_groups
oid_digit b bs h =
    elim (is_ascii_digit b) as (λ d. cond d (are_groups false bs) (b == 46 && false && are_groups true bs) ≡ true → d ≡ true) [
      | true ↦ λ k. refl
      | false ↦ λ k. (and_parts (b == 46) false (and_parts (b == 46 && false) (are_groups true bs) k).0).1
    ] h

oid_is_text : (t : List ℕ) → is_oid t ≡ true → is_type t ≡ true
unfolding are_groups
oid_is_text [] h = absurd cc
oid_is_text (b ∷ bs) h = text_from b bs (groups_plain true (b ∷ bs) h)

letter_differs : (c b : ℕ) → 97 ≤ c → is_ascii_digit b ≡ true → (c == to_ascii_lowercase b) ≡ false
letter_differs c b h k = grind (arith, nat_tests)

four_off : (a b c d p q r s : Bool) → a ≡ false → b ≡ false → c ≡ false → d ≡ false → ((a && p) || ((b && q) || ((c && r) || ((d && s) || false)))) ≡ false
four_off a b c d p q r s h k l m = rw (h, k, l, m) refl

-- the words that are reserved begin with letters
oid_isnt_reserved : (t : List ℕ) → is_oid t ≡ true → is_reserved t ≡ false
unfolding are_groups
oid_isnt_reserved [] h = absurd cc
oid_isnt_reserved (b ∷ bs) h =
    let d = oid_digit b bs h in
    four_off (100 == to_ascii_lowercase b) (118 == to_ascii_lowercase b) (99 == to_ascii_lowercase b) (99 == to_ascii_lowercase b) _ _ _ _
    (letter_differs 100 b (lit≤ tt) d) (letter_differs 118 b (lit≤ tt) d) (letter_differs 99 b (lit≤ tt) d) (letter_differs 99 b (lit≤ tt) d)

not_true : (b : Bool) → not b ≡ true → b ≡ false
not_true true h = sym h
not_true false h = refl

printed_text : (t : AttributeType) → IsType t → is_type (printed_name t) ≡ true
printed_text t h = by t.names h.names
  where
    by : (ns : List (List ℕ)) → list_all is_type_name ns ≡ true → is_type (first_or ns t.oid) ≡ true
    by [] k = oid_is_text t.oid h.oid
    by (n ∷ ns) k = name_is_text n (and_parts (is_name n) (not (is_reserved n)) (and_parts (is_type_name n) (list_all is_type_name ns) k).0).0

printed_free : (t : AttributeType) → IsType t → is_reserved (printed_name t) ≡ false
printed_free t h = by t.names h.names
  where
    by : (ns : List (List ℕ)) → list_all is_type_name ns ≡ true → is_reserved (first_or ns t.oid) ≡ false
    by [] k = oid_isnt_reserved t.oid h.oid
    by (n ∷ ns) k = not_true (is_reserved n) (and_parts (is_name n) (not (is_reserved n)) (and_parts (is_type_name n) (list_all is_type_name ns) k).0).1

pub printed_is_text : (conf : Conf) (t : ℕ) → IsConf conf → is_known conf.types t ≡ true → is_type (name_of conf.types t) ≡ true
printed_is_text conf t h known = printed_text (type_at conf.types t) (is_type_at conf t h known)

pub printed_isnt_reserved : (conf : Conf) (t : ℕ) → IsConf conf → is_known conf.types t ≡ true → is_reserved (name_of conf.types t) ≡ false
printed_isnt_reserved conf t h known = printed_free (type_at conf.types t) (is_type_at conf t h known)

-- ---- from RDNs to their name and back

pub all_reverse : {X : Type 0} (P : X → Type 0) (xs : List X) → AllByRecursion P xs → AllByRecursion P (reverse xs)
all_reverse P [] h = tt
all_reverse P (x ∷ xs) h = subst (AllByRecursion P) (sym (reverse-append (x ∷ []) xs)) (all_append P (reverse xs) (x ∷ []) (all_reverse P xs h.1) (h.0, tt))

pub all_mapped : {X Y : Type 0} (P : X → Type 0) (Q : Y → Type 0) (f : X → Y) → ((x : X) → P x → Q (f x)) → (xs : List X) → AllByRecursion P xs → AllByRecursion Q (map f xs)
all_mapped P Q f g [] h = tt
all_mapped P Q f g (x ∷ xs) h = (g x h.0, all_mapped P Q f g xs h.1)

abbrev rdns_ok : List TypedRdn → Result (List TypedRdn) Code
rdns_ok rs = Ok rs

abbrev rdn_ok : TypedRdn → Result TypedRdn Code
rdn_ok r = Ok r

abbrev type_ok : ℕ → Result ℕ Code
type_ok t = Ok t

abbrev names_ok : names.Name → Result names.Name Code
names_ok n = Ok n

pub below_is : (types : List AttributeType) (ss rs : List TypedRdn) → below types ss (ss ++ rs) ≡ Ok rs
unfolding below
below_is types [] rs = refl
below_is types (s ∷ ss) rs =
    ap (λ b. cond b (below types ss (ss ++ rs)) (Err NoSuchObject)) (ap is_eq (tied_itself rdn_key_total (rdn_key_of types s))) ∙ below_is types ss rs

-- no AVA before another is of its type
apart_before : (earlier : TypedRdn) (p : Ava) (ps : TypedRdn) → IsDistinct nat_eq (map type_in (earlier ++ p ∷ ps)) → has_type p.0 earlier ≡ false
unfolding IsDistinct
apart_before [] p ps h = refl
apart_before (q ∷ qs) p ps h = ap (λ b. b || has_type p.0 qs) (before qs h.0) ∙ apart_before qs p ps h.1
  where
    before : (rs : TypedRdn) → AllByRecursion (λ t. nat_eq q.0 t ≡ false) (map type_in (rs ++ p ∷ ps)) → nat_eq q.0 p.0 ≡ false
    before [] k = k.0
    before (r ∷ rs) k = before rs k.1

-- what a law of names says: a written name is read
abbrev pub ReadsWritten : Type 0
ReadsWritten = (n : names.Name) → names.is_name n ≡ true → reading.name_of (text_of n) ≡ Ok n

abbrev pub WritesAscii : Type 0
WritesAscii = (n : names.Name) → names.is_name n ≡ true → list_all is_ascii (text_of n) ≡ true

module _ (bytes : HaveBytes) (conf : Conf) (c : IsConf conf) where
  -- an RDN of the configuration can be written
  ava_is : (p : Ava) → IsAva conf.types p → is_ava (written_ava conf.types p) ≡ true
  ava_is p h = both (is_type (name_of conf.types p.0)) (list_all is_byte p.1) (printed_is_text conf p.0 c h.known) (valid_are_bytes bytes conf.types p.0 p.1 h.valid)

  avas_are : (ps : TypedRdn) → AllByRecursion (IsAva conf.types) ps → list_all is_ava (written_rdn conf.types ps) ≡ true
  avas_are [] h = refl
  avas_are (p ∷ ps) h = both (is_ava (written_ava conf.types p)) (list_all is_ava (written_rdn conf.types ps)) (ava_is p h.0) (avas_are ps h.1)

  rdn_is : (r : TypedRdn) → IsRdn conf.types r → is_rdn (written_rdn conf.types r) ≡ true
  rdn_is r h =
      both (not (length (written_rdn conf.types r) == 0)) (list_all is_ava (written_rdn conf.types r))
      (ap (λ n. not (n == 0)) (length-map r (written_ava conf.types)) ∙ ap not h.some) (avas_are r h.avas)

  pub name_is : (rs : List TypedRdn) → AllByRecursion (IsRdn conf.types) rs → names.is_name (map (written_rdn conf.types) rs) ≡ true
  name_is [] h = refl
  name_is (r ∷ rs) h = both (is_rdn (written_rdn conf.types r)) (names.is_name (map (written_rdn conf.types) rs)) (rdn_is r h.0) (name_is rs h.1)

  -- the RDNs of an entry, and those of the suffix behind them
  abbrev pub all_of : List TypedRdn → List TypedRdn
  all_of rs = reverse rs ++ conf.suffix

  pub all_are : (rs : List TypedRdn) → AllByRecursion (IsRdn conf.types) rs → AllByRecursion (IsRdn conf.types) (all_of rs)
  all_are rs h = all_append (IsRdn conf.types) (reverse rs) conf.suffix (all_reverse (IsRdn conf.types) rs h) c.suffix

  ava_typed : (earlier : TypedRdn) (p : Ava) → IsAva conf.types p → has_type p.0 earlier ≡ false → ava_type conf.types earlier (written_ava conf.types p) ≡ Ok p.0
  ava_typed earlier p h apart =
      ap (type_among conf.types earlier p.1) (type_is conf p.0 c h.known)
      ∙ ap (λ b. cond b (Err InvalidDnSyntax) (cond (not (has_equality conf.types p.0)) (Err NamingViolation) (cond (not (is_valid_ava conf.types p.0 p.1)) (Err InvalidDnSyntax) (cond (has_type p.0 earlier) (Err NamingViolation) (type_ok p.0))))) h.no_name
      ∙ ap (λ b. cond (not b) (Err NamingViolation) (cond (not (is_valid_ava conf.types p.0 p.1)) (Err InvalidDnSyntax) (cond (has_type p.0 earlier) (Err NamingViolation) (type_ok p.0)))) h.comparable
      ∙ ap (λ b. cond (not b) (Err InvalidDnSyntax) (cond (has_type p.0 earlier) (Err NamingViolation) (type_ok p.0))) (sym (plain_is conf.types p.0 p.1 h.no_name) ∙ h.valid)
      ∙ ap (λ b. cond b (Err NamingViolation) (type_ok p.0)) apart

  avas_typed : (earlier ps : TypedRdn) → AllByRecursion (IsAva conf.types) ps → IsDistinct nat_eq (map type_in (earlier ++ ps)) → avas_from conf.types earlier (written_rdn conf.types ps) ≡ Ok (earlier ++ ps)
  unfolding avas_from
  avas_typed earlier [] h apart = ap rdn_ok (sym (append-nil earlier))
  avas_typed earlier (p ∷ ps) h apart =
      ap (λ (x : Result ℕ Code). x >>= λ t. avas_from conf.types (earlier ++ (t, p.1) ∷ []) (written_rdn conf.types ps)) (ava_typed earlier p h.0 (apart_before earlier p ps apart))
      ∙ avas_typed (earlier ++ p ∷ []) ps h.1 (subst (λ (r : TypedRdn). IsDistinct nat_eq (map type_in r)) (sym (append_assoc earlier (p ∷ []) ps)) apart)
      ∙ ap rdn_ok (append_assoc earlier (p ∷ []) ps)

  pub rdns_typed : (done rs : List TypedRdn) → AllByRecursion (IsRdn conf.types) rs → rdns_from conf.types done (map (written_rdn conf.types) rs) ≡ Ok (done ++ rs)
  unfolding rdns_from
  rdns_typed done [] h = ap rdns_ok (sym (append-nil done))
  rdns_typed done (r ∷ rs) h =
      ap (λ (x : Result TypedRdn Code). x >>= λ y. rdns_from conf.types (done ++ y ∷ []) (map (written_rdn conf.types) rs)) (avas_typed [] r h.0.avas h.0.types_apart)
      ∙ rdns_typed (done ++ r ∷ []) rs h.1
      ∙ ap rdns_ok (append_assoc done (r ∷ []) rs)

  pub name_ascii : WritesAscii → (rs : List TypedRdn) → AllByRecursion (IsRdn conf.types) rs → list_all is_ascii (name_text conf rs) ≡ true
  unfolding name_text
  name_ascii ascii rs h = ascii (map (written_rdn conf.types) (all_of rs)) (name_is (all_of rs) (all_are rs h))

  name_read : ReadsWritten → WritesAscii → (rs : List TypedRdn) → AllByRecursion (IsRdn conf.types) rs → name_in (name_text conf rs) ≡ Ok (map (written_rdn conf.types) (all_of rs))
  unfolding name_in name_text
  name_read read ascii rs h =
      let n : names.Name = map (written_rdn conf.types) (all_of rs) in
      let good = name_is (all_of rs) (all_are rs h) in
      ap (λ b. cond b (or_invalid (reading.name_of (text_of n))) (Err InvalidDnSyntax)) (is_utf8-from_IsUtf8 (text_of n) (ascii_utf8 (text_of n) (ascii n good)))
      ∙ ap or_invalid (read n good)

  -- the name of these RDNs stands where they say
  pub located_is : ReadsWritten → WritesAscii → (rs : List TypedRdn) → AllByRecursion (IsRdn conf.types) rs → located conf (name_text conf rs) ≡ Ok rs
  unfolding located place_of
  located_is read ascii rs h =
      ap (λ (x : Result names.Name Code). x >>= place_of conf) (name_read read ascii rs h)
      ∙ ap (λ (x : Result (List TypedRdn) Code). x >>= λ ys. below conf.types (reverse conf.suffix) (reverse ys)) (rdns_typed [] (all_of rs) (all_are rs h))
      ∙ ap (below conf.types (reverse conf.suffix)) (reverse-append (reverse rs) conf.suffix ∙ ap (λ (x : List TypedRdn). reverse conf.suffix ++ x) (reverse-reverse rs))
      ∙ below_is conf.types (reverse conf.suffix) rs
