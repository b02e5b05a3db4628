-- What is located are RDNs of the configuration.
use Rattle.std.proofs.Common.{◌≡◌, ℕ, ◌+◌, ◌<◌, Bool, true, false, cond, not, List, [], ◌∷◌, ◌++◌, length, map, reverse, Option, Some, None, Result, Ok, Err, refl, sym, ap, subst, ◌∙◌, arith}
use Rattle.std.specs.Prelude.{nat_eq, ◌==◌, IfOk}
use Rattle.std.specs.List.{list_all, AllByRecursion, IsDistinct}
use Rattle.std.specs.Str.{is_utf8}
use Rattle.std.proofs.lemmas.Bool.{and_parts, lt-ltb, ltb-true, ne_eqb, or_parts}
use Rattle.std.proofs.lemmas.List.{length-append}
use Rattle.std.proofs.lemmas.List.Quantifiers.{position-Some}
use Rattle.values.specs.declared.types.AttributeType.{AttributeType}
use Rattle.schema.specs.declared.code.Code.{Code}
use Rattle.schema.specs.declared.code.Code.TheVariants.{InvalidDnSyntax, NamingViolation, NoSuchObject}
use Rattle.base.proofs.Bound.{bind_ok, same_ok}
use Rattle.dn.specs.Names as names
use Rattle.dn.specs.Reading as reading
use Rattle.dn.specs.Spelling.{Spells, SpellsRdn, AreJoined}
use Rattle.dn.specs.declared.faults.NameFaultKind.{NameFaultKind}
use Rattle.values.specs.Types.{is_named, type_of, no_type, is_known, has_equality}
use Rattle.schema.proofs.AvaValues.{plain_is}
use Rattle.schema.specs.Rdns.{Ava, TypedRdn, is_valid_ava, has_type, ava_type, type_among, avas_from, typed_rdn, rdns_from, typed, rdn_key_of}
use Rattle.schema.specs.declared.fault.PathFault.{PathFault}
use Rattle.schema.specs.Gives.{Gives}
use Rattle.schema.specs.GoodRdns.{IsAva, IsRdn, type_in}
use Rattle.schema.specs.Names.{or_invalid, name_in}
use Rattle.schema.specs.inner.Keys.{AreKnown}
use Rattle.schema.specs.TypeRules.{has_name_syntax}
use Rattle.schema.specs.Conf.{Conf, same_rdn_key, below, place_of, located}
use Rattle.paths.proofs.Unpacked.{all_append}
use Rattle.schema.proofs.Locating.{all_reverse}

-- ---- a name's RDNs have AVAs

-- what a law of names says: what is read was spelled so
abbrev pub SpellsRead : Type 0
SpellsRead = (text : List ℕ) (n : names.Name) → reading.name_of text ≡ Ok n → Spells text n

abbrev pub HasAvas : names.Rdn → Type 0
HasAvas r = (length r == 0) ≡ false

some_avas : (p : names.Ava) (ps : names.Rdn) → HasAvas (p ∷ ps)
some_avas p ps = ne_eqb (length (p ∷ ps)) 0 (λ e. omega arith)

spelled_some : (text : List ℕ) (r : names.Rdn) → SpellsRdn text r → HasAvas r
spelled_some text [] h = absurd h
spelled_some text (p ∷ ps) h = some_avas p ps

joined_some : (text : List ℕ) (r : names.Rdn) (rs : names.Name) → AreJoined SpellsRdn 44 text (r ∷ rs) → AllByRecursion HasAvas (r ∷ rs)
joined_some text r [] h = (spelled_some text r h, tt)
joined_some text r (s ∷ rs) h = (spelled_some h.0 r h.2, joined_some h.1 s rs h.4)

name_some : (text : List ℕ) (n : names.Name) → Spells text n → AllByRecursion HasAvas n
name_some text [] h = tt
name_some text (r ∷ rs) h = joined_some text r rs h

not_true : (b : Bool) → not b ≡ true → b ≡ false
not_true true h = sym h
not_true false h = refl

pub name_has_avas : SpellsRead → (text : List ℕ) (n : names.Name) → name_in text ≡ Ok n → AllByRecursion HasAvas n
unfolding name_in
name_has_avas read text n e =
    elim (is_utf8 text) as (λ b. cond b (or_invalid (reading.name_of text)) (Err InvalidDnSyntax) ≡ Ok n → AllByRecursion HasAvas n) [
      | true ↦ λ is. by (reading.name_of text) refl is
      | false ↦ λ is. absurd cc
    ] e
  where
    by : (r : Result names.Name NameFaultKind) → reading.name_of text ≡ r → or_invalid r ≡ Ok n → AllByRecursion HasAvas n
    by (Ok m) is said = subst (AllByRecursion HasAvas) (same_ok m n said) (name_some text m (read text m is))
    by (Err fault) is said = absurd cc

-- ---- the AVAs of an RDN

pub found_is_known : (types : List AttributeType) (text : List ℕ) (t : ℕ) → type_of types text ≡ Some t → is_known types t ≡ true
unfolding type_of
found_is_known types text t e = lt-ltb t (length types) (position-Some (is_named text) types t no_type e).0

record IsNext (types : List AttributeType) (earlier : TypedRdn) (p : Ava) : Type 0 where
  good : IsAva types p
  apart : has_type p.0 earlier ≡ false

is_not : (b : Bool) → not b ≡ false → b ≡ true
is_not true h = refl
is_not false h = sym h

ava_is : (types : List AttributeType) (earlier : TypedRdn) (p : names.Ava) (t : ℕ) → ava_type types earlier p ≡ Ok t → IsNext types earlier (t, p.1)
ava_is types earlier p t e = by (type_of types p.0) refl e
  where
    checked : (s : ℕ) → type_of types p.0 ≡ Some s → (n q v d : Bool) → has_name_syntax types s ≡ n → not (has_equality types s) ≡ q → not (is_valid_ava types s p.1) ≡ v → has_type s earlier ≡ d
        → ◌≡◌ {A = Result ℕ Code} (cond n (Err InvalidDnSyntax) (cond q (Err NamingViolation) (cond v (Err InvalidDnSyntax) (cond d (Err NamingViolation) (Ok s))))) (Ok t) → IsNext types earlier (t, p.1)
    checked s is true q v d n-is q-is v-is d-is said = absurd cc
    checked s is false true v d n-is q-is v-is d-is said = absurd cc
    checked s is false false true d n-is q-is v-is d-is said = absurd cc
    checked s is false false false true n-is q-is v-is d-is said = absurd cc
    checked s is false false false false n-is q-is v-is d-is said =
        subst (λ (x : ℕ). IsNext types earlier (x, p.1)) (same_ok s t said) (record {
          good = record { known = found_is_known types p.0 s is; no_name = n-is; comparable = is_not (has_equality types s) q-is; valid = plain_is types s p.1 n-is ∙ is_not (is_valid_ava types s p.1) v-is };
          apart = d-is;
        })

    by : (o : Option ℕ) → type_of types p.0 ≡ o → type_among types earlier p.1 o ≡ Ok t → IsNext types earlier (t, p.1)
    by None is said = absurd cc
    by (Some s) is said = checked s is (has_name_syntax types s) (not (has_equality types s)) (not (is_valid_ava types s p.1)) (has_type s earlier) refl refl refl refl said

-- one more type, which none before it is
distinct_more : (r : TypedRdn) (p : Ava) → IsDistinct nat_eq (map type_in r) → has_type p.0 r ≡ false → IsDistinct nat_eq (map type_in (r ++ p ∷ []))
unfolding IsDistinct
distinct_more [] p h none = (tt, tt)
distinct_more (q ∷ qs) p h none =
    let k = or_parts (nat_eq q.0 p.0) (has_type p.0 qs) none in
    (before qs h.0 k.0, distinct_more qs p h.1 k.1)
  where
    before : (rs : TypedRdn) → AllByRecursion (λ t. nat_eq q.0 t ≡ false) (map type_in rs) → nat_eq q.0 p.0 ≡ false → AllByRecursion (λ t. nat_eq q.0 t ≡ false) (map type_in (rs ++ p ∷ []))
    before [] k off = (off, tt)
    before (r ∷ rs) k off = (k.0, before rs k.1 off)

record AreAvas (types : List AttributeType) (r : TypedRdn) : Type 0 where
  avas : AllByRecursion (IsAva types) r
  apart : IsDistinct nat_eq (map type_in r)

avas_are : (types : List AttributeType) (earlier : TypedRdn) (ps : names.Rdn) (r : TypedRdn) → AreAvas types earlier → avas_from types earlier ps ≡ Ok r → AreAvas types r × (length r ≡ length earlier + length ps)
unfolding avas_from
avas_are types earlier [] r h e = subst (λ (x : TypedRdn). AreAvas types x × (length x ≡ length earlier + 0)) (same_ok earlier r e) (h, omega arith)
avas_are types earlier (p ∷ ps) r h e =
    let k = bind_ok (ava_type types earlier p) (λ t. avas_from types (earlier ++ (t, p.1) ∷ []) ps) r e in
    let next = ava_is types earlier p k.0 k.1 in
    let more = avas_are types (earlier ++ (k.0, p.1) ∷ []) ps r (record {
      avas = all_append (IsAva types) earlier ((k.0, p.1) ∷ []) h.avas (next.good, tt);
      apart = distinct_more earlier (k.0, p.1) h.apart next.apart;
    }) k.2 in
    let long = length-append earlier ((k.0, p.1) ∷ []) in
    (more.0, omega (arith, more.1, long))

rdn_is : (types : List AttributeType) (n : names.Rdn) (r : TypedRdn) → HasAvas n → typed_rdn types n ≡ Ok r → IsRdn types r
unfolding IsDistinct
rdn_is types n r some e =
    let k = avas_are types [] n r (record { avas = tt; apart = tt }) e in
    let long : length r ≡ length n = omega (arith, k.1) in
    record { avas = k.0.avas; types_apart = k.0.apart; some = ap (λ x. x == 0) long ∙ some }

-- the same of what is answered for one
pub answered_is : (types : List AttributeType) (n : names.Rdn) (result : Result TypedRdn PathFault) → names.is_rdn n ≡ true → Gives (λ r. r) result (typed_rdn types n) → IfOk result (IsRdn types)
answered_is types n (Ok r) good gives = rdn_is types n r (not_true (length n == 0) (and_parts (not (length n == 0)) (list_all names.is_ava n) good).0) gives
answered_is types n (Err fault) good gives = tt

rdns_are_from : (types : List AttributeType) (done : List TypedRdn) (n : names.Name) (rs : List TypedRdn) → AllByRecursion (IsRdn types) done → AllByRecursion HasAvas n → rdns_from types done n ≡ Ok rs → AllByRecursion (IsRdn types) rs
unfolding rdns_from
rdns_are_from types done [] rs h some e = subst (AllByRecursion (IsRdn types)) (same_ok done rs e) h
rdns_are_from types done (r ∷ more) rs h some e =
    let k = bind_ok (typed_rdn types r) (λ t. rdns_from types (done ++ t ∷ []) more) rs e in
    rdns_are_from types (done ++ k.0 ∷ []) more rs (all_append (IsRdn types) done (k.0 ∷ []) h (rdn_is types r k.0 some.0 k.1, tt)) some.1 k.2

pub rdns_are : (types : List AttributeType) (n : names.Name) (rs : List TypedRdn) → AllByRecursion HasAvas n → typed types n ≡ Ok rs → AllByRecursion (IsRdn types) rs
rdns_are types n rs = rdns_are_from types [] n rs tt

pub below_are : (types : List AttributeType) (P : TypedRdn → Type 0) (ss rs out : List TypedRdn) → AllByRecursion P rs → below types ss rs ≡ Ok out → AllByRecursion P out
unfolding below
below_are types P [] rs out h e = subst (AllByRecursion P) (same_ok rs out e) h
below_are types P (s ∷ ss) [] out h e = absurd cc
below_are types P (s ∷ ss) (r ∷ rs) out h e =
    elim (same_rdn_key (rdn_key_of types s) (rdn_key_of types r)) as (λ b. cond b (below types ss rs) (Err NoSuchObject) ≡ Ok out → AllByRecursion P out) [
      | true ↦ λ is. below_are types P ss rs out h.1 is
      | false ↦ λ is. absurd cc
    ] e

pub located_are : SpellsRead → (conf : Conf) (text : List ℕ) (rs : List TypedRdn) → located conf text ≡ Ok rs → AllByRecursion (IsRdn conf.types) rs
unfolding located place_of
located_are read conf text rs e =
    let k = bind_ok (name_in text) (place_of conf) rs e in
    let l = bind_ok (typed conf.types k.0) (λ ys. below conf.types (reverse conf.suffix) (reverse ys)) rs k.2 in
    below_are conf.types (IsRdn conf.types) (reverse conf.suffix) (reverse l.0) rs
    (all_reverse (IsRdn conf.types) l.0 (rdns_are conf.types k.0 l.0 (name_has_avas read text k.0 k.1) l.1)) l.2

-- the types of a good RDN are known
pub types_known : (types : List AttributeType) (r : TypedRdn) → AllByRecursion (IsAva types) r → AllByRecursion (λ p. p.0 < length types) r
types_known types [] h = tt
types_known types (p ∷ ps) h = (ltb-true p.0 (length types) h.0.known, types_known types ps h.1)

pub all_known : (types : List AttributeType) (rs : List TypedRdn) → AllByRecursion (IsRdn types) rs → AllByRecursion (AreKnown types) rs
all_known types [] h = tt
all_known types (r ∷ rs) h = (types_known types r h.0.avas, all_known types rs h.1)
