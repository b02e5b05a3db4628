-- The keys of entries are bytes.
use Rattle.std.proofs.Common.{◌≡◌, ℕ, zero, suc, ◌+◌, ◌==◌, Bool, true, false, cond, ◌&&◌, not, nat_lt, List, [], ◌∷◌, ◌++◌, map, filter, length, Option, Some, None, refl, ap, ◌∙◌, arith}
use Rattle.std.specs.Prelude.{Result, Ok, Err, unwrap_or}
use Rattle.std.specs.Char.{to_ascii_lowercase}
use Rattle.std.specs.List.{list_all, AllByRecursion, insert, prefix_len, flat_map}
use Rattle.std.proofs.lemmas.Bool.{and_parts, ltb-true, lt-ltb, ne_eqb}
use Rattle.std.proofs.lemmas.Bool.Decides.{nat_tests}
use Rattle.std.proofs.lemmas.List.{length-map}
use Rattle.base.specs.Ends.{is_space, without_front, without_end, onto_text}
use Rattle.dn.specs.Names.{is_type_byte, is_type, is_ava, is_rdn, is_ascii}
use Rattle.dn.specs.Names as names
use Rattle.dn.specs.Writing.{text_of}
use Rattle.dn.proofs.Ascii.{name_ascii}
use Rattle.dn.proofs.Named.{name_sound}
use Rattle.base.proofs.Bound.{bind_ok}
use Rattle.matching.specs.Syntaxes.{is_byte}
use Rattle.matching.specs.Forms.{norm, begins_with_space, one_spaces, tidy, lower, is_no_space, is_no_filler}
use Rattle.matching.specs.declared.family.Family.{Family}
use Rattle.matching.specs.declared.family.Family.TheVariants as families
use Rattle.matching.proofs.ValidBytes.{valid_bytes}
use Rattle.paths.specs.Paths.{Pair, RdnKey}
use Rattle.values.specs.Types.{name_of, type_at, plain_family}
use Rattle.values.specs.declared.types.EqualityRule.{EqualityRule}
use Rattle.values.specs.declared.types.EqualityRule.TheVariants as rules
use Rattle.values.specs.Values.{norm_by}
use Rattle.schema.specs.Conf.{Conf, IsConf}
use Rattle.schema.specs.GoodRdns.{IsAva, IsRdn}
use Rattle.schema.specs.Rdns.{Ava, TypedRdn, is_lower, put_pair, pair_of, key_from, rdn_key_of, typed}
use Rattle.schema.specs.Values.{normal_ava, normal_avas, normal_rdn, normal_text, normal_name, normal_of, rdns_in, norm_with, norm_at, is_valid_at}
use Rattle.schema.specs.declared.code.Code.{Code}
use Rattle.schema.proofs.AvaValues.{valid_are_bytes}
use Rattle.schema.proofs.Locating.{printed_is_text}
use Rattle.schema.proofs.Found.{name_has_avas, rdns_are}
use Rattle.schema.specs.Names.{name_in}
use Rattle.entries.specs.Entries.{Attributes, IsAttribute}
use Rattle.schema.specs.declared.slots.IndexKind.{IndexKind}
use Rattle.schema.specs.declared.slots.IndexKind.TheVariants as kinds
use Rattle.schema.specs.Subtypes.{is_subtype}
use Rattle.index_keys.specs.EntryKeys.{norms_under, windows, keys_by, entry_keys}

abbrev pub AreBytes : List ℕ → Type 0
AreBytes bs = list_all is_byte bs ≡ true

both : (a b : Bool) → a ≡ true → b ≡ true → (a && b) ≡ true
both a b h k = ap (λ x. x && b) h ∙ k

parts : (b : ℕ) (bs : List ℕ) → AreBytes (b ∷ bs) → (is_byte b ≡ true) × AreBytes bs
parts b bs h = and_parts (is_byte b) (list_all is_byte bs) h

onto : (b : ℕ) (bs : List ℕ) → is_byte b ≡ true → AreBytes bs → AreBytes (b ∷ bs)
onto b bs h k = both (is_byte b) (list_all is_byte bs) h k

-- ---- normal forms

front_bytes : (bs : List ℕ) → AreBytes bs → AreBytes (without_front bs)
front_bytes [] h = refl
front_bytes (b ∷ bs) h = by (is_space b) (front_bytes bs (parts b bs h).1)
  where
    by : (c : Bool) → AreBytes (without_front bs) → AreBytes (cond c (without_front bs) (b ∷ bs))
    by true rest = rest
    by false rest = h

onto_bytes : (b : ℕ) (bs : List ℕ) → is_byte b ≡ true → AreBytes bs → AreBytes (onto_text b bs)
onto_bytes b [] h k = by (is_space b)
  where
    by : (c : Bool) → AreBytes (cond c [] (b ∷ []))
    by true = refl
    by false = onto b [] h refl
onto_bytes b (c ∷ cs) h k = onto b (c ∷ cs) h k

end_bytes : (bs : List ℕ) → AreBytes bs → AreBytes (without_end bs)
end_bytes [] h = refl
end_bytes (b ∷ bs) h = onto_bytes b (without_end bs) (parts b bs h).0 (end_bytes bs (parts b bs h).1)

spaces_bytes : (bs : List ℕ) → AreBytes bs → AreBytes (one_spaces bs)
spaces_bytes [] h = refl
spaces_bytes (b ∷ bs) h = by (is_space b && begins_with_space bs) (spaces_bytes bs (parts b bs h).1)
  where
    by : (c : Bool) → AreBytes (one_spaces bs) → AreBytes (cond c (one_spaces bs) (b ∷ one_spaces bs))
    by true rest = rest
    by false rest = onto b (one_spaces bs) (parts b bs h).0 rest

tidy_bytes : (bs : List ℕ) → AreBytes bs → AreBytes (tidy bs)
tidy_bytes bs h = end_bytes (one_spaces (without_front bs)) (spaces_bytes (without_front bs) (front_bytes bs h))

kept_bytes : (p : ℕ → Bool) (bs : List ℕ) → AreBytes bs → AreBytes (filter p bs)
kept_bytes p [] h = refl
kept_bytes p (b ∷ bs) h = by (p b) (kept_bytes p bs (parts b bs h).1)
  where
    by : (c : Bool) → AreBytes (filter p bs) → AreBytes (cond c (b ∷ filter p bs) (filter p bs))
    by true rest = onto b (filter p bs) (parts b bs h).0 rest
    by false rest = rest

small_byte : (b : ℕ) → is_byte b ≡ true → is_byte (to_ascii_lowercase b) ≡ true
small_byte b h = by (nat_lt b 65) (nat_lt b 91) refl
  where
    by : (low capital : Bool) → nat_lt b 91 ≡ capital → is_byte (cond low b (cond capital (b + 32) b)) ≡ true
    by true capital is = h
    by false true is = let below = ltb-true b 91 is in lt-ltb (b + 32) 256 (omega (arith, below))
    by false false is = h

lower_bytes : (bs : List ℕ) → AreBytes bs → AreBytes (lower bs)
lower_bytes [] h = refl
lower_bytes (b ∷ bs) h = onto (to_ascii_lowercase b) (lower bs) (small_byte b (parts b bs h).0) (lower_bytes bs (parts b bs h).1)

pub norm_bytes : (f : Family) (bs : List ℕ) → AreBytes bs → AreBytes (norm f bs)
unfolding norm
norm_bytes families.Ignore bs h = lower_bytes (tidy bs) (tidy_bytes bs h)
norm_bytes families.Exact bs h = tidy_bytes bs h
norm_bytes families.Numeric bs h = kept_bytes is_no_space bs h
norm_bytes families.Telephone bs h = lower_bytes (filter is_no_filler bs) (kept_bytes is_no_filler bs h)
norm_bytes families.Integer bs h = h
norm_bytes families.Boolean bs h = h
norm_bytes families.Octet bs h = h
norm_bytes families.Oid bs h = lower_bytes bs h

norm_by_bytes : (f : Option Family) (bs : List ℕ) → AreBytes bs → AreBytes (norm_by f bs)
norm_by_bytes None bs h = h
norm_by_bytes (Some f) bs h = norm_bytes f bs h

-- ---- names as values

small_type_byte : (b : ℕ) → is_type_byte b ≡ true → is_type_byte (to_ascii_lowercase b) ≡ true
small_type_byte b h = by (nat_lt b 65) (nat_lt b 91) refl refl
  where
    by : (low capital : Bool) → nat_lt b 65 ≡ low → nat_lt b 91 ≡ capital → is_type_byte (cond low b (cond capital (b + 32) b)) ≡ true
    by true capital is below = h
    by false true is below = grind (arith, nat_tests)
    by false false is below = h

small_type_bytes : (bs : List ℕ) → list_all is_type_byte bs ≡ true → list_all is_type_byte (lower bs) ≡ true
small_type_bytes [] h = refl
small_type_bytes (b ∷ bs) h =
    let k = and_parts (is_type_byte b) (list_all is_type_byte bs) h in
    both (is_type_byte (to_ascii_lowercase b)) (list_all is_type_byte (lower bs)) (small_type_byte b k.0) (small_type_bytes bs k.1)

small_type : (text : List ℕ) → is_type text ≡ true → is_type (lower text) ≡ true
small_type text h =
    let k = and_parts (not (length text == 0)) (list_all is_type_byte text) h in
    both (not (length (lower text) == 0)) (list_all is_type_byte (lower text)) (ap (λ n. not (n == 0)) (length-map text to_ascii_lowercase) ∙ k.0) (small_type_bytes text k.1)

all_insert : {X : Type 0} (P : X → Type 0) (xs : List X) (n : ℕ) (x : X) → AllByRecursion P xs → P x → AllByRecursion P (insert xs n x)
all_insert P [] zero x all own = (own, tt)
all_insert P [] (suc n) x all own = (own, tt)
all_insert P (y ∷ ys) zero x all own = (own, all)
all_insert P (y ∷ ys) (suc n) x all own = (all.0, all_insert P ys n x all.1 own)

module _ (conf : Conf) (c : IsConf conf) where
  -- an AVA as a normal name has it
  abbrev IsNormal : Pair → Type 0
  IsNormal p = is_ava (normal_ava conf.types p) ≡ true

  pair_is : (p : Ava) → IsAva conf.types p → IsNormal (pair_of conf.types p)
  pair_is p h = both (is_type (lower (name_of conf.types p.0))) (list_all is_byte (pair_of conf.types p).1)
      (small_type (name_of conf.types p.0) (printed_is_text conf p.0 c h.known))
      (norm_by_bytes (plain_family (type_at conf.types p.0).equality) p.1 (valid_are_bytes valid_bytes conf.types p.0 p.1 h.valid))

  key_is : (key : RdnKey) (r : TypedRdn) → AllByRecursion IsNormal key → AllByRecursion (IsAva conf.types) r → AllByRecursion IsNormal (key_from conf.types key r)
  unfolding key_from put_pair
  key_is key [] all good = all
  key_is key (p ∷ ps) all good = key_is (put_pair (pair_of conf.types p) key) ps (all_insert IsNormal key (prefix_len (is_lower p.0) key) (pair_of conf.types p) all (pair_is p good.0)) good.1

  -- there is one at least
  abbrev IsSome : RdnKey → Type 0
  IsSome key = not (length key == 0) ≡ true

  one_more : (p : Pair) (key : RdnKey) → IsSome (p ∷ key)
  one_more p key = ap not (ne_eqb (length (p ∷ key)) 0 (λ e. omega arith))

  some_insert : (key : RdnKey) (n : ℕ) (p : Pair) → IsSome (insert key n p)
  some_insert [] zero p = one_more p []
  some_insert [] (suc n) p = one_more p []
  some_insert (q ∷ qs) zero p = one_more p (q ∷ qs)
  some_insert (q ∷ qs) (suc n) p = one_more q (insert qs n p)

  key_some : (key : RdnKey) (r : TypedRdn) → IsSome key → IsSome (key_from conf.types key r)
  unfolding key_from put_pair
  key_some key [] some = some
  key_some key (p ∷ ps) some = key_some (put_pair (pair_of conf.types p) key) ps (some_insert key (prefix_len (is_lower p.0) key) (pair_of conf.types p))

  first_some : (r : TypedRdn) → (length r == 0) ≡ false → IsSome (rdn_key_of conf.types r)
  unfolding rdn_key_of key_from put_pair
  first_some [] h = cc
  first_some (p ∷ ps) h = key_some (put_pair (pair_of conf.types p) []) ps (some_insert [] (prefix_len (is_lower p.0) []) (pair_of conf.types p))

  avas_are : (key : RdnKey) → AllByRecursion IsNormal key → list_all is_ava (normal_avas conf.types key) ≡ true
  avas_are [] h = refl
  avas_are (p ∷ ps) h = both (is_ava (normal_ava conf.types p)) (list_all is_ava (normal_avas conf.types ps)) h.0 (avas_are ps h.1)

  rdn_is : (r : TypedRdn) → IsRdn conf.types r → is_rdn (normal_rdn conf.types r) ≡ true
  unfolding rdn_key_of
  rdn_is r h =
      let key = rdn_key_of conf.types r in
      both (not (length (normal_avas conf.types key) == 0)) (list_all is_ava (normal_avas conf.types key))
      (ap (λ n. not (n == 0)) (length-map key (normal_ava conf.types)) ∙ first_some r h.some)
      (avas_are key (key_is [] r tt h.avas))

  name_is : (rs : List TypedRdn) → AllByRecursion (IsRdn conf.types) rs → names.is_name (map (normal_rdn conf.types) rs) ≡ true
  name_is [] h = refl
  name_is (r ∷ rs) h = both (is_rdn (normal_rdn conf.types r)) (names.is_name (map (normal_rdn conf.types) rs)) (rdn_is r h.0) (name_is rs h.1)

  -- ASCII is bytes
  ascii_bytes : (bs : List ℕ) → list_all is_ascii bs ≡ true → AreBytes bs
  ascii_bytes [] h = refl
  ascii_bytes (b ∷ bs) h =
      let k = and_parts (is_ascii b) (list_all is_ascii bs) h in
      let low = ltb-true b 128 k.0 in
      onto b bs (lt-ltb b 256 (omega (arith, low))) (ascii_bytes bs k.1)

  text_bytes : (rs : List TypedRdn) → AllByRecursion (IsRdn conf.types) rs → AreBytes (normal_text conf.types rs)
  unfolding normal_text
  text_bytes rs h = ascii_bytes (text_of (map (normal_rdn conf.types) rs)) (name_ascii (map (normal_rdn conf.types) rs) (name_is rs h))

  -- the RDNs that a value spells are good
  spelled_are : (v : List ℕ) (rs : List TypedRdn) → rdns_in conf.types v ≡ Ok rs → AllByRecursion (IsRdn conf.types) rs
  unfolding rdns_in
  spelled_are v rs e =
      let k = bind_ok (name_in v) (typed conf.types) rs e in
      rdns_are conf.types k.0 rs (name_has_avas name_sound v k.0 k.1) k.2

  name_bytes : (v : List ℕ) → AreBytes v → AreBytes (unwrap_or (normal_name conf.types v) v)
  unfolding normal_name
  name_bytes v h = by (rdns_in conf.types v) refl
    where
      by : (r : Result (List TypedRdn) Code) → rdns_in conf.types v ≡ r → AreBytes (unwrap_or (normal_of conf.types r) v)
      by (Ok rs) said = text_bytes rs (spelled_are v rs said)
      by (Err code) said = h

  -- the normal form of a value that its type's syntax has
  norm_at_bytes : (t : ℕ) (v : List ℕ) → is_valid_at conf.types t v ≡ true → AreBytes (norm_at conf.types t v)
  unfolding norm_at
  norm_at_bytes t v h = by (type_at conf.types t).equality (valid_are_bytes valid_bytes conf.types t v h)
    where
      by : (rule : Option EqualityRule) → AreBytes v → AreBytes (norm_with conf.types rule v)
      by None bytes = bytes
      by (Some rules.Name) bytes = name_bytes v bytes
      by (Some (rules.Plain family)) bytes = norm_bytes family v bytes

  -- ---- the keys of an entry

  abbrev AllBytes : List (List ℕ) → Type 0
  AllBytes = AllByRecursion AreBytes

  all_more : (xs ys : List (List ℕ)) → AllBytes xs → AllBytes ys → AllBytes (xs ++ ys)
  all_more [] ys h k = k
  all_more (x ∷ xs) ys h k = (h.0, all_more xs ys h.1 k)

  values_bytes : (t : ℕ) (vs : List (List ℕ)) → AllByRecursion (λ v. is_valid_at conf.types t v ≡ true) vs → AllBytes (map (norm_at conf.types t) vs)
  values_bytes t [] h = tt
  values_bytes t (v ∷ vs) h = (norm_at_bytes t v h.0, values_bytes t vs h.1)

  norms_bytes : (attrs : Attributes) (t : ℕ) → AllByRecursion (IsAttribute conf.types) attrs → AllBytes (norms_under conf.types attrs t)
  norms_bytes [] t h = tt
  norms_bytes (a ∷ as') t h = all_more (cond (is_subtype conf.types a.0 t) (map (norm_at conf.types a.0) a.1) []) (norms_under conf.types as' t) (by (is_subtype conf.types a.0 t)) (norms_bytes as' t h.1)
    where
      by : (b : Bool) → AllBytes (cond b (map (norm_at conf.types a.0) a.1) [])
      by true = values_bytes a.0 a.1 h.0.values
      by false = tt

  windows_bytes : (bs : List ℕ) → AreBytes bs → AllBytes (windows bs)
  windows_bytes [] h = tt
  windows_bytes (a ∷ []) h = tt
  windows_bytes (a ∷ b ∷ []) h = tt
  windows_bytes (a ∷ b ∷ d ∷ rest) h =
      let k = parts a (b ∷ d ∷ rest) h in
      let l = parts b (d ∷ rest) k.1 in
      let m = parts d rest l.1 in
      (onto a (b ∷ d ∷ []) k.0 (onto b (d ∷ []) l.0 (onto d [] m.0 refl)), windows_bytes (b ∷ d ∷ rest) k.1)

  all_windows : (norms : List (List ℕ)) → AllBytes norms → AllBytes (flat_map windows norms)
  all_windows [] h = tt
  all_windows (n ∷ ns) h = all_more (windows n) (flat_map windows ns) (windows_bytes n h.0) (all_windows ns h.1)

  by_kind : (kind : IndexKind) (norms : List (List ℕ)) → AllBytes norms → AllBytes (keys_by kind norms)
  by_kind kinds.Equality norms h = h
  by_kind kinds.Presence [] h = tt
  by_kind kinds.Presence (n ∷ ns) h = (refl, tt)
  by_kind kinds.Substrings norms h = all_windows norms h

  pub keys_bytes : (attrs : Attributes) (t : ℕ) (kind : IndexKind) → AllByRecursion (IsAttribute conf.types) attrs → AllByRecursion AreBytes (entry_keys conf.types attrs t kind)
  keys_bytes attrs t kind h = by_kind kind (norms_under conf.types attrs t) (norms_bytes attrs t h)
