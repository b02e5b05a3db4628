-- A name that ends as the suffix is written stands where the RDNs before that end say.
use Rattle.std.proofs.Common.{◌≡◌, ℕ, Bool, true, false, cond, List, [], ◌∷◌, ◌++◌, ◌+◌, ◌<◌, length, map, reverse, Some, Result, Ok, Err, refl, sym, ap, subst, ◌∙◌, append_assoc, arith}
use Rattle.std.specs.List.{list_all, join_with_byte}
use Rattle.std.specs.Str.{IsUtf8, is_utf8}
use Rattle.std.proofs.lemmas.Bool.{ltb-true}
use Rattle.std.proofs.lemmas.List.{length-map, length-append, map-append, reverse-append, take_at, drop_at}
use Rattle.std.proofs.lemmas.Str.{is_utf8-from_IsUtf8, IsUtf8-from_is_utf8, IsUtf8-append, IsUtf8-take, IsCharBoundary-from_drop}
use Rattle.base.specs.Answers.{◌>>=◌, each}
use Rattle.base.specs.Ends.{is_space}
use Rattle.base.proofs.Bound.{bind_ok, same_ok}
use Rattle.values.specs.declared.types.AttributeType.{AttributeType}
use Rattle.schema.specs.declared.code.Code.{Code}
use Rattle.schema.specs.declared.code.Code.TheVariants.{InvalidDnSyntax}
use Rattle.dn.specs.declared.faults.NameFaultKind.{NameFaultKind}
use Rattle.dn.specs.Names as names
use Rattle.dn.specs.Reading as reading
use Rattle.dn.specs.Apart.{read_apart}
use Rattle.dn.specs.Writing.{rdn_text, text_of}
use Rattle.dn.proofs.Ascii.{ascii_utf8}
use Rattle.schema.specs.Names.{or_invalid, name_in, written_rdn}
use Rattle.schema.specs.Rdns.{TypedRdn, typed_rdn, rdns_from, typed}
use Rattle.schema.specs.Conf.{Conf, IsConf, below, place_of, located}
use Rattle.schema.specs.Values.{rdns_in, normal_rdn, normal_text, normal_of, normal_name}
use Rattle.schema.specs.inner.Fronts.{front_located, normal_apart, normal_front}
use Rattle.schema.proofs.AvaValues.{HaveBytes}
use Rattle.schema.proofs.Locating.{ReadsWritten, WritesAscii, name_is, rdns_typed, below_is}

-- ---- UTF-8

-- what stands before a text in UTF-8 is UTF-8 where both together are
utf8_front : (front end : List ℕ) → IsUtf8 end → is_utf8 (front ++ end) ≡ is_utf8 front
utf8_front front end good = by (is_utf8 front) refl (is_utf8 (front ++ end)) refl
  where
    cut : is_utf8 (front ++ end) ≡ true → is_utf8 front ≡ true
    cut h =
        let whole = IsUtf8-from_is_utf8 (front ++ end) h in
        let edge = IsCharBoundary-from_drop (front ++ end) (length front) (omega (arith, length-append front end)) (subst IsUtf8 (sym (drop_at front end (length front) refl)) good) in
        is_utf8-from_IsUtf8 front (subst IsUtf8 (take_at front end (length front) refl) (IsUtf8-take (front ++ end) (length front) whole edge))

    by : (f : Bool) → is_utf8 front ≡ f → (w : Bool) → is_utf8 (front ++ end) ≡ w → w ≡ f
    by true f true w = refl
    by true f false w = sym w ∙ is_utf8-from_IsUtf8 (front ++ end) (IsUtf8-append front end (IsUtf8-from_is_utf8 front f) good)
    by false f true w = sym (cut w) ∙ f
    by false f false w = refl

-- ---- names

or_apart : (m : names.Name) (r : Result names.Name NameFaultKind) → or_invalid (r >>= λ n. Ok (n ++ m)) ≡ (or_invalid r >>= λ n. Ok (n ++ m))
or_apart m (Ok n) = refl
or_apart m (Err fault) = refl

cond_apart : (m : names.Name) (b : Bool) (r : Result names.Name Code) → cond b (r >>= λ n. Ok (n ++ m)) (Err InvalidDnSyntax) ≡ (cond b r (Err InvalidDnSyntax) >>= λ n. Ok (n ++ m))
cond_apart m true r = refl
cond_apart m false r = refl

rdns_more : (types : List AttributeType) (done : List TypedRdn) (n m : names.Name) → rdns_from types done (n ++ m) ≡ (rdns_from types done n >>= λ rs. rdns_from types rs m)
unfolding rdns_from
rdns_more types done [] m = refl
rdns_more types done (r ∷ n) m = by (typed_rdn types r) (λ t. rdns_more types (done ++ t ∷ []) n m)
  where
    by : (x : Result TypedRdn Code) → ((t : TypedRdn) → rdns_from types (done ++ t ∷ []) (n ++ m) ≡ (rdns_from types (done ++ t ∷ []) n >>= λ rs. rdns_from types rs m))
        → (x >>= λ t. rdns_from types (done ++ t ∷ []) (n ++ m)) ≡ ((x >>= λ t. rdns_from types (done ++ t ∷ []) n) >>= λ rs. rdns_from types rs m)
    by (Ok t) more = more t
    by (Err code) more = refl

typed_long : (types : List AttributeType) (done : List TypedRdn) (n : names.Name) (rs : List TypedRdn) → rdns_from types done n ≡ Ok rs → length rs ≡ length done + length n
unfolding rdns_from
typed_long types done [] rs is = let same : done ≡ rs = same_ok done rs is in omega (arith, ap length same)
typed_long types done (r ∷ n) rs is =
    let one = bind_ok (typed_rdn types r) _ rs is in
    omega (arith, typed_long types (done ++ one.0 ∷ []) n rs one.2, length-append done (one.0 ∷ []))

-- texts joined apart
joined_apart : (x y : List ℕ) (xs ys : List (List ℕ)) → join_with_byte 44 ((x ∷ xs) ++ (y ∷ ys)) ≡ join_with_byte 44 (x ∷ xs) ++ 44 ∷ join_with_byte 44 (y ∷ ys)
joined_apart x y [] ys = refl
joined_apart x y (z ∷ xs) ys = ap (λ (t : List ℕ). x ++ 44 ∷ t) (joined_apart z y xs ys) ∙ sym (append_assoc x (44 ∷ join_with_byte 44 (z ∷ xs)) (44 ∷ join_with_byte 44 (y ∷ ys)))

normal_joined : (types : List AttributeType) (rs ss : List TypedRdn) → 0 < length rs → 0 < length ss → normal_text types (rs ++ ss) ≡ normal_text types rs ++ 44 ∷ normal_text types ss
unfolding normal_text text_of
normal_joined types [] ss some more = absurd (omega arith)
normal_joined types (r ∷ rs) [] some more = absurd (omega arith)
normal_joined types (r ∷ rs) (s ∷ ss) some more =
    let f = normal_rdn types in
    ap (λ (n : names.Name). join_with_byte 44 (map rdn_text n)) (map-append f (r ∷ rs) (s ∷ ss))
    ∙ ap (join_with_byte 44) (map-append rdn_text (map f (r ∷ rs)) (map f (s ∷ ss)))
    ∙ joined_apart (rdn_text (f r)) (rdn_text (f s)) (map rdn_text (map f rs)) (map rdn_text (map f ss))

module _ (bytes : HaveBytes) (conf : Conf) (c : IsConf conf) (read : ReadsWritten) (ascii : WritesAscii) where
  abbrev suffix : names.Name
  suffix = map (written_rdn conf.types) conf.suffix

  good : names.is_name suffix ≡ true
  good = name_is bytes conf c conf.suffix c.suffix

  abbrev read_as : names.Name → Result names.Name NameFaultKind
  read_as n = Ok n

  none : (n : names.Name) → read_as [] ≡ read_as n → length n ≡ 0
  none n is = let same : [] ≡ n = cc in ap length (sym same)

  not_spaces : list_all is_space (text_of suffix) ≡ false
  unfolding reading.name_of
  not_spaces = by (list_all is_space (text_of suffix)) refl
    where
      by : (b : Bool) → list_all is_space (text_of suffix) ≡ b → b ≡ false
      by false is = refl
      by true is =
          let empty : read_as [] ≡ read_as suffix = sym (ap (λ t. cond t (read_as []) (each reading.rdn_of (reading.cut_raw 44 false (text_of suffix)))) is) ∙ read suffix good in
          absurd (omega (arith, none suffix empty, length-map conf.suffix (written_rdn conf.types), ltb-true 0 (length conf.suffix) c.suffix_some))

  name_front : (text front : List ℕ) → text ≡ front ++ 44 ∷ text_of suffix → (list_all is_space (text_of suffix) ≡ false → reading.name_of text ≡ read_apart front (text_of suffix)) → name_in text ≡ (name_in front >>= λ n. Ok (n ++ suffix))
  unfolding name_in
  name_front text front is apart =
      let same = ap is_utf8 is ∙ utf8_front front (44 ∷ text_of suffix) (ascii_utf8 (44 ∷ text_of suffix) (ascii suffix good)) in
      ap (λ b. cond b (or_invalid (reading.name_of text)) (Err InvalidDnSyntax)) same
      ∙ ap (λ r. cond (is_utf8 front) (or_invalid r) (Err InvalidDnSyntax)) (apart not_spaces ∙ ap (λ m. reading.name_of front >>= λ n. m >>= λ k. Ok (n ++ k)) (read suffix good))
      ∙ ap (λ r. cond (is_utf8 front) r (Err InvalidDnSyntax)) (or_apart suffix (reading.name_of front))
      ∙ cond_apart suffix (is_utf8 front) (or_invalid (reading.name_of front))

  behind : List TypedRdn → Result (List TypedRdn) Code
  behind rs = below conf.types (reverse conf.suffix) (reverse rs)

  all_behind : (y : Result (List TypedRdn) Code) → ((y >>= λ rs. rdns_from conf.types rs suffix) >>= behind) ≡ (y >>= λ rs. Ok (reverse rs))
  unfolding behind
  all_behind (Err code) = refl
  all_behind (Ok rs) =
      ap (λ x. x >>= behind) (rdns_typed bytes conf c rs conf.suffix c.suffix)
      ∙ ap (below conf.types (reverse conf.suffix)) (reverse-append rs conf.suffix)
      ∙ below_is conf.types (reverse conf.suffix) (reverse rs)

  placed : (x : Result names.Name Code) → ((x >>= λ n. Ok (n ++ suffix)) >>= place_of conf) ≡ (x >>= λ n. typed conf.types n >>= λ rs. Ok (reverse rs))
  unfolding place_of behind
  placed (Err code) = refl
  placed (Ok n) = ap (λ y. y >>= behind) (rdns_more conf.types [] n suffix) ∙ all_behind (typed conf.types n)

  pub front_is : (text front : List ℕ) → text ≡ front ++ 44 ∷ text_of suffix → (list_all is_space (text_of suffix) ≡ false → reading.name_of text ≡ read_apart front (text_of suffix)) → located conf text ≡ front_located conf.types front
  unfolding located front_located
  front_is text front is apart = ap (λ x. x >>= place_of conf) (name_front text front is apart) ∙ placed (name_in front)

  -- ---- the same of values

  read_in : (front : List ℕ) (n : names.Name) → name_in front ≡ Ok n → reading.name_of front ≡ Ok n
  unfolding name_in
  read_in front n = by (is_utf8 front) (reading.name_of front)
    where
      by : (b : Bool) (r : Result names.Name NameFaultKind) → cond b (or_invalid r) (Err InvalidDnSyntax) ≡ Ok n → r ≡ Ok n
      by true (Ok m) is = ap read_as (same_ok m n is)
      by true (Err fault) is = absurd cc
      by false r is = absurd cc

  named : names.Name → Result names.Name Code
  named n = Ok n

  normal_placed : (n : names.Name) → 0 < length n → normal_of conf.types (typed conf.types (n ++ suffix)) ≡ normal_apart conf.types conf.suffix (typed conf.types n)
  normal_placed n some = ap (normal_of conf.types) (rdns_more conf.types [] n suffix) ∙ by (typed conf.types n) refl
    where
      by : (y : Result (List TypedRdn) Code) → typed conf.types n ≡ y → normal_of conf.types (y >>= λ rs. rdns_from conf.types rs suffix) ≡ normal_apart conf.types conf.suffix y
      by (Err code) is = refl
      by (Ok rs) is =
          ap (normal_of conf.types) (rdns_typed bytes conf c rs conf.suffix c.suffix)
          ∙ ap (λ (t : List ℕ). Some t) (normal_joined conf.types rs conf.suffix (omega (arith, some, typed_long conf.types [] n rs is)) (ltb-true 0 (length conf.suffix) c.suffix_some))

  pub normal_is : (text front : List ℕ) → text ≡ front ++ 44 ∷ text_of suffix → (list_all is_space (text_of suffix) ≡ false → reading.name_of text ≡ read_apart front (text_of suffix))
      → ((n : names.Name) → reading.name_of front ≡ Ok n → 0 < length n) → normal_name conf.types text ≡ normal_front conf.types conf.suffix front
  unfolding normal_name normal_front rdns_in
  normal_is text front is apart some = ap (λ x. normal_of conf.types (x >>= typed conf.types)) (name_front text front is apart) ∙ by (name_in front) refl
    where
      by : (x : Result names.Name Code) → name_in front ≡ x → normal_of conf.types ((x >>= λ n. Ok (n ++ suffix)) >>= typed conf.types) ≡ normal_apart conf.types conf.suffix (x >>= typed conf.types)
      by (Err code) at = refl
      by (Ok n) at = normal_placed n (some n (read_in front n at))
