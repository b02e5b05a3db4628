-- A value that moves names the same place below the new suffix.
use Rattle.std.proofs.Common.{◌≡◌, ◌≢◌, ℕ, ◌+◌, ◌<◌, ◌≤◌, zero, suc, Bool, true, false, ◌==◌, ◌&&◌, cond, List, [], ◌∷◌, ◌++◌, length, reverse, take, drop, get_or, Option, Some, None, Result, Ok, Err, refl, sym, ap, subst, ◌∙◌, append_assoc, arith}
use Rattle.std.specs.Prelude.{◌↔◌, slice_index, is_some}
use Rattle.std.specs.Str.{IsUtf8, is_utf8}
use Rattle.std.proofs.lemmas.Bool.{and_parts, eqb-true, eqb-false, ltb-true}
use Rattle.std.proofs.lemmas.List.{append-nil, length-append, reverse-append, take_at, drop_at, drop_more, take-append-drop, length-take, length-reverse, reverse-reverse}
use Rattle.std.proofs.Math.Seq.{get_or-append_seam}
use Rattle.std.proofs.lemmas.Str.{is_utf8-from_IsUtf8, IsUtf8-from_is_utf8, IsUtf8-append, IsUtf8-take, IsUtf8-drop, IsCharBoundary-before_ascii, IsCharBoundary-after_ascii}
use Rattle.base.specs.Answers.{◌>>=◌}
use Rattle.base.proofs.Bound.{bind_ok, same_ok}
use Rattle.dn.proofs.Ascii.{ascii_utf8}
use Rattle.dn.specs.declared.faults.NameFaultKind.{NameFaultKind}
use Rattle.dn.specs.Names as names
use Rattle.dn.specs.Reading.{name_of}
use Rattle.dn.specs.Spelling.{Spells, SpellsRdn, AreJoined}
use Rattle.values.specs.declared.types.AttributeType.{AttributeType}
use Rattle.paths.specs.Paths.{is_root}
use Rattle.schema.specs.declared.code.Code.{Code}
use Rattle.schema.specs.declared.code.Code.TheVariants.{InvalidDnSyntax, NoSuchObject}
use Rattle.schema.specs.Names.{or_invalid, name_in}
use Rattle.schema.specs.Rdns.{TypedRdn, typed_rdn, rdns_from, typed, rdn_key_of}
use Rattle.schema.specs.Values.{rdns_in}
use Rattle.schema.specs.Conf.{Conf, IsConf, below, place_of, located, path_of, same_rdn_key}
use Rattle.schema.proofs.Locating.{below_is}
use Rattle.suffixes.specs.Configurations.{suffix_in, some_rdns, with_suffix}
use Rattle.suffixes.specs.MovedValues.{is_at_root, is_suffix, is_some_name, has_rdns, is_cut, front_before, front_of, put_below, moved_below, moved_from, moved_value}

-- ---- names that are joined

joined_both : (f b : List ℕ) (x y : names.Rdn) (xs ys : names.Name) → AreJoined SpellsRdn 44 f (x ∷ xs) → AreJoined SpellsRdn 44 b (y ∷ ys) → AreJoined SpellsRdn 44 (f ++ 44 ∷ b) ((x ∷ xs) ++ (y ∷ ys))
joined_both f b x y [] ys front back = (f, b, front, refl, back)
joined_both f b x y (z ∷ xs) ys front back =
    (front.0, front.1 ++ 44 ∷ b, front.2, ap (λ (t : List ℕ). t ++ 44 ∷ b) front.3 ∙ append_assoc front.0 (44 ∷ front.1) (44 ∷ b), joined_both front.1 b z y xs ys front.4 back)

-- a text of two names
record Parts (text : List ℕ) (n m : names.Name) : Type 0 where
  pub front : List ℕ
  pub back : List ℕ
  pub text_is : text ≡ front ++ 44 ∷ back
  pub before : Spells front n
  pub behind : Spells back m

joined_apart : (text : List ℕ) (x y : names.Rdn) (xs ys : names.Name) → AreJoined SpellsRdn 44 text ((x ∷ xs) ++ (y ∷ ys)) → Parts text (x ∷ xs) (y ∷ ys)
joined_apart text x y [] ys h = record { front = h.0; back = h.1; text_is = h.3; before = h.2; behind = h.4 }
joined_apart text x y (z ∷ xs) ys h =
    let more = joined_apart h.1 z y xs ys h.4 in
    record {
      front = h.0 ++ 44 ∷ more.front;
      back = more.back;
      text_is = h.3 ∙ ap (λ (t : List ℕ). h.0 ++ 44 ∷ t) more.text_is ∙ sym (append_assoc h.0 (44 ∷ more.front) (44 ∷ more.back));
      before = (h.0, more.front, h.2, refl, more.before);
      behind = more.behind;
    }

-- ---- RDNs with their types

module _ (types : List AttributeType) where
  abbrev well : List TypedRdn → Result (List TypedRdn) Code
  well rs = Ok rs

  shifted : (n : names.Name) (done more : List TypedRdn) → rdns_from types (done ++ more) n ≡ (rdns_from types more n >>= λ rs. well (done ++ rs))
  unfolding rdns_from
  shifted [] done more = refl
  shifted (r ∷ n) done more = by (typed_rdn types r) (λ t. shifted n done (more ++ t ∷ []))
    where
      by : (x : Result TypedRdn Code) → ((t : TypedRdn) → rdns_from types (done ++ (more ++ t ∷ [])) n ≡ (rdns_from types (more ++ t ∷ []) n >>= λ rs. well (done ++ rs))) → (x >>= λ t. rdns_from types ((done ++ more) ++ t ∷ []) n) ≡ ((x >>= λ t. rdns_from types (more ++ t ∷ []) n) >>= λ rs. well (done ++ rs))
      by (Ok t) rest = ap (λ (d : List TypedRdn). rdns_from types d n) (append_assoc done more (t ∷ [])) ∙ rest t
      by (Err code) rest = refl

  rdns_more : (n m : names.Name) (done : List TypedRdn) → rdns_from types done (n ++ m) ≡ (rdns_from types done n >>= λ rs. rdns_from types rs m)
  unfolding rdns_from
  rdns_more [] m done = refl
  rdns_more (r ∷ n) m done = by (typed_rdn types r) (λ t. rdns_more n m (done ++ t ∷ []))
    where
      by : (x : Result TypedRdn Code) → ((t : TypedRdn) → rdns_from types (done ++ t ∷ []) (n ++ m) ≡ (rdns_from types (done ++ t ∷ []) n >>= λ rs. rdns_from types rs m)) → (x >>= λ t. rdns_from types (done ++ t ∷ []) (n ++ m)) ≡ ((x >>= λ t. rdns_from types (done ++ t ∷ []) n) >>= λ rs. rdns_from types rs m)
      by (Ok t) rest = rest t
      by (Err code) rest = refl

  -- those of two names
  typed_join : (n m : names.Name) (ns ms : List TypedRdn) → typed types n ≡ Ok ns → typed types m ≡ Ok ms → typed types (n ++ m) ≡ Ok (ns ++ ms)
  typed_join n m ns ms h g =
      rdns_more n m [] ∙ ap (λ (x : Result (List TypedRdn) Code). x >>= λ rs. rdns_from types rs m) h
      ∙ ap (λ (x : List TypedRdn). rdns_from types x m) (sym (append-nil ns)) ∙ shifted m ns [] ∙ ap (λ (x : Result (List TypedRdn) Code). x >>= λ rs. well (ns ++ rs)) g

  typed_part : (n m : names.Name) (ts : List TypedRdn) → typed types (n ++ m) ≡ Ok ts → (ns ms : List TypedRdn) × (typed types n ≡ Ok ns) × (typed types m ≡ Ok ms) × (ts ≡ ns ++ ms)
  typed_part n m ts h =
      let k = bind_ok (typed types n) (λ rs. rdns_from types rs m) ts (sym (rdns_more n m []) ∙ h) in
      let j = bind_ok (rdns_from types [] m) (λ rs. well (k.0 ++ rs)) ts (sym (ap (λ (x : List TypedRdn). rdns_from types x m) (sym (append-nil k.0)) ∙ shifted m k.0 []) ∙ k.2) in
      (k.0, j.0, k.1, j.1, sym (same_ok (k.0 ++ j.0) ts j.2))

  typed_long : (n : names.Name) (done rs : List TypedRdn) → rdns_from types done n ≡ Ok rs → length rs ≡ length done + length n
  unfolding rdns_from
  typed_long [] done rs is = let same : done ≡ rs = same_ok done rs is in omega (arith, ap length same)
  typed_long (r ∷ n) done rs is =
      let one = bind_ok (typed_rdn types r) (λ t. rdns_from types (done ++ t ∷ []) n) rs is in
      omega (arith, typed_long n (done ++ one.0 ∷ []) rs one.2, length-append done (one.0 ∷ []))

  -- ---- below a suffix

  below_more : (ss us bs : List TypedRdn) → below types ss us ≡ Ok [] → below types ss (us ++ bs) ≡ Ok bs
  unfolding below
  below_more [] [] bs h = refl
  below_more [] (a ∷ us) bs h = absurd cc
  below_more (s ∷ ss) [] bs h = absurd cc
  below_more (s ∷ ss) (a ∷ us) bs h = by (same_rdn_key (rdn_key_of types s) (rdn_key_of types a)) (below_more ss us bs) h
    where
      by : (b : Bool) → (below types ss us ≡ Ok [] → below types ss (us ++ bs) ≡ Ok bs) → cond b (below types ss us) (Err NoSuchObject) ≡ Ok [] → cond b (below types ss (us ++ bs)) (Err NoSuchObject) ≡ Ok bs
      by true rest h = rest h
      by false rest h = absurd cc

  below_parts : (ss ws out : List TypedRdn) → below types ss ws ≡ Ok out → (us : List TypedRdn) × (ws ≡ us ++ out) × (below types ss us ≡ Ok [])
  unfolding below
  below_parts [] ws out h = ([], same_ok ws out h, refl)
  below_parts (s ∷ ss) [] out h = absurd cc
  below_parts (s ∷ ss) (w ∷ ws) out h = by (same_rdn_key (rdn_key_of types s) (rdn_key_of types w)) refl (below_parts ss ws out) h
    where
      by : (b : Bool) → same_rdn_key (rdn_key_of types s) (rdn_key_of types w) ≡ b → (below types ss ws ≡ Ok out → (us : List TypedRdn) × (ws ≡ us ++ out) × (below types ss us ≡ Ok [])) → cond b (below types ss ws) (Err NoSuchObject) ≡ Ok out
          → (us : List TypedRdn) × ((w ∷ ws) ≡ us ++ out) × (below types (s ∷ ss) us ≡ Ok [])
      by true is rest h =
          let k = rest h in
          (w ∷ k.0, ap (λ (x : List TypedRdn). w ∷ x) k.1, ap (λ b. cond b (below types ss k.0) (Err NoSuchObject)) is ∙ k.2)
      by false is rest h = absurd cc

  none_below : (ss : List TypedRdn) → 0 < length ss → below types ss [] ≡ Ok [] → ⊥
  unfolding below
  none_below [] some h = omega (arith, some)
  none_below (s ∷ ss) some h = absurd cc

-- ---- names that are read

read_name : (text : List ℕ) (n : names.Name) → name_in text ≡ Ok n → (is_utf8 text ≡ true) × (name_of text ≡ Ok n)
unfolding name_in
read_name text n = by (is_utf8 text) refl (name_of text) refl
  where
    by : (b : Bool) → is_utf8 text ≡ b → (r : Result names.Name NameFaultKind) → name_of text ≡ r → cond b (or_invalid r) (Err InvalidDnSyntax) ≡ Ok n → (is_utf8 text ≡ true) × (name_of text ≡ Ok n)
    by true good (Ok m) read is = (good, read ∙ ap (λ (x : names.Name). Ok x) (same_ok m n is))
    by true good (Err fault) read is = absurd cc
    by false good r read is = absurd cc

name_read : (text : List ℕ) (n : names.Name) → is_utf8 text ≡ true → name_of text ≡ Ok n → name_in text ≡ Ok n
unfolding name_in
name_read text n good read = (λ i. cond (good i) (or_invalid (read i)) (Err InvalidDnSyntax))

-- ---- the name and what it is put in place of

module _ (read : (text : List ℕ) (n : names.Name) → (name_of text ≡ Ok n) ↔ Spells text n) (conf : Conf) (ok : IsConf conf) (name : List ℕ) (rdns : List TypedRdn) (said : suffix_in conf.types name ≡ Ok rdns) where
  abbrev types : List AttributeType
  types = conf.types

  abbrev new : Conf
  new = with_suffix conf rdns

  abbrev found : List TypedRdn → Result (List TypedRdn) Code
  found rs = Ok rs

  some_suffix : 0 < length conf.suffix
  some_suffix = ltb-true 0 (length conf.suffix) ok.suffix_some

  -- what the new suffix is read from
  record NewName : Type 0 where
    pub first : names.Rdn
    pub others : names.Name
    pub reads : name_in name ≡ Ok (first ∷ others)
    pub typed_is : typed types (first ∷ others) ≡ Ok rdns

  some_read : (r : Result (List TypedRdn) Code) → (r >>= some_rdns) ≡ Ok rdns → (r ≡ Ok rdns) × (0 < length rdns)
  some_read (Ok []) is = absurd cc
  some_read (Ok (r ∷ rs)) is = (is, subst (λ (x : List TypedRdn). 0 < length x) (same_ok (r ∷ rs) rdns is) (omega arith))
  some_read (Err code) is = absurd cc

  named : NewName
  unfolding suffix_in rdns_in rdns_from
  named =
      let k = some_read (rdns_in types name) said in
      let j = bind_ok (name_in name) (typed types) rdns k.0 in
      by j.0 j.1 j.2 k.1
    where
      by : (n : names.Name) → name_in name ≡ Ok n → typed types n ≡ Ok rdns → 0 < length rdns → NewName
      by [] reads is some = let none : [] ≡ rdns = same_ok [] rdns is in absurd (omega (arith, ap length none, some))
      by (r ∷ rs) reads is some = record { first = r; others = rs; reads = reads; typed_is = is }

  -- the name itself stands at the new suffix
  at_name : located new name ≡ Ok []
  unfolding located place_of
  at_name =
      ap (λ x. x >>= place_of new) named.reads
      ∙ ap (λ (x : Result (List TypedRdn) Code). x >>= λ rs. below types (reverse rdns) (reverse rs)) named.typed_is
      ∙ ap (below types (reverse rdns)) (sym (append-nil (reverse rdns))) ∙ below_is types (reverse rdns) []

  -- ---- a cut of a value

  record IsCut (v f b : List ℕ) : Type 0 where
    pub text_is : v ≡ f ++ 44 ∷ b
    pub suffix : is_suffix conf b ≡ true
    pub front : has_rdns f ≡ true

  record Read (text : List ℕ) : Type 0 where
    pub first : names.Rdn
    pub others : names.Name
    pub reads : name_in text ≡ Ok (first ∷ others)

  front_read : (f : List ℕ) → has_rdns f ≡ true → Read f
  unfolding has_rdns
  front_read f has = by (name_in f) refl has
    where
      by : (r : Result names.Name Code) → name_in f ≡ r → is_some_name r ≡ true → Read f
      by (Ok []) is has = absurd cc
      by (Ok (r ∷ rs)) is has = record { first = r; others = rs; reads = is }
      by (Err code) is has = absurd cc

  no_path : (rs : List TypedRdn) → is_root (path_of conf rs) ≡ true → rs ≡ []
  no_path [] is = refl
  no_path (r ∷ rs) is = absurd cc

  suffix_located : (b : List ℕ) → is_suffix conf b ≡ true → located conf b ≡ Ok []
  unfolding is_suffix
  suffix_located b is = by (located conf b) refl is
    where
      by : (r : Result (List TypedRdn) Code) → located conf b ≡ r → is_at_root (r >>= λ rs. Ok (path_of conf rs)) ≡ true → r ≡ Ok []
      by (Ok rs) at is = ap found (no_path rs is)
      by (Err code) at is = absurd cc

  -- where RDNs come to the suffix there are some
  back_some : (n : names.Name) (ts : List TypedRdn) → typed types n ≡ Ok ts → below types (reverse conf.suffix) (reverse ts) ≡ Ok [] → (r : names.Rdn) × (rest : names.Name) × (n ≡ r ∷ rest)
  unfolding rdns_from
  back_some [] ts is low =
      let none : [] ≡ ts = same_ok [] ts is in
      absurd (none_below types (reverse conf.suffix) (omega (arith, some_suffix, length-reverse conf.suffix)) (ap (λ (x : List TypedRdn). below types (reverse conf.suffix) (reverse x)) none ∙ low))
  back_some (r ∷ rest) ts is low = (r, rest, refl)

  -- the text of RDNs that stand before the suffix, and behind them the new name
  module _ (v f b : List ℕ) (rs : List TypedRdn) (at : located conf v ≡ Ok rs) (cut : IsCut v f b) where
    fr : Read f
    fr = front_read f cut.front

    back : (n : names.Name) × (name_in b ≡ Ok n) × (place_of conf n ≡ Ok [])
    unfolding located
    back = bind_ok (name_in b) (place_of conf) [] (suffix_located b cut.suffix)

    back_typed : (ts : List TypedRdn) × (typed types back.0 ≡ Ok ts) × (below types (reverse conf.suffix) (reverse ts) ≡ Ok [])
    unfolding place_of
    back_typed = bind_ok (typed types back.0) (λ ts. below types (reverse conf.suffix) (reverse ts)) [] back.2

    whole : (n : names.Name) × (name_in v ≡ Ok n) × (place_of conf n ≡ Ok rs)
    unfolding located
    whole = bind_ok (name_in v) (place_of conf) rs at

    -- the value's name is that of both parts
    both : whole.0 ≡ (fr.first ∷ fr.others) ++ back.0
    both =
        let s = back_some back.0 back_typed.0 back_typed.1 back_typed.2 in
        let front : Spells f (fr.first ∷ fr.others) = (read f (fr.first ∷ fr.others)).0 (read_name f (fr.first ∷ fr.others) fr.reads).1 in
        let behind : Spells b (s.0 ∷ s.1) = (read b (s.0 ∷ s.1)).0 ((read_name b back.0 back.1).1 ∙ ap (λ (x : names.Name). Ok x) s.2) in
        let joined : name_of (f ++ 44 ∷ b) ≡ Ok ((fr.first ∷ fr.others) ++ (s.0 ∷ s.1)) = (read (f ++ 44 ∷ b) ((fr.first ∷ fr.others) ++ (s.0 ∷ s.1))).1 (joined_both f b fr.first s.0 fr.others s.1 front behind) in
        same_ok whole.0 ((fr.first ∷ fr.others) ++ back.0)
        (sym (read_name v whole.0 whole.1).1 ∙ ap name_of cut.text_is ∙ joined ∙ ap (λ (x : names.Name). Ok ((fr.first ∷ fr.others) ++ x)) (sym s.2))

    front_typed : (tf : List TypedRdn) × (typed types (fr.first ∷ fr.others) ≡ Ok tf) × (rs ≡ reverse tf)
    unfolding place_of
    front_typed =
        let k = bind_ok (typed types whole.0) (λ ts. below types (reverse conf.suffix) (reverse ts)) rs whole.2 in
        let p = typed_part types (fr.first ∷ fr.others) back.0 k.0 (ap (typed types) (sym both) ∙ k.1) in
        let same : p.1 ≡ back_typed.0 = same_ok p.1 back_typed.0 (sym p.3 ∙ back_typed.1) in
        let low : below types (reverse conf.suffix) (reverse p.1) ≡ Ok [] = ap (λ (x : List TypedRdn). below types (reverse conf.suffix) (reverse x)) same ∙ back_typed.2 in
        (p.0, p.2, same_ok rs (reverse p.0) (sym k.2 ∙ ap (λ (x : List TypedRdn). below types (reverse conf.suffix) (reverse x)) p.4 ∙ ap (below types (reverse conf.suffix)) (reverse-append p.0 p.1) ∙ below_more types (reverse conf.suffix) (reverse p.1) (reverse p.0) low))

    moved_reads : name_in (f ++ 44 ∷ name) ≡ Ok ((fr.first ∷ fr.others) ++ (named.first ∷ named.others))
    moved_reads =
        let rf = read_name f (fr.first ∷ fr.others) fr.reads in
        let rn = read_name name (named.first ∷ named.others) named.reads in
        let comma_good : IsUtf8 (44 ∷ []) = ascii_utf8 (44 ∷ []) refl in
        let good : is_utf8 (f ++ 44 ∷ name) ≡ true = is_utf8-from_IsUtf8 (f ++ 44 ∷ name) (IsUtf8-append f (44 ∷ name) (IsUtf8-from_is_utf8 f rf.0) (IsUtf8-append (44 ∷ []) name comma_good (IsUtf8-from_is_utf8 name rn.0))) in
        name_read (f ++ 44 ∷ name) ((fr.first ∷ fr.others) ++ (named.first ∷ named.others)) good
        ((read (f ++ 44 ∷ name) ((fr.first ∷ fr.others) ++ (named.first ∷ named.others))).1
        (joined_both f name fr.first named.first fr.others named.others ((read f (fr.first ∷ fr.others)).0 rf.1) ((read name (named.first ∷ named.others)).0 rn.1)))

    -- it stands where the value stood
    moved_there : located new (f ++ 44 ∷ name) ≡ Ok rs
    unfolding located place_of
    moved_there =
        ap (λ x. x >>= place_of new) moved_reads
        ∙ ap (λ (x : Result (List TypedRdn) Code). x >>= λ ts. below types (reverse rdns) (reverse ts)) (typed_join types (fr.first ∷ fr.others) (named.first ∷ named.others) front_typed.0 rdns front_typed.1 named.typed_is)
        ∙ ap (below types (reverse rdns)) (reverse-append front_typed.0 rdns)
        ∙ below_is types (reverse rdns) (reverse front_typed.0)
        ∙ ap found (sym front_typed.2)

  -- ---- the cut that is found

  cut_at : (v : List ℕ) (i : ℕ) → i < length v → is_cut conf v i ≡ true → IsCut v (take i v) (drop (i + 1) v)
  unfolding is_cut
  cut_at v i lt is =
      let a = and_parts (slice_index v i == 44) (is_suffix conf (drop (i + 1) v) && has_rdns (take i v)) is in
      let b = and_parts (is_suffix conf (drop (i + 1) v)) (has_rdns (take i v)) a.1 in
      let comma : slice_index v i ≡ 44 = eqb-true (slice_index v i) 44 a.0 in
      record {
        text_is = sym (take-append-drop i v) ∙ ap (λ (t : List ℕ). take i v ++ t) (drop_more v i 0 lt ∙ ap (λ (c : ℕ). c ∷ drop (i + 1) v) comma);
        suffix = b.0;
        front = b.1;
      }

  record Found (v f : List ℕ) : Type 0 where
    pub back : List ℕ
    pub cut : IsCut v f back

  found_cut : (v : List ℕ) (n : ℕ) → n ≤ length v → (f : List ℕ) → front_before conf v n ≡ Some f → Found v f
  unfolding front_before
  found_cut v zero le f is = absurd cc
  found_cut v (suc i) le f is = by (is_cut conf v i) refl (found_cut v i (omega (arith, le)) f) is
    where
      by : (b : Bool) → is_cut conf v i ≡ b → (front_before conf v i ≡ Some f → Found v f) → cond b (Some (take i v)) (front_before conf v i) ≡ Some f → Found v f
      by true at rest is = let same : take i v ≡ f = cc in subst (Found v) same (record { back = drop (i + 1) v; cut = cut_at v i (omega (arith, le)) at })
      by false at rest is = rest is

  is_found : (v : List ℕ) (i n : ℕ) → i < n → is_cut conf v i ≡ true → is_some (front_before conf v n) ≡ true
  unfolding front_before
  is_found v i zero lt at = absurd (omega (arith, lt))
  is_found v i (suc k) lt at = by (is_cut conf v k) refl (λ lower. is_found v i k lower at)
    where
      by : (b : Bool) → is_cut conf v k ≡ b → (i < k → is_some (front_before conf v k) ≡ true) → is_some (cond b (Some (take k v)) (front_before conf v k)) ≡ true
      by true here rest = refl
      by false here rest = rest (elim (i == k) as (λ b. (i == k) ≡ b → i < k) [
        | true ↦ λ same. absurd (let clash : true ≡ false = sym at ∙ ap (is_cut conf v) (eqb-true i k same) ∙ here in cc)
        | false ↦ λ other. let apart : i ≢ k = eqb-false i k other in omega (arith, lt, apart)
      ] refl)

  -- ---- a value below the suffix has such a cut

  byte_is : (v f b : List ℕ) → v ≡ f ++ 44 ∷ b → get_or v (length f) 0 ≡ 44
  byte_is v f b is = ap (λ (t : List ℕ). get_or t (length f) 0) is ∙ get_or-append_seam f 44 b 0

  long_is : (v f b : List ℕ) → v ≡ f ++ 44 ∷ b → length v ≡ length f + 1 + length b
  long_is v f b is = omega (arith, ap length is, length-append f (44 ∷ b))

  before_is : (v f b : List ℕ) → v ≡ f ++ 44 ∷ b → take (length f) v ≡ f
  before_is v f b is = ap (take (length f)) is ∙ take_at f (44 ∷ b) (length f) refl

  behind_is : (v f b : List ℕ) → v ≡ f ++ 44 ∷ b → drop (length f + 1) v ≡ b
  behind_is v f b is =
      ap (drop (length f + 1)) (is ∙ sym (append_assoc f (44 ∷ []) b))
      ∙ drop_at (f ++ 44 ∷ []) b (length f + 1) (omega (arith, length-append f (44 ∷ [])))

  both_good : (v f b : List ℕ) → v ≡ f ++ 44 ∷ b → is_utf8 v ≡ true → (is_utf8 f ≡ true) × (is_utf8 b ≡ true)
  both_good v f b is good =
      let whole = IsUtf8-from_is_utf8 v good in
      let lt : length f < length v = omega (arith, long_is v f b is) in
      let ascii : get_or v (length f) 0 < 128 = omega (arith, byte_is v f b is) in (
        is_utf8-from_IsUtf8 f (subst IsUtf8 (before_is v f b is) (IsUtf8-take v (length f) whole (IsCharBoundary-before_ascii v (length f) lt ascii))),
        is_utf8-from_IsUtf8 b (subst IsUtf8 (behind_is v f b is) (IsUtf8-drop v (length f + 1) whole (IsCharBoundary-after_ascii v (length f) whole lt ascii))),
      )

  is_cut_at : (v f b : List ℕ) → IsCut v f b → is_cut conf v (length f) ≡ true
  unfolding is_cut
  is_cut_at v f b cut =
      let comma : slice_index v (length f) ≡ 44 = byte_is v f b cut.text_is in
      (λ i. (comma i == 44) && (is_suffix conf (behind_is v f b cut.text_is i) && has_rdns (before_is v f b cut.text_is i)))
      ∙ ap (λ b. b && has_rdns f) cut.suffix ∙ cut.front

  record HasCut (v : List ℕ) : Type 0 where
    pub before : List ℕ
    pub back : List ℕ
    pub cut : IsCut v before back

  -- of a name in two parts, the second of which comes to the suffix
  cut_of : (v : List ℕ) (n m : names.Name) (ms : List TypedRdn) → name_in v ≡ Ok (n ++ m) → 0 < length n → typed types m ≡ Ok ms → below types (reverse conf.suffix) (reverse ms) ≡ Ok [] → HasCut v
  unfolding is_suffix has_rdns located place_of
  cut_of v [] m ms reads some is low = absurd (omega (arith, some))
  cut_of v (x ∷ xs) m ms reads some is low =
      let s = back_some m ms is low in
      let r = read_name v ((x ∷ xs) ++ m) reads in
      let parts = joined_apart v x s.0 xs s.1 ((read v ((x ∷ xs) ++ (s.0 ∷ s.1))).0 (r.1 ∙ ap (λ (y : names.Name). Ok ((x ∷ xs) ++ y)) s.2)) in
      let good = both_good v parts.front parts.back parts.text_is r.0 in
      let front : name_in parts.front ≡ Ok (x ∷ xs) = name_read parts.front (x ∷ xs) good.0 ((read parts.front (x ∷ xs)).1 parts.before) in
      let back : name_in parts.back ≡ Ok m = name_read parts.back (s.0 ∷ s.1) good.1 ((read parts.back (s.0 ∷ s.1)).1 parts.behind) ∙ ap (λ (y : names.Name). Ok y) (sym s.2) in
      let there : located conf parts.back ≡ Ok [] =
      ap (λ y. y >>= place_of conf) back ∙ ap (λ (y : Result (List TypedRdn) Code). y >>= λ ts. below types (reverse conf.suffix) (reverse ts)) is ∙ low in
      record {
        before = parts.front;
        back = parts.back;
        cut = record {
          text_is = parts.text_is;
          suffix = ap (λ (y : Result (List TypedRdn) Code). is_at_root (y >>= λ rs. Ok (path_of conf rs))) there;
          front = ap is_some_name front;
        };
      }

  has_cut : (v : List ℕ) (r : TypedRdn) (rs : List TypedRdn) → located conf v ≡ Ok (r ∷ rs) → HasCut v
  unfolding located place_of
  has_cut v r rs at =
      let w = bind_ok (name_in v) (place_of conf) (r ∷ rs) at in
      let k = bind_ok (typed types w.0) (λ ts. below types (reverse conf.suffix) (reverse ts)) (r ∷ rs) w.2 in
      let low = below_parts types (reverse conf.suffix) (reverse k.0) (r ∷ rs) k.2 in
      let j = length (r ∷ rs) in
      let whole : k.0 ≡ reverse (r ∷ rs) ++ reverse low.0 = sym (reverse-reverse k.0) ∙ ap reverse low.1 ∙ reverse-append low.0 (r ∷ rs) in
      let long : length w.0 ≡ j + length low.0 = omega (arith, typed_long types w.0 [] k.0 k.1, ap length whole, length-append (reverse (r ∷ rs)) (reverse low.0), length-reverse (r ∷ rs), length-reverse low.0) in
      let cut : w.0 ≡ take j w.0 ++ drop j w.0 = sym (take-append-drop j w.0) in
      let p = typed_part types (take j w.0) (drop j w.0) k.0 (ap (typed types) (sym cut) ∙ k.1) in
      let taken : length (take j w.0) ≡ j = omega (arith, length-take j w.0, long) in
      let first : length p.0 ≡ j = omega (arith, typed_long types (take j w.0) [] p.0 p.2, taken) in
      let rest : p.1 ≡ reverse low.0 =
      sym (drop_at p.0 p.1 j first) ∙ ap (drop j) (sym p.4 ∙ whole) ∙ drop_at (reverse (r ∷ rs)) (reverse low.0) j (length-reverse (r ∷ rs)) in
      cut_of v (take j w.0) (drop j w.0) p.1 (w.1 ∙ ap (λ (y : names.Name). Ok y) cut) (omega (arith, taken)) p.3
      (ap (λ (x : List TypedRdn). below types (reverse conf.suffix) (reverse x)) rest ∙ ap (below types (reverse conf.suffix)) (reverse-reverse low.0) ∙ low.2)

  -- ---- a value

  moved_lower : (v : List ℕ) (r : TypedRdn) (rs : List TypedRdn) → located conf v ≡ Ok (r ∷ rs) → located new (moved_below conf name v) ≡ Ok (r ∷ rs)
  moved_lower v r rs at = by (front_of conf v) refl
    where
      by : (o : Option (List ℕ)) → front_of conf v ≡ o → located new (put_below name v o) ≡ Ok (r ∷ rs)
      by (Some f) is =
          let k = found_cut v (length v) (omega arith) f is in
          moved_there v f k.back (r ∷ rs) at k.cut
      by None is =
          let h = has_cut v r rs at in
          let lt : length h.before < length v = omega (arith, long_is v h.before h.back h.cut.text_is) in
          let some : is_some (front_of conf v) ≡ true = is_found v (length h.before) (length v) lt (is_cut_at v h.before h.back h.cut) in
          absurd (let clash : true ≡ false = sym some ∙ ap is_some is in cc)

  -- a value of something at the suffix or below it names what is as far below the new one
  pub moved_place : (v : List ℕ) (rs : List TypedRdn) → located conf v ≡ Ok rs → located new (moved_value conf name v) ≡ Ok rs
  unfolding moved_value
  moved_place v rs at = ap (λ (x : Result (List TypedRdn) Code). located new (moved_from conf name v (x >>= λ ys. Ok (path_of conf ys)))) at ∙ by rs at
    where
      by : (ys : List TypedRdn) → located conf v ≡ Ok ys → located new (moved_from conf name v (Ok (path_of conf ys))) ≡ Ok ys
      by [] at = at_name
      by (r ∷ ys) at = moved_lower v r ys at

-- any other value stays
pub other_place : (conf : Conf) (name v : List ℕ) (code : Code) → located conf v ≡ Err code → moved_value conf name v ≡ v
unfolding moved_value
other_place conf name v code at = ap (λ (x : Result (List TypedRdn) Code). moved_from conf name v (x >>= λ ys. Ok (path_of conf ys))) at
