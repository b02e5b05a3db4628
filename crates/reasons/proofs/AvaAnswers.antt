-- The first flaw of the AVAs of a name.
use Rattle.std.proofs.Common.{◌≡◌, ℕ, suc, Bool, true, false, cond, not, ◌||◌, List, [], ◌∷◌, ◌++◌, length, take, map, Option, Some, None, Result, Ok, Err, refl, sym, ap, subst, ◌∙◌, arith}
use Rattle.std.specs.Prelude.{nat_eq}
use Rattle.std.specs.List.{list_any, slice_get}
use Rattle.std.proofs.lemmas.List.{append_assoc, length_push}
use Rattle.std.proofs.lemmas.List.Folds.{list_any-append}
use Rattle.base.specs.Answers.{◌>>=◌}
use Rattle.dn.specs.Names as names
use Rattle.values.specs.Types.{type_of, has_equality}
use Rattle.schema.specs.declared.code.Code.{Code}
use Rattle.schema.specs.declared.code.Code.TheVariants.{InvalidDnSyntax, NamingViolation}
use Rattle.schema.specs.Conf.{Conf}
use Rattle.schema.specs.Names.{name_in}
use Rattle.schema.specs.Rdns.{TypedRdn, is_valid_ava, has_type, type_among, avas_from, typed_rdn, rdns_from, typed}
use Rattle.schema.specs.TypeRules.{has_name_syntax}
use Rattle.schema.specs.Values.{is_valid_at}
use Rattle.schema.specs.Subtypes.{passes}
use Rattle.schema.specs.FaultyNames.{AvaFlaw, UnknownType, NameSyntax, NoEquality, BadValue, TypeTwice, IsOfType, is_of_type, HasAvaFlaw, ava_order}
use Rattle.schema.proofs.AvaValues.{plain_is}
use Rattle.reasons.specs.NameFlaws.{NameFlaw, Ava, IsAva, HasNameFlaw, name_flaw_code, ava_checks, rdn_checks}
use Rattle.reasons.proofs.Answering.{Answers, check, passed, failed, behind}
use Rattle.reasons.proofs.Elements.{off, on, only_some, is_none}
use Rattle.reasons.proofs.Lines.{get_seam, take_seam}

pub same_ok : {A F : Type 0} (x y : A) → ◌≡◌ {A = Result A F} (Ok x) (Ok y) → x ≡ y
same_ok x y h = cc

-- what a step finds is what it found
pub only_ok : {A F : Type 0} (r : Result A F) (x y : A) → r ≡ Ok x → r ≡ Ok y → x ≡ y
only_ok r x y h k = same_ok x y (sym h ∙ k)

module _ (conf : Conf) (text : List ℕ) (n : names.Name) (named : name_in text ≡ Ok n) {A : Type 0} (x : Result A Code) where
  abbrev part : Type 0 → List NameFlaw → Type 0
  part P checks = Answers (HasNameFlaw conf text) name_flaw_code P checks x

  -- ---- an RDN

  module _ (i : ℕ) (r : names.Rdn) (at : slice_get n i ≡ Some r) where
    module _ (j : ℕ) (p : names.Ava) (earlier : names.Rdn) (here : slice_get r j ≡ Some p) (front : take j r ≡ earlier) where
      is_ava : IsAva text i j earlier p
      is_ava = record { name = n; spelled = named; rdn = r; rdn_is = at; ava_is = here; earlier_are = sym front }

      to : (f : AvaFlaw) → HasAvaFlaw conf.types earlier p f → HasNameFlaw conf text (Ava i j f)
      to f h = (earlier, p, is_ava, h)

      -- what is so of the AVA with these indices is so of this one
      from : (f : AvaFlaw) → HasNameFlaw conf text (Ava i j f) → HasAvaFlaw conf.types earlier p f
      from f h =
          let is = h.2 in
          let same_name : is.name ≡ n = only_ok (name_in text) is.name n is.spelled named in
          let same_rdn : is.rdn ≡ r = only_some (slice_get n i) is.rdn r (ap (λ (m : names.Name). slice_get m i) (sym same_name) ∙ is.rdn_is) at in
          let same_ava : h.1 ≡ p = only_some (slice_get r j) h.1 p (ap (λ (q : names.Rdn). slice_get q j) (sym same_rdn) ∙ is.ava_is) here in
          let same_front : h.0 ≡ earlier = is.earlier_are ∙ ap (λ (q : names.Rdn). take j q) same_rdn ∙ front in
          subst (λ (e : names.Rdn). HasAvaFlaw conf.types e p f) same_front (subst (λ (q : names.Ava). HasAvaFlaw conf.types h.0 q f) same_ava h.3)

      -- of the type that it names
      of_type : (t : ℕ) → IsOfType conf.types p t → (Q : ℕ → Type 0) (u : ℕ) → IsOfType conf.types p u → Q u → Q t
      of_type t known Q u is h = subst Q (only_some (type_of conf.types p.0) u t is known) h

      typed_ava : (P : Type 0) (checks : List NameFlaw) (done : TypedRdn) (t : ℕ) (known : IsOfType conf.types p t) → ((u : ℕ) → has_type u done ≡ list_any (is_of_type conf.types u) earlier)
          → (k : Result ℕ Code → Result A Code) → ((c : Code) → k (Err c) ≡ Err c) → x ≡ k (type_among conf.types done p.1 (Some t)) → (x ≡ k (Ok t) → part P checks) → part P (map (Ava i j) ava_order ++ checks)
      typed_ava P checks done t known typed_done k fails is more =
          let name : Bool = has_name_syntax conf.types t in
          let ruled : Bool = has_equality conf.types t in
          let valid : Bool = is_valid_at conf.types t p.1 in
          let plain : Bool = is_valid_ava conf.types t p.1 in
          let twice : Bool = list_any (is_of_type conf.types t) earlier in
          let typed_twice : Bool = has_type t done in
          let ok : Result ℕ Code = Ok t in
          passed (HasNameFlaw conf text) name_flaw_code P (Ava i j UnknownType) (Ava i j NameSyntax ∷ Ava i j NoEquality ∷ Ava i j BadValue ∷ Ava i j TypeTwice ∷ checks) x
          (λ h. from UnknownType h t known)
          (check (HasNameFlaw conf text) name_flaw_code P name (Ava i j NameSyntax) (Ava i j NoEquality ∷ Ava i j BadValue ∷ Ava i j TypeTwice ∷ checks) x
          (k (cond (not ruled) (Err NamingViolation) (cond (not plain) (Err InvalidDnSyntax) (cond typed_twice (Err NamingViolation) ok))))
          (is ∙ one name InvalidDnSyntax (cond (not ruled) (Err NamingViolation) (cond (not plain) (Err InvalidDnSyntax) (cond typed_twice (Err NamingViolation) ok))))
          (λ h. to NameSyntax (t, known, h)) (λ h. let f = from NameSyntax h in of_type t known (λ u. has_name_syntax conf.types u ≡ true) f.0 f.1 f.2) λ no_name said.
          check (HasNameFlaw conf text) name_flaw_code P (not ruled) (Ava i j NoEquality) (Ava i j BadValue ∷ Ava i j TypeTwice ∷ checks) x
          (k (cond (not plain) (Err InvalidDnSyntax) (cond typed_twice (Err NamingViolation) ok)))
          (said ∙ one (not ruled) NamingViolation (cond (not plain) (Err InvalidDnSyntax) (cond typed_twice (Err NamingViolation) ok)))
          (λ h. to NoEquality (t, known, off ruled h)) (λ h. let f = from NoEquality h in on ruled (of_type t known (λ u. has_equality conf.types u ≡ false) f.0 f.1 f.2)) λ has_rule said.
          check (HasNameFlaw conf text) name_flaw_code P (not valid) (Ava i j BadValue) (Ava i j TypeTwice ∷ checks) x (k (cond typed_twice (Err NamingViolation) ok))
          (said ∙ ap (λ (b : Bool). k (cond (not b) (Err InvalidDnSyntax) (cond typed_twice (Err NamingViolation) ok))) (sym (plain_is conf.types t p.1 no_name)) ∙ one (not valid) InvalidDnSyntax (cond typed_twice (Err NamingViolation) ok))
          (λ h. to BadValue (t, known, off valid h)) (λ h. let f = from BadValue h in on valid (of_type t known (λ u. is_valid_at conf.types u p.1 ≡ false) f.0 f.1 f.2)) λ fine said.
          check (HasNameFlaw conf text) name_flaw_code P twice (Ava i j TypeTwice) checks x (k ok)
          (said ∙ ap (λ (b : Bool). k (cond b (Err NamingViolation) ok)) (typed_done t) ∙ one twice NamingViolation ok)
          (λ h. to TypeTwice (t, known, h)) (λ h. let f = from TypeTwice h in of_type t known (λ u. list_any (is_of_type conf.types u) earlier ≡ true) f.0 f.1 f.2) λ once.
          more)
        where
          one : (b : Bool) (c : Code) (rest : Result ℕ Code) → k (cond b (Err c) rest) ≡ cond b (Err c) (k rest)
          one true c rest = fails c
          one false c rest = refl

      one_ava : (P : Type 0) (checks : List NameFlaw) (done : TypedRdn) → ((u : ℕ) → has_type u done ≡ list_any (is_of_type conf.types u) earlier)
          → (k : Result ℕ Code → Result A Code) → ((c : Code) → k (Err c) ≡ Err c) → x ≡ k (type_among conf.types done p.1 (type_of conf.types p.0))
          → ((t : ℕ) → IsOfType conf.types p t → x ≡ k (Ok t) → part P checks) → part P (map (Ava i j) ava_order ++ checks)
      one_ava P checks done typed_done k fails is more = by (type_of conf.types p.0) refl
        where
          among : Option ℕ → Result A Code
          among o = k (type_among conf.types done p.1 o)

          by : (o : Option ℕ) → type_of conf.types p.0 ≡ o → part P (map (Ava i j) ava_order ++ checks)
          by None none =
              failed (HasNameFlaw conf text) name_flaw_code P (Ava i j UnknownType) (Ava i j NameSyntax ∷ Ava i j NoEquality ∷ Ava i j BadValue ∷ Ava i j TypeTwice ∷ checks) x
              (to UnknownType (λ t. is_none (type_of conf.types p.0) t none)) (is ∙ ap among none ∙ fails InvalidDnSyntax)
          by (Some t) known = typed_ava P checks done t known typed_done k fails (is ∙ ap among known) (more t known)

    -- ---- from an AVA on

    module _ (k : Result TypedRdn Code → Result A Code) (fails : (c : Code) → k (Err c) ≡ Err c) where
      abbrev Typed : Type 0
      Typed = (rdn : TypedRdn) × (x ≡ k (Ok rdn))

      typed_more : (done : TypedRdn) (earlier : names.Rdn) (p : names.Ava) (t : ℕ) → ((u : ℕ) → has_type u done ≡ list_any (is_of_type conf.types u) earlier) → IsOfType conf.types p t
          → (u : ℕ) → has_type u (done ++ (t, p.1) ∷ []) ≡ list_any (is_of_type conf.types u) (earlier ++ p ∷ [])
      typed_more done earlier p t same known u =
          list_any-append (λ q. nat_eq q.0 u) done ((t, p.1) ∷ [])
          ∙ ap (λ (b : Bool). b || (nat_eq t u || false)) (same u)
          ∙ ap (λ (o : Option ℕ). list_any (is_of_type conf.types u) earlier || (passes (λ s. nat_eq s u) o || false)) (sym known)
          ∙ sym (list_any-append (is_of_type conf.types u) earlier (p ∷ []))

      from_ava : (ps earlier : names.Rdn) (done : TypedRdn) (j : ℕ) → r ≡ earlier ++ ps → length earlier ≡ j → ((u : ℕ) → has_type u done ≡ list_any (is_of_type conf.types u) earlier)
          → x ≡ k (avas_from conf.types done ps) → part Typed (ava_checks i j ps)
      unfolding avas_from
      from_ava [] earlier done j whole long same is = (done, is)
      from_ava (p ∷ ps) earlier done j whole long same is =
          let here : slice_get r j ≡ Some p = ap (λ (q : names.Rdn). slice_get q j) whole ∙ ap (slice_get (earlier ++ p ∷ ps)) (sym long) ∙ get_seam earlier p ps in
          let front : take j r ≡ earlier = ap (λ (q : names.Rdn). take j q) whole ∙ ap (λ (m : ℕ). take m (earlier ++ p ∷ ps)) (sym long) ∙ take_seam earlier (p ∷ ps) in
          one_ava j p earlier here front Typed (ava_checks i (suc j) ps) done same (λ o. k (next o)) fails is
          (λ t known said. from_ava ps (earlier ++ p ∷ []) (done ++ (t, p.1) ∷ []) (suc j) (whole ∙ sym (append_assoc earlier (p ∷ []) ps)) (omega (arith, long, length_push earlier p))
          (typed_more done earlier p t same known) said)
        where
          next : Result ℕ Code → Result TypedRdn Code
          next o = o >>= λ t. avas_from conf.types (done ++ (t, p.1) ∷ []) ps

      rdn_answers : x ≡ k (typed_rdn conf.types r) → part Typed (ava_checks i 0 r)
      rdn_answers is = from_ava r [] [] 0 refl refl (λ u. refl) is

-- ---- from an RDN on

module _ (conf : Conf) (text : List ℕ) (n : names.Name) (named : name_in text ≡ Ok n) where
  abbrev AllTyped : Type 0
  AllTyped = (rdns : List TypedRdn) × (typed conf.types n ≡ Ok rdns)

  abbrev x_of : Result (List TypedRdn) Code
  x_of = typed conf.types n

  from_rdn : (rs before : names.Name) (done : List TypedRdn) (i : ℕ) → n ≡ before ++ rs → length before ≡ i → typed conf.types n ≡ rdns_from conf.types done rs
      → Answers (HasNameFlaw conf text) name_flaw_code AllTyped (rdn_checks i rs) x_of
  unfolding rdns_from
  from_rdn [] before done i whole long is = (done, is)
  from_rdn (r ∷ rs) before done i whole long is =
      let at : slice_get n i ≡ Some r = ap (λ (m : names.Name). slice_get m i) whole ∙ ap (slice_get (before ++ r ∷ rs)) (sym long) ∙ get_seam before r rs in
      let next : Result TypedRdn Code → Result (List TypedRdn) Code = λ rdn. rdn >>= λ t. rdns_from conf.types (done ++ t ∷ []) rs in
      behind (HasNameFlaw conf text) name_flaw_code ((rdn : TypedRdn) × (x_of ≡ next (Ok rdn))) AllTyped (ava_checks i 0 r) (rdn_checks (suc i) rs) x_of
      (rdn_answers conf text n named x_of i r at next (λ c. refl) is)
      (λ k. from_rdn rs (before ++ r ∷ []) (done ++ k.0 ∷ []) (suc i) (whole ∙ sym (append_assoc before (r ∷ []) rs)) (omega (arith, long, length_push before r)) k.1)

  pub ava_answers : Answers (HasNameFlaw conf text) name_flaw_code ((rdns : List TypedRdn) × (typed conf.types n ≡ Ok rdns)) (rdn_checks 0 n) (typed conf.types n)
  ava_answers = from_rdn n [] [] 0 refl refl refl
