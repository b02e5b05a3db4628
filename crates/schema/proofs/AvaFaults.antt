-- The types of a name's AVAs are found, or it is refused for the first AVA that has a flaw.
use Rattle.std.proofs.Common.{◌≡◌, ℕ, Bool, true, false, cond, not, ◌||◌, List, [], ◌∷◌, ◌++◌, Option, Some, None, Result, Ok, Err, refl, sym, ap, subst, ◌∙◌}
use Rattle.std.specs.Prelude.{nat_eq, is_some}
use Rattle.std.specs.List.{list_any, AllByRecursion}
use Rattle.std.proofs.lemmas.List.{append-nil, append_assoc}
use Rattle.std.proofs.lemmas.List.Folds.{list_any-append}
use Rattle.dn.specs.Names as names
use Rattle.base.specs.Answers.{◌>>=◌}
use Rattle.values.specs.declared.types.AttributeType.{AttributeType}
use Rattle.values.specs.Types.{type_of, has_equality}
use Rattle.schema.specs.declared.code.Code.{Code}
use Rattle.schema.specs.declared.code.Code.TheVariants.{InvalidDnSyntax, NamingViolation}
use Rattle.schema.specs.TypeRules.{has_name_syntax}
use Rattle.schema.specs.Values.{is_valid_at}
use Rattle.schema.specs.Rdns.{TypedRdn, is_valid_ava, has_type, ava_type, type_among, avas_from, typed_rdn, rdns_from, typed}
use Rattle.schema.specs.Subtypes.{passes}
use Rattle.schema.specs.FirstFlaws.{Not, IsFirstFlaw}
use Rattle.schema.specs.FaultyNames.{AvaFlaw, UnknownType, NameSyntax, NoEquality, BadValue, TypeTwice, is_of_type, HasAvaFlaw, ava_order, flaw_code, AreFlawless, IsAvaFault}
use Rattle.schema.proofs.FirstFlaws.{first_of, Tells, is_first_flaw, first_is, none_of, none_is}
use Rattle.schema.proofs.AvaValues.{plain_is}

-- ---- tests for each flaw

same_err : {A F : Type 0} (e f : F) → ◌≡◌ {A = Result A F} (Err e) (Err f) → e ≡ f
same_err e f h = cc

passed : (P : ℕ → Bool) (o : Option ℕ) → passes P o ≡ true → (t : ℕ) × (o ≡ Some t) × (P t ≡ true)
passed P None e = absurd cc
passed P (Some t) e = (t, refl, e)

passed_not : (P : ℕ → Bool) (o : Option ℕ) → passes (λ t. not (P t)) o ≡ true → (t : ℕ) × (o ≡ Some t) × (P t ≡ false)
passed_not P None e = absurd cc
passed_not P (Some t) e = (t, refl, by (P t) e)
  where
    by : (b : Bool) → not b ≡ true → b ≡ false
    by true h = sym h
    by false h = refl

-- the tests of an AVA, where this is the type that it names
abbrev tests : List AttributeType → names.Rdn → List ℕ → Option ℕ → AvaFlaw → Bool
tests types earlier v o UnknownType = not (is_some o)
tests types earlier v o NameSyntax = passes (has_name_syntax types) o
tests types earlier v o NoEquality = passes (λ t. not (has_equality types t)) o
tests types earlier v o BadValue = passes (λ t. not (is_valid_at types t v)) o
tests types earlier v o TypeTwice = passes (λ t. list_any (is_of_type types t) earlier) o

-- what is answered for an AVA with this first flaw, or with none
abbrev coded : Option AvaFlaw → Option ℕ → Result ℕ Code
coded (Some flaw) o = Err (flaw_code flaw)
coded None None = Err InvalidDnSyntax
coded None (Some t) = Ok t

-- the conditions of an AVA in turn
turn : (t : ℕ) (n e v d : Bool) → cond n (Err InvalidDnSyntax) (cond (not e) (Err NamingViolation) (cond (not v) (Err InvalidDnSyntax) (cond d (Err NamingViolation) (Ok t))))
    ≡ coded (cond n (Some NameSyntax) (cond (not e) (Some NoEquality) (cond (not v) (Some BadValue) (cond d (Some TypeTwice) None)))) (Some t)
turn t true e v d = refl
turn t false false v d = refl
turn t false true false d = refl
turn t false true true true = refl
turn t false true true false = refl

module _ (types : List AttributeType) where
  abbrev test : names.Rdn → names.Ava → AvaFlaw → Bool
  test earlier p = tests types earlier p.1 (type_of types p.0)

  abbrev found : names.Rdn → names.Ava → Option AvaFlaw
  found earlier p = first_of (test earlier p) ava_order

  none_named : (o : Option ℕ) → not (is_some o) ≡ true → (t : ℕ) → Not (o ≡ Some t)
  none_named None e t is = absurd cc
  none_named (Some u) e t is = absurd cc

  unnamed : (o : Option ℕ) → ((t : ℕ) → Not (o ≡ Some t)) → not (is_some o) ≡ true
  unnamed None h = refl
  unnamed (Some t) h = absurd (h t refl)

  tells : (earlier : names.Rdn) (p : names.Ava) → Tells (test earlier p) (HasAvaFlaw types earlier p)
  tells earlier p UnknownType = (none_named (type_of types p.0), unnamed (type_of types p.0))
  tells earlier p NameSyntax = (passed (has_name_syntax types) (type_of types p.0), λ h. ap (passes (has_name_syntax types)) h.1 ∙ h.2)
  tells earlier p NoEquality = (
    passed_not (has_equality types) (type_of types p.0),
    λ h. ap (passes (λ t. not (has_equality types t))) h.1 ∙ ap (λ (b : Bool). not b) h.2,
  )
  tells earlier p BadValue = (
    passed_not (λ t. is_valid_at types t p.1) (type_of types p.0),
    λ h. ap (passes (λ t. not (is_valid_at types t p.1))) h.1 ∙ ap (λ (b : Bool). not b) h.2,
  )
  tells earlier p TypeTwice = (
    passed (λ t. list_any (is_of_type types t) earlier) (type_of types p.0),
    λ h. ap (passes (λ t. list_any (is_of_type types t) earlier)) h.1 ∙ h.2,
  )

  -- ---- an AVA

  -- typed AVAs, and the AVAs as they stand in the name
  abbrev AreTyped : TypedRdn → names.Rdn → Type 0
  AreTyped done earlier = (t : ℕ) → has_type t done ≡ list_any (is_of_type types t) earlier

  ava_told : (done : TypedRdn) (earlier : names.Rdn) (p : names.Ava) → AreTyped done earlier → ava_type types done p ≡ coded (found earlier p) (type_of types p.0)
  ava_told done earlier p same = by (type_of types p.0)
    where
      with_type : (t : ℕ) (n : Bool) → has_name_syntax types t ≡ n
          → cond n (Err InvalidDnSyntax) (cond (not (has_equality types t)) (Err NamingViolation) (cond (not (is_valid_ava types t p.1)) (Err InvalidDnSyntax) (cond (has_type t done) (Err NamingViolation) (Ok t))))
          ≡ coded (cond n (Some NameSyntax) (cond (not (has_equality types t)) (Some NoEquality) (cond (not (is_valid_at types t p.1)) (Some BadValue) (cond (list_any (is_of_type types t) earlier) (Some TypeTwice) None)))) (Some t)
      with_type t true is = refl
      with_type t false is =
          ap (λ (v : Bool). cond {A = Result ℕ Code} (not (has_equality types t)) (Err NamingViolation) (cond (not v) (Err InvalidDnSyntax) (cond (has_type t done) (Err NamingViolation) (Ok t)))) (sym (plain_is types t p.1 is))
          ∙ ap (λ (d : Bool). cond {A = Result ℕ Code} (not (has_equality types t)) (Err NamingViolation) (cond (not (is_valid_at types t p.1)) (Err InvalidDnSyntax) (cond d (Err NamingViolation) (Ok t)))) (same t)
          ∙ turn t false (has_equality types t) (is_valid_at types t p.1) (list_any (is_of_type types t) earlier)

      by : (o : Option ℕ) → type_among types done p.1 o ≡ coded (first_of (tests types earlier p.1 o) ava_order) o
      by None = refl
      by (Some t) = with_type t (has_name_syntax types t) refl

  -- an AVA without a flaw has a type
  fine : (done : TypedRdn) (earlier : names.Rdn) (p : names.Ava) → AreTyped done earlier → found earlier p ≡ None → (t : ℕ) × (type_of types p.0 ≡ Some t) × (ava_type types done p ≡ Ok t)
  fine done earlier p same none = by (type_of types p.0) refl (ava_told done earlier p same ∙ ap (λ (f : Option AvaFlaw). coded f (type_of types p.0)) none)
    where
      by : (o : Option ℕ) → type_of types p.0 ≡ o → ava_type types done p ≡ coded None o → (t : ℕ) × (type_of types p.0 ≡ Some t) × (ava_type types done p ≡ Ok t)
      by None is said = absurd (let flaw = ap (λ (o : Option ℕ). first_of (tests types earlier p.1 o) ava_order) (sym is) ∙ none in cc)
      by (Some t) is said = (t, is, said)

  -- one with a flaw is refused
  refused : (done : TypedRdn) (earlier : names.Rdn) (p : names.Ava) (flaw : AvaFlaw) → AreTyped done earlier → found earlier p ≡ Some flaw → ava_type types done p ≡ Err (flaw_code flaw)
  refused done earlier p flaw same is = ava_told done earlier p same ∙ ap (λ (f : Option AvaFlaw). coded f (type_of types p.0)) is

  no_flaw : (earlier : names.Rdn) (p : names.Ava) → found earlier p ≡ None → (flaw : AvaFlaw) → Not (HasAvaFlaw types earlier p flaw)
  no_flaw earlier p none flaw = by flaw (none_of (test earlier p) (HasAvaFlaw types earlier p) (tells earlier p) ava_order none)
    where
      by : (flaw : AvaFlaw) → AllByRecursion (λ f. Not (HasAvaFlaw types earlier p f)) ava_order → Not (HasAvaFlaw types earlier p flaw)
      by UnknownType h = h.0
      by NameSyntax h = h.1.0
      by NoEquality h = h.1.1.0
      by BadValue h = h.1.1.1.0
      by TypeTwice h = h.1.1.1.1.0

  typed_more : (done : TypedRdn) (earlier : names.Rdn) (p : names.Ava) (t : ℕ) → AreTyped done earlier → type_of types p.0 ≡ Some t → AreTyped (done ++ (t, p.1) ∷ []) (earlier ++ p ∷ [])
  typed_more done earlier p t same is u =
      list_any-append (λ q. nat_eq q.0 u) done ((t, p.1) ∷ [])
      ∙ ap (λ (b : Bool). b || (nat_eq t u || false)) (same u)
      ∙ ap (λ (o : Option ℕ). list_any (is_of_type types u) earlier || (passes (λ s. nat_eq s u) o || false)) (sym is)
      ∙ sym (list_any-append (is_of_type types u) earlier (p ∷ []))

  -- ---- the AVAs of an RDN

  -- the first AVA with a flaw
  record IsFaulty (earlier ps : names.Rdn) (code : Code) : Type 0 where
    front : names.Rdn
    ava : names.Ava
    later : names.Rdn
    is : ps ≡ front ++ ava ∷ later
    front_are : AreFlawless types earlier front
    flaw : AvaFlaw
    first : IsFirstFlaw AvaFlaw (HasAvaFlaw types (earlier ++ front) ava) ava_order flaw
    code_is : code ≡ flaw_code flaw

  faulty_here : (earlier : names.Rdn) (p : names.Ava) (ps : names.Rdn) (flaw : AvaFlaw) → found earlier p ≡ Some flaw → IsFaulty earlier (p ∷ ps) (flaw_code flaw)
  faulty_here earlier p ps flaw is = record {
    front = [];
    ava = p;
    later = ps;
    is = refl;
    front_are = tt;
    flaw = flaw;
    first = subst (λ (e : names.Rdn). IsFirstFlaw AvaFlaw (HasAvaFlaw types e p) ava_order flaw) (sym (append-nil earlier)) (is_first_flaw (test earlier p) (HasAvaFlaw types earlier p) (tells earlier p) ava_order flaw is);
    code_is = refl;
  }

  faulty_behind : (earlier : names.Rdn) (p : names.Ava) (ps : names.Rdn) (code : Code) → found earlier p ≡ None → IsFaulty (earlier ++ p ∷ []) ps code → IsFaulty earlier (p ∷ ps) code
  faulty_behind earlier p ps code none k = record {
    front = p ∷ k.front;
    ava = k.ava;
    later = k.later;
    is = ap (λ (qs : names.Rdn). p ∷ qs) k.is;
    front_are = (no_flaw earlier p none, k.front_are);
    flaw = k.flaw;
    first = subst (λ (e : names.Rdn). IsFirstFlaw AvaFlaw (HasAvaFlaw types e k.ava) ava_order k.flaw) (append_assoc earlier (p ∷ []) k.front) k.first;
    code_is = k.code_is;
  }

  abbrev rest_of : TypedRdn → names.Ava → names.Rdn → Result ℕ Code → Result TypedRdn Code
  rest_of done p ps r = r >>= λ t. avas_from types (done ++ (t, p.1) ∷ []) ps

  rdn_faulty : (done : TypedRdn) (earlier ps : names.Rdn) (code : Code) → AreTyped done earlier → avas_from types done ps ≡ Err code → IsFaulty earlier ps code
  unfolding avas_from
  rdn_faulty done earlier [] code same e = absurd cc
  rdn_faulty done earlier (p ∷ ps) code same e = by (found earlier p) refl (λ t. rdn_faulty (done ++ (t, p.1) ∷ []) (earlier ++ p ∷ []) ps code)
    where
      by : (f : Option AvaFlaw) → found earlier p ≡ f → ((t : ℕ) → AreTyped (done ++ (t, p.1) ∷ []) (earlier ++ p ∷ []) → avas_from types (done ++ (t, p.1) ∷ []) ps ≡ Err code → IsFaulty (earlier ++ p ∷ []) ps code) → IsFaulty earlier (p ∷ ps) code
      by (Some flaw) is rest =
          subst (IsFaulty earlier (p ∷ ps)) (same_err {A = TypedRdn} (flaw_code flaw) code (sym (ap (rest_of done p ps) (refused done earlier p flaw same is)) ∙ e)) (faulty_here earlier p ps flaw is)
      by None is rest =
          let t = fine done earlier p same is in
          faulty_behind earlier p ps code is (rest t.0 (typed_more done earlier p t.0 same t.1) (sym (ap (rest_of done p ps) t.2) ∙ e))

  rdn_flawless : (done : TypedRdn) (earlier ps : names.Rdn) (r : TypedRdn) → AreTyped done earlier → avas_from types done ps ≡ Ok r → AreFlawless types earlier ps
  unfolding avas_from
  rdn_flawless done earlier [] r same e = tt
  rdn_flawless done earlier (p ∷ ps) r same e = by (found earlier p) refl (λ t. rdn_flawless (done ++ (t, p.1) ∷ []) (earlier ++ p ∷ []) ps r)
    where
      by : (f : Option AvaFlaw) → found earlier p ≡ f → ((t : ℕ) → AreTyped (done ++ (t, p.1) ∷ []) (earlier ++ p ∷ []) → avas_from types (done ++ (t, p.1) ∷ []) ps ≡ Ok r → AreFlawless types (earlier ++ p ∷ []) ps) → AreFlawless types earlier (p ∷ ps)
      by (Some flaw) is rest = absurd (let both = sym (ap (rest_of done p ps) (refused done earlier p flaw same is)) ∙ e in cc)
      by None is rest =
          let t = fine done earlier p same is in
          (no_flaw earlier p is, rest t.0 (typed_more done earlier p t.0 same t.1) (sym (ap (rest_of done p ps) t.2) ∙ e))

  none_found : (earlier : names.Rdn) (p : names.Ava) → ((flaw : AvaFlaw) → Not (HasAvaFlaw types earlier p flaw)) → found earlier p ≡ None
  none_found earlier p none = none_is (test earlier p) (HasAvaFlaw types earlier p) (tells earlier p) ava_order none

  rdn_typed : (done : TypedRdn) (earlier ps : names.Rdn) → AreTyped done earlier → AreFlawless types earlier ps → (r : TypedRdn) × (avas_from types done ps ≡ Ok r)
  unfolding avas_from
  rdn_typed done earlier [] same h = (done, refl)
  rdn_typed done earlier (p ∷ ps) same h =
      let t = fine done earlier p same (none_found earlier p h.0) in
      let k = rdn_typed (done ++ (t.0, p.1) ∷ []) (earlier ++ p ∷ []) ps (typed_more done earlier p t.0 same t.1) h.1 in
      (k.0, ap (rest_of done p ps) t.2 ∙ k.1)

  rdn_fails : (front : names.Rdn) (done : TypedRdn) (earlier : names.Rdn) (ava : names.Ava) (later : names.Rdn) (flaw : AvaFlaw) → AreTyped done earlier → AreFlawless types earlier front
      → IsFirstFlaw AvaFlaw (HasAvaFlaw types (earlier ++ front) ava) ava_order flaw → avas_from types done (front ++ ava ∷ later) ≡ Err (flaw_code flaw)
  unfolding avas_from
  rdn_fails [] done earlier ava later flaw same h first =
      let here = subst (λ (e : names.Rdn). IsFirstFlaw AvaFlaw (HasAvaFlaw types e ava) ava_order flaw) (append-nil earlier) first in
      ap (rest_of done ava later) (refused done earlier ava flaw same (first_is (test earlier ava) (HasAvaFlaw types earlier ava) (tells earlier ava) ava_order flaw here))
  rdn_fails (p ∷ ps) done earlier ava later flaw same h first =
      let t = fine done earlier p same (none_found earlier p h.0) in
      let behind = subst (λ (e : names.Rdn). IsFirstFlaw AvaFlaw (HasAvaFlaw types e ava) ava_order flaw) (sym (append_assoc earlier (p ∷ []) ps)) first in
      ap (rest_of done p (ps ++ ava ∷ later)) t.2 ∙ rdn_fails ps (done ++ (t.0, p.1) ∷ []) (earlier ++ p ∷ []) ava later flaw (typed_more done earlier p t.0 same t.1) h.1 behind

  -- ---- the RDNs of a name

  none_typed : AreTyped [] []
  none_typed t = refl

  abbrev others_of : List TypedRdn → names.Name → Result TypedRdn Code → Result (List TypedRdn) Code
  others_of done rs r = r >>= λ t. rdns_from types (done ++ t ∷ []) rs

  fault_here : (r : names.Rdn) (rs : names.Name) (code : Code) → IsFaulty [] r code → IsAvaFault types (r ∷ rs) code
  fault_here r rs code k = record {
    before = [];
    earlier = k.front;
    ava = k.ava;
    later = k.later;
    after = rs;
    name_is = ap (λ (q : names.Rdn). q ∷ rs) k.is;
    before_are = tt;
    earlier_are = k.front_are;
    flaw = k.flaw;
    first = k.first;
    code_is = k.code_is;
  }

  fault_behind : (r : names.Rdn) (rs : names.Name) (code : Code) → AreFlawless types [] r → IsAvaFault types rs code → IsAvaFault types (r ∷ rs) code
  fault_behind r rs code h k = record {
    before = r ∷ k.before;
    earlier = k.earlier;
    ava = k.ava;
    later = k.later;
    after = k.after;
    name_is = ap (λ (qs : names.Name). r ∷ qs) k.name_is;
    before_are = (h, k.before_are);
    earlier_are = k.earlier_are;
    flaw = k.flaw;
    first = k.first;
    code_is = k.code_is;
  }

  abbrev failed_rdn : Code → Result TypedRdn Code
  failed_rdn code = Err code

  from_faulty : (done : List TypedRdn) (n : names.Name) (code : Code) → rdns_from types done n ≡ Err code → IsAvaFault types n code
  unfolding rdns_from
  from_faulty done [] code e = absurd cc
  from_faulty done (r ∷ rs) code e = by (typed_rdn types r) refl (λ t. from_faulty (done ++ t ∷ []) rs code)
    where
      by : (x : Result TypedRdn Code) → typed_rdn types r ≡ x → ((t : TypedRdn) → rdns_from types (done ++ t ∷ []) rs ≡ Err code → IsAvaFault types rs code) → IsAvaFault types (r ∷ rs) code
      by (Err c) is rest = fault_here r rs code (rdn_faulty [] [] r code none_typed (is ∙ ap failed_rdn (same_err {A = List TypedRdn} c code (sym (ap (others_of done rs) is) ∙ e))))
      by (Ok t) is rest = fault_behind r rs code (rdn_flawless [] [] r t none_typed is) (rest t (sym (ap (others_of done rs) is) ∙ e))

  from_fails : (before : names.Name) (done : List TypedRdn) (earlier : names.Rdn) (ava : names.Ava) (later : names.Rdn) (after : names.Name) (flaw : AvaFlaw) → AllByRecursion (AreFlawless types []) before → AreFlawless types [] earlier
      → IsFirstFlaw AvaFlaw (HasAvaFlaw types earlier ava) ava_order flaw → rdns_from types done (before ++ (earlier ++ ava ∷ later) ∷ after) ≡ Err (flaw_code flaw)
  unfolding rdns_from
  from_fails [] done earlier ava later after flaw h fine first = ap (others_of done after) (rdn_fails earlier [] [] ava later flaw none_typed fine first)
  from_fails (r ∷ rs) done earlier ava later after flaw h fine first =
      let t = rdn_typed [] [] r none_typed h.0 in
      ap (others_of done (rs ++ (earlier ++ ava ∷ later) ∷ after)) t.1 ∙ from_fails rs (done ++ t.0 ∷ []) earlier ava later after flaw h.1 fine first

  abbrev failed_name : Code → Result (List TypedRdn) Code
  failed_name code = Err code

  pub faulty : (n : names.Name) (code : Code) → typed types n ≡ Err code → IsAvaFault types n code
  faulty n code e = from_faulty [] n code e

  pub fails : (n : names.Name) (code : Code) → IsAvaFault types n code → typed types n ≡ Err code
  fails n code k =
      ap (typed types) k.name_is ∙ from_fails k.before [] k.earlier k.ava k.later k.after k.flaw k.before_are k.earlier_are k.first ∙ ap failed_name (sym k.code_is)

  pub one_fault : (n : names.Name) (c d : Code) → IsAvaFault types n c → IsAvaFault types n d → c ≡ d
  one_fault n c d k l = same_err {A = List TypedRdn} c d (sym (fails n c k) ∙ fails n d l)
