-- Flaws of a name that are found.
use Rattle.std.proofs.Common.{◌≡◌, ◌≢◌, ℕ, suc, ◌<◌, ◌≤◌, inl, inr, Bool, true, false, List, [], ◌∷◌, ◌++◌, map, take, drop, length, get_or, Option, Some, None, Result, Ok, Err, refl, sym, ap, subst, ◌∙◌, arith}
use Rattle.std.specs.Prelude.{is_some}
use Rattle.std.specs.Option.{option_map}
use Rattle.std.specs.List.{list_any, slice_get, AllByRecursion}
use Rattle.dn.specs.Names as names
use Rattle.values.specs.declared.types.AttributeType.{AttributeType}
use Rattle.values.specs.Types.{type_of, has_equality}
use Rattle.schema.specs.declared.code.Code.{Code}
use Rattle.schema.specs.Conf.{Conf, located}
use Rattle.schema.specs.Names.{name_in}
use Rattle.schema.specs.Rdns.{TypedRdn}
use Rattle.schema.specs.TypeRules.{has_name_syntax}
use Rattle.schema.specs.Values.{is_valid_at}
use Rattle.schema.specs.FaultyNames as avas
use Rattle.schema.specs.FaultyNames.{AvaFlaw, IsOfType, is_of_type, HasAvaFlaw, ava_order}
use Rattle.schema.specs.FirstFlaws.{Not}
use Rattle.tree.specs.Renames.{rdn_in}
use Rattle.reasons.specs.NameFlaws.{NameFlaw, Unreadable, NotOneRdn, Ava, OutsideSuffix, HasNameFlaw, HasPlace, SpellsRdn, IsAva, name_flaw_code, ava_checks, rdn_checks, spelled_checks, place_checks, new_rdn_checks}
use Rattle.reasons.specs.inner.Found.{FindsFirst, Leaves, IsRdnOf}
use Rattle.reasons.proofs.Answering.{Answers, is_no_answer, none_answers}
use Rattle.reasons.proofs.Elements.{is_none, only_some}
use Rattle.reasons.proofs.AvaAnswers.{only_ok}
use Rattle.reasons.proofs.Finding.{here, passed, before, behind, within, leaves_behind, leaves_before, split_at, none_left, at_place}
use Rattle.reasons.proofs.NameAnswers.{place_answers, new_rdn_answers}

-- ---- an AVA

module _ (types : List AttributeType) (earlier : names.Rdn) (p : names.Ava) where
  abbrev Has : AvaFlaw → Type 0
  Has f = HasAvaFlaw types earlier p f

  abbrev Found : Option AvaFlaw → Type 0
  Found o = FindsFirst Has ava_order o

  pub unknown_type : type_of types p.0 ≡ None → Found (Some avas.UnknownType)
  unknown_type none = here Has avas.UnknownType (avas.NameSyntax ∷ avas.NoEquality ∷ avas.BadValue ∷ avas.TypeTwice ∷ []) (λ t. is_none (type_of types p.0) t none)

  module _ (t : ℕ) (known : type_of types p.0 ≡ Some t) where
    of_type : (Q : ℕ → Type 0) (u : ℕ) → IsOfType types p u → Q u → Q t
    of_type Q u is h = subst Q (only_some (type_of types p.0) u t is known) h

    no : (Q : ℕ → Bool) (b c : Bool) → ((d : Bool) → d ≡ b → d ≡ c → ⊥) → Q t ≡ b → Not ((u : ℕ) × IsOfType types p u × (Q u ≡ c))
    no Q b c differ is h = differ (Q t) is (of_type (λ u. Q u ≡ c) h.0 h.1 h.2)

    off_on : (d : Bool) → d ≡ false → d ≡ true → ⊥
    off_on d h k = let both = sym h ∙ k in cc

    on_off : (d : Bool) → d ≡ true → d ≡ false → ⊥
    on_off d h k = let both = sym h ∙ k in cc

    behind_type : (o : Option AvaFlaw) → FindsFirst Has (avas.NameSyntax ∷ avas.NoEquality ∷ avas.BadValue ∷ avas.TypeTwice ∷ []) o → Found o
    behind_type o h = passed Has avas.UnknownType (avas.NameSyntax ∷ avas.NoEquality ∷ avas.BadValue ∷ avas.TypeTwice ∷ []) o (λ none. none t known) h

    pub name_syntax : has_name_syntax types t ≡ true → Found (Some avas.NameSyntax)
    name_syntax is = behind_type (Some avas.NameSyntax) (here Has avas.NameSyntax (avas.NoEquality ∷ avas.BadValue ∷ avas.TypeTwice ∷ []) (t, known, is))

    module _ (plain : has_name_syntax types t ≡ false) where
      behind_syntax : (o : Option AvaFlaw) → FindsFirst Has (avas.NoEquality ∷ avas.BadValue ∷ avas.TypeTwice ∷ []) o → Found o
      behind_syntax o h = behind_type o (passed Has avas.NameSyntax (avas.NoEquality ∷ avas.BadValue ∷ avas.TypeTwice ∷ []) o (no (has_name_syntax types) false true off_on plain) h)

      pub no_equality : has_equality types t ≡ false → Found (Some avas.NoEquality)
      no_equality is = behind_syntax (Some avas.NoEquality) (here Has avas.NoEquality (avas.BadValue ∷ avas.TypeTwice ∷ []) (t, known, is))

      module _ (ruled : has_equality types t ≡ true) where
        behind_equality : (o : Option AvaFlaw) → FindsFirst Has (avas.BadValue ∷ avas.TypeTwice ∷ []) o → Found o
        behind_equality o h = behind_syntax o (passed Has avas.NoEquality (avas.BadValue ∷ avas.TypeTwice ∷ []) o (no (has_equality types) true false on_off ruled) h)

        pub bad_value : is_valid_at types t p.1 ≡ false → Found (Some avas.BadValue)
        bad_value is = behind_equality (Some avas.BadValue) (here Has avas.BadValue (avas.TypeTwice ∷ []) (t, known, is))

        module _ (valid : is_valid_at types t p.1 ≡ true) where
          behind_value : (o : Option AvaFlaw) → FindsFirst Has (avas.TypeTwice ∷ []) o → Found o
          behind_value o h = behind_equality o (passed Has avas.BadValue (avas.TypeTwice ∷ []) o (no (λ u. is_valid_at types u p.1) true false on_off valid) h)

          pub type_twice : list_any (is_of_type types t) earlier ≡ true → Found (Some avas.TypeTwice)
          type_twice is = behind_value (Some avas.TypeTwice) (here Has avas.TypeTwice [] (t, known, is))

          pub fine : list_any (is_of_type types t) earlier ≡ false → Found None
          fine is = behind_value None (passed Has avas.TypeTwice [] None (no (λ u. list_any (is_of_type types u) earlier) false true off_on is) tt)

-- ---- an RDN, and the RDNs of a name

module _ (conf : Conf) (text : List ℕ) where
  abbrev HasName : NameFlaw → Type 0
  HasName f = HasNameFlaw conf text f

  module _ (i : ℕ) (r : names.Rdn) (rdn : IsRdnOf text i r) (j : ℕ) (p : names.Ava) (there : slice_get r j ≡ Some p) where
    is_ava : IsAva text i j (take j r) p
    is_ava = record { name = rdn.name; spelled = rdn.spelled; rdn = r; rdn_is = rdn.rdn_is; ava_is = there; earlier_are = refl }

    to : (f : AvaFlaw) → HasAvaFlaw conf.types (take j r) p f → HasName (Ava i j f)
    to f h = (take j r, p, is_ava, h)

    from : (f : AvaFlaw) → HasName (Ava i j f) → HasAvaFlaw conf.types (take j r) p f
    from f h =
        let is = h.2 in
        let same_name : is.name ≡ rdn.name = only_ok (name_in text) is.name rdn.name is.spelled rdn.spelled in
        let same_rdn : is.rdn ≡ r = only_some (slice_get rdn.name i) is.rdn r (ap (λ (m : names.Name). slice_get m i) (sym same_name) ∙ is.rdn_is) rdn.rdn_is in
        let same_ava : h.1 ≡ p = only_some (slice_get r j) h.1 p (ap (λ (q : names.Rdn). slice_get q j) (sym same_rdn) ∙ is.ava_is) there in
        let same_front : h.0 ≡ take j r = is.earlier_are ∙ ap (λ (q : names.Rdn). take j q) same_rdn in
        subst (λ (e : names.Rdn). HasAvaFlaw conf.types e p f) same_front (subst (λ (q : names.Ava). HasAvaFlaw conf.types h.0 q f) same_ava h.3)

    pub at_ava : (o : Option AvaFlaw) → FindsFirst (HasAvaFlaw conf.types (take j r) p) ava_order o → FindsFirst HasName (map (Ava i j) ava_order) (option_map (Ava i j) o)
    at_ava o h = within (HasAvaFlaw conf.types (take j r) p) HasName (Ava i j) to from ava_order o h

  -- the loop over the AVAs of an RDN
  module _ (i : ℕ) (r : names.Rdn) (rdn : IsRdnOf text i r) (j : ℕ) (p : names.Ava) (lt : j < length r) (is : p ≡ get_or r j p)
      (left : Leaves HasName (ava_checks i 0 r) (ava_checks i j (drop j r))) where
    these : Leaves HasName (ava_checks i 0 r) (map (Ava i j) ava_order ++ ava_checks i (suc j) (drop (suc j) r))
    these = subst (λ (ps : names.Rdn). Leaves HasName (ava_checks i 0 r) (ava_checks i j ps)) (split_at r j p lt is) left

    pub ava_found : (why : AvaFlaw) → FindsFirst (HasAvaFlaw conf.types (take j r) p) ava_order (Some why) → FindsFirst HasName (ava_checks i 0 r) (Some (Ava i j why))
    ava_found why h = leaves_before HasName (ava_checks i 0 r) (map (Ava i j) ava_order) (ava_checks i (suc j) (drop (suc j) r)) (Ava i j why) these (at_ava i r rdn j p (at_place r j p lt is) (Some why) h)

    pub ava_passed : FindsFirst (HasAvaFlaw conf.types (take j r) p) ava_order None → Leaves HasName (ava_checks i 0 r) (ava_checks i (suc j) (drop (suc j) r))
    ava_passed h = leaves_behind HasName (ava_checks i 0 r) (map (Ava i j) ava_order) (ava_checks i (suc j) (drop (suc j) r)) these (at_ava i r rdn j p (at_place r j p lt is) None h)

  pub avas_done : (i : ℕ) (r : names.Rdn) (j : ℕ) → length r ≤ j → Leaves HasName (ava_checks i 0 r) (ava_checks i j (drop j r)) → FindsFirst HasName (ava_checks i 0 r) None
  avas_done i r j le left = left None (subst (λ (ps : names.Rdn). FindsFirst HasName (ava_checks i j ps) None) (sym (none_left r j le)) tt)

  -- the loop over the RDNs of a name
  module _ (n : names.Name) (named : name_in text ≡ Ok n) (i : ℕ) (r : names.Rdn) (lt : i < length n) (is : r ≡ get_or n i r)
      (left : Leaves HasName (rdn_checks 0 n) (rdn_checks i (drop i n))) where
    those : Leaves HasName (rdn_checks 0 n) (ava_checks i 0 r ++ rdn_checks (suc i) (drop (suc i) n))
    those = subst (λ (rs : names.Name). Leaves HasName (rdn_checks 0 n) (rdn_checks i rs)) (split_at n i r lt is) left

    pub is_rdn_of : IsRdnOf text i r
    is_rdn_of = record { name = n; spelled = named; rdn_is = at_place n i r lt is }

    pub rdn_found : (o : Option NameFlaw) → is_some o ≡ true → FindsFirst HasName (ava_checks i 0 r) o → FindsFirst HasName (rdn_checks 0 n) o
    rdn_found None some h = absurd cc
    rdn_found (Some why) some h = leaves_before HasName (rdn_checks 0 n) (ava_checks i 0 r) (rdn_checks (suc i) (drop (suc i) n)) why those h

    pub rdn_passed : (o : Option NameFlaw) → is_some o ≡ false → FindsFirst HasName (ava_checks i 0 r) o → Leaves HasName (rdn_checks 0 n) (rdn_checks (suc i) (drop (suc i) n))
    rdn_passed None none h = leaves_behind HasName (rdn_checks 0 n) (ava_checks i 0 r) (rdn_checks (suc i) (drop (suc i) n)) those h
    rdn_passed (Some why) none h = absurd cc

  pub rdns_done : (n : names.Name) (i : ℕ) → length n ≤ i → Leaves HasName (rdn_checks 0 n) (rdn_checks i (drop i n)) → FindsFirst HasName (rdn_checks 0 n) None
  rdns_done n i le left = left None (subst (λ (rs : names.Name). FindsFirst HasName (rdn_checks i rs) None) (sym (none_left n i le)) tt)

-- ---- which flaw is left

module _ {Flaw : Type 0} (HasIt : Flaw → Type 0) (code : Flaw → Code) (P : Type 0) {A : Type 0} where
  -- behind flaws that aren't there
  pub answers_behind : (fs gs : List Flaw) (x : Result A Code) → Answers HasIt code P (fs ++ gs) x → AllByRecursion (λ f. Not (HasIt f)) fs → Answers HasIt code P gs x
  answers_behind [] gs x h none = h
  answers_behind (f ∷ fs) gs x (inl h) none = absurd (none.0 h.0)
  answers_behind (f ∷ fs) gs x (inr h) none = answers_behind fs gs x h.1 none.1

  -- the only one that is left is there, where the answer is a refusal
  pub last_left : (f : Flaw) (x : Result A Code) → Not P → Answers HasIt code P (f ∷ []) x → HasIt f
  last_left f x refused (inl h) = h.0
  last_left f x refused (inr h) = absurd (refused h.1)

module _ (conf : Conf) (text : List ℕ) where
  abbrev HasIts : NameFlaw → Type 0
  HasIts f = HasNameFlaw conf text f

  pub unreadable : (c : Code) (fs : List NameFlaw) → name_in text ≡ Err c → FindsFirst HasIts (Unreadable ∷ fs) (Some Unreadable)
  unreadable c fs is = here HasIts Unreadable fs (λ n h. is_no_answer (name_in text) n c h is)

  -- where it can be read
  module _ (n : names.Name) (named : name_in text ≡ Ok n) where
    abbrev behind_reading : List NameFlaw → Option NameFlaw → Type 0
    behind_reading fs o = FindsFirst HasIts (Unreadable ∷ fs) o

    readable : (fs : List NameFlaw) (o : Option NameFlaw) → FindsFirst HasIts fs o → behind_reading fs o
    readable fs o h = passed HasIts Unreadable fs o (λ none. none n named) h

    spelled : (fs : List NameFlaw) (o : Option NameFlaw) → FindsFirst HasIts (rdn_checks 0 n ++ fs) o → FindsFirst HasIts (spelled_checks (name_in text) ++ fs) o
    spelled fs o h = subst (λ (r : Result names.Name Code). FindsFirst HasIts (spelled_checks r ++ fs) o) (sym named) h

    pub place_ava : (why : NameFlaw) → FindsFirst HasIts (rdn_checks 0 n) (Some why) → FindsFirst HasIts (place_checks text) (Some why)
    place_ava why h = readable (spelled_checks (name_in text) ++ OutsideSuffix ∷ []) (Some why) (spelled (OutsideSuffix ∷ []) (Some why) (before HasIts (rdn_checks 0 n) (OutsideSuffix ∷ []) why h))

    pub place_outside : (c : Code) → located conf text ≡ Err c → FindsFirst HasIts (rdn_checks 0 n) None → FindsFirst HasIts (place_checks text) (Some OutsideSuffix)
    place_outside c refused none =
        let whole = place_answers conf text in
        let named_checks : Answers HasIts name_flaw_code ((rdns : List TypedRdn) × HasPlace conf text rdns) (Unreadable ∷ (rdn_checks 0 n ++ OutsideSuffix ∷ [])) (located conf text) =
        subst (λ (r : Result names.Name Code). Answers HasIts name_flaw_code ((rdns : List TypedRdn) × HasPlace conf text rdns) (Unreadable ∷ (spelled_checks r ++ OutsideSuffix ∷ [])) (located conf text)) named whole in
        let outside : HasIts OutsideSuffix =
        last_left HasIts name_flaw_code ((rdns : List TypedRdn) × HasPlace conf text rdns) OutsideSuffix (located conf text) (λ k. is_no_answer (located conf text) k.0 c k.1 refused)
        (answers_behind HasIts name_flaw_code ((rdns : List TypedRdn) × HasPlace conf text rdns) (Unreadable ∷ rdn_checks 0 n) (OutsideSuffix ∷ []) (located conf text) named_checks ((λ absent. absent n named), none)) in
        readable (spelled_checks (name_in text) ++ OutsideSuffix ∷ []) (Some OutsideSuffix)
        (spelled (OutsideSuffix ∷ []) (Some OutsideSuffix) (behind HasIts (rdn_checks 0 n) (OutsideSuffix ∷ []) (Some OutsideSuffix) none (here HasIts OutsideSuffix [] outside)))

    -- ---- a new RDN

    lone : (r : names.Rdn) → n ≡ r ∷ [] → length n ≡ 1
    lone r is = ap (length {A = names.Rdn}) is

    head_of : (m : names.Name) → length m ≡ 1 → (r : names.Rdn) × (m ≡ r ∷ [])
    head_of [] one = absurd (omega (arith, one))
    head_of (r ∷ []) one = (r, refl)
    head_of (r ∷ s ∷ rs) one = absurd (omega (arith, one))

    is_one : length n ≡ 1 → Not (HasIts NotOneRdn)
    is_one one h = let k = head_of n one in h.2 k.0 (only_ok (name_in text) h.0 n h.1 named ∙ k.1)

    pub not_one : length n ≢ 1 → FindsFirst HasIts (new_rdn_checks text) (Some NotOneRdn)
    not_one many = readable (NotOneRdn ∷ spelled_checks (name_in text)) (Some NotOneRdn) (here HasIts NotOneRdn (spelled_checks (name_in text)) (n, named, λ r is. many (lone r is)))

    abbrev checks_of_one : Result names.Name Code → List NameFlaw
    checks_of_one r = Unreadable ∷ NotOneRdn ∷ spelled_checks r

    pub of_one : length n ≡ 1 → (o : Option NameFlaw) → FindsFirst HasIts (rdn_checks 0 n) o → FindsFirst HasIts (new_rdn_checks text) o
    of_one one o h =
        subst (λ (r : Result names.Name Code). FindsFirst HasIts (checks_of_one r) o) (sym named)
        (readable (NotOneRdn ∷ rdn_checks 0 n) o (passed HasIts NotOneRdn (rdn_checks 0 n) o (is_one one) h))

    pub never_fine : (c : Code) → rdn_in conf text ≡ Err c → length n ≡ 1 → FindsFirst HasIts (rdn_checks 0 n) None → ⊥
    never_fine c refused one none =
        let k = none_answers HasIts name_flaw_code ((rdn : TypedRdn) × (rdn_in conf text ≡ Ok rdn) × SpellsRdn conf text rdn) (new_rdn_checks text) (rdn_in conf text) (new_rdn_answers conf text) (of_one one None none) in
        is_no_answer (rdn_in conf text) k.0 c k.1 refused
