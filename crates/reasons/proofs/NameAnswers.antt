-- The first flaw of the text of a name.
use Rattle.std.proofs.Common.{◌++◌, ◌≡◌, ℕ, Bool, true, false, cond, List, [], ◌∷◌, drop, length, reverse, Result, Ok, Err, refl, sym, ap, subst, ◌∙◌}
use Rattle.std.specs.Str.{is_utf8}
use Rattle.std.proofs.lemmas.List.{append-nil}
use Rattle.base.specs.Answers.{◌>>=◌}
use Rattle.dn.specs.Names as names
use Rattle.dn.specs.Reading.{name_of}
use Rattle.dn.specs.declared.faults.NameFaultKind.{NameFaultKind}
use Rattle.paths.specs.Paths.{begins}
use Rattle.schema.specs.declared.code.Code.{Code}
use Rattle.schema.specs.declared.code.Code.TheVariants.{NoSuchObject, InvalidDnSyntax}
use Rattle.schema.specs.Conf.{Conf, below, place_of, located, path_of}
use Rattle.schema.specs.Names.{name_in, or_invalid}
use Rattle.schema.specs.Rdns.{TypedRdn, typed, typed_rdn, rdns_from}
use Rattle.schema.specs.Values.{rdns_in}
use Rattle.schema.proofs.Below.{below_begins}
use Rattle.tree.specs.Renames.{only_rdn, rdn_in}
use Rattle.reasons.specs.NameFlaws.{NameFlaw, Unreadable, NotOneRdn, OutsideSuffix, HasNameFlaw, HasPlace, SpellsRdn, name_flaw_code, rdn_checks, spelled_checks, place_checks, new_rdn_checks}
use Rattle.reasons.proofs.Answering.{refusal, is_no_answer, Answers, passed, failed, lifted, behind}
use Rattle.reasons.proofs.AvaAnswers.{only_ok, ava_answers}

-- a name that can't be read is of one code
only_invalid : (text : List ℕ) (c : Code) → name_in text ≡ Err c → c ≡ InvalidDnSyntax
unfolding name_in
only_invalid text c e = by (is_utf8 text) (name_of text) e
  where
    same : (a b : Code) → ◌≡◌ {A = Result names.Name Code} (Err a) (Err b) → b ≡ a
    same a b h = cc

    by : (b : Bool) (x : Result names.Name NameFaultKind) → cond b (or_invalid x) (Err InvalidDnSyntax) ≡ Err c → c ≡ InvalidDnSyntax
    by false x h = same InvalidDnSyntax c h
    by true (Ok n) h = absurd cc
    by true (Err fault) h = same InvalidDnSyntax c h

module _ (conf : Conf) (text : List ℕ) {A : Type 0} (P : Type 0) (x : Result A Code) where
  abbrev answers : List NameFlaw → Type 0
  answers fs = Answers (HasNameFlaw conf text) name_flaw_code P fs x

  -- it is read, or refused
  read_answers : (fs : List NameFlaw) → ((c : Code) → name_in text ≡ Err c → x ≡ Err c) → ((n : names.Name) → name_in text ≡ Ok n → answers fs) → answers (Unreadable ∷ fs)
  read_answers fs fails more = by (name_in text) refl
    where
      by : (r : Result names.Name Code) → name_in text ≡ r → answers (Unreadable ∷ fs)
      by (Err c) is = failed (HasNameFlaw conf text) name_flaw_code P Unreadable fs x (λ n h. is_no_answer (name_in text) n c h is) (fails c is ∙ ap refusal (only_invalid text c is))
      by (Ok n) is = passed (HasNameFlaw conf text) name_flaw_code P Unreadable fs x (λ none. none n is) (more n is)

  -- its AVAs are fine, or one is refused
  avas_answer : (n : names.Name) → name_in text ≡ Ok n → (fs : List NameFlaw) → ((c : Code) → typed conf.types n ≡ Err c → x ≡ Err c)
      → ((rdns : List TypedRdn) → typed conf.types n ≡ Ok rdns → answers fs) → answers (rdn_checks 0 n ++ fs)
  avas_answer n named fs fails more =
      behind (HasNameFlaw conf text) name_flaw_code ((rdns : List TypedRdn) × (typed conf.types n ≡ Ok rdns)) P (rdn_checks 0 n) fs x
      (lifted (HasNameFlaw conf text) name_flaw_code ((rdns : List TypedRdn) × (typed conf.types n ≡ Ok rdns)) (rdn_checks 0 n) (typed conf.types n) x fails (ava_answers conf text n named))
      (λ k. more k.0 k.1)

  -- the checks of the AVAs, where this is the name
  of_name : (n : names.Name) → name_in text ≡ Ok n → (fs : List NameFlaw) → answers (rdn_checks 0 n ++ fs) → answers (spelled_checks (name_in text) ++ fs)
  of_name n named fs h = subst (λ (r : Result names.Name Code). answers (spelled_checks r ++ fs)) (sym named) h

-- ---- the name of an entry

module _ (conf : Conf) (text : List ℕ) where
  abbrev after_name : Result names.Name Code → Result (List TypedRdn) Code
  after_name r = r >>= place_of conf

  abbrev after_types : Result (List TypedRdn) Code → Result (List TypedRdn) Code
  after_types r = r >>= λ rdns. below conf.types (reverse conf.suffix) (reverse rdns)

  abbrev Placed : Type 0
  Placed = (rdns : List TypedRdn) × HasPlace conf text rdns

  abbrev is_in : List TypedRdn → Bool
  is_in rdns = begins (path_of conf (reverse conf.suffix)) (path_of conf (reverse rdns))

  abbrev all_rdns : Result names.Name Code → Result (List TypedRdn) Code
  all_rdns r = r >>= typed conf.types

  below_answers : (rdns : List TypedRdn) → rdns_in conf.types text ≡ Ok rdns → located conf text ≡ below conf.types (reverse conf.suffix) (reverse rdns)
      → Answers (HasNameFlaw conf text) name_flaw_code Placed (OutsideSuffix ∷ []) (located conf text)
  below_answers rdns spelled is = by (is_in rdns) refl (is ∙ below_begins conf.types (reverse conf.suffix) (reverse rdns))
    where
      by : (b : Bool) → is_in rdns ≡ b → located conf text ≡ cond (is_in rdns) (Ok (drop (length (reverse conf.suffix)) (reverse rdns))) (Err NoSuchObject)
          → Answers (HasNameFlaw conf text) name_flaw_code Placed (OutsideSuffix ∷ []) (located conf text)
      by true inside said = passed (HasNameFlaw conf text) name_flaw_code Placed OutsideSuffix [] (located conf text)
          (λ h. let both = sym inside ∙ ap is_in (only_ok (rdns_in conf.types text) rdns h.0 spelled h.1) ∙ h.2 in absurd cc)
          (drop (length (reverse conf.suffix)) (reverse rdns), said ∙ ap (λ (b : Bool). cond {A = Result (List TypedRdn) Code} b (Ok (drop (length (reverse conf.suffix)) (reverse rdns))) (Err NoSuchObject)) inside)
      by false outside said = failed (HasNameFlaw conf text) name_flaw_code Placed OutsideSuffix [] (located conf text) (rdns, spelled, outside)
          (said ∙ ap (λ (b : Bool). cond {A = Result (List TypedRdn) Code} b (Ok (drop (length (reverse conf.suffix)) (reverse rdns))) (Err NoSuchObject)) outside)

  pub place_answers : Answers (HasNameFlaw conf text) name_flaw_code Placed (place_checks text) (located conf text)
  unfolding located place_of rdns_in
  place_answers =
      read_answers conf text Placed (located conf text) (spelled_checks (name_in text) ++ OutsideSuffix ∷ []) (λ c is. ap after_name is) λ n named.
      of_name conf text Placed (located conf text) n named (OutsideSuffix ∷ []) (
      avas_answer conf text Placed (located conf text) n named (OutsideSuffix ∷ []) (λ c is. ap after_name named ∙ ap after_types is) λ rdns is.
      below_answers rdns (ap all_rdns named ∙ is) (ap after_name named ∙ ap after_types is)
      )

  -- ---- a new RDN

  abbrev Spelled : Type 0
  Spelled = (rdn : TypedRdn) × (rdn_in conf text ≡ Ok rdn) × SpellsRdn conf text rdn

  abbrev after_text : Result names.Name Code → Result TypedRdn Code
  after_text r = r >>= λ n. only_rdn n >>= λ rdn. typed_rdn conf.types rdn

  abbrev single : Result TypedRdn Code → Result (List TypedRdn) Code
  single r = r >>= λ rdn. rdns_from conf.types (rdn ∷ []) []

  one_rdn_answers : (r : names.Rdn) → name_in text ≡ Ok (r ∷ []) → rdn_in conf text ≡ typed_rdn conf.types r → Answers (HasNameFlaw conf text) name_flaw_code Spelled (rdn_checks 0 (r ∷ []) ++ []) (rdn_in conf text)
  unfolding rdns_in rdns_from
  one_rdn_answers r named is = avas_answer conf text Spelled (rdn_in conf text) (r ∷ []) named []
      (λ c e. is ∙ refused (typed_rdn conf.types r) c e)
      (λ rdns e. found (typed_rdn conf.types r) refl rdns e)
    where
      refused : (y : Result TypedRdn Code) (c : Code) → single y ≡ Err c → y ≡ Err c
      refused (Err b) c e = let same : b ≡ c = cc in ap refusal same
      refused (Ok rdn) c e = absurd cc

      found : (y : Result TypedRdn Code) → typed_rdn conf.types r ≡ y → (rdns : List TypedRdn) → single (typed_rdn conf.types r) ≡ Ok rdns → Spelled
      found (Err b) told rdns e = absurd (let both = sym (ap single told) ∙ e in cc)
      found (Ok rdn) told rdns e = (rdn, is ∙ told, ap all_rdns named ∙ ap single told)

  only_answers : (n : names.Name) → name_in text ≡ Ok n → Answers (HasNameFlaw conf text) name_flaw_code Spelled (NotOneRdn ∷ (spelled_checks (name_in text) ++ [])) (rdn_in conf text)
  unfolding rdn_in
  only_answers [] named = failed (HasNameFlaw conf text) name_flaw_code Spelled NotOneRdn (spelled_checks (name_in text) ++ []) (rdn_in conf text) ([], named, λ r h. absurd cc) (ap after_text named)
  only_answers (r ∷ []) named = passed (HasNameFlaw conf text) name_flaw_code Spelled NotOneRdn (spelled_checks (name_in text) ++ []) (rdn_in conf text)
      (λ h. h.2 r (only_ok (name_in text) h.0 (r ∷ []) h.1 named))
      (of_name conf text Spelled (rdn_in conf text) (r ∷ []) named [] (one_rdn_answers r named (ap after_text named)))
  only_answers (r ∷ s ∷ rs) named = failed (HasNameFlaw conf text) name_flaw_code Spelled NotOneRdn (spelled_checks (name_in text) ++ []) (rdn_in conf text) (r ∷ s ∷ rs, named, λ q h. absurd cc) (ap after_text named)

  pub new_rdn_answers : Answers (HasNameFlaw conf text) name_flaw_code Spelled (new_rdn_checks text) (rdn_in conf text)
  unfolding rdn_in
  new_rdn_answers =
      subst (λ (fs : List NameFlaw). Answers (HasNameFlaw conf text) name_flaw_code Spelled (Unreadable ∷ NotOneRdn ∷ fs) (rdn_in conf text)) (append-nil (spelled_checks (name_in text)))
      (read_answers conf text Spelled (rdn_in conf text) (NotOneRdn ∷ (spelled_checks (name_in text) ++ [])) (λ c is. ap after_text is) only_answers)
