-- What the first flaw of several answers.
use Rattle.std.proofs.Common.{◌≡◌, ◌≢◌, Bool, true, false, cond, ◌⊎◌, inl, inr, List, [], ◌∷◌, ◌++◌, map, Result, Ok, Err, refl, sym, ap, subst, ◌∙◌}
use Rattle.std.specs.List.{AllByRecursion}
use Rattle.schema.specs.declared.code.Code.{Code}
use Rattle.schema.specs.FirstFlaws.{Not, IsFirstFlaw}

abbrev pub refusal : {A : Type 0} → Code → Result A Code
refusal c = Err c

pub same_refusal : {A : Type 0} (c e : Code) → refusal {A = A} c ≡ refusal e → c ≡ e
same_refusal c e h = cc

pub is_no_answer : {A : Type 0} (x : Result A Code) (a : A) (c : Code) → x ≡ Ok a → x ≡ Err c → ⊥
is_no_answer x a c h k = let both = sym h ∙ k in cc

module _ {Flaw : Type 0} (Has : Flaw → Type 0) (code : Flaw → Code) (P : Type 0) {A : Type 0} where
  -- the first of these flaws that is there answers, by its code; where none is, P holds
  abbrev pub Answers : List Flaw → Result A Code → Type 0
  Answers [] x = P
  Answers (f ∷ fs) x = (Has f × (x ≡ Err (code f))) ⊎ (Not (Has f) × Answers fs x)

  -- a flaw that a test tells
  pub check : (b : Bool) (f : Flaw) (fs : List Flaw) (x rest : Result A Code) → x ≡ cond b (Err (code f)) rest → (b ≡ true → Has f) → (Has f → b ≡ true)
      → (b ≡ false → x ≡ rest → Answers fs x) → Answers (f ∷ fs) x
  check true f fs x rest is has told more = inl (has refl, is)
  check false f fs x rest is has told more = inr ((λ h. let both = told h in absurd cc), more refl is)

  -- one that isn't there
  pub passed : (f : Flaw) (fs : List Flaw) (x : Result A Code) → Not (Has f) → Answers fs x → Answers (f ∷ fs) x
  passed f fs x none more = inr (none, more)

  -- one that is there
  pub failed : (f : Flaw) (fs : List Flaw) (x : Result A Code) → Has f → x ≡ Err (code f) → Answers (f ∷ fs) x
  failed f fs x has is = inl (has, is)

  -- ---- both ways

  pub answers_first : (fs : List Flaw) (x : Result A Code) (c : Code) → (P → Not (x ≡ Err c)) → Answers fs x → x ≡ Err c
      → (flaw : Flaw) × IsFirstFlaw Flaw Has fs flaw × (c ≡ code flaw)
  answers_first [] x c fine h e = absurd (fine h e)
  answers_first (f ∷ fs) x c fine (inl h) e =
      (f, record { before = []; after = fs; order_is = refl; has = h.0; none_before = tt }, same_refusal {A = A} c (code f) (sym e ∙ h.1))
  answers_first (f ∷ fs) x c fine (inr h) e =
      let k = answers_first fs x c fine h.1 e in
      (k.0, record { before = f ∷ k.1.before; after = k.1.after; order_is = ap (λ (gs : List Flaw). f ∷ gs) k.1.order_is; has = k.1.has; none_before = (h.0, k.1.none_before) }, k.2)

  found_behind : (before after : List Flaw) (flaw : Flaw) (x : Result A Code) → AllByRecursion (λ f. Not (Has f)) before → Has flaw → Answers (before ++ flaw ∷ after) x
      → x ≡ Err (code flaw)
  found_behind [] after flaw x none has (inl h) = h.1
  found_behind [] after flaw x none has (inr h) = absurd (h.0 has)
  found_behind (f ∷ before) after flaw x none has (inl h) = absurd (none.0 h.0)
  found_behind (f ∷ before) after flaw x none has (inr h) = found_behind before after flaw x none.1 has h.1

  pub first_answers : (fs : List Flaw) (x : Result A Code) (flaw : Flaw) → Answers fs x → IsFirstFlaw Flaw Has fs flaw → x ≡ Err (code flaw)
  first_answers fs x flaw h first =
      found_behind first.before first.after flaw x first.none_before first.has (subst (λ (gs : List Flaw). Answers gs x) first.order_is h)

  -- the first that is there is the one with the code that is answered
  pub none_before : (before after : List Flaw) (flaw : Flaw) (x : Result A Code) → Answers (before ++ flaw ∷ after) x → x ≡ Err (code flaw)
      → AllByRecursion (λ f. (code f ≢ code flaw) ⊎ Not (Has f)) before → AllByRecursion (λ f. Not (Has f)) before
  none_before [] after flaw x h is others = tt
  none_before (f ∷ before) after flaw x (inl h) is others = absurd (elim others.0 [
    | inl other ↦ other (same_refusal {A = A} (code f) (code flaw) (sym h.1 ∙ is))
    | inr none ↦ none h.0
  ])
  none_before (f ∷ before) after flaw x (inr h) is others = (h.0, none_before before after flaw x h.1 is others.1)

  pub answers_none : (fs : List Flaw) (x : Result A Code) (a : A) → Answers fs x → x ≡ Ok a → AllByRecursion (λ f. Not (Has f)) fs
  answers_none [] x a h e = tt
  answers_none (f ∷ fs) x a (inl h) e = absurd (is_no_answer x a (code f) e h.1)
  answers_none (f ∷ fs) x a (inr h) e = (h.0, answers_none fs x a h.1 e)

  pub none_answers : (fs : List Flaw) (x : Result A Code) → Answers fs x → AllByRecursion (λ f. Not (Has f)) fs → P
  none_answers [] x h none = h
  none_answers (f ∷ fs) x (inl h) none = absurd (none.0 h.0)
  none_answers (f ∷ fs) x (inr h) none = none_answers fs x h.1 none.1

-- ---- one flaw is first

same_head : {X : Type 0} (x y : X) (xs ys : List X) → x ∷ xs ≡ y ∷ ys → x ≡ y
same_head x y xs ys h = cc

same_tail : {X : Type 0} (x y : X) (xs ys : List X) → x ∷ xs ≡ y ∷ ys → xs ≡ ys
same_tail x y xs ys h = cc

module _ {Flaw : Type 0} (Has : Flaw → Type 0) where
  same_place : (before after others behind : List Flaw) (f g : Flaw) → before ++ f ∷ after ≡ others ++ g ∷ behind → AllByRecursion (λ h. Not (Has h)) before → AllByRecursion (λ h. Not (Has h)) others → Has f → Has g → f ≡ g
  same_place [] after [] behind f g e none nor has too = same_head f g after behind e
  same_place [] after (x ∷ others) behind f g e none nor has too = absurd (nor.0 (subst Has (same_head f x after (others ++ g ∷ behind) e) has))
  same_place (x ∷ before) after [] behind f g e none nor has too = absurd (none.0 (subst Has (sym (same_head x g (before ++ f ∷ after) behind e)) too))
  same_place (x ∷ before) after (y ∷ others) behind f g e none nor has too =
      same_place before after others behind f g (same_tail x y (before ++ f ∷ after) (others ++ g ∷ behind) e) none.1 nor.1 has too

  pub one_first : (order : List Flaw) (f g : Flaw) → IsFirstFlaw Flaw Has order f → IsFirstFlaw Flaw Has order g → f ≡ g
  one_first order f g first other =
      same_place first.before first.after other.before other.after f g (sym first.order_is ∙ other.order_is) first.none_before other.none_before first.has other.has

-- where none is, what follows from P holds
pub weaker : {Flaw A : Type 0} (Has : Flaw → Type 0) (code : Flaw → Code) (P Q : Type 0) → (P → Q) → (fs : List Flaw) (x : Result A Code) → Answers Has code P fs x → Answers Has code Q fs x
weaker Has code P Q follows [] x h = follows h
weaker Has code P Q follows (f ∷ fs) x (inl h) = inl h
weaker Has code P Q follows (f ∷ fs) x (inr h) = inr (h.0, weaker Has code P Q follows fs x h.1)

-- of a call that fails where another one does
pub lifted : {Flaw A B : Type 0} (Has : Flaw → Type 0) (code : Flaw → Code) (P : Type 0) (fs : List Flaw) (y : Result B Code) (x : Result A Code) → ((c : Code) → y ≡ Err c → x ≡ Err c)
    → Answers Has code P fs y → Answers Has code P fs x
lifted Has code P [] y x fails h = h
lifted Has code P (f ∷ fs) y x fails (inl h) = inl (h.0, fails (code f) h.1)
lifted Has code P (f ∷ fs) y x fails (inr h) = inr (h.0, lifted Has code P fs y x fails h.1)

-- some, and behind them others
pub behind : {Flaw A : Type 0} (Has : Flaw → Type 0) (code : Flaw → Code) (Q P : Type 0) (fs gs : List Flaw) (x : Result A Code)
    → Answers Has code Q fs x → (Q → Answers Has code P gs x) → Answers Has code P (fs ++ gs) x
behind Has code Q P [] gs x h more = more h
behind Has code Q P (f ∷ fs) gs x (inl h) more = inl h
behind Has code Q P (f ∷ fs) gs x (inr h) more = inr (h.0, behind Has code Q P fs gs x h.1 more)

-- flaws of a part are flaws of the whole
pub within : {Part Flaw A B : Type 0} (HasPart : Part → Type 0) (part_code : Part → Code) (Has : Flaw → Type 0) (code : Flaw → Code) (of : Part → Flaw) (P : Type 0)
    (fs : List Part) (y : Result B Code) (x : Result A Code)
    → ((f : Part) → HasPart f → Has (of f)) → ((f : Part) → Has (of f) → HasPart f) → ((f : Part) → part_code f ≡ code (of f)) → ((c : Code) → y ≡ Err c → x ≡ Err c)
    → Answers HasPart part_code P fs y → Answers Has code P (map of fs) x
within HasPart part_code Has code of P [] y x to from same fails h = h
within HasPart part_code Has code of P (f ∷ fs) y x to from same fails (inl h) = inl (to f h.0, fails (part_code f) h.1 ∙ ap refusal (same f))
within HasPart part_code Has code of P (f ∷ fs) y x to from same fails (inr h) = inr ((λ k. h.0 (from f k)), within HasPart part_code Has code of P fs y x to from same fails h.1)
