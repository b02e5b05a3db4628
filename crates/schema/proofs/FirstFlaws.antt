-- The first of several flaws, found by testing one kind after the other.
use Rattle.std.proofs.Common.{◌≡◌, Bool, true, false, cond, List, [], ◌∷◌, ◌++◌, Option, Some, None, refl, sym, ap, subst, ◌∙◌}
use Rattle.std.specs.List.{AllByRecursion}
use Rattle.schema.specs.FirstFlaws.{Not, IsFirstFlaw}

abbrev pub first_of : {Flaw : Type 0} → (Flaw → Bool) → List Flaw → Option Flaw
first_of test [] = None
first_of test (f ∷ fs) = cond (test f) (Some f) (first_of test fs)

-- a test tells whether a flaw is there
abbrev pub Tells : {Flaw : Type 0} → (Flaw → Bool) → (Flaw → Type 0) → Type 0
Tells {Flaw} test Has = (f : Flaw) → (test f ≡ true → Has f) × (Has f → test f ≡ true)

abbrev pub some_flaw : {Flaw : Type 0} → Flaw → Option Flaw
some_flaw f = Some f

pub same_flaw : {Flaw : Type 0} (f g : Flaw) → some_flaw f ≡ some_flaw g → f ≡ g
same_flaw f g e = cc

module _ {Flaw : Type 0} (test : Flaw → Bool) (Has : Flaw → Type 0) (tells : Tells test Has) where
  pub isnt_there : (f : Flaw) → test f ≡ false → Not (Has f)
  isnt_there f e h = absurd (let both = sym ((tells f).1 h) ∙ e in cc)

  tests_false : (f : Flaw) (b : Bool) → test f ≡ b → Not (Has f) → test f ≡ false
  tests_false f true e isnt = absurd (isnt ((tells f).0 e))
  tests_false f false e isnt = e

  one_more : (f : Flaw) (order : List Flaw) (flaw : Flaw) → test f ≡ false → IsFirstFlaw Flaw Has order flaw → IsFirstFlaw Flaw Has (f ∷ order) flaw
  one_more f order flaw e first = record {
    before = f ∷ first.before;
    after = first.after;
    order_is = ap (λ (fs : List Flaw). f ∷ fs) first.order_is;
    has = first.has;
    none_before = (isnt_there f e, first.none_before);
  }

  here : (f : Flaw) (order : List Flaw) (flaw : Flaw) → test f ≡ true → f ≡ flaw → IsFirstFlaw Flaw Has (f ∷ order) flaw
  here f order flaw e same = subst (IsFirstFlaw Flaw Has (f ∷ order)) same (record { before = []; after = order; order_is = refl; has = (tells f).0 e; none_before = tt })

  pub is_first_flaw : (order : List Flaw) (flaw : Flaw) → first_of test order ≡ Some flaw → IsFirstFlaw Flaw Has order flaw
  is_first_flaw [] flaw e = absurd cc
  is_first_flaw (f ∷ order) flaw e = by (test f) refl e (is_first_flaw order flaw)
    where
      by : (b : Bool) → test f ≡ b → cond b (Some f) (first_of test order) ≡ Some flaw → (first_of test order ≡ Some flaw → IsFirstFlaw Flaw Has order flaw) → IsFirstFlaw Flaw Has (f ∷ order) flaw
      by true is said rest = here f order flaw is (same_flaw f flaw said)
      by false is said rest = one_more f order flaw is (rest said)

  found_behind : (before after : List Flaw) (flaw : Flaw) → AllByRecursion (λ f. Not (Has f)) before → Has flaw → first_of test (before ++ flaw ∷ after) ≡ Some flaw
  found_behind [] after flaw none h = ap (λ (b : Bool). cond b (Some flaw) (first_of test after)) ((tells flaw).1 h)
  found_behind (f ∷ before) after flaw none h =
      ap (λ (b : Bool). cond b (Some f) (first_of test (before ++ flaw ∷ after))) (tests_false f (test f) refl none.0) ∙ found_behind before after flaw none.1 h

  pub first_is : (order : List Flaw) (flaw : Flaw) → IsFirstFlaw Flaw Has order flaw → first_of test order ≡ Some flaw
  first_is order flaw first = ap (first_of test) first.order_is ∙ found_behind first.before first.after flaw first.none_before first.has

  -- ---- none of them

  pub none_of : (order : List Flaw) → first_of test order ≡ None → AllByRecursion (λ f. Not (Has f)) order
  none_of [] e = tt
  none_of (f ∷ order) e = by (test f) refl e (none_of order)
    where
      by : (b : Bool) → test f ≡ b → cond b (Some f) (first_of test order) ≡ None → (first_of test order ≡ None → AllByRecursion (λ g. Not (Has g)) order) → AllByRecursion (λ g. Not (Has g)) (f ∷ order)
      by true is said rest = absurd cc
      by false is said rest = (isnt_there f is, rest said)

  pub none_is : (order : List Flaw) → ((f : Flaw) → Not (Has f)) → first_of test order ≡ None
  none_is [] none = refl
  none_is (f ∷ order) none = ap (λ (b : Bool). cond b (Some f) (first_of test order)) (tests_false f (test f) refl (none f)) ∙ none_is order none
