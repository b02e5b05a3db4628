-- How the first of several flaws is found, check by check.
use Rattle.std.specs.Prelude.{is_some}
use Rattle.std.proofs.Common.{◌≡◌, ℕ, zero, suc, ◌<◌, ◌≤◌, Bool, List, [], ◌∷◌, ◌++◌, map, drop, length, get_or, Option, Some, None, Result, Err, refl, sym, ap, subst, ◌∙◌, arith}
use Rattle.std.specs.Option.{option_map}
use Rattle.std.specs.List.{AllByRecursion, slice_get}
use Rattle.std.proofs.lemmas.List.{append_assoc, map-append}
use Rattle.base.specs.Answers.{Fails}
use Rattle.schema.specs.declared.code.Code.{Code}
use Rattle.schema.specs.declared.fault.PathFault.{PathFault}
use Rattle.schema.specs.declared.fault.PathFault.TheVariants as path_faults
use Rattle.schema.specs.FirstFlaws.{Not}
use Rattle.schema.specs.Gives.{fault_of}
use Rattle.reasons.specs.inner.Found.{FindsFirst, Leaves}

module _ {Flaw : Type 0} (Has : Flaw → Type 0) where
  -- one that is there
  pub here : (f : Flaw) (fs : List Flaw) → Has f → FindsFirst Has (f ∷ fs) (Some f)
  here f fs has = record { before = []; after = fs; order_is = refl; has = has; none_before = tt }

  -- one that isn't
  pub passed : (f : Flaw) (fs : List Flaw) (o : Option Flaw) → Not (Has f) → FindsFirst Has fs o → FindsFirst Has (f ∷ fs) o
  passed f fs None none h = (none, h)
  passed f fs (Some g) none h = record {
    before = f ∷ h.before;
    after = h.after;
    order_is = ap (λ (gs : List Flaw). f ∷ gs) h.order_is;
    has = h.has;
    none_before = (none, h.none_before);
  }

  -- some, and behind them others
  pub before : (fs gs : List Flaw) (f : Flaw) → FindsFirst Has fs (Some f) → FindsFirst Has (fs ++ gs) (Some f)
  before fs gs f h = record {
    before = h.before;
    after = h.after ++ gs;
    order_is = ap (λ (hs : List Flaw). hs ++ gs) h.order_is ∙ append_assoc h.before (f ∷ h.after) gs;
    has = h.has;
    none_before = h.none_before;
  }

  pub behind : (fs gs : List Flaw) (o : Option Flaw) → FindsFirst Has fs None → FindsFirst Has gs o → FindsFirst Has (fs ++ gs) o
  behind [] gs o none h = h
  behind (f ∷ fs) gs o none h = passed f (fs ++ gs) o none.0 (behind fs gs o none.1 h)

  -- ---- what is left

  pub leaves_all : (all : List Flaw) → Leaves Has all all
  leaves_all all o h = h

  pub leaves_passed : (all : List Flaw) (f : Flaw) (fs : List Flaw) → Leaves Has all (f ∷ fs) → Not (Has f) → Leaves Has all fs
  leaves_passed all f fs left none o h = left o (passed f fs o none h)

  pub leaves_behind : (all fs gs : List Flaw) → Leaves Has all (fs ++ gs) → FindsFirst Has fs None → Leaves Has all gs
  leaves_behind all fs gs left none o h = left o (behind fs gs o none h)

  pub leaves_before : (all fs gs : List Flaw) (f : Flaw) → Leaves Has all (fs ++ gs) → FindsFirst Has fs (Some f) → FindsFirst Has all (Some f)
  leaves_before all fs gs f left h = left (Some f) (before fs gs f h)

-- flaws of a part are flaws of the whole
module _ {Part Flaw : Type 0} (HasPart : Part → Type 0) (Has : Flaw → Type 0) (of : Part → Flaw)
    (to : (f : Part) → HasPart f → Has (of f)) (from : (f : Part) → Has (of f) → HasPart f) where
  none_of : (fs : List Part) → AllByRecursion (λ f. Not (HasPart f)) fs → AllByRecursion (λ f. Not (Has f)) (map of fs)
  none_of [] h = tt
  none_of (f ∷ fs) h = ((λ has. h.0 (from f has)), none_of fs h.1)

  pub within : (fs : List Part) (o : Option Part) → FindsFirst HasPart fs o → FindsFirst Has (map of fs) (option_map of o)
  within fs None h = none_of fs h
  within fs (Some f) h = record {
    before = map of h.before;
    after = map of h.after;
    order_is = ap (map of) h.order_is ∙ map-append of h.before (f ∷ h.after);
    has = to f h.has;
    none_before = none_of h.before h.none_before;
  }

-- ---- lists by index

pub at_place : {X : Type 0} (xs : List X) (i : ℕ) (x : X) → i < length xs → x ≡ get_or xs i x → slice_get xs i ≡ Some x
at_place [] i x lt is = absurd (omega (arith, lt))
at_place (y ∷ xs) zero x lt is = ap Some (sym is)
at_place (y ∷ xs) (suc i) x lt is = at_place xs i x (omega (arith, lt)) is

pub element : {X : Type 0} (xs : List X) (i : ℕ) → i < length xs → (x : X) × (x ≡ get_or xs i x)
element [] i lt = absurd (omega (arith, lt))
element (y ∷ xs) zero lt = (y, refl)
element (y ∷ xs) (suc i) lt = element xs i (omega (arith, lt))

-- from an element on
pub split_at : {X : Type 0} (xs : List X) (i : ℕ) (x : X) → i < length xs → x ≡ get_or xs i x → drop i xs ≡ x ∷ drop (suc i) xs
split_at [] i x lt is = absurd (omega (arith, lt))
split_at {X} (y ∷ xs) zero x lt is = ap (λ (z : X). z ∷ xs) (sym is)
split_at (y ∷ xs) (suc i) x lt is = split_at xs i x (omega (arith, lt)) is

pub none_left : {X : Type 0} (xs : List X) (i : ℕ) → length xs ≤ i → drop i xs ≡ []
none_left [] zero le = refl
none_left [] (suc i) le = refl
none_left (x ∷ xs) zero le = absurd (omega (arith, le))
none_left (x ∷ xs) (suc i) le = none_left xs i (omega (arith, le))

-- ---- what a call found, where it was taken apart

pub where_some : {Reason Flaw : Type 0} (Has : Flaw → Type 0) (order : List Flaw) (of : Reason → Flaw) (o : Option Reason) (why : Reason) → o ≡ Some why
    → FindsFirst Has order (option_map of o) → FindsFirst Has order (Some (of why))
where_some {Reason} Has order of o why is h = subst (λ (z : Option Reason). FindsFirst Has order (option_map of z)) is h

pub where_none : {Reason Flaw : Type 0} (Has : Flaw → Type 0) (order : List Flaw) (of : Reason → Flaw) (o : Option Reason) → o ≡ None
    → FindsFirst Has order (option_map of o) → FindsFirst Has order None
where_none {Reason} Has order of o is h = subst (λ (z : Option Reason). FindsFirst Has order (option_map of z)) is h

pub mapped_some : {Reason Flaw : Type 0} (of : Reason → Flaw) (o : Option Reason) (b : Bool) → is_some o ≡ b → is_some (option_map of o) ≡ b
mapped_some of None b h = h
mapped_some of (Some why) b h = h

-- the code of a call that failed
pub failed_by : {X : Type 0} (fault : PathFault) (code : Code) (x : Result X Code) → fault ≡ path_faults.Code code → Fails (fault_of fault) x → x ≡ Err code
failed_by fault code x is h = subst (λ (f : PathFault). Fails (fault_of f) x) is h
