-- Reasons that are found for a record.
use Rattle.std.proofs.Common.{◌≡◌, ◌↔◌, ℕ, Bool, true, false, ◌||◌, List, [], ◌∷◌, ◌++◌, map, zero, suc, Option, Some, None, Result, Ok, Err, refl, sym, ap, subst, ◌∙◌}
use Rattle.std.specs.Prelude.{is_some, IfOk, IfSome, IfNone}
use Rattle.std.specs.FinMap as finite
use Rattle.std.specs.Option.{option_map}
use Rattle.std.specs.List.{slice_get, Any}
use Rattle.ldif.specs.declared.record.Control.{Control}
use Rattle.ldif.specs.declared.record.Mode.{Mode}
use Rattle.ldif.specs.declared.record.Record.{Record}
use Rattle.ldif.specs.declared.record.Record.TheVariants as records
use Rattle.paths.specs.Paths.{Path}
use Rattle.schema.specs.Conf.{Conf, located}
use Rattle.schema.specs.declared.locate.Located.{Located}
use Rattle.schema.specs.GoodRdns.{IsRdn}
use Rattle.schema.specs.FirstFlaws.{Not}
use Rattle.schema.specs.Rdns.{TypedRdn}
use Rattle.tree.specs.Directories.{Entries}
use Rattle.tree.specs.Operations.{has_critical, controls_of}
use Rattle.tree.specs.Trees.{has_child}
use Rattle.reasons.specs.declared.explain_names.FaultyName.{FaultyName}
use Rattle.reasons.specs.declared.reason.NameReason.{NameReason}
use Rattle.reasons.specs.declared.reason.Reason.{Reason}
use Rattle.reasons.specs.declared.reason.Reason.TheVariants as reasons
use Rattle.reasons.specs.NameFlaws.{HasNameFlaw, HasPlace, name_flaw_code, place_checks}
use Rattle.reasons.specs.Asked.{IsAt, name_of_record}
use Rattle.reasons.specs.Flaws.{Flaw, CriticalControl, Name, NoEntry, HasChildren, HasFlaw, delete_checks, checks_of, flaw_code}
use Rattle.reasons.specs.Reasons.{flaw_of, name_flaw_of, Explains, IsSo}
use Rattle.reasons.specs.inner.Found.{FindsFirst, Finds, Stands, IsPlace, is_named, later_checks}
use Rattle.reasons.proofs.Answering.{answers_none}
use Rattle.reasons.proofs.Elements.{any_told}
use Rattle.reasons.proofs.NameAnswers.{place_answers}
use Rattle.reasons.proofs.Finding.{here, passed, before, behind, within}
use Rattle.reasons.proofs.Places.{only_path}
use Rattle.reasons.proofs.Told.{refused, allowed}

pub ok_map : {A E : Type 0} (P Q : A → Type 0) → ((a : A) → P a → Q a) → (x : Result A E) → IfOk x P → IfOk x Q
ok_map P Q f (Ok a) h = f a h
ok_map P Q f (Err e) h = h

pub if_some : {A : Type 0} (P : A → Type 0) (o : Option A) (a : A) → o ≡ Some a → IfSome o P → P a
if_some {A} P o a is h = subst (λ (z : Option A). IfSome z P) is h

pub if_none : {A : Type 0} (P : Type 0) (o : Option A) → o ≡ None → IfNone o P → P
if_none {A} P o is h = subst (λ (z : Option A). IfNone z P) is h

pub differ : (b : Bool) → b ≡ true → b ≡ false → ⊥
differ b h k = let both = sym h ∙ k in cc

module _ (conf : Conf) (mode : Mode) (d : Entries) (r : Record) where
  abbrev Has : Flaw → Type 0
  Has f = HasFlaw conf mode d r f

  abbrev pub Found : List Flaw → Option Reason → Type 0
  Found order found = Finds conf mode d r order found

  -- ---- the whole

  pub explained : (found : Option Reason) → Found (checks_of r) found → Explains conf mode d r found
  explained None is = (allowed conf mode d r).1 is.first
  explained (Some reason) is = record {
    first = is.first;
    so = is.so;
    refused = (refused conf mode d r (flaw_code (flaw_of reason))).1 (record { flaw = flaw_of reason; first = is.first; code_is = refl });
  }

  -- ---- parts

  pub found_here : (reason : Reason) (fs : List Flaw) → Has (flaw_of reason) → IsSo conf d r reason → Found (flaw_of reason ∷ fs) (Some reason)
  found_here reason fs has so = record { first = here Has (flaw_of reason) fs has; so = so }

  pub found_later : (f : Flaw) (fs : List Flaw) (found : Option Reason) → Not (Has f) → Found fs found → Found (f ∷ fs) found
  found_later f fs found none is = record { first = passed Has f fs (option_map flaw_of found) none is.first; so = is.so }

  pub found_before : (fs gs : List Flaw) (reason : Reason) → Found fs (Some reason) → Found (fs ++ gs) (Some reason)
  found_before fs gs reason is = record { first = before Has fs gs (flaw_of reason) is.first; so = is.so }

  pub found_behind : (fs gs : List Flaw) (found : Option Reason) → Found fs None → Found gs found → Found (fs ++ gs) found
  found_behind fs gs found none is = record { first = behind Has fs gs (option_map flaw_of found) none.first is.first; so = is.so }

  pub found_none : Found [] None
  found_none = record { first = tt; so = tt }

  pub either_so : (fs gs : List Flaw) (found : Option Reason) → is_some found ≡ true → Found fs found → Found (fs ++ gs) found
  either_so fs gs None some is = absurd cc
  either_so fs gs (Some reason) some is = found_before fs gs reason is

  pub none_so : (fs : List Flaw) (found : Option Reason) → is_some found ≡ false → Found fs found → Found fs None
  none_so fs None none is = is
  none_so fs (Some reason) none is = absurd cc

  -- ---- its name

  pub name_found : (why : NameReason) → FindsFirst (HasNameFlaw conf (name_of_record r)) (place_checks (name_of_record r)) (Some (name_flaw_of why)) → (fs : List Flaw)
      → Found (map Name (place_checks (name_of_record r)) ++ fs) (Some (reasons.Name why))
  name_found why h fs = record {
    first = before Has (map Name (place_checks (name_of_record r))) fs (Name (name_flaw_of why))
        (within (HasNameFlaw conf (name_of_record r)) Has Name (λ f has. has) (λ f has. has) (place_checks (name_of_record r)) (Some (name_flaw_of why)) h);
    so = tt;
  }

  pub name_passed : (path : Path) (rdn : TypedRdn) → Stands conf (name_of_record r) path rdn → Found (map Name (place_checks (name_of_record r))) None
  name_passed path rdn stands = record {
    first = within (HasNameFlaw conf (name_of_record r)) Has Name (λ f has. has) (λ f has. has) (place_checks (name_of_record r)) None
        (answers_none (HasNameFlaw conf (name_of_record r)) name_flaw_code ((rdns : List TypedRdn) × HasPlace conf (name_of_record r) rdns) (place_checks (name_of_record r)) (located conf (name_of_record r)) stands.rdns (place_answers conf (name_of_record r)) stands.here);
    so = tt;
  }

  -- ---- its controls

  critical_told : (has_critical (controls_of r) ≡ true) ↔ Any (λ (c : Control). c.critical ≡ true) (controls_of r)
  critical_told = any_told (λ (c : Control). c.critical) (λ c. c.critical ≡ true) (λ c. (λ h. h, λ h. h)) (controls_of r)

  pub behind_controls : (order : List Flaw) (found : Option Reason) → has_critical (controls_of r) ≡ false → Found order found → Found (CriticalControl ∷ order) found
  behind_controls order found none is = found_later CriticalControl order found (λ has. differ (has_critical (controls_of r)) (critical_told.1 has) none) is

  pub critical_found : (order : List Flaw) (i : ℕ) (c : Control) → slice_get (controls_of r) i ≡ Some c → c.critical ≡ true → Found (CriticalControl ∷ order) (Some (reasons.CriticalControl i))
  critical_found order i c there is = found_here (reasons.CriticalControl i) order (critical_told.0 (some_critical (controls_of r) i there)) (c, there, is)
    where
      or_true : (a b : Bool) → b ≡ true → (a || b) ≡ true
      or_true true b h = refl
      or_true false b h = h

      same_control : (a b : Control) → ◌≡◌ {A = Option Control} (Some a) (Some b) → a ≡ b
      same_control a b h = cc

      some_critical : (cs : List Control) (j : ℕ) → slice_get cs j ≡ Some c → has_critical cs ≡ true
      some_critical [] j e = absurd cc
      some_critical (x ∷ cs) zero e = ap (λ (b : Bool). b || has_critical cs) (ap (λ (k : Control). k.critical) (same_control x c e) ∙ is)
      some_critical (x ∷ cs) (suc j) e = or_true x.critical (has_critical cs) (some_critical cs j e)

  -- ---- what stands at its path

  module _ (path : Path) (at : IsAt conf r path) where
    pub of_this : (Q : Path → Type 0) (p : Path) → IsAt conf r p → Q p → Q path
    of_this Q p other h = subst Q (only_path conf (name_of_record r) at.0 p at.1 other ∙ sym at.2) h

    pub no_entry : (fs : List Flaw) → finite.contains_key d path ≡ false → Found (NoEntry ∷ fs) (Some reasons.NoEntry)
    no_entry fs none = found_here reasons.NoEntry fs (path, at, none) tt

    pub entry_there : (fs : List Flaw) (found : Option Reason) → finite.contains_key d path ≡ true → Found fs found → Found (NoEntry ∷ fs) found
    entry_there fs found there is = found_later NoEntry fs found (λ has. differ (finite.contains_key d path) there (of_this (λ p. finite.contains_key d p ≡ false) has.0 has.1 has.2)) is

    pub children_found : finite.contains_key d path ≡ true → has_child d path ≡ true → Found delete_checks (Some reasons.HasChildren)
    children_found there below = entry_there (HasChildren ∷ []) (Some reasons.HasChildren) there (found_here reasons.HasChildren [] (path, at, below) tt)

-- ---- the order of the checks

pub whole_found : (conf : Conf) (mode : Mode) (d : Entries) (r : Record) → is_named r ≡ true → has_critical (controls_of r) ≡ false → (found : Option Reason)
    → Found conf mode d r (map Name (place_checks (name_of_record r)) ++ later_checks r) found → Found conf mode d r (checks_of r) found
whole_found conf mode d records.Empty named none found is = absurd cc
whole_found conf mode d (records.Content dn attrs) named none found is = behind_controls conf mode d (records.Content dn attrs) _ found none is
whole_found conf mode d (records.Add dn controls attrs) named none found is = behind_controls conf mode d (records.Add dn controls attrs) _ found none is
whole_found conf mode d (records.Delete dn controls) named none found is = behind_controls conf mode d (records.Delete dn controls) _ found none is
whole_found conf mode d (records.Modify dn controls mods) named none found is = behind_controls conf mode d (records.Modify dn controls mods) _ found none is
whole_found conf mode d (records.ModRdn dn controls newrdn delete_old new_superior) named none found is = behind_controls conf mode d (records.ModRdn dn controls newrdn delete_old new_superior) _ found none is

pub first_critical : (conf : Conf) (mode : Mode) (d : Entries) (r : Record) (i : ℕ) (c : Control) → slice_get (controls_of r) i ≡ Some c → c.critical ≡ true
    → Found conf mode d r (checks_of r) (Some (reasons.CriticalControl i))
first_critical conf mode d records.Empty i c there is = absurd cc
first_critical conf mode d (records.Content dn attrs) i c there is = absurd cc
first_critical conf mode d (records.Add dn controls attrs) i c there is = critical_found conf mode d (records.Add dn controls attrs) _ i c there is
first_critical conf mode d (records.Delete dn controls) i c there is = critical_found conf mode d (records.Delete dn controls) _ i c there is
first_critical conf mode d (records.Modify dn controls mods) i c there is = critical_found conf mode d (records.Modify dn controls mods) _ i c there is
first_critical conf mode d (records.ModRdn dn controls newrdn delete_old new_superior) i c there is = critical_found conf mode d (records.ModRdn dn controls newrdn delete_old new_superior) _ i c there is

-- ---- what a call for a place answered, where it was taken apart

pub stands_there : (conf : Conf) (text name : List ℕ) (o : Result Located NameReason) (place : Located) → text ≡ name → o ≡ Ok place → IsPlace conf text o
    → Stands conf name place.path place.rdn × IsRdn conf.types place.rdn
stands_there conf text name o place same is h = subst (λ (t : List ℕ). IsPlace conf t (Ok place)) same (subst (IsPlace conf text) is h)

pub refused_there : (conf : Conf) (text name : List ℕ) (o : Result Located NameReason) (why : NameReason) → text ≡ name → o ≡ Err why → IsPlace conf text o
    → FindsFirst (HasNameFlaw conf name) (place_checks name) (Some (name_flaw_of why))
refused_there conf text name o why same is h = subst (λ (t : List ℕ). IsPlace conf t (Err why)) same (subst (IsPlace conf text) is h)

-- the same of a call for what a name is refused for by itself
pub faulty_there : (conf : Conf) (text name : List ℕ) (o : Option FaultyName) (f : FaultyName) → text ≡ name → o ≡ Some f
    → IfSome o (λ g. IsPlace conf text (Err g.why)) → FindsFirst (HasNameFlaw conf name) (place_checks name) (Some (name_flaw_of f.why))
faulty_there conf text name o f same is h =
    subst (λ (t : List ℕ). IsPlace conf t (Err f.why)) same (if_some (λ (g : FaultyName). IsPlace conf text (Err g.why)) o f is h)
