-- What a type has is what the nearest type at or above it states.
use Rattle.std.proofs.Common.{◌≡◌, ℕ, zero, suc, ◌<◌, Bool, true, false, cond, ◌||◌, not, List, [], ◌∷◌, take, length, get_or, Option, Some, None, ◌⊎◌, inl, inr, refl, sym, ap, subst, ◌∙◌, arith}
use Rattle.std.specs.Prelude.{◌↔◌, IfSome, is_some}
use Rattle.std.specs.Option.{option_map}
use Rattle.std.proofs.lemmas.Bool.{or_parts}
use Rattle.std.proofs.lemmas.List.{get_or-map, get_or-take}
use Rattle.matching.specs.declared.family.Family.{Family}
use Rattle.matching.specs.declared.family.Family.TheVariants as families
use Rattle.matching.specs.declared.syntax.Syntax.TheVariants as syntaxes
use Rattle.values.specs.declared.types.TypeSyntax.{TypeSyntax}
use Rattle.values.specs.declared.types.TypeSyntax.TheVariants as type_syntaxes
use Rattle.values.specs.declared.types.EqualityRule.{EqualityRule}
use Rattle.values.specs.declared.types.EqualityRule.TheVariants as rules
use Rattle.values.specs.declared.types.AttributeType.{AttributeType}
use Rattle.values.specs.Types.{type_at, no_type, plain_family}
use Rattle.definitions.specs.declared.type_definition.TypeDefinition.{TypeDefinition}
use Rattle.definitions.specs.TypeDefinitions.{empty_definition}
use Rattle.schema.specs.TypeRules.{object_class, up_of, is_equality, is_syntax, leaves_rule, leaves_family, breaks_with, FitsBehind}
use Rattle.dir_conf.specs.RuleNames.{or_else, syntax_of, equality_of, ordering_of, substrings_of}
use Rattle.dir_conf.specs.DerivedTypes.{stated, goes_with, syntax_with, type_with}
use Rattle.dir_conf.specs.Inherited.{stated_by, fits_equality, IsFirstStated, Inherits, AreInherited}

same_some : {X : Type 0} (x y : X) → ◌≡◌ {A = Option X} (Some x) (Some y) → x ≡ y
same_some x y e = cc

some_not_none : {X : Type 0} (x : X) (o : Option X) → o ≡ None → o ≡ Some x → ⊥
some_not_none x o none some = absurd (let both = sym none ∙ some in cc)

abbrev some_of : {X : Type 0} → X → Option X
some_of x = Some x

-- ---- by the way up

-- a type states something; or it states nothing, and nothing is above it; or it has what the one above it has
module _ {X : Type 0} (types : List AttributeType) (states : ℕ → Option X) (Has : ℕ → Type 0) (x : X) where
  abbrev Stated : ℕ → Type 0
  Stated t = (y : X) × (states t ≡ Some y) × (Has t → y ≡ x) × (y ≡ x → Has t)

  abbrev Topmost : ℕ → Type 0
  Topmost t = (states t ≡ None) × ((type_at types t).superior ≡ None) × (Has t → ⊥)

  abbrev Below : ℕ → Type 0
  Below t = (s : ℕ) × (states t ≡ None) × ((type_at types t).superior ≡ Some s) × (s < t) × (Has t → Has s) × (Has s → Has t)

  abbrev Step : ℕ → Type 0
  Step t = Stated t ⊎ (Topmost t ⊎ Below t)

  module _ (steps : (t : ℕ) → t < length types → Step t) where
    inherited : (n t : ℕ) → t < n → t < length types → Has t → Inherits types states t x
    inherited zero t lt known h = absurd (omega (arith, lt))
    inherited (suc n) t lt known h = elim (steps t known) [
      | inl st ↦ ([], st.1 ∙ ap some_of (st.2 h))
      | inr (inl top) ↦ absurd (top.2 h)
      | inr (inr b) ↦ (let k = inherited n b.0 (omega (arith, lt, b.3)) (omega (arith, known, b.3)) (b.4 h) in (b.0 ∷ k.0, (b.1, b.2, k.1)))
    ]

    has : (above : List ℕ) (t : ℕ) → t < length types → IsFirstStated types states t above x → Has t
    has [] t known e = elim (steps t known) [
      | inl st ↦ st.3 (same_some st.0 x (sym st.1 ∙ e))
      | inr (inl top) ↦ absurd (some_not_none x (states t) top.0 e)
      | inr (inr b) ↦ absurd (some_not_none x (states t) b.1 e)
    ]
    has (s ∷ ss) t known e = elim (steps t known) [
      | inl st ↦ absurd (some_not_none st.0 (states t) e.0 st.1)
      | inr (inl top) ↦ absurd (some_not_none s (type_at types t).superior top.1 e.1)
      | inr (inr b) ↦ (let same : b.0 ≡ s = same_some b.0 s (sym b.2 ∙ e.1) in b.5 (subst Has (sym same) (has ss s (omega (arith, known, b.3, same)) e.2)))
    ]

    pub told : (t : ℕ) → t < length types → (Has t) ↔ (Inherits types states t x)
    told t known = (inherited (suc t) t (omega arith) known, λ k. has k.0 t known k.1)

-- ---- types with their definitions

abbrev pub no_definition : TypeDefinition
no_definition = empty_definition []

pub record IsDerived (types : List AttributeType) (t : ℕ) (d : TypeDefinition) : Type 0 where
  pub up : Option ℕ
  pub above : IfSome up (λ s. s < t)
  pub is : type_at types t ≡ type_with d up (up_of types up)
  pub rooted : (is_some d.syntax || is_some up) ≡ true

pub record AreDerived (types : List AttributeType) (ds : List TypeDefinition) : Type 0 where
  pub first : type_at types 0 ≡ object_class
  pub count : length types ≡ suc (length ds)
  pub each : (k : ℕ) → k < length ds → IsDerived types (suc k) (get_or ds k no_definition)

module _ (types : List AttributeType) (ds : List TypeDefinition) (derived : AreDerived types ds) where
  behind : (k : ℕ) → suc k < length types → k < length ds
  behind k lt = omega (arith, lt, derived.count)

  stated_is : {X : Type 0} (x : Option X) (states : TypeDefinition → Option X) (k : ℕ) → k < length ds → stated_by x states ds (suc k) ≡ states (get_or ds k no_definition)
  stated_is x states k lt = get_or-map states ds k no_definition None lt

  superior_is : (d : TypeDefinition) (up : Option ℕ) (t : ℕ) → type_at types t ≡ type_with d up (up_of types up) → (type_at types t).superior ≡ up
  unfolding type_with
  superior_is d up t is = ap (λ (a : AttributeType). a.superior) is

  -- ---- what is had from above as it is

  module _ {X : Type 0} (of : AttributeType → Option X) (own : TypeDefinition → Option X) (built_in : X) (of_object_class : of object_class ≡ Some built_in) where
    abbrev from_above : Option ℕ → Option X
    from_above None = None
    from_above (Some s) = of (type_at types s)

    module _ (law : (d : TypeDefinition) (up : Option ℕ) → (is_some d.syntax || is_some up) ≡ true → of (type_with d up (up_of types up)) ≡ or_else (own d) (from_above up)) (x : X) where
      abbrev states : ℕ → Option X
      states t = stated_by (Some built_in) own ds t

      abbrev HasIt : ℕ → Type 0
      HasIt t = of (type_at types t) ≡ Some x

      at_first : Step types states HasIt x 0
      at_first =
          let is : of (type_at types 0) ≡ Some built_in = ap of derived.first ∙ of_object_class in
          inl (built_in, refl, λ h. same_some built_in x (sym is ∙ h), λ e. is ∙ ap some_of e)

      module _ (k : ℕ) (lt : k < length ds) where
        abbrev d : TypeDefinition
        d = get_or ds k no_definition

        abbrev e : IsDerived types (suc k) d
        e = derived.each k lt

        had : of (type_at types (suc k)) ≡ or_else (own d) (from_above e.up)
        had = ap of e.is ∙ law d e.up e.rooted

        by : (o : Option X) → own d ≡ o → (up : Option ℕ) → e.up ≡ up → IfSome up (λ s. s < suc k) → Step types states HasIt x (suc k)
        by (Some y) states_it up up-is above =
            let is : of (type_at types (suc k)) ≡ Some y = had ∙ ap (λ (o : Option X). or_else o (from_above e.up)) states_it in
            inl (y, stated_is (Some built_in) own k lt ∙ states_it, λ h. same_some y x (sym is ∙ h), λ same. is ∙ ap some_of same)
        by None states_none None up-is above =
            let is : of (type_at types (suc k)) ≡ None = had ∙ (λ j. or_else (states_none j) (from_above (up-is j))) in
            inr (inl (stated_is (Some built_in) own k lt ∙ states_none, superior_is d e.up (suc k) e.is ∙ up-is, λ h. some_not_none x (of (type_at types (suc k))) is h))
        by None states_none (Some s) up-is above =
            let is : of (type_at types (suc k)) ≡ of (type_at types s) = had ∙ (λ j. or_else (states_none j) (from_above (up-is j))) in
            inr (inr (s, stated_is (Some built_in) own k lt ∙ states_none, superior_is d e.up (suc k) e.is ∙ up-is, above, λ h. sym is ∙ h, λ h. is ∙ h))

        at_other : Step types states HasIt x (suc k)
        at_other = by (own d) refl e.up refl e.above

      steps_as : (t : ℕ) → t < length types → Step types states HasIt x t
      steps_as zero lt = at_first
      steps_as (suc k) lt = at_other k (behind k lt)

      pub told_as : (t : ℕ) → t < length types → (of (type_at types t) ≡ Some x) ↔ (Inherits types (stated_by (Some built_in) own ds) t x)
      told_as t lt = told types states HasIt x steps_as t lt

  -- ---- what is had from above beside an equality rule of its family

  abbrev family_at : (AttributeType → Bool) → AttributeType → Option Family
  family_at flag up = cond (flag up) (plain_family up.equality) None

  abbrev family_above : (AttributeType → Bool) → Option ℕ → Option Family
  family_above flag None = None
  family_above flag (Some s) = family_at flag (type_at types s)

  agreed : (fits : (t : ℕ) → t < length types → FitsBehind (take t types) (type_at types t)) (t s : ℕ) → t < length types → (type_at types t).superior ≡ Some s → s < t → leaves_family (type_at types t) (type_at types s) ≡ false
  agreed fits t s known up lt =
      let a : breaks_with (type_at types t) (up_of (take t types) (type_at types t).superior) ≡ false = (fits t known).agrees in
      let b : breaks_with (type_at types t) (Some (type_at (take t types) s)) ≡ false = ap (λ (o : Option ℕ). breaks_with (type_at types t) (up_of (take t types) o)) (sym up) ∙ a in
      let c : leaves_family (type_at types t) (type_at (take t types) s) ≡ false = (or_parts (leaves_family (type_at types t) (type_at (take t types) s)) (not (is_syntax (type_at types t).syntax (type_at (take t types) s).syntax)) b).0 in
      ap (λ (u : AttributeType). leaves_family (type_at types t) u) (sym (get_or-take t types s no_type lt)) ∙ c

  goes_on : (f : Option EqualityRule) (t : AttributeType) → is_some (plain_family f) ≡ true → leaves_rule f t ≡ false → goes_with (plain_family f) t.equality ≡ true
  goes_on None t some stays = absurd cc
  goes_on (Some rules.Name) t some stays = absurd cc
  goes_on (Some (rules.Plain family)) t some stays = by (is_equality (rules.Plain family) t.equality) stays
    where
      by : (b : Bool) → not b ≡ false → b ≡ true
      by true h = refl
      by false h = sym h

  module _ (fits : (t : ℕ) → t < length types → FitsBehind (take t types) (type_at types t)) (flag : AttributeType → Bool) (own : TypeDefinition → Option Family) (isnt_built_in : flag object_class ≡ false)
      (beside : (t : ℕ) → t < length types → flag (type_at types t) ≡ true → is_some (plain_family (type_at types t).equality) ≡ true)
      (law : (d : TypeDefinition) (up : Option ℕ) → flag (type_with d up (up_of types up)) ≡ goes_with (or_else (own d) (family_above flag up)) (type_with d up (up_of types up)).equality) where
    abbrev states_it : ℕ → Option Bool
    states_it t = option_map (fits_equality types t) (stated_by None own ds t)

    abbrev HasFlag : ℕ → Type 0
    HasFlag t = flag (type_at types t) ≡ true

    false_isnt : (b : Bool) → b ≡ false → b ≡ true → ⊥
    false_isnt b off on = absurd (let both = sym off ∙ on in cc)

    flag_first : Step types states_it HasFlag true 0
    flag_first = inr (inl (refl, ap (λ (a : AttributeType). a.superior) derived.first, λ h. false_isnt (flag (type_at types 0)) (ap flag derived.first ∙ isnt_built_in) h))

    module _ (k : ℕ) (known : suc k < length types) (lt : k < length ds) where
      abbrev this : TypeDefinition
      this = get_or ds k no_definition

      abbrev here : IsDerived types (suc k) this
      here = derived.each k lt

      abbrev equality : Option EqualityRule
      equality = (type_at types (suc k)).equality

      had_flag : flag (type_at types (suc k)) ≡ goes_with (or_else (own this) (family_above flag here.up)) equality
      had_flag = ap flag here.is ∙ law this here.up ∙ ap (λ (a : AttributeType). goes_with (or_else (own this) (family_above flag here.up)) a.equality) (sym here.is)

      states_is : states_it (suc k) ≡ option_map (fits_equality types (suc k)) (own this)
      states_is = ap (option_map (fits_equality types (suc k))) (stated_is None own k lt)

      none : own this ≡ None → states_it (suc k) ≡ None
      none unstated = states_is ∙ ap (option_map (fits_equality types (suc k))) unstated

      down : (s : ℕ) (b : Bool) → flag (type_at types s) ≡ b → flag (type_at types (suc k)) ≡ goes_with (cond b (plain_family (type_at types s).equality) None) equality → HasFlag (suc k) → b ≡ true
      down s true is said h = refl
      down s false is said h = absurd (false_isnt (flag (type_at types (suc k))) said h)

      by_own : (o : Option Family) → own this ≡ o → (up : Option ℕ) → here.up ≡ up → IfSome up (λ s. s < suc k) → Step types states_it HasFlag true (suc k)
      by_own (Some family) states_family up up-is above =
          let is : flag (type_at types (suc k)) ≡ goes_with (Some family) equality = had_flag ∙ ap (λ (o : Option Family). goes_with (or_else o (family_above flag here.up)) equality) states_family in
          inl (goes_with (Some family) equality, states_is ∙ ap (option_map (fits_equality types (suc k))) states_family, λ h. sym is ∙ h, λ same. is ∙ same)
      by_own None states_none None up-is above =
          let is : flag (type_at types (suc k)) ≡ false = had_flag ∙ (λ j. goes_with (or_else (states_none j) (family_above flag (up-is j))) equality) in
          inr (inl (none states_none, superior_is this here.up (suc k) here.is ∙ up-is, λ h. false_isnt (flag (type_at types (suc k))) is h))
      by_own None states_none (Some s) up-is above =
          let superior : (type_at types (suc k)).superior ≡ Some s = superior_is this here.up (suc k) here.is ∙ up-is in
          let is : flag (type_at types (suc k)) ≡ goes_with (family_at flag (type_at types s)) equality = had_flag ∙ (λ j. goes_with (or_else (states_none j) (family_above flag (up-is j))) equality) in
          inr (inr (
            s,
            none states_none,
            superior,
            above,
            down s (flag (type_at types s)) refl is,
            λ h.
                is ∙ ap (λ (b : Bool). goes_with (cond b (plain_family (type_at types s).equality) None) equality) h
                ∙ goes_on (type_at types s).equality (type_at types (suc k)) (beside s (omega (arith, known, above)) h) (agreed fits (suc k) s known superior above),
          ))

      flag_other : Step types states_it HasFlag true (suc k)
      flag_other = by_own (own this) refl here.up refl here.above

    steps_beside : (t : ℕ) → t < length types → Step types states_it HasFlag true t
    steps_beside zero lt = flag_first
    steps_beside (suc k) lt = flag_other k lt (behind k lt)

    pub told_beside : (t : ℕ) → t < length types → (flag (type_at types t) ≡ true) ↔ (Inherits types states_it t true)
    told_beside t lt = told types states_it HasFlag true steps_beside t lt

  -- ---- all four

  abbrev some_syntax : AttributeType → Option TypeSyntax
  some_syntax t = Some t.syntax

  equality_law : (d : TypeDefinition) (up : Option ℕ) → (is_some d.syntax || is_some up) ≡ true → (type_with d up (up_of types up)).equality ≡ or_else (stated equality_of d.equality) (from_above (λ t. t.equality) (λ d. stated equality_of d.equality) (rules.Plain families.Oid) refl up)
  unfolding type_with
  equality_law d None rooted = refl
  equality_law d (Some s) rooted = refl

  syntax_law : (d : TypeDefinition) (up : Option ℕ) → (is_some d.syntax || is_some up) ≡ true → some_syntax (type_with d up (up_of types up)) ≡ or_else (option_map syntax_of d.syntax) (from_above some_syntax (λ d. option_map syntax_of d.syntax) (type_syntaxes.Plain syntaxes.Oid) refl up)
  unfolding type_with
  syntax_law d up rooted = by d.syntax up rooted
    where
      by : (oid : Option (List ℕ)) (up : Option ℕ) → (is_some oid || is_some up) ≡ true → some_of (syntax_with oid (up_of types up)) ≡ or_else (option_map syntax_of oid) (from_above some_syntax (λ d. option_map syntax_of d.syntax) (type_syntaxes.Plain syntaxes.Oid) refl up)
      by (Some oid) up rooted = refl
      by None (Some s) rooted = refl
      by None None rooted = absurd cc

  ordering_law : (d : TypeDefinition) (up : Option ℕ) → (type_with d up (up_of types up)).is_ordered ≡ goes_with (or_else (stated ordering_of d.ordering) (family_above (λ t. t.is_ordered) up)) (type_with d up (up_of types up)).equality
  unfolding type_with
  ordering_law d None = refl
  ordering_law d (Some s) = refl

  substrings_law : (d : TypeDefinition) (up : Option ℕ) → (type_with d up (up_of types up)).has_substrings ≡ goes_with (or_else (stated substrings_of d.substrings) (family_above (λ t. t.has_substrings) up)) (type_with d up (up_of types up)).equality
  unfolding type_with
  substrings_law d None = refl
  substrings_law d (Some s) = refl

  pub all_inherited : ((t : ℕ) → t < length types → FitsBehind (take t types) (type_at types t)) → AreInherited types ds
  all_inherited fits = record {
    equality = λ t rule lt. told_as (λ u. u.equality) (λ d. stated equality_of d.equality) (rules.Plain families.Oid) refl equality_law rule t lt;
    syntax = λ t syntax lt.
        let both = told_as some_syntax (λ d. option_map syntax_of d.syntax) (type_syntaxes.Plain syntaxes.Oid) refl syntax_law syntax t lt in
        (λ e. both.0 (ap some_of e), λ k. same_some (type_at types t).syntax syntax (both.1 k));
    ordering = λ t lt. told_beside fits (λ u. u.is_ordered) (λ d. stated ordering_of d.ordering) refl (λ u known. (fits u known).ordered) ordering_law t lt;
    substrings = λ t lt. told_beside fits (λ u. u.has_substrings) (λ d. stated substrings_of d.substrings) refl (λ u known. (fits u known).substrings) substrings_law t lt;
  }
