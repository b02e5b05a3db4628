-- The first flaw of an entry as a whole.
use Rattle.std.proofs.Common.{◌≡◌, ◌↔◌, ◌<◌, ℕ, length, Bool, true, false, cond, not, ◌||◌, List, [], ◌∷◌, Some, None, Result, Err, refl, ap, ◌∙◌}
use Rattle.std.specs.Prelude.{◌&&◌, is_some}
use Rattle.std.specs.List.{list_all, Any}
use Rattle.values.specs.Types.{type_at}
use Rattle.schema.specs.Classes.{class_of, class_at}
use Rattle.schema.specs.declared.code.Code.{Code}
use Rattle.schema.specs.declared.code.Code.TheVariants.{ObjectClassViolation, ConstraintViolation}
use Rattle.schema.specs.Conf.{Conf}
use Rattle.entries.specs.Entries.{Attribute, Attributes, values_of, is_single, are_single, has_its_classes}
use Rattle.entries.specs.EntryClasses.{has_class, has_type, is_allowed, are_classes, has_required, are_allowed, classes_of, defines_classes, fits_classes}
use Rattle.entries.specs.Modifies.{unless, entry_fault}
use Rattle.reasons.specs.EntryFlaws.{EntryFlaw, NoObjectClass, UnknownClass, LacksType, TypeNotAllowed, ManyValues, HasEntryFlaw, entry_flaw_code, entry_order}
use Rattle.reasons.proofs.Elements.{all_told, both, joined, more_than_one, none_there, off, on}
use Rattle.reasons.proofs.Answering.{Answers, check}

module _ {A : Type 0} where
  abbrev violation : Bool → Result A Code → Result A Code
  violation b x = cond b (Err ObjectClassViolation) x

  -- the classes, asked one by one
  classes_told : (h f u q w : Bool) (x : Result A Code)
      → violation (not (h && (not f || (u && (q && w))))) x ≡ violation (not h) (violation (f && not u) (violation (f && not q) (violation (f && not w) x)))
  classes_told false f u q w x = refl
  classes_told true false u q w x = refl
  classes_told true true false q w x = refl
  classes_told true true true false w x = refl
  classes_told true true true true false x = refl
  classes_told true true true true true x = refl

  -- what is looked at, one after the other
  abbrev pub looked_at : Conf → Attributes → Result A Code → Result A Code
  looked_at conf attrs rest = violation (not (has_its_classes conf attrs)) (cond (not (are_single conf.types attrs)) (Err ConstraintViolation) rest)

  pub fault_is : (conf : Conf) (attrs : Attributes) (rest : Result A Code) → unless (entry_fault conf attrs) rest ≡ looked_at conf attrs rest
  fault_is conf attrs rest = by (has_its_classes conf attrs) (are_single conf.types attrs)
    where
      by : (a b : Bool) → unless (cond (not a) (Some ObjectClassViolation) (cond (not b) (Some ConstraintViolation) None)) rest ≡ violation (not a) (cond (not b) (Err ConstraintViolation) rest)
      by true true = refl
      by true false = refl
      by false b = refl

  module _ (conf : Conf) (attrs : Attributes) (x rest : Result A Code) where
    abbrev answers : List EntryFlaw → Type 0
    answers fs = Answers (HasEntryFlaw conf attrs) entry_flaw_code (x ≡ rest) fs x

    abbrev defined : Bool
    defined = defines_classes conf

    abbrev single_answers : Result A Code
    single_answers = cond (not (are_single conf.types attrs)) (Err ConstraintViolation) rest

    -- a flaw that is there where classes are defined
    class_check : (ok : Bool) (Wrong : Type 0) (f : EntryFlaw) (fs : List EntryFlaw) (later : Result A Code) → x ≡ cond (defined && not ok) (Err (entry_flaw_code f)) later
        → (ok ≡ false) ↔ Wrong → ((defined ≡ true) × Wrong → HasEntryFlaw conf attrs f) → (HasEntryFlaw conf attrs f → (defined ≡ true) × Wrong) → (x ≡ later → answers fs) → answers (f ∷ fs)
    class_check ok Wrong f fs later is told to from more = check (HasEntryFlaw conf attrs) entry_flaw_code (x ≡ rest) (defined && not ok) f fs x later is
        (λ h. let k = both defined (not ok) h in to (k.0, told.0 (off ok k.1)))
        (λ h. let k = from h in joined defined (not ok) k.0 (on ok (told.1 k.1)))
        (λ none. more)

    -- ---- what the tests tell

    abbrev belongs : List ℕ
    belongs = classes_of conf attrs

    unknown_told : (are_classes conf.classes (values_of attrs 0) ≡ false) ↔ Any (λ v. class_of conf.classes v ≡ None) (values_of attrs 0)
    unknown_told = all_told (λ v. is_some (class_of conf.classes v)) (λ v. class_of conf.classes v ≡ None) (λ v. (none_there (class_of conf.classes v), ap is_some)) (values_of attrs 0)

    abbrev LacksOneOf : ℕ → Type 0
    LacksOneOf c = Any (λ t. has_type attrs t ≡ false) (class_at conf.classes c).must

    lacks_told : (has_required conf.classes attrs belongs ≡ false) ↔ Any LacksOneOf belongs
    lacks_told = all_told (λ c. list_all (has_type attrs) (class_at conf.classes c).must) LacksOneOf
        (λ c. all_told (has_type attrs) (λ t. has_type attrs t ≡ false) (λ t. (λ h. h, λ h. h)) (class_at conf.classes c).must) belongs

    not_allowed_told : (are_allowed conf belongs attrs ≡ false) ↔ Any (λ a. is_allowed conf belongs a.0 ≡ false) attrs
    not_allowed_told = all_told (λ (a : Attribute). is_allowed conf belongs a.0) (λ a. is_allowed conf belongs a.0 ≡ false) (λ a. (λ h. h, λ h. h)) attrs

    abbrev HasMany : Attribute → Type 0
    HasMany a = ((type_at conf.types a.0).single_value ≡ true) × (1 < length a.1)

    many_told : (are_single conf.types attrs ≡ false) ↔ Any HasMany attrs
    many_told = all_told (is_single conf.types) HasMany (λ a. more_than_one (type_at conf.types a.0).single_value (length a.1)) attrs

    pub entry_answers : x ≡ looked_at conf attrs rest → answers entry_order
    unfolding fits_classes
    entry_answers is =
        let classes : Bool = are_classes conf.classes (values_of attrs 0) in
        let required : Bool = has_required conf.classes attrs belongs in
        let allowed : Bool = are_allowed conf belongs attrs in
        let single : Bool = are_single conf.types attrs in
        check (HasEntryFlaw conf attrs) entry_flaw_code (x ≡ rest) (not (has_class attrs)) NoObjectClass (UnknownClass ∷ LacksType ∷ TypeNotAllowed ∷ ManyValues ∷ []) x
        (violation (defined && not classes) (violation (defined && not required) (violation (defined && not allowed) single_answers)))
        (is ∙ classes_told (has_class attrs) defined classes required allowed single_answers) (off (has_class attrs)) (on (has_class attrs)) λ none said.
        class_check classes (Any (λ v. class_of conf.classes v ≡ None) (values_of attrs 0)) UnknownClass (LacksType ∷ TypeNotAllowed ∷ ManyValues ∷ [])
        (violation (defined && not required) (violation (defined && not allowed) single_answers)) said unknown_told (λ h. h) (λ h. h) λ said.
        class_check required (Any LacksOneOf belongs) LacksType (TypeNotAllowed ∷ ManyValues ∷ []) (violation (defined && not allowed) single_answers) said lacks_told (λ h. h) (λ h. h) λ said.
        class_check allowed (Any (λ a. is_allowed conf belongs a.0 ≡ false) attrs) TypeNotAllowed (ManyValues ∷ []) single_answers said not_allowed_told (λ h. h) (λ h. h) λ said.
        check (HasEntryFlaw conf attrs) entry_flaw_code (x ≡ rest) (not single) ManyValues [] x rest said
        (λ h. many_told.0 (off single h)) (λ h. on single (many_told.1 h)) λ none said. said
