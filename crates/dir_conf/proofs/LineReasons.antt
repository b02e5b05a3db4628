-- The flaw that a line is told to have: it is refused for it, and what it names makes it so.
use Rattle.std.proofs.Common.{◌≡◌, ℕ, Bool, true, false, cond, ◌||◌, List, [], ◌∷◌, ◌++◌, Option, Some, None, Result, Ok, Err, inl, inr, codes, refl, sym, ap, ◌∙◌}
use Rattle.std.specs.Prelude.{is_some}
use Rattle.std.specs.Option.{option_map}
use Rattle.definitions.specs.declared.lines.Line.{Line}
use Rattle.definitions.specs.declared.type_definition.TypeDefinition.{TypeDefinition}
use Rattle.definitions.specs.declared.class_definition.ClassDefinition.{ClassDefinition}
use Rattle.definitions.specs.Words.{first_word, after_word}
use Rattle.definitions.specs.Lines.{begins_blank}
use Rattle.definitions.specs.TypeDefinitions.{type_definition_of}
use Rattle.definitions.specs.ClassDefinitions.{class_definition_of}
use Rattle.definitions.specs.TypeGrammar.{SpellsType}
use Rattle.definitions.specs.ClassGrammar.{SpellsClass}
use Rattle.values.specs.declared.types.AttributeType.{AttributeType}
use Rattle.schema.specs.Rdns.{TypedRdn}
use Rattle.schema.specs.Values.{rdns_in}
use Rattle.schema.specs.declared.slots.Slot.{Slot}
use Rattle.schema.specs.FirstFlaws.{Not}
use Rattle.schema.proofs.FirstFlaws.{first_of}
use Rattle.base.proofs.Bound.{same_ok}
use Rattle.schema.specs.declared.code.Code.{Code}
use Rattle.dir_conf.specs.declared.conf_fault.ConfFaultKind.{ConfFaultKind}
use Rattle.dir_conf.specs.declared.reason.ConfFlaw.{ConfFlaw}
use Rattle.dir_conf.specs.declared.reason.ConfFlaw.TheVariants as flaws
use Rattle.dir_conf.specs.Configurations.{At, says_nothing, is_first, is_built_in, superior_of, unless, placed, Defined, class_placed, with_types, definition_line, some_rdns, suffix_text, Found, with_suffix, with_slots, later_line}
use Rattle.dir_conf.specs.IndexLines.{words, slots_in}
use Rattle.dir_conf.specs.FaultyLines.{class_order, has_suffix}
use Rattle.dir_conf.specs.Flaws.{kind_of, IsFlawOfType, IsFlawOfClass, IsDefinitionFlaw, IsLaterFlaw}
use Rattle.dir_conf.specs.inner.FoundFlaws.{TellsType, TellsClass, Either, TellsDefinition, TellsName, TellsSuffix, TellsLater, type_flaw, class_flaw, listed, index_flaw}
use Rattle.dir_conf.proofs.TypeFlaws.{TypesRead, placed_is, done}
use Rattle.dir_conf.proofs.ClassFlaws.{ClassesRead, class_test, flaw_told}
use Rattle.dir_conf.proofs.FlawsTold.{Told, is_told}
use Rattle.dir_conf.proofs.IndexFlaws.{slots_told, all_tests}
use Rattle.dir_conf.proofs.TypeReasons.{same_flaw, type_kind, type_means}
use Rattle.dir_conf.proofs.ClassReasons.{class_kind, class_means}
use Rattle.dir_conf.proofs.IndexReasons.{index_kind, index_means}
use Rattle.dir_conf.proofs.DefinitionFaults as faults
use Rattle.dir_conf.proofs.LaterFaults as later
use Rattle.dir_conf.proofs.LaterFaults.{Rdns, IsNone, Later, name_fails}

abbrev some_flaw : ConfFlaw → Option ConfFlaw
some_flaw f = Some f

abbrev none_found : Option ConfFlaw
none_found = None

-- the kind of a flaw that was found
kind_told : (o : Option ConfFlaw) (flaw : ConfFlaw) → o ≡ Some flaw → option_map kind_of o ≡ Some (kind_of flaw)
kind_told o flaw e = ap (λ (f : Option ConfFlaw). option_map kind_of f) e

-- ---- a definition of a type

abbrev unless_new : Bool → Option ConfFlaw → Option ConfFlaw
unless_new built found = cond built None found

abbrev types_failed : ℕ → ConfFaultKind → Result (List AttributeType) At
types_failed line kind = Err (line, kind)

module _ (read : TypesRead) (types : List AttributeType) (line : ℕ) (text : List ℕ) (flaw : ConfFlaw) where
  abbrev OfType : Option TypeDefinition → Type 0
  OfType o = (placed types line o ≡ Err (line, kind_of flaw)) × IsFlawOfType types text flaw

  refused : (d : TypeDefinition) → is_built_in d.element.oid ≡ false → type_flaw types d ≡ Some flaw → placed types line (Some d) ≡ Err (line, kind_of flaw)
  refused d new e =
      placed_is types d line new
      ∙ ap (λ (o : Option ConfFaultKind). unless line o (Ok (done types d (superior_of types d.superior)))) (sym (type_kind types d) ∙ kind_told (type_flaw types d) flaw e)

  type_of_text : TellsType types (type_definition_of text) (Some flaw) → OfType (type_definition_of text)
  unfolding placed
  type_of_text h = by (type_definition_of text) refl h
    where
      new_one : (d : TypeDefinition) → type_definition_of text ≡ Some d → (b : Bool) → is_built_in d.element.oid ≡ b → Some flaw ≡ unless_new b (type_flaw types d) → OfType (Some d)
      new_one d is true built said = absurd cc
      new_one d is false built said = (refused d built (sym said), inr (d, read.0 text d is, type_means types d flaw (sym said)))

      none_spelled : type_definition_of text ≡ None → (d : TypeDefinition) → Not (SpellsType text d)
      none_spelled is d spelled = absurd (let both = sym is ∙ read.1 text d spelled in cc)

      by : (o : Option TypeDefinition) → type_definition_of text ≡ o → TellsType types o (Some flaw) → OfType o
      by None is h = let same = same_flaw flaw _ h.2 in (ap (λ (f : ConfFlaw). types_failed line (kind_of f)) (sym same), inl ((h.0, h.1, same), none_spelled is))
      by (Some d) is h = new_one d is (is_built_in d.element.oid) refl h

-- ---- a definition of a class

abbrev class_failed : ℕ → ConfFaultKind → Result Defined At
class_failed line kind = Err (line, kind)

module _ (read : ClassesRead) (s : Defined) (line : ℕ) (text : List ℕ) (flaw : ConfFlaw) where
  abbrev OfClass : Option ClassDefinition → Type 0
  OfClass o = (class_placed s line o ≡ Err (line, kind_of flaw)) × IsFlawOfClass s text flaw

  class_of_text : TellsClass s (class_definition_of text) (Some flaw) → OfClass (class_definition_of text)
  unfolding class_placed
  class_of_text h = by (class_definition_of text) refl h
    where
      new_one : (d : ClassDefinition) → class_definition_of text ≡ Some d → (b : Bool) → is_built_in d.element.oid ≡ b → Some flaw ≡ unless_new b (class_flaw s d) → OfClass (Some d)
      new_one d is true built said = absurd cc
      new_one d is false built said = (
        is_told line (first_of (class_test s d) class_order) (class_placed s line (Some d)) (kind_of flaw) (flaw_told s d line built) (sym (class_kind s d) ∙ kind_told (class_flaw s d) flaw (sym said)),
        inr (d, read.0 text d is, class_means s d flaw (sym said)),
      )

      none_spelled : class_definition_of text ≡ None → (d : ClassDefinition) → Not (SpellsClass text d)
      none_spelled is d spelled = absurd (let both = sym is ∙ read.1 text d spelled in cc)

      by : (o : Option ClassDefinition) → class_definition_of text ≡ o → TellsClass s o (Some flaw) → OfClass o
      by None is h = let same = same_flaw flaw _ h.2 in (ap (λ (f : ConfFlaw). class_failed line (kind_of f)) (sym same), inl ((h.0, h.1, same), none_spelled is))
      by (Some d) is h = new_one d is (is_built_in d.element.oid) refl h

-- ---- a line of the first pass

module _ (types_read : TypesRead) (classes_read : ClassesRead) (s : Defined) (l : Line) (flaw : ConfFlaw) where
  abbrev tells_by : Bool → Bool → Bool → Bool → Bool → Bool → Type 0
  tells_by nothing blank suffix index ty class =
      Either nothing (some_flaw flaw ≡ None)
      (Either blank (some_flaw flaw ≡ Some flaws.Indented)
      (Either (suffix || index) (some_flaw flaw ≡ None)
      (Either ty (TellsType s.types (type_definition_of (after_word l.text)) (Some flaw))
      (Either class (TellsClass s (class_definition_of (after_word l.text)) (Some flaw)) (some_flaw flaw ≡ Some (flaws.Keyword (first_word l.text)))))))

  abbrev line_by : Bool → Bool → Bool → Bool → Bool → Bool → Result Defined At
  line_by = faults.line_by types_read classes_read s l

  abbrev Refused : Type 0
  Refused = (definition_line s l ≡ Err (l.number, kind_of flaw)) × IsDefinitionFlaw s l.text flaw

  pub line_of_text : TellsDefinition s l.text (Some flaw) → Refused
  unfolding TellsDefinition
  line_of_text h =
      by (says_nothing l.text) refl (begins_blank l.text) refl (is_first (codes "suffix") l.text) refl (is_first (codes "index") l.text) refl (is_first (codes "attributetype") l.text) refl (is_first (codes "objectclass") l.text) refl h
    where
      by : (nothing : Bool) → says_nothing l.text ≡ nothing → (blank : Bool) → begins_blank l.text ≡ blank → (suffix : Bool) → is_first (codes "suffix") l.text ≡ suffix → (index : Bool) → is_first (codes "index") l.text ≡ index
          → (ty : Bool) → is_first (codes "attributetype") l.text ≡ ty → (class : Bool) → is_first (codes "objectclass") l.text ≡ class → tells_by nothing blank suffix index ty class → Refused
      by true n blank b suffix u index i ty t class c h = absurd cc
      by false n true b suffix u index i ty t class c h =
          let same = same_flaw flaw _ h in (
            faults.line_is types_read classes_read s l
                ∙ (λ j. line_by (n j) (b j) (is_first (codes "suffix") l.text) (is_first (codes "index") l.text) (is_first (codes "attributetype") l.text) (is_first (codes "objectclass") l.text))
                ∙ ap (λ (f : ConfFlaw). class_failed l.number (kind_of f)) (sym same),
            inr (inl (same, b)),
          )
      by false n false b true u index i ty t class c h = absurd cc
      by false n false b false u true i ty t class c h = absurd cc
      by false n false b false u false i true t class c h =
          let told = type_of_text types_read s.types l.number (after_word l.text) flaw h in (
            faults.line_is types_read classes_read s l
                ∙ (λ j. line_by (n j) (b j) (u j) (i j) (t j) (is_first (codes "objectclass") l.text))
                ∙ ap (with_types s) told.0,
            inr (inr (inl (t, told.1))),
          )
      by false n false b false u false i false t true c h =
          let told = class_of_text classes_read s l.number (after_word l.text) flaw h in
          (faults.line_is types_read classes_read s l ∙ (λ j. line_by (n j) (b j) (u j) (i j) (t j) (c j)) ∙ told.0, inr (inr (inr (c, told.1))))
      by false n false b false u false i false t false c h =
          let same = same_flaw flaw _ h in (
            faults.line_is types_read classes_read s l ∙ (λ j. line_by (n j) (b j) (u j) (i j) (t j) (c j)) ∙ ap (λ (f : ConfFlaw). class_failed l.number (kind_of f)) (sym same),
            inl same,
          )

-- ---- an index line

module _ (types : List AttributeType) (line : ℕ) (text : List ℕ) where
  index_refused : (flaw : ConfFlaw) → index_flaw types text ≡ Some flaw → slots_in types line text ≡ Err (line, kind_of flaw)
  index_refused flaw e = is_told line (all_tests types line (listed (words text))) (slots_in types line text) (kind_of flaw) (slots_told types line text) (sym (index_kind types text) ∙ kind_told (index_flaw types text) flaw e)

  index_fine : index_flaw types text ≡ None → (slots : List Slot) × (slots_in types line text ≡ Ok slots)
  index_fine e = by (slots_told types line text)
    where
      by : Told line (all_tests types line (listed (words text))) (slots_in types line text) → (slots : List Slot) × (slots_in types line text ≡ Ok slots)
      by (inl (none, fine)) = fine
      by (inr (kind, is, failed)) = absurd (let both = ap (λ (f : Option ConfFlaw). option_map kind_of f) (sym e) ∙ index_kind types text ∙ is in cc)

-- ---- a suffix

module _ (line : ℕ) where
  no_rdns : (xs : List TypedRdn) → xs ≡ [] → IsNone (Ok xs)
  no_rdns xs none x more h = absurd (let same = sym none ∙ same_ok {F = Code} xs (x ∷ more) h in cc)

  bad_name : (r : Rdns) (flaw : ConfFlaw) → TellsName r (Some flaw) → ((part : List ℕ) × (flaw ≡ flaws.BadSuffix part)) × IsNone r
  bad_name (Ok []) flaw h = ((h.0, same_flaw flaw _ h.1), no_rdns [] refl)
  bad_name (Ok (x ∷ xs)) flaw h = absurd cc
  bad_name (Err code) flaw h = ((h.0, same_flaw flaw _ h.1), λ x xs e. absurd cc)

  good_name : (r : Rdns) → TellsName r None → (o : Option (List TypedRdn)) × (some_rdns line r ≡ Ok o)
  good_name (Ok []) h = absurd (let e = h.1 in cc)
  good_name (Ok (x ∷ xs)) h = (Some (x ∷ xs), refl)
  good_name (Err code) h = absurd (let e = h.1 in cc)

-- ---- a line of the second pass

abbrev later_failed : ℕ → ConfFaultKind → Later
later_failed line kind = Err (line, kind)

module _ (types : List AttributeType) (f : Found) (l : Line) (there : Bool) (sees : is_some f.suffix ≡ there) where
  abbrev later_by : Bool → Bool → Bool → Bool → Later
  later_by = later.later_by types f l

  abbrev tells_later_by : Bool → Bool → Bool → Option ConfFlaw → Type 0
  tells_later_by nothing index suffix found =
      Either nothing (found ≡ None)
      (Either index (found ≡ index_flaw types (after_word l.text))
      (Either suffix (TellsSuffix types there l.text found) (found ≡ None)))

  abbrev suffix_by : Bool → Option ConfFlaw → Type 0
  suffix_by b found = Either b (found ≡ Some flaws.SecondSuffix) (TellsName (rdns_in types (suffix_text l.text)) found)

  pub later_fine : TellsLater types there l.text None → (g : Found) × (later_line types f l ≡ Ok g)
  unfolding TellsLater
  later_fine h = by (says_nothing l.text) refl (is_first (codes "index") l.text) refl (is_first (codes "suffix") l.text) refl there refl h
    where
      by : (nothing : Bool) → says_nothing l.text ≡ nothing → (index : Bool) → is_first (codes "index") l.text ≡ index → (suffix : Bool) → is_first (codes "suffix") l.text ≡ suffix → (b : Bool) → there ≡ b
          → Either nothing (none_found ≡ None) (Either index (none_found ≡ index_flaw types (after_word l.text)) (Either suffix (suffix_by b None) (none_found ≡ None))) → (g : Found) × (later_line types f l ≡ Ok g)
      by true n index i suffix s b eb h = (f, later.later_is types f l ∙ (λ j. later_by (n j) (is_first (codes "index") l.text) (is_first (codes "suffix") l.text) (is_some f.suffix)))
      by false n true i suffix s b eb h =
          let fine = index_fine types l.number (after_word l.text) (sym h) in (
            record f { slots = f.slots ++ fine.0 },
            later.later_is types f l ∙ (λ j. later_by (n j) (i j) (is_first (codes "suffix") l.text) (is_some f.suffix)) ∙ ap (with_slots f) fine.1,
          )
      by false n false i true s true eb h = absurd cc
      by false n false i true s false eb h =
          let fine = good_name l.number (rdns_in types (suffix_text l.text)) h in (
            record f { suffix = fine.0 },
            later.later_is types f l ∙ (λ j. later_by (n j) (i j) (s j) ((sees ∙ eb) j)) ∙ ap (with_suffix f) fine.1,
          )
      by false n false i false s b eb h = (f, later.later_is types f l ∙ (λ j. later_by (n j) (i j) (s j) (is_some f.suffix)))

  module _ (above : List Line) (above_is : has_suffix above ≡ there) (flaw : ConfFlaw) where
    abbrev LaterRefused : Type 0
    LaterRefused = (later_line types f l ≡ Err (l.number, kind_of flaw)) × IsLaterFlaw types above l.text flaw

    pub later_of_text : TellsLater types there l.text (Some flaw) → LaterRefused
    unfolding TellsLater
    later_of_text h = by (says_nothing l.text) refl (is_first (codes "index") l.text) refl (is_first (codes "suffix") l.text) refl there refl h
      where
        by : (nothing : Bool) → says_nothing l.text ≡ nothing → (index : Bool) → is_first (codes "index") l.text ≡ index → (suffix : Bool) → is_first (codes "suffix") l.text ≡ suffix → (b : Bool) → there ≡ b
            → Either nothing (some_flaw flaw ≡ None) (Either index (some_flaw flaw ≡ index_flaw types (after_word l.text)) (Either suffix (suffix_by b (Some flaw)) (some_flaw flaw ≡ None))) → LaterRefused
        by true n index i suffix s b eb h = absurd cc
        by false n true i suffix s b eb h = (
          later.later_is types f l
              ∙ (λ j. later_by (n j) (i j) (is_first (codes "suffix") l.text) (is_some f.suffix))
              ∙ ap (with_slots f) (index_refused types l.number (after_word l.text) flaw (sym h)),
          inr (inr (i, index_means types (after_word l.text) flaw (sym h))),
        )
        by false n false i true s true eb h =
            let same = same_flaw flaw _ h in (
              later.later_is types f l ∙ (λ j. later_by (n j) (i j) (s j) ((sees ∙ eb) j)) ∙ ap (λ (g : ConfFlaw). later_failed l.number (kind_of g)) (sym same),
              inl (s, same, above_is ∙ eb),
            )
        by false n false i true s false eb h =
            let bad = bad_name l.number (rdns_in types (suffix_text l.text)) flaw h in (
              later.later_is types f l
                  ∙ (λ j. later_by (n j) (i j) (s j) ((sees ∙ eb) j))
                  ∙ ap (with_suffix f) (name_fails l.number (rdns_in types (suffix_text l.text)) bad.1)
                  ∙ ap (λ (g : ConfFlaw). later_failed l.number (kind_of g)) (sym bad.0.1),
              inr (inl (s, bad.0, bad.1)),
            )
        by false n false i false s b eb h = absurd cc
