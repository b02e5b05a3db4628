-- A line of a definition fails exactly for its fault.
use Rattle.std.proofs.Common.{◌≡◌, ℕ, Bool, true, false, cond, ◌||◌, List, Result, Ok, Err, inl, inr, codes, refl, sym, ap, ◌∙◌}
use Rattle.std.proofs.lemmas.Bool.{or_parts}
use Rattle.definitions.specs.declared.lines.Line.{Line}
use Rattle.definitions.specs.Words.{after_word}
use Rattle.definitions.specs.Lines.{begins_blank}
use Rattle.definitions.specs.TypeDefinitions.{type_definition_of}
use Rattle.definitions.specs.ClassDefinitions.{class_definition_of}
use Rattle.values.specs.declared.types.AttributeType.{AttributeType}
use Rattle.dir_conf.specs.declared.conf_fault.ConfFaultKind.{ConfFaultKind}
use Rattle.dir_conf.specs.declared.conf_fault.ConfFaultKind.TheVariants.{Keyword, Form}
use Rattle.dir_conf.specs.Configurations.{At, says_nothing, is_first, placed, Defined, class_placed, with_types, definition_line}
use Rattle.dir_conf.specs.FaultyLines.{IsDefinitionFault}
use Rattle.dir_conf.proofs.FirstStops.{same_err}
use Rattle.dir_conf.proofs.LineWords.{type_word, class_word, no_other, says_some, blank_says_some}
use Rattle.dir_conf.proofs.TypeFlaws.{TypesRead, type_faulty, type_fails}
use Rattle.dir_conf.proofs.ClassFlaws.{ClassesRead, class_faulty, class_fails}

abbrev pub Outcome : Type 0
Outcome = Result Defined At

abbrev types_failed : At → Result (List AttributeType) At
types_failed e = Err e

with_types-err : (s : Defined) (r : Result (List AttributeType) At) (e : At) → with_types s r ≡ Err e → r ≡ Err e
with_types-err s (Ok types) e h = absurd cc
with_types-err s (Err f) e h = ap types_failed (same_err {A = Defined} f e h)

module _ (types_read : TypesRead) (classes_read : ClassesRead) (s : Defined) (l : Line) where
  abbrev pub of_type : Outcome
  of_type = with_types s (placed s.types l.number (type_definition_of (after_word l.text)))

  abbrev pub of_class : Outcome
  of_class = class_placed s l.number (class_definition_of (after_word l.text))

  abbrev pub failed : ConfFaultKind → Outcome
  failed kind = Err (l.number, kind)

  -- by what the line begins with
  abbrev pub line_by : Bool → Bool → Bool → Bool → Bool → Bool → Outcome
  line_by nothing blank suffix index ty class =
      cond nothing (Ok s) (cond blank (failed Form) (cond (suffix || index) (Ok s) (cond ty of_type (cond class of_class (failed Keyword)))))

  pub line_is : definition_line s l ≡ line_by (says_nothing l.text) (begins_blank l.text) (is_first (codes "suffix") l.text) (is_first (codes "index") l.text) (is_first (codes "attributetype") l.text) (is_first (codes "objectclass") l.text)
  unfolding definition_line
  line_is = refl

  no_fault : (at : ℕ) (kind : ConfFaultKind) → ◌≡◌ {A = Outcome} (Ok s) (Err (at, kind)) → (at ≡ l.number) × IsDefinitionFault s l.text kind
  no_fault at kind e = absurd cc

  this_kind : (j : ConfFaultKind) (at : ℕ) (kind : ConfFaultKind) → failed j ≡ Err (at, kind) → (at ≡ l.number) × (kind ≡ j)
  this_kind j at kind e = let same = same_err {A = Defined} (l.number, j) (at, kind) e in (sym (ap (λ (p : At). p.0) same), sym (ap (λ (p : At). p.1) same))

  pub line_faulty : (at : ℕ) (kind : ConfFaultKind) → definition_line s l ≡ Err (at, kind) → (at ≡ l.number) × IsDefinitionFault s l.text kind
  line_faulty at kind e =
      by (says_nothing l.text) refl (begins_blank l.text) refl (is_first (codes "suffix") l.text) refl (is_first (codes "index") l.text) refl (is_first (codes "attributetype") l.text) refl (is_first (codes "objectclass") l.text) refl (sym line_is ∙ e)
    where
      by : (nothing : Bool) → says_nothing l.text ≡ nothing → (blank : Bool) → begins_blank l.text ≡ blank → (suffix : Bool) → is_first (codes "suffix") l.text ≡ suffix → (index : Bool) → is_first (codes "index") l.text ≡ index
          → (ty : Bool) → is_first (codes "attributetype") l.text ≡ ty → (class : Bool) → is_first (codes "objectclass") l.text ≡ class
          → line_by nothing blank suffix index ty class ≡ Err (at, kind) → (at ≡ l.number) × IsDefinitionFault s l.text kind
      by true n b bb u su i ix t ty c cl said = no_fault at kind said
      by false n true bb u su i ix t ty c cl said = let k = this_kind Form at kind said in (k.0, inr (inl (k.1, bb)))
      by false n false bb true su i ix t ty c cl said = no_fault at kind said
      by false n false bb false su true ix t ty c cl said = no_fault at kind said
      by false n false bb false su false ix true ty c cl said =
          let k = type_faulty types_read s.types l.number (after_word l.text) at kind (with_types-err s (placed s.types l.number (type_definition_of (after_word l.text))) (at, kind) said) in
          (k.0, inr (inr (inl (ty, k.1))))
      by false n false bb false su false ix false ty true cl said =
          let k = class_faulty classes_read s l.number (after_word l.text) at kind said in
          (k.0, inr (inr (inr (cl, k.1))))
      by false n false bb false su false ix false ty false cl said =
          let k = this_kind Keyword at kind said in (
            k.0,
            inl (
              k.1,
              record {
                some = n;
                no_blank = bb;
                no_keyword = λ j. ty j || (cl j || (su j || (ix j || false)));
              },
            ),
          )

  pub line_fails : (kind : ConfFaultKind) → IsDefinitionFault s l.text kind → definition_line s l ≡ Err (l.number, kind)
  line_fails kind (inl (is, stray)) =
      let ty = or_parts (is_first (codes "attributetype") l.text) _ stray.no_keyword in
      let class = or_parts (is_first (codes "objectclass") l.text) _ ty.1 in
      let suffix = or_parts (is_first (codes "suffix") l.text) _ class.1 in
      let index = or_parts (is_first (codes "index") l.text) _ suffix.1 in
      line_is ∙ (λ j. line_by (stray.some j) (stray.no_blank j) (suffix.0 j) (index.0 j) (ty.0 j) (class.0 j)) ∙ ap failed (sym is)
  line_fails kind (inr (inl (is, blank))) =
      line_is
      ∙ (λ j. line_by (blank_says_some l.text blank j) (blank j) (is_first (codes "suffix") l.text) (is_first (codes "index") l.text) (is_first (codes "attributetype") l.text) (is_first (codes "objectclass") l.text))
      ∙ ap failed (sym is)
  line_fails kind (inr (inr (inl (ty, fault)))) =
      let some = says_some (codes "attributetype") type_word l.text ty in
      line_is
      ∙ (λ j. line_by (some.0 j) (some.1 j) (no_other (codes "attributetype") (codes "suffix") l.text refl ty j) (no_other (codes "attributetype") (codes "index") l.text refl ty j) (ty j) (is_first (codes "objectclass") l.text))
      ∙ ap (with_types s) (type_fails types_read s.types l.number (after_word l.text) kind fault)
  line_fails kind (inr (inr (inr (class, fault)))) =
      let some = says_some (codes "objectclass") class_word l.text class in
      line_is
      ∙ (λ j. line_by (some.0 j) (some.1 j) (no_other (codes "objectclass") (codes "suffix") l.text refl class j) (no_other (codes "objectclass") (codes "index") l.text refl class j) (no_other (codes "objectclass") (codes "attributetype") l.text refl class j) (class j))
      ∙ class_fails classes_read s l.number (after_word l.text) kind fault
