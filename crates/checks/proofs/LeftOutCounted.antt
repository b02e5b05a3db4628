-- Each fault that is left out counts with the line of one that is reported.
use Rattle.std.proofs.Common.{◌≡◌, ◌∙◌, ℕ, Bool, true, false, cond, List, [], ◌∷◌, ◌++◌, Option, Some, None, sym, ap, subst, refl}
use Rattle.std.specs.Prelude.{option_and_then, unwrap_or, codes}
use Rattle.std.specs.List.{AllByRecursion, find}
use Rattle.std.specs.Option.{option_map, option_map_or}
use Rattle.std.proofs.lemmas.List.{append-nil, append_assoc}
use Rattle.paths.proofs.Unpacked.{all_append}
use Rattle.definitions.specs.declared.lines.Line.{Line}
use Rattle.definitions.specs.Lines.{lines_of}
use Rattle.definitions.specs.Words.{after_word}
use Rattle.dir_conf.specs.declared.reason.ConfReason.{ConfReason}
use Rattle.dir_conf.specs.declared.reason.ConfFlaw.{ConfFlaw}
use Rattle.dir_conf.specs.declared.reason.ConfFlaw.TheVariants as flaws
use Rattle.dir_conf.specs.declared.reason.NameField.{NameField}
use Rattle.dir_conf.specs.declared.reason.NameField.TheVariants as fields
use Rattle.dir_conf.specs.Configurations.{is_first}
use Rattle.checks.specs.declared.conf_faults.FoundFault.{FoundFault}
use Rattle.checks.specs.declared.lost_names.LostName.{LostName}
use Rattle.checks.specs.LostNames.{lost_at, lost_types, lost_classes, line_at, type_words, class_words, is_of_class}
use Rattle.checks.specs.LeftOut.{counting_line, types_lost_by, classes_lost_by, types_lost, classes_lost, names_for, line_counting, is_unknown_name, CountsAs, text_behind, CountsBehind, EachCounts, IsReportedAt, EachIsCounted}

-- ---- lists

all_mapped : {A : Type 0} (P Q : A → Type 0) → ((x : A) → P x → Q x) → (xs : List A) → AllByRecursion P xs → AllByRecursion Q xs
all_mapped P Q to [] all = tt
all_mapped P Q to (x ∷ xs) all = (to x all.0, all_mapped P Q to xs all.1)

-- ---- names that are lost

module _ (P : ℕ → Type 0) where
  -- each of these names counts at such a line
  abbrev AllAt : List LostName → Type 0
  AllAt names = AllByRecursion (λ n. P n.line) names

  words_at : (at : ℕ) (words : List (List ℕ)) → P at → AllAt (lost_at at words)
  words_at at [] is = tt
  words_at at (w ∷ ws) is = (is, words_at at ws is)

  words_if : (b : Bool) (at : ℕ) (words : List (List ℕ)) → P at → AllAt (cond b (lost_at at words) [])
  words_if true at words is = words_at at words is
  words_if false at words is = tt

  types_of_line : (at : ℕ) (l : Option Line) → P at → AllAt (option_map_or (lost_types at) l [])
  types_of_line at None is = tt
  types_of_line at (Some l) is = words_if (is_first (codes "attributetype") l.text) at (type_words (after_word l.text)) is

  classes_of_line : (at : ℕ) (l : Option Line) → P at → AllAt (option_map_or (lost_classes at) l [])
  classes_of_line at None is = tt
  classes_of_line at (Some l) is = words_if (is_first (codes "objectclass") l.text) at (class_words (after_word l.text)) is

  types_at : (lines : List Line) (found : List FoundFault) → AllByRecursion (λ f. P (counting_line f)) found → AllAt (types_lost lines found)
  types_at lines [] all = tt
  types_at lines (f ∷ fs) all =
      all_append (λ n. P n.line) (types_lost_by lines f) (types_lost lines fs) (types_of_line (counting_line f) (line_at lines f.fault.line) all.0) (types_at lines fs all.1)

  classes_at : (lines : List Line) (found : List FoundFault) → AllByRecursion (λ f. P (counting_line f)) found → AllAt (classes_lost lines found)
  classes_at lines [] all = tt
  classes_at lines (f ∷ fs) all =
      all_append (λ n. P n.line) (classes_lost_by lines f) (classes_lost lines fs) (classes_of_line (counting_line f) (line_at lines f.fault.line) all.0) (classes_at lines fs all.1)

  -- the line of one, or of the first of others that is looked for
  abbrev line_if : (LostName → Bool) → LostName → List LostName → Bool → Option ℕ
  line_if test n ns b = option_map (λ (m : LostName). m.line) (cond b (Some n) (find test ns))

  -- so does the one that is looked for
  here : {a b : ℕ} → Some a ≡ Some b → a ≡ b
  here same = cc

  found_at : (test : LostName → Bool) (names : List LostName) (line : ℕ) → AllAt names → option_map (λ n. n.line) (find test names) ≡ Some line → P line
  found_at test [] line all is = absurd cc
  found_at test (n ∷ ns) line all is = go (test n) refl (λ more. found_at test ns line all.1 more)
    where
      go : (b : Bool) → test n ≡ b → (option_map (λ (m : LostName). m.line) (find test ns) ≡ Some line → P line) → P line
      go true passes more = subst P (here (sym (ap (line_if test n ns) passes) ∙ is)) all.0
      go false fails more = more (sym (ap (line_if test n ns) fails) ∙ is)

  names_at : (of_class : Bool) (field : NameField) (types classes : List LostName) → AllAt types → AllAt classes → AllAt (names_for of_class field types classes)
  names_at true fields.Superior types classes of_types of_classes = of_classes
  names_at false fields.Superior types classes of_types of_classes = of_types
  names_at of_class fields.Must types classes of_types of_classes = of_types
  names_at of_class fields.May types classes of_types of_classes = of_types

  counts_at : (of_class : Bool) (flaw : ConfFlaw) (types classes : List LostName) (line : ℕ) → AllAt types → AllAt classes → line_counting of_class flaw types classes ≡ Some line → P line
  counts_at of_class (flaws.UnknownName of field word) types classes line of_types of_classes is =
      found_at _ (names_for of_class field types classes) line (names_at of_class field types classes of_types of_classes) is
  counts_at of_class (flaws.UnknownIndexed word) types classes line of_types of_classes is = found_at _ types line of_types is
  counts_at of_class (flaws.Keyword word) types classes line of_types of_classes is = absurd cc
  counts_at of_class flaws.Indented types classes line of_types of_classes is = absurd cc
  counts_at of_class (flaws.Unread of part) types classes line of_types of_classes is = absurd cc
  counts_at of_class flaws.Lists types classes line of_types of_classes is = absurd cc
  counts_at of_class (flaws.Twice of word) types classes line of_types of_classes is = absurd cc
  counts_at of_class (flaws.Subtype of superior) types classes line of_types of_classes is = absurd cc
  counts_at of_class (flaws.RuleSyntax of rule stated_rule stated_syntax) types classes line of_types of_classes is = absurd cc
  counts_at of_class flaws.NoSuffix types classes line of_types of_classes is = absurd cc
  counts_at of_class flaws.SecondSuffix types classes line of_types of_classes is = absurd cc
  counts_at of_class (flaws.BadSuffix part) types classes line of_types of_classes is = absurd cc
  counts_at of_class (flaws.UnknownKind word) types classes line of_types of_classes is = absurd cc
  counts_at of_class (flaws.NoRule word kind) types classes line of_types of_classes is = absurd cc
  counts_at of_class (flaws.Collective of) types classes line of_types of_classes is = absurd cc
  counts_at of_class (flaws.TooManyTypes of) types classes line of_types of_classes is = absurd cc

  explained_at : (of_class : Bool) (why : Option ConfReason) (types classes : List LostName) (line : ℕ) → AllAt types → AllAt classes
      → option_and_then (λ (r : ConfReason). line_counting of_class r.flaw types classes) why ≡ Some line → P line
  explained_at of_class None types classes line of_types of_classes is = absurd cc
  explained_at of_class (Some r) types classes line of_types of_classes is = counts_at of_class r.flaw types classes line of_types of_classes is

  counted_at : (b : Bool) (left : List ℕ) (of_class : Bool) (types classes : List LostName) (with_line : Option ℕ) (line : ℕ) → AllAt types → AllAt classes
      → CountsAs b left of_class types classes with_line → with_line ≡ Some line → P line
  counted_at false left of_class types classes with_line line of_types of_classes none is = absurd cc
  counted_at true left of_class types classes with_line line of_types of_classes explained is = explained_at of_class explained.why types classes line of_types of_classes (sym explained.counted ∙ is)

-- ---- one fault behind others

-- what is reported stays so
still_reported : (found : List FoundFault) (f : FoundFault) (line : ℕ) → IsReportedAt found line → IsReportedAt (found ++ f ∷ []) line
still_reported found f line is = record {
  above = is.above;
  reported = is.reported;
  after = is.after ++ f ∷ [];
  is = ap (λ (fs : List FoundFault). fs ++ f ∷ []) is.is ∙ append_assoc is.above (is.reported ∷ is.after) (f ∷ []);
  line_is = is.line_is;
  not_left_out = is.not_left_out;
}

one_more : (text : List ℕ) (above : List FoundFault) (f : FoundFault) → AllByRecursion (λ g. IsReportedAt above (counting_line g)) above → CountsBehind text above f
    → IsReportedAt (above ++ f ∷ []) (counting_line f)
one_more text above f all counts = go f.counted_with refl
  where
    go : (with_line : Option ℕ) → f.counted_with ≡ with_line → IsReportedAt (above ++ f ∷ []) (counting_line f)
    go None is = record { above = above; reported = f; after = []; is = refl; line_is = sym (ap (λ (o : Option ℕ). unwrap_or o f.fault.line) is); not_left_out = is }
    go (Some line) is =
        let lines = lines_of text in
        let told : IsReportedAt above line = counted_at (IsReportedAt above) (is_unknown_name f.fault.kind) (text_behind text above) (is_of_class lines f.fault.line) (types_lost lines above) (classes_lost lines above)
        f.counted_with line (types_at (IsReportedAt above) lines above all) (classes_at (IsReportedAt above) lines above all) counts is in
        still_reported above f (counting_line f) (subst (IsReportedAt above) (sym (ap (λ (o : Option ℕ). unwrap_or o f.fault.line) is)) told)

-- from fault to fault
all_counted : (text : List ℕ) (found : List FoundFault) → EachCounts text found → (above rest : List FoundFault) → found ≡ above ++ rest
    → AllByRecursion (λ g. IsReportedAt above (counting_line g)) above → EachIsCounted found
all_counted text found count above [] is all = subst EachIsCounted (sym (is ∙ append-nil above)) all
all_counted text found count above (f ∷ rest) is all =
    let longer = above ++ f ∷ [] in
    all_counted text found count longer rest (is ∙ sym (append_assoc above (f ∷ []) rest))
    (all_append (λ g. IsReportedAt longer (counting_line g)) above (f ∷ [])
    (all_mapped (λ g. IsReportedAt above (counting_line g)) (λ g. IsReportedAt longer (counting_line g)) (λ g told. still_reported above f (counting_line g) told) above all)
    (one_more text above f all (count.each above f rest is), tt))

pub each_is_counted : (text : List ℕ) (found : List FoundFault) → EachCounts text found → EachIsCounted found
each_is_counted text found count = all_counted text found count [] found refl tt
