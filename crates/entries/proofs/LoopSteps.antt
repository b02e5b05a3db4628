-- Steps of loops over what is read, taken out or looked for one by one.
use Rattle.std.proofs.Common.{◌≡◌, ℕ, ◌+◌, ◌<◌, ◌≤◌, Bool, true, false, ◌&&◌, ◌||◌, List, [], ◌∷◌, ◌++◌, length, get_or, drop, Option, Some, None, Result, Ok, append_assoc, sym, ap, subst, ◌∙◌}
use Rattle.std.proofs.lemmas.List.{drop_more, drop_all}
use Rattle.std.specs.Prelude.{is_some}
use Rattle.std.specs.List.{list_all, list_any, cons_option, AllByRecursion}
use Rattle.base.specs.Answers.{◌>>=◌, Fails}
use Rattle.base.proofs.Each.{passed_on}
use Rattle.ldif.specs.Attrs.{Attr}
use Rattle.ldif.specs.declared.record.Mode.{Mode}
use Rattle.values.specs.declared.types.AttributeType.{AttributeType}
use Rattle.schema.specs.declared.code.Code.{Code}
use Rattle.values.specs.Values.{Value}
use Rattle.schema.specs.declared.object_class.ObjectClass.{ObjectClass}
use Rattle.schema.specs.Classes.{class_of}
use Rattle.entries.specs.EntryClasses.{are_classes, named_classes}
use Rattle.entries.specs.StoredEntries.{EntryAttribute, attributes_of, raws, IsMadeAttribute}
use Rattle.schema.specs.Rdns.{Ava, TypedRdn}
use Rattle.entries.specs.Entries.{Attributes, add_line, add_lines}
use Rattle.entries.specs.Modifies.{without_old_ava, without_rdn}

-- ---- lines

module _ (mode : Mode) (types : List AttributeType) (ls : List Attr) (i : ℕ) where
  module _ (d : Attr) (attrs : Attributes) (total : Result Attributes Code) (lt : i < length ls) (so_far : add_lines mode types attrs (drop i ls) ≡ total) where
    cut : (add_line mode types attrs (get_or ls i d) >>= λ more. add_lines mode types more (drop (i + 1) ls)) ≡ total
    unfolding add_lines
    cut = sym (ap (add_lines mode types attrs) (drop_more ls i d lt)) ∙ so_far

    pub line_added : (next : Attributes) → add_line mode types attrs (get_or ls i d) ≡ Ok next → add_lines mode types next (drop (i + 1) ls) ≡ total
    line_added next e = sym (ap (λ (r : Result Attributes Code). r >>= λ more. add_lines mode types more (drop (i + 1) ls)) e) ∙ cut

    pub line_refused : (e : Option Code) → Fails e (add_line mode types attrs (get_or ls i d)) → Fails e total
    line_refused e h = passed_on e (add_line mode types attrs (get_or ls i d)) total (λ fault is. sym cut ∙ ap (λ (r : Result Attributes Code). r >>= λ more. add_lines mode types more (drop (i + 1) ls)) is) h

  pub lines_added : (attrs : Attributes) (total : Result Attributes Code) → length ls ≤ i → add_lines mode types attrs (drop i ls) ≡ total → total ≡ Ok attrs
  unfolding add_lines
  lines_added attrs total le so_far = sym so_far ∙ ap (add_lines mode types attrs) (drop_all i ls le)

-- ---- tests

module _ {X : Type 0} (test : X → Bool) (xs : List X) (i : ℕ) (d : X) (lt : i < length xs) where
  pub one_passes : test (get_or xs i d) ≡ true → list_all test (drop (i + 1) xs) ≡ list_all test (drop i xs)
  one_passes is = sym (ap (list_all test) (drop_more xs i d lt) ∙ ap (λ b. b && list_all test (drop (i + 1) xs)) is)

  pub one_fails : test (get_or xs i d) ≡ false → list_all test (drop i xs) ≡ false
  one_fails is = ap (list_all test) (drop_more xs i d lt) ∙ ap (λ b. b && list_all test (drop (i + 1) xs)) is

  pub one_other : test (get_or xs i d) ≡ false → list_any test (drop (i + 1) xs) ≡ list_any test (drop i xs)
  one_other is = sym (ap (list_any test) (drop_more xs i d lt) ∙ ap (λ b. b || list_any test (drop (i + 1) xs)) is)

  pub one_found : test (get_or xs i d) ≡ true → list_any test (drop i xs) ≡ true
  one_found is = ap (list_any test) (drop_more xs i d lt) ∙ ap (λ b. b || list_any test (drop (i + 1) xs)) is

pub none_found : {X : Type 0} (test : X → Bool) (xs : List X) (i : ℕ) → length xs ≤ i → list_any test (drop i xs) ≡ false
none_found test xs i le = ap (list_any test) (drop_all i xs le)

pub all_passed : {X : Type 0} (test : X → Bool) (xs : List X) (i : ℕ) → length xs ≤ i → list_all test (drop i xs) ≡ true
all_passed test xs i le = ap (list_all test) (drop_all i xs le)

pub this_one : {X : Type 0} (P : X → Type 0) (xs : List X) (i : ℕ) (x : X) → i < length xs → x ≡ get_or xs i x → AllByRecursion P (drop i xs) → P x
this_one P xs i x lt is all = subst P (sym is) (subst (AllByRecursion P) (drop_more xs i x lt) all).0

pub one_and_others : {X : Type 0} (P : X → Type 0) (xs : List X) (i : ℕ) (d : X) → i < length xs → AllByRecursion P (drop i xs) → P (get_or xs i d) × AllByRecursion P (drop (i + 1) xs)
one_and_others P xs i d lt all = subst (AllByRecursion P) (drop_more xs i d lt) all

-- ---- attributes that are tested one after the other

module _ (test : ℕ × List (List ℕ) → Bool) (s t : List EntryAttribute) (a : EntryAttribute) (first : s ≡ a ∷ t) where
  pub attribute_passes : test (a.0, raws a.1) ≡ true → list_all test (attributes_of t) ≡ list_all test (attributes_of s)
  attribute_passes is = sym (ap (λ (es : List EntryAttribute). list_all test (attributes_of es)) first ∙ ap (λ b. b && list_all test (attributes_of t)) is)

  pub attribute_fails : test (a.0, raws a.1) ≡ false → list_all test (attributes_of s) ≡ false
  attribute_fails is = ap (λ (es : List EntryAttribute). list_all test (attributes_of es)) first ∙ ap (λ b. b && list_all test (attributes_of t)) is

  pub attribute_made : (types : List AttributeType) → AllByRecursion (IsMadeAttribute types) s → IsMadeAttribute types a × AllByRecursion (IsMadeAttribute types) t
  attribute_made types all = subst (AllByRecursion (IsMadeAttribute types)) first all

pub attributes_passed : (test : ℕ × List (List ℕ) → Bool) (s : List EntryAttribute) → s ≡ [] → list_all test (attributes_of s) ≡ true
attributes_passed test s none = ap (λ (es : List EntryAttribute). list_all test (attributes_of es)) none

-- ---- the values of an old RDN

module _ (types : List AttributeType) (new ps : TypedRdn) (i : ℕ) (now : Attributes) where
  pub old_ava_out : (p : Ava) (next : Attributes) → i < length ps → p ≡ get_or ps i p → next ≡ without_old_ava types new p now → without_rdn types new (drop (i + 1) ps) next ≡ without_rdn types new (drop i ps) now
  unfolding without_rdn
  old_ava_out p next lt at out =
      ap (without_rdn types new (drop (i + 1) ps)) (out ∙ ap (λ (q : Ava). without_old_ava types new q now) at)
      ∙ sym (ap (λ (qs : TypedRdn). without_rdn types new qs now) (drop_more ps i p lt))

  pub old_avas_out : length ps ≤ i → now ≡ without_rdn types new (drop i ps) now
  unfolding without_rdn
  old_avas_out le = sym (ap (λ (qs : TypedRdn). without_rdn types new qs now) (drop_all i ps le))

-- ---- classes

module _ (classes : List ObjectClass) (s t : List Value) (v : Value) (first : s ≡ v ∷ t) where
  pub one_class : (n : ℕ) → class_of classes v.raw ≡ Some n → are_classes classes (raws t) ≡ are_classes classes (raws s)
  one_class n is = sym (ap (λ (vs : List Value). are_classes classes (raws vs)) first ∙ ap (λ (o : Option ℕ). is_some o && are_classes classes (raws t)) is)

  pub one_named : (n : ℕ) (front new : List ℕ) → class_of classes v.raw ≡ Some n → new ≡ front ++ n ∷ [] → new ++ named_classes classes (raws t) ≡ front ++ named_classes classes (raws s)
  one_named n front new is put =
      ap (λ (ns : List ℕ). ns ++ named_classes classes (raws t)) put
      ∙ append_assoc front (n ∷ []) (named_classes classes (raws t))
      ∙ sym (ap (λ (vs : List Value). front ++ named_classes classes (raws vs)) first ∙ ap (λ (o : Option ℕ). front ++ cons_option o (named_classes classes (raws t))) is)

  pub no_class : class_of classes v.raw ≡ None → are_classes classes (raws s) ≡ false
  no_class is = ap (λ (vs : List Value). are_classes classes (raws vs)) first ∙ ap (λ (o : Option ℕ). is_some o && are_classes classes (raws t)) is
