-- The text of an entry, attribute by attribute.
use Rattle.std.proofs.Common.{◌≡◌, ℕ, Bool, true, false, cond, None, List, [], ◌∷◌, ◌++◌, map, length, refl, ◌∙◌, ap, append_assoc}
use Rattle.std.specs.List.{flat_map, filter, AllByRecursion}
use Rattle.std.proofs.lemmas.Bool.{ltb-true}
use Rattle.std.proofs.lemmas.Grind.{flat_map-append}
use Rattle.ldif.specs.Contents.{written_attr_to, write_content_to}
use Rattle.ldif.specs.Writing.{written_line_to}
use Rattle.values.specs.declared.types.AttributeType.{AttributeType}
use Rattle.values.specs.Values.{Value}
use Rattle.values.specs.Types.{name_of}
use Rattle.entries.specs.Entries.{Attributes, EntryContent, IsAttribute, lines_of, attribute_lines}
use Rattle.paths.specs.Paths.{Path}
use Rattle.schema.specs.Conf.{Conf}
use Rattle.tree.specs.Directories.{Entries, name_of_entry}
use Rattle.entries.specs.StoredEntries.{Entry, EntryAttribute, attributes_of, raws}
use Rattle.databases.specs.Selections.{Selection, selects, selected}
use Rattle.databases.specs.inner.Dumps.{AreKnown, attr_of, values_text, attributes_text, attribute_text, selected_text, entry_text}

of_values : (width : ℕ) (name : List ℕ) (vs : List Value) → flat_map (written_attr_to width) (map (λ (v : List ℕ). record { name = name; value = v }) (raws vs)) ≡ values_text width name vs
of_values width name [] = refl
of_values width name (v ∷ vs) = ap (λ bs. written_attr_to width (attr_of name v) ++ bs) (of_values width name vs)

pub first_attribute : (width : ℕ) (types : List AttributeType) (a : EntryAttribute) (rest : List EntryAttribute) → attributes_text width types (a ∷ rest) ≡ values_text width (name_of types a.0) a.1 ++ attributes_text width types rest
unfolding lines_of
first_attribute width types a rest =
    ap (λ (bs : List ℕ). bs ++ 10 ∷ []) (flat_map-append (written_attr_to width) (attribute_lines types (a.0, raws a.1)) (lines_of types (attributes_of rest)) ∙ ap (λ bs. bs ++ flat_map (written_attr_to width) (lines_of types (attributes_of rest))) (of_values width (name_of types a.0) a.1))
    ∙ append_assoc (values_text width (name_of types a.0) a.1) (flat_map (written_attr_to width) (lines_of types (attributes_of rest))) (10 ∷ [])

pub no_attribute : (width : ℕ) (types : List AttributeType) → attributes_text width types [] ≡ 10 ∷ []
unfolding lines_of
no_attribute width types = refl

-- ---- of those that are selected

pub first_selected : (width : ℕ) (types : List AttributeType) (s : Selection) (a : EntryAttribute) (rest : List EntryAttribute) → selected_text width types s (a ∷ rest) ≡ attribute_text width types s a ++ selected_text width types s rest
first_selected width types s a rest = by (selects s a.0)
  where
    by : (b : Bool) → attributes_text width types (cond b (a ∷ filter (λ a. selects s a.0) rest) (filter (λ a. selects s a.0) rest)) ≡ cond b (values_text width (name_of types a.0) a.1) [] ++ selected_text width types s rest
    by true = first_attribute width types a (filter (λ a. selects s a.0) rest)
    by false = refl

selected_as_seen : (s : Selection) (attrs : List EntryAttribute) → filter (λ a. selects s a.0) (attributes_of attrs) ≡ attributes_of (filter (λ a. selects s a.0) attrs)
selected_as_seen s [] = refl
selected_as_seen s (a ∷ rest) = by (selects s a.0) (selected_as_seen s rest)
  where
    by : (b : Bool) → filter (λ a. selects s a.0) (attributes_of rest) ≡ attributes_of (filter (λ a. selects s a.0) rest)
        → cond b ((a.0, raws a.1) ∷ filter (λ a. selects s a.0) (attributes_of rest)) (filter (λ a. selects s a.0) (attributes_of rest)) ≡ attributes_of (cond b (a ∷ filter (λ a. selects s a.0) rest) (filter (λ a. selects s a.0) rest))
    by true same = ap (λ (xs : Attributes). (a.0, raws a.1) ∷ xs) same
    by false same = same

pub entry_is : (width : ℕ) (conf : Conf) (d : Entries) (s : Selection) (p : Path) (e : Entry) → entry_text width conf d s (p, e) ≡ written_line_to width (100 ∷ 110 ∷ []) (name_of_entry conf d p) ++ selected_text width conf.types s e.attrs
unfolding write_content_to
entry_is width conf d s p e =
    append_assoc (written_line_to width (100 ∷ 110 ∷ []) (name_of_entry conf d p)) (flat_map (written_attr_to width) (lines_of conf.types (filter (λ a. selects s a.0) (attributes_of e.attrs)))) (10 ∷ [])
    ∙ ap (λ (attrs : Attributes). written_line_to width (100 ∷ 110 ∷ []) (name_of_entry conf d p) ++ (flat_map (written_attr_to width) (lines_of conf.types attrs) ++ 10 ∷ [])) (selected_as_seen s e.attrs)

-- all are selected
filter_all : {A : Type 0} (xs : List A) → filter (λ x. true) xs ≡ xs
filter_all [] = refl
filter_all (x ∷ xs) = ap (λ ys. x ∷ ys) (filter_all xs)

pub all_selected : (e : EntryContent) → selected None e ≡ e
all_selected e = ap (λ (attrs : Attributes). record { rdn = e.rdn; attrs = attrs }) (filter_all e.attrs)

-- ---- their types

pub all_known : (types : List AttributeType) (attrs : List EntryAttribute) → AllByRecursion (IsAttribute types) (attributes_of attrs) → AreKnown types attrs
all_known types [] h = tt
all_known types (a ∷ rest) h = (ltb-true a.0 (length types) h.0.known, all_known types rest h.1)
