-- What is printed of entries, its lines folded to a width.
use Rattle.std.proofs.Common.{◌≡◌, ℕ, Bool, true, false, cond, List, [], ◌∷◌, ◌++◌, map, Option, Some, None, sym, ap, subst, ◌∙◌}
use Rattle.std.specs.List.{flat_map, filter, AllByRecursion}
use Rattle.std.specs.FinMap as finite
use Rattle.std.specs.Cmp.{IsTotalOrder}
use Rattle.std.specs.Str.Lines.{lines}
use Rattle.ldif_lines.specs.Folding.{FitsIn}
use Rattle.ldif.specs.declared.record.Mode.TheVariants.{Content}
use Rattle.ldif.specs.Contents.{ContentRecord, IsWritableAttr, IsWritableContent, write_content_to, readings, reading_of, as_record}
use Rattle.paths.specs.Paths.{Path, path_cmp}
use Rattle.paths.proofs.Unpacked.{all_append}
use Rattle.schema.specs.Conf.{Conf}
use Rattle.values.specs.declared.types.AttributeType.{AttributeType}
use Rattle.entries.specs.Entries.{Attributes, EntryContent, attribute_lines, lines_of}
use Rattle.tree.specs.Directories.{Entries, IsDirectory, record_at}
use Rattle.tree.proofs.Above.{all_take}
use Rattle.databases.specs.Selections.{Selection, selects}
use Rattle.databases.specs.Runs.{record_of, dump_to}
use Rattle.databases.specs.Found.{AreThere, found_record, found_text, up_to}
use Rattle.databases.proofs.LoadLaw.{all_there, all_written, flat_map-map}

abbrev Pairs : Type 0
Pairs = List (Path × EntryContent)

all_split : {X : Type 0} (P : X → Type 0) (xs ys : List X) → AllByRecursion P (xs ++ ys) → AllByRecursion P xs × AllByRecursion P ys
all_split P [] ys h = (tt, h)
all_split P (x ∷ xs) ys h = let rest = all_split P xs ys h.1 in ((h.0, rest.0), rest.1)

-- lines of the attributes that are selected can be written where those of all can
selected_writable : (types : List AttributeType) (s : Selection) (attrs : Attributes) → AllByRecursion IsWritableAttr (lines_of types attrs)
    → AllByRecursion IsWritableAttr (lines_of types (filter (λ a. selects s a.0) attrs))
unfolding lines_of
selected_writable types s [] h = tt
selected_writable types s (a ∷ attrs) h =
    let parts = all_split IsWritableAttr (attribute_lines types a) (lines_of types attrs) h in
    by (selects s a.0) parts.0 (selected_writable types s attrs parts.1)
  where
    by : (b : Bool) → AllByRecursion IsWritableAttr (attribute_lines types a) → AllByRecursion IsWritableAttr (lines_of types (filter (λ a. selects s a.0) attrs))
        → AllByRecursion IsWritableAttr (lines_of types (cond b (a ∷ filter (λ a. selects s a.0) attrs) (filter (λ a. selects s a.0) attrs)))
    by true first rest = all_append IsWritableAttr (attribute_lines types a) (lines_of types (filter (λ a. selects s a.0) attrs)) first rest
    by false first rest = rest

pub up_to_there : (d : Entries) (limit : Option ℕ) (es : Pairs) → AreThere d es → AreThere d (up_to limit es)
up_to_there d None es h = h
up_to_there d (Some n) es h = all_take (λ (e : Path × EntryContent). finite.get d e.0 ≡ Some e.1) n es h

-- what texts of content records of these read as
abbrev ReadsBack : ℕ → Type 0
ReadsBack width = (cs : List ContentRecord) → AllByRecursion IsWritableContent cs → map reading_of (readings Content (flat_map (write_content_to width) cs)) ≡ map as_record cs

abbrev Fits : ℕ → Type 0
Fits width = (cs : List ContentRecord) → AllByRecursion IsWritableContent cs → AllByRecursion (FitsIn width) (lines (flat_map (write_content_to width) cs))

module _ (conf : Conf) (d : Entries) (own : (p : Path) (e : EntryContent) → finite.get d p ≡ Some e → IsWritableContent (record_at conf d p e)) where
  -- ---- entries that are found

  all_found : (s : Selection) (es : Pairs) → AreThere d es → AllByRecursion IsWritableContent (map (found_record conf d s) es)
  all_found s [] h = tt
  all_found s (e ∷ es) h =
      let whole : IsWritableContent (record_at conf d e.0 e.1) = own e.0 e.1 h.0 in
      (record { dn = whole.dn; attrs = selected_writable conf.types s e.1.attrs whole.attrs }, all_found s es h.1)

  found_is : (width : ℕ) (s : Selection) (es : Pairs) → found_text width conf d s es ≡ flat_map (write_content_to width) (map (found_record conf d s) es)
  unfolding found_text
  found_is width s es = sym (flat_map-map (write_content_to width) (found_record conf d s) es)

  pub found_reads : (width : ℕ) → ReadsBack width → (s : Selection) (es : Pairs) → AreThere d es
      → map reading_of (readings Content (found_text width conf d s es)) ≡ map as_record (map (found_record conf d s) es)
  found_reads width reads s es h =
      ap (λ (text : List ℕ). map reading_of (readings Content text)) (found_is width s es) ∙ reads (map (found_record conf d s) es) (all_found s es h)

  pub found_fits : (width : ℕ) → Fits width → (s : Selection) (es : Pairs) → AreThere d es → AllByRecursion (FitsIn width) (lines (found_text width conf d s es))
  found_fits width fits s es h =
      subst (λ (text : List ℕ). AllByRecursion (FitsIn width) (lines text)) (sym (found_is width s es)) (fits (map (found_record conf d s) es) (all_found s es h))

  -- ---- all entries

  dump_is : (width : ℕ) → dump_to width conf d ≡ flat_map (write_content_to width) (map (record_of conf d) (finite.entries d))
  unfolding dump_to
  dump_is width = sym (flat_map-map (write_content_to width) (record_of conf d) (finite.entries d))

  module _ (total : IsTotalOrder path_cmp) (is : IsDirectory conf d) where
    all : AllByRecursion IsWritableContent (map (record_of conf d) (finite.entries d))
    all = all_written conf d own (finite.entries d) (all_there total conf d is)

    pub dump_reads : (width : ℕ) → ReadsBack width → map reading_of (readings Content (dump_to width conf d)) ≡ map as_record (map (record_of conf d) (finite.entries d))
    dump_reads width reads = ap (λ (text : List ℕ). map reading_of (readings Content text)) (dump_is width) ∙ reads (map (record_of conf d) (finite.entries d)) all

    pub dump_fits : (width : ℕ) → Fits width → AllByRecursion (FitsIn width) (lines (dump_to width conf d))
    dump_fits width fits =
        subst (λ (text : List ℕ). AllByRecursion (FitsIn width) (lines text)) (sym (dump_is width)) (fits (map (record_of conf d) (finite.entries d)) all)
