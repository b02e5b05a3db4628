-- Content records that are written are read back.
use Rattle.std.proofs.Common.{◌≡◌, ℕ, ◌<◌, Bool, true, false, not, ◌&&◌, cond, eqb, List, [], ◌∷◌, ◌++◌, length, map, codes, Result, Ok, Err, refl, sym, ap, subst, ◌∙◌, arith}
use Rattle.std.specs.List.{flat_map, list_all, AllByRecursion}
use Rattle.std.proofs.lemmas.Bool.{and_parts, and_from}
use Rattle.std.proofs.lemmas.Bool.Decides.{nat_tests}
use Rattle.ldif_lines.specs.Records.{RawRecord, records}
use Rattle.std.specs.Str.Lines.{lines}
use Rattle.ldif_lines.specs.Folding.{FitsIn, folded_line, written_block_to, written_blocks_to, begins_line, IsWritable, AreWritable, raw_block, with_first_flag}
use Rattle.ldif.specs.declared.fault.LdifFaultKind.{LdifFaultKind}
use Rattle.ldif.specs.declared.fault.LdifFaultKind.TheVariants.{DnMissing, ChangetypeInContent, Version}
use Rattle.ldif.specs.Attrs.{Attr}
use Rattle.ldif.specs.declared.record.Record.{Record}
use Rattle.ldif.specs.declared.record.Mode.TheVariants.{Content}
use Rattle.base.specs.Answers.{◌>>=◌, each}
use Rattle.ldif.specs.Line.{value_line, same_name}
use Rattle.ldif.specs.Reading.{content_line, body, entry, after_version, first_of_text, reading}
use Rattle.ldif.specs.Writing.{line_text, written_line_to}
use Rattle.ldif.specs.Contents.{is_name_byte, is_inner_name_byte, IsName, IsWritableAttr, ContentRecord, IsWritableContent, written_attr_to, write_content_to, readings, reading_of, as_record}
use Rattle.ldif.proofs.WrittenLines.{read_again, writable}

-- ---- names of attributes can be names

inner : (b : ℕ) → is_name_byte b ≡ true → is_inner_name_byte b ≡ true
inner b h = grind (arith, nat_tests)

all_inner : (bs : List ℕ) → list_all is_name_byte bs ≡ true → list_all is_inner_name_byte bs ≡ true
all_inner [] h = refl
all_inner (b ∷ bs) h = let a = and_parts (is_name_byte b) (list_all is_name_byte bs) h in and_from (is_inner_name_byte b) (list_all is_inner_name_byte bs) (inner b a.0) (all_inner bs a.1)

begin : (b : ℕ) → is_name_byte b ≡ true → (not (eqb b 32) && not (eqb b 35)) ≡ true
begin b h = grind (arith, nat_tests)

begins : (name : List ℕ) → 0 < length name → list_all is_name_byte name ≡ true → begins_line name ≡ true
begins [] some h = absurd (omega arith)
begins (b ∷ bs) some h = begin b (and_parts (is_name_byte b) (list_all is_name_byte bs) h).0

is_name : (a : Attr) → IsWritableAttr a → IsName a.name
is_name a h = record { begins = begins a.name h.some h.name; bytes = all_inner a.name h.name }

dn_is_name : IsName (codes "dn")
dn_is_name = record { begins = refl; bytes = refl }

-- ---- the lines of a content record

abbrev attr_text : Attr → List ℕ
attr_text a = line_text a.name a.value

abbrev block_of : ContentRecord → List (List ℕ)
block_of c = line_text (codes "dn") c.dn ∷ map attr_text c.attrs

attrs_writable : (as_ : List Attr) → AllByRecursion IsWritableAttr as_ → AllByRecursion IsWritable (map attr_text as_)
attrs_writable [] h = tt
attrs_writable (a ∷ as_) h = (writable a.name a.value (is_name a h.0), attrs_writable as_ h.1)

all_writable : (cs : List ContentRecord) → AllByRecursion IsWritableContent cs → AllByRecursion AreWritable (map block_of cs)
all_writable [] h = tt
all_writable (c ∷ cs) h = ((writable (codes "dn") c.dn dn_is_name, attrs_writable c.attrs h.0.attrs), all_writable cs h.1)

module _ (width : ℕ) where
  attrs_text : (as_ : List Attr) → flat_map (written_attr_to width) as_ ≡ flat_map (folded_line width) (map attr_text as_)
  attrs_text [] = refl
  attrs_text (a ∷ as_) = ap (λ (x : List ℕ). written_attr_to width a ++ x) (attrs_text as_)

  content_text : (c : ContentRecord) → write_content_to width c ≡ written_block_to width (block_of c)
  unfolding write_content_to
  content_text c = ap (λ (x : List ℕ). written_line_to width (codes "dn") c.dn ++ x ++ 10 ∷ []) (attrs_text c.attrs)

  contents_text : (cs : List ContentRecord) → flat_map (write_content_to width) cs ≡ written_blocks_to width (map block_of cs)
  contents_text [] = refl
  contents_text (c ∷ cs) =
      ap (λ (x : List ℕ). x ++ flat_map (write_content_to width) cs) (content_text c) ∙ ap (λ (x : List ℕ). written_block_to width (block_of c) ++ x) (contents_text cs)

-- ---- what they read as

abbrev read_attr : Attr → Result Attr LdifFaultKind
read_attr a = Ok a

abbrev read_attrs : List Attr → Result (List Attr) LdifFaultKind
read_attrs as_ = Ok as_

attr_is : (a : Attr) → IsWritableAttr a → content_line (attr_text a) ≡ Ok a
unfolding content_line
attr_is a h =
    ap (λ (r : Result Attr LdifFaultKind). r >>= λ x. cond (same_name x.name (codes "changetype")) (Err ChangetypeInContent) (Ok x)) (read_again a.name a.value (is_name a h) h.value)
    ∙ ap (λ (t : Bool). cond t (Err ChangetypeInContent) (read_attr a)) h.other

attrs_are : (as_ : List Attr) → AllByRecursion IsWritableAttr as_ → each content_line (map attr_text as_) ≡ Ok as_
unfolding each
attrs_are [] h = refl
attrs_are (a ∷ as_) h =
    ap (λ (r : Result Attr LdifFaultKind). r >>= λ x. each content_line (map attr_text as_) >>= λ xs. Ok (x ∷ xs)) (attr_is a h.0)
    ∙ ap (λ (r : Result (List Attr) LdifFaultKind). r >>= λ xs. read_attrs (a ∷ xs)) (attrs_are as_ h.1)

abbrev dn_attr : ContentRecord → Attr
dn_attr c = record { name = codes "dn"; value = c.dn }

dn_is : (c : ContentRecord) → IsWritableContent c → value_line (line_text (codes "dn") c.dn) ≡ Ok (dn_attr c)
dn_is c h = read_again (codes "dn") c.dn dn_is_name h.dn

entry_is : (c : ContentRecord) → IsWritableContent c → entry Content (block_of c) ≡ as_record c
unfolding entry body
entry_is c h =
    ap (λ (r : Result Attr LdifFaultKind). r >>= λ x. cond (same_name x.name (codes "dn")) (body Content x.value (map attr_text c.attrs)) (Err DnMissing)) (dn_is c h)
    ∙ ap (λ (r : Result (List Attr) LdifFaultKind). r >>= λ xs. as_record (record { dn = c.dn; attrs = xs })) (attrs_are c.attrs h.attrs)

first_is : (c : ContentRecord) → IsWritableContent c → first_of_text Content (block_of c) ≡ as_record c
unfolding first_of_text
first_is c h =
    ap (λ (r : Result Attr LdifFaultKind). r >>= λ x. cond (same_name x.name (codes "version")) (cond (Rattle.std.specs.Str.bytes_eq x.value (codes "1")) (after_version Content (map attr_text c.attrs)) (Err Version)) (entry Content (block_of c))) (dn_is c h)
    ∙ entry_is c h

reading_is : (first : Bool) (c : ContentRecord) → IsWritableContent c → reading Content first (block_of c) ≡ as_record c
reading_is true c h = first_is c h
reading_is false c h = entry_is c h

abbrev read_block : Bool × List (List ℕ) → Result Record LdifFaultKind
read_block b = reading Content b.0 b.1

blocks_are : (first : Bool) (cs : List ContentRecord) → AllByRecursion IsWritableContent cs → map read_block (with_first_flag first (map block_of cs)) ≡ map as_record cs
unfolding with_first_flag
blocks_are first [] h = refl
blocks_are first (c ∷ cs) h = λ i. reading_is first c h.0 i ∷ blocks_are false cs h.1 i

abbrev numbered : RawRecord → ℕ × Result Record LdifFaultKind
numbered r = (r.line, reading Content r.first r.lines)

unnumbered : (rs : List RawRecord) → map reading_of (map numbered rs) ≡ map read_block (map raw_block rs)
unnumbered [] = refl
unnumbered (r ∷ rs) = ap (λ (xs : List (Result Record LdifFaultKind)). reading Content r.first r.lines ∷ xs) (unnumbered rs)

-- ---- the text of many

module _ (width : ℕ) where
  pub contents_back : ((blocks : List (List (List ℕ))) → AllByRecursion AreWritable blocks → map raw_block (records (written_blocks_to width blocks)) ≡ with_first_flag true blocks)
      → (cs : List ContentRecord) → AllByRecursion IsWritableContent cs → map reading_of (readings Content (flat_map (write_content_to width) cs)) ≡ map as_record cs
  unfolding readings
  contents_back blocks_back cs h =
      unnumbered (records (flat_map (write_content_to width) cs))
      ∙ ap (λ (x : List ℕ). map read_block (map raw_block (records x))) (contents_text width cs)
      ∙ ap (map read_block) (blocks_back (map block_of cs) (all_writable cs h))
      ∙ blocks_are true cs h

  pub contents_fit : ((blocks : List (List (List ℕ))) → AllByRecursion AreWritable blocks → AllByRecursion (FitsIn width) (lines (written_blocks_to width blocks)))
      → (cs : List ContentRecord) → AllByRecursion IsWritableContent cs → AllByRecursion (FitsIn width) (lines (flat_map (write_content_to width) cs))
  contents_fit blocks_fit cs h =
      subst (λ (text : List ℕ). AllByRecursion (FitsIn width) (lines text)) (sym (contents_text width cs)) (blocks_fit (map block_of cs) (all_writable cs h))
