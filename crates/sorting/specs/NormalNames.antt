-- Names as they compare where no dir.conf says what types and rules there are: two RDNs are equal where they have the same AVAs, in whatever order: types
-- in whatever case (RFC 4512, 2.5), and values that are equal by caseIgnoreMatch (RFC 4517, 4.2.11).
use Rattle.std.specs.Prelude.{ℕ, List, [], ◌∷◌, ◌++◌, map, Option, Some, None, Result, Ok, Err}
use Rattle.std.specs.BTreeSet.{insert_key}
use Rattle.std.specs.Cmp.Lexicographic.{slice_cmp}
use Rattle.std.specs.Ordering.{nat_cmp}
use Rattle.std.specs.List.{flat_map}
use Rattle.base.specs.Ascii.{line_feed, plus_sign, equals_sign}
use Rattle.matching.specs.Forms.{norm, lower}
use Rattle.matching.specs.declared.family.Family.TheVariants.{Ignore}
use Rattle.dn.specs.Names.{Ava, Rdn, Name}
use Rattle.dn.specs.Writing.{value_text}
use Rattle.ldif_lines.specs.Records.{RawRecord, records}
use Rattle.ldif.specs.Reading.{reading}
use Rattle.ldif.specs.declared.fault.LdifFaultKind.{LdifFaultKind}
use Rattle.ldif.specs.declared.record.Mode.TheVariants.{Content}
use Rattle.ldif.specs.declared.record.Record.{Record}
use Rattle.ldif.specs.declared.record.Record.TheVariants as records_of
use Rattle.schema.specs.Names.{name_in}
use Rattle.schema.specs.declared.code.Code.{Code}
use Rattle.sorting.specs.declared.normal_names.NormalName.{NormalName}

-- texts one behind the other, each with a byte behind it
abbrev pub ended_by : ℕ → List (List ℕ) → List ℕ
ended_by end texts = flat_map (λ text. text ++ end ∷ []) texts

-- ---- an RDN

-- its type and its value, each written as a value is, so that the bytes that end a text stand in none
abbrev pub normal_ava : Ava → List ℕ
normal_ava p = value_text (lower p.0) ++ equals_sign ∷ value_text (norm Ignore p.1)

-- texts with all of these, in the order of their bytes, each once
unfoldable pub with_texts : List (List ℕ) → List (List ℕ) → List (List ℕ)
with_texts so_far [] = so_far
with_texts so_far (text ∷ texts) = with_texts (insert_key (slice_cmp nat_cmp) so_far text) texts

abbrev pub normal_rdn : Rdn → List ℕ
normal_rdn r = ended_by plus_sign (with_texts [] (map normal_ava r))

-- ---- a name

-- the text of the name that has RDNs of these normal forms
abbrev pub name_text : List (List ℕ) → List ℕ
name_text rdns = ended_by line_feed rdns

-- that of it and of each name above it
abbrev pub texts_up : List (List ℕ) → List (List ℕ)
texts_up [] = []
texts_up (r ∷ rs) = name_text (r ∷ rs) ∷ texts_up rs

abbrev pub name_of_rdns : List (List ℕ) → Option NormalName
name_of_rdns [] = None
name_of_rdns (r ∷ rs) = Some (record { text = name_text (r ∷ rs); above = texts_up rs })

-- the normal form of a name, with those of the names above it; a name of no RDN names no entry
abbrev pub normal_name : Name → Option NormalName
normal_name n = name_of_rdns (map normal_rdn n)

abbrev pub name_or_none : Result Name Code → Option NormalName
name_or_none (Ok n) = normal_name n
name_or_none (Err code) = None

-- ---- the name of a record

abbrev pub name_of_record : Result Record LdifFaultKind → Option NormalName
name_of_record (Ok (records_of.Content dn attrs)) = name_or_none (name_in dn)
name_of_record r = None

-- as it reads where it stands
abbrev pub name_read : RawRecord → Option NormalName
name_read r = name_of_record (reading Content r.first r.lines)

abbrev pub name_of_first : List RawRecord → Option NormalName
name_of_first [] = None
name_of_first (r ∷ rs) = name_read r

-- the name of the entry that a stanza has by itself, where it is a content record with a name; before that a version may stand
unfoldable pub name_of_stanza : List ℕ → Option NormalName
name_of_stanza stanza = name_of_first (records stanza)
