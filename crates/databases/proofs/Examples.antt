-- Worked examples, by computation.
use Rattle.std.proofs.Common.{◌≡◌, ℕ, ◌+◌, Bool, true, false, cond, not, List, [], ◌∷◌, ◌++◌, Some, None, Ok, Err, refl, sym, ap, ◌∙◌, nat_le, is_some}
use Rattle.std.specs.List.{flat_map}
use Rattle.std.specs.Prelude.{codes, ⊤, Result}
use Rattle.std.specs.Fmt.{digits}
use Rattle.std.specs.Cmp.{IsTotalOrder}
use Rattle.std.specs.FinMap as finite
use Rattle.std.specs.Str.{is_utf8, chars}
use lib.Utf8.{encode}
use Rattle.ldif_lines.specs.Records.{records, continuation, joined, joined_block, body_of, body_of_block, with_first, records_from}
use Rattle.ldif_lines.specs.Folding.{folded_to}
use Rattle.ldif.specs.Line.{form_of, value_of, value_line}
use Rattle.ldif.specs.Reading as reading
use Rattle.ldif.specs.Contents.{write_content, write_content_to}
use Rattle.ldif.specs.Writing.{is_plain, line_text}
use Rattle.ldif.specs.declared.fault.LdifFaultKind.TheVariants as faults
use Rattle.ldif.specs.Attrs.{Attr}
use Rattle.ldif.specs.declared.record.Record.TheVariants as kinds
use Rattle.ldif.specs.declared.record.Mode.TheVariants.{Content}
use Rattle.schema.specs.declared.code.Code.{Code}
use Rattle.schema.specs.declared.code.Code.TheVariants as result
use Rattle.matching.specs.declared.family.Family.TheVariants as families
use Rattle.values.specs.declared.types.TypeSyntax.TheVariants as type_syntaxes
use Rattle.values.specs.declared.types.EqualityRule.TheVariants as rules
use Rattle.matching.specs.declared.syntax.Syntax.TheVariants as syntaxes
use Rattle.values.specs.declared.types.AttributeType.{AttributeType}
use Rattle.schema.specs.TypeRules.{object_class}
use Rattle.base.specs.Answers.{each, ◌>>=◌}
use Rattle.dn.specs.Reading as names
use Rattle.dn.specs.Reading.{octets_from, trimmed, ava_at, ava_of, cut_raw, rdn_of, name_of}
use Rattle.dn.specs.Writing.{written, text_from, text_of}
use Rattle.schema.specs.Names.{name_in}
use Rattle.paths.specs.Paths.{Path, path_cmp}
use Rattle.schema.specs.Rdns.{avas_from, rdns_from, put_pair, key_from, rdn_key_of}
use Rattle.schema.specs.Values.{is_valid_at, norm_at}
use Rattle.schema.specs.Conf.{Conf, below, place_of, located, name_text}
use Rattle.values.specs.Types.{type_of}
use Rattle.matching.specs.Forms.{norm}
use Rattle.matching.specs.Syntaxes.{is_valid}
use Rattle.tree.specs.Changes.{Change, changed}
use Rattle.tree.specs.Adds.{add, add_at, added}
use Rattle.tree.specs.Directories as directories
use Rattle.tree.specs.Directories.{Entries, rdn_in}
use Rattle.entries.specs.Entries.{EntryContent, push_value, add_lines, with_rdn, lines_of}
use Rattle.databases.specs.Runs.{State, start, of_change, take_up, outcome, step, after_records, after, record_of, dump, dump_to, Loads}
use Rattle.databases.specs.Loading.{StopsAt}
use Rattle.databases.specs.declared.loading.LoadFault.TheVariants as loads
use Rattle.databases.specs.Reports.{report, report_line}
use Rattle.databases.specs.declared.refusal.RecordRefusal.{RecordRefusal}
use Rattle.databases.specs.declared.refusal.RecordRefusal.TheVariants as refusals

-- what a text is read by
unfoldable on_texts : ⊤
unfolding continuation joined joined_block body_of body_of_block with_first records_from form_of value_of value_line each reading.content_line reading.body reading.entry reading.after_version reading.first_of_text after_records step outcome
on_texts = tt

-- what a name and attribute lines come to
unfoldable on_entries : ⊤
unfolding is_utf8 chars encode each octets_from trimmed names.value_of ava_at ava_of cut_raw rdn_of name_of name_in avas_from rdns_from put_pair key_from rdn_key_of below place_of located type_of norm is_valid is_valid_at norm_at add push_value add_lines with_rdn
on_entries = tt

-- what an entry is written by
unfoldable on_writing : ⊤
unfolding write_content_to name_text written text_from text_of directories.rdns_from lines_of is_plain line_text folded_to
on_writing = tt

-- a line with its end
abbrev ended : List ℕ → List ℕ
ended line = line ++ 10 ∷ []

abbrev domain : List ℕ
domain = ended (codes "objectClass: domain")

abbrev person : List ℕ
person = ended (codes "objectClass: person")

-- a type of text
abbrev text_type : List ℕ → List ℕ → AttributeType
text_type oid name = record { oid = oid; names = name ∷ []; superior = None; syntax = type_syntaxes.Plain syntaxes.Text; equality = Some (rules.Plain families.Ignore); is_ordered = false; has_substrings = false; single_value = false; is_fixed = false; is_operational = false }

-- objectClass and the types dc and cn, below dc=ex
abbrev conf : Conf
conf = record {
  types = object_class ∷ text_type (codes "0.9.2342.19200300.100.1.25") (codes "dc") ∷ text_type (codes "2.5.4.3") (codes "cn") ∷ [];
  suffix = ((1, codes "ex") ∷ []) ∷ [];
  slots = [];
  classes = [];
}

-- ---- reports

a_code : report ((4, refusals.Code result.NoSuchObject) ∷ []) ≡ ended (codes "line 4: 32 noSuchObject")
unfolding report_line digits
a_code = refl

a_fault_after_a_code : report ((10, refusals.Code result.InvalidDnSyntax) ∷ (127, refusals.Fault faults.Base64) ∷ []) ≡ ended (codes "line 10: 34 invalidDNSyntax") ++ ended (codes "line 127: L4 base64")
unfolding report_line digits
a_fault_after_a_code = refl

-- ---- refused records change nothing, whatever the directory

abbrev refusing : Entries → List (ℕ × RecordRefusal) → Bool → State
refusing d refused over = record { entries = d; accepted = 0; refused = refused; ended = over }

other_version : (d : Entries) → after conf Content false d (ended (codes "version: 2") ++ ended (codes "dn: dc=ex")) ≡ refusing d ((1, refusals.Fault faults.Version) ∷ []) true
unfolding on_texts
other_version d = refl

-- a version alone is no record that counts
version_alone : (d : Entries) → after conf Content false d (ended (codes "version: 1")) ≡ start d
unfolding on_texts
version_alone d = refl

-- a name beside the suffix on line 1, and on line 5, after a comment, a text that is no name
abbrev two_refused : List ℕ
two_refused = ended (codes "dn: cn=a,dc=no") ++ person ++ ended [] ++ ended (codes "# note") ++ ended (codes "dn: x")

stops_at_the_first : (d : Entries) → after conf Content false d two_refused ≡ refusing d ((1, refusals.Code result.NoSuchObject) ∷ []) true
unfolding on_texts on_entries
stops_at_the_first d = refl

goes_on_to_the_second : (d : Entries) → after conf Content true d two_refused ≡ refusing d ((1, refusals.Code result.NoSuchObject) ∷ (5, refusals.Code result.InvalidDnSyntax) ∷ []) false
unfolding on_texts on_entries
goes_on_to_the_second d = refl

-- ---- two records into the directory with no entry

abbrev root : EntryContent
root = record { rdn = (1, codes "ex") ∷ []; attrs = (0, codes "domain" ∷ []) ∷ (1, codes "ex" ∷ []) ∷ [] }

abbrev ann : EntryContent
ann = record { rdn = (2, codes "Ann") ∷ []; attrs = (2, codes "ann" ∷ []) ∷ (0, codes "person" ∷ []) ∷ [] }

-- a value's normal form has small letters
abbrev at_ann : Path
at_ann = ((2, codes "ann") ∷ []) ∷ []

abbrev with_root : Entries
with_root = finite.insert finite.empty [] root

abbrev with_both : Entries
with_both = finite.insert with_root at_ann ann

abbrev two_records : List ℕ
two_records = ended (codes "dn: DC=ex") ++ domain ++ ended [] ++ ended (codes "dn: CN=Ann,dc=EX") ++ ended (codes "cn: ann") ++ person

root_lines : List Attr
root_lines = record { name = codes "objectClass"; value = codes "domain" } ∷ []

ann_lines : List Attr
ann_lines = record { name = codes "cn"; value = codes "ann" } ∷ record { name = codes "objectClass"; value = codes "person" } ∷ []

-- not there yet, the parent there, room for one more
placed : (found orphan full : Bool) (p : Path) (e : EntryContent) → found ≡ false → orphan ≡ false → full ≡ false → cond found (Err result.EntryAlreadyExists) (cond orphan (Err result.NoSuchObject) (cond full (Err result.AdminLimitExceeded) (added p e))) ≡ added p e
placed true orphan full p e new parent room = cc
placed false true full p e new parent room = cc
placed false false true p e new parent room = cc
placed false false false p e new parent room = refl

root_placed : add conf Content finite.empty (codes "DC=ex") root_lines ≡ added [] root
unfolding on_texts on_entries add_at root_lines
root_placed = placed _ _ _ [] root (ap is_some (finite.get-empty path_cmp [])) refl (ap (nat_le 4294967295) (finite.len-empty path_cmp EntryContent))

-- the state after a record with this outcome of its add
abbrev next : State → ℕ → Result Change Code → State
next s line o = take_up false s line (of_change s.entries false (o >>= λ c. Ok (changed s.entries c)))

-- the order of paths is total (`order_of_paths`)
module _ (total : IsTotalOrder path_cmp) where
  root_found : finite.get with_root [] ≡ Some root
  root_found = finite.get-insert total finite.empty [] root []

  ann_new : finite.get with_root at_ann ≡ None
  ann_new = finite.get-insert total finite.empty [] root at_ann ∙ finite.get-empty path_cmp at_ann

  one_there : finite.len with_root ≡ 1
  one_there =
      finite.len-insert total finite.empty [] root
      ∙ ap (λ o. cond (is_some o) (finite.len (finite.empty {X = EntryContent} {R = path_cmp})) (finite.len (finite.empty {X = EntryContent} {R = path_cmp}) + 1)) (finite.get-empty path_cmp [])
      ∙ ap (λ n. n + 1) (finite.len-empty path_cmp EntryContent)

  ann_placed : add conf Content with_root (codes "CN=Ann,dc=EX") ann_lines ≡ added at_ann ann
  unfolding on_texts on_entries add_at ann_lines
  ann_placed = placed _ _ _ at_ann ann (ap is_some ann_new) (ap (λ o. not (is_some o)) root_found) (ap (nat_le 4294967295) one_there)

  two_are_added : after conf Content false finite.empty two_records ≡ record { entries = with_both; accepted = 2; refused = []; ended = false }
  unfolding on_texts root_lines ann_lines
  two_are_added =
      ap (λ o. step conf Content false (next (start finite.empty) 1 o) (4, Ok (kinds.Content (codes "CN=Ann,dc=EX") ann_lines))) root_placed
      ∙ ap (next (record { entries = with_root; accepted = 1; refused = []; ended = false }) 4) ann_placed

  -- ---- loading

  two_load : Loads conf two_records with_both
  two_load = record { entries = ap (λ (s : State). s.entries) (sym two_are_added); all = ap (λ (s : State). s.refused) two_are_added }

loading_stops : StopsAt (loads.Refused 1 (refusals.Code result.NoSuchObject)) conf finite.empty (Some (records two_refused))
loading_stops = record { given = records two_refused; are = refl; so = ap (λ (s : State). s.refused) (stops_at_the_first finite.empty) }

-- ---- a dump, parents first

abbrev in_order : List (Path × EntryContent)
in_order = ([], root) ∷ (at_ann, ann) ∷ []

abbrev both : Entries
both = finite.from_sorted in_order

ann_stands : finite.get both at_ann ≡ Some ann
ann_stands = finite.get-from_sorted path_cmp in_order at_ann tt

written_root : write_content (record_of conf both ([], root)) ≡ ended (codes "dn: dc=ex") ++ domain ++ ended (codes "dc: ex") ++ ended []
unfolding on_writing
written_root = refl

written_ann : write_content (record_of conf both (at_ann, ann)) ≡ ended (codes "dn: cn=Ann,dc=ex") ++ ended (codes "cn: ann") ++ person ++ ended []
unfolding on_writing
written_ann = ap (λ o. write_content (record { dn = name_text conf (rdn_in o ∷ []); attrs = lines_of conf.types ann.attrs })) ann_stands

dumped : dump conf both ≡ ended (codes "dn: dc=ex") ++ domain ++ ended (codes "dc: ex") ++ ended [] ++ ended (codes "dn: cn=Ann,dc=ex") ++ ended (codes "cn: ann") ++ person ++ ended []
unfolding dump_to on_writing
dumped =
    ap (λ es. flat_map (λ x. write_content (record_of conf both x)) es) (finite.entries-from_sorted path_cmp in_order tt)
    ∙ ap (λ bs. bs ++ write_content (record_of conf both (at_ann, ann)) ++ []) written_root
    ∙ ap (λ bs. ended (codes "dn: dc=ex") ++ domain ++ ended (codes "dc: ex") ++ ended [] ++ bs ++ []) written_ann
