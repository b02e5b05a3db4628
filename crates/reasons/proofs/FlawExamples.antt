-- Worked examples of flaws, by computation (RFC 4511, 4.6 to 4.9 and appendix A.2).
use Rattle.std.proofs.Common.{◌≡◌, ℕ, Bool, true, false, inr, List, [], ◌∷◌, ◌++◌, Option, Some, None, Err, refl, sym, ap, ◌∙◌, arith, cond, Result}
use Rattle.std.specs.Prelude.{codes, ⊤, is_some}
use Rattle.std.specs.FinMap as finite
use Rattle.std.specs.Str.{is_utf8, chars}
use lib.Utf8.{encode}
use Rattle.base.specs.Answers.{each, through, ◌>>=◌}
use Rattle.dn.specs.Reading.{octets_from, trimmed, value_of, ava_at, ava_of, cut_raw, rdn_of, name_of}
use Rattle.ldif.specs.Attrs.{Attr}
use Rattle.ldif.specs.declared.record.Mod.{Mod}
use Rattle.ldif.specs.declared.record.Mode.{Mode}
use Rattle.ldif.specs.declared.record.Mode.TheVariants as modes
use Rattle.ldif.specs.declared.record.Op.{Op}
use Rattle.ldif.specs.declared.record.Op.TheVariants.{Add, Delete, Replace}
use Rattle.ldif.specs.declared.record.Record.{Record}
use Rattle.ldif.specs.declared.record.Record.TheVariants as records
use Rattle.matching.specs.Forms.{norm}
use Rattle.matching.specs.Syntaxes.{is_valid}
use Rattle.matching.specs.declared.family.Family.TheVariants as families
use Rattle.matching.specs.declared.syntax.Syntax.TheVariants as syntaxes
use Rattle.paths.specs.Paths.{Path, path_cmp}
use Rattle.values.specs.Types.{type_of}
use Rattle.values.specs.declared.types.AttributeType.{AttributeType}
use Rattle.values.specs.declared.types.EqualityRule.{EqualityRule}
use Rattle.values.specs.declared.types.EqualityRule.TheVariants as rules
use Rattle.values.specs.declared.types.TypeSyntax.{TypeSyntax}
use Rattle.values.specs.declared.types.TypeSyntax.TheVariants as type_syntaxes
use Rattle.schema.specs.Conf.{Conf, below, place_of, located}
use Rattle.schema.specs.FaultyNames.{UnknownType, NameSyntax, NoEquality, BadValue, TypeTwice}
use Rattle.schema.specs.FirstFlaws.{Not}
use Rattle.schema.specs.Names.{name_in}
use Rattle.schema.specs.Rdns.{avas_from, rdns_from, put_pair, key_from, rdn_key_of}
use Rattle.schema.specs.TypeRules.{object_class}
use Rattle.schema.specs.Values.{is_valid_at, norm_at, rdns_in}
use Rattle.schema.specs.declared.code.Code.{Code}
use Rattle.schema.specs.declared.code.Code.TheVariants as result
use Rattle.entries.specs.Entries.{Attributes, EntryContent, values_of, has_equal, add_lines}
use Rattle.entries.specs.Modifies.{set_values, modify_at, modify_entry}
use Rattle.tree.specs.Directories.{Entries}
use Rattle.tree.specs.Adds.{add, add_at, entry_of, with_entry}
use Rattle.tree.specs.Changes.{Change}
use Rattle.tree.specs.Modifies.{modify_there, modify}
use Rattle.tree.specs.Operations.{change_of}
use Rattle.tree.specs.Renames.{rdn_in, rename_there, rename}
use Rattle.reasons.specs.NameFlaws as name_flaws
use Rattle.reasons.specs.NameFlaws.{HasNameFlaw}
use Rattle.reasons.specs.LineFlaws as line_flaws
use Rattle.reasons.specs.LineFlaws.{HasLineFlaw}
use Rattle.reasons.specs.BlockFlaws as block_flaws
use Rattle.reasons.specs.BlockFlaws.{HasBlockFlaw, HasValueFlaw}
use Rattle.reasons.specs.EntryFlaws as entry_flaws
use Rattle.reasons.specs.EntryFlaws.{HasEntryFlaw}
use Rattle.reasons.specs.Flaws.{Flaw, CriticalControl, Name, NoEntry, Block, Value, NoRdnValue, Entry, HasFlaw, IsFirst, IsSuffix, NewRdn, BelowItself, NoSuperior, IsTaken, IsThere, NoParent, Line, Full}
use Rattle.reasons.proofs.Places.{of_block}
use Rattle.reasons.proofs.Told.{by_numbers, first_by_code}

-- what values are compared by
unfoldable on_values : ⊤
unfolding set_values type_of is_valid_at norm_at norm is_valid is_utf8 chars encode
on_values = tt

-- what names are read by, and where they lead
unfoldable on_names : ⊤
unfolding rdns_in rdn_in name_in name_of cut_raw each rdn_of ava_of ava_at value_of octets_from trimmed avas_from rdns_from located place_of below rdn_key_of key_from put_pair type_of norm is_valid is_utf8 chars encode
on_names = tt

-- ---- attribute types

-- with a syntax, an equality rule or none, one value or more, and values that users can change or can't
abbrev type_with : List ℕ → List ℕ → TypeSyntax → Option EqualityRule → Bool → Bool → AttributeType
type_with oid name syntax equality single fixed =
    record { oid = oid; names = name ∷ []; superior = None; syntax = syntax; equality = equality; is_ordered = false; has_substrings = false; single_value = single; is_fixed = fixed; is_operational = fixed }

abbrev text_type : List ℕ → List ℕ → AttributeType
text_type oid name = type_with oid name (type_syntaxes.Plain syntaxes.Text) (Some (rules.Plain families.Ignore)) false false

abbrev types : List AttributeType
types =
    object_class ∷ text_type (codes "2.5.4.3") (codes "cn") ∷ text_type (codes "2.5.4.13") (codes "description")
    ∷ type_with (codes "1.3.6.1.1.1.1.0") (codes "uidNumber") (type_syntaxes.Plain syntaxes.Integer) (Some (rules.Plain families.Integer)) true false
    ∷ type_with (codes "1.1") (codes "note") (type_syntaxes.Plain syntaxes.Text) None false false
    ∷ type_with (codes "2.5.18.1") (codes "createTimestamp") (type_syntaxes.Plain syntaxes.Octet) None true true ∷ []

abbrev conf : Conf
conf = record { types = types; suffix = ((1, codes "ex") ∷ []) ∷ []; slots = []; classes = [] }

-- ---- lines of an add

abbrev line : List ℕ → List ℕ → Attr
line name value = record { name = name; value = value }

abbrev lines : List Attr
lines =
    line (codes "objectClass") (codes "person") ∷ line (codes "cn") (codes "a b") ∷ line (codes "2.5.4.3") (codes "A  b") ∷ line (codes "cn;lang-en") (codes "a")
    ∷ line (codes "createTimestamp") (codes "2024") ∷ line (codes "uidNumber") (codes "07") ∷ []

abbrev changes : Mode
changes = modes.Changes false

-- the same value by a name and by an OID, in other letters
equal_value : HasLineFlaw conf changes lines 2 line_flaws.EqualValue
unfolding on_values
equal_value = (line (codes "2.5.4.3") (codes "A  b"), 1, (refl, refl), (1, line (codes "cn") (codes "a b"), omega arith, refl, (refl, refl)))

with_an_option : HasLineFlaw conf changes lines 3 line_flaws.UnknownType
unfolding on_values
with_an_option = (line (codes "cn;lang-en") (codes "a"), refl, refl)

not_for_users : HasLineFlaw conf changes lines 4 line_flaws.UsersCantChange
unfolding on_values
not_for_users = (line (codes "createTimestamp") (codes "2024"), 5, (refl, refl), refl)

-- an entry that is loaded has it
loaded : Not (HasLineFlaw conf modes.Content lines 4 line_flaws.UsersCantChange)
loaded h = absurd (let no = h.3 in cc)

no_integer : HasLineFlaw conf changes lines 5 line_flaws.BadSyntax
unfolding on_values
no_integer = (line (codes "uidNumber") (codes "07"), 3, (refl, refl), refl)

-- ---- blocks of a modify, and their values

abbrev block : Op → List ℕ → List (List ℕ) → Mod
block op attr values = record { op = op; attr = attr; values = values }

abbrev attrs : Attributes
attrs = (0, codes "person" ∷ []) ∷ (1, codes "a b" ∷ []) ∷ (2, codes "abcd" ∷ codes "bcde" ∷ []) ∷ (4, codes "x" ∷ []) ∷ []

abbrev no_number : Attributes
no_number = (0, codes "person" ∷ []) ∷ []

nothing_to_add : HasBlockFlaw types attrs (block Add (codes "cn") []) block_flaws.NoValues
nothing_to_add = (refl, refl)

no_rule_to_add : HasBlockFlaw types attrs (block Add (codes "note") (codes "y" ∷ [])) block_flaws.NoEquality
unfolding on_values
no_rule_to_add = (4, refl, λ h. absurd cc, refl)

-- where no note is there, there is nothing to compare with
first_notes : Not (HasBlockFlaw types no_number (block Add (codes "note") (codes "y" ∷ [])) block_flaws.NoEquality)
unfolding on_values
first_notes h = h.2 (let same : 4 ≡ h.0 = cc in ap (values_of no_number) (sym same))

no_rule_to_delete : HasBlockFlaw types no_number (block Delete (codes "note") (codes "x" ∷ [])) block_flaws.NoEquality
unfolding on_values
no_rule_to_delete = (4, refl, λ h. absurd cc, refl)

-- a replace needs none
none_to_replace : Not (HasBlockFlaw types attrs (block Replace (codes "note") (codes "y" ∷ [])) block_flaws.NoEquality)
none_to_replace h = h.2

not_there : HasBlockFlaw types no_number (block Delete (codes "description") []) block_flaws.NoAttribute
unfolding on_values
not_there = (2, refl, refl, refl)

-- in another spelling
there_already : HasValueFlaw types attrs (block Add (codes "cn") (codes "c" ∷ codes "A  b" ∷ [])) 1 block_flaws.EqualValue
unfolding on_values
there_already = (1, codes "A  b", codes "a b" ∷ codes "c" ∷ [], record { value = refl; type_id = refl; by_then = refl }, λ h. absurd cc, refl)

twice_in_a_block : HasValueFlaw types attrs (block Replace (codes "description") (codes "y" ∷ codes "Y" ∷ [])) 1 block_flaws.EqualValue
unfolding on_values
twice_in_a_block = (2, codes "Y", codes "y" ∷ [], record { value = refl; type_id = refl; by_then = refl }, λ h. absurd cc, refl)

-- it went for the value before it, and the other one is still there
gone : HasValueFlaw types attrs (block Delete (codes "description") (codes "ABCD" ∷ codes "abcd" ∷ [])) 1 block_flaws.NoValue
unfolding on_values
gone = (2, codes "abcd", codes "bcde" ∷ [], record { value = refl; type_id = refl; by_then = refl }, refl, refl)

-- ---- an entry as a whole

without_class : HasEntryFlaw conf ((1, codes "a" ∷ []) ∷ []) entry_flaws.NoObjectClass
without_class = refl

two_numbers : HasEntryFlaw conf ((0, codes "person" ∷ []) ∷ (3, codes "7" ∷ codes "8" ∷ []) ∷ []) entry_flaws.ManyValues
two_numbers = (1, (3, codes "7" ∷ codes "8" ∷ []), omega arith, refl, (refl, omega arith))

-- ---- names

not_a_name : HasNameFlaw conf (codes "no name") name_flaws.Unreadable
unfolding on_names
not_a_name n h = absurd cc

two_rdns : HasNameFlaw conf (codes "cn=a,cn=b") name_flaws.NotOneRdn
unfolding on_names
two_rdns = (((codes "cn", codes "a") ∷ []) ∷ ((codes "cn", codes "b") ∷ []) ∷ [], refl, λ r h. absurd cc)

elsewhere : HasNameFlaw conf (codes "cn=a,cn=other") name_flaws.OutsideSuffix
unfolding on_names
elsewhere = (((1, codes "a") ∷ []) ∷ ((1, codes "other") ∷ []) ∷ [], refl, refl)

-- the second AVA of the second RDN has the type of the first
type_twice : HasNameFlaw conf (codes "cn=a,cn=b+CN=c") (name_flaws.Ava 1 1 TypeTwice)
unfolding on_names
type_twice = (
  (codes "cn", codes "b") ∷ [],
  (codes "CN", codes "c"),
  record {
    name = ((codes "cn", codes "a") ∷ []) ∷ ((codes "cn", codes "b") ∷ (codes "CN", codes "c") ∷ []) ∷ [];
    spelled = refl;
    rdn = (codes "cn", codes "b") ∷ (codes "CN", codes "c") ∷ [];
    rdn_is = refl;
    ava_is = refl;
    earlier_are = refl;
  },
  (1, refl, refl),
)

-- ---- a whole record: the second block adds a value that is there, and the third would delete what isn't

abbrev suffix_entry : EntryContent
suffix_entry = record { rdn = (1, codes "ex") ∷ []; attrs = (0, codes "person" ∷ []) ∷ (1, codes "ex" ∷ []) ∷ [] }

abbrev in_order : List (Path × EntryContent)
in_order = ([], suffix_entry) ∷ []

one : Entries
one = finite.from_sorted in_order

abbrev blocks : List Mod
blocks = block Add (codes "description") (codes "x" ∷ []) ∷ block Add (codes "cn") (codes " EX" ∷ []) ∷ block Delete (codes "uidNumber") [] ∷ []

abbrev modifying : Record
modifying = records.Modify (codes "cn=ex") [] blocks

stands : finite.get one [] ≡ Some suffix_entry
unfolding one
stands = finite.get-from_sorted path_cmp in_order [] tt

refused_20 : change_of conf changes one modifying ≡ Err result.AttributeOrValueExists
unfolding on_values on_names modify_at modify_entry through modify
refused_20 = ap (modify_there conf [] blocks) stands

of_the_second_block : HasFlaw conf changes one modifying (Value 1 0 block_flaws.EqualValue)
unfolding on_values on_names
of_the_second_block = (
  block Add (codes "cn") (codes " EX" ∷ []),
  attrs_then,
  record { entry = suffix_entry; about = ([], ([], refl, refl), stands); block = refl; before_is = refl },
  (1, codes " EX", codes "ex" ∷ [], record { value = refl; type_id = refl; by_then = refl }, (λ h. absurd cc), refl),
)
  where
    attrs_then : Attributes
    attrs_then = (0, codes "person" ∷ []) ∷ (1, codes "ex" ∷ []) ∷ (2, codes "x" ∷ []) ∷ []

not_of_the_first : Not (HasFlaw conf changes one modifying (Value 0 0 block_flaws.EqualValue))
unfolding on_values on_names
not_of_the_first h =
    let flaw = of_block conf one modifying [] refl suffix_entry stands 0 (block Add (codes "description") (codes "x" ∷ [])) refl (λ m before. HasValueFlaw types before m 0 block_flaws.EqualValue) h.0 h.1 h.2 h.3 in
    let nothing : flaw.2 ≡ [] = flaw.3.by_then ∙ ap (λ (t : ℕ). values_of suffix_entry.attrs t ++ []) (same flaw.0 flaw.3.type_id) in
    let there : has_equal types flaw.0 flaw.1 [] ≡ true = ap (has_equal types flaw.0 flaw.1) (sym nothing) ∙ flaw.5 in
    absurd cc
  where
    same : (t : ℕ) → ◌≡◌ {A = Option ℕ} (Some 2) (Some t) → t ≡ 2
    same t e = cc

-- the checks of an operation's name, and those of an entry as a whole
abbrev name_first : List Flaw
name_first =
    CriticalControl ∷ Name name_flaws.Unreadable
    ∷ Name (name_flaws.Ava 0 0 UnknownType) ∷ Name (name_flaws.Ava 0 0 NameSyntax) ∷ Name (name_flaws.Ava 0 0 NoEquality) ∷ Name (name_flaws.Ava 0 0 BadValue) ∷ Name (name_flaws.Ava 0 0 TypeTwice)
    ∷ Name name_flaws.OutsideSuffix ∷ []

abbrev entry_last : List Flaw
entry_last = Entry entry_flaws.NoObjectClass ∷ Entry entry_flaws.UnknownClass ∷ Entry entry_flaws.LacksType ∷ Entry entry_flaws.TypeNotAllowed ∷ Entry entry_flaws.ManyValues ∷ []

abbrev of_block_alone : ℕ → List Flaw
of_block_alone b = Block b block_flaws.UnknownType ∷ Block b block_flaws.UsersCantChange ∷ Block b block_flaws.NoValues ∷ Block b block_flaws.NoEquality ∷ Block b block_flaws.NoAttribute ∷ []

abbrev before_first_value : List Flaw
before_first_value = name_first ++ NoEntry ∷ (of_block_alone 0 ++ Value 0 0 block_flaws.BadSyntax ∷ [])

abbrev before_second_value : List Flaw
before_second_value = Value 0 0 block_flaws.NoValue ∷ (of_block_alone 1 ++ Value 1 0 block_flaws.BadSyntax ∷ [])

abbrev behind_second_value : List Flaw
behind_second_value = Value 1 0 block_flaws.NoValue ∷ (of_block_alone 2 ++ NoRdnValue ∷ entry_last)

-- it is the first, though the third block has a flaw, too
the_second_block_first : IsFirst conf changes one modifying (Value 1 0 block_flaws.EqualValue)
unfolding on_names
the_second_block_first =
    first_by_code conf changes one modifying (before_first_value ++ Value 0 0 block_flaws.EqualValue ∷ (before_second_value ++ [])) behind_second_value (Value 1 0 block_flaws.EqualValue) refl refused_20
    of_the_second_block
    (by_numbers conf changes one modifying (Value 1 0 block_flaws.EqualValue) before_first_value (Value 0 0 block_flaws.EqualValue ∷ (before_second_value ++ [])) refl
    (inr not_of_the_first, by_numbers conf changes one modifying (Value 1 0 block_flaws.EqualValue) before_second_value [] refl tt))

-- ---- the suffix's entry isn't renamed, whatever else is wrong

abbrev renaming : Record
renaming = records.ModRdn (codes "CN = ex") [] (codes "cn=b,cn=c") true None

refused_53 : change_of conf changes one renaming ≡ Err result.UnwillingToPerform
unfolding on_names rename
refused_53 = ap (rename_there conf one [] (codes "cn=b,cn=c") true None) stands

of_the_suffix : HasFlaw conf changes one renaming IsSuffix
unfolding on_names
of_the_suffix = ([], ([], refl, refl), refl)

-- it has more flaws
of_the_new_rdn : HasFlaw conf changes one renaming (NewRdn name_flaws.NotOneRdn)
unfolding on_names
of_the_new_rdn = (((codes "cn", codes "b") ∷ []) ∷ ((codes "cn", codes "c") ∷ []) ∷ [], refl, λ r h. absurd cc)

abbrev ava_of_new : ℕ → List Flaw
ava_of_new i =
    NewRdn (name_flaws.Ava i 0 UnknownType) ∷ NewRdn (name_flaws.Ava i 0 NameSyntax) ∷ NewRdn (name_flaws.Ava i 0 NoEquality) ∷ NewRdn (name_flaws.Ava i 0 BadValue)
    ∷ NewRdn (name_flaws.Ava i 0 TypeTwice) ∷ []

the_suffix_first : IsFirst conf changes one renaming IsSuffix
unfolding on_names
the_suffix_first =
    first_by_code conf changes one renaming (name_first ++ NoEntry ∷ [])
    (NewRdn name_flaws.Unreadable ∷ NewRdn name_flaws.NotOneRdn ∷ (ava_of_new 0 ++ (ava_of_new 1 ++ BelowItself ∷ NoSuperior ∷ IsTaken ∷ entry_last))) IsSuffix refl refused_53 of_the_suffix
    (by_numbers conf changes one renaming IsSuffix (name_first ++ NoEntry ∷ []) [] refl tt)

-- ---- a load of an entry that is there

abbrev loading : Record
loading = records.Content (codes "cn=ex") (line (codes "mail") (codes "x") ∷ [])

refused_68 : change_of conf modes.Content one loading ≡ Err result.EntryAlreadyExists
unfolding on_names add add_at
refused_68 = ap (λ (o : Option EntryContent). load_where (is_some o)) stands
  where
    load_where : Bool → Result Change Code
    load_where there = cond there (Err result.EntryAlreadyExists) (add_lines modes.Content types [] (line (codes "mail") (codes "x") ∷ []) >>= λ attrs. with_entry conf one [] (entry_of conf ((1, codes "ex") ∷ []) attrs))

of_the_name : HasFlaw conf modes.Content one loading IsThere
unfolding on_names
of_the_name = ([], ([], refl, refl), ap is_some stands)

-- its line has a flaw, too
of_the_line : HasFlaw conf modes.Content one loading (Line 0 line_flaws.UnknownType)
unfolding on_values
of_the_line = (line (codes "mail") (codes "x"), refl, refl)

the_name_first : IsFirst conf modes.Content one loading IsThere
unfolding on_names
the_name_first =
    first_by_code conf modes.Content one loading name_first
    (NoParent ∷ Line 0 line_flaws.UnknownType ∷ Line 0 line_flaws.UsersCantChange ∷ Line 0 line_flaws.BadSyntax ∷ Line 0 line_flaws.EqualValue ∷ (entry_last ++ Full ∷ [])) IsThere refl refused_68 of_the_name
    (by_numbers conf modes.Content one loading IsThere name_first [] refl tt)
