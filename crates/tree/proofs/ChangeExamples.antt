-- Worked examples of changes, by computation (RFC 4511, 4.6, 4.8 and 4.9).
use Rattle.std.proofs.Common.{◌≡◌, ℕ, Bool, true, false, cond, List, [], ◌∷◌, ◌++◌, Option, Some, None, Result, Ok, Err, refl, sym, ap, ◌∙◌, map, length, not, is_some, ◌&&◌}
use Rattle.std.specs.Prelude.{codes, ⊤, T}
use Rattle.std.specs.List.{list_any}
use Rattle.std.specs.FinMap as finite
use Rattle.std.specs.FinMap.Entries.{is_sorted, put}
use Rattle.std.specs.Str.{is_utf8, chars}
use lib.Utf8.{encode}
use Rattle.ldif.specs.declared.record.Mod.{Mod}
use Rattle.ldif.specs.declared.record.Mode.{Mode}
use Rattle.ldif.specs.declared.record.Op.{Op}
use Rattle.ldif.specs.declared.record.Op.TheVariants.{Add, Delete, Replace}
use Rattle.ldif.specs.declared.record.Record.{Record}
use Rattle.ldif.specs.declared.record.Record.TheVariants as records
use Rattle.schema.specs.declared.code.Code.{Code}
use Rattle.schema.specs.declared.code.Code.TheVariants as result
use Rattle.values.specs.declared.types.TypeSyntax.{TypeSyntax}
use Rattle.values.specs.declared.types.TypeSyntax.TheVariants as type_syntaxes
use Rattle.values.specs.declared.types.EqualityRule.{EqualityRule}
use Rattle.values.specs.declared.types.EqualityRule.TheVariants as rules
use Rattle.matching.specs.declared.family.Family.TheVariants as families
use Rattle.matching.specs.declared.syntax.Syntax.TheVariants as syntaxes
use Rattle.matching.specs.Forms.{norm}
use Rattle.matching.specs.Syntaxes.{is_valid}
use Rattle.values.specs.declared.types.AttributeType.{AttributeType}
use Rattle.values.specs.Types.{type_of}
use Rattle.schema.specs.TypeRules.{object_class}
use Rattle.schema.specs.Values.{is_valid_at, norm_at}
use Rattle.schema.specs.Rdns.{TypedRdn, avas_from, put_pair, key_from, rdn_key_of}
use Rattle.schema.specs.Names.{name_in}
use Rattle.schema.specs.Conf.{Conf}
use Rattle.base.specs.Answers.{each, through, ◌>>=◌}
use Rattle.dn.specs.Reading.{octets_from, trimmed, value_of, ava_at, ava_of, cut_raw, rdn_of, name_of}
use Rattle.paths.specs.Paths.{RdnKey, Path, path_cmp, begins}
use Rattle.entries.specs.Entries.{Attribute, Attributes, EntryContent, push_value, with_rdn}
use Rattle.tree.specs.Directories.{Entries}
use Rattle.tree.specs.Changes.{Change, Put, Remove, Move, moved_path, moved_entries, moved, changed, allowed}
use Rattle.tree.specs.Trees.{is_child, has_child}
use Rattle.entries.specs.Modifies.{set_values, modify_at, modify_block, modify_entry, without_rdn, rename_entry}
use Rattle.tree.specs.Deletes.{delete_at, delete}
use Rattle.tree.specs.Renames.{rdn_in, same_path, renamed_to, rename_to, rename_below, rename_there}
use Rattle.tree.specs.Operations.{change_of}
use Rattle.tree.proofs.Order.{path_total}

-- what a modify and a rename make of an entry
unfoldable on_entries : ⊤
unfolding set_values modify_at modify_entry without_rdn rename_entry push_value with_rdn through type_of is_valid_at norm_at norm is_valid is_utf8 chars encode
on_entries = tt

-- what a new RDN is read by
unfoldable on_rdns : ⊤
unfolding rdn_in name_in name_of cut_raw each rdn_of ava_of ava_at value_of octets_from trimmed avas_from type_of norm is_valid is_utf8 chars encode
on_rdns = tt

-- ---- attribute types, and an entry

-- with a syntax, an equality rule or none, one value or more, and values that users can change or can't
abbrev type_with : List ℕ → List ℕ → TypeSyntax → Option EqualityRule → Bool → Bool → AttributeType
type_with oid name syntax equality single fixed =
    record { oid = oid; names = name ∷ []; superior = None; syntax = syntax; equality = equality; is_ordered = false; has_substrings = false; single_value = single; is_fixed = fixed; is_operational = fixed }

abbrev text_type : List ℕ → List ℕ → AttributeType
text_type oid name = type_with oid name (type_syntaxes.Plain syntaxes.Text) (Some (rules.Plain families.Ignore)) false false

abbrev types : List AttributeType
types =
    object_class ∷ text_type (codes "2.5.4.3") (codes "cn") ∷ text_type (codes "2.5.4.4") (codes "sn") ∷ text_type (codes "2.5.4.13") (codes "description")
    ∷ type_with (codes "1.3.6.1.1.1.1.0") (codes "uidNumber") (type_syntaxes.Plain syntaxes.Integer) (Some (rules.Plain families.Integer)) true false
    ∷ type_with (codes "1.1") (codes "note") (type_syntaxes.Plain syntaxes.Text) None false false
    ∷ type_with (codes "2.5.18.1") (codes "createTimestamp") (type_syntaxes.Plain syntaxes.Octet) None true true ∷ []

abbrev conf : Conf
conf = record { types = types; suffix = ((1, codes "ex") ∷ []) ∷ []; slots = []; classes = [] }

abbrev with_values : ℕ → List (List ℕ) → Attribute
with_values t vs = (t, vs)

abbrev person : Attribute
person = with_values 0 (codes "person" ∷ [])

abbrev cn : List ℕ → Attribute
cn value = with_values 1 (value ∷ [])

abbrev descriptions : List (List ℕ) → Attribute
descriptions vs = with_values 3 vs

abbrev entry_with : TypedRdn → Attributes → EntryContent
entry_with rdn attrs = record { rdn = rdn; attrs = attrs }

abbrev block : Op → List ℕ → List (List ℕ) → Mod
block op attr values = record { op = op; attr = attr; values = values }

abbrev left : Attributes → Result Attributes Code
left attrs = Ok attrs

abbrev refused : {A : Type 0} → Code → Result A Code
refused code = Err code

abbrev left_as : EntryContent → Result EntryContent Code
left_as e = Ok e

-- ---- the checks of a block

unknown_type : (attrs : Attributes) → modify_block types attrs (block Add (codes "cn;x") (codes "a" ∷ [])) ≡ refused result.UndefinedAttributeType
unfolding on_entries
unknown_type attrs = refl

-- whatever is there, and before a want of values
no_user_modification : (attrs : Attributes) → modify_block types attrs (block Add (codes "createTimestamp") []) ≡ refused result.ConstraintViolation
unfolding on_entries
no_user_modification attrs = refl

-- ---- blocks that add

abbrev a_b : Attributes
a_b = person ∷ cn (codes "a b") ∷ []

without_values : (attrs : Attributes) → modify_block types attrs (block Add (codes "description") []) ≡ refused result.ProtocolError
unfolding on_entries
without_values attrs = refl

-- a new attribute goes last, with its values in the block's order
comes_last : modify_block types a_b (block Add (codes "DESCRIPTION") (codes "y" ∷ codes "x" ∷ [])) ≡ left (person ∷ cn (codes "a b") ∷ with_values 3 (codes "y" ∷ codes "x" ∷ []) ∷ [])
unfolding on_entries
comes_last = refl

in_another_spelling : modify_block types a_b (block Add (codes "cn") (codes "A  b" ∷ [])) ≡ refused result.AttributeOrValueExists
unfolding on_entries
in_another_spelling = refl

twice_in_a_block : modify_block types a_b (block Add (codes "sn") (codes "s" ∷ codes "S" ∷ [])) ≡ refused result.AttributeOrValueExists
unfolding on_entries
twice_in_a_block = refl

-- ---- a type without an equality rule

abbrev noted : Attributes
noted = person ∷ with_values 5 (codes "x" ∷ []) ∷ []

no_rule_to_add : modify_block types noted (block Add (codes "note") (codes "y" ∷ [])) ≡ refused result.InappropriateMatching
unfolding on_entries
no_rule_to_add = refl

-- where none is there, equal values are those of the same bytes
first_notes : modify_block types a_b (block Add (codes "note") (codes "y" ∷ codes "Y" ∷ [])) ≡ left (person ∷ cn (codes "a b") ∷ with_values 5 (codes "y" ∷ codes "Y" ∷ []) ∷ [])
unfolding on_entries
first_notes = refl

no_rule_to_delete : modify_block types noted (block Delete (codes "note") (codes "x" ∷ [])) ≡ refused result.InappropriateMatching
unfolding on_entries
no_rule_to_delete = refl

delete_all : modify_block types noted (block Delete (codes "note") []) ≡ left (person ∷ [])
unfolding on_entries
delete_all = refl

-- ---- blocks that delete or replace

-- descriptions before the name
abbrev described : Attributes
described = person ∷ with_values 3 (codes "abcd" ∷ codes "bcde" ∷ []) ∷ cn (codes "a") ∷ []

others_stay : modify_block types described (block Delete (codes "description") (codes "ABCD" ∷ [])) ≡ left (person ∷ with_values 3 (codes "bcde" ∷ []) ∷ cn (codes "a") ∷ [])
unfolding on_entries
others_stay = refl

delete_the_last : modify_block types described (block Delete (codes "description") (codes "bcde" ∷ codes "abcd" ∷ [])) ≡ left (person ∷ cn (codes "a") ∷ [])
unfolding on_entries
delete_the_last = refl

value_not_there : modify_block types described (block Delete (codes "description") (codes "abcd" ∷ codes "abcd" ∷ [])) ≡ refused result.NoSuchAttribute
unfolding on_entries
value_not_there = refl

attribute_not_there : modify_block types described (block Delete (codes "sn") []) ≡ refused result.NoSuchAttribute
unfolding on_entries
attribute_not_there = refl

keeps_the_place : modify_block types described (block Replace (codes "description") (codes "z" ∷ codes "ABCD" ∷ [])) ≡ left (person ∷ with_values 3 (codes "z" ∷ codes "ABCD" ∷ []) ∷ cn (codes "a") ∷ [])
unfolding on_entries
keeps_the_place = refl

replaced_by_none : modify_block types described (block Replace (codes "description") []) ≡ left (person ∷ cn (codes "a") ∷ [])
unfolding on_entries
replaced_by_none = refl

nothing_to_replace : modify_block types a_b (block Replace (codes "description") []) ≡ left a_b
unfolding on_entries
nothing_to_replace = refl

no_number : (attrs : Attributes) → modify_block types attrs (block Replace (codes "uidNumber") (codes "07" ∷ [])) ≡ refused result.InvalidAttributeSyntax
unfolding on_entries
no_number attrs = refl

-- ---- blocks of an entry, and a look at the whole

abbrev named : List ℕ → Attributes → EntryContent
named value attrs = record { rdn = (1, value) ∷ []; attrs = attrs }

-- the RDN's value goes and comes back in another spelling, behind what was there; the RDN keeps its own
name_comes_back : modify_entry conf (named (codes "a") described) (block Delete (codes "cn") [] ∷ block Delete (codes "description") [] ∷ block Add (codes "cn") (codes "A" ∷ []) ∷ []) ≡ left_as (named (codes "a") (person ∷ cn (codes "A") ∷ []))
unfolding on_entries
name_comes_back = refl

-- the second block's, though the first is fine
first_fault : modify_entry conf (named (codes "a b") a_b) (block Add (codes "description") (codes "x" ∷ []) ∷ block Add (codes "cn") (codes "A  b" ∷ []) ∷ block Delete (codes "sn") [] ∷ []) ≡ refused result.AttributeOrValueExists
unfolding on_entries
first_fault = refl

-- before a want of objectClass
without_its_name : modify_entry conf (named (codes "a b") a_b) (block Delete (codes "cn") [] ∷ block Delete (codes "objectClass") [] ∷ []) ≡ refused result.NotAllowedOnRdn
unfolding on_entries
without_its_name = refl

-- before two values of a type that has one at most
without_class : modify_entry conf (named (codes "a b") a_b) (block Delete (codes "objectClass") [] ∷ block Add (codes "uidNumber") (codes "7" ∷ codes "8" ∷ []) ∷ []) ≡ refused result.ObjectClassViolation
unfolding on_entries
without_class = refl

two_numbers : modify_entry conf (named (codes "a b") a_b) (block Add (codes "uidNumber") (codes "7" ∷ codes "8" ∷ []) ∷ []) ≡ refused result.ConstraintViolation
unfolding on_entries
two_numbers = refl

-- the end alone is looked at
one_number : modify_entry conf (named (codes "a b") a_b) (block Add (codes "uidNumber") (codes "7" ∷ codes "8" ∷ []) ∷ block Delete (codes "uidNumber") (codes "7" ∷ []) ∷ []) ≡ left_as (named (codes "a b") (person ∷ cn (codes "a b") ∷ with_values 4 (codes "8" ∷ []) ∷ []))
unfolding on_entries
one_number = refl

-- ---- another RDN

abbrev both_names : EntryContent
both_names = record { rdn = (1, codes "a") ∷ (2, codes "b") ∷ []; attrs = person ∷ cn (codes "a") ∷ with_values 2 (codes "b" ∷ []) ∷ [] }

-- what the new RDN has, too, stays
old_value_goes : rename_entry conf both_names ((1, codes "a") ∷ []) true ≡ left_as (named (codes "a") (person ∷ cn (codes "a") ∷ []))
unfolding on_entries
old_value_goes = refl

old_value_stays : rename_entry conf both_names ((1, codes "a") ∷ []) false ≡ left_as (named (codes "a") (person ∷ cn (codes "a") ∷ with_values 2 (codes "b" ∷ []) ∷ []))
unfolding on_entries
old_value_stays = refl

-- the RDN alone takes the new spelling
new_spelling : rename_entry conf (named (codes "Bob") (person ∷ cn (codes "Bob") ∷ [])) ((1, codes "bob") ∷ []) true ≡ left_as (named (codes "bob") (person ∷ cn (codes "Bob") ∷ []))
unfolding on_entries
new_spelling = refl

-- the new value comes behind the old one, which then goes, and the attribute keeps its place
new_value_in_place : rename_entry conf (named (codes "a") (cn (codes "a") ∷ person ∷ [])) ((1, codes "b") ∷ []) true ≡ left_as (named (codes "b") (cn (codes "b") ∷ person ∷ []))
unfolding on_entries
new_value_in_place = refl

one_value_too_many : rename_entry conf (named (codes "a") (person ∷ cn (codes "a") ∷ with_values 4 (codes "7" ∷ []) ∷ [])) ((4, codes "8") ∷ []) true ≡ refused result.ConstraintViolation
unfolding on_entries
one_value_too_many = refl

-- ---- where it may stand

-- the suffix's entry, before the new RDN is read
the_suffix : (d : Entries) (e : EntryContent) → rename_there conf d [] (codes "no name") true None (Some e) ≡ refused result.UnwillingToPerform
the_suffix d e = refl

two_rdns : rdn_in conf (codes "cn=a,cn=b") ≡ refused result.InvalidDnSyntax
unfolding on_rdns
two_rdns = refl

no_rdn : rdn_in conf (codes " ") ≡ refused result.InvalidDnSyntax
unfolding on_rdns
no_rdn = refl

abbrev step : List ℕ → RdnKey
step value = (1, value) ∷ []

another_spelling_stays : (e : EntryContent) → renamed_to (step (codes "bob") ∷ []) (step (codes "bob") ∷ []) e ≡ Put (step (codes "bob") ∷ []) e
another_spelling_stays e = refl

another_name_moves : (e : EntryContent) → renamed_to (step (codes "a") ∷ []) (step (codes "a") ∷ step (codes "b") ∷ []) e ≡ Move (step (codes "a") ∷ []) (step (codes "a") ∷ step (codes "b") ∷ []) e
another_name_moves e = refl

-- ---- a directory: the suffix's entry, a and b below it, and c below a

abbrev at_a : Path
at_a = step (codes "a") ∷ []

abbrev at_b : Path
at_b = step (codes "b") ∷ []

abbrev at_c : Path
at_c = step (codes "a") ∷ step (codes "c") ∷ []

abbrev person_named : List ℕ → EntryContent
person_named value = record { rdn = (1, value) ∷ []; attrs = person ∷ cn value ∷ [] }

abbrev in_order : List (Path × EntryContent)
in_order = ([], person_named (codes "ex")) ∷ (at_a, person_named (codes "a")) ∷ (at_c, person_named (codes "c")) ∷ (at_b, person_named (codes "b")) ∷ []

four : Entries
four = finite.from_sorted in_order

stands : (p : Path) → finite.contains_key four p ≡ is_some (finite.find path_cmp p in_order)
unfolding four
stands p = ap is_some (finite.get-from_sorted path_cmp in_order p tt)

children : (p : Path) → has_child four p ≡ list_any (is_child p) (map (λ x. x.0) in_order)
unfolding four
children p = ap (λ es. list_any (is_child p) (map (λ x. x.0) es)) (finite.entries-from_sorted path_cmp in_order tt)

-- ---- deleting

abbrev delete_where : Bool → Bool → Path → Result Change Code
delete_where there child p = cond (not there) (Err result.NoSuchObject) (cond child (Err result.NotAllowedOnNonLeaf) (Ok (Remove p)))

delete_seen : (p : Path) → delete_at four p ≡ delete_where (is_some (finite.find path_cmp p in_order)) (list_any (is_child p) (map (λ x. x.0) in_order)) p
delete_seen p = ap (λ b. delete_where b (has_child four p) p) (stands p) ∙ ap (λ b. delete_where (is_some (finite.find path_cmp p in_order)) b p) (children p)

with_children : delete_at four [] ≡ refused result.NotAllowedOnNonLeaf
with_children = delete_seen []

with_a_child : delete_at four at_a ≡ refused result.NotAllowedOnNonLeaf
with_a_child = delete_seen at_a

a_leaf_goes : delete_at four at_c ≡ allowed (Remove at_c)
a_leaf_goes = delete_seen at_c

not_there : delete_at four (step (codes "c") ∷ []) ≡ refused result.NoSuchObject
not_there = delete_seen (step (codes "c") ∷ [])

-- ---- moving to an RDN below a path

abbrev rename_where : Bool → Bool → Result Change Code → Result Change Code
rename_where inside there rest = cond inside (Err result.UnwillingToPerform) (cond (not there) (Err result.NoSuchObject) rest)

-- b, with what a look at the other entries finds
rename_b : (new : TypedRdn) (delete_old : Bool) (upper : Path) → rename_below conf four at_b (person_named (codes "b")) new delete_old upper ≡ rename_where (begins at_b upper) (is_some (finite.find path_cmp upper in_order)) (rename_to conf four at_b (person_named (codes "b")) new delete_old (upper ++ rdn_key_of types new ∷ []))
rename_b new delete_old upper =
    ap (λ b. rename_where (begins at_b upper) b (rename_to conf four at_b (person_named (codes "b")) new delete_old (upper ++ rdn_key_of types new ∷ []))) (stands upper)

-- a, with what stands below it
below_its_child : (new : TypedRdn) (delete_old : Bool) → rename_below conf four at_a (person_named (codes "a")) new delete_old at_c ≡ refused result.UnwillingToPerform
below_its_child new delete_old = refl

child_goes_along : moved_path at_a (step (codes "z") ∷ []) at_c ≡ step (codes "z") ∷ step (codes "c") ∷ []
child_goes_along = refl

other_stays : moved_path at_a (step (codes "z") ∷ []) at_b ≡ at_b
other_stays = refl

below_itself : (new : TypedRdn) (delete_old : Bool) → rename_below conf four at_b (person_named (codes "b")) new delete_old at_b ≡ refused result.UnwillingToPerform
below_itself new delete_old = rename_b new delete_old at_b

-- also where no such entry is
far_below_itself : (new : TypedRdn) (delete_old : Bool) → rename_below conf four at_b (person_named (codes "b")) new delete_old (step (codes "b") ∷ step (codes "x") ∷ []) ≡ refused result.UnwillingToPerform
far_below_itself new delete_old = rename_b new delete_old (step (codes "b") ∷ step (codes "x") ∷ [])

below_nothing : (new : TypedRdn) (delete_old : Bool) → rename_below conf four at_b (person_named (codes "b")) new delete_old (step (codes "no") ∷ []) ≡ refused result.NoSuchObject
below_nothing new delete_old = rename_b new delete_old (step (codes "no") ∷ [])

abbrev move_where : Bool → Path → TypedRdn → Bool → Result Change Code
move_where there q new delete_old = cond (not (same_path at_b q) && there) (Err result.EntryAlreadyExists) (rename_entry conf (person_named (codes "b")) new delete_old >>= λ e. Ok (renamed_to at_b q e))

name_taken : (new : TypedRdn) (delete_old : Bool) → rename_to conf four at_b (person_named (codes "b")) new delete_old at_a ≡ refused result.EntryAlreadyExists
name_taken new delete_old = ap (λ b. move_where b at_a new delete_old) (stands at_a)

-- with its new RDN's spelling
comes_below : rename_below conf four at_b (person_named (codes "b")) ((1, codes "B") ∷ []) false at_a ≡ allowed (Move at_b (step (codes "a") ∷ step (codes "b") ∷ []) (named (codes "B") (person ∷ cn (codes "b") ∷ [])))
unfolding on_entries rdn_key_of key_from put_pair
comes_below = rename_b ((1, codes "B") ∷ []) false at_a ∙ ap (λ b. move_where b (step (codes "a") ∷ step (codes "b") ∷ []) ((1, codes "B") ∷ []) false) (stands (step (codes "a") ∷ step (codes "b") ∷ []))

-- ---- moving with those below: the suffix's entry, aba, abba, abc bcd and Bob below it, and k below Bob

abbrev at_aba : Path
at_aba = step (codes "aba") ∷ []

abbrev at_abba : Path
at_abba = step (codes "abba") ∷ []

abbrev at_abc : Path
at_abc = step (codes "abc bcd") ∷ []

abbrev at_bob : Path
at_bob = step (codes "bob") ∷ []

abbrev at_al : Path
at_al = step (codes "al") ∷ []

abbrev bob_below_aba : Path
bob_below_aba = step (codes "aba") ∷ step (codes "bob") ∷ []

abbrev k_below : Path → Path
k_below p = p ++ step (codes "k") ∷ []

abbrev numbered_seven : List ℕ → EntryContent
numbered_seven value = named value (person ∷ with_values 4 (codes "7" ∷ []) ∷ cn value ∷ [])

-- six things at the paths of a directory
abbrev six_at : {X : Type 0} → Path → Path → X → X → X → X → X → X → List (Path × X)
six_at p q ex aba abba abc at_p at_q = ([], ex) ∷ (at_aba, aba) ∷ (at_abba, abba) ∷ (at_abc, abc) ∷ (p, at_p) ∷ (q, at_q) ∷ []

abbrev six_in_order : List (Path × EntryContent)
six_in_order = six_at at_bob (k_below at_bob) (person_named (codes "ex")) (person_named (codes "aba")) (person_named (codes "abba")) (person_named (codes "abc bcd")) (numbered_seven (codes "Bob")) (person_named (codes "k"))

abbrev six_numbers : List (Path × ℕ)
six_numbers = six_at at_bob (k_below at_bob) 0 1 2 3 4 5

six : Entries
six = finite.from_sorted six_in_order

six_stands : (p : Path) → finite.contains_key six p ≡ is_some (finite.find path_cmp p six_in_order)
unfolding six
six_stands p = ap is_some (finite.get-from_sorted path_cmp six_in_order p tt)

abbrev bob_where : Bool → Path → TypedRdn → Bool → Result Change Code
bob_where there q new delete_old = cond (not (same_path at_bob q) && there) (Err result.EntryAlreadyExists) (rename_entry conf (numbered_seven (codes "Bob")) new delete_old >>= λ e. Ok (renamed_to at_bob q e))

bob_gets_another_name : rename_below conf six at_bob (numbered_seven (codes "Bob")) ((1, codes "Al") ∷ []) true [] ≡ allowed (Move at_bob at_al (numbered_seven (codes "Al")))
unfolding on_entries rdn_key_of key_from put_pair
bob_gets_another_name =
    ap (λ b. rename_where false b (rename_to conf six at_bob (numbered_seven (codes "Bob")) ((1, codes "Al") ∷ []) true at_al)) (six_stands [])
    ∙ ap (λ b. bob_where b at_al ((1, codes "Al") ∷ []) true) (six_stands at_al)

bob_below_k : (new : TypedRdn) (delete_old : Bool) → rename_below conf six at_bob (numbered_seven (codes "Bob")) new delete_old (k_below at_bob) ≡ refused result.UnwillingToPerform
bob_below_k new delete_old = refl

bob_comes_below_aba : rename_below conf six at_bob (numbered_seven (codes "Bob")) ((1, codes "Bob") ∷ []) false at_aba ≡ allowed (Move at_bob bob_below_aba (numbered_seven (codes "Bob")))
unfolding on_entries rdn_key_of key_from put_pair
bob_comes_below_aba =
    ap (λ b. rename_where false b (rename_to conf six at_bob (numbered_seven (codes "Bob")) ((1, codes "Bob") ∷ []) false bob_below_aba)) (six_stands at_aba)
    ∙ ap (λ b. bob_where b bob_below_aba ((1, codes "Bob") ∷ []) false) (six_stands bob_below_aba)

-- a list put into a map one by one, in the order of the map
abbrev put_in : {X : Type 0} → List (Path × X) → List (Path × X)
put_in [] = []
put_in (e ∷ es) = put path_cmp e.0 e.1 (put_in es)

nothing_in : {X : Type 0} → finite.entries (finite.empty {X = X} {R = path_cmp}) ≡ []
nothing_in =
    ap finite.entries (sym (finite.empty_of_len (finite.from_sorted []) (finite.len-entries (finite.from_sorted []) ∙ ap length (finite.entries-from_sorted path_cmp [] tt))))
    ∙ finite.entries-from_sorted path_cmp [] tt

shown : {X : Type 0} (es : List (Path × X)) → finite.entries (finite.from_entries {R = path_cmp} es) ≡ put_in es
shown [] = nothing_in
shown (e ∷ es) = finite.entries-insert path_total (finite.from_entries es) e.0 e.1 ∙ ap (put path_cmp e.0 e.1) (shown es)

moved_shown : {X : Type 0} (from to : Path) (x : X) (es : List (Path × X)) → T (is_sorted path_cmp es) → finite.entries (finite.insert (moved from to (finite.from_sorted es)) to x) ≡ put path_cmp to x (put_in (moved_entries from to es))
moved_shown from to x es rising =
    finite.entries-insert path_total (moved from to (finite.from_sorted es)) to x
    ∙ ap (put path_cmp to x) (shown (moved_entries from to (finite.entries (finite.from_sorted es))) ∙ ap (λ xs. put_in (moved_entries from to xs)) (finite.entries-from_sorted path_cmp es rising))

-- the whole directory, in the order of the dump
all_have_the_other_name : finite.entries (changed six (Move at_bob at_al (numbered_seven (codes "Al"))))
    ≡ six_at at_al (k_below at_al) (person_named (codes "ex")) (person_named (codes "aba")) (person_named (codes "abba")) (person_named (codes "abc bcd")) (numbered_seven (codes "Al")) (person_named (codes "k"))
unfolding six
all_have_the_other_name = moved_shown at_bob at_al (numbered_seven (codes "Al")) six_in_order tt

all_are_below_aba : finite.entries (changed six (Move at_bob bob_below_aba (numbered_seven (codes "Bob"))))
    ≡ ([], person_named (codes "ex")) ∷ (at_aba, person_named (codes "aba")) ∷ (bob_below_aba, numbered_seven (codes "Bob")) ∷ (k_below bob_below_aba, person_named (codes "k")) ∷ (at_abba, person_named (codes "abba")) ∷ (at_abc, person_named (codes "abc bcd")) ∷ []
unfolding six
all_are_below_aba = moved_shown at_bob bob_below_aba (numbered_seven (codes "Bob")) six_in_order tt

-- each with its number
numbers_go_along : finite.entries (finite.insert (moved at_bob bob_below_aba (finite.from_sorted six_numbers)) bob_below_aba 4)
    ≡ ([], 0) ∷ (at_aba, 1) ∷ (bob_below_aba, 4) ∷ (k_below bob_below_aba, 5) ∷ (at_abba, 2) ∷ (at_abc, 3) ∷ []
numbers_go_along = moved_shown at_bob bob_below_aba 4 six_numbers tt

-- ---- controls

abbrev delete_under : Bool → Record
delete_under critical = records.Delete (codes "cn=b,cn=ex") (record { oid = codes "1.2.3"; critical = critical; value = None } ∷ [])

-- whatever else is wrong
critical_control : (d : Entries) (mode : Mode) → change_of conf mode d (delete_under true) ≡ refused result.UnavailableCriticalExtension
critical_control d mode = refl

control_ignored : (d : Entries) (mode : Mode) → change_of conf mode d (delete_under false) ≡ delete conf d (codes "cn=b,cn=ex")
control_ignored d mode = refl
