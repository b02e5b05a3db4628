-- Worked examples, by computation.
use Rattle.std.proofs.Common.{◌≡◌, ℕ, true, false, not, List, [], ◌∷◌, Some, None, refl, ap}
use Rattle.std.specs.Prelude.{codes, ⊤}
use Rattle.std.specs.FinMap as finite
use Rattle.std.specs.Str.{is_utf8, chars}
use lib.Utf8.{encode}
use Rattle.base.specs.Answers.{each}
use Rattle.matching.specs.declared.family.Family.TheVariants as families
use Rattle.matching.specs.declared.syntax.Syntax.TheVariants as syntaxes
use Rattle.matching.specs.Forms.{norm}
use Rattle.matching.specs.Syntaxes.{is_valid}
use Rattle.dn.specs.Reading as names
use Rattle.dn.specs.Reading.{octets_from, trimmed, ava_at, ava_of, cut_raw, rdn_of, name_of}
use Rattle.dn.specs.Writing.{text_of, text_from, written}
use Rattle.values.specs.declared.types.TypeSyntax.TheVariants as type_syntaxes
use Rattle.values.specs.declared.types.EqualityRule.TheVariants as rules
use Rattle.values.specs.declared.types.AttributeType.{AttributeType}
use Rattle.values.specs.Types.{type_of}
use Rattle.paths.specs.Paths.{Path}
use Rattle.schema.specs.TypeRules.{object_class}
use Rattle.schema.specs.Names.{name_in}
use Rattle.schema.specs.Rdns.{avas_from, rdns_from, put_pair, key_from, rdn_key_of}
use Rattle.schema.specs.Values.{norm_at, rdns_in, normal_text, normal_name}
use Rattle.schema.specs.Conf.{Conf, below, place_of, located}
use Rattle.tree.specs.Directories.{Entries}
use Rattle.checks.specs.declared.shared_value.SharedValue.{SharedValue}
use Rattle.checks.specs.References.{is_looked_at, names_no_entry}
use Rattle.checks.specs.Sharing.{Placed, shared_among}

-- where a name stands
unfoldable on_names : ⊤
unfolding is_utf8 chars encode each octets_from trimmed names.value_of ava_at ava_of cut_raw rdn_of name_of name_in avas_from rdns_from put_pair key_from rdn_key_of below place_of located type_of norm is_valid
on_names = tt

-- how a name is compared
unfoldable on_norms : ⊤
unfolding norm_at rdns_in normal_text normal_name written text_from text_of
on_norms = tt

-- a type of text
abbrev text_type : List ℕ → List ℕ → AttributeType
text_type oid name = record { oid = oid; names = name ∷ []; superior = None; syntax = type_syntaxes.Plain syntaxes.Text; equality = Some (rules.Plain families.Ignore); is_ordered = false; has_substrings = false; single_value = false; is_fixed = false; is_operational = false }

-- objectClass and the types dc and cn; member, of names; note, without a rule
abbrev types : List AttributeType
types =
    object_class ∷ text_type (codes "0.9.2342.19200300.100.1.25") (codes "dc") ∷ text_type (codes "2.5.4.3") (codes "cn")
    ∷ record (text_type (codes "2.5.4.31") (codes "member")) { syntax = type_syntaxes.Name; equality = Some rules.Name }
    ∷ record (text_type (codes "1.1.1") (codes "note")) { equality = None } ∷ []

-- below dc=ex
abbrev conf : Conf
conf = record { types = types; suffix = ((1, codes "ex") ∷ []) ∷ []; slots = []; classes = [] }

abbrev at_ann : Path
at_ann = ((2, codes "ann") ∷ []) ∷ []

-- ---- references

-- however a name is spelled, it dangles where no entry of this name is there
dangles : (d : Entries) → finite.contains_key d at_ann ≡ false → names_no_entry conf d (codes "CN = Ann , DC=EX") ≡ true
unfolding on_names
dangles d none = ap not none

names_an_entry : (d : Entries) → finite.contains_key d at_ann ≡ true → names_no_entry conf d (codes "cn=ANN,dc=ex") ≡ false
unfolding on_names
names_an_entry d there = ap not there

-- the suffix's own entry may be missing
names_the_root : (d : Entries) → finite.contains_key d [] ≡ false → names_no_entry conf d (codes "dc=Ex") ≡ true
unfolding on_names
names_the_root d none = ap not none

-- below another suffix, above this one, and the empty name
below_another : (d : Entries) → names_no_entry conf d (codes "cn=ann,dc=other") ≡ false
unfolding on_names
below_another d = refl

empty_name : (d : Entries) → names_no_entry conf d [] ≡ false
unfolding on_names
empty_name d = refl

-- all types of names, or those that are named
all_names : is_looked_at types [] 3 ≡ true
all_names = refl

no_text : is_looked_at types [] 2 ≡ false
no_text = refl

named : is_looked_at types (2 ∷ 3 ∷ []) 3 ≡ true
named = refl

not_named : is_looked_at types (2 ∷ []) 3 ≡ false
not_named = refl

text_is_named : is_looked_at types (2 ∷ []) 2 ≡ false
text_is_named = refl

-- ---- shared values

abbrev entry : Path → List ℕ → List (List ℕ) → Placed
entry p cn notes = (p, record { rdn = (2, cn) ∷ []; attrs = (2, cn ∷ []) ∷ (4, notes) ∷ [] })

-- a path below the root, by its last step
abbrev at : List ℕ → Path
at name = ((2, name) ∷ []) ∷ []

abbrev three : List Placed
three =
    entry (at (codes "a")) (codes "Ann") (codes "x" ∷ codes "y" ∷ [])
    ∷ entry (at (codes "b")) (codes "bob") (codes "Y" ∷ codes "x" ∷ [])
    ∷ entry (at (codes "c")) (codes " ANN ") (codes "x" ∷ codes "z" ∷ []) ∷ []

abbrev shares : List ℕ → List Path → SharedValue
shares value paths = record { value = value; paths = paths }

-- by the rule, as the first spells it
by_rule : shared_among types three 2 ≡ shares (codes "Ann") (at (codes "a") ∷ at (codes "c") ∷ []) ∷ []
unfolding norm_at norm
by_rule = refl

-- without one, by the bytes
by_bytes : shared_among types three 4 ≡ shares (codes "x") (at (codes "a") ∷ at (codes "b") ∷ at (codes "c") ∷ []) ∷ []
unfolding norm_at
by_bytes = refl

-- of a type that no entry has
none_has : shared_among types three 3 ≡ []
unfolding norm_at
none_has = refl
