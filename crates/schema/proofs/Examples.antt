-- Worked examples, by computation.
use Rattle.std.proofs.Common.{◌≡◌, ℕ, false, List, [], ◌∷◌, Option, Result, refl}
use Rattle.std.specs.Prelude.{⊤, codes, Some, None, Err}
use Rattle.std.specs.Str.{is_utf8, chars}
use lib.Utf8.{encode}
use Rattle.std.specs.declared.cmp.Ordering.TheVariants.{Less, Greater}
use Rattle.schema.specs.declared.code.Code.{Code}
use Rattle.schema.specs.declared.code.Code.TheVariants.{InvalidDnSyntax, NamingViolation, NoSuchObject}
use Rattle.values.specs.declared.types.TypeSyntax.{TypeSyntax}
use Rattle.values.specs.declared.types.TypeSyntax.TheVariants as type_syntaxes
use Rattle.values.specs.declared.types.EqualityRule.{EqualityRule}
use Rattle.values.specs.declared.types.EqualityRule.TheVariants as rules
use Rattle.matching.specs.declared.family.Family.TheVariants as families
use Rattle.matching.specs.declared.syntax.Syntax.TheVariants as syntaxes
use Rattle.matching.specs.Forms.{norm}
use Rattle.matching.specs.Syntaxes.{is_valid}
use Rattle.base.specs.Answers.{each}
use Rattle.dn.specs.Reading.{octets_from, trimmed, value_of, ava_at, ava_of, cut_raw, rdn_of, name_of}
use Rattle.values.specs.declared.types.AttributeType.{AttributeType}
use Rattle.values.specs.Types.{type_of}
use Rattle.schema.specs.TypeRules.{object_class}
use Rattle.paths.specs.Paths.{RdnKey, path_cmp}
use Rattle.schema.specs.Names.{name_in}
use Rattle.schema.specs.Rdns.{TypedRdn, avas_from, rdns_from, put_pair, key_from, rdn_key_of}
use Rattle.schema.specs.Conf.{Conf, below, place_of, located, located_at, path_of}

abbrev pub step : ℕ → List ℕ → RdnKey
step t value = (t, value) ∷ []

-- the number of the type comes before the value
pub type_before_value : path_cmp (step 1 (codes "z") ∷ []) (step 2 (codes "a") ∷ []) ≡ Less
type_before_value = refl

pub beginning_first : path_cmp (step 2 (codes "a") ∷ step 3 (codes "z") ∷ []) (step 2 (codes "a b") ∷ []) ≡ Less
beginning_first = refl

pub root_first : path_cmp (step 0 (codes "a") ∷ []) [] ≡ Greater
root_first = refl

-- ---- names under a configuration

-- a type with a syntax, and an equality rule or none
abbrev pub type_with : List ℕ → List ℕ → TypeSyntax → Option EqualityRule → AttributeType
type_with oid name syntax equality =
    record { oid = oid; names = name ∷ []; superior = None; syntax = syntax; equality = equality; is_ordered = false; has_substrings = false; single_value = false; is_fixed = false; is_operational = false }

-- objectClass, x and y, one whose values are names, one without a rule, one of numbers; below objectClass=top
abbrev pub conf : Conf
conf = record {
  types =
      object_class ∷ type_with (codes "1.2") (codes "x") (type_syntaxes.Plain syntaxes.Text) (Some (rules.Plain families.Ignore)) ∷ type_with (codes "1.3") (codes "y") (type_syntaxes.Plain syntaxes.Octet) (Some (rules.Plain families.Octet))
      ∷ type_with (codes "1.4") (codes "d") type_syntaxes.Name None ∷ type_with (codes "1.5") (codes "n") (type_syntaxes.Plain syntaxes.Integer) None ∷ type_with (codes "1.6") (codes "i") (type_syntaxes.Plain syntaxes.Integer) (Some (rules.Plain families.Integer)) ∷ [];
  suffix = step 0 (codes "top") ∷ [];
  slots = [];
  classes = [];
}

-- what a name's text is read by
unfoldable reads : ⊤
unfolding located place_of name_in avas_from rdns_from below name_of cut_raw each rdn_of ava_of ava_at value_of octets_from trimmed type_of rdn_key_of key_from put_pair norm is_valid is_utf8 chars encode
reads = tt

abbrev refused : Code → Result (List TypedRdn) Code
refused code = Err code

a_name_stands : located conf (codes "2.5.4.0=Person,OBJECTCLASS=Top") ≡ located_at (step 0 (codes "Person") ∷ [])
unfolding reads
a_name_stands = refl

-- spaces and escapes
spaces_and_escapes : located conf (codes " x = a\\2Cb\\  , objectClass = top ") ≡ located_at (step 1 (codes "a,b ") ∷ [])
unfolding reads
spaces_and_escapes = refl

-- two AVAs, in the order written
two_avas : located conf (codes "y=b+x=a,objectClass=top") ≡ located_at (((2, codes "b") ∷ (1, codes "a") ∷ []) ∷ [])
unfolding reads
two_avas = refl

-- the suffix's own name
the_suffix : located conf (codes "objectClass=TOP") ≡ located_at []
unfolding reads
the_suffix = refl

beside_the_suffix : located conf (codes "objectClass=top,objectClass=domain") ≡ refused NoSuchObject
unfolding reads
beside_the_suffix = refl

the_empty_name : located conf (codes " ") ≡ refused NoSuchObject
unfolding reads
the_empty_name = refl

no_name : located conf (codes "x;a,objectClass=top") ≡ refused InvalidDnSyntax
unfolding reads
no_name = refl

not_utf8 : located conf (120 ∷ 61 ∷ 255 ∷ []) ≡ refused InvalidDnSyntax
unfolding reads
not_utf8 = refl

-- ---- the checks of an AVA, in their order

unknown_type : located conf (codes "z=a,objectClass=top") ≡ refused InvalidDnSyntax
unfolding reads
unknown_type = refl

-- a type of DN syntax, before its want of a rule
names_in_names : located conf (codes "d=x\\=a,objectClass=top") ≡ refused InvalidDnSyntax
unfolding reads
names_in_names = refl

-- no rule, before a value that isn't valid
no_rule : located conf (codes "n=a,objectClass=top") ≡ refused NamingViolation
unfolding reads
no_rule = refl

-- a value that isn't valid, before a type that stands twice
no_number : located conf (codes "i=1+i=a,objectClass=top") ≡ refused InvalidDnSyntax
unfolding reads
no_number = refl

-- by its name and by its OID
type_twice : located conf (codes "x=a+1.2=b,objectClass=top") ≡ refused NamingViolation
unfolding reads
type_twice = refl

-- a type that stands twice, before the next RDN's fault and before the suffix
first_ava_first : located conf (codes "x=a+x=b,z=c") ≡ refused NamingViolation
unfolding reads
first_ava_first = refl

-- ---- paths

path_of_text : path_of conf (step 1 (codes "Big  Bob") ∷ []) ≡ step 1 (codes "big bob") ∷ []
unfolding reads
path_of_text = refl

-- the order of the AVAs is that of their types
avas_by_type : path_of conf (((2, codes "B") ∷ (1, codes "A") ∷ []) ∷ []) ≡ ((1, codes "a") ∷ (2, codes "B") ∷ []) ∷ []
unfolding reads
avas_by_type = refl
