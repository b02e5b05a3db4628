-- RDNs with their types known (RFC 4512, 2.3.2), and what they come to in a path.
use Rattle.std.specs.Prelude.{ℕ, Bool, false, not, nat_eq, nat_lt, if◌then◌else◌, List, [], ◌∷◌, ◌++◌, Option, Some, None, Result, Ok, Err}
use Rattle.std.specs.List.{list_any, prefix_len, insert}
use Rattle.values.specs.declared.types.AttributeType.{AttributeType}
use Rattle.values.specs.declared.types.TypeSyntax.{TypeSyntax}
use Rattle.values.specs.declared.types.TypeSyntax.TheVariants as type_syntaxes
use Rattle.values.specs.Types.{type_of, type_at, has_equality, plain_family}
use Rattle.values.specs.Values.{norm_by}
use Rattle.matching.specs.Syntaxes.{is_valid}
use Rattle.schema.specs.declared.code.Code.{Code}
use Rattle.schema.specs.declared.code.Code.TheVariants.{InvalidDnSyntax, NamingViolation}
use Rattle.schema.specs.TypeRules.{has_name_syntax}
use Rattle.base.specs.Answers.{◌>>=◌}
use Rattle.dn.specs.Names as names
use Rattle.paths.specs.Paths.{Pair, RdnKey}

-- a type's number and a value as written
abbrev pub Ava : Type 0
Ava = ℕ × List ℕ

-- an RDN: its AVAs in the order written
abbrev pub TypedRdn : Type 0
TypedRdn = List Ava

-- ---- the types of a name's AVAs

-- whether an AVA has this value; names don't stand in names
abbrev pub is_plain : TypeSyntax → List ℕ → Bool
is_plain type_syntaxes.Name v = false
is_plain (type_syntaxes.Plain syntax) v = is_valid syntax v

abbrev pub is_valid_ava : List AttributeType → ℕ → List ℕ → Bool
is_valid_ava types t v = is_plain (type_at types t).syntax v

-- the normal form of an AVA's value
abbrev pub norm_ava : List AttributeType → ℕ → List ℕ → List ℕ
norm_ava types t v = norm_by (plain_family (type_at types t).equality) v

-- whether one of the AVAs is of this type
abbrev pub has_type : ℕ → TypedRdn → Bool
has_type t r = list_any (λ p. nat_eq p.0 t) r

-- the type is known, its values aren't names, they can be compared, this one is valid, and no AVA before it is of this type:
-- the first that fails answers
abbrev pub type_among : List AttributeType → TypedRdn → List ℕ → Option ℕ → Result ℕ Code
type_among types earlier v None = Err InvalidDnSyntax
type_among types earlier v (Some t) =
    if has_name_syntax types t then Err InvalidDnSyntax
    else (if not (has_equality types t) then Err NamingViolation
    else (if not (is_valid_ava types t v) then Err InvalidDnSyntax
    else (if has_type t earlier then Err NamingViolation else Ok t)))

-- the type of an AVA behind others in its RDN
abbrev pub ava_type : List AttributeType → TypedRdn → names.Ava → Result ℕ Code
ava_type types earlier p = type_among types earlier p.1 (type_of types p.0)

-- the AVAs of an RDN, behind earlier ones
unfoldable pub avas_from : List AttributeType → TypedRdn → names.Rdn → Result TypedRdn Code
avas_from types earlier [] = Ok earlier
avas_from types earlier (p ∷ ps) = ava_type types earlier p >>= λ t. avas_from types (earlier ++ (t, p.1) ∷ []) ps

abbrev pub typed_rdn : List AttributeType → names.Rdn → Result TypedRdn Code
typed_rdn types r = avas_from types [] r

-- the RDNs of a name, behind others
unfoldable pub rdns_from : List AttributeType → List TypedRdn → names.Name → Result (List TypedRdn) Code
rdns_from types done [] = Ok done
rdns_from types done (r ∷ rs) = typed_rdn types r >>= λ t. rdns_from types (done ++ t ∷ []) rs

-- the entry's own RDN first
abbrev pub typed : List AttributeType → names.Name → Result (List TypedRdn) Code
typed types n = rdns_from types [] n

-- ---- what they come to

-- whether a pair stands before those of this type
abbrev pub is_lower : ℕ → Pair → Bool
is_lower t q = nat_lt q.0 t

-- a pair behind those of lower types
unfoldable pub put_pair : Pair → RdnKey → RdnKey
put_pair p key = insert key (prefix_len (is_lower p.0) key) p

-- the number of its type
abbrev pub type_of_pair : Pair → ℕ
type_of_pair p = p.0

abbrev pub pair_of : List AttributeType → Ava → Pair
pair_of types p = (p.0, norm_ava types p.0 p.1)

-- the pairs of AVAs, among others
unfoldable pub key_from : List AttributeType → RdnKey → TypedRdn → RdnKey
key_from types key [] = key
key_from types key (p ∷ ps) = key_from types (put_pair (pair_of types p) key) ps

-- the step of a path that an RDN gives: its pairs of type and normal value, by type
unfoldable pub rdn_key_of : List AttributeType → TypedRdn → RdnKey
rdn_key_of types r = key_from types [] r
