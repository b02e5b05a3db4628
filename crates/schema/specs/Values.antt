-- Values under the attribute types of a configuration (RFC 4517, 3.3 and 4.2): which ones are valid, and which are equal.
use Rattle.std.specs.Prelude.{ℕ, Bool, List, map, is_some, unwrap_or, Option, Some, None, Result, Ok, Err}
use Rattle.std.specs.Str.{bytes_eq}
use Rattle.matching.specs.Forms.{lower}
use Rattle.matching.specs.Substrings.{piece_norms}
use Rattle.matching.specs.declared.family.Family.{Family}
use Rattle.matching.specs.declared.substrings.Pieces.{Pieces}
use Rattle.matching.specs.Syntaxes.{is_valid}
use Rattle.base.specs.Answers.{◌>>=◌}
use Rattle.values.specs.declared.types.AttributeType.{AttributeType}
use Rattle.values.specs.declared.types.TypeSyntax.{TypeSyntax}
use Rattle.values.specs.declared.types.TypeSyntax.TheVariants as type_syntaxes
use Rattle.values.specs.declared.types.EqualityRule.{EqualityRule}
use Rattle.values.specs.declared.types.EqualityRule.TheVariants as rules
use Rattle.values.specs.Types as attribute_types
use Rattle.values.specs.Types.{type_at}
use Rattle.values.specs.Values.{Value, norm_by}
use Rattle.dn.specs.Names as names
use Rattle.dn.specs.Writing.{text_of}
use Rattle.paths.specs.Paths.{Pair, RdnKey}
use Rattle.schema.specs.declared.code.Code.{Code}
use Rattle.schema.specs.Names.{name_in}
use Rattle.schema.specs.Rdns.{TypedRdn, typed, rdn_key_of}

-- ---- names as values (RFC 4517, 3.3.9 and 4.2.15)

-- the RDNs of the name that bytes spell; its AVAs pass the checks that those of an entry's name pass
unfoldable pub rdns_in : List AttributeType → List ℕ → Result (List TypedRdn) Code
rdns_in types text = name_in text >>= typed types

-- an AVA in a normal form: the name that its type is printed by in lower case, and its normal value
abbrev pub normal_ava : List AttributeType → Pair → names.Ava
normal_ava types p = (lower (attribute_types.name_of types p.0), p.1)

-- an RDN in a normal form: its AVAs by the numbers of their types
abbrev pub normal_avas : List AttributeType → RdnKey → names.Rdn
normal_avas types key = map (normal_ava types) key

abbrev pub normal_rdn : List AttributeType → TypedRdn → names.Rdn
normal_rdn types r = normal_avas types (rdn_key_of types r)

-- the normal form of a name with these RDNs, in the order written
unfoldable pub normal_text : List AttributeType → List TypedRdn → List ℕ
normal_text types rs = text_of (map (normal_rdn types) rs)

abbrev pub normal_of : List AttributeType → Result (List TypedRdn) Code → Option (List ℕ)
normal_of types (Ok rs) = Some (normal_text types rs)
normal_of types (Err code) = None

-- the normal form of the name that bytes spell; none where they spell no name, or one whose AVAs don't pass
unfoldable pub normal_name : List AttributeType → List ℕ → Option (List ℕ)
normal_name types text = normal_of types (rdns_in types text)

-- ---- values of a type

abbrev pub is_valid_by : List AttributeType → TypeSyntax → List ℕ → Bool
is_valid_by types type_syntaxes.Name v = is_some (normal_name types v)
is_valid_by types (type_syntaxes.Plain syntax) v = is_valid syntax v

unfoldable pub is_valid_at : List AttributeType → ℕ → List ℕ → Bool
is_valid_at types t v = is_valid_by types (type_at types t).syntax v

-- a name as a value, with its normal form
abbrev pub name_value : List AttributeType → List ℕ → Value
name_value types raw = record { raw = raw; norm = unwrap_or (normal_name types raw) raw }

-- without an equality rule a normal form is the bytes
abbrev pub norm_with : List AttributeType → Option EqualityRule → List ℕ → List ℕ
norm_with types None v = v
norm_with types (Some rules.Name) v = unwrap_or (normal_name types v) v
norm_with types (Some (rules.Plain family)) v = norm_by (Some family) v

unfoldable pub norm_at : List AttributeType → ℕ → List ℕ → List ℕ
norm_at types t v = norm_with types (type_at types t).equality v

abbrev pub are_equal : List AttributeType → ℕ → List ℕ → List ℕ → Bool
are_equal types t v w = bytes_eq (norm_at types t v) (norm_at types t w)

-- ---- pieces of a substring assertion (RFC 4517, 4.2), of a type that has such a rule

abbrev pub pieces_with : Option Family → Bool → Bool → List (List ℕ) → List (List ℕ)
pieces_with None front back texts = texts
pieces_with (Some family) front back texts = piece_norms family front back texts

abbrev pub pieces_of : List AttributeType → ℕ → Bool → Bool → List (List ℕ) → Pieces
pieces_of types t front back texts = record { pieces = pieces_with (attribute_types.plain_family (type_at types t).equality) front back texts; front = front; back = back }
