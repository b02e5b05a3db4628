-- Entries (RFC 4512, 2.2 and 2.3): how lines add to one, what holds of each, and how one is written as lines.
use Rattle.std.specs.Prelude.{◌≡◌, ℕ, Bool, true, false, not, ◌||◌, List, [], ◌∷◌, map, take, length, nat_eq, nat_lt, nat_le, Option, Some, None, Result, Ok, Err, if◌then◌else◌}
use Rattle.std.specs.List.{list_all, flat_map, AllByRecursion, IsDistinct}
use Rattle.std.specs.Map.{keys_of}
use Rattle.ldif.specs.Attrs.{Attr}
use Rattle.ldif.specs.declared.record.Mode.{Mode}
use Rattle.ldif.specs.declared.record.Mode.TheVariants as modes
use Rattle.schema.specs.declared.code.Code.{Code}
use Rattle.schema.specs.declared.code.Code.TheVariants.{UndefinedAttributeType, ConstraintViolation, InvalidAttributeSyntax, AttributeOrValueExists}
use Rattle.values.specs.declared.types.AttributeType.{AttributeType}
use Rattle.values.specs.Types.{type_of, type_at, name_of, is_known}
use Rattle.schema.specs.Values.{is_valid_at, are_equal}
use Rattle.schema.specs.Rdns.{Ava, TypedRdn}
use Rattle.schema.specs.GoodRdns.{IsRdn}
use Rattle.schema.specs.Conf.{Conf}
use Rattle.base.specs.Answers.{◌>>=◌}
pub use Rattle.entries.specs.Contents.{Attribute, Attributes, EntryContent, values_of, has_equal}
unfoldable pub use Rattle.entries.specs.Contents.{push_value}
pub use Rattle.entries.specs.EntryClasses.{has_class, has_its_classes}

-- ---- adding lines (RFC 4511, 4.7)

-- a type whose values users can't change (RFC 4512, 4.1.2) comes with an entry that is loaded, and not with a change
abbrev pub is_barred : Mode → List AttributeType → ℕ → Bool
is_barred modes.Content types t = false
is_barred (modes.Changes add) types t = (type_at types t).is_fixed

abbrev pub typed_value : Mode → List AttributeType → List ℕ → Option ℕ → Result Ava Code
typed_value mode types v None = Err UndefinedAttributeType
typed_value mode types v (Some t) =
    if is_barred mode types t then Err ConstraintViolation
    else (if is_valid_at types t v then Ok (t, v) else Err InvalidAttributeSyntax)

-- a line's type and value
abbrev pub line_value : Mode → List AttributeType → Attr → Result Ava Code
line_value mode types l = typed_value mode types l.value (type_of types l.name)

-- a value after those that are there, none of which equals it
abbrev pub put_value : List AttributeType → Attributes → Ava → Result Attributes Code
put_value types attrs p = if has_equal types p.0 p.1 (values_of attrs p.0) then Err AttributeOrValueExists else Ok (push_value attrs p.0 p.1)

abbrev pub add_line : Mode → List AttributeType → Attributes → Attr → Result Attributes Code
add_line mode types attrs l = line_value mode types l >>= put_value types attrs

-- in order, up to the first that is refused
unfoldable pub add_lines : Mode → List AttributeType → Attributes → List Attr → Result Attributes Code
add_lines mode types attrs [] = Ok attrs
add_lines mode types attrs (l ∷ ls) = add_line mode types attrs l >>= λ more. add_lines mode types more ls

-- a value of the RDN, where no equal one is there
abbrev pub with_ava : List AttributeType → Ava → Attributes → Attributes
with_ava types p attrs = if has_equal types p.0 p.1 (values_of attrs p.0) then attrs else push_value attrs p.0 p.1

-- each value of the RDN that has no equal one there
unfoldable pub with_rdn : List AttributeType → TypedRdn → Attributes → Attributes
with_rdn types [] attrs = attrs
with_rdn types (p ∷ ps) attrs = with_rdn types ps (with_ava types p attrs)

-- those of its first AVAs, as many as there are by now
abbrev pub HasBegun : List AttributeType → TypedRdn → Attributes → Attributes → Type 0
HasBegun types r before after = (n : ℕ) × (after ≡ with_rdn types (take n r) before)

-- ---- what holds of an entry

-- one value at most, where the type is SINGLE-VALUE
abbrev pub is_single : List AttributeType → Attribute → Bool
is_single types a = not ((type_at types a.0).single_value) || nat_le (length a.1) 1

abbrev pub are_single : List AttributeType → Attributes → Bool
are_single types attrs = list_all (is_single types) attrs

pub record IsAttribute (types : List AttributeType) (a : Attribute) : Type 0 where
  pub known : is_known types a.0 ≡ true
  pub some : nat_lt 0 (length a.1) ≡ true
  pub values : AllByRecursion (λ v. is_valid_at types a.0 v ≡ true) a.1
  pub apart : IsDistinct (are_equal types a.0) a.1

-- an entry that a directory can have: no two attributes of one type, what its classes ask for, and each value of its RDN
pub record IsGood (conf : Conf) (e : EntryContent) : Type 0 where
  pub attrs : AllByRecursion (IsAttribute conf.types) e.attrs
  pub types_apart : IsDistinct nat_eq (keys_of e.attrs)
  pub class : has_its_classes conf e.attrs ≡ true
  pub single : are_single conf.types e.attrs ≡ true
  pub rdn : IsRdn conf.types e.rdn
  pub rdn_there : AllByRecursion (λ p. has_equal conf.types p.0 p.1 (values_of e.attrs p.0) ≡ true) e.rdn

-- such an entry, with this RDN
abbrev pub IsGoodWith : Conf → TypedRdn → EntryContent → Type 0
IsGoodWith conf rdn e = IsGood conf e × (e.rdn ≡ rdn)

-- ---- an entry as lines

abbrev pub attribute_lines : List AttributeType → Attribute → List Attr
attribute_lines types a = map (λ v. record { name = name_of types a.0; value = v }) a.1

-- each value with its type's printed name, in order
unfoldable pub lines_of : List AttributeType → Attributes → List Attr
lines_of types attrs = flat_map (attribute_lines types) attrs
