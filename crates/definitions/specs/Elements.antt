-- What definitions of attribute types and of object classes have in common (RFC 4512, 4.1).
use Rattle.std.specs.Prelude.{ℕ, Bool, true, false, ◌&&◌, ◌==◌, nat_lt, if◌then◌else◌, List, [], ◌∷◌, ◌++◌, take, length, Option, Some, None, codes}
use Rattle.std.specs.List.{list_any, list_all}
use Rattle.std.specs.Str.{str_eq_ignore_ascii_case}
use Rattle.base.specs.Ascii.{left_parenthesis, right_parenthesis}
use Rattle.definitions.specs.declared.element.Sort.{Sort}
use Rattle.definitions.specs.declared.element.Sort.TheVariants as sorts
use Rattle.definitions.specs.declared.element.Element.{Element}
use Rattle.definitions.specs.declared.element.ElementField.{ElementField}
use Rattle.definitions.specs.declared.element.ElementField.TheVariants as fields
use Rattle.base.specs.Naming.{is_oid, is_name, is_type_name}
use Rattle.definitions.specs.Words.{◌>>>◌, Cut, skip, sign_at, word_at, quoted_at}
use Rattle.definitions.specs.Texts.{Cuts, quoted_texts_at}

-- whether a text is this word, in any case
abbrev pub is_word : List ℕ → List ℕ → Bool
is_word word text = str_eq_ignore_ascii_case text word

-- X- and more
abbrev pub is_extension : List ℕ → Bool
is_extension word = nat_lt 2 (length word) && is_word (codes "X-") (take 2 word)

-- whether a type or a class may have this name
abbrev pub is_allowed : Sort → List ℕ → Bool
is_allowed sorts.AttributeType name = is_type_name name
is_allowed sorts.ObjectClass name = is_name name

abbrev pub Read : Type 0
Read = ElementField × List ℕ

abbrev pub names_field : Sort → Cuts → Option Read
names_field sort names = if list_all (is_allowed sort) names.0 then Some (fields.Names names.0, names.1) else None

abbrev pub description_field : Cut → Option Read
description_field part = Some (fields.Description, part.1)

abbrev pub extension_field : List ℕ → Cuts → Option Read
extension_field word texts = Some (fields.Extension word, texts.1)

-- a field with this word, of what follows it
unfoldable pub element_field : Sort → List ℕ → List ℕ → Option Read
element_field sort word rest =
    if is_word (codes "NAME") word then (quoted_texts_at rest >>> names_field sort)
    else (if is_word (codes "DESC") word then (quoted_at rest >>> description_field)
    else (if is_word (codes "OBSOLETE") word then Some (fields.Obsolete, rest)
    else (if is_extension word then (quoted_texts_at rest >>> extension_field word) else None)))

-- ---- each field at most once

-- one more, unless it is there already
abbrev pub unless : {A : Type 0} → Bool → A → Option A
unless is_there x = if is_there then None else Some x

abbrev pub is_some_list : {A : Type 0} → List A → Bool
is_some_list [] = false
is_some_list (x ∷ xs) = true

-- whether an extension of this name is there, in any case
abbrev pub is_extended : Element → List ℕ → Bool
is_extended e name = list_any (λ other. str_eq_ignore_ascii_case other name) e.extensions

unfoldable pub with_element_field : Element → ElementField → Option Element
with_element_field e (fields.Names names) = unless (is_some_list e.names) (record e { names = names })
with_element_field e fields.Description = unless e.is_described (record e { is_described = true })
with_element_field e fields.Obsolete = unless e.is_obsolete (record e { is_obsolete = true })
with_element_field e (fields.Extension name) = unless (is_extended e name) (record e { extensions = e.extensions ++ name ∷ [] })

abbrev pub empty_element : List ℕ → Element
empty_element oid = record { oid = oid; names = []; is_described = false; is_obsolete = false; extensions = [] }

-- ---- fields up to the end

abbrev pub is_end : Option (List ℕ) → Bool
is_end None = false
is_end (Some rest) = length (skip rest) == 0

-- `)` and nothing more
abbrev pub ends_there : List ℕ → Bool
ends_there text = is_end (sign_at right_parenthesis text)

-- one field after the other, each put into what the fields before it say; each takes at least one of the bytes that come
unfoldable pub fields_to_end : {D F : Type 0} → (List ℕ → Option (F × List ℕ)) → (D → F → Option D) → D → List ℕ → List ℕ → Option D
fields_to_end field_at with_field d [] text = None
fields_to_end field_at with_field d (b ∷ bytes) text =
    if ends_there text then Some d
    else (field_at text >>> λ field. (with_field d field.0 >>> λ next. fields_to_end field_at with_field next bytes field.1))

-- `( OID`, and what follows
abbrev pub numeric : Cut → Option Cut
numeric oid = if is_oid oid.0 then Some oid else None

unfoldable pub head_at : List ℕ → Option Cut
head_at text = sign_at left_parenthesis text >>> λ inside. (word_at inside >>> numeric)
