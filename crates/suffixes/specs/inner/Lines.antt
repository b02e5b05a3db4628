-- Attributes one value after the other.
use Rattle.std.specs.Prelude.{◌<◌, List, map, length}
use Rattle.std.specs.List.{flat_map, AllByRecursion}
use Rattle.ldif.specs.Attrs.{Attr}
use Rattle.values.specs.declared.types.AttributeType.{AttributeType}
use Rattle.values.specs.Types.{name_of}
use Rattle.schema.specs.Rdns.{Ava}
use Rattle.entries.specs.Entries.{Attribute, Attributes}

-- the values of an attribute, each with its type
abbrev pub attribute_avas : Attribute → List Ava
attribute_avas a = map (λ v. (a.0, v)) a.1

abbrev pub avas_in : Attributes → List Ava
avas_in attrs = flat_map attribute_avas attrs

-- a value as a line, its type by its printed name
abbrev pub line_of : List AttributeType → Ava → Attr
line_of types p = record { name = name_of types p.0; value = p.1 }

abbrev pub lines_in : List AttributeType → List Ava → List Attr
lines_in types avas = map (line_of types) avas

-- each is of a type that there is
abbrev pub AreKnown : List AttributeType → List Ava → Type 0
AreKnown types avas = AllByRecursion (λ p. p.0 < length types) avas
