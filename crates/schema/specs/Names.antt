-- The name that bytes spell (RFC 4514), and how an RDN whose types are known is written.
use Rattle.std.specs.Prelude.{ℕ, if◌then◌else◌, List, map, Result, Ok, Err}
use Rattle.std.specs.Str.{is_utf8}
use Rattle.dn.specs.Names as names
use Rattle.dn.specs.Reading.{name_of}
use Rattle.dn.specs.declared.faults.NameFaultKind.{NameFaultKind}
use Rattle.values.specs.declared.types.AttributeType.{AttributeType}
use Rattle.values.specs.Types as attribute_types
use Rattle.schema.specs.declared.code.Code.{Code}
use Rattle.schema.specs.declared.code.Code.TheVariants.{InvalidDnSyntax}
use Rattle.schema.specs.Rdns.{Ava, TypedRdn}

-- each fault of a name is of one code
abbrev pub or_invalid : Result names.Name NameFaultKind → Result names.Name Code
or_invalid (Ok n) = Ok n
or_invalid (Err fault) = Err InvalidDnSyntax

-- the name that bytes spell; they are UTF-8
unfoldable pub name_in : List ℕ → Result names.Name Code
name_in text = if is_utf8 text then or_invalid (name_of text) else Err InvalidDnSyntax

-- an AVA as it is written: its type by the name that it is printed by, its value as it is
abbrev pub written_ava : List AttributeType → Ava → names.Ava
written_ava types p = (attribute_types.name_of types p.0, p.1)

abbrev pub written_rdn : List AttributeType → TypedRdn → names.Rdn
written_rdn types r = map (written_ava types) r
