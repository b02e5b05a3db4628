use Rattle.std.proofs.Common.{◌≡◌, drop}
use Rattle.definitions.specs.Elements.{fields_to_end}
use Rattle.definitions.specs.ClassDefinitions.{field_at, with_field}
use Rattle.definitions.proofs.class_definition.ClassDefinition.put_fields.Given as goal

abbrev pub invariant-loop : goal.invariant-loop
invariant-loop l = fields_to_end field_at with_field l.self (drop l.index l.text) l.rest ≡ fields_to_end field_at with_field l.initial.self l.text l.text
