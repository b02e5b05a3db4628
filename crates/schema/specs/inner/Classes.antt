-- Object classes by their names.
use Rattle.std.specs.Prelude.{◌≡◌, ℕ, List}
use Rattle.values.specs.declared.name_index.NameEntry.{NameEntry}
use Rattle.values.specs.Tables.{number_of}
use Rattle.schema.specs.declared.object_class.ObjectClass.{ObjectClass}
use Rattle.schema.specs.Classes.{class_of}

-- the number of a name is that of the first class with this name or OID
abbrev pub FindsClasses : List NameEntry → List ObjectClass → Type 0
FindsClasses entries classes = (name : List ℕ) → number_of entries name ≡ class_of classes name
