-- Texts that begin with a type, an equals sign and a value.
use Rattle.std.specs.Prelude.{ℕ, List, drop}
use Rattle.dn.specs.Names.{Ava}
use Rattle.dn.specs.Reading.{type_in, after_type}

-- the AVA of which a text holds the type, an equals sign and the value
abbrev pub ava_in : List ℕ → Ava
ava_in text = (type_in text, drop 1 (after_type text))
