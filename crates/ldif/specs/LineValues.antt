-- Values as they are kept of a line.
use Rattle.std.specs.Prelude.{ℕ, List}
use Rattle.ldif.specs.declared.value.LineValue.{LineValue}
use Rattle.ldif.specs.declared.value.LineValue.TheVariants as values

-- the bytes of a value
abbrev pub bytes_in : LineValue → List ℕ
bytes_in (values.Plain text) = text.now
bytes_in (values.Decoded bytes) = bytes
