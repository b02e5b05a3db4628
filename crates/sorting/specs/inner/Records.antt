-- The first of some records.
use Rattle.std.specs.Prelude.{List, [], ◌∷◌, Option, Some, None}
use Rattle.ldif_lines.specs.Records.{RawRecord}

abbrev pub first_of : List RawRecord → Option RawRecord
first_of [] = None
first_of (r ∷ rs) = Some r
