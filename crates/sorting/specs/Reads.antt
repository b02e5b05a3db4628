-- What a reader finds in a text of stanzas: the record of each, with the lines that it has by itself (RFC 2849, "ldif-content").
use Rattle.std.specs.Prelude.{◌≡◌, ℕ, true, ◌⊎◌, List, [], ◌∷◌, map, Ok}
use Rattle.ldif_lines.specs.Records.{records}
use Rattle.ldif_lines.specs.Folding.{raw_lines}
use Rattle.ldif.specs.Reading.{reading}
use Rattle.ldif.specs.declared.record.Mode.TheVariants.{Content}
use Rattle.ldif.specs.declared.record.Record.TheVariants as records_of

-- the lines of each record of a text
abbrev pub record_lines : List ℕ → List (List (List ℕ))
record_lines text = map raw_lines (records text)

-- these records are those, behind a version: it is a record by itself, or the first line of the first of them
abbrev pub WithVersion : List ℕ → List (List (List ℕ)) → List (List (List ℕ)) → Type 0
WithVersion version found parts =
    (found ≡ (version ∷ []) ∷ parts)
    ⊎ ((first : List (List ℕ)) × (more : List (List (List ℕ))) × (parts ≡ first ∷ more) × (found ≡ (version ∷ first) ∷ more))

-- the records that are found are those of the parts, behind a head, which is empty or a version
abbrev pub StandBehind : List ℕ → List (List (List ℕ)) → List (List (List ℕ)) → Type 0
StandBehind [] found parts = found ≡ parts
StandBehind (b ∷ bs) found parts = (version : List ℕ) × (reading Content true (version ∷ []) ≡ Ok records_of.Empty) × WithVersion version found parts
