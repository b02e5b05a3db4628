-- Which values and paths a directory has, so that they can be reported by their names.
use Rattle.std.specs.Prelude.{◌≡◌, ◌<◌, true, List, length, All}
use Rattle.std.specs.FinMap as finite
use Rattle.paths.specs.Paths.{Path}
use Rattle.schema.specs.Conf.{Conf}
use Rattle.tree.specs.Directories.{Entries}
use Rattle.checks.specs.declared.entry_value.EntryValue.{EntryValue}
use Rattle.checks.specs.declared.shared_value.SharedValue.{SharedValue}

abbrev pub IsThereAt : Entries → Path → Type 0
IsThereAt d p = finite.contains_key d p ≡ true

-- the type is known, and the entry is there
pub record IsReportable (conf : Conf) (d : Entries) (v : EntryValue) : Type 0 where
  pub there : IsThereAt d v.path
  pub known : v.type_id < length conf.types

abbrev pub AreReportable : Conf → Entries → List EntryValue → Type 0
AreReportable conf d vs = All (IsReportable conf d) vs

abbrev pub AreThere : Entries → List Path → Type 0
AreThere d ps = All (IsThereAt d) ps

abbrev pub EachIsThere : Entries → List SharedValue → Type 0
EachIsThere d rs = All (λ r. AreThere d r.paths) rs
