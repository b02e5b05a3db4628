-- Why nothing was loaded.
use Rattle.std.specs.Prelude.{◌≡◌, ℕ, ◌+◌, List, [], ◌∷◌, ⊤, Option, Result, Ok, Err}
use Rattle.ldif_lines.specs.Records.{RawRecord}
use Rattle.schema.specs.Conf.{Conf}
use Rattle.tree.specs.Directories.{Entries}
use Rattle.databases.specs.Runs.{loaded_after}
use Rattle.databases.specs.Folds.{Over}
use Rattle.databases.specs.declared.loading.LoadFault.{LoadFault}
use Rattle.databases.specs.declared.loading.LoadFault.TheVariants as faults

-- the first record that is refused, and why; the other faults say nothing of the records
abbrev pub StopsAt : LoadFault → Conf → Entries → Option (List RawRecord) → Type 0
StopsAt faults.Read conf old all = ⊤
StopsAt faults.OutOfMemory conf old all = ⊤
StopsAt (faults.Refused line why) conf old all = Over all (λ given. (loaded_after conf old given).refused ≡ (line, why) ∷ [])

-- how often the source failed
abbrev pub PullFailures : {A : Type 0} → Result A LoadFault → ℕ → ℕ → Type 0
PullFailures (Ok x) s s' = s' ≡ s
PullFailures (Err faults.Read) s s' = s' ≡ s + 1
PullFailures (Err faults.OutOfMemory) s s' = s' ≡ s
PullFailures (Err (faults.Refused line why)) s s' = s' ≡ s
