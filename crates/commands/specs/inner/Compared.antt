-- How a comparison of two directories that are loaded goes on.
use Rattle.std.specs.Prelude.{◌≡◌, ℕ, ⊤, List, [], Option, None, Some, Result, Ok, Err}
use Rattle.device.specs.Device.{Written, Took, Broke}
use Rattle.schema.specs.Conf.{Conf}
use Rattle.tree.specs.Directories.{Entries}
use Rattle.filter_text.specs.Spells.{FilterContent, view}
use Rattle.filter.specs.Made.{Made}
use Rattle.differences.specs.Differences.{Extent}
use Rattle.differences.specs.Obstacles.{HasNoObstacle}
use Rattle.command_line.specs.declared.request.DiffOptions.{DiffOptions}
use Rattle.commands.specs.Worlds.{World}
use Rattle.commands.specs.Differences.{ComparesTo, ComparingStops}
use Rattle.commands.specs.Failures.{IsMemory}
use Rattle.commands.specs.declared.messages.Status.{Status}
use Rattle.commands.specs.declared.messages.Stop.{Stop}
use Rattle.commands.specs.declared.messages.Stop.TheVariants as stops

-- the filter is prepared under the configuration, where there is one
abbrev pub PreparedFor : Conf → Option FilterContent → Option Made → Type 0
PreparedFor conf None None = ⊤
PreparedFor conf None (Some p) = ⊥
PreparedFor conf (Some f) None = ⊥
PreparedFor conf (Some f) (Some p) = (p.conf ≡ conf) × (view p.filter ≡ f)

-- what is warned of was written
pub record IsTold (conf : Conf) (extent : Extent) (a b : Entries) (w w' : Written) : Type 0 where
  pub text : List ℕ
  pub took : Took w w' text
  pub clear : text ≡ [] → HasNoObstacle conf extent a b

-- nothing was written for want of memory, or standard error failed
abbrev pub IsUntold : Written → Written → Stop → Type 0
IsUntold w w' (stops.Fault fault) = IsMemory fault × (w' ≡ w)
IsUntold w w' (stops.Usage text) = ⊥
IsUntold w w' stops.Messages = (text : List ℕ) × Broke w w' text

abbrev pub IsHeard : Conf → Extent → Entries → Entries → Written → Written → Result Unit Stop → Type 0
IsHeard conf extent a b w w' (Ok x) = IsTold conf extent a b w w'
IsHeard conf extent a b w w' (Err why) = IsUntold w w' why

abbrev pub HasCompared : DiffOptions → Conf → Entries → Entries → World → World → Result Status Stop → Type 0
HasCompared asked conf a b w w' (Ok s) = ComparesTo asked conf a b w w' s
HasCompared asked conf a b w w' (Err why) = ComparingStops asked conf a b w (record { why = why; stored = []; world = w' })
