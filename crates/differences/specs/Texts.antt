-- The changes between two directories as a text, and what a run over that text leaves.
use Rattle.std.specs.Prelude.{◌≡◌, ℕ, Bool, false, List, []}
use Rattle.std.specs.List.{flat_map}
use Rattle.std.specs.FinMap as finite
use Rattle.ldif.specs.declared.record.Mode.TheVariants as modes
use Rattle.paths.specs.Paths.{Path}
use Rattle.schema.specs.Conf.{Conf}
use Rattle.tree.specs.Directories.{Entries, IsDirectory}
use Rattle.databases.specs.Runs as runs
use Rattle.differences.specs.Comments.{change_text}
use Rattle.differences.specs.Differences.{Extent, IsGoal, changes_between, is_some_change}
use Rattle.differences.specs.Follows.{IsLeftAt, MayLead}

unfoldable pub difference : Conf → Extent → Entries → Entries → List ℕ
difference conf c a b = flat_map change_text (changes_between conf c a b)

-- whether there is something to change
abbrev pub differs : Conf → Extent → Entries → Entries → Bool
differs conf c a b = is_some_change (changes_between conf c a b)

-- ldapmodify with that text refuses no record, and leaves what is to be there, but for the attributes that users can't change
pub record LeadsByText (conf : Conf) (c : Extent) (a b goal : Entries) (go_on : Bool) : Type 0 where
  pub refused : (runs.after conf (modes.Changes false) go_on a (difference conf c a b)).refused ≡ []
  pub left : (p : Path) → IsLeftAt conf.types (finite.get a p) (finite.get goal p) (finite.get (runs.after conf (modes.Changes false) go_on a (difference conf c a b)).entries p)

-- so it is where what is to be there is a directory, and its classes ask for nothing that users can't change
abbrev pub MayLeadByText : Conf → Extent → Entries → Entries → Type 0
MayLeadByText conf c a b = (go_on : Bool) (goal : Entries) → IsGoal conf c a b goal → IsDirectory conf goal → MayLead conf a goal → LeadsByText conf c a b goal go_on
