-- What a record does to a directory (RFC 4511, 4.6 to 4.9): the change that comes of it, or the code of the first check that fails.
use Rattle.std.specs.Prelude.{Bool, List, [], Option, Some, None, Result, Ok, Err, if◌then◌else◌}
use Rattle.std.specs.List.{list_any}
use Rattle.ldif.specs.declared.record.Control.{Control}
use Rattle.ldif.specs.declared.record.Mode.{Mode}
use Rattle.ldif.specs.declared.record.Record.{Record}
use Rattle.ldif.specs.declared.record.Record.TheVariants as records
use Rattle.schema.specs.declared.code.Code.{Code}
use Rattle.schema.specs.declared.code.Code.TheVariants.{UnavailableCriticalExtension}
use Rattle.paths.specs.Paths.{Path}
use Rattle.schema.specs.Rdns.{TypedRdn}
use Rattle.schema.specs.Conf.{Conf, located, path_of}
use Rattle.base.specs.Answers.{◌>>=◌}
use Rattle.tree.specs.Directories.{Entries}
use Rattle.tree.specs.Changes.{Change, Nothing, changed}
use Rattle.tree.specs.Adds.{add}
use Rattle.tree.specs.Deletes.{delete}
use Rattle.tree.specs.Modifies.{modify}
use Rattle.tree.specs.Renames.{rename}

-- no control is known here, so one that is critical can't be honoured (RFC 4511, 4.1.11)
abbrev pub has_critical : List Control → Bool
has_critical controls = list_any (λ c. c.critical) controls

-- those that stand with a change
abbrev pub controls_of : Record → List Control
controls_of records.Empty = []
controls_of (records.Content dn attrs) = []
controls_of (records.Add dn controls attrs) = controls
controls_of (records.Delete dn controls) = controls
controls_of (records.Modify dn controls mods) = controls
controls_of (records.ModRdn dn controls newrdn delete_old new_superior) = controls

-- what comes of it where its controls can all be ignored
abbrev pub change_asked : Conf → Mode → Entries → Record → Result Change Code
change_asked conf mode d records.Empty = Ok Nothing
change_asked conf mode d (records.Content dn attrs) = add conf mode d dn attrs
change_asked conf mode d (records.Add dn controls attrs) = add conf mode d dn attrs
change_asked conf mode d (records.Delete dn controls) = delete conf d dn
change_asked conf mode d (records.Modify dn controls mods) = modify conf d dn mods
change_asked conf mode d (records.ModRdn dn controls newrdn delete_old new_superior) = rename conf d dn newrdn delete_old new_superior

-- the change that a record comes to
abbrev pub change_of : Conf → Mode → Entries → Record → Result Change Code
change_of conf mode d r = if has_critical (controls_of r) then Err UnavailableCriticalExtension else change_asked conf mode d r

-- and the directory after it
abbrev pub apply : Conf → Mode → Entries → Record → Result Entries Code
apply conf mode d r = change_of conf mode d r >>= λ c. Ok (changed d c)

abbrev pub path_in : Conf → Result (List TypedRdn) Code → Option Path
path_in conf (Ok rs) = Some (path_of conf rs)
path_in conf (Err c) = None

-- the path of the entry that a record is about
abbrev pub record_path : Conf → Record → Option Path
record_path conf records.Empty = None
record_path conf (records.Content dn attrs) = path_in conf (located conf dn)
record_path conf (records.Add dn controls attrs) = path_in conf (located conf dn)
record_path conf (records.Delete dn controls) = path_in conf (located conf dn)
record_path conf (records.Modify dn controls mods) = path_in conf (located conf dn)
record_path conf (records.ModRdn dn controls newrdn delete_old new_superior) = path_in conf (located conf dn)
