-- What search and slapcat have in common: what they are asked for, what they print of, and why they stop.
use Rattle.std.specs.Prelude.{◌≡◌, ℕ, ◌⊎◌, Bool, true, false, List, Option, None, Some, Ok, Err, ⊤, string_bytes, codes, unwrap_or}
use Rattle.std.specs.FinMap as finite
use Rattle.device.specs.Device.{Written, Broke}
use Rattle.paths.specs.Paths.{Path}
use Rattle.schema.specs.Conf.{Conf}
use Rattle.schema.specs.declared.code.Code.{Code}
use Rattle.schema.specs.declared.code.Code.TheVariants.{NoSuchObject}
use Rattle.tree.specs.Directories.{Entries}
use Rattle.filter_text.specs.Spells.{FilterContent}
use Rattle.ldif.specs.Written.{Begun}
use Rattle.suffixes.specs.Configurations.{conf_under}
use Rattle.suffixes.specs.MovedDirectories.{move_by, moved_directory}
use Rattle.commands.specs.Asked.{IsFilter, HasFilter, IsNoFilterFor, base_of, IsBase}
use Rattle.folders.specs.Folders.{Files}
use Rattle.commands.specs.DirectoryFiles.{index_name}
use Rattle.commands.specs.Worlds.{World}
use Rattle.commands.specs.Endings.{StoppedAt, HasOnlyPrinted}
use Rattle.commands.specs.Loaded.{IsLoaded, LoadFails}
use Rattle.commands.specs.declared.messages.CommandFault.{CommandFault}
use Rattle.commands.specs.declared.messages.CommandFault.TheVariants as faults
use Rattle.commands.specs.declared.messages.Stop.TheVariants as stops

-- What is asked for: the name of the command, the folder, the filter, the base, whether that has to be there, the suffix that all is printed under,
-- none for the directory's own, whether index.txt is read, and the file that is printed to, none for the output.
pub record Wanted : Type 0 where
  pub command : List ℕ
  pub db : List ℕ
  pub filter : Option (List ℕ)
  pub base : Option (List ℕ)
  pub needs_base : Bool
  pub suffix : Option (List ℕ)
  pub needs_index : Bool
  pub file : Option (List ℕ)

-- ---- what it prints of

-- a filter as it is read, and a directory, by its configuration and its entries
pub record Basis : Type 0 where
  pub filter : FilterContent
  pub conf : Conf
  pub entries : Entries

-- the filter is the one that is asked for, the directory was loaded, and this holds of them
pub record HasBasis (q : Wanted) (files : Option Files) (Holds : Basis → Type 0) : Type 0 where
  pub basis : Basis
  pub filter_is : IsFilter q.filter basis.filter
  pub loaded : IsLoaded files q.db basis.conf basis.entries
  pub so : Holds basis

-- ---- why it stops

-- no entry stands where the name leads to
pub record IsNotThere (conf : Conf) (d : Entries) (name : Option (List ℕ)) : Type 0 where
  pub base : Path
  pub base_is : IsBase conf name base
  pub missing : finite.contains_key d base ≡ false

-- the code where there is no base: that of a name that leads nowhere under the configuration, or 32 where no entry stands
abbrev pub HasNoBase : Conf → Entries → Option (List ℕ) → Code → Type 0
HasNoBase conf d name code = (base_of conf name ≡ Err code) ⊎ (IsNotThere conf d name × (code ≡ NoSuchObject))

-- it has to be there, and isn't
abbrev pub LacksBase : Wanted → Conf → Entries → Code → Type 0
LacksBase q conf d code = (q.needs_base ≡ true) × HasNoBase conf d q.base code

-- the code where a directory can't be printed under this suffix: that of a name that spells none, or of the first entry that can't be added
abbrev pub CannotMove : Option (List ℕ) → Conf → Entries → Code → Type 0
CannotMove None conf d code = ⊥
CannotMove (Some name) conf d code =
    (conf_under conf name ≡ Err code) ⊎ ((new : Conf) × (conf_under conf name ≡ Ok new) × (moved_directory (move_by conf new name d) ≡ Err code))

-- what is asked for is refused with this code
abbrev pub IsRefusedWith : Wanted → Conf → Entries → Code → Type 0
IsRefusedWith q conf d code = LacksBase q conf d code ⊎ CannotMove q.suffix conf d code

-- a directory was loaded that it is refused of
pub record IsRefused (q : Wanted) (files : Option Files) (code : Code) : Type 0 where
  pub conf : Conf
  pub entries : Entries
  pub loaded : IsLoaded files q.db conf entries
  pub refused : IsRefusedWith q conf entries code

-- index.txt is what can't be read, where a directory was loaded
pub record IndexUnread (q : Wanted) (files : Option Files) (name : List ℕ) : Type 0 where
  pub needs : q.needs_index ≡ true
  pub conf : Conf
  pub entries : Entries
  pub loaded : IsLoaded files q.db conf entries
  pub name_is : name ≡ index_name q.db

-- the name of what it prints to
abbrev pub target_of : Option (List ℕ) → List ℕ
target_of file = unwrap_or file (codes "output")

-- With which fault it stops: its filter is none, no directory was loaded, index.txt can't be read, the base isn't there or the directory can't be
-- printed under the suffix, or what it prints to can't be written. They are looked for in this order: where one of the later ones is reported, the text spells a filter.
abbrev pub StopsWith : Wanted → Option Files → CommandFault → Type 0
StopsWith q files faults.Words = ⊥
StopsWith q files (faults.Filter fault) = IsNoFilterFor q.filter fault
StopsWith q files (faults.Code by code) = HasFilter q.filter × (by.now ≡ q.command) × IsRefused q files code
StopsWith q files (faults.CannotWrite name) = string_bytes name ≡ target_of q.file
StopsWith q files faults.OutOfMemory = ⊤
StopsWith q files (faults.CannotRead name) = HasFilter q.filter × (LoadFails files q.db (faults.CannotRead name) ⊎ IndexUnread q files (string_bytes name))
StopsWith q files fault = HasFilter q.filter × LoadFails files q.db fault

-- ---- what it printed by then

-- a beginning of the text was written, and then the output failed, or memory ran out, be it for the text or for the name of what failed
abbrev pub IsBegun : CommandFault → Written → Written → List ℕ → Type 0
IsBegun (faults.CannotWrite name) a b text = Broke a b text
IsBegun faults.OutOfMemory a b text = Broke a b text ⊎ Begun a b text
IsBegun fault a b text = ⊥

-- the output has a beginning of the text, or stays as it was where the text was to go to the file of this name
abbrev pub Begins : Option (List ℕ) → CommandFault → Written → Written → List ℕ → Type 0
Begins None fault a b text = IsBegun fault a b text
Begins (Some name) fault a b text = b ≡ a

-- so it is of a text of which this holds
pub record HasBegun (IsText : List ℕ → Type 0) (file : Option (List ℕ)) (fault : CommandFault) (a b : Written) : Type 0 where
  pub text : List ℕ
  pub is : IsText text
  pub begins : Begins file fault a b text

-- where writing failed, this holds; where memory ran out, it does or nothing was printed; else nothing was
abbrev pub PrintsPartly : (CommandFault → Written → Written → Type 0) → Written → Written → CommandFault → Type 0
PrintsPartly Partly a b (faults.CannotWrite name) = Partly (faults.CannotWrite name) a b
PrintsPartly Partly a b faults.OutOfMemory = (b ≡ a) ⊎ Partly faults.OutOfMemory a b
PrintsPartly Partly a b fault = b ≡ a

-- it stops with such a fault, having printed so much of a text of which this holds
pub record QueryStops (q : Wanted) (IsText : List ℕ → Type 0) (w : World) (at : StoppedAt) : Type 0 where
  pub fault : CommandFault
  pub fault_is : at.why ≡ stops.Fault fault
  pub why : StopsWith q w.files fault
  pub printed : PrintsPartly (HasBegun IsText q.file) w.output at.world.output fault
  pub only : HasOnlyPrinted w at
