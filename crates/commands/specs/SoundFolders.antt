-- What it means that check reports nothing of dir.conf, data.ldif and index.txt: other commands load the folder, and index.txt is slapindex's, or none.
use Rattle.std.specs.Prelude.{◌≡◌, ◌↔◌, ⊤, ℕ, List, [], Option, None, Some, Ok}
use Rattle.schema.specs.Conf.{Conf}
use Rattle.dir_conf.specs.Configurations.{conf_of}
use Rattle.tree.specs.Directories.{Entries}
use Rattle.databases.specs.IndexTexts.{index_text}
use Rattle.commands.specs.Checks.{TellsFirstFaults, AddsFound, index_reports}
use Rattle.commands.specs.Loaded.{LoadsFound}

-- nothing is reported of the text of a dir.conf exactly where it says a configuration
abbrev pub SaysConf : List ℕ → Type 0
SaysConf text = (conf : Conf) × (conf_of text ≡ Ok conf)

abbrev pub ConfAgrees : List ℕ → Type 0
ConfAgrees text = TellsFirstFaults text [] ↔ SaysConf text

-- of data.ldif, exactly where other commands load it, and they load the entries that check looks at
abbrev pub DataAgrees : Conf → Option (Option (List ℕ)) → Entries → Type 0
DataAgrees conf found d = AddsFound conf found d [] ↔ LoadsFound conf found d

-- this is the text that slapindex writes, or there is none
abbrev pub IsOwn : Conf → Entries → Option (List ℕ) → Type 0
IsOwn conf d None = ⊤
IsOwn conf d (Some text) = text ≡ index_text conf d

-- of index.txt, exactly there
abbrev pub IndexAgrees : Conf → Entries → Option (List ℕ) → Type 0
IndexAgrees conf d index = (index_reports conf d index ≡ []) ↔ IsOwn conf d index
