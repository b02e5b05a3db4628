-- What is seen of files in memory.
use Rattle.std.specs.Prelude.{◌≡◌, ℕ, Bool, true, false, List, ◌++◌, Option, None, Some, Result, Ok, Err, map, string_bytes, if◌then◌else◌}
use Rattle.std.specs.Str.{bytes_eq}
use Rattle.std.specs.Option.{option_map_or}
use Rattle.std.specs.BTreeMap.{BTreeMap}
use Rattle.std.specs.FinMap as finite
use Rattle.std.specs.Io.Cursor.{cursor_remaining}
use Rattle.std.specs.declared.string.String.{String}
use Rattle.std.specs.declared.vec.Vec.{Vec}
use Rattle.try_device.specs.Memory.{source_seen, sink_written}
use Rattle.try_device.specs.declared.memory.TrySource.{TrySource}
use Rattle.try_device.specs.declared.memory.TrySink.{TrySink}
use Rattle.folders.specs.Folders.{Files}
use Rattle.folders.specs.Locks.{Locking}
use Rattle.commands.specs.Worlds.{World}
use Rattle.folders.specs.declared.folder.FolderFault.{FolderFault}
use Rattle.folders.specs.declared.folder.FolderFault.TheVariants as folder_faults
use Rattle.folders.specs.declared.folder.LockFault.{LockFault}
use Rattle.folders.specs.declared.folder.LockFault.TheVariants as lock_faults
use denote.Ref.{Bor}
use Rattle.memory_folder.specs.declared.contents.Contents.{Contents}
use Rattle.memory_folder.specs.declared.files.Change.{Change}
use Rattle.memory_folder.specs.declared.files.Change.TheVariants.{Put, Append, Remove}
use Rattle.memory_folder.specs.declared.files.MemoryFiles.{MemoryFiles}
use Rattle.memory_folder.specs.declared.folder.FileTrouble.{FileTrouble}
use Rattle.memory_folder.specs.declared.folder.FileTrouble.TheVariants.{Open, OpenMemory, InUse, Lock, LockMemory, Read, Store, StoreMemory, Publish}
use Rattle.memory_folder.specs.declared.folder.MemoryDraft.{MemoryDraft}
use Rattle.memory_folder.specs.declared.folder.MemoryFolder.{MemoryFolder}

-- a file's name and bytes
abbrev pub file_seen : {A B : Type 0} → String A × Vec ℕ B → List ℕ × List ℕ
file_seen e = (string_bytes e.0, e.1.items)

abbrev pub files_in : {A B : Type 0} → BTreeMap (String A) (Vec ℕ B) → Files
files_in m = finite.from_entries (map file_seen m.entries)

abbrev pub files_of : MemoryFiles → Files
files_of m = files_in m.files

abbrev pub folder_files : MemoryFolder → Files
folder_files f = files_of f.files

-- the bytes of the file that are left, also those behind the place where reading is going to fail
abbrev pub left_of : Contents → Option (List ℕ)
left_of c = cursor_remaining (λ v. Some v.items) c.cursor

-- how many bytes can be read before reading fails, where it does
abbrev pub readable : Contents → Option ℕ
readable c = c.readable

-- the file of this name, if there is one, has these bytes behind its own
abbrev pub appended : List ℕ → List ℕ → Files → Files
appended name bytes m = option_map_or (λ old. finite.insert m name (old ++ bytes)) (finite.get m name) m

-- the files after a change of the one of this name
abbrev pub changed : Change → List ℕ → Files → Files
changed (Put bytes) name m = finite.insert m name bytes.now
changed (Append bytes) name m = appended name bytes.now m
changed Remove name m = finite.remove m name

-- it is a draft of the file of this name, and has these bytes
abbrev pub is_draft : MemoryDraft → List ℕ → List ℕ → Type 0
is_draft d name text = (string_bytes d.name ≡ name) × (d.bytes.items ≡ text)

-- ---- what fails

-- how the file of this name fails, where the one that fails is this
abbrev pub trouble_at : Option (Bor (List ℕ) × FileTrouble) → List ℕ → Option FileTrouble
trouble_at None name = None
trouble_at (Some t) name = if bytes_eq t.0.now name then Some t.1 else None

-- how the file of this name fails, if it does
abbrev pub folder_trouble : MemoryFolder → List ℕ → Option FileTrouble
folder_trouble f name = trouble_at f.trouble name

-- how many bytes of a file that fails so are read before reading fails, where it does; or why it isn't opened
abbrev pub reading_limit : Option FileTrouble → Result (Option ℕ) FolderFault
reading_limit None = Ok None
reading_limit (Some Open) = Err folder_faults.Device
reading_limit (Some OpenMemory) = Err folder_faults.OutOfMemory
reading_limit (Some InUse) = Ok None
reading_limit (Some Lock) = Ok None
reading_limit (Some LockMemory) = Ok None
reading_limit (Some (Read limit)) = Ok (Some limit)
reading_limit (Some (Store limit)) = Ok None
reading_limit (Some StoreMemory) = Ok None
reading_limit (Some Publish) = Ok None

-- how many bytes of its next contents are written before writing fails, where it does; or why they aren't written
abbrev pub storing_limit : Option FileTrouble → Result (Option ℕ) FolderFault
storing_limit None = Ok None
storing_limit (Some Open) = Ok None
storing_limit (Some OpenMemory) = Ok None
storing_limit (Some InUse) = Ok None
storing_limit (Some Lock) = Ok None
storing_limit (Some LockMemory) = Ok None
storing_limit (Some (Read limit)) = Ok None
storing_limit (Some (Store limit)) = Ok (Some limit)
storing_limit (Some StoreMemory) = Err folder_faults.OutOfMemory
storing_limit (Some Publish) = Ok None

-- whether its next contents can't take its place
abbrev pub bars_publishing : Option FileTrouble → Bool
bars_publishing None = false
bars_publishing (Some Open) = false
bars_publishing (Some OpenMemory) = false
bars_publishing (Some InUse) = false
bars_publishing (Some Lock) = false
bars_publishing (Some LockMemory) = false
bars_publishing (Some (Read limit)) = false
bars_publishing (Some (Store limit)) = false
bars_publishing (Some StoreMemory) = false
bars_publishing (Some Publish) = true

-- why it isn't locked, where it isn't
abbrev pub lock_fault : Option FileTrouble → Option LockFault
lock_fault None = None
lock_fault (Some Open) = Some lock_faults.Device
lock_fault (Some OpenMemory) = Some lock_faults.OutOfMemory
lock_fault (Some InUse) = Some lock_faults.InUse
lock_fault (Some Lock) = Some lock_faults.Device
lock_fault (Some LockMemory) = Some lock_faults.OutOfMemory
lock_fault (Some (Read limit)) = None
lock_fault (Some (Store limit)) = None
lock_fault (Some StoreMemory) = None
lock_fault (Some Publish) = None

-- ---- the world of a command

abbrev pub is_in_use : Option LockFault → Bool
is_in_use (Some lock_faults.InUse) = true
is_in_use (Some lock_faults.Device) = false
is_in_use (Some lock_faults.OutOfMemory) = false
is_in_use None = false

-- whether it holds a lock; other processes hold that of a file that fails so, and write no file
abbrev pub folder_locking : MemoryFolder → Locking
folder_locking f = record { held = f.holds_lock; others = Some (record { hold = λ name. is_in_use (lock_fault (folder_trouble f name)); make = λ m. m }) }

-- over a folder and streams in memory
abbrev pub world_of : MemoryFolder → TrySource → TrySink → TrySink → World
world_of folder input output messages = record {
  files = Some (folder_files folder);
  lock = folder_locking folder;
  input = source_seen input;
  output = sink_written output;
  messages = sink_written messages;
}
