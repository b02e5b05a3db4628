-- How far storing came.
use Rattle.std.specs.Prelude.{◌≡◌, ℕ, List, [], ◌∷◌, Option}
use Rattle.tree.specs.Trees.{Tree}
use Rattle.folders.specs.Folders.{File, Files, with_files}
use Rattle.commands.specs.Stored.{index_file, kept_files, StoreFails}
use Rattle.commands.specs.declared.messages.CommandFault.{CommandFault}

-- the files of a directory that slapindex stores
abbrev pub index_files : List ℕ → Tree → List File
index_files db t = index_file db t.conf t.entries ∷ []

-- those that slapadd and ldapmodify store
abbrev pub database_files : List ℕ → Tree → List File
database_files db t = kept_files db t.conf t.entries

-- these files were to be stored: some of them were, perhaps none, and then that failed
pub record StoresPartly (files : List File) (before after : Option Files) (fault : CommandFault) : Type 0 where
  pub stored : List File
  pub why : StoreFails files stored fault
  pub after_is : after ≡ with_files before stored

-- ---- drafts, where a folder says what is the draft of a file of this name with this text

-- this holds of the name and the text of the file that it is a draft of
abbrev pub OfDraft : {D : Type 0} → (D → List ℕ → List ℕ → Type 0) → D → (List ℕ → List ℕ → Type 0) → Type 0
OfDraft is_draft draft Holds = (name text : List ℕ) → is_draft draft name text → Holds name text

-- of the two files that they are drafts of
abbrev pub OfDrafts : {D : Type 0} → (D → List ℕ → List ℕ → Type 0) → D → D → (File → File → Type 0) → Type 0
OfDrafts is_draft first second Holds =
    (a b : File) → is_draft first a.name a.text → is_draft second b.name b.text → Holds a b
