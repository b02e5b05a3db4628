-- What is printed of entries that a search finds.
use Rattle.std.specs.Prelude.{◌≡◌, ℕ, Bool, false, List, take, length, nat_lt, Option, Some, None, Result, Ok, Err}
use Rattle.std.specs.List.{flat_map, AllByRecursion}
use Rattle.std.specs.FinMap as finite
use Rattle.device.specs.Device.{Written, Took}
use Rattle.ldif.specs.Contents.{ContentRecord, write_content_to}
use Rattle.ldif.specs.declared.write.WriteFault.{WriteFault}
use Rattle.paths.specs.Paths.{Path}
use Rattle.schema.specs.Conf.{Conf}
use Rattle.entries.specs.Entries.{EntryContent}
use Rattle.tree.specs.Directories.{Entries, record_at}
use Rattle.databases.specs.Selections.{Selection, selected}
use Rattle.ldif.specs.Written.{Writes}

-- these are entries of the directory
abbrev pub AreThere : Entries → List (Path × EntryContent) → Type 0
AreThere d es = AllByRecursion (λ e. finite.get d e.0 ≡ Some e.1) es

abbrev pub found_record : Conf → Entries → Selection → Path × EntryContent → ContentRecord
found_record conf d s e = record_at conf d e.0 (selected s e.1)

-- each entry as in the dump, with the attributes that are selected, its lines folded to a width
unfoldable pub found_text : ℕ → Conf → Entries → Selection → List (Path × EntryContent) → List ℕ
found_text width conf d s es = flat_map (λ e. write_content_to width (found_record conf d s e)) es

-- ---- a limit (RFC 4511, 4.5.1.4)

-- as many as the limit, the first ones
abbrev pub up_to : {A : Type 0} → Option ℕ → List A → List A
up_to None xs = xs
up_to (Some n) xs = take n xs

-- whether there are more than the limit
abbrev pub goes_past : {A : Type 0} → Option ℕ → List A → Bool
goes_past None xs = false
goes_past (Some n) xs = nat_lt n (length xs)

-- the text of these first ones
abbrev pub limited_text : ℕ → Conf → Entries → Selection → Option ℕ → List (Path × EntryContent) → List ℕ
limited_text width conf d s limit es = found_text width conf d s (up_to limit es)

-- the bytes were written, and the answer is this; or as many were written as came before the fault
pub record Answers (past wanted : Bool) (a b : Written) (bytes : List ℕ) : Type 0 where
  pub past_is : past ≡ wanted
  pub written : Took a b bytes

abbrev pub WritesFound : Result Bool WriteFault → Bool → Written → Written → List ℕ → Type 0
WritesFound (Ok past) wanted a b bytes = Answers past wanted a b bytes
WritesFound (Err e) wanted a b bytes = Writes (Err e) a b bytes
