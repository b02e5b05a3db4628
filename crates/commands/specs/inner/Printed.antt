-- What a query finds, and what was printed of it.
use Rattle.std.specs.Prelude.{◌≡◌, ℕ, ◌⊎◌, Bool, true, false, List, [], ◌++◌, length, Option, None, Some, Result, Ok, Err, if◌then◌else◌, codes}
use Rattle.std.specs.Fmt.{decimal}
use Rattle.std.specs.FinMap as finite
use Rattle.device.specs.Device.{Written, Took}
use Rattle.paths.specs.Paths.{Path}
use Rattle.schema.specs.Conf.{Conf}
use Rattle.schema.specs.declared.code.Code.TheVariants.{NoSuchObject}
use Rattle.entries.specs.Entries.{EntryContent}
use Rattle.tree.specs.Directories.{Entries}
use Rattle.tree.specs.Trees.{Tree}
use Rattle.filter_text.specs.Spells.{view}
use Rattle.databases.specs.Found.{up_to, limited_text, goes_past}
use Rattle.databases.specs.IndexTexts.{index_text}
use Rattle.databases.specs.Scanned.{scan}
use Rattle.databases.specs.Selections.{Selection}
use Rattle.commands.specs.Failures.{FailsToWrite}
use Rattle.commands.specs.IndexFiles.{Said, said_by, found_by}
use Rattle.commands.specs.Queries.{HasBegun, PrintsPartly}
use Rattle.commands.specs.Failures.{Refuses}
use Rattle.commands.specs.declared.messages.CommandFault.{CommandFault}
use Rattle.commands.specs.declared.query.Form.{Form}
use Rattle.commands.specs.declared.query.Form.TheVariants.{Records, Count}
use Rattle.commands.specs.declared.query.Query.{Query}

-- a text of which this holds, whole
pub record HasPrinted (IsText : List ℕ → Type 0) (a b : Written) : Type 0 where
  pub text : List ℕ
  pub is : IsText text
  pub took : Took a b text

-- ---- what a query finds in a tree

-- by a test of each entry in scope
abbrev pub scanned : Query → Tree → List (Path × EntryContent)
scanned q t = scan t.conf t.entries q.base q.scope (view q.filter.filter)

-- by what index.txt says
abbrev pub found : Query → Said → Tree → List (Path × EntryContent)
found q said t = found_by said t.conf t.entries q.base q.scope (view q.filter.filter)

-- the text of entries that were found, up to the limit: their records behind a text, or how many they are, and a text behind that
abbrev pub text_as : Form → ℕ → Conf → Entries → Selection → Option ℕ → List (Path × EntryContent) → List ℕ
text_as (Records front) width conf d s limit es = front ++ limited_text width conf d s limit es
text_as (Count tail) width conf d s limit es = decimal (length (up_to limit es)) ++ tail

abbrev pub query_text : Query → Tree → List (Path × EntryContent) → List ℕ
query_text q t es = text_as q.form q.width t.conf t.entries q.selection q.limit es

-- that of a query that is answered by a test of each entry; nothing where the base isn't there
abbrev pub scanned_text : Query → Tree → List ℕ
scanned_text q t = if finite.contains_key t.entries q.base then query_text q t (scanned q t) else []

-- The base is there, and these are the entries that are found. Where the text of index.txt is that of the directory's index, they are all that the
-- filter finds.
pub record AreFound (q : Query) (said : Said) (t : Tree) (es : List (Path × EntryContent)) : Type 0 where
  pub there : finite.contains_key t.entries q.base ≡ true
  pub are : es ≡ found q said t
  pub whole : said ≡ said_by t.conf t.entries (Some (index_text t.conf t.entries)) → found q said t ≡ scanned q t

-- The base is there, and it is the text of what is found, and whether there is more. Where the text of index.txt is that of the directory's
-- index, that is all that the filter finds.
pub record IsTextOf (q : Query) (said : Said) (t : Tree) (past : Bool) (text : List ℕ) : Type 0 where
  pub there : finite.contains_key t.entries q.base ≡ true
  pub past_is : past ≡ goes_past q.limit (found q said t)
  pub text_is : text ≡ query_text q t (found q said t)
  pub whole : said ≡ said_by t.conf t.entries (Some (index_text t.conf t.entries)) → found q said t ≡ scanned q t

-- ---- what was printed

-- the base isn't there, or memory ran out
abbrev pub FailsToFind : Query → Tree → CommandFault → Type 0
FailsToFind q t fault = Refuses (codes "search") (λ code. (finite.contains_key t.entries q.base ≡ false) × (code ≡ NoSuchObject)) fault

-- or the output can't be written
abbrev pub FailsToPrint : Query → Tree → CommandFault → Type 0
FailsToPrint q t fault = FailsToFind q t fault ⊎ FailsToWrite (codes "output") fault

-- what a query finds by what index.txt says, and it was answered whether there is more; or that was broken off with this fault
abbrev pub PrintsFound : Query → Said → Tree → Written → Written → Result Bool CommandFault → Type 0
PrintsFound q said t a b (Ok past) = HasPrinted (IsTextOf q said t past) a b
PrintsFound q said t a b (Err fault) =
    FailsToPrint q t fault × PrintsPartly (HasBegun (λ text. (past : Bool) × IsTextOf q said t past text) None) a b fault
