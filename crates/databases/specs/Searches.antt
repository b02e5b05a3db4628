-- What a search of a directory answers, and what postings have to show for it.
use Rattle.std.specs.Prelude.{◌≡◌, ⊤, ℕ, Bool, false, List, Some}
use Rattle.std.specs.List.{slice_get}
use Rattle.std.specs.FinMap as finite
use Rattle.std.specs.FinSet as set
use Rattle.paths.specs.Paths.{Path}
use Rattle.values.specs.declared.types.AttributeType.{AttributeType}
use Rattle.schema.specs.declared.code.Code.TheVariants.{NoSuchObject}
use Rattle.schema.specs.declared.slots.IndexKind.{IndexKind}
use Rattle.schema.specs.declared.slots.Slot.{Slot}
use Rattle.schema.specs.Conf.{Conf}
use Rattle.entries.specs.Entries.{EntryContent}
use Rattle.tree.specs.Directories.{Entries}
use Rattle.tree.specs.Trees.{Tree}
use Rattle.entries.specs.declared.refusal.Refusal.{Refusal}
use Rattle.entries.specs.declared.refusal.Refusal.TheVariants.{Code, OutOfMemory}
use Rattle.filter.specs.Made.{Made}
use Rattle.index_text.specs.Postings.{Shown, slot_in}
use Rattle.candidates.specs.Asked.{asked_keys, HaveSameSlots, ShowAlike}
use Rattle.candidates.specs.Brackets.{Reflects}
use Rattle.candidates.specs.Candidates.{prepared_of, may_be_true}
use Rattle.databases.specs.Ranks.{rank_in}
use Rattle.databases.specs.IndexTexts.{ranks_with, contents}

-- why a search finds nothing: its base isn't there, or memory ran out
abbrev pub IsRefused : Entries → Path → Refusal → Type 0
IsRefused d base (Code code) = (code ≡ NoSuchObject) × (finite.contains_key d base ≡ false)
IsRefused d base OutOfMemory = ⊤

-- ---- candidates

-- whether the filter may be True of the entry at a path, by what postings show of its rank
abbrev pub may_by_rank : Shown → Made → Tree → Path → Bool
may_by_rank shown f t p = may_be_true shown f (rank_in t.entries p)

-- A part of what postings show is the whole to a filter: it has the same slots, and shows the same members of the keys that the filter asks for.
pub record ShowsTo (f : Made) (part whole : Shown) : Type 0 where
  pub slots : HaveSameSlots part whole
  pub keys : ShowAlike part whole (asked_keys whole.slot_of (prepared_of f))

-- ---- what postings show of a dump

-- Under each slot that postings show, the rank of each entry stands under exactly the keys that the entry has.
pub record ReflectsDump (shown : Shown) (types : List AttributeType) (d : Entries) : Type 0 where
  pub each : (p : Path) (e : EntryContent) → finite.get d p ≡ Some e → Reflects shown types (rank_in d p) e.attrs

-- They show what the index text of a dump says: each slot of the configuration by its place, and under a key the ranks of the entries that have it.
pub record ShowsIndexText (shown : Shown) (conf : Conf) (d : Entries) : Type 0 where
  pub slots : (t : ℕ) (kind : IndexKind) → shown.slot_of t kind ≡ slot_in conf.slots t kind
  pub ranks : (place : ℕ) (s : Slot) (key : List ℕ) → slice_get conf.slots place ≡ Some s → shown.members place key ≡ set.from_list (ranks_with conf.types s key 0 (contents d))
