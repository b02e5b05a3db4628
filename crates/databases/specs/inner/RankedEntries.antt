-- Entries, each with its rank in the dump.
use Rattle.std.specs.Prelude.{◌≡◌, ℕ, ◌+◌, List, [], ◌∷◌, ⊤}
use Rattle.std.specs.List.{AllByRecursion}
use Rattle.std.specs.List.Sorted.{IsPermutation}
use Rattle.schema.specs.Conf.{Conf}
use Rattle.entries.specs.Entries.{EntryContent}
use Rattle.entries.specs.StoredEntries.{attributes_of, IsMade}
use Rattle.tree.specs.Directories.{Entries}
use Rattle.index_keys.specs.declared.type_norms.Numbered.{Numbered}
use Rattle.databases.specs.IndexTexts.{contents}

-- these are the entries, the first of which has this rank
abbrev pub AreFrom : ℕ → List EntryContent → List Numbered → Type 0
AreFrom rank [] [] = ⊤
AreFrom rank (c ∷ cs) (e ∷ es) = (e.number ≡ rank) × (attributes_of e.entry.now.attrs ≡ c.attrs) × AreFrom (rank + 1) cs es
AreFrom rank [] (e ∷ es) = ⊥
AreFrom rank (c ∷ cs) [] = ⊥

-- the entries of a directory in some order, each with its rank
pub record AreRankedEntries (conf : Conf) (d : Entries) (es : List Numbered) : Type 0 where
  pub made : AllByRecursion (λ e. IsMade conf.types e.entry.now.attrs) es
  pub in_order : List Numbered
  pub from : AreFrom 0 (contents d) in_order
  pub moved : IsPermutation in_order es
