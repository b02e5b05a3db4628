-- What a directory is seen as.
use Rattle.std.specs.Prelude.{ℕ, refl}
use Rattle.std.specs.Coded.{Coded, code_by, coded×, coded_ℕ}
use Rattle.schema.specs.Conf.{Conf}
use Rattle.tree.specs.Directories.{Entries}
use Rattle.tree.specs.Trees.{Tree, Numbers, tree_code}

-- its configuration, its entries with their numbers, the number that the next new entry gets, and how many edits of its index were made
pub record Directory : Type 0 where
  pub conf : Conf
  pub entries : Entries
  pub numbers : Numbers
  pub next_number : ℕ
  pub edits : ℕ

abbrev pub tree_of : Directory → Tree
tree_of d = record { conf = d.conf; entries = d.entries; numbers = d.numbers; next_number = d.next_number }

-- a tree, with the index that is kept with it
abbrev pub with_edits : Tree → ℕ → Directory
with_edits t edits = record { conf = t.conf; entries = t.entries; numbers = t.numbers; next_number = t.next_number; edits = edits }

abbrev pub directory_code : Coded Directory
directory_code = code_by (Tree × ℕ) (coded× tree_code coded_ℕ) (λ d. (tree_of d, d.edits)) (λ p. with_edits p.0 p.1) (λ _. refl)
