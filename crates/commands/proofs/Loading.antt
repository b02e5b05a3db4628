-- The directory in a folder, by what was found there.
use Rattle.std.proofs.Common.{◌≡◌, ℕ, List, Option, Some, None, sym, subst}
use Rattle.std.specs.Option.{option_map}
use Rattle.schema.specs.Conf.{Conf}
use Rattle.tree.specs.Trees.{Tree}
use Rattle.folders.specs.Folders.{Files, Finds}
use Rattle.commands.specs.DirectoryFiles.{conf_name, data_name}
use Rattle.commands.specs.Loaded.{IsConfigured, IsLoaded, LoadsFound}

-- what was opened is a source
pub opened_so : {A : Type 0} (files : Option Files) (name : List ℕ) (left_of : A → Option (List ℕ)) (found : Option A) (source : A) → Finds files name (option_map left_of found) → found ≡ Some source → Finds files name (Some (left_of source))
opened_so {A} files name left_of found source finds is = subst (λ (o : Option A). Finds files name (option_map left_of o)) is finds

-- what was not opened isn't there
pub missing_so : {A : Type 0} (files : Option Files) (name : List ℕ) (left_of : A → Option (List ℕ)) (found : Option A) → Finds files name (option_map left_of found) → found ≡ None → Finds files name None
missing_so {A} files name left_of found finds is = subst (λ (o : Option A). Finds files name (option_map left_of o)) is finds

module _ (files : Option Files) (db : List ℕ) (conf : Conf) (configured : IsConfigured files (conf_name db) conf) where
  -- what is found of data.ldif has these entries
  pub loaded_so : (name : List ℕ) → name ≡ data_name db → (found : Option (Option (List ℕ))) → Finds files name found → (t : Tree) → t.conf ≡ conf → LoadsFound conf found t.entries → IsLoaded files db t.conf t.entries
  loaded_so name named found finds t same loads = subst (λ (k : Conf). IsLoaded files db k t.entries) (sym same) (record {
    configured = configured;
    found = found;
    there = subst (λ (n : List ℕ). Finds files n found) named finds;
    loads = loads;
  })
