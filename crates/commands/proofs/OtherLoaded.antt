-- The other directory, by the source that it is loaded from.
use Rattle.std.proofs.Common.{◌≡◌, ℕ, List, Option, None, Some, inr, refl, sym, subst}
use Rattle.std.specs.Prelude.{codes}
use Rattle.std.specs.Option.{option_map}
use Rattle.std.specs.FinMap as finite
use Rattle.device.specs.Device.{Seen}
use Rattle.ldif_lines.specs.Records.{records}
use Rattle.databases.specs.Folds.{Over}
use Rattle.databases.specs.Runs.{LoadsRecords}
use Rattle.schema.specs.Conf.{Conf}
use Rattle.tree.specs.Directories.{Entries}
use Rattle.folders.specs.Folders.{Finds}
use Rattle.commands.specs.Worlds.{World}
use Rattle.commands.specs.Changes.{IsSource, source_name}
use Rattle.commands.specs.Differences.{LoadsSource, LoadsOther, SourceFails, LacksOther}
use Rattle.commands.specs.declared.messages.CommandFault.{CommandFault}

module _ (file : Option (List ℕ)) (conf : Conf) (w w' : World) where
  -- from the input
  is_input : file ≡ None → IsSource file w w' w.input w'.input
  is_input none = subst (λ (f : Option (List ℕ)). IsSource f w w' w.input w'.input) (sym none) (refl, refl)

  pub from_input : file ≡ None → (d : Entries) → LoadsSource conf w.input d → w' ≡ record w { input = w'.input } → LoadsOther file conf d w w'
  from_input none d loads stays = record { source = w.input; source' = w'.input; source_is = is_input none; loads = loads; stays = stays }

  pub input_fails : file ≡ None → (fault : CommandFault) → SourceFails conf (codes "input") w.input fault → w' ≡ record w { input = w'.input } → LacksOther file conf fault w w'
  input_fails none fault fails stays = inr (record {
    source = w.input;
    source' = w'.input;
    source_is = is_input none;
    fails = subst (λ (f : Option (List ℕ)). SourceFails conf (source_name f) w.input fault) (sym none) fails;
    stays = stays;
  })

module _ (file : Option (List ℕ)) (conf : Conf) (w : World) (name : List ℕ) (named : file ≡ Some name) where
  -- from a file
  is_file : (source : Seen) → Finds w.files name (Some source.left) → IsSource file w w source source
  is_file source finds = subst (λ (f : Option (List ℕ)). IsSource f w w source source) (sym named) (finds, refl)

  -- only what is left to read of it counts
  pub from_file : (left : Option (List ℕ)) → Finds w.files name (Some left) → (d : Entries) → Over (option_map records left) (λ given. LoadsRecords conf finite.empty given d) → LoadsOther file conf d w w
  from_file left finds d loads =
      let source : Seen = record (w.input) { left = left } in
      record { source = source; source' = source; source_is = is_file source finds; loads = loads; stays = refl }

  pub file_fails : (source : Seen) → Finds w.files name (Some source.left) → (fault : CommandFault) → SourceFails conf name source fault → LacksOther file conf fault w w
  file_fails source finds fault fails = inr (record {
    source = source;
    source' = source;
    source_is = is_file source finds;
    fails = subst (λ (f : Option (List ℕ)). SourceFails conf (source_name f) source fault) (sym named) fails;
    stays = refl;
  })
