-- Files that are stored together, of which one can't be.
use Rattle.std.proofs.Common.{◌≡◌, List, [], ◌∷◌, ◌++◌, ℕ, Option, inl, inr, ◌⊎◌, refl, subst, ◌∙◌}
use Rattle.std.specs.Prelude.{Result, Ok, Err, IfErr, OnErr}
use Rattle.commands.specs.Failures.{IsMemory, FailsToWrite, NamesUnwritten}
use Rattle.folders.specs.Folders.{File, Files, with_file, with_files}
use Rattle.commands.specs.Stored.{FailsToStore}
use Rattle.commands.specs.Worlds.{World}
use Rattle.commands.specs.inner.Stores.{StoresPartly}
use Rattle.commands.specs.declared.messages.CommandFault.{CommandFault}
use Rattle.commands.specs.declared.messages.Stop.TheVariants as stops
use Rattle.commands.proofs.Stopping.{of_memory}

-- this one can't be written, or memory ran out, and none was stored
pub not_drafted : (before : List File) (file : File) (rest : List File) (old new : Option Files) (f : CommandFault) → new ≡ old → FailsToWrite file.name f → StoresPartly (before ++ file ∷ rest) old new f
not_drafted before file rest old new f same fails = record {
  stored = [];
  why = inl (record { before = before; file = file; rest = rest; files_are = refl; why = fails; none = refl });
  after_is = same;
}

-- this one couldn't be put in its place, and those before it were
pub not_published : (stored : List File) (file : File) (rest : List File) (old new : Option Files) (f : CommandFault) → new ≡ with_files old stored → NamesUnwritten file.name f → StoresPartly (stored ++ file ∷ rest) old new f
not_published stored file rest old new f is unwritten = record { stored = stored; why = inr (record { file = file; rest = rest; files_are = refl; why = unwritten }); after_is = is }

-- it is the first one, which is stored alone or before others
pub first_fails : {A : Type 0} (r : Result A CommandFault) (file : File) (rest : List File) (before after : Option Files) → IfErr r (FailsToWrite file.name) → OnErr r (after ≡ before) → IfErr r (StoresPartly (file ∷ rest) before after)
first_fails {A} (Ok x) file rest before after fails same = tt
first_fails {A} (Err f) file rest before after fails same = not_drafted [] file rest before after f same fails

-- it is the second of two, and the first was put in its place
pub second_fails : {A : Type 0} (r : Result A CommandFault) (first second : File) (old mid new : Option Files) → mid ≡ with_file old first.name first.text → OnErr r (new ≡ mid) → IfErr r (NamesUnwritten second.name) → IfErr r (StoresPartly (first ∷ second ∷ []) old new)
second_fails {A} (Ok x) first second old mid new is same unwritten = tt
second_fails {A} (Err f) first second old mid new is same unwritten = not_published (first ∷ []) second [] old new f (same ∙ is) unwritten

-- one of two can't be written, or memory ran out, and none was stored
pub either_fails : (first second : File) (files : Option Files) (f : CommandFault) → FailsToWrite first.name f ⊎ FailsToWrite second.name f → StoresPartly (first ∷ second ∷ []) files files f
either_fails first second files f (inl fails) = not_drafted [] first (second ∷ []) files files f refl fails
either_fails first second files f (inr fails) = not_drafted (first ∷ []) second [] files files f refl fails

-- so it is where they go by these names
pub either_named : (first second : File) (n m : List ℕ) (files : Option Files) (f : CommandFault) → n ≡ first.name → m ≡ second.name → FailsToWrite n f ⊎ FailsToWrite m f → StoresPartly (first ∷ second ∷ []) files files f
either_named first second n m files f is_first is_second fails =
    either_fails first second files f (subst (λ (k : List ℕ). FailsToWrite k f ⊎ FailsToWrite second.name f) is_first (subst (λ (k : List ℕ). FailsToWrite n f ⊎ FailsToWrite k f) is_second fails))

-- memory ran out before any was written
pub memory_fails : (file : File) (rest : List File) (files : Option Files) (f : CommandFault) → IsMemory f → StoresPartly (file ∷ rest) files files f
memory_fails file rest files = of_memory (StoresPartly (file ∷ rest) files files) (not_drafted [] file rest files files _ refl tt)

-- the command stops there
pub fails_partly : (files : List File) (w w' : World) (f : CommandFault) (p : StoresPartly files w.files w'.files f) → w' ≡ record w { files = w'.files } → FailsToStore files w (record { why = stops.Fault f; stored = p.stored; world = w' })
fails_partly files w w' f p stays = record { why = p.why; stays = stays }
