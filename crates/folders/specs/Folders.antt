-- Files by their names, and what stands at a name.
use Rattle.std.specs.Prelude.{◌≡◌, ℕ, List, [], ◌∷◌, Option, Some, IfSome}
use Rattle.std.specs.Option.{option_map}
use Rattle.std.specs.Ordering.{nat_cmp}
use Rattle.std.specs.Cmp.Lexicographic.{slice_cmp}
use Rattle.std.specs.FinMap as finite

-- the bytes of each file, by its name
abbrev pub Files : Type 0
Files = finite.FinMap (slice_cmp nat_cmp) (List ℕ)

-- What was found at a name is what stands there, where the folder tells its files: no file, or a source with the file's bytes left.
abbrev pub Finds : Option Files → List ℕ → Option (Option (List ℕ)) → Type 0
Finds files name found = IfSome files (λ m. found ≡ option_map (λ bytes. Some bytes) (finite.get m name))

-- with this file, in place of the one of its name, if there is one
abbrev pub with_file : Option Files → List ℕ → List ℕ → Option Files
with_file files name text = option_map (λ m. finite.insert m name text) files

-- a file: its name and its bytes
pub record File : Type 0 where
  pub name : List ℕ
  pub text : List ℕ

-- with these files, one after the other
abbrev pub with_files : Option Files → List File → Option Files
with_files files [] = files
with_files files (file ∷ rest) = with_files (with_file files file.name file.text) rest
