-- Deleting an entry (RFC 4511, 4.8): the change that comes of it, or the code of the first check that fails.
use Rattle.std.specs.Prelude.{ℕ, not, List, Result, Ok, Err, if◌then◌else◌}
use Rattle.std.specs.FinMap as finite
use Rattle.schema.specs.declared.code.Code.{Code}
use Rattle.schema.specs.declared.code.Code.TheVariants.{NoSuchObject, NotAllowedOnNonLeaf}
use Rattle.paths.specs.Paths.{Path}
use Rattle.schema.specs.Conf.{Conf, located, path_of}
use Rattle.base.specs.Answers.{◌>>=◌}
use Rattle.tree.specs.Directories.{Entries}
use Rattle.tree.specs.Changes.{Change, Remove}
use Rattle.tree.specs.Trees.{has_child}

-- it is there, and nothing stands below it
abbrev pub delete_at : Entries → Path → Result Change Code
delete_at d p =
    if not (finite.contains_key d p) then Err NoSuchObject
    else (if has_child d p then Err NotAllowedOnNonLeaf
    else Ok (Remove p))

-- the entry with this name
unfoldable pub delete : Conf → Entries → List ℕ → Result Change Code
delete conf d dn = located conf dn >>= λ rs. delete_at d (path_of conf rs)
