-- References: values of DN syntax (RFC 4517, 3.3.9), each of which names an entry, and which of them name none.
use Rattle.std.specs.Prelude.{◌≡◌, ◌⊎◌, ℕ, Bool, true, false, not, nat_eq, ◌&&◌, List, [], ◌∷◌, filter, None, Result, Ok, Err}
use Rattle.std.specs.List.{list_any, Contains}
use Rattle.std.specs.FinMap as finite
use Rattle.values.specs.declared.types.AttributeType.{AttributeType}
use Rattle.paths.specs.Paths.{Path}
use Rattle.schema.specs.declared.code.Code.{Code}
use Rattle.schema.specs.TypeRules.{has_name_syntax}
use Rattle.schema.specs.Conf.{Conf, path_of_text}
use Rattle.tree.specs.Directories.{Entries}
use Rattle.checks.specs.declared.entry_value.EntryValue.{EntryValue}
use Rattle.checks.specs.EntryValues.{all_values, IsThere}

-- whether a type is among those that are named; where none is, all are meant
abbrev pub is_meant : List ℕ → ℕ → Bool
is_meant [] t = true
is_meant (n ∷ ns) t = list_any (λ m. nat_eq m t) (n ∷ ns)

-- whether the values of a type are looked at: they are names, and the type is meant
abbrev pub is_looked_at : List AttributeType → List ℕ → ℕ → Bool
is_looked_at types named t = has_name_syntax types t && is_meant named t

-- whether no entry is where a name stands; a name that stands nowhere below the suffix, as the empty one, is another directory's
abbrev pub is_missing : Entries → Result Path Code → Bool
is_missing d (Ok p) = not (finite.contains_key d p)
is_missing d (Err code) = false

-- whether a text is the name of an entry, at the suffix or below it, that isn't there
abbrev pub names_no_entry : Conf → Entries → List ℕ → Bool
names_no_entry conf d text = is_missing d (path_of_text conf text)

abbrev pub is_dangling : Conf → Entries → List ℕ → EntryValue → Bool
is_dangling conf d named v = is_looked_at conf.types named v.type_id && names_no_entry conf d v.value

-- the references that dangle, in the order of the dump
abbrev pub dangling : Conf → Entries → List ℕ → List EntryValue
dangling conf d named = filter (is_dangling conf d named) (all_values d)

-- ---- the same, stated by itself

-- a reference dangles: its type takes names and is meant, it is the name of what stands at a path, and no entry stands there
pub record Dangles (conf : Conf) (d : Entries) (named : List ℕ) (v : EntryValue) : Type 0 where
  pub there : IsThere d v
  pub is_name : has_name_syntax conf.types v.type_id ≡ true
  pub meant : (named ≡ []) ⊎ Contains named v.type_id
  pub path : Path
  pub names : path_of_text conf v.value ≡ Ok path
  pub missing : finite.get d path ≡ None

-- what is told dangles, and what dangles is told
abbrev pub EachDangles : Conf → Entries → List ℕ → List EntryValue → Type 0
EachDangles conf d named told = (v : EntryValue) → Contains told v → Dangles conf d named v

abbrev pub EachIsTold : Conf → Entries → List ℕ → List EntryValue → Type 0
EachIsTold conf d named told = (v : EntryValue) → Dangles conf d named v → Contains told v
