-- A part of a directory as text.
use Rattle.std.specs.Prelude.{ℕ, List, [], None, if◌then◌else◌}
use Rattle.std.specs.FinMap as finite
use Rattle.paths.specs.Paths.{Path}
use Rattle.schema.specs.Conf.{Conf}
use Rattle.tree.specs.Directories.{Entries}
use Rattle.filter_text.specs.Spells.{FilterContent}
use Rattle.paths.specs.declared.scope.Scope.TheVariants.{Sub}
use Rattle.databases.specs.Scanned.{scan}
use Rattle.databases.specs.Found.{found_text}

-- the entries at a base and below it of which a filter is True, whole, with lines of a width; nothing where the base isn't there
abbrev pub excerpt_text : ℕ → Conf → Entries → Path → FilterContent → List ℕ
excerpt_text width conf d base f = if finite.contains_key d base then found_text width conf d None (scan conf d base Sub f) else []
