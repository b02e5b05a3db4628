-- What of two directories is compared.
use Rattle.std.specs.Prelude.{Bool, true, false, ◌||◌, ◌&&◌, List, Option, Some, None}
use Rattle.std.specs.Borrow.{Bor}
use Rattle.std.specs.Option.{option_map}
use Rattle.std.specs.FinMap as finite
use Rattle.values.specs.declared.types.AttributeType.{AttributeType}
use Rattle.paths.specs.Paths.{Path, begins}
use Rattle.schema.specs.Conf.{Conf}
use Rattle.entries.specs.Entries.{EntryContent}
use Rattle.filter_text.specs.Spells.{FilterContent, view}
use Rattle.filter.specs.Made.{Made}
use Rattle.filter.specs.Truths.{is_true}
use Rattle.filter.specs.Filters.{truth}
use Rattle.tree.specs.Directories.{Entries}
use Rattle.differences.specs.Differences.{Extent}
use Rattle.differences.specs.declared.comparison.Comparison.{Comparison}

abbrev pub filter_in : Option (Bor Made) → Option FilterContent
filter_in filter = option_map (λ f. view f.now.filter) filter

-- whether a filter is True of what stands at a path (RFC 4511, 4.5.1.7); without a filter all is compared
abbrev pub passes : List AttributeType → Option FilterContent → Option EntryContent → Bool
passes types None o = true
passes types (Some f) None = false
passes types (Some f) (Some e) = is_true (truth types e.attrs f)

-- what is compared: at and below a base, where the filter is True of an entry in one of the two
abbrev pub extent_by : Bool → Path → Option FilterContent → Conf → Entries → Entries → Extent
extent_by as_sets base f conf a b = record {
  as_sets = as_sets;
  has = λ p. begins base p && (passes conf.types f (finite.get a p) || passes conf.types f (finite.get b p));
}

abbrev pub extent_of : Comparison → Conf → Entries → Entries → Extent
extent_of c conf a b = extent_by c.unordered c.base.now (filter_in c.filter) conf a b
