-- What a query looks for.
use Rattle.std.specs.Prelude.{◌≡◌, ℕ, Bool, true, false, [], ◌∷◌, map, None}
use Rattle.std.specs.Option.{option_copied}
use Rattle.base.specs.Ascii.{line_feed}
use Rattle.paths.specs.Paths.{Path}
use Rattle.paths.specs.declared.scope.Scope.TheVariants.{Sub}
use Rattle.schema.specs.Conf.{Conf}
use Rattle.filter.specs.Made.{Made}
use Rattle.filter_text.specs.declared.filters.Filter.{Filter}
use Rattle.command_line.specs.declared.request.SearchOptions.{SearchOptions}
use Rattle.commands.specs.Asked.{IsBase, IsSelection}
use Rattle.commands.specs.declared.query.Form.{Form}
use Rattle.commands.specs.declared.query.Form.TheVariants.{Records, Count}
use Rattle.commands.specs.declared.query.Query.{Query}

-- what is printed of what is found: how many they are, or their records
abbrev pub form_of : Bool → Form
form_of true = Count (line_feed ∷ [])
form_of false = Records []

-- what a search is asked for, looked up under a configuration, by its filter
pub record IsQueryOf (asked : SearchOptions) (f : Made) (conf : Conf) (q : Query) : Type 0 where
  pub filter : q.filter ≡ f
  pub base : IsBase conf (option_copied asked.base) q.base
  pub scope : q.scope ≡ asked.scope
  pub selection : IsSelection conf (map (λ w. w.now) asked.attributes.items) q.selection
  pub limit : q.limit ≡ asked.limit
  pub form : q.form ≡ form_of asked.count
  pub width : q.width ≡ asked.width

-- all of the entries at a base and below it of which a filter is True, with lines of a width
abbrev pub excerpt_query : Conf → Filter → Path → ℕ → Query
excerpt_query conf filter base width = record {
  filter = record { conf = conf; filter = filter };
  base = base;
  scope = Sub;
  selection = None;
  limit = None;
  form = Records [];
  width = width;
}
