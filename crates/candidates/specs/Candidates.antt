-- The candidates of a filter: the entries of which it may be True, and those of which it may be False, by their numbers.
use Rattle.std.specs.Prelude.{ℕ, Bool}
use Rattle.filter_text.specs.Spells.{view}
use Rattle.filter.specs.Made.{Made}
use Rattle.filter.specs.Prepared.{PreparedContent, prepared_filter}
use Rattle.index_text.specs.Postings.{Shown}
use Rattle.candidates.specs.Sides.{sides}

-- the filter with its items prepared under its configuration
abbrev pub prepared_of : Made → PreparedContent
prepared_of f = prepared_filter f.conf.types (view f.filter)

-- whether it may be True of the entry with a number
abbrev pub may_be_true : Shown → Made → ℕ → Bool
may_be_true shown f n = (sides shown n (prepared_of f)).may

-- whether it may be False of it
abbrev pub may_be_false : Shown → Made → ℕ → Bool
may_be_false shown f n = (sides shown n (prepared_of f)).may_not
