-- Entries as the definitions of commands see them.
use Rattle.std.specs.Prelude.{Result}
use Rattle.tree.specs.Trees.{Tree}
use Rattle.filter_text.specs.Spells.{view}
use Rattle.filter_text.specs.declared.filters.Filter.{Filter}
use Rattle.databases.specs.declared.runs.Tally.{Tally}
use Rattle.databases.specs.declared.runs.RunFault.{RunFault}
use Rattle.commands.specs.Queries.{Basis}
use Rattle.commands.specs.Changes.{Run}

-- with a filter
abbrev pub basis_of : Filter → Tree → Basis
basis_of filter d = record { filter = view filter; conf = d.conf; entries = d.entries }

-- before and after a run, with what that answers
abbrev pub run_of : Tree → Tree → Result Tally RunFault → Run
run_of d d' answer = record { conf = d.conf; old = d.entries; new = d'.entries; answer = answer }
