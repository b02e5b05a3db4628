use Rattle.std.proofs.Common.{◌≡◌, ◌+◌, ◌<◌, ◌^◌, length}
use Rattle.std.specs.List.{AllByRecursion}
use Rattle.entries.specs.StoredEntries.{IsMade}
use Rattle.filter_text.specs.Spells.{view}
use Rattle.databases.specs.Walks.{lent, tested_in_all}
use Rattle.databases.proofs.hits.next_hit.Given as goal

abbrev pub invariant-loop-found : goal.invariant-loop-found
invariant-loop-found g l =
    record {
      made : AllByRecursion (λ e. IsMade l.fn.filter.conf.types e.entry.attrs) l.rest;
      room : l.meter + length l.rest < 2 ^ 64;
      come : lent l.fn.filter.conf.types l.fn.scope l.fn.base_depth (view l.fn.filter.filter) l.meter l.rest
          ≡ lent l.fn.filter.conf.types l.fn.scope l.fn.base_depth (view l.fn.filter.filter) l.initial.meter l.initial.rest;
      end : tested_in_all l.fn.scope l.fn.base_depth l.meter l.rest ≡ tested_in_all l.fn.scope l.fn.base_depth l.initial.meter l.initial.rest;
    }

abbrev pub decreases-loop-found : goal.decreases-loop-found
decreases-loop-found g l = length l.rest
