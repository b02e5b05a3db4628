use Rattle.sorting.specs.Stanzas.{stanzas}
use Rattle.sorting.specs.Sorted.{body}
use Rattle.sorting.specs.Reads.{record_lines}
use Rattle.sorting.proofs.Complete.{all_parts_there}
use Rattle.sorting.proofs.OneEach.{one_each}
use Rattle.sorting.proofs.Reading.{sorted_stand, unsorted_stand}
use Rattle.sorting.proofs.laws.stanzas_are_read_by_themselves.Goals as goal

pub returns-clause-sorted : goal.returns-clause-sorted
returns-clause-sorted c = sorted_stand

pub returns-clause-unsorted : goal.returns-clause-unsorted
returns-clause-unsorted c = unsorted_stand

pub returns-clause-one : goal.returns-clause-one
returns-clause-one c = one_each

pub returns-clause-all : goal.returns-clause-all
returns-clause-all c = λ text. all_parts_there record_lines (stanzas (body text))
