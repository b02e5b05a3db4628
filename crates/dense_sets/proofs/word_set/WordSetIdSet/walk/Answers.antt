use Rattle.std.proofs.Common.{◌∙◌, sym, ap, subst, rules}
use Rattle.std.specs.Ordering.{nat_cmp}
use Rattle.std.specs.FinSet.{from_list}
use Rattle.id_sets.specs.Ascending.{IsAscending}
use Rattle.id_sets.specs.Words.{set_of_words}
use Rattle.id_sets.proofs.Ids.{ids_all, ids_ascending}
use Rattle.id_sets.proofs.Next.{words_ids}
use Rattle.dense_sets.proofs.word_set.WordSetIdSet.walk.Goals as goal

pub returns-clause-ascending : goal.returns-clause-ascending
returns-clause-ascending c = subst IsAscending (sym c.of_words.ensures) (ids_ascending (set_of_words c.deref.result.now) 0)

pub returns-clause-all : goal.returns-clause-all
returns-clause-all c =
    ap (from_list {R = nat_cmp}) c.of_words.ensures
    ∙ ids_all (set_of_words c.deref.result.now) (words_ids c.deref.result.now (search rules))
    ∙ ap set_of_words c.deref.ensures.value
    ∙ c.self.view_is
