use Rattle.std.proofs.Common.{ap, ◌∙◌}
use Rattle.std.specs.FinSet as set
use Rattle.dense_sets.specs.Keys.{Kept}
use Rattle.dense_sets.specs.inner.Forms.{members_of}
use Rattle.id_sets.proofs.Ascending.{list_join}
use Rattle.dense_sets.proofs.Keys.{made}
use Rattle.dense_sets.proofs.Through.{union_swap}
use Rattle.dense_sets.proofs.forms.Form.join.Goals as goal

pub returns-in_ok-join-in-List-lend : goal.returns-in_ok-join-in-List-lend
returns-in_ok-join-in-List-lend c =
    let members = λ (k : Kept). k.members in
    made c.of_list.result _ _
    (list_join c.in_ok-join-in-List-lend.field-0.items c.in-List.ids.now c.in-List-lend.others.now _ _ (ap members c.in-List.ensures.same) (ap members c.in-List-lend.ensures.same) c.in_ok-join-in-List-lend.ensures.holds)
    c.of_list.ensures

pub returns-in_ok-with_all-in-Words-lend : goal.returns-in_ok-with_all-in-Words-lend
returns-in_ok-with_all-in-Words-lend c =
    let members = λ (k : Kept). k.members in
    made c.of_words.result _ _
    (c.in_ok-with_all-in-Words-lend.ensures
    ∙ ap (λ s. set.union s (set.from_list c.in-List.ids.now)) (c.in_ok-copy-in-Words-lend.ensures ∙ ap members c.in-Words-lend.ensures.same)
    ∙ union_swap _ _
    ∙ ap (λ s. set.union s (members_of c.args.other.now)) (ap members c.in-List.ensures.same))
    c.of_words.ensures
