use Rattle.std.proofs.Common.{ap, ◌∙◌, true}
use Rattle.std.specs.FinSet as set
use Rattle.dense_sets.specs.Keys.{Kept}
use Rattle.id_sets.proofs.Ascending.{list_meet}
use Rattle.dense_sets.proofs.Keys.{made, sifted_ascending, sifted_both}
use Rattle.dense_sets.proofs.Through.{intersection_swap}
use Rattle.dense_sets.proofs.forms.Form.meet.Goals as goal

pub of_list-requires-in-Words-lend : goal.of_list-requires-in-Words-lend
of_list-requires-in-Words-lend c = sifted_ascending c.in-List.ids.now _ c.in-Words-lend.words.now true c.in_ok-sift-in-Words-lend.ensures c.in-List.ensures.ascending

pub of_list-requires-in-List-lend-2 : goal.of_list-requires-in-List-lend-2
of_list-requires-in-List-lend-2 c = sifted_ascending c.in-List-lend-2.ids.now _ c.in-Words.words.now true c.in_ok-sift-in-List-lend-2.ensures c.in-List-lend-2.ensures.ascending

pub returns-in_ok-meet-in-List-lend : goal.returns-in_ok-meet-in-List-lend
returns-in_ok-meet-in-List-lend c =
    let members = λ (k : Kept). k.members in
    made c.of_list.result _ _
    (list_meet c.in_ok-meet-in-List-lend.field-0.items c.in-List.ids.now c.in-List-lend.others.now _ _ (ap members c.in-List.ensures.same) (ap members c.in-List-lend.ensures.same) c.in_ok-meet-in-List-lend.ensures.holds)
    c.of_list.ensures

pub returns-in_ok-sift-in-Words-lend : goal.returns-in_ok-sift-in-Words-lend
returns-in_ok-sift-in-Words-lend c =
    let members = λ (k : Kept). k.members in
    made _ _ _
    (sifted_both c.in-List.ids.now _ c.in-Words-lend.words.now c.in_ok-sift-in-Words-lend.ensures
    ∙ ap (λ s. set.intersection s c.in-Words-lend.words.now) (ap members c.in-List.ensures.same)
    ∙ ap (set.intersection _) (ap members c.in-Words-lend.ensures.same))
    c.of_list-in-Words-lend.ensures

pub returns-in_ok-sift-in-List-lend-2 : goal.returns-in_ok-sift-in-List-lend-2
returns-in_ok-sift-in-List-lend-2 c =
    let members = λ (k : Kept). k.members in
    made _ _ _
    (sifted_both c.in-List-lend-2.ids.now _ c.in-Words.words.now c.in_ok-sift-in-List-lend-2.ensures
    ∙ intersection_swap _ _
    ∙ ap (λ s. set.intersection s (set.from_list c.in-List-lend-2.ids.now)) (ap members c.in-Words.ensures.same)
    ∙ ap (set.intersection _) (ap members c.in-List-lend-2.ensures.same))
    c.of_list-in-List-lend-2.ensures
