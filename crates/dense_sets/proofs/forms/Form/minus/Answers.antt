use Rattle.std.proofs.Common.{ap, ◌∙◌, false}
use Rattle.std.specs.FinSet as set
use Rattle.dense_sets.specs.Keys.{Kept}
use Rattle.id_sets.proofs.Ascending.{list_minus}
use Rattle.dense_sets.proofs.Keys.{made, sifted_ascending, sifted_left}
use Rattle.dense_sets.proofs.forms.Form.minus.Goals as goal

pub of_list-requires-in-Words-lend : goal.of_list-requires-in-Words-lend
of_list-requires-in-Words-lend c = sifted_ascending c.in-List.ids.now _ c.in-Words-lend.words.now false c.in_ok-sift-in-Words-lend.ensures c.in-List.ensures.ascending

pub returns-in_ok-minus-in-List-lend : goal.returns-in_ok-minus-in-List-lend
returns-in_ok-minus-in-List-lend c =
    let members = λ (k : Kept). k.members in
    made c.of_list.result _ _
    (list_minus c.in_ok-minus-in-List-lend.field-0.items c.in-List.ids.now c.in-List-lend.others.now _ _ (ap members c.in-List.ensures.same) (ap members c.in-List-lend.ensures.same) c.in_ok-minus-in-List-lend.ensures.holds)
    c.of_list.ensures

pub returns-in_ok-sift-in-Words-lend : goal.returns-in_ok-sift-in-Words-lend
returns-in_ok-sift-in-Words-lend c =
    let members = λ (k : Kept). k.members in
    made _ _ _
    (sifted_left c.in-List.ids.now _ c.in-Words-lend.words.now c.in_ok-sift-in-Words-lend.ensures
    ∙ ap (λ s. set.difference s c.in-Words-lend.words.now) (ap members c.in-List.ensures.same)
    ∙ ap (set.difference _) (ap members c.in-Words-lend.ensures.same))
    c.of_list-in-Words-lend.ensures
