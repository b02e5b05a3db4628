use Rattle.std.proofs.Common.{◌≡◌, true, false, not, nat_eq, ◌||◌, Result, Ok, Err, OnErr, sym, ap, ◌∙◌}
use Rattle.std.specs.FinSet as set
use Rattle.std.proofs.lemmas.List.{with_items_is}
use Rattle.id_sets.specs.Words.{set_of_words, has_bit}
use Rattle.id_sets.proofs.Ascending.{insert_present}
use Rattle.id_sets.proofs.Bits.{contains_words}
use Rattle.dense_sets.proofs.Bits.{words_are, words_insert}
use Rattle.dense_sets.proofs.word_set.WordSetIdSet.insert.Goals as goal

on_err_always : {T E P : Type 0} (r : Result T E) → P → OnErr r P
on_err_always (Ok x) p = tt
on_err_always (Err e) p = p

there : (c : goal.Then-test_bit) → set.contains c.args.self.now c.args.id ≡ true
there c = cc (c.if-test_bit.ensures, c.deref.ensures.value, c.self.view_is, contains_words c.self.inside.words.items c.args.id)

pub returns-then-test_bit-clause-new : goal.returns-then-test_bit-clause-new
returns-then-test_bit-clause-new c = sym (ap not (there c))

pub returns-then-test_bit-clause-ok : goal.returns-then-test_bit-clause-ok
returns-then-test_bit-clause-ok c = insert_present c.args.self.now c.args.id (there c)

pub returns-in_err-grow-clause-err : goal.returns-in_err-grow-clause-err
returns-in_err-grow-clause-err c =
    let same : set_of_words c.grow.new.words.items ≡ c.args.self.now = words_are _ _ (λ q. c.in_err-grow.ensures.same q ∙ sym (contains_words c.self.inside.words.items q) ∙ ap (λ s. set.contains s q) c.self.view_is) in
    on_err_always c.from_residual.result same

pub returns-clause-new : goal.returns-clause-new
returns-clause-new c =
    let absent : set.contains c.args.self.now c.args.id ≡ false = cc (c.if-test_bit.ensures, c.deref.ensures.value, c.self.view_is, contains_words c.self.inside.words.items c.args.id) in
    sym (ap not absent)

pub returns-clause-ok : goal.returns-clause-ok
returns-clause-ok c =
    let long = c.set_bit.auto.words ∙ c.as_mut_slice.ensures.len in
    ap set_of_words (with_items_is c.grow.new.words c.set_bit.new.words long)
    ∙ words_insert c.set_bit.new.words c.self.inside.words.items c.args.self.now c.args.id c.self.view_is
    (λ q. c.set_bit.ensures q ∙ ap (λ b. nat_eq q c.args.id || b) (ap (λ ws. has_bit ws q) c.as_mut_slice.ensures.value ∙ c.in_ok-grow.ensures.same q))
