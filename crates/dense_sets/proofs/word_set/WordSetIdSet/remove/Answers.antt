use Rattle.std.proofs.Common.{◌≡◌, ◌*◌, false, not, nat_eq, ◌&&◌, inl, inr, sym, ap, ◌∙◌, arith, length}
use Rattle.std.specs.FinSet as set
use Rattle.std.proofs.lemmas.List.{with_items_is}
use Rattle.std.proofs.lemmas.Bool.{both_ways, cases_lt}
use Rattle.id_sets.specs.Words.{set_of_words, has_bit}
use Rattle.id_sets.proofs.Ascending.{remove_absent}
use Rattle.id_sets.proofs.Bits.{contains_words, has_bit_past}
use Rattle.dense_sets.proofs.Bits.{words_remove}
use Rattle.dense_sets.proofs.word_set.WordSetIdSet.remove.Goals as goal

absent : (c : goal.Then-not-test_bit) → set.contains c.args.self.now c.args.id ≡ false
absent c = cc (c.if-not-test_bit.ensures, c.deref.ensures.value, c.self.view_is, contains_words c.self.inside.words.items c.args.id)

pub returns-then-not-test_bit-clause-was : goal.returns-then-not-test_bit-clause-was
returns-then-not-test_bit-clause-was c = sym (absent c)

pub returns-then-not-test_bit-clause-removed : goal.returns-then-not-test_bit-clause-removed
returns-then-not-test_bit-clause-removed c = remove_absent c.args.self.now c.args.id (absent c)

pub clear_bit-requires : goal.clear_bit-requires
clear_bit-requires c =
    elim (cases_lt c.args.id (64 * length c.deref.result.now)) [
      | inl h ↦ (let e = ap length c.as_mut_slice.ensures.value in let f = ap length c.deref.ensures.value in omega (arith, e, f))
      | inr h ↦ absurd (both_ways _ (has_bit_past c.deref.result.now c.args.id h) (sym c.if-not-test_bit.ensures))
    ]

pub returns-clause-was : goal.returns-clause-was
returns-clause-was c = cc (c.if-not-test_bit.ensures, c.deref.ensures.value, c.self.view_is, contains_words c.self.inside.words.items c.args.id)

pub returns-clause-removed : goal.returns-clause-removed
returns-clause-removed c =
    let long = c.clear_bit.auto.words ∙ c.as_mut_slice.ensures.len in
    ap set_of_words (with_items_is c.self.inside.words c.clear_bit.new.words long)
    ∙ words_remove c.clear_bit.new.words c.self.inside.words.items c.args.self.now c.args.id c.self.view_is
    (λ q. c.clear_bit.ensures q ∙ ap (λ b. not (nat_eq q c.args.id) && b) (ap (λ ws. has_bit ws q) c.as_mut_slice.ensures.value))
