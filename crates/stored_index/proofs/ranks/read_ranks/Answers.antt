use Rattle.std.proofs.Common.{◌≡◌, ◌≤◌, ◌<◌, ℕ, List, [], ◌∷◌, ◌++◌, Option, Bor, Result, inl, inr, refl, sym, ap, ◌∙◌, subst}
use Rattle.std.proofs.lemmas.Bool.{cases_Bool}
use Rattle.std.proofs.lemmas.Result.{err_from_is_err_and}
use Rattle.std.specs.FinSet as set
use Rattle.id_sets.specs.Ascending.{IsAscending}
use Rattle.base.specs.Ascii.{space}
use Rattle.base.specs.Answers.{each}
use Rattle.base.proofs.Each.{with_front, nothing_front, passed_on, on_cons}
use Rattle.stored_index.specs.Cuts.{parts, parts_if}
use Rattle.stored_index.specs.Words.{number_in}
use Rattle.stored_index.specs.KeyLines.{ranks_in}
use Rattle.stored_index.specs.Gives.{Gives, kind_of}
use Rattle.stored_index.specs.declared.fault.LineFault.{LineFault}
use Rattle.stored_index.proofs.RankLemmas.{itself, in_order_more, least_more, kept, none_kept, all_read, one_fails, faulty, out_of_order, of_no_entry, as_they_are, rising_of, ascending}
use Rattle.stored_index.proofs.ranks.read_ranks.Goals as goal

-- what the number of a word is told as
as_told : (r s : Result ℕ LineFault) (word : List ℕ) → r ≡ s → Gives (λ (n : ℕ). n) r (number_in word) → Gives (λ (n : ℕ). n) s (number_in word)
as_told r s word is told = subst (λ (x : Result ℕ LineFault). Gives (λ (n : ℕ). n) x (number_in word)) is told

pub loop-rest-init : goal.loop-rest-init
loop-rest-init c = ([], nothing_front (each number_in (parts space c.args.text.now)), itself c.args.is_key_in_order, refl, λ asked e le. c.new-ranks.ensures.items, λ e. c.new-ranks.ensures.items)

pub returns-in_err-rank : goal.returns-in_err-rank
returns-in_err-rank c =
    let i = c.loop-rest.invariant in
    let p = err_from_is_err_and c.from_residual.result c.from_residual.ensures.1 in
    let words = parts space c.args.text.now in
    let here = subst (λ (r : Option (Bor (List ℕ))). with_front i.0 (each number_in (parts_if space r)) ≡ each number_in words) c.in-Some.is i.1 in
    rw (p.1, p.2)
    (passed_on (kind_of c.in_err-rank.field-0.0) (number_in c.cut_number-number.result.0.now) (ranks_in c.args.is_key_in_order c.args.entries words)
    (λ fault e. faulty c.args.is_key_in_order c.args.entries words fault
    (one_fails number_in (parts space c.in-Some.words.now) c.cut_number-number.result.0.now (parts_if space c.cut_number-number.result.2) i.0 (each number_in words) fault c.cut_number-number.ensures.parts here e)) (as_told _ _ c.cut_number-number.result.0.now c.in_err-rank.was c.cut_number-number.ensures.number))

pub loop-rest-preserved : goal.loop-rest-preserved
loop-rest-preserved c =
    let i = c.loop-rest.invariant in
    let words = parts space c.args.text.now in
    let here = subst (λ (r : Option (Bor (List ℕ))). with_front i.0 (each number_in (parts_if space r)) ≡ each number_in words) c.in-Some.is i.1 in (
      i.0 ++ c.in_ok-rank.rank ∷ [],
      on_cons number_in (parts space c.in-Some.words.now) c.cut_number-number.result.0.now (parts_if space c.cut_number-number.result.2) i.0 c.in_ok-rank.rank (each number_in words) c.cut_number-number.ensures.parts (as_told _ _ c.cut_number-number.result.0.now c.in_ok-rank.was c.cut_number-number.ensures.number) here,
      in_order_more c.args.is_key_in_order c.loop-rest.is_in_order i.0 c.loop-rest.least c.in_ok-rank.rank i.2 i.3,
      sym (least_more 0 i.0 c.in_ok-rank.rank),
      λ asked. kept c.loop-rest.ranks.items c.keep.new.ranks.items c.args.is_asked c.loop-rest.is_in_order c.args.entries c.loop-rest.least c.in_ok-rank.rank i.0 asked (i.4 asked) c.in_ok-keep.ensures,
      λ unasked. none_kept c.loop-rest.ranks.items c.keep.new.ranks.items c.args.is_asked c.loop-rest.is_in_order c.args.entries c.loop-rest.least c.in_ok-rank.rank unasked (i.5 unasked) c.in_ok-keep.ensures,
    )

pub returns-then-not-is_in_order : goal.returns-then-not-is_in_order
returns-then-not-is_in_order c =
    let i = c.loop-rest.invariant in
    let words = parts space c.args.text.now in
    let all = all_read number_in i.0 (each number_in words) (subst (λ (r : Option (Bor (List ℕ))). with_front i.0 (each number_in (parts_if space r)) ≡ each number_in words) c.in_default.is i.1) in
    out_of_order c.args.is_key_in_order c.args.entries words i.0 all (sym i.2 ∙ c.if-not-is_in_order.true)

pub returns-then-least-entries : goal.returns-then-least-entries
returns-then-least-entries c =
    let i = c.loop-rest.invariant in
    let words = parts space c.args.text.now in
    let all = all_read number_in i.0 (each number_in words) (subst (λ (r : Option (Bor (List ℕ))). with_front i.0 (each number_in (parts_if space r)) ≡ each number_in words) c.in_default.is i.1) in
    of_no_entry c.args.is_key_in_order c.args.entries words i.0 all (sym i.2 ∙ c.if-not-is_in_order.false) (subst (λ (n : ℕ). c.args.entries < n) i.3 c.if-least-entries.true)

pub of_list-requires : goal.of_list-requires
of_list-requires c =
    let i = c.loop-rest.invariant in
    let rising = rising_of c.args.is_key_in_order i.0 (sym i.2 ∙ c.if-not-is_in_order.false) in
    elim (cases_Bool c.args.is_asked) [
      | inl asked ↦ subst IsAscending (sym (i.4 asked c.if-not-is_in_order.false c.if-least-entries.false)) (ascending 0 i.0 rising)
      | inr unasked ↦ subst IsAscending (sym (i.5 unasked)) tt
    ]

pub returns : goal.returns
returns c =
    let i = c.loop-rest.invariant in
    let words = parts space c.args.text.now in
    let all = all_read number_in i.0 (each number_in words) (subst (λ (r : Option (Bor (List ℕ))). with_front i.0 (each number_in (parts_if space r)) ≡ each number_in words) c.in_default.is i.1) in
    (i.0, as_they_are c.args.is_key_in_order c.args.entries words i.0 all (sym i.2 ∙ c.if-not-is_in_order.false) (subst (λ (n : ℕ). n ≤ c.args.entries) i.3 c.if-least-entries.false), λ asked. c.of_list.ensures ∙ ap (λ (ns : List ℕ). set.from_list ns) (i.4 asked c.if-not-is_in_order.false c.if-least-entries.false))
