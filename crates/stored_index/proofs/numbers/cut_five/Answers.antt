use Rattle.std.proofs.Common.{◌≡◌, ◌∷◌, ◌≤◌, ℕ, List, [], length, get_or, sym, ap, ◌∙◌, arith}
use Rattle.std.proofs.lemmas.List.{take_all}
use Rattle.stored_index.specs.Words.{number_in}
use Rattle.stored_index.proofs.NumberCuts.{front_is, front_number, at_end, at_space}
use Rattle.stored_index.proofs.numbers.cut_five.Goals as goal

pub returns-in_ok-number-in-len5-clause-parts : goal.returns-in_ok-number-in-len5-clause-parts
returns-in_ok-number-in-len5-clause-parts c =
    let text = c.args.text.now in
    let n = c.in_ok-number-in-len5.number in
    let most : length c.args.text.now ≤ 5 = omega arith in
    at_end text 5 n most (front_is text n c.in-len5.len_at_least c.in_ok-number-in-len5.ensures.number) ∙ ap (λ (word : List ℕ). word ∷ []) (take_all 5 text most)

pub returns-in_ok-number-in-len5-clause-number : goal.returns-in_ok-number-in-len5-clause-number
returns-in_ok-number-in-len5-clause-number c =
    let text = c.args.text.now in
    let n = c.in_ok-number-in-len5.number in
    let is = c.in_ok-number-in-len5.ensures in
    sym (ap number_in (take_all 5 text (omega arith))) ∙ front_number text n c.in-len5.len_at_least is.form is.number

pub returns-in_ok-number-in-32-clause-parts : goal.returns-in_ok-number-in-32-clause-parts
returns-in_ok-number-in-32-clause-parts c =
    let text = c.args.text.now in
    let n = c.in_ok-number-in-32.number in
    let ends : get_or c.args.text.now 5 0 ≡ 32 = omega arith in
    at_space text 5 n c.in-32.len_at_least ends (front_is text n (omega arith) c.in_ok-number-in-32.ensures.number)

pub returns-in_ok-number-in-32-clause-number : goal.returns-in_ok-number-in-32-clause-number
returns-in_ok-number-in-32-clause-number c =
    let text = c.args.text.now in
    let n = c.in_ok-number-in-32.number in
    let is = c.in_ok-number-in-32.ensures in
    front_number text n (omega arith) is.form is.number
