use Rattle.std.proofs.Common.{ℕ, Option, ◌∷◌, ◌-◌, ◌+◌, take, drop, List, length, sym, ap, ◌∙◌, subst}
use Rattle.memchr.specs.Find.{IsFirstByte, is_byte}
use Rattle.commands.specs.Lists.{lines}
use Rattle.commands.proofs.ListLines.{cut_at, uncut, no_lines, nothing_left, is_empty_so, is_some_so}
use Rattle.commands.proofs.list_text.first_line.Goals as goal

pub returns-then-is_empty-clause-line : goal.returns-then-is_empty-clause-line
returns-then-is_empty-clause-line c = no_lines c.args.text.now (is_empty_so c.args.text.now _ c.is_empty.ensures c.if-is_empty.true)

pub returns-in-Some-clause-line : goal.returns-in-Some-clause-line
returns-in-Some-clause-line c =
    cut_at c.args.text.now c.in-Some.at (subst (λ (r : Option ℕ). IsFirstByte (is_byte 10) c.args.text.now r) c.in-Some.is c.memchr.ensures)
    ∙ ap (λ (line : List ℕ). line ∷ lines (take (length c.args.text.now - (c.in-Some.at + 1)) (drop (c.in-Some.at + 1) c.args.text.now))) (sym c.without_return.ensures)

pub returns-in-None-clause-line : goal.returns-in-None-clause-line
returns-in-None-clause-line c =
    uncut c.args.text.now (is_some_so c.args.text.now _ c.is_empty.ensures c.if-is_empty.false) (subst (λ (r : Option ℕ). IsFirstByte (is_byte 10) c.args.text.now r) c.in-None.is c.memchr.ensures)
    ∙ ap (λ (more : List (List ℕ)). c.args.text.now ∷ more) (sym nothing_left)
