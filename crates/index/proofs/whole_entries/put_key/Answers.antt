use Rattle.std.proofs.Common.{◌≡◌, arith, sym, ap, ◌∙◌, cond, ◌+◌, ℕ}
use Rattle.std.specs.Str.{bytes_eq}
use Rattle.index_text.specs.KeySets.{members_in}
use Rattle.index.proofs.Edits.{inserted, bytes_own, bytes_are}
use Rattle.index.proofs.whole_entries.put_key.Goals as goal

pub returns-then-branch-clause-counted : goal.returns-then-branch-clause-counted
returns-then-branch-clause-counted c =
    inserted bytes_eq bytes_own bytes_are (members_in c.args.sets.now) (members_in c.insert.new.self) c.args.key.now c.args.number c.in_ok-insert.ensures.came c.args.edits.now c.count_one.new.self c.in_ok-insert.field-0 c.in_ok-insert.ensures.is_new
    (c.count_one.ensures ∙ ap (λ b. c.args.edits.now + cond b 1 0) (sym c.if-branch.true))

pub returns-else-branch-clause-counted : goal.returns-else-branch-clause-counted
returns-else-branch-clause-counted c =
    inserted bytes_eq bytes_own bytes_are (members_in c.args.sets.now) (members_in c.insert.new.self) c.args.key.now c.args.number c.in_ok-insert.ensures.came c.args.edits.now c.args.edits.now c.in_ok-insert.field-0 c.in_ok-insert.ensures.is_new
    (let none : cond {A = ℕ} c.in_ok-insert.field-0 1 0 ≡ 0 = ap (λ b. cond {A = ℕ} b 1 0) c.if-branch.false in omega (arith, none))
