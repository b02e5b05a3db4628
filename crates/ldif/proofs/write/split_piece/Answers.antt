use Rattle.std.proofs.Common.{ℕ, List, [], length, drop, ◌++◌, sym, ap, ◌∙◌, arith}
use Rattle.std.proofs.lemmas.List.{take_all, drop_all}
use Rattle.ldif_lines.specs.Folding.{folded_to}
use Rattle.ldif.proofs.Folds.{folded_all, folded_part}
use Rattle.ldif.proofs.write.split_piece.Goals as goal

pub returns-then-text-room-clause-piece : goal.returns-then-text-room-clause-piece
returns-then-text-room-clause-piece c width =
    let t = c.args.text.now in
    let s = c.split_at.ensures in
    folded_all width c.args.room t (omega arith)
    ∙ ap (λ (x : List ℕ). x ++ folded_to width 0 []) (sym (take_all (length t) t (omega arith)) ∙ sym s.front)
    ∙ ap (λ (x : List ℕ). c.split_at.result.0.now ++ folded_to width 0 x) (sym (drop_all (length t) t (omega arith)) ∙ sym s.back)

pub returns-else-text-room-clause-piece : goal.returns-else-text-room-clause-piece
returns-else-text-room-clause-piece c width =
    let s = c.split_at-else-text-room.ensures in
    folded_part width c.args.room c.args.text.now (omega arith) ∙ ap (λ (x : List ℕ). x ++ folded_to width 0 (drop c.args.room c.args.text.now)) (sym s.front) ∙ ap (λ (x : List ℕ). c.split_at-else-text-room.result.0.now ++ folded_to width 0 x) (sym s.back)
