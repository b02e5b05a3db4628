use Rattle.std.proofs.Common.{◌++◌, ◌∷◌, [], List, ℕ, cond, ap, ◌∙◌, arith}
use Rattle.ldif_lines.proofs.CutLemmas.{pushed_closes, pushed_cut}
use Rattle.ldif_lines.proofs.lines.Lines.push.Goals as goal

pub invariant_of-self-else-is_err : goal.invariant_of-self-else-is_err
invariant_of-self-else-is_err c =
    pushed_closes c.self.inside.ends.items c.push.new.self.items c.self.inside.bytes.items c.extend_from_slice.new.self.items c.args.line.now c.len.result c.self.invariant
    (c.push.ensures.items ∙ ap (λ b. cond b (c.self.inside.ends.items ++ c.len.result ∷ []) c.self.inside.ends.items) c.if-is_err.ensures.negation) (omega (arith, c.extend_from_slice.new.self.ok.0, c.len.ensures)) c.in_ok-extend_from_slice.ensures.items

pub returns-clause-put : goal.returns-clause-put
returns-clause-put c =
    pushed_cut c.self.inside.ends.items c.push.new.self.items c.self.inside.bytes.items c.extend_from_slice.new.self.items c.args.line.now c.len.result c.self.invariant
    (c.push.ensures.items ∙ ap (λ b. cond b (c.self.inside.ends.items ++ c.len.result ∷ []) c.self.inside.ends.items) c.if-is_err.ensures.negation) (omega (arith, c.extend_from_slice.new.self.ok.0, c.len.ensures)) c.in_ok-extend_from_slice.ensures.items
    ∙ ap (λ (ls : List (List ℕ)). ls ++ c.args.line.now ∷ []) c.self.view_is
