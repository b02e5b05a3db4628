use Rattle.std.proofs.Common.{List, ℕ, ◌++◌, sym, ap, ◌∙◌, arith}
use Rattle.std.proofs.lemmas.Grind.{common_steps}
use Rattle.std.proofs.lemmas.Result.{IfOk-from_err}
use Rattle.paths.proofs.Unpacked.{as_they_are}
use Rattle.paths.proofs.packing.push_bytes.Goals as goal

pub returns-then-are_themselves : goal.returns-then-are_themselves
returns-then-are_themselves c =
    c.in_ok-extend_from_slice.ensures.items ∙ ap (λ (bs : List ℕ). c.args.out.now.items ++ bs) (sym (as_they_are c.args.bytes.now (sym c.are_themselves.ensures ∙ c.if-are_themselves.true)))

pub returns-in_err-push_byte : goal.returns-in_err-push_byte
returns-in_err-push_byte c = IfOk-from_err _ _ c.from_residual-in_err-push_byte.ensures.0

pub loop-byte-preserved : goal.loop-byte-preserved
loop-byte-preserved c = grind (arith, common_steps)

pub returns : goal.returns
returns c = grind (arith, common_steps)
