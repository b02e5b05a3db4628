use Rattle.std.proofs.Common.{ap, ℕ, List, ◌∙◌}
use Rattle.std.proofs.lemmas.Result.{err_from_is_err_and}
use Rattle.dn.specs.Gives.{fault_of}
use Rattle.dn.proofs.Firsts.{value_fails, value_of_piece, ava_read}
use Rattle.dn.proofs.read.escaped_ava.Goals as goal

pub returns-in_err-value-clause-exact : goal.returns-in_err-value-clause-exact
returns-in_err-value-clause-exact c =
    let p = err_from_is_err_and c.from_residual.result c.from_residual.ensures.1 in
    rw (p.1, p.2) (value_fails c.args.start.type_text.now c.args.start.rest.now (fault_of c.in_err-value.field-0.0) c.split_piece.result.0.now c.split_piece.ensures.piece c.in_err-value.ensures)

pub returns-clause-exact : goal.returns-clause-exact
returns-clause-exact c =
    let ty = c.args.start.type_text.now in
    let value = c.in_ok-value.value.items in
    let read = value_of_piece c.args.start.rest.now c.split_piece.result.0.now c.split_piece.result.1.now value c.split_piece.ensures.piece c.split_piece.ensures.behind c.in_ok-value.ensures in
    ava_read ty c.args.start.rest.now value c.split_piece.result.1.now c.in_ok-of_type.field-0 read (c.in_ok-of_type.ensures.same ∙ ap (λ (v : List ℕ). (ty, v)) c.as_slice.ensures)
