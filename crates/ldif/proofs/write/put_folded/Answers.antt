use Rattle.std.proofs.Common.{ℕ, ◌-◌, List, ◌∷◌, ◌++◌, sym, ap, subst, ◌∙◌, arith}
use Rattle.std.proofs.lemmas.Bool.{eqb-true, eqb-false}
use Rattle.ldif_lines.specs.Folding.{folded_to}
use Rattle.base.specs.Extends.{Extends}
use Rattle.ldif.proofs.Folds.{one_piece, last_piece}
use Rattle.base.proofs.Extended.{extends_put, extends_on, on_err_too}
use Rattle.ldif.proofs.write.put_folded.Goals as goal

pub pieces-preserved : goal.pieces-preserved
pieces-preserved c = record {
  put =
      ap (λ (x : List ℕ). x ++ folded_to c.args.width 0 c.split_piece-in-pieces.result.1.now) c.in_ok-push_piece.ensures.put
      ∙ one_piece c.args.width c.pieces.out.items c.split_piece-in-pieces.result.0.now c.pieces.rest.now c.split_piece-in-pieces.result.1.now _ c.bytes-bytes.ensures.wide (let e = eqb-false _ _ (sym c.is_empty.ensures ∙ c.pieces-test.true) in omega arith) (ap (λ (bytes : ℕ). folded_to c.args.width (bytes - 1) c.pieces.rest.now) (sym c.bytes-bytes.ensures.same) ∙ c.split_piece-in-pieces.ensures.piece c.args.width) c.pieces.invariant.put;
  kept = subst (Extends c.args.out.now.items) (sym c.in_ok-push_piece.ensures.put) (extends_on _ _ _ c.pieces.invariant.kept (extends_put c.pieces.out.items (10 ∷ 32 ∷ c.split_piece-in-pieces.result.0.now)));
}

pub returns-in_err-push_piece-clause-kept : goal.returns-in_err-push_piece-clause-kept
returns-in_err-push_piece-clause-kept c = on_err_too c.from_residual-in_err-push_piece.result (extends_on _ _ _ c.pieces.invariant.kept c.in_err-push_piece.ensures.kept)

pub returns-in_err-push-clause-kept : goal.returns-in_err-push-clause-kept
returns-in_err-push-clause-kept c = on_err_too c.from_residual-in_err-push.result (subst (Extends c.args.out.now.items) (sym c.in_err-push.ensures.items) c.pieces.invariant.kept)

pub returns-clause-put : goal.returns-clause-put
returns-clause-put c = c.in_ok-push.ensures.items ∙ last_piece c.args.width c.pieces.out.items c.pieces.rest.now _ (eqb-true _ _ (sym c.is_empty.ensures ∙ c.pieces-test.false)) c.pieces.invariant.put
