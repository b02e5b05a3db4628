use Rattle.std.proofs.Common.{sym, ◌∙◌, false}
use Rattle.dn.specs.inner.Cuts.{piece, behind}
use Rattle.dn.specs.NameFaults.{is_separator}
use Rattle.dn.proofs.Pieces.{piece_found, behind_found, piece_on, behind_on, piece_end, behind_end}
use Rattle.dn.proofs.split.piece_len.Goals as goal

pub returns-then-separates-clause-piece : goal.returns-then-separates-clause-piece
returns-then-separates-clause-piece c =
    piece_found is_separator c.loop-i.escaped c.args.text.now c.loop-i.i (piece is_separator false c.args.text.now) c.loop-i-test.true (sym c.separates.ensures ∙ c.if-separates.true) c.loop-i.invariant.piece

pub returns-then-separates-clause-behind : goal.returns-then-separates-clause-behind
returns-then-separates-clause-behind c =
    behind_found is_separator c.loop-i.escaped c.args.text.now c.loop-i.i (behind is_separator false c.args.text.now) c.loop-i-test.true (sym c.separates.ensures ∙ c.if-separates.true) c.loop-i.invariant.behind

pub loop-i-preserved : goal.loop-i-preserved
loop-i-preserved c =
    let is = sym c.separates.ensures ∙ c.if-separates.false in
    record {
      piece = piece_on is_separator c.loop-i.escaped c.args.text.now c.loop-i.i (piece is_separator false c.args.text.now) c.escapes-escaped.result c.loop-i-test.true is c.escapes-escaped.ensures c.loop-i.invariant.piece;
      behind = behind_on is_separator c.loop-i.escaped c.args.text.now c.loop-i.i (behind is_separator false c.args.text.now) c.escapes-escaped.result c.loop-i-test.true is c.escapes-escaped.ensures c.loop-i.invariant.behind;
    }

pub returns-clause-piece : goal.returns-clause-piece
returns-clause-piece c = piece_end is_separator c.loop-i.escaped c.args.text.now c.loop-i.i (piece is_separator false c.args.text.now) c.loop-i-test.false c.loop-i.invariant.piece

pub returns-clause-behind : goal.returns-clause-behind
returns-clause-behind c = behind_end is_separator c.loop-i.escaped c.args.text.now c.loop-i.i (behind is_separator false c.args.text.now) c.loop-i-test.false c.loop-i.invariant.behind
