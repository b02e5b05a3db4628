use Rattle.std.specs.Bool.{one_answer}
use Rattle.filter.specs.Pieces.{fits}
use Rattle.filter.proofs.PieceTests.{fits_told}
use Rattle.filter.proofs.assertion.fits.Goals as goal

pub returns : goal.returns
returns c =
    let p = c.args.pieces.now in
    one_answer c.contains_pieces.result (fits p.front p.back p.pieces c.args.norm.now) c.contains_pieces.ensures (fits_told p.front p.back p.pieces c.args.norm.now)
