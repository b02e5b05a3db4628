use Rattle.std.proofs.lemmas.Slice.Eq.{ends_is}
use Rattle.std.proofs.lemmas.Bool.Decides.{Decides-eqb}
use Rattle.matching.proofs.substrings.ends_in.Goals as goal

pub returns : goal.returns
returns c =
    let is = ends_is Decides-eqb c.args.text.now c.args.piece.now c.ends_with.result c.ends_with.ensures.value in
    (λ on. (_, is.0 on), λ h. is.1 h.0 h.1)
