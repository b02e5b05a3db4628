use Rattle.std.proofs.Common.{◌≡◌, ◌++◌, map, drop}
use Rattle.filter.specs.Items.{one_or_none, texts_of}
use Rattle.filter.proofs.prepare_item.texts_of.Given as goal

abbrev pub invariant-loop-piece : goal.invariant-loop-piece
invariant-loop-piece l = map (λ x. x.now) l.texts.items ++ (drop l.piece-index l.any ++ one_or_none l.last) ≡ texts_of l.initial' l.any l.last
