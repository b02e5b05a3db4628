use Rattle.std.proofs.Common.{◌≡◌, ◌-◌, ◌^◌}
use Rattle.std.specs.Io.KnownBytes.{Consumes}
use Rattle.commands.proofs.database.contents.Given as goal

abbrev pub invariant-pulls : goal.invariant-pulls
invariant-pulls g l = record {
  taken : Consumes (g.S.Source.seen l.fn.source).left (g.S.Source.seen l.source).left l.bytes.items;
  failed : (g.S.Source.seen l.source).failed ≡ (g.S.Source.seen l.fn.source).failed;
}

abbrev pub decreases-pulls : goal.decreases-pulls
decreases-pulls g l = 2 ^ 64 - (g.S.Source.seen l.source).pulled
