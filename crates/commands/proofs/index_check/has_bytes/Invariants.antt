use Rattle.std.proofs.Common.{◌≡◌, ◌-◌, ◌^◌, ◌++◌, List, ℕ}
use Rattle.std.specs.Io.KnownBytes.{Consumes}
use Rattle.commands.proofs.index_check.has_bytes.Given as goal

-- what came so far is the front of the bytes
abbrev pub invariant-pulls : goal.invariant-pulls
invariant-pulls g l = record {
  taken : (front : List ℕ) × Consumes (g.S.Source.seen l.fn.source).left (g.S.Source.seen l.source).left front × (front ++ l.rest ≡ l.fn.bytes);
  failed : (g.S.Source.seen l.source).failed ≡ (g.S.Source.seen l.fn.source).failed;
}

abbrev pub decreases-pulls : goal.decreases-pulls
decreases-pulls g l = 2 ^ 64 - (g.S.Source.seen l.source).pulled
