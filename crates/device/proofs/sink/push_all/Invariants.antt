use Rattle.std.proofs.Common.{◌-◌, ◌≤◌, length, take}
use Rattle.device.specs.Device.{Took}
use Rattle.device.proofs.sink.push_all.Given as goal

abbrev pub invariant-pushes : goal.invariant-pushes
invariant-pushes g l = record {
  within : l.at ≤ length l.bytes;
  took : Took (g.W.Sink.written l.fn.sink) (g.W.Sink.written l.sink) (take l.at l.bytes);
}

abbrev pub decreases-pushes : goal.decreases-pushes
decreases-pushes g l = length l.bytes - l.at
