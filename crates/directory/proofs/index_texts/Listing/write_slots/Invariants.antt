use Rattle.std.proofs.Common.{◌≡◌, ◌++◌, drop}
use Rattle.ldif.specs.Written.{SoFar}
use Rattle.databases.specs.IndexTexts.{slots_lines}
use Rattle.directory.proofs.index_texts.Listing.write_slots.Given as goal

abbrev pub invariant-loop-place : goal.invariant-loop-place
invariant-loop-place g l = record {
  failures : (g.W.Sink.written l.sink).failed ≡ (g.W.Sink.written l.fn.sink).failed;
  so_far : SoFar (g.W.Sink.written l.fn.sink) (g.W.Sink.written l.sink)
      (l.fn.text.items ++ slots_lines l.self.directory.now.conf l.self.directory.now.entries l.self.directory.now.conf.slots)
      (l.text.items ++ slots_lines l.self.directory.now.conf l.self.directory.now.entries (drop l.place l.slot-items));
}
