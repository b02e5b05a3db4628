use Rattle.std.proofs.Common.{◌+◌, ◌≤◌, ◌<◌, ◌-◌, ◌^◌, length}
use Rattle.commands.specs.Endings.{StoppedAt}
use Rattle.commands.specs.IndexFiles.{Said}
use Rattle.commands.specs.Lists.{lines, RunsLines, StopsInLines}
use Rattle.commands.specs.Worlds.{World, reported_world}
use Rattle.commands.specs.inner.IndexFiles.{Serves}
use Rattle.commands.specs.inner.Lists.{IsFrame, IsKept, common_of}
use Rattle.commands.specs.declared.messages.Status.{Status}
use Rattle.commands.specs.declared.messages.Status.TheVariants.{Done}
use Rattle.commands.proofs.listing.ListSearch.search_lines.Given as goal

abbrev pub invariant-lines : goal.invariant-lines
invariant-lines g l =
    let asked = l.self.asked.now in
    let t = l.self.database.now in
    record {
      frame : IsFrame asked t l.query;
      kept : IsKept l.fn.query l.query;
      out : (g.O.Sink.written l.out).failed < 2 ^ 64 - 1;
      err : (g.E.Sink.written l.err).failed < 2 ^ 64 - 1;
      room : l.number + length l.rest ≤ 1 + length l.fn.text;
      runs : (said : Said) → Serves t l.self.index.now said → (w w' : World) (s : Status)
          → RunsLines asked (common_of said t l.fn.query) l.number l.status (lines l.rest) (reported_world w g.O.Sink.written g.E.Sink.written l.out l.err) w' s
          → RunsLines asked (common_of said t l.fn.query) 1 Done (lines l.fn.text) (reported_world w g.O.Sink.written g.E.Sink.written l.fn.out l.fn.err) w' s;
      stops : (said : Said) → Serves t l.self.index.now said → (w : World) (at : StoppedAt)
          → StopsInLines asked (common_of said t l.fn.query) l.number (lines l.rest) (reported_world w g.O.Sink.written g.E.Sink.written l.out l.err) at
          → StopsInLines asked (common_of said t l.fn.query) 1 (lines l.fn.text) (reported_world w g.O.Sink.written g.E.Sink.written l.fn.out l.fn.err) at;
    }

abbrev pub decreases-lines : goal.decreases-lines
decreases-lines g l = length l.rest
