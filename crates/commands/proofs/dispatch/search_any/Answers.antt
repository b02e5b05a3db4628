use Rattle.std.proofs.Common.{List, ℕ, Option, Bor, sym, subst}
use Rattle.std.specs.Option.{option_copied}
use Rattle.commands.specs.Lists.{AnyGoesThrough, AnyStops}
use Rattle.commands.specs.Worlds.{World}
use Rattle.commands.specs.inner.Stopped.{HasEnded}
use Rattle.commands.proofs.dispatch.search_any.Goals as goal

pub returns-in-Some-clause-ends : goal.returns-in-Some-clause-ends
returns-in-Some-clause-ends g c = λ w.
    let asked = c.args.asked.now in
    let start : World = record w { files = g.F.Folder.files c.args.folder.now; input = g.S.Source.seen c.args.input.now; output = g.O.Sink.written c.args.out.now; messages = g.E.Sink.written c.args.err.now } in
    let end : World = record w { files = g.F.Folder.files c.args.folder.now; input = g.S.Source.seen c.search_list.new.input; output = g.O.Sink.written c.search_list.new.out; messages = g.E.Sink.written c.search_list.new.err } in
    subst (λ (file : Option (Bor (List ℕ))). HasEnded (AnyGoesThrough (option_copied file) asked) (AnyStops (option_copied file) asked) start end c.search_list.result) (sym c.in-Some.is) (c.search_list.ensures.ends w)

pub returns-in-None-clause-ends : goal.returns-in-None-clause-ends
returns-in-None-clause-ends g c = λ w.
    let asked = c.args.asked.now in
    let start : World = record w { files = g.F.Folder.files c.args.folder.now; input = g.S.Source.seen c.args.input.now; output = g.O.Sink.written c.args.out.now; messages = g.E.Sink.written c.args.err.now } in
    let end : World = record start { output = g.O.Sink.written c.search.new.out; messages = g.E.Sink.written c.search.new.err } in
    subst (λ (file : Option (Bor (List ℕ))). HasEnded (AnyGoesThrough (option_copied file) asked) (AnyStops (option_copied file) asked) start end c.search.result) (sym c.in-None.is) (c.search.ensures.ends (record w { input = g.S.Source.seen c.args.input.now }))
