use Rattle.std.proofs.Common.{ap, sym, ◌∙◌}
use Rattle.dn.specs.Names.{Rdn}
use Rattle.dn.specs.inner.Cuts.{ava_from}
use Rattle.dn.proofs.Firsts.{before, ava_read}
use Rattle.dn.proofs.Loop.{one_at, two_at}
use Rattle.dn.proofs.read.short_rdn.Goals as goal

pub returns-in_default-after_plus : goal.returns-in_default-after_plus
returns-in_default-after_plus c =
    let start = c.args.start in
    let plain = c.in-Some.plain in
    let ava = c.in_ok-ava.ava in
    let read = ava_read start.type_text.now start.rest.now plain.value.now plain.behind.now ava (rw c.in-Some.is at c.requires.plain) c.in_ok-ava.ensures.same in
    one_at (ava_from start.type_text.now start.rest.now) ava plain.behind.now read c.in_default-after_plus.ensures.none
    ∙ ap (λ (ps : Rdn). before plain.behind.now ps) (sym c.one.ensures)

pub returns : goal.returns
returns c =
    let start = c.args.start in
    let plain = c.in-Some.plain in
    let ava = c.in_ok-ava.ava in
    let end = c.in_ok-second.end.now in
    let read = ava_read start.type_text.now start.rest.now plain.value.now plain.behind.now ava (rw c.in-Some.is at c.requires.plain) c.in_ok-ava.ensures.same in
    two_at (ava_from start.type_text.now start.rest.now) ava plain.behind.now c.in-Some-after_plus.more.now c.in_ok-second.second end read c.in-Some-after_plus.ensures.some c.in_ok-second.ensures.exact (sym c.begins_with_plus.ensures ∙ c.if-begins_with_plus.false)
    ∙ ap (λ (ps : Rdn). before end ps) (sym c.two.ensures)
