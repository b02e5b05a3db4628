use Rattle.std.proofs.Common.{sym, ap, arith}
use Rattle.dn.specs.Reading.{Plain, octets_from, value_from}
use Rattle.dn.specs.inner.Octets.{any_seen, state_seen}
use Rattle.dn.proofs.Drafts.{is_plain, finished_new, goes_on, faults, kept_within, ends_plain, ends_inside}
use Rattle.dn.proofs.value.put_octets.Goals as goal

pub loop-byte-init : goal.loop-byte-init
loop-byte-init c = rw (c.requires.bytes, c.requires.kept) (record { same = finished_new _; within = omega arith; in_range = tt })

pub returns-in-Err : goal.returns-in-Err
returns-in-Err c =
    faults c.loop-byte.draft.bytes.items c.loop-byte.draft.kept (state_seen c.loop-byte.state) c.args.text.now c.loop-byte.byte-index c.loop-byte-test.true c.in-Err.fault (value_from (octets_from Plain c.args.text.now)) (sym c.in-Err.ensures.next) c.loop-byte.invariant.same

pub loop-byte-preserved : goal.loop-byte-preserved
loop-byte-preserved c =
    let h = c.loop-byte.invariant in
    let bytes = c.loop-byte.draft.bytes.items in
    let kept = c.loop-byte.draft.kept in
    record {
      same = goes_on bytes kept (state_seen c.loop-byte.state) c.args.text.now c.loop-byte.byte-index c.loop-byte-test.true (state_seen c.in-Ok.next) (any_seen c.in-Ok.octet) (c.add_any.new.self.bytes.items, c.add_any.new.self.kept) (value_from (octets_from Plain c.args.text.now)) h.within (sym c.in-Ok.ensures.next) c.in_ok-add_any-in-Ok.ensures h.same;
      within = kept_within bytes kept (any_seen c.in-Ok.octet) (c.add_any.new.self.bytes.items, c.add_any.new.self.kept) c.in_ok-add_any-in-Ok.ensures h.within;
      in_range = c.in-Ok.ensures.in_range;
    }

pub returns-in-Plain : goal.returns-in-Plain
returns-in-Plain c =
    (ends_plain c.loop-byte.draft.bytes.items c.loop-byte.draft.kept (state_seen c.loop-byte.state) c.args.text.now c.loop-byte.byte-index (value_from (octets_from Plain c.args.text.now)) c.loop-byte-test.false c.loop-byte.invariant.same (ap state_seen c.in-Plain.is))

pub returns-in_default : goal.returns-in_default
returns-in_default c =
    ends_inside c.loop-byte.draft.bytes.items c.loop-byte.draft.kept (state_seen c.loop-byte.state) c.args.text.now c.loop-byte.byte-index (value_from (octets_from Plain c.args.text.now)) c.loop-byte-test.false c.loop-byte.invariant.same (λ e. c.in_default.not-Plain (is_plain c.loop-byte.state e))
