use Rattle.std.proofs.Common.{◌<◌, rules, length, nat_eq, sym, ◌∙◌}
use Rattle.differences.specs.inner.LentBlocks.{all_seen}
use Rattle.differences.proofs.LentLists.{on_ok, one_at_most, steps_on, stops_here, ends}
use Rattle.differences.proofs.blocks.push_all.Goals as goal

pub returns-then-not-goes_on : goal.returns-then-not-goes_on
returns-then-not-goes_on c =
    on_ok c.push_adds.result _ _
    (λ more. stops_here c.args.conf.now.types c.args.before.now c.args.after.now c.loop-i.i c.loop-i.j (all_seen c.loop-i.blocks.items) _ c.loop-i.invariant.so_far (all_seen c.push_deletes.new.blocks.items) (all_seen c.push_adds.new.blocks.items)
    (sym c.if-not-goes_on.true ∙ c.goes_on.ensures.goes) c.in_ok-push_deletes.ensures more)
    c.push_adds.ensures

pub loop-i-preserved : goal.loop-i-preserved
loop-i-preserved c =
    let lt : c.loop-i.j < length c.args.after.now = search (rules, c.goes_on.ensures.more, c.if-not-goes_on.false) in
    record {
      within = one_at_most c.loop-i.j (length c.args.after.now) c.in_ok-j.field-0 (nat_eq c.index-before-i.result.t.now c.index-after-j.result.t.now) lt c.in_ok-j.ensures.count;
      so_far = steps_on c.args.conf.now.types c.args.before.now c.args.after.now c.loop-i.i c.loop-i.j (all_seen c.loop-i.blocks.items) _ c.loop-i.invariant.so_far c.index-before-i.result c.index-after-j.result c.in_ok-j.field-0 (all_seen c.push_first.new.blocks.items)
          c.loop-i-test.true c.index-before-i.is lt c.index-after-j.is (sym c.if-not-goes_on.false ∙ c.goes_on.ensures.goes) c.in_ok-j.ensures.count c.in_ok-j.ensures.blocks;
    }

pub returns : goal.returns
returns c =
    on_ok c.push_adds-2.result _ _
    (λ more. ends c.args.conf.now.types c.args.before.now c.args.after.now c.loop-i.i c.loop-i.j (all_seen c.loop-i.blocks.items) _ c.loop-i.invariant.so_far (all_seen c.push_adds-2.new.blocks.items) c.loop-i-test.false more)
    c.push_adds-2.ensures
