use Rattle.entries.specs.StoredEntries.{IsMade}
use Rattle.index_keys.proofs.NormLists.{made_at, one_entry}
use Rattle.index_keys.proofs.type_norms.norms_of.Goals as goal

pub loop-numbered-preserved : goal.loop-numbered-preserved
loop-numbered-preserved c =
    let types = c.args.conf.now.types in
    let es = c.args.entries.now in
    let i = c.loop-numbered.numbered-index in
    let e = c.numbered-item.result in
    record {
      so_far = one_entry types c.args.type_id c.loop-numbered.all.items c.push_norms.new.all.items es i e c.of-norms.result c.numbered-item.is c.loop-numbered-test.true c.of-norms.ensures
          (made_at (λ e. IsMade types e.entry.now.attrs) es i e c.numbered-item.is c.loop-numbered-test.true c.requires)
          c.in_ok-push_norms.ensures c.loop-numbered.invariant.so_far;
    }
