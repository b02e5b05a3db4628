use Rattle.std.proofs.Common.{◌≡◌, ℕ, ◌+◌, suc, take, drop, sym, ap, subst, ◌∙◌, arith}
use Rattle.entries.specs.Entries.{Attributes}
use Rattle.entries.specs.StoredEntries.{attributes_of, content_of, IsMade}
use Rattle.reasons.specs.BlockFlaws.{after_block, modified}
use Rattle.reasons.specs.Flaws.{HasFlaw, block_checks}
use Rattle.reasons.specs.inner.Found.{Leaves}
use Rattle.reasons.proofs.BlocksFound.{block_here, whole_found, whole_passed, blocks_done, modified_more}
use Rattle.reasons.proofs.LinesFound.{kept_at}
use Rattle.reasons.proofs.explainer.Explainer.blocks_reason.Goals as goal

pub whole_block_reason-requires-clause-block : goal.whole_block_reason-requires-clause-block
whole_block_reason-requires-clause-block c =
    block_here c.args.self.now.conf.now c.args.self.now.tree.now.entries c.args.self.now.asked.now (content_of c.args.entry.now) c.args.blocks.now c.loop-index.index c.index-blocks-index.result (attributes_of c.loop-index.attrs.items)
    c.requires.about c.requires.blocks c.loop-index-test.true c.index-blocks-index.is c.loop-index.invariant.are

pub returns-then-is_some-clause-found : goal.returns-then-is_some-clause-found
returns-then-is_some-clause-found c =
    whole_found c.args.self.now.conf.now c.args.self.now.mode c.args.self.now.tree.now.entries c.args.self.now.asked.now c.args.blocks.now c.loop-index.index c.index-blocks-index.result c.loop-index-test.true c.index-blocks-index.is c.loop-index.invariant.left
    c.in_ok-found.found (sym c.is_some.ensures ∙ c.if-is_some.true) c.in_ok-found.ensures.found

pub loop-index-preserved : goal.loop-index-preserved
loop-index-preserved c =
    let conf = c.args.self.now.conf.now in
    let mode = c.args.self.now.mode in
    let d = c.args.self.now.tree.now.entries in
    let r = c.args.self.now.asked.now in
    let blocks = c.args.blocks.now in
    let i = c.loop-index.index in
    let m = c.index-blocks-index.result in
    let attrs = attributes_of c.args.entry.now.attrs in
    let after = attributes_of c.whole_block_reason.new.attrs.items in
    let none = sym c.is_some.ensures ∙ c.if-is_some.false in
    let one : suc i ≡ i + 1 = omega arith in
    let behind = kept_at (after ≡ after_block conf.types (attributes_of c.loop-index.attrs.items) m) c.in_ok-found.found none c.in_ok-found.ensures.after in
    record {
      made = kept_at (IsMade conf.types c.whole_block_reason.new.attrs.items) c.in_ok-found.found none c.in_ok-found.ensures.made;
      are = subst (λ (n : ℕ). after ≡ modified conf.types attrs (take n blocks)) one
          (modified_more conf.types attrs after blocks i m c.loop-index-test.true c.index-blocks-index.is (behind ∙ ap (λ (xs : Attributes). after_block conf.types xs m) c.loop-index.invariant.are));
      left = subst (λ (n : ℕ). Leaves (HasFlaw conf mode d r) (block_checks 0 blocks) (block_checks n (drop n blocks))) one
          (whole_passed conf mode d r blocks i m c.loop-index-test.true c.index-blocks-index.is c.loop-index.invariant.left c.in_ok-found.found none c.in_ok-found.ensures.found);
    }

pub returns-clause-found : goal.returns-clause-found
returns-clause-found c =
    blocks_done c.args.self.now.conf.now c.args.self.now.mode c.args.self.now.tree.now.entries c.args.self.now.asked.now c.args.blocks.now c.loop-index.index c.loop-index-test.false c.loop-index.invariant.left
