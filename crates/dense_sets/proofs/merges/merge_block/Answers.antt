use Rattle.std.proofs.Common.{◌≡◌, ℕ, ◌+◌, ◌-◌, ◌<◌, ◌≤◌, List, length, get_or, sym, ap, ◌∙◌, arith}
use Rattle.std.proofs.lemmas.Simd.{get_or-zip2, get_or-chunk, get_or-put_chunk_below, get_or-put_chunk_at, get_or-put_chunk_above, length-zip2, length-chunk}
use Rattle.std.specs.Simd.Lanes.{zip2}
use lib.Lanes.{put_chunk, chunk}
use Rattle.dense_sets.proofs.merges.merge_block.Goals as goal

module _ (f : ℕ → ℕ → ℕ) (xs ys zs : List ℕ) (at : ℕ) (here : at + 8 ≤ length xs) (there : at + 8 ≤ length ys) (lanes : zs ≡ zip2 f (chunk at 8 xs) (chunk at 8 ys)) where
  eight : length zs ≡ 8
  eight = ap length lanes ∙ length-zip2 f (chunk at 8 xs) (chunk at 8 ys) (length-chunk at 8 xs here ∙ sym (length-chunk at 8 ys there)) ∙ length-chunk at 8 xs here

  merged : (k : ℕ) → at ≤ k → k < at + 8 → get_or (put_chunk at xs zs) k 0 ≡ f (get_or xs k 0) (get_or ys k 0)
  merged k from to =
      let j : ℕ = k - at in
      let is : k ≡ at + j = omega arith in
      let small : j < 8 = omega arith in
      let e = eight in
      ap (λ i. get_or (put_chunk at xs zs) i 0) is
      ∙ get_or-put_chunk_at at xs zs j 0 (omega (arith, e)) (omega (arith, e))
      ∙ ap (λ l. get_or l j 0) lanes
      ∙ get_or-zip2 f (chunk at 8 xs) (chunk at 8 ys) j 0 0 0 (omega (arith, length-chunk at 8 xs here)) (omega (arith, length-chunk at 8 ys there))
      ∙ ap (λ x. f x (get_or (chunk at 8 ys) j 0)) (get_or-chunk at 8 xs j 0 small)
      ∙ ap (λ y. f (get_or xs (at + j) 0) y) (get_or-chunk at 8 ys j 0 small)
      ∙ ap (λ i. f (get_or xs i 0) (get_or ys i 0)) (sym is)

pub returns-clause-merged : goal.returns-clause-merged
returns-clause-merged g c = merged g.M.Merge.merged c.args.words.now c.args.other.now c.lanes.result c.args.at c.requires.here c.requires.there c.lanes.ensures

pub returns-clause-below : goal.returns-clause-below
returns-clause-below g c k h = get_or-put_chunk_below c.args.at c.args.words.now c.lanes.result k 0 h

pub returns-clause-above : goal.returns-clause-above
returns-clause-above g c k h =
    let e = eight g.M.Merge.merged c.args.words.now c.args.other.now c.lanes.result c.args.at c.requires.here c.requires.there c.lanes.ensures in
    get_or-put_chunk_above c.args.at c.args.words.now c.lanes.result k 0 (omega (arith, e))
