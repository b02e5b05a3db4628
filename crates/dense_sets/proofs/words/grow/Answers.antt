use Rattle.std.proofs.Common.{◌≡◌, ◌++◌, ◌-◌, take, vec_len, replicate, ap, ◌∙◌, arith}
use Rattle.std.proofs.lemmas.List.{take_all}
use Rattle.id_sets.specs.Words.{has_bit}
use Rattle.dense_sets.proofs.Bits.{has_bit_zeros, replicate_zero}
use Rattle.dense_sets.proofs.words.grow.Goals as goal

pub returns-in_ok-resize-clause-same : goal.returns-in_ok-resize-clause-same
returns-in_ok-resize-clause-same c q =
    let grown : c.resize.new.self.items ≡ take c.args.len c.args.words.now.items ++ replicate (c.args.len - vec_len c.args.words.now) 0 = cc c.in_ok-resize.ensures.items in
    ap (λ ws. has_bit ws q) (grown ∙ ap (λ ws. ws ++ replicate (c.args.len - vec_len c.args.words.now) 0) (take_all c.args.len c.args.words.now.items (omega arith)))
    ∙ has_bit_zeros c.args.words.now.items (replicate (c.args.len - vec_len c.args.words.now) 0) q (replicate_zero (c.args.len - vec_len c.args.words.now))
