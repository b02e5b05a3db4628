use Rattle.std.proofs.Common.{◌%◌, ◌==◌, ◌&&◌, Bool, length, ap, ◌∙◌}
use Rattle.stored_index.proofs.KeyLemmas.{are_pairs}
use Rattle.stored_index.proofs.keys.are_pairs.Goals as goal

pub returns : goal.returns
returns c = ap (λ (t : Bool). (length c.args.word.now % 2 == 0) && t) c.are_hex_bytes.ensures ∙ are_pairs c.args.word.now
