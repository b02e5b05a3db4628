use Rattle.std.proofs.Common.{◌≢◌, ◌∙◌, [], sym}
use Rattle.std.proofs.lemmas.Bool.{true≢false}
use Rattle.std.proofs.lemmas.Slice.Eq.{bytes_eq-Decides}
use Rattle.values.proofs.Joined.{alone, both}
use Rattle.values.proofs.value.Value.joined.Goals as goal

pub returns-then-eq : goal.returns-then-eq
returns-then-eq c = alone c.len-norm_len.result c.args.norm c.args.raw.now c.len-norm_len.ensures (sym c.as_slice.ensures ∙ (bytes_eq-Decides c.as_slice.result.now c.args.raw.now).0 (sym c.eq.ensures ∙ c.if-eq.true))

pub returns : goal.returns
returns c =
    let some : c.args.raw.now ≢ [] = λ e. true≢false (sym ((bytes_eq-Decides c.as_slice.result.now c.args.raw.now).1 (c.as_slice.ensures ∙ c.requires e ∙ sym e)) ∙ sym c.eq.ensures ∙ c.if-eq.false) in
    both c.len-norm_len.result c.args.norm c.args.raw.now c.extend_from_slice.new.self c.len-norm_len.ensures some c.in_ok-extend_from_slice.ensures.ok
