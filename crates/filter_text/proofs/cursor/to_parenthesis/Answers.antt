use Rattle.std.proofs.Common.{◌≡◌, ◌<◌, ℕ, ◌∷◌, [], length, take, get_or, sym, subst, arith, true}
use Rattle.std.proofs.lemmas.List.{take_more}
use Rattle.std.proofs.lemmas.Grind.{common_steps}
use Rattle.filter_text.specs.Runs.{Run, is_plain}
use Rattle.filter_text.proofs.Runs.{run_append}
use Rattle.filter_text.proofs.cursor.to_parenthesis.Goals as goal

plain : (b : ℕ) → (b ≡ 40 → ⊥) → (b ≡ 41 → ⊥) → is_plain b ≡ true
plain b o c = grind (arith, common_steps)

pub loop-len-preserved : goal.loop-len-preserved
loop-len-preserved c =
    let within : c.loop-len.len < length c.args.bytes.now = c.loop-len-test.true in
    record {
      within = omega arith;
      run = subst (Run is_plain) (sym (take_more c.args.bytes.now c.loop-len.len 0 within))
          (run_append is_plain (take c.loop-len.len c.args.bytes.now) (get_or c.args.bytes.now c.loop-len.len 0 ∷ []) c.loop-len.invariant.run
          (plain (get_or c.args.bytes.now c.loop-len.len 0) c.if-bytes-len-ne40.true c.if-bytes-len-ne41.true, tt));
    }
