use Rattle.std.proofs.Common.{◌<◌, ◌∷◌, [], length, take, get_or, sym, subst, arith}
use Rattle.std.proofs.lemmas.List.{take_more}
use Rattle.filter_text.specs.Runs.{Run, is_name_byte}
use Rattle.filter_text.proofs.Runs.{run_append}
use Rattle.filter_text.proofs.cursor.name_at.Goals as goal

pub loop-len-preserved : goal.loop-len-preserved
loop-len-preserved c =
    let within : c.loop-len.len < length c.args.bytes.now = c.loop-len-test.true in
    record {
      within = omega arith;
      run = subst (Run is_name_byte) (sym (take_more c.args.bytes.now c.loop-len.len 0 within))
          (run_append is_name_byte (take c.loop-len.len c.args.bytes.now) (get_or c.args.bytes.now c.loop-len.len 0 ∷ []) c.loop-len.invariant.run
          (sym c.if-is_name_byte.ensures, tt));
    }
