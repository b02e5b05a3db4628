use Rattle.std.proofs.Common.{◌+◌, ◌≤◌, length, drop, arith, refl, sym, ap}
use Rattle.std.proofs.lemmas.List.{length-append, length-drop, length-take, drop_all}
use Rattle.std.proofs.lemmas.Bool.{le-leb}
use Rattle.try_device.proofs.Parts.{front_len, front_cut, front_ended}
use Rattle.try_device.proofs.memory.TrySourceSource.pull.Goals as goal

pub returns-clause-gave : goal.returns-clause-gave
returns-clause-gave c =
    let s = c.args.self.now in
    let n = c.min-n.result in
    let xs = s.bytes.now in
    let copied = c.copy_from_slice.new.self in
    let tail = drop n c.args.buffer.now in
    let fits : s.at + n ≤ length xs = omega arith in
    let is = c.copy_from_slice.ensures.after in
    record {
      left = front_cut xs copied tail s.at n fits is;
      pulled = ap (λ k. s.at + k) (sym (front_len xs copied tail s.at n fits is));
      failed = refl;
      stays_ended = front_ended xs copied tail s.at n fits is;
    }

pub returns-clause-end : goal.returns-clause-end
returns-clause-end c = λ none some.
    let s = c.args.self.now in
    let n = c.min-n.result in
    let all = c.args.buffer.now in
    let past : length s.bytes.now ≤ s.at + n = omega (arith, none, some, c.in-Some.ensures.some, length-append c.copy_from_slice.new.self (drop n all), length-drop n all, length-take n all) in
    (le-leb _ _ past, drop_all _ _ past)
