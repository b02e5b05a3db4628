use Rattle.std.proofs.Common.{◌≡◌, ℕ, List, ◌++◌, ◌+◌, ◌-◌, ◌≤◌, false, length, take, drop, ap, sym, ◌∙◌, subst, append_assoc, arith}
use Rattle.std.proofs.lemmas.Bool.Decides.{nat_tests}
use Rattle.std.proofs.lemmas.List.{take-append-drop, take-take, drop-take, take_rest, length-drop}
use Rattle.ldif_lines.specs.inner.View.{state_of}
use Rattle.ldif_lines.specs.inner.Moves.{EndsAt}
use Rattle.ldif_lines.specs.inner.States.{gives, raw_of, next_state}
use Rattle.ldif_lines.proofs.MoveLemmas.{ends-trans}
use Rattle.ldif_lines.proofs.taken.take_lines.Goals as goal

-- what is taken in two steps
take_both : (n m : ℕ) (xs : List ℕ) → take (n + m) xs ≡ take n xs ++ take m (take (length xs - n) (drop n xs))
take_both n m xs =
    sym (take-append-drop n (take (n + m) xs))
    ∙ ap (λ (l : List ℕ). l ++ drop n (take (n + m) xs)) (take-take n (n + m) xs (omega arith))
    ∙ ap (λ (l : List ℕ). take n xs ++ l) (drop-take n m xs ∙ ap (take m) (sym (take_rest xs n)))

pub lines-preserved : goal.lines-preserved
lines-preserved c =
    let h = c.lines.invariant in
    let k = c.in_ok-taken.ensures in
    let xs = c.args.bytes.now in
    let n = c.lines.all.len in
    let m = c.in_ok-taken.taken.len in
    let on : c.lines.all.ended ≡ false = grind (arith, nat_tests) in
    let both = take_both n m xs in
    let s = state_of c.args.draft.now c.args.after_return c.args.count in
    let within : m ≤ length (drop n xs) = subst (λ (l : List ℕ). m ≤ length l) (take_rest xs n) k.within in
    record {
      some = λ _. omega (arith, k.some);
      within = omega (arith, within, length-drop n xs, h.within, k.some);
      counted = omega (arith, h.counted, k.counted);
      waits = λ _ e. omega (arith, h.counted, k.waits e);
      moved = λ e only rest. ap (λ (l : List ℕ). gives only s (l ++ rest)) both ∙ ap (gives only s) (append_assoc (take n xs) _ rest) ∙ h.moved on only _ ∙ k.moved e only rest;
      ended = λ e. subst (λ (l : List ℕ). EndsAt s l (raw_of (state_of c.take_line.new.draft c.in_ok-taken.taken.after_return c.in_ok-taken.taken.count)) (next_state c.in_ok-taken.taken.count)) (sym both)
          (ends-trans s _ _ (take n xs) _ _ (h.moved on) (k.ended e));
      settled = k.settled;
    }
