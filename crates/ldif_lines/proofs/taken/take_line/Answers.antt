use Rattle.std.proofs.Common.{arith, ◌≡◌, ◌∷◌, [], ◌++◌, ◌<◌, ◌≤◌, ◌+◌, ap, sym, subst, ◌∙◌, refl, List, ℕ, true, eqb, get_or, length, take, append_assoc, append-nil, length-take}
use Rattle.std.proofs.lemmas.List.{take_more, take_all, get_or-take, get_or_default}
use Rattle.std.proofs.lemmas.Bool.{eqb-true, false_from_ne_true}
use Rattle.ldif_lines.specs.inner.View.{state_of}
use Rattle.ldif_lines.specs.inner.States.{gives, HasNoFeed}
use Rattle.ldif_lines.proofs.StateLemmas.{closes-nothing}
use Rattle.ldif_lines.proofs.taken.take_line.Goals as goal

none_below : (bs : List ℕ) (i : ℕ) → i ≤ length bs → ((k : ℕ) → 0 ≤ k → k < i → ¬ eqb (get_or bs k 0) 10 ≡ true) → HasNoFeed (take i bs)
none_below bs i fits none k d lt =
    let below : k < i = omega (arith, length-take i bs) in
    ap (λ (b : ℕ). eqb b 10) (get_or-take i bs k d below ∙ get_or_default bs k d 0 (omega arith)) ∙ false_from_ne_true _ (none k (omega arith) below)

pub take-requires : goal.take-requires
take-requires c =
    let bs = c.args.bytes.now in
    subst HasNoFeed (take_all (length bs) bs (omega arith)) (none_below bs (length bs) (omega arith) c.in-None.ensures)

pub take-requires-in-Some : goal.take-requires-in-Some
take-requires-in-Some c = none_below c.args.bytes.now c.in-Some.i (omega (arith, c.in-Some.ensures.0.high)) c.in-Some.ensures.0.before

pub returns-in_ok-waits-in-Some-clause-ended : goal.returns-in_ok-waits-in-Some-clause-ended
returns-in_ok-waits-in-Some-clause-ended c = λ h.
    let i = c.in-Some.i in
    let bs = c.args.bytes.now in
    let s = state_of c.args.draft.now c.args.after_return c.args.count in
    let m = c.take-in-Some.new.self in
    let waits = c.in_ok-waits-in-Some.waits in
    let law = c.in_ok-waits-in-Some.ensures c.args.count refl in
    let lt : i < length bs = c.in-Some.ensures.0.high in
    let at : get_or bs i 0 ≡ 10 = eqb-true _ _ c.in-Some.ensures.1 in
    let text : take (i + 1) bs ≡ take i bs ++ 10 ∷ [] = take_more bs i 0 lt ∙ ap (λ (b : ℕ). take i bs ++ b ∷ []) at in
    record {
      eaten = take i bs;
      bytes = text;
      before = ap (gives true s) (sym (append-nil (take i bs))) ∙ law true [] ∙ closes-nothing (state_of m waits c.args.count);
      ends = λ only rest. ap (λ (l : List ℕ). gives only s (l ++ rest)) text ∙ ap (gives only s) (append_assoc (take i bs) (10 ∷ []) rest) ∙ law only (10 ∷ rest) ∙ c.end_line-ended.ensures.ends h waits c.args.count only rest;
    }
