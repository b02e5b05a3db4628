use Rattle.std.proofs.Common.{◌≡◌, ◌<◌, ◌+◌, ◌&&◌, ◌++◌, ◌∷◌, [], ℕ, List, Bool, true, false, length, get_or, drop, refl, sym, ap, ◌∙◌, append_assoc, append-nil}
use Rattle.std.proofs.lemmas.List.{drop_more, drop_all}
use Rattle.std.proofs.lemmas.Result.{IfOk-from_err}
use Rattle.base.specs.Ends.{is_space}
use Rattle.matching.specs.Forms.{begins_with_space, one_spaces}
use Rattle.matching.proofs.spaces.one_spaces.Goals as goal
use Rattle.matching.proofs.spaces.one_spaces.Goals.{then-not-is_double+in_ok-push, else-not-is_double}

abbrev is_double : List ℕ → ℕ → Bool
is_double text i = is_space (get_or text i 0) && begins_with_space (drop (i + 1) text)

kept : (all out text : List ℕ) (i : ℕ) (out' : List ℕ) → i < length text → is_double text i ≡ false → out' ≡ out ++ get_or text i 0 ∷ [] → out ++ one_spaces (drop i text) ≡ all → out' ++ one_spaces (drop (i + 1) text) ≡ all
kept all out text i out' lt other put h =
    let rest : one_spaces (drop i text) ≡ get_or text i 0 ∷ one_spaces (drop (i + 1) text) = rw (drop_more text i 0 lt, other) refl in
    rw put (append_assoc out (get_or text i 0 ∷ []) (one_spaces (drop (i + 1) text)) ∙ ap (λ (l : List ℕ). out ++ l) (sym rest) ∙ h)

left_out : (all out text : List ℕ) (i : ℕ) (out' : List ℕ) → i < length text → is_double text i ≡ true → out' ≡ out → out ++ one_spaces (drop i text) ≡ all → out' ++ one_spaces (drop (i + 1) text) ≡ all
left_out all out text i out' lt double same h =
    let rest : one_spaces (drop i text) ≡ one_spaces (drop (i + 1) text) = rw (drop_more text i 0 lt, double) refl in
    rw same (ap (λ (l : List ℕ). out ++ l) (sym rest) ∙ h)

pub returns-in_err-push : goal.returns-in_err-push
returns-in_err-push c = IfOk-from_err _ _ c.from_residual-in_err-push.ensures.0

pub loop-i-preserved : goal.loop-i-preserved
loop-i-preserved c =
    elim c.if-not-is_double.branch [
      | then-not-is_double+in_ok-push w ↦ kept _ c.loop-i.out.items _ c.loop-i.i _ c.loop-i-test.true (sym w.if-not-is_double.ensures) (ap (λ v. v.items) w.out-is ∙ w.in_ok-push.ensures.items) c.loop-i.invariant
      | else-not-is_double w ↦ left_out _ c.loop-i.out.items _ c.loop-i.i _ c.loop-i-test.true (sym w.if-not-is_double.ensures) (ap (λ v. v.items) w.out-is) c.loop-i.invariant
    ]

pub returns : goal.returns
returns c =
    let out = c.loop-i.out.items in
    sym (append-nil out) ∙ ap (λ (rest : List ℕ). out ++ one_spaces rest) (sym (drop_all c.loop-i.i c.args.text.now c.loop-i-test.false)) ∙ c.loop-i.invariant
