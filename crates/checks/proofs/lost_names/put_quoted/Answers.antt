use Rattle.std.proofs.Common.{◌≡◌, ◌∙◌, ◌+◌, ◌++◌, [], ◌∷◌, List, ℕ, Bool, true, cond, Bor, map, drop, sym, ap}
use Rattle.std.proofs.lemmas.List.{at_drop_more, append_assoc}
use Rattle.checks.specs.declared.lost_names.LostName.{LostName}
use Rattle.checks.specs.LostNames.{lost_at, is_quoted, unquoted, quoted_names}
use Rattle.checks.proofs.lost_names.put_quoted.Goals as goal

-- those of these pieces
abbrev names_of : ℕ → List (Bor (List ℕ)) → List LostName
names_of line ps = lost_at line (quoted_names (map (λ p. p.now) ps))

-- one more in quotes
quoted-cons : (line : ℕ) (b : List ℕ) (bs : List (List ℕ)) → is_quoted b ≡ true → lost_at line (quoted_names (b ∷ bs)) ≡ lost_at line (unquoted b ∷ []) ++ lost_at line (quoted_names bs)
quoted-cons line b bs is = ap (λ (t : Bool). lost_at line (cond t (unquoted b ∷ quoted_names bs) [])) is

pub loop-piece-preserved : goal.loop-piece-preserved
loop-piece-preserved c =
    let pieces = c.args.pieces.now in
    let line = c.args.line in
    let at = c.loop-piece.piece-index in
    let lost = c.loop-piece.lost.items in
    let rest = names_of line (drop (at + 1) pieces) in
    let here = quoted-cons line _ (map (λ p. p.now) (drop (at + 1) pieces)) (sym c.is_quoted.ensures ∙ c.if-not-is_quoted.false) in
    ap (λ (front : List LostName). front ++ rest) c.in_ok-put_word.ensures ∙ append_assoc lost _ rest
    ∙ ap (λ (word : List ℕ). lost ++ (lost_at line (word ∷ []) ++ rest)) c.unquoted.ensures
    ∙ ap (λ (more : List LostName). lost ++ more) (sym here ∙ sym (at_drop_more (names_of line) pieces at _ c.loop-piece-test.true)) ∙ c.loop-piece.invariant
