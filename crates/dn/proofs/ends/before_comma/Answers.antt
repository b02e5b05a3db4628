use Rattle.std.proofs.Common.{◌≡◌, List, ℕ, ◌∷◌, [], ◌++◌, Bor, Option, None, Some, MatchOption, ◌∙◌, sym, ap}
use Rattle.std.proofs.lemmas.List.{append_assoc, append_cancel_right}
use Rattle.dn.proofs.ends.before_comma.Goals as goal

by_front : (text front end : List ℕ) → text ≡ front ++ end → (o : Option (Bor (List ℕ)))
    → MatchOption o ((f : List ℕ) → front ≡ f ++ 44 ∷ [] → ⊥) (λ f. front ≡ f.now ++ 44 ∷ [])
    → MatchOption o ((f : List ℕ) → text ≡ f ++ 44 ∷ end → ⊥) (λ f. text ≡ f.now ++ 44 ∷ end)
by_front text front end h None k = λ f is. k f (append_cancel_right front (f ++ 44 ∷ []) end (sym h ∙ is ∙ sym (append_assoc f (44 ∷ []) end)))
by_front text front end h (Some f) k = h ∙ ap (λ (xs : List ℕ). xs ++ end) k ∙ append_assoc f.now (44 ∷ []) end

pub returns-in-Some : goal.returns-in-Some
returns-in-Some c = by_front c.args.text.now c.in-Some.front.now c.args.end.now c.in-Some.ensures c.before-in-Some.result c.before-in-Some.ensures

pub returns-in-None : goal.returns-in-None
returns-in-None c = λ front is. c.in-None.ensures (front ++ 44 ∷ []) (is ∙ sym (append_assoc front (44 ∷ []) c.args.end.now))
