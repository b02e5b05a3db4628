-- A loop that takes one thing after the other, up to the first fault.
use Rattle.std.proofs.Common.{◌≡◌, ℕ, ◌+◌, ◌<◌, ◌≤◌, List, length, get_or, drop, Option, Result, Ok, sym, ap, ◌∙◌}
use Rattle.std.proofs.lemmas.List.{drop_more, drop_all}
use Rattle.base.specs.Answers.{◌>>=◌, through, Fails}
use Rattle.base.proofs.Each.{passed_on}

module _ {L S F : Type 0} (step : S → L → Result S F) (xs : List L) (i : ℕ) (d : L) where
  cut : (s : S) → i < length xs → through step s (drop i xs) ≡ (step s (get_or xs i d) >>= λ next. through step next (drop (i + 1) xs))
  unfolding through
  cut s lt = ap (λ (ys : List L). through step s ys) (drop_more xs i d lt)

  pub goes_on : (s next : S) (total : Result S F) → i < length xs → step s (get_or xs i d) ≡ Ok next
      → through step s (drop i xs) ≡ total → through step next (drop (i + 1) xs) ≡ total
  goes_on s next total lt e so_far = sym (cut s lt ∙ ap (λ (r : Result S F). r >>= λ y. through step y (drop (i + 1) xs)) e) ∙ so_far

  pub ends : (s : S) (e : Option F) (total : Result S F) → i < length xs → Fails e (step s (get_or xs i d))
      → through step s (drop i xs) ≡ total → Fails e total
  ends s e total lt h so_far =
      passed_on e (step s (get_or xs i d)) total (λ fault is. sym so_far ∙ cut s lt ∙ ap (λ (r : Result S F). r >>= λ y. through step y (drop (i + 1) xs)) is) h

pub is_done : {L S F : Type 0} (step : S → L → Result S F) (xs : List L) (i : ℕ) (s : S) (total : Result S F) → length xs ≤ i → through step s (drop i xs) ≡ total → total ≡ Ok s
unfolding through
is_done {L} step xs i s total le so_far = sym so_far ∙ ap (λ (ys : List L). through step s ys) (drop_all i xs le)
