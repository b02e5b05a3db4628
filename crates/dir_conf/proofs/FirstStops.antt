-- Steps that stop at the first fault: those before it go well, and it has one.
use Rattle.std.proofs.Common.{◌≡◌, List, [], ◌∷◌, ◌++◌, Result, Ok, Err, ◌⊎◌, inl, inr, refl, ap, ◌∙◌}
use Rattle.base.specs.Answers.{◌>>=◌, through}
use Rattle.base.proofs.Bound.{bind_ok, same_ok}

abbrev failed : {A F : Type 0} → F → Result A F
failed e = Err e

pub same_err : {A F : Type 0} (e f : F) → ◌≡◌ {A = Result A F} (Err e) (Err f) → e ≡ f
same_err e f h = cc

-- which of two steps failed
pub bind_err : {A B F : Type 0} (r : Result A F) (f : A → Result B F) (e : F) → (r >>= f) ≡ Err e → (r ≡ Err e) ⊎ ((x : A) × (r ≡ Ok x) × (f x ≡ Err e))
bind_err (Ok x) f e h = inr (x, refl, h)
bind_err {B = B} (Err fault) f e h = inl (ap failed (same_err {A = B} fault e h))

pub record Stops {S L F : Type 0} (step : S → L → Result S F) (s : S) (ls : List L) (e : F) : Type 0 where
  pub before : List L
  pub bad : L
  pub after : List L
  pub is : ls ≡ before ++ bad ∷ after
  pub known : S
  pub known_is : through step s before ≡ Ok known
  pub here : step known bad ≡ Err e

module _ {S L F : Type 0} (step : S → L → Result S F) where
  abbrev fine : S → Result S F
  fine s = Ok s

  none_yet : (s : S) → through step s [] ≡ Ok s
  unfolding through
  none_yet s = refl

  one_on : (s next : S) (l : L) (ls : List L) → step s l ≡ Ok next → through step s (l ∷ ls) ≡ through step next ls
  unfolding through
  one_on s next l ls e = ap (λ (r : Result S F). r >>= λ t. through step t ls) e

  behind : (s next : S) (l : L) (ls : List L) (e : F) → step s l ≡ Ok next → Stops step next ls e → Stops step s (l ∷ ls) e
  behind s next l ls e said h = record {
    before = l ∷ h.before;
    bad = h.bad;
    after = h.after;
    is = ap (λ (xs : List L). l ∷ xs) h.is;
    known = h.known;
    known_is = one_on s next l h.before said ∙ h.known_is;
    here = h.here;
  }

  pub stops : (ls : List L) (s : S) (e : F) → through step s ls ≡ Err e → Stops step s ls e
  unfolding through
  stops [] s e h = absurd cc
  stops (l ∷ ls) s e h = elim (bind_err (step s l) (λ next. through step next ls) e h) [
    | inl here ↦ record { before = []; bad = l; after = ls; is = refl; known = s; known_is = none_yet s; here = here }
    | inr on ↦ behind s on.0 l ls e on.1 (stops ls on.0 e on.2)
  ]

  fails_behind : (before : List L) (bad : L) (after : List L) (s known : S) (e : F) → through step s before ≡ Ok known → step known bad ≡ Err e → through step s (before ++ bad ∷ after) ≡ Err e
  unfolding through
  fails_behind [] bad after s known e so_far here =
      ap (λ (r : Result S F). r >>= λ t. through step t after) (ap (λ (t : S). step t bad) (same_ok {F = F} s known so_far) ∙ here)
  fails_behind (l ∷ before) bad after s known e so_far here =
      let k = bind_ok (step s l) (λ next. through step next before) known so_far in
      ap (λ (r : Result S F). r >>= λ t. through step t (before ++ bad ∷ after)) k.1 ∙ fails_behind before bad after k.0 known e k.2 here

  pub fails : (ls before : List L) (bad : L) (after : List L) (s known : S) (e : F) → ls ≡ before ++ bad ∷ after → through step s before ≡ Ok known → step known bad ≡ Err e → through step s ls ≡ Err e
  fails ls before bad after s known e is so_far here = ap (λ (xs : List L). through step s xs) is ∙ fails_behind before bad after s known e so_far here

  -- what failed goes on failing
  pub fails_on : (before more : List L) (s : S) (e : F) → through step s before ≡ Err e → through step s (before ++ more) ≡ Err e
  unfolding through
  fails_on [] more s e h = absurd cc
  fails_on (l ∷ before) more s e h = by (step s l) h (λ next. fails_on before more next e)
    where
      by : (r : Result S F) → (r >>= λ next. through step next before) ≡ Err e → ((next : S) → through step next before ≡ Err e → through step next (before ++ more) ≡ Err e) → (r >>= λ next. through step next (before ++ more)) ≡ Err e
      by (Ok next) h rest = rest next h
      by (Err fault) h rest = h
