-- The loop that drops spaces, one byte at a time.
use Rattle.std.proofs.Common.{◌≡◌, ℕ, ◌+◌, Bool, true, false, cond, List, [], ◌∷◌, ◌++◌, ◌<◌, ◌≤◌, ◌≢◌, length, get_or, drop, refl, sym, ap, ◌∙◌, append_assoc}
use Rattle.base.specs.Ends.{is_space, without_end, onto_text}
use Rattle.matching.specs.Forms.{one_spaces, tidy}
use Rattle.matching.specs.inner.Gaps.{with_gap}
use Rattle.std.proofs.lemmas.List.{append-nil, drop_more, drop_all}
use Rattle.std.proofs.lemmas.Bool.{ne_eqb}

-- what the rest of the text adds to what is written
abbrev pub adds : List ℕ → Bool → List ℕ → List ℕ
adds [] gap rest = tidy rest
adds (o ∷ os) gap rest = without_end (one_spaces (cond gap (32 ∷ rest) rest))

pub step_space : (out : List ℕ) (gap : Bool) (rest : List ℕ) → out ++ adds out gap (32 ∷ rest) ≡ out ++ adds out true rest
step_space [] gap rest = refl
step_space (o ∷ os) true rest = refl
step_space (o ∷ os) false rest = refl

onto_other : (b : ℕ) (xs : List ℕ) → is_space b ≡ false → onto_text b xs ≡ b ∷ xs
onto_other b [] h = rw h refl
onto_other b (x ∷ xs) h = refl

-- a byte that is no space is kept, and what follows goes on from there
pub kept : (b : ℕ) (rest : List ℕ) → is_space b ≡ false → without_end (one_spaces (b ∷ rest)) ≡ b ∷ without_end (one_spaces rest)
kept b rest h = rw h (onto_other b _ h)

first : (b : ℕ) (rest : List ℕ) → is_space b ≡ false → tidy (b ∷ rest) ≡ b ∷ without_end (one_spaces rest)
first b rest h = rw h (kept b rest h)

after_gap : (b : ℕ) (rest : List ℕ) → is_space b ≡ false → without_end (one_spaces (32 ∷ b ∷ rest)) ≡ 32 ∷ b ∷ without_end (one_spaces rest)
after_gap b rest h = rw h (ap (onto_text 32) (onto_other b (without_end (one_spaces rest)) h))

adds_some : (xs : List ℕ) (b : ℕ) (rest : List ℕ) → adds (xs ++ b ∷ []) false rest ≡ without_end (one_spaces rest)
adds_some [] b rest = refl
adds_some (x ∷ xs) b rest = refl

pub step_other : (out : List ℕ) (gap : Bool) (b : ℕ) (rest : List ℕ) → is_space b ≡ false → out ++ adds out gap (b ∷ rest) ≡ (with_gap out gap ++ b ∷ []) ++ adds (with_gap out gap ++ b ∷ []) false rest
step_other [] gap b rest h = first b rest h
step_other (o ∷ os) true b rest h =
    ap (λ t. (o ∷ os) ++ t) (after_gap b rest h) ∙ sym (ap (λ t. (((o ∷ os) ++ 32 ∷ []) ++ b ∷ []) ++ t) (adds_some ((o ∷ os) ++ 32 ∷ []) b rest) ∙ append_assoc ((o ∷ os) ++ 32 ∷ []) (b ∷ []) (without_end (one_spaces rest)) ∙ append_assoc (o ∷ os) (32 ∷ []) (b ∷ without_end (one_spaces rest)))
step_other (o ∷ os) false b rest h =
    ap (λ t. (o ∷ os) ++ t) (kept b rest h) ∙ sym (ap (λ t. ((o ∷ os) ++ b ∷ []) ++ t) (adds_some (o ∷ os) b rest) ∙ append_assoc (o ∷ os) (b ∷ []) (without_end (one_spaces rest)))

pub at_end : (out : List ℕ) (gap : Bool) → out ++ adds out gap [] ≡ out
at_end [] gap = refl
at_end (o ∷ os) true = append-nil (o ∷ os)
at_end (o ∷ os) false = append-nil (o ∷ os)

-- the loop's step at a space
pub more_space : (all out bs : List ℕ) (gap : Bool) (i : ℕ) (out' : List ℕ) (gap' : Bool) → i < length bs → get_or bs i 0 ≡ 32 → out' ≡ out → gap' ≡ true → out ++ adds out gap (drop i bs) ≡ all → out' ++ adds out' gap' (drop (i + 1) bs) ≡ all
more_space all out bs gap i out' gap' lt here same on h =
    let rest : drop i bs ≡ 32 ∷ drop (i + 1) bs = drop_more bs i 0 lt ∙ ap (λ (b : ℕ). b ∷ drop (i + 1) bs) here in
    rw (same, on) (sym (step_space out gap (drop (i + 1) bs)) ∙ (ap (λ (r : List ℕ). out ++ adds out gap r) (sym rest) ∙ h))

-- the loop's step at another byte
pub more_other : (all out bs : List ℕ) (gap : Bool) (i : ℕ) (put out' : List ℕ) (gap' : Bool) → i < length bs → get_or bs i 0 ≢ 32 → put ≡ with_gap out gap → out' ≡ put ++ get_or bs i 0 ∷ [] → gap' ≡ false → out ++ adds out gap (drop i bs) ≡ all → out' ++ adds out' gap' (drop (i + 1) bs) ≡ all
more_other all out bs gap i put out' gap' lt here is_put is_out off h =
    let b = get_or bs i 0 in
    let rest : drop i bs ≡ b ∷ drop (i + 1) bs = drop_more bs i 0 lt in
    let no_space : is_space b ≡ false = ne_eqb b 32 here in
    rw (is_out, is_put, off) (sym (step_other out gap b (drop (i + 1) bs) no_space) ∙ (ap (λ (r : List ℕ). out ++ adds out gap r) (sym rest) ∙ h))

pub all_read : (all out bs : List ℕ) (gap : Bool) (i : ℕ) → length bs ≤ i → out ++ adds out gap (drop i bs) ≡ all → out ≡ all
all_read all out bs gap i past h =
    sym (at_end out gap) ∙ (ap (λ (r : List ℕ). out ++ adds out gap r) (sym (drop_all i bs past)) ∙ h)
