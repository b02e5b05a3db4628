-- A normal form is its own normal form.
use Rattle.std.proofs.Common.{◌≡◌, ℕ, ◌+◌, Bool, true, false, ◌&&◌, ◌⊎◌, List, [], ◌∷◌, filter, refl, ap, ◌∙◌, arith, inl, inr}
use Rattle.std.specs.Char.{to_ascii_lowercase}
use Rattle.std.proofs.lemmas.Str.Ascii.{lowercase-lowercase}
use Rattle.std.proofs.lemmas.Bool.{cases_lt, le-ltb, lt-ltb, ne_eqb}
use Rattle.matching.specs.declared.family.Family.{Family}
use Rattle.matching.specs.declared.family.Family.TheVariants.{Ignore, Exact, Numeric, Telephone, Integer, Boolean, Octet, Oid}
use Rattle.base.specs.Ends.{is_space, without_front, without_end, onto_text}
use Rattle.matching.specs.Forms.{begins_with_space, one_spaces, tidy, lower, is_no_space, is_no_filler, norm}
use Rattle.matching.proofs.GapLoop.{kept}

pub known : (b : Bool) → (b ≡ true) ⊎ (b ≡ false)
known true = inl refl
known false = inr refl

-- the front
front_on : (b : ℕ) (ys : List ℕ) → is_space b ≡ false → without_front (onto_text b ys) ≡ onto_text b ys
front_on b [] off = rw (off, off) refl
front_on b (y ∷ ys) off = rw off refl

pub front_again : (bs : List ℕ) → without_front (without_end (one_spaces (without_front bs))) ≡ without_end (one_spaces (without_front bs))
front_again [] = refl
front_again (b ∷ bs) = elim (known (is_space b)) [
  | inl on ↦ rw on (front_again bs)
  | inr off ↦ rw (off, off) (front_on b (without_end (one_spaces bs)) off)
]

-- the end
end_on : (b : ℕ) (ys : List ℕ) → without_end ys ≡ ys → without_end (onto_text b ys) ≡ onto_text b ys
end_on b [] h = elim (known (is_space b)) [ inl on ↦ rw on refl | inr off ↦ rw (off, off) refl ]
end_on b (y ∷ ys) h = ap (onto_text b) h

pub end_again : (bs : List ℕ) → without_end (without_end bs) ≡ without_end bs
end_again [] = refl
end_again (b ∷ bs) = end_on b (without_end bs) (end_again bs)

-- single spaces
first_stays : (bs : List ℕ) → begins_with_space bs ≡ false → begins_with_space (without_end (one_spaces bs)) ≡ false
first_stays [] off = refl
first_stays (b ∷ bs) off = rw (kept b bs off) off

single_on : (b : ℕ) (ys : List ℕ) → is_space b && begins_with_space ys ≡ false → one_spaces ys ≡ ys → one_spaces (onto_text b ys) ≡ onto_text b ys
single_on b [] off h = elim (known (is_space b)) [ inl on ↦ rw on refl | inr off ↦ rw (off, off) refl ]
single_on b (y ∷ ys) off h = rw off (ap (λ (r : List ℕ). b ∷ r) h)

both_off : (b c d : Bool) → b && c ≡ false → (c ≡ false → d ≡ false) → b && d ≡ false
both_off true c d h f = f h
both_off false c d h f = refl

pub single_again : (bs : List ℕ) → one_spaces (without_end (one_spaces bs)) ≡ without_end (one_spaces bs)
single_again [] = refl
single_again (b ∷ bs) = elim (known (is_space b && begins_with_space bs)) [
  | inl on ↦ rw on (single_again bs)
  | inr off ↦ rw off (single_on b (without_end (one_spaces bs)) (both_off (is_space b) (begins_with_space bs) (begins_with_space (without_end (one_spaces bs))) off (first_stays bs)) (single_again bs))
]

pub tidy_again : (bs : List ℕ) → tidy (tidy bs) ≡ tidy bs
tidy_again bs =
    ap (λ (t : List ℕ). without_end (one_spaces t)) (front_again bs)
    ∙ (ap without_end (single_again (without_front bs)) ∙ end_again (one_spaces (without_front bs)))

-- case does not touch spaces
space_lower : (b : ℕ) → is_space (to_ascii_lowercase b) ≡ is_space b
space_lower b = elim (cases_lt b 65) [
  | inl below ↦ rw (lt-ltb b 65 below) refl
  | inr above ↦ elim (cases_lt b 91) [
    | inl below ↦ rw (le-ltb b 65 above, lt-ltb b 91 below, ne_eqb (b + 32) 32 (λ e. omega arith), ne_eqb b 32 (λ e. omega arith)) refl
    | inr past ↦ rw (le-ltb b 65 above, le-ltb b 91 past) refl
  ]
]

front_lower : (bs : List ℕ) → without_front (lower bs) ≡ lower (without_front bs)
front_lower [] = refl
front_lower (b ∷ bs) = elim (known (is_space b)) [
  | inl on ↦ rw (space_lower b, on) (front_lower bs)
  | inr off ↦ rw (space_lower b, off) refl
]

begins_lower : (bs : List ℕ) → begins_with_space (lower bs) ≡ begins_with_space bs
begins_lower [] = refl
begins_lower (b ∷ bs) = space_lower b

single_lower : (bs : List ℕ) → one_spaces (lower bs) ≡ lower (one_spaces bs)
single_lower [] = refl
single_lower (b ∷ bs) = elim (known (is_space b && begins_with_space bs)) [
  | inl on ↦ rw (space_lower b, begins_lower bs, on) (single_lower bs)
  | inr off ↦ rw (space_lower b, begins_lower bs, off) (ap (λ (r : List ℕ). to_ascii_lowercase b ∷ r) (single_lower bs))
]

onto_lower : (b : ℕ) (ys : List ℕ) → onto_text (to_ascii_lowercase b) (lower ys) ≡ lower (onto_text b ys)
onto_lower b [] = elim (known (is_space b)) [ inl on ↦ rw (space_lower b, on) refl | inr off ↦ rw (space_lower b, off) refl ]
onto_lower b (y ∷ ys) = refl

end_lower : (bs : List ℕ) → without_end (lower bs) ≡ lower (without_end bs)
end_lower [] = refl
end_lower (b ∷ bs) = ap (onto_text (to_ascii_lowercase b)) (end_lower bs) ∙ onto_lower b (without_end bs)

pub tidy_lower : (bs : List ℕ) → tidy (lower bs) ≡ lower (tidy bs)
tidy_lower bs =
    ap (λ (t : List ℕ). without_end (one_spaces t)) (front_lower bs)
    ∙ (ap without_end (single_lower (without_front bs)) ∙ end_lower (one_spaces (without_front bs)))

pub lower_again : (bs : List ℕ) → lower (lower bs) ≡ lower bs
lower_again [] = refl
lower_again (b ∷ bs) = ap (λ (c : ℕ). c ∷ lower (lower bs)) (lowercase-lowercase b) ∙ ap (λ (r : List ℕ). to_ascii_lowercase b ∷ r) (lower_again bs)

filter_again : (p : ℕ → Bool) (bs : List ℕ) → filter p (filter p bs) ≡ filter p bs
filter_again p [] = refl
filter_again p (b ∷ bs) = elim (known (p b)) [
  | inl on ↦ rw (on, on) (ap (λ (r : List ℕ). b ∷ r) (filter_again p bs))
  | inr off ↦ rw off (filter_again p bs)
]

dash_lower : (b : ℕ) → is_no_filler (to_ascii_lowercase b) ≡ is_no_filler b
dash_lower b = elim (cases_lt b 65) [
  | inl below ↦ rw (lt-ltb b 65 below) refl
  | inr above ↦ elim (cases_lt b 91) [
    | inl below ↦ rw (le-ltb b 65 above, lt-ltb b 91 below, ne_eqb (b + 32) 32 (λ e. omega arith), ne_eqb (b + 32) 45 (λ e. omega arith), ne_eqb b 32 (λ e. omega arith), ne_eqb b 45 (λ e. omega arith)) refl
    | inr past ↦ rw (le-ltb b 65 above, le-ltb b 91 past) refl
  ]
]

filter_lower : (bs : List ℕ) → filter is_no_filler (lower bs) ≡ lower (filter is_no_filler bs)
filter_lower [] = refl
filter_lower (b ∷ bs) = elim (known (is_no_filler b)) [
  | inl on ↦ rw (dash_lower b, on) (ap (λ (r : List ℕ). to_ascii_lowercase b ∷ r) (filter_lower bs))
  | inr off ↦ rw (dash_lower b, off) (filter_lower bs)
]

pub norm_again : (f : Family) (bs : List ℕ) → norm f (norm f bs) ≡ norm f bs
unfolding norm
norm_again Ignore bs = ap lower (tidy_lower (tidy bs) ∙ ap lower (tidy_again bs)) ∙ lower_again (tidy bs)
norm_again Exact bs = tidy_again bs
norm_again Numeric bs = filter_again is_no_space bs
norm_again Telephone bs = ap lower (filter_lower (filter is_no_filler bs) ∙ ap lower (filter_again is_no_filler bs)) ∙ lower_again (filter is_no_filler bs)
norm_again Oid bs = lower_again bs
norm_again Octet bs = refl
norm_again Integer bs = refl
norm_again Boolean bs = refl
