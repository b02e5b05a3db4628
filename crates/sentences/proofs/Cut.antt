-- Places at which a text is cut.
use Rattle.std.proofs.Common.{◌≡◌, ℕ, zero, suc, ◌+◌, ◌-◌, ◌<◌, ◌≤◌, true, false, cond, List, ◌++◌, ◌∙◌, ap, sym, refl, length, get_or, take, drop, map, slice_index, nat_lt, arith}
use Rattle.std.proofs.lemmas.Bool.Decides.{nat_tests}
use Rattle.std.proofs.lemmas.List.{append_assoc, at_drop_more, at_drop_all}
use Rattle.std.proofs.lemmas.Str.{IsCharBoundary-start}
use Rattle.std.specs.Str.{IsUtf8, IsCharBoundary}
use Rattle.sentences.specs.Cuts.{dots, fitting, goes_on, is_inside, begin_near, front, whole_len}

-- one place further down, where one is inside of something
pub whole_len_step : (words : List ℕ) (place : ℕ) → is_inside words place ≡ true → whole_len words place ≡ whole_len words (place - 1)
unfolding whole_len
whole_len_step words zero inside = cc
whole_len_step words (suc place) inside = let e : suc place - 1 ≡ place = omega arith in rw (inside, e) refl

-- it ends at a place that isn't
pub whole_len_end : (words : List ℕ) (place : ℕ) → is_inside words place ≡ false → whole_len words place ≡ place
unfolding whole_len
whole_len_end words zero outside = refl
whole_len_end words (suc place) outside = rw outside refl

pub whole_len_zero : (words : List ℕ) → whole_len words 0 ≡ 0
unfolding whole_len
whole_len_zero words = refl

-- the piece that comes next, by what room there is
fitting_next : (f : ℕ → List ℕ) (cs : List ℕ) (n c room : ℕ) (end : List ℕ) → (n < length cs) × (c ≡ get_or cs n c)
    → fitting room (map f (drop n cs)) end ≡ cond (nat_lt room (length (f c))) dots (f c ++ fitting (room - length (f c)) (map f (drop (n + 1) cs)) end)
fitting_next f cs n c room end h =
    at_drop_more (λ xs. fitting room (map f xs) end) cs n c h.0
    ∙ ap (λ x. cond (nat_lt room (length (f x))) dots (f x ++ fitting (room - length (f x)) (map f (drop (n + 1) cs)) end)) (sym h.1)

pub fitting_lacks : (f : ℕ → List ℕ) (cs : List ℕ) (n c room : ℕ) (end : List ℕ) → (n < length cs) × (c ≡ get_or cs n c)
    → room < length (f c) → fitting room (map f (drop n cs)) end ≡ dots
fitting_lacks f cs n c room end h lacks =
    let t : nat_lt room (length (f c)) ≡ true = grind (arith, nat_tests) in
    fitting_next f cs n c room end h ∙ rw t refl

fitting_more : (f : ℕ → List ℕ) (cs : List ℕ) (n c room : ℕ) (end : List ℕ) → (n < length cs) × (c ≡ get_or cs n c)
    → length (f c) ≤ room → fitting room (map f (drop n cs)) end ≡ f c ++ fitting (room - length (f c)) (map f (drop (n + 1) cs)) end
fitting_more f cs n c room end h has =
    let t : nat_lt room (length (f c)) ≡ false = grind (arith, nat_tests) in
    fitting_next f cs n c room end h ∙ rw t refl

-- what was put, and what is to come, are the whole
pub fitting_step : (f : ℕ → List ℕ) (cs : List ℕ) (n c room : ℕ) (end : List ℕ) (next taken : ℕ) (out new whole : List ℕ)
    → (n < length cs) × (c ≡ get_or cs n c) → next ≡ n + 1 → taken ≡ length (f c) → taken ≤ room → new ≡ out ++ f c
    → out ++ fitting room (map f (drop n cs)) end ≡ whole → new ++ fitting (room - taken) (map f (drop next cs)) end ≡ whole
fitting_step f cs n c room end next taken out new whole h after len has put before =
    let l : length (f c) ≤ room = omega (arith, len, has) in
    rw (after, len, put, append_assoc out (f c) (fitting (room - length (f c)) (map f (drop (n + 1) cs)) end), ← fitting_more f cs n c room end h l) before

pub fitting_all : (f : ℕ → List ℕ) (cs : List ℕ) (n room : ℕ) (end : List ℕ) → length cs ≤ n → fitting room (map f (drop n cs)) end ≡ end
fitting_all f cs n room end all = at_drop_all (λ xs. fitting room (map f xs) end) cs n all

pub whole_len_boundary : (bs : List ℕ) (place : ℕ) → IsUtf8 bs → place ≤ length bs → is_inside bs place ≡ false → IsCharBoundary bs place
whole_len_boundary bs zero utf8 short outside = IsCharBoundary-start bs utf8
whole_len_boundary bs (suc place) utf8 short outside = (short, λ more high. grind (arith, nat_tests))

-- ---- where a front ends

pub near_stops : (tries place : ℕ) (bytes : List ℕ) (other : ℕ) → 0 < tries → goes_on (slice_index bytes place) ≡ false
    → begin_near tries place bytes other ≡ place
unfolding begin_near
near_stops zero place bytes other more stops = absurd (omega (arith, more))
near_stops (suc tries) place bytes other more stops = rw stops refl

pub near_down : (tries place : ℕ) (bytes : List ℕ) (other : ℕ) → 0 < tries → goes_on (slice_index bytes place) ≡ true
    → begin_near tries place bytes other ≡ begin_near (tries - 1) (place - 1) bytes other
unfolding begin_near
near_down zero place bytes other more on = absurd (omega (arith, more))
near_down (suc tries) place bytes other more on = let e : suc tries - 1 ≡ tries = omega arith in rw (on, e) refl

pub near_none : (tries place : ℕ) (bytes : List ℕ) (other : ℕ) → tries ≡ 0 → begin_near tries place bytes other ≡ other
unfolding begin_near
near_none zero place bytes other none = refl
near_none (suc tries) place bytes other none = absurd (omega (arith, none))

pub front_all : (most : ℕ) (bytes : List ℕ) → length bytes ≤ most → front most bytes ≡ bytes
unfolding front
front_all most bytes short = grind (arith, nat_tests)

pub front_cut : (most place : ℕ) (bytes : List ℕ) → most < length bytes → begin_near 4 most bytes most ≡ place → front most bytes ≡ take place bytes
unfolding front
front_cut most place bytes long at = grind (arith, nat_tests)
