-- A text in which no space is to go.
use Rattle.std.proofs.Common.{◌≡◌, ℕ, Bool, true, false, not, ◌&&◌, ◌||◌, cond, suc, ◌-◌, ◌≢◌, get_or, List, [], ◌∷◌, length, ◌==◌, refl, sym, ap, ◌∙◌, arith}
use Rattle.base.specs.Ends.{is_space, without_front, without_end, onto_text}
use Rattle.matching.specs.Forms.{begins_with_space, one_spaces, tidy, lower}
use Rattle.std.specs.List.{list_any}
use Rattle.std.specs.Char.{is_ascii_uppercase, to_ascii_lowercase}
use Rattle.std.proofs.lemmas.Bool.{or_parts, ne_eqb, true≢false}
use Rattle.std.proofs.lemmas.Bool.Decides.{nat_tests}
use Rattle.matching.specs.inner.Gaps.{is_tidy_after, has_wide_gap_after}

second : (a b : Bool) → a && b ≡ true → b ≡ true
second true b h = h
second false b h = absurd cc

-- no space follows a space
not_begun : (bs : List ℕ) → is_tidy_after true bs ≡ true → begins_with_space bs ≡ false
not_begun [] h = refl
not_begun (b ∷ bs) h =
    elim (is_space b) as (λ x. cond x (not true && is_tidy_after true bs) (is_tidy_after false bs) ≡ true → x ≡ false) [
      | true ↦ λ t. sym t
      | false ↦ λ t. refl
    ] h

front : (bs : List ℕ) → is_tidy_after true bs ≡ true → without_front bs ≡ bs
front [] h = refl
front (b ∷ bs) h = rw (not_begun (b ∷ bs) h) refl

gaps : (space : Bool) (bs : List ℕ) → is_tidy_after space bs ≡ true → one_spaces bs ≡ bs
gaps space [] h = refl
gaps space (b ∷ bs) h =
    elim (is_space b) as (λ x. cond x (not space && is_tidy_after true bs) (is_tidy_after false bs) ≡ true → cond (x && begins_with_space bs) (one_spaces bs) (b ∷ one_spaces bs) ≡ b ∷ bs) [
      | true ↦ λ t. let on = second (not space) (is_tidy_after true bs) t in rw (not_begun bs on) (ap (λ (r : List ℕ). b ∷ r) (gaps true bs on))
      | false ↦ λ t. ap (λ (r : List ℕ). b ∷ r) (gaps false bs t)
    ] h

ends : (space : Bool) (bs : List ℕ) → is_tidy_after space bs ≡ true → without_end bs ≡ bs
ends space [] h = refl
ends space (b ∷ []) h =
    elim (is_space b) as (λ x. cond x (not space && false) true ≡ true → cond x [] (b ∷ []) ≡ b ∷ []) [
      | true ↦ λ t. absurd (let no = second (not space) false t in cc)
      | false ↦ λ t. refl
    ] h
ends space (b ∷ c ∷ cs) h =
    ap (onto_text b) (elim (is_space b) as (λ x. cond x (not space && is_tidy_after true (c ∷ cs)) (is_tidy_after false (c ∷ cs)) ≡ true → without_end (c ∷ cs) ≡ c ∷ cs) [
      | true ↦ λ t. ends true (c ∷ cs) (second (not space) (is_tidy_after true (c ∷ cs)) t)
      | false ↦ λ t. ends false (c ∷ cs) t
    ] h)

is_tidy : (bs : List ℕ) → is_tidy_after true bs ≡ true → tidy bs ≡ bs
is_tidy bs h = ap (λ (t : List ℕ). without_end (one_spaces t)) (front bs h) ∙ ap without_end (gaps true bs h) ∙ ends true bs h

abbrev ends_spaced : Bool → List ℕ → Bool
ends_spaced spaced [] = spaced
ends_spaced spaced (b ∷ bs) = ends_spaced (is_space b) bs

last_byte : (b : ℕ) (bs : List ℕ) (spaced : Bool) → ends_spaced spaced (b ∷ bs) ≡ is_space (get_or (b ∷ bs) (length (b ∷ bs) - 1) 0)
last_byte b [] spaced = refl
last_byte b (c ∷ cs) spaced =
    let at : length (b ∷ c ∷ cs) - 1 ≡ suc (length (c ∷ cs) - 1) = omega arith in
    rw at (last_byte c cs (is_space b))

single_spaces : (spaced : Bool) (bs : List ℕ) → has_wide_gap_after spaced bs ≡ false → ends_spaced spaced bs ≡ false → is_tidy_after spaced bs ≡ true
single_spaces spaced [] g e = ap not e
single_spaces false (b ∷ bs) g e =
    elim (is_space b) as (λ x. has_wide_gap_after x bs ≡ false → ends_spaced x bs ≡ false → cond x (is_tidy_after true bs) (is_tidy_after false bs) ≡ true) [
      | true ↦ λ g e. single_spaces true bs g e
      | false ↦ λ g e. single_spaces false bs g e
    ] g e
single_spaces true (b ∷ bs) g e =
    elim (is_space b) as (λ x. (x || has_wide_gap_after x bs) ≡ false → ends_spaced x bs ≡ false → cond x false (is_tidy_after false bs) ≡ true) [
      | true ↦ λ g e. absurd (true≢false g)
      | false ↦ λ g e. single_spaces false bs g e
    ] g e

begun : (bs : List ℕ) → bs ≢ [] → get_or bs 0 0 ≢ 32 → get_or bs (length bs - 1) 0 ≢ 32 → has_wide_gap_after false bs ≡ false → is_tidy_after true bs ≡ true
begun [] some first last g = absurd (some refl)
begun (b ∷ bs) some first last g =
    let off : is_space b ≡ false = ne_eqb b 32 first in
    let end : ends_spaced false (b ∷ bs) ≡ false = last_byte b bs false ∙ ne_eqb (get_or (b ∷ bs) (length (b ∷ bs) - 1) 0) 32 last in
    elim (is_space b) as (λ x. x ≡ false → has_wide_gap_after x bs ≡ false → ends_spaced x bs ≡ false → cond x false (is_tidy_after false bs) ≡ true) [
      | true ↦ λ f g e. absurd (true≢false f)
      | false ↦ λ f g e. single_spaces false bs g e
    ] off g end

-- without spaces at the ends, and without wide gaps
pub single_within : (bs : List ℕ) (empty gap : Bool) → empty ≡ (length bs == 0) → empty ≡ false → get_or bs 0 0 ≢ 32 → get_or bs (length bs - 1) 0 ≢ 32 → gap ≡ has_wide_gap_after false bs → not gap ≡ true → tidy bs ≡ bs
single_within bs empty true is some first last g none = absurd (true≢false (sym none))
single_within bs empty false is some first last g none =
    is_tidy bs (begun bs (λ e. true≢false (sym (ap (λ (xs : List ℕ). length xs == 0) e) ∙ sym is ∙ some)) first last (sym g))

no_spaces : (bs : List ℕ) → list_any is_space bs ≡ false → is_tidy_after false bs ≡ true
no_spaces [] h = refl
no_spaces (b ∷ bs) h =
    let o = or_parts (is_space b) (list_any is_space bs) h in
    rw o.0 (no_spaces bs o.1)

-- without spaces
pub one_word : (bs : List ℕ) → list_any is_space bs ≡ false → tidy bs ≡ bs
one_word [] h = refl
one_word (b ∷ bs) h =
    let o = or_parts (is_space b) (list_any is_space bs) h in
    is_tidy (b ∷ bs) (rw o.0 (no_spaces bs o.1))

small : (b : ℕ) → is_ascii_uppercase b ≡ false → to_ascii_lowercase b ≡ b
small b h = grind (arith, nat_tests)

-- without capitals a text is in lower case
pub no_capital : (bs : List ℕ) → list_any is_ascii_uppercase bs ≡ false → lower bs ≡ bs
no_capital [] h = refl
no_capital (b ∷ bs) h =
    let o = or_parts (is_ascii_uppercase b) (list_any is_ascii_uppercase bs) h in
    λ j. small b o.0 j ∷ no_capital bs o.1 j
