-- A `%` of a text that isn't that of its first `%s`, by the first `%` of the text.
use Rattle.std.proofs.Common.{◌≡◌, ◌<◌, ◌+◌, ◌-◌, ◌==◌, ◌⊎◌, ◌∙◌, ℕ, List, Bool, true, false, inl, inr, arith, length, refl, sym, subst, ap, ◌↔◌, IsTrue}
use Rattle.std.specs.List.{position_or_len, after_first, list_any, slice_index}
use Rattle.std.proofs.lemmas.Bool.{cases_order, eq-eqb, eqb-true, eqb-false, both_ways, false≢true}
use Rattle.std.proofs.lemmas.Grind.{common_steps, get_or_default_zero}
use Rattle.std.proofs.lemmas.List.Folds.{Any-from_list_any, list_any_at}
use Rattle.std.proofs.lemmas.List.Sums.{fails_before_first, passes_at_first}
use Rattle.clap.specs.Words.{Text}
use Rattle.command_line.specs.Requests.{IsFaultyPattern, IsMark}

-- the place of the first `%`, or the length
abbrev first_of : Text → ℕ
first_of text = position_or_len (λ byte. byte == 37) text

-- what stands behind it
abbrev behind : Text → List ℕ
behind text = after_first (λ byte. byte == 37) text

within : (text : Text) (place : ℕ) → slice_index text place ≡ 37 → place < length text
within text place is = grind (arith, common_steps)

none_before : (text : Text) (place : ℕ) → place < first_of text → ¬ (slice_index text place ≡ 37)
none_before text place before is = eqb-false _ _ (fails_before_first (λ byte. byte == 37) text place 0 before) is

is_there : (text : Text) → first_of text < length text → slice_index text (first_of text) ≡ 37
is_there text inside = eqb-true _ _ (passes_at_first (λ byte. byte == 37) text 0 inside)

read_behind : (text : Text) (place : ℕ) → slice_index (behind text) place ≡ slice_index text (first_of text + 1 + place)
read_behind text place = grind (arith, common_steps)

-- without a `%` no pattern is faulty
pub no_percent : (text : Text) → first_of text ≡ length text → ¬ (IsFaultyPattern text)
no_percent text past (place, is, other) = none_before text place (subst (λ n. place < n) (sym past) (within text place is)) is

module _ (text : Text) (inside : first_of text < length text) (letter : slice_index (behind text) 0 ≡ 115) where
  mark : IsMark text (first_of text)
  mark = (is_there text inside, grind (arith, read_behind text 0, letter))

  -- another `%` behind the first `%s` is faulty
  pub another : list_any (λ byte. byte == 37) (behind text) ≡ true → IsFaultyPattern text
  another more =
      let (k, byte, within, at, is) = Any-from_list_any (λ byte. byte == 37) (behind text) more in (
        first_of text + 1 + k,
        sym (read_behind text k) ∙ sym (get_or_default_zero (behind text) k byte within) ∙ at ∙ eqb-true byte 37 is,
        λ first. first.1 (first_of text) (omega arith) mark,
      )

  -- without one, the pattern isn't faulty
  pub alone : list_any (λ byte. byte == 37) (behind text) ≡ false → ¬ (IsFaultyPattern text)
  alone none (place, is, other) = go (cases_order place (first_of text))
    where
      go : (place ≡ first_of text) ⊎ ((place < first_of text) ⊎ (first_of text < place)) → ⊥
      go (inl e) = other (subst (IsMark text) (sym e) mark, λ earlier lt m. none_before text earlier (subst (λ n. earlier < n) e lt) m.0)
      go (inr (inl lt)) = none_before text place lt is
      go (inr (inr gt)) =
          let k = place - (first_of text + 1) in
          let there = read_behind text k ∙ ap (slice_index text) (omega (arith, gt)) ∙ is in
          both_ways _ none (list_any_at (λ byte. byte == 37) (behind text) k 0 (within (behind text) k there) (eq-eqb _ 37 there))

  -- so the pattern is faulty where another one stands there
  pub decided : (answer : Bool) → list_any (λ byte. byte == 37) (behind text) ≡ answer → IsTrue answer ↔ IsFaultyPattern text
  decided true more = (λ yes. another more, λ faulty. refl)
  decided false none = (λ yes. absurd (false≢true yes), λ faulty. absurd (alone none faulty))
