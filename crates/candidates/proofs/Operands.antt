-- One side of a filter, operand by operand.
use Rattle.std.proofs.Common.{◌≡◌, ℕ, suc, ◌+◌, ◌<◌, Bool, true, false, not, List, ◌∷◌, drop, length, get_or, refl, sym, ap, ◌∙◌, add-one, drop-cons}
use Rattle.filter.specs.declared.prepared_filter.PreparedFilter.{PreparedFilter}
use Rattle.filter.specs.Prepared.{PreparedContent, All_of, Any_of, prepared_view, prepared_views}
use Rattle.index_text.specs.Postings.{Shown}
use Rattle.candidates.specs.declared.side.Side.{Side}
use Rattle.candidates.specs.declared.side.Side.TheVariants.{MayBeTrue, MayBeFalse}
use Rattle.candidates.specs.Sides.{Sides, sides, sides_each, all_sides, any_sides}
use Rattle.candidates.specs.inner.OneSide.{on, is_may_be_true, both_or_either, all_or_one}

on-all_sides : (side : Side) (each : List Sides) → on side (all_sides each) ≡ all_or_one (is_may_be_true side) side each
on-all_sides MayBeTrue each = refl
on-all_sides MayBeFalse each = refl

on-any_sides : (side : Side) (each : List Sides) → on side (any_sides each) ≡ all_or_one (not (is_may_be_true side)) side each
on-any_sides MayBeTrue each = refl
on-any_sides MayBeFalse each = refl

-- none so far
from_start : (all b : Bool) → b ≡ both_or_either all all b
from_start true b = refl
from_start false b = refl

one_more : (all a : Bool) (side : Side) (s : Sides) (rest : List Sides) → both_or_either all a (all_or_one all side (s ∷ rest)) ≡ both_or_either all (both_or_either all a (on side s)) (all_or_one all side rest)
one_more true true side s rest = refl
one_more true false side s rest = refl
one_more false true side s rest = refl
one_more false false side s rest = refl

module _ (shown : Shown) (n : ℕ) (all : Bool) (side : Side) (fs : List PreparedFilter) where
  -- with the sides of the operands from one on
  abbrev pub with_operands : Bool → ℕ → Bool
  with_operands a i = both_or_either all a (all_or_one all side (sides_each shown n (prepared_views (drop i fs))))

  pub operand_next : (a b : Bool) (i : ℕ) (d : PreparedFilter) → i < length fs → on side (sides shown n (prepared_view (get_or fs i d))) ≡ b → with_operands a i ≡ with_operands (both_or_either all a b) (i + 1)
  operand_next a b i d lt is =
      rw (add-one, drop-cons fs i d lt) (one_more all a side (sides shown n (prepared_view (get_or fs i d))) (sides_each shown n (prepared_views (drop (suc i) fs))))
      ∙ ap (λ x. both_or_either all (both_or_either all a x) (all_or_one all side (sides_each shown n (prepared_views (drop (i + 1) fs))))) is

  -- before the first operand: all numbers, or none
  pub starts : (a : Bool) → a ≡ all → with_operands a 0 ≡ all_or_one all side (sides_each shown n (prepared_views fs))
  starts a is_a = let each = sides_each shown n (prepared_views fs) in ap (λ b. both_or_either all b (all_or_one all side each)) is_a ∙ sym (from_start all (all_or_one all side each))

-- what an And and an Or ask of their operands
module _ (shown : Shown) (n : ℕ) (all : Bool) (side : Side) (fs operands : List PreparedFilter) (is : fs ≡ operands) (content : PreparedContent) where
  pub in_all : all ≡ is_may_be_true side → content ≡ All_of (prepared_views operands) → all_or_one all side (sides_each shown n (prepared_views fs)) ≡ on side (sides shown n content)
  in_all is_all is_content =
      let each = sides_each shown n (prepared_views fs) in
      ap (λ b. all_or_one b side each) is_all
      ∙ sym (on-all_sides side each)
      ∙ ap (λ (xs : List PreparedFilter). on side (all_sides (sides_each shown n (prepared_views xs)))) is
      ∙ ap (λ (t : PreparedContent). on side (sides shown n t)) (sym is_content)

  pub in_any : all ≡ not (is_may_be_true side) → content ≡ Any_of (prepared_views operands) → all_or_one all side (sides_each shown n (prepared_views fs)) ≡ on side (sides shown n content)
  in_any is_all is_content =
      let each = sides_each shown n (prepared_views fs) in
      ap (λ b. all_or_one b side each) is_all
      ∙ sym (on-any_sides side each)
      ∙ ap (λ (xs : List PreparedFilter). on side (any_sides (sides_each shown n (prepared_views xs)))) is
      ∙ ap (λ (t : PreparedContent). on side (sides shown n t)) (sym is_content)
