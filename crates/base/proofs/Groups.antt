-- Groups of digits, one byte at a time.
use Rattle.std.proofs.Common.{◌≡◌, ℕ, ◌+◌, ◌<◌, ◌≤◌, Bool, true, false, cond, not, ◌&&◌, List, ◌∷◌, length, get_or, drop, Option, Some, None, refl, sym, ap, ◌∙◌}
use Rattle.std.specs.Prelude.{◌==◌}
use Rattle.std.specs.Char.{is_ascii_digit}
use Rattle.std.proofs.lemmas.List.{drop_more, drop_all}
use Rattle.base.specs.Naming.{due_after, are_groups}

by_some : (d e due next rest_false rest_true : Bool) → cond d (Some false) (cond (e && not due) (Some true) None) ≡ Some next
    → cond d rest_false (e && not due && rest_true) ≡ cond next rest_true rest_false
by_some true e due true f t is = absurd cc
by_some true e due false f t is = refl
by_some false true true next f t is = absurd cc
by_some false true false true f t is = refl
by_some false true false false f t is = absurd cc
by_some false false due next f t is = absurd cc

by_none : (d e due f t : Bool) → ◌≡◌ {A = Option Bool} (cond d (Some false) (cond (e && not due) (Some true) None)) None → cond d f (e && not due && t) ≡ false
by_none true e due f t is = absurd cc
by_none false true true f t is = refl
by_none false true false f t is = absurd cc
by_none false false due f t is = refl

chosen : (next : Bool) (bs : List ℕ) → cond next (are_groups true bs) (are_groups false bs) ≡ are_groups next bs
chosen true bs = refl
chosen false bs = refl

step : (due next : Bool) (b : ℕ) (bs : List ℕ) → due_after due b ≡ Some next → are_groups due (b ∷ bs) ≡ are_groups next bs
unfolding are_groups
step due next b bs is = by_some (is_ascii_digit b) (b == 46) due next (are_groups false bs) (are_groups true bs) is ∙ chosen next bs

pub goes_on : (text : List ℕ) (i : ℕ) (due next total : Bool) → i < length text → due_after due (get_or text i 0) ≡ Some next → are_groups due (drop i text) ≡ total → are_groups next (drop (i + 1) text) ≡ total
goes_on text i due next total lt is so_far =
    sym (step due next (get_or text i 0) (drop (i + 1) text) is) ∙ ap (are_groups due) (sym (drop_more text i 0 lt)) ∙ so_far

pub stops : (text : List ℕ) (i : ℕ) (due total : Bool) → i < length text → due_after due (get_or text i 0) ≡ None → are_groups due (drop i text) ≡ total → false ≡ total
unfolding are_groups
stops text i due total lt is so_far =
    sym (by_none (is_ascii_digit (get_or text i 0)) (get_or text i 0 == 46) due (are_groups false (drop (i + 1) text)) (are_groups true (drop (i + 1) text)) is)
    ∙ ap (are_groups due) (sym (drop_more text i 0 lt)) ∙ so_far

pub is_over : (text : List ℕ) (i : ℕ) (due total : Bool) → length text ≤ i → are_groups due (drop i text) ≡ total → not due ≡ total
unfolding are_groups
is_over text i due total le so_far = sym (ap (are_groups due) (drop_all i text le)) ∙ so_far
