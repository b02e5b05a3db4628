-- How far the front of a text is, line by line.
use Rattle.std.proofs.Common.{◌≡◌, ℕ, ◌-◌, Bool, true, List, [], ◌∷◌, ◌++◌, length, length-append, take, Option, Some, None, refl, sym, ap, ◌∙◌, append_assoc, append-nil, arith}
use Rattle.std.proofs.lemmas.List.{take_all}
use Rattle.std.proofs.Math.Seq.{take-append_seam}
use Rattle.sorting.specs.Stanzas.{ended_lines, is_empty}
use Rattle.sorting.specs.Heads.{stage_behind, with_line, front_of, front}
use Rattle.sorting.specs.declared.heads.Stage.{Stage}
use Rattle.sorting.specs.declared.heads.Stage.TheVariants.{Before}
use Rattle.sorting.specs.inner.Heads.{IsSoFar}

pub begins : (text : List ℕ) → IsSoFar text Before true text
begins text = record { taken = []; parts = refl; front = refl }

module _ (text : List ℕ) (stage : Stage) (first : Bool) (rest line others : List ℕ) (h : IsSoFar text stage first rest) (cut : ended_lines rest ≡ line ∷ ended_lines others) where
  at_line : front text ≡ h.taken ++ with_line line (stage_behind stage first line) (λ next_stage. front_of next_stage (is_empty line) (ended_lines others))
  unfolding front_of
  at_line = h.front ∙ ap (λ (ls : List (List ℕ)). h.taken ++ front_of stage first ls) cut

  pub one_more : (later : Stage) → stage_behind stage first line ≡ Some later → rest ≡ line ++ others → IsSoFar text later (is_empty line) others
  one_more later is parts = record {
    taken = h.taken ++ line;
    parts = h.parts ∙ ap (λ (l : List ℕ). h.taken ++ l) parts ∙ sym (append_assoc h.taken line others);
    front = at_line ∙ ap (λ (o : Option Stage). h.taken ++ with_line line o (λ next_stage. front_of next_stage (is_empty line) (ended_lines others))) is
        ∙ sym (append_assoc h.taken line (front_of later (is_empty line) (ended_lines others)));
  }

  pub ends : stage_behind stage first line ≡ None → take (length text - length rest) text ≡ front text
  ends is =
      ap (λ (m : ℕ). take m text) long ∙ ap (take (length h.taken)) h.parts ∙ take-append_seam h.taken rest
      ∙ sym (at_line ∙ ap (λ (o : Option Stage). h.taken ++ with_line line o (λ next_stage. front_of next_stage (is_empty line) (ended_lines others))) is ∙ append-nil h.taken)
    where
      long : length text - length rest ≡ length h.taken
      long = let e = ap (λ (l : List ℕ). length l) h.parts ∙ length-append h.taken rest in omega (arith, e)

pub all_front : (text : List ℕ) (stage : Stage) (first : Bool) (rest : List ℕ) → IsSoFar text stage first rest → rest ≡ [] → take (length text) text ≡ front text
unfolding front_of ended_lines
all_front text stage first rest h none =
    take_all (length text) text (omega arith)
    ∙ h.parts ∙ ap (λ (r : List ℕ). h.taken ++ r) none
    ∙ sym (h.front ∙ ap (λ (r : List ℕ). h.taken ++ front_of stage first (ended_lines r)) none)
