use Rattle.std.proofs.Common.{◌≡◌, ◌≤◌, ◌++◌, List, ℕ, length}
use Rattle.filter_text.specs.Items.{IsWords}
use Rattle.filter_text.proofs.words.words_of.Given as goal

abbrev pub invariant-words : goal.invariant-words
invariant-words l =
    record {
      few : length (l.words) ≤ 2;
      found : (text : List ℕ) × (l.fn.text ≡ text ++ l.rest)
          × ((vs : List (List ℕ)) (v t : List ℕ) → IsWords vs v t → IsWords (l.words ++ vs) v (text ++ t));
      only : (ws : List (List ℕ)) (v : List ℕ) → IsWords ws v l.fn.text → (vs : List (List ℕ)) × IsWords vs v l.rest × (ws ≡ l.words ++ vs);
    }

abbrev pub decreases-words : goal.decreases-words
decreases-words l = length l.rest
