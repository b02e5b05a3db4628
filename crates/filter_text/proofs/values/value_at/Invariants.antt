use Rattle.std.proofs.Common.{◌≡◌, ◌≤◌, ◌++◌, List, ℕ, length}
use Rattle.filter_text.specs.Runs.{Stops}
use Rattle.filter_text.specs.Values.{is_value_byte, IsValue}
use Rattle.filter_text.proofs.values.value_at.Given as goal

abbrev pub invariant-bytes : goal.invariant-bytes
invariant-bytes l =
    record {
      no_longer : length l.rest ≤ length l.fn.bytes;
      found : (text : List ℕ) × (l.fn.bytes ≡ text ++ l.rest) × ((w t : List ℕ) → IsValue w t → IsValue (l.value.items ++ w) (text ++ t));
      none : (v text more : List ℕ) → IsValue v text → Stops is_value_byte more → l.fn.bytes ≡ text ++ more → (w : List ℕ) × (t : List ℕ) × IsValue w t × (l.rest ≡ t ++ more);
    }

abbrev pub decreases-bytes : goal.decreases-bytes
decreases-bytes l = length l.rest
