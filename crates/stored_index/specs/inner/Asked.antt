-- The keys that are kept, by their texts.
use Rattle.std.specs.Prelude.{◌≡◌, ℕ, Bool, true, List}
use Rattle.std.specs.BTreeSet.{BTreeSet, contains_by}
use Rattle.std.specs.Cmp.Lexicographic.{slice_cmp}
use Rattle.std.specs.Ordering.{nat_cmp}
use Rattle.std.specs.declared.vec.Vec.{Vec}
use Rattle.index_text.specs.declared.slot_key.SlotKey.{SlotKey}
use Rattle.stored_index.specs.Stored.{is_written_as}
use Rattle.stored_index.specs.declared.asked.AskedTexts.{AskedTexts}
use Rattle.stored_index.specs.declared.asked.AskedTexts.TheVariants.{Every, These}

-- whether a text is among these
abbrev pub are_written : {A : Type 0} → BTreeSet (Vec ℕ A) → List ℕ → Bool
are_written texts word = contains_by (λ text. slice_cmp nat_cmp word text.items) texts

-- whether a text is that of a key that is kept
abbrev pub has_text : AskedTexts → List ℕ → Bool
has_text Every word = true
has_text (These texts) word = are_written texts word

-- the texts of these keys are asked for, and no other
abbrev pub HasExactly : AskedTexts → List SlotKey → Type 0
HasExactly asked keys = (word : List ℕ) → has_text asked word ≡ is_written_as keys word
