-- The last line.
use Rattle.std.proofs.Common.{◌≡◌, ℕ, Bool, true, false, cond, ◌&&◌, List, [], ◌∷◌, Option, Result, Ok, Err, refl, sym, ap, ◌∙◌}
use Rattle.std.specs.Str.{bytes_eq}
use Rattle.std.specs.List.{onto_first}
use Rattle.base.specs.Ascii.{line_feed}
use Rattle.memchr.specs.Find.{is_byte}
use Rattle.values.specs.declared.types.AttributeType.{AttributeType}
use Rattle.schema.specs.declared.slots.Slot.{Slot}
use Rattle.index_text.specs.IndexTexts.{end_line}
use Rattle.stored_index.specs.Cuts.{parts}
use Rattle.stored_index.specs.Words.{is_empty}
use Rattle.stored_index.specs.SlotLines.{fault_at}
use Rattle.stored_index.specs.Reading.{is_nothing, end_of}
use Rattle.stored_index.specs.declared.fault.IndexFaultKind.{IndexFaultKind}
use Rattle.stored_index.proofs.CutLemmas.{split_cons, IsCons}

-- one part, and nothing in it
abbrev is_one_empty : List (List ℕ) → Bool
is_one_empty [] = false
is_one_empty (line ∷ more) = is_nothing line more

some_more : (line : List ℕ) (more : List (List ℕ)) → IsCons more → is_nothing line more ≡ false
some_more [] [] some = absurd cc
some_more [] (m ∷ more) some = refl
some_more (b ∷ bs) more some = refl

nothing_by : (b : Bool) (x : ℕ) (ps : List (List ℕ)) → IsCons ps → is_one_empty (cond b ([] ∷ ps) (onto_first x ps)) ≡ false
nothing_by b x [] some = let bad : [] ≡ some.0 ∷ some.1 = some.2 in absurd cc
nothing_by true x (y ∷ more) some = refl
nothing_by false x (y ∷ more) some = refl

nothing_is : (rest : List ℕ) → is_one_empty (parts line_feed rest) ≡ is_empty rest
nothing_is [] = refl
nothing_is (b ∷ bs) = nothing_by (is_byte line_feed b) b (parts line_feed bs) (split_cons (is_byte line_feed) bs)

abbrev ended : Result (Unit {0}) IndexFaultKind
ended = Ok tt

module _ (types : List AttributeType) (before : Option Slot) where
  pub end_opened : (line rest : List ℕ) → end_of types before (line ∷ parts line_feed rest) ≡ cond (bytes_eq line end_line && is_empty rest) ended (Err (fault_at types before line))
  end_opened line rest =
      let s = split_cons (is_byte line_feed) rest in
      ap (λ (ps : List (List ℕ)). end_of types before (line ∷ ps)) s.2
      ∙ ap (λ (b : Bool). cond (bytes_eq line end_line && b) ended (Err (fault_at types before line))) (sym (ap is_one_empty s.2) ∙ nothing_is rest)
