-- A line of a key, word by word.
use Rattle.std.proofs.Common.{◌≡◌, ℕ, List, ◌∷◌, Option, Result, Ok, Err, sym, ap, ◌∙◌}
use Rattle.base.specs.Ascii.{space}
use Rattle.base.specs.Answers.{◌>>=◌}
use Rattle.memchr.specs.Find.{is_byte}
use Rattle.index_text.specs.IndexTexts.{Row}
use Rattle.stored_index.specs.Cuts.{parts}
use Rattle.stored_index.specs.Words.{key_in}
use Rattle.stored_index.specs.KeyLines.{is_above, ranks_in, row_of, row_in}
use Rattle.stored_index.specs.declared.fault.IndexFaultKind.{IndexFaultKind}
use Rattle.stored_index.proofs.CutLemmas.{split_cons}

module _ (before : Option (List ℕ)) (entries : ℕ) (line : List ℕ) where
  pub row_is : (words : List (List ℕ)) → parts space line ≡ words → row_in before entries line ≡ row_of before entries words
  unfolding row_in
  row_is words cut = ap (row_of before entries) cut

module _ (before : Option (List ℕ)) (entries : ℕ) (word : List ℕ) where
  abbrev with_ranks : List (List ℕ) → List ℕ → Result Row IndexFaultKind
  with_ranks ranks key = ranks_in (is_above before key) entries ranks >>= λ rs. Ok (key, rs)

  module _ (text : List ℕ) where
    opened : row_of before entries (word ∷ parts space text) ≡ (key_in word >>= with_ranks (parts space text))
    opened =
        let s = split_cons (is_byte space) text in
        ap (λ (ps : List (List ℕ)). row_of before entries (word ∷ ps)) s.2
        ∙ sym (ap (λ (ps : List (List ℕ)). key_in word >>= with_ranks ps) s.2)

    pub key_fails : (fault : IndexFaultKind) → key_in word ≡ Err fault → row_of before entries (word ∷ parts space text) ≡ Err fault
    key_fails fault e = opened ∙ ap (λ (r : Result (List ℕ) IndexFaultKind). r >>= with_ranks (parts space text)) e

    at_ranks : (key : List ℕ) → key_in word ≡ Ok key → row_of before entries (word ∷ parts space text) ≡ with_ranks (parts space text) key
    at_ranks key e = opened ∙ ap (λ (r : Result (List ℕ) IndexFaultKind). r >>= with_ranks (parts space text)) e

    pub ranks_fail : (key : List ℕ) (fault : IndexFaultKind) → key_in word ≡ Ok key → ranks_in (is_above before key) entries (parts space text) ≡ Err fault
        → row_of before entries (word ∷ parts space text) ≡ Err fault
    ranks_fail key fault e f = at_ranks key e ∙ ap (λ (r : Result (List ℕ) IndexFaultKind). r >>= λ rs. Ok (key, rs)) f

    pub row_read : (key ranks : List ℕ) → key_in word ≡ Ok key → ranks_in (is_above before key) entries (parts space text) ≡ Ok ranks
        → row_of before entries (word ∷ parts space text) ≡ Ok (key, ranks)
    row_read key ranks e f = at_ranks key e ∙ ap (λ (r : Result (List ℕ) IndexFaultKind). r >>= λ rs. Ok (key, rs)) f
