-- What is put behind words.
use Rattle.std.specs.Prelude.{◌≡◌, ℕ, ◌++◌, List}
use Rattle.std.specs.String.{string_bytes}
use Rattle.sentences.specs.declared.lines.ShownText.{ShownText}

-- a text was put behind words
abbrev pub IsPut : ShownText → ShownText → List ℕ → Type 0
IsPut old new text = string_bytes new.text ≡ string_bytes old.text ++ text

-- a text of which this holds was put behind words
abbrev pub Puts : ShownText → ShownText → (List ℕ → Type 0) → Type 0
Puts old new P = (text : List ℕ) × P text × (string_bytes new.text ≡ string_bytes old.text ++ text)
