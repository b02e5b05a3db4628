-- One more line behind others: it is joined to the last one, or stands by itself.
use Rattle.std.proofs.Common.{◌≡◌, ℕ, ◌-◌, ◌<◌, true, List, [], ◌∷◌, length, get_or, slice_set, slice_get, Some, suc, ap, ◌∙◌, arith}
use Rattle.definitions.specs.declared.lines.Line.{Line}
use Rattle.definitions.specs.Lines.{goes_on_with, joined}
use Rattle.definitions.specs.inner.Lines.{last_goes_on, join_last}

longer : (x y : Line) (ys : List Line) → length (x ∷ y ∷ ys) - 1 ≡ suc (length (y ∷ ys) - 1)
longer x y ys = omega arith

pub of_last : (xs : List Line) (last : Line) (next : List ℕ) → Some last ≡ slice_get xs (length xs - 1) → goes_on_with last.text next ≡ last_goes_on xs next
of_last [] last next is = absurd cc
of_last (x ∷ []) last next is = (let same : last ≡ x = cc in ap (λ (l : Line). goes_on_with l.text next) same)
of_last (x ∷ y ∷ ys) last next is = of_last (y ∷ ys) last next (is ∙ ap (λ (n : ℕ). slice_get (x ∷ y ∷ ys) n) (longer x y ys))

pub some_line : (xs : List Line) (next : List ℕ) → last_goes_on xs next ≡ true → 0 < length xs
some_line [] next goes = absurd cc
some_line (x ∷ xs) next goes = omega arith

pub joined_last : (xs : List Line) (last v : Line) (next : List ℕ) → 0 < length xs → last ≡ get_or xs (length xs - 1) last → v ≡ joined last next → slice_set xs (length xs - 1) v ≡ join_last xs next
joined_last [] last v next some is same = absurd (omega arith)
joined_last (x ∷ []) last v next some is same = ap (λ (l : Line). l ∷ []) (same ∙ ap (λ (l : Line). joined l next) is)
joined_last (x ∷ y ∷ ys) last v next some is same =
    let e = longer x y ys in
    ap (λ (n : ℕ). slice_set (x ∷ y ∷ ys) n v) e
    ∙ ap (λ (ls : List Line). x ∷ ls) (joined_last (y ∷ ys) last v next (omega arith) (is ∙ ap (λ (n : ℕ). get_or (x ∷ y ∷ ys) n last) e) same)

some_text : (text next : List ℕ) → goes_on_with text next ≡ true → 0 < length next
some_text [] next goes = absurd cc
some_text (a ∷ cs) [] goes = absurd cc
some_text (a ∷ cs) (b ∷ bs) goes = omega arith

pub begun : (xs : List Line) (next : List ℕ) → last_goes_on xs next ≡ true → 0 < length next
begun [] next goes = absurd cc
begun (x ∷ []) next goes = some_text x.text next goes
begun (x ∷ y ∷ ys) next goes = begun (y ∷ ys) next goes
