-- The records that a text closes, and what comes behind it.
use Rattle.std.proofs.Common.{◌≡◌, ℕ, ◌+◌, Bool, true, false, cond, List, [], ◌∷◌, ◌++◌, map, refl, ap, ◌∙◌}
use Rattle.std.specs.List.{slice_split, onto_first, enumerate_from, filter_map}
use Rattle.std.specs.Str.Lines.{lines, lines_of_parts, strip_carriage_return}
use Rattle.std.proofs.lemmas.List.Elements.{filter_map-append}
use Rattle.ldif_lines.specs.Records.{RawRecord, Body, is_blank, body_of_block, but_last, whole_lines, with_first, records, records_from, closed_records, closed_from}
use Rattle.ldif_lines.proofs.PartLemmas.{IsCons, split_cons, is_feed}

-- ---- a longer list has all parts but the last of a shorter one

-- a list that begins with another, and goes on
abbrev GoesOn : {X : Type 0} → List X → List X → Type 0
GoesOn {X} xs ys = (y : X) × (more : List X) × (ys ≡ xs ++ y ∷ more)

split_more-cond : {X : Type 0} (b : Bool) (x : X) (parts longer : List (List X)) → IsCons parts → GoesOn (but_last parts) longer
    → GoesOn (but_last (cond b ([] ∷ parts) (onto_first x parts))) (cond b ([] ∷ longer) (onto_first x longer))
unfolding but_last
split_more-cond true x [] longer h g = absurd (let e = h.2 in cc)
split_more-cond true x (p ∷ ps) longer h g = (g.0, g.1, ap (λ (l : List (List _)). [] ∷ l) g.2)
split_more-cond false x [] longer h g = absurd (let e = h.2 in cc)
split_more-cond false x (p ∷ []) longer h g = (x ∷ g.0, g.1, ap (onto_first x) g.2)
split_more-cond false x (p ∷ q ∷ ps) longer h g = (g.0, g.1, ap (onto_first x) g.2)

split_more : {X : Type 0} (p : X → Bool) (xs ys : List X) → GoesOn (but_last (slice_split p xs)) (slice_split p (xs ++ ys))
unfolding but_last
split_more p [] ys = split_cons p ys
split_more p (x ∷ xs) ys = split_more-cond (p x) x (slice_split p xs) (slice_split p (xs ++ ys)) (split_cons p xs) (split_more p xs ys)

-- ---- lines

lines-front : (ps : List (List ℕ)) (q : List ℕ) (qs : List (List ℕ)) → lines_of_parts (ps ++ q ∷ qs) ≡ map strip_carriage_return ps ++ lines_of_parts (q ∷ qs)
lines-front [] q qs = refl
lines-front (p ∷ []) q qs = refl
lines-front (p ∷ r ∷ ps) q qs = ap (λ (ls : List (List ℕ)). strip_carriage_return p ∷ ls) (lines-front (r ∷ ps) q qs)

lines-more : (text more : List ℕ) → (rest : List (List ℕ)) × (lines (text ++ more) ≡ whole_lines text ++ rest)
unfolding whole_lines
lines-more text more =
    let g = split_more is_feed text more in
    (lines_of_parts (g.0 ∷ g.1), ap lines_of_parts g.2 ∙ lines-front (but_last (slice_split is_feed text)) g.0 g.1)

-- ---- blocks and records

enumerate-append : {X : Type 0} (n : ℕ) (xs ys : List X) → (m : ℕ) × (enumerate_from n (xs ++ ys) ≡ enumerate_from n xs ++ enumerate_from m ys)
enumerate-append n [] ys = (n, refl)
enumerate-append {X} n (x ∷ xs) ys = let r = enumerate-append (n + 1) xs ys in (r.0, ap (λ (l : List (ℕ × X)). (n, x) ∷ l) r.1)

with_first-append : (first : Bool) (cs bs : List Body) → (rest : List RawRecord) × (with_first first (cs ++ bs) ≡ with_first first cs ++ rest)
unfolding with_first
with_first-append first [] bs = (with_first first bs, refl)
with_first-append first (a ∷ cs) bs =
    let r = with_first-append false cs bs in
    (r.0, ap (λ (l : List RawRecord). record { line = a.line; first = first; lines = a.lines; numbers = a.numbers } ∷ l) r.1)

-- the records that a text closes are the first ones of each text that goes on from it
pub closed_first : (text more : List ℕ) → (rest : List RawRecord) × (records (text ++ more) ≡ closed_records text ++ rest)
unfolding records_from closed_from
closed_first text more =
    let l = lines-more text more in
    let e = enumerate-append 1 (whole_lines text) l.0 in
    let s = split_more is_blank (enumerate_from 1 (whole_lines text)) (enumerate_from e.0 l.0) in
    let closed = but_last (slice_split is_blank (enumerate_from 1 (whole_lines text))) in
    let w = with_first-append true (filter_map body_of_block closed) (filter_map body_of_block (s.0 ∷ s.1)) in (
      w.0,
      ap (λ (ls : List (List ℕ)). with_first true (filter_map body_of_block (slice_split is_blank (enumerate_from 1 ls)))) l.1
          ∙ ap (λ (ls : List (ℕ × List ℕ)). with_first true (filter_map body_of_block (slice_split is_blank ls))) e.1
          ∙ ap (λ (bs : List (List (ℕ × List ℕ))). with_first true (filter_map body_of_block bs)) s.2
          ∙ ap (with_first true) (filter_map-append body_of_block closed (s.0 ∷ s.1))
          ∙ w.1,
    )
