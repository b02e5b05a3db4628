-- A text cut into lines and stanzas.
use Rattle.std.proofs.Common.{◌≡◌, ℕ, suc, ◌+◌, ◌-◌, ◌<◌, ◌≤◌, Bool, true, false, cond, List, [], ◌∷◌, ◌++◌, length, length-append, get_or, take, drop, Some, None, All, refl, sym, ap, ◌∙◌, append_assoc, append-nil, arith}
use Rattle.std.specs.Prelude.{◌==◌}
use Rattle.std.specs.List.{onto_first}
use Rattle.std.proofs.lemmas.List.{take-append-drop, drop_more, get_or-take, get_or_default, length-take, take_all, drop_all, take_more}
use Rattle.std.proofs.Math.Seq.{take-append_seam, drop-append_seam}
use Rattle.std.proofs.lemmas.Bool.{eqb-true, false_from_ne_true}
use Rattle.memchr.specs.Find.{IsFirstByte, is_byte, Passes}
use Rattle.sorting.specs.Stanzas.{before_first, ended_lines, behind, unbegun, ends_stanza, stanzas_from, stanzas}
use Rattle.sorting.specs.declared.stanzas.Begun.{Begun}
use Rattle.sorting.specs.inner.Stanzas.{IsFirstStanza, with_taken, GoesOn}

-- ---- lines

abbrev pub NoFeed : List ℕ → Type 0
NoFeed xs = All (λ b. is_byte 10 b ≡ false) xs

later : (x : ℕ) (xs : List ℕ) → NoFeed (x ∷ xs) → NoFeed xs
later x xs h k d lt = h (suc k) d (omega (arith, lt))

first : (x : ℕ) (xs : List ℕ) → NoFeed (x ∷ xs) → (x == 10) ≡ false
first x xs h = h 0 0 (omega arith)

-- up to the first LF
pub cut_line : (xs ys : List ℕ) → NoFeed xs → ended_lines (xs ++ 10 ∷ ys) ≡ (xs ++ 10 ∷ []) ∷ ended_lines ys
unfolding ended_lines
cut_line [] ys none = refl
cut_line (x ∷ xs) ys none =
    ap (λ (t : Bool). cond t ((10 ∷ []) ∷ ended_lines (xs ++ 10 ∷ ys)) (onto_first x (ended_lines (xs ++ 10 ∷ ys)))) (first x xs none)
    ∙ ap (onto_first x) (cut_line xs ys (later x xs none))

-- without one
pub last_line : (x : ℕ) (xs : List ℕ) → NoFeed (x ∷ xs) → ended_lines (x ∷ xs) ≡ (x ∷ xs) ∷ []
unfolding ended_lines
last_line x [] none = ap (λ (t : Bool). cond t ((10 ∷ []) ∷ []) ((x ∷ []) ∷ [])) (first x [] none)
last_line x (y ∷ ys) none =
    ap (λ (t : Bool). cond t ((10 ∷ []) ∷ ended_lines (y ∷ ys)) (onto_first x (ended_lines (y ∷ ys)))) (first x (y ∷ ys) none)
    ∙ ap (onto_first x) (last_line y ys (later x (y ∷ ys) none))

none_before : (text : List ℕ) (i : ℕ) → i ≤ length text → ((k : ℕ) → k < i → Passes (is_byte 10) text k → ⊥) → NoFeed (take i text)
none_before text i fits h k d lt =
    let below : k < i = omega (arith, length-take i text) in
    let same : get_or (take i text) k d ≡ get_or text k 0 = get_or-take i text k d below ∙ get_or_default text k d 0 (omega arith) in
    false_from_ne_true _ (λ e. h k below (ap (is_byte 10) (sym same) ∙ e))

-- a text cut behind the first LF
pub cut_at : (text line rest : List ℕ) (i : ℕ) → IsFirstByte (is_byte 10) text (Some i) → line ≡ take (i + 1) text → rest ≡ drop (i + 1) text → ended_lines text ≡ line ∷ ended_lines rest
cut_at text line rest i h front back =
    let lt : i < length text = h.0.high in
    let at : get_or text i 0 ≡ 10 = eqb-true _ _ h.1 in
    let cut : text ≡ take i text ++ 10 ∷ drop (i + 1) text = sym (take-append-drop i text) ∙ ap (λ (r : List ℕ). take i text ++ r) (drop_more text i 0 lt ∙ ap (λ (b : ℕ). b ∷ drop (i + 1) text) at) in
    ap ended_lines cut ∙ cut_line (take i text) (drop (i + 1) text) (none_before text i (omega arith) (λ k below. h.0.before k (omega arith) below))
    ∙ ap (λ (r : List ℕ). r ∷ ended_lines (drop (i + 1) text)) (sym (front ∙ taken))
    ∙ ap (λ (r : List ℕ). line ∷ ended_lines r) (sym back)
  where
    taken : take (i + 1) text ≡ take i text ++ 10 ∷ []
    taken = take_more text i 0 h.0.high ∙ ap (λ (b : ℕ). take i text ++ b ∷ []) (eqb-true _ _ h.1)

pub uncut : (text line rest : List ℕ) → 0 < length text → IsFirstByte (is_byte 10) text None → line ≡ take (length text) text → rest ≡ drop (length text) text → ended_lines text ≡ line ∷ ended_lines rest
unfolding ended_lines
uncut [] line rest some h front back = absurd (omega (arith, some))
uncut (x ∷ xs) line rest some h front back =
    last_line x xs (λ k d lt. false_from_ne_true _ (λ e. h k (omega arith) lt (ap (is_byte 10) (get_or_default (x ∷ xs) k 0 d lt) ∙ e)))
    ∙ ap (λ (l : List ℕ). l ∷ []) (sym (front ∙ take_all (length (x ∷ xs)) (x ∷ xs) (omega arith)))
    ∙ ap (λ (l : List ℕ). line ∷ ended_lines l) (sym (back ∙ drop_all (length (x ∷ xs)) (x ∷ xs) (omega arith)))

-- ---- stanzas

-- a line more was taken of the first stanza
pub taken_more : (taken line : List ℕ) (ps : List (List ℕ)) → 0 < length line → with_taken taken (before_first line ps) ≡ with_taken (taken ++ line) ps
taken_more [] [] ps some = absurd (omega (arith, some))
taken_more [] (b ∷ bs) ps some = refl
taken_more (t ∷ ts) line [] some = refl
taken_more (t ∷ ts) line (p ∷ ps) some = ap (λ (l : List ℕ). l ∷ ps) (sym (append_assoc (t ∷ ts) line p))

pub taken_of : (taken stanza : List ℕ) (ps : List (List ℕ)) → with_taken taken (stanza ∷ ps) ≡ (taken ++ stanza) ∷ ps
taken_of [] stanza ps = refl
taken_of (t ∷ ts) stanza ps = refl

module _ (text : List ℕ) (begun : Begun) (rest line others : List ℕ) (h : GoesOn text begun rest) (cut : ended_lines rest ≡ line ∷ ended_lines others) (parts : rest ≡ line ++ others)
    (shorter : length others < length rest) where
  some_line : 0 < length line
  some_line = let e = ap (λ (l : List ℕ). length l) parts ∙ length-append line others in omega (arith, e, shorter)

  whole : text ≡ (h.taken ++ line) ++ others
  whole = h.parts ∙ ap (λ (l : List ℕ). h.taken ++ l) parts ∙ sym (append_assoc h.taken line others)

  pub goes_on : ends_stanza begun line ≡ false → GoesOn text (behind begun line) others
  unfolding stanzas_from
  goes_on other = record {
    taken = h.taken ++ line;
    parts = whole;
    stanzas = h.stanzas
        ∙ ap (λ (ls : List (List ℕ)). with_taken h.taken (stanzas_from begun ls)) cut
        ∙ ap (λ (t : Bool). with_taken h.taken (cond t (line ∷ stanzas_from unbegun (ended_lines others)) (before_first line (stanzas_from (behind begun line) (ended_lines others))))) other
        ∙ taken_more h.taken line (stanzas_from (behind begun line) (ended_lines others)) some_line;
  }

  pub ends_here : ends_stanza begun line ≡ true → IsFirstStanza text (length text - length others)
  unfolding stanzas_from
  ends_here ends = record {
    some = let e = length-append h.taken line in let f = some_line in omega (arith, long, e, f);
    stanzas = h.stanzas
        ∙ ap (λ (ls : List (List ℕ)). with_taken h.taken (stanzas_from begun ls)) cut
        ∙ ap (λ (t : Bool). with_taken h.taken (cond t (line ∷ stanzas_from unbegun (ended_lines others)) (before_first line (stanzas_from (behind begun line) (ended_lines others))))) ends
        ∙ taken_of h.taken line (stanzas others)
        ∙ (λ i. sym front i ∷ stanzas (sym back i));
  }
    where
      long : length (h.taken ++ line) ≡ length text - length others
      long = let e = ap (λ (l : List ℕ). length l) whole ∙ length-append (h.taken ++ line) others in omega (arith, e)

      front : take (length text - length others) text ≡ h.taken ++ line
      front = ap (λ (m : ℕ). take m text) (sym long) ∙ ap (take (length (h.taken ++ line))) whole ∙ take-append_seam (h.taken ++ line) others

      back : drop (length text - length others) text ≡ others
      back = ap (λ (m : ℕ). drop m text) (sym long) ∙ ap (drop (length (h.taken ++ line))) whole ∙ drop-append_seam (h.taken ++ line) others

pub begins : (text : List ℕ) → GoesOn text unbegun text
begins text = record { taken = []; parts = refl; stanzas = refl }

no_stanzas : stanzas [] ≡ []
unfolding stanzas_from ended_lines
no_stanzas = refl

-- the text ends within its first stanza
pub all_taken : (text : List ℕ) (begun : Begun) (rest : List ℕ) → GoesOn text begun rest → rest ≡ [] → 0 < length text → IsFirstStanza text (length text)
unfolding stanzas_from ended_lines
all_taken text begun rest h none some = record {
  some = some;
  stanzas = h.stanzas ∙ ap (λ (r : List ℕ). with_taken h.taken (stanzas_from begun (ended_lines r))) none ∙ by h.taken taken_is
      ∙ (λ i. sym (take_all (length text) text (omega arith)) i ∷ sym (ap stanzas (drop_all (length text) text (omega arith)) ∙ no_stanzas) i);
}
  where
    taken_is : h.taken ≡ text
    taken_is = sym (h.parts ∙ ap (λ (r : List ℕ). h.taken ++ r) none ∙ append-nil h.taken)

    by : (taken : List ℕ) → taken ≡ text → with_taken taken [] ≡ text ∷ []
    by [] is = absurd (let e = ap (λ (l : List ℕ). length l) is in omega (arith, e, some))
    by (t ∷ ts) is = ap (λ (l : List ℕ). l ∷ []) is

-- ---- what a test of a text's length says

pub is_empty_so : {X : Type 0} (xs : List X) (answer : Bool) → answer ≡ (length xs == 0) → answer ≡ true → xs ≡ []
is_empty_so [] answer is h = refl
is_empty_so (b ∷ bs) answer is h = let zero : length (b ∷ bs) ≡ 0 = eqb-true (length (b ∷ bs)) 0 (sym is ∙ h) in absurd (omega (arith, zero))
