-- A list is cut into its lines.
use Rattle.std.proofs.Common.{◌≡◌, ℕ, suc, ◌+◌, ◌-◌, ◌<◌, ◌≤◌, Bool, true, false, cond, List, [], ◌∷◌, ◌++◌, length, get_or, take, drop, Some, None, All, refl, sym, ap, ◌∙◌, append_assoc, append-nil, arith}
use Rattle.std.specs.Prelude.{◌&&◌, ◌==◌, codes}
use Rattle.std.specs.List.{flat_map}
use Rattle.std.proofs.lemmas.List.{take-append-drop, drop_more, get_or-take, get_or_default, length-take, length-drop, take_all, drop_all}
use Rattle.std.proofs.lemmas.Bool.{eqb-true, false_from_ne_true}
use Rattle.memchr.specs.Find.{IsFirstByte, is_byte, Passes}
use Rattle.base.specs.Ends.{begins_with, ends_with}
use Rattle.commands.specs.Lists.{in_front, lines, begins_with_mark, filled, comment_byte, comment}
use Rattle.commands.specs.inner.Lists.{without_return}

abbrev pub NoFeed : List ℕ → Type 0
NoFeed xs = All (λ b. is_byte 10 b ≡ false) xs

neither : (feed return : Bool) (A B C : List (List ℕ)) → feed ≡ false → return ≡ false → cond feed A (cond return B C) ≡ C
neither feed return A B C e f = rw (e, f) refl

no_and : (a b : Bool) → b ≡ false → (a && b) ≡ false
no_and true b e = e
no_and false b e = refl

return_stays : (x y : ℕ) (zs : List ℕ) → without_return (x ∷ y ∷ zs) ≡ x ∷ without_return (y ∷ zs)
return_stays x y zs = by (ends_with 13 (y ∷ zs)) where
  by : (t : Bool) → cond t (take (length (x ∷ y ∷ zs) - 1) (x ∷ y ∷ zs)) (x ∷ y ∷ zs) ≡ x ∷ cond t (take (length (y ∷ zs) - 1) (y ∷ zs)) (y ∷ zs)
  by true = let e : length (x ∷ y ∷ zs) - 1 ≡ suc (length (y ∷ zs) - 1) = omega arith in ap (λ (n : ℕ). take n (x ∷ y ∷ zs)) e
  by false = refl

later : (x : ℕ) (xs : List ℕ) → NoFeed (x ∷ xs) → NoFeed xs
later x xs h k d lt = h (suc k) d (omega (arith, lt))

first : (x : ℕ) (xs : List ℕ) → NoFeed (x ∷ xs) → (x == 10) ≡ false
first x xs h = h 0 0 (omega arith)

-- up to the first LF
pub cut_line : (xs ys : List ℕ) → NoFeed xs → lines (xs ++ 10 ∷ ys) ≡ without_return xs ∷ lines ys
unfolding lines
cut_line [] ys none = refl
cut_line (x ∷ []) ys none = by (x == 13) where
  by : (t : Bool) → cond (x == 10) ([] ∷ lines (10 ∷ ys)) (cond (t && true) (lines (10 ∷ ys)) (in_front x (lines (10 ∷ ys)))) ≡ cond t (take (length (x ∷ []) - 1) (x ∷ [])) (x ∷ []) ∷ lines ys
  by true = rw (first x [] none) refl
  by false = rw (first x [] none) refl
cut_line (x ∷ y ∷ zs) ys none =
    neither (x == 10) (x == 13 && begins_with 10 (y ∷ zs ++ 10 ∷ ys)) _ _ _ (first x (y ∷ zs) none) (no_and (x == 13) (y == 10) (first y zs (later x (y ∷ zs) none)))
    ∙ ap (in_front x) (cut_line (y ∷ zs) ys (later x (y ∷ zs) none))
    ∙ ap (λ (l : List ℕ). l ∷ lines ys) (sym (return_stays x y zs))

-- without one
pub last_line : (x : ℕ) (xs : List ℕ) → NoFeed (x ∷ xs) → lines (x ∷ xs) ≡ (x ∷ xs) ∷ []
unfolding lines
last_line x [] none = neither (x == 10) (x == 13 && begins_with 10 []) _ _ _ (first x [] none) (no_and (x == 13) false refl)
last_line x (y ∷ zs) none =
    neither (x == 10) (x == 13 && begins_with 10 (y ∷ zs)) _ _ _ (first x (y ∷ zs) none) (no_and (x == 13) (y == 10) (first y zs (later x (y ∷ zs) none)))
    ∙ ap (in_front x) (last_line y zs (later x (y ∷ zs) none))

none_before : (text : List ℕ) (i : ℕ) → i ≤ length text → ((k : ℕ) → k < i → Passes (is_byte 10) text k → ⊥) → NoFeed (take i text)
none_before text i fits h k d lt =
    let below : k < i = omega (arith, length-take i text) in
    let same : get_or (take i text) k d ≡ get_or text k 0 = get_or-take i text k d below ∙ get_or_default text k d 0 (omega arith) in
    false_from_ne_true _ (λ e. h k below (ap (is_byte 10) (sym same) ∙ e))

-- a text cut at the first LF, as a slice is cut
pub cut_at : (text : List ℕ) (i : ℕ) → IsFirstByte (is_byte 10) text (Some i) → lines text ≡ without_return (take i text) ∷ lines (take (length text - (i + 1)) (drop (i + 1) text))
cut_at text i h =
    let lt : i < length text = h.0.high in
    let at : get_or text i 0 ≡ 10 = eqb-true _ _ h.1 in
    let rest : take (length text - (i + 1)) (drop (i + 1) text) ≡ drop (i + 1) text = take_all (length text - (i + 1)) (drop (i + 1) text) (omega (arith, length-drop (i + 1) text)) in
    let cut : text ≡ take i text ++ 10 ∷ drop (i + 1) text = sym (take-append-drop i text) ∙ ap (λ (r : List ℕ). take i text ++ r) (drop_more text i 0 lt ∙ ap (λ (b : ℕ). b ∷ drop (i + 1) text) at) in
    ap lines cut ∙ cut_line (take i text) (drop (i + 1) text) (none_before text i (omega arith) (λ k below. h.0.before k (omega arith) below))
    ∙ ap (λ (r : List ℕ). without_return (take i text) ∷ lines r) (sym rest)

pub uncut : (text : List ℕ) → 0 < length text → IsFirstByte (is_byte 10) text None → lines text ≡ text ∷ []
uncut [] some h = absurd (omega (arith, some))
uncut (x ∷ xs) some h = last_line x xs (λ k d lt. false_from_ne_true _ (λ e. h k (omega arith) lt (ap (is_byte 10) (get_or_default (x ∷ xs) k 0 d lt) ∙ e)))

pub no_lines : (text : List ℕ) → text ≡ [] → lines text ≡ []
unfolding lines
no_lines text is = rw is refl

pub nothing_left : lines [] ≡ []
unfolding lines
nothing_left = refl

pub is_empty_so : (text : List ℕ) (answer : Bool) → answer ≡ (length text == 0) → answer ≡ true → text ≡ []
is_empty_so [] answer is h = refl
is_empty_so (b ∷ bs) answer is h = let zero : length (b ∷ bs) ≡ 0 = eqb-true (length (b ∷ bs)) 0 (sym is ∙ h) in absurd (omega (arith, zero))

pub is_some_so : (text : List ℕ) (answer : Bool) → answer ≡ (length text == 0) → answer ≡ false → 0 < length text
is_some_so [] answer is h = let no : true ≡ false = sym is ∙ h in cc
is_some_so (b ∷ bs) answer is h = omega arith

-- ---- the filter of a line

pub mark_here : (line text rest : List ℕ) → begins_with_mark rest ≡ true → (text ++ line) ++ take (length rest - 2) (drop 2 rest) ≡ text ++ filled line rest
unfolding filled
mark_here line text [] h = cc
mark_here line text (b ∷ []) h = absurd (no_mark b h) where
  no_mark : (b : ℕ) → (b == 37 && false) ≡ true → ⊥
  no_mark b h = let none : false ≡ true = sym (no_and (b == 37) false refl) ∙ h in cc
mark_here line text (b ∷ c ∷ cs) h =
    rw h (ap (λ (more : List ℕ). (text ++ line) ++ more) (take_all (length (b ∷ c ∷ cs) - 2) cs (omega arith)) ∙ append_assoc text line cs)

pub no_mark_here : (line text rest : List ℕ) → 0 < length rest → begins_with_mark rest ≡ false
    → (text ++ get_or rest 0 0 ∷ []) ++ filled line (take (length rest - 1) (drop 1 rest)) ≡ text ++ filled line rest
unfolding filled
no_mark_here line text [] some h = absurd (omega (arith, some))
no_mark_here line text (b ∷ bs) some h =
    let all : take (length (b ∷ bs) - 1) bs ≡ bs = take_all (length (b ∷ bs) - 1) bs (omega arith) in
    rw (h, all) (append_assoc text (b ∷ []) (filled line bs))

pub nothing_to_fill : (line text : List ℕ) → text ++ filled line [] ≡ text
unfolding filled
nothing_to_fill line text = append-nil text

-- ---- the comment of a line

pub comment_so : (text held : List ℕ) (at : ℕ) → length text ≤ at → held ++ flat_map comment_byte (drop at text) ≡ codes "# filter: " ++ flat_map comment_byte text
    → held ++ 10 ∷ [] ≡ comment text
unfolding comment
comment_so text held at past is =
    let none : held ++ flat_map comment_byte (drop at text) ≡ held = ap (λ (rest : List ℕ). held ++ flat_map comment_byte rest) (drop_all at text past) ∙ append-nil held in
    ap (λ (front : List ℕ). front ++ 10 ∷ []) (sym none ∙ is) ∙ append_assoc (codes "# filter: ") (flat_map comment_byte text) (10 ∷ [])
