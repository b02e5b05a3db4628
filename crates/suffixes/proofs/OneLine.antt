-- What the lines of a text say, where one stands between whole lines above it and what stands below it.
use Rattle.std.proofs.Common.{◌≡◌, ℕ, zero, suc, ◌+◌, ◌-◌, Bool, true, false, cond, not, ◌&&◌, eqb, List, [], ◌∷◌, ◌++◌, map, length, get_or, take, drop, inl, inr, refl, sym, ap, subst, ◌∙◌, append_assoc, arith}
use Rattle.std.specs.List.{list_all, slice_split, onto_first}
use Rattle.std.specs.Str.Lines.{strip_carriage_return}
use Rattle.std.proofs.lemmas.Bool.{and_parts, eqb-true}
use Rattle.std.proofs.lemmas.List.{length_push}
use Rattle.std.proofs.lemmas.List.Folds.{list_all-append}
use Rattle.std.proofs.Math.Seq.{take-append_seam, get_or-append_seam}
use Rattle.base.specs.Ends.{ends_with}
use Rattle.base.proofs.LastByte.{ends_is}
use Rattle.definitions.specs.declared.lines.Line.{Line}
use Rattle.definitions.specs.Lines.{is_line_feed, numbered, begins_blank, goes_on_with, joined, onto, unfolded, lines_of}
use Rattle.definitions.specs.LineGrammar.{is_in_line, IsEnd}
use Rattle.suffixes.specs.SuffixLines.{texts_of, AreWhole}

abbrev Texts : Type 0
Texts = List (List ℕ)

abbrev cut : List ℕ → Texts
cut text = slice_split is_line_feed text

record IsSome (xs : Texts) : Type 0 where
  first : List ℕ
  rest : Texts
  is : xs ≡ first ∷ rest

-- ---- texts without their numbers

-- stretches without the carriage returns of their ends
abbrev stripped : Texts → Texts
stripped [] = []
stripped (s ∷ []) = s ∷ []
stripped (s ∷ q ∷ qs) = strip_carriage_return s ∷ stripped (q ∷ qs)

numbered_say : (n : ℕ) (ss : Texts) → texts_of (numbered n ss) ≡ stripped ss
numbered_say n [] = refl
numbered_say n (s ∷ []) = refl
numbered_say n (s ∷ q ∷ qs) = ap (λ (ts : Texts). strip_carriage_return s ∷ ts) (numbered_say (n + 1) (q ∷ qs))

abbrev onto_said : List ℕ → Texts → Texts
onto_said t [] = t ∷ []
onto_said t (u ∷ us) = cond (goes_on_with t u) ((t ++ 32 ∷ drop 1 u) ∷ us) (t ∷ u ∷ us)

-- with those that they go on on
abbrev folded : Texts → Texts
folded [] = []
folded (t ∷ ts) = onto_said t (folded ts)

onto_says : (l : Line) (ls : List Line) → texts_of (onto l ls) ≡ onto_said l.text (texts_of ls)
onto_says l [] = refl
onto_says l (k ∷ ks) = by (goes_on_with l.text k.text)
  where
    by : (b : Bool) → texts_of (cond b (joined l k.text ∷ ks) (l ∷ k ∷ ks)) ≡ cond b ((l.text ++ 32 ∷ drop 1 k.text) ∷ texts_of ks) (l.text ∷ k.text ∷ texts_of ks)
    by true = refl
    by false = refl

unfolded_say : (ls : List Line) → texts_of (unfolded ls) ≡ folded (texts_of ls)
unfolding unfolded
unfolded_say [] = refl
unfolded_say (l ∷ ls) = onto_says l (unfolded ls) ∙ ap (onto_said l.text) (unfolded_say ls)

lines_say : (text : List ℕ) → texts_of (lines_of text) ≡ folded (stripped (cut text))
unfolding lines_of
lines_say text = unfolded_say (numbered 1 (cut text)) ∙ ap folded (numbered_say 1 (cut text))

-- ---- stretches above a line feed and below it

front_onto : (a : ℕ) (xs ys : Texts) → IsSome xs → onto_first a (xs ++ ys) ≡ onto_first a xs ++ ys
front_onto a [] ys some = absurd (let e = some.is in cc)
front_onto a (x ∷ xs) ys some = refl

onto_some : (a : ℕ) (xs : Texts) → IsSome xs → IsSome (onto_first a xs)
onto_some a [] some = absurd (let e = some.is in cc)
onto_some a (x ∷ xs) some = record { first = a ∷ x; rest = xs; is = refl }

cut_some : (text : List ℕ) → IsSome (cut text)
cut_some [] = record { first = []; rest = []; is = refl }
cut_some (b ∷ bs) = by (is_line_feed b) (cut_some bs)
  where
    by : (t : Bool) → IsSome (cut bs) → IsSome (cond t ([] ∷ cut bs) (onto_first b (cut bs)))
    by true some = record { first = []; rest = cut bs; is = refl }
    by false some = onto_some b (cut bs) some

cut_both : (front bs : List ℕ) → cut (front ++ 10 ∷ bs) ≡ cut front ++ cut bs
cut_both [] bs = refl
cut_both (a ∷ front) bs = by (is_line_feed a) (cut_both front bs)
  where
    by : (t : Bool) → cut (front ++ 10 ∷ bs) ≡ cut front ++ cut bs → cond t ([] ∷ cut (front ++ 10 ∷ bs)) (onto_first a (cut (front ++ 10 ∷ bs))) ≡ cond t ([] ∷ cut front) (onto_first a (cut front)) ++ cut bs
    by true more = ap (λ (ts : Texts). [] ∷ ts) more
    by false more = ap (onto_first a) more ∙ front_onto a (cut front) (cut bs) (cut_some front)

one_more : (s : List ℕ) (ss : Texts) → IsSome ss → stripped (s ∷ ss) ≡ strip_carriage_return s ∷ stripped ss
one_more s [] some = absurd (let e = some.is in cc)
one_more s (q ∷ qs) some = refl

some_more : (xs ys : Texts) → IsSome ys → IsSome (xs ++ ys)
some_more [] ys some = some
some_more (x ∷ xs) ys some = record { first = x; rest = xs ++ ys; is = refl }

stripped_both : (xs ys : Texts) → IsSome ys → stripped (xs ++ ys) ≡ map strip_carriage_return xs ++ stripped ys
stripped_both [] ys some = refl
stripped_both (x ∷ xs) ys some = one_more x (xs ++ ys) (some_more xs ys some) ∙ ap (λ (ts : Texts). strip_carriage_return x ∷ ts) (stripped_both xs ys some)

-- ---- whole lines

last_feed : (text : List ℕ) → ends_with 10 text ≡ true → (front : List ℕ) × (text ≡ front ++ 10 ∷ [])
last_feed [] e = absurd cc
last_feed (b ∷ []) e = ([], ap (λ (c : ℕ). c ∷ []) (eqb-true b 10 e))
last_feed (b ∷ c ∷ cs) e = let k = last_feed (c ∷ cs) e in (b ∷ k.0, ap (λ (bs : List ℕ). b ∷ bs) k.1)

-- these stretches stand above any other
abbrev Above : List ℕ → Type 0
Above front = (above : Texts) × ((rest : List ℕ) → stripped (cut (front ++ rest)) ≡ above ++ stripped (cut rest))

above_feed : (front : List ℕ) → Above (front ++ 10 ∷ [])
above_feed front = (
  map strip_carriage_return (cut front),
  λ rest.
      ap (λ (bs : List ℕ). stripped (cut bs)) (append_assoc front (10 ∷ []) rest) ∙ ap stripped (cut_both front rest) ∙ stripped_both (cut front) (cut rest) (cut_some rest),
)

above_any : (front : List ℕ) → AreWhole front → Above front
above_any front (inl e) = ([], λ rest. ap (λ (bs : List ℕ). stripped (cut (bs ++ rest))) e)
above_any front (inr e) = let k = last_feed front e in subst Above (sym k.1) (above_feed k.0)

-- ---- one line

cut_alone : (stretch : List ℕ) → list_all is_in_line stretch ≡ true → cut stretch ≡ stretch ∷ []
cut_alone [] h = refl
cut_alone (b ∷ bs) h = let k = and_parts (is_in_line b) (list_all is_in_line bs) h in by (is_line_feed b) k.0 (cut_alone bs k.1)
  where
    by : (t : Bool) → not t ≡ true → cut bs ≡ bs ∷ [] → cond t ([] ∷ cut bs) (onto_first b (cut bs)) ≡ (b ∷ bs) ∷ []
    by true off more = absurd cc
    by false off more = ap (onto_first b) more

return_kept : (stretch : List ℕ) → ends_with 13 stretch ≡ false → strip_carriage_return stretch ≡ stretch
return_kept [] h = refl
return_kept (b ∷ bs) h =
    ap (λ (t : Bool). cond t (take (length (b ∷ bs) - 1) (b ∷ bs)) (b ∷ bs)) (sym (ends_is (b ∷ bs) 13 (length (b ∷ bs) - 1) (omega arith) (omega arith)) ∙ h)

return_lost : (stretch : List ℕ) → strip_carriage_return (stretch ++ 13 ∷ []) ≡ stretch
return_lost stretch =
    let whole = stretch ++ 13 ∷ [] in
    let at : length whole - 1 ≡ length stretch = omega (arith, length_push stretch 13) in
    ap (λ (n : ℕ). cond (eqb (get_or whole n 0) 13) (take n whole) whole) at
    ∙ ap (λ (b : ℕ). cond (eqb b 13) (take (length stretch) whole) whole) (get_or-append_seam stretch 13 [] 0)
    ∙ take-append_seam stretch (13 ∷ [])

one_stretch : (stretch : List ℕ) (rest : List ℕ) → list_all is_in_line stretch ≡ true → stripped (cut (stretch ++ 10 ∷ rest)) ≡ strip_carriage_return stretch ∷ stripped (cut rest)
one_stretch stretch rest inside =
    ap stripped (cut_both stretch rest ∙ ap (λ (ts : Texts). ts ++ cut rest) (cut_alone stretch inside)) ∙ one_more stretch (cut rest) (cut_some rest)

one_line : (line end below : List ℕ) → list_all is_in_line line ≡ true → IsEnd line end → stripped (cut (line ++ (end ++ below))) ≡ line ∷ stripped (cut below)
one_line line end below inside (inl e) =
    ap (λ (bs : List ℕ). stripped (cut (line ++ (bs ++ below)))) e
    ∙ ap (λ (bs : List ℕ). stripped (cut bs)) (sym (append_assoc line (13 ∷ []) (10 ∷ below)))
    ∙ one_stretch (line ++ 13 ∷ []) below (list_all-append is_in_line line (13 ∷ []) ∙ ap (λ (t : Bool). t && true) inside)
    ∙ ap (λ (bs : List ℕ). bs ∷ stripped (cut below)) (return_lost line)
one_line line end below inside (inr e) =
    ap (λ (bs : List ℕ). stripped (cut (line ++ (bs ++ below)))) e.0
    ∙ one_stretch line below inside
    ∙ ap (λ (bs : List ℕ). bs ∷ stripped (cut below)) (return_kept line e.1)

-- ---- what doesn't go on

-- the first begins as this one
record Begun (ts : Texts) (blank : Bool) : Type 0 where
  first : List ℕ
  rest : Texts
  is : ts ≡ first ∷ rest
  same : begins_blank first ≡ blank

onto_begun : (t : List ℕ) (us : Texts) → Begun (onto_said t us) (begins_blank t)
onto_begun t [] = record { first = t; rest = []; is = refl; same = refl }
onto_begun [] (u ∷ us) = record { first = []; rest = u ∷ us; is = refl; same = refl }
onto_begun (b ∷ bs) (u ∷ us) = by (begins_blank u)
  where
    by : (t : Bool) → Begun (cond t (((b ∷ bs) ++ 32 ∷ drop 1 u) ∷ us) ((b ∷ bs) ∷ u ∷ us)) (begins_blank (b ∷ bs))
    by true = record { first = (b ∷ bs) ++ 32 ∷ drop 1 u; rest = us; is = refl; same = refl }
    by false = record { first = b ∷ bs; rest = u ∷ us; is = refl; same = refl }

alone : (t u : List ℕ) (us : Texts) → begins_blank u ≡ false → onto_said t (u ∷ us) ≡ t ∷ u ∷ us
alone [] u us e = refl
alone (b ∷ bs) u us e = ap (λ (c : Bool). cond c (((b ∷ bs) ++ 32 ∷ drop 1 u) ∷ us) ((b ∷ bs) ∷ u ∷ us)) e

stays : (t : List ℕ) (us : Texts) → Begun us false → onto_said t us ≡ t ∷ us
stays t us h = ap (onto_said t) h.is ∙ alone t h.first h.rest h.same ∙ ap (λ (ts : Texts). t ∷ ts) (sym h.is)

onto_both : (t : List ℕ) (us ys : Texts) → Begun ys false → onto_said t (us ++ ys) ≡ onto_said t us ++ ys
onto_both t [] ys h = stays t ys h
onto_both t (u ∷ us) ys h = by (goes_on_with t u)
  where
    by : (c : Bool) → cond c ((t ++ 32 ∷ drop 1 u) ∷ (us ++ ys)) (t ∷ u ∷ (us ++ ys)) ≡ cond c ((t ++ 32 ∷ drop 1 u) ∷ us) (t ∷ u ∷ us) ++ ys
    by true = refl
    by false = refl

folded_begun : (t : List ℕ) (ts : Texts) → begins_blank t ≡ false → Begun (folded (t ∷ ts)) false
folded_begun t ts e = subst (Begun (folded (t ∷ ts))) e (onto_begun t (folded ts))

folded_both : (front : Texts) (t : List ℕ) (ts : Texts) → begins_blank t ≡ false → folded (front ++ t ∷ ts) ≡ folded front ++ folded (t ∷ ts)
folded_both [] t ts e = refl
folded_both (a ∷ front) t ts e = ap (onto_said a) (folded_both front t ts e) ∙ onto_both a (folded front) (folded (t ∷ ts)) (folded_begun t ts e)

-- ---- what stands below

take_begun : (n : ℕ) (text : List ℕ) → begins_blank text ≡ false → begins_blank (take n text) ≡ false
take_begun zero text e = refl
take_begun (suc n) [] e = refl
take_begun (suc n) (b ∷ bs) e = e

strip_begun : (text : List ℕ) → begins_blank text ≡ false → begins_blank (strip_carriage_return text) ≡ false
strip_begun text e = by (eqb (get_or text (length text - 1) 0) 13)
  where
    by : (t : Bool) → begins_blank (cond t (take (length text - 1) text) text) ≡ false
    by true = take_begun (length text - 1) text e
    by false = e

stripped_begun : (ts : Texts) → Begun ts false → Begun (stripped ts) false
stripped_begun [] h = absurd (let e = h.is in cc)
stripped_begun (s ∷ []) h = h
stripped_begun (s ∷ q ∷ qs) h =
    let same : s ≡ h.first = (let e = h.is in cc) in
    record { first = strip_carriage_return s; rest = stripped (q ∷ qs); is = refl; same = strip_begun s (ap begins_blank same ∙ h.same) }

onto_first_begun : (b : ℕ) (ts : Texts) → IsSome ts → begins_blank (b ∷ []) ≡ false → Begun (onto_first b ts) false
onto_first_begun b [] some e = absurd (let none = some.is in cc)
onto_first_begun b (t ∷ ts) some e = record { first = b ∷ t; rest = ts; is = refl; same = e }

cut_begun : (text : List ℕ) → begins_blank text ≡ false → Begun (cut text) false
cut_begun [] e = record { first = []; rest = []; is = refl; same = refl }
cut_begun (b ∷ bs) e = by (is_line_feed b)
  where
    by : (t : Bool) → Begun (cond t ([] ∷ cut bs) (onto_first b (cut bs))) false
    by true = record { first = []; rest = cut bs; is = refl; same = refl }
    by false = onto_first_begun b (cut bs) (cut_some bs) e

folded_some : (ts : Texts) → Begun ts false → Begun (folded ts) false
folded_some [] h = absurd (let e = h.is in cc)
folded_some (t ∷ ts) h = let same : t ≡ h.first = (let e = h.is in cc) in folded_begun t ts (ap begins_blank same ∙ h.same)

-- ---- both

pub texts_above : (above : List ℕ) → AreWhole above → Texts
texts_above above whole = folded (above_any above whole).0

pub texts_below : List ℕ → Texts
texts_below below = folded (stripped (cut below))

pub line_between : (above line end below : List ℕ) (whole : AreWhole above) → list_all is_in_line line ≡ true → IsEnd line end → begins_blank line ≡ false → begins_blank below ≡ false
    → texts_of (lines_of (above ++ (line ++ (end ++ below)))) ≡ texts_above above whole ++ line ∷ texts_below below
unfolding texts_above texts_below
line_between above line end below whole inside ends bare begins =
    let k = above_any above whole in
    lines_say (above ++ (line ++ (end ++ below)))
    ∙ ap folded (k.1 (line ++ (end ++ below)) ∙ ap (λ (ts : Texts). k.0 ++ ts) (one_line line end below inside ends))
    ∙ folded_both k.0 line (stripped (cut below)) bare
    ∙ ap (λ (ts : Texts). folded k.0 ++ ts) (stays line (texts_below below) (folded_some (stripped (cut below)) (stripped_begun (cut below) (cut_begun below begins))))
