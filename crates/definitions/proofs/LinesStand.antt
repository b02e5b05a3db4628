-- The lines of a text are those that stand there.
use Rattle.std.proofs.Common.{◌≡◌, ℕ, ◌+◌, ◌-◌, ◌<◌, Bool, true, false, cond, not, ◌||◌, ◌&&◌, eqb, List, [], ◌∷◌, ◌++◌, length, get_or, drop, take, ◌⊎◌, inl, inr, refl, sym, ap, subst, ◌∙◌, append_assoc, append-nil, arith}
use Rattle.std.specs.List.{list_all, slice_split, onto_first, All, AllByRecursion}
use Rattle.std.specs.Str.Lines.{strip_carriage_return}
use Rattle.std.proofs.lemmas.Bool.{and_parts, eqb-true}
use Rattle.std.proofs.lemmas.List.{take_more, take_all, length_push}
use Rattle.std.proofs.lemmas.List.Sums.{AllPass-from_list_all}
use Rattle.std.proofs.lemmas.List.Folds.{list_all-append}
use Rattle.std.proofs.lemmas.List.Splits.{slice_split_none, slice_split_at}
use Rattle.std.proofs.Math.Seq.{take-append_seam}
use Rattle.base.specs.Ends.{ends_with}
use Rattle.base.proofs.LastByte.{ends_is}
use Rattle.definitions.specs.declared.lines.Line.{Line}
use Rattle.definitions.specs.Lines.{is_line_feed, numbered, begins_blank, goes_on_with, joined, onto, unfolded, lines_of}
use Rattle.definitions.specs.LineGrammar.{is_in_line, IsEnd, AreStretches, IsIndented, said, Continues, Stops, Takes, AreTaken, AreLines}

abbrev line : ℕ → List ℕ → Line
line n text = record { number = n; text = text }

-- stretches as lines of their own
abbrev counted : ℕ → List (List ℕ) → List Line
counted n [] = []
counted n (stretch ∷ stretches) = line n stretch ∷ counted (n + 1) stretches

-- ---- a carriage return at the end

kept_return : (stretch : List ℕ) → ends_with 13 stretch ≡ false → strip_carriage_return stretch ≡ stretch
kept_return [] h = refl
kept_return (b ∷ bs) h =
    ap (λ (t : Bool). cond t (take (length (b ∷ bs) - 1) (b ∷ bs)) (b ∷ bs)) (sym (ends_is (b ∷ bs) 13 (length (b ∷ bs) - 1) (omega arith) (omega arith)) ∙ h)

return_ends : (stretch : List ℕ) → ends_with 13 (stretch ++ 13 ∷ []) ≡ true
return_ends [] = refl
return_ends (b ∷ []) = refl
return_ends (b ∷ c ∷ cs) = return_ends (c ∷ cs)

stripped : (stretch : List ℕ) → ends_with 13 stretch ≡ true → strip_carriage_return stretch ≡ take (length stretch - 1) stretch
stripped [] h = absurd cc
stripped (b ∷ bs) h =
    ap (λ (t : Bool). cond t (take (length (b ∷ bs) - 1) (b ∷ bs)) (b ∷ bs)) (sym (ends_is (b ∷ bs) 13 (length (b ∷ bs) - 1) (omega arith) (omega arith)) ∙ h)

lost_return : (stretch : List ℕ) → strip_carriage_return (stretch ++ 13 ∷ []) ≡ stretch
lost_return stretch =
    let less : length (stretch ++ 13 ∷ []) - 1 ≡ length stretch = omega (arith, length_push stretch 13) in
    stripped (stretch ++ 13 ∷ []) (return_ends stretch) ∙ ap (λ (n : ℕ). take n (stretch ++ 13 ∷ [])) less ∙ take-append_seam stretch (13 ∷ [])

a_return : (stretch : List ℕ) → ends_with 13 stretch ≡ true → stretch ≡ strip_carriage_return stretch ++ 13 ∷ []
a_return [] h = absurd cc
a_return (b ∷ bs) h =
    let n = length (b ∷ bs) - 1 in
    let all : n + 1 ≡ length (b ∷ bs) = omega arith in
    let last : get_or (b ∷ bs) n 0 ≡ 13 = eqb-true (get_or (b ∷ bs) n 0) 13 (sym (ends_is (b ∷ bs) 13 n (omega arith) all) ∙ h) in
    sym (take_all (n + 1) (b ∷ bs) (omega arith)) ∙ take_more (b ∷ bs) n 0 (omega arith) ∙ (λ i. sym (stripped (b ∷ bs) h) i ++ last i ∷ [])

-- ---- stretches

no_feeds : (stretch : List ℕ) → list_all is_in_line stretch ≡ true → All (λ b. is_line_feed b ≡ false) stretch
no_feeds stretch h k d within = off (is_line_feed (get_or stretch k d)) (AllPass-from_list_all is_in_line stretch h k d within) where
  off : (t : Bool) → not t ≡ true → t ≡ false
  off true h = absurd cc
  off false h = refl

-- what a cut at each line feed gives
abbrev AreCut : List (List ℕ) → List ℕ → Type 0
AreCut [] text = ⊥
AreCut (stretch ∷ []) text = (list_all is_in_line stretch ≡ true) × (text ≡ stretch)
AreCut (stretch ∷ next ∷ stretches) text = (rest : List ℕ) × (list_all is_in_line stretch ≡ true) × (text ≡ stretch ++ 10 ∷ rest) × AreCut (next ∷ stretches) rest

cut_here : (b : ℕ) (bs : List ℕ) (stretches : List (List ℕ)) → b ≡ 10 → AreCut stretches bs → AreCut ([] ∷ stretches) (b ∷ bs)
cut_here b bs [] e h = absurd h
cut_here b bs (stretch ∷ stretches) e h = (bs, refl, ap (λ (c : ℕ). c ∷ bs) e, h)

not_here : (b : ℕ) (bs : List ℕ) (stretches : List (List ℕ)) → is_line_feed b ≡ false → AreCut stretches bs → AreCut (onto_first b stretches) (b ∷ bs)
not_here b bs [] e h = absurd h
not_here b bs (stretch ∷ []) e h = ((λ i. not (e i) && h.0 i), ap (λ (cs : List ℕ). b ∷ cs) h.1)
not_here b bs (stretch ∷ next ∷ stretches) e h = (h.0, (λ i. not (e i) && h.1 i), ap (λ (cs : List ℕ). b ∷ cs) h.2, h.3)

are_cut : (text : List ℕ) → AreCut (slice_split is_line_feed text) text
are_cut [] = (refl, refl)
are_cut (b ∷ bs) = by (is_line_feed b) refl (are_cut bs) where
  by : (t : Bool) → is_line_feed b ≡ t → AreCut (slice_split is_line_feed bs) bs → AreCut (cond t ([] ∷ slice_split is_line_feed bs) (onto_first b (slice_split is_line_feed bs))) (b ∷ bs)
  by true e more = cut_here b bs (slice_split is_line_feed bs) (eqb-true b 10 e) more
  by false e more = not_here b bs (slice_split is_line_feed bs) e more

-- without the carriage returns of the ends
abbrev stretches_of : List (List ℕ) → List (List ℕ)
stretches_of [] = []
stretches_of (stretch ∷ []) = stretch ∷ []
stretches_of (stretch ∷ next ∷ stretches) = strip_carriage_return stretch ∷ stretches_of (next ∷ stretches)

numbered_is : (n : ℕ) (cut : List (List ℕ)) → numbered n cut ≡ counted n (stretches_of cut)
numbered_is n [] = refl
numbered_is n (stretch ∷ []) = refl
numbered_is n (stretch ∷ next ∷ stretches) = ap (λ (ls : List Line). line n (strip_carriage_return stretch) ∷ ls) (numbered_is (n + 1) (next ∷ stretches))

-- ---- stretches that are read stand there

a_stretch : (stretch end : List ℕ) (rest text : List ℕ) (stretches : List (List ℕ)) → list_all is_in_line stretch ≡ true → IsEnd stretch end → text ≡ stretch ++ (end ++ rest) → AreStretches stretches rest → AreStretches (stretch ∷ stretches) text
a_stretch stretch end rest text [] inside is_end is more = absurd more
a_stretch stretch end rest text (next ∷ stretches) inside is_end is more = (end, rest, inside, is_end, is, more)

cut_stretch : (stretch rest text : List ℕ) (stretches : List (List ℕ)) (t : Bool) → ends_with 13 stretch ≡ t → list_all is_in_line stretch ≡ true → text ≡ stretch ++ 10 ∷ rest → AreStretches stretches rest → AreStretches (strip_carriage_return stretch ∷ stretches) text
cut_stretch stretch rest text stretches true ends inside is more =
    let whole = a_return stretch ends in
    let front = and_parts (list_all is_in_line (strip_carriage_return stretch)) true (sym (list_all-append is_in_line (strip_carriage_return stretch) (13 ∷ [])) ∙ ap (list_all is_in_line) (sym whole) ∙ inside) in
    a_stretch (strip_carriage_return stretch) (13 ∷ 10 ∷ []) rest text stretches front.0 (inl refl) (is ∙ ap (λ (bs : List ℕ). bs ++ 10 ∷ rest) whole ∙ append_assoc (strip_carriage_return stretch) (13 ∷ []) (10 ∷ rest)) more
cut_stretch stretch rest text stretches false ends inside is more =
    let same = kept_return stretch ends in
    a_stretch (strip_carriage_return stretch) (10 ∷ []) rest text stretches (ap (list_all is_in_line) same ∙ inside) (inr (refl, ap (ends_with 13) same ∙ ends)) (is ∙ ap (λ (bs : List ℕ). bs ++ 10 ∷ rest) (sym same)) more

cut_stretches : (cut : List (List ℕ)) (text : List ℕ) → AreCut cut text → AreStretches (stretches_of cut) text
cut_stretches [] text h = absurd h
cut_stretches (stretch ∷ []) text h = h
cut_stretches (stretch ∷ next ∷ stretches) text h = cut_stretch stretch h.0 text (stretches_of (next ∷ stretches)) (ends_with 13 stretch) refl h.1 h.2 (cut_stretches (next ∷ stretches) h.0 h.3)

-- ---- and stretches that stand there are read

more_counted : (n : ℕ) (cut stretch : List ℕ) (stretches others : List (List ℕ)) (next : List ℕ) → strip_carriage_return cut ≡ stretch → numbered (n + 1) others ≡ counted (n + 1) (next ∷ stretches)
    → numbered n (cut ∷ others) ≡ counted n (stretch ∷ next ∷ stretches)
more_counted n cut stretch stretches [] next same h = absurd cc
more_counted n cut stretch stretches (other ∷ others) next same h = (λ i. line n (same i) ∷ h i)

cut_at : (n : ℕ) (cut stretch rest text : List ℕ) (stretches : List (List ℕ)) (next : List ℕ) → list_all is_in_line cut ≡ true → text ≡ cut ++ 10 ∷ rest → strip_carriage_return cut ≡ stretch
    → numbered (n + 1) (slice_split is_line_feed rest) ≡ counted (n + 1) (next ∷ stretches) → numbered n (slice_split is_line_feed text) ≡ counted n (stretch ∷ next ∷ stretches)
cut_at n cut stretch rest text stretches next inside is same h =
    ap (λ (bs : List ℕ). numbered n (slice_split is_line_feed bs)) is
    ∙ ap (numbered n) (slice_split_at is_line_feed cut 10 rest (no_feeds cut inside) refl)
    ∙ more_counted n cut stretch stretches (slice_split is_line_feed rest) next same h

with_return : (stretch : List ℕ) → list_all is_in_line stretch ≡ true → list_all is_in_line (stretch ++ 13 ∷ []) ≡ true
with_return stretch inside = list_all-append is_in_line stretch (13 ∷ []) ∙ ap (λ (t : Bool). t && true) inside

stretches_found : (stretches : List (List ℕ)) (text : List ℕ) (n : ℕ) → AreStretches stretches text → numbered n (slice_split is_line_feed text) ≡ counted n stretches
stretches_found [] text n h = absurd h
stretches_found (stretch ∷ []) text n h =
    ap (λ (bs : List ℕ). numbered n (slice_split is_line_feed bs)) h.1 ∙ ap (numbered n) (slice_split_none is_line_feed stretch (no_feeds stretch h.0))
stretches_found (stretch ∷ next ∷ stretches) text n h = by h.3 (stretches_found (next ∷ stretches) h.1 (n + 1) h.5) where
  by : IsEnd stretch h.0 → numbered (n + 1) (slice_split is_line_feed h.1) ≡ counted (n + 1) (next ∷ stretches) → numbered n (slice_split is_line_feed text) ≡ counted n (stretch ∷ next ∷ stretches)
  by (inl e) more =
      cut_at n (stretch ++ 13 ∷ []) stretch h.1 text stretches next (with_return stretch h.2) (h.4 ∙ ap (λ (end : List ℕ). stretch ++ (end ++ h.1)) e ∙ sym (append_assoc stretch (13 ∷ []) (10 ∷ h.1))) (lost_return stretch) more
  by (inr e) more = cut_at n stretch stretch h.1 text stretches next h.2 (h.4 ∙ ap (λ (end : List ℕ). stretch ++ (end ++ h.1)) e.0) (kept_return stretch e.1) more

-- ---- what goes on

either_true : (a b : Bool) → (a || b) ≡ true → (a ≡ true) ⊎ (b ≡ true)
either_true true b h = inl refl
either_true false b h = inr h

indented : (stretch : List ℕ) → IsIndented stretch → begins_blank stretch ≡ true
indented stretch h = ap begins_blank h.3 ∙ by h.2 where
  by : (h.0 ≡ 32) ⊎ (h.0 ≡ 9) → begins_blank (h.0 ∷ h.1) ≡ true
  by (inl e) = ap (λ (b : ℕ). eqb b 32 || eqb b 9) e
  by (inr e) = ap (λ (b : ℕ). eqb b 32 || eqb b 9) e

is_indented : (stretch : List ℕ) → begins_blank stretch ≡ true → IsIndented stretch
is_indented [] h = absurd cc
is_indented (b ∷ bs) h = by (either_true (eqb b 32) (eqb b 9) h) where
  by : (eqb b 32 ≡ true) ⊎ (eqb b 9 ≡ true) → IsIndented (b ∷ bs)
  by (inl e) = (b, bs, inl (eqb-true b 32 e), refl)
  by (inr e) = (b, bs, inr (eqb-true b 9 e), refl)

not_indented : (stretch : List ℕ) → ¬ (IsIndented stretch) → begins_blank stretch ≡ false
not_indented stretch bare = by (begins_blank stretch) refl where
  by : (t : Bool) → begins_blank stretch ≡ t → t ≡ false
  by true e = absurd (bare (is_indented stretch e))
  by false e = refl

some_bytes : (stretch : List ℕ) → IsIndented stretch → 0 < length stretch
some_bytes stretch h = omega (arith, ap (λ (bs : List ℕ). length bs) h.3)

-- ---- lines that stand there are read

-- the first line of stretches begins as the first of them
record Begun (ls : List Line) (stretch : List ℕ) : Type 0 where
  next : Line
  others : List Line
  is : ls ≡ next ∷ others
  same : begins_blank next.text ≡ begins_blank stretch

joined_begun : (n : ℕ) (stretch : List ℕ) (m : Line) (ms : List Line) → goes_on_with stretch m.text ≡ true → Begun (joined (line n stretch) m.text ∷ ms) stretch
joined_begun n [] m ms e = absurd cc
joined_begun n (b ∷ bs) m ms e = record { next = joined (line n (b ∷ bs)) m.text; others = ms; is = refl; same = refl }

onto_begun : (n : ℕ) (stretch : List ℕ) (ls : List Line) → Begun (onto (line n stretch) ls) stretch
onto_begun n stretch [] = record { next = line n stretch; others = []; is = refl; same = refl }
onto_begun n stretch (m ∷ ms) = by (goes_on_with stretch m.text) refl where
  by : (t : Bool) → goes_on_with stretch m.text ≡ t → Begun (cond t (joined (line n stretch) m.text ∷ ms) (line n stretch ∷ m ∷ ms)) stretch
  by true e = joined_begun n stretch m ms e
  by false e = record { next = line n stretch; others = m ∷ ms; is = refl; same = refl }

no_more : (n : ℕ) (stretch : List ℕ) (next : Line) (others : List Line) → goes_on_with stretch next.text ≡ false → onto (line n stretch) (next ∷ others) ≡ line n stretch ∷ next ∷ others
no_more n stretch next others e = ap (λ (t : Bool). cond t (joined (line n stretch) next.text ∷ others) (line n stretch ∷ next ∷ others)) e

goes_not : (stretch text : List ℕ) → (stretch ≡ []) ⊎ (begins_blank text ≡ false) → goes_on_with stretch text ≡ false
goes_not [] text h = refl
goes_not (b ∷ bs) text (inl e) = absurd cc
goes_not (b ∷ bs) text (inr e) = e

stopped : (n : ℕ) (stretch : List ℕ) (left : List (List ℕ)) → Stops stretch left → unfolded (counted n (stretch ∷ left)) ≡ line n stretch ∷ unfolded (counted (n + 1) left)
unfolding unfolded
stopped n stretch [] h = refl
stopped n stretch (next ∷ left) h =
    let begun : Begun (unfolded (counted (n + 1) (next ∷ left))) next = onto_begun (n + 1) next (unfolded (counted (n + 1 + 1) left)) in
    let apart : (stretch ≡ []) ⊎ (begins_blank begun.next.text ≡ false) = elim h [ inl e ↦ inl e | inr bare ↦ inr (begun.same ∙ not_indented next bare) ] in
    ap (onto (line n stretch)) begun.is ∙ no_more n stretch begun.next begun.others (goes_not stretch begun.next.text apart) ∙ ap (λ (ls : List Line). line n stretch ∷ ls) (sym begun.is)

goes : (stretch text : List ℕ) → 0 < length stretch → begins_blank text ≡ true → goes_on_with stretch text ≡ true
goes [] text some e = absurd (omega arith)
goes (b ∷ bs) text some e = e

said_more : (first next : List ℕ) (further : List (List ℕ)) → 0 < length next → first ++ 32 ∷ drop 1 (said next further) ≡ said first (next ∷ further)
said_more first [] further some = absurd (omega arith)
said_more first (b ∷ bs) further some = refl

said_blank : (next : List ℕ) (further : List (List ℕ)) → 0 < length next → begins_blank (said next further) ≡ begins_blank next
said_blank [] further some = absurd (omega arith)
said_blank (b ∷ bs) further some = refl

joins : (n : ℕ) (first text : List ℕ) (m : ℕ) (others : List Line) → goes_on_with first text ≡ true → onto (line n first) (line m text ∷ others) ≡ line n (first ++ 32 ∷ drop 1 text) ∷ others
joins n first text m others e = ap (λ (t : Bool). cond t (joined (line n first) text ∷ others) (line n first ∷ line m text ∷ others)) e

continued : (first : List ℕ) (further : List (List ℕ)) → 0 < length first → AllByRecursion IsIndented further → Continues first further
continued first [] some are = tt
continued first (next ∷ further) some are = (some, are)

stops_too : (first text : List ℕ) (left : List (List ℕ)) (further : List (List ℕ)) → 0 < length first → Stops (said first further) left → Stops text left
stops_too first text [] further some h = tt
stops_too [] text (next ∷ left) further some h = absurd (omega arith)
stops_too (b ∷ bs) text (next ∷ left) further some (inl e) = absurd cc
stops_too (b ∷ bs) text (next ∷ left) further some (inr bare) = inr bare

taken : (n : ℕ) (first : List ℕ) (further left : List (List ℕ)) → Continues first further → Stops (said first further) left
    → unfolded (counted n (first ∷ (further ++ left))) ≡ line n (said first further) ∷ unfolded (counted (n + (1 + length further)) left)
unfolding unfolded
taken n first [] left continues stops =
    stopped n first left (subst (λ (text : List ℕ). Stops text left) (append-nil first) stops) ∙ ap (λ (text : List ℕ). line n text ∷ unfolded (counted (n + 1) left)) (sym (append-nil first))
taken n first (next ∷ further) left continues stops =
    let some = some_bytes next continues.1.0 in
    let on = taken (n + 1) next further left (continued next further some continues.1.1) (stops_too first (said next further) left (next ∷ further) continues.0 stops) in
    let later : n + 1 + (1 + length further) ≡ n + (1 + length (next ∷ further)) = omega arith in
    ap (onto (line n first)) on
    ∙ joins n first (said next further) (n + 1) (unfolded (counted (n + 1 + (1 + length further)) left)) (goes first (said next further) continues.0 (said_blank next further some ∙ indented next continues.1.0))
    ∙ (λ i. line n (said_more first next further some i) ∷ unfolded (counted (later i) left))

lines_found : (lines : List Line) (stretches : List (List ℕ)) (n : ℕ) → AreTaken n lines stretches → unfolded (counted n stretches) ≡ lines
unfolding unfolded
lines_found [] stretches n h = ap (λ (ps : List (List ℕ)). unfolded (counted n ps)) h
lines_found (l ∷ ls) stretches n h =
    let t = h.1 in
    let same : line n (said t.first t.further) ≡ l = (λ i. record { number = sym t.number_is i; text = sym t.text_is i }) in
    ap (λ (ps : List (List ℕ)). unfolded (counted n ps)) t.stretches_are
    ∙ taken n t.first t.further h.0 t.continues (subst (λ (text : List ℕ). Stops text h.0) t.text_is t.stops)
    ∙ (λ i. same i ∷ lines_found ls h.0 (n + (1 + length t.further)) h.2 i)

-- ---- lines that are read stand there

abbrev alone : (n : ℕ) (stretch : List ℕ) (left : List (List ℕ)) → Stops stretch left → Takes n (line n stretch) (stretch ∷ left) left
alone n stretch left stops = record { first = stretch; further = []; stretches_are = refl; continues = tt; stops = stops; number_is = refl; text_is = sym (append-nil stretch) }

-- a line that begins with a blank stands on stretches that do
blank_first : (first text : List ℕ) (further : List (List ℕ)) → Continues first further → text ≡ said first further → begins_blank text ≡ true → IsIndented first × AllByRecursion IsIndented further
blank_first [] text [] continues is e = let k = ap begins_blank (sym is) ∙ e in absurd cc
blank_first [] text (next ∷ further) continues is e = absurd (omega (arith, continues.0))
blank_first (b ∷ bs) text [] continues is e = (is_indented (b ∷ bs) (ap begins_blank (sym is) ∙ e), tt)
blank_first (b ∷ bs) text (next ∷ further) continues is e = (is_indented (b ∷ bs) (ap begins_blank (sym is) ∙ e), continues.1)

goes_stretches : (stretch text : List ℕ) → goes_on_with stretch text ≡ true → (0 < length stretch) × (begins_blank text ≡ true)
goes_stretches [] text e = absurd cc
goes_stretches (b ∷ bs) text e = (omega arith, e)

stops_joined : (text joined_text : List ℕ) (left : List (List ℕ)) → begins_blank text ≡ true → Stops text left → Stops joined_text left
stops_joined text joined_text [] e h = tt
stops_joined text joined_text (next ∷ left) e (inl none) = let k = ap begins_blank (sym none) ∙ e in absurd cc
stops_joined text joined_text (next ∷ left) e (inr bare) = inr bare

abbrev more_taken : (n : ℕ) (stretch : List ℕ) (stretches left : List (List ℕ)) (m : Line) → goes_on_with stretch m.text ≡ true → Takes (n + 1) m stretches left → Takes n (joined (line n stretch) m.text) (stretch ∷ stretches) left
more_taken n stretch stretches left m e t =
    let k = goes_stretches stretch m.text e in
    let are = blank_first t.first m.text t.further t.continues t.text_is k.1 in
    record {
      first = stretch;
      further = t.first ∷ t.further;
      stretches_are = ap (λ (ps : List (List ℕ)). stretch ∷ ps) t.stretches_are;
      continues = (k.0, (are.0, are.1));
      stops = stops_joined m.text (stretch ++ 32 ∷ drop 1 m.text) left k.1 t.stops;
      number_is = refl;
      text_is = ap (λ (text : List ℕ). stretch ++ 32 ∷ drop 1 text) t.text_is ∙ said_more stretch t.first t.further (some_bytes t.first are.0);
    }

-- where a line doesn't go on with the next one, its stretch doesn't with the next stretch
stops_at : (stretch text first : List ℕ) (others : List (List ℕ)) → goes_on_with stretch text ≡ false → (IsIndented first → begins_blank text ≡ true) → Stops stretch (first ∷ others)
stops_at [] text first others e same = inl refl
stops_at (b ∷ bs) text first others e same = inr (λ h. let k = sym (same h) ∙ e in absurd cc)

onto_taken : (n : ℕ) (stretch : List ℕ) (stretches : List (List ℕ)) (ls : List Line) → AreTaken (n + 1) ls stretches → AreTaken n (onto (line n stretch) ls) (stretch ∷ stretches)
onto_taken n stretch stretches [] h = ([], subst (λ (ps : List (List ℕ)). Takes n (line n stretch) (stretch ∷ ps) []) (sym h) (alone n stretch [] tt), refl)
onto_taken n stretch stretches (m ∷ ms) h = by (goes_on_with stretch m.text) refl where
  t : Takes (n + 1) m stretches h.0
  t = h.1

  later : n + 1 + (1 + length t.further) ≡ n + (1 + length (t.first ∷ t.further))
  later = omega arith

  by : (b : Bool) → goes_on_with stretch m.text ≡ b → AreTaken n (cond b (joined (line n stretch) m.text ∷ ms) (line n stretch ∷ m ∷ ms)) (stretch ∷ stretches)
  by true e = (h.0, more_taken n stretch stretches h.0 m e t, subst (λ (k : ℕ). AreTaken k ms h.0) later h.2)
  by false e =
      let blank : IsIndented t.first → begins_blank m.text ≡ true = λ is. ap begins_blank t.text_is ∙ said_blank t.first t.further (some_bytes t.first is) ∙ indented t.first is in
      (stretches, alone n stretch stretches (subst (Stops stretch) (sym t.stretches_are) (stops_at stretch m.text t.first (t.further ++ h.0) e blank)), h)

lines_only : (stretches : List (List ℕ)) (n : ℕ) → AreTaken n (unfolded (counted n stretches)) stretches
unfolding unfolded
lines_only [] n = refl
lines_only (stretch ∷ stretches) n = onto_taken n stretch stretches (unfolded (counted (n + 1) stretches)) (lines_only stretches (n + 1))

-- ---- both

pub lines_stand : (text : List ℕ) → AreLines text (lines_of text)
unfolding lines_of
lines_stand text =
    let cut = slice_split is_line_feed text in
    record {
      stretches = stretches_of cut;
      text_is = cut_stretches cut text (are_cut text);
      taken = subst (λ (ls : List Line). AreTaken 1 (unfolded ls) (stretches_of cut)) (sym (numbered_is 1 cut)) (lines_only (stretches_of cut) 1);
    }

pub lines_are_read : (text : List ℕ) (lines : List Line) → AreLines text lines → lines_of text ≡ lines
unfolding lines_of
lines_are_read text lines h = ap unfolded (stretches_found h.stretches text 1 h.text_is) ∙ lines_found lines h.stretches 1 h.taken
