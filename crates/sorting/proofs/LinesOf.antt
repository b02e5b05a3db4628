-- Lines with their ends, and as a reader has them.
use Rattle.std.proofs.Common.{◌≡◌, ℕ, suc, ◌-◌, Bool, true, false, cond, not, ◌&&◌, List, [], ◌∷◌, ◌++◌, map, length, take, refl, sym, ap, ◌∙◌, append_assoc, append-nil, arith, inl, inr}
use Rattle.std.specs.Prelude.{◌==◌, ◌||◌, ◌⊎◌, ⊤, slice_index}
use Rattle.std.specs.List.{flat_map, onto_first, AllByRecursion}
use Rattle.std.specs.Str.{bytes_eq}
use Rattle.std.specs.Str.Lines.{lines, lines_of_parts, strip_carriage_return}
use Rattle.std.proofs.lemmas.Bool.{eqb-true}
use Rattle.base.specs.Ends.{begins_with}
use Rattle.sorting.specs.Stanzas.{ended_lines, is_empty, is_kept}
use Rattle.sorting.proofs.Contents.{Lines, counts, is_no_blank}
use Rattle.sorting.proofs.ReadLines.{is_feed, parts, lines_behind}

abbrev pub all : Lines → List ℕ
all ls = flat_map (λ text. text) ls

-- ---- lines with their ends

abbrev pub IsFree : List ℕ → Type 0
IsFree text = AllByRecursion (λ b. is_feed b ≡ false) text

pub record IsEndedLine (line : List ℕ) : Type 0 where
  pub text : List ℕ
  pub free : IsFree text
  pub is : line ≡ text ++ 10 ∷ []

pub record IsOpenLine (line : List ℕ) : Type 0 where
  pub byte : ℕ
  pub more : List ℕ
  pub free : IsFree (byte ∷ more)
  pub is : line ≡ byte ∷ more

-- lines of a text: each but the last has its end
abbrev pub AreLines : Lines → Type 0
AreLines [] = ⊤
AreLines (line ∷ []) = IsEndedLine line ⊎ IsOpenLine line
AreLines (line ∷ other ∷ lines) = IsEndedLine line × AreLines (other ∷ lines)

put_ended : (b : ℕ) (line : List ℕ) → is_feed b ≡ false → IsEndedLine line → IsEndedLine (b ∷ line)
put_ended b line other h = record { text = b ∷ h.text; free = (other, h.free); is = ap (λ (l : List ℕ). b ∷ l) h.is }

put_open : (b : ℕ) (line : List ℕ) → is_feed b ≡ false → IsOpenLine line → IsOpenLine (b ∷ line)
put_open b line other h = record { byte = b; more = h.byte ∷ h.more; free = (other, h.free); is = ap (λ (l : List ℕ). b ∷ l) h.is }

onto_lines : (b : ℕ) (ls : Lines) → is_feed b ≡ false → AreLines ls → AreLines (onto_first b ls)
onto_lines b [] other h = inr (record { byte = b; more = []; free = (other, tt); is = refl })
onto_lines b (line ∷ []) other (inl h) = inl (put_ended b line other h)
onto_lines b (line ∷ []) other (inr h) = inr (put_open b line other h)
onto_lines b (line ∷ m ∷ ls) other h = (put_ended b line other h.0, h.1)

alone : IsEndedLine (10 ∷ [])
alone = record { text = []; free = tt; is = refl }

put_line : (ls : Lines) → AreLines ls → AreLines ((10 ∷ []) ∷ ls)
put_line [] h = inl alone
put_line (l ∷ ls) h = (alone, h)

pub are_lines : (text : List ℕ) → AreLines (ended_lines text)
unfolding ended_lines
are_lines [] = tt
are_lines (b ∷ bs) = by (b == 10) refl (are_lines bs)
  where
    by : (t : Bool) → (b == 10) ≡ t → AreLines (ended_lines bs) → AreLines (cond t ((10 ∷ []) ∷ ended_lines bs) (onto_first b (ended_lines bs)))
    by true e h = put_line (ended_lines bs) h
    by false e h = onto_lines b (ended_lines bs) e h

pub first_alone : (line : List ℕ) (ls : Lines) → AreLines (line ∷ ls) → AreLines (line ∷ [])
first_alone line [] h = h
first_alone line (m ∷ ls) h = inl h.0

pub others : (line : List ℕ) (ls : Lines) → AreLines (line ∷ ls) → AreLines ls
others line [] h = tt
others line (m ∷ ls) h = h.1

-- ---- as a reader has them

abbrev first_of : Lines → List ℕ
first_of [] = []
first_of (l ∷ ls) = l

-- without its end
abbrev pub bare : List ℕ → List ℕ
bare line = first_of (lines line)

one_part : (text : List ℕ) → IsFree text → parts text ≡ text ∷ []
one_part [] h = refl
one_part (b ∷ bs) h = ap (λ (t : Bool). cond t ([] ∷ parts bs) (onto_first b (parts bs))) h.0 ∙ ap (onto_first b) (one_part bs h.1)

ended_before : (text rest : List ℕ) → IsFree text → lines (text ++ 10 ∷ rest) ≡ strip_carriage_return text ∷ lines rest
ended_before text rest free = lines_behind text rest ∙ ap (λ (l : Lines). map strip_carriage_return l ++ lines rest) (one_part text free)

bare_ended : (line : List ℕ) (h : IsEndedLine line) → bare line ≡ strip_carriage_return h.text
bare_ended line h = ap bare h.is ∙ ap first_of (ended_before h.text [] h.free)

pub line_before : (line rest : List ℕ) → IsEndedLine line → lines (line ++ rest) ≡ bare line ∷ lines rest
line_before line rest h =
    ap (λ (l : List ℕ). lines (l ++ rest)) h.is ∙ ap lines (append_assoc h.text (10 ∷ []) rest) ∙ ended_before h.text rest h.free
    ∙ ap (λ (l : List ℕ). l ∷ lines rest) (sym (bare_ended line h))

some_length : (b : ℕ) (bs : List ℕ) → (length (b ∷ bs) == 0) ≡ false
some_length b bs = grind (arith)

open_lines : (line : List ℕ) → IsOpenLine line → lines line ≡ line ∷ []
open_lines line h =
    ap lines h.is ∙ ap lines_of_parts (one_part (h.byte ∷ h.more) h.free)
    ∙ ap (λ (t : Bool). cond t [] ((h.byte ∷ h.more) ∷ [])) (some_length h.byte h.more)
    ∙ ap (λ (l : List ℕ). l ∷ []) (sym h.is)

bare_open : (line : List ℕ) → IsOpenLine line → bare line ≡ line
bare_open line h = ap first_of (open_lines line h)

pub lines_are : (ls : Lines) → AreLines ls → lines (all ls) ≡ map bare ls
lines_are [] h = refl
lines_are (line ∷ []) (inl h) = line_before line [] h
lines_are (line ∷ []) (inr h) = ap lines (append-nil line) ∙ open_lines line h ∙ ap (λ (l : List ℕ). l ∷ []) (sym (bare_open line h))
lines_are (line ∷ m ∷ ls) h = line_before line (all (m ∷ ls)) h.0 ∙ ap (λ (l : Lines). bare line ∷ l) (lines_are (m ∷ ls) h.1)

pub lines_before : (ls : Lines) (rest : List ℕ) → AllByRecursion IsEndedLine ls → lines (all ls ++ rest) ≡ map bare ls ++ lines rest
lines_before [] rest h = refl
lines_before (line ∷ ls) rest h =
    ap lines (append_assoc line (all ls) rest) ∙ line_before line (all ls ++ rest) h.0 ∙ ap (λ (l : Lines). bare line ∷ l) (lines_before ls rest h.1)

-- ---- a line by its first byte

-- it is empty, or has the same first byte without its end
pub data Seen (line : List ℕ) : Type 0 where
  blank : is_empty line ≡ true → bare line ≡ [] → begins_with 35 line ≡ false → begins_with 32 line ≡ false → Seen line
  filled : (b : ℕ) (bs cs : List ℕ) → line ≡ b ∷ bs → bare line ≡ b ∷ cs → is_empty line ≡ false → Seen line

strip_more : (b c : ℕ) (cs : List ℕ) → (ds : List ℕ) × (strip_carriage_return (b ∷ c ∷ cs) ≡ b ∷ ds)
strip_more b c cs = by strip_test
  where
    strip_test : Bool
    strip_test = slice_index (b ∷ c ∷ cs) (length (b ∷ c ∷ cs) - 1) == 13

    shorter : take (length (b ∷ c ∷ cs) - 1) (b ∷ c ∷ cs) ≡ b ∷ take (length cs) (c ∷ cs)
    shorter = let e : length (b ∷ c ∷ cs) - 1 ≡ suc (length cs) = omega arith in ap (λ (n : ℕ). take n (b ∷ c ∷ cs)) e

    by : (t : Bool) → (ds : List ℕ) × (cond t (take (length (b ∷ c ∷ cs) - 1) (b ∷ c ∷ cs)) (b ∷ c ∷ cs) ≡ b ∷ ds)
    by true = (take (length cs) (c ∷ cs), shorter)
    by false = (c ∷ cs, refl)

and_false : (t : Bool) → (t && false) ≡ false
and_false true = refl
and_false false = refl

ended_seen : (text : List ℕ) → IsFree text → (line : List ℕ) → line ≡ text ++ 10 ∷ [] → bare line ≡ strip_carriage_return text → Seen line
ended_seen [] free line is bare_is =
    blank (ap is_empty is) bare_is (ap (begins_with 35) is) (ap (begins_with 32) is)
ended_seen (b ∷ []) free line is bare_is = by (b == 13) refl
  where
    empty : is_empty (b ∷ 10 ∷ []) ≡ (b == 13)
    empty = at (b == 10) (b == 13)
      where
        at : (t u : Bool) → ((t && false) || (u && true)) ≡ u
        at true true = refl
        at true false = refl
        at false true = refl
        at false false = refl

    by : (t : Bool) → (b == 13) ≡ t → Seen line
    by true e =
        let same : b ≡ 13 = eqb-true b 13 e in
        blank (ap is_empty is ∙ empty ∙ e) (bare_is ∙ ap (λ (t : Bool). cond t [] (b ∷ [])) e) (ap (begins_with 35) is ∙ ap (λ (n : ℕ). n == 35) same) (ap (begins_with 32) is ∙ ap (λ (n : ℕ). n == 32) same)
    by false e = filled b (10 ∷ []) [] is (bare_is ∙ ap (λ (t : Bool). cond t [] (b ∷ [])) e) (ap is_empty is ∙ empty ∙ e)
ended_seen (b ∷ c ∷ cs) free line is bare_is =
    filled b (c ∷ cs ++ 10 ∷ []) (strip_more b c cs).0 is (bare_is ∙ (strip_more b c cs).1) (ap is_empty is ∙ not_empty)
  where
    not_empty : is_empty (b ∷ c ∷ cs ++ 10 ∷ []) ≡ false
    not_empty =
        ap (λ (t : Bool). (t || bytes_eq (b ∷ c ∷ cs ++ 10 ∷ []) (13 ∷ 10 ∷ []))) (and_false (b == 10))
        ∙ ap (λ (t : Bool). (b == 13) && (t && bytes_eq (cs ++ 10 ∷ []) [])) free.1.0
        ∙ and_false (b == 13)

open_seen : (line : List ℕ) → IsOpenLine line → Seen line
open_seen line h = filled h.byte h.more h.more h.is (bare_open line h ∙ h.is) (ap is_empty h.is ∙ not_empty h.byte h.more h.free)
  where
    not_empty : (b : ℕ) (bs : List ℕ) → IsFree (b ∷ bs) → is_empty (b ∷ bs) ≡ false
    not_empty b [] free = ap (λ (t : Bool). (t && true) || ((b == 13) && false)) free.0 ∙ and_false (b == 13)
    not_empty b (c ∷ cs) free =
        ap (λ (t : Bool). (t && false) || ((b == 13) && ((c == 10) && bytes_eq cs []))) free.0
        ∙ ap (λ (t : Bool). (b == 13) && (t && bytes_eq cs [])) free.1.0
        ∙ and_false (b == 13)

pub seen : (line : List ℕ) → AreLines (line ∷ []) → Seen line
seen line (inl h) = ended_seen h.text h.free line h.is (bare_ended line h)
seen line (inr h) = open_seen line h

-- a line that is filled counts as it does for a reader
pub same_count : (first : Bool) (line : List ℕ) (b : ℕ) (bs cs : List ℕ) → line ≡ b ∷ bs → bare line ≡ b ∷ cs → is_empty line ≡ false → is_kept first line ≡ counts first (bare line)
same_count first line b bs cs is bare_is filled_line =
    ap (λ (t : Bool). (not t && not (begins_with 35 line)) && (first || not (begins_with 32 line))) filled_line
    ∙ ap (λ (l : List ℕ). not (begins_with 35 l) && (first || not (begins_with 32 l))) is
    ∙ sym (ap (counts first) bare_is)

pub not_kept : (first : Bool) (line : List ℕ) → is_empty line ≡ true → is_kept first line ≡ false
not_kept first line e = ap (λ (t : Bool). (not t && not (begins_with 35 line)) && (first || not (begins_with 32 line))) e

pub no_blank : (line : List ℕ) (b : ℕ) (cs : List ℕ) → bare line ≡ b ∷ cs → is_no_blank (bare line)
no_blank line b cs is = ap (λ (l : List ℕ). length l == 0) is ∙ some_length b cs
