-- The lines at the front of a text, and the records that they and lines behind them have.
use Rattle.std.proofs.Common.{◌≡◌, ℕ, Bool, true, false, cond, List, [], ◌∷◌, ◌++◌, map, Option, Some, None, refl, sym, ap, subst, ◌∙◌, inl, inr}
use Rattle.std.specs.Prelude.{◌⊎◌, ⊤}
use Rattle.std.specs.List.{AllByRecursion}
use Rattle.base.specs.Ends.{begins_with}
use Rattle.sorting.specs.Stanzas.{is_empty, is_kept}
use Rattle.sorting.specs.Heads.{stage_behind, with_line, front_of}
use Rattle.sorting.specs.declared.heads.Stage.{Stage}
use Rattle.sorting.specs.declared.heads.Stage.TheVariants.{Before, Within, Behind}
use Rattle.sorting.proofs.Contents.{Lines, said, contents_in, contents, none_said, has_kept, is_none, is_no_blank, counts, kept_more, none_more, or_false, all_more}
use Rattle.sorting.proofs.LinesOf.{all, bare, AreLines, IsEndedLine, Seen, blank, filled, seen, same_count, not_kept, no_blank, first_alone, others}

abbrev pub onto_line : List ℕ → Option Stage → (Stage → Lines) → Lines
onto_line line None more = []
onto_line line (Some stage) more = line ∷ more stage

unfoldable pub front_lines : Stage → Bool → Lines → Lines
front_lines stage first [] = []
front_lines stage first (line ∷ ls) = onto_line line (stage_behind stage first line) (λ later. front_lines later (is_empty line) ls)

pub front_is : (stage : Stage) (first : Bool) (ls : Lines) → front_of stage first ls ≡ all (front_lines stage first ls)
unfolding front_of front_lines
front_is stage first [] = refl
front_is stage first (line ∷ ls) = by (stage_behind stage first line) (λ later. front_is later (is_empty line) ls)
  where
    by : (o : Option Stage) → ((later : Stage) → front_of later (is_empty line) ls ≡ all (front_lines later (is_empty line) ls))
        → with_line line o (λ later. front_of later (is_empty line) ls) ≡ all (onto_line line o (λ later. front_lines later (is_empty line) ls))
    by None h = refl
    by (Some later) h = ap (λ (l : List ℕ). line ++ l) (h later)

-- ---- they are lines of a text, and all have their ends unless they are all there is

onto_ended : (line : List ℕ) (ls : Lines) → IsEndedLine line → AreLines ls → AreLines (line ∷ ls)
onto_ended line [] is h = inl is
onto_ended line (m ∷ ms) is h = (is, h)

pub front_are_lines : (stage : Stage) (first : Bool) (ls : Lines) → AreLines ls → AreLines (front_lines stage first ls)
unfolding front_lines
front_are_lines stage first [] h = tt
front_are_lines stage first (line ∷ []) h = by (stage_behind stage first line)
  where
    by : (o : Option Stage) → AreLines (onto_line line o (λ later. front_lines later (is_empty line) []))
    by None = tt
    by (Some later) = h
front_are_lines stage first (line ∷ m ∷ ms) h = by (stage_behind stage first line) (λ later. front_are_lines later (is_empty line) (m ∷ ms) h.1)
  where
    by : (o : Option Stage) → ((later : Stage) → AreLines (front_lines later (is_empty line) (m ∷ ms))) → AreLines (onto_line line o (λ later. front_lines later (is_empty line) (m ∷ ms)))
    by None g = tt
    by (Some later) g = onto_ended line (front_lines later (is_empty line) (m ∷ ms)) h.0 (g later)

abbrev pub AllOrEnded : Stage → Bool → Lines → Type 0
AllOrEnded stage first ls = (front_of stage first ls ≡ all ls) ⊎ AllByRecursion IsEndedLine (front_lines stage first ls)

pub all_or_ended : (stage : Stage) (first : Bool) (ls : Lines) → AreLines ls → AllOrEnded stage first ls
unfolding front_of front_lines
all_or_ended stage first [] h = inl refl
all_or_ended stage first (line ∷ []) h = by (stage_behind stage first line)
  where
    by : (o : Option Stage) → (with_line line o (λ later. front_of later (is_empty line) []) ≡ line ++ []) ⊎ AllByRecursion IsEndedLine (onto_line line o (λ later. front_lines later (is_empty line) []))
    by None = inr tt
    by (Some later) = inl refl
all_or_ended stage first (line ∷ m ∷ ms) h = by (stage_behind stage first line) (λ later. all_or_ended later (is_empty line) (m ∷ ms) h.1)
  where
    on : (later : Stage) → AllOrEnded later (is_empty line) (m ∷ ms)
        → (line ++ front_of later (is_empty line) (m ∷ ms) ≡ line ++ all (m ∷ ms)) ⊎ AllByRecursion IsEndedLine (line ∷ front_lines later (is_empty line) (m ∷ ms))
    on later (inl e) = inl (ap (λ (l : List ℕ). line ++ l) e)
    on later (inr g) = inr (h.0, g)

    by : (o : Option Stage) → ((later : Stage) → AllOrEnded later (is_empty line) (m ∷ ms))
        → (with_line line o (λ later. front_of later (is_empty line) (m ∷ ms)) ≡ line ++ all (m ∷ ms)) ⊎ AllByRecursion IsEndedLine (onto_line line o (λ later. front_lines later (is_empty line) (m ∷ ms)))
    by None g = inr tt
    by (Some later) g = on later (g later)

-- ---- the records of them and of lines behind them

-- lines of a block, and these lines: they have no record, or that of a block, which lines behind them go on with or don't
pub data Front (pre ls : Lines) : Type 0 where
  none : contents_in pre (map bare ls) ≡ [] → Front pre ls
  shut : (block : Lines) → ((more : Lines) → contents_in pre (map bare ls ++ more) ≡ said block ++ contents more) → Front pre ls
  goes_on : (block : Lines) → ((more : Lines) → contents_in pre (map bare ls ++ more) ≡ contents_in block more) → Front pre ls

-- empty lines alone come behind the first record
gone : (first : Bool) (ls : Lines) → AreLines ls → (more : Lines) → contents (map bare (front_lines Behind first ls) ++ more) ≡ contents more
unfolding front_lines
gone first [] h more = refl
gone first (line ∷ ls) h more = by (is_empty line) refl (gone (is_empty line) ls (others line ls h) more)
  where
    empty_line : Seen line → is_empty line ≡ true → bare line ≡ []
    empty_line (blank e no_line hash space) is = no_line
    empty_line (filled b bs cs e g full) is = absurd (let no : false ≡ true = sym full ∙ is in cc)

    by : (t : Bool) → is_empty line ≡ t → contents (map bare (front_lines Behind (is_empty line) ls) ++ more) ≡ contents more
        → contents (map bare (onto_line line (cond t (Some Behind) None) (λ later. front_lines later (is_empty line) ls)) ++ more) ≡ contents more
    by true e g = ap (λ (l : List ℕ). contents_in [] (l ∷ map bare (front_lines Behind (is_empty line) ls) ++ more)) (empty_line (seen line (first_alone line ls h)) e) ∙ g
    by false e g = refl

-- what the lines of a block are at a stage
pub record AreBefore (first : Bool) (pre : Lines) : Type 0 where
  pub none : has_kept true pre ≡ false
  pub at : first ≡ is_none pre
  pub some : AllByRecursion is_no_blank pre

abbrev pub Stands : Stage → Bool → Lines → Type 0
Stands Before first pre = AreBefore first pre
Stands Within first pre = ⊤
Stands Behind first pre = ⊥

-- an empty line before the others
blank_on : (pre : Lines) (line : List ℕ) (ls : Lines) → bare line ≡ [] → said pre ≡ [] → Front [] ls → Front pre (line ∷ ls)
blank_on pre line ls empty nothing h = by h
  where
    is : (more : Lines) → contents_in pre (bare line ∷ more) ≡ contents more
    is more = ap (λ (l : List ℕ). contents_in pre (l ∷ more)) empty ∙ ap (λ (x : List Lines). x ++ contents more) nothing

    by : Front [] ls → Front pre (line ∷ ls)
    by (none e) = none (is (map bare ls) ∙ e)
    by (shut block e) = shut block (λ more. is (map bare ls ++ more) ∙ e more)
    by (goes_on block e) = goes_on block (λ more. is (map bare ls ++ more) ∙ e more)

filled_on : (pre : Lines) (line : List ℕ) (ls : Lines) → is_no_blank (bare line) → Front (pre ++ bare line ∷ []) ls → Front pre (line ∷ ls)
filled_on pre line ls some h = by h
  where
    is : (more : Lines) → contents_in pre (bare line ∷ more) ≡ contents_in (pre ++ bare line ∷ []) more
    is more = ap (λ (t : Bool). cond t (said pre ++ contents more) (contents_in (pre ++ bare line ∷ []) more)) some

    by : Front (pre ++ bare line ∷ []) ls → Front pre (line ∷ ls)
    by (none e) = none (is (map bare ls) ∙ e)
    by (shut block e) = shut block (λ more. is (map bare ls ++ more) ∙ e more)
    by (goes_on block e) = goes_on block (λ more. is (map bare ls ++ more) ∙ e more)

abbrev Later : List ℕ → Lines → Type 0
Later line ls = (later : Stage) (pre : Lines) → Stands later (is_empty line) pre → Front pre (front_lines later (is_empty line) ls)

pub front : (stage : Stage) (first : Bool) (pre ls : Lines) → AreLines ls → Stands stage first pre → Front pre (front_lines stage first ls)
unfolding front_lines
front Before first pre [] h s = none (none_said pre s.some s.none)
front Within first pre [] h s = goes_on pre (λ more. refl)
front Behind first pre [] h s = absurd s
front Before first pre (line ∷ ls) h s = at_line (seen line (first_alone line ls h)) (λ later more is. front later (is_empty line) more ls (others line ls h) is)
  where
    kept_it : (t : Bool) → is_kept first line ≡ t → is_no_blank (bare line) → is_kept first line ≡ counts first (bare line) → is_empty line ≡ false → Later line ls
        → Front pre (line ∷ front_lines (cond t Within Before) (is_empty line) ls)
    kept_it true e some same full later = filled_on pre line (front_lines Within (is_empty line) ls) some (later Within (pre ++ bare line ∷ []) tt)
    kept_it false e some same full later =
        filled_on pre line (front_lines Before (is_empty line) ls) some
        (later Before (pre ++ bare line ∷ []) (record {
          none = kept_more true pre (bare line) ∙ or_false (has_kept true pre) (counts (is_none pre) (bare line)) s.none (ap (λ (t : Bool). counts t (bare line)) (sym s.at) ∙ sym same ∙ e);
          at = full ∙ sym (none_more pre (bare line));
          some = all_more pre (bare line) s.some some;
        }))

    at_line : Seen line → Later line ls → Front pre (line ∷ front_lines (cond (is_kept first line) Within Before) (is_empty line) ls)
    at_line (blank e no_line hash space) later =
        subst (λ (t : Bool). Front pre (line ∷ front_lines (cond t Within Before) (is_empty line) ls)) (sym (not_kept first line e))
        (blank_on pre line (front_lines Before (is_empty line) ls) no_line (none_said pre s.some s.none) (later Before [] (record { none = refl; at = e; some = tt })))
    at_line (filled b bs cs e bare_is full) later = kept_it (is_kept first line) refl (no_blank line b cs bare_is) (same_count first line b bs cs e bare_is full) full later
front Within first pre (line ∷ ls) h s = spaced (begins_with 32 line) refl (seen line (first_alone line ls h)) (front Within (is_empty line) (pre ++ bare line ∷ []) ls (others line ls h) tt)
  where
    emptied : (t : Bool) → is_empty line ≡ t → Seen line → Front pre (onto_line line (cond t (Some Behind) None) (λ later. front_lines later (is_empty line) ls))
    emptied true e (blank is no_line hash space) =
        shut pre (λ more.
        ap (λ (l : List ℕ). contents_in pre (l ∷ map bare (front_lines Behind (is_empty line) ls) ++ more)) no_line
        ∙ ap (λ (x : List Lines). said pre ++ x) (gone (is_empty line) ls (others line ls h) more))
    emptied true e (filled b bs cs is bare_is full) = absurd (let no : false ≡ true = sym full ∙ e in cc)
    emptied false e seen_line = goes_on pre (λ more. refl)

    no_line_is : Seen line → begins_with 32 line ≡ true → is_no_blank (bare line)
    no_line_is (blank is no_line hash space) e = absurd (let no : false ≡ true = sym space ∙ e in cc)
    no_line_is (filled b bs cs is bare_is full) e = no_blank line b cs bare_is

    spaced : (t : Bool) → begins_with 32 line ≡ t → Seen line → Front (pre ++ bare line ∷ []) (front_lines Within (is_empty line) ls)
        → Front pre (onto_line line (cond t (Some Within) (cond (is_empty line) (Some Behind) None)) (λ later. front_lines later (is_empty line) ls))
    spaced true e is later = filled_on pre line (front_lines Within (is_empty line) ls) (no_line_is is e) later
    spaced false e is later = emptied (is_empty line) refl is
front Behind first pre (line ∷ ls) h s = absurd s

pub at_start : AreBefore true []
at_start = record { none = refl; at = refl; some = tt }
