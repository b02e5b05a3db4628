-- A stanza has one record at most.
use Rattle.std.proofs.Common.{◌≡◌, ℕ, ◌≤◌, Bool, true, false, cond, ◌&&◌, List, [], ◌∷◌, ◌++◌, map, length, refl, sym, ap, subst, ◌∙◌, append-nil, arith, inl, inr}
use Rattle.std.specs.Prelude.{◌==◌, ◌||◌, ◌⊎◌, ⊤}
use Rattle.std.specs.List.{onto_first, AllByRecursion}
use Rattle.sorting.specs.Stanzas.{ended_lines, is_empty, is_kept, behind, unbegun, ends_stanza, before_first, stanzas_from, stanzas}
use Rattle.sorting.specs.Reads.{record_lines}
use Rattle.sorting.specs.declared.stanzas.Begun.{Begun}
use Rattle.sorting.proofs.Contents.{Lines, said, contents_in, contents, records_are, none_said, one_said, has_kept, is_none, is_no_blank, counts, kept_more, none_more, or_false, all_more}
use Rattle.sorting.proofs.LinesOf.{all, bare, AreLines, IsEndedLine, Seen, blank, filled, seen, same_count, not_kept, no_blank, are_lines, first_alone, others, lines_are}

-- ---- the lines of each stanza

unfoldable groups : Begun → Lines → List Lines
groups begun [] = []
groups begun (line ∷ ls) = cond (ends_stanza begun line) ((line ∷ []) ∷ groups unbegun ls) (onto_first line (groups (behind begun line) ls))

onto_texts : (line : List ℕ) (gs : List Lines) → before_first line (map all gs) ≡ map all (onto_first line gs)
onto_texts line [] = ap (λ (l : List ℕ). l ∷ []) (sym (append-nil line))
onto_texts line (g ∷ gs) = refl

stanzas_are : (begun : Begun) (ls : Lines) → stanzas_from begun ls ≡ map all (groups begun ls)
unfolding stanzas_from groups
stanzas_are begun [] = refl
stanzas_are begun (line ∷ ls) = by (ends_stanza begun line) (stanzas_are unbegun ls) (stanzas_are (behind begun line) ls)
  where
    by : (t : Bool) → stanzas_from unbegun ls ≡ map all (groups unbegun ls) → stanzas_from (behind begun line) ls ≡ map all (groups (behind begun line) ls)
        → cond t (line ∷ stanzas_from unbegun ls) (before_first line (stanzas_from (behind begun line) ls)) ≡ map all (cond t ((line ∷ []) ∷ groups unbegun ls) (onto_first line (groups (behind begun line) ls)))
    by true h g = λ i. sym (append-nil line) i ∷ h i
    by false h g = ap (before_first line) g ∙ onto_texts line (groups (behind begun line) ls)

-- ---- they are lines of a text

onto_lines : (line : List ℕ) (gs : List Lines) → AreLines (line ∷ []) → ((g : Lines) (more : List Lines) → gs ≡ g ∷ more → IsEndedLine line) → AllByRecursion AreLines gs → AllByRecursion AreLines (onto_first line gs)
onto_lines line [] one ended h = (one, tt)
onto_lines line ([] ∷ gs) one ended h = (one, h.1)
onto_lines line ((m ∷ ms) ∷ gs) one ended h = ((ended (m ∷ ms) gs refl, h.0), h.1)

ended_first : (begun : Begun) (line : List ℕ) (ls : Lines) → AreLines (line ∷ ls) → (g : Lines) (more : List Lines) → groups begun ls ≡ g ∷ more → IsEndedLine line
unfolding groups
ended_first begun line [] h g more e = absurd (cc)
ended_first begun line (m ∷ ls) h g more e = h.0

groups_lines : (begun : Begun) (ls : Lines) → AreLines ls → AllByRecursion AreLines (groups begun ls)
unfolding groups
groups_lines begun [] h = tt
groups_lines begun (line ∷ ls) h = by (ends_stanza begun line) (groups_lines unbegun ls (others line ls h)) (groups_lines (behind begun line) ls (others line ls h))
  where
    by : (t : Bool) → AllByRecursion AreLines (groups unbegun ls) → AllByRecursion AreLines (groups (behind begun line) ls)
        → AllByRecursion AreLines (cond t ((line ∷ []) ∷ groups unbegun ls) (onto_first line (groups (behind begun line) ls)))
    by true a b = (first_alone line ls h, a)
    by false a b = onto_lines line (groups (behind begun line) ls) (first_alone line ls h) (ended_first (behind begun line) line ls h) b

-- ---- one record each

abbrev Few : Lines → Type 0
Few g = length (contents (map bare g)) ≤ 1

-- the first of them goes on behind lines of a block
abbrev FewIn : Lines → List Lines → Type 0
FewIn pre [] = ⊤
FewIn pre (g ∷ gs) = (length (contents_in pre (map bare g)) ≤ 1) × AllByRecursion Few gs

all_few : (gs : List Lines) → FewIn [] gs → AllByRecursion Few gs
all_few [] h = tt
all_few (g ∷ gs) h = h

said_few : (block : Lines) → length (said block) ≤ 1
said_few block = by (one_said block)
  where
    by : (said block ≡ []) ⊎ ((first : List ℕ) × (more : Lines) × (said block ≡ (first ∷ more) ∷ [])) → length (said block) ≤ 1
    by (inl e) = let n = ap (λ (l : List Lines). length l) e in omega (arith, n)
    by (inr h) = let n = ap (λ (l : List Lines). length l) h.2 in omega (arith, n)

last_few : (pre : Lines) (l : List ℕ) → length (contents_in pre (l ∷ [])) ≤ 1
last_few pre l = by (length l == 0)
  where
    by : (t : Bool) → length (cond t (said pre ++ contents_in [] []) (said (pre ++ l ∷ []))) ≤ 1
    by true = subst (λ (x : List Lines). length x ≤ 1) (sym (append-nil (said pre))) (said_few pre)
    by false = said_few (pre ++ l ∷ [])

blank_few : (pre : Lines) (line : List ℕ) (gs : List Lines) → bare line ≡ [] → said pre ≡ [] → FewIn [] gs → FewIn pre (onto_first line gs)
blank_few pre line [] empty none h = (last_few pre (bare line), tt)
blank_few pre line (g ∷ gs) empty none h =
    (subst (λ (x : List Lines). length x ≤ 1) (sym (ap (λ (l : List ℕ). contents_in pre (l ∷ map bare g)) empty ∙ ap (λ (x : List Lines). x ++ contents (map bare g)) none)) h.0, h.1)

filled_few : (pre : Lines) (line : List ℕ) (gs : List Lines) → is_no_blank (bare line) → FewIn (pre ++ bare line ∷ []) gs → FewIn pre (onto_first line gs)
filled_few pre line [] some h = (last_few pre (bare line), tt)
filled_few pre line (g ∷ gs) some h =
    (subst (λ (x : List Lines). length x ≤ 1) (sym (ap (λ (t : Bool). cond t (said pre ++ contents (map bare g)) (contents_in (pre ++ bare line ∷ []) (map bare g))) some)) h.0, h.1)

-- what was begun is said by the lines of the block so far
record Agrees (begun : Begun) (pre : Lines) : Type 0 where
  has : begun.has_record ≡ has_kept true pre
  at : begun.at_block ≡ is_none pre
  some : AllByRecursion is_no_blank pre

and_true : (a b : Bool) → (a && b) ≡ false → b ≡ true → a ≡ false
and_true true b h e = absurd (let no : false ≡ true = sym h ∙ e in cc)
and_true false b h e = refl

few : (begun : Begun) (pre ls : Lines) → AreLines ls → Agrees begun pre → FewIn pre (groups begun ls)
unfolding groups
few begun pre [] h a = tt
few begun pre (line ∷ ls) h a =
    by (ends_stanza begun line) refl (few unbegun [] ls (others line ls h) (record { has = refl; at = refl; some = tt }))
    (λ more is. few (behind begun line) more ls (others line ls h) is)
  where
    goes_on : Seen line → ends_stanza begun line ≡ false → ((more : Lines) → Agrees (behind begun line) more → FewIn more (groups (behind begun line) ls)) → FewIn pre (onto_first line (groups (behind begun line) ls))
    goes_on (blank empty none hash space) e later =
        let has : begun.has_record ≡ false = and_true begun.has_record (is_empty line) e empty in
        blank_few pre line (groups (behind begun line) ls) none (none_said pre a.some (sym a.has ∙ has))
        (later [] (record { has = or_false begun.has_record (is_kept begun.at_block line) has (not_kept begun.at_block line empty); at = empty; some = tt }))
    goes_on (filled b bs cs is bare_is full) e later =
        let no : is_no_blank (bare line) = no_blank line b cs bare_is in
        filled_few pre line (groups (behind begun line) ls) no
        (later (pre ++ bare line ∷ []) (record {
          has = (λ i. a.has i || (same_count begun.at_block line b bs cs is bare_is full ∙ ap (λ (t : Bool). counts t (bare line)) a.at) i) ∙ sym (kept_more true pre (bare line));
          at = full ∙ sym (none_more pre (bare line));
          some = all_more pre (bare line) a.some no;
        }))

    by : (t : Bool) → ends_stanza begun line ≡ t → FewIn [] (groups unbegun ls) → ((more : Lines) → Agrees (behind begun line) more → FewIn more (groups (behind begun line) ls))
        → FewIn pre (cond t ((line ∷ []) ∷ groups unbegun ls) (onto_first line (groups (behind begun line) ls)))
    by true e here later = (last_few pre (bare line), all_few (groups unbegun ls) here)
    by false e here later = goes_on (seen line (first_alone line ls h)) e later

text_few : (g : Lines) → AreLines g → Few g → length (record_lines (all g)) ≤ 1
text_few g h few_in = subst (λ (x : List Lines). length x ≤ 1) (sym (records_are (all g) ∙ ap contents (lines_are g h))) few_in

texts_few : (gs : List Lines) → AllByRecursion AreLines gs → AllByRecursion Few gs → AllByRecursion (λ stanza. length (record_lines stanza) ≤ 1) (map all gs)
texts_few [] h f = tt
texts_few (g ∷ gs) h f = (text_few g h.0 f.0, texts_few gs h.1 f.1)

pub one_each : (text : List ℕ) → AllByRecursion (λ stanza. length (record_lines stanza) ≤ 1) (stanzas text)
one_each text =
    let gs : List Lines = groups unbegun (ended_lines text) in
    let f = few unbegun [] (ended_lines text) (are_lines text) (record { has = refl; at = refl; some = tt }) in
    subst (AllByRecursion (λ stanza. length (record_lines stanza) ≤ 1)) (sym (stanzas_are unbegun (ended_lines text))) (texts_few gs (groups_lines unbegun (ended_lines text) (are_lines text)) (all_few gs f))
