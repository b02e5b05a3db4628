-- What a reader finds in the text of a head and stanzas.
use Rattle.std.proofs.Common.{◌≡◌, ℕ, Bool, true, false, cond, not, ◌&&◌, List, [], ◌∷◌, ◌++◌, map, length, drop, refl, sym, ap, subst, ◌∙◌, append-nil, arith, inl, inr}
use Rattle.std.specs.Prelude.{◌==◌, ◌⊎◌, Result, Ok, Err}
use Rattle.std.specs.List.{flat_map, AllByRecursion}
use Rattle.std.specs.Str.Lines.{lines}
use Rattle.std.proofs.lemmas.List.{drop_all}
use Rattle.base.specs.Ends.{begins_with}
use Rattle.ldif_lines.specs.Records.{RawRecord, records}
use Rattle.ldif_lines.specs.Folding.{raw_lines}
use Rattle.ldif.specs.Reading.{reading}
use Rattle.ldif.specs.declared.fault.LdifFaultKind.{LdifFaultKind}
use Rattle.ldif.specs.declared.record.Mode.TheVariants.{Content}
use Rattle.ldif.specs.declared.record.Record.{Record}
use Rattle.ldif.specs.declared.record.Record.TheVariants as records_of
use Rattle.sorting.specs.Stanzas.{ended_lines, stanzas_from, stanzas}
use Rattle.sorting.specs.Heads.{front, is_empty_record, is_version_in, is_version, head}
use Rattle.sorting.specs.Sorted.{lacking, gap, put_behind, joined, body, sorted_stanzas, sorted_text}
use Rattle.sorting.specs.Turns.{turns_from, with_turns, turns}
use Rattle.sorting.specs.NormalNames.{name_read}
use Rattle.sorting.specs.Orders.{AreInOrder}
use Rattle.sorting.specs.Reads.{record_lines, WithVersion, StandBehind}
use Rattle.sorting.specs.declared.heads.Stage.TheVariants.{Before}
use Rattle.sorting.proofs.InTurn.{sorted_in_order}
use Rattle.sorting.proofs.Whole.{all_lines, as_cut}
use Rattle.sorting.proofs.Contents.{Lines, whole_block, kept, some, said, contents_in, contents, one_said, records_are, BeginsPlain, block_goes_on}
use Rattle.sorting.proofs.ReadLines.{found, behind_it, joined_found}
use Rattle.sorting.proofs.LinesOf.{all, bare, AreLines, IsEndedLine, Seen, blank, filled, seen, are_lines, first_alone, lines_are, lines_before}
use Rattle.sorting.proofs.OneEach.{one_each}
use Rattle.sorting.proofs.FrontLines as fronts
use Rattle.sorting.proofs.FrontLines.{front_lines, front_is, front_are_lines, all_or_ended, Front}
use Rattle.sorting.proofs.ReadNames.{one_line, in_order, few_in_turn}

abbrev Answer : Type 0
Answer = Result Record LdifFaultKind

-- ---- the version at the head

record HasVersion (text : List ℕ) : Type 0 where
  first : RawRecord
  more : List RawRecord
  records_are : records text ≡ first ∷ more
  reads : reading Content true first.lines ≡ Ok records_of.Empty

empty_is : (x : Answer) → is_empty_record x ≡ true → x ≡ Ok records_of.Empty
empty_is (Ok records_of.Empty) h = refl
empty_is (Ok (records_of.Content dn attrs)) h = cc
empty_is (Ok (records_of.Add dn controls attrs)) h = cc
empty_is (Ok (records_of.Delete dn controls)) h = cc
empty_is (Ok (records_of.Modify dn controls mods)) h = cc
empty_is (Ok (records_of.ModRdn dn controls newrdn delete_old new_superior)) h = cc
empty_is (Err fault) h = cc

version_in : (text : List ℕ) → is_version text ≡ true → HasVersion text
unfolding is_version
version_in text h = by (records text) refl h
  where
    by : (rs : List RawRecord) → records text ≡ rs → is_version_in rs ≡ true → HasVersion text
    by [] e g = absurd (cc)
    by (r ∷ rs) e g = record { first = r; more = rs; records_are = e; reads = empty_is (reading Content true r.lines) g }

-- a block that says a version
record SaysVersion (block : Lines) : Type 0 where
  version : List ℕ
  reads : reading Content true (version ∷ []) ≡ Ok records_of.Empty
  kept_is : kept (whole_block block) ≡ version ∷ []

some_is : (ls said_lines : Lines) → some ls ≡ said_lines ∷ [] → ls ≡ said_lines
some_is [] said_lines h = cc
some_is (l ∷ ls) said_lines h = cc

says_version : (block : Lines) (first : Lines) (more : List Lines) → said block ≡ first ∷ more → reading Content true first ≡ Ok records_of.Empty → SaysVersion block
says_version block first more is reads = by (one_said block)
  where
    by : (said block ≡ []) ⊎ ((l : List ℕ) × (ls : Lines) × (said block ≡ (l ∷ ls) ∷ [])) → SaysVersion block
    by (inl e) = absurd (let no : first ∷ more ≡ [] = sym is ∙ e in cc)
    by (inr h) =
        let same : first ≡ h.0 ∷ h.1 = let both : first ∷ more ≡ (h.0 ∷ h.1) ∷ [] = sym is ∙ h.2 in cc in
        let alone : h.1 ≡ [] = one_line h.0 h.1 (ap (reading Content true) (sym same) ∙ reads) in
        record {
          version = h.0;
          reads = ap (λ (ls : Lines). reading Content true (h.0 ∷ ls)) (sym alone) ∙ ap (reading Content true) (sym same) ∙ reads;
          kept_is = some_is (kept (whole_block block)) (h.0 ∷ []) (h.2 ∙ ap (λ (ls : Lines). (h.0 ∷ ls) ∷ []) alone);
        }

-- ---- what begins with no space

lines_plain : (text : List ℕ) → begins_with 32 text ≡ false → BeginsPlain (lines text)
lines_plain text h =
    subst BeginsPlain (sym (ap lines (sym (all_lines text)) ∙ lines_are (ended_lines text) (are_lines text)))
    (by (ended_lines text) (are_lines text) (ap (begins_with 32) (all_lines text) ∙ h))
  where
    first_plain : (line : List ℕ) (rest : List ℕ) → Seen line → begins_with 32 (line ++ rest) ≡ false → begins_with 32 (bare line) ≡ false
    first_plain line rest (blank is no_line hash space) g = ap (begins_with 32) no_line
    first_plain line rest (filled b bs cs is bare_is full) g = ap (begins_with 32) bare_is ∙ ap (λ (l : List ℕ). begins_with 32 (l ++ rest)) (sym is) ∙ g

    by : (ls : Lines) → AreLines ls → begins_with 32 (all ls) ≡ false → BeginsPlain (map bare ls)
    by [] are g = tt
    by (line ∷ ls) are g = first_plain line (all ls) (seen line (first_alone line ls are)) g

joined_plain : (p : List ℕ) (ps : Lines) → begins_with 32 p ≡ false → begins_with 32 (joined (p ∷ ps)) ≡ false
unfolding joined lacking
joined_plain [] [] h = refl
joined_plain [] (q ∷ ps) h = refl
joined_plain (b ∷ bs) [] h = h
joined_plain (b ∷ bs) (q ∷ ps) h = h

-- ---- stanzas behind a head

each_found : (ps : Lines) → flat_map found ps ≡ flat_map record_lines ps
each_found [] = refl
each_found (p ∷ ps) = λ i. sym (records_are p) i ++ each_found ps i

joined_records : (ps : Lines) → found (joined ps) ≡ flat_map record_lines ps
joined_records ps = joined_found ps ∙ each_found ps

-- behind a head that isn't empty
behind_some : (head : List ℕ) (said_lines parts : List Lines) → (head ≡ [] → ⊥) → (version : List ℕ) → reading Content true (version ∷ []) ≡ Ok records_of.Empty → WithVersion version said_lines parts → StandBehind head said_lines parts
behind_some [] said_lines parts some_byte version reads h = absurd (some_byte refl)
behind_some (b ∷ bs) said_lines parts some_byte version reads h = (version, reads, h)

abbrev Stand : List ℕ → Lines → Type 0
Stand head_text ps = StandBehind head_text (record_lines (put_behind head_text ps)) (flat_map record_lines ps)

no_head : (ps : Lines) → Stand [] ps
no_head ps = records_are (([] ++ gap [] ps) ++ joined ps) ∙ ap (λ (l : List ℕ). found (l ++ joined ps)) (none ps) ∙ joined_records ps
  where
    none : (qs : Lines) → gap [] qs ≡ []
    none [] = refl
    none (q ∷ qs) = refl

-- a front that says a version
module _ (text : List ℕ) (is : is_version (front text) ≡ true) where
  abbrev front_of_text : Lines
  front_of_text = front_lines Before true (ended_lines text)

  abbrev Says : Lines → Type 0
  Says block = (s : SaysVersion block) × (record_lines (front text) ≡ (s.version ∷ []) ∷ [])

  front_records : record_lines (front text) ≡ contents (map bare front_of_text)
  front_records =
      records_are (front text) ∙ ap found (front_is Before true (ended_lines text))
      ∙ ap contents (lines_are front_of_text (front_are_lines Before true (ended_lines text) (are_lines text)))

  shut_is : (block : Lines) → ((more : Lines) → contents_in [] (map bare front_of_text ++ more) ≡ said block ++ contents more) → record_lines (front text) ≡ said block
  shut_is block e = front_records ∙ ap contents (sym (append-nil (map bare front_of_text))) ∙ e [] ∙ append-nil (said block)

  open_is : (block : Lines) → ((more : Lines) → contents_in [] (map bare front_of_text ++ more) ≡ contents_in block more) → record_lines (front text) ≡ said block
  open_is block e = front_records ∙ ap contents (sym (append-nil (map bare front_of_text))) ∙ e []

  first_record : HasVersion (front text)
  first_record = version_in (front text) is

  says : (block : Lines) → record_lines (front text) ≡ said block → Says block
  says block e =
      let v = first_record in
      let first : said block ≡ v.first.lines ∷ map raw_lines v.more = sym e ∙ ap (map raw_lines) v.records_are in
      let s = says_version block v.first.lines (map raw_lines v.more) first v.reads in
      (s, e ∙ ap some s.kept_is)

  some_front : front text ≡ [] → ⊥
  some_front none = let v = first_record in let no : records [] ≡ v.first ∷ v.more = sym (ap records none) ∙ v.records_are in never v.first v.more no
    where
      never : (r : RawRecord) (rs : List RawRecord) → records [] ≡ r ∷ rs → ⊥
      never r rs e = let no : [] ≡ r.lines ∷ map raw_lines rs = sym (records_are []) ∙ ap (map raw_lines) e in cc

  some_length : (length (front text) == 0) ≡ false
  some_length = by (front text) some_front
    where
      by : (l : List ℕ) → (l ≡ [] → ⊥) → (length l == 0) ≡ false
      by [] h = absurd (h refl)
      by (b ∷ bs) h = grind (arith)

  -- an empty line stands between
  apart : (block ps : Lines) → Says block → record_lines (put_behind (front text) ps) ≡ record_lines (front text) ++ flat_map record_lines ps → Stand (front text) ps
  apart block ps s e = behind_some (front text) _ _ some_front s.0.version s.0.reads (inl (e ∙ ap (λ (x : List Lines). x ++ flat_map record_lines ps) s.1))

  -- nothing stands between
  next_to : (block ps : Lines) → Says block → record_lines (put_behind (front text) ps) ≡ contents_in block (lines (joined ps)) → BeginsPlain (lines (joined ps)) → Stand (front text) ps
  next_to block ps s e plain =
      behind_some (front text) _ _ some_front s.0.version s.0.reads
      (subst (λ (x : List Lines). WithVersion s.0.version x (flat_map record_lines ps)) (sym e)
      (subst (λ (x : List Lines). WithVersion s.0.version (contents_in block (lines (joined ps))) x) (joined_records ps) (block_goes_on block s.0.version s.0.kept_is (lines (joined ps)) plain)))

  nothing_behind : (block : Lines) → Says block → Stand (front text) []
  unfolding joined
  nothing_behind block s =
      apart block [] s (ap record_lines (append-nil (front text ++ []) ∙ append-nil (front text)) ∙ sym (append-nil (record_lines (front text))))

  spaced : (block : Lines) (p : List ℕ) (ps : Lines) → Says block → begins_with 32 p ≡ true → Stand (front text) (p ∷ ps)
  spaced block p ps s space =
      let lacks : gap (front text) (p ∷ ps) ≡ lacking (front text) = λ i. cond (not (some_length i) && space i) (lacking (front text)) [] in
      apart block (p ∷ ps) s
      (ap (λ (l : List ℕ). record_lines ((front text ++ l) ++ joined (p ∷ ps))) lacks
      ∙ records_are ((front text ++ lacking (front text)) ++ joined (p ∷ ps))
      ∙ behind_it (front text) (joined (p ∷ ps))
      ∙ (λ i. sym (records_are (front text)) i ++ joined_records (p ∷ ps) i))

  -- what is found of stanzas directly behind it
  directly : AllByRecursion IsEndedLine front_of_text → (p : List ℕ) (ps : Lines) → begins_with 32 p ≡ false
      → record_lines (put_behind (front text) (p ∷ ps)) ≡ contents_in [] (map bare front_of_text ++ lines (joined (p ∷ ps)))
  directly ended p ps space =
      let none : gap (front text) (p ∷ ps) ≡ [] = λ i. cond (not (some_length i) && space i) (lacking (front text)) [] in
      ap (λ (l : List ℕ). record_lines ((front text ++ l) ++ joined (p ∷ ps))) none
      ∙ ap (λ (l : List ℕ). record_lines (l ++ joined (p ∷ ps))) (append-nil (front text) ∙ front_is Before true (ended_lines text))
      ∙ records_are (all front_of_text ++ joined (p ∷ ps))
      ∙ ap contents (lines_before front_of_text (joined (p ∷ ps)) ended)

  stands_ended : AllByRecursion IsEndedLine front_of_text → (p : List ℕ) (ps : Lines) → Front [] front_of_text → Stand (front text) (p ∷ ps)
  stands_ended ended p ps h = by h (begins_with 32 p) refl
    where
      by : Front [] front_of_text → (t : Bool) → begins_with 32 p ≡ t → Stand (front text) (p ∷ ps)
      by (fronts.none e) t space =
          let v = first_record in absurd (let no : [] ≡ v.first.lines ∷ map raw_lines v.more = sym (front_records ∙ e) ∙ ap (map raw_lines) v.records_are in cc)
      by (fronts.shut block e) true space = spaced block p ps (says block (shut_is block e)) space
      by (fronts.shut block e) false space =
          let s = says block (shut_is block e) in
          apart block (p ∷ ps) s (directly ended p ps space ∙ e (lines (joined (p ∷ ps))) ∙ (λ i. sym (shut_is block e) i ++ joined_records (p ∷ ps) i))
      by (fronts.goes_on block e) true space = spaced block p ps (says block (open_is block e)) space
      by (fronts.goes_on block e) false space =
          next_to block (p ∷ ps) (says block (open_is block e)) (directly ended p ps space ∙ e (lines (joined (p ∷ ps)))) (lines_plain (joined (p ∷ ps)) (joined_plain p ps space))

  stands_alone : Front [] front_of_text → Stand (front text) []
  stands_alone (fronts.none e) =
      let v = first_record in absurd (let no : [] ≡ v.first.lines ∷ map raw_lines v.more = sym (front_records ∙ e) ∙ ap (map raw_lines) v.records_are in cc)
  stands_alone (fronts.shut block e) = nothing_behind block (says block (shut_is block e))
  stands_alone (fronts.goes_on block e) = nothing_behind block (says block (open_is block e))

  stands : (ps : Lines) → (drop (length (front text)) text ≡ [] → ps ≡ []) → Front [] front_of_text → Stand (front text) ps
  stands [] some_body h = stands_alone h
  stands (p ∷ ps) some_body h = by (all_or_ended Before true (ended_lines text) (are_lines text))
    where
      by : fronts.AllOrEnded Before true (ended_lines text) → Stand (front text) (p ∷ ps)
      by (inl e) =
          let whole : front text ≡ text = e ∙ all_lines text in
          let none : drop (length (front text)) text ≡ [] = ap (λ (l : List ℕ). drop (length l) text) whole ∙ drop_all (length text) text (omega arith) in
          absurd (let no : p ∷ ps ≡ [] = some_body none in cc)
      by (inr ended) = stands_ended ended p ps h

pub stand_behind : (text : List ℕ) (ps : Lines) → (body text ≡ [] → ps ≡ []) → Stand (head text) ps
stand_behind text ps = by (is_version (front text)) refl
  where
    by : (t : Bool) → is_version (front text) ≡ t → (drop (length (cond t (front text) [])) text ≡ [] → ps ≡ []) → Stand (cond t (front text) []) ps
    by true e some_body = stands text e ps some_body (fronts.front Before true [] (ended_lines text) (are_lines text) (fronts.at_start))
    by false e some_body = no_head ps

none_in_turn : sorted_stanzas [] ≡ []
unfolding turns turns_from with_turns
none_in_turn = refl

none_there : (text : List ℕ) → text ≡ [] → stanzas text ≡ []
unfolding stanzas_from ended_lines
none_there text e = ap stanzas e

pub sorted_stand : (text : List ℕ) → StandBehind (head text) (record_lines (sorted_text text)) (flat_map record_lines (sorted_stanzas (stanzas (body text))))
unfolding sorted_text
sorted_stand text = stand_behind text (sorted_stanzas (stanzas (body text))) (λ e. ap sorted_stanzas (none_there (body text) e) ∙ none_in_turn)

pub unsorted_stand : (text : List ℕ) → StandBehind (head text) (record_lines text) (flat_map record_lines (stanzas (body text)))
unsorted_stand text =
    subst (λ (l : List ℕ). StandBehind (head text) (record_lines l) (flat_map record_lines (stanzas (body text)))) (as_cut text)
    (stand_behind text (stanzas (body text)) (none_there (body text)))

pub records_in_order : (text : List ℕ) → AreInOrder (map name_read (records (sorted_text text)))
records_in_order text =
    in_order (head text) (sorted_text text) (sorted_stanzas (stanzas (body text))) (few_in_turn (stanzas (body text)) (one_each (body text))) (sorted_in_order (stanzas (body text))) (sorted_stand text)
