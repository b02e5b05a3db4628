-- A text whose stanzas are in order is printed byte for byte.
use Rattle.std.proofs.Common.{◌≡◌, ℕ, ◌-◌, ◌<◌, Bool, true, false, cond, not, ◌&&◌, nat_eq, List, [], ◌∷◌, ◌++◌, length, length-append, drop, Option, Some, None, refl, sym, ap, subst, ◌∙◌, append_assoc, append-nil, arith}
use Rattle.std.specs.Prelude.{◌==◌, ◌||◌, ⊤}
use Rattle.std.specs.List.{flat_map, onto_first}
use Rattle.std.specs.Str.{bytes_eq}
use Rattle.std.specs.Cmp.Lexicographic.{bytes_decides, pointwise}
use Rattle.std.proofs.lemmas.Bool.{eqb-true}
use Rattle.std.proofs.Math.Seq.{drop-append_seam}
use Rattle.base.specs.Ends.{begins_with}
use Rattle.sorting.specs.Stanzas.{ended_lines, is_empty, is_kept, behind, unbegun, ends_stanza, before_first, stanzas_from, stanzas}
use Rattle.sorting.specs.Heads.{stage_behind, with_line, front_of, front, is_version, head}
use Rattle.sorting.specs.Orders.{AreInOrder}
use Rattle.sorting.specs.Sorted.{ends_in, lacking, gap, put_behind, joined, body, names_of, sorted_text}
use Rattle.sorting.specs.declared.heads.Stage.{Stage}
use Rattle.sorting.specs.declared.heads.Stage.TheVariants.{Before, Within, Behind}
use Rattle.sorting.specs.declared.stanzas.Begun.{Begun}
use Rattle.sorting.specs.inner.Stanzas.{with_taken}
use Rattle.sorting.proofs.Cutting.{taken_more, taken_of}
use Rattle.sorting.proofs.Kept.{kept}
use Rattle.sorting.proofs.Texts.{left, right}

abbrev pub all : List (List ℕ) → List ℕ
all texts = flat_map (λ text. text) texts

-- ---- nothing is lost where a text is cut

onto_all : (b : ℕ) (lines : List (List ℕ)) → all (onto_first b lines) ≡ b ∷ all lines
onto_all b [] = refl
onto_all b (line ∷ lines) = refl

pub all_lines : (text : List ℕ) → all (ended_lines text) ≡ text
unfolding ended_lines
all_lines [] = refl
all_lines (b ∷ bs) = by (b == 10) refl (all_lines bs)
  where
    by : (t : Bool) → (b == 10) ≡ t → all (ended_lines bs) ≡ bs → all (cond t ((10 ∷ []) ∷ ended_lines bs) (onto_first b (ended_lines bs))) ≡ b ∷ bs
    by true e h = λ i. sym (eqb-true b 10 e) i ∷ h i
    by false e h = onto_all b (ended_lines bs) ∙ ap (λ (l : List ℕ). b ∷ l) h

before_all : (line : List ℕ) (ps : List (List ℕ)) → all (before_first line ps) ≡ line ++ all ps
before_all line [] = refl
before_all line (p ∷ ps) = append_assoc line p (all ps)

whole_stanzas : (begun : Begun) (lines : List (List ℕ)) → all (stanzas_from begun lines) ≡ all lines
unfolding stanzas_from
whole_stanzas begun [] = refl
whole_stanzas begun (line ∷ lines) = by (ends_stanza begun line) (whole_stanzas unbegun lines) (whole_stanzas (behind begun line) lines)
  where
    by : (t : Bool) → all (stanzas_from unbegun lines) ≡ all lines → all (stanzas_from (behind begun line) lines) ≡ all lines
        → all (cond t (line ∷ stanzas_from unbegun lines) (before_first line (stanzas_from (behind begun line) lines))) ≡ line ++ all lines
    by true h g = ap (λ (l : List ℕ). line ++ l) h
    by false h g = before_all line (stanzas_from (behind begun line) lines) ∙ ap (λ (l : List ℕ). line ++ l) g

-- ---- the head and the body

record Begins (front text : List ℕ) : Type 0 where
  rest : List ℕ
  parts : text ≡ front ++ rest

front_begins : (stage : Stage) (first : Bool) (lines : List (List ℕ)) → Begins (front_of stage first lines) (all lines)
unfolding front_of
front_begins stage first [] = record { rest = []; parts = refl }
front_begins stage first (line ∷ lines) = by (stage_behind stage first line) (λ later. front_begins later (is_empty line) lines)
  where
    by : (o : Option Stage) → ((later : Stage) → Begins (front_of later (is_empty line) lines) (all lines)) → Begins (with_line line o (λ later. front_of later (is_empty line) lines)) (line ++ all lines)
    by None h = record { rest = line ++ all lines; parts = refl }
    by (Some later) h = record {
      rest = (h later).rest;
      parts = ap (λ (l : List ℕ). line ++ l) (h later).parts ∙ sym (append_assoc line (front_of later (is_empty line) lines) (h later).rest);
    }

head_begins : (text : List ℕ) → Begins (head text) text
head_begins text = by (is_version (front text))
  where
    by : (t : Bool) → Begins (cond t (front text) []) text
    by true = let h = front_begins Before true (ended_lines text) in record { rest = h.rest; parts = sym (all_lines text) ∙ h.parts }
    by false = record { rest = text; parts = refl }

head_and_body : (text : List ℕ) → head text ++ body text ≡ text
head_and_body text =
    let h = head_begins text in
    let is : body text ≡ h.rest = ap (drop (length (head text))) h.parts ∙ drop-append_seam (head text) h.rest in
    ap (λ (l : List ℕ). head text ++ l) is ∙ sym h.parts

-- ---- each stanza but the last has an empty line at its end

AllClosed : List (List ℕ) → Type 0
AllClosed [] = ⊤
AllClosed (p ∷ []) = ⊤
AllClosed (p ∷ q ∷ ps) = (lacking p ≡ []) × AllClosed (q ∷ ps)

joined_all : (ps : List (List ℕ)) → AllClosed ps → joined ps ≡ all ps
unfolding joined AllClosed
joined_all [] closed = refl
joined_all (p ∷ []) closed = refl
joined_all (p ∷ q ∷ ps) closed =
    (λ i. (p ++ closed.0 i) ++ joined_all (q ∷ ps) closed.1 i) ∙ append_assoc p [] (all (q ∷ ps))

-- a line with its end
record IsEnded (line : List ℕ) : Type 0 where
  text : List ℕ
  is : line ≡ text ++ 10 ∷ []

-- lines that aren't empty, each but the last with its end
AllEnded : List (List ℕ) → Type 0
AllEnded [] = ⊤
AllEnded (line ∷ []) = 0 < length line
AllEnded (line ∷ other ∷ lines) = (0 < length line) × IsEnded line × AllEnded (other ∷ lines)

lines_ended : (text : List ℕ) → AllEnded (ended_lines text)
unfolding ended_lines AllEnded
lines_ended [] = tt
lines_ended (b ∷ bs) = by (b == 10) (ended_lines bs) (lines_ended bs)
  where
    by : (t : Bool) (lines : List (List ℕ)) → AllEnded lines → AllEnded (cond t ((10 ∷ []) ∷ lines) (onto_first b lines))
    by true [] h = omega arith
    by true (line ∷ lines) h = (omega arith, record { text = []; is = refl }, h)
    by false [] h = omega arith
    by false (line ∷ []) h = omega arith
    by false (line ∷ other ∷ lines) h = (omega arith, record { text = b ∷ h.1.text; is = ap (λ (l : List ℕ). b ∷ l) h.1.is }, h.2)

rest_ended : (line : List ℕ) (lines : List (List ℕ)) → AllEnded (line ∷ lines) → AllEnded lines
unfolding AllEnded
rest_ended line [] h = tt
rest_ended line (other ∷ lines) h = h.2

some_bytes : (line : List ℕ) (lines : List (List ℕ)) → AllEnded (line ∷ lines) → 0 < length line
unfolding AllEnded
some_bytes line [] h = h
some_bytes line (other ∷ lines) h = h.0

pub ends_seam : (text end : List ℕ) → ends_in (text ++ end) end ≡ pointwise nat_eq end end
ends_seam text end =
    let long = length-append text end in
    let count : length (text ++ end) - length end ≡ length text = omega (arith, long) in
    ap (pointwise nat_eq end) (ap (λ (n : ℕ). drop n (text ++ end)) count ∙ drop-append_seam text end)

-- what it lacks where it isn't closed
abbrev unclosed : List ℕ → List ℕ
unclosed text = cond (ends_in text (10 ∷ [])) (10 ∷ []) (cond (ends_in text (13 ∷ [])) (13 ∷ 10 ∷ 10 ∷ []) (10 ∷ 10 ∷ []))

feeds_end : (text : List ℕ) → lacking (text ++ 10 ∷ 10 ∷ []) ≡ []
unfolding lacking
feeds_end text = ap (λ (t : Bool). cond (t || ends_in (text ++ 10 ∷ 10 ∷ []) (10 ∷ 13 ∷ 10 ∷ [])) [] (unclosed (text ++ 10 ∷ 10 ∷ []))) (ends_seam text (10 ∷ 10 ∷ []))

returns_end : (text : List ℕ) → lacking (text ++ 10 ∷ 13 ∷ 10 ∷ []) ≡ []
unfolding lacking
returns_end text =
    ap (λ (t : Bool). cond (ends_in (text ++ 10 ∷ 13 ∷ 10 ∷ []) (10 ∷ 10 ∷ []) || t) [] (unclosed (text ++ 10 ∷ 13 ∷ 10 ∷ []))) (ends_seam text (10 ∷ 13 ∷ 10 ∷ []))
    ∙ or_true (ends_in (text ++ 10 ∷ 13 ∷ 10 ∷ []) (10 ∷ 10 ∷ []))
  where
    or_true : (t : Bool) → cond {A = List ℕ} (t || true) [] (unclosed (text ++ 10 ∷ 13 ∷ 10 ∷ [])) ≡ []
    or_true true = refl
    or_true false = refl

closed_by : (text line : List ℕ) → is_empty line ≡ true → lacking ((text ++ 10 ∷ []) ++ line) ≡ []
closed_by text line empty = by (bytes_eq line (10 ∷ [])) refl empty
  where
    by : (t : Bool) → bytes_eq line (10 ∷ []) ≡ t → (t || bytes_eq line (13 ∷ 10 ∷ [])) ≡ true → lacking ((text ++ 10 ∷ []) ++ line) ≡ []
    by true e h = ap (λ (l : List ℕ). lacking ((text ++ 10 ∷ []) ++ l)) ((bytes_decides line (10 ∷ [])).0 e) ∙ ap lacking (append_assoc text (10 ∷ []) (10 ∷ [])) ∙ feeds_end text
    by false e h = ap (λ (l : List ℕ). lacking ((text ++ 10 ∷ []) ++ l)) ((bytes_decides line (13 ∷ 10 ∷ [])).0 h) ∙ ap lacking (append_assoc text (10 ∷ []) (13 ∷ 10 ∷ [])) ∙ returns_end text

none_closed : (taken : List ℕ) → AllClosed (with_taken taken [])
unfolding AllClosed
none_closed [] = tt
none_closed (b ∷ bs) = tt

onto_closed : (p : List ℕ) (ps : List (List ℕ)) → lacking p ≡ [] → AllClosed ps → AllClosed (p ∷ ps)
unfolding AllClosed
onto_closed p [] e h = tt
onto_closed p (q ∷ ps) e h = (e, h)

later_closed : (begun : Begun) (taken line : List ℕ) (lines : List (List ℕ)) → AllEnded (line ∷ lines)
    → (((behind begun line).has_record ≡ true → IsEnded (taken ++ line)) → AllClosed (with_taken (taken ++ line) (stanzas_from (behind begun line) lines)))
    → AllClosed (with_taken (taken ++ line) (stanzas_from (behind begun line) lines))
unfolding AllEnded stanzas_from
later_closed begun taken line [] ended later = none_closed (taken ++ line)
later_closed begun taken line (other ∷ lines) ended later =
    later (λ kept_line. record { text = taken ++ ended.1.text; is = ap (λ (l : List ℕ). taken ++ l) ended.1.is ∙ sym (append_assoc taken ended.1.text (10 ∷ [])) })

all_closed : (begun : Begun) (taken : List ℕ) (lines : List (List ℕ)) → AllEnded lines → (begun.has_record ≡ true → IsEnded taken) → AllClosed (with_taken taken (stanzas_from begun lines))
unfolding stanzas_from AllClosed
all_closed begun [] [] ended has = tt
all_closed begun (t ∷ ts) [] ended has = tt
all_closed begun taken (line ∷ lines) ended has =
    by (ends_stanza begun line) refl (all_closed unbegun [] lines (rest_ended line lines ended) (λ no. cc)) (λ ends. all_closed (behind begun line) (taken ++ line) lines (rest_ended line lines ended) ends)
  where
    by : (t : Bool) → ends_stanza begun line ≡ t → AllClosed (stanzas_from unbegun lines)
        → (((behind begun line).has_record ≡ true → IsEnded (taken ++ line)) → AllClosed (with_taken (taken ++ line) (stanzas_from (behind begun line) lines)))
        → AllClosed (with_taken taken (cond t (line ∷ stanzas_from unbegun lines) (before_first line (stanzas_from (behind begun line) lines))))
    by true e here later =
        let ended_taken = has (left begun.has_record (is_empty line) e) in
        let closed : lacking (taken ++ line) ≡ [] = ap (λ (l : List ℕ). lacking (l ++ line)) ended_taken.is ∙ closed_by ended_taken.text line (right begun.has_record (is_empty line) e) in
        subst AllClosed (sym (taken_of taken line (stanzas_from unbegun lines))) (onto_closed (taken ++ line) (stanzas_from unbegun lines) closed here)
    by false e here later =
        subst AllClosed (sym (taken_more taken line (stanzas_from (behind begun line) lines) (some_bytes line lines ended))) (later_closed begun taken line lines ended later)

stanzas_closed : (text : List ℕ) → AllClosed (stanzas text)
stanzas_closed text = all_closed unbegun [] (ended_lines text) (lines_ended text) (λ no. cc)

stanzas_whole : (text : List ℕ) → joined (stanzas text) ≡ text
stanzas_whole text = joined_all (stanzas text) (stanzas_closed text) ∙ whole_stanzas unbegun (ended_lines text) ∙ all_lines text

-- ---- a head that isn't closed stands before no line that begins with a space

-- what the lines behind it need to know of what was taken
Ready : Stage → List ℕ → List (List ℕ) → Type 0
Ready stage taken [] = ⊤
Ready Before taken (line ∷ lines) = ⊤
Ready Within taken (line ∷ lines) = IsEnded taken
Ready Behind taken (line ∷ lines) = IsEnded taken × (lacking taken ≡ [])

record Stops (taken front text : List ℕ) : Type 0 where
  rest : List ℕ
  parts : text ≡ front ++ rest
  apart : begins_with 32 rest ≡ true → lacking (taken ++ front) ≡ []

onto_ended : (taken line other : List ℕ) (lines : List (List ℕ)) → AllEnded (line ∷ other ∷ lines) → IsEnded (taken ++ line)
unfolding AllEnded
onto_ended taken line other lines ended = record { text = taken ++ ended.1.text; is = ap (λ (l : List ℕ). taken ++ l) ended.1.is ∙ sym (append_assoc taken ended.1.text (10 ∷ [])) }

within : (taken line : List ℕ) (lines : List (List ℕ)) → AllEnded (line ∷ lines) → Ready Within (taken ++ line) lines
unfolding Ready
within taken line [] ended = tt
within taken line (other ∷ lines) ended = onto_ended taken line other lines ended

closed_behind : (taken line : List ℕ) → IsEnded taken → is_empty line ≡ true → lacking (taken ++ line) ≡ []
closed_behind taken line ended empty = ap (λ (l : List ℕ). lacking (l ++ line)) ended.is ∙ closed_by ended.text line empty

behind_it : (taken line : List ℕ) (lines : List (List ℕ)) → AllEnded (line ∷ lines) → IsEnded taken → is_empty line ≡ true → Ready Behind (taken ++ line) lines
unfolding Ready
behind_it taken line [] ended h empty = tt
behind_it taken line (other ∷ lines) ended h empty = (onto_ended taken line other lines ended, closed_behind taken line h empty)

begins_same : (c : ℕ) (line more : List ℕ) → 0 < length line → begins_with c (line ++ more) ≡ begins_with c line
begins_same c [] more some = absurd (omega (arith, some))
begins_same c (b ∷ bs) more some = refl

unready : (taken : List ℕ) (lines : List (List ℕ)) → Ready Before taken lines
unfolding Ready
unready taken [] = tt
unready taken (line ∷ lines) = tt

abbrev Next : List ℕ → List ℕ → List (List ℕ) → Type 0
Next taken line lines = (later : Stage) → Ready later (taken ++ line) lines → Stops (taken ++ line) (front_of later (is_empty line) lines) (all lines)

abbrev Goal : List ℕ → List ℕ → List (List ℕ) → Option Stage → Type 0
Goal taken line lines o = Stops taken (with_line line o (λ later. front_of later (is_empty line) lines)) (line ++ all lines)

stops : (stage : Stage) (first : Bool) (taken : List ℕ) (lines : List (List ℕ)) → AllEnded lines → Ready stage taken lines → Stops taken (front_of stage first lines) (all lines)
unfolding front_of Ready
stops stage first taken [] ended ready = record { rest = []; parts = refl; apart = λ no. cc }
stops stage first taken (line ∷ lines) ended ready =
    at stage ready (λ later is. stops later (is_empty line) (taken ++ line) lines (rest_ended line lines ended) is)
  where
    on : (later : Stage) → Stops (taken ++ line) (front_of later (is_empty line) lines) (all lines) → Stops taken (line ++ front_of later (is_empty line) lines) (line ++ all lines)
    on later h = record {
      rest = h.rest;
      parts = ap (λ (l : List ℕ). line ++ l) h.parts ∙ sym (append_assoc line (front_of later (is_empty line) lines) h.rest);
      apart = λ space. ap lacking (sym (append_assoc taken line (front_of later (is_empty line) lines))) ∙ h.apart space;
    }

    begun : (kept : Bool) → Next taken line lines → Goal taken line lines (Some (cond kept Within Before))
    begun true h = on Within (h Within (within taken line lines ended))
    begun false h = on Before (h Before (unready (taken ++ line) lines))

    stopped : (begins_with 32 line ≡ true → lacking taken ≡ []) → Goal taken line lines None
    stopped apart = record {
      rest = line ++ all lines;
      parts = refl;
      apart = λ space. ap lacking (append-nil taken) ∙ apart (sym (begins_same 32 line (all lines) (some_bytes line lines ended)) ∙ space);
    }

    closes : (empty : Bool) → is_empty line ≡ empty → IsEnded taken → (begins_with 32 line ≡ true → lacking taken ≡ []) → Next taken line lines → Goal taken line lines (cond empty (Some Behind) None)
    closes true e is apart h = on Behind (h Behind (behind_it taken line lines ended is e))
    closes false e is apart h = stopped apart

    goes_on : (space : Bool) → begins_with 32 line ≡ space → IsEnded taken → Next taken line lines → Goal taken line lines (cond space (Some Within) (cond (is_empty line) (Some Behind) None))
    goes_on true e is h = on Within (h Within (within taken line lines ended))
    goes_on false e is h = closes (is_empty line) refl is (λ space. let no : false ≡ true = sym e ∙ space in cc) h

    at : (s : Stage) → Ready s taken (line ∷ lines) → Next taken line lines → Goal taken line lines (stage_behind s first line)
    at Before r h = begun (is_kept first line) h
    at Within r h = goes_on (begins_with 32 line) refl r h
    at Behind r h = closes (is_empty line) refl r.0 (λ space. r.1) h

no_gap : (text : List ℕ) (ps : List (List ℕ)) → all ps ≡ body text → gap (head text) ps ≡ []
no_gap text [] is = refl
no_gap text (p ∷ ps) is = by (is_version (front text)) is
  where
    spaced : (q : List ℕ) (more : List ℕ) → begins_with 32 q ≡ true → begins_with 32 (q ++ more) ≡ true
    spaced [] more h = let no : false ≡ true = h in cc
    spaced (b ∷ bs) more h = h

    closed : (h : Stops [] (front text) text) → all (p ∷ ps) ≡ drop (length (front text)) text → begins_with 32 p ≡ true → lacking (front text) ≡ []
    closed h same space =
        let rest : all (p ∷ ps) ≡ h.rest = same ∙ ap (drop (length (front text))) h.parts ∙ drop-append_seam (front text) h.rest in
        h.apart (sym (ap (begins_with 32) rest) ∙ spaced p (all ps) space)

    or_none : (some space : Bool) (lacks : List ℕ) → (space ≡ true → lacks ≡ []) → cond (some && space) lacks [] ≡ []
    or_none true true lacks h = h refl
    or_none true false lacks h = refl
    or_none false space lacks h = refl

    stopped : Stops [] (front text) text
    stopped =
        let h = stops Before true [] (ended_lines text) (lines_ended text) (unready [] (ended_lines text)) in
        record { rest = h.rest; parts = sym (all_lines text) ∙ h.parts; apart = h.apart }

    by : (t : Bool) → all (p ∷ ps) ≡ drop (length (cond t (front text) [])) text → gap (cond t (front text) []) (p ∷ ps) ≡ []
    by true same = or_none (not (length (front text) == 0)) (begins_with 32 p) (lacking (front text)) (closed stopped same)
    by false same = refl

-- a text is its head with its stanzas behind it
pub as_cut : (text : List ℕ) → put_behind (head text) (stanzas (body text)) ≡ text
as_cut text =
    ap (λ (l : List ℕ). (head text ++ l) ++ joined (stanzas (body text))) (no_gap text (stanzas (body text)) (whole_stanzas unbegun (ended_lines (body text)) ∙ all_lines (body text)))
    ∙ ap (λ (l : List ℕ). l ++ joined (stanzas (body text))) (append-nil (head text))
    ∙ ap (λ (l : List ℕ). head text ++ l) (stanzas_whole (body text))
    ∙ head_and_body text

pub as_it_is : (text : List ℕ) → AreInOrder (names_of (stanzas (body text))) → sorted_text text ≡ text
unfolding sorted_text
as_it_is text order = ap (put_behind (head text)) (kept (stanzas (body text)) order) ∙ as_cut text
