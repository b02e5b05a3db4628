-- A text that is read up to some place.
use Rattle.std.specs.Prelude.{option_map}
use Rattle.std.proofs.Common.{◌≡◌, Option, Some, None, ℕ, zero, suc, ◌<◌, ◌+◌, ◌-◌, Bool, true, false, cond, eqb, List, [], ◌∷◌, ◌++◌, length, get_or, take, drop, map, refl, sym, ap, subst, ◌∙◌, append_assoc, arith, length-append, ◌≢◌}
use Rattle.std.specs.List.{slice_split, onto_first, enumerate_from}
use Rattle.std.specs.Str.Lines.{lines_of_parts, strip_carriage_return}
use Rattle.std.proofs.lemmas.List.{append-nil, take-append-drop, drop_more, drop_all, get_or_append_left}
use Rattle.std.proofs.lemmas.List.Splits.{slice_split-cons_no, slice_split_at}
use Rattle.std.proofs.lemmas.Bool.{eqb-true, false_from_ne_true}
use Rattle.ldif_lines.specs.Records.{but_last, whole_lines, records_from, closed_from}
use Rattle.ldif_lines.specs.inner.Drafts.{Draft, Numbers, none_numbered, add, add_by, append_last}
use Rattle.ldif_lines.specs.inner.States.{lines_in, pending, State, raw_of, next_state, HasNoFeed, settle, ends_with_return, return_of, gives, put}
use Rattle.ldif_lines.proofs.PartLemmas.{is_feed, split_cons}
use Rattle.ldif_lines.proofs.DraftLemmas.{draft, raw, pending-fresh, closing-fresh, pending-add, pending-skip, pending-end, pending-none, pending-last, closing-none, add-cut, add-nothing}

-- ---- a line's end

-- bytes that stay whatever follows them in their line: another byte does, or the last of them is no carriage return
abbrev Stays : List ℕ → List ℕ → Type 0
Stays xs p = strip_carriage_return (xs ++ p) ≡ xs ++ strip_carriage_return p

front_kept : {X : Type 0} (b : Bool) (y : X) (u v : List X) → cond b (y ∷ u) (y ∷ v) ≡ y ∷ cond b u v
front_kept true y u v = refl
front_kept false y u v = refl

strip-cons : (y z : ℕ) (zs : List ℕ) → strip_carriage_return (y ∷ z ∷ zs) ≡ y ∷ strip_carriage_return (z ∷ zs)
strip-cons y z zs =
    let e : length (y ∷ z ∷ zs) - 1 ≡ suc (length (z ∷ zs) - 1) = omega arith in
    ap (λ (k : ℕ). cond (eqb (get_or (y ∷ z ∷ zs) k 0) 13) (take k (y ∷ z ∷ zs)) (y ∷ z ∷ zs)) e
    ∙ front_kept (eqb (get_or (z ∷ zs) (length (z ∷ zs) - 1) 0) 13) y (take (length (z ∷ zs) - 1) (z ∷ zs)) (z ∷ zs)

pub stays : (xs : List ℕ) (b : ℕ) (p : List ℕ) → Stays xs (b ∷ p)
stays [] b p = refl
stays (y ∷ []) b p = strip-cons y b p
stays (y ∷ z ∷ xs) b p = strip-cons y z (xs ++ b ∷ p) ∙ ap (λ (l : List ℕ). y ∷ l) (stays (z ∷ xs) b p)

-- bytes whose last one is no carriage return
pub stays_all : (xs : List ℕ) → get_or xs (length xs - 1) 0 ≢ 13 → (p : List ℕ) → Stays xs p
stays_all xs ne (b ∷ p) = stays xs b p
stays_all xs ne [] =
    let no : eqb (get_or xs (length xs - 1) 0) 13 ≡ false = false_from_ne_true _ (λ h. ne (eqb-true _ _ h)) in
    ap strip_carriage_return (append-nil xs) ∙ ap (λ (b : Bool). cond b (take (length xs - 1) xs) xs) no ∙ sym (append-nil xs)

-- ---- parts

parts_onto : (xs rest p : List ℕ) (ps : List (List ℕ)) → HasNoFeed xs → slice_split is_feed rest ≡ p ∷ ps → slice_split is_feed (xs ++ rest) ≡ (xs ++ p) ∷ ps
parts_onto [] rest p ps none e = e
parts_onto (x ∷ xs) rest p ps none e =
    slice_split-cons_no is_feed x (xs ++ rest) (none 0 0 (omega arith)) ∙ ap (onto_first x) (parts_onto xs rest p ps (λ k d lt. none (suc k) d (omega arith)) e)

some_part : (xs : List ℕ) → 0 < length xs → lines_of_parts (xs ∷ []) ≡ xs ∷ []
some_part [] some = absurd (omega arith)
some_part (x ∷ xs) some =
    let e : eqb (suc (length xs)) 0 ≡ false = false_from_ne_true _ (λ h. absurd (let k = eqb-true _ _ h in omega arith)) in
    ap (λ (b : Bool). cond b [] ((x ∷ xs) ∷ [])) e

abbrev in_parts : Bool → List (List ℕ) → List (List ℕ)
in_parts only parts = cond only (map strip_carriage_return (but_last parts)) (lines_of_parts parts)

of_parts : (only : Bool) (text : List ℕ) → lines_in only text ≡ in_parts only (slice_split is_feed text)
unfolding whole_lines
of_parts only text = refl

-- what stays where the rest of the line has an end
abbrev pub StaysBefore : List ℕ → List ℕ → Type 0
StaysBefore xs rest = (p q : List ℕ) (qs : List (List ℕ)) → slice_split is_feed rest ≡ p ∷ q ∷ qs → Stays xs p

longer : (xs p : List ℕ) → 0 < length xs → 0 < length (xs ++ p)
longer xs p some = omega (arith, length-append xs p)

stays_space : (p : List ℕ) → Stays (32 ∷ []) p
stays_space [] = refl
stays_space (b ∷ p) = strip-cons 32 b p

pub in_parts-cons : (only : Bool) (x q : List ℕ) (qs : List (List ℕ)) → in_parts only (x ∷ q ∷ qs) ≡ strip_carriage_return x ∷ in_parts only (q ∷ qs)
unfolding but_last
in_parts-cons true x q qs = refl
in_parts-cons false x q qs = refl

mid_cut : (only first : Bool) (d : Draft) (n : ℕ) (xs p : List ℕ) (more : List (List ℕ)) → 0 < length xs → Stays xs p
    → pending only first d (enumerate_from n (strip_carriage_return (xs ++ p) ∷ more)) ≡ pending only first (add d (n, xs)) (enumerate_from n (strip_carriage_return (32 ∷ p) ∷ more))
mid_cut only first d n xs p more some stay =
    let t = enumerate_from (n + 1) more in
    let r = strip_carriage_return p in
    ap (λ (l : List ℕ). pending only first d ((n, l) ∷ t)) stay
    ∙ pending-add only first d n (xs ++ r) t (longer xs r some)
    ∙ ap (λ (e : Draft). pending only first e t) (add-cut d n xs r some)
    ∙ sym (pending-add only first (add d (n, xs)) n (32 ∷ r) t (omega arith))
    ∙ ap (λ (l : List ℕ). pending only first (add d (n, xs)) ((n, l) ∷ t)) (sym (stays_space p))

line_cut : (only first : Bool) (d : Draft) (n : ℕ) (xs p : List ℕ) (ps : List (List ℕ)) → 0 < length xs → ((q : List ℕ) (qs : List (List ℕ)) → ps ≡ q ∷ qs → Stays xs p)
    → pending only first d (enumerate_from n (in_parts only ((xs ++ p) ∷ ps))) ≡ pending only first (add d (n, xs)) (enumerate_from n (in_parts only ((32 ∷ p) ∷ ps)))
unfolding but_last
line_cut true first d n xs p [] some stay = closing-none first d ∙ sym (closing-none first (add d (n, xs)))
line_cut false first d n xs p [] some stay =
    ap (λ (ls : List (List ℕ)). pending false first d (enumerate_from n ls)) (some_part (xs ++ p) (longer xs p some))
    ∙ pending-add false first d n (xs ++ p) [] (longer xs p some)
    ∙ ap (λ (e : Draft). pending false first e []) (add-cut d n xs p some)
    ∙ sym (pending-add false first (add d (n, xs)) n (32 ∷ p) [] (omega arith))
    ∙ ap (λ (ls : List (List ℕ)). pending false first (add d (n, xs)) (enumerate_from n ls)) (sym (some_part (32 ∷ p) (omega arith)))
line_cut only first d n xs p (q ∷ qs) some stay =
    ap (λ (ls : List (List ℕ)). pending only first d (enumerate_from n ls)) (in_parts-cons only (xs ++ p) q qs)
    ∙ mid_cut only first d n xs p (in_parts only (q ∷ qs)) some (stay q qs refl)
    ∙ ap (λ (ls : List (List ℕ)). pending only first (add d (n, xs)) (enumerate_from n ls)) (sym (in_parts-cons only (32 ∷ p) q qs))

one_other : (b : ℕ) → is_feed b ≡ false → HasNoFeed (b ∷ [])
one_other b e zero d lt = e
one_other b e (suc k) d lt = absurd (omega arith)

space_first : (xs : List ℕ) → HasNoFeed xs → HasNoFeed (32 ∷ xs)
space_first xs none zero d lt = refl
space_first xs none (suc k) d lt = none k d (omega arith)

spaced : (xs p : List ℕ) → 0 < length xs → Stays xs p → Stays (32 ∷ xs) p
spaced [] p some stay = absurd (omega arith)
spaced (x ∷ xs) p some stay = strip-cons 32 x (xs ++ p) ∙ ap (λ (l : List ℕ). 32 ∷ l) stay

-- bytes of a line were taken: what follows goes in like a continuation
text_cut : (only first : Bool) (d : Draft) (n : ℕ) (xs rest : List ℕ) → 0 < length xs → HasNoFeed xs → StaysBefore xs rest
    → pending only first d (enumerate_from n (lines_in only (xs ++ rest))) ≡ pending only first (add d (n, xs)) (enumerate_from n (lines_in only (32 ∷ rest)))
text_cut only first d n xs rest some none stay =
    let s = split_cons is_feed rest in
    let space : HasNoFeed (32 ∷ []) = one_other 32 refl in
    ap (λ (ls : List (List ℕ)). pending only first d (enumerate_from n ls)) (of_parts only (xs ++ rest) ∙ ap (in_parts only) (parts_onto xs rest s.0 s.1 none s.2))
    ∙ line_cut only first d n xs s.0 s.1 some (λ q qs e. stay s.0 q qs (s.2 ∙ ap (λ (ps : List (List ℕ)). s.0 ∷ ps) e))
    ∙ ap (λ (ls : List (List ℕ)). pending only first (add d (n, xs)) (enumerate_from n ls)) (sym (of_parts only (32 ∷ rest) ∙ ap (in_parts only) (parts_onto (32 ∷ []) rest s.0 s.1 space s.2)))

-- ---- states

abbrev pub state : Draft → Bool → ℕ → Bool → Bool → State
state d first count inside after_return = record { draft = d; first = first; count = count; inside = inside; after_return = after_return }

-- bytes of a line
put_by : (only : Bool) (d : Draft) (first : Bool) (count : ℕ) (inside : Bool) (xs rest : List ℕ) → 0 < length xs → HasNoFeed xs → StaysBefore xs rest
    → gives only (state d first count inside false) (xs ++ rest) ≡ gives only (put (state d first count inside false) xs) rest
unfolding gives
put_by only d first count false xs rest some none stay = text_cut only first d (count + 1) xs rest some none stay
put_by only d first count true xs rest some none stay = text_cut only first d (count + 1) (32 ∷ xs) rest (omega arith) (space_first xs none) (λ p q qs e. spaced xs p some (stay p q qs e))

-- a carriage return waits
return_by : (only : Bool) (d : Draft) (first : Bool) (count : ℕ) (inside : Bool) (rest : List ℕ) → gives only (state d first count inside false) (13 ∷ rest) ≡ gives only (state d first count inside true) rest
unfolding gives
return_by only d first count false rest = refl
return_by only d first count true rest = refl

abbrev pub settled : State → State
settled s = put (record s { after_return = false }) (13 ∷ [])

-- it belongs to the line, since this follows
pub gives-settled : (only : Bool) (s : State) (rest : List ℕ) → s.after_return ≡ true → StaysBefore (13 ∷ []) rest → gives only s rest ≡ gives only (settled s) rest
gives-settled only s rest e stay =
    ap (λ (c : Bool). gives only (state s.draft s.first s.count s.inside c) rest) e
    ∙ sym (return_by only s.draft s.first s.count s.inside rest)
    ∙ put_by only s.draft s.first s.count s.inside (13 ∷ []) rest (omega arith) (one_other 13 refl) stay

pub gives-put : (only : Bool) (s : State) (xs rest : List ℕ) → s.after_return ≡ false → 0 < length xs → HasNoFeed xs → StaysBefore xs rest → gives only s (xs ++ rest) ≡ gives only (put s xs) rest
gives-put only s xs rest e some none stay =
    ap (λ (c : Bool). gives only (state s.draft s.first s.count s.inside c) (xs ++ rest)) e
    ∙ put_by only s.draft s.first s.count s.inside xs rest some none stay
    ∙ ap (λ (c : Bool). gives only (put (state s.draft s.first s.count s.inside c) xs) rest) (sym e)

pub gives-return : (only : Bool) (s : State) (rest : List ℕ) → s.after_return ≡ false → gives only s (13 ∷ rest) ≡ gives only (record s { after_return = true }) rest
gives-return only s rest e =
    ap (λ (c : Bool). gives only (state s.draft s.first s.count s.inside c) (13 ∷ rest)) e
    ∙ return_by only s.draft s.first s.count s.inside rest

-- ---- a line feed

strip_return : (after_return : Bool) → strip_carriage_return (32 ∷ return_of after_return) ≡ 32 ∷ []
strip_return true = refl
strip_return false = refl

strip_blank : (after_return : Bool) → strip_carriage_return (return_of after_return) ≡ []
strip_blank true = refl
strip_blank false = refl

return_other : (after_return : Bool) → HasNoFeed (return_of after_return)
return_other true = one_other 13 refl
return_other false = λ k d lt. absurd (omega arith)

line_done : (only : Bool) (xs rest : List ℕ) → HasNoFeed xs → lines_in only (xs ++ 10 ∷ rest) ≡ strip_carriage_return xs ∷ lines_in only rest
line_done only xs rest none =
    let s = split_cons is_feed rest in
    of_parts only (xs ++ 10 ∷ rest)
    ∙ ap (in_parts only) (slice_split_at is_feed xs 10 rest none refl ∙ ap (λ (ps : List (List ℕ)). xs ∷ ps) s.2)
    ∙ in_parts-cons only xs s.0 s.1
    ∙ ap (λ (ps : List (List ℕ)). strip_carriage_return xs ∷ in_parts only ps) (sym s.2)
    ∙ ap (λ (ls : List (List ℕ)). strip_carriage_return xs ∷ ls) (sym (of_parts only rest))

-- a line of which bytes were taken ends
inside_by : (only : Bool) (d : Draft) (first : Bool) (count : ℕ) (after_return : Bool) (rest : List ℕ) → (d.comment ≡ false → 0 < length d.lines)
    → gives only (state d first count true after_return) (10 ∷ rest) ≡ gives only (state d first (count + 1) false false) rest
unfolding gives
inside_by only d first count after_return rest some =
    let n = count + 1 in
    ap (λ (ls : List (List ℕ)). pending only first d (enumerate_from n ls)) (line_done only (32 ∷ return_of after_return) rest (space_first (return_of after_return) (return_other after_return)))
    ∙ ap (λ (l : List ℕ). pending only first d ((n, l) ∷ enumerate_from (n + 1) (lines_in only rest))) (strip_return after_return)
    ∙ pending-add only first d n (32 ∷ []) (enumerate_from (n + 1) (lines_in only rest)) (omega arith)
    ∙ ap (λ (e : Draft). pending only first e (enumerate_from (n + 1) (lines_in only rest))) (add-nothing d n some)

pub gives-line : (only : Bool) (s : State) (rest : List ℕ) → s.inside ≡ true → (s.draft.comment ≡ false → 0 < length s.draft.lines)
    → gives only s (10 ∷ rest) ≡ gives only (state s.draft s.first (s.count + 1) false false) rest
gives-line only s rest e some =
    ap (λ (i : Bool). gives only (state s.draft s.first s.count i s.after_return) (10 ∷ rest)) e
    ∙ inside_by only s.draft s.first s.count s.after_return rest some

empty_by : (only : Bool) (d : Draft) (first : Bool) (count : ℕ) (after_return : Bool) (rest : List ℕ)
    → gives only (state d first count false after_return) (10 ∷ rest) ≡ pending only first d ((count + 1, []) ∷ enumerate_from (count + 1 + 1) (lines_in only rest))
unfolding gives
empty_by only d first count after_return rest =
    let n = count + 1 in
    ap (λ (ls : List (List ℕ)). pending only first d (enumerate_from n ls)) (line_done only (return_of after_return) rest (return_other after_return))
    ∙ ap (λ (l : List ℕ). pending only first d ((n, l) ∷ enumerate_from (n + 1) (lines_in only rest))) (strip_blank after_return)

skip_by : (only : Bool) (numbers : Numbers) (comment : Bool) (ks : List (List ℕ)) (first : Bool) (count : ℕ) (after_return : Bool) (rest : List ℕ) → length ks ≡ 0
    → gives only (state (draft numbers comment ks) first count false after_return) (10 ∷ rest) ≡ gives only (state (draft numbers false ks) first (count + 1) false false) rest
unfolding gives
skip_by only numbers comment [] first count after_return rest none =
    empty_by only (draft numbers comment []) first count after_return rest ∙ pending-skip only first comment numbers (count + 1) (enumerate_from (count + 1 + 1) (lines_in only rest))
skip_by only numbers comment (k ∷ ks) first count after_return rest none = absurd (omega arith)

-- an empty line before the first kept one
pub gives-skip : (only : Bool) (s : State) (rest : List ℕ) → s.inside ≡ false → length s.draft.lines ≡ 0
    → gives only s (10 ∷ rest) ≡ gives only (state (draft s.draft.numbers false s.draft.lines) s.first (s.count + 1) false false) rest
gives-skip only s rest e none =
    ap (λ (i : Bool). gives only (state s.draft s.first s.count i s.after_return) (10 ∷ rest)) e
    ∙ skip_by only s.draft.numbers s.draft.comment s.draft.lines s.first s.count s.after_return rest none

end_by : (only : Bool) (numbers : Numbers) (comment : Bool) (ks : List (List ℕ)) (first : Bool) (count : ℕ) (after_return : Bool) (rest : List ℕ) → 0 < length ks
    → gives only (state (draft numbers comment ks) first count false after_return) (10 ∷ rest) ≡ raw numbers first ks ∷ gives only (next_state (count + 1)) rest
unfolding gives
end_by only numbers comment [] first count after_return rest some = absurd (omega arith)
end_by only numbers comment (k ∷ ks) first count after_return rest some =
    empty_by only (draft numbers comment (k ∷ ks)) first count after_return rest ∙ pending-end only first comment numbers (count + 1) k ks (enumerate_from (count + 1 + 1) (lines_in only rest))

-- an empty line after a kept one
pub gives-end : (only : Bool) (s : State) (rest : List ℕ) → s.inside ≡ false → 0 < length s.draft.lines
    → gives only s (10 ∷ rest) ≡ raw_of s ∷ gives only (next_state (s.count + 1)) rest
gives-end only s rest e some =
    ap (λ (i : Bool). gives only (state s.draft s.first s.count i s.after_return) (10 ∷ rest)) e
    ∙ end_by only s.draft.numbers s.draft.comment s.draft.lines s.first s.count s.after_return rest some

-- ---- the end of the text

over_by : (d : Draft) (first : Bool) (count : ℕ) (inside : Bool) → (inside ≡ true → d.comment ≡ false → 0 < length d.lines) → gives false (state d first count inside false) [] ≡ pending false first d []
unfolding gives
over_by d first count false some = refl
over_by d first count true some =
    pending-add false first d (count + 1) (32 ∷ []) [] (omega arith)
    ∙ ap (λ (e : Draft). pending false first e []) (add-nothing d (count + 1) (some refl))

last_by : (numbers : Numbers) (comment : Bool) (ks : List (List ℕ)) (first : Bool) → pending false first (draft numbers comment ks) [] ≡ cond (eqb (length ks) 0) [] (raw numbers first ks ∷ [])
last_by numbers comment [] first = pending-none first comment numbers
last_by numbers comment (k ∷ ks) first =
    let no : eqb (suc (length ks)) 0 ≡ false = false_from_ne_true _ (λ h. absurd (let e = eqb-true _ _ h in omega arith)) in
    pending-last first comment numbers k ks ∙ ap (λ (b : Bool). cond b [] (raw numbers first (k ∷ ks) ∷ [])) (sym no)

pub gives-over : (s : State) → s.after_return ≡ false → (s.inside ≡ true → s.draft.comment ≡ false → 0 < length s.draft.lines) → gives false s [] ≡ cond (eqb (length s.draft.lines) 0) [] (raw_of s ∷ [])
gives-over s e some =
    ap (λ (c : Bool). gives false (state s.draft s.first s.count s.inside c) []) e
    ∙ over_by s.draft s.first s.count s.inside some
    ∙ last_by s.draft.numbers s.draft.comment s.draft.lines s.first

-- a state with nothing behind it has closed no record
closed_by : (d : Draft) (first : Bool) (count : ℕ) (inside after_return : Bool) → gives true (state d first count inside after_return) [] ≡ []
unfolding gives whole_lines but_last
closed_by d first count false false = closing-none first d
closed_by d first count false true = closing-none first d
closed_by d first count true false = closing-none first d
closed_by d first count true true = closing-none first d

pub closes-nothing : (s : State) → gives true s [] ≡ []
closes-nothing s = closed_by s.draft s.first s.count s.inside s.after_return

-- ---- what stays

pub stays_at_end : (xs : List ℕ) → StaysBefore xs []
stays_at_end xs p q qs e = absurd (cc)

pub stays_before : (xs : List ℕ) (b : ℕ) (rest : List ℕ) → eqb b 10 ≡ false → StaysBefore xs (b ∷ rest)
stays_before xs b rest other p q qs e =
    let s = split_cons is_feed rest in
    let f : slice_split is_feed (b ∷ rest) ≡ (b ∷ s.0) ∷ s.1 = slice_split-cons_no is_feed b rest other ∙ ap (onto_first b) s.2 in
    let same : b ∷ s.0 ≡ p = cc in
    subst (Stays xs) same (stays xs b s.0)

-- ---- bytes of a line of which bytes were taken

put_comment_by : (n : ℕ) (numbers : Numbers) (first : Bool) (count : ℕ) (inside comment after_return : Bool) (ks : List (List ℕ)) (bs : List ℕ) → inside ≡ true → comment ≡ true
    → put (state (draft numbers comment ks) first count inside after_return) bs ≡ state (draft numbers comment ks) first count inside after_return
unfolding add_by
put_comment_by n numbers first count false comment after_return ks bs e f = absurd (cc)
put_comment_by n numbers first count true false after_return ks bs e f = absurd (cc)
put_comment_by n numbers first count true true after_return ks bs e f = refl

pub put-comment : (s : State) (bs : List ℕ) → s.inside ≡ true → s.draft.comment ≡ true → put s bs ≡ s
put-comment s bs e f = put_comment_by 0 s.draft.numbers s.first s.count s.inside s.draft.comment s.after_return s.draft.lines bs e f

put_kept_by : (numbers : Numbers) (first : Bool) (count : ℕ) (inside comment after_return : Bool) (ks : List (List ℕ)) (bs : List ℕ) → inside ≡ true → comment ≡ false → 0 < length ks
    → put (state (draft numbers comment ks) first count inside after_return) bs ≡ state (draft numbers comment (append_last ks bs)) first count inside after_return
unfolding add_by
put_kept_by numbers first count false comment after_return ks bs e f some = absurd (cc)
put_kept_by numbers first count true true after_return ks bs e f some = absurd (cc)
put_kept_by numbers first count true false after_return [] bs e f some = absurd (omega arith)
put_kept_by numbers first count true false after_return (k ∷ ks) bs e f some = refl

pub put-kept : (s : State) (bs : List ℕ) → s.inside ≡ true → s.draft.comment ≡ false → 0 < length s.draft.lines
    → put s bs ≡ state (draft s.draft.numbers s.draft.comment (append_last s.draft.lines bs)) s.first s.count s.inside s.after_return
put-kept s bs e f some = put_kept_by s.draft.numbers s.first s.count s.inside s.draft.comment s.after_return s.draft.lines bs e f some

pub put-outside : (s : State) (bs : List ℕ) → s.inside ≡ false → put s bs ≡ state (add s.draft (s.count + 1, bs)) s.first s.count true s.after_return
put-outside s bs e = ap (λ (i : Bool). put (state s.draft s.first s.count i s.after_return) bs) e

-- ---- bytes up to a line's end or a cut

snoc_return : (bs : List ℕ) → ends_with_return bs ≡ true → 0 < length bs → bs ≡ strip_carriage_return bs ++ 13 ∷ []
snoc_return bs e some =
    let i = length bs - 1 in
    let lt : i < length bs = omega arith in
    let over : drop (i + 1) bs ≡ [] = drop_all (i + 1) bs (omega arith) in
    let at : get_or bs i 0 ≡ 13 = eqb-true _ _ e in
    let back : drop i bs ≡ 13 ∷ [] = drop_more bs i 0 lt ∙ ap (λ (b : ℕ). b ∷ drop (i + 1) bs) at ∙ ap (λ (l : List ℕ). 13 ∷ l) over in
    let front : strip_carriage_return bs ≡ take i bs = ap (λ (b : Bool). cond b (take i bs) bs) e in
    sym (take-append-drop i bs) ∙ ap (λ (l : List ℕ). take i bs ++ l) back ∙ ap (λ (l : List ℕ). l ++ 13 ∷ []) (sym front)

gives-settle_by : (only : Bool) (d : Draft) (first : Bool) (count : ℕ) (inside after_return : Bool) (b : ℕ) (rest : List ℕ) → is_feed b ≡ false
    → gives only (state d first count inside after_return) (b ∷ rest) ≡ gives only (settle (state d first count inside after_return)) (b ∷ rest)
gives-settle_by only d first count inside true b rest other = gives-settled only (state d first count inside true) (b ∷ rest) refl (stays_before (13 ∷ []) b rest other)
gives-settle_by only d first count inside false b rest other = refl

settle-cr_by : (d : Draft) (first : Bool) (count : ℕ) (inside after_return : Bool) → (settle (state d first count inside after_return)).after_return ≡ false
settle-cr_by d first count inside true = refl
settle-cr_by d first count inside false = refl

pub settle-after_return : (s : State) → (settle s).after_return ≡ false
settle-after_return s = settle-cr_by s.draft s.first s.count s.inside s.after_return

pub gives-settle : (only : Bool) (s : State) (bs rest : List ℕ) → 0 < length bs → HasNoFeed bs → gives only s (bs ++ rest) ≡ gives only (settle s) (bs ++ rest)
gives-settle only s [] rest some none = absurd (omega arith)
gives-settle only s (b ∷ bs) rest some none = gives-settle_by only s.draft s.first s.count s.inside s.after_return b (bs ++ rest) (none 0 0 (omega arith))

settle_end_by : (d : Draft) (first : Bool) (count : ℕ) (inside after_return : Bool) → gives false (state d first count inside after_return) [] ≡ gives false (settle (state d first count inside after_return)) []
settle_end_by d first count inside true = gives-settled false (state d first count inside true) [] refl (stays_at_end (13 ∷ []))
settle_end_by d first count inside false = refl

pub gives-settle_end : (s : State) → gives false s [] ≡ gives false (settle s) []
gives-settle_end s = settle_end_by s.draft s.first s.count s.inside s.after_return

strip_none : (bs : List ℕ) → ends_with_return bs ≡ false → strip_carriage_return bs ≡ bs
strip_none bs e = ap (λ (b : Bool). cond b (take (length bs - 1) bs) bs) e

none_front : (bs : List ℕ) (more : List ℕ) → HasNoFeed (bs ++ more) → HasNoFeed bs
none_front bs more none k d lt =
    let below : k < length (bs ++ more) = omega (arith, length-append bs more) in
    ap is_feed (sym (get_or_append_left bs more d k lt)) ∙ none k d below

true_ne_false : true ≡ false → ⊥
true_ne_false e = (cc)

length-zero : (xs : List ℕ) → length xs ≡ 0 → xs ≡ []
length-zero [] z = refl
length-zero (x ∷ xs) z = absurd (omega arith)

returned : (only : Bool) (s : State) (bs rest : List ℕ) (r : Bool) → ends_with_return bs ≡ r → 0 < length bs → HasNoFeed bs → length (strip_carriage_return bs) ≡ 0
    → gives only s (bs ++ rest) ≡ gives only (record (settle s) { after_return = r }) rest
returned only s bs rest true e some none z =
    let nil : strip_carriage_return bs ≡ [] = length-zero (strip_carriage_return bs) z in
    gives-settle only s bs rest some none
    ∙ ap (λ (l : List ℕ). gives only (settle s) (l ++ rest)) (snoc_return bs e some ∙ ap (λ (l : List ℕ). l ++ 13 ∷ []) nil)
    ∙ gives-return only (settle s) rest (settle-after_return s)
returned only s bs rest false e some none z = absurd (let k = ap length (strip_none bs e) in omega arith)

-- only a carriage return was taken
pub take-return : (only : Bool) (s : State) (bs rest : List ℕ) → 0 < length bs → HasNoFeed bs → length (strip_carriage_return bs) ≡ 0
    → gives only s (bs ++ rest) ≡ gives only (record (settle s) { after_return = ends_with_return bs }) rest
take-return only s bs rest some none z = returned only s bs rest (ends_with_return bs) refl some none z

more_by : (only : Bool) (s : State) (bs rest : List ℕ) (r : Bool) → ends_with_return bs ≡ r → 0 < length bs → HasNoFeed bs → 0 < length (strip_carriage_return bs)
    → gives only s (bs ++ rest) ≡ gives only (record (put (settle s) (strip_carriage_return bs)) { after_return = r }) rest
more_by only s bs rest true e some none z =
    let front = strip_carriage_return bs in
    let cut : bs ≡ front ++ 13 ∷ [] = snoc_return bs e some in
    let none_in : HasNoFeed front = none_front front (13 ∷ []) (subst HasNoFeed cut none) in
    gives-settle only s bs rest some none
    ∙ ap (λ (l : List ℕ). gives only (settle s) (l ++ rest)) cut
    ∙ ap (gives only (settle s)) (append_assoc front (13 ∷ []) rest)
    ∙ gives-put only (settle s) front (13 ∷ rest) (settle-after_return s) z none_in (stays_before front 13 rest refl)
    ∙ gives-return only (put (settle s) front) rest (settle-after_return s)
more_by only s bs rest false e some none z =
    let same = strip_none bs e in
    let ne : get_or bs (length bs - 1) 0 ≢ 13 = λ h. absurd (true_ne_false (sym (ap (λ (b : ℕ). eqb b 13) h) ∙ e)) in
    let stay : StaysBefore bs rest = λ p q qs f. stays_all bs ne p in
    gives-settle only s bs rest some none
    ∙ gives-put only (settle s) bs rest (settle-after_return s) some none stay
    ∙ ap (λ (l : List ℕ). gives only (put (settle s) l) rest) (sym same)
    ∙ ap (λ (c : Bool). gives only (record (put (settle s) (strip_carriage_return bs)) { after_return = c }) rest) (settle-after_return s)

pub take-more : (only : Bool) (s : State) (bs rest : List ℕ) → 0 < length bs → HasNoFeed bs → 0 < length (strip_carriage_return bs)
    → gives only s (bs ++ rest) ≡ gives only (record (put (settle s) (strip_carriage_return bs)) { after_return = ends_with_return bs }) rest
take-more only s bs rest some none z = more_by only s bs rest (ends_with_return bs) refl some none z

pub over-none : (s : State) → s.after_return ≡ false → (s.inside ≡ true → s.draft.comment ≡ false → 0 < length s.draft.lines) → length s.draft.lines ≡ 0 → gives false s [] ≡ []
over-none s e some none =
    let z : eqb (length s.draft.lines) 0 ≡ true = ap (λ (n : ℕ). eqb n 0) none in
    gives-over s e some ∙ ap (λ (b : Bool). cond b [] (raw_of s ∷ [])) z

pub over-some : (s : State) → s.after_return ≡ false → (s.inside ≡ true → s.draft.comment ≡ false → 0 < length s.draft.lines) → 0 < length s.draft.lines → gives false s [] ≡ raw_of s ∷ []
over-some s e kept some =
    let z : eqb (length s.draft.lines) 0 ≡ false = false_from_ne_true _ (λ h. let k = eqb-true _ _ h in omega arith) in
    gives-over s e kept ∙ ap (λ (b : Bool). cond b [] (raw_of s ∷ [])) z

-- ---- the beginning of a text

abbrev pub begin_state : State
begin_state = record (next_state 0) { first = true }

pub gives-begin : (rest : List ℕ) → gives false begin_state rest ≡ records_from true 1 rest
unfolding gives
gives-begin rest = pending-fresh true none_numbered 1 rest

pub closes-begin : (rest : List ℕ) → gives true begin_state rest ≡ closed_from true 1 rest
unfolding gives
closes-begin rest = closing-fresh true none_numbered 1 rest

pub option_map-same : {A B : Type 0} (f h : A → B) (o : Option A) → ((x : A) → f x ≡ h x) → option_map f o ≡ option_map h o
option_map-same f h None e = refl
option_map-same f h (Some x) e = ap Some (e x)
