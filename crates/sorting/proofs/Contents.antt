-- The records of lines, each as its own lines, without their numbers.
use Rattle.std.proofs.Common.{◌≡◌, ℕ, ◌+◌, Bool, true, false, cond, not, ◌&&◌, List, [], ◌∷◌, ◌++◌, map, length, drop, filter, refl, sym, ap, subst, ◌∙◌, append_assoc, append-nil, inl, inr}
use Rattle.std.specs.Prelude.{◌==◌, ◌||◌, ◌⊎◌}
use Rattle.std.specs.List.{slice_split, onto_first, enumerate_from, filter_map, cons_option, AllByRecursion}
use Rattle.std.specs.Str.Lines.{lines}
use Rattle.std.proofs.lemmas.List.{map-append}
use Rattle.base.specs.Ends.{begins_with}
use Rattle.ldif_lines.specs.Records.{Body, is_blank, is_kept, bytes_of, continuation, joined, joined_block, body_of, body_of_block, with_first, records_from, records}
use Rattle.ldif_lines.specs.Folding.{raw_lines, raw_block, with_first_flag}
use Rattle.sorting.specs.Reads.{WithVersion}

abbrev pub Lines : Type 0
Lines = List (List ℕ)

abbrev Numbered : Type 0
Numbered = List (ℕ × List ℕ)

-- ---- by their bytes alone

abbrev pub continued : Lines → List ℕ
continued [] = []
continued (l ∷ ls) = cond (begins_with 32 l) (drop 1 l ++ continued ls) []

abbrev pub whole : Lines → Lines
whole [] = []
whole (l ∷ ls) = cond (begins_with 32 l) (whole ls) ((l ++ continued ls) ∷ whole ls)

abbrev pub whole_block : Lines → Lines
whole_block [] = []
whole_block (l ∷ ls) = (l ++ continued ls) ∷ whole ls

abbrev pub kept : Lines → Lines
kept ls = filter (λ l. not (begins_with 35 l)) ls

abbrev pub some : Lines → List Lines
some [] = []
some (l ∷ ls) = (l ∷ ls) ∷ []

-- the record of a block
abbrev pub said : Lines → List Lines
said block = some (kept (whole_block block))

-- those of lines, where lines of the first block come before
abbrev pub contents_in : Lines → Lines → List Lines
contents_in pre [] = said pre
contents_in pre (l ∷ ls) = cond (length l == 0) (said pre ++ contents_in [] ls) (contents_in (pre ++ l ∷ []) ls)

abbrev pub contents : Lines → List Lines
contents ls = contents_in [] ls

-- ---- the records of a text

abbrev lines_in : Body → Lines
lines_in b = b.lines

unflagged : (first : Bool) (bs : List Body) → map raw_lines (with_first first bs) ≡ map lines_in bs
unfolding with_first
unflagged first [] = refl
unflagged first (b ∷ bs) = ap (λ (x : List Lines). b.lines ∷ x) (unflagged false bs)

flagged : (first : Bool) (bs : List Body) → map raw_block (with_first first bs) ≡ with_first_flag first (map lines_in bs)
unfolding with_first with_first_flag
flagged first [] = refl
flagged first (b ∷ bs) = ap (λ (x : List (Bool × Lines)). (first, b.lines) ∷ x) (flagged false bs)

same_continued : (ls : Numbered) → continuation ls ≡ continued (map bytes_of ls)
unfolding continuation
same_continued [] = refl
same_continued (l ∷ ls) = ap (λ (x : List ℕ). cond (begins_with 32 l.1) (drop 1 l.1 ++ x) []) (same_continued ls)

same_whole : (ls : Numbered) → map bytes_of (joined ls) ≡ whole (map bytes_of ls)
unfolding joined
same_whole [] = refl
same_whole (l ∷ ls) = by (begins_with 32 l.1) (same_whole ls)
  where
    by : (t : Bool) → map bytes_of (joined ls) ≡ whole (map bytes_of ls)
        → map bytes_of (cond t (joined ls) ((l.0, l.1 ++ continuation ls) ∷ joined ls)) ≡ cond t (whole (map bytes_of ls)) ((l.1 ++ continued (map bytes_of ls)) ∷ whole (map bytes_of ls))
    by true h = h
    by false h = λ i. (l.1 ++ same_continued ls i) ∷ h i

same_block : (ls : Numbered) → map bytes_of (joined_block ls) ≡ whole_block (map bytes_of ls)
unfolding joined_block
same_block [] = refl
same_block (l ∷ ls) = λ i. (l.1 ++ same_continued ls i) ∷ same_whole ls i

same_kept : (ls : Numbered) → map bytes_of (filter is_kept ls) ≡ kept (map bytes_of ls)
same_kept [] = refl
same_kept (l ∷ ls) = by (not (begins_with 35 l.1)) (same_kept ls)
  where
    by : (t : Bool) → map bytes_of (filter is_kept ls) ≡ kept (map bytes_of ls) → map bytes_of (cond t (l ∷ filter is_kept ls) (filter is_kept ls)) ≡ cond t (l.1 ∷ kept (map bytes_of ls)) (kept (map bytes_of ls))
    by true h = ap (λ (x : Lines). l.1 ∷ x) h
    by false h = h

one_body : (ls : Numbered) (rest : List Body) → map lines_in (cons_option (body_of ls) rest) ≡ some (map bytes_of ls) ++ map lines_in rest
unfolding body_of
one_body [] rest = refl
one_body (l ∷ ls) rest = refl

one_block : (block : Numbered) (rest : List Body) → map lines_in (cons_option (body_of_block block) rest) ≡ said (map bytes_of block) ++ map lines_in rest
unfolding body_of_block
one_block block rest =
    one_body (filter is_kept (joined_block block)) rest
    ∙ ap (λ (ls : Lines). some ls ++ map lines_in rest) (same_kept (joined_block block) ∙ ap kept (same_block block))

-- lines before the first of some blocks
abbrev onto : Numbered → List Numbered → List Numbered
onto front [] = front ∷ []
onto front (block ∷ blocks) = (front ++ block) ∷ blocks

abbrev IsCons : List Numbered → Type 0
IsCons blocks = (first : Numbered) × (more : List Numbered) × (blocks ≡ first ∷ more)

onto_cons : (x : ℕ × List ℕ) (blocks : List Numbered) → IsCons (onto_first x blocks)
onto_cons x [] = (x ∷ [], [], refl)
onto_cons x (b ∷ bs) = (x ∷ b, bs, refl)

split_cons : (ls : Numbered) → IsCons (slice_split is_blank ls)
split_cons [] = ([], [], refl)
split_cons (l ∷ ls) = by (is_blank l)
  where
    by : (t : Bool) → IsCons (cond t ([] ∷ slice_split is_blank ls) (onto_first l (slice_split is_blank ls)))
    by true = ([], slice_split is_blank ls, refl)
    by false = onto_cons l (slice_split is_blank ls)

abbrev found : List Numbered → List Lines
found blocks = map lines_in (filter_map body_of_block blocks)

onto_none : (blocks : List Numbered) → IsCons blocks → onto [] blocks ≡ blocks
onto_none [] h = absurd (let e = h.2 in cc)
onto_none (b ∷ bs) h = refl

onto_more : (front : Numbered) (x : ℕ × List ℕ) (blocks : List Numbered) → onto front (onto_first x blocks) ≡ onto (front ++ x ∷ []) blocks
onto_more front x [] = refl
onto_more front x (b ∷ bs) = ap (λ (l : Numbered). l ∷ bs) (sym (append_assoc front (x ∷ []) b))

same_found : (front : Numbered) (n : ℕ) (ls : Lines) → found (onto front (slice_split is_blank (enumerate_from n ls))) ≡ contents_in (map bytes_of front) ls
same_found front n [] = ap (λ (b : Numbered). found (b ∷ [])) (append-nil front) ∙ one_block front [] ∙ append-nil (said (map bytes_of front))
same_found front n (l ∷ ls) = by (length l == 0) (same_found [] (n + 1) ls) (same_found (front ++ (n, l) ∷ []) (n + 1) ls)
  where
    ended : found (onto [] (slice_split is_blank (enumerate_from (n + 1) ls))) ≡ contents_in [] ls
        → found (onto front ([] ∷ slice_split is_blank (enumerate_from (n + 1) ls))) ≡ said (map bytes_of front) ++ contents_in [] ls
    ended h =
        ap (λ (b : Numbered). found (b ∷ slice_split is_blank (enumerate_from (n + 1) ls))) (append-nil front)
        ∙ one_block front (filter_map body_of_block (slice_split is_blank (enumerate_from (n + 1) ls)))
        ∙ ap (λ (b : List Numbered). said (map bytes_of front) ++ found b) (sym (onto_none (slice_split is_blank (enumerate_from (n + 1) ls)) (split_cons (enumerate_from (n + 1) ls))))
        ∙ ap (λ (x : List Lines). said (map bytes_of front) ++ x) h

    longer : found (onto (front ++ (n, l) ∷ []) (slice_split is_blank (enumerate_from (n + 1) ls))) ≡ contents_in (map bytes_of (front ++ (n, l) ∷ [])) ls
        → found (onto front (onto_first (n, l) (slice_split is_blank (enumerate_from (n + 1) ls)))) ≡ contents_in (map bytes_of front ++ l ∷ []) ls
    longer h =
        ap found (onto_more front (n, l) (slice_split is_blank (enumerate_from (n + 1) ls)))
        ∙ h
        ∙ ap (λ (pre : Lines). contents_in pre ls) (map-append bytes_of front ((n, l) ∷ []))

    by : (t : Bool) → found (onto [] (slice_split is_blank (enumerate_from (n + 1) ls))) ≡ contents_in [] ls
        → found (onto (front ++ (n, l) ∷ []) (slice_split is_blank (enumerate_from (n + 1) ls))) ≡ contents_in (map bytes_of (front ++ (n, l) ∷ [])) ls
        → found (onto front (cond t ([] ∷ slice_split is_blank (enumerate_from (n + 1) ls)) (onto_first (n, l) (slice_split is_blank (enumerate_from (n + 1) ls)))))
        ≡ cond t (said (map bytes_of front) ++ contents_in [] ls) (contents_in (map bytes_of front ++ l ∷ []) ls)
    by true h g = ended h
    by false h g = longer g

bodies_are : (ls : Lines) → found (slice_split is_blank (enumerate_from 1 ls)) ≡ contents ls
bodies_are ls = ap found (sym (onto_none (slice_split is_blank (enumerate_from 1 ls)) (split_cons (enumerate_from 1 ls)))) ∙ same_found [] 1 ls

pub records_are : (text : List ℕ) → map raw_lines (records text) ≡ contents (lines text)
unfolding records_from
records_are text = unflagged true (filter_map body_of_block (slice_split is_blank (enumerate_from 1 (lines text)))) ∙ bodies_are (lines text)

pub flagged_are : (text : List ℕ) → map raw_block (records text) ≡ with_first_flag true (contents (lines text))
unfolding records_from
flagged_are text = flagged true (filter_map body_of_block (slice_split is_blank (enumerate_from 1 (lines text)))) ∙ ap (with_first_flag true) (bodies_are (lines text))

-- ---- an empty line

pub apart : (pre xs ys : Lines) → contents_in pre (xs ++ [] ∷ ys) ≡ contents_in pre xs ++ contents ys
apart pre [] ys = refl
apart pre (x ∷ xs) ys = by (length x == 0) (apart [] xs ys) (apart (pre ++ x ∷ []) xs ys)
  where
    by : (t : Bool) → contents_in [] (xs ++ [] ∷ ys) ≡ contents_in [] xs ++ contents ys → contents_in (pre ++ x ∷ []) (xs ++ [] ∷ ys) ≡ contents_in (pre ++ x ∷ []) xs ++ contents ys
        → cond t (said pre ++ contents_in [] (xs ++ [] ∷ ys)) (contents_in (pre ++ x ∷ []) (xs ++ [] ∷ ys)) ≡ cond t (said pre ++ contents_in [] xs) (contents_in (pre ++ x ∷ []) xs) ++ contents ys
    by true h g = ap (λ (l : List Lines). said pre ++ l) h ∙ sym (append_assoc (said pre) (contents_in [] xs) (contents ys))
    by false h g = g

-- ---- whether a line of a record is among those of a block

abbrev pub is_no_blank : List ℕ → Type 0
is_no_blank l = (length l == 0) ≡ false

-- a line that is neither a comment nor goes on with another
abbrev pub counts : Bool → List ℕ → Bool
counts first l = not (begins_with 35 l) && (first || not (begins_with 32 l))

abbrev pub has_kept : Bool → Lines → Bool
has_kept first [] = false
has_kept first (l ∷ ls) = counts first l || has_kept false ls

abbrev pub is_none : {A : Type 0} → List A → Bool
is_none [] = true
is_none (x ∷ xs) = false

same_sign : (c : ℕ) (l more : List ℕ) → is_no_blank l → begins_with c (l ++ more) ≡ begins_with c l
same_sign c [] more h = let no : true ≡ false = h in cc
same_sign c (b ∷ bs) more h = refl

-- the lines that are kept of a line with what continues it, and of others
abbrev kept_on : List ℕ → Lines → Lines
kept_on l ls = cond (not (begins_with 35 l)) (l ∷ kept ls) (kept ls)

none_kept : (ls : Lines) → AllByRecursion is_no_blank ls → is_none (kept (whole ls)) ≡ not (has_kept false ls)
none_kept [] all = refl
none_kept (l ∷ ls) all = by (begins_with 32 l) refl (none_kept ls all.1)
  where
    at : (hash : Bool) → is_none (kept (whole ls)) ≡ not (has_kept false ls) → is_none (cond (not hash) ((l ++ continued ls) ∷ kept (whole ls)) (kept (whole ls))) ≡ not ((not hash && true) || has_kept false ls)
    at true h = h
    at false h = refl

    no_line : (hash : Bool) → (not hash && false) ≡ false
    no_line true = refl
    no_line false = refl

    by : (t : Bool) → begins_with 32 l ≡ t → is_none (kept (whole ls)) ≡ not (has_kept false ls)
        → is_none (kept (cond t (whole ls) ((l ++ continued ls) ∷ whole ls))) ≡ not ((not (begins_with 35 l) && not t) || has_kept false ls)
    by true e h = h ∙ ap (λ (t : Bool). not (t || has_kept false ls)) (sym (no_line (begins_with 35 l)))
    by false e h = ap (λ (t : Bool). is_none (cond (not t) ((l ++ continued ls) ∷ kept (whole ls)) (kept (whole ls)))) (same_sign 35 l (continued ls) all.0) ∙ at (begins_with 35 l) h

pub none_said : (block : Lines) → AllByRecursion is_no_blank block → has_kept true block ≡ false → said block ≡ []
none_said [] all h = refl
none_said (l ∷ ls) all h = by (begins_with 35 l) refl h
  where
    none : (xs : Lines) → is_none xs ≡ true → some xs ≡ []
    none [] e = refl
    none (x ∷ xs) e = let no : false ≡ true = e in cc

    by : (t : Bool) → begins_with 35 l ≡ t → ((not t && true) || has_kept false ls) ≡ false → some (kept ((l ++ continued ls) ∷ whole ls)) ≡ []
    by true e g =
        ap (λ (t : Bool). some (cond (not t) ((l ++ continued ls) ∷ kept (whole ls)) (kept (whole ls)))) (same_sign 35 l (continued ls) all.0 ∙ e)
        ∙ none (kept (whole ls)) (none_kept ls all.1 ∙ ap not g)
    by false e g = let no : true ≡ false = g in cc

pub one_said : (block : Lines) → (said block ≡ []) ⊎ ((first : List ℕ) × (more : Lines) × (said block ≡ (first ∷ more) ∷ []))
one_said block = by (kept (whole_block block))
  where
    by : (ls : Lines) → (some ls ≡ []) ⊎ ((first : List ℕ) × (more : Lines) × (some ls ≡ (first ∷ more) ∷ []))
    by [] = inl refl
    by (l ∷ ls) = inr (l, ls, refl)

pub kept_more : (first : Bool) (block : Lines) (l : List ℕ) → has_kept first (block ++ l ∷ []) ≡ (has_kept first block || counts (first && is_none block) l)
kept_more true [] l = or_none (counts true l)
  where
    or_none : (t : Bool) → (t || false) ≡ t
    or_none true = refl
    or_none false = refl
kept_more false [] l = or_none (counts false l)
  where
    or_none : (t : Bool) → (t || false) ≡ t
    or_none true = refl
    or_none false = refl
kept_more first (x ∷ xs) l =
    ap (λ (t : Bool). counts first x || t) (kept_more false xs l) ∙ regroup first (counts first x) (has_kept false xs)
  where
    regroup : (f a b : Bool) → (a || (b || counts false l)) ≡ ((a || b) || counts (f && false) l)
    regroup true true b = refl
    regroup false true b = refl
    regroup true false b = refl
    regroup false false b = refl

pub none_more : (pre : Lines) (l : List ℕ) → is_none (pre ++ l ∷ []) ≡ false
none_more [] l = refl
none_more (x ∷ xs) l = refl

pub or_false : (a b : Bool) → a ≡ false → b ≡ false → (a || b) ≡ false
or_false a b g h = rw (g, h) refl

pub all_more : (block : Lines) (l : List ℕ) → AllByRecursion is_no_blank block → is_no_blank l → AllByRecursion is_no_blank (block ++ l ∷ [])
all_more [] l all h = (h, tt)
all_more (x ∷ xs) l all h = (all.0, all_more xs l all.1 h)

-- ---- a block that other lines go on with

-- the first line begins no continuation
abbrev pub BeginsPlain : Lines → Type 0
BeginsPlain [] = Unit {0}
BeginsPlain (l ∷ ls) = begins_with 32 l ≡ false

plain_continued : (ls : Lines) → BeginsPlain ls → continued ls ≡ []
plain_continued [] h = refl
plain_continued (l ∷ ls) h = ap (λ (t : Bool). cond t (drop 1 l ++ continued ls) []) h

plain_whole : (ls : Lines) → BeginsPlain ls → whole ls ≡ whole_block ls
plain_whole [] h = refl
plain_whole (l ∷ ls) h = ap (λ (t : Bool). cond t (whole ls) ((l ++ continued ls) ∷ whole ls)) h

seam_continued : (xs ys : Lines) → BeginsPlain ys → continued (xs ++ ys) ≡ continued xs
seam_continued [] ys h = plain_continued ys h
seam_continued (x ∷ xs) ys h = ap (λ (t : List ℕ). cond (begins_with 32 x) (drop 1 x ++ t) []) (seam_continued xs ys h)

seam_whole : (xs ys : Lines) → BeginsPlain ys → whole (xs ++ ys) ≡ whole xs ++ whole_block ys
seam_whole [] ys h = plain_whole ys h
seam_whole (x ∷ xs) ys h = by (begins_with 32 x) (seam_whole xs ys h)
  where
    by : (t : Bool) → whole (xs ++ ys) ≡ whole xs ++ whole_block ys → cond t (whole (xs ++ ys)) ((x ++ continued (xs ++ ys)) ∷ whole (xs ++ ys)) ≡ cond t (whole xs) ((x ++ continued xs) ∷ whole xs) ++ whole_block ys
    by true g = g
    by false g = λ i. (x ++ seam_continued xs ys h i) ∷ g i

seam_block : (xs ys : Lines) → BeginsPlain ys → whole_block (xs ++ ys) ≡ whole_block xs ++ whole_block ys
seam_block [] ys h = refl
seam_block (x ∷ xs) ys h = λ i. (x ++ seam_continued xs ys h i) ∷ seam_whole xs ys h i

kept-append : (xs ys : Lines) → kept (xs ++ ys) ≡ kept xs ++ kept ys
kept-append [] ys = refl
kept-append (x ∷ xs) ys = by (not (begins_with 35 x)) (kept-append xs ys)
  where
    by : (t : Bool) → kept (xs ++ ys) ≡ kept xs ++ kept ys → cond t (x ∷ kept (xs ++ ys)) (kept (xs ++ ys)) ≡ cond t (x ∷ kept xs) (kept xs) ++ kept ys
    by true h = ap (λ (l : Lines). x ∷ l) h
    by false h = h

one_with : (line : List ℕ) (ls : Lines) (more : List Lines) → WithVersion line (some (line ∷ ls) ++ more) (some ls ++ more)
one_with line [] more = inl refl
one_with line (l ∷ ls) more = inr (l ∷ ls, more, refl, refl)

module _ (block : Lines) (line : List ℕ) (is : kept (whole_block block) ≡ line ∷ []) where
  said_with : (c : Lines) → BeginsPlain c → said (block ++ c) ≡ some (line ∷ kept (whole_block c))
  said_with c plain = ap some (ap kept (seam_block block c plain) ∙ kept-append (whole_block block) (whole_block c) ∙ ap (λ (l : Lines). l ++ kept (whole_block c)) is)

  begins_front : (c : Lines) (ls : Lines) → BeginsPlain (c ++ ls) → BeginsPlain c
  begins_front [] ls h = tt
  begins_front (x ∷ xs) ls h = h

  goes_on : (c ls : Lines) → BeginsPlain (c ++ ls) → WithVersion line (contents_in (block ++ c) ls) (contents_in c ls)
  goes_on c [] plain =
      let e : said (block ++ c) ≡ some (line ∷ kept (whole_block c)) = said_with c (begins_front c [] plain) in
      subst (λ (x : List Lines). WithVersion line x (said c)) (sym (e ∙ sym (append-nil (some (line ∷ kept (whole_block c))))))
      (subst (λ (x : List Lines). WithVersion line (some (line ∷ kept (whole_block c)) ++ []) x) (append-nil (said c)) (one_with line (kept (whole_block c)) []))
  goes_on c (l ∷ ls) plain = by (length l == 0) (goes_on (c ++ l ∷ []) ls (subst BeginsPlain (sym (append_assoc c (l ∷ []) ls)) plain))
    where
      here : WithVersion line (said (block ++ c) ++ contents_in [] ls) (said c ++ contents_in [] ls)
      here = subst (λ (x : List Lines). WithVersion line (x ++ contents_in [] ls) (said c ++ contents_in [] ls)) (sym (said_with c (begins_front c (l ∷ ls) plain))) (one_with line (kept (whole_block c)) (contents_in [] ls))

      by : (t : Bool) → WithVersion line (contents_in (block ++ (c ++ l ∷ [])) ls) (contents_in (c ++ l ∷ []) ls)
          → WithVersion line (cond t (said (block ++ c) ++ contents_in [] ls) (contents_in ((block ++ c) ++ l ∷ []) ls)) (cond t (said c ++ contents_in [] ls) (contents_in (c ++ l ∷ []) ls))
      by true later = here
      by false later = subst (λ (x : Lines). WithVersion line (contents_in x ls) (contents_in (c ++ l ∷ []) ls)) (sym (append_assoc block c (l ∷ []))) later

  pub block_goes_on : (ls : Lines) → BeginsPlain ls → WithVersion line (contents_in block ls) (contents ls)
  block_goes_on ls plain = subst (λ (x : Lines). WithVersion line (contents_in x ls) (contents ls)) (append-nil block) (goes_on [] ls plain)
