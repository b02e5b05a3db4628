-- What a draft adds to.
use Rattle.std.proofs.Common.{◌≡◌, ℕ, suc, ◌<◌, Bool, true, false, cond, not, eqb, List, [], ◌∷◌, ◌++◌, length, drop, map, filter, Option, Some, None, refl, sym, ap, ◌∙◌, append_assoc, arith}
use Rattle.std.specs.List.{slice_split, onto_first, filter_map, enumerate_from, cons_option}
use Rattle.std.specs.Str.Lines.{lines}
use Rattle.std.proofs.lemmas.List.{append-nil}
use Rattle.std.proofs.lemmas.List.Splits.{slice_split-cons_yes, slice_split-cons_no}
use Rattle.base.specs.Ends.{begins_with}
use Rattle.ldif_lines.specs.Records.{Body, RawRecord, is_blank, continues, is_kept, number_of, bytes_of, continuation, joined, joined_block, body_of, body_of_block, with_first, records_from}
use Rattle.ldif_lines.specs.inner.Drafts.{Draft, Numbers, none_numbered, with_number, append_last, add_by, add}
use Rattle.std.proofs.lemmas.Bool.{eqb-true, false_from_ne_true}
use Rattle.ldif_lines.specs.inner.States.{kept, with_kept, after, body_after, in_blocks, cut, pending}
use Rattle.ldif_lines.specs.Records.{but_last, whole_lines, closed_from}
use Rattle.ldif_lines.proofs.PartLemmas.{split_cons, heads}

-- ---- the last line grows

pub append_last-push : (ks : List (List ℕ)) (k bs : List ℕ) → append_last (ks ++ k ∷ []) bs ≡ ks ++ (k ++ bs) ∷ []
unfolding append_last
append_last-push [] k bs = refl
append_last-push (l ∷ []) k bs = refl
append_last-push (l ∷ m ∷ ks) k bs = ap (λ (x : List (List ℕ)). l ∷ x) (append_last-push (m ∷ ks) k bs)

pub append_last-length : (ks : List (List ℕ)) (bs : List ℕ) → length (append_last ks bs) ≡ length ks
unfolding append_last
append_last-length [] bs = refl
append_last-length (k ∷ []) bs = refl
append_last-length (k ∷ l ∷ ks) bs = ap suc (append_last-length (l ∷ ks) bs)

pub append_last-none : (ks : List (List ℕ)) (bs : List ℕ) → length ks ≡ 0 → append_last ks bs ≡ ks
unfolding append_last
append_last-none [] bs e = refl
append_last-none (k ∷ ks) bs e = absurd (omega arith)

append_last-nil : (ks : List (List ℕ)) → append_last ks [] ≡ ks
unfolding append_last
append_last-nil [] = refl
append_last-nil (k ∷ []) = ap (λ (x : List ℕ). x ∷ []) (append-nil k)
append_last-nil (k ∷ l ∷ ks) = ap (λ (x : List (List ℕ)). k ∷ x) (append_last-nil (l ∷ ks))

append_last-twice : (k : List ℕ) (ks : List (List ℕ)) (a b : List ℕ) → append_last (append_last (k ∷ ks) a) b ≡ append_last (k ∷ ks) (a ++ b)
unfolding append_last
append_last-twice k [] a b = ap (λ (x : List ℕ). x ∷ []) (append_assoc k a b)
append_last-twice k (l ∷ []) a b = ap (λ (x : List (List ℕ)). k ∷ x) (append_last-twice l [] a b)
append_last-twice k (l ∷ m ∷ ks) a b = ap (λ (x : List (List ℕ)). k ∷ x) (append_last-twice l (m ∷ ks) a b)

-- ---- a line of a block, by how it begins

begins-append : (b : ℕ) (bs more : List ℕ) → 0 < length bs → begins_with b (bs ++ more) ≡ begins_with b bs
begins-append b [] more some = absurd (omega arith)
begins-append b (c ∷ bs) more some = refl

abbrev headed : ℕ × List ℕ → List (ℕ × List ℕ) → List (ℕ × List ℕ)
headed l ls = filter is_kept ((l.0, l.1 ++ continuation ls) ∷ joined ls)

module _ (l : ℕ × List ℕ) (ls : List (ℕ × List ℕ)) where
  joined-yes : continues l ≡ true → joined (l ∷ ls) ≡ joined ls
  unfolding joined
  joined-yes e = ap (λ (b : Bool). cond b (joined ls) ((l.0, l.1 ++ continuation ls) ∷ joined ls)) e

  joined-no : continues l ≡ false → joined (l ∷ ls) ≡ (l.0, l.1 ++ continuation ls) ∷ joined ls
  unfolding joined
  joined-no e = ap (λ (b : Bool). cond b (joined ls) ((l.0, l.1 ++ continuation ls) ∷ joined ls)) e

  continuation-yes : continues l ≡ true → continuation (l ∷ ls) ≡ drop 1 l.1 ++ continuation ls
  unfolding continuation
  continuation-yes e = ap (λ (b : Bool). cond b (drop 1 l.1 ++ continuation ls) []) e

  continuation-no : continues l ≡ false → continuation (l ∷ ls) ≡ []
  unfolding continuation
  continuation-no e = ap (λ (b : Bool). cond b (drop 1 l.1 ++ continuation ls) []) e

  headed-comment : 0 < length l.1 → begins_with 35 l.1 ≡ true → headed l ls ≡ kept ls
  headed-comment some e = ap (λ (b : Bool). cond (not b) ((l.0, l.1 ++ continuation ls) ∷ kept ls) (kept ls)) (begins-append 35 l.1 (continuation ls) some ∙ e)

  headed-line : 0 < length l.1 → begins_with 35 l.1 ≡ false → headed l ls ≡ (l.0, l.1 ++ continuation ls) ∷ kept ls
  headed-line some e = ap (λ (b : Bool). cond (not b) ((l.0, l.1 ++ continuation ls) ∷ kept ls) (kept ls)) (begins-append 35 l.1 (continuation ls) some ∙ e)

-- ---- the block that a draft begins

abbrev made : Numbers → List (List ℕ) → List (ℕ × List ℕ) → Option Body
made numbers ks ls = Some (with_kept numbers ks ls)

abbrev body : ℕ → List (List ℕ) → List ℕ → Option Body
body first ks ns = Some (record { line = first; lines = ks; numbers = ns })

abbrev pub raw : Numbers → Bool → List (List ℕ) → RawRecord
raw numbers first ks = record { line = numbers.first; first = first; lines = ks; numbers = numbers.all }

abbrev pub draft : Numbers → Bool → List (List ℕ) → Draft
draft numbers comment ks = record { numbers = numbers; comment = comment; lines = ks }

extended : (numbers : Numbers) (k : List ℕ) (ks : List (List ℕ)) (bs : List ℕ) (p : List (ℕ × List ℕ)) → after (append_last (k ∷ ks) bs) numbers false p ≡ made numbers (append_last (k ∷ ks) (bs ++ continuation p)) (kept p)
unfolding after append_last
extended numbers k [] bs p = ap (λ (x : List (List ℕ)). made numbers x (kept p)) (append_last-twice k [] bs (continuation p))
extended numbers k (m ∷ ks) bs p = ap (λ (x : List (List ℕ)). made numbers x (kept p)) (append_last-twice k (m ∷ ks) bs (continuation p))

module _ (numbers : Numbers) (l : ℕ × List ℕ) (p : List (ℕ × List ℕ)) (some : 0 < length l.1) where
  pushed : (ks : List (List ℕ)) → append_last (ks ++ l.1 ∷ []) (continuation p) ++ map bytes_of (kept p) ≡ ks ++ ((l.1 ++ continuation p) ∷ map bytes_of (kept p))
  pushed ks = ap (λ (x : List (List ℕ)). x ++ map bytes_of (kept p)) (append_last-push ks l.1 (continuation p)) ∙ append_assoc ks ((l.1 ++ continuation p) ∷ []) (map bytes_of (kept p))

  pushed_body : (ks : List (List ℕ)) → made (with_number false numbers l.0) (append_last (ks ++ l.1 ∷ []) (continuation p)) (kept p) ≡ made numbers ks ((l.0, l.1 ++ continuation p) ∷ kept p)
  pushed_body ks =
      ap (λ (x : List (List ℕ)). body numbers.first x ((numbers.all ++ l.0 ∷ []) ++ map number_of (kept p))) (pushed ks)
      ∙ ap (body numbers.first (ks ++ ((l.1 ++ continuation p) ∷ map bytes_of (kept p)))) (append_assoc numbers.all (l.0 ∷ []) (map number_of (kept p)))

  -- the draft has no line yet, and the line isn't dropped
  first_one : (h : Bool) → begins_with 35 l.1 ≡ h → body_of (headed l p) ≡ cond h (after [] numbers true p) (after (l.1 ∷ []) (with_number true numbers l.0) false p)
  unfolding after body_of append_last
  first_one true e = ap body_of (headed-comment l p some e)
  first_one false e = ap body_of (headed-line l p some e)

  -- the draft has lines, and the line begins a new one
  next_one : (h : Bool) (k : List ℕ) (ks : List (List ℕ)) → begins_with 35 l.1 ≡ h → made numbers (k ∷ ks) (headed l p) ≡ cond h (after (k ∷ ks) numbers true p) (after ((k ∷ ks) ++ l.1 ∷ []) (with_number false numbers l.0) false p)
  unfolding after
  next_one true k ks e = ap (made numbers (k ∷ ks)) (headed-comment l p some e)
  next_one false k ks e = ap (made numbers (k ∷ ks)) (headed-line l p some e) ∙ sym (pushed_body (k ∷ ks))

  step : (ks : List (List ℕ)) (comment c h : Bool) → continues l ≡ c → begins_with 35 l.1 ≡ h → after ks numbers comment (l ∷ p) ≡ body_after (add_by c h (draft numbers comment ks) l) p
  unfolding after add_by body_of_block joined_block
  step [] true true h e f = ap (λ (x : List (ℕ × List ℕ)). body_of (filter is_kept x)) (joined-yes l p e)
  step [] true false true e f = ap (λ (x : List (ℕ × List ℕ)). body_of (filter is_kept x)) (joined-no l p e) ∙ first_one true f
  step [] true false false e f = ap (λ (x : List (ℕ × List ℕ)). body_of (filter is_kept x)) (joined-no l p e) ∙ first_one false f
  step [] false true true e f = first_one true f
  step [] false true false e f = first_one false f
  step [] false false true e f = first_one true f
  step [] false false false e f = first_one false f
  step (k ∷ ks) true true h e f = ap (λ (x : List (ℕ × List ℕ)). made numbers (k ∷ ks) (filter is_kept x)) (joined-yes l p e)
  step (k ∷ ks) true false true e f = ap (λ (x : List (ℕ × List ℕ)). made numbers (k ∷ ks) (filter is_kept x)) (joined-no l p e) ∙ next_one true k ks f
  step (k ∷ ks) true false false e f = ap (λ (x : List (ℕ × List ℕ)). made numbers (k ∷ ks) (filter is_kept x)) (joined-no l p e) ∙ next_one false k ks f
  step (k ∷ ks) false true h e f = rw (continuation-yes l p e, joined-yes l p e) (sym (extended numbers k ks (drop 1 l.1) p))
  step (k ∷ ks) false false true e f = rw (continuation-no l p e, joined-no l p e, append_last-nil (k ∷ ks)) (next_one true k ks f)
  step (k ∷ ks) false false false e f = rw (continuation-no l p e, joined-no l p e, append_last-nil (k ∷ ks)) (next_one false k ks f)

-- ---- the records that are left

added : (only first : Bool) (d : Draft) (l : ℕ × List ℕ) (p : List (ℕ × List ℕ)) (ps : List (List (ℕ × List ℕ))) → 0 < length l.1
    → in_blocks first d (cut only ((l ∷ p) ∷ ps)) ≡ in_blocks first (add d l) (cut only (p ∷ ps))
unfolding in_blocks but_last
added false first d l p ps some = ap (λ (b : Option Body). with_first first (cons_option b (filter_map body_of_block ps))) (step d.numbers l p some d.lines d.comment (continues l) (begins_with 35 l.1) refl refl)
added true first d l p [] some = refl
added true first d l p (q ∷ ps) some = ap (λ (b : Option Body). with_first first (cons_option b (filter_map body_of_block (but_last (q ∷ ps))))) (step d.numbers l p some d.lines d.comment (continues l) (begins_with 35 l.1) refl refl)

-- a line that isn't empty goes to the draft
pub pending-add : (only first : Bool) (d : Draft) (n : ℕ) (bs : List ℕ) (ls : List (ℕ × List ℕ)) → 0 < length bs → pending only first d ((n, bs) ∷ ls) ≡ pending only first (add d (n, bs)) ls
unfolding pending
pending-add only first d n bs ls some =
    let l : ℕ × List ℕ = (n, bs) in
    let no : is_blank l ≡ false = false_from_ne_true _ (λ h. let k = eqb-true _ _ h in omega arith) in
    let s = split_cons is_blank ls in
    let parts : slice_split is_blank (l ∷ ls) ≡ (l ∷ s.0) ∷ s.1 = slice_split-cons_no is_blank l ls no ∙ ap (onto_first l) s.2 in
    ap (λ (ps : List (List (ℕ × List ℕ))). in_blocks first d (cut only ps)) parts
    ∙ added only first d l s.0 s.1 some
    ∙ ap (λ (ps : List (List (ℕ × List ℕ))). in_blocks first (add d l) (cut only ps)) (sym s.2)

fresh_blocks : (first : Bool) (numbers : Numbers) (ps : List (List (ℕ × List ℕ))) → in_blocks first (draft numbers false []) ps ≡ with_first first (filter_map body_of_block ps)
unfolding in_blocks after with_first
fresh_blocks first numbers [] = refl
fresh_blocks first numbers (p ∷ ps) = refl

pub pending-fresh : (first : Bool) (numbers : Numbers) (number : ℕ) (text : List ℕ) → pending false first (draft numbers false []) (enumerate_from number (lines text)) ≡ records_from first number text
unfolding pending records_from
pending-fresh first numbers number text = fresh_blocks first numbers (slice_split is_blank (enumerate_from number (lines text)))

pub closing-fresh : (first : Bool) (numbers : Numbers) (number : ℕ) (text : List ℕ) → pending true first (draft numbers false []) (enumerate_from number (whole_lines text)) ≡ closed_from first number text
unfolding pending closed_from
closing-fresh first numbers number text = fresh_blocks first numbers (but_last (slice_split is_blank (enumerate_from number (whole_lines text))))

nothing : (numbers : Numbers) (comment : Bool) → after [] numbers comment [] ≡ None
unfolding after joined body_of_block joined_block body_of
nothing numbers true = refl
nothing numbers false = refl

whole : (numbers : Numbers) (comment : Bool) (k : List ℕ) (ks : List (List ℕ)) → after (k ∷ ks) numbers comment [] ≡ body numbers.first (k ∷ ks) numbers.all
unfolding after joined continuation
whole numbers true k ks = ap (λ (x : List (List ℕ)). body numbers.first (k ∷ x) (numbers.all ++ [])) (append-nil ks) ∙ ap (body numbers.first (k ∷ ks)) (append-nil numbers.all)
whole numbers false k ks =
    ap (λ (x : List (List ℕ)). body numbers.first x (numbers.all ++ [])) (append-nil (append_last (k ∷ ks) []) ∙ append_last-nil (k ∷ ks))
    ∙ ap (body numbers.first (k ∷ ks)) (append-nil numbers.all)

-- an empty line: the draft's block is done, and the next begins
ended : (only first comment : Bool) (numbers : Numbers) (n : ℕ) (ks : List (List ℕ)) (ls : List (ℕ × List ℕ)) → pending only first (draft numbers comment ks) ((n, []) ∷ ls)
    ≡ with_first first (cons_option (after ks numbers comment []) (filter_map body_of_block (cut only (slice_split is_blank ls))))
unfolding pending in_blocks but_last
ended only first comment numbers n ks ls =
    let s = split_cons is_blank ls in
    ap (λ (ps : List (List (ℕ × List ℕ))). in_blocks first (draft numbers comment ks) (cut only ps)) (slice_split-cons_yes is_blank (n, []) ls refl)
    ∙ ap (in_blocks first (draft numbers comment ks)) (heads only [] (slice_split is_blank ls) s)

-- an empty line before the first kept one
pub pending-skip : (only first comment : Bool) (numbers : Numbers) (n : ℕ) (ls : List (ℕ × List ℕ)) → pending only first (draft numbers comment []) ((n, []) ∷ ls) ≡ pending only first (draft numbers false []) ls
unfolding pending
pending-skip only first comment numbers n ls =
    ended only first comment numbers n [] ls
    ∙ ap (λ (b : Option Body). with_first first (cons_option b (filter_map body_of_block (cut only (slice_split is_blank ls))))) (nothing numbers comment)
    ∙ sym (fresh_blocks first numbers (cut only (slice_split is_blank ls)))

-- an empty line after a kept one
pub pending-end : (only first comment : Bool) (numbers : Numbers) (n : ℕ) (k : List ℕ) (ks : List (List ℕ)) (ls : List (ℕ × List ℕ))
    → pending only first (draft numbers comment (k ∷ ks)) ((n, []) ∷ ls) ≡ raw numbers first (k ∷ ks) ∷ pending only false (draft none_numbered false []) ls
unfolding pending with_first
pending-end only first comment numbers n k ks ls =
    ended only first comment numbers n (k ∷ ks) ls
    ∙ ap (λ (b : Option Body). with_first first (cons_option b (filter_map body_of_block (cut only (slice_split is_blank ls))))) (whole numbers comment k ks)
    ∙ ap (λ (rs : List RawRecord). raw numbers first (k ∷ ks) ∷ rs) (sym (fresh_blocks false none_numbered (cut only (slice_split is_blank ls))))

-- no line is left
pub pending-none : (first comment : Bool) (numbers : Numbers) → pending false first (draft numbers comment []) [] ≡ []
unfolding pending in_blocks with_first
pending-none first comment numbers = ap (λ (b : Option Body). with_first first (cons_option b [])) (nothing numbers comment)

pub pending-last : (first comment : Bool) (numbers : Numbers) (k : List ℕ) (ks : List (List ℕ)) → pending false first (draft numbers comment (k ∷ ks)) [] ≡ raw numbers first (k ∷ ks) ∷ []
unfolding pending in_blocks with_first
pending-last first comment numbers k ks = ap (λ (b : Option Body). with_first first (cons_option b [])) (whole numbers comment k ks)

pub closing-none : (first : Bool) (d : Draft) → pending true first d [] ≡ []
unfolding pending in_blocks but_last
closing-none first d = refl

-- ---- a line in two pieces: the second goes in like a continuation

cut_by : (numbers : Numbers) (n : ℕ) (x : ℕ) (xs more : List ℕ) (c h comment : Bool) (ks : List (List ℕ))
    → add_by c h (draft numbers comment ks) (n, x ∷ (xs ++ more)) ≡ add_by true false (add_by c h (draft numbers comment ks) (n, x ∷ xs)) (n, 32 ∷ more)
unfolding add_by append_last
cut_by numbers n x xs more true h true ks = refl
cut_by numbers n x xs more true true false [] = refl
cut_by numbers n x xs more true false false [] = refl
cut_by numbers n x xs more true h false (k ∷ []) = ap (draft numbers false) (sym (append_last-twice k [] xs more))
cut_by numbers n x xs more true h false (k ∷ m ∷ ks) = ap (draft numbers false) (sym (append_last-twice k (m ∷ ks) xs more))
cut_by numbers n x xs more false true comment ks = refl
cut_by numbers n x xs more false false comment [] = refl
cut_by numbers n x xs more false false comment (k ∷ ks) = ap (draft (with_number false numbers n) false) (sym (append_last-push (k ∷ ks) (x ∷ xs) more))

pub add-cut : (d : Draft) (n : ℕ) (xs more : List ℕ) → 0 < length xs → add d (n, xs ++ more) ≡ add (add d (n, xs)) (n, 32 ∷ more)
add-cut d n [] more some = absurd (omega arith)
add-cut d n (x ∷ xs) more some = cut_by d.numbers n x xs more (eqb x 32) (eqb x 35) d.comment d.lines

-- a continuation without bytes changes nothing, where there is something to continue
nothing_by : (numbers : Numbers) (n : ℕ) (comment : Bool) (ks : List (List ℕ)) → (comment ≡ false → 0 < length ks) → add_by true false (draft numbers comment ks) (n, 32 ∷ []) ≡ draft numbers comment ks
unfolding add_by
nothing_by numbers n true ks some = refl
nothing_by numbers n false [] some = absurd (let h : 0 < 0 = some refl in omega arith)
nothing_by numbers n false (k ∷ ks) some = ap (draft numbers false) (append_last-nil (k ∷ ks))

pub add-nothing : (d : Draft) (n : ℕ) → (d.comment ≡ false → 0 < length d.lines) → add d (n, 32 ∷ []) ≡ d
add-nothing d n some = nothing_by d.numbers n d.comment d.lines some

-- after a line, there is something to continue
true_ne_false : true ≡ false → ⊥
true_ne_false e = (cc)

kept_by : (numbers : Numbers) (n : ℕ) (l : List ℕ) (c h comment : Bool) (ks : List (List ℕ)) → (add_by c h (draft numbers comment ks) (n, l)).comment ≡ false → 0 < length (add_by c h (draft numbers comment ks) (n, l)).lines
unfolding add_by append_last
kept_by numbers n l true h true ks e = absurd (true_ne_false e)
kept_by numbers n l true true false [] e = absurd (true_ne_false e)
kept_by numbers n l true false false [] e = omega arith
kept_by numbers n l true h false (k ∷ []) e = omega arith
kept_by numbers n l true h false (k ∷ m ∷ ks) e = omega arith
kept_by numbers n l false true comment ks e = absurd (true_ne_false e)
kept_by numbers n l false false comment [] e = omega arith
kept_by numbers n l false false comment (k ∷ ks) e = omega arith

pub add-kept : (d : Draft) (l : ℕ × List ℕ) → (add d l).comment ≡ false → 0 < length (add d l).lines
add-kept d l e = kept_by d.numbers l.0 l.1 (continues l) (begins_with 35 l.1) d.comment d.lines e
