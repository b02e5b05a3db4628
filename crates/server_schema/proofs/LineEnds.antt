-- The lines of a text with more behind it: those of the text, and those that stand behind.
use Rattle.std.proofs.Common.{◌≡◌, ◌∙◌, ◌⊎◌, ℕ, suc, ◌+◌, ◌-◌, Bool, true, false, cond, eqb, List, [], ◌∷◌, ◌++◌, length, get_or, take, inl, inr, refl, sym, ap, subst, append_assoc, arith}
use Rattle.std.specs.List.{slice_split, onto_first}
use Rattle.std.specs.Str.Lines.{strip_carriage_return}
use Rattle.std.proofs.lemmas.Bool.{eqb-true}
use Rattle.base.specs.Ends.{ends_with}
use Rattle.definitions.specs.declared.lines.Line.{Line}
use Rattle.definitions.specs.Lines.{is_line_feed, numbered, begins_blank, goes_on_with, joined, onto, unfolded, lines_of}
use Rattle.server_schema.specs.Growth.{end_of}

abbrev pub line : ℕ → List ℕ → Line
line n text = record { number = n; text = text }

abbrev pub split : List ℕ → List (List ℕ)
split text = slice_split is_line_feed text

-- stretches behind which a line feed stands, as lines
abbrev pub counted : ℕ → List (List ℕ) → List Line
counted n [] = []
counted n (stretch ∷ stretches) = line n (strip_carriage_return stretch) ∷ counted (n + 1) stretches

-- ---- a carriage return at the end

-- all but the last byte stay as they are
pub stripped_more : (x y : ℕ) (ys : List ℕ) → strip_carriage_return (x ∷ y ∷ ys) ≡ x ∷ strip_carriage_return (y ∷ ys)
stripped_more x y ys =
    let e : length (x ∷ y ∷ ys) - 1 ≡ suc (length (y ∷ ys) - 1) = omega arith in
    ap (λ (n : ℕ). cond (eqb (get_or (x ∷ y ∷ ys) n 0) 13) (take n (x ∷ y ∷ ys)) (x ∷ y ∷ ys)) e
    ∙ out (eqb (get_or (y ∷ ys) (length (y ∷ ys) - 1) 0) 13) (take (length (y ∷ ys) - 1) (y ∷ ys)) (y ∷ ys)
  where
    out : (b : Bool) (us vs : List ℕ) → cond b (x ∷ us) (x ∷ vs) ≡ x ∷ cond b us vs
    out true us vs = refl
    out false us vs = refl

pub stripped_end : (stretch : List ℕ) (x : ℕ) → strip_carriage_return (stretch ++ x ∷ []) ≡ cond (eqb x 13) stretch (stretch ++ x ∷ [])
stripped_end [] x = refl
stripped_end (b ∷ []) x = stripped_more b x [] ∙ out (eqb x 13)
  where
    out : (t : Bool) → b ∷ cond t [] (x ∷ []) ≡ cond t (b ∷ []) (b ∷ x ∷ [])
    out true = refl
    out false = refl
stripped_end (b ∷ c ∷ cs) x = stripped_more b c (cs ++ x ∷ []) ∙ ap (λ (bs : List ℕ). b ∷ bs) (stripped_end (c ∷ cs) x) ∙ out (eqb x 13)
  where
    out : (t : Bool) → b ∷ cond t (c ∷ cs) (c ∷ (cs ++ x ∷ [])) ≡ cond t (b ∷ c ∷ cs) (b ∷ c ∷ (cs ++ x ∷ []))
    out true = refl
    out false = refl

-- what stands before another byte stays
pub stripped_front : (front : List ℕ) (x : ℕ) (behind : List ℕ) → eqb x 13 ≡ false → (rest : List ℕ) × (strip_carriage_return (front ++ x ∷ behind) ≡ front ++ x ∷ rest)
stripped_front [] x [] other = ([], ap (λ (t : Bool). cond t [] (x ∷ [])) other)
stripped_front [] x (y ∷ ys) other = (strip_carriage_return (y ∷ ys), stripped_more x y ys)
stripped_front (b ∷ []) x behind other =
    let k = stripped_front [] x behind other in
    (k.0, stripped_more b x behind ∙ ap (λ (bs : List ℕ). b ∷ bs) k.1)
stripped_front (b ∷ c ∷ cs) x behind other =
    let k = stripped_front (c ∷ cs) x behind other in
    (k.0, stripped_more b c (cs ++ x ∷ behind) ∙ ap (λ (bs : List ℕ). b ∷ bs) k.1)

-- ---- stretches

pub split_some : (text : List ℕ) → (stretch : List ℕ) × (stretches : List (List ℕ)) × (split text ≡ stretch ∷ stretches)
split_some [] = ([], [], refl)
split_some (b ∷ bs) = by (is_line_feed b) (split_some bs)
  where
    by : (t : Bool) → (stretch : List ℕ) × (stretches : List (List ℕ)) × (split bs ≡ stretch ∷ stretches)
        → (stretch : List ℕ) × (stretches : List (List ℕ)) × (cond t ([] ∷ split bs) (onto_first b (split bs)) ≡ stretch ∷ stretches)
    by true k = ([], split bs, refl)
    by false k = (b ∷ k.0, k.1, ap (onto_first b) k.2)

first_more : (b : ℕ) (xs ys : List (List ℕ)) (x : List ℕ) (more : List (List ℕ)) → xs ≡ x ∷ more → onto_first b (xs ++ ys) ≡ onto_first b xs ++ ys
first_more b xs ys x more is = ap (λ (zs : List (List ℕ)). onto_first b (zs ++ ys)) is ∙ ap (λ (zs : List (List ℕ)). onto_first b zs ++ ys) (sym is)

split_more : (text rest : List ℕ) → split (text ++ 10 ∷ rest) ≡ split text ++ split rest
split_more [] rest = refl
split_more (b ∷ bs) rest = by (is_line_feed b) (split_more bs rest)
  where
    by : (t : Bool) → split (bs ++ 10 ∷ rest) ≡ split bs ++ split rest
        → cond t ([] ∷ split (bs ++ 10 ∷ rest)) (onto_first b (split (bs ++ 10 ∷ rest))) ≡ cond t ([] ∷ split bs) (onto_first b (split bs)) ++ split rest
    by true more = ap (λ (ss : List (List ℕ)). [] ∷ ss) more
    by false more = let k = split_some bs in ap (onto_first b) more ∙ first_more b (split bs) (split rest) k.0 k.1 k.2

-- a byte more at the end of the last stretch
abbrev onto_last : ℕ → List (List ℕ) → List (List ℕ)
onto_last x [] = (x ∷ []) ∷ []
onto_last x (stretch ∷ []) = (stretch ++ x ∷ []) ∷ []
onto_last x (stretch ∷ next ∷ stretches) = stretch ∷ onto_last x (next ∷ stretches)

last_behind : (x : ℕ) (stretch : List ℕ) (stretches : List (List ℕ)) (next : List ℕ) (more : List (List ℕ)) → stretches ≡ next ∷ more → onto_last x (stretch ∷ stretches) ≡ stretch ∷ onto_last x stretches
last_behind x stretch stretches next more is = ap (λ (ss : List (List ℕ)). onto_last x (stretch ∷ ss)) is ∙ ap (λ (ss : List (List ℕ)). stretch ∷ onto_last x ss) (sym is)

first_last : (b x : ℕ) (stretches : List (List ℕ)) → onto_first b (onto_last x stretches) ≡ onto_last x (onto_first b stretches)
first_last b x [] = refl
first_last b x (stretch ∷ []) = refl
first_last b x (stretch ∷ next ∷ stretches) = refl

split_last : (text : List ℕ) (x : ℕ) → is_line_feed x ≡ false → split (text ++ x ∷ []) ≡ onto_last x (split text)
split_last [] x other = ap (λ (t : Bool). cond t ([] ∷ [] ∷ []) ((x ∷ []) ∷ [])) other
split_last (b ∷ bs) x other = by (is_line_feed b) (split_last bs x other)
  where
    by : (t : Bool) → split (bs ++ x ∷ []) ≡ onto_last x (split bs)
        → cond t ([] ∷ split (bs ++ x ∷ [])) (onto_first b (split (bs ++ x ∷ []))) ≡ onto_last x (cond t ([] ∷ split bs) (onto_first b (split bs)))
    by true more = let k = split_some bs in ap (λ (ss : List (List ℕ)). [] ∷ ss) more ∙ sym (last_behind x [] (split bs) k.0 k.1 k.2)
    by false more = ap (onto_first b) more ∙ first_last b x (split bs)

-- ---- numbers

numbered_front : (n : ℕ) (stretches : List (List ℕ)) (next : List ℕ) (more : List (List ℕ)) → numbered n (stretches ++ next ∷ more) ≡ counted n stretches ++ numbered (n + length stretches) (next ∷ more)
numbered_front n [] next more = let e : n ≡ n + 0 = omega arith in ap (λ (m : ℕ). numbered m (next ∷ more)) e
numbered_front n (stretch ∷ []) next more =
    let e : n + 1 ≡ n + length (stretch ∷ []) = omega arith in
    ap (λ (m : ℕ). line n (strip_carriage_return stretch) ∷ numbered m (next ∷ more)) e
numbered_front n (stretch ∷ second ∷ stretches) next more =
    let e : n + 1 + length (second ∷ stretches) ≡ n + length (stretch ∷ second ∷ stretches) = omega arith in
    ap (λ (ls : List Line). line n (strip_carriage_return stretch) ∷ ls)
    (numbered_front (n + 1) (second ∷ stretches) next more ∙ ap (λ (m : ℕ). counted (n + 1) (second ∷ stretches) ++ numbered m (next ∷ more)) e)

-- the last stretch ends in another byte than a carriage return
numbered_other : (n x : ℕ) (stretches : List (List ℕ)) → eqb x 13 ≡ false → numbered n (onto_last x stretches) ≡ counted n (onto_last x stretches)
numbered_other n x [] other = ap (λ (text : List ℕ). line n text ∷ []) (sym (stripped_end [] x ∙ ap (λ (t : Bool). cond t [] (x ∷ [])) other))
numbered_other n x (stretch ∷ []) other =
    ap (λ (text : List ℕ). line n text ∷ []) (sym (stripped_end stretch x ∙ ap (λ (t : Bool). cond t stretch (stretch ++ x ∷ [])) other))
numbered_other n x (stretch ∷ second ∷ []) other = ap (λ (ls : List Line). line n (strip_carriage_return stretch) ∷ ls) (numbered_other (n + 1) x (second ∷ []) other)
numbered_other n x (stretch ∷ second ∷ third ∷ stretches) other =
    ap (λ (ls : List Line). line n (strip_carriage_return stretch) ∷ ls) (numbered_other (n + 1) x (second ∷ third ∷ stretches) other)

-- a carriage return more
numbered_return : (n : ℕ) (stretch : List ℕ) (stretches : List (List ℕ)) → numbered n (stretch ∷ stretches) ≡ counted n (onto_last 13 (stretch ∷ stretches))
numbered_return n stretch [] = ap (λ (text : List ℕ). line n text ∷ []) (sym (stripped_end stretch 13))
numbered_return n stretch (second ∷ stretches) = ap (λ (ls : List Line). line n (strip_carriage_return stretch) ∷ ls) (numbered_return (n + 1) second stretches)

-- ---- what goes on

-- the first line doesn't begin with a blank
abbrev pub IsBare : List Line → Type 0
IsBare [] = Unit {0}
IsBare (l ∷ ls) = begins_blank l.text ≡ false

goes_not : (text next : List ℕ) → begins_blank next ≡ false → goes_on_with text next ≡ false
goes_not [] next bare = refl
goes_not (b ∷ bs) next bare = bare

pub onto_bare : (l : Line) (ls : List Line) → IsBare ls → onto l ls ≡ l ∷ ls
onto_bare l [] bare = refl
onto_bare l (m ∷ ms) bare = ap (λ (t : Bool). cond t (joined l m.text ∷ ms) (l ∷ m ∷ ms)) (goes_not l.text m.text bare)

onto_front : (l : Line) (ls ms : List Line) → IsBare ms → onto l (ls ++ ms) ≡ onto l ls ++ ms
onto_front l [] ms bare = onto_bare l ms bare
onto_front l (k ∷ ks) ms bare = by (goes_on_with l.text k.text)
  where
    by : (t : Bool) → cond t (joined l k.text ∷ (ks ++ ms)) (l ∷ k ∷ (ks ++ ms)) ≡ cond t (joined l k.text ∷ ks) (l ∷ k ∷ ks) ++ ms
    by true = refl
    by false = refl

unfolded_more : (ls ms : List Line) → IsBare (unfolded ms) → unfolded (ls ++ ms) ≡ unfolded ls ++ unfolded ms
unfolding unfolded
unfolded_more [] ms bare = refl
unfolded_more (l ∷ ls) ms bare = ap (onto l) (unfolded_more ls ms bare) ∙ onto_front l (unfolded ls) (unfolded ms) bare

-- ---- a text, a line feed and more

-- the lines that stand behind, with numbers from this one on
abbrev pub lines_from : ℕ → List ℕ → List Line
lines_from n rest = unfolded (numbered n (split rest))

abbrev ended_lines : List ℕ → List Line
ended_lines text = unfolded (counted 1 (split text))

abbrev next_number : List ℕ → ℕ
next_number text = 1 + length (split text)

lines_behind : (text rest : List ℕ) → IsBare (lines_from (next_number text) rest) → lines_of (text ++ 10 ∷ rest) ≡ ended_lines text ++ lines_from (next_number text) rest
unfolding lines_of
lines_behind text rest bare =
    let k = split_some rest in
    ap (λ (ss : List (List ℕ)). unfolded (numbered 1 ss)) (split_more text rest ∙ ap (λ (ss : List (List ℕ)). split text ++ ss) k.2)
    ∙ ap unfolded (numbered_front 1 (split text) k.0 k.1 ∙ ap (λ (ss : List (List ℕ)). counted 1 (split text) ++ numbered (next_number text) ss) (sym k.2))
    ∙ unfolded_more (counted 1 (split text)) (numbered (next_number text) (split rest)) bare

pub nothing_behind : (n : ℕ) → lines_from n [] ≡ line n [] ∷ []
unfolding unfolded
nothing_behind n = refl

empty_bare : (n : ℕ) → IsBare (lines_from n [])
empty_bare n = subst IsBare (sym (nothing_behind n)) refl

-- what stands behind begins a line of its own, whatever its number
abbrev pub BeginsBare : List ℕ → Type 0
BeginsBare rest = (n : ℕ) → IsBare (lines_from n rest)

-- the lines of a text, and of the same text with more behind the end of its last line
pub record Behind (text : List ℕ) : Type 0 where
  pub front : List Line
  pub number : ℕ
  pub all : (rest : List ℕ) → BeginsBare rest → lines_of (text ++ (end_of text ++ rest)) ≡ front ++ lines_from number rest
  pub own : (lines_of text ≡ front) ⊎ ((n : ℕ) × (lines_of text ≡ front ++ line n [] ∷ []))

-- ---- how a text ends

last_byte : (b : ℕ) (bs : List ℕ) → (front : List ℕ) × (x : ℕ) × (b ∷ bs ≡ front ++ x ∷ [])
last_byte b [] = ([], b, refl)
last_byte b (c ∷ cs) = let k = last_byte c cs in (b ∷ k.0, k.1, ap (λ (bs : List ℕ). b ∷ bs) k.2)

ends_in : (byte : ℕ) (front : List ℕ) (x : ℕ) → ends_with byte (front ++ x ∷ []) ≡ eqb x byte
ends_in byte [] x = refl
ends_in byte (b ∷ []) x = refl
ends_in byte (b ∷ c ∷ cs) x = ends_in byte (c ∷ cs) x

behind_nothing : Behind []
unfolding lines_of unfolded
behind_nothing = record { front = []; number = 1; all = λ rest bare. refl; own = inr (1, refl) }

-- behind a line feed
behind_feed : (front : List ℕ) → end_of (front ++ 10 ∷ []) ≡ [] → Behind (front ++ 10 ∷ [])
behind_feed front none = record {
  front = ended_lines front;
  number = next_number front;
  all = λ rest bare.
      ap lines_of (ap (λ (end : List ℕ). (front ++ 10 ∷ []) ++ (end ++ rest)) none ∙ append_assoc front (10 ∷ []) rest)
      ∙ lines_behind front rest (bare (next_number front));
  own = inr (
    next_number front,
    lines_behind front [] (empty_bare (next_number front)) ∙ ap (λ (ls : List Line). ended_lines front ++ ls) (nothing_behind (next_number front)),
  );
}

own_return : (text : List ℕ) → lines_of text ≡ ended_lines (text ++ 13 ∷ [])
unfolding lines_of
own_return text =
    let k = split_some text in
    ap unfolded
    (ap (numbered 1) k.2
    ∙ numbered_return 1 k.0 k.1
    ∙ ap (λ (ss : List (List ℕ)). counted 1 (onto_last 13 ss)) (sym k.2)
    ∙ ap (counted 1) (sym (split_last text 13 refl)))

-- behind a carriage return, which stays
behind_return : (text : List ℕ) → end_of text ≡ 13 ∷ 10 ∷ [] → Behind text
behind_return text ended = record {
  front = ended_lines (text ++ 13 ∷ []);
  number = next_number (text ++ 13 ∷ []);
  all = λ rest bare.
      ap lines_of (ap (λ (end : List ℕ). text ++ (end ++ rest)) ended ∙ sym (append_assoc text (13 ∷ []) (10 ∷ rest)))
      ∙ lines_behind (text ++ 13 ∷ []) rest (bare (next_number (text ++ 13 ∷ [])));
  own = inl (own_return text);
}

own_other : (front : List ℕ) (x : ℕ) → eqb x 10 ≡ false → eqb x 13 ≡ false → lines_of (front ++ x ∷ []) ≡ ended_lines (front ++ x ∷ [])
unfolding lines_of
own_other front x feed other =
    ap unfolded (ap (numbered 1) (split_last front x feed) ∙ numbered_other 1 x (split front) other ∙ ap (counted 1) (sym (split_last front x feed)))

-- behind another byte
behind_other : (front : List ℕ) (x : ℕ) → eqb x 10 ≡ false → eqb x 13 ≡ false → end_of (front ++ x ∷ []) ≡ 10 ∷ [] → Behind (front ++ x ∷ [])
behind_other front x feed other ended = record {
  front = ended_lines (front ++ x ∷ []);
  number = next_number (front ++ x ∷ []);
  all = λ rest bare.
      ap lines_of (ap (λ (end : List ℕ). (front ++ x ∷ []) ++ (end ++ rest)) ended) ∙ lines_behind (front ++ x ∷ []) rest (bare (next_number (front ++ x ∷ [])));
  own = inl (own_other front x feed other);
}

end_is : (b : ℕ) (bs front : List ℕ) (x : ℕ) → b ∷ bs ≡ front ++ x ∷ [] → (feed back : Bool) → eqb x 10 ≡ feed → eqb x 13 ≡ back
    → end_of (front ++ x ∷ []) ≡ cond feed [] (cond back (13 ∷ 10 ∷ []) (10 ∷ []))
end_is b bs front x is feed back e f =
    ap end_of (sym is)
    ∙ (λ i. cond (ends_with 10 (is i)) [] (cond (ends_with 13 (is i)) (13 ∷ 10 ∷ []) (10 ∷ [])))
    ∙ (λ i. cond ((ends_in 10 front x ∙ e) i) [] (cond ((ends_in 13 front x ∙ f) i) (13 ∷ 10 ∷ []) (10 ∷ [])))

pub behind : (text : List ℕ) → Behind text
behind [] = behind_nothing
behind (b ∷ bs) =
    let k = last_byte b bs in
    subst Behind (sym k.2) (by k.0 k.1 k.2 (eqb k.1 10) refl (eqb k.1 13) refl)
  where
    by : (front : List ℕ) (x : ℕ) → b ∷ bs ≡ front ++ x ∷ [] → (feed : Bool) → eqb x 10 ≡ feed → (back : Bool) → eqb x 13 ≡ back → Behind (front ++ x ∷ [])
    by front x is true e back f =
        subst (λ (y : ℕ). end_of (front ++ y ∷ []) ≡ [] → Behind (front ++ y ∷ [])) (sym (eqb-true x 10 e)) (behind_feed front) (end_is b bs front x is true back e f)
    by front x is false e true f = behind_return (front ++ x ∷ []) (end_is b bs front x is false true e f)
    by front x is false e false f = behind_other front x e f (end_is b bs front x is false false e f)
