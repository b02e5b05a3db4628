-- The lines of texts one behind the other, and the records of stanzas that are joined.
use Rattle.std.proofs.Common.{◌≡◌, ℕ, suc, ◌-◌, Bool, true, false, cond, List, [], ◌∷◌, ◌++◌, map, length, length-append, get_or, take, drop, refl, sym, ap, ◌∙◌, append_assoc, append-nil, arith}
use Rattle.std.specs.Prelude.{◌==◌, ◌||◌}
use Rattle.std.specs.List.{slice_split, onto_first, flat_map}
use Rattle.std.specs.Str.Lines.{lines, lines_of_parts, strip_carriage_return}
use Rattle.std.specs.Cmp.Lexicographic.{bytes_decides}
use Rattle.std.proofs.lemmas.Bool.{eqb-true}
use Rattle.std.proofs.lemmas.List.{take-append-drop}
use Rattle.std.proofs.Math.Seq.{take-append_seam}
use Rattle.sorting.specs.Sorted.{ends_in, lacking, joined}
use Rattle.sorting.proofs.Whole.{ends_seam}
use Rattle.sorting.proofs.Contents.{Lines, contents, apart}

abbrev pub is_feed : ℕ → Bool
is_feed b = b == 10

abbrev pub parts : List ℕ → Lines
parts text = slice_split is_feed text

-- its lines as they are where an LF comes behind it
abbrev pub whole_lines : List ℕ → Lines
whole_lines text = map strip_carriage_return (parts text)

-- ---- cutting

-- a list of lists with its last one apart
pub record Last (ps : Lines) : Type 0 where
  pub front : Lines
  pub last : List ℕ
  pub are : ps ≡ front ++ last ∷ []

onto_append : (b : ℕ) (ps : Lines) (l : Last ps) (qs : Lines) → onto_first b (ps ++ qs) ≡ onto_first b ps ++ qs
onto_append b [] l qs = absurd (none l.front l.are)
  where
    none : (front : Lines) → [] ≡ front ++ l.last ∷ [] → ⊥
    none [] e = cc
    none (f ∷ fs) e = cc
onto_append b (p ∷ ps) l qs = refl

onto_last : (b : ℕ) (ps : Lines) → Last ps → Last (onto_first b ps)
onto_last b ps l = by l.front l.are
  where
    by : (front : Lines) → ps ≡ front ++ l.last ∷ [] → Last (onto_first b ps)
    by [] e = record { front = []; last = b ∷ l.last; are = ap (onto_first b) e }
    by (f ∷ fs) e = record { front = (b ∷ f) ∷ fs; last = l.last; are = ap (onto_first b) e }

pub last_part : (text : List ℕ) → Last (parts text)
last_part [] = record { front = []; last = []; are = refl }
last_part (b ∷ bs) = by (is_feed b) (last_part bs)
  where
    by : (t : Bool) → Last (parts bs) → Last (cond t ([] ∷ parts bs) (onto_first b (parts bs)))
    by true l = record { front = [] ∷ l.front; last = l.last; are = ap (λ (x : Lines). [] ∷ x) l.are }
    by false l = onto_last b (parts bs) l

-- an LF cuts a text
parts_apart : (text rest : List ℕ) → parts (text ++ 10 ∷ rest) ≡ parts text ++ parts rest
parts_apart [] rest = refl
parts_apart (b ∷ bs) rest = by (is_feed b) (parts_apart bs rest)
  where
    by : (t : Bool) → parts (bs ++ 10 ∷ rest) ≡ parts bs ++ parts rest
        → cond t ([] ∷ parts (bs ++ 10 ∷ rest)) (onto_first b (parts (bs ++ 10 ∷ rest))) ≡ cond t ([] ∷ parts bs) (onto_first b (parts bs)) ++ parts rest
    by true h = ap (λ (l : Lines). [] ∷ l) h
    by false h = ap (onto_first b) h ∙ onto_append b (parts bs) (last_part bs) (parts rest)

lines_apart : (ps : Lines) (qs : Lines) → Last qs → lines_of_parts (ps ++ qs) ≡ map strip_carriage_return ps ++ lines_of_parts qs
lines_apart [] qs l = refl
lines_apart (p ∷ []) qs l = by l.front l.are
  where
    by : (front : Lines) → qs ≡ front ++ l.last ∷ [] → lines_of_parts (p ∷ qs) ≡ strip_carriage_return p ∷ lines_of_parts qs
    by [] e = ap (λ (x : Lines). lines_of_parts (p ∷ x)) e ∙ ap (λ (x : Lines). strip_carriage_return p ∷ lines_of_parts x) (sym e)
    by (f ∷ fs) e = ap (λ (x : Lines). lines_of_parts (p ∷ x)) e ∙ ap (λ (x : Lines). strip_carriage_return p ∷ lines_of_parts x) (sym e)
lines_apart (p ∷ r ∷ ps) qs l = ap (λ (x : Lines). strip_carriage_return p ∷ x) (lines_apart (r ∷ ps) qs l)

pub lines_behind : (text rest : List ℕ) → lines (text ++ 10 ∷ rest) ≡ whole_lines text ++ lines rest
lines_behind text rest = ap lines_of_parts (parts_apart text rest) ∙ lines_apart (parts text) (parts rest) (last_part rest)

-- ---- a byte at the end

onto_put : (b c : ℕ) (front : Lines) (last : List ℕ) (ps qs : Lines) → ps ≡ front ++ last ∷ [] → qs ≡ front ++ (last ++ c ∷ []) ∷ []
    → (l : Last (onto_first b ps)) × (onto_first b qs ≡ l.front ++ (l.last ++ c ∷ []) ∷ [])
onto_put b c [] last ps qs e g = (record { front = []; last = b ∷ last; are = ap (onto_first b) e }, ap (onto_first b) g)
onto_put b c (f ∷ fs) last ps qs e g = (record { front = (b ∷ f) ∷ fs; last = last; are = ap (onto_first b) e }, ap (onto_first b) g)

-- it belongs to the last part
put_byte : (c : ℕ) → is_feed c ≡ false → (text : List ℕ) → (l : Last (parts text)) × (parts (text ++ c ∷ []) ≡ l.front ++ (l.last ++ c ∷ []) ∷ [])
put_byte c other [] = (record { front = []; last = []; are = refl }, ap (λ (t : Bool). cond t ([] ∷ [] ∷ []) ((c ∷ []) ∷ [])) other)
put_byte c other (b ∷ bs) = by (is_feed b) (put_byte c other bs)
  where
    by : (t : Bool) → (l : Last (parts bs)) × (parts (bs ++ c ∷ []) ≡ l.front ++ (l.last ++ c ∷ []) ∷ [])
        → (l : Last (cond t ([] ∷ parts bs) (onto_first b (parts bs)))) × (cond t ([] ∷ parts (bs ++ c ∷ [])) (onto_first b (parts (bs ++ c ∷ []))) ≡ l.front ++ (l.last ++ c ∷ []) ∷ [])
    by true h = (record { front = [] ∷ h.0.front; last = h.0.last; are = ap (λ (x : Lines). [] ∷ x) h.0.are }, ap (λ (x : Lines). [] ∷ x) h.1)
    by false h = onto_put b c h.0.front h.0.last (parts bs) (parts (bs ++ c ∷ [])) h.0.are h.1

get_last : (x : List ℕ) (b : ℕ) → get_or (x ++ b ∷ []) (length (x ++ b ∷ []) - 1) 0 ≡ b
get_last [] b = refl
get_last (y ∷ ys) b =
    let e : length ((y ∷ ys) ++ b ∷ []) - 1 ≡ suc (length (ys ++ b ∷ []) - 1) = let long = length-append ys (b ∷ []) in omega (arith, long) in
    ap (λ (n : ℕ). get_or ((y ∷ ys) ++ b ∷ []) n 0) e ∙ get_last ys b

-- what doesn't end with a CR stays, and what does loses it
pub strip_other : (x : List ℕ) (b : ℕ) → (b == 13) ≡ false → strip_carriage_return (x ++ b ∷ []) ≡ x ++ b ∷ []
strip_other x b other = ap (λ (t : Bool). cond t (take (length (x ++ b ∷ []) - 1) (x ++ b ∷ [])) (x ++ b ∷ [])) (ap (λ (n : ℕ). n == 13) (get_last x b) ∙ other)

pub strip_return : (x : List ℕ) → strip_carriage_return (x ++ 13 ∷ []) ≡ x
strip_return x =
    ap (λ (t : Bool). cond t (take (length (x ++ 13 ∷ []) - 1) (x ++ 13 ∷ [])) (x ++ 13 ∷ [])) (ap (λ (n : ℕ). n == 13) (get_last x 13))
    ∙ ap (λ (n : ℕ). take n (x ++ 13 ∷ [])) (let long = length-append x (13 ∷ []) in omega (arith, long))
    ∙ take-append_seam x (13 ∷ [])

some_line : (front : Lines) (x : List ℕ) (b : ℕ) → lines_of_parts (front ++ (x ++ b ∷ []) ∷ []) ≡ map strip_carriage_return front ++ (x ++ b ∷ []) ∷ []
some_line front x b =
    lines_apart front ((x ++ b ∷ []) ∷ []) (record { front = []; last = x ++ b ∷ []; are = refl })
    ∙ ap (λ (l : Lines). map strip_carriage_return front ++ l) (one x)
  where
    one : (y : List ℕ) → lines_of_parts ((y ++ b ∷ []) ∷ []) ≡ (y ++ b ∷ []) ∷ []
    one [] = refl
    one (z ∷ zs) = let e : (length ((z ∷ zs) ++ b ∷ []) == 0) ≡ false = grind (arith) in ap (λ (t : Bool). cond t [] (((z ∷ zs) ++ b ∷ []) ∷ [])) e

map-append_one : (front : Lines) (p : List ℕ) → map strip_carriage_return (front ++ p ∷ []) ≡ map strip_carriage_return front ++ strip_carriage_return p ∷ []
map-append_one [] p = refl
map-append_one (f ∷ fs) p = ap (λ (l : Lines). strip_carriage_return f ∷ l) (map-append_one fs p)

-- an LF behind a text of another end changes no line
feed_behind : (text : List ℕ) (b : ℕ) → is_feed b ≡ false → (b == 13) ≡ false → whole_lines (text ++ b ∷ []) ≡ lines (text ++ b ∷ [])
feed_behind text b feed other =
    let h = put_byte b feed text in
    ap (map strip_carriage_return) h.1
    ∙ map-append_one h.0.front (h.0.last ++ b ∷ [])
    ∙ ap (λ (l : List ℕ). map strip_carriage_return h.0.front ++ l ∷ []) (strip_other h.0.last b other)
    ∙ sym (some_line h.0.front h.0.last b)
    ∙ ap lines_of_parts (sym h.1)

same_last : (xs ys : Lines) (p q : List ℕ) → xs ++ p ∷ [] ≡ ys ++ q ∷ [] → (xs ≡ ys) × (p ≡ q)
same_last [] [] p q e = (refl, cc)
same_last [] (y ∷ ys) p q e = absurd (let long = ap (λ (l : Lines). length l) e in let more = length-append ys (q ∷ []) in omega (arith, long, more))
same_last (x ∷ xs) [] p q e = absurd (let long = ap (λ (l : Lines). length l) e in let more = length-append xs (p ∷ []) in omega (arith, long, more))
same_last (x ∷ xs) (y ∷ ys) p q e =
    let tails : xs ++ p ∷ [] ≡ ys ++ q ∷ [] = cc in
    let heads : x ≡ y = cc in
    let h = same_last xs ys p q tails in
    ((λ i. heads i ∷ h.0 i), h.1)

-- nor does CR LF behind one that ends with a CR
returns_behind : (text : List ℕ) → whole_lines ((text ++ 13 ∷ []) ++ 13 ∷ []) ≡ lines (text ++ 13 ∷ [])
returns_behind text =
    let h = put_byte 13 refl (text ++ 13 ∷ []) in
    ap (map strip_carriage_return) h.1
    ∙ map-append_one h.0.front (h.0.last ++ 13 ∷ [])
    ∙ ap (λ (l : List ℕ). map strip_carriage_return h.0.front ++ l ∷ []) (strip_return h.0.last)
    ∙ sym (lines_are h)
  where
    -- the last part isn't empty
    lines_are : (h : (l : Last (parts (text ++ 13 ∷ []))) × (parts ((text ++ 13 ∷ []) ++ 13 ∷ []) ≡ l.front ++ (l.last ++ 13 ∷ []) ∷ []))
        → lines (text ++ 13 ∷ []) ≡ map strip_carriage_return h.0.front ++ h.0.last ∷ []
    lines_are h =
        let g = put_byte 13 refl text in
        let same = same_last h.0.front g.0.front h.0.last (g.0.last ++ 13 ∷ []) (sym h.0.are ∙ g.1) in
        ap lines_of_parts g.1 ∙ some_line g.0.front g.0.last 13
        ∙ (λ i. map strip_carriage_return (sym same.0 i) ++ sym same.1 i ∷ [])

-- ---- the records of texts one behind the other

abbrev pub found : List ℕ → List Lines
found text = contents (lines text)

no_more : (text : List ℕ) → contents (whole_lines text ++ [] ∷ []) ≡ contents (whole_lines text)
no_more text = apart [] (whole_lines text) [] ∙ append-nil (contents (whole_lines text))

-- an empty line behind a text that ended, or an LF and an empty line
closed_feeds : (text rest : List ℕ) → found (text ++ 10 ∷ 10 ∷ rest) ≡ contents (whole_lines text) ++ found rest
closed_feeds text rest = ap contents (lines_behind text (10 ∷ rest) ∙ ap (λ (l : Lines). whole_lines text ++ l) (lines_behind [] rest)) ∙ apart [] (whole_lines text) (lines rest)

closed_returns : (text rest : List ℕ) → found (text ++ 10 ∷ 13 ∷ 10 ∷ rest) ≡ contents (whole_lines text) ++ found rest
closed_returns text rest = ap contents (lines_behind text (13 ∷ 10 ∷ rest) ∙ ap (λ (l : Lines). whole_lines text ++ l) (lines_behind (13 ∷ []) rest)) ∙ apart [] (whole_lines text) (lines rest)

ended_feed : (text : List ℕ) → found (text ++ 10 ∷ []) ≡ contents (whole_lines text)
ended_feed text = ap contents (lines_behind text [] ∙ append-nil (whole_lines text))

-- how a text ends
ends_with_it : (text end : List ℕ) → ends_in text end ≡ true → text ≡ take (length text - length end) text ++ end
ends_with_it text end h =
    sym (take-append-drop (length text - length end) text)
    ∙ ap (λ (l : List ℕ). take (length text - length end) text ++ l) (sym ((bytes_decides end (drop (length text - length end) text)).0 h))

record EndsWith (text end : List ℕ) : Type 0 where
  front : List ℕ
  is : text ≡ front ++ end

ending : (text end : List ℕ) → ends_in text end ≡ true → EndsWith text end
ending text end h = record { front = take (length text - length end) text; is = ends_with_it text end h }

-- its last byte
data LastByte (text : List ℕ) : Type 0 where
  nothing : text ≡ [] → LastByte text
  byte : (front : List ℕ) (b : ℕ) → text ≡ front ++ b ∷ [] → LastByte text

last_byte : (text : List ℕ) → LastByte text
last_byte [] = nothing refl
last_byte (b ∷ bs) = by (last_byte bs)
  where
    by : LastByte bs → LastByte (b ∷ bs)
    by (nothing e) = byte [] b (ap (λ (l : List ℕ). b ∷ l) e)
    by (byte front c e) = byte (b ∷ front) c (ap (λ (l : List ℕ). b ∷ l) e)

not_it : (text : List ℕ) (c : ℕ) (front : List ℕ) (b : ℕ) → text ≡ front ++ b ∷ [] → ends_in text (c ∷ []) ≡ false → (b == c) ≡ false
not_it text c front b is h = by (b == c) refl
  where
    by : (t : Bool) → (b == c) ≡ t → t ≡ false
    by false e = refl
    by true e =
        let same : b ≡ c = eqb-true b c e in
        let ends : ends_in text (c ∷ []) ≡ true = ap (λ (l : List ℕ). ends_in l (c ∷ [])) (is ∙ ap (λ (x : ℕ). front ++ x ∷ []) same) ∙ ends_seam front (c ∷ []) ∙ (bytes_decides (c ∷ []) (c ∷ [])).1 refl in
        let no : true ≡ false = sym ends ∙ h in cc

module _ (stanza rest : List ℕ) where
  abbrev Apart : List ℕ → Type 0
  Apart lacks = found ((stanza ++ lacks) ++ rest) ≡ found stanza ++ found rest

  feeds : EndsWith stanza (10 ∷ 10 ∷ []) → Apart []
  feeds h =
      ap (λ (l : List ℕ). found (l ++ rest)) (append-nil stanza ∙ h.is) ∙ ap found (append_assoc h.front (10 ∷ 10 ∷ []) rest) ∙ closed_feeds h.front rest
      ∙ ap (λ (l : List Lines). l ++ found rest) (sym (ap found h.is ∙ closed_feeds h.front [] ∙ append-nil (contents (whole_lines h.front))))

  returns : EndsWith stanza (10 ∷ 13 ∷ 10 ∷ []) → Apart []
  returns h =
      ap (λ (l : List ℕ). found (l ++ rest)) (append-nil stanza ∙ h.is) ∙ ap found (append_assoc h.front (10 ∷ 13 ∷ 10 ∷ []) rest) ∙ closed_returns h.front rest
      ∙ ap (λ (l : List Lines). l ++ found rest) (sym (ap found h.is ∙ closed_returns h.front [] ∙ append-nil (contents (whole_lines h.front))))

  ended : EndsWith stanza (10 ∷ []) → Apart (10 ∷ [])
  ended h =
      ap (λ (l : List ℕ). found ((l ++ 10 ∷ []) ++ rest)) h.is
      ∙ ap found (ap (λ (l : List ℕ). l ++ rest) (append_assoc h.front (10 ∷ []) (10 ∷ [])) ∙ append_assoc h.front (10 ∷ 10 ∷ []) rest) ∙ closed_feeds h.front rest
      ∙ ap (λ (l : List Lines). l ++ found rest) (sym (ap found h.is ∙ ended_feed h.front))

  returned : EndsWith stanza (13 ∷ []) → Apart (13 ∷ 10 ∷ 10 ∷ [])
  returned h =
      ap found (ap (λ (l : List ℕ). l ++ rest) (sym (append_assoc stanza (13 ∷ []) (10 ∷ 10 ∷ []))) ∙ append_assoc (stanza ++ 13 ∷ []) (10 ∷ 10 ∷ []) rest) ∙ closed_feeds (stanza ++ 13 ∷ []) rest
      ∙ ap (λ (l : Lines). contents l ++ found rest) (ap (λ (l : List ℕ). whole_lines (l ++ 13 ∷ [])) h.is ∙ returns_behind h.front ∙ ap lines (sym h.is))

  open_end : (front : List ℕ) (b : ℕ) → stanza ≡ front ++ b ∷ [] → (b == 10) ≡ false → (b == 13) ≡ false → Apart (10 ∷ 10 ∷ [])
  open_end front b is feed return =
      ap found (append_assoc stanza (10 ∷ 10 ∷ []) rest) ∙ closed_feeds stanza rest
      ∙ ap (λ (l : Lines). contents l ++ found rest) (ap whole_lines is ∙ feed_behind front b feed return ∙ ap lines (sym is))

  nothing_there : stanza ≡ [] → Apart (10 ∷ 10 ∷ [])
  nothing_there is =
      ap found (append_assoc stanza (10 ∷ 10 ∷ []) rest) ∙ closed_feeds stanza rest
      ∙ ap (λ (l : List ℕ). contents (whole_lines l) ++ found rest) is ∙ ap (λ (l : List ℕ). found l ++ found rest) (sym is)

  unclosed : (feed : Bool) → ends_in stanza (10 ∷ []) ≡ feed → (return : Bool) → ends_in stanza (13 ∷ []) ≡ return → Apart (cond feed (10 ∷ []) (cond return (13 ∷ 10 ∷ 10 ∷ []) (10 ∷ 10 ∷ [])))
  unclosed true e return g = ended (ending stanza (10 ∷ []) e)
  unclosed false e true g = returned (ending stanza (13 ∷ []) g)
  unclosed false e false g = by (last_byte stanza)
    where
      by : LastByte stanza → Apart (10 ∷ 10 ∷ [])
      by (nothing is) = nothing_there is
      by (byte front b is) = open_end front b is (not_it stanza 10 front b is e) (not_it stanza 13 front b is g)

  closed : (feeds_end : Bool) → ends_in stanza (10 ∷ 10 ∷ []) ≡ feeds_end → (returns_end : Bool) → ends_in stanza (10 ∷ 13 ∷ 10 ∷ []) ≡ returns_end
      → Apart (cond (feeds_end || returns_end) [] (cond (ends_in stanza (10 ∷ [])) (10 ∷ []) (cond (ends_in stanza (13 ∷ [])) (13 ∷ 10 ∷ 10 ∷ []) (10 ∷ 10 ∷ []))))
  closed true e returns_end g = feeds (ending stanza (10 ∷ 10 ∷ []) e)
  closed false e true g = returns (ending stanza (10 ∷ 13 ∷ 10 ∷ []) g)
  closed false e false g = unclosed (ends_in stanza (10 ∷ [])) refl (ends_in stanza (13 ∷ [])) refl

  -- a stanza with what it lacks is read by itself
  pub behind_it : found ((stanza ++ lacking stanza) ++ rest) ≡ found stanza ++ found rest
  unfolding lacking
  behind_it = closed (ends_in stanza (10 ∷ 10 ∷ [])) refl (ends_in stanza (10 ∷ 13 ∷ 10 ∷ [])) refl

pub joined_found : (ps : Lines) → found (joined ps) ≡ flat_map found ps
unfolding joined
joined_found [] = refl
joined_found (p ∷ []) = ap found (append-nil p) ∙ sym (append-nil (found p))
joined_found (p ∷ q ∷ ps) = behind_it p (joined (q ∷ ps)) ∙ ap (λ (l : List Lines). found p ++ l) (joined_found (q ∷ ps))
