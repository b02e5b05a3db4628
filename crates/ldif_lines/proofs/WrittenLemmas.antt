-- The records of a text of blocks that were written, and the lengths of its lines.
use Rattle.std.proofs.Common.{◌≡◌, ℕ, zero, suc, ◌+◌, ◌-◌, Bool, true, false, cond, not, ◌&&◌, eqb, List, [], ◌∷◌, ◌++◌, map, length, get_or, take, drop, filter, Option, Some, refl, sym, ap, subst, ◌∙◌, append_assoc, arith}
use Rattle.std.specs.List.{slice_split, onto_first, flat_map, enumerate_from, filter_map, cons_option, list_all, AllByRecursion}
use Rattle.std.proofs.lemmas.Bool.{and_parts}
use Rattle.std.proofs.lemmas.Bool.Decides.{nat_tests}
use Rattle.std.specs.Str.Lines.{lines, lines_of_parts, strip_carriage_return}
use Rattle.std.proofs.lemmas.List.{append-nil}
use Rattle.std.proofs.lemmas.List.Splits.{slice_split_at}
use Rattle.std.proofs.lemmas.List.Concat.{flat_map-append}
use Rattle.std.proofs.lemmas.List.Elements.{All-from_recursion, All-get_or}
use Rattle.base.specs.Ends.{begins_with}
use Rattle.ldif_lines.specs.Records.{Body, is_blank, is_kept, number_of, bytes_of, continuation, joined, joined_block, body_of, body_of_block, with_first, records_from, records}
use Rattle.ldif_lines.proofs.PartLemmas.{is_feed, IsCons, split_cons}
use Rattle.ldif_lines.specs.Folding.{folded_to, folded_line, written_blocks_to, written_blocks, IsWidth, FitsIn, standard_width, is_line_byte, IsWritable, AreWritable, IsComment, CommentedBlock, IsWritableComment, all_lines_of, record_lines, written_commented, raw_lines, raw_block, with_first_flag}

-- ---- lines

record IsLineByte (b : ℕ) : Type 0 where
  feed : eqb b 10 ≡ false
  return : eqb b 13 ≡ false

abbrev AreLineBytes : List ℕ → Type 0
AreLineBytes l = AllByRecursion IsLineByte l

abbrev end_line : List ℕ → List ℕ
end_line line = line ++ 10 ∷ []

feeds : (l : List ℕ) → AreLineBytes l → AllByRecursion (λ b. is_feed b ≡ false) l
feeds [] h = tt
feeds (b ∷ bs) h = (h.0.feed, feeds bs h.1)

returns : (l : List ℕ) → AreLineBytes l → AllByRecursion (λ b. eqb b 13 ≡ false) l
returns [] h = tt
returns (b ∷ bs) h = (h.0.return, returns bs h.1)

ends_plain : (l : List ℕ) → AreLineBytes l → strip_carriage_return l ≡ l
ends_plain [] h = refl
ends_plain (b ∷ bs) h =
    let e : eqb (get_or (b ∷ bs) (length (b ∷ bs) - 1) 0) 13 ≡ false =
    All-get_or (λ x. eqb x 13 ≡ false) (b ∷ bs) (length (b ∷ bs) - 1) 0 (omega arith) (All-from_recursion (λ x. eqb x 13 ≡ false) (b ∷ bs) (returns (b ∷ bs) h)) in
    ap (λ t. cond t (take (length (b ∷ bs) - 1) (b ∷ bs)) (b ∷ bs)) e

-- the first line of a text is its bytes up to the first line feed
one_line : (l rest : List ℕ) → AreLineBytes l → lines (l ++ 10 ∷ rest) ≡ l ∷ lines rest
one_line l rest h =
    let s = split_cons is_feed rest in
    ap lines_of_parts (slice_split_at is_feed l 10 rest (All-from_recursion (λ x. is_feed x ≡ false) l (feeds l h)) refl)
    ∙ ap (λ (ps : List (List ℕ)). lines_of_parts (l ∷ ps)) s.2
    ∙ ap (λ (ps : List (List ℕ)). strip_carriage_return l ∷ lines_of_parts ps) (sym s.2)
    ∙ ap (λ (x : List ℕ). x ∷ lines rest) (ends_plain l h)

-- lines that are put one after another are cut again
all_lines : (ls : List (List ℕ)) → AllByRecursion AreLineBytes ls → lines (flat_map end_line ls) ≡ ls
all_lines [] h = refl
all_lines (l ∷ ls) h =
    ap lines (append_assoc l (10 ∷ []) (flat_map end_line ls)) ∙ one_line l (flat_map end_line ls) h.0 ∙ ap (λ (x : List (List ℕ)). l ∷ x) (all_lines ls h.1)

-- ---- a line in its pieces

onto_cons : (b : ℕ) (ps : List (List ℕ)) → IsCons ps → IsCons (onto_first b ps)
onto_cons b ps h = (b ∷ h.0, h.1, ap (onto_first b) h.2)

onto_text : (b : ℕ) (ps : List (List ℕ)) → IsCons ps → flat_map end_line (onto_first b ps) ≡ b ∷ flat_map end_line ps
onto_text b ps h = ap (λ (x : List (List ℕ)). flat_map end_line (onto_first b x)) h.2 ∙ ap (λ (x : List (List ℕ)). b ∷ flat_map end_line x) (sym h.2)

-- these pieces are a first one and others that begin with a space, and joined they are the line
record IsFolded (pieces : List (List ℕ)) (l : List ℕ) : Type 0 where
  first : List ℕ
  more : List (List ℕ)
  pieces_are : pieces ≡ first ∷ more
  joined : first ++ flat_map (drop 1) more ≡ l
  bytes : AllByRecursion AreLineBytes (first ∷ more)
  spaced : AllByRecursion (λ m. begins_with 32 m ≡ true) more

onto : (b : ℕ) (pieces : List (List ℕ)) (l : List ℕ) → IsLineByte b → IsFolded pieces l → IsFolded (onto_first b pieces) (b ∷ l)
onto b pieces l is h = record {
  first = b ∷ h.first;
  more = h.more;
  pieces_are = ap (onto_first b) h.pieces_are;
  joined = ap (λ (x : List ℕ). b ∷ x) h.joined;
  bytes = ((is, h.bytes.0), h.bytes.1);
  spaced = h.spaced;
}

space : IsLineByte 32
space = record { feed = refl; return = refl }

further : (pieces : List (List ℕ)) (l : List ℕ) → IsFolded pieces l → IsFolded ([] ∷ onto_first 32 pieces) l
further pieces l h = record {
  first = [];
  more = (32 ∷ h.first) ∷ h.more;
  pieces_are = ap (λ (x : List (List ℕ)). [] ∷ onto_first 32 x) h.pieces_are;
  joined = h.joined;
  bytes = (tt, ((space, h.bytes.0), h.bytes.1));
  spaced = (refl, h.spaced);
}

-- ---- one record

-- a line or a comment that can be written: it doesn't begin with a space, and isn't empty
record IsStart (b : ℕ) : Type 0 where
  space : eqb b 32 ≡ false

record CanStand (l : List ℕ) : Type 0 where
  bytes : AreLineBytes l
  start : (b : ℕ) × (bs : List ℕ) × (l ≡ b ∷ bs) × IsStart b

-- the number after so many lines
later : {X : Type 0} → ℕ → List X → ℕ
later k [] = k
later k (x ∷ xs) = later (k + 1) xs

-- what the further pieces add to the first
continued : (k : ℕ) (more rest : List (List ℕ)) → AllByRecursion (λ m. begins_with 32 m ≡ true) more → continuation (enumerate_from k (more ++ rest)) ≡ flat_map (drop 1) more ++ continuation (enumerate_from (later k more) rest)
unfolding continuation later
continued k [] rest h = refl
continued k (m ∷ more) rest h =
    ap (λ t. cond t (drop 1 m ++ continuation (enumerate_from (k + 1) (more ++ rest))) []) h.0
    ∙ ap (λ (x : List ℕ). drop 1 m ++ x) (continued (k + 1) more rest h.1)
    ∙ sym (append_assoc (drop 1 m) (flat_map (drop 1) more) (continuation (enumerate_from (later (k + 1) more) rest)))

-- the further pieces begin no line
skipped : (k : ℕ) (more rest : List (List ℕ)) → AllByRecursion (λ m. begins_with 32 m ≡ true) more → joined (enumerate_from k (more ++ rest)) ≡ joined (enumerate_from (later k more) rest)
unfolding joined later
skipped k [] rest h = refl
skipped k (m ∷ more) rest h =
    ap (λ t. cond t (joined (enumerate_from (k + 1) (more ++ rest))) ((k, m ++ continuation (enumerate_from (k + 1) (more ++ rest))) ∷ joined (enumerate_from (k + 1) (more ++ rest)))) h.0
    ∙ skipped (k + 1) more rest h.1

-- the lines that are no comments
abbrev kept : List (List ℕ) → List (List ℕ)
kept ls = filter (λ l. not (begins_with 35 l)) ls

abbrev lines_in : Body → List (List ℕ)
lines_in b = b.lines

-- the body that lines make where one is left of them
record HasBody (ls : List (ℕ × List ℕ)) (said : List (List ℕ)) : Type 0 where
  body : Body
  body_is : body_of ls ≡ Some body
  lines_are : body.lines ≡ said

some_body : (ls : List (ℕ × List ℕ)) (first : List ℕ) (more : List (List ℕ)) → map bytes_of ls ≡ first ∷ more → HasBody ls (first ∷ more)
unfolding body_of
some_body [] first more h = cc
some_body (l ∷ ls) first more h = record { body = record { line = l.0; lines = l.1 ∷ map bytes_of ls; numbers = l.0 ∷ map number_of ls }; body_is = refl; lines_are = h }

-- ---- all records

-- a record has a line at least that is no comment
record CanStandAll (ls : List (List ℕ)) : Type 0 where
  first : List ℕ
  more : List (List ℕ)
  lines_are : kept ls ≡ first ∷ more
  all : AllByRecursion CanStand ls

-- the first block goes up to the first empty line
blocks_at : (k : ℕ) (xs ys : List (List ℕ)) → AllByRecursion (λ x. eqb (length x) 0 ≡ false) xs → slice_split is_blank (enumerate_from k (xs ++ [] ∷ ys)) ≡ enumerate_from k xs ∷ slice_split is_blank (enumerate_from (later k xs + 1) ys)
unfolding later
blocks_at k [] ys h = refl
blocks_at k (x ∷ xs) ys h =
    ap (λ t. cond t ([] ∷ slice_split is_blank (enumerate_from (k + 1) (xs ++ [] ∷ ys))) (onto_first (k, x) (slice_split is_blank (enumerate_from (k + 1) (xs ++ [] ∷ ys))))) h.0
    ∙ ap (onto_first (k, x)) (blocks_at (k + 1) xs ys h.1)

spaced_some : (m : List ℕ) → begins_with 32 m ≡ true → eqb (length m) 0 ≡ false
spaced_some [] h = cc
spaced_some (b ∷ bs) h = grind (arith)

all_spaced : (more : List (List ℕ)) → AllByRecursion (λ m. begins_with 32 m ≡ true) more → AllByRecursion (λ x. eqb (length x) 0 ≡ false) more
all_spaced [] h = tt
all_spaced (m ∷ more) h = (spaced_some m h.0, all_spaced more h.1)

all_append : {X : Type 0} (P : X → Type 0) (xs ys : List X) → AllByRecursion P xs → AllByRecursion P ys → AllByRecursion P (xs ++ ys)
all_append P [] ys h g = g
all_append P (x ∷ xs) ys h g = (h.0, all_append P xs ys h.1 g)

some_byte : (b : ℕ) (bs : List ℕ) → eqb (length (b ∷ bs)) 0 ≡ false
some_byte b bs = grind (arith)

-- ---- what may be written can stand

line_byte : (b : ℕ) → is_line_byte b ≡ true → IsLineByte b
line_byte b h = record { feed = grind (arith, nat_tests); return = grind (arith, nat_tests) }

line_bytes : (l : List ℕ) → list_all is_line_byte l ≡ true → AreLineBytes l
line_bytes [] h = tt
line_bytes (b ∷ bs) h = let both = and_parts (is_line_byte b) (list_all is_line_byte bs) h in (line_byte b both.0, line_bytes bs both.1)

start_byte : (b : ℕ) → not (eqb b 32) && not (eqb b 35) ≡ true → IsStart b
start_byte b h = record { space = grind (arith, nat_tests) }

hash_byte : (b : ℕ) → not (eqb b 32) && not (eqb b 35) ≡ true → not (eqb b 35) ≡ true
hash_byte b h = grind (arith, nat_tests)

stands : (l : List ℕ) → IsWritable l → CanStand l
stands [] h = let e : false ≡ true = h.begins in (cc)
stands (b ∷ bs) h = record { bytes = line_bytes (b ∷ bs) h.bytes; start = (b, bs, refl, start_byte b h.begins) }

stand : (ls : List (List ℕ)) → AllByRecursion IsWritable ls → AllByRecursion CanStand ls
stand [] h = tt
stand (l ∷ ls) h = (stands l h.0, stand ls h.1)

no_hash : (l : List ℕ) → IsWritable l → not (begins_with 35 l) ≡ true
no_hash [] h = let e : false ≡ true = h.begins in (cc)
no_hash (b ∷ bs) h = hash_byte b h.begins

all_kept : (ls : List (List ℕ)) → AllByRecursion IsWritable ls → kept ls ≡ ls
all_kept [] h = refl
all_kept (l ∷ ls) h = ap (λ (b : Bool). cond b (l ∷ kept ls) (kept ls)) (no_hash l h.0) ∙ ap (λ (x : List (List ℕ)). l ∷ x) (all_kept ls h.1)

block_stands : (ls : List (List ℕ)) → AreWritable ls → CanStandAll ls
block_stands [] h = absurd h
block_stands (l ∷ ls) h = record { first = l; more = ls; lines_are = all_kept (l ∷ ls) h; all = stand (l ∷ ls) h }

all_stand : (rs : List (List (List ℕ))) → AllByRecursion AreWritable rs → AllByRecursion CanStandAll rs
all_stand [] h = tt
all_stand (r ∷ rs) h = (block_stands r h.0, all_stand rs h.1)

block_kept : (ls : List (List ℕ)) → AreWritable ls → kept ls ≡ ls
block_kept [] h = absurd h
block_kept (l ∷ ls) h = all_kept (l ∷ ls) h

blocks_kept : (rs : List (List (List ℕ))) → AllByRecursion AreWritable rs → map kept rs ≡ rs
blocks_kept [] h = refl
blocks_kept (r ∷ rs) h = λ i. block_kept r h.0 i ∷ blocks_kept rs h.1 i

-- ---- with a comment in front

comment_stands : (l : List ℕ) → IsComment l → CanStand l
comment_stands [] h = let e : false ≡ true = h.begins in (cc)
comment_stands (b ∷ bs) h = record { bytes = line_bytes (b ∷ bs) h.bytes; start = (b, bs, refl, record { space = hash_start b h.begins }) }
  where
    hash_start : (b : ℕ) → eqb b 35 ≡ true → eqb b 32 ≡ false
    hash_start b h = grind (arith, nat_tests)

commented_kept : (b : CommentedBlock) → IsWritableComment b → kept (b.comment ∷ b.lines) ≡ b.lines
commented_kept b h = ap (λ (t : Bool). cond (not t) (b.comment ∷ kept b.lines) (kept b.lines)) h.comment.begins ∙ block_kept b.lines h.lines

commented_stands : (b : CommentedBlock) → IsWritableComment b → CanStandAll (b.comment ∷ b.lines)
commented_stands b h =
    let below = block_stands b.lines h.lines in
    record {
      first = below.first;
      more = below.more;
      lines_are = commented_kept b h ∙ sym (block_kept b.lines h.lines) ∙ below.lines_are;
      all = (comment_stands b.comment h.comment, below.all);
    }

all_commented_stand : (bs : List CommentedBlock) → AllByRecursion IsWritableComment bs → AllByRecursion CanStandAll (map all_lines_of bs)
all_commented_stand [] h = tt
all_commented_stand (b ∷ bs) h = (commented_stands b h.0, all_commented_stand bs h.1)

comments_gone : (bs : List CommentedBlock) → AllByRecursion IsWritableComment bs → map kept (map all_lines_of bs) ≡ map record_lines bs
comments_gone [] h = refl
comments_gone (b ∷ bs) h = λ i. commented_kept b h.0 i ∷ comments_gone bs h.1 i

commented_text : (bs : List CommentedBlock) → flat_map written_commented bs ≡ written_blocks (map all_lines_of bs)
commented_text [] = refl
commented_text (b ∷ bs) = ap (λ (x : List ℕ). written_commented b ++ x) (commented_text bs)

-- ---- what is read

flagged : (first : Bool) (bs : List Body) → map raw_block (with_first first bs) ≡ with_first_flag first (map lines_in bs)
unfolding with_first with_first_flag
flagged first [] = refl
flagged first (b ∷ bs) = ap (λ (x : List (Bool × List (List ℕ))). (first, b.lines) ∷ x) (flagged false bs)

unflagged : (first : Bool) (bs : List Body) → map raw_lines (with_first first bs) ≡ map lines_in bs
unfolding with_first
unflagged first [] = refl
unflagged first (b ∷ bs) = ap (λ (x : List (List (List ℕ))). b.lines ∷ x) (unflagged false bs)

bodies_in : List (List ℕ) → List Body
bodies_in ls = filter_map body_of_block (slice_split is_blank (enumerate_from 1 ls))

-- ---- lines that are folded to a width

module _ (width : ℕ) (wide : IsWidth width) where
  -- the pieces of a line that is folded, with room for so many bytes in the first
  unfoldable pieces_at : ℕ → List ℕ → List (List ℕ)
  pieces_at room [] = [] ∷ []
  pieces_at zero (b ∷ bs) = [] ∷ onto_first 32 (onto_first b (pieces_at (width - 2) bs))
  pieces_at (suc room) (b ∷ bs) = onto_first b (pieces_at room bs)

  pieces_cons : (room : ℕ) (l : List ℕ) → IsCons (pieces_at room l)
  unfolding pieces_at
  pieces_cons room [] = ([], [], refl)
  pieces_cons zero (b ∷ bs) = ([], onto_first 32 (onto_first b (pieces_at (width - 2) bs)), refl)
  pieces_cons (suc room) (b ∷ bs) = onto_cons b (pieces_at room bs) (pieces_cons room bs)

  -- a folded line is its pieces with their ends
  folded_text : (room : ℕ) (l : List ℕ) → folded_to width room l ≡ flat_map end_line (pieces_at room l)
  unfolding folded_to pieces_at
  folded_text room [] = refl
  folded_text zero (b ∷ bs) =
      let more = pieces_cons (width - 2) bs in
      ap (λ (x : List ℕ). 10 ∷ 32 ∷ b ∷ x) (folded_text (width - 2) bs)
      ∙ ap (λ (x : List ℕ). 10 ∷ 32 ∷ x) (sym (onto_text b (pieces_at (width - 2) bs) more))
      ∙ ap (λ (x : List ℕ). 10 ∷ x) (sym (onto_text 32 (onto_first b (pieces_at (width - 2) bs)) (onto_cons b (pieces_at (width - 2) bs) more)))
  folded_text (suc room) (b ∷ bs) = ap (λ (x : List ℕ). b ∷ x) (folded_text room bs) ∙ sym (onto_text b (pieces_at room bs) (pieces_cons room bs))

  pieces_folded : (room : ℕ) (l : List ℕ) → AreLineBytes l → IsFolded (pieces_at room l) l
  unfolding pieces_at
  pieces_folded room [] h = record { first = []; more = []; pieces_are = refl; joined = refl; bytes = (tt, tt); spaced = tt }
  pieces_folded zero (b ∷ bs) h = further (onto_first b (pieces_at (width - 2) bs)) (b ∷ bs) (onto b (pieces_at (width - 2) bs) bs h.0 (pieces_folded (width - 2) bs h.1))
  pieces_folded (suc room) (b ∷ bs) h = onto b (pieces_at room bs) bs h.0 (pieces_folded room bs h.1)

  -- its pieces, the first of which begins as it does
  record HasPieces (l : List ℕ) : Type 0 where
    byte : ℕ
    first : List ℕ
    more : List (List ℕ)
    pieces_are : pieces_at width l ≡ (byte ∷ first) ∷ more
    joined : (byte ∷ first) ++ flat_map (drop 1) more ≡ l
    bytes : AllByRecursion AreLineBytes ((byte ∷ first) ∷ more)
    spaced : AllByRecursion (λ m. begins_with 32 m ≡ true) more
    start : IsStart byte

  room_left : width ≡ suc (width - 1)
  room_left = omega (arith, wide)

  pieces : (l : List ℕ) → CanStand l → HasPieces l
  unfolding pieces_at
  pieces l h =
      let bs : List ℕ = h.start.1 in
      let b : ℕ = h.start.0 in
      let f : IsFolded (pieces_at (width - 1) bs) bs = pieces_folded (width - 1) bs ((subst AreLineBytes h.start.2 h.bytes).1) in
      let is : IsLineByte b = (subst AreLineBytes h.start.2 h.bytes).0 in
      record {
        byte = b;
        first = f.first;
        more = f.more;
        pieces_are = ap (pieces_at width) h.start.2 ∙ ap (λ (room : ℕ). pieces_at room (b ∷ bs)) room_left ∙ ap (onto_first b) f.pieces_are;
        joined = ap (λ (x : List ℕ). b ∷ x) f.joined ∙ sym h.start.2;
        bytes = ((is, f.bytes.0), f.bytes.1);
        spaced = f.spaced;
        start = h.start.3;
      }

  abbrev cut : List (List ℕ) → List (List ℕ)
  cut ls = flat_map (pieces_at width) ls

  -- each line with the number of its first piece
  numbered : ℕ → List (List ℕ) → List (ℕ × List ℕ)
  unfolding later
  numbered k [] = []
  numbered k (l ∷ ls) = (k, l) ∷ numbered (later k (pieces_at width l)) ls

  -- nothing goes on at the front of the next line
  stops : (k : ℕ) (ls : List (List ℕ)) → AllByRecursion CanStand ls → continuation (enumerate_from k (cut ls)) ≡ []
  unfolding continuation
  stops k [] h = refl
  stops k (l ∷ ls) h =
      let p = pieces l h.0 in
      ap (λ (x : List (List ℕ)). continuation (enumerate_from k (x ++ cut ls))) p.pieces_are
      ∙ ap (λ t. cond t (drop 1 (p.byte ∷ p.first) ++ continuation (enumerate_from (k + 1) (p.more ++ cut ls))) []) p.start.space

  one_joined : (k : ℕ) (l : List ℕ) (ls : List (List ℕ)) (p : HasPieces l) → AllByRecursion CanStand ls
      → joined_block (enumerate_from k (((p.byte ∷ p.first) ∷ p.more) ++ cut ls)) ≡ (k, l) ∷ joined (enumerate_from (later (k + 1) p.more) (cut ls))
  unfolding joined_block
  one_joined k l ls p h =
      let said : (p.byte ∷ p.first) ++ continuation (enumerate_from (k + 1) (p.more ++ cut ls)) ≡ l =
      ap (λ (x : List ℕ). (p.byte ∷ p.first) ++ x) (continued (k + 1) p.more (cut ls) p.spaced ∙ ap (λ (x : List ℕ). flat_map (drop 1) p.more ++ x) (stops (later (k + 1) p.more) ls h) ∙ append-nil (flat_map (drop 1) p.more)) ∙ p.joined in
      (λ i. (k, said i) ∷ joined (enumerate_from (k + 1) (p.more ++ cut ls)))
      ∙ ap (λ (x : List (ℕ × List ℕ)). (k, l) ∷ x) (skipped (k + 1) p.more (cut ls) p.spaced)

  later_is : (k : ℕ) (l : List ℕ) (p : HasPieces l) → later k (pieces_at width l) ≡ later (k + 1) p.more
  unfolding later
  later_is k l p = ap (later k) p.pieces_are

  all_joined : (k : ℕ) (ls : List (List ℕ)) → AllByRecursion CanStand ls → joined (enumerate_from k (cut ls)) ≡ numbered k ls
  unfolding joined numbered joined_block
  all_joined k [] h = refl
  all_joined k (l ∷ ls) h =
      let p = pieces l h.0 in
      ap (λ (x : List (List ℕ)). joined (enumerate_from k (x ++ cut ls))) p.pieces_are
      ∙ ap (λ t. cond t (joined (enumerate_from (k + 1) (p.more ++ cut ls))) (joined_block (enumerate_from k (((p.byte ∷ p.first) ∷ p.more) ++ cut ls)))) p.start.space
      ∙ one_joined k l ls p h.1
      ∙ ap (λ (n : ℕ). (k, l) ∷ joined (enumerate_from n (cut ls))) (sym (later_is k l p))
      ∙ ap (λ (x : List (ℕ × List ℕ)). (k, l) ∷ x) (all_joined (later k (pieces_at width l)) ls h.1)

  block_joined : (k : ℕ) (ls : List (List ℕ)) → AllByRecursion CanStand ls → joined_block (enumerate_from k (cut ls)) ≡ numbered k ls
  unfolding numbered joined_block
  block_joined k [] h = refl
  block_joined k (l ∷ ls) h =
      let p = pieces l h.0 in
      ap (λ (x : List (List ℕ)). joined_block (enumerate_from k (x ++ cut ls))) p.pieces_are
      ∙ one_joined k l ls p h.1
      ∙ ap (λ (n : ℕ). (k, l) ∷ joined (enumerate_from n (cut ls))) (sym (later_is k l p))
      ∙ ap (λ (x : List (ℕ × List ℕ)). (k, l) ∷ x) (all_joined (later k (pieces_at width l)) ls h.1)

  kept_numbered : (k : ℕ) (ls : List (List ℕ)) → map bytes_of (filter is_kept (numbered k ls)) ≡ kept ls
  unfolding numbered
  kept_numbered k [] = refl
  kept_numbered k (l ∷ ls) = by (begins_with 35 l) (filter is_kept (numbered (later k (pieces_at width l)) ls)) (kept_numbered (later k (pieces_at width l)) ls)
    where
      by : (hash : Bool) (more : List (ℕ × List ℕ)) → map bytes_of more ≡ kept ls → map bytes_of (cond (not hash) ((k, l) ∷ more) more) ≡ cond (not hash) (l ∷ kept ls) (kept ls)
      by true more h = h
      by false more h = ap (λ (x : List (List ℕ)). l ∷ x) h

  -- the block that a record's lines make
  block_is : (k : ℕ) (ls : List (List ℕ)) (first : List ℕ) (more : List (List ℕ)) → AllByRecursion CanStand ls → kept ls ≡ first ∷ more
      → (b : Body) × (body_of_block (enumerate_from k (cut ls)) ≡ Some b) × (b.lines ≡ first ∷ more)
  unfolding body_of_block
  block_is k ls first more h is =
      let b = some_body (filter is_kept (numbered k ls)) first more (kept_numbered k ls ∙ is) in
      (b.body, ap (λ (x : List (ℕ × List ℕ)). body_of (filter is_kept x)) (block_joined k ls h) ∙ b.body_is, b.lines_are)

  pieces_some : (l : List ℕ) → CanStand l → AllByRecursion (λ x. eqb (length x) 0 ≡ false) (pieces_at width l)
  pieces_some l h =
      let p = pieces l h in
      subst (AllByRecursion (λ x. eqb (length x) 0 ≡ false)) (sym p.pieces_are) (some_byte p.byte p.first, all_spaced p.more p.spaced)

  cut_some : (ls : List (List ℕ)) → AllByRecursion CanStand ls → AllByRecursion (λ x. eqb (length x) 0 ≡ false) (cut ls)
  cut_some [] h = tt
  cut_some (l ∷ ls) h = all_append (λ x. eqb (length x) 0 ≡ false) (pieces_at width l) (cut ls) (pieces_some l h.0) (cut_some ls h.1)

  cut_bytes : (ls : List (List ℕ)) → AllByRecursion CanStand ls → AllByRecursion AreLineBytes (cut ls)
  cut_bytes [] h = tt
  cut_bytes (l ∷ ls) h = let p = pieces l h.0 in all_append AreLineBytes (pieces_at width l) (cut ls) (subst (AllByRecursion AreLineBytes) (sym p.pieces_are) p.bytes) (cut_bytes ls h.1)

  abbrev block_lines : List (List ℕ) → List (List ℕ)
  block_lines ls = cut ls ++ [] ∷ []

  abbrev text_of : List (List ℕ) → List ℕ
  text_of ls = flat_map end_line (block_lines ls)

  -- the lines of each record that is read
  bodies : (k : ℕ) (rs : List (List (List ℕ))) → AllByRecursion CanStandAll rs
      → map lines_in (filter_map body_of_block (slice_split is_blank (enumerate_from k (flat_map block_lines rs)))) ≡ map kept rs
  unfolding body_of_block body_of joined_block
  bodies k [] h = refl
  bodies k (r ∷ rs) h =
      let rest : List Body = filter_map body_of_block (slice_split is_blank (enumerate_from (later k (cut r) + 1) (flat_map block_lines rs))) in
      let b = block_is k r h.0.first h.0.more h.0.all h.0.lines_are in
      ap (λ (x : List (List ℕ)). map lines_in (filter_map body_of_block (slice_split is_blank (enumerate_from k x)))) (append_assoc (cut r) ([] ∷ []) (flat_map block_lines rs))
      ∙ ap (λ (x : List (List (ℕ × List ℕ))). map lines_in (filter_map body_of_block x)) (blocks_at k (cut r) (flat_map block_lines rs) (cut_some r h.0.all))
      ∙ ap (λ (o : Option Body). map lines_in (cons_option o rest)) b.1
      ∙ ap (λ (x : List (List (List ℕ))). b.0.lines ∷ x) (bodies (later k (cut r) + 1) rs h.1)
      ∙ ap (λ (x : List (List ℕ)). x ∷ map kept rs) (b.2 ∙ sym h.0.lines_are)

  whole_bytes : (rs : List (List (List ℕ))) → AllByRecursion CanStandAll rs → AllByRecursion AreLineBytes (flat_map block_lines rs)
  whole_bytes [] h = tt
  whole_bytes (r ∷ rs) h =
      all_append AreLineBytes (block_lines r) (flat_map block_lines rs) (all_append AreLineBytes (cut r) ([] ∷ []) (cut_bytes r h.0.all) (tt, tt)) (whole_bytes rs h.1)

  joined_text : (rs : List (List (List ℕ))) → flat_map text_of rs ≡ flat_map end_line (flat_map block_lines rs)
  joined_text [] = refl
  joined_text (r ∷ rs) = ap (λ (x : List ℕ). text_of r ++ x) (joined_text rs) ∙ sym (flat_map-append end_line (block_lines r) (flat_map block_lines rs))

  block_text : (block : List (List ℕ)) → flat_map (folded_line width) block ≡ flat_map end_line (cut block)
  block_text [] = refl
  block_text (l ∷ ls) =
      ap (λ (x : List ℕ). x ++ flat_map (folded_line width) ls) (folded_text width l)
      ∙ ap (λ (x : List ℕ). flat_map end_line (pieces_at width l) ++ x) (block_text ls)
      ∙ sym (flat_map-append end_line (pieces_at width l) (cut ls))

  written_text : (blocks : List (List (List ℕ))) → written_blocks_to width blocks ≡ flat_map text_of blocks
  written_text [] = refl
  written_text (r ∷ rs) =
      ap (λ (x : List ℕ). (x ++ 10 ∷ []) ++ written_blocks_to width rs) (block_text r)
      ∙ ap (λ (x : List ℕ). x ++ written_blocks_to width rs) (sym (flat_map-append end_line (cut r) ([] ∷ [])))
      ∙ ap (λ (x : List ℕ). text_of r ++ x) (written_text rs)

  -- the lines of the text are those of the blocks
  written_lines : (rs : List (List (List ℕ))) → AllByRecursion CanStandAll rs → lines (written_blocks_to width rs) ≡ flat_map block_lines rs
  written_lines rs h = ap lines (written_text rs ∙ joined_text rs) ∙ all_lines (flat_map block_lines rs) (whole_bytes rs h)

  written_records : (rs : List (List (List ℕ))) → AllByRecursion CanStandAll rs → records (written_blocks_to width rs) ≡ with_first true (bodies_in (flat_map block_lines rs))
  unfolding records_from bodies_in
  written_records rs h =
      ap (λ (ls : List (List ℕ)). with_first true (bodies_in ls)) (written_lines rs h)

  pub lines_read : (rs : List (List (List ℕ))) → AllByRecursion AreWritable rs → map raw_lines (records (written_blocks_to width rs)) ≡ rs
  unfolding bodies_in
  lines_read rs h =
      ap (map raw_lines) (written_records rs (all_stand rs h))
      ∙ unflagged true (bodies_in (flat_map block_lines rs))
      ∙ bodies 1 rs (all_stand rs h)
      ∙ blocks_kept rs h

  pub blocks_read : (rs : List (List (List ℕ))) → AllByRecursion AreWritable rs → map raw_block (records (written_blocks_to width rs)) ≡ with_first_flag true rs
  unfolding bodies_in
  blocks_read rs h =
      ap (map raw_block) (written_records rs (all_stand rs h))
      ∙ flagged true (bodies_in (flat_map block_lines rs))
      ∙ ap (with_first_flag true) (bodies 1 rs (all_stand rs h) ∙ blocks_kept rs h)

  -- ---- how long they are

  -- the first of these pieces fits into the room, and the others into the width
  record FitPieces (room : ℕ) (pieces : List (List ℕ)) : Type 0 where
    first : List ℕ
    more : List (List ℕ)
    pieces_are : pieces ≡ first ∷ more
    fits : FitsIn room first
    rest : AllByRecursion (FitsIn width) more

  fit_pieces : (room : ℕ) (l : List ℕ) → FitPieces room (pieces_at room l)
  unfolding pieces_at
  fit_pieces room [] = record { first = []; more = []; pieces_are = refl; fits = omega arith; rest = tt }
  fit_pieces zero (b ∷ bs) =
      let h = fit_pieces (width - 2) bs in
      let within = h.fits in
      record {
        first = [];
        more = (32 ∷ b ∷ h.first) ∷ h.more;
        pieces_are = ap (λ (x : List (List ℕ)). [] ∷ onto_first 32 (onto_first b x)) h.pieces_are;
        fits = omega arith;
        rest = (omega (arith, wide, within), h.rest);
      }
  fit_pieces (suc room) (b ∷ bs) =
      let h = fit_pieces room bs in
      let within = h.fits in
      record { first = b ∷ h.first; more = h.more; pieces_are = ap (onto_first b) h.pieces_are; fits = omega (arith, within); rest = h.rest }

  fit_line : (l : List ℕ) → AllByRecursion (FitsIn width) (pieces_at width l)
  fit_line l = let h = fit_pieces width l in subst (AllByRecursion (FitsIn width)) (sym h.pieces_are) (h.fits, h.rest)

  fit_cut : (ls : List (List ℕ)) → AllByRecursion (FitsIn width) (cut ls)
  fit_cut [] = tt
  fit_cut (l ∷ ls) = all_append (FitsIn width) (pieces_at width l) (cut ls) (fit_line l) (fit_cut ls)

  fit_blocks : (rs : List (List (List ℕ))) → AllByRecursion (FitsIn width) (flat_map block_lines rs)
  fit_blocks [] = tt
  fit_blocks (r ∷ rs) =
      all_append (FitsIn width) (block_lines r) (flat_map block_lines rs) (all_append (FitsIn width) (cut r) ([] ∷ []) (fit_cut r) (omega arith, tt)) (fit_blocks rs)

  pub lines_fit : (rs : List (List (List ℕ))) → AllByRecursion AreWritable rs → AllByRecursion (FitsIn width) (lines (written_blocks_to width rs))
  lines_fit rs h = subst (AllByRecursion (FitsIn width)) (sym (written_lines rs (all_stand rs h))) (fit_blocks rs)

-- ---- a line by itself

-- what fits is followed by the end of the line alone
pub fits_whole : (width room : ℕ) (l : List ℕ) → FitsIn room l → folded_to width room l ≡ l ++ 10 ∷ []
unfolding folded_to
fits_whole width room [] h = refl
fits_whole width zero (b ∷ bs) h = absurd (omega (arith, h))
fits_whole width (suc room) (b ∷ bs) h = ap (λ (x : List ℕ). b ∷ x) (fits_whole width room bs (omega (arith, h)))

-- ---- at the standard width

pub standard : IsWidth standard_width
standard = omega arith

pub commented_read : (bs : List CommentedBlock) → AllByRecursion IsWritableComment bs → map raw_block (records (flat_map written_commented bs)) ≡ with_first_flag true (map record_lines bs)
unfolding bodies_in
commented_read bs h =
    let all = all_commented_stand bs h in
    ap (λ (x : List ℕ). map raw_block (records x)) (commented_text bs)
    ∙ ap (map raw_block) (written_records standard_width standard (map all_lines_of bs) all)
    ∙ flagged true (bodies_in (flat_map (block_lines standard_width standard) (map all_lines_of bs)))
    ∙ ap (with_first_flag true) (bodies standard_width standard 1 (map all_lines_of bs) all ∙ comments_gone bs h)
