-- Going through a text line by line, up to one that is at fault.
use Rattle.std.proofs.Common.{◌≡◌, ℕ, suc, ◌+◌, Bool, false, cond, List, [], ◌∷◌, ◌++◌, take, count_by, Err, inl, inr, refl, sym, ap, ◌∙◌, subst, append_assoc, arith}
use Rattle.std.proofs.lemmas.List.{append-nil}
use Rattle.std.proofs.lemmas.List.Elements.{All-append}
use Rattle.std.proofs.lemmas.List.Sums.{sum_by-append}
use Rattle.std.proofs.lemmas.List.Splits.{slice_split_at}
use Rattle.base.specs.Ascii.{line_feed}
use Rattle.memchr.specs.Find.{is_byte}
use Rattle.stored_index.specs.Cuts.{parts}
use Rattle.stored_index.specs.FaultyLines.{HasNoLineFeed}
use Rattle.stored_index.specs.FaultLines.{CanGoOn, IsFaultLine}
use Rattle.stored_index.specs.Reading.{lines_in, rows_in}
use Rattle.stored_index.specs.inner.Drafts.{Lines, Reading, Goes, GoesOn, AreKnown, Awaits, read_by}
use Rattle.stored_index.specs.inner.FaultLines.{IsBad, Going}
use Rattle.stored_index.specs.inner.Lines.{IsCutAt}
use Rattle.stored_index.specs.declared.draft.Draft.{Draft}
use Rattle.stored_index.specs.declared.given.Given.{Given}
use Rattle.stored_index.specs.declared.fault_lines.FaultLine.{FaultLine}
use Rattle.stored_index.proofs.CutLemmas.{split_cons}
use Rattle.stored_index.proofs.HeaderFaults.{text_fault}
use Rattle.stored_index.specs.inner.Named.{AreNamed}
use Rattle.stored_index.proofs.GoodFronts.{can_go_on}

-- ---- line feeds

abbrev feeds : List ℕ → ℕ
feeds xs = count_by (is_byte line_feed) xs

both : (xs ys : List ℕ) → feeds (xs ++ ys) ≡ feeds xs + feeds ys
both xs ys = sum_by-append (λ (b : ℕ). cond {A = ℕ} (is_byte line_feed b) 1 0) xs ys

none_in : (xs : List ℕ) → HasNoLineFeed xs → feeds xs ≡ 0
none_in [] none = refl
none_in (x ∷ xs) none =
    let here : is_byte line_feed x ≡ false = none 0 0 (omega arith) in
    let rest : feeds xs ≡ 0 = none_in xs (λ k d lt. none (suc k) d (omega (arith, lt))) in
    both (x ∷ []) xs ∙ ap (λ (b : Bool). 0 + cond b 1 0 + feeds xs) here ∙ ap (λ (n : ℕ). 0 + n) rest

one_line : (front line : List ℕ) → HasNoLineFeed line → feeds (front ++ (line ++ line_feed ∷ [])) ≡ feeds front + 1
one_line front line none =
    both front (line ++ line_feed ∷ []) ∙ ap (λ (n : ℕ). feeds front + n) (both line (line_feed ∷ []) ∙ ap (λ (n : ℕ). n + 1) (none_in line none))

-- ---- a line

nothing_held : HasNoLineFeed []
nothing_held k e lt = absurd (omega (arith, lt))

no_feed : (held line : List ℕ) → HasNoLineFeed held → HasNoLineFeed line → HasNoLineFeed (held ++ line)
no_feed held line none other = All-append (λ b. is_byte line_feed b ≡ false) held line none other

cut_line : (line text : List ℕ) → HasNoLineFeed line → parts line_feed (line ++ line_feed ∷ text) ≡ line ∷ parts line_feed text
cut_line line text none = slice_split_at (is_byte line_feed) line line_feed text none refl

module _ (known : List ℕ) (d : Draft) (held rest : List ℕ) (lines : ℕ) (going : Going known d held rest lines) where
  abbrev read : List ℕ → Reading
  read text = read_by d.given text

  -- more is known of the text
  pub known_more : (piece : List ℕ) → rest ≡ [] → Going (known ++ piece) d held piece lines
  known_more piece none = record {
    front = going.front;
    known_is = ap (λ (bytes : List ℕ). bytes ++ piece) (going.known_is ∙ ap (λ (bytes : List ℕ). going.front ++ (held ++ bytes)) none ∙ ap (λ (bytes : List ℕ). going.front ++ bytes) (append-nil held)) ∙ append_assoc going.front held piece;
    whole = going.whole;
    lines_are = going.lines_are;
    none = going.none;
    w = going.w;
    goes = going.goes;
    opens = going.opens;
    slots = going.slots;
    named = going.named;
  }

  -- no line ends in it
  pub holds : HasNoLineFeed rest → Going known d (held ++ rest) [] lines
  holds none = record {
    front = going.front;
    known_is = going.known_is ∙ ap (λ (bytes : List ℕ). going.front ++ bytes) (sym (append-nil (held ++ rest)));
    whole = going.whole;
    lines_are = going.lines_are;
    none = no_feed held rest going.none none;
    w = going.w;
    goes = going.goes;
    opens = going.opens;
    slots = going.slots;
    named = going.named;
  }

  -- the draft as it is read of
  pub awaits : Awaits (λ text. read (known ++ text)) d held rest
  awaits = record {
    w = going.w;
    goes = going.goes;
    none = going.none;
    same = λ text. ap (λ (bytes : List ℕ). read (bytes ++ text)) going.known_is
        ∙ ap read (append_assoc going.front (held ++ rest) text)
        ∙ going.opens ((held ++ rest) ++ text)
        ∙ ap (λ (bytes : List ℕ). going.w (parts line_feed bytes)) (append_assoc held rest text);
  }

  -- what was read can go on
  good : CanGoOn d.given.conf.now d.given.entries d.given.stamp.now going.front
  good own = let on = can_go_on going.w d going.goes going.named going.slots own in (on.0, on.1, going.opens on.0 ∙ on.2)

  -- a line ends in it
  module _ (line next : List ℕ) (cut : IsCutAt rest line next) where
    abbrev whole_line : List ℕ
    whole_line = held ++ line

    none_there : HasNoLineFeed whole_line
    none_there = no_feed held line going.none cut.none

    opens_behind : (text : List ℕ) → read ((going.front ++ (whole_line ++ line_feed ∷ [])) ++ text) ≡ going.w (whole_line ∷ parts line_feed text)
    opens_behind text =
        ap read (append_assoc going.front (whole_line ++ line_feed ∷ []) text ∙ ap (λ (bytes : List ℕ). going.front ++ bytes) (append_assoc whole_line (line_feed ∷ []) text))
        ∙ going.opens (whole_line ++ line_feed ∷ text)
        ∙ ap going.w (cut_line whole_line text none_there)

    held_is : held ++ rest ≡ whole_line ++ line_feed ∷ next
    held_is = ap (λ (bytes : List ℕ). held ++ bytes) cut.text_is ∙ sym (append_assoc held line (line_feed ∷ next))

    pub behind_line : (d' : Draft) (count : ℕ) → count ≡ lines + 1 → GoesOn d d' whole_line → Going known d' [] next count
    behind_line d' count count_is on = record {
      front = going.front ++ (whole_line ++ line_feed ∷ []);
      known_is = going.known_is ∙ ap (λ (bytes : List ℕ). going.front ++ bytes) (held_is ∙ sym (append_assoc whole_line (line_feed ∷ []) next)) ∙ sym (append_assoc going.front (whole_line ++ line_feed ∷ []) next);
      whole = inr (going.front ++ whole_line, sym (append_assoc going.front whole_line (line_feed ∷ [])));
      lines_are = count_is ∙ ap (λ (n : ℕ). n + 1) going.lines_are ∙ sym (one_line going.front whole_line none_there);
      none = nothing_held;
      w = λ ls. going.w (whole_line ∷ ls);
      goes = on.goes going.w going.goes;
      opens = λ text. ap (λ (g : Given). read_by g ((going.front ++ (whole_line ++ line_feed ∷ [])) ++ text)) on.given ∙ opens_behind text;
      slots = on.due going.slots;
      named = subst (λ (g : Given). AreNamed g.conf.now.types) (sym on.given) going.named;
    }

    whole_is : (more : List ℕ) → known ++ more ≡ going.front ++ (whole_line ++ line_feed ∷ (next ++ more))
    whole_is more =
        ap (λ (bytes : List ℕ). bytes ++ more) (going.known_is ∙ ap (λ (bytes : List ℕ). going.front ++ bytes) held_is)
        ∙ append_assoc going.front (whole_line ++ line_feed ∷ next) more
        ∙ ap (λ (bytes : List ℕ). going.front ++ bytes) (append_assoc whole_line (line_feed ∷ next) more)

    fails : {count : ℕ} (fault : FaultLine) → IsBad d count whole_line fault → (other : List ℕ) → read (going.front ++ (whole_line ++ line_feed ∷ other)) ≡ Err fault.kind
    fails fault bad other =
        let s = split_cons (is_byte line_feed) other in
        going.opens (whole_line ++ line_feed ∷ other)
        ∙ ap going.w (cut_line whole_line other none_there ∙ ap (λ (ls : Lines). whole_line ∷ ls) s.2)
        ∙ bad.fails going.w going.goes s.0 s.1

    pub bad_line : (count : ℕ) → count ≡ lines + 1 → (fault : FaultLine) → IsBad d count whole_line fault → (more : List ℕ)
        → IsFaultLine d.given.conf.now d.given.entries d.given.stamp.now (known ++ more) fault
    bad_line count count_is fault bad more = record {
      kind_is = text_fault d.given.conf.now going.named d.given.entries d.given.stamp.now (known ++ more) fault.kind (ap read (whole_is more) ∙ fails fault bad (next ++ more));
      front = going.front;
      line = whole_line;
      rest = line_feed ∷ (next ++ more);
      whole_is = whole_is more;
      lines = going.whole;
      alone = none_there;
      good = good;
      bad = inr (next ++ more, refl, fails fault bad);
      number_is = bad.number_is ∙ count_is ∙ ap (λ (n : ℕ). n + 1) going.lines_are;
      text_is = bad.text_is;
    }

  -- the text ends in a line that is at fault
  pub bad_end : rest ≡ [] → (fault : FaultLine) → fault.number ≡ lines + 1 → fault.text ≡ take 60 held → read known ≡ Err fault.kind
      → IsFaultLine d.given.conf.now d.given.entries d.given.stamp.now known fault
  bad_end none fault number text fails = record {
    kind_is = text_fault d.given.conf.now going.named d.given.entries d.given.stamp.now known fault.kind fails;
    front = going.front;
    line = held;
    rest = rest;
    whole_is = going.known_is;
    lines = going.whole;
    alone = going.none;
    good = good;
    bad = inl (none, ap read (sym (going.known_is ∙ ap (λ (bytes : List ℕ). going.front ++ (held ++ bytes)) none ∙ ap (λ (bytes : List ℕ). going.front ++ bytes) (append-nil held))) ∙ fails);
    number_is = number ∙ ap (λ (n : ℕ). n + 1) going.lines_are;
    text_is = text;
  }

-- ---- the beginning

pub starts : (given : Given) (d : Draft) → d.given ≡ given → Goes (lines_in given.conf.now given.entries given.stamp.now) d → AreKnown d → AreNamed d.given.conf.now.types → (held : List ℕ) → held ≡ [] → Going [] d held [] 0
unfolding rows_in
starts given d same goes slots named held none = record {
  front = [];
  known_is = sym (append-nil held ∙ none);
  whole = inl refl;
  lines_are = refl;
  none = subst HasNoLineFeed (sym none) nothing_held;
  w = lines_in given.conf.now given.entries given.stamp.now;
  goes = goes;
  opens = λ text. ap (λ (g : Given). read_by g text) same;
  slots = slots;
  named = named;
}

-- what was read for the same
pub bad_for : (given same : Given) → given ≡ same → (whole : List ℕ) (fault : FaultLine) → IsFaultLine given.conf.now given.entries given.stamp.now whole fault → IsFaultLine same.conf.now same.entries same.stamp.now whole fault
bad_for given same is whole fault h = subst (λ (g : Given). IsFaultLine g.conf.now g.entries g.stamp.now whole fault) is h
