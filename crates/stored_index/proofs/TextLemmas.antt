-- A text that is left of a source, piece by piece.
use Rattle.std.proofs.Common.{◌≡◌, ℕ, false, List, [], ◌∷◌, ◌++◌, Option, Some, None, refl, sym, ap, ◌∙◌, subst, append_assoc, arith}
use Rattle.std.proofs.lemmas.List.{append-nil}
use Rattle.std.proofs.lemmas.List.Elements.{All-append}
use Rattle.std.proofs.lemmas.List.Splits.{slice_split_at}
use Rattle.std.specs.Io.KnownBytes.{Consumes, IsAtEnd}
use Rattle.base.specs.Answers.{Fails}
use Rattle.base.specs.Ascii.{line_feed}
use Rattle.device.specs.Device.{Seen, Gave, Pulled}
use Rattle.device.proofs.Pulls.{pulled_none, pulled_more, pulled_by}
use Rattle.memchr.specs.Find.{is_byte}
use Rattle.stored_index.specs.Cuts.{parts}
use Rattle.stored_index.specs.FaultyLines.{HasNoLineFeed}
use Rattle.stored_index.specs.Gives.{fault_of, kind_of}
use Rattle.stored_index.specs.Reading.{lines_in, rows_in}
use Rattle.stored_index.specs.Stored.{HasText}
use Rattle.stored_index.specs.inner.Drafts.{Lines, Reading, Goes, Awaits, GoesOn, FailsBehind, TakesOn}
use Rattle.stored_index.specs.inner.Lines.{IsCutAt}
use Rattle.stored_index.specs.declared.draft.Draft.{Draft}
use Rattle.stored_index.specs.declared.fault.LineFault.{LineFault}
use Rattle.stored_index.specs.declared.fault.LineFault.TheVariants as faults
use Rattle.stored_index.specs.declared.given.Given.{Given}
use Rattle.stored_index.specs.inner.Faults.{index_fault}
use Rattle.stored_index.proofs.CutLemmas.{split_cons}

-- what each text has
pub some_text : (left : Option (List ℕ)) (Says : List ℕ → Type 0) → ((text : List ℕ) → Says text) → HasText left Says
some_text None Says each = record { text = []; left_is = tt; says = each [] }
some_text (Some bytes) Says each = record { text = bytes; left_is = refl; says = each bytes }

-- ---- lines

cut_behind : (held rest line next text : List ℕ) → HasNoLineFeed held → IsCutAt rest line next → parts line_feed (held ++ (rest ++ text)) ≡ (held ++ line) ∷ parts line_feed (next ++ text)
cut_behind held rest line next text none cut =
    ap (λ (bytes : List ℕ). parts line_feed (held ++ bytes)) (ap (λ (bytes : List ℕ). bytes ++ text) cut.text_is ∙ append_assoc line (line_feed ∷ next) text)
    ∙ ap (parts line_feed) (sym (append_assoc held line (line_feed ∷ next ++ text)))
    ∙ slice_split_at (is_byte line_feed) (held ++ line) line_feed (next ++ text) (All-append (λ b. is_byte line_feed b ≡ false) held line none cut.none) refl

module _ (V : List ℕ → Reading) (d : Draft) (held rest : List ℕ) (awaits : Awaits V d held rest) where
  -- a line is read
  module _ (line next : List ℕ) (cut : IsCutAt rest line next) where
    pub behind_line : (d' : Draft) → GoesOn d d' (held ++ line) → Awaits V d' [] next
    behind_line d' on = record {
      w = λ lines. awaits.w ((held ++ line) ∷ lines);
      goes = on.goes awaits.w awaits.goes;
      none = λ k e lt. absurd (omega (arith, lt));
      same = λ text. awaits.same text ∙ ap awaits.w (cut_behind held rest line next text awaits.none cut);
    }

    pub fails_at_line : (e : LineFault) → FailsBehind d (held ++ line) e → (text : List ℕ) → Fails (kind_of e) (V text)
    fails_at_line e fails text =
        let s = split_cons (is_byte line_feed) (next ++ text) in
        subst (λ (said : Reading). Fails (kind_of e) said)
        (sym (awaits.same text ∙ ap awaits.w (cut_behind held rest line next text awaits.none cut ∙ ap (λ (lines : Lines). (held ++ line) ∷ lines) s.2)))
        (fails awaits.w awaits.goes s.0 s.1)

  -- no line ends in it
  pub all_held : HasNoLineFeed rest → Awaits V d (held ++ rest) []
  all_held none = record {
    w = awaits.w;
    goes = awaits.goes;
    none = All-append (λ b. is_byte line_feed b ≡ false) held rest awaits.none none;
    same = λ text. awaits.same text ∙ ap (λ (bytes : List ℕ). awaits.w (parts line_feed bytes)) (sym (append_assoc held rest text));
  }

-- ---- pieces

pub handed_on : (e : LineFault) (said : Reading) → Fails (kind_of e) said → Fails (fault_of (index_fault e)) said
handed_on (faults.Fault kind) said is = is
handed_on faults.OutOfMemory said is = tt

-- so much of a text was read
pub record HasPulled (given : Given) (before now : Seen) (d : Draft) (held : List ℕ) : Type 0 where
  pub gone : List ℕ
  pub taken : Pulled before now gone
  pub same : d.given ≡ given
  pub awaits : Awaits (λ text. rows_in given.conf.now given.entries given.stamp.now (gone ++ text)) d held []

module _ (given : Given) where
  abbrev read : List ℕ → Reading
  read text = rows_in given.conf.now given.entries given.stamp.now text

  pub none_pulled : (now : Seen) (d : Draft) (held : List ℕ) → held ≡ [] → d.given ≡ given → Goes (lines_in given.conf.now given.entries given.stamp.now) d → HasPulled given now now d held
  unfolding rows_in
  none_pulled now d held none same goes = record {
    gone = [];
    taken = pulled_none now;
    same = same;
    awaits = subst (λ (bytes : List ℕ). Awaits read d bytes []) (sym none)
        (record { w = lines_in given.conf.now given.entries given.stamp.now; goes = goes; none = λ k e lt. absurd (omega (arith, lt)); same = λ text. refl });
  }

  module _ (before now later : Seen) (d : Draft) (held : List ℕ) (pulled : HasPulled given before now d held) where
    pub more_pulled : (piece : List ℕ) (d' : Draft) (held' : List ℕ) → Gave now later piece → TakesOn d held piece d' held' → HasPulled given before later d' held'
    more_pulled piece d' held' takes on =
        let awaits = on.awaits (λ text. read (pulled.gone ++ text)) pulled.awaits in
        record {
          gone = pulled.gone ++ piece;
          taken = pulled_more before now later pulled.gone piece pulled.taken (pulled_by now later piece takes);
          same = on.given ∙ pulled.same;
          awaits = record { w = awaits.w; goes = awaits.goes; none = awaits.none; same = λ text. ap read (append_assoc pulled.gone piece text) ∙ awaits.same text };
        }

    -- each text that goes on behind a piece has what the whole has
    pub as_each : (piece : List ℕ) (P : Reading → Type 0) → Gave now later piece → ((text : List ℕ) → P (read (pulled.gone ++ (piece ++ text)))) → HasText before.left (λ text. P (read text))
    as_each piece P takes each = by before.left (pulled_more before now later pulled.gone piece pulled.taken (pulled_by now later piece takes)).left
      where
        behind : List ℕ → List ℕ
        behind text = (pulled.gone ++ piece) ++ text

        each_behind : (text : List ℕ) → P (read (behind text))
        each_behind text = subst (λ (bytes : List ℕ). P (read bytes)) (sym (append_assoc pulled.gone piece text)) (each text)

        in_known : (xs : List ℕ) (left : Option (List ℕ)) → Consumes (Some xs) left (pulled.gone ++ piece) → HasText (Some xs) (λ text. P (read text))
        in_known xs None takes = absurd takes
        in_known xs (Some rest) takes = record { text = xs; left_is = refl; says = subst (λ (bytes : List ℕ). P (read bytes)) (sym takes) (each_behind rest) }

        by : (left : Option (List ℕ)) → Consumes left later.left (pulled.gone ++ piece) → HasText left (λ text. P (read text))
        by None takes = record { text = behind []; left_is = tt; says = each_behind [] }
        by (Some xs) takes = in_known xs later.left takes

    -- the text ends here
    pub as_end : (P : Reading → Type 0) → Gave now later [] → IsAtEnd later.left → P (read (pulled.gone ++ [])) → HasText before.left (λ text. P (read text))
    as_end P takes ended end = by before.left (pulled_more before now later pulled.gone [] pulled.taken (pulled_by now later [] takes)).left
      where
        in_known : (xs : List ℕ) (left : Option (List ℕ)) → IsAtEnd left → Consumes (Some xs) left (pulled.gone ++ []) → HasText (Some xs) (λ text. P (read text))
        in_known xs None none takes = absurd takes
        in_known xs (Some rest) none takes =
            record { text = pulled.gone ++ []; left_is = sym (takes ∙ ap (λ (bytes : List ℕ). (pulled.gone ++ []) ++ bytes) none ∙ append-nil (pulled.gone ++ [])); says = end }

        by : (left : Option (List ℕ)) → Consumes left later.left (pulled.gone ++ []) → HasText left (λ text. P (read text))
        by None takes = record { text = pulled.gone ++ []; left_is = tt; says = end }
        by (Some xs) takes = in_known xs later.left ended takes
