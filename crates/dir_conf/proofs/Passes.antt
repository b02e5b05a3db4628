-- Going through the lines, where flaws are looked for.
use Rattle.std.proofs.Common.{◌≡◌, ℕ, ◌+◌, ◌<◌, ◌≤◌, Bool, true, false, ◌||◌, List, [], ◌∷◌, ◌++◌, length, get_or, take, drop, Option, Some, None, Result, Ok, Err, inl, inr, codes, refl, sym, ap, subst, ◌∙◌}
use Rattle.std.specs.Prelude.{is_some, IfOk}
use Rattle.std.proofs.lemmas.List.{take_more, take_all}
use Rattle.base.specs.Answers.{◌>>=◌, through}
use Rattle.base.proofs.Bound.{bind_ok, same_ok}
use Rattle.definitions.specs.declared.lines.Line.{Line}
use Rattle.definitions.specs.Lines.{lines_of}
use Rattle.values.specs.declared.types.AttributeType.{AttributeType}
use Rattle.schema.specs.Conf.{Conf}
use Rattle.schema.specs.Rdns.{TypedRdn}
use Rattle.dir_conf.specs.declared.conf_fault.ConfFaultKind.{ConfFaultKind}
use Rattle.dir_conf.specs.declared.conf_fault.ConfFaultKind.TheVariants as kinds
use Rattle.dir_conf.specs.declared.explaining.FlawAt.{FlawAt}
use Rattle.dir_conf.specs.Configurations.{At, Defined, built_in, is_first, definition_line, defined_by, Found, none_found, later_line, found_in, rules_of, conf_on_lines, conf_of}
use Rattle.dir_conf.specs.Flaws.{kind_of, IsDefinitionFlawAt, IsLaterFlawAt, IsReason, Explains}
use Rattle.dir_conf.specs.inner.FoundFlaws.{TellsDefinition, TellsLater}
use Rattle.dir_conf.specs.inner.Passes.{FirstStops, AreFine, SecondStops, SecondTells, LinesTell}
use Rattle.dir_conf.proofs.FirstStops.{fails}
use Rattle.dir_conf.proofs.TypeFlaws.{TypesRead}
use Rattle.dir_conf.proofs.ClassFlaws.{ClassesRead}
use Rattle.dir_conf.proofs.LaterFaults.{sees, suffix_behind}
use Rattle.dir_conf.proofs.ConfFaultsStand.{conf_faulty}
use Rattle.dir_conf.proofs.Found.{whole_there}
use Rattle.dir_conf.proofs.LineReasons.{line_of_text, later_fine, later_of_text}

-- ---- one line more

module _ {S L F : Type 0} (step : S → L → Result S F) where
  none_yet : (s : S) → through step s [] ≡ Ok s
  unfolding through
  none_yet s = refl

  one : (s next : S) (l : L) → step s l ≡ Ok next → through step s (l ∷ []) ≡ Ok next
  unfolding through
  one s next l e = ap (λ (r : Result S F). r >>= λ t. through step t []) e

  on : (before : List L) (s known next : S) (l : L) → through step s before ≡ Ok known → step known l ≡ Ok next → through step s (before ++ l ∷ []) ≡ Ok next
  unfolding through
  on [] s known next l so_far e = one s next l (ap (λ (t : S). step t l) (same_ok {F = F} s known so_far) ∙ e)
  on (b ∷ before) s known next l so_far e =
      let k = bind_ok (step s b) (λ t. through step t before) known so_far in
      ap (λ (r : Result S F). r >>= λ t. through step t (before ++ l ∷ [])) k.1 ∙ on before k.0 known next l k.2 e

  module _ (ls : List L) (i : ℕ) (l : L) (lt : i < length ls) (is : l ≡ get_or ls i l) where
    pub taken_more : take i ls ++ l ∷ [] ≡ take (i + 1) ls
    taken_more = ap (λ (x : L). take i ls ++ x ∷ []) is ∙ sym (take_more ls i l lt)

    pub goes_through : (s known next : S) → through step s (take i ls) ≡ Ok known → step known l ≡ Ok next → through step s (take (i + 1) ls) ≡ Ok next
    goes_through s known next so_far e = ap (through step s) (sym taken_more) ∙ on (take i ls) s known next l so_far e

abbrev fine_one : Defined → Result Defined At
fine_one s = Ok s

-- ---- the first pass

pub all_defined : (lines : List Line) (i : ℕ) (known : Defined) → length lines ≤ i → defined_by built_in (take i lines) ≡ Ok known → defined_by built_in lines ≡ Ok known
all_defined lines i known le so_far = ap (λ (ls : List Line). defined_by built_in ls) (sym (take_all i lines le)) ∙ so_far

pub first_stops : (lines : List Line) (i : ℕ) (l : Line) (known : Defined) (found : FlawAt) → i < length lines → l ≡ get_or lines i l → defined_by built_in (take i lines) ≡ Ok known → found.line ≡ l.number
    → TellsDefinition known l.text (Some found.flaw) → FirstStops lines found
first_stops lines i l known found lt is so_far number here = record {
  above = take i lines;
  bad = l;
  after = drop (i + 1) lines;
  is = whole_there lines i l lt is;
  known = known;
  known_is = so_far;
  number_is = number;
  here = here;
}

-- ---- the second pass

module _ (types : List AttributeType) where
  pub nothing_fine : AreFine types [] false
  unfolding through
  nothing_fine = record { found = none_found; found_is = refl; suffix_is = refl }

  pub fine_more : (lines : List Line) (i : ℕ) (l : Line) → i < length lines → l ≡ get_or lines i l → (b : Bool) → AreFine types (take i lines) b → TellsLater types b l.text None
      → AreFine types (take (i + 1) lines) (b || is_first (codes "suffix") l.text)
  fine_more lines i l lt is b h tells =
      let g = later_fine types h.found l b h.suffix_is tells in
      record {
        found = g.0;
        found_is = goes_through (later_line types) lines i l lt is none_found h.found g.0 h.found_is g.1;
        suffix_is = suffix_behind types h.found l g.0 g.1 ∙ ap (λ (c : Bool). c || is_first (codes "suffix") l.text) h.suffix_is;
      }

  pub all_fine : (lines : List Line) (i : ℕ) (b : Bool) → length lines ≤ i → AreFine types (take i lines) b → AreFine types lines b
  all_fine lines i b le h = subst (λ (ls : List Line). AreFine types ls b) (take_all i lines le) h

  pub second_stops : (lines : List Line) (i : ℕ) (l : Line) (b : Bool) (found : FlawAt) → i < length lines → l ≡ get_or lines i l → AreFine types (take i lines) b → found.line ≡ l.number
      → TellsLater types b l.text (Some found.flaw) → SecondStops types lines found
  second_stops lines i l b found lt is h number here = record {
    above = take i lines;
    bad = l;
    after = drop (i + 1) lines;
    is = whole_there lines i l lt is;
    has_suffix = b;
    fine = h;
    number_is = number;
    here = here;
  }

-- ---- the whole

abbrev Refused : Type 0
Refused = Result Conf At

abbrev behind : List Line → Defined → Result Found At → Refused
behind lines s r = r >>= λ found. rules_of s found.slots found.suffix

abbrev whole : List Line → Result Defined At → Refused
whole lines r = r >>= λ s. behind lines s (found_in s.types none_found lines)

some_suffix : (s : Defined) (f : Found) (o : Option (List TypedRdn)) → f.suffix ≡ o → is_some o ≡ true → (conf : Conf) × (rules_of s f.slots o ≡ Ok conf)
some_suffix s f None is e = absurd cc
some_suffix s f (Some suffix) is e = (_, refl)

no_suffix : (s : Defined) (f : Found) (o : Option (List TypedRdn)) → is_some o ≡ false → rules_of s f.slots o ≡ Err (0, kinds.Suffix)
no_suffix s f None e = refl
no_suffix s f (Some suffix) e = absurd cc

-- all is well
pub are_conf : (lines : List Line) (s : Defined) → defined_by built_in lines ≡ Ok s → SecondTells s.types lines None → LinesTell lines None
are_conf lines s defined h =
    let conf = some_suffix s h.found h.found.suffix refl h.suffix_is in
    (conf.0, ap (whole lines) defined ∙ ap (behind lines s) h.found_is ∙ conf.1)

abbrev defined_failed : ℕ → ConfFaultKind → Result Defined At
defined_failed line kind = Err (line, kind)

abbrev found_failed : ℕ → ConfFaultKind → Result Found At
found_failed line kind = Err (line, kind)

abbrev failed : ℕ → ConfFaultKind → Refused
failed line kind = Err (line, kind)

module _ (types_read : TypesRead) (classes_read : ClassesRead) (lines : List Line) (found : FlawAt) where
  first_told : (h : FirstStops lines found) → (conf_on_lines lines ≡ Err (found.line, kind_of found.flaw)) × IsDefinitionFlawAt lines found.line found.flaw
  first_told h =
      let told = line_of_text types_read classes_read h.known h.bad found.flaw h.here in (
        ap (whole lines)
            (fails definition_line lines h.above h.bad h.after built_in h.known (found.line, kind_of found.flaw) h.is h.known_is (told.0 ∙ ap (λ (n : ℕ). defined_failed n (kind_of found.flaw)) (sym h.number_is))),
        record { above = h.above; bad = h.bad; after = h.after; is = h.is; known = h.known; known_is = h.known_is; number_is = h.number_is; here = told.1 },
      )

  second_told : (s : Defined) (h : SecondStops s.types lines found) → (found_in s.types none_found lines ≡ Err (found.line, kind_of found.flaw)) × IsLaterFlawAt s.types lines found.line found.flaw
  second_told s h =
      let above_is = sym (sees s.types h.above h.fine.found h.fine.found_is) ∙ h.fine.suffix_is in
      let told = later_of_text s.types h.fine.found h.bad h.has_suffix h.fine.suffix_is h.above above_is found.flaw h.here in (
        fails (later_line s.types) lines h.above h.bad h.after none_found h.fine.found (found.line, kind_of found.flaw) h.is h.fine.found_is (told.0 ∙ ap (λ (n : ℕ). found_failed n (kind_of found.flaw)) (sym h.number_is)),
        record { above = h.above; bad = h.bad; after = h.after; is = h.is; number_is = h.number_is; here = told.1 },
      )

module _ (types_read : TypesRead) (classes_read : ClassesRead) (text : List ℕ) where
  abbrev text_lines : List Line
  text_lines = lines_of text

  conf_is : conf_of text ≡ conf_on_lines text_lines
  unfolding conf_of
  conf_is = refl

  pub is_conf : LinesTell text_lines None → Explains text None
  is_conf h = (h.0, conf_is ∙ h.1)

  pub is_reason : (found : FlawAt) → LinesTell text_lines (Some found) → IsReason text found.line found.flaw
  is_reason found (inl first) =
      let told = first_told types_read classes_read text_lines found first in
      record { fault = conf_faulty types_read classes_read text found.line (kind_of found.flaw) (conf_is ∙ told.0); flaw_is = inl told.1 }
  is_reason found (inr (s, defined, inl stops)) =
      let told = second_told types_read classes_read text_lines found s stops in
      record {
        fault = conf_faulty types_read classes_read text found.line (kind_of found.flaw) (conf_is ∙ ap (whole text_lines) defined ∙ ap (behind text_lines s) told.0);
        flaw_is = inr (s, defined, inl told.1);
      }
  is_reason found (inr (s, defined, inr (fine, line, flaw))) =
      record {
        fault =
            conf_faulty types_read classes_read text found.line (kind_of found.flaw)
            (conf_is ∙ ap (whole text_lines) defined ∙ ap (behind text_lines s) fine.found_is ∙ no_suffix s fine.found fine.found.suffix fine.suffix_is ∙ (λ j. failed (sym line j) (kind_of (sym flaw j))));
        flaw_is = inr (s, defined, inr (line, flaw));
      }

-- ---- what calls hand on

pub nothing_through : (known : Defined) → known ≡ built_in → defined_by built_in [] ≡ Ok known
nothing_through known e = none_yet definition_line built_in ∙ ap fine_one (sym e)

-- what the second pass tells is what all lines tell
pub lines_told : (lines : List Line) (s : Defined) → defined_by built_in lines ≡ Ok s → (o : Option FlawAt) → SecondTells s.types lines o → LinesTell lines o
lines_told lines s defined None h = are_conf lines s defined h
lines_told lines s defined (Some found) h = inr (s, defined, h)

pub told_on : {E : Type 0} (lines : List Line) (s : Defined) → defined_by built_in lines ≡ Ok s → (r : Result (Option FlawAt) E) → IfOk r (SecondTells s.types lines) → IfOk r (LinesTell lines)
told_on lines s defined (Ok o) h = lines_told lines s defined o h
told_on lines s defined (Err e) h = tt
