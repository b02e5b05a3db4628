-- What is read of a dir.conf with printed lines behind it.
use Rattle.std.proofs.Common.{◌≡◌, ◌∙◌, ℕ, ◌+◌, ◌<◌, Bool, true, List, [], ◌∷◌, ◌++◌, length, codes, Option, Some, None, Result, Ok, Err, inl, inr, refl, sym, ap, subst, append-nil, length-append, ◌||◌, false}
use Rattle.std.specs.Prelude.{is_some}
use Rattle.std.specs.List.{AllByRecursion, Contains}
use Rattle.std.specs.Str.Lines.{strip_carriage_return}
use Rattle.std.proofs.lemmas.Bool.{cond-true}
use Rattle.std.proofs.lemmas.List.Folds.{list_any-append}
use Rattle.std.proofs.lemmas.List.Elements.{Contains-append_left, Contains-append_right, Contains-append_cases}
use Rattle.base.specs.Answers.{◌>>=◌, through}
use Rattle.base.proofs.Bound.{bind_ok, same_ok}
use Rattle.definitions.specs.declared.lines.Line.{Line}
use Rattle.definitions.specs.Lines.{lines_of}
use Rattle.values.specs.declared.types.AttributeType.{AttributeType}
use Rattle.schema.specs.declared.slots.Slot.{Slot}
use Rattle.schema.specs.Rdns.{TypedRdn}
use Rattle.schema.specs.Conf.{Conf}
use Rattle.dir_conf.specs.declared.conf_fault.ConfFaultKind.{ConfFaultKind}
use Rattle.dir_conf.specs.declared.conf_fault.ConfFaultKind.TheVariants.{Suffix}
use Rattle.dir_conf.specs.IndexLines.{in_order}
use Rattle.dir_conf.specs.Configurations.{At, Defined, built_in, says_nothing, is_first, definition_line, defined_by, Found, none_found, later_line, found_in, rules_of, definitions_of, conf_of}
use Rattle.dir_conf.specs.FaultyLines.{has_suffix}
use Rattle.dir_conf.proofs.FirstStops.{same_err, bind_err, stops}
use Rattle.dir_conf.proofs.LineWords.{type_word, class_word, says_some, no_other}
use Rattle.dir_conf.proofs.LaterFaults.{later_by, later_is, later_faulty, sees}
use Rattle.dir_conf.proofs.Whole as whole
use Rattle.server_schema.specs.Growth.{end_of, concat}
use Rattle.server_schema.specs.Grown.{IsGrown, StandsLater, IsFaultOfOwn, IsReadBehind}
use Rattle.server_schema.proofs.Members.{here, later, in_none}
use Rattle.server_schema.proofs.LineEnds.{line, lines_from, nothing_behind, Behind, behind}
use Rattle.server_schema.proofs.PrintedLines.{IsQuiet, ended_next, AreEnded, all_quiet, all_bare, IsSilent}
use Rattle.server_schema.proofs.MoreDefined.{Begins, lines_add}
use Rattle.server_schema.proofs.MoreTypes.{found_stays, slots_below, order_stays}

-- ---- one step after the other

module _ {S L F : Type 0} (step : S → L → Result S F) where
  through_both : (ls ms : List L) (s : S) → through step s (ls ++ ms) ≡ (through step s ls >>= λ t. through step t ms)
  unfolding through
  through_both [] ms s = refl
  through_both (l ∷ ls) ms s = by (step s l) (λ next. through_both ls ms next)
    where
      by : (r : Result S F) → ((next : S) → through step next (ls ++ ms) ≡ (through step next ls >>= λ t. through step t ms))
          → (r >>= λ next. through step next (ls ++ ms)) ≡ ((r >>= λ next. through step next ls) >>= λ t. through step t ms)
      by (Ok next) both = both next
      by (Err fault) both = refl

  -- steps that do nothing
  nothing_done : (P : L → Type 0) → ((s : S) (l : L) → P l → step s l ≡ Ok s) → (ls : List L) → AllByRecursion P ls → (s : S) → through step s ls ≡ Ok s
  unfolding through
  nothing_done P idle [] h s = refl
  nothing_done P idle (l ∷ ls) h s = ap (λ (r : Result S F). r >>= λ next. through step next ls) (idle s l h.0) ∙ nothing_done P idle ls h.1 s

  then_nothing : (ls ms : List L) (s : S) → ((t : S) → through step t ms ≡ Ok t) → through step s (ls ++ ms) ≡ through step s ls
  then_nothing ls ms s idle = through_both ls ms s ∙ by (through step s ls)
    where
      by : (r : Result S F) → (r >>= λ t. through step t ms) ≡ r
      by (Ok t) = idle t
      by (Err fault) = refl

-- ---- lines that aren't looked at

module _ (types : List AttributeType) where
  later_idle : (f : Found) (l : Line) → IsQuiet l → later_line types f l ≡ Ok f
  later_idle f l h = later_is types f l ∙ elim h.passed [
    | inl nothing ↦ ap (λ (b : Bool). later_by types f l b (is_first (codes "index") l.text) (is_first (codes "suffix") l.text) (is_some f.suffix)) nothing
    | inr (inl type) ↦
        let some = (says_some (codes "attributetype") type_word l.text type).0 in
        λ i. later_by types f l (some i) (no_other (codes "attributetype") (codes "index") l.text refl type i) (no_other (codes "attributetype") (codes "suffix") l.text refl type i) (is_some f.suffix)
    | inr (inr class) ↦
        let some = (says_some (codes "objectclass") class_word l.text class).0 in
        λ i. later_by types f l (some i) (no_other (codes "objectclass") (codes "index") l.text refl class i) (no_other (codes "objectclass") (codes "suffix") l.text refl class i) (is_some f.suffix)
  ]

  found_idle : (ls : List Line) → AllByRecursion IsQuiet ls → (f : Found) → found_in types f ls ≡ Ok f
  found_idle ls h f = nothing_done (later_line types) IsQuiet later_idle ls h f

-- ---- definitions

abbrev Outcome : Type 0
Outcome = Result Defined At

define_idle : (s : Defined) (l : Line) → says_nothing l.text ≡ true → definition_line s l ≡ Ok s
unfolding definition_line
define_idle s l h = cond-true (says_nothing l.text) (Ok s) _ h

abbrev SaysNothing : Line → Type 0
SaysNothing l = says_nothing l.text ≡ true

defined_idle : (ls : List Line) → AllByRecursion SaysNothing ls → (s : Defined) → defined_by s ls ≡ Ok s
defined_idle ls h s = nothing_done definition_line SaysNothing define_idle ls h s

no_line : (n : ℕ) (s : Defined) → defined_by s (lines_from n []) ≡ Ok s
no_line n s = ap (defined_by s) (nothing_behind n) ∙ defined_idle (line n [] ∷ []) (refl, tt) s

abbrev pub AreSilent : List (List ℕ) → Type 0
AreSilent texts = (text : List ℕ) → Contains texts text → IsSilent text

pub silent_ended : (texts : List (List ℕ)) → AreSilent texts → AreEnded texts
silent_ended texts h text at = (h text at).ended

all_silent : (texts : List (List ℕ)) → AreSilent texts → (n : ℕ) (s : Defined) → defined_by s (lines_from n (concat texts)) ≡ Ok s
unfolding through
all_silent [] h n s = no_line n s
all_silent (text ∷ texts) h n s =
    let one = h text (here text texts) in
    let others : AreSilent texts = λ t at. h t (later text t texts at) in
    let l : Line = line n (strip_carriage_return one.ended.body) in
    ap (defined_by s) (ended_next n text (concat texts) one.ended (all_bare texts (silent_ended texts others) (n + 1)))
    ∙ ap (λ (r : Outcome). r >>= λ next. defined_by next (lines_from (n + 1) (concat texts))) (define_idle s l one.nothing)
    ∙ all_silent texts others (n + 1) s

pub ended_both : (texts others : List (List ℕ)) → AreEnded texts → AreEnded others → AreEnded (texts ++ others)
ended_both texts others h k text at = elim (Contains-append_cases texts others text at) [ inl early ↦ h text early | inr late ↦ k text late ]

-- comments behind other lines define nothing
silent_behind : (texts comments : List (List ℕ)) → AreEnded texts → AreSilent comments → (n : ℕ) (s : Defined)
    → defined_by s (lines_from n (concat (texts ++ comments))) ≡ defined_by s (lines_from n (concat texts))
unfolding through
silent_behind [] comments h k n s = all_silent comments k n s ∙ sym (no_line n s)
silent_behind (text ∷ texts) comments h k n s =
    let one = h text (here text texts) in
    let others : AreEnded texts = λ t at. h t (later text t texts at) in
    let l : Line = line n (strip_carriage_return one.body) in
    ap (defined_by s) (ended_next n text (concat (texts ++ comments)) one (all_bare (texts ++ comments) (ended_both texts comments others (silent_ended comments k)) (n + 1)))
    ∙ by (definition_line s l) (silent_behind texts comments others k (n + 1))
    ∙ sym (ap (defined_by s) (ended_next n text (concat texts) one (all_bare texts others (n + 1))))
  where
    by : (r : Outcome) → ((t : Defined) → defined_by t (lines_from (n + 1) (concat (texts ++ comments))) ≡ defined_by t (lines_from (n + 1) (concat texts)))
        → (r >>= λ t. defined_by t (lines_from (n + 1) (concat (texts ++ comments)))) ≡ (r >>= λ t. defined_by t (lines_from (n + 1) (concat texts)))
    by (Ok t) same = same t
    by (Err fault) same = refl

-- ---- behind a dir.conf

module _ (conf : List ℕ) where
  abbrev b : Behind conf
  b = behind conf

  own_defined : (s : Defined) → defined_by s (lines_of conf) ≡ defined_by s b.front
  own_defined s = elim b.own [
    | inl is ↦ ap (defined_by s) is
    | inr (n, is) ↦ ap (defined_by s) is ∙ then_nothing definition_line b.front (line n [] ∷ []) s (defined_idle (line n [] ∷ []) (refl, tt))
  ]

  own_found : (types : List AttributeType) (f : Found) → found_in types f (lines_of conf) ≡ found_in types f b.front
  own_found types f = elim b.own [
    | inl is ↦ ap (found_in types f) is
    | inr (n, is) ↦ ap (found_in types f) is ∙ then_nothing (later_line types) b.front (line n [] ∷ []) f (found_idle types (line n [] ∷ []) (record { bare = refl; passed = inl refl }, tt))
  ]

  abbrev with_texts : List (List ℕ) → List ℕ
  with_texts texts = conf ++ (end_of conf ++ concat texts)

  abbrev lines_behind : List (List ℕ) → List Line
  lines_behind texts = lines_from b.number (concat texts)

  text_defined : (texts : List (List ℕ)) → AreEnded texts → definitions_of (with_texts texts) ≡ (defined_by built_in b.front >>= λ s. defined_by s (lines_behind texts))
  unfolding definitions_of
  text_defined texts ended = ap (defined_by built_in) (b.all (concat texts) (all_bare texts ended)) ∙ through_both definition_line b.front (lines_behind texts) built_in

  -- ---- whether it is read

  ok_more : (r : Outcome) (f g : Defined → Outcome) → ((s : Defined) → f s ≡ g s) → (r >>= f) ≡ (r >>= g)
  ok_more (Ok s) f g same = same s
  ok_more (Err fault) f g same = refl

  own_is : definitions_of conf ≡ defined_by built_in b.front
  unfolding definitions_of
  own_is = own_defined built_in

  bind_itself : (r : Outcome) (f : Defined → Outcome) → ((s : Defined) → f s ≡ Ok s) → (r >>= f) ≡ r
  bind_itself (Ok s) f idle = idle s
  bind_itself (Err fault) f idle = refl

  -- with the end of its last line
  pub end_read : definitions_of (conf ++ end_of conf) ≡ definitions_of conf
  end_read =
      ap definitions_of (ap (λ (end : List ℕ). conf ++ end) (sym (append-nil (end_of conf))))
      ∙ text_defined [] (λ text at. absurd (in_none text at))
      ∙ bind_itself (defined_by built_in b.front) (λ s. defined_by s (lines_behind [])) (no_line b.number)
      ∙ sym own_is

  -- with comments behind other lines
  pub comments_read : (texts comments : List (List ℕ)) → AreEnded texts → AreSilent comments → definitions_of (with_texts (texts ++ comments)) ≡ definitions_of (with_texts texts)
  comments_read texts comments ended silent =
      text_defined (texts ++ comments) (ended_both texts comments ended (silent_ended comments silent))
      ∙ ok_more (defined_by built_in b.front) (λ s. defined_by s (lines_behind (texts ++ comments))) (λ s. defined_by s (lines_behind texts)) (silent_behind texts comments ended silent b.number)
      ∙ sym (text_defined texts ended)

  -- ---- the whole

  module _ (texts : List (List ℕ)) (ended : AreEnded texts) (defined : Defined) (defines : definitions_of (with_texts texts) ≡ Ok defined) where
    abbrev text : List ℕ
    text = with_texts texts

    text_found : (types : List AttributeType) (f : Found) → found_in types f (lines_of text) ≡ found_in types f b.front
    text_found types f =
        ap (found_in types f) (b.all (concat texts) (all_bare texts ended))
        ∙ then_nothing (later_line types) b.front (lines_behind texts) f (found_idle types (lines_behind texts) (all_quiet texts ended b.number))

    all_defined : defined_by built_in (lines_of text) ≡ Ok defined
    unfolding definitions_of
    all_defined = defines

    -- ---- faults

    abbrev Whole : Type 0
    Whole = Result Conf At

    in_own : (l : Line) → Contains b.front l → Contains (lines_of conf) l
    in_own l at = elim b.own [
      | inl is ↦ subst (λ (ls : List Line). Contains ls l) (sym is) at
      | inr (n, is) ↦ subst (λ (ls : List Line). Contains ls l) (sym is) (Contains-append_left b.front (line n [] ∷ []) l at)
    ]

    or_false : (a : Bool) → (a || false) ≡ a
    or_false true = refl
    or_false false = refl

    own_suffix : has_suffix (lines_of conf) ≡ has_suffix b.front
    own_suffix = elim b.own [
      | inl is ↦ ap has_suffix is
      | inr (n, is) ↦ ap has_suffix is ∙ list_any-append (λ (l : Line). is_first (codes "suffix") l.text) b.front (line n [] ∷ []) ∙ or_false (has_suffix b.front)
    ]

    no_suffix : (s : Defined) (f : Found) (o : Option (List TypedRdn)) (number : ℕ) (kind : ConfFaultKind) → found_in s.types none_found b.front ≡ Ok f → f.suffix ≡ o
        → rules_of s f.slots o ≡ Err (number, kind) → IsFaultOfOwn conf number kind
    no_suffix s f (Some suffix) number kind found is e = absurd cc
    no_suffix s f None number kind found is e =
        let same = same_err {A = Conf} (0, Suffix) (number, kind) e in
        inl (record {
          no_suffix = own_suffix ∙ sym (sees s.types b.front f found) ∙ ap (λ (o : Option (List TypedRdn)). is_some o) is;
          number_is = sym (ap (λ (p : At). p.0) same);
          kind_is = sym (ap (λ (p : At). p.1) same);
        })

    later_fault : (types : List AttributeType) (number : ℕ) (kind : ConfFaultKind) → found_in types none_found b.front ≡ Err (number, kind) → StandsLater conf number
    later_fault types number kind e =
        let h = stops (later_line types) b.front none_found (number, kind) e in
        let k = later_faulty types h.known h.bad h.before (sees types h.before h.known h.known_is) number kind h.here in
        let at : Contains b.front h.bad = subst (λ (ls : List Line). Contains ls h.bad) (sym h.is) (Contains-append_right h.before (h.bad ∷ h.after) h.bad (here h.bad h.after)) in
        record {
          line = h.bad;
          stands = in_own h.bad at;
          number_is = k.0;
          later = elim k.1 [ inl suffix ↦ inl suffix.1 | inr index ↦ inr index.0 ];
        }

    fault_is : (number : ℕ) (kind : ConfFaultKind) → conf_of text ≡ Err (number, kind) → IsFaultOfOwn conf number kind
    unfolding conf_of
    fault_is number kind e = elim (bind_err (defined_by built_in (lines_of text)) (λ s. found_in s.types none_found (lines_of text) >>= λ f. rules_of s f.slots f.suffix) (number, kind) e) [
      | inl first ↦ absurd (let both : ◌≡◌ {A = Outcome} (Ok defined) (Err (number, kind)) = sym all_defined ∙ first in cc)
      | inr (s, is, rest) ↦ elim (bind_err (found_in s.types none_found (lines_of text)) (λ f. rules_of s f.slots f.suffix) (number, kind) rest) [
        | inl second ↦ inr (later_fault s.types number kind (sym (text_found s.types none_found) ∙ second))
        | inr (f, found, last) ↦ no_suffix s f f.suffix number kind (sym (text_found s.types none_found) ∙ found) refl last
      ]
    ]

    -- ---- growth

    conf_made : Defined → List TypedRdn → List Slot → Conf
    conf_made s suffix said = record { types = s.types; suffix = suffix; slots = in_order (length s.types) said; classes = s.classes }

    was_made : (s : Defined) (said : List Slot) (o : Option (List TypedRdn)) (was : Conf) → rules_of s said o ≡ Ok was → (suffix : List TypedRdn) × (o ≡ Some suffix) × (was ≡ conf_made s suffix said)
    unfolding conf_made
    was_made s said None was e = absurd cc
    was_made s said (Some suffix) was e = (suffix, refl, sym (same_ok {F = At} (conf_made s suffix said) was e))

    slots_same : (s : Defined) (said : List Slot) → Begins s.types defined.types → AllByRecursion (λ x. x.type_id < length s.types) said → in_order (length defined.types) said ≡ in_order (length s.types) said
    slots_same s said more below =
        ap (λ (n : ℕ). in_order n said) (ap length more.1 ∙ length-append s.types more.0) ∙ order_stays (length s.types) (length more.0) said below

    grown_from : (s : Defined) (f : Found) (suffix : List TypedRdn) → defined_by built_in b.front ≡ Ok s → found_in s.types none_found b.front ≡ Ok f → f.suffix ≡ Some suffix
        → (grown : Conf) × (conf_of text ≡ Ok grown) × IsGrown (conf_made s suffix f.slots) grown
    unfolding conf_of conf_made
    grown_from s f suffix own found some =
        let behind_own : defined_by s (lines_behind texts) ≡ Ok defined = sym (ap (λ (r : Outcome). r >>= λ t. defined_by t (lines_behind texts)) own) ∙ sym (text_defined texts ended) ∙ defines in
        let more = lines_add (lines_behind texts) s defined behind_own in
        let again : found_in defined.types none_found (lines_of text) ≡ Ok f =
        text_found defined.types none_found
        ∙ ap (λ (types : List AttributeType). found_in types none_found b.front) more.types.1
        ∙ found_stays s.types more.types.0 b.front none_found f found
        in
        let below = slots_below s.types b.front none_found f refl found in (
          conf_made defined suffix f.slots,
          whole.conf_is (lines_of text) defined f suffix all_defined again some,
          record { suffix = refl; slots = slots_same s f.slots more.types below; types = more.types; classes = more.classes },
        )

    grows_by : (was : Conf) (s : Defined) (f : Found) → defined_by built_in (lines_of conf) ≡ Ok s → found_in s.types none_found (lines_of conf) ≡ Ok f → rules_of s f.slots f.suffix ≡ Ok was
        → (grown : Conf) × (conf_of text ≡ Ok grown) × IsGrown was grown
    grows_by was s f defined_is found_is rules =
        let made = was_made s f.slots f.suffix was rules in
        let k = grown_from s f made.0 (sym (own_defined built_in) ∙ defined_is) (sym (own_found s.types none_found) ∙ found_is) made.1 in
        (k.0, k.1, subst (λ (c : Conf). IsGrown c k.0) (sym made.2) k.2)

    grows : (was : Conf) → conf_of conf ≡ Ok was → (grown : Conf) × (conf_of text ≡ Ok grown) × IsGrown was grown
    unfolding conf_of
    grows was e =
        let first = bind_ok (defined_by built_in (lines_of conf)) (λ s. found_in s.types none_found (lines_of conf) >>= λ f. rules_of s f.slots f.suffix) was e in
        let second = bind_ok (found_in first.0.types none_found (lines_of conf)) (λ f. rules_of first.0 f.slots f.suffix) was first.2 in
        grows_by was first.0 second.0 first.1 second.1 second.2

    pub is_read_behind : IsReadBehind conf text
    is_read_behind = record {
      lines = record { front = b.front; more = lines_behind texts; own = b.own; all = b.all (concat texts) (all_bare texts ended) };
      faults = fault_is;
      grows = grows;
    }
