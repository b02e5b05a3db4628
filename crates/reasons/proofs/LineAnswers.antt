-- The first flaw of the lines that are added.
use Rattle.std.proofs.Common.{◌≡◌, ℕ, suc, Bool, true, false, cond, not, List, [], ◌∷◌, ◌++◌, length, take, Option, Some, None, Result, Ok, Err, refl, sym, ap, subst, ◌∙◌, arith}
use Rattle.std.specs.List.{list_any, Any, slice_get}
use Rattle.std.proofs.lemmas.List.{append-nil, append_assoc, length_push}
use Rattle.base.specs.Answers.{◌>>=◌}
use Rattle.ldif.specs.Attrs.{Attr}
use Rattle.ldif.specs.declared.record.Mode.{Mode}
use Rattle.ldif.specs.declared.record.Record.{Record}
use Rattle.values.specs.Types.{type_of}
use Rattle.schema.specs.Conf.{Conf}
use Rattle.schema.specs.declared.code.Code.{Code}
use Rattle.schema.specs.declared.code.Code.TheVariants.{ConstraintViolation, AttributeOrValueExists, InvalidAttributeSyntax}
use Rattle.schema.specs.Values.{is_valid_at}
use Rattle.entries.specs.Entries.{Attributes, values_of, has_equal, push_value, is_barred, typed_value, put_value, add_lines}
use Rattle.tree.specs.Directories.{Entries}
use Rattle.reasons.specs.LineFlaws.{UnknownType, UsersCantChange, BadSyntax, EqualValue, IsLine, SaysEqual, put_typed, gathered}
use Rattle.reasons.specs.Asked.{lines_of_record}
use Rattle.reasons.specs.Flaws.{Flaw, Line, HasFlaw, flaw_code, line_checks}
use Rattle.reasons.proofs.Elements.{is_none, off, on, only_some}
use Rattle.reasons.proofs.Answering.{Answers, check, passed, failed}
use Rattle.reasons.proofs.Lines.{get_seam, take_seam, says, earlier_told, gathered_more, equal_there}

module _ (conf : Conf) (mode : Mode) (d : Entries) (r : Record) {A : Type 0} (x : Result A Code) (k : Attributes → Result A Code) where
  abbrev all : List Attr
  all = lines_of_record r

  abbrev Done : Type 0
  Done = x ≡ k (gathered conf.types all)

  abbrev answers : List Flaw → Type 0
  answers fs = Answers (HasFlaw conf mode d r) flaw_code Done fs x

  abbrev added : Attributes → List Attr → Result A Code
  added attrs ls = add_lines mode conf.types attrs ls >>= k

  abbrev put_then : Attributes → List Attr → Result (ℕ × List ℕ) Code → Result A Code
  put_then attrs ls said = ((said >>= put_value conf.types attrs) >>= λ more. add_lines mode conf.types more ls) >>= k

  -- the tests of a line of a known type
  turn : (attrs : Attributes) (v : List ℕ) (ls : List Attr) (t : ℕ) (barred valid equal : Bool) → has_equal conf.types t v (values_of attrs t) ≡ equal
      → put_then attrs ls (cond barred (Err ConstraintViolation) (cond valid (Ok (t, v)) (Err InvalidAttributeSyntax)))
      ≡ cond barred (Err ConstraintViolation) (cond (not valid) (Err InvalidAttributeSyntax) (cond equal (Err AttributeOrValueExists) (added (push_value attrs t v) ls)))
  turn attrs v ls t true valid equal is = refl
  turn attrs v ls t false false equal is = refl
  turn attrs v ls t false true equal is =
      ap (λ (b : Bool). ((cond {A = Result Attributes Code} b (Err AttributeOrValueExists) (Ok (push_value attrs t v))) >>= λ more. add_lines mode conf.types more ls) >>= k) is ∙ by equal
    where
      by : (b : Bool) → (((cond {A = Result Attributes Code} b (Err AttributeOrValueExists) (Ok (push_value attrs t v))) >>= λ more. add_lines mode conf.types more ls) >>= k) ≡ cond b (Err AttributeOrValueExists) (added (push_value attrs t v) ls)
      by true = refl
      by false = refl

  module _ (earlier : List Attr) (i : ℕ) (l : Attr) (ls : List Attr) (here : slice_get all i ≡ Some l) (front : take i all ≡ earlier) where
    abbrev before : Attributes
    before = gathered conf.types earlier

    abbrev later : List Flaw
    later = line_checks (suc i) ls

    -- what is so of the line with this index is so of this one
    of_it : (t : ℕ) → type_of conf.types l.name ≡ Some t → (Q : Attr → ℕ → Type 0) (m : Attr) (u : ℕ) → IsLine conf all i m u → Q m u → Q l t
    of_it t known Q m u is h =
        let same : m ≡ l = only_some (slice_get all i) m l is.0 here in
        let type_is : type_of conf.types l.name ≡ Some u = ap (λ (n : Attr). type_of conf.types n.name) (sym same) ∙ is.1 in
        subst (Q l) (only_some (type_of conf.types l.name) u t type_is known) (subst (λ (n : Attr). Q n u) same h)

    typed_line : (t : ℕ) → type_of conf.types l.name ≡ Some t → x ≡ put_then before ls (typed_value mode conf.types l.value (Some t)) → (x ≡ added (push_value before t l.value) ls → answers later)
        → answers (Line i UnknownType ∷ Line i UsersCantChange ∷ Line i BadSyntax ∷ Line i EqualValue ∷ later)
    typed_line t known is more =
        let barred : Bool = is_barred mode conf.types t in
        let valid : Bool = is_valid_at conf.types t l.value in
        let equal : Bool = list_any (says conf.types t l.value) earlier in
        let rest : Result A Code = added (push_value before t l.value) ls in
        passed (HasFlaw conf mode d r) flaw_code Done (Line i UnknownType) (Line i UsersCantChange ∷ Line i BadSyntax ∷ Line i EqualValue ∷ later) x
        (λ h. is_none (type_of conf.types l.name) t (ap (λ (n : Attr). type_of conf.types n.name) (only_some (slice_get all i) l h.0 here h.1) ∙ h.2) known)
        (check (HasFlaw conf mode d r) flaw_code Done barred (Line i UsersCantChange) (Line i BadSyntax ∷ Line i EqualValue ∷ later) x
        (cond (not valid) (Err InvalidAttributeSyntax) (cond equal (Err AttributeOrValueExists) rest))
        (is ∙ turn before l.value ls t barred valid equal (equal_there conf.types earlier t l.value))
        (λ h. (l, t, (here, known), h)) (λ h. of_it t known (λ m u. is_barred mode conf.types u ≡ true) h.0 h.1 h.2 h.3) λ free said.
        check (HasFlaw conf mode d r) flaw_code Done (not valid) (Line i BadSyntax) (Line i EqualValue ∷ later) x (cond equal (Err AttributeOrValueExists) rest) said
        (λ h. (l, t, (here, known), off valid h)) (λ h. on valid (of_it t known (λ m u. is_valid_at conf.types u m.value ≡ false) h.0 h.1 h.2 h.3)) λ fine said.
        check (HasFlaw conf mode d r) flaw_code Done equal (Line i EqualValue) later x rest said
        (λ h. (l, t, (here, known), subst (Any (SaysEqual conf t l.value)) (sym front) ((earlier_told conf t l.value earlier).0 h)))
        (λ h. (earlier_told conf t l.value earlier).1 (subst (Any (SaysEqual conf t l.value)) front (of_it t known (λ m u. Any (SaysEqual conf u m.value) (take i all)) h.0 h.1 h.2 h.3))) λ new said.
        more said)

    one_line : x ≡ added before (l ∷ ls) → ((t : ℕ) → type_of conf.types l.name ≡ Some t → x ≡ added (push_value before t l.value) ls → answers later)
        → answers (Line i UnknownType ∷ Line i UsersCantChange ∷ Line i BadSyntax ∷ Line i EqualValue ∷ later)
    unfolding add_lines
    one_line is more = by (type_of conf.types l.name) refl
      where
        of_type : Option ℕ → Result A Code
        of_type o = put_then before ls (typed_value mode conf.types l.value o)

        by : (o : Option ℕ) → type_of conf.types l.name ≡ o → answers (Line i UnknownType ∷ Line i UsersCantChange ∷ Line i BadSyntax ∷ Line i EqualValue ∷ later)
        by None none = failed (HasFlaw conf mode d r) flaw_code Done (Line i UnknownType) (Line i UsersCantChange ∷ Line i BadSyntax ∷ Line i EqualValue ∷ later) x (l, here, none) (is ∙ ap of_type none)
        by (Some t) known = typed_line t known (is ∙ ap of_type known) (more t known)

  -- from a line on
  from_line : (ls earlier : List Attr) (i : ℕ) → all ≡ earlier ++ ls → length earlier ≡ i → x ≡ added (gathered conf.types earlier) ls → answers (line_checks i ls)
  unfolding add_lines
  from_line [] earlier i whole long is = is ∙ ap (λ (xs : List Attr). k (gathered conf.types xs)) (sym (append-nil earlier) ∙ sym whole)
  from_line (l ∷ ls) earlier i whole long is =
      let here : slice_get all i ≡ Some l = ap (λ (xs : List Attr). slice_get xs i) whole ∙ ap (slice_get (earlier ++ l ∷ ls)) (sym long) ∙ get_seam earlier l ls in
      let front : take i all ≡ earlier = ap (λ (xs : List Attr). take i xs) whole ∙ ap (λ (j : ℕ). take j (earlier ++ l ∷ ls)) (sym long) ∙ take_seam earlier (l ∷ ls) in
      one_line earlier i l ls here front is (λ t known said. from_line ls (earlier ++ l ∷ []) (suc i) (whole ∙ sym (append_assoc earlier (l ∷ []) ls)) (omega (arith, long, length_push earlier l)) (said ∙ ap (λ (attrs : Attributes). added attrs ls) (by t known)))
    where
      by : (t : ℕ) → type_of conf.types l.name ≡ Some t → push_value (gathered conf.types earlier) t l.value ≡ gathered conf.types (earlier ++ l ∷ [])
      by t known = ap (put_typed (gathered conf.types earlier) l.value) (sym known) ∙ sym (gathered_more conf.types earlier l)

  pub line_answers : x ≡ added [] all → answers (line_checks 0 all)
  line_answers is = from_line all [] 0 refl refl is
