-- The types that lines define, each with its definition.
use Rattle.std.proofs.Common.{◌≡◌, ℕ, suc, ◌<◌, Bool, true, false, cond, ◌||◌, List, [], ◌∷◌, ◌++◌, length, get_or, Option, Some, None, Result, Ok, Err, codes, refl, sym, ap, subst, ◌∙◌, arith, length-append}
use Rattle.std.specs.Prelude.{IfSome, is_some}
use Rattle.std.specs.Option.{option_map}
use Rattle.std.proofs.lemmas.Bool.{ltb-true}
use Rattle.std.proofs.lemmas.List.{append-nil, append_assoc}
use Rattle.std.proofs.Math.Seq.{get_or-append_seam}
use Rattle.std.proofs.Math.ListN.{get_or-append}
use Rattle.base.specs.Answers.{◌>>=◌, through}
use Rattle.base.proofs.Bound.{bind_ok, same_ok}
use Rattle.values.specs.declared.types.AttributeType.{AttributeType}
use Rattle.values.specs.Types.{type_of, no_type}
use Rattle.schema.specs.TypeRules.{object_class, up_of, IsAbove}
use Rattle.schema.specs.Conf.{Conf}
use Rattle.schema.specs.Rdns.{TypedRdn}
use Rattle.schema.specs.declared.slots.Slot.{Slot}
use Rattle.definitions.specs.declared.lines.Line.{Line}
use Rattle.definitions.specs.declared.type_definition.TypeDefinition.{TypeDefinition}
use Rattle.definitions.specs.declared.class_definition.ClassDefinition.{ClassDefinition}
use Rattle.definitions.specs.Words.{◌>>>◌, Cut, after_word}
use Rattle.definitions.specs.Lines.{begins_blank, lines_of}
use Rattle.definitions.specs.Elements.{head_at}
use Rattle.definitions.specs.TypeDefinitions as grammar
use Rattle.definitions.specs.TypeDefinitions.{type_definition_of}
use Rattle.definitions.specs.ClassDefinitions.{class_definition_of}
use Rattle.dir_conf.specs.declared.conf_fault.ConfFaultKind.TheVariants.{Keyword, Form, Twice}
use Rattle.dir_conf.specs.DerivedTypes.{type_with}
use Rattle.dir_conf.specs.Configurations.{At, says_nothing, is_first, is_built_in, superior_of, flaw_of, unless, below, refused, placed, Defined, built_in, is_class_taken, class_with, with_class, class_placed, with_types, definition_line, defined_by, found_in, none_found, rules_of, conf_of}
use Rattle.dir_conf.specs.Inherited.{unless_built_in, defined_on, defined_on_lines, AreInherited}
use Rattle.dir_conf.proofs.LineWords.{type_word, no_other, says_some}
use Rattle.dir_conf.proofs.OneMore.{at_more}
use Rattle.dir_conf.proofs.Whole.{Defines, unrefused, above_is, all_hold}
use Rattle.dir_conf.proofs.Inheriting.{no_definition, IsDerived, AreDerived, all_inherited}

-- ---- one type more

abbrev some_type : AttributeType → Option AttributeType
some_type t = Some t

up_stays : (types : List AttributeType) (new : AttributeType) (up : Option ℕ) → IfSome up (λ s. s < length types) → up_of types up ≡ up_of (types ++ new ∷ []) up
up_stays types new None above = refl
up_stays types new (Some s) above = ap some_type (sym (get_or-append types (new ∷ []) no_type s above))

lower : (up : Option ℕ) (m n : ℕ) → m < n → IfSome up (λ s. s < m) → IfSome up (λ s. s < n)
lower None m n lt above = tt
lower (Some s) m n lt above = omega (arith, lt, above)

stays : (types : List AttributeType) (new : AttributeType) (t : ℕ) (d : TypeDefinition) → t < length types → IsDerived types t d → IsDerived (types ++ new ∷ []) t d
stays types new t d lt h = record {
  up = h.up;
  above = h.above;
  is = get_or-append types (new ∷ []) no_type t lt ∙ h.is ∙ ap (λ (o : Option AttributeType). type_with d h.up o) (up_stays types new h.up (lower h.up t (length types) lt h.above));
  rooted = h.rooted;
}

module _ (types : List AttributeType) (ds : List TypeDefinition) (d : TypeDefinition) (up : Option ℕ) (h : AreDerived types ds) (above : IfSome up (λ s. s < length types)) (rooted : (is_some d.syntax || is_some up) ≡ true) where
  abbrev new : AttributeType
  new = type_with d up (up_of types up)

  last : IsDerived (types ++ new ∷ []) (length types) d
  last = record {
    up = up;
    above = above;
    is = get_or-append_seam types new [] no_type ∙ ap (λ (o : Option AttributeType). type_with d up o) (up_stays types new up above);
    rooted = rooted;
  }

  put : AreDerived (types ++ new ∷ []) (ds ++ d ∷ [])
  put = record {
    first = get_or-append types (new ∷ []) no_type 0 (omega (arith, h.count)) ∙ h.first;
    count = omega (arith, h.count, length-append types (new ∷ []), length-append ds (d ∷ []));
    each =
        at_more (λ k x. IsDerived (types ++ new ∷ []) (suc k) x) ds d no_definition (λ k lt. stays types new (suc k) (get_or ds k no_definition) (omega (arith, lt, h.count)) (h.each k lt))
        (subst (λ (n : ℕ). IsDerived (types ++ new ∷ []) n d) h.count last);
  }

-- ---- a definition

-- it states a syntax, or a type to take it from
abbrev IsRooted : Option TypeDefinition → Type 0
IsRooted None = Unit {0}
IsRooted (Some d) = (is_some d.syntax || is_some d.superior) ≡ true

rooted_syntax : (o : Option TypeDefinition) → IsRooted (o >>> grammar.with_syntax)
rooted_syntax None = tt
rooted_syntax (Some d) = by (is_some d.syntax || is_some d.superior) refl
  where
    by : (b : Bool) → (is_some d.syntax || is_some d.superior) ≡ b → IsRooted (cond b (Some d) None)
    by true is = is
    by false is = tt

rooted_text : (text : List ℕ) → IsRooted (type_definition_of text)
unfolding type_definition_of
rooted_text text = by (head_at text)
  where
    by : (o : Option Cut) → IsRooted (o >>> grammar.type_with)
    by None = tt
    by (Some head) = rooted_syntax _

same_number : (a b : Option ℕ) → ◌≡◌ {A = Option (Option ℕ)} (Some a) (Some b) → a ≡ b
same_number a b e = cc

rooted_up : (syntax : Bool) (types : List AttributeType) (superior : Option (List ℕ)) (up : Option ℕ) → (syntax || is_some superior) ≡ true → superior_of types superior ≡ Some up → (syntax || is_some up) ≡ true
rooted_up true types superior up rooted named = refl
rooted_up false types None up rooted named = absurd cc
rooted_up false types (Some name) up rooted named = by (type_of types name) named
  where
    by : (o : Option ℕ) → option_map (λ t. Some t) o ≡ Some up → is_some up ≡ true
    by None said = absurd cc
    by (Some t) said = ap (λ (o : Option ℕ). is_some o) (sym (same_number (Some t) up said))

known_above : (types : List AttributeType) (up : Option ℕ) → IsAbove types up → IfSome up (λ s. s < length types)
known_above types None h = tt
known_above types (Some s) h = ltb-true s (length types) h

abbrev Types : Type 0
Types = Result (List AttributeType) At

module _ (types : List AttributeType) (ds : List TypeDefinition) (line : ℕ) (h : AreDerived types ds) where
  below_derives : (d : TypeDefinition) (number : Option (Option ℕ)) (out : List AttributeType) → IsRooted (Some d) → superior_of types d.superior ≡ number → below types line d number ≡ Ok out → AreDerived out (ds ++ d ∷ [])
  below_derives d None out rooted named e = absurd cc
  below_derives d (Some up) out rooted named e =
      let new = type_with d up (up_of types up) in
      let k = unrefused line (flaw_of new (up_of types up)) (Ok (types ++ new ∷ [])) out e in
      subst (λ (ts : List AttributeType). AreDerived ts (ds ++ d ∷ [])) (same_ok (types ++ new ∷ []) out k.1)
      (put types ds d up h (known_above types up (above_is types d.superior up named)) (rooted_up (is_some d.syntax) types d.superior up rooted named))

  placed_derives : (d : Option TypeDefinition) (out : List AttributeType) → IsRooted d → placed types line d ≡ Ok out → AreDerived out (ds ++ unless_built_in d)
  unfolding placed
  placed_derives None out rooted e = absurd cc
  placed_derives (Some d) out rooted e =
      elim (is_built_in d.element.oid) as (λ a. cond {A = Types} a (Ok types) (unless line (refused types d) (below types line d (superior_of types d.superior))) ≡ Ok out → AreDerived out (ds ++ cond a [] (d ∷ []))) [
        | true ↦ λ said. subst (λ (ts : List AttributeType). AreDerived ts (ds ++ [])) (same_ok types out said) (subst (AreDerived types) (sym (append-nil ds)) h)
        | false ↦ λ said. below_derives d (superior_of types d.superior) out rooted refl (unrefused line (refused types d) (below types line d (superior_of types d.superior)) out said).1
      ] e

-- ---- a line

class_same : (s : Defined) (line : ℕ) (d : Option ClassDefinition) (out : Defined) → class_placed s line d ≡ Ok out → s.types ≡ out.types
unfolding class_placed
class_same s line None out e = absurd cc
class_same s line (Some d) out e = by (is_built_in d.element.oid) (is_class_taken s.classes d.element) e
  where
    by : (a b : Bool) → cond {A = Result Defined At} a (Ok s) (cond {A = Result Defined At} b (Err (line, Twice)) (class_with s line d >>= with_class s)) ≡ Ok out → s.types ≡ out.types
    by true b said = ap (λ (x : Defined). x.types) (same_ok s out said)
    by false true said = absurd cc
    by false false said =
        let k = bind_ok (class_with s line d) (with_class s) out said in
        ap (λ (x : Defined). x.types) (same_ok (record s { classes = s.classes ++ k.0 ∷ [] }) out k.2)

abbrev some_types : List AttributeType → Types
some_types ts = Ok ts

types_ok : (s : Defined) (r : Types) (out : Defined) → with_types s r ≡ Ok out → r ≡ Ok out.types
types_ok s (Ok ts) out e = ap (λ (x : Defined). some_types x.types) (same_ok (record s { types = ts }) out e)
types_ok s (Err f) out e = absurd cc

module _ (s : Defined) (l : Line) where
  abbrev of_type : Result Defined At
  of_type = with_types s (placed s.types l.number (type_definition_of (after_word l.text)))

  abbrev of_class : Result Defined At
  of_class = class_placed s l.number (class_definition_of (after_word l.text))

  -- by what the line begins with
  abbrev line_by : Bool → Bool → Bool → Bool → Bool → Result Defined At
  line_by nothing blank other ty class = cond nothing (Ok s) (cond blank (Err (l.number, Form)) (cond other (Ok s) (cond ty of_type (cond class of_class (Err (l.number, Keyword))))))

  line_is : definition_line s l ≡ line_by (says_nothing l.text) (begins_blank l.text) (is_first (codes "suffix") l.text || is_first (codes "index") l.text) (is_first (codes "attributetype") l.text) (is_first (codes "objectclass") l.text)
  unfolding definition_line
  line_is = refl

  types_stay : (out : Defined) (nothing blank other class : Bool) → line_by nothing blank other false class ≡ Ok out → s.types ≡ out.types
  types_stay out true blank other class e = ap (λ (x : Defined). x.types) (same_ok s out e)
  types_stay out false true other class e = absurd cc
  types_stay out false false true class e = ap (λ (x : Defined). x.types) (same_ok s out e)
  types_stay out false false false true e = class_same s l.number (class_definition_of (after_word l.text)) out e
  types_stay out false false false false e = absurd cc

  line_derives : (ds : List TypeDefinition) (out : Defined) → AreDerived s.types ds → definition_line s l ≡ Ok out → AreDerived out.types (ds ++ defined_on l)
  line_derives ds out h e = by (is_first (codes "attributetype") l.text) refl
    where
      by : (ty : Bool) → is_first (codes "attributetype") l.text ≡ ty → AreDerived out.types (ds ++ cond ty (unless_built_in (type_definition_of (after_word l.text))) [])
      by true ty =
          let some = says_some (codes "attributetype") type_word l.text ty in
          let other : (is_first (codes "suffix") l.text || is_first (codes "index") l.text) ≡ false = λ j. no_other (codes "attributetype") (codes "suffix") l.text refl ty j || no_other (codes "attributetype") (codes "index") l.text refl ty j in
          let said : of_type ≡ Ok out = sym (line_is ∙ (λ j. line_by (some.0 j) (some.1 j) (other j) (ty j) (is_first (codes "objectclass") l.text))) ∙ e in
          placed_derives s.types ds l.number h (type_definition_of (after_word l.text)) out.types (rooted_text (after_word l.text)) (types_ok s (placed s.types l.number (type_definition_of (after_word l.text))) out said)
      by false ty =
          let said = sym (line_is ∙ (λ j. line_by (says_nothing l.text) (begins_blank l.text) (is_first (codes "suffix") l.text || is_first (codes "index") l.text) (ty j) (is_first (codes "objectclass") l.text))) ∙ e in
          let same = types_stay out (says_nothing l.text) (begins_blank l.text) (is_first (codes "suffix") l.text || is_first (codes "index") l.text) (is_first (codes "objectclass") l.text) said in
          subst (λ (ts : List AttributeType). AreDerived ts (ds ++ [])) same (subst (AreDerived s.types) (sym (append-nil ds)) h)

-- ---- a text

lines_derive : (ls : List Line) (s : Defined) (ds : List TypeDefinition) (out : Defined) → AreDerived s.types ds → through definition_line s ls ≡ Ok out → AreDerived out.types (ds ++ defined_on_lines ls)
unfolding through
lines_derive [] s ds out h e = subst (λ (x : Defined). AreDerived x.types (ds ++ [])) (same_ok s out e) (subst (AreDerived s.types) (sym (append-nil ds)) h)
lines_derive (l ∷ ls) s ds out h e =
    let k = bind_ok (definition_line s l) (λ next. through definition_line next ls) out e in
    subst (AreDerived out.types) (append_assoc ds (defined_on l) (defined_on_lines ls)) (lines_derive ls k.0 (ds ++ defined_on l) out (line_derives s l ds k.0 h k.1) k.2)

built_in_is : AreDerived (object_class ∷ []) []
built_in_is = record { first = refl; count = refl; each = λ k lt. absurd (omega (arith, lt)) }

same_types : (s : Defined) (slots : List Slot) (suffix : Option (List TypedRdn)) (conf : Conf) → rules_of s slots suffix ≡ Ok conf → s.types ≡ conf.types
same_types s slots None conf e = absurd cc
same_types s slots (Some suffix) conf e = ap (λ (c : Conf). c.types) (same_ok _ conf e)

pub text_inherits : Defines → (text : List ℕ) (conf : Conf) → conf_of text ≡ Ok conf → AreInherited conf.types (defined_on_lines (lines_of text))
unfolding conf_of
text_inherits law text conf e =
    let k = bind_ok (defined_by built_in (lines_of text)) (λ s. found_in s.types none_found (lines_of text) >>= λ found. rules_of s found.slots found.suffix) conf e in
    let m = bind_ok (found_in k.0.types none_found (lines_of text)) (λ found. rules_of k.0 found.slots found.suffix) conf k.2 in
    subst (λ (ts : List AttributeType). AreInherited ts (defined_on_lines (lines_of text))) (same_types k.0 m.0.slots m.0.suffix conf m.2)
    (all_inherited k.0.types (defined_on_lines (lines_of text)) (lines_derive (lines_of text) built_in [] k.0 built_in_is k.1) (all_hold law (lines_of text) k.0 k.1).types.fits)
