-- The rules that a text says hold together.
use Rattle.std.proofs.Common.{ap, ◌≡◌, ℕ, zero, suc, ◌+◌, ◌<◌, ◌≤◌, Bool, true, false, cond, ◌||◌, List, [], ◌∷◌, ◌++◌, length, take, Option, Some, None, Result, Ok, Err, refl, sym, subst, ◌∙◌, arith, lit≤, length-append}
use Rattle.std.specs.Prelude.{nat_lt, nat_le, codes, is_some}
use Rattle.std.specs.List.{list_any, list_all, AllByRecursion, IsDistinct}
use Rattle.std.specs.Option.{option_map}
use Rattle.std.proofs.lemmas.Bool.{or_parts, lt-ltb, ltb-true}
use Rattle.std.proofs.lemmas.Bool.Decides.{nat_tests}
use Rattle.values.specs.declared.types.AttributeType.{AttributeType}
use Rattle.values.specs.Types.{is_named, type_of, type_at, no_type, plain_family}
use Rattle.matching.specs.declared.family.Family.{Family}
use Rattle.values.specs.declared.types.EqualityRule.{EqualityRule}
use Rattle.values.specs.declared.types.EqualityRule.TheVariants as rules
use Rattle.matching.specs.declared.family.Family.TheVariants as families
use Rattle.std.proofs.lemmas.List.{take-append-le}
use Rattle.std.proofs.Math.Seq.{take-append_seam, get_or-append_seam}
use Rattle.std.proofs.Math.ListN.{get_or-append}
use Rattle.definitions.specs.declared.element.Element.{Element}
use Rattle.definitions.specs.declared.lines.Line.{Line}
use Rattle.definitions.specs.declared.type_definition.TypeDefinition.{TypeDefinition}
use Rattle.definitions.specs.Lines.{begins_blank}
use Rattle.base.specs.Naming.{is_oid, is_type_name, are_groups}
use Rattle.definitions.specs.Words.{after_word}
use Rattle.definitions.specs.TypeDefinitions.{type_definition_of}
use Rattle.schema.specs.declared.code.Code.{Code}
use Rattle.dir_conf.specs.declared.conf_fault.ConfFaultKind.{ConfFaultKind}
use Rattle.dir_conf.specs.declared.conf_fault.ConfFaultKind.TheVariants.{Keyword, Form, Twice, Subtype, RuleSyntax, Suffix, Collective, TooManyTypes}
use Rattle.definitions.specs.declared.class_definition.ClassDefinition.{ClassDefinition}
use Rattle.definitions.specs.ClassDefinitions.{class_definition_of}
use Rattle.dir_conf.specs.DerivedTypes.{type_with, goes_with}
use Rattle.schema.specs.TypeRules.{object_class, has_twin, up_of, is_equality, breaks_with, needs_another_syntax, IsAbove, FitsBehind}
use Rattle.schema.specs.Rdns.{TypedRdn, typed}
use Rattle.schema.specs.GoodRdns.{IsRdn}
use Rattle.schema.specs.Names.{name_in}
use Rattle.schema.specs.Values.{rdns_in}
use Rattle.schema.specs.Conf.{IsConf, IsType, share_name}
use Rattle.base.proofs.Bound.{bind_ok, same_ok}
use Rattle.base.specs.Answers.{◌>>=◌, through}
use Rattle.paths.proofs.Unpacked.{all_append}
use Rattle.schema.specs.declared.object_class.ObjectClass.{ObjectClass}
use Rattle.schema.specs.Classes.{class_at, top, extensible_object}
use Rattle.schema.specs.declared.slots.Slot.{Slot}
use Rattle.schema.specs.Slots.{IsSlot}
use Rattle.dir_conf.specs.IndexLines.{slots_in, in_order}
use Rattle.dir_conf.specs.Configurations.{At, says_nothing, is_first, is_built_in, names_one, is_taken, superior_of, flaw_of, unless, below, refused, placed, Defined, built_in, class_placed, with_types, definition_line, defined_by, some_rdns, suffix_at, suffix_text, Found, none_found, with_suffix, with_slots, later_line, found_in, rules_of, conf_on_lines}
use Rattle.dir_conf.proofs.OneMore.{all_put, distinct_put, not_below}
use Rattle.dir_conf.proofs.ClassesKept.{AreClasses, class_keeps, with_more_types, built_in_are}
use Rattle.schema.proofs.Found.{found_is_known, SpellsRead, name_has_avas, rdns_are}
use Rattle.dir_conf.proofs.SlotLines.{slots_are}
use Rattle.dir_conf.proofs.SlotsInOrder.{in_order_keeps, in_order_rises}

-- what the crate below says of each type that a text defines
abbrev pub Defines : Type 0
Defines = (text : List ℕ) (d : TypeDefinition) → type_definition_of text ≡ Some d → (is_oid d.element.oid ≡ true) × (list_all is_type_name d.element.names ≡ true)

abbrev IsNamed : TypeDefinition → Type 0
IsNamed d = (is_oid d.element.oid ≡ true) × (list_all is_type_name d.element.names ≡ true)

-- what each step keeps, the whole keeps
through_keeps : {S L : Type 0} (P : S → Type 0) (step : S → L → Result S At) → ((s : S) (l : L) (t : S) → P s → step s l ≡ Ok t → P t) → (ls : List L) (s out : S) → P s → through step s ls ≡ Ok out → P out
unfolding through
through_keeps P step keeps [] s out h e = subst P (same_ok s out e) h
through_keeps P step keeps (l ∷ ls) s out h e =
    let k = bind_ok (step s l) (λ next. through step next ls) out e in
    through_keeps P step keeps ls k.0 out (keeps s l k.0 h k.1) k.2

pub record AreTypes (types : List AttributeType) : Type 0 where
  pub good : AllByRecursion IsType types
  pub first : (rest : List AttributeType) × (types ≡ object_class ∷ rest)
  pub fits : (t : ℕ) → t < length types → FitsBehind (take t types) (type_at types t)
  pub apart : IsDistinct share_name types
  pub few : length types ≤ 65535

-- no type that is there has a name of another: of an element's names
apart_from : (types : List AttributeType) (e : Element) (new : AttributeType) → new.oid ≡ e.oid → new.names ≡ e.names → list_any (names_one e) types ≡ false → list_any (λ t. share_name t new) types ≡ false
apart_from types e new oid names h = (λ j. list_any (λ t. list_any (λ n. is_named n t) (oid j ∷ names j)) types) ∙ h

room_left : (n : ℕ) → nat_le 65535 n ≡ false → n < 65535
room_left n h = grind (arith, nat_tests)

abbrev Types : Type 0
Types = Result (List AttributeType) At

abbrev types_ok : List AttributeType → Types
types_ok ts = Ok ts

abbrev types_err : ℕ → ConfFaultKind → Types
types_err line kind = Err (line, kind)

-- what stands behind no fault
pub unrefused : (line : ℕ) (o : Option ConfFaultKind) (answer : Types) (out : List AttributeType) → unless line o answer ≡ Ok out → (o ≡ None) × (answer ≡ Ok out)
unrefused line None answer out e = (refl, e)
unrefused line (Some kind) answer out e = absurd cc

record Passes (types : List AttributeType) (d : TypeDefinition) : Type 0 where
  room : nat_le 65535 (length types) ≡ false
  free : list_any (names_one d.element) types ≡ false
  apart : has_twin d.element.names ≡ false

passes : (types : List AttributeType) (d : TypeDefinition) → refused types d ≡ None → Passes types d
passes types d e = by (nat_le 65535 (length types)) refl (is_taken types d.element) refl e
  where
    by : (a : Bool) → nat_le 65535 (length types) ≡ a → (b : Bool) → is_taken types d.element ≡ b → cond a (Some TooManyTypes) (cond b (Some Twice) (cond d.is_collective (Some Collective) None)) ≡ None → Passes types d
    by true room b taken said = absurd cc
    by false room true taken said = absurd cc
    by false room false taken said = record { room = room; free = (or_parts (list_any (names_one d.element) types) (has_twin d.element.names) taken).0; apart = (or_parts (list_any (names_one d.element) types) (has_twin d.element.names) taken).1 }

-- ---- a type behind others

same_some : {X : Type 0} (x y : X) → ◌≡◌ {A = Option X} (Some x) (Some y) → x ≡ y
same_some x y e = cc

no_name_rule : (f : Family) → is_equality (rules.Plain f) (Some rules.Name) ≡ false
no_name_rule families.Ignore = refl
no_name_rule families.Exact = refl
no_name_rule families.Numeric = refl
no_name_rule families.Telephone = refl
no_name_rule families.Integer = refl
no_name_rule families.Boolean = refl
no_name_rule families.Octet = refl
no_name_rule families.Oid = refl

goes_with_rule : (o : Option Family) (e : Option EqualityRule) → goes_with o e ≡ true → is_some (plain_family e) ≡ true
goes_with_rule None e h = absurd cc
goes_with_rule (Some f) None h = absurd cc
goes_with_rule (Some f) (Some rules.Name) h = absurd (let no = sym (no_name_rule f) ∙ h in cc)
goes_with_rule (Some f) (Some (rules.Plain g)) h = refl

pub above_is : (types : List AttributeType) (name : Option (List ℕ)) (number : Option ℕ) → superior_of types name ≡ Some number → IsAbove types number
above_is types None number e = subst (IsAbove types) (same_some None number e) tt
above_is types (Some name) number e = by (type_of types name) refl e
  where
    by : (o : Option ℕ) → type_of types name ≡ o → option_map (λ t. Some t) o ≡ Some number → IsAbove types number
    by None is said = absurd cc
    by (Some t) is said = subst (IsAbove types) (same_some (Some t) number said) (found_is_known types name t is)

record HasNoFlaw (new : AttributeType) (up : Option AttributeType) : Type 0 where
  agrees : breaks_with new up ≡ false
  syntax : needs_another_syntax new ≡ false

no_flaw : (new : AttributeType) (up : Option AttributeType) → flaw_of new up ≡ None → HasNoFlaw new up
no_flaw new up e = by (breaks_with new up) refl (needs_another_syntax new) refl e
  where
    by : (a : Bool) → breaks_with new up ≡ a → (b : Bool) → needs_another_syntax new ≡ b → cond a (Some Subtype) (cond b (Some RuleSyntax) None) ≡ None → HasNoFlaw new up
    by true agrees b syntax said = absurd cc
    by false agrees true syntax said = absurd cc
    by false agrees false syntax said = record { agrees = agrees; syntax = syntax }

abbrev FitsAt : List AttributeType → ℕ → Type 0
FitsAt types t = FitsBehind (take t types) (type_at types t)

fits_more : (types : List AttributeType) (new : AttributeType) → ((t : ℕ) → t < length types → FitsAt types t) → FitsBehind types new → (t : ℕ) → t < length (types ++ new ∷ []) → FitsAt (types ++ new ∷ []) t
fits_more types new h fit t lt = by (nat_lt t (length types)) refl
  where
    long : length (types ++ new ∷ []) ≡ length types + 1
    long = length-append types (new ∷ [])

    by : (b : Bool) → nat_lt t (length types) ≡ b → FitsAt (types ++ new ∷ []) t
    by true is =
        let below = ltb-true t (length types) is in
        subst (λ (ts : List AttributeType). FitsBehind ts (type_at (types ++ new ∷ []) t)) (sym (take-append-le t types (new ∷ []) (omega (arith, below))))
        (subst (λ (x : AttributeType). FitsBehind (take t types) x) (sym (get_or-append types (new ∷ []) no_type t below)) (h t below))
    by false is =
        let last : length types ≡ t = omega (arith, lt, long, not_below t (length types) is) in
        subst (FitsAt (types ++ new ∷ [])) last
        (subst (λ (ts : List AttributeType). FitsBehind ts (type_at (types ++ new ∷ []) (length types))) (sym (take-append_seam types (new ∷ [])))
        (subst (λ (x : AttributeType). FitsBehind types x) (sym (get_or-append_seam types new [] no_type)) fit))

added_keeps : (types : List AttributeType) (line : ℕ) (d : TypeDefinition) (number : Option (Option ℕ)) (out : List AttributeType) → AreTypes types → Passes types d → IsNamed d → superior_of types d.superior ≡ number → below types line d number ≡ Ok out → AreTypes out
unfolding type_with
added_keeps types line d None out h p is named e = absurd cc
added_keeps types line d (Some number) out h p is named e =
    let new = type_with d number (up_of types number) in
    let k = unrefused line (flaw_of new (up_of types number)) (Ok (types ++ new ∷ [])) out e in
    let whole = no_flaw new (up_of types number) k.0 in
    subst AreTypes (same_ok (types ++ new ∷ []) out k.1) (record {
      good = all_put IsType types new h.good (record { oid = is.0; names = is.1 });
      first = (h.first.0 ++ new ∷ [], ap (λ (ts : List AttributeType). ts ++ new ∷ []) h.first.1);
      fits = fits_more types new h.fits (record {
        superior = above_is types d.superior number named;
        agrees = whole.agrees;
        syntax = whole.syntax;
        ordered = goes_with_rule _ new.equality;
        substrings = goes_with_rule _ new.equality;
        names_apart = p.apart;
      });
      apart = distinct_put share_name types new h.apart (apart_from types d.element new refl refl p.free);
      few = (let l = length-append types (new ∷ []) in let r = room_left (length types) p.room in omega (arith, l, r));
    })

abbrev IsDefined : Option TypeDefinition → Type 0
IsDefined None = Unit {0}
IsDefined (Some d) = IsNamed d

placed_keeps : (types : List AttributeType) (line : ℕ) (d : Option TypeDefinition) (out : List AttributeType) → AreTypes types → IsDefined d → placed types line d ≡ Ok out → AreTypes out
unfolding placed
placed_keeps types line None out h is e = absurd cc
placed_keeps types line (Some d) out h is e =
    elim (is_built_in d.element.oid) as (λ a. cond {A = Types} a (Ok types) (unless line (refused types d) (below types line d (superior_of types d.superior))) ≡ Ok out → AreTypes out) [
      | true ↦ λ said. subst AreTypes (same_ok types out said) h
      | false ↦ λ said.
          let k = unrefused line (refused types d) (below types line d (superior_of types d.superior)) out said in
          added_keeps types line d (superior_of types d.superior) out h (passes types d k.0) is refl k.1
    ] e

below_grows : (types : List AttributeType) (line : ℕ) (d : TypeDefinition) (number : Option (Option ℕ)) (out : List AttributeType) → below types line d number ≡ Ok out → length types ≤ length out
below_grows types line d None out e = absurd cc
below_grows types line d (Some number) out e =
    let new = type_with d number (up_of types number) in
    let k = unrefused line (flaw_of new (up_of types number)) (Ok (types ++ new ∷ [])) out e in
    let long = length-append types (new ∷ []) in
    subst (λ (ts : List AttributeType). length types ≤ length ts) (same_ok (types ++ new ∷ []) out k.1) (omega (arith, long))

-- no type is taken away
placed_grows : (types : List AttributeType) (line : ℕ) (d : Option TypeDefinition) (out : List AttributeType) → placed types line d ≡ Ok out → length types ≤ length out
unfolding placed
placed_grows types line None out e = absurd cc
placed_grows types line (Some d) out e =
    elim (is_built_in d.element.oid) as (λ a. cond {A = Types} a (Ok types) (unless line (refused types d) (below types line d (superior_of types d.superior))) ≡ Ok out → length types ≤ length out) [
      | true ↦ λ said. subst (λ (ts : List AttributeType). length types ≤ length ts) (same_ok types out said) (omega arith)
      | false ↦ λ said.
          let k = unrefused line (refused types d) (below types line d (superior_of types d.superior)) out said in
          below_grows types line d (superior_of types d.superior) out k.1
    ] e

either : {R : Type 0} (Q : R → Type 0) (b : Bool) (x y : R) → Q x → Q y → Q (cond b x y)
either Q true x y h k = h
either Q false x y h k = k

defined : Defines → (text : List ℕ) → IsDefined (type_definition_of text)
defined law text = by (type_definition_of text) refl
  where
    by : (o : Option TypeDefinition) → type_definition_of text ≡ o → IsDefined o
    by None is = tt
    by (Some d) is = law text d is

abbrev Outcome : Type 0
Outcome = Result Defined At

abbrev outcome_ok : Defined → Outcome
outcome_ok s = Ok s

abbrev outcome_err : ℕ → ConfFaultKind → Outcome
outcome_err line kind = Err (line, kind)

pub record Holds (s : Defined) : Type 0 where
  pub types : AreTypes s.types
  pub classes : AreClasses s.types s.classes

types_put : (s : Defined) (r : Types) (out : Defined) → ((ts : List AttributeType) → r ≡ Ok ts → Holds (record s { types = ts })) → with_types s r ≡ Ok out → Holds out
types_put s (Ok ts) out keeps e = subst Holds (same_ok (record s { types = ts }) out e) (keeps ts refl)
types_put s (Err f) out keeps e = absurd cc

class_put : (s : Defined) (line : ℕ) (d : Option ClassDefinition) (out : Defined) → Holds s → class_placed s line d ≡ Ok out → Holds out
class_put s line d out h e =
    let k = class_keeps s line d out h.classes e in
    subst Holds k.2 (record { types = h.types; classes = k.1 })

line_keeps : Defines → (s : Defined) (l : Line) (out : Defined) → Holds s → definition_line s l ≡ Ok out → Holds out
unfolding definition_line
line_keeps law s l out h e =
    let Keeps : Outcome → Type 0 = λ r. r ≡ Ok out → Holds out in
    let same : Keeps (outcome_ok s) = λ said. subst Holds (same_ok s out said) h in
    let classes : Outcome = class_placed s l.number (class_definition_of (after_word l.text)) in
    let types : Outcome = with_types s (placed s.types l.number (type_definition_of (after_word l.text))) in
    let last : Outcome = cond (is_first (codes "objectclass") l.text) classes (outcome_err l.number Keyword) in
    let defs : Outcome = cond (is_first (codes "attributetype") l.text) types last in
    let words : Outcome = cond (is_first (codes "suffix") l.text || is_first (codes "index") l.text) (outcome_ok s) defs in
    let blanks : Outcome = cond (begins_blank l.text) (outcome_err l.number Form) words in
    either Keeps (says_nothing l.text) (outcome_ok s) blanks same
    (either Keeps (begins_blank l.text) (outcome_err l.number Form) words (λ said. absurd cc)
    (either Keeps (is_first (codes "suffix") l.text || is_first (codes "index") l.text) (outcome_ok s) defs same
    (either Keeps (is_first (codes "attributetype") l.text) types last
    (types_put s (placed s.types l.number (type_definition_of (after_word l.text))) out (λ ts said. record {
      types = placed_keeps s.types l.number (type_definition_of (after_word l.text)) ts h.types (defined law (after_word l.text)) said;
      classes = with_more_types s.types ts s.classes (placed_grows s.types l.number (type_definition_of (after_word l.text)) ts said) h.classes;
    }))
    (either Keeps (is_first (codes "objectclass") l.text) classes (outcome_err l.number Keyword)
    (class_put s l.number (class_definition_of (after_word l.text)) out h)
    (λ said. absurd cc))))) e

fits_one : (t : ℕ) → t < length (object_class ∷ []) → FitsAt (object_class ∷ []) t
fits_one zero lt = record { superior = tt; agrees = refl; syntax = refl; ordered = λ h. absurd cc; substrings = λ h. absurd cc; names_apart = refl }
fits_one (suc t) lt = absurd (omega (arith, lt))

object_class_is : AreTypes (object_class ∷ [])
unfolding IsDistinct are_groups
object_class_is = record {
  good = (record { oid = refl; names = refl }, tt);
  first = ([], refl);
  fits = fits_one;
  apart = (tt, tt);
  few = lit≤ tt;
}

pub all_hold : Defines → (ls : List Line) (out : Defined) → defined_by built_in ls ≡ Ok out → Holds out
all_hold law ls out e = through_keeps Holds definition_line (line_keeps law) ls built_in out (record { types = object_class_is; classes = built_in_are }) e

-- ---- the suffix

abbrev pub IsSuffix : List AttributeType → Option (List TypedRdn) → Type 0
IsSuffix types None = Unit {0}
IsSuffix types (Some rs) = AllByRecursion (IsRdn types) rs × (nat_lt 0 (length rs) ≡ true)

some_is : (types : List AttributeType) (line : ℕ) (r : Result (List TypedRdn) Code) (out : Option (List TypedRdn)) → ((rs : List TypedRdn) → r ≡ Ok rs → AllByRecursion (IsRdn types) rs) → some_rdns line r ≡ Ok out → IsSuffix types out
some_is types line (Ok []) out good e = absurd cc
some_is types line (Ok (r ∷ rs)) out good e = subst (IsSuffix types) (same_ok (Some (r ∷ rs)) out e) (good (r ∷ rs) refl, lt-ltb 0 (length (r ∷ rs)) (omega arith))
some_is types line (Err c) out good e = absurd cc

typed_good : SpellsRead → (types : List AttributeType) (text : List ℕ) (rs : List TypedRdn) → rdns_in types text ≡ Ok rs → AllByRecursion (IsRdn types) rs
unfolding rdns_in
typed_good read types text rs e =
    let k = bind_ok (name_in text) (typed types) rs e in
    rdns_are types k.0 rs (name_has_avas read text k.0 k.1) k.2

-- ---- the suffix and the slots

pub record IsFound (types : List AttributeType) (f : Found) : Type 0 where
  pub suffix : IsSuffix types f.suffix
  pub slots : AllByRecursion (IsSlot types) f.slots

abbrev Later : Type 0
Later = Result Found At

abbrev found_ok : Found → Later
found_ok f = Ok f

abbrev found_err : ℕ → ConfFaultKind → Later
found_err line kind = Err (line, kind)

suffix_put : (types : List AttributeType) (f : Found) (r : Result (Option (List TypedRdn)) At) (out : Found) → IsFound types f → ((o : Option (List TypedRdn)) → r ≡ Ok o → IsSuffix types o) → with_suffix f r ≡ Ok out → IsFound types out
suffix_put types f r out h good e =
    let k = bind_ok r (λ o. found_ok (record f { suffix = o })) out e in
    subst (IsFound types) (same_ok (record f { suffix = k.0 }) out k.2) (record { suffix = good k.0 k.1; slots = h.slots })

slots_put : (types : List AttributeType) (f : Found) (r : Result (List Slot) At) (out : Found) → IsFound types f → ((ss : List Slot) → r ≡ Ok ss → AllByRecursion (IsSlot types) ss) → with_slots f r ≡ Ok out → IsFound types out
slots_put types f r out h good e =
    let k = bind_ok r (λ ss. found_ok (record f { slots = f.slots ++ ss })) out e in
    subst (IsFound types) (same_ok (record f { slots = f.slots ++ k.0 }) out k.2) (record { suffix = h.suffix; slots = all_append (IsSlot types) f.slots k.0 h.slots (good k.0 k.1) })

later_line_keeps : SpellsRead → (types : List AttributeType) (f : Found) (l : Line) (out : Found) → IsFound types f → later_line types f l ≡ Ok out → IsFound types out
unfolding later_line
later_line_keeps read types f l out h e =
    let Keeps : Later → Type 0 = λ r. r ≡ Ok out → IsFound types out in
    let same : Keeps (found_ok f) = λ said. subst (IsFound types) (same_ok f out said) h in
    let new : Later = with_suffix f (suffix_at types l.number (suffix_text l.text)) in
    let one : Later = cond (is_some f.suffix) (found_err l.number Suffix) new in
    let words : Later = cond (is_first (codes "suffix") l.text) one (found_ok f) in
    let slots : Later = with_slots f (slots_in types l.number (after_word l.text)) in
    let indexes : Later = cond (is_first (codes "index") l.text) slots words in
    either Keeps (says_nothing l.text) (found_ok f) indexes same
    (either Keeps (is_first (codes "index") l.text) slots words
    (slots_put types f (slots_in types l.number (after_word l.text)) out h (slots_are types l.number (after_word l.text)))
    (either Keeps (is_first (codes "suffix") l.text) one (found_ok f)
    (either Keeps (is_some f.suffix) (found_err l.number Suffix) new (λ said. absurd cc)
    (suffix_put types f (suffix_at types l.number (suffix_text l.text)) out h
    (λ o is. some_is types l.number (rdns_in types (suffix_text l.text)) o (typed_good read types (suffix_text l.text)) is)))
    same)) e

pub found_is : SpellsRead → (types : List AttributeType) (ls : List Line) (out : Found) → found_in types none_found ls ≡ Ok out → IsFound types out
found_is read types ls out e = through_keeps (IsFound types) (later_line types) (later_line_keeps read types) ls none_found out (record { suffix = tt; slots = tt }) e

classes_some : (classes rest : List ObjectClass) → classes ≡ top ∷ extensible_object ∷ rest → nat_lt 1 (length classes) ≡ true
classes_some classes rest e = ap (λ (cs : List ObjectClass). nat_lt 1 (length cs)) e ∙ lt-ltb 1 (length (top ∷ extensible_object ∷ rest)) (omega arith)

pub rules_are : (s : Defined) (suffix : List TypedRdn) (said : List Slot) → Holds s → IsSuffix s.types (Some suffix) → AllByRecursion (IsSlot s.types) said → IsConf (record { types = s.types; suffix = suffix; slots = in_order (length s.types) said; classes = s.classes })
rules_are s suffix said h k slots = record {
  types = h.types.good;
  first = ap (λ (ts : List AttributeType). type_at ts 0) h.types.first.1;
  fits = h.types.fits;
  types_apart = h.types.apart;
  types_few = h.types.few;
  suffix = k.0;
  suffix_some = k.1;
  slots = in_order_keeps (IsSlot s.types) (length s.types) said slots;
  slots_rise = in_order_rises (length s.types) said;
  class_first = ap (λ (cs : List ObjectClass). class_at cs 0) h.classes.first.1;
  class_second = ap (λ (cs : List ObjectClass). class_at cs 1) h.classes.first.1;
  classes_some = classes_some s.classes h.classes.first.0 h.classes.first.1;
  classes = h.classes.fits;
  classes_apart = h.classes.apart;
}

-- what is defined and found is what the whole comes from
pub comes_from : (ls : List Line) (s : Defined) (f : Found) → defined_by built_in ls ≡ Ok s → found_in s.types none_found ls ≡ Ok f → conf_on_lines ls ≡ rules_of s f.slots f.suffix
comes_from ls s f defined found =
    ap (λ (r : Outcome). r >>= λ d. (found_in d.types none_found ls >>= λ g. rules_of d g.slots g.suffix)) defined
    ∙ ap (λ (r : Later). r >>= λ g. rules_of s g.slots g.suffix) found

pub conf_is : (ls : List Line) (s : Defined) (f : Found) (suffix : List TypedRdn) → defined_by built_in ls ≡ Ok s → found_in s.types none_found ls ≡ Ok f
    → f.suffix ≡ Some suffix → conf_on_lines ls ≡ Ok (record { types = s.types; suffix = suffix; slots = in_order (length s.types) f.slots; classes = s.classes })
conf_is ls s f suffix defined found some = comes_from ls s f defined found ∙ ap (λ (o : Option (List TypedRdn)). rules_of s f.slots o) some
