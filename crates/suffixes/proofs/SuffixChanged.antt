-- A text of a configuration with another name in its suffix line says the same with that suffix, or is refused for it.
use Rattle.std.proofs.Common.{◌≡◌, ℕ, Bool, true, false, cond, ◌||◌, List, [], ◌∷◌, ◌++◌, length, Option, Some, None, Result, Ok, Err, codes, refl, sym, ap, subst, ◌∙◌}
use Rattle.std.specs.Prelude.{is_some}
use Rattle.std.proofs.lemmas.Bool.{false_from_ne_true}
use Rattle.base.specs.Answers.{◌>>=◌, through}
use Rattle.base.proofs.Bound.{bind_ok, same_ok}
use Rattle.definitions.specs.declared.lines.Line.{Line}
use Rattle.definitions.specs.Words.{after_word}
use Rattle.definitions.specs.Lines.{lines_of}
use Rattle.values.specs.declared.types.AttributeType.{AttributeType}
use Rattle.schema.specs.declared.code.Code.{Code}
use Rattle.schema.specs.declared.slots.Slot.{Slot}
use Rattle.schema.proofs.Found.{SpellsRead}
use Rattle.schema.specs.Rdns.{TypedRdn}
use Rattle.schema.specs.Values.{rdns_in}
use Rattle.schema.specs.Conf.{Conf, IsConf}
use Rattle.dir_conf.specs.declared.conf_fault.ConfFaultKind.TheVariants.{Suffix}
use Rattle.dir_conf.specs.IndexLines.{slots_in, in_order}
use Rattle.dir_conf.specs.Configurations.{At, says_nothing, is_first, Defined, built_in, definition_line, defined_by, some_rdns, suffix_at, suffix_text, Found, none_found, with_suffix, with_slots, later_line, found_in, rules_of, conf_of}
use Rattle.dir_conf.specs.FaultyLines.{has_suffix}
use Rattle.dir_conf.proofs.FirstStops.{same_err, fails}
use Rattle.dir_conf.proofs.LineWords.{suffix_word, no_other, says_some}
use Rattle.dir_conf.proofs.Whole.{Defines, IsSuffix, all_hold, found_is, rules_are, conf_is}
use Rattle.dir_conf.proofs.LaterFaults.{Later, later_by, later_is, suffix_behind, sees}
use Rattle.suffixes.specs.Configurations as moved
use Rattle.suffixes.specs.Configurations.{suffix_in, conf_under}
use Rattle.suffixes.specs.SuffixLines.{is_suffix_line, texts_of, ChangesSuffix, IsRefusedAtSuffix, SaysOrIsRefused}
use Rattle.suffixes.proofs.LineNumbers.{kept_indexes, same_head, same_tail, kept_defined, kept_found}

-- ---- steps through lines above one, and below it

module _ {S L F : Type 0} (step : S → L → Result S F) where
  through_both : (front bs : List L) (s : S) → through step s (front ++ bs) ≡ (through step s front >>= λ next. through step next bs)
  unfolding through
  through_both [] bs s = refl
  through_both (a ∷ front) bs s = by (step s a) (through_both front bs)
    where
      by : (r : Result S F) → ((next : S) → through step next (front ++ bs) ≡ (through step next front >>= λ t. through step t bs))
          → (r >>= λ next. through step next (front ++ bs)) ≡ ((r >>= λ next. through step next front) >>= λ t. through step t bs)
      by (Ok next) rest = rest next
      by (Err e) rest = refl

  record Passes (s : S) (above : List L) (l : L) (below : List L) (end : S) : Type 0 where
    before : S
    behind : S
    above_is : through step s above ≡ Ok before
    here : step before l ≡ Ok behind
    below_is : through step behind below ≡ Ok end

  passes : (s : S) (above : List L) (l : L) (below : List L) (end : S) → through step s (above ++ l ∷ below) ≡ Ok end → Passes s above l below end
  unfolding through
  passes s above l below end e =
      let k = bind_ok (through step s above) (λ next. through step next (l ∷ below)) end (sym (through_both above (l ∷ below) s) ∙ e) in
      let j = bind_ok (step k.0 l) (λ next. through step next below) end k.2 in
      record { before = k.0; behind = j.0; above_is = k.1; here = j.1; below_is = j.2 }

  passes_on : (s : S) (above : List L) (l : L) (below : List L) (before behind : S) → through step s above ≡ Ok before → step before l ≡ Ok behind → through step s (above ++ l ∷ below) ≡ through step behind below
  unfolding through
  passes_on s above l below before behind above_is here =
      through_both above (l ∷ below) s
      ∙ ap (λ (r : Result S F). r >>= λ next. through step next (l ∷ below)) above_is
      ∙ ap (λ (r : Result S F). r >>= λ next. through step next below) here

-- ---- lines that differ in a suffix line

record Cut (ls : List Line) (above : List (List ℕ)) (text : List ℕ) (below : List (List ℕ)) : Type 0 where
  front : List Line
  at : Line
  back : List Line
  is : ls ≡ front ++ at ∷ back
  front_says : texts_of front ≡ above
  at_says : at.text ≡ text
  back_says : texts_of back ≡ below

cut : (ls : List Line) (above : List (List ℕ)) (text : List ℕ) (below : List (List ℕ)) → texts_of ls ≡ above ++ text ∷ below → Cut ls above text below
cut [] [] text below e = absurd cc
cut [] (a ∷ above) text below e = absurd cc
cut (l ∷ ls) [] text below e = record {
  front = [];
  at = l;
  back = ls;
  is = refl;
  front_says = refl;
  at_says = same_head l.text text (texts_of ls) below e;
  back_says = same_tail l.text text (texts_of ls) below e;
}
cut (l ∷ ls) (a ∷ above) text below e =
    let k = cut ls above text below (same_tail l.text a (texts_of ls) (above ++ text ∷ below) e) in
    record {
      front = l ∷ k.front;
      at = k.at;
      back = k.back;
      is = ap (λ (xs : List Line). l ∷ xs) k.is;
      front_says = λ i. same_head l.text a (texts_of ls) (above ++ text ∷ below) e i ∷ k.front_says i;
      at_says = k.at_says;
      back_says = k.back_says;
    }

record AreChanged (ls ks : List Line) (name : List ℕ) : Type 0 where
  old_above : List Line
  old_at : Line
  old_below : List Line
  new_above : List Line
  new_at : Line
  new_below : List Line
  old_is : ls ≡ old_above ++ old_at ∷ old_below
  new_is : ks ≡ new_above ++ new_at ∷ new_below
  same_above : texts_of old_above ≡ texts_of new_above
  same_below : texts_of old_below ≡ texts_of new_below
  old_suffix : is_suffix_line old_at.text ≡ true
  new_suffix : is_suffix_line new_at.text ≡ true
  says : suffix_text new_at.text ≡ name

are_changed : (old new name : List ℕ) → ChangesSuffix old new name → AreChanged (lines_of old) (lines_of new) name
are_changed old new name h =
    let o = cut (lines_of old) h.above h.old_line h.below h.old_lines in
    let n = cut (lines_of new) h.above h.new_line h.below h.new_lines in
    record {
      old_above = o.front;
      old_at = o.at;
      old_below = o.back;
      new_above = n.front;
      new_at = n.at;
      new_below = n.back;
      old_is = o.is;
      new_is = n.is;
      same_above = o.front_says ∙ sym n.front_says;
      same_below = o.back_says ∙ sym n.back_says;
      old_suffix = ap is_suffix_line o.at_says ∙ h.old_is_suffix;
      new_suffix = ap is_suffix_line n.at_says ∙ h.new_is_suffix;
      says = ap suffix_text n.at_says ∙ h.says_name;
    }

-- ---- the first pass

passed_over : (s : Defined) (l : Line) → is_suffix_line l.text ≡ true → definition_line s l ≡ Ok s
unfolding definition_line
passed_over s l e =
    let some = says_some (codes "suffix") suffix_word l.text e in
    let something = some.0 in
    let no_blank = some.1 in
    rw (something, no_blank, e) refl

same_defined : (ls ks : List Line) (name : List ℕ) → AreChanged ls ks name → (s : Defined) → defined_by built_in ls ≡ Ok s → defined_by built_in ks ≡ Ok s
same_defined ls ks name h s e =
    let p = passes definition_line built_in h.old_above h.old_at h.old_below s (ap (λ (xs : List Line). defined_by built_in xs) (sym h.old_is) ∙ e) in
    let same : p.before ≡ p.behind = same_ok {F = At} p.before p.behind (sym (passed_over p.before h.old_at h.old_suffix) ∙ p.here) in
    ap (λ (xs : List Line). defined_by built_in xs) h.new_is
    ∙ passes_on definition_line built_in h.new_above h.new_at h.new_below p.before p.before ((kept_defined h.old_above h.new_above h.same_above built_in).same p.before p.above_is) (passed_over p.before h.new_at h.new_suffix)
    ∙ (kept_defined h.old_below h.new_below h.same_below p.before).same s (ap (λ (t : Defined). defined_by t h.old_below) same ∙ p.below_is)

-- ---- the names of suffix lines

abbrev Rdns : Type 0
Rdns = Result (List TypedRdn) Code

some_suffix : (line : ℕ) (r : Rdns) (o : Option (List TypedRdn)) → some_rdns line r ≡ Ok o → (rdns : List TypedRdn) × (o ≡ Some rdns)
some_suffix line (Ok []) o e = absurd cc
some_suffix line (Ok (r ∷ rs)) o e = (r ∷ rs, sym (same_ok {F = At} (Some (r ∷ rs)) o e))
some_suffix line (Err code) o e = absurd cc

abbrev some_found : List TypedRdn → Result (Option (List TypedRdn)) At
some_found rdns = Ok (Some rdns)

name_read : (line : ℕ) (r : Rdns) (rdns : List TypedRdn) → (r >>= moved.some_rdns) ≡ Ok rdns → some_rdns line r ≡ Ok (Some rdns)
name_read line (Ok []) rdns e = absurd cc
name_read line (Ok (r ∷ rs)) rdns e = ap some_found (same_ok {F = Code} (r ∷ rs) rdns e)
name_read line (Err code) rdns e = absurd cc

name_refused : (line : ℕ) (r : Rdns) (code : Code) → (r >>= moved.some_rdns) ≡ Err code → some_rdns line r ≡ Err (line, Suffix)
name_refused line (Ok []) code e = refl
name_refused line (Ok (r ∷ rs)) code e = absurd cc
name_refused line (Err other) code e = refl

-- ---- the second pass

abbrev named : List TypedRdn → Found → Found
named rdns f = record f { suffix = Some rdns }

abbrev fine : Found → Later
fine f = Ok f

module _ (types : List AttributeType) where
  -- by whether there is a suffix above
  abbrev suffix_by : Found → Line → Bool → Later
  suffix_by f l there = cond there (Err (l.number, Suffix)) (with_suffix f (suffix_at types l.number (suffix_text l.text)))

  suffix_step : (f : Found) (l : Line) → is_suffix_line l.text ≡ true → later_line types f l ≡ suffix_by f l (is_some f.suffix)
  unfolding later_line
  suffix_step f l e =
      let something = (says_some (codes "suffix") suffix_word l.text e).0 in
      let no_index = no_other (codes "suffix") (codes "index") l.text refl e in
      rw (something, no_index, e) refl

  record Says (f g : Found) : Type 0 where
    none : is_some f.suffix ≡ false
    rdns : List TypedRdn
    is : g ≡ named rdns f

  old_says : (f : Found) (l : Line) (g : Found) → is_suffix_line l.text ≡ true → later_line types f l ≡ Ok g → Says f g
  old_says f l g e h = by (is_some f.suffix) refl (sym (suffix_step f l e) ∙ h)
    where
      by : (there : Bool) → is_some f.suffix ≡ there → suffix_by f l there ≡ Ok g → Says f g
      by true t h = absurd cc
      by false t h =
          let k = bind_ok (suffix_at types l.number (suffix_text l.text)) (λ suffix. Ok (record f { suffix = suffix })) g h in
          let o = some_suffix l.number (rdns_in types (suffix_text l.text)) k.0 k.1 in
          record { none = t; rdns = o.0; is = sym (same_ok {F = At} (record f { suffix = k.0 }) g k.2) ∙ ap (λ (suffix : Option (List TypedRdn)). record f { suffix = suffix }) o.1 }

  module _ (f : Found) (l : Line) (name : List ℕ) (none : is_some f.suffix ≡ false) (suffix : is_suffix_line l.text ≡ true) (says : suffix_text l.text ≡ name) where
    new_step : later_line types f l ≡ with_suffix f (some_rdns l.number (rdns_in types name))
    new_step = suffix_step f l suffix ∙ ap (suffix_by f l) none ∙ ap (λ (text : List ℕ). with_suffix f (suffix_at types l.number text)) says

    new_says : (rdns : List TypedRdn) → suffix_in types name ≡ Ok rdns → later_line types f l ≡ Ok (named rdns f)
    unfolding suffix_in
    new_says rdns e = new_step ∙ ap (with_suffix f) (name_read l.number (rdns_in types name) rdns e)

    new_fails : (code : Code) → suffix_in types name ≡ Err code → later_line types f l ≡ Err (l.number, Suffix)
    unfolding suffix_in
    new_fails code e = new_step ∙ ap (with_suffix f) (name_refused l.number (rdns_in types name) code e)

  -- a line below the suffix line
  module _ (f g : Found) (t : is_some f.suffix ≡ true) where
    not_suffix : (l : Line) → later_line types f l ≡ Ok g → is_suffix_line l.text ≡ false
    not_suffix l h = false_from_ne_true (is_suffix_line l.text) (λ e. absurd (
        let both : ◌≡◌ {A = Later} (Ok g) (Err (l.number, Suffix)) = sym h ∙ suffix_step f l e ∙ ap (suffix_by f l) t in cc))

    said_below : (l k : Line) → l.text ≡ k.text → (rdns : List TypedRdn) → later_line types f l ≡ Ok g → later_line types (named rdns f) k ≡ Ok (named rdns g)
    said_below l k same rdns h =
        later_is types (named rdns f) k
        ∙ by (says_nothing k.text) (is_first (codes "index") k.text) (is_first (codes "suffix") k.text)
        (sym (later_is types f l ∙ (λ j. later_by types f l (says_nothing (same j)) (is_first (codes "index") (same j)) (is_first (codes "suffix") (same j)) (t j))) ∙ h)
      where
        by : (nothing index suffix : Bool) → later_by types f l nothing index suffix true ≡ Ok g → later_by types (named rdns f) k nothing index suffix true ≡ Ok (named rdns g)
        by true index suffix h = ap (λ (x : Found). fine (named rdns x)) (same_ok {F = At} f g h)
        by false true suffix h =
            let j = bind_ok (slots_in types l.number (after_word l.text)) (λ slots. Ok (record f { slots = f.slots ++ slots })) g h in
            ap (λ (text : List ℕ). with_slots (named rdns f) (slots_in types k.number (after_word text))) (sym same)
            ∙ ap (with_slots (named rdns f)) ((kept_indexes l.number k.number types (after_word l.text)).same j.0 j.1)
            ∙ ap (λ (x : Found). fine (named rdns x)) (same_ok {F = At} (record f { slots = f.slots ++ j.0 }) g j.2)
        by false false true h = absurd cc
        by false false false h = ap (λ (x : Found). fine (named rdns x)) (same_ok {F = At} f g h)

  some_behind : (f g : Found) (l : Line) → is_some f.suffix ≡ true → later_line types f l ≡ Ok g → is_some g.suffix ≡ true
  some_behind f g l t e = suffix_behind types f l g e ∙ ap (λ (b : Bool). b || is_first (codes "suffix") l.text) t

  all_below : (ls ks : List Line) → texts_of ls ≡ texts_of ks → (rdns : List TypedRdn) (f g : Found) → is_some f.suffix ≡ true → found_in types f ls ≡ Ok g → found_in types (named rdns f) ks ≡ Ok (named rdns g)
  unfolding through
  all_below [] [] same rdns f g t e = ap (λ (x : Found). fine (named rdns x)) (same_ok {F = At} f g e)
  all_below [] (k ∷ ks) same rdns f g t e = absurd cc
  all_below (l ∷ ls) [] same rdns f g t e = absurd cc
  all_below (l ∷ ls) (k ∷ ks) same rdns f g t e =
      let j = bind_ok (later_line types f l) (λ next. through (later_line types) next ls) g e in
      ap (λ (r : Later). r >>= λ next. through (later_line types) next ks) (said_below f j.0 t l k (same_head l.text k.text (texts_of ls) (texts_of ks) same) rdns j.1)
      ∙ all_below ls ks (same_tail l.text k.text (texts_of ls) (texts_of ks) same) rdns j.0 g (some_behind f j.0 l t j.1) j.2

  none_below : (ls : List Line) (f g : Found) → is_some f.suffix ≡ true → found_in types f ls ≡ Ok g → has_suffix ls ≡ false
  unfolding through
  none_below [] f g t e = refl
  none_below (l ∷ ls) f g t e =
      let j = bind_ok (later_line types f l) (λ next. through (later_line types) next ls) g e in
      (λ i. not_suffix f j.0 t l j.1 i || none_below ls j.0 g (some_behind f j.0 l t j.1) j.2 i)

-- what lines with another suffix line are seen to say
record IsFound (types : List AttributeType) (above : List Line) (at : Line) (below : List Line) (g : Found) : Type 0 where
  before : Found
  none : is_some before.suffix ≡ false
  above_is : found_in types none_found above ≡ Ok before
  below_is : (rdns : List TypedRdn) → found_in types (named rdns before) below ≡ Ok (named rdns g)
  none_above : has_suffix above ≡ false
  none_below : has_suffix below ≡ false

module _ (ls ks : List Line) (name : List ℕ) (h : AreChanged ls ks name) (types : List AttributeType) (g : Found) (e : found_in types none_found ls ≡ Ok g) where
  is_found : IsFound types h.new_above h.new_at h.new_below g
  is_found =
      let p = passes (later_line types) none_found h.old_above h.old_at h.old_below g (ap (λ (xs : List Line). found_in types none_found xs) (sym h.old_is) ∙ e) in
      let s = old_says types p.before h.old_at p.behind h.old_suffix p.here in
      let some : is_some p.behind.suffix ≡ true = ap (λ (x : Found). is_some x.suffix) s.is in
      let above : found_in types none_found h.new_above ≡ Ok p.before = (kept_found types h.old_above h.new_above h.same_above none_found).same p.before p.above_is in
      let below : found_in types p.behind h.new_below ≡ Ok g = (kept_found types h.old_below h.new_below h.same_below p.behind).same g p.below_is in
      record {
        before = p.before;
        none = s.none;
        above_is = above;
        below_is = λ rdns. ap (λ (x : Found). found_in types (named rdns x) h.new_below) (sym s.is) ∙ all_below types h.new_below h.new_below refl rdns p.behind g some below;
        none_above = sym (sees types h.new_above p.before above) ∙ s.none;
        none_below = none_below types h.new_below p.behind g some below;
      }

  found_new : (rdns : List TypedRdn) → suffix_in types name ≡ Ok rdns → found_in types none_found ks ≡ Ok (named rdns g)
  found_new rdns said =
      let f = is_found in
      ap (λ (xs : List Line). found_in types none_found xs) h.new_is
      ∙ passes_on (later_line types) none_found h.new_above h.new_at h.new_below f.before (named rdns f.before) f.above_is (new_says types f.before h.new_at name f.none h.new_suffix h.says rdns said)
      ∙ f.below_is rdns

  found_refused : (code : Code) → suffix_in types name ≡ Err code → found_in types none_found ks ≡ Err (h.new_at.number, Suffix)
  found_refused code said =
      let f = is_found in
      fails (later_line types) ks h.new_above h.new_at h.new_below none_found f.before (h.new_at.number, Suffix) h.new_is f.above_is (new_fails types f.before h.new_at name f.none h.new_suffix h.says code said)

-- ---- the whole text

abbrev conf_with : Defined → List Slot → List TypedRdn → Conf
conf_with s slots suffix = record { types = s.types; suffix = suffix; slots = in_order (length s.types) slots; classes = s.classes }

rules_give : (s : Defined) (slots : List Slot) (suffix : Option (List TypedRdn)) (c : Conf) → rules_of s slots suffix ≡ Ok c → (rdns : List TypedRdn) × (suffix ≡ Some rdns) × (conf_with s slots rdns ≡ c)
rules_give s slots None c e = absurd cc
rules_give s slots (Some rdns) c e = (rdns, refl, same_ok {F = At} (conf_with s slots rdns) c e)

-- what lines define and say that say a configuration
record IsRead (ls : List Line) (c : Conf) : Type 0 where
  defined : Defined
  defined_is : defined_by built_in ls ≡ Ok defined
  found : Found
  found_is : found_in defined.types none_found ls ≡ Ok found
  rdns : List TypedRdn
  suffix_is : found.suffix ≡ Some rdns
  is : conf_with defined found.slots rdns ≡ c

is_read : (text : List ℕ) (c : Conf) → conf_of text ≡ Ok c → IsRead (lines_of text) c
unfolding conf_of
is_read text c e =
    let ls = lines_of text in
    let k = bind_ok (defined_by built_in ls) (λ s. found_in s.types none_found ls >>= λ found. rules_of s found.slots found.suffix) c e in
    let j = bind_ok (found_in k.0.types none_found ls) (λ found. rules_of k.0 found.slots found.suffix) c k.2 in
    let r = rules_give k.0 j.0.slots j.0.suffix c j.2 in
    record { defined = k.0; defined_is = k.1; found = j.0; found_is = j.1; rdns = r.0; suffix_is = r.1; is = r.2 }

-- it keeps the rules of one
pub is_conf : Defines → SpellsRead → (text : List ℕ) (c : Conf) → conf_of text ≡ Ok c → IsConf c
is_conf law spells text c e =
    let r = is_read text c e in
    let f = found_is spells r.defined.types (lines_of text) r.found r.found_is in
    subst (λ (x : Conf). IsConf x) r.is
    (rules_are r.defined r.rdns r.found.slots (all_hold law (lines_of text) r.defined r.defined_is) (subst (IsSuffix r.defined.types) r.suffix_is f.suffix) f.slots)

-- ---- the whole text, with another suffix line

abbrev conf_ok : Conf → Result Conf At
conf_ok c = Ok c

abbrev conf_fine : Conf → Result Conf Code
conf_fine c = Ok c

abbrev refused : Code → Rdns
refused code = Err code

code_of : (r : Rdns) (f : List TypedRdn → Conf) (code : Code) → (r >>= λ rdns. Ok (f rdns)) ≡ Err code → r ≡ Err code
code_of (Ok rdns) f code e = absurd cc
code_of (Err other) f code e = ap refused (same_err {A = Conf} other code e)

module _ (old new name : List ℕ) (h : ChangesSuffix old new name) (c : Conf) (e : conf_of old ≡ Ok c) where
  changed : AreChanged (lines_of old) (lines_of new) name
  changed = are_changed old new name h

  read : IsRead (lines_of old) c
  read = is_read old c e

  defined_new : defined_by built_in (lines_of new) ≡ Ok read.defined
  defined_new = same_defined (lines_of old) (lines_of new) name changed read.defined read.defined_is

  says_with_name : (d : Conf) → conf_under c name ≡ Ok d → conf_of new ≡ Ok d
  unfolding conf_of
  says_with_name d under =
      let k = bind_ok (suffix_in c.types name) (λ rdns. Ok (moved.with_suffix c rdns)) d under in
      let said : suffix_in read.defined.types name ≡ Ok k.0 = ap (λ (x : Conf). suffix_in x.types name) read.is ∙ k.1 in
      conf_is (lines_of new) read.defined (named k.0 read.found) k.0 defined_new (found_new (lines_of old) (lines_of new) name changed read.defined.types read.found read.found_is k.0 said) refl
      ∙ ap (λ (x : Conf). conf_ok (moved.with_suffix x k.0)) read.is
      ∙ ap conf_ok (same_ok {F = Code} (moved.with_suffix c k.0) d k.2)

  refused_at_suffix : (code : Code) → conf_under c name ≡ Err code → IsRefusedAtSuffix new
  unfolding conf_of
  refused_at_suffix code under =
      let said : suffix_in read.defined.types name ≡ Err code = ap (λ (x : Conf). suffix_in x.types name) read.is ∙ code_of (suffix_in c.types name) (moved.with_suffix c) code under in
      let f = is_found (lines_of old) (lines_of new) name changed read.defined.types read.found read.found_is in
      record {
        above = changed.new_above;
        bad = changed.new_at;
        below = changed.new_below;
        lines_are = changed.new_is;
        is_suffix = changed.new_suffix;
        none_above = f.none_above;
        none_below = f.none_below;
        fault_is =
            ap (λ (r : Result Defined At). r >>= λ s. (found_in s.types none_found (lines_of new) >>= λ g. rules_of s g.slots g.suffix)) defined_new
            ∙ ap (λ (r : Later). r >>= λ g. rules_of read.defined g.slots g.suffix) (found_refused (lines_of old) (lines_of new) name changed read.defined.types read.found read.found_is code said);
      }

  pub says_only_with_name : (d : Conf) → conf_of new ≡ Ok d → conf_under c name ≡ Ok d
  says_only_with_name d said = by (conf_under c name) refl
    where
      by : (r : Result Conf Code) → conf_under c name ≡ r → r ≡ Ok d
      by (Ok x) under = ap (λ (y : Conf). conf_fine y) (same_ok {F = At} x d (sym (says_with_name x under) ∙ said))
      by (Err code) under = absurd (let both : ◌≡◌ {A = Result Conf At} (Ok d) (Err ((refused_at_suffix code under).bad.number, Suffix)) = sym said ∙ (refused_at_suffix code under).fault_is in cc)

pub says_or_is_refused : (old new name : List ℕ) (c : Conf) → ChangesSuffix old new name → conf_of old ≡ Ok c → SaysOrIsRefused new (conf_under c name)
says_or_is_refused old new name c h e = by (conf_under c name) refl
  where
    by : (r : Result Conf Code) → conf_under c name ≡ r → SaysOrIsRefused new r
    by (Ok d) under = says_with_name old new name h c e d under
    by (Err code) under = refused_at_suffix old new name h c e code under
