-- What the lines of a suffix and of indexes say stays, with more types behind those that were there.
use Rattle.std.proofs.Common.{◌≡◌, ◌∙◌, ℕ, zero, suc, ◌+◌, ◌<◌, ◌≤◌, Bool, true, false, cond, not, ◌&&◌, List, [], ◌∷◌, ◌++◌, length, map, codes, Option, Some, None, Result, Ok, Err, refl, sym, ap, subst, append_assoc, append-nil, arith}
use Rattle.std.specs.Prelude.{is_some}
use Rattle.std.specs.List.{list_any, list_all, filter, range_with_len, AllByRecursion}
use Rattle.std.proofs.Math.ListN.{get_or-append}
use Rattle.std.proofs.lemmas.Bool.{ltb-true}
use Rattle.std.proofs.lemmas.List.Concat.{flat_map-append}
use Rattle.std.proofs.lemmas.List.Elements.{filter-append}
use Rattle.base.specs.Answers.{◌>>=◌, each, through}
use Rattle.base.proofs.Bound.{bind_ok, same_ok}
use Rattle.definitions.specs.declared.lines.Line.{Line}
use Rattle.definitions.specs.Words.{after_word}
use Rattle.values.specs.declared.types.AttributeType.{AttributeType}
use Rattle.values.specs.Tables.{or_if}
use Rattle.values.specs.Types.{type_of, type_at, no_type, is_named}
use Rattle.values.proofs.Tables.{type_more}
use Rattle.values.specs.declared.types.TypeSyntax.TheVariants as type_syntaxes
use Rattle.schema.specs.declared.code.Code.{Code}
use Rattle.schema.specs.declared.code.Code.TheVariants.{InvalidDnSyntax, NamingViolation}
use Rattle.schema.specs.TypeRules.{is_syntax}
use Rattle.schema.specs.declared.slots.IndexKind.{IndexKind}
use Rattle.schema.specs.declared.slots.Slot.{Slot}
use Rattle.schema.specs.Slots.{same_slot, has_rule_for, can_be_kept, IsSlot}
use Rattle.schema.specs.Names.{name_in}
use Rattle.schema.specs.Rdns.{TypedRdn, is_plain, has_type, type_among, ava_type, avas_from, typed_rdn, rdns_from, typed}
use Rattle.schema.specs.Values.{rdns_in}
use Rattle.schema.proofs.Found.{found_is_known}
use Rattle.dir_conf.specs.declared.conf_fault.ConfFaultKind.TheVariants.{Index}
use Rattle.dir_conf.specs.NamesInLines.{or_unknown, type_named}
use Rattle.dir_conf.specs.IndexLines.{every_kind, slots_with, every_slot, in_order, words, two_words, members, kind_named, each_once, if_kept, slots_in}
use Rattle.dir_conf.specs.Configurations.{At, is_first, says_nothing, some_rdns, suffix_at, suffix_text, Found, with_suffix, with_slots, later_line, found_in}
use Rattle.server_schema.proofs.Members.{all_more}
use Rattle.dir_conf.proofs.SlotLines.{slots_good, slots_are, known_bounds}
use Rattle.dir_conf.proofs.SlotsInOrder.{said_is}
use Rattle.dir_conf.proofs.LaterFaults.{Later, later_by, later_is}

-- a type as written, and a value
abbrev WrittenAva : Type 0
WrittenAva = List ℕ × List ℕ

bind_is : {A B F : Type 0} (r : Result A F) (f : A → Result B F) (x : A) → r ≡ Ok x → (r >>= f) ≡ f x
bind_is {A} {B} {F} r f x e = ap (λ (s : Result A F). s >>= f) e

-- two steps, the first of which gives the same
bound_more : {A B F : Type 0} (r s : Result A F) (f g : A → Result B F) (out : B) → ((x : A) → r ≡ Ok x → s ≡ Ok x) → ((x : A) → f x ≡ Ok out → g x ≡ Ok out) → (r >>= f) ≡ Ok out → (s >>= g) ≡ Ok out
bound_more r s f g out first second e = let k = bind_ok r f out e in bind_is s g k.0 (first k.0 k.1) ∙ second k.0 k.2

-- what each step gives by one rule, it gives by another
abbrev Follows : {X Y F : Type 0} → (X → Result Y F) → (X → Result Y F) → Type 0
Follows {X} {Y} read again = (x : X) (y : Y) → read x ≡ Ok y → again x ≡ Ok y

each_more : {X Y F : Type 0} (read again : X → Result Y F) → Follows read again → (xs : List X) (ys : List Y) → each read xs ≡ Ok ys → each again xs ≡ Ok ys
unfolding each
each_more read again follows [] ys e = e
each_more {X} {Y} {F} read again follows (x ∷ xs) ys e =
    let k = bind_ok (read x) (λ y. each read xs >>= λ rest. Ok (y ∷ rest)) ys e in
    let l = bind_ok (each read xs) (λ rest. Ok (k.0 ∷ rest)) ys k.2 in
    bind_is (again x) (λ y. each again xs >>= λ rest. Ok (y ∷ rest)) k.0 (follows x k.0 k.1)
    ∙ bind_is (each again xs) (λ rest. Ok (k.0 ∷ rest)) l.0 (each_more read again follows xs l.0 l.1)
    ∙ l.2

through_more : {S L F : Type 0} (step again : S → L → Result S F) → ((s : S) (l : L) (t : S) → step s l ≡ Ok t → again s l ≡ Ok t)
    → (ls : List L) (s out : S) → through step s ls ≡ Ok out → through again s ls ≡ Ok out
unfolding through
through_more step again follows [] s out e = e
through_more step again follows (l ∷ ls) s out e =
    let k = bind_ok (step s l) (λ next. through step next ls) out e in
    bind_is (again s l) (λ next. through again next ls) k.0 (follows s l k.0 k.1) ∙ through_more step again follows ls k.0 out k.2

-- ---- types by their names and numbers

pub type_stays : (types more : List AttributeType) (name : List ℕ) (t : ℕ) → type_of types name ≡ Some t → type_of (types ++ more) name ≡ Some t
type_stays types [] name t e = ap (λ (ts : List AttributeType). type_of ts name) (append-nil types) ∙ e
type_stays types (new ∷ more) name t e =
    ap (λ (ts : List AttributeType). type_of ts name) (sym (append_assoc types (new ∷ []) more))
    ∙ type_stays (types ++ new ∷ []) more name t (type_more types new name ∙ ap (λ (o : Option ℕ). or_if o (is_named name new) (length types)) e)

known_type : (types : List AttributeType) (name : List ℕ) (t : ℕ) → type_of types name ≡ Some t → t < length types
known_type types name t e = ltb-true t (length types) (found_is_known types name t e)

same_type : (types more : List AttributeType) (t : ℕ) → t < length types → type_at (types ++ more) t ≡ type_at types t
same_type types more t lt = get_or-append types more no_type t lt

-- the type of an AVA, by what it is
abbrev among_by : TypedRdn → List ℕ → ℕ → AttributeType → Result ℕ Code
among_by earlier v t a =
    cond (is_syntax type_syntaxes.Name a.syntax) (Err InvalidDnSyntax)
    (cond (not (is_some a.equality)) (Err NamingViolation)
    (cond (not (is_plain a.syntax v)) (Err InvalidDnSyntax)
    (cond (has_type t earlier) (Err NamingViolation) (Ok t))))

module _ (types more : List AttributeType) where
  abbrev all : List AttributeType
  all = types ++ more

  -- ---- names

  ava_stays : (earlier : TypedRdn) (p : WrittenAva) (t : ℕ) → ava_type types earlier p ≡ Ok t → ava_type all earlier p ≡ Ok t
  ava_stays earlier p t e = by (type_of types p.0) refl e
    where
      by : (o : Option ℕ) → type_of types p.0 ≡ o → type_among types earlier p.1 o ≡ Ok t → ava_type all earlier p ≡ Ok t
      by None is said = absurd cc
      by (Some u) is said =
          ap (type_among all earlier p.1) (type_stays types more p.0 u is)
          ∙ ap (among_by earlier p.1 u) (same_type types more u (known_type types p.0 u is))
          ∙ said

  avas_stay : (ps : List WrittenAva) (earlier out : TypedRdn) → avas_from types earlier ps ≡ Ok out → avas_from all earlier ps ≡ Ok out
  unfolding avas_from
  avas_stay [] earlier out e = e
  avas_stay (p ∷ ps) earlier out e =
      let k = bind_ok (ava_type types earlier p) (λ t. avas_from types (earlier ++ (t, p.1) ∷ []) ps) out e in
      bind_is (ava_type all earlier p) (λ t. avas_from all (earlier ++ (t, p.1) ∷ []) ps) k.0 (ava_stays earlier p k.0 k.1)
      ∙ avas_stay ps (earlier ++ (k.0, p.1) ∷ []) out k.2

  rdns_stay : (rs : List (List WrittenAva)) (found out : List TypedRdn) → rdns_from types found rs ≡ Ok out → rdns_from all found rs ≡ Ok out
  unfolding rdns_from
  rdns_stay [] found out e = e
  rdns_stay (r ∷ rs) found out e =
      let k = bind_ok (typed_rdn types r) (λ t. rdns_from types (found ++ t ∷ []) rs) out e in
      bind_is (typed_rdn all r) (λ t. rdns_from all (found ++ t ∷ []) rs) k.0 (avas_stay r [] k.0 k.1)
      ∙ rdns_stay rs (found ++ k.0 ∷ []) out k.2

  name_stays : (text : List ℕ) (out : List TypedRdn) → rdns_in types text ≡ Ok out → rdns_in all text ≡ Ok out
  unfolding rdns_in
  name_stays text out e =
      let k = bind_ok (name_in text) (typed types) out e in
      bind_is (name_in text) (typed all) k.0 k.1 ∙ rdns_stay k.0 [] out k.2

  suffix_stays : (line : ℕ) (text : List ℕ) (out : Option (List TypedRdn)) → suffix_at types line text ≡ Ok out → suffix_at all line text ≡ Ok out
  suffix_stays line text out e = by (rdns_in types text) refl e
    where
      by : (r : Result (List TypedRdn) Code) → rdns_in types text ≡ r → some_rdns line r ≡ Ok out → suffix_at all line text ≡ Ok out
      by (Ok rs) is said = ap (some_rdns line) (name_stays text rs is) ∙ said
      by (Err code) is said = absurd cc

  -- ---- slots

  named_stays : (line : ℕ) → Follows (type_named types line) (type_named all line)
  named_stays line name t e = by (type_of types name) refl e
    where
      by : (o : Option ℕ) → type_of types name ≡ o → or_unknown line o ≡ Ok t → type_named all line name ≡ Ok t
      by None is said = absurd cc
      by (Some u) is said = ap (or_unknown line) (type_stays types more name u is) ∙ said

  slot_stays : (s : Slot) → IsSlot types s → can_be_kept all s ≡ true
  slot_stays s h = ap (λ (a : AttributeType). has_rule_for a s.kind) (same_type types more s.type_id (ltb-true s.type_id (length types) h.known)) ∙ h.kept

  slots_stay : (ss : List Slot) → AllByRecursion (IsSlot types) ss → list_all (can_be_kept all) ss ≡ true
  slots_stay [] h = refl
  slots_stay (s ∷ ss) h = ap (λ (b : Bool). b && list_all (can_be_kept all) ss) (slot_stays s h.0) ∙ slots_stay ss h.1

  abbrev slots_ok : List Slot → Result (List Slot) At
  slots_ok ss = Ok ss

  kept_stay : (line : ℕ) (ss out : List Slot) → AllByRecursion (IsSlot types) out → if_kept types line ss ≡ Ok out → if_kept all line ss ≡ Ok out
  kept_stay line ss out good e = by (list_all (can_be_kept types) ss) e
    where
      by : (b : Bool) → ◌≡◌ {A = Result (List Slot) At} (cond b (Ok ss) (Err (line, Index))) (Ok out) → if_kept all line ss ≡ Ok out
      by true said =
          let same : ss ≡ out = same_ok ss out said in
          ap (λ (b : Bool). cond b (slots_ok ss) (Err (line, Index))) (slots_stay ss (subst (AllByRecursion (IsSlot types)) (sym same) good)) ∙ ap slots_ok same
      by false said = absurd cc

  index_stays : (line : ℕ) (text : List ℕ) (out : List Slot) → slots_in types line text ≡ Ok out → slots_in all line text ≡ Ok out
  unfolding slots_in
  index_stays line text out e =
      let good = slots_are types line text out e in
      bound_more (two_words line (words text)) (two_words line (words text)) _ _ out (λ x is. is) (λ lists.
      bound_more (members line lists.0) (members line lists.0) _ _ out (λ x is. is) (λ names.
      bound_more (members line lists.1) (members line lists.1) _ _ out (λ x is. is) (λ kinds.
      bound_more (each (type_named types line) names) (each (type_named all line) names) _ _ out (each_more (type_named types line) (type_named all line) (named_stays line) names) (λ ts.
      bound_more (each (kind_named line) kinds) (each (kind_named line) kinds) _ _ out (λ x is. is) (λ listed. kept_stay line (slots_with ts (each_once listed)) out good))))) e

  -- ---- lines

  put_stays : (f : Found) (line : ℕ) (text : List ℕ) (out : Found) → with_slots f (slots_in types line text) ≡ Ok out → with_slots f (slots_in all line text) ≡ Ok out
  put_stays f line text out e =
      let k = bind_ok (slots_in types line text) (λ slots. Ok (record f { slots = f.slots ++ slots })) out e in
      ap (with_slots f) (index_stays line text k.0 k.1) ∙ k.2

  set_stays : (f : Found) (line : ℕ) (text : List ℕ) (out : Found) → with_suffix f (suffix_at types line text) ≡ Ok out → with_suffix f (suffix_at all line text) ≡ Ok out
  set_stays f line text out e =
      let k = bind_ok (suffix_at types line text) (λ suffix. Ok (record f { suffix = suffix })) out e in
      ap (with_suffix f) (suffix_stays line text k.0 k.1) ∙ k.2

  line_stays : (f : Found) (l : Line) (out : Found) → later_line types f l ≡ Ok out → later_line all f l ≡ Ok out
  line_stays f l out e =
      later_is all f l
      ∙ by (says_nothing l.text) (is_first (codes "index") l.text) (is_first (codes "suffix") l.text) (is_some f.suffix) (sym (later_is types f l) ∙ e)
    where
      by : (nothing index suffix there : Bool) → later_by types f l nothing index suffix there ≡ Ok out → later_by all f l nothing index suffix there ≡ Ok out
      by true index suffix there said = said
      by false true suffix there said = put_stays f l.number (after_word l.text) out said
      by false false true true said = absurd cc
      by false false true false said = set_stays f l.number (suffix_text l.text) out said
      by false false false there said = said

  pub found_stays : (ls : List Line) (f out : Found) → found_in types f ls ≡ Ok out → found_in all f ls ≡ Ok out
  found_stays ls f out e = through_more (later_line types) (later_line all) line_stays ls f out e

-- ---- slots that were found

module _ (types : List AttributeType) where
  abbrev HasSlots : Found → Type 0
  HasSlots f = AllByRecursion (IsSlot types) f.slots

  slots_put : (f : Found) (line : ℕ) (text : List ℕ) (out : Found) → HasSlots f → with_slots f (slots_in types line text) ≡ Ok out → HasSlots out
  slots_put f line text out h e =
      let k = bind_ok (slots_in types line text) (λ slots. Ok (record f { slots = f.slots ++ slots })) out e in
      subst HasSlots (same_ok {F = At} (record f { slots = f.slots ++ k.0 }) out k.2) (all_more (IsSlot types) f.slots k.0 h (slots_are types line text k.0 k.1))

  slots_kept : (f : Found) (line : ℕ) (text : List ℕ) (out : Found) → HasSlots f → with_suffix f (suffix_at types line text) ≡ Ok out → HasSlots out
  slots_kept f line text out h e =
      let k = bind_ok (suffix_at types line text) (λ suffix. Ok (record f { suffix = suffix })) out e in
      subst HasSlots (same_ok {F = At} (record f { suffix = k.0 }) out k.2) h

  same_slots : (f out : Found) → HasSlots f → ◌≡◌ {A = Later} (Ok f) (Ok out) → HasSlots out
  same_slots f out h e = subst HasSlots (same_ok {F = At} f out e) h

  line_slots : (f : Found) (l : Line) (out : Found) → HasSlots f → later_line types f l ≡ Ok out → HasSlots out
  line_slots f l out h e =
      by (says_nothing l.text) (is_first (codes "index") l.text) (is_first (codes "suffix") l.text) (is_some f.suffix) (sym (later_is types f l) ∙ e)
    where
      by : (nothing index suffix there : Bool) → later_by types f l nothing index suffix there ≡ Ok out → HasSlots out
      by true index suffix there said = same_slots f out h said
      by false true suffix there said = slots_put f l.number (after_word l.text) out h said
      by false false true true said = absurd cc
      by false false true false said = slots_kept f l.number (suffix_text l.text) out h said
      by false false false there said = same_slots f out h said

  slots_found : (ls : List Line) (f out : Found) → HasSlots f → found_in types f ls ≡ Ok out → HasSlots out
  unfolding through
  slots_found [] f out h e = same_slots f out h e
  slots_found (l ∷ ls) f out h e =
      let k = bind_ok (later_line types f l) (λ next. through (later_line types) next ls) out e in
      slots_found ls k.0 out (line_slots f l k.0 h k.1) k.2

  -- each is of a type that is there
  pub slots_below : (ls : List Line) (f out : Found) → f.slots ≡ [] → found_in types f ls ≡ Ok out → AllByRecursion (λ s. s.type_id < length types) out.slots
  slots_below ls f out none e = known_bounds types out.slots (slots_found ls f out (subst (AllByRecursion (IsSlot types)) (sym none) tt) e)

-- ---- in their order

abbrev slot_of : ℕ → IndexKind → Slot
slot_of t kind = record { type_id = t; kind = kind }

numbers_more : (a m k : ℕ) → range_with_len a (m + k) ≡ range_with_len a m ++ range_with_len (a + m) k
numbers_more a zero k = (let e : 0 + k ≡ k = omega arith in let f : a ≡ a + 0 = omega arith in λ i. range_with_len (f i) (e i))
numbers_more a (suc m) k =
    let e : suc m + k ≡ suc (m + k) = omega arith in
    let f : a + 1 + m ≡ a + suc m = omega arith in
    ap (range_with_len a) e ∙ ap (λ (ns : List ℕ). a ∷ ns) (numbers_more (a + 1) m k ∙ ap (λ (n : ℕ). range_with_len (a + 1) m ++ range_with_len n k) f)

numbers_above : (m a k : ℕ) → m ≤ a → AllByRecursion (λ t. m ≤ t) (range_with_len a k)
numbers_above m a zero le = tt
numbers_above m a (suc k) le = (le, numbers_above m (a + 1) k (omega (arith, le)))

none_passes : (test : Slot → Bool) (m : ℕ) → ((s : Slot) → test s ≡ true → s.type_id < m) → (ss : List Slot) → AllByRecursion (λ (s : Slot). m ≤ s.type_id) ss → filter test ss ≡ []
none_passes test m below [] above = refl
none_passes test m below (s ∷ ss) above = by (test s) refl (none_passes test m below ss above.1)
  where
    by : (b : Bool) → test s ≡ b → filter test ss ≡ [] → cond b (s ∷ filter test ss) (filter test ss) ≡ []
    by true is none = absurd (omega (arith, below s is, above.0))
    by false is none = none

pub order_stays : (m k : ℕ) (said : List Slot) → AllByRecursion (λ s. s.type_id < m) said → in_order (m + k) said ≡ in_order m said
unfolding in_order
order_stays m k said known =
    let test : Slot → Bool = λ s. list_any (same_slot s) said in
    let later : List Slot = slots_with (range_with_len (0 + m) k) every_kind in
    let above : AllByRecursion (λ (s : Slot). m ≤ s.type_id) later = slots_good (λ t. m ≤ t) (range_with_len (0 + m) k) every_kind (numbers_above m (0 + m) k (omega arith)) in
    let none : filter test later ≡ [] = none_passes test m (λ s is. said_is (λ s. s.type_id < m) s said known is) later above in
    ap (λ (ns : List ℕ). filter test (slots_with ns every_kind)) (numbers_more 0 m k)
    ∙ ap (filter test) (flat_map-append (λ (t : ℕ). map (λ (kind : IndexKind). slot_of t kind) every_kind) (range_with_len 0 m) (range_with_len (0 + m) k))
    ∙ filter-append test (every_slot m) later
    ∙ ap (λ (ss : List Slot). filter test (every_slot m) ++ ss) none
    ∙ append-nil (filter test (every_slot m))
