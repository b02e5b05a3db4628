-- A line of a suffix or of indexes fails exactly for its fault.
use Rattle.std.proofs.Common.{◌≡◌, ℕ, Bool, true, false, cond, ◌||◌, List, [], ◌∷◌, ◌++◌, Option, Some, Result, Ok, Err, ◌⊎◌, inl, inr, codes, refl, sym, ap, ◌∙◌}
use Rattle.std.specs.Prelude.{is_some}
use Rattle.base.specs.Answers.{through}
use Rattle.base.proofs.Bound.{bind_ok, same_ok}
use Rattle.definitions.specs.declared.lines.Line.{Line}
use Rattle.definitions.specs.Words.{after_word}
use Rattle.values.specs.declared.types.AttributeType.{AttributeType}
use Rattle.schema.specs.declared.code.Code.{Code}
use Rattle.dir_conf.specs.declared.conf_fault.ConfFaultKind.{ConfFaultKind}
use Rattle.dir_conf.specs.declared.conf_fault.ConfFaultKind.TheVariants.{Suffix}
use Rattle.schema.specs.Rdns.{TypedRdn}
use Rattle.schema.specs.Values.{rdns_in}
use Rattle.schema.specs.declared.slots.Slot.{Slot}
use Rattle.dir_conf.specs.IndexLines.{slots_in}
use Rattle.dir_conf.specs.Configurations.{At, says_nothing, is_first, some_rdns, suffix_at, suffix_text, Found, none_found, with_suffix, with_slots, later_line, found_in}
use Rattle.schema.specs.FirstFlaws.{Not}
use Rattle.dir_conf.specs.FaultyLines.{has_suffix, IsNoSuffix, IsLaterFault, NoneIsAtFault}
use Rattle.dir_conf.proofs.FirstStops.{same_err, stops, fails, fails_on}
use Rattle.dir_conf.proofs.LineWords.{suffix_word, index_word, no_other, says_some}
use Rattle.dir_conf.proofs.IndexFlaws.{index_faulty, index_fails}

abbrev pub Later : Type 0
Later = Result Found At

abbrev slots_failed : At → Result (List Slot) At
slots_failed e = Err e

abbrev suffix_failed : At → Result (Option (List TypedRdn)) At
suffix_failed e = Err e

with_slots-err : (f : Found) (r : Result (List Slot) At) (e : At) → with_slots f r ≡ Err e → r ≡ Err e
with_slots-err f (Ok slots) e h = absurd cc
with_slots-err f (Err g) e h = ap slots_failed (same_err {A = Found} g e h)

with_suffix-err : (f : Found) (r : Result (Option (List TypedRdn)) At) (e : At) → with_suffix f r ≡ Err e → r ≡ Err e
with_suffix-err f (Ok suffix) e h = absurd cc
with_suffix-err f (Err g) e h = ap suffix_failed (same_err {A = Found} g e h)

-- ---- a name

abbrev pub Rdns : Type 0
Rdns = Result (List TypedRdn) Code

abbrev pub IsNone : Rdns → Type 0
IsNone r = (x : TypedRdn) (xs : List TypedRdn) → Not (r ≡ Ok (x ∷ xs))

at_line : (line at : ℕ) (kind : ConfFaultKind) → ◌≡◌ {A = Result (Option (List TypedRdn)) At} (Err (line, Suffix)) (Err (at, kind)) → (at ≡ line) × (kind ≡ Suffix)
at_line line at kind e = let same = same_err {A = Option (List TypedRdn)} (line, Suffix) (at, kind) e in (sym (ap (λ (p : At). p.0) same), sym (ap (λ (p : At). p.1) same))

no_name : (line : ℕ) (r : Rdns) (at : ℕ) (kind : ConfFaultKind) → some_rdns line r ≡ Err (at, kind) → (at ≡ line) × (kind ≡ Suffix) × IsNone r
no_name line (Ok []) at kind e = let k = at_line line at kind e in (k.0, k.1, λ x xs h. absurd (let same = same_ok {F = Code} [] (x ∷ xs) h in cc))
no_name line (Ok (x ∷ xs)) at kind e = absurd cc
no_name line (Err code) at kind e = let k = at_line line at kind e in (k.0, k.1, λ x xs h. absurd cc)

pub name_fails : (line : ℕ) (r : Rdns) → IsNone r → some_rdns line r ≡ Err (line, Suffix)
name_fails line (Ok []) none = refl
name_fails line (Ok (x ∷ xs)) none = absurd (none x xs refl)
name_fails line (Err code) none = refl

some_name : (line : ℕ) (r : Rdns) (o : Option (List TypedRdn)) → some_rdns line r ≡ Ok o → is_some o ≡ true
some_name line (Ok []) o e = absurd cc
some_name line (Ok (x ∷ xs)) o e = ap (λ (p : Option (List TypedRdn)). is_some p) (sym (same_ok {F = At} (Some (x ∷ xs)) o e))
some_name line (Err code) o e = absurd cc

-- ---- a line

or_false : (b : Bool) → b ≡ (b || false)
or_false true = refl
or_false false = refl

module _ (types : List AttributeType) (f : Found) (l : Line) where
  abbrev pub of_slots : Later
  of_slots = with_slots f (slots_in types l.number (after_word l.text))

  abbrev pub named : Result (Option (List TypedRdn)) At
  named = suffix_at types l.number (suffix_text l.text)

  abbrev pub failed : ConfFaultKind → Later
  failed kind = Err (l.number, kind)

  -- by what the line begins with, and whether there is a suffix
  abbrev pub later_by : Bool → Bool → Bool → Bool → Later
  later_by nothing index suffix there = cond nothing (Ok f) (cond index of_slots (cond suffix (cond there (failed Suffix) (with_suffix f named)) (Ok f)))

  pub later_is : later_line types f l ≡ later_by (says_nothing l.text) (is_first (codes "index") l.text) (is_first (codes "suffix") l.text) (is_some f.suffix)
  unfolding later_line
  later_is = refl

  no_fault : {A : Type 0} (at : ℕ) (kind : ConfFaultKind) → ◌≡◌ {A = Later} (Ok f) (Err (at, kind)) → A
  no_fault at kind e = absurd cc

  module _ (above : List Line) (sees : is_some f.suffix ≡ has_suffix above) where
    pub later_faulty : (at : ℕ) (kind : ConfFaultKind) → later_line types f l ≡ Err (at, kind) → (at ≡ l.number) × IsLaterFault types above l.text kind
    later_faulty at kind e = by (says_nothing l.text) refl (is_first (codes "index") l.text) refl (is_first (codes "suffix") l.text) refl (is_some f.suffix) refl (sym later_is ∙ e)
      where
        by : (nothing : Bool) → says_nothing l.text ≡ nothing → (index : Bool) → is_first (codes "index") l.text ≡ index → (suffix : Bool) → is_first (codes "suffix") l.text ≡ suffix → (there : Bool) → is_some f.suffix ≡ there
            → later_by nothing index suffix there ≡ Err (at, kind) → (at ≡ l.number) × IsLaterFault types above l.text kind
        by true n index i suffix s there t said = no_fault at kind said
        by false n true i suffix s there t said =
            let k = index_faulty types l.number (after_word l.text) at kind (with_slots-err f (slots_in types l.number (after_word l.text)) (at, kind) said) in
            (k.0, inr (i, k.1))
        by false n false i true s true t said =
            let same = same_err {A = Found} (l.number, Suffix) (at, kind) said in
            (sym (ap (λ (p : At). p.0) same), inl (sym (ap (λ (p : At). p.1) same), s, inl (sym sees ∙ t)))
        by false n false i true s false t said =
            let k = no_name l.number (rdns_in types (suffix_text l.text)) at kind (with_suffix-err f named (at, kind) said) in
            (k.0, inl (k.1, s, inr k.2))
        by false n false i false s there t said = no_fault at kind said

    pub later_fails : (kind : ConfFaultKind) → IsLaterFault types above l.text kind → later_line types f l ≡ Err (l.number, kind)
    later_fails kind (inr (index, flaw)) =
        let some = says_some (codes "index") index_word l.text index in
        later_is
        ∙ (λ j. later_by (some.0 j) (index j) (is_first (codes "suffix") l.text) (is_some f.suffix))
        ∙ ap (with_slots f) (index_fails types l.number (after_word l.text) kind flaw)
    later_fails kind (inl (is, suffix, why)) =
        let some = says_some (codes "suffix") suffix_word l.text suffix in
        later_is
        ∙ (λ j. later_by (some.0 j) (no_other (codes "suffix") (codes "index") l.text refl suffix j) (suffix j) (is_some f.suffix))
        ∙ by why (is_some f.suffix) refl
        ∙ ap failed (sym is)
      where
        by : (has_suffix above ≡ true) ⊎ IsNoSuffix types (suffix_text l.text) → (there : Bool) → is_some f.suffix ≡ there → cond there (failed Suffix) (with_suffix f named) ≡ failed Suffix
        by why true t = refl
        by (inl stands) false t = absurd (let both = sym t ∙ sees ∙ stands in cc)
        by (inr none) false t = ap (with_suffix f) (name_fails l.number (rdns_in types (suffix_text l.text)) none)

  -- ---- whether there is a suffix behind it

  same_suffix : (g : Found) → ◌≡◌ {A = Later} (Ok f) (Ok g) → is_first (codes "suffix") l.text ≡ false → is_some g.suffix ≡ (is_some f.suffix || is_first (codes "suffix") l.text)
  same_suffix g said s = ap (λ (h : Found). is_some h.suffix) (sym (same_ok {F = At} f g said)) ∙ or_false (is_some f.suffix) ∙ ap (λ (b : Bool). is_some f.suffix || b) (sym s)

  pub suffix_behind : (g : Found) → later_line types f l ≡ Ok g → is_some g.suffix ≡ (is_some f.suffix || is_first (codes "suffix") l.text)
  suffix_behind g e = by (says_nothing l.text) refl (is_first (codes "index") l.text) refl (is_first (codes "suffix") l.text) refl (is_some f.suffix) refl (sym later_is ∙ e)
    where
      by : (nothing : Bool) → says_nothing l.text ≡ nothing → (index : Bool) → is_first (codes "index") l.text ≡ index → (suffix : Bool) → is_first (codes "suffix") l.text ≡ suffix → (there : Bool) → is_some f.suffix ≡ there
          → later_by nothing index suffix there ≡ Ok g → is_some g.suffix ≡ (is_some f.suffix || is_first (codes "suffix") l.text)
      by true n index i true s there t said = absurd (let both = sym n ∙ (says_some (codes "suffix") suffix_word l.text s).0 in cc)
      by true n index i false s there t said = same_suffix g said s
      by false n true i suffix s there t said =
          let k = bind_ok (slots_in types l.number (after_word l.text)) _ g said in
          ap (λ (h : Found). is_some h.suffix) (sym (same_ok {F = At} (record f { slots = f.slots ++ k.0 }) g k.2))
          ∙ or_false (is_some f.suffix)
          ∙ ap (λ (b : Bool). is_some f.suffix || b) (sym (no_other (codes "index") (codes "suffix") l.text refl i))
      by false n false i true s true t said = absurd cc
      by false n false i true s false t said =
          let k = bind_ok named _ g said in
          ap (λ (h : Found). is_some h.suffix) (sym (same_ok {F = At} (record f { suffix = k.0 }) g k.2))
          ∙ some_name l.number (rdns_in types (suffix_text l.text)) k.0 k.1
          ∙ (λ j. sym t j || sym s j)
      by false n false i false s there t said = same_suffix g said s

-- ---- lines

or_assoc : (a b c : Bool) → ((a || b) || c) ≡ (a || (b || c))
or_assoc true b c = refl
or_assoc false b c = refl

module _ (types : List AttributeType) where
  abbrev fine : Found → Later
  fine f = Ok f

  sees_from : (ls : List Line) (f g : Found) → found_in types f ls ≡ Ok g → is_some g.suffix ≡ (is_some f.suffix || has_suffix ls)
  unfolding through
  sees_from [] f g e = ap (λ (h : Found). is_some h.suffix) (sym (same_ok {F = At} f g e)) ∙ or_false (is_some f.suffix)
  sees_from (l ∷ ls) f g e =
      let k = bind_ok (later_line types f l) (λ next. through (later_line types) next ls) g e in
      sees_from ls k.0 g k.2
      ∙ ap (λ (b : Bool). b || has_suffix ls) (suffix_behind types f l k.0 k.1)
      ∙ or_assoc (is_some f.suffix) (is_first (codes "suffix") l.text) (has_suffix ls)

  pub sees : (ls : List Line) (g : Found) → found_in types none_found ls ≡ Ok g → is_some g.suffix ≡ has_suffix ls
  sees ls g e = sees_from ls none_found g e

  pub none_at_fault : (ls : List Line) (g : Found) → found_in types none_found ls ≡ Ok g → NoneIsAtFault types ls
  none_at_fault ls g e above l after kind is fault = by (found_in types none_found above) refl
    where
      by : (r : Later) → found_in types none_found above ≡ r → ⊥
      by (Ok f) so_far = absurd (let both = sym e ∙ fails (later_line types) ls above l after none_found f (l.number, kind) is so_far (later_fails types f l above (sees above f so_far) kind fault) in cc)
      by (Err x) so_far = absurd (let both = sym e ∙ ap (λ (xs : List Line). found_in types none_found xs) is ∙ fails_on (later_line types) above (l ∷ after) none_found x so_far in cc)

  pub all_found : (ls : List Line) → NoneIsAtFault types ls → (g : Found) × (found_in types none_found ls ≡ Ok g)
  all_found ls none = by (found_in types none_found ls) refl
    where
      by : (r : Later) → found_in types none_found ls ≡ r → (g : Found) × (found_in types none_found ls ≡ Ok g)
      by (Ok g) is = (g, is)
      by (Err x) is = absurd (
          let h = stops (later_line types) ls none_found x is in
          none h.before h.bad h.after x.1 h.is (later_faulty types h.known h.bad h.before (sees h.before h.known h.known_is) x.0 x.1 h.here).1)
