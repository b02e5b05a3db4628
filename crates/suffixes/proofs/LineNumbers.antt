-- What the lines of a configuration say doesn't depend on their numbers.
use Rattle.std.proofs.Common.{◌≡◌, ℕ, Bool, true, false, cond, ◌||◌, List, [], ◌∷◌, Option, Some, None, Result, Ok, Err, codes, refl, sym, ap, ◌∙◌}
use Rattle.std.specs.Prelude.{is_some}
use Rattle.std.specs.List.{list_any, list_all, slice_split}
use Rattle.std.specs.Str.{bytes_eq}
use Rattle.base.specs.Answers.{◌>>=◌, each, through}
use Rattle.base.proofs.Bound.{bind_ok}
use Rattle.definitions.specs.declared.lines.Line.{Line}
use Rattle.definitions.specs.declared.type_definition.TypeDefinition.{TypeDefinition}
use Rattle.definitions.specs.declared.class_definition.ClassDefinition.{ClassDefinition}
use Rattle.definitions.specs.TypeDefinitions.{type_definition_of}
use Rattle.definitions.specs.ClassDefinitions.{class_definition_of}
use Rattle.definitions.specs.Lines.{begins_blank}
use Rattle.definitions.specs.Words.{after_word}
use Rattle.values.specs.declared.types.AttributeType.{AttributeType}
use Rattle.values.specs.Types.{type_of}
use Rattle.schema.specs.declared.slots.Slot.{Slot}
use Rattle.schema.specs.Slots.{can_be_kept}
use Rattle.schema.specs.Classes.{class_of}
use Rattle.schema.specs.TypeRules.{up_of}
use Rattle.schema.specs.declared.code.Code.{Code}
use Rattle.schema.specs.Rdns.{TypedRdn}
use Rattle.schema.specs.Values.{rdns_in}
use Rattle.dir_conf.specs.declared.conf_fault.ConfFaultKind.{ConfFaultKind}
use Rattle.dir_conf.specs.DerivedTypes.{type_with}
use Rattle.dir_conf.specs.IndexLines.{is_comma, is_empty, words, two_words, members, kind_named, each_once, slots_with, if_kept, slots_of, slots_in}
use Rattle.dir_conf.specs.NamesInLines.{or_unknown}
use Rattle.dir_conf.specs.Configurations.{At, says_nothing, is_first, is_built_in, is_class_taken, class_with, class_placed, flaw_of, unless, below, refused, placed, superior_of, Defined, with_types, definition_line, defined_by, some_rdns, suffix_text, Found, later_line, found_in}
use Rattle.suffixes.specs.SuffixLines.{texts_of}

-- where the first is a value, the second is the same one
pub record Keeps {A : Type 0} (r q : Result A At) : Type 0 where
  pub same : (x : A) → r ≡ Ok x → q ≡ Ok x

kept_same : {A : Type 0} {r : Result A At} → Keeps r r
kept_same = record { same = λ x h. h }

kept_err : {A : Type 0} {e : At} {q : Result A At} → Keeps (Err e) q
kept_err = record { same = λ x h. absurd cc }

kept_if : {A : Type 0} (b : Bool) {r q s t : Result A At} → Keeps r s → Keeps q t → Keeps (cond b r q) (cond b s t)
kept_if true one two = one
kept_if false one two = two

kept_bind : {A B : Type 0} {r q : Result A At} {f g : A → Result B At} → Keeps r q → ((x : A) → Keeps (f x) (g x)) → Keeps (r >>= f) (q >>= g)
kept_bind {A} {B} {r} {q} {f} {g} one more = record {
  same = λ y h. let k = bind_ok r f y h in ap (λ (s : Result A At). s >>= g) (one.same k.0 k.1) ∙ (more k.0).same y k.2;
}

kept_each : {X Y : Type 0} {f g : X → Result Y At} → ((x : X) → Keeps (f x) (g x)) → (xs : List X) → Keeps (each f xs) (each g xs)
unfolding each
kept_each same [] = kept_same
kept_each same (x ∷ xs) = kept_bind (same x) (λ y. kept_bind (kept_each same xs) (λ ys. kept_same))

-- ---- a line

module _ (n m : ℕ) where
  kept_name : (o : Option ℕ) → Keeps (or_unknown n o) (or_unknown m o)
  kept_name None = kept_err
  kept_name (Some number) = kept_same

  kept_names : {X : Type 0} (find : X → Option ℕ) (xs : List X) → Keeps (each (λ x. or_unknown n (find x)) xs) (each (λ x. or_unknown m (find x)) xs)
  kept_names find xs = kept_each (λ x. kept_name (find x)) xs

  kept_unless : (o : Option ConfFaultKind) {r q : Result (List AttributeType) At} → Keeps r q → Keeps (unless n o r) (unless m o q)
  kept_unless None h = h
  kept_unless (Some kind) h = kept_err

  kept_below : (types : List AttributeType) (d : TypeDefinition) (o : Option (Option ℕ)) → Keeps (below types n d o) (below types m d o)
  kept_below types d None = kept_err
  kept_below types d (Some number) = kept_unless (flaw_of (type_with d number (up_of types number)) (up_of types number)) kept_same

  kept_type : (types : List AttributeType) (o : Option TypeDefinition) → Keeps (placed types n o) (placed types m o)
  unfolding placed
  kept_type types None = kept_err
  kept_type types (Some d) = kept_if (is_built_in d.element.oid) kept_same (kept_unless (refused types d) (kept_below types d (superior_of types d.superior)))

  kept_types : (s : Defined) {r q : Result (List AttributeType) At} → Keeps r q → Keeps (with_types s r) (with_types s q)
  kept_types s {r = Ok types} h = record { same = λ x e. ap (with_types s) (h.same types refl) ∙ e }
  kept_types s {r = Err fault} h = kept_err

  kept_parts : (s : Defined) (d : ClassDefinition) → Keeps (class_with s n d) (class_with s m d)
  unfolding class_with
  kept_parts s d =
      kept_bind (kept_names (class_of s.classes) d.superiors) (λ superiors.
      kept_bind (kept_names (type_of s.types) d.must) (λ must.
      kept_bind (kept_names (type_of s.types) d.may) (λ may. kept_same)))

  kept_class : (s : Defined) (o : Option ClassDefinition) → Keeps (class_placed s n o) (class_placed s m o)
  unfolding class_placed
  kept_class s None = kept_err
  kept_class s (Some d) = kept_if (is_built_in d.element.oid) kept_same (kept_if (is_class_taken s.classes d.element) kept_err (kept_bind (kept_parts s d) (λ c. kept_same)))

  kept_words : (ws : List (List ℕ)) → Keeps (two_words n ws) (two_words m ws)
  kept_words [] = kept_err
  kept_words (names ∷ []) = kept_err
  kept_words (names ∷ kinds ∷ []) = kept_same
  kept_words (names ∷ kinds ∷ more ∷ others) = kept_err

  kept_members : (word : List ℕ) → Keeps (members n word) (members m word)
  kept_members word = kept_if (list_any is_empty (slice_split is_comma word)) kept_err kept_same

  kept_kind : (word : List ℕ) → Keeps (kind_named n word) (kind_named m word)
  kept_kind word = kept_if (bytes_eq word (codes "eq")) kept_same (kept_if (bytes_eq word (codes "pres")) kept_same (kept_if (bytes_eq word (codes "sub")) kept_same kept_err))

  kept_slots : (types : List AttributeType) (slots : List Slot) → Keeps (if_kept types n slots) (if_kept types m slots)
  kept_slots types slots = kept_if (list_all (can_be_kept types) slots) kept_same kept_err

  kept_slots_of : (types : List AttributeType) (names kinds : List (List ℕ)) → Keeps (slots_of types n names kinds) (slots_of types m names kinds)
  kept_slots_of types names kinds = kept_bind (kept_names (type_of types) names) (λ ts. kept_bind (kept_each kept_kind kinds) (λ ks. kept_slots types (slots_with ts (each_once ks))))

  pub kept_indexes : (types : List AttributeType) (text : List ℕ) → Keeps (slots_in types n text) (slots_in types m text)
  unfolding slots_in
  kept_indexes types text =
      kept_bind (kept_words (words text)) (λ lists.
      kept_bind (kept_members lists.0) (λ names.
      kept_bind (kept_members lists.1) (λ kinds. kept_slots_of types names kinds)))

  kept_definition : (s : Defined) (text : List ℕ) → Keeps (definition_line s (record { number = n; text = text })) (definition_line s (record { number = m; text = text }))
  unfolding definition_line
  kept_definition s text =
      kept_if (says_nothing text) kept_same
      (kept_if (begins_blank text) kept_err
      (kept_if (is_first (codes "suffix") text || is_first (codes "index") text) kept_same
      (kept_if (is_first (codes "attributetype") text) (kept_types s (kept_type s.types (type_definition_of (after_word text))))
      (kept_if (is_first (codes "objectclass") text) (kept_class s (class_definition_of (after_word text))) kept_err))))

-- ---- a line of the second pass

module _ (types : List AttributeType) where
  kept_rdns : (n m : ℕ) (r : Result (List TypedRdn) Code) → Keeps (some_rdns n r) (some_rdns m r)
  kept_rdns n m (Ok []) = kept_err
  kept_rdns n m (Ok (r ∷ rs)) = kept_same
  kept_rdns n m (Err code) = kept_err

  kept_later : (n m : ℕ) (f : Found) (text : List ℕ) → Keeps (later_line types f (record { number = n; text = text })) (later_line types f (record { number = m; text = text }))
  unfolding later_line
  kept_later n m f text =
      kept_if (says_nothing text) kept_same
      (kept_if (is_first (codes "index") text) (kept_bind (kept_indexes n m types (after_word text)) (λ slots. kept_same))
      (kept_if (is_first (codes "suffix") text) (kept_if (is_some f.suffix) kept_err (kept_bind (kept_rdns n m (rdns_in types (suffix_text text))) (λ suffix. kept_same))) kept_same))

-- ---- lines

pub same_head : {A : Type 0} (x y : A) (xs ys : List A) → x ∷ xs ≡ y ∷ ys → x ≡ y
same_head x y xs ys e = cc

pub same_tail : {A : Type 0} (x y : A) (xs ys : List A) → x ∷ xs ≡ y ∷ ys → xs ≡ ys
same_tail x y xs ys e = cc

-- a step that goes by what a line says
abbrev GoesByText : {S : Type 0} → (S → Line → Result S At) → Type 0
GoesByText {S} step = (n m : ℕ) (s : S) (text : List ℕ) → Keeps (step s (record { number = n; text = text })) (step s (record { number = m; text = text }))

module _ {S : Type 0} (step : S → Line → Result S At) (goes : GoesByText step) where
  kept_step : (s : S) (l k : Line) → l.text ≡ k.text → Keeps (step s l) (step s k)
  kept_step s l k e = record { same = λ x h. ap (λ (text : List ℕ). step s (record { number = k.number; text = text })) (sym e) ∙ (goes l.number k.number s l.text).same x h }

  kept_through : (ls ks : List Line) → texts_of ls ≡ texts_of ks → (s : S) → Keeps (through step s ls) (through step s ks)
  unfolding through
  kept_through [] [] e s = kept_same
  kept_through [] (k ∷ ks) e s = absurd cc
  kept_through (l ∷ ls) [] e s = absurd cc
  kept_through (l ∷ ls) (k ∷ ks) e s =
      kept_bind (kept_step s l k (same_head l.text k.text (texts_of ls) (texts_of ks) e)) (λ next. kept_through ls ks (same_tail l.text k.text (texts_of ls) (texts_of ks) e) next)

-- lines that say the same define the same, and say the same suffix and indexes

pub kept_defined : (ls ks : List Line) → texts_of ls ≡ texts_of ks → (s : Defined) → Keeps (defined_by s ls) (defined_by s ks)
kept_defined = kept_through definition_line kept_definition

pub kept_found : (types : List AttributeType) (ls ks : List Line) → texts_of ls ≡ texts_of ks → (f : Found) → Keeps (found_in types f ls) (found_in types f ks)
kept_found types = kept_through (later_line types) (kept_later types)
