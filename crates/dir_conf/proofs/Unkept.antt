-- Whether each slot of an index line can be kept, by its names and the words of its kinds.
use Rattle.std.proofs.Common.{◌≡◌, ℕ, Bool, true, false, cond, not, ◌||◌, ◌&&◌, List, [], ◌∷◌, ◌++◌, map, Option, Some, None, Result, Ok, Err, codes, refl, sym, ap, subst, ◌∙◌}
use Rattle.std.specs.List.{list_any, list_all, filter}
use Rattle.std.specs.Str.{bytes_eq}
use Rattle.std.proofs.lemmas.Bool.{false_from_ne_true}
use Rattle.std.proofs.lemmas.Slice.Eq.{bytes_eq-Decides}
use Rattle.base.specs.Answers.{◌>>=◌, each}
use Rattle.base.proofs.Bound.{bind_ok, same_ok}
use Rattle.values.specs.declared.types.AttributeType.{AttributeType}
use Rattle.values.specs.Types.{type_of, type_at}
use Rattle.dir_conf.specs.declared.conf_fault.ConfFaultKind.TheVariants.{Index}
use Rattle.schema.specs.declared.slots.IndexKind.{IndexKind}
use Rattle.schema.specs.declared.slots.IndexKind.TheVariants.{Equality, Presence, Substrings}
use Rattle.dir_conf.specs.ConfFaults.{At}
use Rattle.dir_conf.specs.NamesInLines.{or_unknown, type_named}
use Rattle.dir_conf.specs.IndexLines.{same_kind, every_kind, slots_with, each_once, kind_named}
use Rattle.schema.specs.Slots.{has_rule_for, can_be_kept}
use Rattle.dir_conf.specs.FaultyLines.{is_kind_word, is_some_kind, lacks}
use Rattle.dir_conf.proofs.ClassFlaws.{all_same}

abbrev fine : {A : Type 0} → A → Result A At
fine x = Ok x

-- ---- lists

and_assoc : (a b c : Bool) → ((a && b) && c) ≡ (a && (b && c))
and_assoc true b c = refl
and_assoc false b c = refl

and_swap : (a b c d : Bool) → ((a && b) && (c && d)) ≡ ((a && c) && (b && d))
and_swap true true c d = refl
and_swap true false true d = refl
and_swap true false false d = refl
and_swap false b c d = refl

all_both : {X : Type 0} (p : X → Bool) (xs ys : List X) → list_all p (xs ++ ys) ≡ (list_all p xs && list_all p ys)
all_both p [] ys = refl
all_both p (x ∷ xs) ys = ap (λ (b : Bool). p x && b) (all_both p xs ys) ∙ sym (and_assoc (p x) (list_all p xs) (list_all p ys))

all_map : {X Y : Type 0} (p : Y → Bool) (f : X → Y) (xs : List X) → list_all p (map f xs) ≡ list_all (λ x. p (f x)) xs
all_map p f [] = refl
all_map p f (x ∷ xs) = ap (λ (b : Bool). p (f x) && b) (all_map p f xs)

all_filter : {X : Type 0} (p q : X → Bool) (xs : List X) → list_all p (filter q xs) ≡ list_all (λ x. not (q x) || p x) xs
all_filter p q [] = refl
all_filter p q (x ∷ xs) = by (q x) (all_filter p q xs)
  where
    by : (b : Bool) → list_all p (filter q xs) ≡ list_all (λ x. not (q x) || p x) xs → list_all p (cond b (x ∷ filter q xs) (filter q xs)) ≡ ((not b || p x) && list_all (λ x. not (q x) || p x) xs)
    by true e = ap (λ (b : Bool). p x && b) e
    by false e = e

all_and : {X : Type 0} (p q : X → Bool) (xs : List X) → list_all (λ x. p x && q x) xs ≡ (list_all p xs && list_all q xs)
all_and p q [] = refl
all_and p q (x ∷ xs) = ap (λ (b : Bool). (p x && q x) && b) (all_and p q xs) ∙ and_swap (p x) (q x) (list_all p xs) (list_all q xs)

all_true : {X : Type 0} (xs : List X) → list_all (λ x. true) xs ≡ true
all_true [] = refl
all_true (x ∷ xs) = all_true xs

all_swap : {X Y : Type 0} (r : X → Y → Bool) (xs : List X) (ys : List Y) → list_all (λ x. list_all (r x) ys) xs ≡ list_all (λ y. list_all (λ x. r x y) xs) ys
all_swap r [] ys = sym (all_true ys)
all_swap r (x ∷ xs) ys = ap (λ (b : Bool). list_all (r x) ys && b) (all_swap r xs ys) ∙ sym (all_and (r x) (λ y. list_all (λ z. r z y) xs) ys)

not_or : (a b : Bool) → not (a || b) ≡ (not a && not b)
not_or true b = refl
not_or false b = refl

not_and : (a b : Bool) → not (a && b) ≡ (not a || not b)
not_and true b = refl
not_and false b = refl

not_any : {X : Type 0} (p : X → Bool) (xs : List X) → not (list_any p xs) ≡ list_all (λ x. not (p x)) xs
not_any p [] = refl
not_any p (x ∷ xs) = not_or (p x) (list_any p xs) ∙ ap (λ (b : Bool). not (p x) && b) (not_any p xs)

-- ---- the kinds of a line

apart : (v w word : List ℕ) → bytes_eq v w ≡ false → bytes_eq word v ≡ true → bytes_eq word w ≡ false
apart v w word differ h = false_from_ne_true (bytes_eq word w) (λ k.
    let both = sym ((bytes_eq-Decides v w).1 (sym ((bytes_eq-Decides word v).0 h) ∙ (bytes_eq-Decides word w).0 k)) ∙ differ in absurd cc)

-- each word stands for the kind of its name
abbrev Same : List ℕ → IndexKind → Type 0
Same word y = (k : IndexKind) → same_kind k y ≡ is_kind_word k word

pub kind_is : (line : ℕ) (word : List ℕ) (y : IndexKind) → kind_named line word ≡ Ok y → (k : IndexKind) → same_kind k y ≡ is_kind_word k word
kind_is line word y e = by (bytes_eq word (codes "eq")) refl (bytes_eq word (codes "pres")) refl (bytes_eq word (codes "sub")) refl e
  where
    equality : bytes_eq word (codes "eq") ≡ true → Same word Equality
    equality h Equality = sym h
    equality h Presence = sym (apart (codes "eq") (codes "pres") word refl h)
    equality h Substrings = sym (apart (codes "eq") (codes "sub") word refl h)

    presence : bytes_eq word (codes "pres") ≡ true → Same word Presence
    presence h Equality = sym (apart (codes "pres") (codes "eq") word refl h)
    presence h Presence = sym h
    presence h Substrings = sym (apart (codes "pres") (codes "sub") word refl h)

    substrings : bytes_eq word (codes "sub") ≡ true → Same word Substrings
    substrings h Equality = sym (apart (codes "sub") (codes "eq") word refl h)
    substrings h Presence = sym (apart (codes "sub") (codes "pres") word refl h)
    substrings h Substrings = sym h

    by : (a : Bool) → bytes_eq word (codes "eq") ≡ a → (b : Bool) → bytes_eq word (codes "pres") ≡ b → (c : Bool) → bytes_eq word (codes "sub") ≡ c
        → ◌≡◌ {A = Result IndexKind At} (cond a (Ok Equality) (cond b (Ok Presence) (cond c (Ok Substrings) (Err (line, Index))))) (Ok y) → Same word y
    by true a b bb c cc' said = subst (Same word) (same_ok Equality y said) (equality a)
    by false a true bb c cc' said = subst (Same word) (same_ok Presence y said) (presence bb)
    by false a false bb true cc' said = subst (Same word) (same_ok Substrings y said) (substrings cc')
    by false a false bb false cc' said = absurd cc

pub kinds_are : (line : ℕ) (words : List (List ℕ)) (ys : List IndexKind) → each (kind_named line) words ≡ Ok ys → (k : IndexKind) → list_any (same_kind k) ys ≡ list_any (is_kind_word k) words
unfolding each
kinds_are line [] ys e k = ap (λ (zs : List IndexKind). list_any (same_kind k) zs) (sym (same_ok {F = At} [] ys e))
kinds_are line (word ∷ words) ys e k =
    let one = bind_ok (kind_named line word) (λ y. each (kind_named line) words >>= λ zs. fine (y ∷ zs)) ys e in
    let rest = bind_ok (each (kind_named line) words) (λ zs. fine (one.0 ∷ zs)) ys one.2 in
    ap (λ (zs : List IndexKind). list_any (same_kind k) zs) (sym (same_ok {F = At} (one.0 ∷ rest.0) ys rest.2))
    ∙ (λ j. kind_is line word one.0 one.1 k j || kinds_are line words rest.0 rest.1 k j)

abbrev rest_of : ℕ → List (List ℕ) → IndexKind → Result (List IndexKind) At
rest_of line words k = each (kind_named line) words >>= λ ks. fine (k ∷ ks)

abbrev with_kind : ℕ → List (List ℕ) → Result IndexKind At → Result (List IndexKind) At
with_kind line words r = r >>= rest_of line words

-- each word stands for a kind
pub each_kind : (line : ℕ) (words : List (List ℕ)) → list_all is_some_kind words ≡ true → (ks : List IndexKind) × (each (kind_named line) words ≡ Ok ks)
unfolding each
each_kind line [] e = ([], refl)
each_kind line (word ∷ words) e = by (bytes_eq word (codes "eq")) (bytes_eq word (codes "pres")) (bytes_eq word (codes "sub")) e (each_kind line words)
  where
    behind : (k : IndexKind) → (ks : List IndexKind) × (each (kind_named line) words ≡ Ok ks) → (ks : List IndexKind) × (rest_of line words k ≡ Ok ks)
    behind k h = (k ∷ h.0, ap (λ (r : Result (List IndexKind) At). r >>= λ ks. fine (k ∷ ks)) h.1)

    by : (a b c : Bool) → ((a || (b || (c || false))) && list_all is_some_kind words) ≡ true → (list_all is_some_kind words ≡ true → (ks : List IndexKind) × (each (kind_named line) words ≡ Ok ks))
        → (ks : List IndexKind) × (with_kind line words (cond a (Ok Equality) (cond b (Ok Presence) (cond c (Ok Substrings) (Err (line, Index))))) ≡ Ok ks)
    by true b c e rest = behind Equality (rest e)
    by false true c e rest = behind Presence (rest e)
    by false false true e rest = behind Substrings (rest e)
    by false false false e rest = absurd cc

-- or one stands for none
pub one_is_no_kind : (line : ℕ) (words : List (List ℕ)) → list_all is_some_kind words ≡ false → each (kind_named line) words ≡ Err (line, Index)
unfolding each
one_is_no_kind line [] e = absurd cc
one_is_no_kind line (word ∷ words) e = by (bytes_eq word (codes "eq")) (bytes_eq word (codes "pres")) (bytes_eq word (codes "sub")) e (one_is_no_kind line words)
  where
    by : (a b c : Bool) → ((a || (b || (c || false))) && list_all is_some_kind words) ≡ false → (list_all is_some_kind words ≡ false → each (kind_named line) words ≡ Err (line, Index))
        → with_kind line words (cond a (Ok Equality) (cond b (Ok Presence) (cond c (Ok Substrings) (Err (line, Index))))) ≡ Err (line, Index)
    by true b c e rest = ap (λ (r : Result (List IndexKind) At). r >>= λ ks. fine (Equality ∷ ks)) (rest e)
    by false true c e rest = ap (λ (r : Result (List IndexKind) At). r >>= λ ks. fine (Presence ∷ ks)) (rest e)
    by false false true e rest = ap (λ (r : Result (List IndexKind) At). r >>= λ ks. fine (Substrings ∷ ks)) (rest e)
    by false false false e rest = refl

-- ---- its types

-- whether a kind of the line can't be kept
abbrev pub unkept : List AttributeType → List (List ℕ) → List (List ℕ) → IndexKind → Bool
unkept types names kinds k = list_any (is_kind_word k) kinds && list_any (λ name. lacks types k (type_of types name)) names

module _ (types : List AttributeType) (line : ℕ) where
  stands_for : (o : Option ℕ) (t : ℕ) → or_unknown line o ≡ Ok t → (k : IndexKind) → lacks types k o ≡ not (has_rule_for (type_at types t) k)
  stands_for None t e k = absurd cc
  stands_for (Some u) t e k = ap (λ (n : ℕ). not (has_rule_for (type_at types n) k)) (same_ok {F = At} u t e)

  lacking : (k : IndexKind) (names : List (List ℕ)) (ts : List ℕ) → each (type_named types line) names ≡ Ok ts → list_any (λ name. lacks types k (type_of types name)) names ≡ not (list_all (λ t. has_rule_for (type_at types t) k) ts)
  unfolding each
  lacking k [] ts e = ap (λ (us : List ℕ). not (list_all (λ t. has_rule_for (type_at types t) k) us)) (same_ok {F = At} [] ts e)
  lacking k (name ∷ names) ts e =
      let one = bind_ok (type_named types line name) (λ t. each (type_named types line) names >>= λ us. fine (t ∷ us)) ts e in
      let rest = bind_ok (each (type_named types line) names) (λ us. fine (one.0 ∷ us)) ts one.2 in
      (λ j. stands_for (type_of types name) one.0 one.1 k j || lacking k names rest.0 rest.1 j)
      ∙ sym (not_and (has_rule_for (type_at types one.0) k) (list_all (λ t. has_rule_for (type_at types t) k) rest.0))
      ∙ ap (λ (us : List ℕ). not (list_all (λ t. has_rule_for (type_at types t) k) us)) (same_ok {F = At} (one.0 ∷ rest.0) ts rest.2)

  -- ---- its slots

  abbrev has : IndexKind → ℕ → Bool
  has k t = has_rule_for (type_at types t) k

  slots_kept : (ts : List ℕ) (kinds : List IndexKind) → list_all (can_be_kept types) (slots_with ts kinds) ≡ list_all (λ t. list_all (λ k. has k t) kinds) ts
  slots_kept [] kinds = refl
  slots_kept (t ∷ ts) kinds =
      all_both (can_be_kept types) (map (λ k. record { type_id = t; kind = k }) kinds) (slots_with ts kinds)
      ∙ (λ j. all_map (can_be_kept types) (λ k. record { type_id = t; kind = k }) kinds j && slots_kept ts kinds j)

  turned : (a b : Bool) → (not a || b) ≡ not (a && not b)
  turned true true = refl
  turned true false = refl
  turned false b = refl

  pub all_kept : (names kinds : List (List ℕ)) (ts : List ℕ) (ks : List IndexKind) → each (type_named types line) names ≡ Ok ts → each (kind_named line) kinds ≡ Ok ks
      → list_all (can_be_kept types) (slots_with ts (each_once ks)) ≡ not (list_any (unkept types names kinds) every_kind)
  all_kept names kinds ts ks te ke =
      slots_kept ts (each_once ks)
      ∙ all_swap (λ t k. has k t) ts (each_once ks)
      ∙ all_filter (λ k. list_all (has k) ts) (λ k. list_any (same_kind k) ks) every_kind
      ∙ all_same (λ k. not (list_any (same_kind k) ks) || list_all (has k) ts) (λ k. not (unkept types names kinds k)) (λ k.
      turned (list_any (same_kind k) ks) (list_all (has k) ts)
      ∙ (λ j. not (kinds_are line kinds ks ke k j && sym (lacking k names ts te) j))) every_kind
      ∙ sym (not_any (unkept types names kinds) every_kind)
