-- Lines that are added one by one, and which values are there behind some.
use Rattle.std.proofs.Common.{◌≡◌, ◌↔◌, ℕ, Bool, true, false, cond, ◌||◌, List, [], ◌∷◌, ◌++◌, fold, length, take, Option, Some, None, refl, sym, ap, ◌∙◌}
use Rattle.std.specs.Prelude.{◌&&◌, nat_eq}
use Rattle.std.specs.List.{list_any, Any, slice_get}
use Rattle.std.proofs.lemmas.Bool.{eqb-true, eq-eqb}
use Rattle.std.proofs.lemmas.List.Folds.{list_any-append}
use Rattle.std.proofs.lemmas.List.Sums.{fold-append}
use Rattle.ldif.specs.Attrs.{Attr}
use Rattle.values.specs.declared.types.AttributeType.{AttributeType}
use Rattle.values.specs.Types.{type_of}
use Rattle.schema.specs.Conf.{Conf}
use Rattle.schema.specs.Values.{are_equal}
use Rattle.schema.specs.Subtypes.{passes}
use Rattle.entries.specs.Entries.{Attributes, values_of, has_equal}
use Rattle.entries.proofs.Pushed.{values_pushed}
use Rattle.reasons.specs.LineFlaws.{SaysEqual, put_typed, put_line, gathered}
use Rattle.reasons.proofs.Elements.{any_told, both, joined}

-- ---- the element behind some

pub get_seam : {X : Type 0} (xs : List X) (y : X) (ys : List X) → slice_get (xs ++ y ∷ ys) (length xs) ≡ Some y
get_seam [] y ys = refl
get_seam (x ∷ xs) y ys = get_seam xs y ys

pub take_seam : {X : Type 0} (xs ys : List X) → take (length xs) (xs ++ ys) ≡ xs
take_seam [] ys = refl
take_seam {X} (x ∷ xs) ys = ap (λ (zs : List X). x ∷ zs) (take_seam xs ys)

-- ---- which values are there

or_false : (b : Bool) → b ≡ (b || false)
or_false true = refl
or_false false = refl

or_assoc : (a b c : Bool) → ((a || b) || c) ≡ (a || (b || c))
or_assoc true b c = refl
or_assoc false b c = refl

-- whether a line has this type, and a value that equals this one
abbrev pub says : List AttributeType → ℕ → List ℕ → Attr → Bool
says types t v l = passes (nat_eq t) (type_of types l.name) && are_equal types t l.value v

abbrev some_number : ℕ → Option ℕ
some_number n = Some n

pub is_it : (t : ℕ) (o : Option ℕ) → passes (nat_eq t) o ≡ true → o ≡ Some t
is_it t None h = absurd cc
is_it t (Some u) h = ap (λ (s : ℕ). some_number s) (sym (eqb-true t u h))

it_is : (t : ℕ) (o : Option ℕ) → o ≡ Some t → passes (nat_eq t) o ≡ true
it_is t o h = ap (passes (nat_eq t)) h ∙ eq-eqb t t refl

pub earlier_told : (conf : Conf) (t : ℕ) (v : List ℕ) (ls : List Attr) → (list_any (says conf.types t v) ls ≡ true) ↔ Any (SaysEqual conf t v) ls
earlier_told conf t v ls = any_told (says conf.types t v) (SaysEqual conf t v) told ls
  where
    told : (l : Attr) → (says conf.types t v l ≡ true) ↔ SaysEqual conf t v l
    told l = (
      λ h. let k = both (passes (nat_eq t) (type_of conf.types l.name)) (are_equal conf.types t l.value v) h in (is_it t (type_of conf.types l.name) k.0, k.1),
      λ h. joined (passes (nat_eq t) (type_of conf.types l.name)) (are_equal conf.types t l.value v) (it_is t (type_of conf.types l.name) h.0) h.1,
    )

module _ (types : List AttributeType) where
  -- whether the values of a type with one more line
  one_more : (attrs : Attributes) (t : ℕ) (v w : List ℕ) (o : Option ℕ)
      → has_equal types t v (values_of (put_typed attrs w o) t) ≡ (has_equal types t v (values_of attrs t) || (passes (nat_eq t) o && are_equal types t w v))
  one_more attrs t v w None = or_false (has_equal types t v (values_of attrs t))
  one_more attrs t v w (Some u) = ap (has_equal types t v) (values_pushed attrs u w t) ∙ by (nat_eq t u)
    where
      by : (b : Bool) → has_equal types t v (cond b (values_of attrs t ++ w ∷ []) (values_of attrs t)) ≡ (has_equal types t v (values_of attrs t) || (b && are_equal types t w v))
      by true = list_any-append (λ x. are_equal types t x v) (values_of attrs t) (w ∷ []) ∙ ap (λ (b : Bool). has_equal types t v (values_of attrs t) || b) (sym (or_false (are_equal types t w v)))
      by false = or_false (has_equal types t v (values_of attrs t))

  same_values : (ls : List Attr) (attrs : Attributes) (t : ℕ) (v : List ℕ)
      → has_equal types t v (values_of (fold (put_line types) attrs ls) t) ≡ (has_equal types t v (values_of attrs t) || list_any (says types t v) ls)
  same_values [] attrs t v = or_false (has_equal types t v (values_of attrs t))
  same_values (l ∷ ls) attrs t v =
      same_values ls (put_line types attrs l) t v
      ∙ ap (λ (b : Bool). b || list_any (says types t v) ls) (one_more attrs t v l.value (type_of types l.name))
      ∙ or_assoc (has_equal types t v (values_of attrs t)) (says types t v l) (list_any (says types t v) ls)

  pub gathered_more : (ls : List Attr) (l : Attr) → gathered types (ls ++ l ∷ []) ≡ put_line types (gathered types ls) l
  gathered_more ls l = fold-append (put_line types) [] ls (l ∷ [])

  pub equal_there : (ls : List Attr) (t : ℕ) (v : List ℕ) → has_equal types t v (values_of (gathered types ls) t) ≡ list_any (says types t v) ls
  equal_there ls t v = same_values ls [] t v
