-- Types by their names, one name after the other.
use Rattle.std.proofs.Common.{◌≡◌, ℕ, ◌+◌, ◌<◌, Bool, true, false, cond, ◌||◌, List, [], ◌∷◌, ◌++◌, map, length, Option, Some, None, refl, sym, ap, ◌∙◌, arith}
use Rattle.std.specs.Prelude.{IfSome, position}
use Rattle.std.specs.List.{list_any, position_from}
use Rattle.std.specs.Str.{str_eq_ignore_ascii_case}
use Rattle.std.proofs.lemmas.List.{append-nil, append_assoc}
use Rattle.std.proofs.lemmas.List.Quantifiers.{position-Some}
use Rattle.std.proofs.lemmas.Iterator.Adapters.{position_from-zero}
use Rattle.values.specs.declared.types.AttributeType.{AttributeType}
use Rattle.values.specs.declared.name_index.NameEntry.{NameEntry}
use Rattle.values.specs.Tables.{named, number_of, or_if, FindsTypes}
use Rattle.values.specs.Types.{type_of, is_named, no_type}

pub or_none : (o : Option ℕ) (t : ℕ) → o ≡ or_if o false t
or_none (Some n) t = refl
or_none None t = refl

or_twice : (o : Option ℕ) (a b : Bool) (t : ℕ) → or_if (or_if o a t) b t ≡ or_if o (a || b) t
or_twice (Some n) a b t = refl
or_twice None true b t = refl
or_twice None false b t = refl

-- ---- entries of an index

-- one entry more
pub number_push : (es : List NameEntry) (e : NameEntry) (text : List ℕ) → number_of (es ++ e ∷ []) text ≡ or_if (number_of es text) (str_eq_ignore_ascii_case e.name text) e.number
number_push [] e text = refl
number_push (d ∷ es) e text =
    elim (str_eq_ignore_ascii_case d.name text) as (λ b. cond b (Some d.number) (number_of (es ++ e ∷ []) text) ≡ or_if (cond b (Some d.number) (number_of es text)) (str_eq_ignore_ascii_case e.name text) e.number) [
      | true ↦ refl
      | false ↦ number_push es e text
    ]

-- several names with one number more
pub numbers_more : (es : List NameEntry) (names : List (List ℕ)) (t : ℕ) (text : List ℕ) → number_of (es ++ map (named t) names) text ≡ or_if (number_of es text) (list_any (λ n. str_eq_ignore_ascii_case n text) names) t
numbers_more es [] t text = ap (λ (xs : List NameEntry). number_of xs text) (append-nil es) ∙ or_none (number_of es text) t
numbers_more es (n ∷ ns) t text =
    ap (λ (xs : List NameEntry). number_of xs text) (sym (append_assoc es (named t n ∷ []) (map (named t) ns)))
    ∙ numbers_more (es ++ named t n ∷ []) ns t text
    ∙ ap (λ (o : Option ℕ). or_if o (list_any (λ m. str_eq_ignore_ascii_case m text) ns) t) (number_push es (named t n) text)
    ∙ or_twice (number_of es text) (str_eq_ignore_ascii_case n text) (list_any (λ m. str_eq_ignore_ascii_case m text) ns) t

-- ---- types

from_push : {X : Type 0} (p : X → Bool) (i : ℕ) (xs : List X) (y : X) → position_from p i (xs ++ y ∷ []) ≡ or_if (position_from p i xs) (p y) (i + length xs)
from_push p i [] y = ap (λ n. or_if None (p y) n) (omega arith)
from_push p i (x ∷ xs) y =
    elim (p x) as (λ b. cond b (Some i) (position_from p (i + 1) (xs ++ y ∷ [])) ≡ or_if (cond b (Some i) (position_from p (i + 1) xs)) (p y) (i + length (x ∷ xs))) [
      | true ↦ refl
      | false ↦ from_push p (i + 1) xs y ∙ ap (λ n. or_if (position_from p (i + 1) xs) (p y) n) (omega arith)
    ]

position_push : {X : Type 0} (p : X → Bool) (xs : List X) (y : X) → position p (xs ++ y ∷ []) ≡ or_if (position p xs) (p y) (length xs)
position_push p xs y =
    position_from-zero p (xs ++ y ∷ []) ∙ from_push p 0 xs y ∙ ap (λ n. or_if (position_from p 0 xs) (p y) n) (omega arith) ∙ ap (λ (o : Option ℕ). or_if o (p y) (length xs)) (sym (position_from-zero p xs))

-- one type more
pub type_more : (types : List AttributeType) (new : AttributeType) (text : List ℕ) → type_of (types ++ new ∷ []) text ≡ or_if (type_of types text) (is_named text new) (length types)
unfolding type_of
type_more types new text = position_push (is_named text) types new

abbrev pub some : ℕ → Option ℕ
some t = Some t

pub is_known : (types : List AttributeType) (text : List ℕ) (o : Option ℕ) → o ≡ type_of types text → IfSome o (λ t. t < length types)
unfolding type_of
is_known types text (Some t) e = (position-Some (is_named text) types t no_type (sym e)).0
is_known types text None e = tt

-- nothing is found where there is no type
pub none_found : (entries : List NameEntry) → entries ≡ [] → FindsTypes entries []
unfolding type_of
none_found entries none name = ap (λ (es : List NameEntry). number_of es name) none
