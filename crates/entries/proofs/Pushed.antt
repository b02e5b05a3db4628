-- Attributes stay good when a value is added.
use Rattle.std.proofs.Common.{◌≡◌, ℕ, ◌<◌, Bool, true, false, cond, List, [], ◌∷◌, ◌++◌, length, Option, Some, None, Ok, Err, inl, inr, refl, sym, ap, subst, ◌∙◌, arith}
use Rattle.std.specs.Prelude.{nat_eq, unwrap_or}
use Rattle.std.specs.Cmp.{IsEquivalence}
use Rattle.std.specs.List.{list_any, AllByRecursion, IsDistinct}
use Rattle.std.specs.Map.{lookup, keys_of}
use Rattle.std.proofs.lemmas.List.{length_push}
use Rattle.std.proofs.lemmas.List.Quantifiers.{position-Some}
use Rattle.std.proofs.lemmas.Bool.{or_from, or_parts, or_left, or_right, or_cases, eqb-true, lt-ltb}
use Rattle.std.proofs.lemmas.Cmp.{nat_eq_equiv, nat_list_eq_equiv, on_equiv}
use Rattle.std.proofs.lemmas.Map.Keys.{IsDistinct-push}
use Rattle.ldif.specs.Attrs.{Attr}
use Rattle.schema.specs.declared.code.Code.TheVariants.{ConstraintViolation, InvalidAttributeSyntax, AttributeOrValueExists}
use Rattle.values.specs.declared.types.AttributeType.{AttributeType}
use Rattle.values.specs.Types.{type_of, is_known, is_named, no_type}
use Rattle.schema.specs.Values.{norm_at, is_valid_at, are_equal}
use Rattle.schema.specs.Rdns.{Ava, TypedRdn}
use Rattle.schema.specs.GoodRdns.{IsAva}
use Rattle.base.proofs.Bound.{bind_ok, same_ok}
use Rattle.ldif.specs.declared.record.Mode.{Mode}
use Rattle.entries.specs.Entries.{Attribute, Attributes, values_of, has_equal, push_value, is_barred, typed_value, line_value, put_value, add_line, add_lines, with_rdn, IsAttribute}

pub equal_equiv : (types : List AttributeType) (t : ℕ) → IsEquivalence (are_equal types t)
equal_equiv types t = on_equiv (norm_at types t) nat_list_eq_equiv

pub record AreGood (types : List AttributeType) (attrs : Attributes) : Type 0 where
  pub all : AllByRecursion (IsAttribute types) attrs
  pub types_apart : IsDistinct nat_eq (keys_of attrs)

pub all_push : {X : Type 0} (P : X → Type 0) (xs : List X) (x : X) → AllByRecursion P xs → P x → AllByRecursion P (xs ++ x ∷ [])
all_push P [] x h g = (g, tt)
all_push P (y ∷ ys) x h g = (h.0, all_push P ys x h.1 g)

pub turned : (types : List AttributeType) (t : ℕ) (v : List ℕ) (vs : List (List ℕ)) → has_equal types t v vs ≡ false → list_any (are_equal types t v) vs ≡ false
turned types t v [] h = refl
turned types t v (w ∷ vs) h =
    let k = or_parts (are_equal types t w v) (list_any (λ x. are_equal types t x v) vs) h in
    or_from (are_equal types t v w) (list_any (are_equal types t v) vs) ((equal_equiv types t).symm v w ∙ k.0) (turned types t v vs k.1)

module _ (types : List AttributeType) (t : ℕ) (v : List ℕ) (known : is_known types t ≡ true) (ok : is_valid_at types t v ≡ true) where
  attribute_push : (a : Attribute) → IsAttribute types a → t ≡ a.0 → has_equal types t v a.1 ≡ false → IsAttribute types (a.0, a.1 ++ v ∷ [])
  attribute_push a is e new = record {
    known = is.known;
    some = lt-ltb 0 (length (a.1 ++ v ∷ [])) (omega (arith, length_push a.1 v));
    values = all_push (λ x. is_valid_at types a.0 x ≡ true) a.1 v is.values (subst (λ k. is_valid_at types k v ≡ true) e ok);
    apart = IsDistinct-push (equal_equiv types a.0) a.1 v is.apart (turned types a.0 v a.1 (subst (λ k. has_equal types k v a.1 ≡ false) e new));
  }

  attribute_new : IsAttribute types (t, v ∷ [])
  unfolding IsDistinct
  attribute_new = record { known = known; some = refl; values = (ok, tt); apart = (tt, tt) }

  all_pushed : (attrs : Attributes) → AllByRecursion (IsAttribute types) attrs → has_equal types t v (values_of attrs t) ≡ false → AllByRecursion (IsAttribute types) (push_value attrs t v)
  unfolding push_value
  all_pushed [] h new = (attribute_new, tt)
  all_pushed (a ∷ more) h new =
      elim (nat_eq t a.0) as (λ b. nat_eq t a.0 ≡ b → has_equal types t v (unwrap_or (cond b (Some a.1) (lookup (nat_eq t) more)) []) ≡ false → AllByRecursion (IsAttribute types) (cond b ((a.0, a.1 ++ v ∷ []) ∷ more) (a ∷ push_value more t v))) [
        | true ↦ λ is said. (attribute_push a h.0 (eqb-true t a.0 is) said, h.1)
        | false ↦ λ is said. (h.0, all_pushed more h.1 said)
      ] refl new

keys_pushed : (P : ℕ → Type 0) (attrs : Attributes) (t : ℕ) (v : List ℕ) → AllByRecursion P (keys_of attrs) → P t → AllByRecursion P (keys_of (push_value attrs t v))
unfolding push_value
keys_pushed P [] t v h g = (g, tt)
keys_pushed P (a ∷ more) t v h g =
    elim (nat_eq t a.0) as (λ b. AllByRecursion P (keys_of (cond b ((a.0, a.1 ++ v ∷ []) ∷ more) (a ∷ push_value more t v)))) [
      | true ↦ h
      | false ↦ (h.0, keys_pushed P more t v h.1 g)
    ]

types_pushed : (attrs : Attributes) (t : ℕ) (v : List ℕ) → IsDistinct nat_eq (keys_of attrs) → IsDistinct nat_eq (keys_of (push_value attrs t v))
unfolding push_value IsDistinct
types_pushed [] t v h = (tt, tt)
types_pushed (a ∷ more) t v h =
    elim (nat_eq t a.0) as (λ b. nat_eq t a.0 ≡ b → IsDistinct nat_eq (keys_of (cond b ((a.0, a.1 ++ v ∷ []) ∷ more) (a ∷ push_value more t v)))) [
      | true ↦ λ is. h
      | false ↦ λ is. (keys_pushed (λ k. nat_eq a.0 k ≡ false) more t v h.0 (nat_eq_equiv.symm a.0 t ∙ is), types_pushed more t v h.1)
    ] refl

pushed : (types : List AttributeType) (attrs : Attributes) (t : ℕ) (v : List ℕ) → AreGood types attrs → is_known types t ≡ true → is_valid_at types t v ≡ true → has_equal types t v (values_of attrs t) ≡ false → AreGood types (push_value attrs t v)
pushed types attrs t v h known ok new = record { all = all_pushed types t v known ok attrs h.all new; types_apart = types_pushed attrs t v h.types_apart }

-- ---- lines

pub type_below : (types : List AttributeType) (text : List ℕ) (t : ℕ) → type_of types text ≡ Some t → t < length types
unfolding type_of
type_below types text t e = (position-Some (is_named text) types t no_type e).0

pub type_known : (types : List AttributeType) (text : List ℕ) (t : ℕ) → type_of types text ≡ Some t → is_known types t ≡ true
type_known types text t e = lt-ltb t (length types) (type_below types text t e)

typed_good : (mode : Mode) (types : List AttributeType) (v : List ℕ) (o : Option ℕ) → ((t : ℕ) → o ≡ Some t → is_known types t ≡ true) → (p : Ava) → typed_value mode types v o ≡ Ok p → (is_known types p.0 ≡ true) × (is_valid_at types p.0 p.1 ≡ true)
typed_good mode types v None known p e = absurd cc
typed_good mode types v (Some t) known p e = by (is_barred mode types t) (is_valid_at types t v) refl e
  where
    by : (a b : Bool) → is_valid_at types t v ≡ b → cond a (Err ConstraintViolation) (cond b (Ok (t, v)) (Err InvalidAttributeSyntax)) ≡ Ok p → (is_known types p.0 ≡ true) × (is_valid_at types p.0 p.1 ≡ true)
    by true b valid said = absurd cc
    by false false valid said = absurd cc
    by false true valid said =
        let same : ◌≡◌ {A = Ava} (t, v) p = same_ok (t, v) p said in
        subst (λ (q : Ava). (is_known types q.0 ≡ true) × (is_valid_at types q.0 q.1 ≡ true)) same (known t refl, valid)

put_good : (types : List AttributeType) (attrs next : Attributes) (p : Ava) → AreGood types attrs → (is_known types p.0 ≡ true) × (is_valid_at types p.0 p.1 ≡ true) → put_value types attrs p ≡ Ok next → AreGood types next
put_good types attrs next p h good e = by (has_equal types p.0 p.1 (values_of attrs p.0)) refl e
  where
    by : (b : Bool) → has_equal types p.0 p.1 (values_of attrs p.0) ≡ b → cond b (Err AttributeOrValueExists) (Ok (push_value attrs p.0 p.1)) ≡ Ok next → AreGood types next
    by true new said = absurd cc
    by false new said = subst (AreGood types) (same_ok (push_value attrs p.0 p.1) next said) (pushed types attrs p.0 p.1 h good.0 good.1 new)

line_good : (mode : Mode) (types : List AttributeType) (attrs next : Attributes) (l : Attr) → AreGood types attrs → add_line mode types attrs l ≡ Ok next → AreGood types next
line_good mode types attrs next l h e =
    let k = bind_ok (line_value mode types l) (put_value types attrs) next e in
    put_good types attrs next k.0 h (typed_good mode types l.value (type_of types l.name) (type_known types l.name) k.0 k.1) k.2

pub lines_good : (mode : Mode) (types : List AttributeType) (ls : List Attr) (attrs out : Attributes) → AreGood types attrs → add_lines mode types attrs ls ≡ Ok out → AreGood types out
unfolding add_lines
lines_good mode types [] attrs out h e = subst (AreGood types) (same_ok attrs out e) h
lines_good mode types (l ∷ ls) attrs out h e =
    let k = bind_ok (add_line mode types attrs l) (λ more. add_lines mode types more ls) out e in
    lines_good mode types ls k.0 out (line_good mode types attrs k.0 l h k.1) k.2

-- ---- the RDN's values

pub rdn_good : (types : List AttributeType) (rdn : TypedRdn) (attrs : Attributes) → AllByRecursion (IsAva types) rdn → AreGood types attrs → AreGood types (with_rdn types rdn attrs)
unfolding with_rdn
rdn_good types [] attrs is h = h
rdn_good types (p ∷ ps) attrs is h =
    elim (has_equal types p.0 p.1 (values_of attrs p.0)) as (λ b. has_equal types p.0 p.1 (values_of attrs p.0) ≡ b → AreGood types (with_rdn types ps (cond b attrs (push_value attrs p.0 p.1)))) [
      | true ↦ λ there. rdn_good types ps attrs is.1 h
      | false ↦ λ there. rdn_good types ps (push_value attrs p.0 p.1) is.1 (pushed types attrs p.0 p.1 h is.0.known is.0.valid there)
    ] refl

module _ {X : Type 0} where
  abbrev values_in : Option (List X) → List X
  values_in o = unwrap_or o []

  -- the values after a push
  pub values_pushed : (attrs : List (ℕ × List X)) (t : ℕ) (v : X) (u : ℕ) → values_of (push_value attrs t v) u ≡ cond (nat_eq u t) (values_of attrs u ++ v ∷ []) (values_of attrs u)
  unfolding push_value
  values_pushed [] t v u = elim (nat_eq u t) as (λ b. values_in (cond b (Some (v ∷ [])) None) ≡ cond b (v ∷ []) []) [ true ↦ refl | false ↦ refl ]
  values_pushed (a ∷ more) t v u =
      elim (nat_eq t a.0) as (λ b. nat_eq t a.0 ≡ b → values_of (cond b ((a.0, a.1 ++ v ∷ []) ∷ more) (a ∷ push_value more t v)) u ≡ cond (nat_eq u t) (values_of (a ∷ more) u ++ v ∷ []) (values_of (a ∷ more) u)) [
        | true ↦ λ is.
            let ua : nat_eq u t ≡ nat_eq u a.0 = ap (nat_eq u) (eqb-true t a.0 is) in
            elim (nat_eq u a.0) as (λ b. values_in (cond b (Some (a.1 ++ v ∷ [])) (lookup (nat_eq u) more)) ≡ cond b (values_in (cond b (Some a.1) (lookup (nat_eq u) more)) ++ v ∷ []) (values_in (cond b (Some a.1) (lookup (nat_eq u) more)))) [ true ↦ refl | false ↦ refl ]
            ∙ ap (λ b. cond b (values_of (a ∷ more) u ++ v ∷ []) (values_of (a ∷ more) u)) (sym ua)
        | false ↦ λ is.
            elim (nat_eq u a.0) as (λ b. nat_eq u a.0 ≡ b → values_in (cond b (Some a.1) (lookup (nat_eq u) (push_value more t v))) ≡ cond (nat_eq u t) (values_in (cond b (Some a.1) (lookup (nat_eq u) more)) ++ v ∷ []) (values_in (cond b (Some a.1) (lookup (nat_eq u) more)))) [
              | true ↦ λ ua. ap (λ b. cond b (a.1 ++ v ∷ []) a.1) (sym (ap (λ k. nat_eq k t) (eqb-true u a.0 ua) ∙ nat_eq_equiv.symm a.0 t ∙ is))
              | false ↦ λ ua. values_pushed more t v u
            ] refl
      ] refl

any_left : {X : Type 0} (test : X → Bool) (xs ys : List X) → list_any test xs ≡ true → list_any test (xs ++ ys) ≡ true
any_left test [] ys h = absurd cc
any_left test (x ∷ xs) ys h = elim (or_cases (test x) (list_any test xs) h) [
  | inl e ↦ or_left (test x) (list_any test (xs ++ ys)) e
  | inr e ↦ or_right (test x) (list_any test (xs ++ ys)) (any_left test xs ys e)
]

any_last : {X : Type 0} (test : X → Bool) (xs : List X) (x : X) → test x ≡ true → list_any test (xs ++ x ∷ []) ≡ true
any_last test [] x h = or_left (test x) false h
any_last test (y ∷ ys) x h = or_right (test y) (list_any test (ys ++ x ∷ [])) (any_last test ys x h)

-- there is an equal value
abbrev pub IsThere : List AttributeType → Attributes → Ava → Type 0
IsThere types attrs p = has_equal types p.0 p.1 (values_of attrs p.0) ≡ true

stays : (types : List AttributeType) (attrs : Attributes) (t : ℕ) (v : List ℕ) (p : Ava) → IsThere types attrs p → IsThere types (push_value attrs t v) p
stays types attrs t v p h =
    ap (has_equal types p.0 p.1) (values_pushed attrs t v p.0)
    ∙ elim (nat_eq p.0 t) as (λ b. has_equal types p.0 p.1 (cond b (values_of attrs p.0 ++ v ∷ []) (values_of attrs p.0)) ≡ true) [
      | true ↦ any_left (λ w. are_equal types p.0 w p.1) (values_of attrs p.0) (v ∷ []) h
      | false ↦ h
    ]

comes : (types : List AttributeType) (attrs : Attributes) (t : ℕ) (v : List ℕ) → IsThere types (push_value attrs t v) (t, v)
comes types attrs t v =
    ap (has_equal types t v) (values_pushed attrs t v t ∙ ap (λ b. cond b (values_of attrs t ++ v ∷ []) (values_of attrs t)) (nat_eq_equiv.refl t))
    ∙ any_last (λ w. are_equal types t w v) (values_of attrs t) v ((equal_equiv types t).refl v)

kept : (types : List AttributeType) (rdn : TypedRdn) (attrs : Attributes) (p : Ava) → IsThere types attrs p → IsThere types (with_rdn types rdn attrs) p
unfolding with_rdn
kept types [] attrs p h = h
kept types (q ∷ qs) attrs p h =
    elim (has_equal types q.0 q.1 (values_of attrs q.0)) as (λ b. IsThere types (with_rdn types qs (cond b attrs (push_value attrs q.0 q.1))) p) [
      | true ↦ kept types qs attrs p h
      | false ↦ kept types qs (push_value attrs q.0 q.1) p (stays types attrs q.0 q.1 p h)
    ]

pub all_come : (types : List AttributeType) (rdn : TypedRdn) (attrs : Attributes) → AllByRecursion (IsThere types (with_rdn types rdn attrs)) rdn
unfolding with_rdn
all_come types [] attrs = tt
all_come types (p ∷ ps) attrs =
    elim (has_equal types p.0 p.1 (values_of attrs p.0)) as (λ b. has_equal types p.0 p.1 (values_of attrs p.0) ≡ b → AllByRecursion (IsThere types (with_rdn types ps (cond b attrs (push_value attrs p.0 p.1)))) (p ∷ ps)) [
      | true ↦ λ there. (kept types ps attrs p there, all_come types ps attrs)
      | false ↦ λ there. (kept types ps (push_value attrs p.0 p.1) p (comes types attrs p.0 p.1), all_come types ps (push_value attrs p.0 p.1))
    ] refl
