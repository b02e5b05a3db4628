-- Types by their printed names.
use Rattle.std.proofs.Common.{◌≡◌, ℕ, zero, suc, ◌+◌, ◌<◌, Bool, true, false, cond, ◌||◌, List, [], ◌∷◌, length, Some, None, refl, ap, ◌∙◌, arith}
use Rattle.std.specs.Prelude.{nat_lt}
use Rattle.std.specs.List.{list_any, position_or_len, AllByRecursion, IsDistinct}
use Rattle.std.specs.Str.{str_eq_ignore_ascii_case, str_to_ascii_lowercase}
use Rattle.std.proofs.lemmas.Bool.{ltb-true, lt-ltb, or_parts, or_left}
use Rattle.std.proofs.lemmas.Cmp.{nat_list_eq_equiv}
use Rattle.values.specs.declared.types.AttributeType.{AttributeType}
use Rattle.values.specs.Types.{names_of, is_named, type_of, printed_name, name_of, type_at, is_known, first_or}
use Rattle.schema.specs.Conf.{share_name, Conf, IsConf, IsType}

same_word : (a : List ℕ) → str_eq_ignore_ascii_case a a ≡ true
same_word a = nat_list_eq_equiv.refl (str_to_ascii_lowercase a)

or_right : (a b : Bool) → b ≡ true → (a || b) ≡ true
or_right true b h = refl
or_right false b h = h

-- a type has the name that it is printed by
printed_is_name : (t : AttributeType) → is_named (printed_name t) t ≡ true
printed_is_name t = by t.names
  where
    by : (ns : List (List ℕ)) → list_any (λ n. str_eq_ignore_ascii_case n (first_or ns t.oid)) (t.oid ∷ ns) ≡ true
    by [] = or_left (str_eq_ignore_ascii_case t.oid t.oid) false (same_word t.oid)
    by (n ∷ ns) = or_right (str_eq_ignore_ascii_case t.oid n) _ (or_left (str_eq_ignore_ascii_case n n) _ (same_word n))

-- what holds of no name doesn't hold of the printed one
printed_isnt : (P : List ℕ → Bool) (t : AttributeType) → list_any P (names_of t) ≡ false → P (printed_name t) ≡ false
printed_isnt P t h = by t.names h
  where
    by : (ns : List (List ℕ)) → list_any P (t.oid ∷ ns) ≡ false → P (first_or ns t.oid) ≡ false
    by [] h = (or_parts (P t.oid) false h).0
    by (n ∷ ns) h = (or_parts (P n) (list_any P ns) (or_parts (P t.oid) (list_any P (n ∷ ns)) h).1).0

at_type : (P : AttributeType → Type 0) (xs : List AttributeType) (t : ℕ) → t < length xs → AllByRecursion P xs → P (type_at xs t)
at_type P [] t lt h = absurd (omega arith)
at_type P (x ∷ xs) zero lt h = h.0
at_type P (x ∷ xs) (suc t) lt h = at_type P xs t (omega arith) h.1

place_here : {X : Type 0} (p : X → Bool) (x : X) (xs : List X) → p x ≡ true → position_or_len p (x ∷ xs) ≡ 0
place_here p x xs h = rw h refl

place_after : {X : Type 0} (p : X → Bool) (x : X) (xs : List X) → p x ≡ false → position_or_len p (x ∷ xs) ≡ 1 + position_or_len p xs
place_after p x xs h = rw h refl

-- the first type that has the name is the type itself
place_is : (xs : List AttributeType) (t : ℕ) → t < length xs → IsDistinct share_name xs → position_or_len (is_named (name_of xs t)) xs ≡ t
unfolding IsDistinct
place_is [] t lt h = absurd (omega arith)
place_is (x ∷ xs) zero lt h = place_here (is_named (printed_name x)) x xs (printed_is_name x)
place_is (x ∷ xs) (suc t) lt h =
    let off : is_named (name_of xs t) x ≡ false = printed_isnt (λ n. is_named n x) (type_at xs t) (at_type (λ y. share_name x y ≡ false) xs t (omega arith) h.0) in
    place_after (is_named (name_of xs t)) x xs off ∙ ap (λ n. 1 + n) (place_is xs t (omega arith) h.1) ∙ (let e : 1 + t ≡ suc t = omega arith in e)

pub type_is : (conf : Conf) (t : ℕ) → IsConf conf → is_known conf.types t ≡ true → type_of conf.types (name_of conf.types t) ≡ Some t
unfolding type_of
type_is conf t h known =
    let lt : t < length conf.types = ltb-true t (length conf.types) known in
    let place = place_is conf.types t lt h.types_apart in
    ap (λ n. cond (nat_lt n (length conf.types)) (Some n) None) place ∙ ap (λ b. cond b (Some t) None) (lt-ltb t (length conf.types) lt)

pub is_type_at : (conf : Conf) (t : ℕ) → IsConf conf → is_known conf.types t ≡ true → IsType (type_at conf.types t)
is_type_at conf t h known = at_type IsType conf.types t (ltb-true t (length conf.types) known) h.types
