-- RDNs below the suffix, as the code takes them off.
use Rattle.std.proofs.Common.{◌≡◌, Bool, true, false, cond, ℕ, ◌≤◌, ◌-◌, List, [], ◌∷◌, ◌++◌, length, map, reverse, take, drop, Result, Ok, Err, refl, sym, ap, ◌∙◌, arith}
use Rattle.std.specs.Prelude.{◌&&◌, if◌then◌else◌}
use Rattle.std.specs.Ordering.{is_eq}
use Rattle.std.proofs.lemmas.Bool.{and_parts}
use Rattle.std.proofs.lemmas.List.{take-append-drop, reverse-append, length-reverse, length-drop, drop_at}
use Rattle.values.specs.declared.types.AttributeType.{AttributeType}
use Rattle.schema.specs.declared.code.Code.{Code}
use Rattle.schema.specs.declared.code.Code.TheVariants.{NoSuchObject}
use Rattle.paths.specs.Paths.{Path, rdn_key_cmp, begins}
use Rattle.schema.specs.Rdns.{TypedRdn, rdn_key_of}
use Rattle.schema.specs.Conf.{below}

abbrev answer : Bool → List TypedRdn → Result (List TypedRdn) Code
answer b rs = if b then Ok rs else Err NoSuchObject

chosen : (a b : Bool) (rs : List TypedRdn) → cond a (answer b rs) (Err NoSuchObject) ≡ answer (a && b) rs
chosen true b rs = refl
chosen false b rs = refl

pub below_begins : (types : List AttributeType) (ss rs : List TypedRdn) → below types ss rs ≡ (if begins (map (rdn_key_of types) ss) (map (rdn_key_of types) rs) then Ok (drop (length ss) rs) else Err NoSuchObject)
unfolding below
below_begins types [] rs = refl
below_begins types (s ∷ ss) [] = refl
below_begins types (s ∷ ss) (r ∷ rs) =
    ap (λ (x : Result (List TypedRdn) Code). cond (is_eq (rdn_key_cmp (rdn_key_of types s) (rdn_key_of types r))) x (Err NoSuchObject)) (below_begins types ss rs)
    ∙ chosen (is_eq (rdn_key_cmp (rdn_key_of types s) (rdn_key_of types r))) (begins (map (rdn_key_of types) ss) (map (rdn_key_of types) rs)) (drop (length ss) rs)

module _ (types : List AttributeType) (ss rs : List TypedRdn) (keys : Path) (b : Bool) (seen : keys ≡ map (rdn_key_of types) rs) (test : b ≡ begins (map (rdn_key_of types) ss) keys) where
  by_test : below types ss rs ≡ answer b (drop (length ss) rs)
  by_test = below_begins types ss rs ∙ ap (λ (x : Path). answer (begins (map (rdn_key_of types) ss) x) (drop (length ss) rs)) (sym seen) ∙ ap (λ x. answer x (drop (length ss) rs)) (sym test)

  pub isnt_below : b ≡ false → below types ss rs ≡ Err NoSuchObject
  isnt_below off = by_test ∙ ap (λ x. answer x (drop (length ss) rs)) off

  pub is_below : b ≡ true → below types ss rs ≡ Ok (drop (length ss) rs)
  is_below on = by_test ∙ ap (λ x. answer x (drop (length ss) rs)) on

-- what stands in front, turned round, comes behind what stood last
pub reversed_front : {X : Type 0} (xs : List X) (k : ℕ) → k ≤ length xs → reverse (take (length xs - k) xs) ≡ drop k (reverse xs)
reversed_front {X} xs k le =
    let m : ℕ = length xs - k in
    let cut : reverse xs ≡ reverse (drop m xs) ++ reverse (take m xs) = ap (λ (ys : List X). reverse ys) (sym (take-append-drop m xs)) ∙ reverse-append (take m xs) (drop m xs) in
    let long : length (reverse (drop m xs)) ≡ k = omega (arith, length-reverse (drop m xs), length-drop m xs) in
    sym (ap (λ (ys : List X). drop k ys) cut ∙ drop_at (reverse (drop m xs)) (reverse (take m xs)) k long)

pub begins_long : (p q : Path) → begins p q ≡ true → length p ≤ length q
begins_long [] q h = omega arith
begins_long (x ∷ p) [] h = absurd cc
begins_long (x ∷ p) (y ∷ q) h = omega (arith, begins_long p q (and_parts (is_eq (rdn_key_cmp x y)) (begins p q) h).1)
