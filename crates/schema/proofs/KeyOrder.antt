-- The key of an RDN has the pairs of its AVAs, by the numbers of their types.
use Rattle.std.proofs.Common.{◌≡◌, ℕ, ◌≤◌, false, List, [], ◌∷◌, ◌++◌, map, subst, arith}
use Rattle.std.specs.Prelude.{nat_lt}
use Rattle.std.specs.List.{prefix_len}
use Rattle.std.specs.List.Sorted.{IsNonDecreasingBy, IsPermutation}
use Rattle.std.proofs.lemmas.Bool.{ltb-true}
use Rattle.std.proofs.lemmas.Bool.Decides.{nat_tests}
use Rattle.std.proofs.lemmas.List.{append-nil}
use Rattle.std.proofs.lemmas.List.Sums.{prefix_len_passes, prefix_len_stops, prefix_len-le-length}
use Rattle.std.proofs.lemmas.List.Sorted.{IsNonDecreasingBy-insert, IsPermutation-refl, IsPermutation-insert, IsPermutation-trans, IsPermutation-append_left, IsPermutation-middle}
use Rattle.values.specs.declared.types.AttributeType.{AttributeType}
use Rattle.paths.specs.Paths.{Pair, RdnKey}
use Rattle.schema.specs.Rdns.{TypedRdn, type_of_pair, is_lower, put_pair, pair_of, key_from, rdn_key_of}

-- ---- their order

stops_le : (a b : ℕ) → nat_lt a b ≡ false → b ≤ a
stops_le a b h = grind (arith, nat_tests)

put_rises : (p : Pair) (key : RdnKey) → IsNonDecreasingBy type_of_pair key → IsNonDecreasingBy type_of_pair (put_pair p key)
unfolding put_pair
put_rises p key up =
    let before = is_lower p.0 in
    let at = prefix_len before key in
    IsNonDecreasingBy-insert type_of_pair key at p up (prefix_len-le-length before key)
    (λ k d lt. let below = ltb-true _ _ (prefix_len_passes before key k d lt) in omega (arith, below))
    (λ k d le lt. let first = stops_le _ _ (prefix_len_stops before key d (omega (arith, le, lt))) in omega (arith, first, up at k d le lt))

key_rises : (types : List AttributeType) (key : RdnKey) (r : TypedRdn) → IsNonDecreasingBy type_of_pair key → IsNonDecreasingBy type_of_pair (key_from types key r)
unfolding key_from
key_rises types key [] up = up
key_rises types key (p ∷ ps) up = key_rises types (put_pair (pair_of types p) key) ps (put_rises (pair_of types p) key up)

pub keys_rise : (types : List AttributeType) (r : TypedRdn) → IsNonDecreasingBy type_of_pair (rdn_key_of types r)
unfolding rdn_key_of
keys_rise types r = key_rises types [] r (λ i j d le lt. absurd (omega (arith, lt)))

-- ---- which they are

key_has : (types : List AttributeType) (key : RdnKey) (r : TypedRdn) → IsPermutation (key ++ map (pair_of types) r) (key_from types key r)
unfolding key_from put_pair
key_has types key [] = subst (IsPermutation (key ++ [])) (append-nil key) (IsPermutation-refl (key ++ []))
key_has types key (p ∷ ps) =
    let pair = pair_of types p in
    let rest = map (pair_of types) ps in
    let next = put_pair pair key in
    IsPermutation-trans _ (pair ∷ (key ++ rest)) _ (IsPermutation-middle key pair rest)
    (IsPermutation-trans _ (next ++ rest) _ (IsPermutation-append_left rest (pair ∷ key) next (IsPermutation-insert key (prefix_len (is_lower pair.0) key) pair))
    (key_has types next ps))

pub keys_have : (types : List AttributeType) (r : TypedRdn) → IsPermutation (map (pair_of types) r) (rdn_key_of types r)
unfolding rdn_key_of
keys_have types r = key_has types [] r
