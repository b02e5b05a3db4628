-- What base64 decodes to are bytes.
use Rattle.std.proofs.Common.{◌≡◌, ℕ, zero, suc, ◌+◌, ◌*◌, ◌/◌, ◌<◌, ◌≤◌, true, List, [], ◌∷◌, ◌++◌, length, get_or, take, drop, Option, Some, None, Ok, Err, refl, arith, inl, inr}
use Rattle.std.proofs.lemmas.List.{length-drop, get_or-drop}
use Rattle.base64.specs.Decode.{or_else, symbol_error, group_error, group_bytes, groups_error, groups_bytes, groups_before_last, decode_group, decode_error, decode_outcome, decoded_bytes, no_leftover, scan_last, lone_error, suffix_error, suffix_bytes}
use Rattle.base64.specs.GeneralPurpose.{decode_of, IsBytes}
use Rattle.base64.specs.Engines.{standard}
use Rattle.base64.specs.declared.decode.DecodeError.{DecodeError}
use Rattle.base64.specs.Tables.{is_inverse}
use Rattle.base64.proofs.Tables.{encode-decode_table, are_tables_inverse}
use Rattle.base64.proofs.Canonical.{IsScanned-scan}
use Rattle.base64.proofs.EngineFacts.{decode_of_bytes}

or_none : (x y : Option DecodeError) → or_else x y ≡ None → (x ≡ None) × (y ≡ None)
or_none None y e = (refl, e)
or_none (Some x) y e = absurd cc

bytes_append : (a b : List ℕ) → IsBytes a → IsBytes b → IsBytes (a ++ b)
bytes_append [] b h k i = k i
bytes_append (x ∷ a) b h k zero = h 0
bytes_append (x ∷ a) b h k (suc i) = bytes_append a b (λ j. h (suc j)) k i

bytes_take : (n : ℕ) (a : List ℕ) → IsBytes a → IsBytes (take n a)
bytes_take zero a h i = omega arith
bytes_take (suc n) [] h i = omega arith
bytes_take (suc n) (x ∷ a) h zero = h 0
bytes_take (suc n) (x ∷ a) h (suc i) = bytes_take n a (λ j. h (suc j)) i

group_small : (m0 m1 m2 m3 : ℕ) → m0 < 64 → m1 < 64 → m2 < 64 → m3 < 64 → IsBytes (decode_group m0 m1 m2 m3)
group_small m0 m1 m2 m3 a b c d zero = omega arith
group_small m0 m1 m2 m3 a b c d (suc zero) = omega arith
group_small m0 m1 m2 m3 a b c d (suc (suc zero)) = omega arith
group_small m0 m1 m2 m3 a b c d (suc (suc (suc i))) = omega arith

zeros_below : (k : ℕ) → get_or (0 ∷ 0 ∷ 0 ∷ 0 ∷ []) k 0 < 64
zeros_below zero = omega arith
zeros_below (suc zero) = omega arith
zeros_below (suc (suc zero)) = omega arith
zeros_below (suc (suc (suc zero))) = omega arith
zeros_below (suc (suc (suc (suc k)))) = omega arith

module _ (enc dec : List ℕ) (inv : is_inverse enc dec ≡ true) (s : List ℕ) (bytes : IsBytes s) where
  symbol_small : (i : ℕ) → symbol_error dec s i ≡ None → get_or dec (get_or s i 0) 0 < 64
  symbol_small i none = elim (encode-decode_table enc dec inv (get_or s i 0) (bytes i)) [
    | inl bad ↦ absurd (let k = rw bad at none in cc)
    | inr fine ↦ fine.0
  ]

  groups_small : (q : ℕ) → groups_error dec s q ≡ None → IsBytes (groups_bytes dec s q)
  unfolding groups_error groups_bytes
  groups_small zero none = λ i. omega arith
  groups_small (suc q) none =
      let i = 4 * q in
      let parts = or_none (groups_error dec s q) (group_error dec s i) none in
      let p0 = or_none (symbol_error dec s i) (or_else (symbol_error dec s (i + 1)) (or_else (symbol_error dec s (i + 2)) (symbol_error dec s (i + 3)))) parts.1 in
      let p1 = or_none (symbol_error dec s (i + 1)) (or_else (symbol_error dec s (i + 2)) (symbol_error dec s (i + 3))) p0.1 in
      let p2 = or_none (symbol_error dec s (i + 2)) (symbol_error dec s (i + 3)) p1.1 in
      bytes_append (groups_bytes dec s q) (group_bytes dec s i) (groups_small q parts.0)
      (group_small _ _ _ _ (symbol_small i p0.0) (symbol_small (i + 1) p1.0) (symbol_small (i + 2) p2.0) (symbol_small (i + 3) p2.1))

  suffix_small : (pad at : ℕ) → at ≤ length s → length s ≤ at + 4 → IsBytes (suffix_bytes dec pad at s)
  suffix_small pad at start short =
      elim (scan_last dec pad at s) as (λ x. scan_last dec pad at s ≡ x → IsBytes (suffix_bytes dec pad at s)) [
        | Ok st ↦ λ k. (
            let rest = drop at s in
            let rest_bytes : (i : ℕ) → get_or rest i 0 < 256 = λ i. rw (get_or-drop at s i 0) (bytes (at + i)) in
            let small : (i : ℕ) → get_or st.morsels i 0 < 64 =
            (IsScanned-scan enc dec rest pad at rest no_leftover st 0 inv rest_bytes (omega (arith, length-drop at s)) (omega arith) refl
            ((refl, refl, λ j lt. absurd (omega arith), λ j low lt. absurd (omega arith)), (omega arith, omega arith, omega arith, zeros_below)) k).1.3 in
            rw k (bytes_take (st.morsels_count * 6 / 8) (decode_group (get_or st.morsels 0 0) (get_or st.morsels 1 0) (get_or st.morsels 2 0) (get_or st.morsels 3 0)) (group_small _ _ _ _ (small 0) (small 1) (small 2) (small 3))))
        | Err d ↦ λ k. rw k (λ i. omega arith)
      ] refl

outcome_none : (error : Option DecodeError) (bytes b : List ℕ) → decode_outcome error bytes ≡ Ok b → error ≡ None
outcome_none None bytes b e = refl
outcome_none (Some x) bytes b e = absurd cc

pub decoded_are_bytes : (s v : List ℕ) → IsBytes s → decode_of standard s ≡ Ok v → IsBytes v
decoded_are_bytes s v bytes h =
    let enc = standard.encode_table in
    let dec = standard.decode_table in
    let pad = standard.padding.value in
    let inv = are_tables_inverse enc dec pad standard.tables in
    let q = groups_before_last (length s) in
    let none = outcome_none (decode_error dec pad standard.config.decode_allow_trailing_bits standard.config.decode_padding_mode s) (decoded_bytes dec pad s) v h in
    let p0 = or_none (lone_error dec pad s) (or_else (groups_error dec s q) (suffix_error dec pad standard.config.decode_allow_trailing_bits standard.config.decode_padding_mode (4 * q) s)) none in
    let p1 = or_none (groups_error dec s q) (suffix_error dec pad standard.config.decode_allow_trailing_bits standard.config.decode_padding_mode (4 * q) s) p0.1 in
    decode_of_bytes standard s v
    (bytes_append (groups_bytes dec s q) (suffix_bytes dec pad (4 * q) s) (groups_small enc dec inv s bytes q p1.0)
    (suffix_small enc dec inv s bytes pad (4 * q) (omega arith) (omega arith))) h
