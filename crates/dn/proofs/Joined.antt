-- A type, an equals sign and a value, put one behind the other.
use Rattle.std.proofs.Common.{◌≡◌, ℕ, zero, suc, ◌+◌, ◌-◌, ◌<◌, ◌≤◌, List, [], ◌∷◌, ◌++◌, set, take, drop, length, get_or, refl, sym, ap, subst, ◌∙◌, append_assoc, arith}
use Rattle.std.proofs.lemmas.List.{drop_more, length-append, length_push, length-set, length-drop}
use Rattle.std.proofs.lemmas.Slice.{take-put_mid}
use Rattle.std.proofs.Math.Seq.{set-append_seam, take-append_seam}
use borrow.Rule.Slice.PartMut.{put_mid}
use Rattle.dn.specs.Spelling.{spaces}
use Rattle.dn.specs.inner.Texts.{Starts, EndsAt}

one_more : (ty rest : List ℕ) → take (length ty + 1) (ty ++ 61 ∷ rest) ≡ ty ++ 61 ∷ []
one_more ty rest =
    ap (λ (n : ℕ). take n (ty ++ 61 ∷ rest)) (sym (length_push ty 61))
    ∙ ap (take (length (ty ++ 61 ∷ []))) (sym (append_assoc ty (61 ∷ []) rest))
    ∙ take-append_seam (ty ++ 61 ∷ []) rest

with_equals : (ty room : List ℕ) → length ty < length room → take (length ty + 1) (set (ty ++ drop (length ty) room) (length ty) 61) ≡ ty ++ 61 ∷ []
with_equals ty room lt =
    ap (λ (xs : List ℕ). take (length ty + 1) (set (ty ++ xs) (length ty) 61)) (drop_more room (length ty) 0 lt)
    ∙ ap (take (length ty + 1)) (set-append_seam ty (get_or room (length ty) 0) (drop (length ty + 1) room) 61)
    ∙ one_more ty (drop (length ty + 1) room)

long : (ty room : List ℕ) → length ty < length room → length ty + 1 ≤ length (set (ty ++ drop (length ty) room) (length ty) 61)
long ty room lt = omega (arith, length-set (ty ++ drop (length ty) room) (length ty) 61, length-append ty (drop (length ty) room), length-drop (length ty) room)

pub put_in : (ty value room : List ℕ) (k : ℕ) → length ty < length room → take (length ty + 1 + length value) (put_mid (length ty + 1) k (set (ty ++ drop (length ty) room) (length ty) 61) value) ≡ ty ++ 61 ∷ value
put_in ty value room k lt =
    take-put_mid (length ty + 1) k (set (ty ++ drop (length ty) room) (length ty) 61) value (length ty + 1 + length value) refl (long ty room lt)
    ∙ ap (λ (xs : List ℕ). xs ++ value) (with_equals ty room lt)
    ∙ append_assoc ty (61 ∷ []) value

-- ---- without spaces

length-spaces : (n : ℕ) → length (spaces n) ≡ n
length-spaces zero = refl
length-spaces (suc n) = ap suc (length-spaces n)

module _ (text ty value after : List ℕ) where
  abbrev spaced : ℕ → ℕ → List ℕ
  spaced n m = ty ++ (spaces n ++ (61 ∷ (spaces m ++ (value ++ after))))

  spaced_len : (n m : ℕ) → length (spaced n m) ≡ length ty + (n + (1 + (m + (length value + length after))))
  spaced_len n m =
      omega (arith, length-append ty (spaces n ++ (61 ∷ (spaces m ++ (value ++ after)))), length-append (spaces n) (61 ∷ (spaces m ++ (value ++ after))), length-append (spaces m) (value ++ after), length-append value after, length-spaces n, length-spaces m)

  unspaced : (n m end : ℕ) → text ≡ spaced n m → end + length after ≡ length text → end ≡ length ty + 1 + length value → text ≡ spaced 0 0
  unspaced n m end is ends few =
      let le = ap length is ∙ spaced_len n m in
      let none : n ≡ 0 = omega (arith, le, ends, few) in
      let none_too : m ≡ 0 = omega (arith, le, ends, few) in
      is ∙ ap (λ (k : ℕ). spaced k m) none ∙ ap (λ (k : ℕ). spaced 0 k) none_too

  front : text ≡ spaced 0 0 → take (length ty + 1 + length value) text ≡ ty ++ 61 ∷ value
  front is =
      let len : length ty + 1 + length value ≡ length (ty ++ 61 ∷ value) = omega (arith, length-append ty (61 ∷ value)) in
      ap (λ (n : ℕ). take n text) len
      ∙ ap (take (length (ty ++ 61 ∷ value))) (is ∙ sym (append_assoc ty (61 ∷ value) after))
      ∙ take-append_seam (ty ++ 61 ∷ value) after

pub front_holds : (text ty value : List ℕ) (end : ℕ) → EndsAt text ty value end → end ≡ length ty + 1 + length value → take (length ty + 1 + length value) text ≡ ty ++ 61 ∷ value
front_holds text ty value end h few = front text ty value h.after (unspaced text ty value h.after h.starts.before h.starts.behind end h.starts.is h.ends few)

-- ---- where a value ends

module _ (text ty rest value after : List ℕ) (start : Starts text ty rest) (is : rest ≡ value ++ after) where
  begins : Starts text ty (value ++ after)
  begins = subst (Starts text ty) is start

  pub after_fits : length after ≤ length text
  after_fits = omega (arith, ap length begins.is ∙ spaced_len text ty value after begins.before begins.behind)

  pub ends_at : EndsAt text ty value (length text - length after)
  ends_at = record { after = after; starts = begins; ends = omega (arith, after_fits) }
