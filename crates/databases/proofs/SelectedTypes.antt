-- Of each type, whether it is selected.
use Rattle.std.proofs.Common.{◌≡◌, ℕ, ◌<◌, ◌≤◌, ◌+◌, Bool, false, cond, List, [], ◌∷◌, ◌++◌, length, ◌⊎◌, inl, inr, Some, sym, ap, ◌∙◌, arith}
use Rattle.std.specs.Prelude.{get_or, codes}
use Rattle.std.specs.Str.{bytes_eq}
use Rattle.std.proofs.Math.Seq.{get_or-append_seam}
use Rattle.std.proofs.lemmas.Bool.{cases_lt}
use Rattle.std.proofs.lemmas.List.{get_or_append_left}
use Rattle.std.proofs.lemmas.Option.{unwrap_or-slice_get}
use Rattle.values.specs.declared.types.AttributeType.{AttributeType}
use Rattle.values.specs.Types.{type_of, type_at}
use Rattle.schema.specs.Subtypes.{passes, is_subtype}
use Rattle.databases.specs.Selections.{is_user_type, asks_for, selects}

flag_at : (flags : List Bool) (t : ℕ) → selects (Some flags) t ≡ get_or flags t false
flag_at flags t = unwrap_or-slice_get flags t false

-- a word that is neither `*` nor `+`, and names a type
pub by_name : (types : List AttributeType) (t : ℕ) (word : List ℕ) (above : ℕ) (answer : Bool) → bytes_eq word (codes "*") ≡ false → bytes_eq word (codes "+") ≡ false → type_of types word ≡ Some above
    → answer ≡ is_subtype types t above → answer ≡ asks_for types t word
by_name types t word above answer star plus named is =
    let named_by : Bool = passes (λ u. is_subtype types t u) (type_of types word) in
    let other : Bool = cond (bytes_eq word (codes "+")) (type_at types t).is_operational named_by in
    is ∙ sym (ap (λ b. cond b (is_user_type types t) other) star ∙ ap (λ b. cond b (type_at types t).is_operational named_by) plus ∙ ap (passes (λ u. is_subtype types t u)) named)

-- one more type, whose number is that of those before it
pub one_more : (p : ℕ → Bool) (flags : List Bool) (n : ℕ) (b : Bool) → length flags ≡ n → ((t : ℕ) → t < n → selects (Some flags) t ≡ p t) → b ≡ p n
    → (t : ℕ) → t < n + 1 → selects (Some (flags ++ b ∷ [])) t ≡ p t
one_more p flags n b len are is t lt = flag_at (flags ++ b ∷ []) t ∙ by (cases_lt t n)
  where
    by : (t < n) ⊎ (n ≤ t) → get_or (flags ++ b ∷ []) t false ≡ p t
    by (inl before) = get_or_append_left flags (b ∷ []) false t (omega (arith, before, len)) ∙ sym (flag_at flags t) ∙ are t before
    by (inr from) =
        let same : t ≡ length flags = omega (arith, from, lt, len) in
        ap (λ (u : ℕ). get_or (flags ++ b ∷ []) u false) same ∙ get_or-append_seam flags b [] false ∙ is ∙ ap p (sym (same ∙ len))
