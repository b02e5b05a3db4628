use Rattle.std.proofs.Common.{rules, ℕ, true, Some, ◌≡◌, ◌<◌, ◌≤◌, List, [], ◌∷◌, Bool, false, cond, not, length, get_or, map, codes, bytes_eq, Bor, Option, None, refl, sym, ap, ap₂, ◌∙◌, arith}
use Rattle.std.proofs.lemmas.Bool.{not-true, not-false}
use Rattle.values.specs.declared.types.AttributeType.{AttributeType}
use Rattle.schema.specs.declared.slots.IndexKind.{IndexKind}
use Rattle.stored_index.specs.SlotLines.{kind_named, type_printed, slot_with, slot_of}
use Rattle.stored_index.proofs.slot_lines.slot_of.Goals as goal
use Rattle.stored_index.proofs.slot_lines.slot_of.Goals.{in_default-via-then-words-lt3, in_default-via-else-words-lt3+else-words-lt4}

not_three : (types : List AttributeType) (ws : List (Bor (List ℕ))) → (length ws ≡ 3 → ⊥) → slot_of types (map (λ w. w.now) ws) ≡ None
not_three types [] other = refl
not_three types (a ∷ []) other = refl
not_three types (a ∷ b ∷ []) other = refl
not_three types (a ∷ b ∷ c ∷ []) other = absurd (other refl)
not_three types (a ∷ b ∷ c ∷ e ∷ ws) other = refl

module _ (types : List AttributeType) (d : Bor (List ℕ)) (ws : List (Bor (List ℕ))) (least : 3 ≤ length ws) (below : length ws < 4) where
  abbrev word : ℕ → List ℕ
  word n = (get_or ws n d).now

  of_three : slot_of types (map (λ w. w.now) ws) ≡ cond (bytes_eq (word 0) (codes "slot")) (slot_with (type_printed types (word 1)) (kind_named (word 2))) None
  of_three = by ws least below
    where
      by : (ws : List (Bor (List ℕ))) → 3 ≤ length ws → length ws < 4
          → slot_of types (map (λ w. w.now) ws) ≡ cond (bytes_eq (get_or ws 0 d).now (codes "slot")) (slot_with (type_printed types (get_or ws 1 d).now) (kind_named (get_or ws 2 d).now)) None
      by [] least below = absurd (omega arith)
      by (a ∷ []) least below = absurd (omega arith)
      by (a ∷ b ∷ []) least below = absurd (omega arith)
      by (a ∷ b ∷ c ∷ []) least below = refl
      by (a ∷ b ∷ c ∷ e ∷ ws) least below = absurd (omega arith)

  other_word : (ne : Bool) (slot : List ℕ) → ne ≡ not (bytes_eq (word 0) slot) → slot ≡ codes "slot" → ne ≡ true → slot_of types (map (λ w. w.now) ws) ≡ None
  other_word ne slot is same h =
      of_three ∙ ap (λ b. cond b (slot_with (type_printed types (word 1)) (kind_named (word 2))) None) (not-true _ (sym (is ∙ ap (λ (w : List ℕ). not (bytes_eq (word 0) w)) same) ∙ h))

  slot_word : (ne : Bool) (slot : List ℕ) (t : Option ℕ) (kind : Option IndexKind) → ne ≡ not (bytes_eq (word 0) slot) → slot ≡ codes "slot" → ne ≡ false → t ≡ type_printed types (word 1) → kind ≡ kind_named (word 2)
      → slot_of types (map (λ w. w.now) ws) ≡ slot_with t kind
  slot_word ne slot t kind is same h named kinds =
      of_three ∙ ap (λ b. cond b (slot_with (type_printed types (word 1)) (kind_named (word 2))) None) (not-false _ (sym (is ∙ ap (λ (w : List ℕ). not (bytes_eq (word 0) w)) same) ∙ h))
      ∙ ap₂ slot_with (sym named) (sym kinds)

pub returns-then-ne : goal.returns-then-ne
returns-then-ne c = sym (other_word c.args.conf.now.types _ c.args.words.now c.in-len3.len_at_least c.in-len3.len_below c.ne.result c.as_slice.result.now c.ne.ensures c.as_slice.ensures c.if-ne.true)

pub returns-in_err-type_id-in-len3 : goal.returns-in_err-type_id-in-len3
returns-in_err-type_id-in-len3 c =
    c.from_residual.ensures
    ∙ sym (slot_word c.args.conf.now.types _ c.args.words.now c.in-len3.len_at_least c.in-len3.len_below c.ne.result c.as_slice.result.now None _ c.ne.ensures c.as_slice.ensures c.if-ne.false (sym c.in_err-type_id-in-len3.was ∙ c.type_printed.ensures) refl)

pub returns-in_err-kind-in-len3 : goal.returns-in_err-kind-in-len3
returns-in_err-kind-in-len3 c =
    c.from_residual-in_err-kind-in-len3.ensures
    ∙ sym (slot_word c.args.conf.now.types _ c.args.words.now c.in-len3.len_at_least c.in-len3.len_below c.ne.result c.as_slice.result.now (Some c.in_ok-type_id-in-len3.type_id) None c.ne.ensures c.as_slice.ensures c.if-ne.false (sym c.in_ok-type_id-in-len3.was ∙ c.type_printed.ensures) (sym c.in_err-kind-in-len3.was ∙ c.kind_named.ensures))

pub returns-in_ok-kind-in-len3 : goal.returns-in_ok-kind-in-len3
returns-in_ok-kind-in-len3 c =
    sym (slot_word c.args.conf.now.types _ c.args.words.now c.in-len3.len_at_least c.in-len3.len_below c.ne.result c.as_slice.result.now (Some c.in_ok-type_id-in-len3.type_id) (Some c.in_ok-kind-in-len3.kind) c.ne.ensures c.as_slice.ensures c.if-ne.false (sym c.in_ok-type_id-in-len3.was ∙ c.type_printed.ensures) (sym c.in_ok-kind-in-len3.was ∙ c.kind_named.ensures))

pub returns-in_default : goal.returns-in_default
returns-in_default c =
    sym (not_three c.args.conf.now.types c.args.words.now (elim c.in_default.branch [ in_default-via-then-words-lt3 w ↦ λ is. search rules | in_default-via-else-words-lt3+else-words-lt4 w ↦ λ is. search rules ]))
