-- Pieces of a folded line.
use Rattle.std.proofs.Common.{◌≡◌, ℕ, zero, suc, ◌<◌, ◌≤◌, ◌+◌, ◌-◌, Bool, true, cond, List, [], ◌∷◌, ◌++◌, codes, length, take, drop, refl, sym, ap, ◌∙◌, append_assoc, arith}
use Rattle.std.proofs.lemmas.Bool.{ne_eqb}
use Rattle.std.proofs.lemmas.List.{length-append}
use Rattle.base64.specs.GeneralPurpose.{encode_of}
use Rattle.base64.specs.Engines.{standard}
use Rattle.ldif_lines.specs.Folding.{IsWidth, folded_line, folded_to}
use Rattle.ldif.specs.Writing.{is_plain, line_text}

-- a line of one piece that has its value as it is
plain_text : (name value : List ℕ) → 0 < length value → is_plain value ≡ true → line_text name value ≡ name ++ 58 ∷ 32 ∷ value
unfolding line_text
plain_text name value some plain =
    ap (λ (t : Bool). cond t (name ++ codes ":") (cond (is_plain value) (name ++ codes ": " ++ value) (name ++ codes ":: " ++ encode_of standard value))) (ne_eqb (length value) 0 (λ e. omega arith))
    ∙ ap (λ (t : Bool). cond t (name ++ codes ": " ++ value) (name ++ codes ":: " ++ encode_of standard value)) plain
    ∙ append_assoc name (codes ": ") value

pieces : (out name value : List ℕ) → ((((out ++ name) ++ 58 ∷ []) ++ 32 ∷ []) ++ value) ++ 10 ∷ [] ≡ out ++ ((name ++ 58 ∷ 32 ∷ value) ++ 10 ∷ [])
pieces [] [] value = refl
pieces [] (b ∷ bs) value = ap (λ (xs : List ℕ). b ∷ xs) (pieces [] bs value)
pieces (b ∷ bs) name value = ap (λ (xs : List ℕ). b ∷ xs) (pieces bs name value)

pub short_line : (out name value : List ℕ) → 0 < length value → is_plain value ≡ true → ((((out ++ name) ++ 58 ∷ []) ++ 32 ∷ []) ++ value) ++ 10 ∷ [] ≡ out ++ (line_text name value ++ 10 ∷ [])
short_line out name value some plain = pieces out name value ∙ ap (λ (xs : List ℕ). out ++ (xs ++ 10 ∷ [])) (sym (plain_text name value some plain))

-- ---- lines that are folded to a width

module _ (width : ℕ) where
  pub folded_all : (room : ℕ) (text : List ℕ) → length text ≤ room → folded_to width room text ≡ text ++ folded_to width 0 []
  unfolding folded_to
  folded_all room [] le = refl
  folded_all zero (b ∷ bs) le = absurd (omega arith)
  folded_all (suc room) (b ∷ bs) le = ap (λ (xs : List ℕ). b ∷ xs) (folded_all room bs (omega arith))

  -- what fits is followed by the end of the line alone
  pub folded_short : (room : ℕ) (text : List ℕ) → length text ≤ room → text ++ 10 ∷ [] ≡ folded_to width room text
  unfolding folded_to
  folded_short room text le = sym (folded_all room text le)

  -- what is plain and leaves room for the colon and the space is one piece
  pub folded_plain : (name value : List ℕ) → length name + length value ≤ width - 2 → 0 < length value → is_plain value ≡ true
      → line_text name value ++ 10 ∷ [] ≡ folded_line width (line_text name value)
  folded_plain name value le some plain =
      folded_short width (line_text name value)
      (omega (arith, le, some, length-append name (58 ∷ 32 ∷ value), ap (λ (xs : List ℕ). length xs) (plain_text name value some plain)))

  pub folded_part : (room : ℕ) (text : List ℕ) → room ≤ length text → folded_to width room text ≡ take room text ++ folded_to width 0 (drop room text)
  unfolding folded_to
  folded_part zero text le = refl
  folded_part (suc room) [] le = absurd (omega arith)
  folded_part (suc room) (b ∷ bs) le = ap (λ (xs : List ℕ). b ∷ xs) (folded_part room bs (omega arith))

  further : IsWidth width → suc (width - 2) ≡ width - 1
  further wide = omega (arith, wide)

  folded_next : (text : List ℕ) → IsWidth width → 0 < length text → folded_to width 0 text ≡ 10 ∷ 32 ∷ folded_to width (width - 1) text
  unfolding folded_to
  folded_next [] wide some = absurd (omega arith)
  folded_next (b ∷ bs) wide some = ap (λ (room : ℕ). 10 ∷ 32 ∷ folded_to width room (b ∷ bs)) (further wide)

  pub one_piece : (out piece rest after : List ℕ) (total : List ℕ) → IsWidth width → 0 < length rest → folded_to width (width - 1) rest ≡ piece ++ folded_to width 0 after
      → out ++ folded_to width 0 rest ≡ total → (out ++ 10 ∷ 32 ∷ piece) ++ folded_to width 0 after ≡ total
  one_piece out piece rest after total wide some cut so_far =
      append_assoc out (10 ∷ 32 ∷ piece) (folded_to width 0 after)
      ∙ ap (λ (xs : List ℕ). out ++ 10 ∷ 32 ∷ xs) (sym cut)
      ∙ ap (λ (xs : List ℕ). out ++ xs) (sym (folded_next rest wide some))
      ∙ so_far

  pub last_piece : (out rest total : List ℕ) → length rest ≡ 0 → out ++ folded_to width 0 rest ≡ total → out ++ 10 ∷ [] ≡ total
  unfolding folded_to
  last_piece out [] total none so_far = so_far
  last_piece out (b ∷ bs) total none so_far = absurd (omega arith)
