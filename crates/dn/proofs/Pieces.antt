-- Pieces of a text, what stands behind them, and what is read of them.
use Rattle.std.proofs.Common.{◌≡◌, ℕ, ◌+◌, ◌<◌, ◌≤◌, Bool, true, false, cond, not, ◌&&◌, eqb, List, [], ◌∷◌, ◌++◌, take, drop, length, get_or, refl, sym, ap, ◌∙◌, append_assoc, arith}
use Rattle.std.specs.List.{list_all, prefix_len}
use Rattle.std.proofs.lemmas.Bool.{and_parts}
use Rattle.std.proofs.lemmas.Bool.Decides.{nat_tests}
use Rattle.std.proofs.lemmas.List.{append-nil, take-append-drop, take_more, take_all, drop_more, drop_all}
use Rattle.dn.specs.Names.{is_type_byte}
use Rattle.dn.specs.Spelling.{may_stand}
use Rattle.base.specs.Ends.{is_space}
use Rattle.dn.specs.Reading.{escapes}
use Rattle.dn.specs.inner.Cuts.{piece, behind}
use Rattle.dn.specs.NameFaults.{is_separator, Stops}
use Rattle.dn.proofs.Runs.{front_passes, rest_stops, run_front, run_rest}

-- ---- a piece and what stands behind it

module _ (ends : ℕ → Bool) where
  split_by : (t : Bool) (b : ℕ) (bs p q : List ℕ) → bs ≡ p ++ q → b ∷ bs ≡ cond t [] (b ∷ p) ++ cond t (b ∷ bs) q
  split_by true b bs p q h = refl
  split_by false b bs p q h = ap (λ (x : List ℕ). b ∷ x) h

  pub split : (e : Bool) (text : List ℕ) → text ≡ piece ends e text ++ behind ends e text
  unfolding piece behind
  split e [] = refl
  split e (b ∷ bs) = split_by (not e && ends b) b bs (piece ends (escapes e b) bs) (behind ends (escapes e b) bs) (split (escapes e b) bs)

  shorter_by : (t : Bool) (b : ℕ) (bs q : List ℕ) → length q ≤ length bs → length (cond t (b ∷ bs) q) ≤ length (b ∷ bs)
  shorter_by true b bs q h = omega arith
  shorter_by false b bs q h = omega (arith, h)

  pub shorter : (e : Bool) (text : List ℕ) → length (behind ends e text) ≤ length text
  unfolding behind
  shorter e [] = omega arith
  shorter e (b ∷ bs) = shorter_by (not e && ends b) b bs (behind ends (escapes e b) bs) (shorter (escapes e b) bs)

  ends_by : (e t : Bool) (b s : ℕ) (bs q more : List ℕ) → (not e && ends b) ≡ t → (q ≡ s ∷ more → ends s ≡ true) → cond t (b ∷ bs) q ≡ s ∷ more → ends s ≡ true
  ends_by e true b s bs q more is h g = ap ends (sym (ap (λ (x : List ℕ). get_or x 0 0) g)) ∙ (and_parts (not e) (ends b) is).1
  ends_by e false b s bs q more is h g = h g

  -- what stands behind it begins with a byte that ends it
  pub ends_is : (e : Bool) (text : List ℕ) (s : ℕ) (more : List ℕ) → behind ends e text ≡ s ∷ more → ends s ≡ true
  unfolding behind
  ends_is e [] s more h = absurd cc
  ends_is e (b ∷ bs) s more h = ends_by e (not e && ends b) b s bs (behind ends (escapes e b) bs) more refl (ends_is (escapes e b) bs s more) h

-- ---- the loop that looks for its end

module _ (ends : ℕ → Bool) (e : Bool) (text : List ℕ) (i : ℕ) (total : List ℕ) where
  pub piece_found : i < length text → (not e && ends (get_or text i 0)) ≡ true → total ≡ take i text ++ piece ends e (drop i text) → take i text ≡ total
  unfolding piece
  piece_found lt is so_far =
      sym (so_far ∙ ap (λ (bs : List ℕ). take i text ++ piece ends e bs) (drop_more text i 0 lt)
      ∙ ap (λ (t : Bool). take i text ++ cond t [] (get_or text i 0 ∷ piece ends (escapes e (get_or text i 0)) (drop (i + 1) text))) is ∙ append-nil (take i text))

  pub behind_found : i < length text → (not e && ends (get_or text i 0)) ≡ true → total ≡ behind ends e (drop i text) → drop i text ≡ total
  unfolding behind
  behind_found lt is so_far =
      sym (so_far ∙ ap (behind ends e) (drop_more text i 0 lt)
      ∙ ap (λ (t : Bool). cond t (get_or text i 0 ∷ drop (i + 1) text) (behind ends (escapes e (get_or text i 0)) (drop (i + 1) text))) is ∙ sym (drop_more text i 0 lt))

  pub piece_on : (e' : Bool) → i < length text → (not e && ends (get_or text i 0)) ≡ false → e' ≡ escapes e (get_or text i 0) → total ≡ take i text ++ piece ends e (drop i text) → total ≡ take (i + 1) text ++ piece ends e' (drop (i + 1) text)
  unfolding piece
  piece_on e' lt is next so_far =
      let x = get_or text i 0 in
      let rest = piece ends (escapes e x) (drop (i + 1) text) in
      so_far ∙ ap (λ (bs : List ℕ). take i text ++ piece ends e bs) (drop_more text i 0 lt)
      ∙ ap (λ (t : Bool). take i text ++ cond t [] (x ∷ rest)) is
      ∙ sym (append_assoc (take i text) (x ∷ []) rest)
      ∙ ap (λ (xs : List ℕ). xs ++ rest) (sym (take_more text i 0 lt))
      ∙ ap (λ (t : Bool). take (i + 1) text ++ piece ends t (drop (i + 1) text)) (sym next)

  pub behind_on : (e' : Bool) → i < length text → (not e && ends (get_or text i 0)) ≡ false → e' ≡ escapes e (get_or text i 0) → total ≡ behind ends e (drop i text) → total ≡ behind ends e' (drop (i + 1) text)
  unfolding behind
  behind_on e' lt is next so_far =
      so_far ∙ ap (behind ends e) (drop_more text i 0 lt)
      ∙ ap (λ (t : Bool). cond t (get_or text i 0 ∷ drop (i + 1) text) (behind ends (escapes e (get_or text i 0)) (drop (i + 1) text))) is
      ∙ ap (λ (t : Bool). behind ends t (drop (i + 1) text)) (sym next)

  pub piece_end : length text ≤ i → total ≡ take i text ++ piece ends e (drop i text) → take (length text) text ≡ total
  unfolding piece
  piece_end le so_far =
      take_all (length text) text (omega arith)
      ∙ sym (so_far ∙ ap (λ (bs : List ℕ). take i text ++ piece ends e bs) (drop_all i text le) ∙ append-nil (take i text) ∙ take_all i text le)

  pub behind_end : length text ≤ i → total ≡ behind ends e (drop i text) → drop (length text) text ≡ total
  unfolding behind
  behind_end le so_far = drop_all (length text) text (omega arith) ∙ sym (so_far ∙ ap (behind ends e) (drop_all i text le))

-- ---- a run at the front of bytes that neither end a piece nor escape

abbrev IsApart : ℕ → Type 0
IsApart b = (is_separator b ≡ false) × (eqb b 92 ≡ false)

pub space_apart : (b : ℕ) → is_space b ≡ true → IsApart b
space_apart b h = (grind (arith, nat_tests), grind (arith, nat_tests))

pub type_apart : (b : ℕ) → is_type_byte b ≡ true → IsApart b
type_apart b h = (grind (arith, nat_tests), grind (arith, nat_tests))

pub stand_apart : (b : ℕ) → may_stand b ≡ true → IsApart b
stand_apart b h = (grind (arith, nat_tests), grind (arith, nat_tests))

abbrev pub P : List ℕ → List ℕ
P = piece is_separator false

abbrev pub B : List ℕ → List ℕ
B = behind is_separator false

module _ (p : ℕ → Bool) (apart : (b : ℕ) → p b ≡ true → IsApart b) where
  pub piece_run : (run rest : List ℕ) → list_all p run ≡ true → P (run ++ rest) ≡ run ++ P rest
  unfolding piece
  piece_run [] rest h = refl
  piece_run (b ∷ bs) rest h =
      let k = and_parts (p b) (list_all p bs) h in
      let a = apart b k.0 in
      ap (λ (t : Bool). cond t [] (b ∷ piece is_separator (eqb b 92) (bs ++ rest))) a.0
      ∙ ap (λ (t : Bool). b ∷ piece is_separator t (bs ++ rest)) a.1
      ∙ ap (λ (x : List ℕ). b ∷ x) (piece_run bs rest k.1)

  pub behind_run : (run rest : List ℕ) → list_all p run ≡ true → B (run ++ rest) ≡ B rest
  unfolding behind
  behind_run [] rest h = refl
  behind_run (b ∷ bs) rest h =
      let k = and_parts (p b) (list_all p bs) h in
      let a = apart b k.0 in
      ap (λ (t : Bool). cond t (b ∷ (bs ++ rest)) (behind is_separator (eqb b 92) (bs ++ rest))) a.0
      ∙ ap (λ (t : Bool). behind is_separator t (bs ++ rest)) a.1
      ∙ behind_run bs rest k.1

  stops_by : (t : Bool) (b : ℕ) (bs : List ℕ) → p b ≡ false → Stops p (cond t [] (b ∷ bs))
  stops_by true b bs h = tt
  stops_by false b bs h = h

  piece_stops : (rest : List ℕ) → Stops p rest → Stops p (P rest)
  unfolding piece
  piece_stops [] h = tt
  piece_stops (b ∷ bs) h = stops_by (is_separator b) b (piece is_separator (escapes false b) bs) h

  run : List ℕ → List ℕ
  run text = take (prefix_len p text) text

  left : List ℕ → List ℕ
  left text = drop (prefix_len p text) text

  pub front_of_piece : (text : List ℕ) → take (prefix_len p (P text)) (P text) ≡ take (prefix_len p text) text
  unfolding run left
  front_of_piece text =
      ap (λ (x : List ℕ). take (prefix_len p (P x)) (P x)) (sym (take-append-drop (prefix_len p text) text))
      ∙ ap (λ (x : List ℕ). take (prefix_len p x) x) (piece_run (run text) (left text) (front_passes p text))
      ∙ run_front p (run text) (P (left text)) (front_passes p text) (piece_stops (left text) (rest_stops p text))

  pub rest_of_piece : (text : List ℕ) → drop (prefix_len p (P text)) (P text) ≡ P (drop (prefix_len p text) text)
  unfolding run left
  rest_of_piece text =
      ap (λ (x : List ℕ). drop (prefix_len p (P x)) (P x)) (sym (take-append-drop (prefix_len p text) text))
      ∙ ap (λ (x : List ℕ). drop (prefix_len p x) x) (piece_run (run text) (left text) (front_passes p text))
      ∙ run_rest p (run text) (P (left text)) (front_passes p text) (piece_stops (left text) (rest_stops p text))

  pub behind_rest : (text : List ℕ) → B text ≡ B (drop (prefix_len p text) text)
  unfolding run left
  behind_rest text = ap B (sym (take-append-drop (prefix_len p text) text)) ∙ behind_run (run text) (left text) (front_passes p text)
