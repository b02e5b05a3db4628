-- Texts of values.
use Rattle.std.proofs.Common.{◌≡◌, ◌⊎◌, ℕ, ◌+◌, ◌*◌, List, [], ◌∷◌, ◌++◌, Option, Some, None, refl, sym, ap, subst, ◌∙◌, arith, true, inl, inr}
use Rattle.std.proofs.lemmas.List.{append-nil}
use Rattle.std.proofs.lemmas.Grind.{common_steps}
use Rattle.filter_text.specs.Runs.{Stops}
use Rattle.filter_text.specs.Values.{digit_of, is_raw, is_value_byte, ByteAt, IsValue}
use Rattle.filter_text.proofs.Runs.{head_eq, tail_eq, both_ways, stops_at}

raw_begins : (b : ℕ) → is_raw b ≡ true → is_value_byte b ≡ true
raw_begins b h = grind (arith, common_steps)

-- what a spelled byte begins with
pub byte_first : (b : ℕ) (text rest : List ℕ) → ByteAt b text rest → (f : ℕ) × (more : List ℕ) × (text ≡ f ∷ more) × (is_value_byte f ≡ true)
byte_first b text rest (inl h) = (b, rest, h.0, raw_begins b h.1)
byte_first b text rest (inr h) = (92, h.0 ∷ h.1 ∷ rest, h.4, refl)

pub byte_more : (b : ℕ) (text rest more : List ℕ) → ByteAt b text rest → ByteAt b (text ++ more) (rest ++ more)
byte_more b text rest more (inl h) = inl (ap (λ xs. xs ++ more) h.0, h.1)
byte_more b text rest more (inr h) = inr (h.0, h.1, h.2, h.3, ap (λ xs. xs ++ more) h.4, h.5, h.6, h.7)

some_is : {m n : ℕ} → Some m ≡ Some n → m ≡ n
some_is e = cc

raw_not_92 : (b : ℕ) → is_raw b ≡ true → b ≡ 92 → ⊥
raw_not_92 b h e = both_ways h (ap is_raw e)

-- an escape is two digits
pub escape_of : (b : ℕ) (bytes more rest : List ℕ) → bytes ≡ 92 ∷ more → ByteAt b bytes rest
    → (h : ℕ) × (l : ℕ) × (m : ℕ) × (n : ℕ) × (more ≡ h ∷ l ∷ rest) × (digit_of h ≡ Some m) × (digit_of l ≡ Some n) × (b ≡ m * 16 + n)
escape_of b bytes more rest e (inl h) = absurd (raw_not_92 b h.1 (head_eq (sym h.0 ∙ e)))
escape_of b bytes more rest e (inr h) = (h.0, h.1, h.2, h.3, tail_eq (sym e ∙ h.4), h.5, h.6, h.7)

pub no_digit : {o : Option ℕ} {m : ℕ} → o ≡ None → o ≡ Some m → ⊥
no_digit e f = let clash : None ≡ Some _ = sym e ∙ f in cc

pub byte_same : (b c : ℕ) (text r s : List ℕ) → ByteAt b text r → ByteAt c text s → (b ≡ c) × (r ≡ s)
byte_same b c text r s (inl h) (inl k) = (head_eq (sym h.0 ∙ k.0), tail_eq (sym h.0 ∙ k.0))
byte_same b c text r s (inl h) (inr k) = absurd (raw_not_92 b h.1 (head_eq (sym h.0 ∙ k.4)))
byte_same b c text r s (inr h) (inl k) = absurd (raw_not_92 c k.1 (head_eq (sym k.0 ∙ h.4)))
byte_same b c text r s (inr h) (inr k) =
    let e = tail_eq (sym h.4 ∙ k.4) in
    let m = some_is (sym h.5 ∙ ap digit_of (head_eq e) ∙ k.5) in
    let n = some_is (sym h.6 ∙ ap digit_of (head_eq (tail_eq e)) ∙ k.6) in
    (h.7 ∙ ap (λ z. z * 16 + h.3) m ∙ ap (λ z. k.2 * 16 + z) n ∙ sym k.7, tail_eq (tail_eq e))

-- a text of a value is read in one way, up to what stops it
pub one_value : (v w a b x y : List ℕ) → IsValue v a → IsValue w b → Stops is_value_byte x → Stops is_value_byte y → a ++ x ≡ b ++ y → (v ≡ w) × (x ≡ y)
one_value [] [] a b x y h k s u e = (refl, sym (ap (λ xs. xs ++ x) h) ∙ e ∙ ap (λ xs. xs ++ y) k)
one_value [] (d ∷ w) a b x y h k s u e =
    let first = byte_first d b k.0 k.1 in
    absurd (both_ways first.3 (stops_at is_value_byte first.0 x (first.1 ++ y) s (sym (ap (λ xs. xs ++ x) h) ∙ e ∙ ap (λ xs. xs ++ y) first.2)))
one_value (c ∷ v) [] a b x y h k s u e =
    let first = byte_first c a h.0 h.1 in
    absurd (both_ways first.3 (stops_at is_value_byte first.0 y (first.1 ++ x) u (sym (ap (λ xs. xs ++ y) k) ∙ sym e ∙ ap (λ xs. xs ++ x) first.2)))
one_value (c ∷ v) (d ∷ w) a b x y h k s u e =
    let same = byte_same c d (b ++ y) (h.0 ++ x) (k.0 ++ y) (subst (λ (xs : List ℕ). ByteAt c xs (h.0 ++ x)) e (byte_more c a h.0 x h.1)) (byte_more d b k.0 y k.1) in
    let rest = one_value v w h.0 k.0 x y h.2 k.2 s u same.1 in
    (ap (λ z. z ∷ v) same.0 ∙ ap (λ zs. d ∷ zs) rest.0, rest.1)

-- a value that goes on where a byte is spelled
pub value_goes_on : (w rest t more : List ℕ) (b : ℕ) (after : List ℕ) → IsValue w t → Stops is_value_byte more → rest ≡ t ++ more → ByteAt b rest after
    → (u : List ℕ) × (s : List ℕ) × (w ≡ b ∷ u) × IsValue u s × (after ≡ s ++ more)
value_goes_on [] rest t more b after h s e byte =
    let first = byte_first b rest after byte in
    absurd (both_ways first.3 (stops_at is_value_byte first.0 more first.1 s (sym (e ∙ ap (λ xs. xs ++ more) h) ∙ first.2)))
value_goes_on (d ∷ u) rest t more b after h s e byte =
    let same = byte_same b d rest after (h.0 ++ more) byte (subst (λ (xs : List ℕ). ByteAt d xs (h.0 ++ more)) (sym e) (byte_more d t h.0 more h.1)) in
    (u, h.0, ap (λ z. z ∷ u) (sym same.0), h.2, same.1)

-- the text of one byte
pub byte_cut : (b : ℕ) (text rest : List ℕ) → ByteAt b text rest → (piece : List ℕ) × (text ≡ piece ++ rest) × ByteAt b piece []
byte_cut b text rest (inl h) = (b ∷ [], h.0, inl (refl, h.1))
byte_cut b text rest (inr h) = (92 ∷ h.0 ∷ h.1 ∷ [], h.4, inr (h.0, h.1, h.2, h.3, refl, h.5, h.6, h.7))

pub value_or_stops : (w rest t more : List ℕ) → IsValue w t → Stops is_value_byte more → rest ≡ t ++ more → (Stops is_value_byte rest) ⊎ ((b : ℕ) × (after : List ℕ) × ByteAt b rest after)
value_or_stops [] rest t more h s e = inl (subst (Stops is_value_byte) (sym (e ∙ ap (λ xs. xs ++ more) h)) s)
value_or_stops (b ∷ w) rest t more h s e = inr (b, h.0 ++ more, subst (λ (xs : List ℕ). ByteAt b xs (h.0 ++ more)) (sym e) (byte_more b t h.0 more h.1))

pub whole_value : (v w text rest a : List ℕ) → IsValue v a → Stops is_value_byte rest → text ≡ a ++ rest → IsValue w text → (v ≡ w) × (rest ≡ [])
whole_value v w text rest a h s e k = one_value v w a text rest [] h k s tt (sym e ∙ sym (append-nil text))
