-- The OID of a syntax, with a length behind it or none.
use Rattle.std.proofs.Common.{◌≡◌, ℕ, ◌+◌, ◌-◌, ◌<◌, Bool, true, false, cond, not, ◌&&◌, eqb, ltb, List, [], ◌∷◌, ◌++◌, take, drop, length, Option, Some, None, inl, inr, refl, sym, ap, ◌∙◌, arith}
use Rattle.std.specs.List.{list_all}
use Rattle.std.specs.Char.{is_ascii_digit}
use Rattle.std.proofs.lemmas.Bool.{and_parts, eqb-true, ltb-true, lt-ltb}
use Rattle.std.proofs.lemmas.Bool.Decides.{nat_tests}
use Rattle.std.proofs.lemmas.List.{take-append-drop, length-append, length-drop, length_push}
use Rattle.std.proofs.Math.Seq.{drop-append_seam, take-append_seam}
use Rattle.base.specs.Ends.{begins_with}
use Rattle.base.specs.Naming.{are_groups, is_oid}
use Rattle.definitions.specs.Words.{end_of}
use Rattle.definitions.specs.TypeFields.{is_brace, is_closed, is_length, syntax_oid}
use Rattle.definitions.specs.Grammar.{is_number, IsOid}
use Rattle.definitions.specs.TypeGrammar.{IsLength, IsSyntax}
use Rattle.definitions.proofs.There.{IfThere, chosen}
use Rattle.definitions.proofs.Ends.{Stops, rest_stops, run_front, run_rest}
use Rattle.definitions.proofs.Oids.{oid_found, oid_only}

abbrev is_no_brace : ℕ → Bool
is_no_brace b = not (is_brace b)

digit_no_brace : (b : ℕ) → is_ascii_digit b ≡ true → is_no_brace b ≡ true
digit_no_brace b h = grind (arith, nat_tests)

dot_no_brace : (b : ℕ) → eqb b 46 ≡ true → is_no_brace b ≡ true
dot_no_brace b h = grind (arith, nat_tests)

no_brace_by : (due : Bool) (b : ℕ) (bs : List ℕ) (d p : Bool) → is_ascii_digit b ≡ d → eqb b 46 ≡ p → (are_groups false bs ≡ true → list_all is_no_brace bs ≡ true) → (are_groups true bs ≡ true → list_all is_no_brace bs ≡ true)
    → cond d (are_groups false bs) (p && not due && are_groups true bs) ≡ true → list_all is_no_brace (b ∷ bs) ≡ true
no_brace_by due b bs true p e f on after h = (λ i. digit_no_brace b e i && on h i)
no_brace_by true b bs false true e f on after h = absurd cc
no_brace_by false b bs false true e f on after h = (λ i. dot_no_brace b f i && after h i)
no_brace_by due b bs false false e f on after h = absurd cc

no_brace : (due : Bool) (text : List ℕ) → are_groups due text ≡ true → list_all is_no_brace text ≡ true
unfolding are_groups
no_brace due [] h = refl
no_brace due (b ∷ bs) h = no_brace_by due b bs (is_ascii_digit b) (eqb b 46) refl refl (no_brace false bs) (no_brace true bs) h

-- ---- a length

closed : (number : List ℕ) → is_number number ≡ true → is_closed (number ++ 125 ∷ []) ≡ true
closed [] h = absurd cc
closed (d ∷ ds) h =
    let number = d ∷ ds in
    let text = number ++ 125 ∷ [] in
    let last : length text - 1 ≡ length number = omega (arith, length_push number 125) in
    let long : ltb 1 (length text) ≡ true = lt-ltb 1 (length text) (omega (arith, length_push number 125)) in
    let digits : list_all is_ascii_digit (take (length text - 1) text) ≡ true = ap (λ (n : ℕ). list_all is_ascii_digit (take n text)) last ∙ ap (list_all is_ascii_digit) (take-append_seam number (125 ∷ [])) ∙ h in
    let brace : begins_with 125 (drop (length text - 1) text) ≡ true = ap (λ (n : ℕ). begins_with 125 (drop n text)) last ∙ ap (begins_with 125) (drop-append_seam number (125 ∷ [])) in
    (λ i. long i && digits i && brace i)

length_found : (text : List ℕ) → IsLength text → is_length text ≡ true
length_found text (inl e) = ap is_length e
length_found text (inr e) = ap is_length e.2 ∙ closed e.0 e.1

length_stops : (text : List ℕ) → IsLength text → Stops is_brace text
length_stops [] h = tt
length_stops (b ∷ bs) (inl e) = absurd cc
length_stops (b ∷ bs) (inr e) = let same : b ≡ 123 = (let k = e.2 in cc) in ap is_brace same

one_brace : (text : List ℕ) → length text ≡ 1 → begins_with 125 text ≡ true → text ≡ 125 ∷ []
one_brace [] is h = absurd cc
one_brace (x ∷ []) is h = ap (λ (c : ℕ). c ∷ []) (eqb-true x 125 h)
one_brace (x ∷ y ∷ ys) is h = absurd (omega arith)

a_number : (text : List ℕ) → 0 < length text → list_all is_ascii_digit text ≡ true → is_number text ≡ true
a_number [] some h = absurd (omega arith)
a_number (d ∷ ds) some h = h

length_only : (text : List ℕ) → Stops is_brace text → is_length text ≡ true → IsLength text
length_only [] stops h = inl refl
length_only (b ∷ bs) stops h =
    let k = and_parts (ltb 1 (length bs) && list_all is_ascii_digit (take (length bs - 1) bs)) (begins_with 125 (drop (length bs - 1) bs)) h in
    let m = and_parts (ltb 1 (length bs)) (list_all is_ascii_digit (take (length bs - 1) bs)) k.0 in
    let long = ltb-true 1 (length bs) m.0 in
    let parts = take-append-drop (length bs - 1) bs in
    let left : length (drop (length bs - 1) bs) ≡ 1 = omega (arith, length-drop (length bs - 1) bs, long) in
    let front : length (take (length bs - 1) bs) + 1 ≡ length bs = omega (arith, left, ap length parts, length-append (take (length bs - 1) bs) (drop (length bs - 1) bs)) in
    inr (
      take (length bs - 1) bs,
      a_number (take (length bs - 1) bs) (omega (arith, front, long)) m.1,
      ap (λ (c : ℕ). c ∷ bs) (eqb-true b 123 stops)
          ∙ ap (λ (r : List ℕ). 123 ∷ r) (sym parts ∙ ap (λ (r : List ℕ). take (length bs - 1) bs ++ r) (one_brace (drop (length bs - 1) bs) left k.1)),
    )

-- ---- the OID

found : (name text : List ℕ) → IsOid name → (size : List ℕ) → IsLength size → text ≡ name ++ size → syntax_oid text ≡ Some name
unfolding syntax_oid
found name text oid size length_is is =
    let bare = no_brace true name (oid_found name oid) in
    let stops = length_stops size length_is in
    let front : take (end_of is_brace text) text ≡ name = ap (λ (t : List ℕ). take (end_of is_brace t) t) is ∙ run_front is_brace name size bare stops in
    let behind : drop (end_of is_brace text) text ≡ size = ap (λ (t : List ℕ). drop (end_of is_brace t) t) is ∙ run_rest is_brace name size bare stops in
    (λ i. cond (is_oid (front i) && is_length (behind i)) (some_text (front i)) None)
    ∙ (λ i. cond (oid_found name oid i && length_found size length_is i) (some_text name) None) where
      some_text : List ℕ → Option (List ℕ)
      some_text text = Some text

pub syntax_found : (oid text : List ℕ) → IsSyntax oid text → syntax_oid text ≡ Some oid
syntax_found oid text is = found oid text is.0 is.1.0 is.1.1 is.1.2

pub syntax_only : (text : List ℕ) → IfThere (λ oid. IsSyntax oid text) (syntax_oid text)
unfolding syntax_oid
syntax_only text =
    let n = end_of is_brace text in
    chosen (λ oid. IsSyntax oid text) (is_oid (take n text) && is_length (drop n text)) (Some (take n text)) None (λ e.
    let k = and_parts (is_oid (take n text)) (is_length (drop n text)) e in
    (oid_only (take n text) k.0, (drop n text, length_only (drop n text) (rest_stops is_brace text) k.1, sym (take-append-drop n text)))) (λ e. tt)
