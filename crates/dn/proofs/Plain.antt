-- Values without escapes.
use Rattle.std.proofs.Common.{◌≡◌, ℕ, zero, suc, ◌+◌, ◌-◌, ◌<◌, ◌≤◌, Bool, true, false, cond, not, ◌&&◌, eqb, List, [], ◌∷◌, ◌++◌, map, take, drop, replicate, length, get_or, Result, Ok, Err, refl, sym, ap, ◌∙◌, arith}
use Rattle.std.specs.List.{list_all}
use Rattle.std.proofs.lemmas.Bool.{and_parts}
use Rattle.std.proofs.lemmas.List.{append-nil, take_more, drop_more}
use Rattle.dn.specs.declared.faults.NameFaultKind.{NameFaultKind}
use Rattle.dn.specs.declared.faults.NameFaultKind.TheVariants.{FormNotSupported}
use Rattle.dn.specs.Spelling.{Octet, may_stand, ends_well, byte_of, spaces}
use Rattle.base.specs.Answers.{◌>>=◌}
use Rattle.base.specs.Ends.{is_space}
use Rattle.dn.specs.Reading.{Plain, Backslash, with_octet, octets_from, raw_fault, trimmed, begins_form, value_from, value_of}
use Rattle.dn.specs.inner.Cuts.{piece, behind, first_value, ends_piece, ends_in_space}
use Rattle.dn.specs.NameFaults.{is_separator}
use Rattle.dn.proofs.Octets.{space, trimmed_with}
use Rattle.dn.proofs.Runs.{spaces_are}
use Rattle.dn.proofs.Pieces.{piece_run, behind_run, stand_apart}

last_is : (x : ℕ) (xs : List ℕ) → ends_in_space (x ∷ xs) ≡ eqb (get_or (x ∷ xs) (length xs) 0) 32
last_is x [] = refl
last_is x (y ∷ ys) = last_is y ys

pub last_at : (text : List ℕ) → 1 ≤ length text → eqb (get_or text (length text - 1) 0) 32 ≡ ends_in_space text
last_at [] le = absurd (omega (arith, le))
last_at (x ∷ xs) le = ap (λ (n : ℕ). eqb (get_or (x ∷ xs) n 0) 32) (less (length xs)) ∙ sym (last_is x xs)
  where
    less : (n : ℕ) → suc n - 1 ≡ n
    less n = omega arith

raw : ℕ → Octet
raw b = record { raw = true; byte = b }

abbrev octets : List ℕ → List Octet
octets = map raw

abbrev done : List Octet → Result (List Octet) NameFaultKind
done os = Ok os

abbrev fine : List ℕ → Result (List ℕ) NameFaultKind
fine v = Ok v

octets_plain : (text : List ℕ) → list_all may_stand text ≡ true → octets_from Plain text ≡ done (octets text)
unfolding octets_from raw
octets_plain [] h = refl
octets_plain (b ∷ bs) h =
    let k = and_parts (may_stand b) (list_all may_stand bs) h in
    ap (λ (t : Bool). cond t (with_octet true b (octets_from Plain bs)) (cond (eqb b 92) (octets_from Backslash bs) (Err (raw_fault b)))) k.0
    ∙ ap (with_octet true b) (octets_plain bs k.1)

bytes_back : (text : List ℕ) → map byte_of (octets text) ≡ text
unfolding raw
bytes_back [] = refl
bytes_back (b ∷ bs) = ap (λ (x : List ℕ). b ∷ x) (bytes_back bs)

ends_plain : (text : List ℕ) → ends_in_space text ≡ false → ends_well (octets text) ≡ true
unfolding raw
ends_plain [] h = refl
ends_plain (b ∷ []) h = ap not h
ends_plain (b ∷ c ∷ bs) h = ends_plain (c ∷ bs) h

octets_append : (xs ys : List ℕ) → octets (xs ++ ys) ≡ octets xs ++ octets ys
octets_append [] ys = refl
octets_append (x ∷ xs) ys = ap (λ (os : List Octet). raw x ∷ os) (octets_append xs ys)

octets_spaces : (n : ℕ) → octets (spaces n) ≡ replicate n space
unfolding raw
octets_spaces zero = refl
octets_spaces (suc n) = ap (λ (os : List Octet). space ∷ os) (octets_spaces n)

-- what is read of a text without escapes: the spaces at its end are dropped
plain_value : (text value end : List ℕ) → text ≡ value ++ end → list_all may_stand text ≡ true → begins_form text ≡ false → ends_in_space value ≡ false → list_all is_space end ≡ true → value_of text ≡ fine value
unfolding value_of
plain_value text value end is stand begins ends all =
    let n = length end in
    ap (λ (t : Bool). cond t (Err FormNotSupported) (value_from (octets_from Plain text))) begins
    ∙ ap value_from (octets_plain text stand)
    ∙ ap (λ (os : List Octet). fine (map byte_of (trimmed os))) (ap octets is ∙ octets_append value end ∙ ap (λ (os : List Octet). octets value ++ os) (ap octets (spaces_are end all) ∙ octets_spaces n))
    ∙ ap (λ (os : List Octet). fine (map byte_of os)) (trimmed_with (octets value) n (ends_plain value ends))
    ∙ ap fine (bytes_back value)

abbrev both : List ℕ → List ℕ → Result (List ℕ × List ℕ) NameFaultKind
both v rest = Ok (v, rest)

nothing : (rest : List ℕ) → ends_piece rest ≡ true → (piece is_separator false rest ≡ []) × (behind is_separator false rest ≡ rest)
unfolding piece behind
nothing [] h = (refl, refl)
nothing (b ∷ bs) h = (ap (λ (t : Bool). cond t [] (b ∷ piece is_separator (eqb b 92) bs)) h, ap (λ (t : Bool). cond t (b ∷ bs) (behind is_separator (eqb b 92) bs)) h)

pub plain_first : (text plain value end rest : List ℕ) → text ≡ plain ++ rest → plain ≡ value ++ end → list_all may_stand plain ≡ true → ends_piece rest ≡ true → begins_form plain ≡ false → ends_in_space value ≡ false → list_all is_space end ≡ true → first_value text ≡ both value rest
plain_first text plain value end rest is plain_is stand stops begins ends all =
    let e = nothing rest stops in
    ap first_value is
    ∙ ap (λ (x : List ℕ). value_of x >>= λ v. both v (behind is_separator false (plain ++ rest))) (piece_run may_stand stand_apart plain rest stand ∙ ap (λ (x : List ℕ). plain ++ x) e.0 ∙ append-nil plain)
    ∙ ap (λ (r : Result (List ℕ) NameFaultKind). r >>= λ v. both v (behind is_separator false (plain ++ rest))) (plain_value plain value end plain_is stand begins ends all)
    ∙ ap (both value) (behind_run may_stand stand_apart plain rest stand ∙ e.1)

-- ---- the loop over the spaces at the end

ends_push : (xs : List ℕ) (x : ℕ) → ends_in_space (xs ++ x ∷ []) ≡ eqb x 32
ends_push [] x = refl
ends_push (y ∷ []) x = refl
ends_push (y ∷ z ∷ ys) x = ends_push (z ∷ ys) x

pub some_left : (text : List ℕ) (n : ℕ) → ends_in_space (take n text) ≡ true → 0 < n
some_left text zero h = absurd cc
some_left text (suc n) h = omega arith

pub one_less : (text : List ℕ) (n : ℕ) → n ≤ length text → ends_in_space (take n text) ≡ true → list_all is_space (drop n text) ≡ true → list_all is_space (drop (n - 1) text) ≡ true
one_less text n le h g =
    let j = n - 1 in
    let pos = some_left text n h in
    let e : n ≡ j + 1 = omega (arith, pos) in
    let lt : j < length text = omega (arith, pos, le) in
    let is : eqb (get_or text j 0) 32 ≡ true = sym (ends_push (take j text) (get_or text j 0)) ∙ ap ends_in_space (sym (take_more text j 0 lt)) ∙ ap (λ (m : ℕ). ends_in_space (take m text)) (sym e) ∙ h in
    ap (list_all is_space) (drop_more text j 0 lt)
    ∙ ap (λ (t : Bool). t && list_all is_space (drop (j + 1) text)) is
    ∙ ap (λ (m : ℕ). list_all is_space (drop m text)) (sym e) ∙ g
