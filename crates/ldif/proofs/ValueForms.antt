-- A line is read exactly where it has the form of a value line.
use Rattle.std.proofs.Common.{◌≡◌, ℕ, zero, suc, ◌+◌, Bool, true, false, cond, eqb, List, [], ◌∷◌, ◌++◌, replicate, get_or, take, drop, Option, Some, None, Result, Ok, Err, refl, sym, ap, subst, ◌∙◌, arith, inl, inr}
use Rattle.std.specs.List.{list_all, position}
use Rattle.std.proofs.lemmas.List.{length-take, drop_more, take-append-drop}
use Rattle.std.proofs.lemmas.List.Quantifiers.{position-Some}
use Rattle.std.proofs.lemmas.Bool.{eqb-true, eqb-false, and_parts}
use Rattle.base64.specs.GeneralPurpose.{encode_of, decode_of, IsBytes}
use Rattle.base64.specs.Engines.{standard}
use Rattle.base64.specs.declared.decode.DecodeError.{DecodeError}
use Rattle.base64.proofs.EngineFacts.{decode_of-encode_of, decode_of_strict, front_bytes}
use Rattle.base.specs.Ends.{begins_with, without_front, without_end}
use Rattle.ldif.specs.declared.fault.LdifFaultKind.{LdifFaultKind}
use Rattle.ldif.specs.declared.fault.LdifFaultKind.TheVariants.{Url, ColonMissing, Continuation}
use Rattle.ldif.specs.Attrs.{Attr}
use Rattle.base.specs.Answers.{◌>>=◌}
use Rattle.ldif.specs.Line.{or_base64, decoded, form_of, is_colon, value_at, value_of, value_line}
use Rattle.ldif.specs.Forms.{IsCoded, IsBare, IsForm, IsValueLine}
use Rattle.ldif.proofs.WrittenLines.{is_clean, code_clean, clean_end, not_space, no_front}
use Rattle.ldif.proofs.Colon.{said, value_is, front_colons}
use Rattle.ldif.proofs.DecodedBytes.{decoded_are_bytes}
use Rattle.base.proofs.Bound.{bind_ok}
use Rattle.ldif.proofs.Inverted.{okay, ok_is, bad}
use Rattle.ldif.proofs.Spaces.{front_is, end_is, skip, cut_end}

-- ---- what is read has a form

abbrev url : Result (List ℕ) LdifFaultKind
url = Err Url

abbrev fine : List ℕ → Result (List ℕ) DecodeError
fine v = Ok v

tests : (rest : List ℕ) (c d : Bool) → begins_with 58 rest ≡ c → begins_with 60 rest ≡ d → form_of rest ≡ cond c (decoded (without_end (without_front (drop 1 rest)))) (cond d url (okay (without_front rest)))
unfolding form_of
tests rest c d e f = rw (e, f) refl

tail_bytes : (n : ℕ) (xs : List ℕ) → IsBytes (replicate n 32 ++ xs) → IsBytes xs
tail_bytes zero xs h = h
tail_bytes (suc n) xs h = tail_bytes n xs (λ i. h (suc i))

ok_decoded : (r : Result (List ℕ) DecodeError) (v : List ℕ) → or_base64 r ≡ Ok v → r ≡ Ok v
ok_decoded (Ok x) v e = ap fine (ok_is x v e)
ok_decoded (Err d) v e = absurd cc

coded : (bs v : List ℕ) → IsBytes bs → decoded (without_end (without_front bs)) ≡ Ok v → IsCoded (58 ∷ bs) v
unfolding decoded
coded bs v bytes e =
    let t = without_end (without_front bs) in
    let f = front_is bs in
    let g = end_is (without_front bs) in
    let inside : IsBytes (t ++ replicate g.0 32) = subst (λ (x : List ℕ). IsBytes x) g.1 (tail_bytes f.0 (without_front bs) (subst (λ (x : List ℕ). IsBytes x) f.1 bytes)) in
    let read : decode_of standard t ≡ Ok v = ok_decoded (decode_of standard t) v e in
    let code : t ≡ encode_of standard v = decode_of_strict standard t v (refl, refl) (front_bytes t (replicate g.0 32) inside) read in
    record { front = f.0; back = g.0; is = ap (λ (x : List ℕ). 58 ∷ x) (f.1 ∙ ap (λ (x : List ℕ). replicate f.0 32 ++ x) (g.1 ∙ ap (λ (x : List ℕ). x ++ replicate g.0 32) code)); bytes = decoded_are_bytes t v (front_bytes t (replicate g.0 32) inside) read }

bare : (rest v : List ℕ) → begins_with 58 rest ≡ false → begins_with 60 rest ≡ false → okay (without_front rest) ≡ okay v → IsBare rest v
bare rest v c d e =
    let f = front_is rest in
    let same : without_front rest ≡ v = ok_is (without_front rest) v e in
    record { front = f.0; is = f.1 ∙ ap (λ (x : List ℕ). replicate f.0 32 ++ x) same; no_space = sym (ap (begins_with 32) same) ∙ f.2; no_colon = c; no_angle = d }

by_tests : (c d : Bool) (rest v : List ℕ) → IsBytes rest → begins_with 58 rest ≡ c → begins_with 60 rest ≡ d → form_of rest ≡ Ok v → IsForm rest v
unfolding form_of
by_tests true d [] v bytes e f h = absurd cc
by_tests true d (b ∷ bs) v bytes e f h =
    let is : b ≡ 58 = eqb-true b 58 e in
    let k : decoded (without_end (without_front bs)) ≡ Ok v = sym (ap (λ (t : Bool). cond t (decoded (without_end (without_front bs))) (cond (eqb b 60) (Err Url) (okay (without_front (b ∷ bs))))) e) ∙ h in
    inl (subst (λ (x : ℕ). IsCoded (x ∷ bs) v) (sym is) (coded bs v (λ i. bytes (suc i)) k))
by_tests false true rest v bytes e f h = absurd (let k : url ≡ okay v = sym (tests rest false true e f) ∙ h in cc)
by_tests false false rest v bytes e f h = inr (bare rest v e f (sym (tests rest false false e f) ∙ h))

pub form_found : (rest v : List ℕ) → IsBytes rest → form_of rest ≡ Ok v → IsForm rest v
form_found rest v bytes h = by_tests (begins_with 58 rest) (begins_with 60 rest) rest v bytes refl refl h

-- ---- and what has a form is read

both_ends : (xs : List ℕ) (n : ℕ) → list_all is_clean xs ≡ true → without_end (without_front (xs ++ replicate n 32)) ≡ xs
both_ends [] n h = ap (λ (x : List ℕ). without_end (without_front x)) (sym (Rattle.std.proofs.lemmas.List.append-nil (replicate n 32))) ∙ ap without_end (skip n [])
both_ends (b ∷ bs) n h =
    ap without_end (ap (λ (t : Bool). cond t (without_front (bs ++ replicate n 32)) (b ∷ (bs ++ replicate n 32))) (not_space b (and_parts (is_clean b) (list_all is_clean bs) h).0))
    ∙ cut_end (b ∷ bs) n ∙ clean_end (b ∷ bs) h

pub form_only : (rest v : List ℕ) → IsForm rest v → form_of rest ≡ Ok v
unfolding form_of decoded
form_only rest v (inl h) =
    let code = encode_of standard v in
    ap form_of h.is
    ∙ ap (λ (x : List ℕ). or_base64 (decode_of standard (without_end x))) (skip h.front (code ++ replicate h.back 32))
    ∙ ap (λ (x : List ℕ). or_base64 (decode_of standard x)) (both_ends code h.back (code_clean v))
    ∙ ap or_base64 (decode_of-encode_of standard v refl h.bytes)
form_only rest v (inr h) = tests rest false false h.no_colon h.no_angle ∙ ap okay (ap without_front h.is ∙ skip h.front v ∙ no_front v h.no_space)

-- ---- lines

pub drop_bytes : (n : ℕ) (xs : List ℕ) → IsBytes xs → IsBytes (drop n xs)
drop_bytes zero xs h = h
drop_bytes (suc n) [] h = h
drop_bytes (suc n) (x ∷ xs) h = drop_bytes n xs (λ i. h (suc i))

pub back_bytes : (a b : List ℕ) → IsBytes (a ++ b) → IsBytes b
back_bytes [] b h = h
back_bytes (x ∷ a) b h = back_bytes a b (λ i. h (suc i))

abbrev attr_of : List ℕ → List ℕ → Attr
attr_of name value = record { name = name; value = value }

at_found : (line : List ℕ) (a : Attr) (o : Option ℕ) → IsBytes line → begins_with 32 line ≡ false → position is_colon line ≡ o → value_at line o ≡ Ok a → IsValueLine line a
at_found line a None bytes front e h = absurd cc
at_found line a (Some at) bytes front e h =
    let p = position-Some is_colon line at 0 e in
    let g = bad (eqb at 0) (form_of (drop (at + 1) line) >>= λ value. said (take at line) value) ColonMissing a h in
    let v = bind_ok (form_of (drop (at + 1) line)) (λ value. said (take at line) value) a g.1 in
    let cut : line ≡ take at line ++ 58 ∷ drop (at + 1) line =
    sym (take-append-drop at line) ∙ ap (λ (x : List ℕ). take at line ++ x) (drop_more line at 0 p.0 ∙ ap (λ (b : ℕ). b ∷ drop (at + 1) line) (eqb-true (get_or line at 0) 58 p.1)) in
    subst (λ (x : Attr). IsValueLine line x) (ok_is (attr_of (take at line) v.0) a v.2) (record {
      rest = drop (at + 1) line;
      is = cut;
      some = (let n = eqb-false at 0 g.0 in omega (arith, length-take at line, n, p.0));
      name = front_colons line at p.2;
      front = front;
      value = form_found (drop (at + 1) line) v.0 (drop_bytes (at + 1) line bytes) v.1;
    })

pub line_found : (line : List ℕ) (a : Attr) → IsBytes line → value_line line ≡ Ok a → IsValueLine line a
unfolding value_line value_of
line_found line a bytes h =
    let g = bad (begins_with 32 line) (value_of line) Continuation a h in
    at_found line a (position is_colon line) bytes g.0 refl g.1

pub line_only : (line : List ℕ) (a : Attr) → IsValueLine line a → value_line line ≡ Ok a
unfolding value_line
line_only line a h =
    ap (λ (t : Bool). cond t (Err Continuation) (value_of line)) h.front
    ∙ ap value_of h.is ∙ value_is a.name h.rest h.some h.name
    ∙ ap (λ (r : Result (List ℕ) LdifFaultKind). r >>= λ value. said a.name value) (form_only h.rest a.value h.value)

by_form : (rest value : List ℕ) → IsBytes rest → IsForm rest value → IsBytes value
by_form rest value bytes (inl h) = h.bytes
by_form rest value bytes (inr h) = back_bytes (replicate h.front 32) value (subst (λ (x : List ℕ). IsBytes x) h.is bytes)

-- the value of a line of bytes
pub value_bytes : (line : List ℕ) (a : Attr) → IsBytes line → IsValueLine line a → IsBytes a.value
value_bytes line a bytes h =
    let rest : IsBytes h.rest = (λ i. back_bytes a.name (58 ∷ h.rest) (subst (λ (x : List ℕ). IsBytes x) h.is bytes) (suc i)) in
    by_form h.rest a.value rest h.value
