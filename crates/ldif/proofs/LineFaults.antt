-- The faults that a line has by itself.
use Rattle.std.proofs.Common.{◌≡◌, ℕ, suc, ◌<◌, Bool, true, false, cond, eqb, List, [], ◌∷◌, ◌++◌, length, drop, Some, None, Result, Ok, Err, refl, sym, ap, subst, ◌∙◌, arith, inl, inr, ◌⊎◌}
use Rattle.std.specs.List.{list_all}
use Rattle.std.proofs.lemmas.Bool.{eqb-true, lt-ltb, and_from, not_from_false, true≢false}
use Rattle.base64.specs.GeneralPurpose.{decode_of, IsBytes}
use Rattle.base64.specs.Engines.{standard}
use Rattle.base64.specs.declared.decode.DecodeError.{DecodeError}
use Rattle.base.specs.Ends.{begins_with, without_front, without_end}
use Rattle.ldif.specs.declared.fault.LdifFaultKind.{LdifFaultKind}
use Rattle.ldif.specs.declared.fault.LdifFaultKind.TheVariants.{DnMissing, Continuation, Version, Base64, Url, ColonMissing, ChangetypeUnknown, OtherAttribute, PartMissing, StrayLine, ChangetypeMissing, ChangetypeInContent, Word}
use Rattle.ldif.specs.Attrs.{Attr}
use Rattle.base.specs.Answers.{◌>>=◌}
use Rattle.ldif.specs.Line.{or_base64, decoded, form_of, value_at, value_of, value_line}
use Rattle.ldif.specs.Forms.{IsCoded, is_no_colon}
use Rattle.ldif.specs.LineFaults.{IsNamedLine, IsLineFault}
use Rattle.ldif.proofs.Colon.{said, value_is}
use Rattle.ldif.proofs.Inverted.{okay}
use Rattle.ldif.proofs.ValueForms.{form_found, form_only, back_bytes}
use Rattle.ldif.proofs.RecordLines.{no_colon}

abbrev pub bad : {A : Type 0} → LdifFaultKind → Result A LdifFaultKind
bad f = Err f

pub err_is : {A : Type 0} (f g : LdifFaultKind) → bad {A = A} f ≡ bad g → f ≡ g
err_is f g e = cc

-- a line by its first colon
abbrev Split : List ℕ → Type 0
Split xs = (list_all is_no_colon xs ≡ true) ⊎ ((name : List ℕ) × (rest : List ℕ) × (xs ≡ name ++ 58 ∷ rest) × (list_all is_no_colon name ≡ true))

split_cons : (b : ℕ) (bs : List ℕ) → Split bs → (t : Bool) → eqb b 58 ≡ t → Split (b ∷ bs)
split_cons b bs s true e = inr ([], bs, ap (λ (x : ℕ). x ∷ bs) (eqb-true b 58 e), refl)
split_cons b bs (inl h) false e = inl (and_from (is_no_colon b) (list_all is_no_colon bs) (not_from_false (eqb b 58) e) h)
split_cons b bs (inr h) false e = inr (b ∷ h.0, h.1, ap (λ (x : List ℕ). b ∷ x) h.2, and_from (is_no_colon b) (list_all is_no_colon h.0) (not_from_false (eqb b 58) e) h.3)

split : (xs : List ℕ) → Split xs
split [] = inl refl
split (b ∷ bs) = split_cons b bs (split bs) (eqb b 58) refl

nameless : (rest : List ℕ) → value_of (58 ∷ rest) ≡ Err ColonMissing
unfolding value_of
nameless rest = ap (λ (t : Bool). value_at (58 ∷ rest) (cond t (Some 0) None)) (lt-ltb 0 (length (58 ∷ rest)) (omega arith))

-- ---- what stands behind the colon

abbrev pub IsFormFault : List ℕ → LdifFaultKind → Type 0
IsFormFault rest fault = ((fault ≡ Url) × ((text : List ℕ) × (rest ≡ 60 ∷ text))) ⊎ ((fault ≡ Base64) × ((text : List ℕ) × (rest ≡ 58 ∷ text) × ((value : List ℕ) → IsCoded (58 ∷ text) value → ⊥)))

abbrev form_by : Bool → Bool → List ℕ → Result (List ℕ) LdifFaultKind
form_by c d rest = cond c (decoded (without_end (without_front (drop 1 rest)))) (cond d (Err Url) (okay (without_front rest)))

decode_fails : (r : Result (List ℕ) DecodeError) (fault : LdifFaultKind) → or_base64 r ≡ Err fault → fault ≡ Base64
decode_fails (Ok v) fault e = absurd cc
decode_fails (Err d) fault e = sym (err_is {A = List ℕ} Base64 fault e)

uncoded : (text : List ℕ) (fault : LdifFaultKind) → form_of (58 ∷ text) ≡ Err fault → (value : List ℕ) → IsCoded (58 ∷ text) value → ⊥
uncoded text fault h value k = (let c : okay value ≡ Err fault = sym (form_only (58 ∷ text) value (inl k)) ∙ h in cc)

pub form_fault : (rest : List ℕ) (fault : LdifFaultKind) → form_of rest ≡ Err fault → (c d : Bool) → begins_with 58 rest ≡ c → begins_with 60 rest ≡ d → IsFormFault rest fault
unfolding form_of decoded
form_fault [] fault h c d e f = absurd cc
form_fault (b ∷ bs) fault h true d e f =
    let is : b ≡ 58 = eqb-true b 58 e in
    let whole : form_of (58 ∷ bs) ≡ Err fault = ap (λ (x : ℕ). form_of (x ∷ bs)) (sym is) ∙ h in
    inr (decode_fails (decode_of standard (without_end (without_front bs))) fault whole, (bs, ap (λ (x : ℕ). x ∷ bs) is, uncoded bs fault whole))
form_fault (b ∷ bs) fault h false true e f =
    let now : bad Url ≡ Err fault = sym (ap (λ (t : Bool). form_by t (eqb b 60) (b ∷ bs)) e ∙ ap (λ (t : Bool). form_by false t (b ∷ bs)) f) ∙ h in
    inl (sym (err_is {A = List ℕ} Url fault now), (bs, ap (λ (x : ℕ). x ∷ bs) (eqb-true b 60 f)))
form_fault (b ∷ bs) fault h false false e f =
    absurd (let now : okay (without_front (b ∷ bs)) ≡ Err fault = sym (ap (λ (t : Bool). form_by t (eqb b 60) (b ∷ bs)) e ∙ ap (λ (t : Bool). form_by false t (b ∷ bs)) f) ∙ h in cc)

bind_err : (r : Result (List ℕ) LdifFaultKind) (name : List ℕ) (fault : LdifFaultKind) → (r >>= λ v. said name v) ≡ Err fault → r ≡ Err fault
bind_err (Ok v) name fault e = absurd cc
bind_err (Err g) name fault e = ap bad (err_is {A = Attr} g fault e)

-- ---- found

named_fault : (line : List ℕ) (fault : LdifFaultKind) (name rest : List ℕ) → begins_with 32 line ≡ false → line ≡ name ++ 58 ∷ rest → list_all is_no_colon name ≡ true → value_of line ≡ Err fault → IsLineFault line fault
named_fault line fault [] rest front is free h =
    let now : ColonMissing ≡ fault = err_is {A = Attr} ColonMissing fault (sym (ap value_of is ∙ nameless rest) ∙ h) in
    subst (IsLineFault line) now (front, inr (ap (begins_with 58) is))
named_fault line fault (b ∷ bs) rest front is free h =
    let name = b ∷ bs in
    let some : 0 < length name = omega arith in
    let e : form_of rest ≡ Err fault = bind_err (form_of rest) name fault (sym (ap value_of is ∙ value_is name rest some free) ∙ h) in
    elim (form_fault rest fault e (begins_with 58 rest) (begins_with 60 rest) refl refl) [
      | inl u ↦ subst (IsLineFault line) (sym u.0) (u.1.0, record { name = name; is = is ∙ ap (λ (x : List ℕ). name ++ 58 ∷ x) u.1.1; some = some; no_colon = free; front = front })
      | inr u ↦ subst (IsLineFault line) (sym u.0) (u.1.0, record { name = name; is = is ∙ ap (λ (x : List ℕ). name ++ 58 ∷ x) u.1.1; some = some; no_colon = free; front = front }, u.1.2)
    ]

fault_by : (line : List ℕ) (fault : LdifFaultKind) → value_line line ≡ Err fault → (t : Bool) → begins_with 32 line ≡ t → IsLineFault line fault
unfolding value_line
fault_by line fault h true e =
    let now : Continuation ≡ fault = err_is {A = Attr} Continuation fault (sym (ap (λ (t : Bool). cond t (bad Continuation) (value_of line)) e) ∙ h) in
    subst (IsLineFault line) now e
fault_by line fault h false e =
    let rest : value_of line ≡ Err fault = sym (ap (λ (t : Bool). cond t (bad Continuation) (value_of line)) e) ∙ h in
    elim (split line) [
      | inl free ↦ subst (IsLineFault line) (err_is {A = Attr} ColonMissing fault (sym (no_colon line free) ∙ rest)) (e, inl free)
      | inr s ↦ named_fault line fault s.0 s.1 e s.2 s.3 rest
    ]

pub fault_found : (line : List ℕ) (fault : LdifFaultKind) → IsBytes line → value_line line ≡ Err fault → IsLineFault line fault
fault_found line fault bytes h = fault_by line fault h (begins_with 32 line) refl

-- ---- and only

not_continued : (line : List ℕ) → begins_with 32 line ≡ false → value_line line ≡ value_of line
unfolding value_line
not_continued line e = ap (λ (t : Bool). cond t (bad Continuation) (value_of line)) e

continued : (line : List ℕ) → begins_with 32 line ≡ true → value_line line ≡ Err Continuation
unfolding value_line
continued line e = ap (λ (t : Bool). cond t (bad Continuation) (value_of line)) e

headless : (line : List ℕ) → begins_with 58 line ≡ true → value_of line ≡ Err ColonMissing
headless [] e = absurd cc
headless (b ∷ bs) e = ap (λ (x : ℕ). value_of (x ∷ bs)) (eqb-true b 58 e) ∙ nameless bs

named_is : (line rest : List ℕ) (h : IsNamedLine line rest) → value_line line ≡ (form_of rest >>= λ v. said h.name v)
named_is line rest h = not_continued line h.front ∙ ap value_of h.is ∙ value_is h.name rest h.some h.no_colon

pub url_form : (text : List ℕ) → form_of (60 ∷ text) ≡ Err Url
unfolding form_of
url_form text = refl

coded_is : (text : List ℕ) → form_of (58 ∷ text) ≡ decoded (without_end (without_front text))
unfolding form_of
coded_is text = refl

decoded_by : (text : List ℕ) (r : Result (List ℕ) DecodeError) → ((value : List ℕ) → IsCoded (58 ∷ text) value → ⊥) → IsBytes (58 ∷ text) → form_of (58 ∷ text) ≡ or_base64 r → form_of (58 ∷ text) ≡ Err Base64
decoded_by text (Ok v) none bytes e = elim (form_found (58 ∷ text) v bytes e) [
  | inl k ↦ absurd (none v k)
  | inr k ↦ absurd (true≢false k.no_colon)
]
decoded_by text (Err d) none bytes e = e

decoded_is : (text : List ℕ) → decoded text ≡ or_base64 (decode_of standard text)
unfolding decoded
decoded_is text = refl

pub uncoded_fails : (text : List ℕ) → ((value : List ℕ) → IsCoded (58 ∷ text) value → ⊥) → IsBytes (58 ∷ text) → form_of (58 ∷ text) ≡ Err Base64
uncoded_fails text none bytes =
    decoded_by text (decode_of standard (without_end (without_front text))) none bytes (coded_is text ∙ decoded_is (without_end (without_front text)))

pub fault_only : (line : List ℕ) (fault : LdifFaultKind) → IsBytes line → IsLineFault line fault → value_line line ≡ Err fault
fault_only line Continuation bytes h = continued line h
fault_only line ColonMissing bytes (front, inl free) = not_continued line front ∙ no_colon line free
fault_only line ColonMissing bytes (front, inr head) = not_continued line front ∙ headless line head
fault_only line Url bytes h = named_is line (60 ∷ h.0) h.1 ∙ ap (λ (r : Result (List ℕ) LdifFaultKind). r >>= λ v. said h.1.name v) (url_form h.0)
fault_only line Base64 bytes h =
    let text = h.0 in
    let rest : IsBytes (58 ∷ text) = (λ i. back_bytes h.1.name (58 ∷ 58 ∷ text) (subst (λ (x : List ℕ). IsBytes x) h.1.is bytes) (suc i)) in
    named_is line (58 ∷ text) h.1
    ∙ ap (λ (r : Result (List ℕ) LdifFaultKind). r >>= λ v. said h.1.name v)
    (decoded_by text (decode_of standard (without_end (without_front text))) h.2 rest (coded_is text ∙ decoded_is (without_end (without_front text))))
fault_only line DnMissing bytes h = absurd h
fault_only line Version bytes h = absurd h
fault_only line ChangetypeUnknown bytes h = absurd h
fault_only line OtherAttribute bytes h = absurd h
fault_only line PartMissing bytes h = absurd h
fault_only line StrayLine bytes h = absurd h
fault_only line ChangetypeMissing bytes h = absurd h
fault_only line ChangetypeInContent bytes h = absurd h
fault_only line Word bytes h = absurd h
