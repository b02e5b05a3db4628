use Rattle.std.proofs.Common.{◌≡◌, ◌++◌, ◌==◌, List, ℕ, true, false, codes, length, if◌then◌else◌, Result, Ok, Err, refl, sym, ap, ◌∙◌, append_assoc}
use Rattle.std.proofs.lemmas.Result.{on_ok_weaker}
use Rattle.std.specs.Result.{OnOk, is_ok}
use Rattle.base64.specs.GeneralPurpose.{encode_of}
use Rattle.base64.specs.Engines.{standard}
use Rattle.ldif.specs.Writing.{is_plain, line_text}
use Rattle.ldif.proofs.write.put_text.Goals as goal

where_ok : {T E : Type 0} (r : Result T E) (new put old : List ℕ) → new ≡ (if is_ok r then put else old) → OnOk r (new ≡ put)
where_ok (Ok x) new put old h = h
where_ok (Err e) new put old h = tt

none_put : (before now name value : List ℕ) → now ≡ before ++ name → (length value == 0) ≡ true → now ++ codes ":" ≡ before ++ line_text name value
unfolding line_text
none_put before now name value e empty = rw (e, empty) (append_assoc before name (codes ":"))

parts : (before a b name mark rest : List ℕ) → a ≡ before ++ name → b ≡ a ++ mark → b ++ rest ≡ before ++ ((name ++ mark) ++ rest)
parts before a b name mark rest e f = rw (f, e) (ap (λ (t : List ℕ). t ++ rest) (append_assoc before name mark) ∙ append_assoc before (name ++ mark) rest)

plain_text : (name value : List ℕ) → (length value == 0) ≡ false → is_plain value ≡ true → line_text name value ≡ name ++ codes ": " ++ value
unfolding line_text
plain_text name value some plain = rw (some, plain) refl

encoded_text : (name value : List ℕ) → (length value == 0) ≡ false → is_plain value ≡ false → line_text name value ≡ name ++ codes ":: " ++ encode_of standard value
unfolding line_text
encoded_text name value some other = rw (some, other) refl

pub returns-then-is_empty-clause-put : goal.returns-then-is_empty-clause-put
returns-then-is_empty-clause-put c =
    on_ok_weaker c.extend_from_slice-then-is_empty.result (λ put. put ∙ none_put _ _ c.args.name.now c.args.value.now c.in_ok-extend_from_slice.ensures.items (sym c.if-is_empty.ensures)) (where_ok c.extend_from_slice-then-is_empty.result _ _ _ c.extend_from_slice-then-is_empty.ensures.items)

pub returns-in_ok-extend_from_slice-2-clause-put : goal.returns-in_ok-extend_from_slice-2-clause-put
returns-in_ok-extend_from_slice-2-clause-put c =
    let before = c.args.out.now.items in
    let value = c.args.value.now in
    let text = plain_text c.args.name.now value (sym c.if-is_empty.ensures) (sym c.if-is_plain.ensures) in
    on_ok_weaker c.extend_from_slice-then-is_plain-2.result (λ put. put ∙ parts before _ _ _ _ value c.in_ok-extend_from_slice.ensures.items c.in_ok-extend_from_slice-2.ensures.items ∙ ap (λ (t : List ℕ). before ++ t) (sym text)) (where_ok c.extend_from_slice-then-is_plain-2.result _ _ _ c.extend_from_slice-then-is_plain-2.ensures.items)

pub returns-in_ok-extend_from_slice-3-clause-put : goal.returns-in_ok-extend_from_slice-3-clause-put
returns-in_ok-extend_from_slice-3-clause-put c =
    let before = c.args.out.now.items in
    let value = c.args.value.now in
    let text = encoded_text c.args.name.now value (sym c.if-is_empty.ensures) (sym c.if-is_plain.ensures) in
    on_ok_weaker c.put_encoded.result (λ put. put ∙ parts before _ _ _ _ (encode_of standard value) c.in_ok-extend_from_slice.ensures.items c.in_ok-extend_from_slice-3.ensures.items ∙ ap (λ (t : List ℕ). before ++ t) (sym text)) c.put_encoded.ensures.put
