-- What a written line says.
use Rattle.std.proofs.Common.{◌≡◌, ℕ, zero, suc, ◌+◌, ◌*◌, ◌/◌, ◌%◌, ◌<◌, Bool, true, false, not, ◌&&◌, ◌||◌, cond, eqb, leb, List, [], ◌∷◌, ◌++◌, length, get_or, replicate, codes, Result, Ok, Err, refl, sym, ap, ◌∙◌, append_assoc, arith}
use Rattle.std.specs.List.{list_all}
use Rattle.std.proofs.lemmas.Bool.{eqb-true, and_parts, and_from, not-true, leb-true}
use Rattle.base64.specs.Rfc4648.{encode_symbols, padding_len}
use Rattle.base64.specs.GeneralPurpose.{encode_of, decode_of, IsBytes}
use Rattle.base64.specs.Engines.{standard}
use Rattle.base64.proofs.EngineFacts.{decode_of-encode_of}
use Rattle.base.specs.Ends.{begins_with, without_front, without_end, onto_text, ends_with}
use Rattle.ldif_lines.specs.Folding.{begins_line, is_line_byte, IsWritable}
use Rattle.ldif.specs.declared.fault.LdifFaultKind.{LdifFaultKind}
use Rattle.ldif.specs.declared.fault.LdifFaultKind.TheVariants.{Continuation}
use Rattle.base.specs.Answers.{◌>>=◌}
use Rattle.ldif.specs.Line.{or_base64, decoded, form_of, value_of, value_line}
use Rattle.ldif.specs.Writing.{is_safe_byte, is_plain, line_text}
use Rattle.ldif.specs.Contents.{is_byte, is_inner_name_byte, IsName}
use Rattle.ldif.specs.Forms.{is_no_colon}
use Rattle.ldif.proofs.Colon.{said, value_is}

-- ---- base64 has neither a space nor the end of a line

abbrev pub is_clean : ℕ → Bool
is_clean b = is_line_byte b && not (eqb b 32)

all_append : (p : ℕ → Bool) (xs ys : List ℕ) → list_all p xs ≡ true → list_all p ys ≡ true → list_all p (xs ++ ys) ≡ true
all_append p [] ys h k = k
all_append p (x ∷ xs) ys h k = let a = and_parts (p x) (list_all p xs) h in and_from (p x) (list_all p (xs ++ ys)) a.0 (all_append p xs ys a.1 k)

at_any : (t : List ℕ) (i : ℕ) → list_all is_clean t ≡ true → is_clean (get_or t i 0) ≡ true
at_any [] i e = refl
at_any (x ∷ t) zero e = (and_parts (is_clean x) (list_all is_clean t) e).0
at_any (x ∷ t) (suc i) e = at_any t i (and_parts (is_clean x) (list_all is_clean t) e).1

onto_all : (b : ℕ) (bs : List ℕ) → is_clean b ≡ true → list_all is_clean bs ≡ true → list_all is_clean (b ∷ bs) ≡ true
onto_all b bs h k = and_from (is_clean b) (list_all is_clean bs) h k

symbols_clean : (t m : List ℕ) → ((i : ℕ) → is_clean (get_or t i 0) ≡ true) → list_all is_clean (encode_symbols t m) ≡ true
unfolding encode_symbols
symbols_clean t [] h = refl
symbols_clean t (a ∷ []) h = onto_all (get_or t (a / 4) 0) (get_or t (a % 4 * 16) 0 ∷ []) (h (a / 4)) (onto_all (get_or t (a % 4 * 16) 0) [] (h (a % 4 * 16)) refl)
symbols_clean t (a ∷ b ∷ []) h =
    onto_all (get_or t (a / 4) 0) (get_or t (a % 4 * 16 + b / 16) 0 ∷ get_or t (b % 16 * 4) 0 ∷ []) (h (a / 4))
    (onto_all (get_or t (a % 4 * 16 + b / 16) 0) (get_or t (b % 16 * 4) 0 ∷ []) (h (a % 4 * 16 + b / 16)) (onto_all (get_or t (b % 16 * 4) 0) [] (h (b % 16 * 4)) refl))
symbols_clean t (a ∷ b ∷ c ∷ rest) h =
    onto_all (get_or t (a / 4) 0) (get_or t (a % 4 * 16 + b / 16) 0 ∷ get_or t (b % 16 * 4 + c / 64) 0 ∷ get_or t (c % 64) 0 ∷ encode_symbols t rest) (h (a / 4))
    (onto_all (get_or t (a % 4 * 16 + b / 16) 0) (get_or t (b % 16 * 4 + c / 64) 0 ∷ get_or t (c % 64) 0 ∷ encode_symbols t rest) (h (a % 4 * 16 + b / 16))
    (onto_all (get_or t (b % 16 * 4 + c / 64) 0) (get_or t (c % 64) 0 ∷ encode_symbols t rest) (h (b % 16 * 4 + c / 64))
    (onto_all (get_or t (c % 64) 0) (encode_symbols t rest) (h (c % 64)) (symbols_clean t rest h))))

padding_clean : (n : ℕ) → list_all is_clean (replicate n 61) ≡ true
padding_clean zero = refl
padding_clean (suc n) = padding_clean n

pub code_clean : (m : List ℕ) → list_all is_clean (encode_of standard m) ≡ true
code_clean m = all_append is_clean (encode_symbols standard.encode_table m) (replicate (padding_len (length m)) 61) (symbols_clean standard.encode_table m (λ i. at_any standard.encode_table i refl)) (padding_clean (padding_len (length m)))

pub not_space : (b : ℕ) → is_clean b ≡ true → eqb b 32 ≡ false
not_space b e = not-true (eqb b 32) (and_parts (is_line_byte b) (not (eqb b 32)) e).1

pub clean_front : (xs : List ℕ) → list_all is_clean xs ≡ true → without_front xs ≡ xs
clean_front [] h = refl
clean_front (b ∷ bs) h = ap (λ (t : Bool). cond t (without_front bs) (b ∷ bs)) (not_space b (and_parts (is_clean b) (list_all is_clean bs) h).0)

onto_clean : (b : ℕ) (bs : List ℕ) → eqb b 32 ≡ false → onto_text b bs ≡ b ∷ bs
onto_clean b [] e = ap (λ (t : Bool). cond t [] (b ∷ [])) e
onto_clean b (c ∷ cs) e = refl

pub clean_end : (xs : List ℕ) → list_all is_clean xs ≡ true → without_end xs ≡ xs
clean_end [] h = refl
clean_end (b ∷ bs) h = let a = and_parts (is_clean b) (list_all is_clean bs) h in ap (onto_text b) (clean_end bs a.1) ∙ onto_clean b bs (not_space b a.0)

pub all_weaker : (p q : ℕ → Bool) → ((b : ℕ) → p b ≡ true → q b ≡ true) → (xs : List ℕ) → list_all p xs ≡ true → list_all q xs ≡ true
all_weaker p q f [] h = refl
all_weaker p q f (x ∷ xs) h = let a = and_parts (p x) (list_all p xs) h in and_from (q x) (list_all q xs) (f x a.0) (all_weaker p q f xs a.1)

-- ---- a name

no_colons : (name : List ℕ) → list_all is_inner_name_byte name ≡ true → list_all is_no_colon name ≡ true
no_colons name h = all_weaker is_inner_name_byte is_no_colon (λ b e. (and_parts (is_line_byte b) (not (eqb b 58)) e).1) name h

-- a name is not empty, and does not begin with a space
some_name : (name : List ℕ) → begins_line name ≡ true → 0 < length name
some_name [] e = absurd cc
some_name (b ∷ bs) e = omega arith

no_front_space : (name rest : List ℕ) → begins_line name ≡ true → begins_with 32 (name ++ rest) ≡ false
no_front_space [] rest e = absurd cc
no_front_space (b ∷ bs) rest e = not-true (eqb b 32) (and_parts (not (eqb b 32)) (not (eqb b 35)) e).0

pub line_is : (name rest : List ℕ) → IsName name → value_line (name ++ 58 ∷ rest) ≡ (form_of rest >>= λ value. said name value)
unfolding value_line
line_is name rest h = ap (λ (t : Bool). cond t (Err Continuation) (value_of (name ++ 58 ∷ rest))) (no_front_space name (58 ∷ rest) h.begins) ∙ value_is name rest (some_name name h.begins) (no_colons name h.bytes)

-- ---- the three forms

abbrev pub okay : List ℕ → Result (List ℕ) LdifFaultKind
okay v = Ok v

first_of : (a b c : Bool) → (a || b || c) ≡ false → a ≡ false
first_of true b c e = absurd cc
first_of false b c e = refl

pub no_front : (value : List ℕ) → begins_with 32 value ≡ false → without_front value ≡ value
no_front [] e = refl
no_front (b ∷ bs) e = ap (λ (t : Bool). cond t (without_front bs) (b ∷ bs)) e

plain_form : (value : List ℕ) → begins_with 32 value ≡ false → form_of (32 ∷ value) ≡ Ok value
unfolding form_of
plain_form value e = ap okay (no_front value e)

pub code_form : (value : List ℕ) → IsBytes value → form_of (58 ∷ 32 ∷ encode_of standard value) ≡ Ok value
unfolding form_of decoded
code_form value bytes =
    let code = encode_of standard value in
    ap (λ (x : List ℕ). or_base64 (decode_of standard (without_end x))) (clean_front code (code_clean value))
    ∙ ap (λ (x : List ℕ). or_base64 (decode_of standard x)) (clean_end code (code_clean value))
    ∙ ap or_base64 (decode_of-encode_of standard value refl bytes)

-- the parts of what makes a value plain
plain_safe : (value : List ℕ) → is_plain value ≡ true → list_all is_safe_byte value ≡ true
unfolding is_plain
plain_safe value e =
    let a = and_parts (list_all is_safe_byte value && not (begins_with 32 value || begins_with 58 value || begins_with 60 value)) (not (ends_with 32 value)) e in
    (and_parts (list_all is_safe_byte value) (not (begins_with 32 value || begins_with 58 value || begins_with 60 value)) a.0).0

plain_front : (value : List ℕ) → is_plain value ≡ true → begins_with 32 value ≡ false
unfolding is_plain
plain_front value e =
    let a = and_parts (list_all is_safe_byte value && not (begins_with 32 value || begins_with 58 value || begins_with 60 value)) (not (ends_with 32 value)) e in
    let b = and_parts (list_all is_safe_byte value) (not (begins_with 32 value || begins_with 58 value || begins_with 60 value)) a.0 in
    first_of (begins_with 32 value) (begins_with 58 value) (begins_with 60 value) (not-true _ b.1)

nothing : (value : List ℕ) → length value ≡ 0 → value ≡ []
nothing [] e = refl
nothing (b ∷ bs) e = absurd (omega arith)

-- the line, by its two tests
texted : Bool → Bool → List ℕ → List ℕ → List ℕ
texted empty plain name value = cond empty (name ++ codes ":") (cond plain (name ++ codes ": " ++ value) (name ++ codes ":: " ++ encode_of standard value))

pub bytes_at : (v : List ℕ) → list_all is_byte v ≡ true → IsBytes v
bytes_at [] h i = omega arith
bytes_at (b ∷ bs) h zero = let k = leb-true b 255 (and_parts (is_byte b) (list_all is_byte bs) h).0 in omega arith
bytes_at (b ∷ bs) h (suc i) = bytes_at bs (and_parts (is_byte b) (list_all is_byte bs) h).1 i

again : (empty plain : Bool) (name value : List ℕ) → IsName name → IsBytes value → eqb (length value) 0 ≡ empty → is_plain value ≡ plain → value_line (texted empty plain name value) ≡ said name value
unfolding texted form_of
again true plain name value h bytes e f = line_is name [] h ∙ ap (said name) (sym (nothing value (eqb-true _ _ e)))
again false true name value h bytes e f =
    ap value_line (append_assoc name (codes ": ") value) ∙ line_is name (32 ∷ value) h ∙ ap (λ (r : Result (List ℕ) LdifFaultKind). r >>= λ v. said name v) (plain_form value (plain_front value f))
again false false name value h bytes e f =
    ap value_line (append_assoc name (codes ":: ") (encode_of standard value)) ∙ line_is name (58 ∷ 32 ∷ encode_of standard value) h ∙ ap (λ (r : Result (List ℕ) LdifFaultKind). r >>= λ v. said name v) (code_form value bytes)

pub read_again : (name value : List ℕ) → IsName name → list_all is_byte value ≡ true → value_line (line_text name value) ≡ Ok (record { name = name; value = value })
unfolding line_text texted
read_again name value h bytes = again (eqb (length value) 0) (is_plain value) name value h (bytes_at value bytes) refl refl

-- ---- and can be written

name_stands : (name : List ℕ) → list_all is_inner_name_byte name ≡ true → list_all is_line_byte name ≡ true
name_stands name h = all_weaker is_inner_name_byte is_line_byte (λ b e. (and_parts (is_line_byte b) (not (eqb b 58)) e).0) name h

safe_stands : (b : ℕ) → is_safe_byte b ≡ true → is_line_byte b ≡ true
safe_stands b e =
    let l = and_parts (leb 1 b && leb b 127 && not (eqb b 10)) (not (eqb b 13)) e in
    let m = and_parts (leb 1 b && leb b 127) (not (eqb b 10)) l.0 in
    and_from (not (eqb b 10)) (not (eqb b 13)) m.1 l.1

stands : (empty plain : Bool) (name value : List ℕ) → list_all is_inner_name_byte name ≡ true → is_plain value ≡ plain → list_all is_line_byte (texted empty plain name value) ≡ true
unfolding texted
stands true plain name value h f = all_append is_line_byte name (codes ":") (name_stands name h) refl
stands false true name value h f =
    all_append is_line_byte (name ++ codes ": ") value (all_append is_line_byte name (codes ": ") (name_stands name h) refl) (all_weaker is_safe_byte is_line_byte safe_stands value (plain_safe value f))
stands false false name value h f =
    all_append is_line_byte (name ++ codes ":: ") (encode_of standard value) (all_append is_line_byte name (codes ":: ") (name_stands name h) refl)
    (all_weaker is_clean is_line_byte (λ b e. (and_parts (is_line_byte b) (not (eqb b 32)) e).0) (encode_of standard value) (code_clean value))

begins_append : (name rest : List ℕ) → begins_line name ≡ true → begins_line (name ++ rest) ≡ true
begins_append [] rest e = absurd cc
begins_append (b ∷ bs) rest e = e

begins : (empty plain : Bool) (name value : List ℕ) → begins_line name ≡ true → begins_line (texted empty plain name value) ≡ true
unfolding texted
begins true plain name value e = begins_append name (codes ":") e
begins false true name value e = ap begins_line (append_assoc name (codes ": ") value) ∙ begins_append name (codes ": " ++ value) e
begins false false name value e = ap begins_line (append_assoc name (codes ":: ") (encode_of standard value)) ∙ begins_append name (codes ":: " ++ encode_of standard value) e

pub writable : (name value : List ℕ) → IsName name → IsWritable (line_text name value)
unfolding line_text texted
writable name value h = record {
  begins = begins (eqb (length value) 0) (is_plain value) name value h.begins;
  bytes = stands (eqb (length value) 0) (is_plain value) name value h.bytes refl;
}
