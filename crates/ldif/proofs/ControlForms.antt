-- The value of a control is read exactly where it has its form.
use Rattle.std.proofs.Common.{◌≡◌, ℕ, zero, suc, ◌+◌, ◌<◌, ◌≤◌, Bool, true, false, not, ◌&&◌, cond, eqb, ltb, List, [], ◌∷◌, ◌++◌, length, replicate, take, drop, Option, Some, None, Result, Ok, Err, codes, refl, sym, ap, subst, ◌∙◌, arith, inl, inr}
use Rattle.std.specs.List.{list_all, position_or_len, prefix_len}
use Rattle.std.specs.Str.{bytes_eq}
use Rattle.std.specs.Char.{to_ascii_lowercase}
use Rattle.std.specs.Option.{unwrap_or}
use Rattle.std.proofs.lemmas.List.{take_at, drop_at, length-append, length-take, length-map, take-append-drop}
use Rattle.std.proofs.lemmas.List.Sums.{prefix_len-le-length}
use Rattle.std.proofs.lemmas.Bool.{eqb-true, eqb-false, ne_eqb, ltb-false, and_parts, and_from, false_from_ne_true, true≢false}
use Rattle.base64.specs.GeneralPurpose.{IsBytes}
use Rattle.base.specs.Ends.{begins_with, without_front}
use Rattle.ldif.specs.declared.fault.LdifFaultKind.{LdifFaultKind}
use Rattle.ldif.specs.declared.fault.LdifFaultKind.TheVariants.{Word}
use Rattle.ldif.specs.declared.record.Control.{Control}
use Rattle.base.specs.Answers.{◌>>=◌}
use Rattle.ldif.specs.Line.{form_of, lower, same_name}
use Rattle.ldif.specs.Controls.{ends_oid, oid_len, criticality, control_value, control_of}
use Rattle.ldif.specs.Forms.{IsSame, is_oid_byte, IsCritical, IsCriticality, IsControlValue, IsControl}
use Rattle.base.proofs.Bound.{bind_ok}
use Rattle.ldif.proofs.Inverted.{okay, ok_is, good, bad, same_found, same_only}
use Rattle.ldif.proofs.Spaces.{front_is, skip}
use Rattle.ldif.proofs.ValueForms.{form_found, form_only, drop_bytes, back_bytes}
use Rattle.ldif.proofs.WrittenLines.{no_front}

-- ---- the OID

-- what stands behind the digits and dots
abbrev EndsOid : List ℕ → Type 0
EndsOid [] = Unit {0}
EndsOid (b ∷ bs) = is_oid_byte b ≡ false

place : (oid after : List ℕ) → list_all is_oid_byte oid ≡ true → EndsOid after → position_or_len ends_oid (oid ++ after) ≡ length oid
place [] [] h e = refl
place [] (b ∷ bs) h e = ap (λ (t : Bool). cond (not (not t)) (1 + prefix_len (λ x. not (ends_oid x)) bs) 0) e
place (b ∷ bs) after h e =
    let a = and_parts (is_oid_byte b) (list_all is_oid_byte bs) h in
    ap (λ (t : Bool). cond (not (not t)) (1 + prefix_len (λ x. not (ends_oid x)) (bs ++ after)) 0) a.0
    ∙ ap (λ (n : ℕ). 1 + n) (place bs after a.1 e) ∙ omega arith

abbrev len_at : List ℕ → ℕ → ℕ
len_at text n = unwrap_or (cond (ltb n (length text)) (Some n) None) (length text)

len_is : (text : List ℕ) (n : ℕ) → n ≤ length text → len_at text n ≡ n
len_is text n le =
    elim (ltb n (length text)) as (λ t. ltb n (length text) ≡ t → unwrap_or (cond t (Some n) None) (length text) ≡ n) [
      | true ↦ λ e. refl
      | false ↦ λ e. (let k = ltb-false n (length text) e in omega arith)
    ] refl

pub oid_len_at : (oid after : List ℕ) → list_all is_oid_byte oid ≡ true → EndsOid after → oid_len (oid ++ after) ≡ length oid
oid_len_at oid after h e = ap (len_at (oid ++ after)) (place oid after h e) ∙ len_is (oid ++ after) (length oid) (omega (arith, length-append oid after))

pub oid_len_is : (text : List ℕ) → oid_len text ≡ position_or_len ends_oid text
oid_len_is text = len_is text (position_or_len ends_oid text) (prefix_len-le-length (λ x. not (ends_oid x)) text)

passes : (xs : List ℕ) → list_all is_oid_byte (take (prefix_len (λ x. not (ends_oid x)) xs) xs) ≡ true
passes [] = refl
passes (x ∷ xs) =
    let n = prefix_len (λ y. not (ends_oid y)) xs in
    let next : 1 + n ≡ suc n = omega arith in
    elim (is_oid_byte x) as (λ t. is_oid_byte x ≡ t → list_all is_oid_byte (take (cond (not (not t)) (1 + n) 0) (x ∷ xs)) ≡ true) [
      | true ↦ λ e. ap (λ (k : ℕ). list_all is_oid_byte (take k (x ∷ xs))) next ∙ and_from (is_oid_byte x) (list_all is_oid_byte (take n xs)) e (passes xs)
      | false ↦ λ e. refl
    ] refl

pub oid_found : (text : List ℕ) → list_all is_oid_byte (take (oid_len text) text) ≡ true
oid_found text = ap (λ (n : ℕ). list_all is_oid_byte (take n text)) (oid_len_is text) ∙ passes text

-- ---- the criticality

and_false : (a b : Bool) → b ≡ false → (a && b) ≡ false
and_false true b e = e
and_false false b e = refl

-- a word that begins with a letter
head_is : (word : List ℕ) (c : ℕ) (cs : List ℕ) → lower word ≡ c ∷ cs → eqb 32 c ≡ false → begins_with 32 word ≡ false
head_is [] c cs e other = absurd cc
head_is (b ∷ bs) c cs e other =
    let first : to_ascii_lowercase b ≡ c = cc in
    false_from_ne_true (eqb b 32) (λ k. (let is : b ≡ 32 = eqb-true b 32 k in let low : 32 ≡ c = sym (ap to_ascii_lowercase is) ∙ first in eqb-false 32 c other low))

begins_append : (a b : List ℕ) (byte : ℕ) → 0 < length a → begins_with byte (a ++ b) ≡ begins_with byte a
begins_append [] b byte some = absurd (omega arith)
begins_append (x ∷ a) b byte some = refl

word_len : (word w : List ℕ) → IsSame word w → length word ≡ length w
word_len word w same = sym (length-map word to_ascii_lowercase) ∙ ap length same ∙ length-map w to_ascii_lowercase

abbrev crit_by : List ℕ → List ℕ → Bool × List ℕ
crit_by rest text =
    cond (begins_with 32 rest && same_name (take 4 text) (codes "true")) (true, drop 4 text)
    (cond (begins_with 32 rest && same_name (take 5 text) (codes "false")) (false, drop 5 text) (false, rest))

some_front : (rest : List ℕ) (n : ℕ) (text : List ℕ) → begins_with 32 rest ≡ true → rest ≡ replicate n 32 ++ text → begins_with 32 text ≡ false → (k : ℕ) × (rest ≡ replicate (suc k) 32 ++ text)
some_front rest zero text first is other = absurd (true≢false (sym first ∙ ap (begins_with 32) is ∙ other))
some_front rest (suc k) text first is other = (k, is)

crit_word : (rest : List ℕ) (n : ℕ) (critical : Bool) → begins_with 32 rest ≡ true → same_name (take n (without_front rest)) (cond critical (codes "true") (codes "false")) ≡ true
    → IsCritical rest critical (drop n (without_front rest))
crit_word rest n critical first same =
    let text = without_front rest in
    let f = front_is rest in
    let k = some_front rest f.0 text first f.1 f.2 in
    record { spaces = k.0; word = take n text; is = k.1 ∙ ap (λ (x : List ℕ). replicate (suc k.0) 32 ++ x) (sym (take-append-drop n text)); same = same_found (take n text) (cond critical (codes "true") (codes "false")) same }

abbrev crit_tests : Bool → Bool → List ℕ → List ℕ → Bool × List ℕ
crit_tests t u rest text = cond t (true, drop 4 text) (cond u (false, drop 5 text) (false, rest))

pub crit_found : (rest : List ℕ) → IsCriticality rest (criticality rest).0 (criticality rest).1
unfolding criticality
crit_found rest =
    let text = without_front rest in
    let is_true : Bool = begins_with 32 rest && same_name (take 4 text) (codes "true") in
    let is_false : Bool = begins_with 32 rest && same_name (take 5 text) (codes "false") in
    elim is_true as (λ t. is_true ≡ t → IsCriticality rest (crit_tests t is_false rest text).0 (crit_tests t is_false rest text).1) [
      | true ↦ λ e. (let p = and_parts (begins_with 32 rest) (same_name (take 4 text) (codes "true")) e in inl (crit_word rest 4 true p.0 p.1))
      | false ↦ λ e. elim is_false as (λ t. is_false ≡ t → IsCriticality rest (crit_tests false t rest text).0 (crit_tests false t rest text).1) [
        | true ↦ λ k. (let p = and_parts (begins_with 32 rest) (same_name (take 5 text) (codes "false")) k in inl (crit_word rest 5 false p.0 p.1))
        | false ↦ λ k. inr (refl, refl)
      ] refl
    ] refl

abbrev found_crit : Bool → List ℕ → Bool × List ℕ
found_crit critical rest = (critical, rest)

word_text : (text : List ℕ) (critical : Bool) (rest : List ℕ) (h : IsCritical text critical rest) → (c : ℕ) (cs : List ℕ) → lower h.word ≡ c ∷ cs → eqb 32 c ≡ false → without_front text ≡ h.word ++ rest
word_text text critical rest h c cs e other =
    let long : length h.word ≡ length (c ∷ cs) = sym (length-map h.word to_ascii_lowercase) ∙ ap length e in
    ap without_front h.is ∙ skip (suc h.spaces) (h.word ++ rest) ∙ no_front (h.word ++ rest) (begins_append h.word rest 32 (omega arith) ∙ head_is h.word c cs e other)

first_other : (word rest : List ℕ) (c d : ℕ) (cs ds : List ℕ) (n : ℕ) → lower word ≡ c ∷ cs → eqb c d ≡ false → bytes_eq (lower (take (suc n) (word ++ rest))) (d ∷ ds) ≡ false
first_other [] rest c d cs ds n e other = absurd cc
first_other (b ∷ bs) rest c d cs ds n e other =
    let first : to_ascii_lowercase b ≡ c = cc in
    ap (λ (x : ℕ). eqb x d && bytes_eq (lower (take n (bs ++ rest))) ds) first ∙ ap (λ (t : Bool). t && bytes_eq (lower (take n (bs ++ rest))) ds) other

crit_only_word : (text : List ℕ) (critical : Bool) (rest : List ℕ) → IsCritical text critical rest → criticality text ≡ (critical, rest)
unfolding criticality
crit_only_word text true rest h =
    let words = word_text text true rest h 116 (codes "rue") h.same refl in
    let four : length h.word ≡ 4 = word_len h.word (codes "true") h.same in
    let front : take 4 (h.word ++ rest) ≡ h.word = take_at h.word rest 4 four in
    ap (crit_by text) words
    ∙ ap (λ (t : Bool). cond (t && same_name (take 4 (h.word ++ rest)) (codes "true")) (true, drop 4 (h.word ++ rest)) (cond (begins_with 32 text && same_name (take 5 (h.word ++ rest)) (codes "false")) (false, drop 5 (h.word ++ rest)) (false, text))) (ap (begins_with 32) h.is)
    ∙ ap (λ (t : Bool). cond t (true, drop 4 (h.word ++ rest)) (cond (begins_with 32 text && same_name (take 5 (h.word ++ rest)) (codes "false")) (false, drop 5 (h.word ++ rest)) (false, text))) (ap (λ (x : List ℕ). same_name x (codes "true")) front ∙ same_only h.word (codes "true") h.same)
    ∙ ap (λ (x : List ℕ). found_crit true x) (drop_at h.word rest 4 four)
crit_only_word text false rest h =
    let words = word_text text false rest h 102 (codes "alse") h.same refl in
    let five : length h.word ≡ 5 = word_len h.word (codes "false") h.same in
    let front : take 5 (h.word ++ rest) ≡ h.word = take_at h.word rest 5 five in
    ap (crit_by text) words
    ∙ ap (λ (t : Bool). cond t (true, drop 4 (h.word ++ rest)) (cond (begins_with 32 text && same_name (take 5 (h.word ++ rest)) (codes "false")) (false, drop 5 (h.word ++ rest)) (false, text)))
    (and_false (begins_with 32 text) (same_name (take 4 (h.word ++ rest)) (codes "true")) (first_other h.word rest 102 116 (codes "alse") (codes "rue") 3 h.same refl))
    ∙ ap (λ (t : Bool). cond (t && same_name (take 5 (h.word ++ rest)) (codes "false")) (false, drop 5 (h.word ++ rest)) (false, text)) (ap (begins_with 32) h.is)
    ∙ ap (λ (t : Bool). cond t (false, drop 5 (h.word ++ rest)) (false, text)) (ap (λ (x : List ℕ). same_name x (codes "false")) front ∙ same_only h.word (codes "false") h.same)
    ∙ ap (λ (x : List ℕ). found_crit false x) (drop_at h.word rest 5 five)

-- what can stand behind the spaces after a criticality
abbrev pub Closes : List ℕ → Type 0
Closes [] = Unit {0}
Closes (b ∷ bs) = b ≡ 58

closed : (rest : List ℕ) (v : Option (List ℕ)) → IsControlValue rest v → Closes rest
closed rest None h = subst Closes (sym h) tt
closed rest (Some v) h = subst Closes (sym h.1) refl

pub closed_front : (rest : List ℕ) → Closes rest → without_front rest ≡ rest
closed_front [] h = refl
closed_front (b ∷ bs) h = no_front (b ∷ bs) (ap (λ (x : ℕ). eqb x 32) h)

no_word : (rest : List ℕ) (n d : ℕ) (ds : List ℕ) → Closes rest → eqb 58 d ≡ false → bytes_eq (lower (take (suc n) rest)) (d ∷ ds) ≡ false
no_word [] n d ds h other = refl
no_word (b ∷ bs) n d ds h other = ap (λ (x : ℕ). eqb (to_ascii_lowercase x) d && bytes_eq (lower (take n bs)) ds) h ∙ ap (λ (t : Bool). t && bytes_eq (lower (take n bs)) ds) other

pub crit_only : (text : List ℕ) (critical : Bool) (n : ℕ) (rest : List ℕ) → Closes rest → IsCriticality text critical (replicate n 32 ++ rest) → criticality text ≡ (critical, replicate n 32 ++ rest)
unfolding criticality
crit_only text critical n rest closes (inl h) = crit_only_word text critical (replicate n 32 ++ rest) h
crit_only text critical n rest closes (inr h) =
    ap (crit_by text) (ap without_front h.0 ∙ skip n rest ∙ closed_front rest closes)
    ∙ ap (λ (t : Bool). cond t (true, drop 4 rest) (cond (begins_with 32 text && same_name (take 5 rest) (codes "false")) (false, drop 5 rest) (false, text))) (and_false (begins_with 32 text) (same_name (take 4 rest) (codes "true")) (no_word rest 3 116 (codes "rue") closes refl))
    ∙ ap (λ (t : Bool). cond t (false, drop 5 rest) (false, text)) (and_false (begins_with 32 text) (same_name (take 5 rest) (codes "false")) (no_word rest 4 102 (codes "alse") closes refl))
    ∙ ap (λ (x : List ℕ). found_crit false x) h.0 ∙ ap (λ (t : Bool). found_crit t (replicate n 32 ++ rest)) (sym h.1)

-- ---- the value

abbrev some_value : List ℕ → Option (List ℕ)
some_value v = Some v

value_found : (rest : List ℕ) (v : Option (List ℕ)) → IsBytes rest → control_value rest ≡ Ok v → IsControlValue rest v
unfolding control_value
value_found [] None bytes h = refl
value_found [] (Some v) bytes h = absurd (let k : None ≡ some_value v = ok_is None (some_value v) h in cc)
value_found (b ∷ bs) v bytes h =
    let g = good (eqb b 58) (form_of bs >>= λ value. Ok (Some value)) Word v h in
    let f = bind_ok (form_of bs) (λ value. Ok (Some value)) v g.1 in
    let is : some_value f.0 ≡ v = ok_is (some_value f.0) v f.2 in
    subst (λ (x : Option (List ℕ)). IsControlValue (b ∷ bs) x) is (bs, ap (λ (x : ℕ). x ∷ bs) (eqb-true b 58 g.0), form_found bs f.0 (λ i. bytes (suc i)) f.1)

value_only : (rest : List ℕ) (v : Option (List ℕ)) → IsControlValue rest v → control_value rest ≡ Ok v
unfolding control_value
value_only rest None h = ap control_value h
value_only rest (Some v) h = ap control_value h.1 ∙ ap (λ (r : Result (List ℕ) LdifFaultKind). r >>= λ value. Ok (Some value)) (form_only h.0 v h.2)

-- ---- the whole

pub crit_bytes : (text : List ℕ) (critical : Bool) (rest : List ℕ) → IsBytes text → IsCriticality text critical rest → IsBytes rest
crit_bytes text critical rest bytes (inl h) = back_bytes h.word rest (back_bytes (replicate (suc h.spaces) 32) (h.word ++ rest) (subst (λ (x : List ℕ). IsBytes x) h.is bytes))
crit_bytes text critical rest bytes (inr h) = subst (λ (x : List ℕ). IsBytes x) h.0 bytes

abbrev pub made : List ℕ → Bool → Option (List ℕ) → Control
made oid critical value = record { oid = oid; critical = critical; value = value }

abbrev pub control_by : ℕ → List ℕ → Result Control LdifFaultKind
control_by n text =
    cond (eqb n 0) (Err Word) (control_value (without_front (criticality (drop n text)).1) >>= λ value. Ok (made (take n text) (criticality (drop n text)).0 value))

pub control_found : (text : List ℕ) (c : Control) → IsBytes text → control_of text ≡ Ok c → IsControl text c
unfolding control_of
control_found text c bytes h =
    let n = oid_len text in
    let after = drop n text in
    let r = (criticality after).1 in
    let g = bad (eqb n 0) (control_value (without_front r) >>= λ value. Ok (made (take n text) (criticality after).0 value)) Word c h in
    let v = bind_ok (control_value (without_front r)) (λ value. Ok (made (take n text) (criticality after).0 value)) c g.1 in
    let crit = crit_found after in
    let f = front_is r in
    let r_bytes : IsBytes r = crit_bytes after (criticality after).0 r (drop_bytes n text bytes) crit in
    let within : n ≤ length text = (let k = oid_len_is text in let l = prefix_len-le-length (λ x. not (ends_oid x)) text in omega arith) in
    subst (λ (x : Control). IsControl text x) (ok_is (made (take n text) (criticality after).0 v.0) c v.2) (record {
      after = after;
      is = sym (take-append-drop n text);
      some = (let z = eqb-false n 0 g.0 in omega (arith, length-take n text, z, within));
      oid = oid_found text;
      spaces = f.0;
      rest = without_front r;
      critical = subst (λ (x : List ℕ). IsCriticality after (criticality after).0 x) f.1 crit;
      value = value_found (without_front r) v.0 (back_bytes (replicate f.0 32) (without_front r) (subst (λ (x : List ℕ). IsBytes x) f.1 r_bytes)) v.1;
    })

space_ends : (n : ℕ) (rest : List ℕ) → Closes rest → EndsOid (replicate n 32 ++ rest)
space_ends zero [] h = tt
space_ends zero (b ∷ bs) h = ap is_oid_byte h
space_ends (suc n) rest h = refl

pub after_ends : (text : List ℕ) (critical : Bool) (n : ℕ) (rest : List ℕ) → Closes rest → IsCriticality text critical (replicate n 32 ++ rest) → EndsOid text
after_ends text critical n rest closes (inl h) = subst EndsOid (sym h.is) refl
after_ends text critical n rest closes (inr h) = subst EndsOid (sym h.0) (space_ends n rest closes)

pub control_only : (text : List ℕ) (c : Control) → IsControl text c → control_of text ≡ Ok c
unfolding control_of
control_only text c h =
    let closes = closed h.rest c.value h.value in
    let n = length c.oid in
    let ends = after_ends h.after c.critical h.spaces h.rest closes h.critical in
    let r = replicate h.spaces 32 ++ h.rest in
    ap (λ (k : ℕ). control_by k text) (ap oid_len h.is ∙ oid_len_at c.oid h.after h.oid ends)
    ∙ ap (control_by n) h.is
    ∙ ap (λ (t : Bool). cond t (Err Word) (control_value (without_front (criticality (drop n (c.oid ++ h.after))).1) >>= λ value. Ok (made (take n (c.oid ++ h.after)) (criticality (drop n (c.oid ++ h.after))).0 value))) (ne_eqb n 0 (λ e. (let s = h.some in omega arith)))
    ∙ ap (λ (x : List ℕ). control_value (without_front (criticality (drop n (c.oid ++ h.after))).1) >>= λ value. okay (made x (criticality (drop n (c.oid ++ h.after))).0 value)) (take_at c.oid h.after n refl)
    ∙ ap (λ (x : List ℕ). control_value (without_front (criticality x).1) >>= λ value. okay (made c.oid (criticality x).0 value)) (drop_at c.oid h.after n refl)
    ∙ ap (λ (x : Bool × List ℕ). control_value (without_front x.1) >>= λ value. okay (made c.oid x.0 value)) (crit_only h.after c.critical h.spaces h.rest closes h.critical)
    ∙ ap (λ (x : List ℕ). control_value x >>= λ value. okay (made c.oid c.critical value)) (skip h.spaces h.rest ∙ closed_front h.rest closes)
    ∙ ap (λ (x : Result (Option (List ℕ)) LdifFaultKind). x >>= λ value. okay (made c.oid c.critical value)) (value_only h.rest c.value h.value)
