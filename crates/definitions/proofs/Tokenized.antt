-- A token is read exactly where it stands.
use Rattle.std.proofs.Common.{◌≡◌, ℕ, ◌+◌, ◌<◌, Bool, true, false, cond, not, ◌&&◌, eqb, ltb, List, [], ◌∷◌, ◌++◌, take, drop, length, get_or, Option, Some, None, ◌⊎◌, inl, inr, refl, sym, ap, subst, ◌∙◌, append_assoc, arith}
use Rattle.std.specs.List.{list_all}
use Rattle.std.proofs.lemmas.Bool.{and_parts, eqb-true, ltb-true, lt-ltb}
use Rattle.std.proofs.lemmas.Bool.Decides.{nat_tests}
use Rattle.std.proofs.lemmas.List.{take-append-drop, drop_more, length-append, length_push}
use Rattle.std.proofs.Math.Seq.{drop-append_seam, take-append_seam}
use Rattle.base.specs.Ends.{begins_with}
use Rattle.definitions.specs.Words.{◌>>>◌, Cut, is_blank, is_no_blank, end_of, skip, ends_word, cut_word, word_at, sign_at, is_quote, cut_quoted, quoted_at, plain_or_quoted_at, named, plain_or_named_at}
use Rattle.base.specs.Naming.{is_name_or_oid}
use Rattle.definitions.specs.Texts.{name_at}
use Rattle.definitions.specs.Tokens.{Token, Opening, Closing, Dollar, Quoted, Word, written, is_in_word, is_in_quotes, ends_here, CanStand, Begins}
use Rattle.definitions.specs.Grammar.{IsNameOrOid, IsName}
use Rattle.definitions.proofs.There.{IfThere, chosen, bound, there, weaker}
use Rattle.definitions.proofs.Ends.{Stops, front_passes, rest_stops, end_len, run_end, run_front, run_rest}
use Rattle.definitions.proofs.Oids.{name_or_oid_found, name_or_oid_only}

-- ---- blanks

twice : (b : Bool) → not (not b) ≡ b
twice true = refl
twice false = refl

no_others : (xs : List ℕ) → list_all (λ b. not (is_no_blank b)) xs ≡ list_all is_blank xs
no_others [] = refl
no_others (x ∷ xs) = (λ i. twice (is_blank x) i && no_others xs i)

record Skipped (text : List ℕ) : Type 0 where
  blanks : List ℕ
  are_blanks : list_all is_blank blanks ≡ true
  text_is : text ≡ blanks ++ skip text

skipped : (text : List ℕ) → Skipped text
skipped text =
    record {
      blanks = take (end_of is_no_blank text) text;
      are_blanks = sym (no_others (take (end_of is_no_blank text) text)) ∙ front_passes is_no_blank text;
      text_is = sym (take-append-drop (end_of is_no_blank text) text);
    }

pub skip_blanks : (blanks rest : List ℕ) → list_all is_blank blanks ≡ true → Stops is_no_blank rest → skip (blanks ++ rest) ≡ rest
skip_blanks blanks rest are stops = run_rest is_no_blank blanks rest (no_others blanks ∙ are) stops

-- nothing but blanks is left
pub only_blanks : (text : List ℕ) → length (skip text) ≡ 0 → list_all is_blank text ≡ true
only_blanks text none = by (skip text) (skipped text).text_is none where
  by : (rest : List ℕ) → text ≡ (skipped text).blanks ++ rest → length rest ≡ 0 → list_all is_blank text ≡ true
  by [] is none = ap (list_all is_blank) (is ∙ without (skipped text).blanks) ∙ (skipped text).are_blanks where
    without : (xs : List ℕ) → xs ++ [] ≡ xs
    without [] = refl
    without (x ∷ xs) = ap (λ (ys : List ℕ). x ∷ ys) (without xs)
  by (b ∷ bs) is none = absurd (omega arith)

pub nothing_left : (text : List ℕ) → list_all is_blank text ≡ true → skip text ≡ []
nothing_left text are = ap skip (sym (without text)) ∙ skip_blanks text [] are tt where
  without : (xs : List ℕ) → xs ++ [] ≡ xs
  without [] = refl
  without (x ∷ xs) = ap (λ (ys : List ℕ). x ∷ ys) (without xs)

-- ---- what is read of a token that stands there

word_byte : (b : ℕ) → is_in_word b ≡ true → is_no_blank b ≡ true
word_byte b h = grind (arith, nat_tests)

token_first : (token : Token) (rest : List ℕ) → CanStand token rest → Stops is_no_blank (written token ++ rest)
token_first Opening rest h = refl
token_first Closing rest h = refl
token_first Dollar rest h = refl
token_first (Quoted text) rest h = refl
token_first (Word []) rest h = absurd (omega (arith, h.0))
token_first (Word (b ∷ bs)) rest h = word_byte b (and_parts (is_in_word b) (list_all is_in_word bs) h.1).0

module _ (text : List ℕ) (token : Token) (rest : List ℕ) (begins : Begins text token rest) where
  pub token_next : skip text ≡ written token ++ rest
  token_next = ap skip begins.text_is ∙ skip_blanks begins.blanks (written token ++ rest) begins.are_blanks (token_first token rest begins.stands)

  pub sign_is : (sign : ℕ) → sign_at sign text ≡ cond (begins_with sign (written token ++ rest)) (Some (drop 1 (written token ++ rest))) None
  unfolding sign_at
  sign_is sign = ap (λ (t : List ℕ). cond (begins_with sign t) (Some (drop 1 t)) None) token_next

  some_byte : (token : Token) → CanStand token rest → 0 < length (written token)
  some_byte Opening h = omega arith
  some_byte Closing h = omega arith
  some_byte Dollar h = omega arith
  some_byte (Quoted text) h = omega arith
  some_byte (Word text) h = h.0

  pub shorter : length rest < length text
  shorter = omega (arith, ap length begins.text_is, length-append begins.blanks (written token ++ rest), length-append (written token) rest, some_byte token begins.stands)

no_sign_byte : (sign b : ℕ) → ends_word sign ≡ true → is_in_word b ≡ true → eqb b sign ≡ false
no_sign_byte sign b e h = grind (arith, nat_tests)

no_sign : (sign : ℕ) (word rest : List ℕ) → ends_word sign ≡ true → CanStand (Word word) rest → begins_with sign (word ++ rest) ≡ false
no_sign sign [] rest e h = absurd (omega (arith, h.0))
no_sign sign (b ∷ bs) rest e h = no_sign_byte sign b e (and_parts (is_in_word b) (list_all is_in_word bs) h.1).0

-- no sign stands where a word does
pub word_no_sign : (sign : ℕ) (text word rest : List ℕ) → ends_word sign ≡ true → Begins text (Word word) rest → sign_at sign text ≡ None
word_no_sign sign text word rest e begins = sign_is text (Word word) rest begins sign ∙ ap (λ (t : Bool). cond t (Some (drop 1 (word ++ rest))) None) (no_sign sign word rest e begins.stands)

twice_off : (b : ℕ) → not (is_in_word b) ≡ ends_word b
twice_off b = twice (ends_word b)

ends_stops : (rest : List ℕ) → ends_here rest ≡ true → Stops ends_word rest
ends_stops [] h = tt
ends_stops (b ∷ bs) h = sym (twice_off b) ∙ h

stops_ends : (rest : List ℕ) → Stops ends_word rest → ends_here rest ≡ true
stops_ends [] h = refl
stops_ends (b ∷ bs) h = twice_off b ∙ h

some_word : (n : ℕ) (word rest : List ℕ) → n ≡ length word → 0 < length word → take n (word ++ rest) ≡ word → drop n (word ++ rest) ≡ rest → cut_word n (word ++ rest) ≡ Some (word, rest)
some_word n word rest is some front behind =
    let e : eqb n 0 ≡ false = grind (arith, nat_tests) in
    ap (λ (t : Bool). cond t None (Some (take n (word ++ rest), drop n (word ++ rest)))) e ∙ (λ i. some_cut (front i, behind i)) where
      some_cut : Cut → Option Cut
      some_cut cut = Some cut

pub word_found : (text word rest : List ℕ) → Begins text (Word word) rest → word_at text ≡ Some (word, rest)
unfolding word_at
word_found text word rest begins =
    let s = begins.stands in
    let stops = ends_stops rest s.2 in
    ap (λ (t : List ℕ). cut_word (end_of ends_word t) t) (token_next text (Word word) rest begins)
    ∙ some_word (end_of ends_word (word ++ rest)) word rest (run_end ends_word word rest s.1 stops) s.0 (run_front ends_word word rest s.1 stops) (run_rest ends_word word rest s.1 stops)

quote_next : (text rest : List ℕ) → list_all is_in_quotes text ≡ true → cut_quoted (end_of is_quote ((text ++ 39 ∷ []) ++ rest)) ((text ++ 39 ∷ []) ++ rest) ≡ Some (text, rest)
quote_next text rest h =
    let inside = (text ++ 39 ∷ []) ++ rest in
    let same : inside ≡ text ++ 39 ∷ rest = append_assoc text (39 ∷ []) rest in
    let at : end_of is_quote inside ≡ length text = ap (end_of is_quote) same ∙ run_end is_quote text (39 ∷ rest) h refl in
    let within : ltb (length text) (length inside) ≡ true = lt-ltb (length text) (length inside) (omega (arith, ap length same, length-append text (39 ∷ rest))) in
    let front : take (length text) inside ≡ text = ap (take (length text)) same ∙ take-append_seam text (39 ∷ rest) in
    let behind : drop (length text + 1) inside ≡ rest = ap (λ (n : ℕ). drop n inside) (sym (length_push text 39)) ∙ drop-append_seam (text ++ 39 ∷ []) rest in
    ap (λ (n : ℕ). cut_quoted n inside) at
    ∙ ap (λ (t : Bool). cond t (Some (take (length text) inside, drop (length text + 1) inside)) None) within
    ∙ (λ i. some_cut (front i, behind i)) where
      some_cut : Cut → Option Cut
      some_cut cut = Some cut

pub quoted_found : (text inside rest : List ℕ) → Begins text (Quoted inside) rest → quoted_at text ≡ Some (inside, rest)
unfolding quoted_at
quoted_found text inside rest begins =
    ap (λ (o : Option (List ℕ)). o >>> λ inside. cut_quoted (end_of is_quote inside) inside) (sign_is text (Quoted inside) rest begins 39)
    ∙ quote_next inside rest begins.stands

pub no_quoted : (text : List ℕ) → sign_at 39 text ≡ None → quoted_at text ≡ None
unfolding quoted_at
no_quoted text none = ap (λ (o : Option (List ℕ)). o >>> λ inside. cut_quoted (end_of is_quote inside) inside) none

-- ---- what is read stands there

sign_next : (sign : ℕ) (text : List ℕ) → IfThere (λ rest. text ≡ sign ∷ rest) (cond (begins_with sign text) (Some (drop 1 text)) None)
sign_next sign [] = tt
sign_next sign (b ∷ bs) = chosen (λ rest. b ∷ bs ≡ sign ∷ rest) (eqb b sign) (Some bs) None (λ e. ap (λ (c : ℕ). c ∷ bs) (eqb-true b sign e)) (λ e. tt)

sign_there : (sign : ℕ) (text rest : List ℕ) → sign_at sign text ≡ Some rest → text ≡ (skipped text).blanks ++ (sign ∷ rest)
unfolding sign_at
sign_there sign text rest e = (skipped text).text_is ∙ ap (λ (t : List ℕ). (skipped text).blanks ++ t) (there (λ rest. skip text ≡ sign ∷ rest) _ rest e (sign_next sign (skip text)))

pub opening_only : (text rest : List ℕ) → sign_at 40 text ≡ Some rest → Begins text Opening rest
opening_only text rest e = record { blanks = (skipped text).blanks; are_blanks = (skipped text).are_blanks; text_is = sign_there 40 text rest e; stands = tt }

pub closing_only : (text rest : List ℕ) → sign_at 41 text ≡ Some rest → Begins text Closing rest
closing_only text rest e = record { blanks = (skipped text).blanks; are_blanks = (skipped text).are_blanks; text_is = sign_there 41 text rest e; stands = tt }

pub dollar_only : (text rest : List ℕ) → sign_at 36 text ≡ Some rest → Begins text Dollar rest
dollar_only text rest e = record { blanks = (skipped text).blanks; are_blanks = (skipped text).are_blanks; text_is = sign_there 36 text rest e; stands = tt }

some_front : (n : ℕ) (text : List ℕ) → eqb n 0 ≡ false → length (take n text) ≡ n → 0 < length (take n text)
some_front n text e is = grind (arith, nat_tests)

pub word_only : (text : List ℕ) → IfThere (λ (w : Cut). Begins text (Word w.0) w.1) (word_at text)
unfolding word_at
word_only text =
    let t = skip text in
    let n = end_of ends_word t in
    chosen (λ (w : Cut). Begins text (Word w.0) w.1) (eqb n 0) None (Some (take n t, drop n t)) (λ e. tt) (λ e.
    record {
      blanks = (skipped text).blanks;
      are_blanks = (skipped text).are_blanks;
      text_is = (skipped text).text_is ∙ ap (λ (r : List ℕ). (skipped text).blanks ++ r) (sym (take-append-drop n t));
      stands = (some_front n t e (end_len ends_word t), front_passes ends_word t, stops_ends (drop n t) (rest_stops ends_word t));
    })

at_quote : (inside : List ℕ) (n : ℕ) → n < length inside → Stops is_quote (drop n inside) → inside ≡ take n inside ++ (39 ∷ drop (n + 1) inside)
at_quote inside n lt stops =
    let more = drop_more inside n 0 lt in
    let quote : get_or inside n 0 ≡ 39 = eqb-true (get_or inside n 0) 39 (subst (Stops is_quote) more stops) in
    sym (take-append-drop n inside) ∙ ap (λ (r : List ℕ). take n inside ++ r) (more ∙ ap (λ (b : ℕ). b ∷ drop (n + 1) inside) quote)

pub quoted_only : (text : List ℕ) → IfThere (λ (w : Cut). Begins text (Quoted w.0) w.1) (quoted_at text)
unfolding quoted_at
quoted_only text =
    bound (λ (w : Cut). Begins text (Quoted w.0) w.1) (sign_at 39 text) _ (λ inside e.
    let n = end_of is_quote inside in
    chosen (λ (w : Cut). Begins text (Quoted w.0) w.1) (ltb n (length inside)) (Some (take n inside, drop (n + 1) inside)) None (λ lt.
    record {
      blanks = (skipped text).blanks;
      are_blanks = (skipped text).are_blanks;
      text_is =
          sign_there 39 text inside e
          ∙ ap (λ (r : List ℕ). (skipped text).blanks ++ (39 ∷ r)) (at_quote inside n (ltb-true n (length inside) lt) (rest_stops is_quote inside) ∙ sym (append_assoc (take n inside) (39 ∷ []) (drop (n + 1) inside)));
      stands = front_passes is_quote inside;
    }) (λ e. tt))

-- ---- a word, or a text in quotes

-- a word is there, or one in quotes
pub record EitherStands (text : List ℕ) (w : Cut) : Type 0 where
  pub token : Token
  pub is : (token ≡ Word w.0) ⊎ (token ≡ Quoted w.0)
  pub begins : Begins text token w.1

pub either_only : (text : List ℕ) → IfThere (EitherStands text) (plain_or_quoted_at text)
unfolding plain_or_quoted_at
either_only text =
    chosen (EitherStands text) (begins_with 39 (skip text)) (quoted_at text) (word_at text)
    (λ e. weaker (λ (w : Cut). Begins text (Quoted w.0) w.1) (EitherStands text) (quoted_at text) (λ w begins. record { token = Quoted w.0; is = inr refl; begins = begins }) (quoted_only text))
    (λ e. weaker (λ (w : Cut). Begins text (Word w.0) w.1) (EitherStands text) (word_at text) (λ w begins. record { token = Word w.0; is = inl refl; begins = begins }) (word_only text))

abbrev begun : (text : List ℕ) (rest : List ℕ) → Token → Type 0
begun text rest token = Begins text token rest

module _ (text word rest : List ℕ) where
  no_quote : Begins text (Word word) rest → begins_with 39 (skip text) ≡ false
  no_quote begins = ap (begins_with 39) (token_next text (Word word) rest begins) ∙ no_sign 39 word rest refl begins.stands

  a_quote : Begins text (Quoted word) rest → begins_with 39 (skip text) ≡ true
  a_quote begins = ap (begins_with 39) (token_next text (Quoted word) rest begins)

  pub either_found : (token : Token) → (token ≡ Word word) ⊎ (token ≡ Quoted word) → Begins text token rest → plain_or_quoted_at text ≡ Some (word, rest)
  unfolding plain_or_quoted_at
  either_found token (inl e) begins =
      let k = subst (begun text rest) e begins in
      ap (λ (t : Bool). cond t (quoted_at text) (word_at text)) (no_quote k) ∙ word_found text word rest k
  either_found token (inr e) begins =
      let k = subst (begun text rest) e begins in
      ap (λ (t : Bool). cond t (quoted_at text) (word_at text)) (a_quote k) ∙ quoted_found text word rest k

  word_named : Begins text (Word word) rest → plain_or_named_at text ≡ Some (word, rest)
  unfolding plain_or_named_at
  word_named begins = ap (λ (t : Bool). cond t (quoted_at text >>> named) (word_at text)) (no_quote begins) ∙ word_found text word rest begins

  quoted_named : IsNameOrOid word → Begins text (Quoted word) rest → plain_or_named_at text ≡ Some (word, rest)
  unfolding plain_or_named_at
  quoted_named is begins =
      ap (λ (t : Bool). cond t (quoted_at text >>> named) (word_at text)) (a_quote begins)
      ∙ ap (λ (o : Option Cut). o >>> named) (quoted_found text word rest begins)
      ∙ ap (λ (t : Bool). cond t (Some (word, rest)) None) (name_or_oid_found word is)

-- ---- a name

-- a token there is the name, and behind it comes the rest
pub record NameStands (quotes : Bool) (text : List ℕ) (w : Cut) : Type 0 where
  pub token : Token
  pub is : IsName quotes w.0 token
  pub begins : Begins text token w.1

as_word : (quotes : Bool) (text : List ℕ) (w : Cut) → Begins text (Word w.0) w.1 → NameStands quotes text w
as_word quotes text w begins = record { token = Word w.0; is = inl refl; begins = begins }

as_quoted : (text : List ℕ) (w : Cut) → IsNameOrOid w.0 → Begins text (Quoted w.0) w.1 → NameStands true text w
as_quoted text w is begins = record { token = Quoted w.0; is = inr (refl, is, refl); begins = begins }

pub named_only : (text : List ℕ) → IfThere (NameStands true text) (plain_or_named_at text)
unfolding plain_or_named_at
named_only text =
    chosen (NameStands true text) (begins_with 39 (skip text)) (quoted_at text >>> named) (word_at text)
    (λ e.
    bound (NameStands true text) (quoted_at text) named (λ w f.
    chosen (NameStands true text) (is_name_or_oid w.0) (Some w) None
    (λ is. as_quoted text w (name_or_oid_only w.0 is) (there (λ (v : Cut). Begins text (Quoted v.0) v.1) (quoted_at text) w f (quoted_only text)))
    (λ is. tt)))
    (λ e. weaker (λ (w : Cut). Begins text (Word w.0) w.1) (NameStands true text) (word_at text) (as_word true text) (word_only text))

pub name_only : (quotes : Bool) (text : List ℕ) → IfThere (NameStands quotes text) (name_at quotes text)
name_only true text = named_only text
name_only false text = weaker (λ (w : Cut). Begins text (Word w.0) w.1) (NameStands false text) (word_at text) (as_word false text) (word_only text)

word_name : (quotes : Bool) (text name rest : List ℕ) → Begins text (Word name) rest → name_at quotes text ≡ Some (name, rest)
word_name true text name rest begins = word_named text name rest begins
word_name false text name rest begins = word_found text name rest begins

quoted_name : (quotes : Bool) (text name rest : List ℕ) → quotes ≡ true → IsNameOrOid name → Begins text (Quoted name) rest → name_at quotes text ≡ Some (name, rest)
quoted_name true text name rest may is begins = quoted_named text name rest is begins
quoted_name false text name rest may is begins = absurd cc

pub name_found : (quotes : Bool) (text name rest : List ℕ) (token : Token) → IsName quotes name token → Begins text token rest → name_at quotes text ≡ Some (name, rest)
name_found quotes text name rest token (inl e) begins = word_name quotes text name rest (subst (begun text rest) e begins)
name_found quotes text name rest token (inr e) begins = quoted_name quotes text name rest e.0 e.1 (subst (begun text rest) e.2 begins)

-- a name is no sign
pub name_no_sign : (sign : ℕ) (quotes : Bool) (text name rest : List ℕ) (token : Token) → ends_word sign ≡ true → eqb 39 sign ≡ false → IsName quotes name token → Begins text token rest → sign_at sign text ≡ None
name_no_sign sign quotes text name rest token e f (inl is) begins = word_no_sign sign text name rest e (subst (begun text rest) is begins)
name_no_sign sign quotes text name rest token e f (inr is) begins =
    sign_is text (Quoted name) rest (subst (begun text rest) is.2 begins) sign ∙ ap (λ (t : Bool). cond t (Some ((name ++ 39 ∷ []) ++ rest)) None) f
