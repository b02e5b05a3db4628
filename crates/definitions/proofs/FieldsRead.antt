-- The fields up to the end are read exactly where they stand.
use Rattle.std.proofs.Common.{◌≡◌, ℕ, ◌≤◌, Bool, true, cond, eqb, List, [], ◌∷◌, ◌++◌, length, Option, Some, None, refl, sym, ap, subst, ◌∙◌, append_assoc, eqb-true, arith}
use Rattle.definitions.specs.Words.{◌>>>◌, skip, sign_at}
use Rattle.definitions.specs.Elements.{is_end, ends_there, fields_to_end}
use Rattle.definitions.specs.Tokens.{Token, Closing, AreTokens}
use Rattle.definitions.specs.Grammar.{AreFields}
use Rattle.definitions.proofs.There.{IfThere, chosen, bound}
use Rattle.definitions.proofs.Tokenized.{sign_is, shorter, nothing_left, only_blanks, closing_only}
use Rattle.definitions.proofs.ElementFields.{FieldReads, Stands}

-- ---- the end

ends_found : (text : List ℕ) → AreTokens (Closing ∷ []) text → ends_there text ≡ true
ends_found text h = ap is_end (sign_is text Closing h.0 h.1 41) ∙ ap (λ (t : List ℕ). eqb (length t) 0) (nothing_left h.0 h.2)

ends_by : (text : List ℕ) (o : Option (List ℕ)) → sign_at 41 text ≡ o → is_end o ≡ true → AreTokens (Closing ∷ []) text
ends_by text None e h = absurd cc
ends_by text (Some rest) e h = (rest, closing_only text rest e, only_blanks rest (eqb-true (length (skip rest)) 0 h))

ends_only : (text : List ℕ) → ends_there text ≡ true → AreTokens (Closing ∷ []) text
ends_only text h = ends_by text (sign_at 41 text) refl h

-- ---- the fields

-- one field put after the other
abbrev pub put_all : {D F : Type 0} → (D → F → Option D) → D → List F → Option D
put_all put d [] = Some d
put_all put d (field ∷ fields) = put d field >>> λ next. put_all put next fields

bound_same : {A B : Type 0} (o : Option A) (f g : A → Option B) → ((a : A) → f a ≡ g a) → (o >>> f) ≡ (o >>> g)
bound_same None f g h = refl
bound_same (Some a) f g h = h a

module _ {D F : Type 0} (field_at : List ℕ → Option (F × List ℕ)) (put : D → F → Option D) (IsField : F → List Token → Type 0) where
  abbrev after : List ℕ → D → Option (F × List ℕ) → Option D
  after bytes d field = field >>> λ field. (put d field.0 >>> λ next. fields_to_end field_at put next bytes field.1)

  cut : (b : ℕ) (bytes text : List ℕ) (d : D) → fields_to_end field_at put d (b ∷ bytes) text ≡ cond (ends_there text) (Some d) (after bytes d (field_at text))
  unfolding fields_to_end
  cut b bytes text d = refl

  module _ (found : (field : F) (front tokens : List Token) (text : List ℕ) → IsField field front → AreTokens (front ++ tokens) text → FieldReads field_at field text tokens) where
    pub fields_found : (fields : List F) (tokens : List Token) (d : D) (bytes text : List ℕ) → AreFields IsField fields tokens → AreTokens (tokens ++ Closing ∷ []) text → length text ≤ length bytes
        → fields_to_end field_at put d bytes text ≡ put_all put d fields
    fields_found [] tokens d [] text are h le =
        let k = subst (λ (ts : List Token). AreTokens (ts ++ Closing ∷ []) text) are h in
        absurd (omega (arith, shorter text Closing k.0 k.1))
    fields_found [] tokens d (b ∷ bytes) text are h le =
        cut b bytes text d ∙ ap (λ (t : Bool). cond t (Some d) (after bytes d (field_at text))) (ends_found text (subst (λ (ts : List Token). AreTokens (ts ++ Closing ∷ []) text) are h))
    fields_found (field ∷ fields) tokens d [] text are h le =
        let k = subst (λ (ts : List Token). AreTokens ts text) (ap (λ (ts : List Token). ts ++ Closing ∷ []) are.3 ∙ append_assoc are.0 are.1 (Closing ∷ [])) h in
        absurd (omega (arith, (found field are.0 (are.1 ++ Closing ∷ []) text are.2 k).reads.fewer))
    fields_found (field ∷ fields) tokens d (b ∷ bytes) text are h le =
        let k = subst (λ (ts : List Token). AreTokens ts text) (ap (λ (ts : List Token). ts ++ Closing ∷ []) are.3 ∙ append_assoc are.0 are.1 (Closing ∷ [])) h in
        let r = found field are.0 (are.1 ++ Closing ∷ []) text are.2 k in
        cut b bytes text d
        ∙ ap (λ (t : Bool). cond t (Some d) (after bytes d (field_at text))) r.on
        ∙ ap (after bytes d) r.reads.is
        ∙ bound_same (put d field) (λ next. fields_to_end field_at put next bytes r.reads.rest) (λ next. put_all put next fields) (λ next.
        fields_found fields are.1 next bytes r.reads.rest are.4 r.reads.left (omega (arith, le, r.reads.fewer)))

  pub record FieldsStand (d : D) (text : List ℕ) (made : D) : Type 0 where
    pub fields : List F
    pub tokens : List Token
    pub are : AreFields IsField fields tokens
    pub text_is : AreTokens (tokens ++ Closing ∷ []) text
    pub is_put : put_all put d fields ≡ Some made

  one_more : (d next : D) (text : List ℕ) (read : F × List ℕ) → Stands IsField text read → put d read.0 ≡ Some next → (o : Option D) → IfThere (FieldsStand next read.1) o → IfThere (FieldsStand d text) o
  one_more d next text read stands is None h = tt
  one_more d next text read stands is (Some made) h =
      record {
        fields = read.0 ∷ h.fields;
        tokens = stands.front ++ h.tokens;
        are = (stands.front, h.tokens, stands.is, refl, h.are);
        text_is = subst (λ (ts : List Token). AreTokens ts text) (sym (append_assoc stands.front h.tokens (Closing ∷ []))) (stands.behind (h.tokens ++ Closing ∷ []) h.text_is);
        is_put = ap (λ (o : Option D). o >>> λ next. put_all put next h.fields) is ∙ h.is_put;
      }

  module _ (only : (text : List ℕ) → IfThere (Stands IsField text) (field_at text)) where
    stands_at : (text : List ℕ) (read : F × List ℕ) → field_at text ≡ Some read → Stands IsField text read
    stands_at text read e = subst (IfThere (Stands IsField text)) e (only text)

    pub fields_only : (bytes text : List ℕ) (d : D) → IfThere (FieldsStand d text) (fields_to_end field_at put d bytes text)
    unfolding fields_to_end
    fields_only [] text d = tt
    fields_only (b ∷ bytes) text d =
        chosen (FieldsStand d text) (ends_there text) (Some d) (after bytes d (field_at text)) (λ e.
        record { fields = []; tokens = []; are = refl; text_is = ends_only text e; is_put = refl }) (λ off.
        bound (FieldsStand d text) (field_at text) (λ field. (put d field.0 >>> λ next. fields_to_end field_at put next bytes field.1)) (λ read e.
        bound (FieldsStand d text) (put d read.0) (λ next. fields_to_end field_at put next bytes read.1) (λ next f.
        one_more d next text read (stands_at text read e) f (fields_to_end field_at put next bytes read.1) (fields_only bytes read.1 next))))
