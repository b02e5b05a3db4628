-- Texts in parentheses are read exactly where they stand.
use Rattle.std.proofs.Common.{◌≡◌, ℕ, ◌<◌, ◌≤◌, List, [], ◌∷◌, ◌++◌, map, length, Option, Some, None, inl, inr, refl, sym, ap, subst, ◌∙◌, append_assoc, arith}
use Rattle.definitions.specs.Words.{◌>>>◌, Cut, sign_at, quoted_at}
use Rattle.definitions.specs.Texts.{Cuts, onto, closed_by, to_close, not_none, alone, in_parentheses, quoted_texts_at}
use Rattle.definitions.specs.Tokens.{Token, Opening, Closing, Quoted, Begins, AreTokens}
use Rattle.definitions.specs.Grammar.{quoted, AreTexts}
use Rattle.definitions.proofs.There.{IfThere, bound, there}
use Rattle.definitions.proofs.Tokenized.{sign_is, shorter, quoted_found, quoted_only, opening_only, closing_only}

-- x is read of a text, and these tokens are left
pub record Reads {A : Type 0} (read : Option (A × List ℕ)) (x : A) (text : List ℕ) (tokens : List Token) : Type 0 where
  pub rest : List ℕ
  pub is : read ≡ Some (x, rest)
  pub fewer : length rest < length text
  pub left : AreTokens tokens rest

-- ---- up to the closing parenthesis

module _ (part_at : List ℕ → Option Cut) (b : ℕ) (bytes text : List ℕ) where
  abbrev others : Option Cut → Option Cuts
  others part = part >>> λ part. (to_close part_at bytes part.1 >>> onto part.0)

  pub close_step : to_close part_at (b ∷ bytes) text ≡ closed_by (sign_at 41 text) (others (part_at text))
  unfolding to_close
  close_step = refl

  pub closes : (rest : List ℕ) (tokens : List Token) → Begins text Closing rest → AreTokens tokens rest → Reads (to_close part_at (b ∷ bytes) text) [] text tokens
  closes rest tokens begins left =
      record {
        rest = rest;
        is = close_step ∙ ap (λ (o : Option (List ℕ)). closed_by o (others (part_at text))) (sign_is text Closing rest begins 41);
        fewer = shorter text Closing rest begins;
        left = left;
      }

  pub one_more : (part behind : List ℕ) (texts : List (List ℕ)) (tokens : List Token) → sign_at 41 text ≡ None → part_at text ≡ Some (part, behind) → length behind < length text
      → Reads (to_close part_at bytes behind) texts behind tokens → Reads (to_close part_at (b ∷ bytes) text) (part ∷ texts) text tokens
  one_more part behind texts tokens unclosed is fewer reads =
      record {
        rest = reads.rest;
        is = close_step ∙ (λ i. closed_by (unclosed i) (others (is i))) ∙ ap (λ (o : Option Cuts). o >>> onto part) reads.is;
        fewer = omega (arith, reads.fewer, fewer);
        left = reads.left;
      }

quoted_close : (texts : List (List ℕ)) (tokens : List Token) (bytes text : List ℕ) → AreTokens (map quoted texts ++ (Closing ∷ tokens)) text → length text ≤ length bytes → Reads (to_close quoted_at bytes text) texts text tokens
quoted_close [] tokens [] text h le = absurd (omega (arith, shorter text Closing h.0 h.1))
quoted_close [] tokens (b ∷ bytes) text h le = closes quoted_at b bytes text h.0 tokens h.1 h.2
quoted_close (t ∷ ts) tokens [] text h le = absurd (omega (arith, shorter text (Quoted t) h.0 h.1))
quoted_close (t ∷ ts) tokens (b ∷ bytes) text h le =
    let fewer = shorter text (Quoted t) h.0 h.1 in
    one_more quoted_at b bytes text t h.0 ts tokens (sign_is text (Quoted t) h.0 h.1 41) (quoted_found text t h.0 h.1) fewer (quoted_close ts tokens bytes h.0 h.2 (omega (arith, le, fewer)))

some_texts : (texts : List (List ℕ)) (rest : List ℕ) → 0 < length texts → not_none (texts, rest) ≡ Some (texts, rest)
some_texts [] rest some = absurd (omega arith)
some_texts (t ∷ ts) rest some = refl

abbrev Texts : List ℕ → List (List ℕ) → List Token → Type 0
Texts text texts tokens = Reads (quoted_texts_at text) texts text tokens

one_text : (text t : List ℕ) (tokens : List Token) → AreTokens (Quoted t ∷ tokens) text → Texts text (t ∷ []) tokens
unfolding quoted_texts_at
one_text text t tokens h =
    record {
      rest = h.0;
      is = (λ i. in_parentheses (sign_is text (Quoted t) h.0 h.1 40 i) (quoted_found text t h.0 h.1 i >>> alone));
      fewer = shorter text (Quoted t) h.0 h.1;
      left = h.2;
    }

texts_inside : (text : List ℕ) (texts : List (List ℕ)) (tokens : List Token) → 0 < length texts → AreTokens (Opening ∷ (map quoted texts ++ (Closing ∷ tokens))) text → Texts text texts tokens
unfolding quoted_texts_at
texts_inside text texts tokens some h =
    let fewer = shorter text Opening h.0 h.1 in
    let inside = quoted_close texts tokens h.0 h.0 h.2 (omega arith) in
    record {
      rest = inside.rest;
      is =
          ap (λ (o : Option (List ℕ)). in_parentheses o (quoted_at text >>> alone)) (sign_is text Opening h.0 h.1 40)
          ∙ ap (λ (o : Option Cuts). o >>> not_none) inside.is ∙ some_texts texts inside.rest some;
      fewer = omega (arith, fewer, inside.fewer);
      left = inside.left;
    }

-- a list in parentheses, and what comes behind it
pub behind_list : (inside tokens : List Token) → (Opening ∷ (inside ++ Closing ∷ [])) ++ tokens ≡ Opening ∷ (inside ++ (Closing ∷ tokens))
behind_list inside tokens = ap (λ (ts : List Token). Opening ∷ ts) (append_assoc inside (Closing ∷ []) tokens)

pub texts_found : (texts : List (List ℕ)) (front tokens : List Token) (text : List ℕ) → AreTexts texts front → AreTokens (front ++ tokens) text → Reads (quoted_texts_at text) texts text tokens
texts_found texts front tokens text (inl one) h =
    subst (λ (ts : List (List ℕ)). Texts text ts tokens) (sym one.1) (one_text text one.0 tokens (subst (λ (ts : List Token). AreTokens (ts ++ tokens) text) one.2 h))
texts_found texts front tokens text (inr some) h =
    texts_inside text texts tokens some.0 (subst (λ (ts : List Token). AreTokens ts text) (behind_list (map quoted texts) tokens) (subst (λ (ts : List Token). AreTokens (ts ++ tokens) text) some.1 h))

-- ---- what is read stands there

pub closed_only : (P : Cuts → Type 0) (o : Option (List ℕ)) (others : Option Cuts) → ((rest : List ℕ) → o ≡ Some rest → P ([], rest)) → IfThere P others → IfThere P (closed_by o others)
closed_only P None others h k = k
closed_only P (Some rest) others h k = h rest refl

-- with the tokens that come behind them
abbrev Inside : List ℕ → Cuts → Type 0
Inside text x = (tokens : List Token) → AreTokens tokens x.1 → AreTokens (map quoted x.0 ++ (Closing ∷ tokens)) text

quoted_closed : (bytes text : List ℕ) → IfThere (Inside text) (to_close quoted_at bytes text)
unfolding to_close
quoted_closed [] text = tt
quoted_closed (b ∷ bytes) text =
    closed_only (Inside text) (sign_at 41 text) _ (λ rest e tokens left. (rest, closing_only text rest e, left))
    (bound (Inside text) (quoted_at text) _ (λ part e.
    bound (Inside text) (to_close quoted_at bytes part.1) (onto part.0) (λ more f tokens left.
    (part.1, there (λ (w : Cut). Begins text (Quoted w.0) w.1) (quoted_at text) part e (quoted_only text), there (Inside part.1) (to_close quoted_at bytes part.1) more f (quoted_closed bytes part.1) tokens left))))

pub record TextsStand (text : List ℕ) (x : Cuts) : Type 0 where
  pub front : List Token
  pub are : AreTexts x.0 front
  pub behind : (tokens : List Token) → AreTokens tokens x.1 → AreTokens (front ++ tokens) text

inside_only : (text inside : List ℕ) → Begins text Opening inside → (x : Cuts) → Inside inside x → IfThere (TextsStand text) (not_none x)
inside_only text inside begins ([], rest) h = tt
inside_only text inside begins (t ∷ ts, rest) h =
    record {
      front = Opening ∷ (map quoted (t ∷ ts) ++ Closing ∷ []);
      are = inr (omega arith, refl);
      behind = λ tokens left. subst (λ (ts : List Token). AreTokens ts text) (sym (behind_list (map quoted (t ∷ ts)) tokens)) (inside, begins, h tokens left);
    }

parentheses_only : (text : List ℕ) (o : Option (List ℕ)) → sign_at 40 text ≡ o → IfThere (TextsStand text) (in_parentheses o (quoted_at text >>> alone))
parentheses_only text None e =
    bound (TextsStand text) (quoted_at text) alone (λ part f.
    record {
      front = Quoted part.0 ∷ [];
      are = inl (part.0, refl, refl);
      behind = λ tokens left. (part.1, there (λ (w : Cut). Begins text (Quoted w.0) w.1) (quoted_at text) part f (quoted_only text), left);
    })
parentheses_only text (Some inside) e =
    bound (TextsStand text) (to_close quoted_at inside inside) not_none (λ x f.
    inside_only text inside (opening_only text inside e) x (there (Inside inside) (to_close quoted_at inside inside) x f (quoted_closed inside inside)))

pub texts_only : (text : List ℕ) → IfThere (TextsStand text) (quoted_texts_at text)
unfolding quoted_texts_at
texts_only text = parentheses_only text (sign_at 40 text) refl
