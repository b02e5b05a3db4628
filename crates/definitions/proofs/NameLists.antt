-- Names with `$` between are read exactly where they stand.
use Rattle.std.proofs.Common.{◌≡◌, ℕ, ◌<◌, ◌≤◌, Bool, List, [], ◌∷◌, ◌++◌, length, Option, Some, None, inl, inr, refl, sym, ap, subst, ◌∙◌, arith}
use Rattle.definitions.specs.Words.{◌>>>◌, Cut, sign_at}
use Rattle.definitions.specs.Texts.{Cuts, onto, to_close, alone, name_at, next_name_at, names_to_close, list_in_parentheses, names_at}
use Rattle.definitions.specs.Tokens.{Token, Opening, Closing, Dollar, Begins, AreTokens}
use Rattle.definitions.specs.Grammar.{IsName}
use Rattle.definitions.specs.ClassGrammar.{AreMoreNames, AreJoined, AreListed}
use Rattle.definitions.proofs.There.{IfThere, bound, there}
use Rattle.definitions.proofs.Tokenized.{NameStands, sign_is, shorter, name_found, name_only, name_no_sign, opening_only, closing_only, dollar_only}
use Rattle.definitions.proofs.Listed.{Reads, closes, one_more, behind_list, closed_only}

module _ (quotes : Bool) where
  -- ---- what stands there is read

  next_found : (text name behind rest : List ℕ) (token : Token) → IsName quotes name token → Begins text Dollar behind → Begins behind token rest → next_name_at quotes text ≡ Some (name, rest)
  next_found text name behind rest token is dollar begins = ap (λ (o : Option (List ℕ)). o >>> name_at quotes) (sign_is text Dollar behind dollar 36) ∙ name_found quotes behind name rest token is begins

  more_close : (names : List (List ℕ)) (front tokens : List Token) (bytes text : List ℕ) → AreMoreNames quotes names front → AreTokens (front ++ (Closing ∷ tokens)) text → length text ≤ length bytes
      → Reads (to_close (next_name_at quotes) bytes text) names text tokens
  more_close [] front tokens [] text are h le =
      let k = subst (λ (ts : List Token). AreTokens (ts ++ (Closing ∷ tokens)) text) are h in
      absurd (omega (arith, shorter text Closing k.0 k.1))
  more_close [] front tokens (b ∷ bytes) text are h le =
      let k = subst (λ (ts : List Token). AreTokens (ts ++ (Closing ∷ tokens)) text) are h in
      closes (next_name_at quotes) b bytes text k.0 tokens k.1 k.2
  more_close (name ∷ names) front tokens [] text are h le =
      let k = subst (λ (ts : List Token). AreTokens (ts ++ (Closing ∷ tokens)) text) are.3 h in
      absurd (omega (arith, shorter text Dollar k.0 k.1))
  more_close (name ∷ names) front tokens (b ∷ bytes) text are h le =
      let k = subst (λ (ts : List Token). AreTokens (ts ++ (Closing ∷ tokens)) text) are.3 h in
      let behind = k.0 in
      let m = k.2 in
      let fewer : length m.0 < length text = omega (arith, shorter text Dollar behind k.1, shorter behind are.0 m.0 m.1) in
      one_more (next_name_at quotes) b bytes text name m.0 names tokens (sign_is text Dollar behind k.1 41) (next_found text name behind m.0 are.0 are.2 k.1 m.1) fewer
      (more_close names are.1 tokens bytes m.0 are.4 m.2 (omega (arith, le, fewer)))

  joined_found : (names : List (List ℕ)) (front tokens : List Token) (text : List ℕ) → AreJoined quotes names front → AreTokens (front ++ (Closing ∷ tokens)) text → Reads (names_to_close quotes text) names text tokens
  unfolding names_to_close
  joined_found [] front tokens text are h = absurd are
  joined_found (name ∷ names) front tokens text are h =
      let k = subst (λ (ts : List Token). AreTokens (ts ++ (Closing ∷ tokens)) text) are.3 h in
      let more = more_close names are.1 tokens k.0 k.0 are.4 k.2 (omega arith) in
      record {
        rest = more.rest;
        is =
            ap (λ (o : Option Cut). o >>> λ part. (to_close (next_name_at quotes) part.1 part.1 >>> onto part.0)) (name_found quotes text name k.0 are.0 are.2 k.1)
            ∙ ap (λ (o : Option Cuts). o >>> onto name) more.is;
        fewer = omega (arith, more.fewer, shorter text are.0 k.0 k.1);
        left = more.left;
      }

  abbrev Listed : List ℕ → List (List ℕ) → List Token → Type 0
  Listed text names tokens = Reads (names_at quotes text) names text tokens

  one_name : (text name : List ℕ) (token : Token) (tokens : List Token) → IsName quotes name token → AreTokens (token ∷ tokens) text → Listed text (name ∷ []) tokens
  unfolding names_at
  one_name text name token tokens is h =
      record {
        rest = h.0;
        is = (λ i. list_in_parentheses quotes (name_no_sign 40 quotes text name h.0 token refl refl is h.1 i) (name_found quotes text name h.0 token is h.1 i >>> alone));
        fewer = shorter text token h.0 h.1;
        left = h.2;
      }

  some_names : (text : List ℕ) (names : List (List ℕ)) (inside tokens : List Token) → AreJoined quotes names inside → AreTokens (Opening ∷ (inside ++ (Closing ∷ tokens))) text → Listed text names tokens
  unfolding names_at
  some_names text names inside tokens are h =
      let more = joined_found names inside tokens h.0 are h.2 in
      record {
        rest = more.rest;
        is = ap (λ (o : Option (List ℕ)). list_in_parentheses quotes o (name_at quotes text >>> alone)) (sign_is text Opening h.0 h.1 40) ∙ more.is;
        fewer = omega (arith, more.fewer, shorter text Opening h.0 h.1);
        left = more.left;
      }

  pub listed_found : (names : List (List ℕ)) (front tokens : List Token) (text : List ℕ) → AreListed quotes names front → AreTokens (front ++ tokens) text → Reads (names_at quotes text) names text tokens
  listed_found names front tokens text (inl one) h =
      subst (λ (ns : List (List ℕ)). Listed text ns tokens) (sym one.2) (one_name text one.0 one.1 tokens one.3 (subst (λ (ts : List Token). AreTokens (ts ++ tokens) text) one.4 h))
  listed_found names front tokens text (inr some) h =
      some_names text names some.0 tokens some.1 (subst (λ (ts : List Token). AreTokens ts text) (behind_list some.0 tokens) (subst (λ (ts : List Token). AreTokens (ts ++ tokens) text) some.2 h))

  -- ---- what is read stands there

  record NextStands (text : List ℕ) (w : Cut) : Type 0 where
    pub behind : List ℕ
    pub dollar : Begins text Dollar behind
    pub name : NameStands quotes behind w

  next_only : (text : List ℕ) → IfThere (NextStands text) (next_name_at quotes text)
  next_only text = by (sign_at 36 text) refl where
    weaker : (behind : List ℕ) → Begins text Dollar behind → (o : Option Cut) → IfThere (NameStands quotes behind) o → IfThere (NextStands text) o
    weaker behind dollar None h = tt
    weaker behind dollar (Some w) h = record { behind = behind; dollar = dollar; name = h }

    by : (o : Option (List ℕ)) → sign_at 36 text ≡ o → IfThere (NextStands text) (o >>> name_at quotes)
    by None e = tt
    by (Some behind) e = weaker behind (dollar_only text behind e) (name_at quotes behind) (name_only quotes behind)

  -- the names, up to the closing parenthesis
  record MoreStand (text : List ℕ) (x : Cuts) : Type 0 where
    pub front : List Token
    pub are : AreMoreNames quotes x.0 front
    pub behind : (tokens : List Token) → AreTokens tokens x.1 → AreTokens (front ++ (Closing ∷ tokens)) text

  one_next : (text : List ℕ) (part : Cut) → NextStands text part → (more : Cuts) → MoreStand part.1 more → MoreStand text (part.0 ∷ more.0, more.1)
  one_next text part stands more h =
      record {
        front = Dollar ∷ stands.name.token ∷ h.front;
        are = (stands.name.token, h.front, stands.name.is, refl, h.are);
        behind = λ tokens left. (stands.behind, stands.dollar, (part.1, stands.name.begins, h.behind tokens left));
      }

  more_only : (bytes text : List ℕ) → IfThere (MoreStand text) (to_close (next_name_at quotes) bytes text)
  unfolding to_close
  more_only [] text = tt
  more_only (b ∷ bytes) text =
      closed_only (MoreStand text) (sign_at 41 text) _ (λ rest e. record { front = []; are = refl; behind = λ tokens left. (rest, closing_only text rest e, left) })
      (bound (MoreStand text) (next_name_at quotes text) _ (λ part e.
      bound (MoreStand text) (to_close (next_name_at quotes) bytes part.1) (onto part.0) (λ more f.
      one_next text part (there (NextStands text) (next_name_at quotes text) part e (next_only text)) more
      (there (MoreStand part.1) (to_close (next_name_at quotes) bytes part.1) more f (more_only bytes part.1)))))

  pub record ListStands (text : List ℕ) (x : Cuts) : Type 0 where
    pub front : List Token
    pub are : AreListed quotes x.0 front
    pub behind : (tokens : List Token) → AreTokens tokens x.1 → AreTokens (front ++ tokens) text

  in_list : (text inside : List ℕ) → Begins text Opening inside → (part : Cut) → NameStands quotes inside part → (more : Cuts) → MoreStand part.1 more → ListStands text (part.0 ∷ more.0, more.1)
  in_list text inside begins part name more h =
      let names = name.token ∷ h.front in
      record {
        front = Opening ∷ (names ++ Closing ∷ []);
        are = inr (names, (name.token, h.front, name.is, refl, h.are), refl);
        behind = λ tokens left. subst (λ (ts : List Token). AreTokens ts text) (sym (behind_list names tokens)) (inside, begins, (part.1, name.begins, h.behind tokens left));
      }

  parentheses_only : (text : List ℕ) (o : Option (List ℕ)) → sign_at 40 text ≡ o → IfThere (ListStands text) (list_in_parentheses quotes o (name_at quotes text >>> alone))
  unfolding names_to_close
  parentheses_only text None e =
      bound (ListStands text) (name_at quotes text) alone (λ part f.
      let name = there (NameStands quotes text) (name_at quotes text) part f (name_only quotes text) in
      record {
        front = name.token ∷ [];
        are = inl (part.0, name.token, refl, name.is, refl);
        behind = λ tokens left. (part.1, name.begins, left);
      })
  parentheses_only text (Some inside) e =
      bound (ListStands text) (name_at quotes inside) _ (λ part f.
      bound (ListStands text) (to_close (next_name_at quotes) part.1 part.1) (onto part.0) (λ more g.
      in_list text inside (opening_only text inside e) part (there (NameStands quotes inside) (name_at quotes inside) part f (name_only quotes inside)) more
      (there (MoreStand part.1) (to_close (next_name_at quotes) part.1 part.1) more g (more_only part.1 part.1))))

  pub listed_only : (text : List ℕ) → IfThere (ListStands text) (names_at quotes text)
  unfolding names_at
  listed_only text = parentheses_only text (sign_at 40 text) refl
