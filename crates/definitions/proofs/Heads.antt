-- The beginning of a definition is read exactly where it stands.
use Rattle.std.proofs.Common.{◌≡◌, ℕ, Bool, cond, List, ◌∷◌, Option, Some, None, ap, ◌∙◌}
use Rattle.base.specs.Naming.{is_oid}
use Rattle.definitions.specs.Words.{◌>>>◌, Cut, sign_at, word_at}
use Rattle.definitions.specs.Elements.{numeric, head_at}
use Rattle.definitions.specs.Tokens.{Token, Opening, Word, Begins, AreTokens}
use Rattle.definitions.specs.Grammar.{IsOid}
use Rattle.definitions.proofs.There.{IfThere, chosen, bound, there}
use Rattle.definitions.proofs.Tokenized.{sign_is, word_found, word_only, opening_only}
use Rattle.definitions.proofs.Oids.{oid_found, oid_only}

pub head_found : (text oid : List ℕ) (tokens : List Token) → IsOid oid → (h : AreTokens (Opening ∷ Word oid ∷ tokens) text) → head_at text ≡ Some (oid, h.2.0)
unfolding head_at
head_found text oid tokens is h =
    ap (λ (o : Option (List ℕ)). o >>> λ inside. (word_at inside >>> numeric)) (sign_is text Opening h.0 h.1 40)
    ∙ ap (λ (o : Option Cut). o >>> numeric) (word_found h.0 oid h.2.0 h.2.1)
    ∙ ap (λ (t : Bool). cond t (some (oid, h.2.0)) None) (oid_found oid is) where
      some : Cut → Option Cut
      some cut = Some cut

pub record HeadStands (text : List ℕ) (head : Cut) : Type 0 where
  pub oid_is : IsOid head.0
  pub behind : (tokens : List Token) → AreTokens tokens head.1 → AreTokens (Opening ∷ Word head.0 ∷ tokens) text

pub head_only : (text : List ℕ) → IfThere (HeadStands text) (head_at text)
unfolding head_at
head_only text =
    bound (HeadStands text) (sign_at 40 text) _ (λ inside e.
    bound (HeadStands text) (word_at inside) numeric (λ oid f.
    chosen (HeadStands text) (is_oid oid.0) (Some oid) None (λ g.
    record {
      oid_is = oid_only oid.0 g;
      behind = λ tokens left. (inside, opening_only text inside e, (oid.1, there (λ (w : Cut). Begins inside (Word w.0) w.1) (word_at inside) oid f (word_only inside), left));
    }) (λ g. tt)))
