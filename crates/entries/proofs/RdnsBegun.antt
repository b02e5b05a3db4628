-- The values of an RDN's first AVAs, put one by one.
use Rattle.std.proofs.Common.{◌≡◌, ℕ, ◌+◌, ◌<◌, List, [], ◌∷◌, ◌++◌, take, drop, length, get_or, refl, sym, ap, subst, ◌∙◌}
use Rattle.std.proofs.lemmas.List.{take_more, drop_more}
use Rattle.values.specs.declared.types.AttributeType.{AttributeType}
use Rattle.std.specs.List.{AllByRecursion}
use Rattle.schema.specs.Rdns.{Ava, TypedRdn}
use Rattle.entries.specs.Entries.{Attributes, with_ava, with_rdn}

with_rdn_put : (types : List AttributeType) (ps : TypedRdn) (p : Ava) (attrs : Attributes) → with_rdn types (ps ++ p ∷ []) attrs ≡ with_ava types p (with_rdn types ps attrs)
unfolding with_rdn
with_rdn_put types [] p attrs = refl
with_rdn_put types (q ∷ qs) p attrs = with_rdn_put types qs p (with_ava types q attrs)

pub one_ava_more : (types : List AttributeType) (ps : TypedRdn) (i : ℕ) (p : Ava) (before now next : Attributes) → i < length ps → p ≡ get_or ps i p → now ≡ with_rdn types (take i ps) before → next ≡ with_ava types p now → next ≡ with_rdn types (take (i + 1) ps) before
one_ava_more types ps i p before now next lt at so_far put =
    put ∙ ap (with_ava types p) so_far
    ∙ sym (ap (λ (qs : TypedRdn). with_rdn types qs before) (take_more ps i p lt) ∙ with_rdn_put types (take i ps) (get_or ps i p) before ∙ ap (λ (q : Ava). with_ava types q (with_rdn types (take i ps) before)) (sym at))

pub rest_of_avas : (types : List AttributeType) (ps : TypedRdn) (i : ℕ) (p : Ava) (now next : Attributes) → i < length ps → p ≡ get_or ps i p → next ≡ with_ava types p now → with_rdn types (drop (i + 1) ps) next ≡ with_rdn types (drop i ps) now
unfolding with_rdn
rest_of_avas types ps i p now next lt at put =
    ap (with_rdn types (drop (i + 1) ps)) put
    ∙ ap (λ (q : Ava). with_rdn types (drop (i + 1) ps) (with_ava types q now)) at
    ∙ sym (ap (λ (qs : TypedRdn). with_rdn types qs now) (drop_more ps i p lt))

pub left_of_avas : (P : Ava → Type 0) (ps : TypedRdn) (i : ℕ) (p : Ava) → i < length ps → AllByRecursion P (drop i ps) → AllByRecursion P (drop (i + 1) ps)
left_of_avas P ps i p lt h = (subst (AllByRecursion P) (drop_more ps i p lt) h).1
