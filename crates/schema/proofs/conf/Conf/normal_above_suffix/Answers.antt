use Rattle.std.proofs.Common.{ℕ, List, [], ◌∷◌, ◌++◌, ◌∙◌, sym, ap, map, append_assoc}
use Rattle.std.specs.List.{join_with_byte}
use Rattle.std.proofs.lemmas.Simd.{map-map}
use Rattle.values.specs.declared.types.AttributeType.{AttributeType}
use Rattle.dn.specs.Writing.{rdn_text, text_of}
use Rattle.schema.specs.Values.{normal_rdn, normal_text}
use Rattle.schema.proofs.conf.Conf.normal_above_suffix.Goals as goal

pub returns : goal.returns
unfolding normal_text text_of
returns c =
    let types = c.args.self.now.types in
    let rdns = c.args.rdns.now in
    let suffix : List ℕ = normal_text types c.args.self.now.suffix in
    let first =
    c.in_ok-put_rdns.ensures
    ∙ ap (λ (start : List ℕ). start ++ join_with_byte 44 (map (λ r. rdn_text (normal_rdn c.table.result.now r)) rdns)) c.in_ok-out.ensures.items in
    c.from_vec.ensures ∙ c.in_ok-extend_from_slice.ensures.items
    ∙ (λ i. c.in_ok-push.ensures.items i ++ c.suffix_norm-suffix.ensures i)
    ∙ append_assoc c.put_rdns.new.out.items (44 ∷ []) suffix
    ∙ ap (λ (start : List ℕ). start ++ 44 ∷ suffix) first
    ∙ ap (λ (ts : List AttributeType). join_with_byte 44 (map (λ r. rdn_text (normal_rdn ts r)) rdns) ++ 44 ∷ suffix) c.table.ensures
    ∙ ap (λ ts. join_with_byte 44 ts ++ 44 ∷ suffix) (sym (map-map rdn_text (normal_rdn types) rdns))
