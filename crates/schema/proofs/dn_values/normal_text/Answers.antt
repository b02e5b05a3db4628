use Rattle.std.proofs.Common.{ℕ, List, ◌++◌, ◌∙◌, sym, ap, map}
use Rattle.std.specs.List.{join_with_byte}
use Rattle.std.proofs.lemmas.Simd.{map-map}
use Rattle.dn.specs.Writing.{rdn_text, text_of}
use Rattle.schema.specs.Values.{normal_rdn, normal_text}
use Rattle.schema.proofs.dn_values.normal_text.Goals as goal

pub returns : goal.returns
unfolding normal_text text_of
returns c =
    c.from_vec.ensures ∙ c.in_ok-put_rdns.ensures
    ∙ ap (λ (start : List ℕ). start ++ join_with_byte 44 (map (λ r. rdn_text (normal_rdn c.args.types.now r)) c.args.rdns.now)) c.in_ok-out.ensures.items
    ∙ ap (join_with_byte 44) (sym (map-map rdn_text (normal_rdn c.args.types.now) c.args.rdns.now))
