use Rattle.std.proofs.Common.{◌≡◌, ℕ, List, ◌++◌, ◌-◌, length, map, take, ap, ◌∙◌}
use Rattle.std.proofs.lemmas.Bool.{ltb-true}
use Rattle.dn.specs.Writing.{text_of}
use Rattle.schema.specs.Names.{written_rdn}
use Rattle.suffixes.proofs.MovedNames.{moved_name}
use Rattle.suffixes.proofs.names.moved_name.Goals as goal

pub returns : goal.returns
returns c = λ rs is.
    let conf = c.args.conf.now in
    let new = c.args.new.now in
    let name : List ℕ = c.args.name.now in
    let front : c.saturating_sub-front.result ≡ length name - length (text_of (map (written_rdn conf.types) conf.suffix)) =
    c.saturating_sub-front.ensures ∙ ap (λ (t : List ℕ). length name - length t) c.suffix_text.ensures in
    c.from_vec.ensures
    ∙ c.in_ok-extend_from_slice-2.ensures.items
    ∙ ap (λ (bs : List ℕ). bs ++ c.suffix_text-3.result.now)
    (c.in_ok-extend_from_slice.ensures.items ∙ ap (λ (bs : List ℕ). bs ++ take c.saturating_sub-front.result name) c.in_ok-moved.ensures.items)
    ∙ (λ i. take (front i) name ++ c.suffix_text-3.ensures i)
    ∙ moved_name conf new rs name c.requires (ltb-true 0 (length conf.suffix) c.rules_are_kept.ensures.suffix_some) (ltb-true 0 (length new.suffix) c.rules_are_kept-2.ensures.suffix_some) is
