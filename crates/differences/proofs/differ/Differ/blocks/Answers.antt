use Rattle.std.proofs.Common.{map, ap, ◌∙◌}
use Rattle.differences.specs.EntryChanges.{mod_of, blocks_between}
use Rattle.differences.specs.inner.LentAttributes.{all_lent}
use Rattle.differences.proofs.StoredTypes.{if_ok, blocks_known, mods_are}
use Rattle.differences.proofs.differ.Differ.blocks.Goals as goal

pub returns-clause-known : goal.returns-clause-known
returns-clause-known c =
    let types = c.args.self.now.conf.now.types in
    if_ok c.blocks_between.result _ _ (λ bs is. blocks_known types c.in_ok-old.old.items c.in_ok-new.new.items bs.items c.in_ok-old.ensures.known c.in_ok-new.ensures.known
    (is ∙ (λ i. blocks_between types (all_lent (c.as_slice.ensures.value i)) (all_lent (c.as_slice-2.ensures.value i))))) c.blocks_between.ensures

pub returns-clause-mods : goal.returns-clause-mods
returns-clause-mods c =
    let types = c.args.self.now.conf.now.types in
    let old = ap all_lent c.as_slice.ensures.value ∙ c.in_ok-old.ensures.users in
    let new = ap all_lent c.as_slice-2.ensures.value ∙ c.in_ok-new.ensures.users in
    if_ok c.blocks_between.result _ _ (λ bs is. mods_are types bs.items ∙ ap (map (mod_of types)) (is ∙ (λ i. blocks_between types (old i) (new i)))) c.blocks_between.ensures
