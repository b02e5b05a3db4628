use Rattle.std.proofs.Common.{List, ap, subst, ◌∙◌}
use Rattle.schema.specs.Conf.{Conf}
use Rattle.tree.specs.Directories.{IsDirectory}
use Rattle.tree.specs.Trees.{Tree, IsNumbered}
use Rattle.index_keys.specs.declared.type_norms.Numbered.{Numbered}
use Rattle.index_keys.specs.NumberedEntries.{has_among}
use Rattle.directory.proofs.WholeIndex.{whole, by_both}
use Rattle.directory.proofs.indexing.index_of.Goals as goal

pub returns : goal.returns
returns c =
    let d : Tree = c.args.database.now in
    let numbered : IsNumbered d.entries d.numbers = subst (λ (t : Tree). IsNumbered t.entries t.numbers) c.tree-2.ensures c.entries_are_numbered.ensures in
    let directory : IsDirectory d.conf d.entries = subst (λ (t : Tree). IsDirectory t.conf t.entries) c.tree.ensures c.entries_are_a_directory.ensures in
    by_both c.of_entries.result _ _ _ (λ x same has.
    whole d.conf d numbered c.order_of_paths.ensures.total directory x c.as_slice.result.now (same ∙ c.conf.ensures)
    (λ k n. has k n ∙ ap (λ (r : Conf). has_among r c.as_slice.result.now n k) c.conf.ensures)
    (λ n k. ap (λ (es : List Numbered). has_among d.conf es n k) c.as_slice.ensures.value ∙ c.in_ok-entries.ensures.all n k))
    c.of_entries.ensures.same_conf c.of_entries.ensures.members
