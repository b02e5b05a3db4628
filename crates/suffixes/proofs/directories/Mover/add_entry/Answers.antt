use Rattle.std.proofs.Common.{List, sym, subst}
use Rattle.values.specs.declared.types.AttributeType.{AttributeType}
use Rattle.schema.specs.Conf.{Conf}
use Rattle.schema.specs.GoodRdns.{IsRdn}
use Rattle.entries.specs.StoredEntries.{content_of}
use Rattle.tree.specs.Trees.{Tree}
use Rattle.suffixes.proofs.directories.Mover.add_entry.Goals as goal

pub add_suffix_entry-requires-clause-rdn : goal.add_suffix_entry-requires-clause-rdn
add_suffix_entry-requires-clause-rdn g c =
    let self = c.args.self.now in
    let tree : Tree = self.tree.now in
    let rdn = c.rdn.result.now in
    let good = c.entries_are_a_directory.ensures.good c.args.path.now (content_of c.args.entry.now) c.requires.there in
    subst (λ (types : List AttributeType). IsRdn types rdn) (sym self.same_types)
    (subst (λ (k : Conf). IsRdn k.types rdn) self.same_conf (subst (IsRdn tree.conf.types) (sym c.rdn.ensures) good.rdn))
