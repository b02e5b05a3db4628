use Rattle.std.proofs.Common.{sym, subst, ◌∙◌}
use Rattle.schema.specs.GoodRdns.{IsRdn}
use Rattle.suffixes.proofs.NewConfs.{root_good}
use Rattle.suffixes.proofs.directories.Mover.suffix_entry.Goals as goal

pub renamed-requires-clause-new : goal.renamed-requires-clause-new
renamed-requires-clause-new c =
    let new = c.args.self.now.new.now in
    subst (IsRdn new.types) (sym (c.in_ok-new.ensures ∙ c.suffix_rdn.ensures)) (root_good new c.rules_are_kept.ensures)
