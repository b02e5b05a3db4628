use Rattle.std.proofs.Common.{map, ap, subst, ◌∙◌}
use Rattle.std.specs.Prelude.{not}
use Rattle.std.specs.Option.{option_copied}
use Rattle.schema.specs.Conf.{Conf}
use Rattle.commands.specs.Asked.{IsBase, IsSelection}
use Rattle.commands.proofs.Ends.{found_there}
use Rattle.commands.proofs.listing.frame_of.Goals as goal

pub returns-clause-found : goal.returns-clause-found
returns-clause-found c =
    let asked = c.args.asked.now in
    let q = c.in_ok-query.query in
    let is = c.in_ok-query.ensures.found in
    record {
      frame = record {
        there = found_there c.args.database.now c.tree.result.now _ _ c.get.result c.tree.ensures c.get.ensures.entry (c.is_none.ensures ∙ ap not c.if-is_none.false);
        scope = is.scope;
        limit = is.limit;
        width = is.width;
      };
      base = subst (λ (conf : Conf). IsBase conf (option_copied asked.base) q.base) c.conf-2.ensures is.base;
      selection = subst (λ (conf : Conf). IsSelection conf (map (λ w. w.now) asked.attributes.items) q.selection) c.conf-2.ensures is.selection;
    }
