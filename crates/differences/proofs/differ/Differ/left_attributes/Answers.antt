use Rattle.std.proofs.Common.{◌++◌, Option, sym, ap, ◌∙◌}
use Rattle.std.specs.Option.{option_map}
use Rattle.entries.specs.Entries.{EntryContent, has_its_classes}
use Rattle.entries.specs.StoredEntries.{content_of}
use Rattle.differences.specs.EntryChanges.{users}
use Rattle.differences.specs.Follows.{stays}
use Rattle.differences.proofs.LeftAttributes.{left_new}
use Rattle.differences.proofs.StoredTypes.{if_ok}
use Rattle.differences.proofs.differ.Differ.left_attributes.Goals as goal

pub returns-in-None-clause-classes : goal.returns-in-None-clause-classes
returns-in-None-clause-classes c =
    let conf = c.args.self.now.conf.now in
    let e = content_of c.args.after.now in
    let only = users conf.types e.attrs in
    if_ok c.left_of_new.result _ _
    (λ found is.
    ap (has_its_classes conf) is
    ∙ left_new conf c.rules_are_kept.ensures e c.requires.second
    ∙ ap (λ (o : Option EntryContent). has_its_classes conf (only ++ stays conf.types o e)) (sym (ap (option_map (λ x. content_of x.now)) c.in-None.is)))
    c.left_of_new.ensures.left
