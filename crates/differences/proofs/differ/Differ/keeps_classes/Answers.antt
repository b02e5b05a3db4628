use Rattle.std.proofs.Common.{◌++◌, ap, ◌∙◌}
use Rattle.std.specs.Option.{option_map}
use Rattle.entries.specs.Entries.{has_its_classes}
use Rattle.entries.specs.StoredEntries.{content_of}
use Rattle.differences.specs.EntryChanges.{users}
use Rattle.differences.specs.Follows.{stays}
use Rattle.differences.proofs.LeftAttributes.{keeps}
use Rattle.differences.proofs.differ.Differ.keeps_classes.Goals as goal

pub returns-in-Some : goal.returns-in-Some
returns-in-Some c = λ same.
    let conf = c.args.self.now.conf.now in
    let e = content_of c.args.after.now in
    ap (λ o. has_its_classes conf (users conf.types e.attrs ++ stays conf.types (option_map (λ x. content_of x.now) o) e)) c.in-Some.is
    ∙ keeps conf (content_of c.in-Some.before.now) e (c.have_same_attributes.ensures same) c.requires
