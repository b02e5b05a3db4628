use Rattle.std.proofs.Common.{◌≡◌, [], Ok, sym, ap, subst, ◌∙◌}
use Rattle.ldif.specs.declared.record.Mode.TheVariants.{Content}
use Rattle.entries.specs.Entries.{Attributes, add_lines, lines_of}
use Rattle.entries.specs.StoredEntries.{attributes_of, content_of}
use Rattle.differences.specs.EntryChanges.{users}
use Rattle.differences.specs.inner.LentAttributes.{all_lent}
use Rattle.differences.proofs.LeftAttributes.{users_added}
use Rattle.differences.proofs.StoredTypes.{stored_known}
use Rattle.differences.proofs.left_attributes.left_of_new.Goals as goal

pub users_of-requires : goal.users_of-requires
users_of-requires c = stored_known c.args.conf.now.types c.args.after.now.attrs c.requires.attrs

pub made_of-requires-clause-added : goal.made_of-requires-clause-added
made_of-requires-clause-added c =
    let conf = c.args.conf.now in
    let is : all_lent c.as_slice.result.now ≡ users conf.types (attributes_of c.args.after.now.attrs) = ap all_lent c.as_slice.ensures.value ∙ c.in_ok-kept.ensures.users in
    subst (λ (xs : Attributes). add_lines Content conf.types [] (lines_of conf.types xs) ≡ Ok xs) (sym is)
    (users_added conf c.rules_are_kept.ensures (content_of c.args.after.now) c.requires)
