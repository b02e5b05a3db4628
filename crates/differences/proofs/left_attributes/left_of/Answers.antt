use Rattle.std.proofs.Common.{◌≡◌, ◌++◌, [], Ok, sym, ap, subst, ◌∙◌}
use Rattle.ldif.specs.declared.record.Mode.TheVariants.{Content}
use Rattle.entries.specs.Entries.{Attributes, add_lines, lines_of}
use Rattle.entries.specs.StoredEntries.{attributes_of, content_of}
use Rattle.differences.specs.EntryChanges.{users, fixed}
use Rattle.differences.specs.inner.LentAttributes.{all_lent}
use Rattle.differences.proofs.LeftAttributes.{left_added}
use Rattle.differences.proofs.StoredTypes.{stored_known}
use Rattle.differences.proofs.left_attributes.left_of.Goals as goal

pub users_of-requires : goal.users_of-requires
users_of-requires c = stored_known c.args.conf.now.types c.args.after.now.attrs c.requires.second.attrs

pub push_fixed-requires-clause-stored : goal.push_fixed-requires-clause-stored
push_fixed-requires-clause-stored c = stored_known c.args.conf.now.types c.args.before.now.attrs c.requires.first.attrs

pub made_of-requires-clause-added : goal.made_of-requires-clause-added
made_of-requires-clause-added c =
    let conf = c.args.conf.now in
    let stays = fixed conf.types (attributes_of c.args.before.now.attrs) in
    let is : all_lent c.as_slice.result.now ≡ users conf.types (attributes_of c.args.after.now.attrs) ++ stays =
    ap all_lent c.as_slice.ensures.value ∙ c.in_ok-push_fixed.ensures.fixed ∙ ap (λ (xs : Attributes). xs ++ stays) c.in_ok-kept.ensures.users in
    subst (λ (xs : Attributes). add_lines Content conf.types [] (lines_of conf.types xs) ≡ Ok xs) (sym is)
    (left_added conf c.rules_are_kept.ensures (content_of c.args.after.now) c.requires.second (content_of c.args.before.now) c.requires.first)
