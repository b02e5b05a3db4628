use Rattle.std.proofs.Common.{rules, ◌≡◌, ◌∷◌, false, sym, ap, subst, ◌∙◌}
use Rattle.std.specs.List.{AllByRecursion}
use Rattle.std.specs.Option.{option_copied}
use Rattle.entries.specs.StoredEntries.{raws, IsMadeAttribute}
use Rattle.differences.specs.declared.attributes.UserAttribute.{UserAttribute}
use Rattle.differences.specs.EntryChanges.{is_fixed_at}
use Rattle.differences.proofs.SettledSteps.{known_more, kept_pushed, kept_passed}
use Rattle.differences.proofs.as_sets.push_kept.Goals as goal

pub loop-t-preserved-in-Continue-branch-2 : goal.loop-t-preserved-in-Continue-branch-2
loop-t-preserved-in-Continue-branch-2 c =
    let types = c.args.conf.now.types in
    let x : UserAttribute = record { t = c.in-Some.t; values = c.in_ok-values.values } in
    let values = c.in-Some.values.now in
    let steps : c.loop-t.t-iterator ≡ (c.in-Some.t.now, values) ∷ c.next.new.self = c.in-Some.ensures.steps in
    let made = subst (AllByRecursion (IsMadeAttribute types)) steps c.loop-t.invariant.made in
    let free : is_fixed_at types (c.in-Some.t.now, raws values) ≡ false = search (rules, c.fixed.ensures, c.if-not-fixed.true) in
    record {
      made = made.1;
      known = known_more types c.loop-t.found.items c.push.new.self.items x c.loop-t.invariant.known made.0.known c.in_ok-push.ensures.items;
      so_far = kept_pushed types c.args.after.now.attrs c.loop-t.found.items c.loop-t.t-iterator c.next.new.self _ c.push.new.self.items x values c.in-Some-values.others.now
          c.in_ok-push.ensures.items steps free (sym c.values.ensures ∙ ap option_copied c.in-Some-values.is) c.in_ok-values.ensures c.loop-t.invariant.made c.requires.second.each c.loop-t.invariant.so_far;
    }

pub loop-t-preserved-in_default : goal.loop-t-preserved-in_default
loop-t-preserved-in_default c =
    let types = c.args.conf.now.types in
    let values = c.in-Some.values.now in
    let steps : c.loop-t.t-iterator ≡ (c.in-Some.t.now, values) ∷ c.next.new.self = c.in-Some.ensures.steps in
    record {
      made = (subst (AllByRecursion (IsMadeAttribute types)) steps c.loop-t.invariant.made).1;
      known = c.loop-t.invariant.known;
      so_far = kept_passed types c.args.after.now.attrs c.loop-t.found.items c.loop-t.t-iterator c.next.new.self _ c.in-Some.t.now values steps (sym c.values.ensures ∙ ap option_copied c.in_default.is) c.loop-t.invariant.so_far;
    }
