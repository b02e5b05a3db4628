use Rattle.std.proofs.Common.{rules, ◌≡◌, ◌∷◌, false, true, None, sym, subst}
use Rattle.std.specs.Prelude.{nat_eq, is_some}
use Rattle.std.specs.Option.{option_copied}
use Rattle.std.specs.List.{AllByRecursion}
use Rattle.std.specs.Map.{lookup}
use Rattle.entries.specs.StoredEntries.{raws, IsMadeAttribute}
use Rattle.differences.specs.declared.attributes.UserAttribute.{UserAttribute}
use Rattle.differences.specs.EntryChanges.{is_fixed_at}
use Rattle.differences.proofs.SettledSteps.{known_more, new_pushed, new_passed}
use Rattle.differences.proofs.as_sets.push_new.Goals as goal

pub loop-t-preserved-in-Continue-branch-2 : goal.loop-t-preserved-in-Continue-branch-2
loop-t-preserved-in-Continue-branch-2 c =
    let types = c.args.conf.now.types in
    let x : UserAttribute = record { t = c.in-Some.t; values = c.in_ok-values.values } in
    let values = c.in-Some.values.now in
    let steps : c.loop-t.t-iterator ≡ (c.in-Some.t.now, values) ∷ c.next.new.self = c.in-Some.ensures.steps in
    let made = subst (AllByRecursion (IsMadeAttribute types)) steps c.loop-t.invariant.made in
    let free : is_fixed_at types (c.in-Some.t.now, raws values) ≡ false = search (rules, c.fixed.ensures, c.if-not-fixed.true) in
    let none : lookup (nat_eq c.in-Some.t.now) c.args.before.now.attrs ≡ None = search (rules, c.values.ensures, c.is_none.ensures, c.if-is_none.true) in
    record {
      made = made.1;
      known = known_more types c.loop-t.found.items c.push.new.self.items x c.loop-t.invariant.known made.0.known c.in_ok-push.ensures.items;
      so_far = new_pushed types c.args.before.now.attrs c.loop-t.found.items c.loop-t.t-iterator c.next.new.self _ c.push.new.self.items x values
          c.in_ok-push.ensures.items steps free none c.in_ok-values.ensures c.loop-t.invariant.so_far;
    }

pub loop-t-preserved-else-is_none : goal.loop-t-preserved-else-is_none
loop-t-preserved-else-is_none c =
    let types = c.args.conf.now.types in
    let values = c.in-Some.values.now in
    let steps : c.loop-t.t-iterator ≡ (c.in-Some.t.now, values) ∷ c.next.new.self = c.in-Some.ensures.steps in
    let some : is_some (option_copied c.values.result) ≡ true = search (rules, c.is_none.ensures, c.if-is_none.false) in
    record {
      made = (subst (AllByRecursion (IsMadeAttribute types)) steps c.loop-t.invariant.made).1;
      known = c.loop-t.invariant.known;
      so_far = new_passed types c.args.before.now.attrs c.loop-t.found.items c.loop-t.t-iterator c.next.new.self _ c.in-Some.t.now values (option_copied c.values.result) steps (sym c.values.ensures) some c.loop-t.invariant.so_far;
    }
