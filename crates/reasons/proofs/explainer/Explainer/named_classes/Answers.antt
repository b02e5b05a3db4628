use Rattle.std.proofs.Common.{◌<◌, ◌+◌, ◌∷◌, [], length, sym, ap, subst, ◌∙◌}
use Rattle.std.specs.List.{AllByRecursion}
use Rattle.schema.specs.Classes.{class_of}
use Rattle.entries.specs.StoredEntries.{raws}
use Rattle.entries.proofs.LoopSteps.{one_class, one_named}
use Rattle.entries.proofs.SetValues.{all_both}
use Rattle.reasons.proofs.EntriesFound.{behind_one, counted}
use Rattle.reasons.proofs.explainer.Explainer.named_classes.Goals as goal

pub loop-value-preserved : goal.loop-value-preserved
loop-value-preserved c =
    let classes = c.args.self.now.conf.now.classes in
    let n = c.in-Some-class_of.class in
    let first = c.in-Some.ensures.steps in
    let is = sym (c.in-Some-class_of.ensures.place ∙ ap (class_of classes) c.raw.ensures) in
    let put = c.in_ok-push-in-Some-class_of.ensures.items in
    record {
      can = (tt, tt);
      all = one_class classes c.loop-value.value-iterator c.next.new.self c.in-Some.value.now first n is ∙ c.loop-value.invariant.all;
      named = one_named classes c.loop-value.value-iterator c.next.new.self c.in-Some.value.now first n c.loop-value.named.items c.push.new.self.items is put ∙ c.loop-value.invariant.named;
      known = subst (AllByRecursion (λ k. k < length classes)) (sym put) (all_both (λ k. k < length classes) c.loop-value.named.items (n ∷ []) c.loop-value.invariant.known (c.in-Some-class_of.ensures.known, tt));
      place = behind_one c.loop-value.index c.in_ok-index.index c.in-Some.value.now c.loop-value.value-iterator c.next.new.self (raws c.args.values.now) first (counted c.checked_add.result c.in_ok-index.index (c.loop-value.index + 1) (c.loop-value.index + 1 < 18446744073709551616) c.in_ok-index.ensures.ok_part c.checked_add.ensures) c.loop-value.invariant.place;
    }
