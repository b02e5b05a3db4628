use Rattle.std.proofs.Common.{◌<◌, ◌∷◌, ◌++◌, [], List, length, sym, ap, subst, ◌∙◌}
use Rattle.std.specs.List.{AllByRecursion}
use Rattle.std.proofs.lemmas.List.{append-nil}
use Rattle.values.specs.Values.{Value}
use Rattle.schema.specs.Classes.{class_of}
use Rattle.entries.specs.EntryClasses.{are_classes, named_classes}
use Rattle.entries.specs.StoredEntries.{raws}
use Rattle.entries.proofs.LoopSteps.{one_class, one_named, no_class}
use Rattle.entries.proofs.SetValues.{all_both}
use Rattle.entries.proofs.class_checks.put_classes.Goals as goal

pub loop-value-preserved : goal.loop-value-preserved
loop-value-preserved c =
    let classes = c.args.conf.now.classes in
    let n = c.in-Some-class_of.class in
    let first = c.in-Some.ensures.steps in
    let is = sym (c.in-Some-class_of.ensures.place ∙ ap (class_of classes) c.raw.ensures) in
    let put = c.in_ok-push-in-Some-class_of.ensures.ok in
    record {
      can = (tt, tt);
      all = one_class classes c.loop-value.value-iterator c.next.new.self c.in-Some.value.now first n is ∙ c.loop-value.invariant.all;
      named = one_named classes c.loop-value.value-iterator c.next.new.self c.in-Some.value.now first n c.loop-value.classes.items c.push.new.self.items is put ∙ c.loop-value.invariant.named;
      known = subst (AllByRecursion (λ k. k < length classes)) (sym put) (all_both (λ k. k < length classes) c.loop-value.classes.items (n ∷ []) c.loop-value.invariant.known (c.in-Some-class_of.ensures.known, tt));
    }

pub returns-in-None-class_of-clause-all : goal.returns-in-None-class_of-clause-all
returns-in-None-class_of-clause-all c =
    let classes = c.args.conf.now.classes in
    sym (no_class classes c.loop-value.value-iterator c.next.new.self c.in-Some.value.now c.in-Some.ensures.steps (sym (c.in-None-class_of.ensures.place ∙ ap (class_of classes) c.raw.ensures))) ∙ c.loop-value.invariant.all

pub returns-clause-all : goal.returns-clause-all
returns-clause-all c = sym (ap (λ (vs : List Value). are_classes c.args.conf.now.classes (raws vs)) c.in-None.ensures.steps.0) ∙ c.loop-value.invariant.all

pub returns-clause-named : goal.returns-clause-named
returns-clause-named c = λ _.
    let found = c.loop-value.classes.items in
    sym (ap (λ (vs : List Value). found ++ named_classes c.args.conf.now.classes (raws vs)) c.in-None.ensures.steps.0 ∙ append-nil found) ∙ c.loop-value.invariant.named
