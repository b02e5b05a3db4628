use Rattle.std.proofs.Common.{◌≡◌, ℕ, List, Some, None, Ok, Err, true, false, sym, subst, ◌∙◌}
use Rattle.entries.specs.Entries.{values_of}
use Rattle.entries.specs.StoredEntries.{attributes_of, raws}
use Rattle.entries.specs.inner.ClassChecks.{may_have, may_have_all}
use Rattle.reasons.proofs.EntriesFound.{classes_undefined, unknown_class, lacks_type, not_allowed_type, fits, named_is, lacks_is, class_values}
use Rattle.reasons.proofs.explainer.Explainer.classes_reason.Goals as goal

pub returns-then-not-defines_classes : goal.returns-then-not-defines_classes
returns-then-not-defines_classes c = classes_undefined c.args.self.now.conf.now (attributes_of c.args.attrs.now) (sym c.defines_classes.ensures ∙ c.if-not-defines_classes.true)

pub returns-in-Err : goal.returns-in-Err
returns-in-Err c =
    let conf = c.args.self.now.conf.now in
    let es = c.args.attrs.now in
    let attrs = attributes_of es in
    let k = named_is (λ named. named.items) conf.classes (raws c.args.values.now) (values_of attrs 0) c.in_ok-named.field-0 (Err c.in-Err.value) (class_values conf.types es c.args.values.now c.requires.values) c.in-Err.is c.in_ok-named.ensures in
    unknown_class conf attrs (sym c.defines_classes.ensures ∙ c.if-not-defines_classes.false) c.in-Err.value k.0 k.1 k.2

pub returns-in-Some : goal.returns-in-Some
returns-in-Some c =
    let conf = c.args.self.now.conf.now in
    let es = c.args.attrs.now in
    let attrs = attributes_of es in
    let k = named_is (λ named. named.items) conf.classes (raws c.args.values.now) (values_of attrs 0) c.in_ok-named.field-0 (Ok c.in-Ok.named) (class_values conf.types es c.args.values.now c.requires.values) c.in-Ok.is c.in_ok-named.ensures in
    let lacks = lacks_is conf attrs c.deref.result.now c.in-Ok.named.items c.lack.result (Some c.in-Some.lack) c.deref.ensures.value c.in-Some.is c.lack.ensures in
    lacks_type conf attrs (sym c.defines_classes.ensures ∙ c.if-not-defines_classes.false) c.in-Ok.named.items k.0 k.1 c.rules_are_kept.ensures c.in-Some.lack.0 c.in-Some.lack.1 lacks

pub returns-in-Some-not_allowed : goal.returns-in-Some-not_allowed
returns-in-Some-not_allowed c =
    let conf = c.args.self.now.conf.now in
    let es = c.args.attrs.now in
    let attrs = attributes_of es in
    let k = named_is (λ named. named.items) conf.classes (raws c.args.values.now) (values_of attrs 0) c.in_ok-named.field-0 (Ok c.in-Ok.named) (class_values conf.types es c.args.values.now c.requires.values) c.in-Ok.is c.in_ok-named.ensures in
    let all = lacks_is conf attrs c.deref.result.now c.in-Ok.named.items c.lack.result None c.deref.ensures.value c.in_default.is c.lack.ensures in
    let found = c.in-Some-not_allowed.ensures.some in
    let not_may = subst (λ (ns : List ℕ). may_have conf ns c.in-Some-not_allowed.found ≡ false) c.deref-2.ensures.value found.2 in
    not_allowed_type conf attrs (sym c.defines_classes.ensures ∙ c.if-not-defines_classes.false) c.in-Ok.named.items k.0 k.1 all c.in-Some-not_allowed.found found.0 found.1 not_may

pub returns : goal.returns
returns c =
    let conf = c.args.self.now.conf.now in
    let es = c.args.attrs.now in
    let attrs = attributes_of es in
    let k = named_is (λ named. named.items) conf.classes (raws c.args.values.now) (values_of attrs 0) c.in_ok-named.field-0 (Ok c.in-Ok.named) (class_values conf.types es c.args.values.now c.requires.values) c.in-Ok.is c.in_ok-named.ensures in
    let all = lacks_is conf attrs c.deref.result.now c.in-Ok.named.items c.lack.result None c.deref.ensures.value c.in_default.is c.lack.ensures in
    fits conf attrs (sym c.defines_classes.ensures ∙ c.if-not-defines_classes.false) c.in-Ok.named.items k.0 k.1 all (subst (λ (ns : List ℕ). may_have_all conf ns attrs ≡ true) c.deref-2.ensures.value c.in_default-not_allowed.ensures.none)
