use Rattle.std.proofs.Common.{◌≡◌, Bool, true, false, not, Option, List, Bor, nat_eq, sym, ap, subst, ◌∙◌}
use Rattle.std.specs.Prelude.{◌&&◌, ◌||◌, is_some, IfOk}
use Rattle.std.specs.Option.{option_copied}
use Rattle.std.specs.Map.{lookup}
use Rattle.values.specs.Values.{Value}
use Rattle.schema.specs.Conf.{Conf}
use Rattle.entries.specs.Entries.{Attributes}
use Rattle.entries.specs.EntryClasses.{has_class, defines_classes, fits_classes, has_its_classes}
use Rattle.entries.specs.StoredEntries.{EntryAttribute, attributes_of}
use Rattle.entries.proofs.StoredLemmas.{there_is}
use Rattle.entries.proofs.class_checks.has_its_classes.Goals as goal

there : (es : List EntryAttribute) (r : Option (Bor (List Value))) → option_copied r ≡ lookup (nat_eq 0) es → is_some (option_copied r) ≡ has_class (attributes_of es)
there es r is = ap is_some is ∙ there_is 0 es

pub returns-in_default : goal.returns-in_default
returns-in_default c =
    let conf = c.args.conf.now in
    let attrs = attributes_of c.args.attrs.now.entries in
    let none : has_class attrs ≡ false = sym (there c.args.attrs.now.entries c.get.result c.get.ensures) ∙ ap (λ (r : Option (Bor (List Value))). is_some (option_copied r)) c.in_default.is in
    sym (ap (λ b. b && (not (defines_classes conf) || fits_classes conf attrs)) none)

has : (conf : Conf) (attrs : Attributes) → has_class attrs ≡ true → has_its_classes conf attrs ≡ (not (defines_classes conf) || fits_classes conf attrs)
has conf attrs is = ap (λ b. b && (not (defines_classes conf) || fits_classes conf attrs)) is

pub returns-then-not-defines_classes : goal.returns-then-not-defines_classes
returns-then-not-defines_classes c =
    sym (has c.args.conf.now (attributes_of c.args.attrs.now.entries) (sym (there c.args.attrs.now.entries c.get.result c.get.ensures) ∙ ap (λ (r : Option (Bor (List Value))). is_some (option_copied r)) c.in-Some.is) ∙ ap (λ b. not b || fits_classes c.args.conf.now (attributes_of c.args.attrs.now.entries)) (sym c.defines_classes.ensures ∙ c.if-not-defines_classes.true))

pub returns : goal.returns
returns c =
    subst (λ (b : Bool). IfOk c.fits_classes.result (λ has. has ≡ b))
    (sym (has c.args.conf.now (attributes_of c.args.attrs.now.entries) (sym (there c.args.attrs.now.entries c.get.result c.get.ensures) ∙ ap (λ (r : Option (Bor (List Value))). is_some (option_copied r)) c.in-Some.is) ∙ ap (λ b. not b || fits_classes c.args.conf.now (attributes_of c.args.attrs.now.entries)) (sym c.defines_classes.ensures ∙ c.if-not-defines_classes.false)))
    c.fits_classes.ensures
