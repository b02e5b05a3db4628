use Rattle.std.proofs.Common.{◌≡◌, Bool, ◌||◌, List, ℕ, sym, ap, ◌∙◌}
use Rattle.std.specs.List.{list_any}
use Rattle.definitions.specs.declared.element.Element.{Element}
use Rattle.schema.specs.declared.object_class.ObjectClass.{ObjectClass}
use Rattle.schema.specs.Classes.{is_class}
use Rattle.dir_conf.specs.Configurations.{shares_class_name}
use Rattle.dir_conf.proofs.Taken.{classes_share, or_true, or_else}
use Rattle.dir_conf.proofs.class_lines.is_known.Goals as goal

parts : (classes : List ObjectClass) (e : Element) (found : Bool) (oid : List ℕ) → found ≡ is_class classes oid → oid ≡ e.oid → list_any (shares_class_name e) classes ≡ (found || list_any (is_class classes) e.names)
parts classes e found oid is at = classes_share classes e ∙ ap (λ (b : Bool). b || list_any (is_class classes) e.names) (sym (is ∙ ap (is_class classes) at))

pub returns-then-is_class : goal.returns-then-is_class
returns-then-is_class c =
    or_true c.is_class.result (list_any (is_class c.args.classes.now) c.args.element.now.names) (list_any (shares_class_name c.args.element.now) c.args.classes.now)
    (parts c.args.classes.now c.args.element.now c.is_class.result c.as_slice.result.now c.is_class.ensures c.as_slice.ensures) c.if-is_class.true

pub returns-else-is_class : goal.returns-else-is_class
returns-else-is_class c =
    c.any_classes.ensures ∙ ap (list_any (is_class c.args.classes.now)) c.as_slice-else-is_class.ensures
    ∙ or_else c.is_class.result (list_any (is_class c.args.classes.now) c.args.element.now.names) (list_any (shares_class_name c.args.element.now) c.args.classes.now)
    (parts c.args.classes.now c.args.element.now c.is_class.result c.as_slice.result.now c.is_class.ensures c.as_slice.ensures) c.if-is_class.false
