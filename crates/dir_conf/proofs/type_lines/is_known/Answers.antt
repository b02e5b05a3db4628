use Rattle.std.proofs.Common.{◌≡◌, Bool, ◌||◌, List, ℕ, sym, ap, ◌∙◌}
use Rattle.std.specs.List.{list_any}
use Rattle.values.specs.declared.types.AttributeType.{AttributeType}
use Rattle.dir_conf.specs.Configurations.{is_type, names_one}
use Rattle.definitions.specs.declared.element.Element.{Element}
use Rattle.dir_conf.proofs.Taken.{types_share, or_true, or_else}
use Rattle.dir_conf.proofs.type_lines.is_known.Goals as goal

parts : (types : List AttributeType) (e : Element) (found : Bool) (oid : List ℕ) → found ≡ is_type types oid → oid ≡ e.oid → list_any (names_one e) types ≡ (found || list_any (is_type types) e.names)
parts types e found oid is at = types_share types e ∙ ap (λ (b : Bool). b || list_any (is_type types) e.names) (sym (is ∙ ap (is_type types) at))

pub returns-then-is_type : goal.returns-then-is_type
returns-then-is_type c =
    or_true c.is_type.result (list_any (is_type c.args.types.now) c.args.element.now.names) (list_any (names_one c.args.element.now) c.args.types.now)
    (parts c.args.types.now c.args.element.now c.is_type.result c.as_slice.result.now c.is_type.ensures c.as_slice.ensures) c.if-is_type.true

pub returns-else-is_type : goal.returns-else-is_type
returns-else-is_type c =
    c.any_types.ensures ∙ ap (list_any (is_type c.args.types.now)) c.as_slice-else-is_type.ensures
    ∙ or_else c.is_type.result (list_any (is_type c.args.types.now) c.args.element.now.names) (list_any (names_one c.args.element.now) c.args.types.now)
    (parts c.args.types.now c.args.element.now c.is_type.result c.as_slice.result.now c.is_type.ensures c.as_slice.ensures) c.if-is_type.false
