use Rattle.std.proofs.Common.{List, subst, sym, ap, ◌∙◌, Some, Result, Ok}
use Rattle.std.proofs.lemmas.Result.{err_from_is_err_and}
use Rattle.values.specs.declared.types.AttributeType.{AttributeType}
use Rattle.schema.specs.declared.slots.Slot.{Slot}
use Rattle.schema.specs.declared.object_class.ObjectClass.{ObjectClass}
use Rattle.dir_conf.specs.ConfFaults.{At}
use Rattle.schema.specs.Conf.{Conf, IsConf}
use Rattle.schema.specs.Rdns.{TypedRdn}
use Rattle.dir_conf.specs.Reads.{fault_at}
use Rattle.dir_conf.specs.Configurations.{Defined, Found}
use Rattle.dir_conf.proofs.Whole.{Holds, Defines, all_hold, IsFound, IsSuffix, found_is, rules_are, conf_is}
use Rattle.dir_conf.proofs.SuffixAndSlots.{both_are, both_fail}
use Rattle.dir_conf.proofs.configuration.conf_on_lines.Goals as goal
use Rattle.dir_conf.proofs.configuration.conf_on_lines.Goals.{After-suffix_and_slots}

abbrev conf_with : List ObjectClass → List AttributeType → List TypedRdn → List Slot → Conf
conf_with classes types suffix slots = record { types = types; suffix = suffix; slots = slots; classes = classes }

abbrev conf_ok : Conf → Result Conf At
conf_ok x = Ok x

abbrev known : After-suffix_and_slots → Defined
known c = record { types = c.in_ok-defined.defined.types; classes = c.in_ok-defined.defined.classes }

pub new-requires : goal.new-requires
new-requires c =
    let law : Defines = λ text d e. (c.defined_types_have_names.ensures.oid text d e, c.defined_types_have_names.ensures.names text d e) in
    let s : Defined = known (goal.at.new-requires c).After-suffix_and_slots in
    let both = both_are s.types c.args.lines.now c.in_ok-suffix.suffix c.in_ok-suffix.slots c.in_ok-suffix.ensures in
    let f : Found = both.0 in
    let found : IsFound s.types f = found_is (λ text n. (c.spelled_names_are_read.ensures.read text n).0) s.types c.args.lines.now f both.1 in
    let good : Holds s = all_hold law c.args.lines.now s c.in_ok-defined.ensures in
    let kept : IsSuffix s.types (Some c.in_ok-suffix.suffix) = subst (IsSuffix s.types) both.2 found.suffix in
    subst (λ (ss : List Slot). IsConf (conf_with s.classes s.types c.in_ok-suffix.suffix ss)) (sym both.3) (rules_are s c.in_ok-suffix.suffix f.slots good kept found.slots)

pub returns : goal.returns
returns c =
    let s : Defined = known (goal.at.returns c).After-suffix_and_slots in
    let both = both_are s.types c.args.lines.now c.in_ok-suffix.suffix c.in_ok-suffix.slots c.in_ok-suffix.ensures in
    conf_is c.args.lines.now s both.0 c.in_ok-suffix.suffix c.in_ok-defined.ensures both.1 both.2
    ∙ ap (λ (x : Conf). conf_ok x) ((λ j. conf_with s.classes s.types c.in_ok-suffix.suffix (sym both.3 j)) ∙ sym c.in_ok-new.ensures)

pub returns-in_err-suffix : goal.returns-in_err-suffix
returns-in_err-suffix c =
    let s : Defined = known (goal.at.returns-in_err-suffix c).After-suffix_and_slots in
    let p = err_from_is_err_and c.from_residual-in_err-suffix.result c.from_residual-in_err-suffix.ensures.1 in
    rw (p.1, p.2) (both_fail s c.args.lines.now (fault_at c.in_err-suffix.field-0.0) c.in_ok-defined.ensures c.in_err-suffix.ensures)
