-- The suffix, which has to be there, and the slots.
use Rattle.std.proofs.Common.{ap, sym, subst, ◌≡◌, ◌∙◌, List, length, Option, Some, None, Result, Ok, Err}
use Rattle.base.specs.Answers.{◌>>=◌, Fails}
use Rattle.base.proofs.Bound.{bind_ok, same_ok}
use Rattle.definitions.specs.declared.lines.Line.{Line}
use Rattle.schema.specs.declared.slots.Slot.{Slot}
use Rattle.schema.specs.Conf.{Conf}
use Rattle.schema.specs.Rdns.{TypedRdn}
use Rattle.values.specs.declared.types.AttributeType.{AttributeType}
use Rattle.dir_conf.specs.IndexLines.{in_order}
use Rattle.dir_conf.specs.Configurations.{At, Defined, Found, built_in, defined_by, found_in, none_found, rules_of, conf_on_lines}
use Rattle.dir_conf.specs.inner.Views.{both, suffix_and_slots}
use Rattle.dir_conf.specs.declared.conf_fault.ConfFaultKind.TheVariants.{Suffix}
use Rattle.dir_conf.proofs.FirstStops.{same_err}

abbrev Both : Type 0
Both = List TypedRdn × List Slot

abbrev some_rdns : List TypedRdn → Option (List TypedRdn)
some_rdns rdns = Some rdns

abbrev conf_err : At → Result Conf At
conf_err fault = Err fault

parts_are : (found : Option (List TypedRdn)) (said : List Slot) (suffix : List TypedRdn) (slots : List Slot) → both found said ≡ Ok (suffix, slots) → (found ≡ Some suffix) × (slots ≡ said)
parts_are None said suffix slots e = absurd cc
parts_are (Some rdns) said suffix slots e =
    let same : (suffix, slots) ≡ (rdns, said) = sym (same_ok (rdns, said) (suffix, slots) e) in
    (ap (λ (x : Both). some_rdns x.0) (sym same), ap (λ (x : Both). x.1) same)

-- what was found, where they are there
pub both_are : (types : List AttributeType) (ls : List Line) (suffix : List TypedRdn) (slots : List Slot) → suffix_and_slots types ls ≡ Ok (suffix, slots)
    → (f : Found) × (found_in types none_found ls ≡ Ok f) × (f.suffix ≡ Some suffix) × (slots ≡ in_order (length types) f.slots)
both_are types ls suffix slots e =
    let k = bind_ok (found_in types none_found ls) (λ f. both f.suffix (in_order (length types) f.slots)) (suffix, slots) e in
    let parts = parts_are k.0.suffix (in_order (length types) k.0.slots) suffix slots k.2 in
    (k.0, k.1, parts.0, parts.1)

no_suffix : (s : Defined) (said slots : List Slot) (found : Option (List TypedRdn)) (fault : Option At) → Fails fault (both found slots) → Fails fault (rules_of s said found)
no_suffix s said slots found None e = tt
no_suffix s said slots None (Some fault) e = ap conf_err (same_err {A = Both} (0, Suffix) fault e)
no_suffix s said slots (Some rdns) (Some fault) e = absurd cc

-- where they aren't, the whole fails in the same way
pub both_fail : (s : Defined) (ls : List Line) (fault : Option At) → defined_by built_in ls ≡ Ok s → Fails fault (suffix_and_slots s.types ls) → Fails fault (conf_on_lines ls)
both_fail s ls fault defined e =
    subst (Fails fault) (sym (ap (λ (r : Result Defined At). r >>= λ d. (found_in d.types none_found ls >>= λ f. rules_of d f.slots f.suffix)) defined)) (by (found_in s.types none_found ls) fault e)
  where
    by : (r : Result Found At) (fault : Option At) → Fails fault (r >>= λ f. both f.suffix (in_order (length s.types) f.slots)) → Fails fault (r >>= λ f. rules_of s f.slots f.suffix)
    by r None e = tt
    by (Err x) (Some fault) e = ap conf_err (same_err {A = Both} x fault e)
    by (Ok f) (Some fault) e = no_suffix s f.slots (in_order (length s.types) f.slots) f.suffix (Some fault) e

abbrev both_ok : List TypedRdn → List Slot → Result Both At
both_ok suffix slots = Ok (suffix, slots)

pub both_found : (types : List AttributeType) (ls : List Line) (f : Found) (suffix : List TypedRdn) (slots : List Slot) → found_in types none_found ls ≡ Ok f → f.suffix ≡ Some suffix → slots ≡ in_order (length types) f.slots
    → suffix_and_slots types ls ≡ Ok (suffix, slots)
both_found types ls f suffix slots found some are =
    ap (λ (r : Result Found At). r >>= λ g. both g.suffix (in_order (length types) g.slots)) found
    ∙ ap (λ (o : Option (List TypedRdn)). both o (in_order (length types) f.slots)) some
    ∙ ap (λ (ss : List Slot). both_ok suffix ss) (sym are)
