-- A configuration with another suffix keeps the rules of one.
use Rattle.std.proofs.Common.{◌≡◌, ℕ, true, List, [], ◌∷◌, length, Result, Ok, Err, refl, sym, subst, arith}
use Rattle.std.specs.Prelude.{nat_lt}
use Rattle.std.specs.List.{AllByRecursion}
use Rattle.std.proofs.lemmas.Bool.{lt-ltb}
use Rattle.base.specs.Answers.{◌>>=◌}
use Rattle.base.proofs.Bound.{bind_ok, same_ok}
use Rattle.values.specs.declared.types.AttributeType.{AttributeType}
use Rattle.schema.specs.declared.code.Code.{Code}
use Rattle.schema.specs.declared.object_class.ObjectClass.{ObjectClass}
use Rattle.schema.specs.declared.slots.Slot.{Slot}
use Rattle.schema.specs.Names.{name_in}
use Rattle.schema.specs.Rdns.{TypedRdn, typed}
use Rattle.schema.specs.GoodRdns.{IsRdn}
use Rattle.schema.specs.Values.{rdns_in}
use Rattle.schema.specs.Conf.{Conf, IsConf, first_rdn, root_rdn}
use Rattle.schema.proofs.Found.{SpellsRead, name_has_avas, rdns_are}
use Rattle.suffixes.specs.Configurations.{some_rdns, suffix_in}

-- RDNs that a suffix can have
pub record AreSuffix (types : List AttributeType) (rs : List TypedRdn) : Type 0 where
  pub good : AllByRecursion (IsRdn types) rs
  pub some : nat_lt 0 (length rs) ≡ true

some_good : (types : List AttributeType) (r : Result (List TypedRdn) Code) (rs : List TypedRdn) → ((ss : List TypedRdn) → r ≡ Ok ss → AllByRecursion (IsRdn types) ss) → (r >>= some_rdns) ≡ Ok rs → AreSuffix types rs
some_good types (Ok []) rs good is = absurd cc
some_good types (Ok (s ∷ ss)) rs good is = subst (AreSuffix types) (same_ok (s ∷ ss) rs is) (record { good = good (s ∷ ss) refl; some = lt-ltb 0 (length (s ∷ ss)) (omega arith) })
some_good types (Err code) rs good is = absurd cc

pub suffix_good : SpellsRead → (types : List AttributeType) (text : List ℕ) (rs : List TypedRdn) → suffix_in types text ≡ Ok rs → AreSuffix types rs
unfolding suffix_in rdns_in
suffix_good read types text rs is =
    some_good types (rdns_in types text) rs
    (λ ss said. let k = bind_ok (name_in text) (typed types) ss said in rdns_are types k.0 ss (name_has_avas read text k.0 k.1) k.2) is

-- the RDN of the suffix's entry
first_good : (types : List AttributeType) (rs : List TypedRdn) → AllByRecursion (IsRdn types) rs → nat_lt 0 (length rs) ≡ true → IsRdn types (first_rdn rs)
first_good types [] good some = cc
first_good types (r ∷ rs) good some = good.0

pub root_good : (conf : Conf) → IsConf conf → IsRdn conf.types (root_rdn conf)
root_good conf ok = first_good conf.types conf.suffix ok.suffix ok.suffix_some

pub conf_good : (conf : Conf) (types : List AttributeType) (suffix : List TypedRdn) (slots : List Slot) (classes : List ObjectClass) → IsConf conf → types ≡ conf.types → slots ≡ conf.slots → classes ≡ conf.classes → AreSuffix types suffix
    → IsConf (record { types = types; suffix = suffix; slots = slots; classes = classes })
conf_good conf types suffix slots classes ok same_types same_slots same_classes are =
    let own : AreSuffix conf.types suffix = subst (λ (ts : List AttributeType). AreSuffix ts suffix) same_types are in
    let good : IsConf (record { types = conf.types; suffix = suffix; slots = conf.slots; classes = conf.classes }) = record {
      types = ok.types;
      first = ok.first;
      fits = ok.fits;
      types_apart = ok.types_apart;
      types_few = ok.types_few;
      suffix = own.good;
      suffix_some = own.some;
      slots = ok.slots;
      slots_rise = ok.slots_rise;
      class_first = ok.class_first;
      class_second = ok.class_second;
      classes_some = ok.classes_some;
      classes = ok.classes;
      classes_apart = ok.classes_apart;
    } in
    let is : ◌≡◌ {A = Conf} (record { types = conf.types; suffix = suffix; slots = conf.slots; classes = conf.classes }) (record { types = types; suffix = suffix; slots = slots; classes = classes }) =
    λ i. record { types = sym same_types i; suffix = suffix; slots = sym same_slots i; classes = sym same_classes i } in
    subst (λ (k : Conf). IsConf k) is good
