-- What a configuration keeps beside what is seen of it.
use Rattle.std.specs.Prelude.{◌≡◌, List, map, reverse}
use Rattle.dn.specs.Writing.{text_of}
use Rattle.values.specs.declared.types.AttributeType.{AttributeType}
use Rattle.schema.specs.declared.derived.Derived.{Derived}
use Rattle.schema.specs.declared.object_class.ObjectClass.{ObjectClass}
use Rattle.schema.specs.Conf.{Conf, IsConf}
use Rattle.schema.specs.Names.{written_rdn}
use Rattle.schema.specs.Rdns.{TypedRdn, rdn_key_of}
use Rattle.schema.specs.Values.{normal_text}
use Rattle.schema.specs.inner.Settled.{AreSettled}

-- the path of its suffix, what its classes ask, and the suffix as it is written and in its normal form
abbrev pub AreDerived : List AttributeType → List TypedRdn → List ObjectClass → Derived → Type 0
AreDerived types suffix classes derived =
    (derived.root ≡ map (rdn_key_of types) (reverse suffix)) × (AreSettled classes derived.settled)
    × (derived.suffix_text ≡ text_of (map (written_rdn types) suffix)) × (derived.suffix_norm ≡ normal_text types suffix)

abbrev pub Keeps : Conf → Derived → Type 0
Keeps conf derived = IsConf conf × AreDerived conf.types conf.suffix conf.classes derived
