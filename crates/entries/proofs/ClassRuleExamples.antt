-- Worked examples of what object classes ask of an entry, by computation (RFC 4512, 2.4).
use Rattle.std.proofs.Common.{◌≡◌, ℕ, Bool, true, false, List, [], ◌∷◌, Some, None, Result, Err, refl}
use Rattle.std.specs.Prelude.{codes, ⊤}
use Rattle.base.specs.Answers.{through}
use Rattle.base.specs.declared.class_kind.ClassKind.TheVariants.{Structural}
use Rattle.ldif.specs.declared.record.Op.TheVariants.{Delete}
use Rattle.matching.specs.declared.family.Family.TheVariants as families
use Rattle.matching.specs.declared.syntax.Syntax.TheVariants as syntaxes
use Rattle.matching.specs.Forms.{norm}
use Rattle.matching.specs.Syntaxes.{is_valid}
use Rattle.schema.specs.declared.code.Code.{Code}
use Rattle.schema.specs.declared.code.Code.TheVariants.{ObjectClassViolation}
use Rattle.values.specs.declared.types.TypeSyntax.TheVariants as type_syntaxes
use Rattle.values.specs.declared.types.EqualityRule.TheVariants as rules
use Rattle.values.specs.declared.types.AttributeType.{AttributeType}
use Rattle.values.specs.Types.{type_of}
use Rattle.schema.specs.TypeRules.{object_class}
use Rattle.schema.specs.Values.{is_valid_at, norm_at}
use Rattle.schema.specs.declared.object_class.ObjectClass.{ObjectClass}
use Rattle.schema.specs.Classes.{class_of, top, extensible_object}
use Rattle.schema.specs.Superclasses.{lineage_up}
use Rattle.schema.specs.Conf.{Conf}
use Rattle.entries.specs.Entries.{Attribute, Attributes, EntryContent, push_value, with_rdn}
use Rattle.entries.specs.EntryClasses.{fits_classes, has_its_classes}
use Rattle.entries.specs.Modifies.{set_values, modify_at, modify_entry, without_rdn, rename_entry}

unfoldable on_classes : ⊤
unfolding fits_classes class_of lineage_up set_values modify_at modify_entry without_rdn rename_entry push_value with_rdn through type_of is_valid_at norm_at norm is_valid
on_classes = tt

abbrev type_with : List ℕ → List ℕ → Bool → AttributeType
type_with oid name operational =
    record { oid = oid; names = name ∷ []; superior = None; syntax = type_syntaxes.Plain syntaxes.Text; equality = Some (rules.Plain families.Ignore); is_ordered = false; has_substrings = false; single_value = false; is_fixed = false; is_operational = operational }

-- objectClass 0, cn 1, sn 2, description 3, uidNumber 4, name 5, createTimestamp 6
abbrev types : List AttributeType
types =
    object_class ∷ type_with (codes "2.5.4.3") (codes "cn") false ∷ type_with (codes "2.5.4.4") (codes "sn") false ∷ type_with (codes "2.5.4.13") (codes "description") false
    ∷ type_with (codes "1.3.6.1.1.1.1.0") (codes "uidNumber") false ∷ type_with (codes "2.5.4.41") (codes "name") false ∷ type_with (codes "2.5.18.1") (codes "createTimestamp") true ∷ []

abbrev person : ObjectClass
person = record { oid = codes "2.5.6.6"; names = codes "person" ∷ []; kind = Structural; superiors = 0 ∷ []; must = 2 ∷ 1 ∷ []; may = 3 ∷ [] }

-- below person and the class that lets an entry have any type
abbrev free_person : ObjectClass
free_person = record { oid = codes "1.9"; names = codes "freePerson" ∷ []; kind = Structural; superiors = 2 ∷ 1 ∷ []; must = []; may = [] }

abbrev conf : Conf
conf = record { types = types; suffix = ((1, codes "ex") ∷ []) ∷ []; slots = []; classes = top ∷ extensible_object ∷ person ∷ free_person ∷ [] }

abbrev plain : Conf
plain = record conf { classes = top ∷ extensible_object ∷ [] }

abbrev one : ℕ → List ℕ → Attribute
one t v = (t, v ∷ [])

abbrev of_class : List ℕ → Attributes → Attributes
of_class name more = one 0 name ∷ one 1 (codes "a") ∷ more

abbrev sn : Attribute
sn = one 2 (codes "s")

by_name : has_its_classes conf (of_class (codes "Person") (sn ∷ [])) ≡ true
unfolding on_classes
by_name = refl

by_oid : has_its_classes conf (of_class (codes "2.5.6.6") (sn ∷ [])) ≡ true
unfolding on_classes
by_oid = refl

without_sn : has_its_classes conf (of_class (codes "person") []) ≡ false
unfolding on_classes
without_sn = refl

not_named : has_its_classes conf (of_class (codes "person") (sn ∷ one 4 (codes "1") ∷ [])) ≡ false
unfolding on_classes
not_named = refl

extensible : has_its_classes conf ((0, codes "person" ∷ codes "extensibleObject" ∷ []) ∷ one 1 (codes "a") ∷ sn ∷ one 4 (codes "1") ∷ []) ≡ true
unfolding on_classes
extensible = refl

-- a class above it is extensibleObject; what another one requires is still asked for
extensible_above : has_its_classes conf (of_class (codes "freePerson") (sn ∷ one 4 (codes "1") ∷ [])) ≡ true
unfolding on_classes
extensible_above = refl

required_above : has_its_classes conf (of_class (codes "freePerson") (one 4 (codes "1") ∷ [])) ≡ false
unfolding on_classes
required_above = refl

operational : has_its_classes conf (of_class (codes "person") (sn ∷ one 6 (codes "20240101000000Z") ∷ [])) ≡ true
unfolding on_classes
operational = refl

no_such_class : has_its_classes conf (of_class (codes "nosuch") (sn ∷ [])) ≡ false
unfolding on_classes
no_such_class = refl

-- where no class is defined, each objectClass will do
none_defined : has_its_classes plain (of_class (codes "nosuch") []) ≡ true
unfolding on_classes
none_defined = refl

abbrev refused : Result EntryContent Code
refused = Err ObjectClassViolation

sn_deleted : modify_entry conf (record { rdn = (1, codes "a") ∷ []; attrs = of_class (codes "person") (sn ∷ []) }) (record { op = Delete; attr = codes "sn"; values = [] } ∷ []) ≡ refused
unfolding on_classes
sn_deleted = refl

-- a new RDN of a type that no class of the entry names
renamed_by_name : rename_entry conf (record { rdn = (1, codes "a") ∷ []; attrs = of_class (codes "person") (sn ∷ []) }) ((5, codes "x") ∷ []) false ≡ refused
unfolding on_classes
renamed_by_name = refl
