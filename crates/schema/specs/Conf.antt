-- A configuration: its attribute types, its suffix, its slots and its object classes; and where a name stands under it.
use Rattle.std.specs.Prelude.{◌≡◌, ℕ, ◌<◌, ◌≤◌, Bool, true, nat_lt, if◌then◌else◌, List, [], ◌∷◌, ◌++◌, map, take, length, reverse, Result, Ok, Err}
use Rattle.std.specs.List.{list_any, list_all, AllByRecursion, IsDistinct}
use Rattle.std.specs.List.Sorted.{IsStrictlySortedBy}
use Rattle.std.specs.Ordering.{is_eq}
use Rattle.values.specs.declared.types.AttributeType.{AttributeType}
use Rattle.schema.specs.declared.code.Code.{Code}
use Rattle.schema.specs.declared.code.Code.TheVariants.{NoSuchObject}
use Rattle.values.specs.Types.{names_of, is_named, type_at}
use Rattle.base.specs.Naming.{is_oid, is_type_name}
use Rattle.paths.specs.Paths.{RdnKey, Path, rdn_key_cmp}
use Rattle.schema.specs.TypeRules.{object_class, FitsBehind}
use Rattle.schema.specs.declared.object_class.ObjectClass.{ObjectClass}
use Rattle.schema.specs.Classes.{class_at, top, extensible_object, share_class_name, IsClass}
use Rattle.schema.specs.Rdns.{TypedRdn, typed, rdn_key_of}
use Rattle.schema.specs.GoodRdns.{IsRdn}
use Rattle.base.specs.Answers.{◌>>=◌}
use Rattle.dn.specs.Names as names
use Rattle.dn.specs.Writing.{text_of}
use Rattle.schema.specs.Names.{name_in, written_rdn}
use Rattle.schema.specs.declared.slots.Slot.{Slot}
use Rattle.schema.specs.Slots.{slot_cmp, IsSlot}

pub record Conf : Type 0 where
  pub types : List AttributeType
  -- the suffix's RDNs, the first one its own entry's
  pub suffix : List TypedRdn
  -- what is indexed, by the numbers of the types and then by kind
  pub slots : List Slot
  pub classes : List ObjectClass

-- ---- where a name stands

abbrev pub same_rdn_key : RdnKey → RdnKey → Bool
same_rdn_key a b = is_eq (rdn_key_cmp a b)

-- both from the root of the tree down: what comes after the first
unfoldable pub below : List AttributeType → List TypedRdn → List TypedRdn → Result (List TypedRdn) Code
below types [] rs = Ok rs
below types (s ∷ ss) [] = Err NoSuchObject
below types (s ∷ ss) (r ∷ rs) = if same_rdn_key (rdn_key_of types s) (rdn_key_of types r) then below types ss rs else Err NoSuchObject

-- the RDNs below the suffix of the entry with this name, from the suffix down; or why there can be no such entry
unfoldable pub place_of : Conf → names.Name → Result (List TypedRdn) Code
place_of conf n = typed conf.types n >>= λ rs. below conf.types (reverse conf.suffix) (reverse rs)

-- the same of a name as text
unfoldable pub located : Conf → List ℕ → Result (List TypedRdn) Code
located conf text = name_in text >>= place_of conf

abbrev pub located_at : List TypedRdn → Result (List TypedRdn) Code
located_at rs = Ok rs

-- the path of these RDNs
abbrev pub path_of : Conf → List TypedRdn → Path
path_of conf rs = map (rdn_key_of conf.types) rs

-- the path of the entry with this name
abbrev pub path_of_name : Conf → names.Name → Result Path Code
path_of_name conf n = place_of conf n >>= λ rs. Ok (path_of conf rs)

-- the name with these RDNs below the suffix, from the suffix down
unfoldable pub name_text : Conf → List TypedRdn → List ℕ
name_text conf rs = text_of (map (written_rdn conf.types) (reverse rs ++ conf.suffix))

-- ---- what holds of a configuration

-- whether one has a name of the other
abbrev pub share_name : AttributeType → AttributeType → Bool
share_name a b = list_any (λ n. is_named n a) (names_of b)

pub record IsType (t : AttributeType) : Type 0 where
  pub oid : is_oid t.oid ≡ true
  pub names : list_all is_type_name t.names ≡ true

abbrev pub first_rdn : List TypedRdn → TypedRdn
first_rdn [] = []
first_rdn (r ∷ rs) = r

pub record IsConf (conf : Conf) : Type 0 where
  pub types : AllByRecursion IsType conf.types
  pub first : type_at conf.types 0 ≡ object_class
  pub fits : (t : ℕ) → t < length conf.types → FitsBehind (take t conf.types) (type_at conf.types t)
  pub types_apart : IsDistinct share_name conf.types
  pub types_few : length conf.types ≤ 65535
  pub suffix : AllByRecursion (IsRdn conf.types) conf.suffix
  pub suffix_some : nat_lt 0 (length conf.suffix) ≡ true
  pub slots : AllByRecursion (IsSlot conf.types) conf.slots
  pub slots_rise : IsStrictlySortedBy slot_cmp conf.slots
  pub class_first : class_at conf.classes 0 ≡ top
  pub class_second : class_at conf.classes 1 ≡ extensible_object
  pub classes_some : nat_lt 1 (length conf.classes) ≡ true
  pub classes : (c : ℕ) → c < length conf.classes → IsClass conf.types c (class_at conf.classes c)
  pub classes_apart : IsDistinct share_class_name conf.classes

-- the RDN of the suffix's own entry
abbrev pub root_rdn : Conf → TypedRdn
root_rdn conf = first_rdn conf.suffix

-- ---- the entry with a name

-- the RDN of the entry at these RDNs, from the suffix down; the suffix's entry has the suffix's, as the configuration spells it
abbrev pub own_rdn : Conf → List TypedRdn → TypedRdn
own_rdn conf [] = root_rdn conf
own_rdn conf (r ∷ []) = r
own_rdn conf (r ∷ s ∷ rs) = own_rdn conf (s ∷ rs)

-- the path of the entry with the name that a text spells
abbrev pub path_of_text : Conf → List ℕ → Result Path Code
path_of_text conf text = located conf text >>= λ rs. Ok (path_of conf rs)

-- its path and its own RDN
abbrev pub place_of_text : Conf → List ℕ → Result (Path × TypedRdn) Code
place_of_text conf text = located conf text >>= λ rs. Ok (path_of conf rs, own_rdn conf rs)
