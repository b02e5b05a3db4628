-- Entries as they are stored: each value with its normal form.
use Rattle.std.specs.Prelude.{◌≡◌, ℕ, ◌<◌, List, map, length, refl}
use Rattle.std.specs.Coded.{Coded, code_by, coded×, coded_ℕ, coded_list}
use Rattle.std.specs.List.{AllByRecursion}
use Rattle.values.specs.declared.types.AttributeType.{AttributeType}
use Rattle.values.specs.Values.{Value, value_code}
use Rattle.schema.specs.Values.{norm_at}
use Rattle.schema.specs.Rdns.{TypedRdn}
use Rattle.entries.specs.Entries.{Attributes, EntryContent}

-- a type's number, and its values
abbrev pub EntryAttribute : Type 0
EntryAttribute = ℕ × List Value

-- attributes in order
pub record StoredAttributes : Type 0 where
  pub entries : List EntryAttribute

abbrev pub attributes_code : Coded StoredAttributes
attributes_code = code_by (List EntryAttribute) (coded_list (coded× coded_ℕ (coded_list value_code))) (λ a. a.entries) (λ es. record { entries = es }) (λ _. refl)

pub record Entry : Type 0 where
  pub rdn : TypedRdn
  pub attrs : List EntryAttribute

abbrev pub raws : List Value → List (List ℕ)
raws vs = map (λ v. v.raw) vs

abbrev pub attributes_of : List EntryAttribute → Attributes
attributes_of attrs = map (λ a. (a.0, raws a.1)) attrs

-- the entry without its normal forms
abbrev pub content_of : Entry → EntryContent
content_of e = record { rdn = e.rdn; attrs = attributes_of e.attrs }

-- each value's normal form is that of its type
abbrev pub AreNormal : List AttributeType → ℕ → List Value → Type 0
AreNormal types t vs = AllByRecursion (λ v. v.norm ≡ norm_at types t v.raw) vs

-- made under a configuration with these types
pub record IsMadeAttribute (types : List AttributeType) (a : EntryAttribute) : Type 0 where
  pub known : a.0 < length types
  pub normal : AreNormal types a.0 a.1

pub record IsMade (types : List AttributeType) (attrs : List EntryAttribute) : Type 0 where
  pub each : AllByRecursion (IsMadeAttribute types) attrs

abbrev rdn_code : Coded TypedRdn
rdn_code = coded_list (coded× coded_ℕ (coded_list coded_ℕ))

abbrev pub entry_code : Coded Entry
entry_code = code_by (TypedRdn × List EntryAttribute) (coded× rdn_code (coded_list (coded× coded_ℕ (coded_list value_code)))) (λ e. (e.rdn, e.attrs)) (λ p. record { rdn = p.0; attrs = p.1 }) (λ _. refl)

abbrev pub content_code : Coded EntryContent
content_code = code_by (TypedRdn × Attributes) (coded× rdn_code (coded_list (coded× coded_ℕ (coded_list (coded_list coded_ℕ))))) (λ f. (f.rdn, f.attrs)) (λ p. record { rdn = p.0; attrs = p.1 }) (λ _. refl)
