-- Attributes as the lines of a record say them (RFC 2849, "attrval-spec").
use Rattle.std.specs.Prelude.{ℕ, List, refl}
use Rattle.std.specs.Coded.{Coded, code_by, coded×, coded_ℕ, coded_list}

-- a name, and one value
pub record Attr : Type 0 where
  pub name : List ℕ
  pub value : List ℕ

abbrev pub attr_code : Coded Attr
attr_code = code_by (List ℕ × List ℕ) (coded× (coded_list coded_ℕ) (coded_list coded_ℕ)) (λ a. (a.name, a.value)) (λ p. record { name = p.0; value = p.1 }) (λ _. refl)
