-- Values of attribute types (RFC 4512, 2.2): as written, and in their normal form.
use Rattle.std.specs.Prelude.{ℕ, List, Option, Some, None, refl}
use Rattle.std.specs.Coded.{Coded, code_by, coded×, coded_ℕ, coded_list}
use Rattle.matching.specs.declared.family.Family.{Family}
use Rattle.matching.specs.Forms.{norm}

-- ---- a value as written, and its normal form

pub record Value : Type 0 where
  pub raw : List ℕ
  pub norm : List ℕ

abbrev pub value_code : Coded Value
value_code = code_by (List ℕ × List ℕ) (coded× (coded_list coded_ℕ) (coded_list coded_ℕ)) (λ v. (v.raw, v.norm)) (λ p. record { raw = p.0; norm = p.1 }) (λ _. refl)

-- ---- under an equality rule that compares values without knowing types

-- the normal form; without a rule the bytes
abbrev pub norm_by : Option Family → List ℕ → List ℕ
norm_by None bytes = bytes
norm_by (Some family) bytes = norm family bytes
