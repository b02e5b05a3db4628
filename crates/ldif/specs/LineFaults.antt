-- The fault that a line has by itself, in whatever record (RFC 2849, "Formal Syntax Definition of LDIF": attrval-spec, value-spec).
use Rattle.std.specs.Prelude.{◌≡◌, ℕ, ◌<◌, true, false, ◌⊎◌, List, ◌∷◌, ◌++◌, length}
use Rattle.std.specs.List.{list_all}
use Rattle.base.specs.Ascii.{space, colon, less_than_sign}
use Rattle.base.specs.Ends.{begins_with}
use Rattle.ldif.specs.declared.fault.LdifFaultKind.{LdifFaultKind}
use Rattle.ldif.specs.declared.fault.LdifFaultKind.TheVariants.{Continuation, ColonMissing, Url, Base64}
use Rattle.ldif.specs.Forms.{IsCoded, is_no_colon}

-- a line of a name that is not empty, the first colon and the rest
pub record IsNamedLine (line rest : List ℕ) : Type 0 where
  pub name : List ℕ
  pub is : line ≡ name ++ colon ∷ rest
  pub some : 0 < length name
  pub no_colon : list_all is_no_colon name ≡ true
  pub front : begins_with space line ≡ false

-- The fault that a line has by itself, in whatever record: it begins with a space; or it has no colon, or nothing before it;
-- or `<` stands behind the first colon; or `:` does, and no base64 behind it.
abbrev pub IsLineFault : List ℕ → LdifFaultKind → Type 0
IsLineFault line Continuation = begins_with space line ≡ true
IsLineFault line ColonMissing = (begins_with space line ≡ false) × ((list_all is_no_colon line ≡ true) ⊎ (begins_with colon line ≡ true))
IsLineFault line Url = (rest : List ℕ) × IsNamedLine line (less_than_sign ∷ rest)
IsLineFault line Base64 = (rest : List ℕ) × IsNamedLine line (colon ∷ rest) × ((value : List ℕ) → IsCoded (colon ∷ rest) value → ⊥)
IsLineFault line _ = ⊥
