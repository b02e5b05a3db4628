-- How a value differs from its normal form.
use Rattle.std.specs.Prelude.{◌≡◌, ◌≢◌, ℕ, List, []}
use Rattle.matching.specs.declared.normal.Form.{Form}
use Rattle.matching.specs.declared.normal.Form.TheVariants as forms
use Rattle.matching.specs.Forms.{lower}

-- of a value and its normal form
abbrev pub Differs : Form → List ℕ → List ℕ → Type 0
Differs forms.AsWritten bytes norm = norm ≡ bytes
Differs forms.LowerCase bytes norm = (norm ≡ lower bytes) × (bytes ≢ [])
Differs forms.Other bytes norm = Unit {0}
