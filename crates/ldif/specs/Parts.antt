-- Where the parts of a record stand among its lines.
use Rattle.std.specs.Prelude.{◌≡◌, ℕ, ◌<◌, ◌⊎◌, List, [], ◌∷◌, ◌++◌, length, drop, Option, Some, None}
use Rattle.ldif.specs.Attrs.{Attr}
use Rattle.ldif.specs.declared.record.Control.{Control}
use Rattle.ldif.specs.declared.record.Mod.{Mod}
use Rattle.ldif.specs.declared.record.Mode.{Mode}
use Rattle.ldif.specs.declared.record.Record.{Record}
use Rattle.ldif.specs.declared.record.Record.TheVariants as records
use Rattle.ldif.specs.declared.parts.Part.{Part}
use Rattle.ldif.specs.declared.parts.Part.TheVariants as parts
use Rattle.ldif.specs.Forms.{IsEach, IsValueLine, IsLineOf, IsControlLine, IsBlocks, IsMore, IsNewSuperior, IsRenaming, IsEntry}

-- ---- what a record has

-- the attributes of a content record or an add
abbrev pub attrs_in : Record → List Attr
attrs_in (records.Content dn attrs) = attrs
attrs_in (records.Add dn controls attrs) = attrs
attrs_in _ = []

-- the blocks of a modify
abbrev pub mods_in : Record → List Mod
mods_in (records.Modify dn controls mods) = mods
mods_in _ = []

abbrev pub controls_in : Record → List Control
controls_in (records.Add dn controls attrs) = controls
controls_in (records.Delete dn controls) = controls
controls_in (records.Modify dn controls mods) = controls
controls_in (records.ModRdn dn controls newrdn delete_old new_superior) = controls
controls_in _ = []

-- the new superior of a renaming
abbrev pub superior_in : Record → Option (List ℕ)
superior_in (records.ModRdn dn controls newrdn delete_old new_superior) = new_superior
superior_in _ = None

-- ---- the lines from a part on, to the record's end

-- the values of a block from this one on, and the blocks behind it
pub record AreValuesFrom (mods : List Mod) (block value : ℕ) (lines : List (List ℕ)) : Type 0 where
  pub change : Mod
  pub others : List Mod
  pub is : drop block mods ≡ change ∷ others
  pub within : value < length change.values
  pub front : List (List ℕ)
  pub each : IsEach (IsLineOf change.attr) front (drop value change.values)
  pub behind : ((lines ≡ front) × (others ≡ [])) ⊎ IsMore (IsBlocks others) front lines

-- the controls from this one on, and what stands behind them
pub record AreControlsFrom (controls : List Control) (control : ℕ) (lines : List (List ℕ)) : Type 0 where
  pub within : control < length controls
  pub front : List (List ℕ)
  pub behind : List (List ℕ)
  pub is : lines ≡ front ++ behind
  pub each : IsEach IsControlLine front (drop control controls)

-- These lines are a record from this part on: the first of them says the part.
abbrev pub AreFrom : Mode → Record → Part → List (List ℕ) → Type 0
AreFrom mode found parts.Name lines = IsEntry mode lines found
AreFrom mode found (parts.Attribute i) lines = (i < length (attrs_in found)) × IsEach IsValueLine lines (drop i (attrs_in found))
AreFrom mode found (parts.Block block) lines = (block < length (mods_in found)) × IsBlocks (drop block (mods_in found)) lines
AreFrom mode found (parts.Value block value) lines = AreValuesFrom (mods_in found) block value lines
AreFrom mode found (parts.Control i) lines = AreControlsFrom (controls_in found) i lines
AreFrom mode found parts.NewRdn lines = (dn : List ℕ) × (controls : List Control) × IsRenaming dn controls lines found
AreFrom mode found parts.NewSuperior lines = (superior : List ℕ) × (superior_in found ≡ Some superior) × IsNewSuperior lines (Some superior)

-- the index of the line that says a part, or that no line does
abbrev pub IsPartLine : Mode → Record → Part → List (List ℕ) → Option ℕ → Type 0
IsPartLine mode found part lines (Some index) = AreFrom mode found part (drop index lines)
IsPartLine mode found part lines None = (index : ℕ) → AreFrom mode found part (drop index lines) → ⊥
