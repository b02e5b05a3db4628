-- The forms of lines and of records, as relations (RFC 2849, "Formal Syntax Definition of LDIF").
use Rattle.std.specs.Prelude.{◌≡◌, ℕ, suc, ◌<◌, Bool, true, false, not, ◌&&◌, ◌||◌, ◌==◌, nat_le, ◌⊎◌, if◌then◌else◌, List, [], ◌∷◌, ◌++◌, length, replicate, Option, Some, None, codes}
use Rattle.std.specs.List.{list_all}
use Rattle.base.specs.Ascii.{space, hyphen, full_stop, colon, less_than_sign}
use Rattle.base64.specs.GeneralPurpose.{encode_of, IsBytes}
use Rattle.base64.specs.Engines.{standard}
use Rattle.base.specs.Ends.{begins_with, ends_with}
use Rattle.ldif.specs.Attrs.{Attr}
use Rattle.ldif.specs.declared.record.Control.{Control}
use Rattle.ldif.specs.declared.record.Mod.{Mod}
use Rattle.ldif.specs.declared.record.Op.{Op}
use Rattle.ldif.specs.declared.record.Op.TheVariants as ops
use Rattle.ldif.specs.declared.record.Mode.{Mode}
use Rattle.ldif.specs.declared.record.Mode.TheVariants.{Content, Changes}
use Rattle.ldif.specs.declared.record.Record.{Record}
use Rattle.ldif.specs.declared.record.Record.TheVariants as records
use Rattle.ldif.specs.Line.{lower}

-- lists of the same length whose items stand in the relation, each to the one in its place
abbrev pub IsEach : {X Y : Type 0} → (X → Y → Type 0) → List X → List Y → Type 0
IsEach R [] [] = Unit {0}
IsEach R [] (y ∷ ys) = ⊥
IsEach R (x ∷ xs) [] = ⊥
IsEach R (x ∷ xs) (y ∷ ys) = R x y × IsEach R xs ys

-- ---- values

-- `:`, spaces, the base64 of the value, spaces
pub record IsCoded (rest value : List ℕ) : Type 0 where
  pub front : ℕ
  pub back : ℕ
  pub is : rest ≡ colon ∷ (replicate front space ++ (encode_of standard value ++ replicate back space))
  pub bytes : IsBytes value

-- spaces, and the value
pub record IsBare (rest value : List ℕ) : Type 0 where
  pub front : ℕ
  pub is : rest ≡ replicate front space ++ value
  pub no_space : begins_with space value ≡ false
  pub no_colon : begins_with colon rest ≡ false
  pub no_angle : begins_with less_than_sign rest ≡ false

-- what stands after the first colon of a line, and the value that it says
abbrev pub IsForm : List ℕ → List ℕ → Type 0
IsForm rest value = IsCoded rest value ⊎ IsBare rest value

-- ---- lines

abbrev pub is_no_colon : ℕ → Bool
is_no_colon b = not (b == colon)

-- a name, the first colon, and a form of the value
pub record IsValueLine (line : List ℕ) (attr : Attr) : Type 0 where
  pub rest : List ℕ
  pub is : line ≡ attr.name ++ colon ∷ rest
  pub some : 0 < length attr.name
  pub name : list_all is_no_colon attr.name ≡ true
  pub front : begins_with space line ≡ false
  pub value : IsForm rest attr.value

-- the same name without ASCII case
abbrev pub IsSame : List ℕ → List ℕ → Type 0
IsSame a b = lower a ≡ lower b

-- a value line of this name, in any case
pub record IsLineOf (key : List ℕ) (line value : List ℕ) : Type 0 where
  pub name : List ℕ
  pub is : IsValueLine line (record { name = name; value = value })
  pub same : IsSame name key

-- a text less all spaces at its end
pub record IsTrimmed (text trimmed : List ℕ) : Type 0 where
  pub spaces : ℕ
  pub is : text ≡ trimmed ++ replicate spaces space
  pub end : ends_with space trimmed ≡ false

-- a word in any case, and perhaps spaces
pub record IsWord (text word : List ℕ) : Type 0 where
  pub written : List ℕ
  pub trimmed : IsTrimmed text written
  pub same : IsSame written word

-- ---- controls

abbrev pub is_oid_byte : ℕ → Bool
is_oid_byte b = (nat_le 48 b && nat_le b 57) || b == full_stop

-- a space at least and `true` or `false`; or nothing, and the control is not critical
pub record IsCritical (text : List ℕ) (critical : Bool) (rest : List ℕ) : Type 0 where
  pub spaces : ℕ
  pub word : List ℕ
  pub is : text ≡ replicate (suc spaces) space ++ (word ++ rest)
  pub same : IsSame word (if critical then codes "true" else codes "false")

abbrev pub IsCriticality : List ℕ → Bool → List ℕ → Type 0
IsCriticality text critical rest = IsCritical text critical rest ⊎ ((text ≡ rest) × (critical ≡ false))

-- nothing, or a colon with a form of a value
abbrev pub IsControlValue : List ℕ → Option (List ℕ) → Type 0
IsControlValue text None = text ≡ []
IsControlValue text (Some value) = (rest : List ℕ) × (text ≡ colon ∷ rest) × IsForm rest value

-- an OID, perhaps a criticality, spaces, perhaps a value
pub record IsControl (text : List ℕ) (control : Control) : Type 0 where
  pub after : List ℕ
  pub is : text ≡ control.oid ++ after
  pub some : 0 < length control.oid
  pub oid : list_all is_oid_byte control.oid ≡ true
  pub spaces : ℕ
  pub rest : List ℕ
  pub critical : IsCriticality after control.critical (replicate spaces space ++ rest)
  pub value : IsControlValue rest control.value

pub record IsControlLine (line : List ℕ) (control : Control) : Type 0 where
  pub value : List ℕ
  pub says : IsLineOf (codes "control") line value
  pub form : IsControl value control

-- ---- the blocks of a modify

-- `-`, and perhaps spaces
pub record IsDash (line : List ℕ) : Type 0 where
  pub spaces : ℕ
  pub is : line ≡ hyphen ∷ replicate spaces space

abbrev pub op_word : Op → List ℕ
op_word ops.Add = codes "add"
op_word ops.Delete = codes "delete"
op_word ops.Replace = codes "replace"

-- a line of the operation with the attribute's name, and value lines of that name
pub record IsBlock (lines : List (List ℕ)) (change : Mod) : Type 0 where
  pub head : List ℕ
  pub values : List (List ℕ)
  pub is : lines ≡ head ∷ values
  pub text : List ℕ
  pub line : IsLineOf (op_word change.op) head text
  pub attr : IsTrimmed text change.attr
  pub each : IsEach (IsLineOf change.attr) values change.values

-- blocks, with a `-` behind each, which the last may lack
pub record IsMore (Blocks : List (List ℕ) → Type 0) (front lines : List (List ℕ)) : Type 0 where
  pub dash : List ℕ
  pub more : List (List ℕ)
  pub is : lines ≡ front ++ dash ∷ more
  pub ends : IsDash dash
  pub blocks : Blocks more

abbrev pub IsBlocks : List Mod → List (List ℕ) → Type 0
IsBlocks [] lines = lines ≡ []
IsBlocks (m ∷ ms) lines = (front : List (List ℕ)) × IsBlock front m × (((lines ≡ front) × (ms ≡ [])) ⊎ IsMore (IsBlocks ms) front lines)

-- ---- change records

-- perhaps `newsuperior:`
abbrev pub IsNewSuperior : List (List ℕ) → Option (List ℕ) → Type 0
IsNewSuperior lines None = lines ≡ []
IsNewSuperior lines (Some value) = (line : List ℕ) × (lines ≡ line ∷ []) × IsLineOf (codes "newsuperior") line value

abbrev pub flag_word : Bool → List ℕ
flag_word flag = if flag then codes "1" else codes "0"

pub record IsRenaming (dn : List ℕ) (controls : List Control) (lines : List (List ℕ)) (found : Record) : Type 0 where
  pub first : List ℕ
  pub second : List ℕ
  pub more : List (List ℕ)
  pub is : lines ≡ first ∷ second ∷ more
  pub newrdn : List ℕ
  pub newrdn_line : IsLineOf (codes "newrdn") first newrdn
  pub flag : List ℕ
  pub flag_line : IsLineOf (codes "deleteoldrdn") second flag
  pub delete_old : Bool
  pub flag_is : IsWord flag (flag_word delete_old)
  pub new_superior : Option (List ℕ)
  pub superior : IsNewSuperior more new_superior
  pub record_is : found ≡ records.ModRdn dn controls newrdn delete_old new_superior

pub record IsAdd (dn : List ℕ) (controls : List Control) (lines : List (List ℕ)) (found : Record) : Type 0 where
  pub attrs : List Attr
  pub lines_are : IsEach IsValueLine lines attrs
  pub record_is : found ≡ records.Add dn controls attrs

pub record IsDelete (dn : List ℕ) (controls : List Control) (lines : List (List ℕ)) (found : Record) : Type 0 where
  pub none : lines ≡ []
  pub record_is : found ≡ records.Delete dn controls

pub record IsModify (dn : List ℕ) (controls : List Control) (lines : List (List ℕ)) (found : Record) : Type 0 where
  pub mods : List Mod
  pub blocks : IsBlocks mods lines
  pub record_is : found ≡ records.Modify dn controls mods

-- by the word of `changetype:`, and the lines after it
abbrev pub IsChange : List ℕ → List Control → List ℕ → List (List ℕ) → Record → Type 0
IsChange dn controls word lines found =
    (IsWord word (codes "add") × IsAdd dn controls lines found)
    ⊎ ((IsWord word (codes "delete") × IsDelete dn controls lines found)
    ⊎ ((IsWord word (codes "modify") × IsModify dn controls lines found)
    ⊎ ((IsWord word (codes "modrdn") ⊎ IsWord word (codes "moddn")) × IsRenaming dn controls lines found)))

pub record IsTyped (dn : List ℕ) (controls : List Control) (lines : List (List ℕ)) (found : Record) : Type 0 where
  pub line : List ℕ
  pub more : List (List ℕ)
  pub is : lines ≡ line ∷ more
  pub word : List ℕ
  pub word_line : IsLineOf (codes "changetype") line word
  pub change : IsChange dn controls word more found

-- the first of the attributes has another name than a line that says what the record is
abbrev pub BeginsPlain : List Attr → Type 0
BeginsPlain [] = Unit {0}
BeginsPlain (a ∷ more) = (IsSame a.name (codes "control") → ⊥) × (IsSame a.name (codes "changetype") → ⊥)

pub record IsUntyped (dn : List ℕ) (controls : List Control) (lines : List (List ℕ)) (found : Record) : Type 0 where
  pub attrs : List Attr
  pub lines_are : IsEach IsValueLine lines attrs
  pub begins : BeginsPlain attrs
  pub record_is : found ≡ records.Add dn controls attrs

-- what stands after the controls; without `changetype:`, and where that is allowed, the attributes of an entry to add
abbrev pub IsTail : Bool → List ℕ → List Control → List (List ℕ) → Record → Type 0
IsTail add dn controls lines found = IsTyped dn controls lines found ⊎ ((add ≡ true) × IsUntyped dn controls lines found)

pub record IsChanges (add : Bool) (dn : List ℕ) (lines : List (List ℕ)) (found : Record) : Type 0 where
  pub front : List (List ℕ)
  pub rest : List (List ℕ)
  pub is : lines ≡ front ++ rest
  pub controls : List Control
  pub front_is : IsEach IsControlLine front controls
  pub tail : IsTail add dn controls rest found

-- ---- records

abbrev pub IsContentLine : List ℕ → Attr → Type 0
IsContentLine line attr = IsValueLine line attr × (IsSame attr.name (codes "changetype") → ⊥)

pub record IsContent (dn : List ℕ) (lines : List (List ℕ)) (found : Record) : Type 0 where
  pub attrs : List Attr
  pub lines_are : IsEach IsContentLine lines attrs
  pub record_is : found ≡ records.Content dn attrs

abbrev pub IsBody : Mode → List ℕ → List (List ℕ) → Record → Type 0
IsBody Content dn lines found = IsContent dn lines found
IsBody (Changes add) dn lines found = IsChanges add dn lines found

pub record IsEntry (mode : Mode) (lines : List (List ℕ)) (found : Record) : Type 0 where
  pub line : List ℕ
  pub more : List (List ℕ)
  pub is : lines ≡ line ∷ more
  pub dn : List ℕ
  pub dn_line : IsLineOf (codes "dn") line dn
  pub body : IsBody mode dn more found

-- a version line, and then nothing or an entry
pub record IsVersioned (mode : Mode) (lines : List (List ℕ)) (found : Record) : Type 0 where
  pub line : List ℕ
  pub more : List (List ℕ)
  pub is : lines ≡ line ∷ more
  pub version : IsLineOf (codes "version") line (codes "1")
  pub rest : ((more ≡ []) × (found ≡ records.Empty)) ⊎ IsEntry mode more found

-- the record that lines are; first says that it is its text's first
abbrev pub IsRecord : Mode → Bool → List (List ℕ) → Record → Type 0
IsRecord mode false lines found = IsEntry mode lines found
IsRecord mode true lines found = IsVersioned mode lines found ⊎ IsEntry mode lines found
