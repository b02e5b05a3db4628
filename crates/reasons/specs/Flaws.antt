-- What may be wrong with a record, check by check in the order in which they are made (RFC 4511, 4.1.11 and 4.6 to 4.9), and the code of each.
use Rattle.std.specs.Prelude.{◌≡◌, ◌≢◌, ℕ, suc, ◌≤◌, true, false, List, [], ◌∷◌, ◌++◌, map, take, Option, Some, None, Result, Ok}
use Rattle.std.specs.List.{AllByRecursion, Any, slice_get}
use Rattle.std.specs.FinMap as finite
use Rattle.ldif.specs.Attrs.{Attr}
use Rattle.ldif.specs.declared.record.Control.{Control}
use Rattle.ldif.specs.declared.record.Mod.{Mod}
use Rattle.ldif.specs.declared.record.Mode.{Mode}
use Rattle.ldif.specs.declared.record.Record.{Record}
use Rattle.ldif.specs.declared.record.Record.TheVariants as records
use Rattle.paths.specs.Paths.{Path, parent_of, is_root, begins}
use Rattle.schema.specs.declared.code.Code.{Code}
use Rattle.schema.specs.declared.code.Code.TheVariants.{AdminLimitExceeded, UnavailableCriticalExtension, NoSuchObject, UnwillingToPerform, NotAllowedOnNonLeaf, NotAllowedOnRdn, EntryAlreadyExists}
use Rattle.schema.specs.Conf.{Conf}
use Rattle.schema.specs.Rdns.{Ava}
use Rattle.schema.specs.FirstFlaws.{Not, IsFirstFlaw}
use Rattle.entries.specs.Entries.{Attributes, EntryContent, values_of, has_equal}
use Rattle.tree.specs.Directories.{Entries}
use Rattle.tree.specs.Trees.{has_child}
use Rattle.tree.specs.Changes.{Change}
use Rattle.tree.specs.Operations.{controls_of}
use Rattle.reasons.specs.Asked.{name_of_record, lines_of_record, blocks_of_record, rdn_of_record, superior_of_record, IsAt, IsAbout, ComesBelow, ComesTo, IsToBe, AsksFor}
use Rattle.reasons.specs.NameFlaws.{NameFlaw, HasNameFlaw, name_flaw_code, place_checks, new_rdn_checks}
use Rattle.reasons.specs.LineFlaws as lines
use Rattle.reasons.specs.LineFlaws.{LineFlaw, HasLineFlaw, line_flaw_code}
use Rattle.reasons.specs.BlockFlaws as blocks
use Rattle.reasons.specs.BlockFlaws.{BlockFlaw, ValueFlaw, HasBlockFlaw, HasValueFlaw, modified, block_flaw_code, value_flaw_code, block_order}
use Rattle.reasons.specs.EntryFlaws.{EntryFlaw, HasEntryFlaw, entry_flaw_code, entry_order}

-- ---- what may be wrong

-- what a check finds
pub data Flaw : Type 0 where
  -- a control is critical
  CriticalControl : Flaw
  -- its name has a flaw
  Name : NameFlaw → Flaw
  -- an entry has the name
  IsThere : Flaw
  -- no entry has the name that is left without its first RDN
  NoParent : Flaw
  -- no entry has the name
  NoEntry : Flaw
  -- entries stand below it
  HasChildren : Flaw
  -- the line with this index has a flaw
  Line : (line : ℕ) → LineFlaw → Flaw
  -- the block with this index has a flaw
  Block : (block : ℕ) → BlockFlaw → Flaw
  -- the value with the second index, of the block with the first, has a flaw
  Value : (block value : ℕ) → ValueFlaw → Flaw
  -- a value of the entry's RDN is to go
  NoRdnValue : Flaw
  -- it is the suffix's own entry
  IsSuffix : Flaw
  -- its new RDN has a flaw
  NewRdn : NameFlaw → Flaw
  -- the name of its new superior has a flaw
  Superior : NameFlaw → Flaw
  -- it is to come below itself, or below an entry that is below it
  BelowItself : Flaw
  -- no entry is where its new superior is to be, or its parent where it names none
  NoSuperior : Flaw
  -- another entry has the new name
  IsTaken : Flaw
  -- the entry as a whole has a flaw
  Entry : EntryFlaw → Flaw
  -- the directory has as many entries as it can
  Full : Flaw

-- the block of a modify with this index, and the attributes that those before it make
pub record IsBlock (conf : Conf) (d : Entries) (r : Record) (index : ℕ) (m : Mod) (before : Attributes) : Type 0 where
  pub entry : EntryContent
  pub about : IsAbout conf d r entry
  pub block : slice_get (blocks_of_record r) index ≡ Some m
  pub before_is : before ≡ modified conf.types entry.attrs (take index (blocks_of_record r))

-- no value of its type equals that of this AVA
abbrev pub IsMissing : Conf → Attributes → Ava → Type 0
IsMissing conf attrs p = has_equal conf.types p.0 p.1 (values_of attrs p.0) ≡ false

-- whether a record has a flaw
abbrev pub HasFlaw : Conf → Mode → Entries → Record → Flaw → Type 0
HasFlaw conf mode d r CriticalControl = Any (λ (c : Control). c.critical ≡ true) (controls_of r)
HasFlaw conf mode d r (Name f) = HasNameFlaw conf (name_of_record r) f
HasFlaw conf mode d r IsThere = (path : Path) × IsAt conf r path × (finite.contains_key d path ≡ true)
HasFlaw conf mode d r NoParent = (path : Path) × IsAt conf r path × (is_root path ≡ false) × (finite.contains_key d (parent_of path) ≡ false)
HasFlaw conf mode d r NoEntry = (path : Path) × IsAt conf r path × (finite.contains_key d path ≡ false)
HasFlaw conf mode d r HasChildren = (path : Path) × IsAt conf r path × (has_child d path ≡ true)
HasFlaw conf mode d r (Line i f) = HasLineFlaw conf mode (lines_of_record r) i f
HasFlaw conf mode d r (Block b f) = (m : Mod) × (before : Attributes) × IsBlock conf d r b m before × HasBlockFlaw conf.types before m f
HasFlaw conf mode d r (Value b i f) = (m : Mod) × (before : Attributes) × IsBlock conf d r b m before × HasValueFlaw conf.types before m i f
HasFlaw conf mode d r NoRdnValue = (e : EntryContent) × IsToBe conf d r e × Any (IsMissing conf e.attrs) e.rdn
HasFlaw conf mode d r IsSuffix = (path : Path) × IsAt conf r path × (is_root path ≡ true)
HasFlaw conf mode d r (NewRdn f) = HasNameFlaw conf (rdn_of_record r) f
HasFlaw conf mode d r (Superior f) = (text : List ℕ) × (superior_of_record r ≡ Some text) × HasNameFlaw conf text f
HasFlaw conf mode d r BelowItself =
    (path : Path) × IsAt conf r path × (upper : Path) × ComesBelow conf (superior_of_record r) path upper × (begins path upper ≡ true)
HasFlaw conf mode d r NoSuperior =
    (path : Path) × IsAt conf r path × (upper : Path) × ComesBelow conf (superior_of_record r) path upper
    × (finite.contains_key d upper ≡ false)
HasFlaw conf mode d r IsTaken =
    (path : Path) × IsAt conf r path × (to : Path) × ComesTo conf r path to × (to ≢ path) × (finite.contains_key d to ≡ true)
HasFlaw conf mode d r (Entry f) = (e : EntryContent) × IsToBe conf d r e × HasEntryFlaw conf e.attrs f
HasFlaw conf mode d r Full = 4294967295 ≤ finite.len d

-- the code of each
abbrev pub flaw_code : Flaw → Code
flaw_code CriticalControl = UnavailableCriticalExtension
flaw_code (Name f) = name_flaw_code f
flaw_code IsThere = EntryAlreadyExists
flaw_code NoParent = NoSuchObject
flaw_code NoEntry = NoSuchObject
flaw_code HasChildren = NotAllowedOnNonLeaf
flaw_code (Line i f) = line_flaw_code f
flaw_code (Block b f) = block_flaw_code f
flaw_code (Value b i f) = value_flaw_code f
flaw_code NoRdnValue = NotAllowedOnRdn
flaw_code IsSuffix = UnwillingToPerform
flaw_code (NewRdn f) = name_flaw_code f
flaw_code (Superior f) = name_flaw_code f
flaw_code BelowItself = UnwillingToPerform
flaw_code NoSuperior = NoSuchObject
flaw_code IsTaken = EntryAlreadyExists
flaw_code (Entry f) = entry_flaw_code f
flaw_code Full = AdminLimitExceeded

-- ---- the checks of each operation, in order

-- of the lines from this one on
abbrev pub line_checks : ℕ → List Attr → List Flaw
line_checks i [] = []
line_checks i (l ∷ ls) =
    Line i lines.UnknownType ∷ Line i lines.UsersCantChange ∷ Line i lines.BadSyntax ∷ Line i lines.EqualValue ∷ line_checks (suc i) ls

-- of a block's values from this one on
abbrev pub value_checks : ℕ → ℕ → List (List ℕ) → List Flaw
value_checks b i [] = []
value_checks b i (v ∷ vs) =
    Value b i blocks.BadSyntax ∷ Value b i blocks.EqualValue ∷ Value b i blocks.NoValue ∷ value_checks b (suc i) vs

-- of the blocks from this one on
abbrev pub block_checks : ℕ → List Mod → List Flaw
block_checks b [] = []
block_checks b (m ∷ ms) = map (Block b) block_order ++ (value_checks b 0 m.values ++ block_checks (suc b) ms)

-- of the entry as a whole, in the end
abbrev pub entry_checks : List Flaw
entry_checks = map Entry entry_order

-- of an add (RFC 4511, 4.7)
abbrev pub add_checks : List Attr → List Flaw
add_checks ls = IsThere ∷ NoParent ∷ (line_checks 0 ls ++ (entry_checks ++ Full ∷ []))

-- of a delete (RFC 4511, 4.8)
abbrev pub delete_checks : List Flaw
delete_checks = NoEntry ∷ HasChildren ∷ []

-- of a modify (RFC 4511, 4.6)
abbrev pub modify_checks : List Mod → List Flaw
modify_checks ms = NoEntry ∷ (block_checks 0 ms ++ NoRdnValue ∷ entry_checks)

-- of the name of a new superior, if there is one
abbrev pub superior_checks : Option (List ℕ) → List Flaw
superior_checks None = []
superior_checks (Some text) = map Superior (place_checks text)

-- of a modify DN (RFC 4511, 4.9)
abbrev pub rename_checks : List ℕ → Option (List ℕ) → List Flaw
rename_checks newrdn superior =
    NoEntry ∷ IsSuffix ∷ (map NewRdn (new_rdn_checks newrdn) ++ (superior_checks superior ++ BelowItself ∷ NoSuperior ∷ IsTaken ∷ entry_checks))

-- each operation begins with its controls and its name
abbrev pub with_name_checks : List ℕ → List Flaw → List Flaw
with_name_checks dn checks = CriticalControl ∷ (map Name (place_checks dn) ++ checks)

-- of a record
abbrev pub checks_of : Record → List Flaw
checks_of records.Empty = []
checks_of (records.Content dn attrs) = with_name_checks dn (add_checks attrs)
checks_of (records.Add dn controls attrs) = with_name_checks dn (add_checks attrs)
checks_of (records.Delete dn controls) = with_name_checks dn delete_checks
checks_of (records.Modify dn controls mods) = with_name_checks dn (modify_checks mods)
checks_of (records.ModRdn dn controls newrdn delete_old new_superior) = with_name_checks dn (rename_checks newrdn new_superior)

-- ---- what is answered

-- the first flaw of a record
abbrev pub IsFirst : Conf → Mode → Entries → Record → Flaw → Type 0
IsFirst conf mode d r flaw = IsFirstFlaw Flaw (HasFlaw conf mode d r) (checks_of r) flaw

-- a code that its first flaw has
pub record IsRefused (conf : Conf) (mode : Mode) (d : Entries) (r : Record) (code : Code) : Type 0 where
  pub flaw : Flaw
  pub first : IsFirst conf mode d r flaw
  pub code_is : code ≡ flaw_code flaw

-- it has none
abbrev pub IsFlawless : Conf → Mode → Entries → Record → Type 0
IsFlawless conf mode d r = AllByRecursion (λ flaw. Not (HasFlaw conf mode d r flaw)) (checks_of r)

-- it has none, and asks for this change
pub record IsGranted (conf : Conf) (mode : Mode) (d : Entries) (r : Record) (change : Change) : Type 0 where
  pub flawless : IsFlawless conf mode d r
  pub asked : AsksFor conf d r change

-- a change comes of it
abbrev pub IsAllowed : Result Change Code → Type 0
IsAllowed answer = (change : Change) × (answer ≡ Ok change)
