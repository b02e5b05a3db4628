-- Why lines are no record: the place that they lead to, and what stands there (RFC 2849, "Formal Syntax Definition of LDIF").
use Rattle.std.specs.Prelude.{◌≡◌, ℕ, ◌<◌, Bool, true, false, ◌⊎◌, List, [], ◌∷◌, ◌++◌, length, replicate, codes}
use Rattle.std.specs.List.{list_all}
use Rattle.base.specs.Ascii.{space, colon, less_than_sign}
use Rattle.ldif.specs.declared.fault.LdifFaultKind.{LdifFaultKind}
use Rattle.ldif.specs.declared.fault.LdifFaultKind.TheVariants.{DnMissing, Version, Base64, Url, ChangetypeUnknown, OtherAttribute, PartMissing, StrayLine, ChangetypeMissing, ChangetypeInContent, Word}
use Rattle.ldif.specs.declared.fault.LdifFault.{LdifFault}
use Rattle.ldif.specs.declared.fault.LdifFault.TheVariants as errors
use Rattle.ldif.specs.Attrs.{Attr}
use Rattle.ldif.specs.declared.record.Op.{Op}
use Rattle.ldif.specs.declared.record.Mode.{Mode}
use Rattle.ldif.specs.Forms.{IsCoded, IsValueLine, IsSame, IsWord, is_oid_byte, IsCriticality, IsDash, op_word, flag_word}
use Rattle.ldif.specs.LineFaults.{IsLineFault}
use Rattle.ldif.specs.Places.{Place, text_start, after_version, record_start, contents, changes, attributes, block_start, block_values, new_name, delete_old, new_superior, over, start, IsPlain, IsWay}

abbrev pub Not : Type 0 → Type 0
Not P = P → ⊥

abbrev pub IsNamed : Attr → List ℕ → Type 0
IsNamed attr key = IsSame attr.name key

-- ---- the value of `control:`

-- an OID, perhaps a criticality, spaces, and then this
pub record IsControlFront (text rest : List ℕ) : Type 0 where
  pub oid : List ℕ
  pub after : List ℕ
  pub critical : Bool
  pub spaces : ℕ
  pub is : text ≡ oid ++ after
  pub some : 0 < length oid
  pub digits : list_all is_oid_byte oid ≡ true
  pub criticality : IsCriticality after critical (replicate spaces space ++ rest)

-- behind its front stands neither nothing nor a colon; or `:<` does; or `::` does, and no base64 behind it
abbrev pub IsControlFault : List ℕ → LdifFaultKind → Type 0
IsControlFault text fault =
    ((fault ≡ Word) × Not (IsControlFront text []) × ((form : List ℕ) → Not (IsControlFront text (colon ∷ form))))
    ⊎ (((fault ≡ Url) × (form : List ℕ) × IsControlFront text (colon ∷ less_than_sign ∷ form))
    ⊎ ((fault ≡ Base64) × (form : List ℕ) × IsControlFront text (colon ∷ colon ∷ form) × ((value : List ℕ) → Not (IsCoded (colon ∷ form) value))))

-- ---- a line

-- none of the five words
abbrev pub IsNoChange : List ℕ → Type 0
IsNoChange word =
    Not (IsWord word (codes "add")) × Not (IsWord word (codes "delete")) × Not (IsWord word (codes "modify")) × Not (IsWord word (codes "modrdn")) × Not (IsWord word (codes "moddn"))

-- the fault of a value line that may not stand at a place
abbrev pub IsMisplaced : Place → Attr → LdifFaultKind → Type 0
IsMisplaced text_start attr fault =
    ((fault ≡ Version) × IsNamed attr (codes "version") × Not (attr.value ≡ codes "1"))
    ⊎ ((fault ≡ DnMissing) × Not (IsNamed attr (codes "version")) × Not (IsNamed attr (codes "dn")))
IsMisplaced after_version attr fault = (fault ≡ DnMissing) × Not (IsNamed attr (codes "dn"))
IsMisplaced record_start attr fault = (fault ≡ DnMissing) × Not (IsNamed attr (codes "dn"))
IsMisplaced contents attr fault = (fault ≡ ChangetypeInContent) × IsNamed attr (codes "changetype")
IsMisplaced (changes add) attr fault =
    (IsNamed attr (codes "control") × IsControlFault attr.value fault)
    ⊎ (((fault ≡ ChangetypeUnknown) × IsNamed attr (codes "changetype") × IsNoChange attr.value)
    ⊎ ((fault ≡ ChangetypeMissing) × IsPlain attr × (add ≡ false)))
IsMisplaced attributes attr fault = ⊥
IsMisplaced block_start attr fault = (fault ≡ StrayLine) × ((op : Op) → Not (IsNamed attr (op_word op)))
IsMisplaced (block_values name) attr fault = (fault ≡ OtherAttribute) × Not (IsNamed attr name)
IsMisplaced new_name attr fault = (fault ≡ PartMissing) × Not (IsNamed attr (codes "newrdn"))
IsMisplaced delete_old attr fault =
    ((fault ≡ PartMissing) × Not (IsNamed attr (codes "deleteoldrdn")))
    ⊎ ((fault ≡ Word) × IsNamed attr (codes "deleteoldrdn") × ((flag : Bool) → Not (IsWord attr.value (flag_word flag))))
IsMisplaced new_superior attr fault = (fault ≡ StrayLine) × Not (IsNamed attr (codes "newsuperior"))
IsMisplaced over attr fault = fault ≡ StrayLine

-- whether a line is one that ends a block, at a place where it may
abbrev pub EndsBlock : Place → List ℕ → Type 0
EndsBlock (block_values name) line = IsDash line
EndsBlock _ line = ⊥

-- The fault of a line at a place: the one that it has by itself, or else the one that its place gives it.
abbrev pub IsFaultHere : Place → List ℕ → LdifFaultKind → Type 0
IsFaultHere place line fault = (IsLineFault line fault × Not (EndsBlock place line)) ⊎ ((attr : Attr) × IsValueLine line attr × IsMisplaced place attr fault)

-- the fault of lines that end where more is due
abbrev pub IsUnfinished : Place → LdifFaultKind → Type 0
IsUnfinished text_start fault = fault ≡ DnMissing
IsUnfinished record_start fault = fault ≡ DnMissing
IsUnfinished (changes add) fault = (fault ≡ ChangetypeMissing) × (add ≡ false)
IsUnfinished new_name fault = fault ≡ PartMissing
IsUnfinished delete_old fault = fault ≡ PartMissing
IsUnfinished _ fault = ⊥

-- ---- the lines of a record

-- lines that lead to a place, and then a line with this fault
pub record IsBrokenAt (mode : Mode) (from : Place) (lines : List (List ℕ)) (fault : LdifFaultKind) : Type 0 where
  pub front : List (List ℕ)
  pub bad : List ℕ
  pub rest : List (List ℕ)
  pub is : lines ≡ front ++ bad ∷ rest
  pub place : Place
  pub way : IsWay mode from front place
  pub here : IsFaultHere place bad fault

-- or all of them lead to a place where more is due
abbrev pub IsBroken : Mode → Place → List (List ℕ) → LdifFaultKind → Type 0
IsBroken mode from lines fault = IsBrokenAt mode from lines fault ⊎ ((place : Place) × IsWay mode from lines place × IsUnfinished place fault)

-- the fault for which lines are no record; first says that it would be its text's first
abbrev pub IsRecordFault : Mode → Bool → List (List ℕ) → LdifFaultKind → Type 0
IsRecordFault mode first lines fault = IsBroken mode (start first) lines fault

-- why a call read no record of lines
abbrev pub IsWhy : Mode → Bool → List (List ℕ) → LdifFault → Type 0
IsWhy mode first lines errors.OutOfMemory = Unit {0}
IsWhy mode first lines (errors.Fault fault) = IsRecordFault mode first lines fault
