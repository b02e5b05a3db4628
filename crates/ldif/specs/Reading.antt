-- A record, by the forms that its list of lines may have, or the fault of its earliest line that has one
-- (RFC 2849, "Formal Syntax Definition of LDIF").
use Rattle.std.specs.Prelude.{ℕ, Bool, true, false, if◌then◌else◌, List, [], ◌∷◌, Option, Some, None, Result, Ok, Err, codes}
use Rattle.std.specs.List.{onto_first}
use Rattle.std.specs.Str.{bytes_eq}
use Rattle.ldif.specs.declared.fault.LdifFaultKind.{LdifFaultKind}
use Rattle.ldif.specs.declared.fault.LdifFaultKind.TheVariants.{DnMissing, Version, ColonMissing, ChangetypeUnknown, OtherAttribute, PartMissing, StrayLine, ChangetypeMissing, ChangetypeInContent, Word}
use Rattle.ldif.specs.Attrs.{Attr}
use Rattle.ldif.specs.declared.changes.ChangeType.{ChangeType}
use Rattle.ldif.specs.declared.changes.ChangeType.TheVariants as types
use Rattle.ldif.specs.declared.record.Control.{Control}
use Rattle.ldif.specs.declared.record.Mod.{Mod}
use Rattle.ldif.specs.declared.record.Op.{Op}
use Rattle.ldif.specs.declared.record.Op.TheVariants as ops
use Rattle.ldif.specs.declared.record.Mode.{Mode}
use Rattle.ldif.specs.declared.record.Mode.TheVariants.{Content, Changes}
use Rattle.ldif.specs.declared.record.Record.{Record}
use Rattle.ldif.specs.declared.record.Record.TheVariants as records
use Rattle.base.specs.Answers.{◌>>=◌, each}
use Rattle.base.specs.Ends.{without_end}
use Rattle.ldif.specs.Line.{value_line, same_name, is_word}
use Rattle.ldif.specs.Controls.{control_of}

-- an attribute line of a content record
unfoldable pub content_line : List ℕ → Result Attr LdifFaultKind
content_line line = do
  attr ← value_line line
  if same_name attr.name (codes "changetype") then Err ChangetypeInContent else Ok attr

-- an attribute line of a content record, or of an add
abbrev pub attr_line : Bool → List ℕ → Result Attr LdifFaultKind
attr_line content line = if content then content_line line else value_line line

-- ---- parts of a record: each takes lines from the front, and leaves the rest

-- the value of a line of this keyword
unfoldable pub part : List ℕ → List (List ℕ) → Result (List ℕ × List (List ℕ)) LdifFaultKind
part keyword [] = Err PartMissing
part keyword (l ∷ ls) = do
  attr ← value_line l
  if same_name attr.name keyword then Ok (attr.value, ls) else Err PartMissing

-- no further line
unfoldable pub nothing_more : List (List ℕ) → Result (Unit {0}) LdifFaultKind
nothing_more [] = Ok tt
nothing_more (l ∷ ls) = do
  attr ← value_line l
  Err StrayLine

-- perhaps `newsuperior:`, and no further line
unfoldable pub new_superior_of : List (List ℕ) → Result (Option (List ℕ)) LdifFaultKind
new_superior_of [] = Ok None
new_superior_of (l ∷ ls) = do
  attr ← value_line l
  if same_name attr.name (codes "newsuperior") then (nothing_more ls >>= λ u. Ok (Some attr.value)) else Err StrayLine

unfoldable pub flag_of : List ℕ → Result Bool LdifFaultKind
flag_of text =
    if is_word text (codes "1") then Ok true
    else if is_word text (codes "0") then Ok false
    else Err Word

unfoldable pub delete_old_of : List (List ℕ) → Result (Bool × List (List ℕ)) LdifFaultKind
delete_old_of ls = do
  word ← part (codes "deleteoldrdn") ls
  flag ← flag_of word.0
  Ok (flag, word.1)

-- the `control:` lines at the front
unfoldable pub controls_of : List (List ℕ) → Result (List Control × List (List ℕ)) LdifFaultKind
controls_of [] = Ok ([], [])
controls_of (l ∷ ls) = do
  attr ← value_line l
  if same_name attr.name (codes "control") then (do
    control ← control_of attr.value
    others ← controls_of ls
    Ok (control ∷ others.0, others.1))
      else Ok ([], l ∷ ls)

-- ---- the blocks of a modify

unfoldable pub is_dash : List ℕ → Bool
is_dash line = bytes_eq (without_end line) (codes "-")

-- each block's lines, up to its `-`, which the last may lack
unfoldable pub blocks : List (List ℕ) → List (List (List ℕ))
blocks [] = []
blocks (l ∷ ls) = if is_dash l then [] ∷ blocks ls else onto_first l (blocks ls)

unfoldable pub op_of : List ℕ → Result Op LdifFaultKind
op_of name =
    if same_name name (codes "add") then Ok ops.Add
    else if same_name name (codes "delete") then Ok ops.Delete
    else if same_name name (codes "replace") then Ok ops.Replace
    else Err StrayLine

-- the value of a line of this attribute
unfoldable pub value_under : List ℕ → List ℕ → Result (List ℕ) LdifFaultKind
value_under name line = do
  attr ← value_line line
  if same_name attr.name name then Ok attr.value else Err OtherAttribute

-- a block begins with its operation, so a `-` in that place is a line without a colon
unfoldable pub block : List (List ℕ) → Result Mod LdifFaultKind
block [] = Err ColonMissing
block (l ∷ ls) = do
  head ← value_line l
  op ← op_of head.name
  values ← each (value_under (without_end head.value)) ls
  Ok (record { op = op; attr = without_end head.value; values = values })

-- ---- records

unfoldable pub renaming : List ℕ → List Control → List (List ℕ) → Result Record LdifFaultKind
renaming dn controls ls = do
  newrdn ← part (codes "newrdn") ls
  delete_old ← delete_old_of newrdn.1
  new_superior ← new_superior_of delete_old.1
  Ok (records.ModRdn dn controls newrdn.0 delete_old.0 new_superior)

-- by the word of `changetype:`, and the lines after it
unfoldable pub change : List ℕ → List Control → List ℕ → List (List ℕ) → Result Record LdifFaultKind
change dn controls word ls =
    if is_word word (codes "add") then (each value_line ls >>= λ attrs. Ok (records.Add dn controls attrs))
    else if is_word word (codes "delete") then (nothing_more ls >>= λ u. Ok (records.Delete dn controls))
    else if is_word word (codes "modify") then (each block (blocks ls) >>= λ mods. Ok (records.Modify dn controls mods))
    else if is_word word (codes "modrdn") then renaming dn controls ls
    else if is_word word (codes "moddn") then renaming dn controls ls
    else Err ChangetypeUnknown

-- by the lines after the controls; add says that they may be attribute lines
unfoldable pub after_controls : Bool → List ℕ → List Control → List (List ℕ) → Result Record LdifFaultKind
after_controls add dn controls [] = if add then Ok (records.Add dn controls []) else Err ChangetypeMissing
after_controls add dn controls (l ∷ ls) = do
  attr ← value_line l
  if same_name attr.name (codes "changetype") then change dn controls attr.value ls
      else if add then (each value_line (l ∷ ls) >>= λ attrs. Ok (records.Add dn controls attrs))
      else Err ChangetypeMissing

-- by the lines after `dn:`
unfoldable pub body : Mode → List ℕ → List (List ℕ) → Result Record LdifFaultKind
body Content dn ls = each content_line ls >>= λ attrs. Ok (records.Content dn attrs)
body (Changes add) dn ls = controls_of ls >>= λ c. after_controls add dn c.0 c.1

unfoldable pub entry : Mode → List (List ℕ) → Result Record LdifFaultKind
entry mode [] = Err DnMissing
entry mode (l ∷ ls) = do
  attr ← value_line l
  if same_name attr.name (codes "dn") then body mode attr.value ls else Err DnMissing

unfoldable pub after_version : Mode → List (List ℕ) → Result Record LdifFaultKind
after_version mode [] = Ok records.Empty
after_version mode (l ∷ ls) = entry mode (l ∷ ls)

-- a text's first record, which may begin with `version:`
unfoldable pub first_of_text : Mode → List (List ℕ) → Result Record LdifFaultKind
first_of_text mode [] = Err DnMissing
first_of_text mode (l ∷ ls) = do
  attr ← value_line l
  if same_name attr.name (codes "version") then (if bytes_eq attr.value (codes "1") then after_version mode ls else Err Version)
      else entry mode (l ∷ ls)

-- what a record's lines read as; first says that it is its text's first record
abbrev pub reading : Mode → Bool → List (List ℕ) → Result Record LdifFaultKind
reading mode first ls = if first then first_of_text mode ls else entry mode ls

-- ---- change records by their type

-- the type that a word says
unfoldable pub named_type : List ℕ → Result ChangeType LdifFaultKind
named_type word =
    if is_word word (codes "add") then Ok types.Add
    else if is_word word (codes "delete") then Ok types.Delete
    else if is_word word (codes "modify") then Ok types.Modify
    else if is_word word (codes "modrdn") then Ok types.ModRdn
    else if is_word word (codes "moddn") then Ok types.ModRdn
    else Err ChangetypeUnknown

-- the type, and the lines that follow; where add says so, lines without one are attribute lines
unfoldable pub type_of : Bool → List (List ℕ) → Result (ChangeType × List (List ℕ)) LdifFaultKind
type_of add [] = if add then Ok (types.Add, []) else Err ChangetypeMissing
type_of add (l ∷ ls) = do
  attr ← value_line l
  if same_name attr.name (codes "changetype") then (named_type attr.value >>= λ type. Ok (type, ls))
      else if add then Ok (types.Add, l ∷ ls)
      else Err ChangetypeMissing

-- the record of a type, by the lines that follow
unfoldable pub typed : List ℕ → List Control → ChangeType → List (List ℕ) → Result Record LdifFaultKind
typed dn controls types.Add ls = each value_line ls >>= λ attrs. Ok (records.Add dn controls attrs)
typed dn controls types.Delete ls = nothing_more ls >>= λ u. Ok (records.Delete dn controls)
typed dn controls types.Modify ls = each block (blocks ls) >>= λ mods. Ok (records.Modify dn controls mods)
typed dn controls types.ModRdn ls = renaming dn controls ls
