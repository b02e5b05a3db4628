-- Where a line of a record leads to from its place, or its fault; and whether a record may end there.
use Rattle.std.specs.Prelude.{ℕ, Bool, false, if◌then◌else◌, List, Result, Ok, Err, codes}
use Rattle.std.specs.Str.{bytes_eq}
use Rattle.base.specs.Answers.{◌>>=◌}
use Rattle.base.specs.Ends.{without_end}
use Rattle.ldif.specs.declared.fault.LdifFaultKind.{LdifFaultKind}
use Rattle.ldif.specs.declared.fault.LdifFaultKind.TheVariants.{DnMissing, Version, ChangetypeUnknown, OtherAttribute, PartMissing, StrayLine, ChangetypeMissing, ChangetypeInContent}
use Rattle.ldif.specs.Attrs.{Attr}
use Rattle.ldif.specs.declared.record.Mode.{Mode}
use Rattle.ldif.specs.Line.{value_line, same_name, is_word}
use Rattle.ldif.specs.Controls.{control_of}
use Rattle.ldif.specs.Reading.{flag_of, is_dash, op_of}
use Rattle.ldif.specs.Places.{Place, text_start, after_version, record_start, contents, changes, attributes, block_start, block_values, new_name, delete_old, new_superior, over, body_place}

-- what `dn:` leads to
unfoldable pub dn_told : Mode → Attr → Result Place LdifFaultKind
dn_told mode a = if same_name a.name (codes "dn") then Ok (body_place mode) else Err DnMissing

-- what the word of `changetype:` leads to
unfoldable pub change_told : List ℕ → Result Place LdifFaultKind
change_told w =
    if is_word w (codes "add") then Ok attributes
    else if is_word w (codes "delete") then Ok over
    else if is_word w (codes "modify") then Ok block_start
    else if is_word w (codes "modrdn") then Ok new_name
    else if is_word w (codes "moddn") then Ok new_name
    else Err ChangetypeUnknown

-- what a line of this name and value leads to
unfoldable pub told : Mode → Place → Attr → Result Place LdifFaultKind
told mode text_start a = if same_name a.name (codes "version") then (if bytes_eq a.value (codes "1") then Ok after_version else Err Version) else dn_told mode a
told mode after_version a = dn_told mode a
told mode record_start a = dn_told mode a
told mode contents a = if same_name a.name (codes "changetype") then Err ChangetypeInContent else Ok contents
told mode (changes add) a =
    if same_name a.name (codes "control") then (control_of a.value >>= λ c. Ok (changes add))
    else if same_name a.name (codes "changetype") then change_told a.value
    else if add then Ok attributes
    else Err ChangetypeMissing
told mode attributes a = Ok attributes
told mode block_start a = op_of a.name >>= λ op. Ok (block_values (without_end a.value))
told mode (block_values name) a = if same_name a.name name then Ok (block_values name) else Err OtherAttribute
told mode new_name a = if same_name a.name (codes "newrdn") then Ok delete_old else Err PartMissing
told mode delete_old a = if same_name a.name (codes "deleteoldrdn") then (flag_of a.value >>= λ f. Ok new_superior) else Err PartMissing
told mode new_superior a = if same_name a.name (codes "newsuperior") then Ok over else Err StrayLine
told mode over a = Err StrayLine

-- whether a line ends a block, at a place where it may
abbrev pub ends_block : Place → List ℕ → Bool
ends_block (block_values name) l = is_dash l
ends_block _ l = false

-- what a line leads to
unfoldable pub step : Mode → Place → List ℕ → Result Place LdifFaultKind
step mode p l = if ends_block p l then Ok block_start else (value_line l >>= told mode p)

abbrev pub Done : Type 0
Done = Result (Unit {0}) LdifFaultKind

-- whether the lines may end at a place
unfoldable pub finish : Place → Done
finish text_start = Err DnMissing
finish after_version = Ok tt
finish record_start = Err DnMissing
finish contents = Ok tt
finish (changes add) = if add then Ok tt else Err ChangetypeMissing
finish attributes = Ok tt
finish block_start = Ok tt
finish (block_values name) = Ok tt
finish new_name = Err PartMissing
finish delete_old = Err PartMissing
finish new_superior = Ok tt
finish over = Ok tt
