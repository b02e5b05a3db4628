-- The number and the text of each fault.
use Rattle.std.specs.Prelude.{ℕ, List, ◌++◌, codes}
use Rattle.std.specs.Fmt.{decimal}
use Rattle.ldif.specs.declared.fault.LdifFaultKind.{LdifFaultKind}
use Rattle.ldif.specs.declared.fault.LdifFaultKind.TheVariants.{DnMissing, Continuation, Version, Base64, Url, ColonMissing, ChangetypeUnknown, OtherAttribute, PartMissing, StrayLine, ChangetypeMissing, ChangetypeInContent, Word}

abbrev pub fault_number : LdifFaultKind → ℕ
fault_number DnMissing = 1
fault_number Continuation = 2
fault_number Version = 3
fault_number Base64 = 4
fault_number Url = 5
fault_number ColonMissing = 6
fault_number ChangetypeUnknown = 7
fault_number OtherAttribute = 8
fault_number PartMissing = 9
fault_number StrayLine = 10
fault_number ChangetypeMissing = 11
fault_number ChangetypeInContent = 12
fault_number Word = 13

abbrev pub fault_text : LdifFaultKind → List ℕ
fault_text DnMissing = codes "dn line missing"
fault_text Continuation = codes "continuation without a line"
fault_text Version = codes "version"
fault_text Base64 = codes "base64"
fault_text Url = codes "url value"
fault_text ColonMissing = codes "colon missing"
fault_text ChangetypeUnknown = codes "changetype unknown"
fault_text OtherAttribute = codes "attribute of another name"
fault_text PartMissing = codes "part missing"
fault_text StrayLine = codes "stray line"
fault_text ChangetypeMissing = codes "changetype missing"
fault_text ChangetypeInContent = codes "changetype in content"
fault_text Word = codes "word"

-- as it is reported: its number behind an `L`, and its text
abbrev pub fault_report : LdifFaultKind → List ℕ
fault_report f = codes "L" ++ (decimal (fault_number f) ++ (codes " " ++ fault_text f))
