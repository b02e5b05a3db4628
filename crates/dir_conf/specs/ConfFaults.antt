-- How the faults of a configuration are reported.
use Rattle.std.specs.Prelude.{ℕ, List, ◌++◌, codes}
use Rattle.std.specs.Fmt.{decimal}
use Rattle.dir_conf.specs.declared.conf_fault.ConfFaultKind.{ConfFaultKind}
use Rattle.dir_conf.specs.declared.conf_fault.ConfFaultKind.TheVariants.{Keyword, Form, Twice, UnknownName, Subtype, RuleSyntax, Suffix, Index, Collective, TooManyTypes}

-- a line's number and its kind of fault
abbrev pub At : Type 0
At = ℕ × ConfFaultKind

abbrev pub kind_number : ConfFaultKind → ℕ
kind_number Keyword = 1
kind_number Form = 2
kind_number Twice = 3
kind_number UnknownName = 4
kind_number Subtype = 5
kind_number RuleSyntax = 6
kind_number Suffix = 7
kind_number Index = 8
kind_number Collective = 9
kind_number TooManyTypes = 10

abbrev pub kind_text : ConfFaultKind → List ℕ
kind_text Keyword = codes "keyword"
kind_text Form = codes "form"
kind_text Twice = codes "twice"
kind_text UnknownName = codes "unknown name"
kind_text Subtype = codes "subtype"
kind_text RuleSyntax = codes "rule needs another syntax"
kind_text Suffix = codes "suffix"
kind_text Index = codes "index"
kind_text Collective = codes "collective"
kind_text TooManyTypes = codes "too many types"

-- as it is reported: its number and its words
abbrev pub kind_report : ConfFaultKind → List ℕ
kind_report k = codes "C" ++ (decimal (kind_number k) ++ (codes " " ++ kind_text k))
