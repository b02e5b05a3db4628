-- The faults of the text of a dir.conf: each as it is where the lines that were found at fault before it are comments.
use Rattle.std.specs.Prelude.{◌≡◌, ◌<◌, ◌-◌, ℕ, zero, suc, Bool, true, false, ◌==◌, List, [], ◌∷◌, ◌++◌, count_by, is_some, if◌then◌else◌, Ok, Err, codes}
use Rattle.std.specs.List.{flat_map}
use Rattle.std.specs.Option.{option_map_or}
use Rattle.std.specs.Fmt.{decimal}
use Rattle.base.specs.Ascii.{line_feed, number_sign}
use Rattle.schema.specs.Conf.{Conf}
use Rattle.dir_conf.specs.Configurations.{conf_of}
use Rattle.dir_conf.specs.ConfFaults.{At, kind_report}
use Rattle.checks.specs.declared.conf_faults.ConfLineFault.{ConfLineFault}
use Rattle.checks.specs.declared.conf_faults.FoundFault.{FoundFault}
use Rattle.checks.specs.Reports.{report}

-- a text with a number sign for the first byte of one of its lines, which has so many before it: a comment, with the lines that it goes on on
unfoldable pub commented : ℕ → List ℕ → List ℕ
commented n [] = []
commented zero (b ∷ bs) = number_sign ∷ bs
commented (suc n) (b ∷ bs) = b ∷ commented (if b == line_feed then n else suc n) bs

-- so many are found at most
abbrev pub most_faults : ℕ
most_faults = 2000

-- These are the first faults of a text, at most so many, and whether there are more: where there are none, it says a configuration, and else it has
-- one more. Behind a line that is missing, with number 0, there is none.
unfoldable pub AreFirstFaults : ℕ → List ℕ → List ConfLineFault → Bool → Type 0
AreFirstFaults n text [] false = (conf : Conf) × (conf_of text ≡ Ok conf)
AreFirstFaults n text [] true = (n ≡ 0) × ((next : At) × (conf_of text ≡ Err next))
AreFirstFaults n text (f ∷ others) more =
    (0 < n) × ((conf_of text ≡ Err (f.line, f.kind))
    × ((f.line ≡ 0 → (others ≡ []) × (more ≡ false)) × (0 < f.line → AreFirstFaults (n - 1) (commented (f.line - 1) text) others more)))

-- as `line 214: C4 unknown name`
abbrev pub fault_text : ConfLineFault → List ℕ
fault_text f = codes "line " ++ (decimal f.line ++ (codes ": " ++ kind_report f.kind))

-- with `faulty` and `dir.conf` before it
abbrev pub fault_report : ConfLineFault → List ℕ
fault_report f = report (codes "faulty") (codes "dir.conf") (fault_text f)

-- whether it is left out, and counts with this line
abbrev pub counts_with : ℕ → FoundFault → Bool
counts_with line f = option_map_or (λ at. at == line) f.counted_with false

abbrev pub lines_left_out : ℕ → List ℕ
lines_left_out n = if n == 1 then codes "1 line that needs it is left out" else decimal n ++ codes " lines that need it are left out"

-- as `line 214: 3 lines that need it are left out`
abbrev pub note_text : ℕ → ℕ → List ℕ
note_text line n = codes "line " ++ (decimal line ++ (codes ": " ++ lines_left_out n))

-- with `note` and `dir.conf` before it, if there are some
abbrev pub note_report : ℕ → ℕ → List ℕ
note_report line n = if n == 0 then [] else report (codes "note") (codes "dir.conf") (note_text line n)

-- nothing of one that is left out; of any other it, and how many of all count with it
abbrev pub found_report : List FoundFault → FoundFault → List ℕ
found_report all f = if is_some f.counted_with then [] else fault_report f.fault ++ note_report f.fault.line (count_by (counts_with f.fault.line) all)

-- that there are more than those that are found
abbrev pub more_text : List ℕ
more_text = codes "more faults: the first " ++ (decimal most_faults ++ codes " are told or left out")

abbrev pub more_report : Bool → List ℕ
more_report false = []
more_report true = report (codes "faulty") (codes "dir.conf") more_text

-- in the order in which they are found
abbrev pub fault_reports : List FoundFault → Bool → List ℕ
fault_reports found more = flat_map (found_report found) found ++ more_report more
