-- Worked examples of what is reported, by computation.
use Rattle.std.proofs.Common.{◌≡◌, [], ◌∷◌, true, false, Some, None, refl}
use Rattle.std.specs.Prelude.{codes}
use Rattle.checks.specs.TypeNames.{each_once}
use Rattle.checks.specs.Reports.{report, lines_behind, refused_reports}
use Rattle.checks.specs.ConfFaults.{commented}
use Rattle.checks.specs.NearNames.{are_near, nearest}
use Rattle.checks.specs.Warnings.{equality_rules}
use Rattle.checks.specs.IndexDifferences.{is_before, first_difference, difference_of}

-- ---- lines of a dir.conf that are made comments

first_line : commented 0 (codes "bogus\nsuffix") ≡ codes "#ogus\nsuffix"
unfolding commented
first_line = refl

-- the line that it goes on on stays, and so belongs to the comment
with_another : commented 1 (codes "suffix\nbogus\n more\nindex\n") ≡ codes "suffix\n#ogus\n more\nindex\n"
unfolding commented
with_another = refl

-- a last line without a line feed, after an empty one
last_line : commented 2 (codes "a\n\nb") ≡ codes "a\n\n#"
unfolding commented
last_line = refl

-- of a line that isn't there nothing comes
no_line : commented 3 (codes "a\nb\n") ≡ codes "a\nb\n"
unfolding commented
no_line = refl

-- ---- lines

three_fields : report (codes "faulty") (codes "index.txt") (codes "I2 stale") ≡ codes "faulty\tindex.txt\tI2 stale\n"
three_fields = refl

two_refused : refused_reports (codes "data.ldif") (codes "line 1: 32 noSuchObject\nline 9: L4 base64\n")
    ≡ codes "refused\tdata.ldif\tline 1: 32 noSuchObject\nrefused\tdata.ldif\tline 9: L4 base64\n"
unfolding lines_behind
two_refused = refl

none_refused : refused_reports (codes "data.ldif") [] ≡ []
unfolding lines_behind
none_refused = refl

-- what would end a line or a field is written as in a name
other_file : refused_reports (codes "a\tb\nc\u{7f}.ldif") (codes "line 1: L3 version\n") ≡ codes "refused\ta\\09b\\0Ac\\7F.ldif\tline 1: L3 version\n"
unfolding lines_behind
other_file = refl

-- ---- types that are named

named_twice : each_once (2 ∷ 3 ∷ 2 ∷ 1 ∷ 3 ∷ []) ≡ 2 ∷ 3 ∷ 1 ∷ []
named_twice = refl

-- ---- names that differ by one letter

letter_missing : are_near (codes "caseIgnoreMatch") (codes "caseIgnoreMach") ≡ true
unfolding are_near
letter_missing = refl

letter_more : are_near (codes "caseIgnoreMatch") (codes "CaseIgnoreMatchs") ≡ true
unfolding are_near
letter_more = refl

other_letter : are_near (codes "caseIgnoreMatch") (codes "caseignorematsh") ≡ true
unfolding are_near
other_letter = refl

two_swapped : are_near (codes "integerMatch") (codes "intgeerMatch") ≡ false
unfolding are_near
two_swapped = refl

two_missing : are_near (codes "integerMatch") (codes "integrMath") ≡ false
unfolding are_near
two_missing = refl

nearest_rule : nearest equality_rules (codes "booleanMtch") ≡ Some (codes "booleanMatch")
unfolding nearest are_near
nearest_rule = refl

no_near_rule : nearest equality_rules (codes "2.5.13.2") ≡ None
unfolding nearest are_near
no_near_rule = refl

-- ---- where two index texts first differ

other_members : difference_of (codes "slapindex\nslot cn eq\n61 1\nend\n") (codes "slapindex\nslot cn eq\n61 2\nend\n") ≡ codes "slot cn eq, key 61"
unfolding first_difference is_before
other_members = refl

-- of a key that stands in one of them, before the other's
key_missing : difference_of (codes "x\nslot cn eq\n62 1\nend\n") (codes "x\nslot cn eq\n61 1\n62 1\nend\n") ≡ codes "slot cn eq, key 61"
unfolding first_difference is_before
key_missing = refl

-- the last key of a slot, where the other text has none
key_too_many : difference_of (codes "x\nslot cn eq\n61 1\nslot cn pres\n") (codes "x\nslot cn eq\nslot cn pres\n") ≡ codes "slot cn eq, key 61"
unfolding first_difference is_before
key_too_many = refl

empty_key : difference_of (codes "x\nslot cn pres\n- 1 2\nend\n") (codes "x\nslot cn pres\n- 1\nend\n") ≡ codes "slot cn pres, key -"
unfolding first_difference is_before
empty_key = refl
