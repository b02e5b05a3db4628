-- Words by hand: filters with `%` that are patterns for the lines of a file, and widths.
use Rattle.std.proofs.Common.{◌≡◌, ◌∙◌, ap, arith, codes, drop, inl, inr, refl, sym}
use Rattle.std.specs.List.{slice_index}
use Rattle.std.specs.Str.Parse.{digits_value}
use Rattle.command_line.specs.Requests.{IsFaultyPattern, IsWidthOf, SaysWidth}
use Rattle.command_line.proofs.Patterns.{alone, another, no_percent}

-- one `%s`, and no other `%`
one_mark : ¬ (IsFaultyPattern (codes "(cn=%s)"))
one_mark = alone (codes "(cn=%s)") (omega arith) refl refl

-- none at all: it is searched for each line as it is
no_mark : ¬ (IsFaultyPattern (codes "(cn=a)"))
no_mark = no_percent (codes "(cn=a)") refl

-- a `%` that is spelled as `\25`
spelled : ¬ (IsFaultyPattern (codes "(cn=%s\\25)"))
spelled = alone (codes "(cn=%s\\25)") (omega arith) refl refl

-- only the first `%s` stands for the line
two_marks : IsFaultyPattern (codes "(|(cn=%s)(sn=%s))")
two_marks = another (codes "(|(cn=%s)(sn=%s))") (omega arith) refl refl

-- a `%` before anything but `s`
other_letter : IsFaultyPattern (codes "(cn=100%)")
other_letter = (7, refl, λ first. let bad : 41 ≡ 115 = first.0.1 in cc)

-- two `%` in a row: the first of them is no `%s`
doubled : IsFaultyPattern (codes "(cn=%%s)")
doubled = (4, refl, λ first. let bad : 37 ≡ 115 = first.0.1 in cc)

-- ---- the width that a word says

twenty : IsWidthOf (codes "ldif-wrap=20") 20
twenty = inl (20, (codes "20", refl, ((omega arith, (omega arith, (omega arith, tt))), omega arith), refl, λ is. absurd (omega (arith, is))), refl)

standard : IsWidthOf (codes "ldif-wrap=0") 76
standard = inl (0, (codes "0", refl, ((omega arith, (omega arith, tt)), omega arith), refl, λ is. absurd (omega (arith, is))), refl)

-- a space and a byte don't fit into one byte
one : ¬ (SaysWidth (codes "ldif-wrap=1"))
one (inl (number, (digits, is, numeral, value, other))) = other (value ∙ ap (digits_value 10) (sym (ap (drop 10) is)))
one (inr never) = let clash : 49 ≡ 110 = ap (λ word. slice_index word 10) never in absurd (omega (arith, clash))

-- another option of OpenLDAP's tools
other_option : ¬ (SaysWidth (codes "nettimeout=5"))
other_option (inl (number, (digits, is, numeral, value, other))) = let clash : 110 ≡ 108 = ap (λ word. slice_index word 0) is in absurd (omega (arith, clash))
other_option (inr never) = let clash : 110 ≡ 108 = ap (λ word. slice_index word 0) never in absurd (omega (arith, clash))
