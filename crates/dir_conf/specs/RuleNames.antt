-- The syntaxes and matching rules that are known, by their OIDs and names (RFC 4517, 3.3 and 4.2).
use Rattle.std.specs.Prelude.{ℕ, Bool, ◌||◌, if◌then◌else◌, List, ◌++◌, Option, Some, None, codes}
use Rattle.std.specs.Str.{bytes_eq, str_eq_ignore_ascii_case}
use Rattle.matching.specs.declared.family.Family.{Family}
use Rattle.matching.specs.declared.family.Family.TheVariants as families
use Rattle.values.specs.declared.types.TypeSyntax.{TypeSyntax}
use Rattle.values.specs.declared.types.TypeSyntax.TheVariants as type_syntaxes
use Rattle.values.specs.declared.types.EqualityRule.{EqualityRule}
use Rattle.values.specs.declared.types.EqualityRule.TheVariants as rules
use Rattle.matching.specs.declared.syntax.Syntax.TheVariants as syntaxes

-- below 1.3.6.1.4.1.1466.115.121.1
abbrev pub numbered : List ℕ → List ℕ
numbered number = codes "1.3.6.1.4.1.1466.115.121.1." ++ number

abbrev pub is_number : List ℕ → List ℕ → Bool
is_number number oid = bytes_eq oid (numbered number)

abbrev pub is_text_syntax : List ℕ → Bool
is_text_syntax oid = is_number (codes "11") oid || (is_number (codes "15") oid || (is_number (codes "44") oid || is_number (codes "50") oid))

-- any other syntax takes any bytes
unfoldable pub syntax_of : List ℕ → TypeSyntax
syntax_of oid =
    if is_text_syntax oid then type_syntaxes.Plain syntaxes.Text
    else (if is_number (codes "26") oid then type_syntaxes.Plain syntaxes.Ascii
    else (if is_number (codes "36") oid then type_syntaxes.Plain syntaxes.Numeric
    else (if is_number (codes "7") oid then type_syntaxes.Plain syntaxes.Boolean
    else (if is_number (codes "27") oid then type_syntaxes.Plain syntaxes.Integer
    else (if is_number (codes "12") oid then type_syntaxes.Name
    else (if is_number (codes "38") oid then type_syntaxes.Plain syntaxes.Oid else type_syntaxes.Plain syntaxes.Octet))))))

-- ---- rules, in any case

abbrev pub is_rule : List ℕ → List ℕ → Bool
is_rule known name = str_eq_ignore_ascii_case name known

unfoldable pub text_equality_of : List ℕ → Option Family
text_equality_of name =
    if is_rule (codes "caseIgnoreMatch") name || is_rule (codes "caseIgnoreIA5Match") name then Some families.Ignore
    else (if is_rule (codes "caseExactMatch") name || is_rule (codes "caseExactIA5Match") name then Some families.Exact
    else (if is_rule (codes "numericStringMatch") name then Some families.Numeric
    else (if is_rule (codes "telephoneNumberMatch") name then Some families.Telephone else None)))

unfoldable pub other_equality_of : List ℕ → Option Family
other_equality_of name =
    if is_rule (codes "integerMatch") name then Some families.Integer
    else (if is_rule (codes "booleanMatch") name then Some families.Boolean
    else (if is_rule (codes "octetStringMatch") name then Some families.Octet
    else (if is_rule (codes "objectIdentifierMatch") name then Some families.Oid else None)))

abbrev pub or_else : {X : Type 0} → Option X → Option X → Option X
or_else None other = other
or_else (Some x) other = Some x

abbrev pub plain_rule : Option Family → Option EqualityRule
plain_rule None = None
plain_rule (Some family) = Some (rules.Plain family)

-- an equality rule; one that isn't known counts as none
unfoldable pub equality_of : List ℕ → Option EqualityRule
equality_of name =
    if is_rule (codes "distinguishedNameMatch") name then Some rules.Name
    else plain_rule (or_else (text_equality_of name) (other_equality_of name))

unfoldable pub ordering_of : List ℕ → Option Family
ordering_of name =
    if is_rule (codes "caseIgnoreOrderingMatch") name then Some families.Ignore
    else (if is_rule (codes "caseExactOrderingMatch") name then Some families.Exact
    else (if is_rule (codes "numericStringOrderingMatch") name then Some families.Numeric
    else (if is_rule (codes "integerOrderingMatch") name then Some families.Integer
    else (if is_rule (codes "octetStringOrderingMatch") name then Some families.Octet else None))))

unfoldable pub substrings_of : List ℕ → Option Family
substrings_of name =
    if is_rule (codes "caseIgnoreSubstringsMatch") name || is_rule (codes "caseIgnoreIA5SubstringsMatch") name then Some families.Ignore
    else (if is_rule (codes "caseExactSubstringsMatch") name || is_rule (codes "caseExactIA5SubstringsMatch") name then Some families.Exact
    else (if is_rule (codes "numericStringSubstringsMatch") name then Some families.Numeric
    else (if is_rule (codes "telephoneNumberSubstringsMatch") name then Some families.Telephone else None)))
