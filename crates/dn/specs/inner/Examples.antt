-- The definitions at a dozen texts, worked out by hand.
use Rattle.std.specs.Prelude.{◌≡◌, ℕ, List, [], ◌∷◌, Result, Ok, Err, codes, refl}
use Rattle.dn.specs.declared.faults.NameFaultKind.{NameFaultKind}
use Rattle.dn.specs.declared.faults.NameFaultKind.TheVariants.{EqualsMissing, Escape, NotEscaped, TypeMissing, FormNotSupported}
use Rattle.dn.specs.Names.{Name}
use Rattle.base.specs.Answers.{each}
use Rattle.dn.specs.Reading.{octets_from, trimmed, value_of, ava_at, ava_of, cut_raw, rdn_of, name_of}
use Rattle.dn.specs.Writing.{written, text_from, text_of}

abbrev Read : Type 0
Read = Result Name NameFaultKind

abbrev one : List ℕ → List ℕ → Name
one ty value = ((ty, value) ∷ []) ∷ []

abbrev is : Name → Read
is n = Ok n

abbrev faults : NameFaultKind → Read
faults f = Err f

-- spaces alone
nothing : name_of (codes "  ") ≡ is []
unfolding name_of cut_raw each rdn_of ava_of ava_at value_of octets_from trimmed
nothing = refl

-- two RDNs, and spaces wherever they may stand
two : name_of (codes " cn = a b , dc=ex ") ≡ is (((codes "cn", codes "a b") ∷ []) ∷ ((codes "dc", codes "ex") ∷ []) ∷ [])
unfolding name_of cut_raw each rdn_of ava_of ava_at value_of octets_from trimmed
two = refl

-- two AVAs
avas : name_of (codes "cn=a+sn=b") ≡ is (((codes "cn", codes "a") ∷ (codes "sn", codes "b") ∷ []) ∷ [])
unfolding name_of cut_raw each rdn_of ava_of ava_at value_of octets_from trimmed
avas = refl

-- an escaped comma, and a pair of digits
escaped : name_of (codes "cn=a\\,b\\2B") ≡ is (one (codes "cn") (codes "a,b+"))
unfolding name_of cut_raw each rdn_of ava_of ava_at value_of octets_from trimmed
escaped = refl

-- a value that is one escaped space, and a raw one behind it
space : name_of (codes "cn=\\  ") ≡ is (one (codes "cn") (codes " "))
unfolding name_of cut_raw each rdn_of ava_of ava_at value_of octets_from trimmed
space = refl

-- each fault
no_equals : name_of (codes "cn=a,") ≡ faults EqualsMissing
unfolding name_of cut_raw each rdn_of ava_of ava_at value_of octets_from trimmed
no_equals = refl

bad_escape : name_of (codes "cn=\\4,dc") ≡ faults Escape
unfolding name_of cut_raw each rdn_of ava_of ava_at value_of octets_from trimmed
bad_escape = refl

raw : name_of (codes "cn=a<b;c") ≡ faults NotEscaped
unfolding name_of cut_raw each rdn_of ava_of ava_at value_of octets_from trimmed
raw = refl

no_type : name_of (codes " =a") ≡ faults TypeMissing
unfolding name_of cut_raw each rdn_of ava_of ava_at value_of octets_from trimmed
no_type = refl

semicolon : name_of (codes "cn=a;dc=b") ≡ faults FormNotSupported
unfolding name_of cut_raw each rdn_of ava_of ava_at value_of octets_from trimmed
semicolon = refl

hexadecimal : name_of (codes "cn= #04") ≡ faults FormNotSupported
unfolding name_of cut_raw each rdn_of ava_of ava_at value_of octets_from trimmed
hexadecimal = refl

-- writing
ends : text_of (one (codes "cn") (codes " a ")) ≡ codes "cn=\\ a\\ "
unfolding text_of text_from written
ends = refl

sign : text_of (one (codes "cn") (codes "#a#")) ≡ codes "cn=\\#a#"
unfolding text_of text_from written
sign = refl

accent : text_of (one (codes "cn") (195 ∷ 169 ∷ [])) ≡ codes "cn=\\C3\\A9"
unfolding text_of text_from written
accent = refl

joined : text_of (((codes "cn", codes "a,b") ∷ (codes "sn", []) ∷ []) ∷ ((codes "dc", codes "ex") ∷ []) ∷ []) ≡ codes "cn=a\\,b+sn=,dc=ex"
unfolding text_of text_from written
joined = refl
