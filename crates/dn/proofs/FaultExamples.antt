-- Where the faults of some texts stand, worked out by hand.
use Rattle.std.proofs.Common.{◌≡◌, ℕ, true, false, List, [], ◌∷◌, ◌++◌, inl, inr, refl}
use Rattle.std.specs.Prelude.{codes}
use Rattle.std.specs.List.{list_all}
use Rattle.dn.specs.Spelling.{Octet}
use Rattle.dn.specs.declared.faults.NameFaultKind.{NameFaultKind}
use Rattle.dn.specs.declared.faults.NameFaultKind.TheVariants.{EqualsMissing, Escape, NotEscaped, TypeMissing, FormNotSupported}
use Rattle.base.specs.Ends.{is_space}
use Rattle.dn.specs.NameFaults.{Stops, is_separator, is_quote_or_sign, IsTyped, IsValued, IsBegun, IsAvaFault, IsNameFault}

abbrev raw : ℕ → Octet
raw b = record { raw = true; byte = b }

abbrev by_escape : ℕ → Octet
by_escape b = record { raw = false; byte = b }

-- in the first AVA
first : (text : List ℕ) (f : NameFaultKind) → list_all is_space text ≡ false → IsAvaFault text f → IsNameFault text f
first text f some h = record { avas = []; front = []; rest = text; text_is = refl; front_is = refl; rest_is = h; some = some }

-- `cn=a`, a separator, and then an AVA
second : (s : ℕ) (text : List ℕ) (f : NameFaultKind) → is_separator s ≡ true → IsAvaFault text f → IsNameFault (codes "cn=a" ++ s ∷ text) f
second s text f sep h = record {
  avas = (codes "cn", codes "a") ∷ [];
  front = codes "cn=a" ++ s ∷ [];
  rest = text;
  text_is = refl;
  front_is = (codes "cn=a", s, [], record { before = 0; between = 0; after = 0; behind = 0; octets = raw 97 ∷ []; body = codes "a"; text_is = refl; type_is = refl; body_is = (codes "a", [], (refl, refl), refl, refl); begins = refl; ends = refl; value_is = refl }, sep, refl, refl);
  rest_is = h;
  some = refl;
}

-- `cn`, and then
cn : (rest : List ℕ) → Stops is_space rest → IsTyped (codes "cn=" ++ rest) (codes "cn") (61 ∷ rest)
cn rest h = record { before = 0; between = 0; from = codes "cn=" ++ rest; after = 61 ∷ rest; text_is = refl; no_space = refl; from_is = refl; type_is = refl; longest = refl; after_is = refl; no_space_more = refl }

cn_value : (value : List ℕ) → Stops is_space value → IsValued (codes "cn=" ++ value) value
cn_value value h = record { ty = codes "cn"; rest = value; after = 0; typed = cn value h; type_is = refl; rest_is = refl; no_space = h }

-- `cn=`, and at once
at_once : (bad : List ℕ) → Stops is_space bad → Stops is_quote_or_sign bad → IsBegun (codes "cn=" ++ bad) bad
at_once bad h k = record { value = bad; valued = cn_value bad h; form = k; octets = []; body = []; value_is = refl; body_is = refl }

-- `cn=a`, and then
after_a : (bad : List ℕ) → IsBegun (codes "cn=a" ++ bad) bad
after_a bad = record { value = 97 ∷ bad; valued = cn_value (97 ∷ bad) refl; form = refl; octets = raw 97 ∷ []; body = codes "a"; value_is = refl; body_is = (codes "a", [], (refl, refl), refl, refl) }

-- an empty AVA at the end, behind a comma and behind a plus sign
comma_at_end : IsNameFault (codes "cn=a,") EqualsMissing
comma_at_end = second 44 [] EqualsMissing refl ([], [], record { before = 0; between = 0; from = []; after = []; text_is = refl; no_space = tt; from_is = refl; type_is = refl; longest = tt; after_is = refl; no_space_more = tt }, tt)

plus_at_end : IsNameFault (codes "cn=a+ ") EqualsMissing
plus_at_end = second 43 (codes " ") EqualsMissing refl ([], [], record { before = 1; between = 0; from = []; after = []; text_is = refl; no_space = tt; from_is = refl; type_is = refl; longest = tt; after_is = refl; no_space_more = tt }, tt)

-- an empty AVA at the front
comma_at_front : IsNameFault (codes ",cn=a") EqualsMissing
comma_at_front = first (codes ",cn=a") EqualsMissing refl ([], codes ",cn=a", record { before = 0; between = 0; from = codes ",cn=a"; after = codes ",cn=a"; text_is = refl; no_space = refl; from_is = refl; type_is = refl; longest = refl; after_is = refl; no_space_more = refl }, refl)

-- two words before the equals sign
two_words : IsNameFault (codes " c n=a") EqualsMissing
two_words = first (codes " c n=a") EqualsMissing refl (codes "c", codes "n=a", record { before = 1; between = 1; from = codes "c n=a"; after = codes " n=a"; text_is = refl; no_space = refl; from_is = refl; type_is = refl; longest = refl; after_is = refl; no_space_more = refl }, refl)

-- an equals sign and no type
no_type : IsNameFault (codes " =a") TypeMissing
no_type = first (codes " =a") TypeMissing refl (codes "a", record { before = 1; between = 0; from = codes "=a"; after = codes "=a"; text_is = refl; no_space = refl; from_is = refl; type_is = refl; longest = refl; after_is = refl; no_space_more = refl })

-- half a pair of digits before a comma; a backslash at the end; a letter behind one
half_a_pair : IsNameFault (codes "cn=\\4,dc=b") Escape
half_a_pair = first (codes "cn=\\4,dc=b") Escape refl (codes "4,dc=b", at_once (codes "\\4,dc=b") refl refl, refl)

backslash_at_end : IsNameFault (codes "cn=a\\") Escape
backslash_at_end = first (codes "cn=a\\") Escape refl ([], after_a (codes "\\"), refl)

escaped_letter : IsNameFault (codes "cn=a,cn=\\x") Escape
escaped_letter = second 44 (codes "cn=\\x") Escape refl (codes "x", at_once (codes "\\x") refl refl, refl)

-- a raw `<`, before a `;`; a quotation mark in a value
angle : IsNameFault (codes "cn=a<b;c") NotEscaped
angle = first (codes "cn=a<b;c") NotEscaped refl (60, codes "b;c", after_a (codes "<b;c"), refl)

quote_inside : IsNameFault (codes "cn=a\"") NotEscaped
quote_inside = first (codes "cn=a\"") NotEscaped refl (34, [], after_a (codes "\""), refl)

-- a quotation mark at its front; the form `#`; a `;`
quote_in_front : IsNameFault (codes "cn=\"a\"") FormNotSupported
quote_in_front = first (codes "cn=\"a\"") FormNotSupported refl (inl (codes "\"a\"", cn_value (codes "\"a\"") refl, refl))

sign_in_front : IsNameFault (codes "cn=#04") FormNotSupported
sign_in_front = first (codes "cn=#04") FormNotSupported refl (inl (codes "#04", cn_value (codes "#04") refl, refl))

semicolon : IsNameFault (codes "cn=a;dc=b") FormNotSupported
semicolon = first (codes "cn=a;dc=b") FormNotSupported refl (inr (codes "dc=b", after_a (codes ";dc=b")))

-- and two that have none of it
spaces_alone : (f : NameFaultKind) → IsNameFault (codes "  ") f → ⊥
spaces_alone f h = never h.some
  where
    never : true ≡ false → ⊥
    never e = cc
