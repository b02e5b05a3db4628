-- Which rules and syntaxes are known.
use Rattle.std.proofs.Common.{◌≡◌, ◌||◌, Bool, true, false, if◌then◌else◌, Some, None, is_some, refl}
use Rattle.matching.specs.declared.family.Family.TheVariants as families
use Rattle.matching.specs.declared.syntax.Syntax.TheVariants as syntaxes
use Rattle.values.specs.declared.types.TypeSyntax.TheVariants as type_syntaxes
use Rattle.values.specs.declared.types.EqualityRule.TheVariants as rules
use Rattle.dir_conf.specs.RuleNames.{plain_rule, or_else}

-- one test after another, of eleven
pub equality_known : (d a b c e n t i o p q : Bool) → (d || (a || (b || (c || (e || (n || (t || (i || (o || (p || (q || false)))))))))))
    ≡ is_some (if d then Some rules.Name else plain_rule (or_else
    (if a || b then Some families.Ignore else (if c || e then Some families.Exact else (if n then Some families.Numeric else (if t then Some families.Telephone else None))))
    (if i then Some families.Integer else (if o then Some families.Boolean else (if p then Some families.Octet else (if q then Some families.Oid else None))))))
equality_known true a b c e n t i o p q = refl
equality_known false true b c e n t i o p q = refl
equality_known false false true c e n t i o p q = refl
equality_known false false false true e n t i o p q = refl
equality_known false false false false true n t i o p q = refl
equality_known false false false false false true t i o p q = refl
equality_known false false false false false false true i o p q = refl
equality_known false false false false false false false true o p q = refl
equality_known false false false false false false false false true p q = refl
equality_known false false false false false false false false false true q = refl
equality_known false false false false false false false false false false true = refl
equality_known false false false false false false false false false false false = refl

-- of five
pub ordering_known : (a b c d e : Bool) → (a || (b || (c || (d || (e || false)))))
    ≡ is_some (if a then Some families.Ignore else (if b then Some families.Exact else (if c then Some families.Numeric else (if d then Some families.Integer else (if e then Some families.Octet else None)))))
ordering_known true b c d e = refl
ordering_known false true c d e = refl
ordering_known false false true d e = refl
ordering_known false false false true e = refl
ordering_known false false false false true = refl
ordering_known false false false false false = refl

-- of six
pub substrings_known : (a b c d e f : Bool) → (a || (b || (c || (d || (e || (f || false))))))
    ≡ is_some (if a || b then Some families.Ignore else (if c || d then Some families.Exact else (if e then Some families.Numeric else (if f then Some families.Telephone else None))))
substrings_known true b c d e f = refl
substrings_known false true c d e f = refl
substrings_known false false true d e f = refl
substrings_known false false false true e f = refl
substrings_known false false false false true f = refl
substrings_known false false false false false true = refl
substrings_known false false false false false false = refl

-- of eleven, where none is true; the last is Octet String
pub octets_else : (a b c d e f g h i j k : Bool) → (a || (b || (c || (d || (e || (f || (g || (h || (i || (j || (k || false))))))))))) ≡ false
    → (if a || (b || (c || d)) then type_syntaxes.Plain syntaxes.Text
    else (if e then type_syntaxes.Plain syntaxes.Ascii
    else (if f then type_syntaxes.Plain syntaxes.Numeric
    else (if g then type_syntaxes.Plain syntaxes.Boolean
    else (if h then type_syntaxes.Plain syntaxes.Integer
    else (if i then type_syntaxes.Name
    else (if j then type_syntaxes.Plain syntaxes.Oid else type_syntaxes.Plain syntaxes.Octet))))))) ≡ type_syntaxes.Plain syntaxes.Octet
octets_else true b c d e f g h i j k none = absurd cc
octets_else false true c d e f g h i j k none = absurd cc
octets_else false false true d e f g h i j k none = absurd cc
octets_else false false false true e f g h i j k none = absurd cc
octets_else false false false false true f g h i j k none = absurd cc
octets_else false false false false false true g h i j k none = absurd cc
octets_else false false false false false false true h i j k none = absurd cc
octets_else false false false false false false false true i j k none = absurd cc
octets_else false false false false false false false false true j k none = absurd cc
octets_else false false false false false false false false false true k none = absurd cc
octets_else false false false false false false false false false false k none = refl
