-- Worked examples of names as values, by computation.
use Rattle.std.proofs.Common.{◌≡◌, true, false, List, [], ◌∷◌, ◌++◌, refl}
use Rattle.std.specs.Prelude.{⊤, codes, Some}
use Rattle.std.specs.Str.{is_utf8, chars}
use lib.Utf8.{encode}
use Rattle.matching.specs.Forms.{norm}
use Rattle.matching.specs.Syntaxes.{is_valid}
use Rattle.base.specs.Answers.{each}
use Rattle.dn.specs.Reading.{octets_from, trimmed, value_of, ava_at, ava_of, cut_raw, rdn_of, name_of}
use Rattle.dn.specs.Writing.{written, text_from, text_of}
use Rattle.values.specs.declared.types.AttributeType.{AttributeType}
use Rattle.values.specs.declared.types.TypeSyntax.TheVariants as type_syntaxes
use Rattle.values.specs.declared.types.EqualityRule.TheVariants as rules
use Rattle.values.specs.Types.{type_of}
use Rattle.schema.specs.Names.{name_in}
use Rattle.schema.specs.Rdns.{avas_from, rdns_from, put_pair, key_from, rdn_key_of}
use Rattle.schema.specs.Values.{rdns_in, normal_text, normal_name, is_valid_at, norm_at, are_equal}
use Rattle.schema.proofs.Examples.{conf, type_with}

-- number 3 has DN syntax and no rule, number 6 compares names
abbrev types : List AttributeType
types = conf.types ++ type_with (codes "1.7") (codes "m") type_syntaxes.Name (Some rules.Name) ∷ []

unfoldable reads : ⊤
unfolding rdns_in normal_text normal_name is_valid_at norm_at name_in avas_from rdns_from name_of cut_raw each rdn_of ava_of ava_at value_of octets_from trimmed type_of rdn_key_of key_from put_pair norm is_valid is_utf8 chars encode text_of text_from written
reads = tt

-- types in lower case by their first names, normal values escaped as names are written, no spaces between
a_normal_name : norm_at types 6 (codes " X = Big  Bob , 1.3=A\\2Cb ") ≡ codes "x=big bob,y=A\\,b"
unfolding reads
a_normal_name = refl

-- the AVAs of an RDN by the numbers of their types, RDNs as they stand
avas_by_type : norm_at types 6 (codes "y=B+x=A,x=c") ≡ codes "x=a+y=B,x=c"
unfolding reads
avas_by_type = refl

the_empty_name_is_one : is_valid_at types 6 [] ≡ true
unfolding reads
the_empty_name_is_one = refl

equal_names : are_equal types 6 (codes "x=BOB") (codes "1.2=bob") ≡ true
unfolding reads
equal_names = refl

-- without an equality rule bytes are compared
no_rule : are_equal types 3 (codes "x=BOB") (codes "x=bob") ≡ false
unfolding reads
no_rule = refl

-- ---- no values of DN syntax

unknown_type : is_valid_at types 3 (codes "z=a") ≡ false
unfolding reads
unknown_type = refl

a_name_in_a_name : is_valid_at types 6 (codes "m=x") ≡ false
unfolding reads
a_name_in_a_name = refl

an_ava_without_rule : is_valid_at types 6 (codes "n=1") ≡ false
unfolding reads
an_ava_without_rule = refl

no_number : is_valid_at types 6 (codes "i=a") ≡ false
unfolding reads
no_number = refl

a_type_twice : is_valid_at types 6 (codes "x=a+1.2=b") ≡ false
unfolding reads
a_type_twice = refl

no_name : is_valid_at types 6 (codes "bob") ≡ false
unfolding reads
no_name = refl

not_utf8 : is_valid_at types 6 (120 ∷ 61 ∷ 255 ∷ []) ≡ false
unfolding reads
not_utf8 = refl
