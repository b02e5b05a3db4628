-- Worked examples of names as values under another suffix, by computation: objectClass=top becomes x=new.
use Rattle.std.proofs.Common.{◌≡◌, ℕ, List, [], ◌∷◌, Result, Ok, Err, refl}
use Rattle.std.specs.Prelude.{⊤, codes}
use Rattle.std.specs.Str.{is_utf8, chars}
use lib.Utf8.{encode}
use Rattle.matching.specs.Forms.{norm}
use Rattle.matching.specs.Syntaxes.{is_valid}
use Rattle.base.specs.Answers.{each}
use Rattle.dn.specs.Reading.{octets_from, trimmed, value_of, ava_at, ava_of, cut_raw, rdn_of, name_of}
use Rattle.values.specs.Types.{type_of}
use Rattle.schema.specs.declared.code.Code.{Code}
use Rattle.schema.specs.declared.code.Code.TheVariants.{InvalidDnSyntax, NamingViolation}
use Rattle.schema.specs.Names.{name_in}
use Rattle.schema.specs.Rdns.{TypedRdn, avas_from, rdns_from, put_pair, key_from, rdn_key_of}
use Rattle.schema.specs.Values.{rdns_in}
use Rattle.schema.specs.Conf.{below, place_of, located}
use Rattle.schema.proofs.Examples.{conf, step}
use Rattle.suffixes.specs.Configurations.{suffix_in}
use Rattle.suffixes.specs.MovedValues.{is_suffix, has_rdns, is_cut, front_before, moved_value}

unfoldable reads : ⊤
unfolding suffix_in rdns_in is_suffix has_rdns is_cut front_before moved_value located place_of name_in avas_from rdns_from below name_of cut_raw each rdn_of ava_of ava_at value_of octets_from trimmed type_of rdn_key_of key_from put_pair norm is_valid is_utf8 chars encode
reads = tt

abbrev moved : List ℕ → List ℕ
moved text = moved_value conf (codes "x=new") text

-- in another spelling; what stands before the comma stays
below_the_suffix : moved (codes "X = Bob , 2.5.4.0=TOP") ≡ codes "X = Bob ,x=new"
unfolding reads
below_the_suffix = refl

the_suffix_itself : moved (codes " OBJECTCLASS = top") ≡ codes "x=new"
unfolding reads
the_suffix_itself = refl

-- an escaped comma separates no RDNs
an_escaped_comma : moved (codes "x=a\\,objectClass=top,objectClass=top") ≡ codes "x=a\\,objectClass=top,x=new"
unfolding reads
an_escaped_comma = refl

ends_so_in_a_value : moved (codes "x=a\\,objectClass=top") ≡ codes "x=a\\,objectClass=top"
unfolding reads
ends_so_in_a_value = refl

another_directory : moved (codes "x=a,objectClass=person") ≡ codes "x=a,objectClass=person"
unfolding reads
another_directory = refl

no_name : moved (codes "top") ≡ codes "top"
unfolding reads
no_name = refl

-- ---- what a suffix can be

abbrev refused : Code → Result (List TypedRdn) Code
refused code = Err code

two_rdns : suffix_in conf.types (codes "x=a, 1.3=b") ≡ Ok (step 1 (codes "a") ∷ step 2 (codes "b") ∷ [])
unfolding reads
two_rdns = refl

the_empty_name : suffix_in conf.types [] ≡ refused InvalidDnSyntax
unfolding reads
the_empty_name = refl

a_type_without_rule : suffix_in conf.types (codes "n=1") ≡ refused NamingViolation
unfolding reads
a_type_without_rule = refl
