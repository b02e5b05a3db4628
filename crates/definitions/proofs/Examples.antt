-- Worked examples, by computation (RFC 4512, 4.1.1 and 4.1.2).
use Rattle.std.proofs.Common.{◌≡◌, ℕ, false, true, List, [], ◌∷◌, Option, Some, None, refl}
use Rattle.std.specs.Prelude.{⊤, codes}
use Rattle.definitions.specs.declared.type_field.Usage.TheVariants as usages
use Rattle.definitions.specs.declared.type_definition.TypeDefinition.{TypeDefinition}
use Rattle.base.specs.declared.class_kind.ClassKind.TheVariants as kinds
use Rattle.definitions.specs.declared.class_definition.ClassDefinition.{ClassDefinition}
use Rattle.base.specs.Naming.{are_groups}
use Rattle.definitions.specs.Words.{word_at, sign_at, quoted_at, plain_or_quoted_at, plain_or_named_at}
use Rattle.definitions.specs.Texts.{to_close, quoted_texts_at, names_to_close, names_at}
use Rattle.definitions.specs.Elements.{element_field, with_element_field, fields_to_end, head_at}
use Rattle.definitions.specs.TypeFields.{reference_of, flag_of, usage_of, syntax_oid, referred_at, other_field, field_at}
use Rattle.definitions.specs.TypeDefinitions.{with_flag, with_reference, with_field, type_definition_of}
use Rattle.definitions.specs.ClassDefinitions as classes
use Rattle.definitions.specs.ClassDefinitions.{list_of, kind_of, with_list, class_definition_of}

-- what a definition is read by
unfoldable reads : ⊤
unfolding are_groups word_at sign_at quoted_at plain_or_quoted_at plain_or_named_at to_close quoted_texts_at names_to_close names_at element_field with_element_field fields_to_end head_at reference_of flag_of usage_of syntax_oid referred_at other_field field_at with_flag with_reference with_field type_definition_of list_of kind_of with_list classes.field_at classes.with_field class_definition_of
reads = tt

abbrev text_of : List ℕ → Option (List ℕ)
text_of text = Some text

-- a type of which nothing is said but its OID and the OID of its syntax
abbrev plain : TypeDefinition
plain =
    record {
      element = record { oid = codes "1.2"; names = []; is_described = false; is_obsolete = false; extensions = [] };
      superior = None;
      equality = None;
      ordering = None;
      substrings = None;
      syntax = text_of (codes "1.3");
      is_single_value = false;
      is_collective = false;
      is_fixed = false;
      usage = None;
    }

abbrev no_type : Option TypeDefinition
no_type = None

the_least : type_definition_of (codes "( 1.2 SYNTAX 1.3 )") ≡ Some plain
unfolding reads
the_least = refl

every_field : type_definition_of (codes "( 1.2 NAME 'a' DESC 'd' OBSOLETE SUP b EQUALITY c ORDERING e SUBSTR f SYNTAX 1.3 SINGLE-VALUE COLLECTIVE NO-USER-MODIFICATION USAGE dSAOperation X-G 'h' )")
    ≡ Some (record {
      element = record { oid = codes "1.2"; names = codes "a" ∷ []; is_described = true; is_obsolete = true; extensions = codes "X-G" ∷ [] };
      superior = text_of (codes "b");
      equality = text_of (codes "c");
      ordering = text_of (codes "e");
      substrings = text_of (codes "f");
      syntax = text_of (codes "1.3");
      is_single_value = true;
      is_collective = true;
      is_fixed = true;
      usage = Some usages.DsaOperation;
    })
unfolding reads
every_field = refl

abbrev plain_with : List (List ℕ) → TypeDefinition
plain_with names = record plain { element = record { oid = codes "1.2"; names = names; is_described = false; is_obsolete = false; extensions = [] } }

-- in another order, and words in another case
any_order : type_definition_of (codes "( 1.2 usage USERapplications Syntax 1.3 name 'a' )") ≡ Some (record (plain_with (codes "a" ∷ [])) { usage = Some usages.UserApplications })
unfolding reads
any_order = refl

some_names : type_definition_of (codes "( 1.2 NAME ( 'a' 'b-1' ) SYNTAX 1.3 )") ≡ Some (plain_with (codes "a" ∷ codes "b-1" ∷ []))
unfolding reads
some_names = refl

-- a word ends only at a blank, a quote or a sign: this OID would be `1.2NAME`
without_blanks : type_definition_of (codes "(1.2NAME'x'SYNTAX 1.3)") ≡ no_type
unfolding reads
without_blanks = refl

few_blanks : type_definition_of (codes "(1.2 NAME'x'SYNTAX 1.3)") ≡ Some (plain_with (codes "x" ∷ []))
unfolding reads
few_blanks = refl

quoted_superior : type_definition_of (codes "( 1.2 SUP 'b' )") ≡ Some (record plain { superior = text_of (codes "b"); syntax = None })
unfolding reads
quoted_superior = refl

-- the length of a syntax isn't kept
with_length : type_definition_of (codes "( 1.2 SYNTAX 1.3{64} )") ≡ Some plain
unfolding reads
with_length = refl

quoted_length : type_definition_of (codes "( 1.2 SYNTAX '1.3{64}' )") ≡ Some plain
unfolding reads
quoted_length = refl

blanks_behind : type_definition_of (codes "  ( 1.2 SYNTAX 1.3 )  ") ≡ Some plain
unfolding reads
blanks_behind = refl

-- ---- texts that are no attribute type

no_names : type_definition_of (codes "( 1.2 NAME ( ) SYNTAX 1.3 )") ≡ no_type
unfolding reads
no_names = refl

no_quoted_superior : type_definition_of (codes "( 1.2 SUP '' )") ≡ no_type
unfolding reads
no_quoted_superior = refl

-- in quotes a rule is a name or an OID; bare it is any word
quoted_blank : type_definition_of (codes "( 1.2 EQUALITY 'a b' SYNTAX 1.3 )") ≡ no_type
unfolding reads
quoted_blank = refl

bare_digits : type_definition_of (codes "( 1.2 EQUALITY 1x SYNTAX 1.3 )") ≡ Some (record plain { equality = text_of (codes "1x") })
unfolding reads
bare_digits = refl

dollar_in_names : type_definition_of (codes "( 1.2 NAME ( 'a' $ 'b' ) SYNTAX 1.3 )") ≡ no_type
unfolding reads
dollar_in_names = refl

bare_name : type_definition_of (codes "( 1.2 NAME a SYNTAX 1.3 )") ≡ no_type
unfolding reads
bare_name = refl

-- a word that begins another kind of line in LDIF
reserved_name : type_definition_of (codes "( 1.2 NAME 'DN' SYNTAX 1.3 )") ≡ no_type
unfolding reads
reserved_name = refl

no_letter_first : type_definition_of (codes "( 1.2 NAME '1a' SYNTAX 1.3 )") ≡ no_type
unfolding reads
no_letter_first = refl

field_twice : type_definition_of (codes "( 1.2 SYNTAX 1.3 SYNTAX 1.3 )") ≡ no_type
unfolding reads
field_twice = refl

extension_twice : type_definition_of (codes "( 1.2 SYNTAX 1.3 X-G 'h' x-g 'i' )") ≡ no_type
unfolding reads
extension_twice = refl

unknown_field : type_definition_of (codes "( 1.2 SYNTAX 1.3 OTHER )") ≡ no_type
unfolding reads
unknown_field = refl

text_behind : type_definition_of (codes "( 1.2 SYNTAX 1.3 ) x") ≡ no_type
unfolding reads
text_behind = refl

not_closed : type_definition_of (codes "( 1.2 SYNTAX 1.3") ≡ no_type
unfolding reads
not_closed = refl

open_quote : type_definition_of (codes "( 1.2 SYNTAX 1.3 DESC 'd )") ≡ no_type
unfolding reads
open_quote = refl

-- neither a syntax nor a type that it is derived from
no_syntax : type_definition_of (codes "( 1.2 NAME 'a' )") ≡ no_type
unfolding reads
no_syntax = refl

no_numeric_oid : type_definition_of (codes "( a SYNTAX 1.3 )") ≡ no_type
unfolding reads
no_numeric_oid = refl

two_dots : type_definition_of (codes "( 1..2 SYNTAX 1.3 )") ≡ no_type
unfolding reads
two_dots = refl

syntax_by_name : type_definition_of (codes "( 1.2 SYNTAX a )") ≡ no_type
unfolding reads
syntax_by_name = refl

empty_length : type_definition_of (codes "( 1.2 SYNTAX 1.3{} )") ≡ no_type
unfolding reads
empty_length = refl

unknown_usage : type_definition_of (codes "( 1.2 SYNTAX 1.3 USAGE x )") ≡ no_type
unfolding reads
unknown_usage = refl

-- ---- object classes

abbrev plain_class : ClassDefinition
plain_class =
    record {
      element = record { oid = codes "1.2"; names = []; is_described = false; is_obsolete = false; extensions = [] };
      superiors = [];
      kind = None;
      must = [];
      may = [];
    }

abbrev no_class : Option ClassDefinition
no_class = None

the_least_class : class_definition_of (codes "( 1.2 )") ≡ Some plain_class
unfolding reads
the_least_class = refl

every_class_field : class_definition_of (codes "( 1.2 NAME 'dn' DESC 'd' OBSOLETE SUP ( b $ 'c' ) AUXILIARY MUST e MAY (f$g) X-G ( 'h' 'i' ) )")
    ≡ Some (record {
      element = record { oid = codes "1.2"; names = codes "dn" ∷ []; is_described = true; is_obsolete = true; extensions = codes "X-G" ∷ [] };
      superiors = codes "b" ∷ codes "c" ∷ [];
      kind = Some kinds.Auxiliary;
      must = codes "e" ∷ [];
      may = codes "f" ∷ codes "g" ∷ [];
    })
unfolding reads
every_class_field = refl

two_kinds : class_definition_of (codes "( 1.2 ABSTRACT AUXILIARY )") ≡ no_class
unfolding reads
two_kinds = refl

-- names of types stand bare
quoted_type : class_definition_of (codes "( 1.2 MUST 'e' )") ≡ no_class
unfolding reads
quoted_type = refl

no_dollar : class_definition_of (codes "( 1.2 MUST ( e f ) )") ≡ no_class
unfolding reads
no_dollar = refl

no_types : class_definition_of (codes "( 1.2 MAY ( ) )") ≡ no_class
unfolding reads
no_types = refl
