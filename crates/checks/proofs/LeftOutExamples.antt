-- Worked examples of what lines at fault would have defined, and of faults that are left out, by computation.
use Rattle.std.proofs.Common.{◌≡◌, ℕ, true, false, List, [], ◌∷◌, Option, Some, None, refl}
use Rattle.std.specs.Prelude.{⊤, codes}
use Rattle.std.specs.Fmt.{digits}
use Rattle.base.specs.Naming.{are_groups}
use Rattle.definitions.specs.Words.{word_at, sign_at, quoted_at, plain_or_quoted_at, plain_or_named_at}
use Rattle.definitions.specs.Texts.{to_close, quoted_texts_at, names_to_close, names_at}
use Rattle.definitions.specs.Elements.{element_field, with_element_field, fields_to_end, head_at}
use Rattle.definitions.specs.TypeFields.{reference_of, flag_of, usage_of, syntax_oid, referred_at, other_field, field_at}
use Rattle.definitions.specs.TypeDefinitions.{with_flag, with_reference, with_field, type_definition_of}
use Rattle.definitions.specs.ClassDefinitions as classes
use Rattle.definitions.specs.ClassDefinitions.{list_of, kind_of, with_list, class_definition_of}
use Rattle.definitions.specs.Lines.{unfolded, lines_of}
use Rattle.dir_conf.specs.declared.conf_fault.ConfFaultKind.{ConfFaultKind}
use Rattle.dir_conf.specs.declared.conf_fault.ConfFaultKind.TheVariants as kinds
use Rattle.dir_conf.specs.declared.reason.NameField.TheVariants as fields
use Rattle.dir_conf.specs.declared.reason.ConfFlaw.TheVariants as flaws
use Rattle.checks.specs.declared.conf_faults.FoundFault.{FoundFault}
use Rattle.checks.specs.declared.lost_names.LostName.{LostName}
use Rattle.checks.specs.ConfFaults.{commented, fault_reports}
use Rattle.checks.specs.LostNames.{behind_name, type_words, class_words}
use Rattle.checks.specs.LeftOut.{types_lost, classes_lost, line_counting, text_behind}

-- what a definition is read by
unfoldable reads : ⊤
unfolding are_groups word_at sign_at quoted_at plain_or_quoted_at plain_or_named_at to_close quoted_texts_at names_to_close names_at element_field with_element_field fields_to_end head_at reference_of flag_of usage_of syntax_oid referred_at other_field field_at with_flag with_reference with_field type_definition_of list_of kind_of with_list classes.field_at classes.with_field class_definition_of behind_name unfolded lines_of
reads = tt

-- ---- what a line would define

-- a definition that is read: its OID and its names
two_names : type_words (codes " ( 9.2 NAME ( 'c' 'd' ) SUP b )") ≡ codes "9.2" ∷ codes "c" ∷ codes "d" ∷ []
unfolding reads
two_names = refl

-- one that isn't: the first word, and the names behind the first NAME, as far as they stand in quotes
macro : type_words (codes "( M:1 NAME('a' 'b') DESC 'e' )") ≡ codes "M:1" ∷ codes "a" ∷ codes "b" ∷ []
unfolding reads
macro = refl

no_quotes : class_words (codes " ( 9.3 Name k MUST c )") ≡ codes "9.3" ∷ []
unfolding reads
no_quotes = refl

no_words : class_words (codes " ( ) ") ≡ []
unfolding reads
no_words = refl

-- ---- a chain

-- of these lines the first can't be read, the next ones need it or each other, and the last one needs what no line defines
abbrev text : List ℕ
text = codes "attributetype ( M:1 NAME 'a' )\nattributetype ( 9.2\n NAME 'b' SUP A )\nobjectclass ( 9.3 NAME 'b' MUST B )\nobjectclass ( 9.4 SUP b )\nobjectclass ( 9.5 SUP a )\n"

abbrev fault : ℕ → ConfFaultKind → Option ℕ → FoundFault
fault line kind counted_with = record { fault = record { line = line; kind = kind }; counted_with = counted_with }

abbrev reported : Option ℕ
reported = None

-- what is found, of which three faults count with line 1
abbrev chain : List FoundFault
chain = fault 1 kinds.Form reported ∷ fault 2 kinds.UnknownName (Some 1) ∷ fault 4 kinds.UnknownName (Some 1) ∷ fault 5 kinds.UnknownName (Some 1) ∷ fault 6 kinds.UnknownName reported ∷ []

abbrev at_first : List ℕ → LostName
at_first word = record { word = word; line = 1 }

-- line 2 is lost with the line that it counts with
lost_types_of_chain : types_lost (lines_of text) chain ≡ at_first (codes "M:1") ∷ at_first (codes "a") ∷ at_first (codes "9.2") ∷ at_first (codes "b") ∷ []
unfolding reads
lost_types_of_chain = refl

-- a line that is reported loses its names with itself
lost_classes_of_chain : classes_lost (lines_of text) chain ≡ at_first (codes "9.3") ∷ at_first (codes "b") ∷ at_first (codes "9.4") ∷ record { word = codes "9.5"; line = 6 } ∷ []
unfolding reads
lost_classes_of_chain = refl

abbrev no_name : List LostName
no_name = []

-- a type that is lost, in any case, for SUP of a type, and for MUST of a class
superior_type : line_counting false (flaws.UnknownName (codes "b") fields.Superior (codes "A")) (at_first (codes "a") ∷ []) no_name ≡ Some 1
superior_type = refl

required_type : line_counting true (flaws.UnknownName (codes "b") fields.Must (codes "B")) (at_first (codes "a") ∷ at_first (codes "b") ∷ []) no_name ≡ Some 1
required_type = refl

indexed_type : line_counting false (flaws.UnknownIndexed (codes "b")) (at_first (codes "b") ∷ []) no_name ≡ Some 1
indexed_type = refl

-- SUP of a class is no type
no_superclass : line_counting true (flaws.UnknownName (codes "9.5") fields.Superior (codes "a")) (at_first (codes "a") ∷ []) no_name ≡ None
no_superclass = refl

-- another name than those that are lost
own_fault : line_counting false (flaws.UnknownName (codes "b") fields.Superior (codes "none")) (at_first (codes "a") ∷ []) no_name ≡ None
own_fault = refl

-- of two lines that would have defined it the first one counts
first_counts : line_counting false (flaws.UnknownIndexed (codes "a")) (at_first (codes "a") ∷ record { word = codes "a"; line = 3 } ∷ []) no_name ≡ Some 1
first_counts = refl

told : fault_reports chain false ≡ codes "faulty\tdir.conf\tline 1: C2 form\nnote\tdir.conf\tline 1: 3 lines that need it are left out\nfaulty\tdir.conf\tline 6: C4 unknown name\n"
unfolding digits
told = refl

one_left_out : fault_reports (fault 1 kinds.Form reported ∷ fault 2 kinds.UnknownName (Some 1) ∷ []) true
    ≡ codes "faulty\tdir.conf\tline 1: C2 form\nnote\tdir.conf\tline 1: 1 line that needs it is left out\nfaulty\tdir.conf\tmore faults: the first 2000 are told or left out\n"
unfolding digits
one_left_out = refl

-- each fault is that of the text in which the lines before it are comments
comments : text_behind (codes "a\nb\nc\n") (fault 1 kinds.Form reported ∷ fault 3 kinds.Form reported ∷ []) ≡ codes "#\nb\n#\n"
unfolding commented
comments = refl
