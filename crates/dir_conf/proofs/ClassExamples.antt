-- Worked examples of object classes, by computation.
use Rattle.std.proofs.Common.{◌≡◌, ℕ, List, [], ◌∷◌, Result, refl}
use Rattle.std.specs.Prelude.{⊤, codes, Some, Ok, Err}
use Rattle.base.specs.Answers.{each, through}
use Rattle.values.specs.Types.{type_of}
use Rattle.base.specs.declared.class_kind.ClassKind.TheVariants.{Structural, Auxiliary}
use Rattle.definitions.specs.declared.lines.Line.{Line}
use Rattle.base.specs.Naming.{are_groups}
use Rattle.definitions.specs.Words.{word_at, sign_at, quoted_at, plain_or_named_at}
use Rattle.definitions.specs.Texts.{to_close, quoted_texts_at, names_to_close, names_at}
use Rattle.definitions.specs.Elements.{element_field, with_element_field, fields_to_end, head_at}
use Rattle.definitions.specs.ClassDefinitions.{list_of, kind_of, field_at, with_list, with_field, class_definition_of}
use Rattle.dir_conf.specs.declared.conf_fault.ConfFaultKind.{ConfFaultKind}
use Rattle.dir_conf.specs.declared.conf_fault.ConfFaultKind.TheVariants.{Twice, UnknownName}
use Rattle.schema.specs.declared.object_class.ObjectClass.{ObjectClass}
use Rattle.schema.specs.Classes.{class_of, top, extensible_object}
use Rattle.dir_conf.specs.Configurations.{At, Defined, built_in, class_with, class_placed, definition_line, defined_by}
use Rattle.schema.proofs.Examples.{conf}

-- the types objectClass, x, y, .. and the classes that are built in
abbrev known : Defined
known = record { types = conf.types; classes = built_in.classes }

abbrev with_classes : List ObjectClass → Result Defined At
with_classes classes = Ok (record known { classes = top ∷ extensible_object ∷ classes })

abbrev refused : ConfFaultKind → Result Defined At
refused kind = Err (7, kind)

-- what the definition on line 7 comes to
abbrev placed : List ℕ → Result Defined At
placed text = class_placed known 7 (class_definition_of text)

-- what a definition is read and placed by
unfoldable reads : ⊤
unfolding class_definition_of head_at fields_to_end field_at with_field with_list list_of kind_of element_field with_element_field names_at names_to_close quoted_texts_at to_close word_at sign_at quoted_at plain_or_named_at are_groups class_placed class_with class_of type_of each
reads = tt

-- by names in any case and by OIDs, in the order written; structural where no kind is stated
what_it_names : placed (codes "( 1.9 NAME 'a' SUP TOP MUST ( X $ 1.3 ) MAY 2.5.4.0 )")
    ≡ with_classes (record { oid = codes "1.9"; names = codes "a" ∷ []; kind = Structural; superiors = 0 ∷ []; must = 1 ∷ 2 ∷ []; may = 0 ∷ [] } ∷ [])
unfolding reads
what_it_names = refl

unknown_superior : placed (codes "( 1.9 SUP x )") ≡ refused UnknownName
unfolding reads
unknown_superior = refl

unknown_must : placed (codes "( 1.9 MUST top )") ≡ refused UnknownName
unfolding reads
unknown_must = refl

unknown_may : placed (codes "( 1.9 MAY ( x $ z ) )") ≡ refused UnknownName
unfolding reads
unknown_may = refl

-- a name of its own that stands twice, before a name that stands for nothing
own_name_twice : placed (codes "( 1.9 NAME ( 'a' 'A' ) MUST z )") ≡ refused Twice
unfolding reads
own_name_twice = refl

name_of_another : placed (codes "( 1.9 NAME 'Top' )") ≡ refused Twice
unfolding reads
name_of_another = refl

-- passed over, whatever it says
what_is_built_in : placed (codes "( 2.5.6.0 MUST z )") ≡ with_classes []
unfolding reads
what_is_built_in = refl

found_in_any_case : class_of built_in.classes (codes "EXTENSIBLEobject") ≡ Some 1
unfolding reads
found_in_any_case = refl

-- ---- a class below another, on lines of their own

abbrev two_lines : List Line
two_lines = record { number = 1; text = codes "objectclass ( 1.9 NAME 'a' )" } ∷ record { number = 2; text = codes "objectclass ( 1.8 SUP ( a $ top $ 1.9 ) AUXILIARY )" } ∷ []

-- numbers in the order of the definitions; what stands twice in a list stays twice
below_another : defined_by known two_lines
    ≡ with_classes (record { oid = codes "1.9"; names = codes "a" ∷ []; kind = Structural; superiors = []; must = []; may = [] }
    ∷ record { oid = codes "1.8"; names = []; kind = Auxiliary; superiors = 2 ∷ 0 ∷ 2 ∷ []; must = []; may = [] } ∷ [])
unfolding reads definition_line through
below_another = refl
