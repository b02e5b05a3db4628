-- The definitions in a schema's text, and the line of a dir.conf that each is.
use Rattle.std.specs.Prelude.{ℕ, List, [], ◌∷◌, ◌++◌, codes}
use Rattle.std.specs.List.{flat_map}
use Rattle.base.specs.Ascii.{line_feed}
use Rattle.server_schema.specs.declared.definition.Sort.{Sort}
use Rattle.server_schema.specs.declared.definition.Sort.TheVariants.{AttributeType, ObjectClass}
use Rattle.server_schema.specs.declared.definition.Definition.{Definition}
use Rattle.server_schema.specs.declared.macros.Macro.{Macro}
use Rattle.server_schema.specs.declared.statements.Word.{Word}
use Rattle.server_schema.specs.declared.statements.Word.TheVariants as words
use Rattle.server_schema.specs.declared.statements.Statement.{Statement}
use Rattle.server_schema.specs.Statements.{statements_in}
use Rattle.server_schema.specs.Macros.{macros_in}
use Rattle.server_schema.specs.Expanding.{expanded}

-- ---- those that stand in a text

abbrev pub of_word : List Macro → List ℕ → Word → List Definition
of_word macros text words.Macro = []
of_word macros text (words.Definition sort) = record { sort = sort; text = expanded macros text } ∷ []

abbrev pub of_statement : List Macro → Statement → List Definition
of_statement macros s = of_word macros s.text s.word

abbrev pub of_statements : List Macro → List Statement → List Definition
of_statements macros statements = flat_map (of_statement macros) statements

-- with OIDs in place of the macros that the text says anywhere
abbrev pub definitions_in : List ℕ → List Definition
definitions_in text = of_statements (macros_in (statements_in text)) (statements_in text)

-- ---- as lines

abbrev pub keyword : Sort → List ℕ
keyword AttributeType = codes "attributetype "
keyword ObjectClass = codes "objectclass "

-- the line of a dir.conf that a definition is
abbrev pub line_of : Definition → List ℕ
line_of d = keyword d.sort ++ (d.text ++ line_feed ∷ [])

abbrev pub lines_of : List Definition → List ℕ
lines_of ds = flat_map line_of ds
