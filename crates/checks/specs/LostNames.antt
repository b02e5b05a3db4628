-- Names that are lost: those that lines at fault of a dir.conf would have defined.
use Rattle.std.specs.Prelude.{ℕ, ◌-◌, Bool, false, ◌&&◌, ◌||◌, ◌==◌, nat_le, not, List, [], ◌∷◌, ◌++◌, map, filter, take, drop, length, if◌then◌else◌, Option, Some, None, codes}
use Rattle.std.specs.List.{slice_split, find}
use Rattle.std.specs.Option.{option_map_or}
use Rattle.std.specs.Str.{str_eq_ignore_ascii_case, bytes_eq}
use Rattle.base.specs.Ascii.{apostrophe, left_parenthesis, right_parenthesis}
use Rattle.base.specs.Ends.{begins_with}
use Rattle.definitions.specs.declared.lines.Line.{Line}
use Rattle.definitions.specs.declared.element.Element.{Element}
use Rattle.definitions.specs.declared.type_definition.TypeDefinition.{TypeDefinition}
use Rattle.definitions.specs.declared.class_definition.ClassDefinition.{ClassDefinition}
use Rattle.definitions.specs.Words.{is_blank, after_word}
use Rattle.definitions.specs.TypeDefinitions.{type_definition_of}
use Rattle.definitions.specs.ClassDefinitions.{class_definition_of}
use Rattle.dir_conf.specs.Configurations.{is_first}
use Rattle.dir_conf.specs.IndexLines.{is_empty}
use Rattle.checks.specs.declared.lost_names.LostName.{LostName}

-- ---- what a definition is called that can't be read, as one with a macro in place of its OID

-- a space, a tab or a parenthesis
abbrev pub ends_piece : ℕ → Bool
ends_piece b = is_blank b || b == left_parenthesis || b == right_parenthesis

-- what stands between these
abbrev pub pieces : List ℕ → List (List ℕ)
pieces text = filter (λ p. not (is_empty p)) (slice_split ends_piece text)

-- both ends are `'`
abbrev pub is_quoted : List ℕ → Bool
is_quoted piece = nat_le 2 (length piece) && begins_with apostrophe piece && bytes_eq (drop (length piece - 1) piece) (apostrophe ∷ [])

abbrev pub unquoted : List ℕ → List ℕ
unquoted piece = take (length piece - 2) (drop 1 piece)

-- the pieces in quotes that stand in front, without the quotes
abbrev pub quoted_names : List (List ℕ) → List (List ℕ)
quoted_names [] = []
quoted_names (p ∷ ps) = if is_quoted p then unquoted p ∷ quoted_names ps else []

abbrev pub is_name_word : List ℕ → Bool
is_name_word piece = str_eq_ignore_ascii_case piece (codes "NAME")

-- what stands behind the first NAME
unfoldable pub behind_name : List (List ℕ) → List (List ℕ)
behind_name [] = []
behind_name (p ∷ ps) = if is_name_word p then ps else behind_name ps

-- the word that stands in place of the OID, and the names behind the first NAME
abbrev pub spelled_words : List ℕ → List (List ℕ)
spelled_words text = take 1 (pieces text) ++ quoted_names (behind_name (pieces text))

-- ---- what a line would define

-- its OID and its names
abbrev pub words_of : Element → List (List ℕ)
words_of e = e.oid ∷ e.names

abbrev pub type_words_or : List (List ℕ) → Option TypeDefinition → List (List ℕ)
type_words_or spelled None = spelled
type_words_or spelled (Some d) = words_of d.element

abbrev pub class_words_or : List (List ℕ) → Option ClassDefinition → List (List ℕ)
class_words_or spelled None = spelled
class_words_or spelled (Some d) = words_of d.element

-- behind the word `attributetype`
abbrev pub type_words : List ℕ → List (List ℕ)
type_words text = type_words_or (spelled_words text) (type_definition_of text)

-- behind the word `objectclass`
abbrev pub class_words : List ℕ → List (List ℕ)
class_words text = class_words_or (spelled_words text) (class_definition_of text)

-- words that are lost, and the line with which faults count that need them
abbrev pub lost_at : ℕ → List (List ℕ) → List LostName
lost_at at words = map (λ w. record { word = w; line = at }) words

-- the types that a line would define, by all their words
abbrev pub lost_types : ℕ → Line → List LostName
lost_types at l = if is_first (codes "attributetype") l.text then lost_at at (type_words (after_word l.text)) else []

-- the classes likewise
abbrev pub lost_classes : ℕ → Line → List LostName
lost_classes at l = if is_first (codes "objectclass") l.text then lost_at at (class_words (after_word l.text)) else []

-- ---- what a line at fault needs

-- the line of this number, and whether it is to define a class
abbrev pub line_at : List Line → ℕ → Option Line
line_at lines number = find (λ l. l.number == number) lines

abbrev pub is_of_class : List Line → ℕ → Bool
is_of_class lines number = option_map_or (λ l. is_first (codes "objectclass") l.text) (line_at lines number) false
