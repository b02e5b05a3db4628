-- Macros: names that stand for OIDs (slapd.conf(5), objectidentifier).
use Rattle.std.specs.Prelude.{ℕ, List, [], ◌∷◌, ◌++◌, take, drop, length, position, unwrap_or, Option, Some, None}
use Rattle.std.specs.List.{find}
use Rattle.std.specs.Str.{str_eq_ignore_ascii_case}
use Rattle.base.specs.Ascii.{full_stop}
use Rattle.definitions.specs.Words.{skip, first_word, after_word}
use Rattle.server_schema.specs.Sources.{is_colon}
use Rattle.server_schema.specs.declared.macros.Macro.{Macro}
use Rattle.server_schema.specs.declared.statements.Word.{Word}
use Rattle.server_schema.specs.declared.statements.Word.TheVariants as words
use Rattle.server_schema.specs.declared.statements.Statement.{Statement}

abbrev pub name_end : List ℕ → ℕ
name_end word = unwrap_or (position is_colon word) (length word)

-- up to the colon
abbrev pub name_in : List ℕ → List ℕ
name_in word = take (name_end word) word

-- `:2.1` is `.2.1` behind the macro's OID
abbrev pub suffix_in : List ℕ → List ℕ
suffix_in [] = []
suffix_in (colon ∷ rest) = full_stop ∷ rest

abbrev pub macro_named : List Macro → List ℕ → Option Macro
macro_named macros name = find (λ m. str_eq_ignore_ascii_case m.name name) macros

abbrev pub with_suffix : List ℕ → Option Macro → List ℕ
with_suffix word None = word
with_suffix word (Some m) = m.oid ++ suffix_in (drop (name_end word) word)

-- the OID that a word stands for; a word that is no macro's stands for itself
abbrev pub oid_for : List Macro → List ℕ → List ℕ
oid_for macros word = with_suffix word (macro_named macros (name_in word))

-- a name, and an OID in which macros above may stand
abbrev pub macro_of : List Macro → List ℕ → Macro
macro_of macros text = record { name = first_word text; oid = oid_for macros (first_word (skip (after_word text))) }

abbrev pub with_said : List Macro → List ℕ → Word → List Macro
with_said macros text words.Macro = macros ++ macro_of macros text ∷ []
with_said macros text (words.Definition sort) = macros

abbrev pub with_macro : List Macro → Statement → List Macro
with_macro macros s = with_said macros s.text s.word

unfoldable pub macros_from : List Macro → List Statement → List Macro
macros_from macros [] = macros
macros_from macros (s ∷ more) = macros_from (with_macro macros s) more

abbrev pub macros_in : List Statement → List Macro
macros_in statements = macros_from [] statements
