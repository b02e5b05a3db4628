-- The comment before each change record (RFC 2849, note 5), for people to read.
use Rattle.std.specs.Prelude.{ℕ, ◌==◌, List, [], ◌∷◌, ◌++◌, drop, length, codes, if◌then◌else◌}
use Rattle.std.specs.List.{flat_map}
use Rattle.std.specs.Fmt.{decimal}
use Rattle.ldif.specs.declared.record.Mod.{Mod}
use Rattle.ldif.specs.declared.record.Op.{Op}
use Rattle.ldif.specs.declared.record.Op.TheVariants as ops
use Rattle.ldif.specs.declared.record.Record.{Record}
use Rattle.ldif.specs.declared.record.Record.TheVariants as records
use Rattle.ldif.specs.Changes.{CommentedChange, write_change}
use Rattle.ldif.specs.Writing.{line_text}
use Rattle.differences.specs.EntryChanges.{Values}

abbrev pub count_words : ℕ → List ℕ
count_words n = if n == 1 then codes "1 value" else decimal n ++ codes " values"

-- what a block does: a delete without values deletes the attribute whole
abbrev pub deleted_words : List ℕ → Values → List ℕ
deleted_words name [] = name ++ codes " deleted"
deleted_words name (v ∷ vs) = count_words (length (v ∷ vs)) ++ codes " of " ++ name ++ codes " deleted"

abbrev pub words_by : Op → List ℕ → Values → List ℕ
words_by ops.Add name vs = count_words (length vs) ++ codes " of " ++ name ++ codes " added"
words_by ops.Delete name vs = deleted_words name vs
words_by ops.Replace name vs = name ++ codes " replaced by " ++ count_words (length vs)

abbrev pub mod_words : Mod → List ℕ
mod_words m = words_by m.op m.attr m.values

abbrev pub further_words : Mod → List ℕ
further_words m = codes ", " ++ mod_words m

-- those of all blocks, a comma between two
abbrev pub mods_words : List Mod → List ℕ
mods_words ms = drop 2 (flat_map further_words ms)

-- ---- the comment

abbrev pub added : List ℕ
added = line_text (codes "# add") (codes "a new entry")

abbrev pub deleted : List ℕ
deleted = line_text (codes "# delete") (codes "an entry that is gone")

abbrev pub modified : List Mod → List ℕ
modified ms = line_text (codes "# modify") (mods_words ms)

abbrev pub respelled : List ℕ
respelled = line_text (codes "# modrdn") (codes "another spelling of the RDN")

abbrev pub comment_of : Record → List ℕ
comment_of records.Empty = []
comment_of (records.Content dn attrs) = []
comment_of (records.Add dn controls attrs) = added
comment_of (records.Delete dn controls) = deleted
comment_of (records.Modify dn controls mods) = modified mods
comment_of (records.ModRdn dn controls newrdn delete_old new_superior) = respelled

abbrev pub commented : Record → CommentedChange
commented r = record { comment = comment_of r; change = r }

-- a change as text, with its comment
abbrev pub change_text : Record → List ℕ
change_text r = write_change (commented r)
