-- A directory under another suffix: the same paths, with values of DN syntax moved, and the new suffix's RDN in the suffix's entry.
use Rattle.std.specs.Prelude.{ℕ, true, List, [], map, Result, Ok, if◌then◌else◌}
use Rattle.std.specs.FinMap as finite
use Rattle.base.specs.Answers.{◌>>=◌, through}
use Rattle.ldif.specs.Attrs.{Attr}
use Rattle.ldif.specs.declared.record.Mode.TheVariants.{Content}
use Rattle.ldif.specs.declared.record.Record.TheVariants as records
use Rattle.paths.specs.Paths.{Path, is_root}
use Rattle.schema.specs.declared.code.Code.{Code}
use Rattle.schema.specs.TypeRules.{has_name_syntax}
use Rattle.schema.specs.Rdns.{TypedRdn}
use Rattle.schema.specs.Conf.{Conf, name_text, root_rdn}
use Rattle.entries.specs.Entries.{Attribute, Attributes, EntryContent, add_lines, lines_of}
use Rattle.entries.specs.Modifies.{rename_entry}
use Rattle.tree.specs.Directories.{Entries, rdns_from}
use Rattle.tree.specs.Operations.{apply}
use Rattle.suffixes.specs.MovedValues.{moved_value}

-- what is moved: the entries of a configuration, to another one, whose suffix is spelled by this name
pub record Move : Type 0 where
  pub conf : Conf
  pub new : Conf
  pub name : List ℕ
  pub entries : Entries

abbrev pub move_by : Conf → Conf → List ℕ → Entries → Move
move_by conf new name d = record { conf = conf; new = new; name = name; entries = d }

-- ---- one entry

-- a type of DN syntax with its values moved; any other stays
abbrev pub moved_attribute : Conf → List ℕ → Attribute → Attribute
moved_attribute conf name a = (a.0, if has_name_syntax conf.types a.0 then map (moved_value conf name) a.1 else a.1)

abbrev pub moved_attributes : Conf → List ℕ → Attributes → Attributes
moved_attributes conf name attrs = map (moved_attribute conf name) attrs

-- the entry of the suffix: its values are added as loading adds them (RFC 4511, 4.7), and it is given the new suffix's RDN without keeping the
-- old one's values (RFC 4511, 4.9); or the code of the first check that fails
abbrev pub suffix_entry : Conf → TypedRdn → List Attr → Result EntryContent Code
suffix_entry new rdn lines =
    add_lines Content new.types [] lines >>= λ attrs.
    rename_entry new (record { rdn = rdn; attrs = attrs }) (root_rdn new) true

-- and the lines that it is added by
abbrev pub suffix_lines : Conf → TypedRdn → List Attr → Result (List Attr) Code
suffix_lines new rdn lines = suffix_entry new rdn lines >>= λ out. Ok (lines_of new.types out.attrs)

-- the lines that an entry is added by: those of its values, moved
unfoldable pub moved_lines : Move → Path → EntryContent → Result (List Attr) Code
moved_lines m p e =
    let lines = lines_of m.new.types (moved_attributes m.conf m.name e.attrs) in
    if is_root p then suffix_lines m.new e.rdn lines else Ok lines

-- its name: each RDN as its entry spells it, and the new suffix
abbrev pub moved_name : Move → Path → List ℕ
moved_name m p = name_text m.new (rdns_from m.entries [] p)

-- ---- all entries

-- a content record with these lines, loaded (RFC 4511, 4.7)
abbrev pub add_named : Conf → Entries → List ℕ → List Attr → Result Entries Code
add_named conf d name lines = apply conf Content d (records.Content name lines)

-- where it has lines
abbrev pub add_by : Conf → Entries → List ℕ → Result (List Attr) Code → Result Entries Code
add_by conf d name lines = lines >>= add_named conf d name

-- an entry is added to those before it
unfoldable pub add_moved : Move → Entries → Path × EntryContent → Result Entries Code
add_moved m d x = add_by m.new d (moved_name m x.0) (moved_lines m x.0 x.1)

-- The directory under the other suffix: its entries in the order of the dump, each added to those before it; or the code of the first that can't
-- be added.
abbrev pub moved_directory : Move → Result Entries Code
moved_directory m = through (add_moved m) finite.empty (finite.entries m.entries)
