-- What is found on the way to a reason.
use Rattle.std.specs.Prelude.{◌≡◌, ℕ, Bool, true, false, List, [], Option, Some, None, Result, Ok, Err}
use Rattle.std.specs.Option.{option_map}
use Rattle.std.specs.List.{AllByRecursion, slice_get}
use Rattle.dn.specs.Names as names
use Rattle.ldif.specs.declared.record.Mode.{Mode}
use Rattle.ldif.specs.declared.record.Record.{Record}
use Rattle.ldif.specs.declared.record.Record.TheVariants as records
use Rattle.paths.specs.Paths.{Path}
use Rattle.schema.specs.Conf.{Conf, path_of, own_rdn}
use Rattle.schema.specs.declared.locate.Located.{Located}
use Rattle.schema.specs.FirstFlaws.{Not, IsFirstFlaw}
use Rattle.schema.specs.GoodRdns.{IsRdn}
use Rattle.schema.specs.Names.{name_in}
use Rattle.schema.specs.Rdns.{Ava, TypedRdn}
use Rattle.entries.specs.Entries.{Attributes, EntryContent}
use Rattle.entries.specs.Modifies.{has_rdn}
use Rattle.tree.specs.Directories.{Entries}
use Rattle.reasons.specs.declared.reason.NameReason.{NameReason}
use Rattle.reasons.specs.declared.reason.Reason.{Reason}
use Rattle.reasons.specs.NameFlaws.{HasNameFlaw, HasPlace, place_checks}
use Rattle.reasons.specs.LineFlaws.{attrs_of_lines}
use Rattle.reasons.specs.Asked.{name_of_record, lines_of_record, blocks_of_record, IsAbout, IsToBe}
use Rattle.reasons.specs.BlockFlaws.{modified}
use Rattle.reasons.specs.Flaws.{Flaw, HasFlaw, IsMissing, add_checks, delete_checks, modify_checks, rename_checks}
use Rattle.reasons.specs.Reasons.{flaw_of, name_flaw_of, IsSo}

-- ---- the first of several flaws

-- the first one that is there, or that none is
abbrev pub FindsFirst : {Flaw : Type 0} (Has : Flaw → Type 0) → List Flaw → Option Flaw → Type 0
FindsFirst Has order None = AllByRecursion (λ flaw. Not (Has flaw)) order
FindsFirst {Flaw} Has order (Some flaw) = IsFirstFlaw Flaw Has order flaw

-- what is found among these is found among all: those before them aren't there
abbrev pub Leaves : {Flaw : Type 0} (Has : Flaw → Type 0) → List Flaw → List Flaw → Type 0
Leaves {Flaw} Has all rest = (found : Option Flaw) → FindsFirst Has rest found → FindsFirst Has all found

-- ---- of a record

abbrev pub AreSo : Conf → Entries → Record → Option Reason → Type 0
AreSo conf d r None = Unit {0}
AreSo conf d r (Some reason) = IsSo conf d r reason

-- the first flaw of these, with what it is of, or that none of them is there
pub record Finds (conf : Conf) (mode : Mode) (d : Entries) (r : Record) (order : List Flaw) (found : Option Reason) : Type 0 where
  pub first : FindsFirst (HasFlaw conf mode d r) order (option_map flaw_of found)
  pub so : AreSo conf d r found

-- whether it has a name
abbrev pub is_named : Record → Bool
is_named records.Empty = false
is_named (records.Content dn attrs) = true
is_named (records.Add dn controls attrs) = true
is_named (records.Delete dn controls) = true
is_named (records.Modify dn controls mods) = true
is_named (records.ModRdn dn controls newrdn delete_old new_superior) = true

-- the checks behind that of the name
abbrev pub later_checks : Record → List Flaw
later_checks records.Empty = []
later_checks (records.Content dn attrs) = add_checks attrs
later_checks (records.Add dn controls attrs) = add_checks attrs
later_checks (records.Delete dn controls) = delete_checks
later_checks (records.Modify dn controls mods) = modify_checks mods
later_checks (records.ModRdn dn controls newrdn delete_old new_superior) = rename_checks newrdn new_superior

-- ---- of a name

-- the AVAs of the RDN with this index, in the name that a text spells
pub record IsRdnOf (text : List ℕ) (index : ℕ) (avas : names.Rdn) : Type 0 where
  pub name : names.Name
  pub spelled : name_in text ≡ Ok name
  pub rdn_is : slice_get name index ≡ Some avas

-- where a name stands: the RDNs that lead there, the path, and the entry's own RDN
pub record Stands (conf : Conf) (text : List ℕ) (path : Path) (rdn : TypedRdn) : Type 0 where
  pub rdns : List TypedRdn
  pub here : HasPlace conf text rdns
  pub path_is : path ≡ path_of conf rdns
  pub rdn_is : rdn ≡ own_rdn conf rdns

-- a name stands there, or this is what it is refused for
abbrev pub IsPlace : Conf → List ℕ → Result Located NameReason → Type 0
IsPlace conf text (Ok place) = Stands conf text place.path place.rdn × IsRdn conf.types place.rdn
IsPlace conf text (Err why) = FindsFirst (HasNameFlaw conf text) (place_checks text) (Some (name_flaw_of why))

-- a record that is to make an entry of its lines
pub record Adds (conf : Conf) (d : Entries) (r : Record) : Type 0 where
  pub have : (rdns : List TypedRdn) → HasPlace conf (name_of_record r) rdns → IsToBe conf d r (record { rdn = own_rdn conf rdns; attrs = attrs_of_lines conf rdns (lines_of_record r) })
  pub had : (e : EntryContent) → IsToBe conf d r e → (rdns : List TypedRdn) × HasPlace conf (name_of_record r) rdns × (e ≡ record { rdn = own_rdn conf rdns; attrs = attrs_of_lines conf rdns (lines_of_record r) })

-- this is the entry that a record is to make
pub record Becomes (conf : Conf) (d : Entries) (r : Record) (e : EntryContent) : Type 0 where
  pub have : IsToBe conf d r e
  pub only : (other : EntryContent) → IsToBe conf d r other → other ≡ e

-- a record that is to change an entry by blocks
pub record Modifies (conf : Conf) (d : Entries) (r : Record) : Type 0 where
  pub have : (old : EntryContent) → IsAbout conf d r old → IsToBe conf d r (record { rdn = old.rdn; attrs = modified conf.types old.attrs (blocks_of_record r) })
  pub had : (e : EntryContent) → IsToBe conf d r e → (old : EntryContent) × IsAbout conf d r old × (e ≡ record { rdn = old.rdn; attrs = modified conf.types old.attrs (blocks_of_record r) })

-- the AVA of an RDN with this index has no value, or each one has
abbrev pub IsMissingIn : Conf → Attributes → TypedRdn → Option ℕ → Type 0
IsMissingIn conf attrs rdn None = has_rdn conf.types rdn attrs ≡ true
IsMissingIn conf attrs rdn (Some index) = (p : Ava) × (slice_get rdn index ≡ Some p) × IsMissing conf attrs p
