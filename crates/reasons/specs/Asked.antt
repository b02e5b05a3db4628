-- What a record asks for (RFC 4511, 4.6 to 4.9): of which entry, where that is to come, what it is to be, and so which change.
use Rattle.std.specs.Prelude.{◌≡◌, ℕ, List, [], ◌∷◌, ◌++◌, Option, Some, None}
use Rattle.std.specs.FinMap as finite
use Rattle.ldif.specs.Attrs.{Attr}
use Rattle.ldif.specs.declared.record.Mod.{Mod}
use Rattle.ldif.specs.declared.record.Record.{Record}
use Rattle.ldif.specs.declared.record.Record.TheVariants as records
use Rattle.paths.specs.Paths.{Path, parent_of}
use Rattle.schema.specs.Conf.{Conf, own_rdn}
use Rattle.schema.specs.Rdns.{TypedRdn, rdn_key_of}
use Rattle.entries.specs.Entries.{EntryContent}
use Rattle.entries.specs.Modifies.{renamed_attrs}
use Rattle.tree.specs.Directories.{Entries}
use Rattle.tree.specs.Changes.{Change, Nothing, Put, Remove}
use Rattle.tree.specs.Renames.{renamed_to}
use Rattle.reasons.specs.NameFlaws.{HasPlace, LeadsTo, SpellsRdn}
use Rattle.reasons.specs.LineFlaws.{attrs_of_lines}
use Rattle.reasons.specs.BlockFlaws.{modified}

-- ---- what a record says

-- the name of the entry that it is about
abbrev pub name_of_record : Record → List ℕ
name_of_record records.Empty = []
name_of_record (records.Content dn attrs) = dn
name_of_record (records.Add dn controls attrs) = dn
name_of_record (records.Delete dn controls) = dn
name_of_record (records.Modify dn controls mods) = dn
name_of_record (records.ModRdn dn controls newrdn delete_old new_superior) = dn

-- the lines of an add
abbrev pub lines_of_record : Record → List Attr
lines_of_record records.Empty = []
lines_of_record (records.Content dn attrs) = attrs
lines_of_record (records.Add dn controls attrs) = attrs
lines_of_record (records.Delete dn controls) = []
lines_of_record (records.Modify dn controls mods) = []
lines_of_record (records.ModRdn dn controls newrdn delete_old new_superior) = []

-- the blocks of a modify
abbrev pub blocks_of_record : Record → List Mod
blocks_of_record records.Empty = []
blocks_of_record (records.Content dn attrs) = []
blocks_of_record (records.Add dn controls attrs) = []
blocks_of_record (records.Delete dn controls) = []
blocks_of_record (records.Modify dn controls mods) = mods
blocks_of_record (records.ModRdn dn controls newrdn delete_old new_superior) = []

-- the new RDN of a modify DN
abbrev pub rdn_of_record : Record → List ℕ
rdn_of_record records.Empty = []
rdn_of_record (records.Content dn attrs) = []
rdn_of_record (records.Add dn controls attrs) = []
rdn_of_record (records.Delete dn controls) = []
rdn_of_record (records.Modify dn controls mods) = []
rdn_of_record (records.ModRdn dn controls newrdn delete_old new_superior) = newrdn

-- its new superior, if it names one
abbrev pub superior_of_record : Record → Option (List ℕ)
superior_of_record records.Empty = None
superior_of_record (records.Content dn attrs) = None
superior_of_record (records.Add dn controls attrs) = None
superior_of_record (records.Delete dn controls) = None
superior_of_record (records.Modify dn controls mods) = None
superior_of_record (records.ModRdn dn controls newrdn delete_old new_superior) = new_superior

-- ---- what it is about

-- the path of its name
abbrev pub IsAt : Conf → Record → Path → Type 0
IsAt conf r path = LeadsTo conf (name_of_record r) path

-- the entry with its name
abbrev pub IsAbout : Conf → Entries → Record → EntryContent → Type 0
IsAbout conf d r e = (path : Path) × IsAt conf r path × (finite.get d path ≡ Some e)

-- the path of the entry below which one at this path is to come: that of the new superior, or the parent's
abbrev pub ComesBelow : Conf → Option (List ℕ) → Path → Path → Type 0
ComesBelow conf None path upper = upper ≡ parent_of path
ComesBelow conf (Some text) path upper = LeadsTo conf text upper

-- the path that a modify DN is to bring an entry to, by the new RDN
abbrev pub ComesTo : Conf → Record → Path → Path → Type 0
ComesTo conf r path to =
    (rdn : TypedRdn) × SpellsRdn conf (rdn_of_record r) rdn
    × (upper : Path) × ComesBelow conf (superior_of_record r) path upper × (to ≡ upper ++ rdn_key_of conf.types rdn ∷ [])

-- the entry that is to be there in the end
abbrev pub IsToBe : Conf → Entries → Record → EntryContent → Type 0
IsToBe conf d records.Empty e = ⊥
IsToBe conf d (records.Content dn lines) e =
    (rdns : List TypedRdn) × HasPlace conf dn rdns × (e ≡ record { rdn = own_rdn conf rdns; attrs = attrs_of_lines conf rdns lines })
IsToBe conf d (records.Add dn controls lines) e =
    (rdns : List TypedRdn) × HasPlace conf dn rdns × (e ≡ record { rdn = own_rdn conf rdns; attrs = attrs_of_lines conf rdns lines })
IsToBe conf d (records.Delete dn controls) e = ⊥
IsToBe conf d (records.Modify dn controls mods) e =
    (old : EntryContent) × IsAbout conf d (records.Modify dn controls mods) old
    × (e ≡ record { rdn = old.rdn; attrs = modified conf.types old.attrs mods })
IsToBe conf d (records.ModRdn dn controls newrdn delete_old new_superior) e =
    (old : EntryContent) × IsAbout conf d (records.ModRdn dn controls newrdn delete_old new_superior) old
    × (rdn : TypedRdn) × SpellsRdn conf newrdn rdn × (e ≡ record { rdn = rdn; attrs = renamed_attrs conf.types old rdn delete_old })

-- that entry at the path of its name
abbrev pub IsToStand : Conf → Entries → Record → Change → Type 0
IsToStand conf d r change = (path : Path) × IsAt conf r path × (e : EntryContent) × IsToBe conf d r e × (change ≡ Put path e)

-- the change that a record asks for; a modify DN that leaves the path as it is puts the entry there
abbrev pub AsksFor : Conf → Entries → Record → Change → Type 0
AsksFor conf d records.Empty change = change ≡ Nothing
AsksFor conf d (records.Content dn lines) change = IsToStand conf d (records.Content dn lines) change
AsksFor conf d (records.Add dn controls lines) change = IsToStand conf d (records.Add dn controls lines) change
AsksFor conf d (records.Delete dn controls) change = (path : Path) × LeadsTo conf dn path × (change ≡ Remove path)
AsksFor conf d (records.Modify dn controls mods) change = IsToStand conf d (records.Modify dn controls mods) change
AsksFor conf d (records.ModRdn dn controls newrdn delete_old new_superior) change =
    (path : Path) × LeadsTo conf dn path
    × (to : Path) × ComesTo conf (records.ModRdn dn controls newrdn delete_old new_superior) path to
    × (e : EntryContent) × IsToBe conf d (records.ModRdn dn controls newrdn delete_old new_superior) e × (change ≡ renamed_to path to e)
