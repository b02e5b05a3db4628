-- The changes between two directories under one configuration, as change records (RFC 2849): what makes the second of the first.
use Rattle.std.specs.Prelude.{◌≡◌, Bool, true, false, not, ◌&&◌, List, [], ◌∷◌, ◌++◌, map, reverse, nat_eq, Option, Some, None, Result, if◌then◌else◌}
use Rattle.std.specs.Option.{option_map}
use Rattle.std.specs.List.{filter, flat_map}
use Rattle.std.specs.Str.{bytes_eq}
use Rattle.std.specs.FinMap as finite
use Rattle.ldif.specs.declared.record.Mod.{Mod}
use Rattle.ldif.specs.declared.record.Mode.TheVariants as modes
use Rattle.ldif.specs.declared.record.Record.{Record}
use Rattle.ldif.specs.declared.record.Record.TheVariants as records
use Rattle.dn.specs.Writing.{text_of}
use Rattle.paths.specs.Paths.{Path}
use Rattle.values.specs.declared.types.AttributeType.{AttributeType}
use Rattle.schema.specs.declared.code.Code.{Code}
use Rattle.schema.specs.Names.{written_rdn}
use Rattle.schema.specs.Rdns.{TypedRdn}
use Rattle.schema.specs.Conf.{Conf}
use Rattle.base.specs.Answers.{through}
use Rattle.entries.specs.Entries.{EntryContent, lines_of}
use Rattle.tree.specs.Directories.{Entries, name_of_entry}
use Rattle.tree.specs.Operations.{apply}
use Rattle.differences.specs.EntryChanges.{users, mods_between}
use Rattle.differences.specs.AsSets.{settled}

-- ---- one entry

-- whether two RDNs are spelled alike
abbrev pub same_spelling : TypedRdn → TypedRdn → Bool
same_spelling [] [] = true
same_spelling [] (q ∷ qs) = false
same_spelling (p ∷ ps) [] = false
same_spelling (p ∷ ps) (q ∷ qs) = nat_eq p.0 q.0 && (bytes_eq p.1 q.1 && same_spelling ps qs)

abbrev pub removing : Conf → Entries → Path → Record
removing conf a p = records.Delete (name_of_entry conf a p) []

abbrev pub bringing : Conf → Entries → Path → EntryContent → Record
bringing conf b p e = records.Add (name_of_entry conf b p) [] (lines_of conf.types (users conf.types e.attrs))

-- another spelling of the RDN; no value goes, and each that the RDN has is there
abbrev pub respelling : Conf → Entries → Path → TypedRdn → Record
respelling conf a p new = records.ModRdn (name_of_entry conf a p) [] (text_of (written_rdn conf.types new ∷ [])) false None

abbrev pub respellings : Bool → Record → List Record
respellings true r = []
respellings false r = r ∷ []

abbrev pub modifying : Conf → Entries → Path → List Mod → List Record
modifying conf b p [] = []
modifying conf b p (m ∷ ms) = records.Modify (name_of_entry conf b p) [] (m ∷ ms) ∷ []

-- by the entry at this path before, and the one after
abbrev pub changes_at : Conf → Entries → Entries → Path → Option EntryContent → EntryContent → List Record
changes_at conf a b p None e = bringing conf b p e ∷ []
changes_at conf a b p (Some x) e =
    respellings (same_spelling x.rdn e.rdn) (respelling conf a p e.rdn) ++ modifying conf b p (mods_between conf.types x.attrs e.attrs)

-- ---- what is compared

pub record Extent : Type 0 where
  -- whether attributes and values are compared as sets
  pub as_sets : Bool
  -- whether what stands at a path is compared
  pub has : Path → Bool

-- all there is, in its order
abbrev pub whole : Extent
whole = record { as_sets = false; has = λ p. true }

-- all there is, as sets
abbrev pub sets : Extent
sets = record { as_sets = true; has = λ p. true }

-- the entry that is to be where the second directory has one: this one, or, where order and spelling don't count, what keeps most of the one before
abbrev pub aimed : Bool → List AttributeType → Option EntryContent → EntryContent → EntryContent
aimed false types before e = e
aimed true types None e = e
aimed true types (Some x) e = settled types x e

-- what is to be at a path: what the second directory has there, if that is compared, and else what the first has
abbrev pub goal_at : Conf → Extent → Entries → Entries → Path → Option EntryContent
goal_at conf c a b p = if c.has p then option_map (aimed c.as_sets conf.types (finite.get a p)) (finite.get b p) else finite.get a p

-- the entries that are to be at the end
abbrev pub IsGoal : Conf → Extent → Entries → Entries → Entries → Type 0
IsGoal conf c a b goal = (p : Path) → finite.get goal p ≡ goal_at conf c a b p

-- ---- directories

-- those that only the first has
abbrev pub only_in : Extent → Entries → Entries → List (Path × EntryContent)
only_in c a b = filter (λ x. c.has x.0 && not (finite.contains_key b x.0)) (finite.entries a)

-- where the second has this entry
abbrev pub changes_of : Conf → Extent → Entries → Entries → Path × EntryContent → List Record
changes_of conf c a b y = if c.has y.0 then changes_at conf a b y.0 (finite.get a y.0) (aimed c.as_sets conf.types (finite.get a y.0) y.1) else []

-- First what only the first has goes, children before their parents, so that there is never more than there may be. Then the second's entries
-- in order, parents first, named as the second spells them.
unfoldable pub changes_between : Conf → Extent → Entries → Entries → List Record
changes_between conf c a b = map (λ x. removing conf a x.0) (reverse (only_in c a b)) ++ flat_map (changes_of conf c a b) (finite.entries b)

abbrev pub is_some_change : List Record → Bool
is_some_change [] = false
is_some_change (r ∷ rs) = true

-- what records leave of a directory, each carried out as ldapmodify does, or the code of the first that is refused
abbrev pub carried_out : Conf → Entries → List Record → Result Entries Code
carried_out conf d rs = through (apply conf (modes.Changes false)) d rs
