-- What keeps changes from being carried out (RFC 4511, 4.6 to 4.8).
use Rattle.std.specs.Prelude.{◌≡◌, ◌≤◌, Bool, false, not, ◌&&◌, ◌||◌, ◌++◌}
use Rattle.std.specs.List.{AllByRecursion, list_any}
use Rattle.std.specs.FinMap as finite
use Rattle.paths.specs.Paths.{Path, is_root, is_below, parent_of}
use Rattle.schema.specs.Conf.{Conf}
use Rattle.entries.specs.Entries.{EntryContent, has_its_classes}
use Rattle.tree.specs.Directories.{Entries}
use Rattle.differences.specs.EntryChanges.{users}
use Rattle.differences.specs.Differences.{Extent, IsGoal}
use Rattle.differences.specs.Follows.{stays}
use Rattle.differences.specs.Texts.{LeadsByText}

-- an entry goes
abbrev pub goes : Extent → Entries → Path → Bool
goes c b p = c.has p && not (finite.contains_key b p)

-- one below it isn't compared, and stays
abbrev pub stays_below : Extent → Entries → Path → Bool
stays_below c a p = list_any (λ y. is_below p y.0 && not (c.has y.0)) (finite.entries a)

-- it can't be deleted
abbrev pub is_held : Extent → Entries → Entries → Path × EntryContent → Bool
is_held c a b x = goes c b x.0 && stays_below c a x.0

-- an entry comes, and there is to be none above it
abbrev pub is_orphan : Extent → Entries → Path → Bool
is_orphan c a p = not (is_root p) && (not (finite.contains_key a p) && not (c.has (parent_of p) || finite.contains_key a (parent_of p)))

-- with the attributes that users can't change as they are, it isn't as its classes ask
abbrev pub is_unfit : Conf → Entries → Path × EntryContent → Bool
is_unfit conf a y = not (has_its_classes conf (users conf.types y.1.attrs ++ stays conf.types (finite.get a y.0) y.1))

-- it can't become what it is to be
abbrev pub is_hindered : Conf → Extent → Entries → Path × EntryContent → Bool
is_hindered conf c a y = c.has y.0 && (is_orphan c a y.0 || is_unfit conf a y)

-- no change is kept from being carried out
pub record HasNoObstacle (conf : Conf) (c : Extent) (a b : Entries) : Type 0 where
  pub gone : AllByRecursion (λ x. is_held c a b x ≡ false) (finite.entries a)
  pub there : AllByRecursion (λ y. is_hindered conf c a y ≡ false) (finite.entries b)

-- then ldapmodify with the text of the changes leads to what is to be there, if there is room for it
abbrev pub LeadsWhereClear : Conf → Extent → Entries → Entries → Type 0
LeadsWhereClear conf c a b =
    HasNoObstacle conf c a b → (go_on : Bool) (goal : Entries) → IsGoal conf c a b goal → finite.len goal ≤ 4294967295 → LeadsByText conf c a b goal go_on
