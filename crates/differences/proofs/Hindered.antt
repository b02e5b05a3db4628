-- Entries that are hindered, found one by one.
use Rattle.std.proofs.Common.{◌≡◌, Bool, true, false, cond, not, List, [], ◌∷◌, length, filter, Option, Some, None, refl, ap, ◌∙◌}
use Rattle.std.specs.Prelude.{◌&&◌, ◌||◌, nat_lt}
use Rattle.std.specs.List.{AllByRecursion, list_any}
use Rattle.std.specs.FinMap as finite
use Rattle.std.specs.Borrow.{Bor}
use Rattle.values.specs.declared.types.AttributeType.{AttributeType}
use Rattle.filter.specs.Made.{Made}
use Rattle.paths.specs.Paths.{Path, begins, is_below, is_root, parent_of}
use Rattle.schema.specs.Conf.{Conf, IsConf}
use Rattle.entries.specs.Entries.{EntryContent}
use Rattle.entries.specs.StoredEntries.{Entry}
use Rattle.tree.specs.Directories.{Entries, IsDirectory}
use Rattle.tree.specs.Trees.{seen_entries}
use Rattle.differences.specs.Differences.{Extent}
use Rattle.differences.specs.Comparisons.{filter_in, passes}
use Rattle.differences.specs.Follows.{AsksNoFixed}
use Rattle.differences.specs.Obstacles.{goes, stays_below, is_held, is_orphan, is_unfit, is_hindered, HasNoObstacle}
use Rattle.differences.proofs.Agreed.{fits_with}
use Rattle.differences.proofs.PathMaps.{all_there}

module _ (c : Extent) (p : Path) where
  -- whether one of these is longer, and isn't compared
  abbrev pub stays_next : List (Path × Entry) → Bool
  stays_next es = list_any (λ e. nat_lt (length p) (length e.0) && not (c.has e.0)) es

  stays_seen : (es : List (Path × Entry)) → stays_next es ≡ list_any (λ e. nat_lt (length p) (length e.0) && not (c.has e.0)) (seen_entries es)
  stays_seen [] = refl
  stays_seen (e ∷ es) = ap (λ b. (nat_lt (length p) (length e.0) && not (c.has e.0)) || b) (stays_seen es)

  stays_all : (es : List (Path × EntryContent)) → list_any (λ e. nat_lt (length p) (length e.0) && not (c.has e.0)) (filter (λ e. begins p e.0) es) ≡ list_any (λ y. is_below p y.0 && not (c.has y.0)) es
  stays_all [] = refl
  stays_all (e ∷ es) = by (begins p e.0) (stays_all es)
    where
      by : (b : Bool) → list_any (λ e. nat_lt (length p) (length e.0) && not (c.has e.0)) (filter (λ e. begins p e.0) es) ≡ list_any (λ y. is_below p y.0 && not (c.has y.0)) es
          → list_any (λ e. nat_lt (length p) (length e.0) && not (c.has e.0)) (cond b (e ∷ filter (λ e. begins p e.0) es) (filter (λ e. begins p e.0) es))
          ≡ ((b && nat_lt (length p) (length e.0)) && not (c.has e.0)) || list_any (λ y. is_below p y.0 && not (c.has y.0)) es
      by true rest = ap (λ b. (nat_lt (length p) (length e.0) && not (c.has e.0)) || b) rest
      by false rest = rest

  pub stays_in : (a : Entries) (es : List (Path × Entry)) → seen_entries es ≡ filter (λ e. begins p e.0) (finite.entries a) → stays_next es ≡ stays_below c a p
  stays_in a es is = stays_seen es ∙ ap (list_any (λ e. nat_lt (length p) (length e.0) && not (c.has e.0))) is ∙ stays_all (finite.entries a)

-- ---- where all is compared, and no class asks for what users can't change

module _ (conf : Conf) (ok : IsConf conf) (asks : AsksNoFixed conf) (c : Extent) (all : (p : Path) → c.has p ≡ true) (a b : Entries) (g : IsDirectory conf b) where
  none_below : (p : Path) → stays_below c a p ≡ false
  none_below p = by (finite.entries a)
    where
      by : (es : List (Path × EntryContent)) → list_any (λ y. is_below p y.0 && not (c.has y.0)) es ≡ false
      by [] = refl
      by (y ∷ es) = ap (λ d. (is_below p y.0 && not d) || list_any (λ y. is_below p y.0 && not (c.has y.0)) es) (all y.0) ∙ last (is_below p y.0) (by es)
        where
          last : (d : Bool) → list_any (λ y. is_below p y.0 && not (c.has y.0)) es ≡ false → ((d && false) || list_any (λ y. is_below p y.0 && not (c.has y.0)) es) ≡ false
          last true rest = rest
          last false rest = rest

  none_held : (es : List (Path × EntryContent)) → AllByRecursion (λ x. is_held c a b x ≡ false) es
  none_held [] = tt
  none_held (x ∷ es) = (ap (λ d. goes c b x.0 && d) (none_below x.0) ∙ last (goes c b x.0), none_held es)
    where
      last : (d : Bool) → (d && false) ≡ false
      last true = refl
      last false = refl

  no_orphan : (p : Path) → is_orphan c a p ≡ false
  no_orphan p = ap (λ d. not (is_root p) && (not (finite.contains_key a p) && not (d || finite.contains_key a (parent_of p)))) (all (parent_of p)) ∙ last (not (is_root p)) (not (finite.contains_key a p))
    where
      last : (d e : Bool) → (d && (e && false)) ≡ false
      last true true = refl
      last true false = refl
      last false e = refl

  none_hindered : (es : List (Path × EntryContent)) → AllByRecursion (λ y. finite.get b y.0 ≡ Some y.1) es → AllByRecursion (λ y. is_hindered conf c a y ≡ false) es
  none_hindered [] h = tt
  none_hindered (y ∷ es) h = (
    ap (λ d. c.has y.0 && (d || is_unfit conf a y)) (no_orphan y.0)
        ∙ ap (λ d. c.has y.0 && (false || not d)) (fits_with conf ok asks (finite.get a y.0) y.1 (g.good y.0 y.1 h.0).class)
        ∙ last (c.has y.0),
    none_hindered es h.1,
  )
    where
      last : (d : Bool) → (d && false) ≡ false
      last true = refl
      last false = refl

  pub all_clear : HasNoObstacle conf c a b
  all_clear = record { gone = none_held (finite.entries a); there = none_hindered (finite.entries b) (all_there b) }

-- at the root and without a filter all is
pub all_compared : (types : List AttributeType) (base : Path) (filter : Option (Bor Made)) → filter ≡ None → is_root base ≡ true → (p : Path) (x y : Option EntryContent)
    → (begins base p && (passes types (filter_in filter) x || passes types (filter_in filter) y)) ≡ true
all_compared types [] filter none root p x y = ap (λ f. passes types (filter_in f) x || passes types (filter_in f) y) none
all_compared types (s ∷ base) filter none root p x y = absurd cc
