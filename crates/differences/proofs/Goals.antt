-- What is to be at each path.
use Rattle.std.proofs.Common.{◌≡◌, Bool, true, false, cond, not, List, [], ◌∷◌, Option, Some, None, refl, sym, ap, ◌∙◌}
use Rattle.std.specs.Prelude.{is_some, ◌&&◌}
use Rattle.std.specs.List.{AllByRecursion, filter}
use Rattle.std.specs.Option.{option_map}
use Rattle.std.specs.FinMap as finite
use Rattle.values.specs.declared.types.AttributeType.{AttributeType}
use Rattle.paths.specs.Paths.{Path}
use Rattle.schema.specs.Conf.{Conf}
use Rattle.entries.specs.Entries.{EntryContent}
use Rattle.tree.specs.Directories.{Entries}
use Rattle.differences.specs.Differences.{Extent, whole, aimed, IsGoal, only_in}
use Rattle.differences.specs.Follows.{IsLeftAt}
use Rattle.differences.proofs.PathMaps.{Pairs, all_there}
use Rattle.differences.proofs.Gone.{missing_in}

pub aimed_new : (as_sets : Bool) (types : List AttributeType) (e : EntryContent) → aimed as_sets types None e ≡ e
aimed_new true types e = refl
aimed_new false types e = refl

pub left_itself : (types : List AttributeType) (o : Option EntryContent) → IsLeftAt types o o o
left_itself types None = tt
left_itself types (Some e) = record { rdn = refl; users = refl; fixed = refl }

pub whole_is : (conf : Conf) (a b : Entries) → IsGoal conf whole a b b
whole_is conf a b p = sym (itself (finite.get b p))
  where
    itself : (o : Option EntryContent) → option_map (λ e. e) o ≡ o
    itself None = refl
    itself (Some e) = refl

module _ (conf : Conf) (c : Extent) (a b goal : Entries) (is : IsGoal conf c a b goal) where
  abbrev aim : Path → EntryContent → EntryContent
  aim p = aimed c.as_sets conf.types (finite.get a p)

  pub aims_at : (p : Path) (e : EntryContent) → c.has p ≡ true → finite.get b p ≡ Some e → finite.get goal p ≡ Some (aim p e)
  aims_at p e has there = is p ∙ ap (λ d. cond d (option_map (aim p) (finite.get b p)) (finite.get a p)) has ∙ ap (option_map (aim p)) there

  some_map : {X Y : Type 0} (f : X → Y) (o : Option X) → is_some (option_map f o) ≡ is_some o
  some_map f None = refl
  some_map f (Some x) = refl

  -- what both have stays
  pub there_at : (q : Path) → finite.contains_key b q ≡ true → finite.contains_key a q ≡ true → finite.contains_key goal q ≡ true
  there_at q there old = ap is_some (is q) ∙ by (c.has q)
    where
      by : (d : Bool) → is_some (cond d (option_map (aim q) (finite.get b q)) (finite.get a q)) ≡ true
      by true = some_map (aim q) (finite.get b q) ∙ there
      by false = old

  -- of what the first has, what goes is what isn't to be there
  goes : (q : Path) → finite.contains_key a q ≡ true → (c.has q && not (finite.contains_key b q)) ≡ not (finite.contains_key goal q)
  goes q old = by (c.has q) ∙ ap not (sym (ap is_some (is q)))
    where
      by : (d : Bool) → (d && not (finite.contains_key b q)) ≡ not (is_some (cond d (option_map (aim q) (finite.get b q)) (finite.get a q)))
      by true = ap not (sym (some_map (aim q) (finite.get b q)))
      by false = sym (ap not old)

  pub goes_at : only_in c a b ≡ missing_in a goal
  goes_at = by (finite.entries a) (all_there a)
    where
      by : (es : Pairs) → AllByRecursion (λ e. finite.get a e.0 ≡ Some e.1) es → filter (λ x. c.has x.0 && not (finite.contains_key b x.0)) es ≡ filter (λ x. not (finite.contains_key goal x.0)) es
      by [] h = refl
      by (e ∷ es) h = λ i. cond (goes e.0 (ap is_some h.0) i) (e ∷ by es h.1 i) (by es h.1 i)
