-- Where nothing keeps the changes from being carried out, what is to be there is a directory, and its classes ask for nothing that users can't change.
use Rattle.std.proofs.Common.{◌≡◌, ℕ, ◌+◌, Bool, true, false, cond, not, [], ◌∷◌, ◌++◌, length, Option, Some, None, refl, sym, ap, subst, ◌∙◌, arith}
use Rattle.std.specs.Prelude.{is_some, ◌&&◌, ◌||◌, nat_lt, unwrap_or}
use Rattle.std.specs.List.{AllByRecursion, list_any}
use Rattle.std.specs.Option.{option_map}
use Rattle.std.specs.Ordering.{eq_by_cmp}
use Rattle.std.specs.FinMap as finite
use Rattle.std.specs.FinMap.Entries.{find}
use Rattle.std.proofs.lemmas.Bool.{or_parts}
use Rattle.std.proofs.lemmas.Bool.Decides.{nat_tests}
use Rattle.std.proofs.lemmas.List.{length-append}
use Rattle.paths.specs.Paths.{RdnKey, Path, path_cmp, begins, is_below, parent_of, is_root}
use Rattle.schema.specs.Conf.{Conf, IsConf}
use Rattle.entries.specs.Entries.{EntryContent, has_its_classes}
use Rattle.tree.specs.Directories.{Entries, IsDirectory}
use Rattle.tree.proofs.Adding.{parent_is}
use Rattle.tree.proofs.Leaves.{begins_more}
use Rattle.tree.proofs.Order.{path_exact}
use Rattle.differences.specs.EntryChanges.{users}
use Rattle.differences.specs.Differences.{Extent, aimed, IsGoal}
use Rattle.differences.specs.Follows.{stays, MayLead, IsClosed}
use Rattle.differences.specs.Obstacles.{stays_below, is_held, is_orphan, is_unfit, is_hindered, HasNoObstacle}
use Rattle.differences.proofs.Gone.{tied}
use Rattle.differences.proofs.Parted.{classes_parted}
use Rattle.differences.proofs.PathMaps.{Pairs}
use Rattle.differences.proofs.SettledGoals.{TestsClasses, aimed_may}

-- what holds of each entry of a map holds of the one at a path
pub at_path : (P : Path × EntryContent → Type 0) (m : Entries) → AllByRecursion P (finite.entries m) → (p : Path) (e : EntryContent) → finite.get m p ≡ Some e → P (p, e)
at_path P m all p e at = by (finite.entries m) all (sym (finite.get-entries m p) ∙ at)
  where
    by : (es : Pairs) → AllByRecursion P es → find path_cmp p es ≡ Some e → P (p, e)
    by [] h found = absurd cc
    by (y ∷ es) h found = step (eq_by_cmp path_cmp p y.0) refl found (by es h.1)
      where
        step : (c : Bool) → eq_by_cmp path_cmp p y.0 ≡ c → cond c (Some y.1) (find path_cmp p es) ≡ Some e → (find path_cmp p es ≡ Some e → P (p, e)) → P (p, e)
        step true tie said later =
            let same : y.0 ≡ p = sym (path_exact p y.0 (tied (path_cmp p y.0) tie)) in
            let entry : y.1 ≡ e = ap (λ (o : Option EntryContent). unwrap_or o y.1) said in
            subst (λ (q : Path × EntryContent). P q) (λ i. (same i, entry i)) h.0
        step false tie said later = later said

-- none of the entries passes a test
none_passes : (test : Path × EntryContent → Bool) (m : Entries) → list_any test (finite.entries m) ≡ false → (p : Path) (e : EntryContent) → finite.get m p ≡ Some e → test (p, e) ≡ false
none_passes test m none p e at = at_path (λ y. test y ≡ false) m (each (finite.entries m) none) p e at
  where
    each : (es : Pairs) → list_any test es ≡ false → AllByRecursion (λ y. test y ≡ false) es
    each [] said = tt
    each (y ∷ es) said = let k = or_parts (test y) (list_any test es) said in (k.0, each es k.1)

begins_front : (p rest : Path) → begins p (p ++ rest) ≡ true
begins_front p rest = begins_more p rest

child_below : (p : Path) (s : RdnKey) → is_below p (p ++ s ∷ []) ≡ true
child_below p s =
    let longer : nat_lt (length p) (length (p ++ s ∷ [])) ≡ true = ap (nat_lt (length p)) (length-append p (s ∷ [])) ∙ next (length p) in
    λ i. begins_front p (s ∷ []) i && longer i
  where
    next : (n : ℕ) → nat_lt n (n + 1) ≡ true
    next n = grind (arith, nat_tests)

module _ (tests : TestsClasses) (conf : Conf) (ok : IsConf conf) (c : Extent) (a b goal : Entries) (h : IsDirectory conf a) (g : IsDirectory conf b) (is : IsGoal conf c a b goal) (clear : HasNoObstacle conf c a b) where
  abbrev aim : Path → EntryContent → EntryContent
  aim p = aimed c.as_sets conf.types (finite.get a p)

  -- what is to be at a path, by whether it is compared
  there_in : (p : Path) → c.has p ≡ true → finite.contains_key goal p ≡ finite.contains_key b p
  there_in p has = ap is_some (is p ∙ ap (λ d. cond d (option_map (aim p) (finite.get b p)) (finite.get a p)) has) ∙ by (finite.get b p)
    where
      by : (o : Option EntryContent) → is_some (option_map (aim p) o) ≡ is_some o
      by None = refl
      by (Some e) = refl

  there_out : (p : Path) → c.has p ≡ false → finite.contains_key goal p ≡ finite.contains_key a p
  there_out p has = ap is_some (is p ∙ ap (λ d. cond d (option_map (aim p) (finite.get b p)) (finite.get a p)) has)

  parent_in : (d : Entries) → IsDirectory conf d → (p : Path) (s : RdnKey) → finite.contains_key d (p ++ s ∷ []) ≡ true → finite.contains_key d p ≡ true
  parent_in d k p s there = by (finite.get d (p ++ s ∷ [])) refl
    where
      by : (o : Option EntryContent) → finite.get d (p ++ s ∷ []) ≡ o → finite.contains_key d p ≡ true
      by (Some e) at = k.parent p s e at
      by None at = absurd (let l = sym (ap is_some at) ∙ there in cc)

  -- what goes leaves none below it
  held_none : (p : Path) (s : RdnKey) → c.has p ≡ true → finite.contains_key b p ≡ false → finite.contains_key a p ≡ true → finite.contains_key a (p ++ s ∷ []) ≡ true → c.has (p ++ s ∷ []) ≡ true
  held_none p s has gone old below = by (finite.get a p) refl (finite.get a (p ++ s ∷ [])) refl
    where
      by : (o : Option EntryContent) → finite.get a p ≡ o → (q : Option EntryContent) → finite.get a (p ++ s ∷ []) ≡ q → c.has (p ++ s ∷ []) ≡ true
      by None at q to = absurd (let l = sym (ap is_some at) ∙ old in cc)
      by (Some x) at None to = absurd (let l = sym (ap is_some to) ∙ below in cc)
      by (Some x) at (Some y) to =
          let held : is_held c a b (p, x) ≡ false = at_path (λ z. is_held c a b z ≡ false) a clear.gone p x at in
          let none : stays_below c a p ≡ false = sym (λ i. (has i && not (gone i)) && stays_below c a p) ∙ held in
          let one : (is_below p (p ++ s ∷ []) && not (c.has (p ++ s ∷ []))) ≡ false = none_passes (λ z. is_below p z.0 && not (c.has z.0)) a none (p ++ s ∷ []) y to in
          last (c.has (p ++ s ∷ [])) (sym (ap (λ d. d && not (c.has (p ++ s ∷ []))) (child_below p s)) ∙ one)
        where
          last : (d : Bool) → not d ≡ false → d ≡ true
          last true said = refl
          last false said = absurd cc

  -- what comes has one above it
  above_there : (p : Path) (s : RdnKey) → c.has (p ++ s ∷ []) ≡ true → finite.contains_key b (p ++ s ∷ []) ≡ true → finite.contains_key a (p ++ s ∷ []) ≡ false → c.has p ≡ false → finite.contains_key a p ≡ true
  above_there p s has there new other = by (finite.get b (p ++ s ∷ [])) refl
    where
      q : Path
      q = p ++ s ∷ []

      upper : parent_of q ≡ p
      upper = parent_is p s

      no_root : is_root q ≡ false
      no_root = by_path p
        where
          by_path : (x : Path) → is_root (x ++ s ∷ []) ≡ false
          by_path [] = refl
          by_path (y ∷ x) = refl

      by : (o : Option EntryContent) → finite.get b q ≡ o → finite.contains_key a p ≡ true
      by None at = absurd (let l = sym (ap is_some at) ∙ there in cc)
      by (Some e) at =
          let hindered : is_hindered conf c a (q, e) ≡ false = at_path (λ z. is_hindered conf c a z ≡ false) b clear.there q e at in
          let free : (is_orphan c a q || is_unfit conf a (q, e)) ≡ false = sym (ap (λ d. d && (is_orphan c a q || is_unfit conf a (q, e))) has) ∙ hindered in
          let orphan : is_orphan c a q ≡ false = (or_parts (is_orphan c a q) (is_unfit conf a (q, e)) free).0 in
          last (finite.contains_key a p) (sym (λ i. not (no_root i) && (not (new i) && not ((ap c.has upper ∙ other) i || finite.contains_key a (upper i)))) ∙ orphan)
        where
          last : (d : Bool) → not d ≡ false → d ≡ true
          last true said = refl
          last false said = absurd cc

  pub is_closed : IsClosed goal
  is_closed p s there = by (c.has p) refl (c.has (p ++ s ∷ [])) refl
    where
      q : Path
      q = p ++ s ∷ []

      by : (d : Bool) → c.has p ≡ d → (e : Bool) → c.has q ≡ e → finite.contains_key goal p ≡ true
      by true has true below = there_in p has ∙ parent_in b g p s (sym (there_in q below) ∙ there)
      by false has false below = there_out p has ∙ parent_in a h p s (sym (there_out q below) ∙ there)
      by true has false below =
          let old : finite.contains_key a q ≡ true = sym (there_out q below) ∙ there in
          there_in p has ∙ in_other (finite.contains_key b p) refl old
        where
          in_other : (d : Bool) → finite.contains_key b p ≡ d → finite.contains_key a q ≡ true → finite.contains_key b p ≡ true
          in_other true at old = at
          in_other false at old = absurd (let l = sym (held_none p s has at (parent_in a h p s old) old) ∙ below in cc)
      by false has true below =
          let new : finite.contains_key b q ≡ true = sym (there_in q below) ∙ there in
          there_out p has ∙ in_first (finite.contains_key a q) refl new
        where
          in_first : (d : Bool) → finite.contains_key a q ≡ d → finite.contains_key b q ≡ true → finite.contains_key a p ≡ true
          in_first true at new = parent_in a h p s at
          in_first false at new = above_there p s below new at has

  pub goal_may : MayLead conf a goal
  goal_may p e at = by (c.has p) refl (finite.get b p) refl (finite.get a p) refl (sym (is p) ∙ at)
    where
      value : (y z : EntryContent) → ◌≡◌ {A = Option EntryContent} (Some y) (Some z) → y ≡ z
      value y z same = ap (λ (o : Option EntryContent). unwrap_or o y) same

      fits : (w : EntryContent) → c.has p ≡ true → finite.get b p ≡ Some w → has_its_classes conf (users conf.types w.attrs ++ stays conf.types (finite.get a p) w) ≡ true
      fits w has to =
          let hindered : is_hindered conf c a (p, w) ≡ false = at_path (λ z. is_hindered conf c a z ≡ false) b clear.there p w to in
          let free : (is_orphan c a p || is_unfit conf a (p, w)) ≡ false = sym (ap (λ d. d && (is_orphan c a p || is_unfit conf a (p, w))) has) ∙ hindered in
          last (has_its_classes conf (users conf.types w.attrs ++ stays conf.types (finite.get a p) w)) (or_parts (is_orphan c a p) (is_unfit conf a (p, w)) free).1
        where
          last : (d : Bool) → not d ≡ false → d ≡ true
          last true said = refl
          last false said = absurd cc

      by : (d : Bool) → c.has p ≡ d → (o : Option EntryContent) → finite.get b p ≡ o → (old : Option EntryContent) → finite.get a p ≡ old
          → cond d (option_map (aimed c.as_sets conf.types (finite.get a p)) (finite.get b p)) (finite.get a p) ≡ Some e
          → has_its_classes conf (users conf.types e.attrs ++ stays conf.types (finite.get a p) e) ≡ true
      by true has (Some w) to old from said =
          let same : aimed c.as_sets conf.types (finite.get a p) w ≡ e = value (aim p w) e (sym (ap (option_map (aim p)) to) ∙ said) in
          subst (λ (z : EntryContent). has_its_classes conf (users conf.types z.attrs ++ stays conf.types (finite.get a p) z) ≡ true) same (aimed_may tests conf ok c.as_sets (finite.get a p) w (fits w has to))
      by true has None to old from said = absurd (let l : ◌≡◌ {A = Option EntryContent} None (Some e) = sym (ap (option_map (aim p)) to) ∙ said in cc)
      by false has o to (Some x) from said =
          let same : x ≡ e = value x e (sym from ∙ said) in
          ap (λ (z : Option EntryContent). has_its_classes conf (users conf.types e.attrs ++ stays conf.types z e)) said
          ∙ sym (classes_parted conf e.attrs)
          ∙ (h.good p e said).class
      by false has o to None from said = absurd (let l : ◌≡◌ {A = Option EntryContent} None (Some e) = sym from ∙ said in cc)
