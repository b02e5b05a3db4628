-- What is to be there, as a directory.
use Rattle.std.proofs.Common.{◌≡◌, ◌↔◌, ◌≤◌, Bool, true, false, cond, not, [], ◌∷◌, ◌++◌, Option, Some, None, ◌⊎◌, inl, inr, refl, sym, ap, subst, ◌∙◌, arith}
use Rattle.std.specs.Prelude.{is_some, unwrap_or}
use Rattle.std.specs.List.{AllByRecursion}
use Rattle.std.specs.Option.{option_map}
use Rattle.std.specs.Ordering.{eq_by_cmp}
use Rattle.std.specs.FinMap as finite
use Rattle.std.specs.FinMap.Entries.{find}
use Rattle.paths.specs.Paths.{RdnKey, Path, path_cmp}
use Rattle.schema.specs.Rdns.{rdn_key_of}
use Rattle.schema.specs.Conf.{Conf, IsConf, root_rdn}
use Rattle.entries.specs.Entries.{Attributes, EntryContent, values_of, has_equal, IsGood, has_its_classes}
use Rattle.entries.specs.EntryClasses.{fits_classes, FitsClasses}
use Rattle.entries.proofs.Pushed.{IsThere}
use Rattle.tree.specs.Directories.{Entries, IsDirectory}
use Rattle.tree.proofs.Adding.{parted}
use Rattle.tree.proofs.Order.{path_total, path_exact}
use Rattle.differences.specs.EntryChanges.{is_fixed_at, users, fixed}
use Rattle.differences.specs.AsSets.{settled, settled_attributes, AreSameSets}
use Rattle.differences.specs.Differences.{Extent, sets, aimed, IsGoal}
use Rattle.differences.specs.Follows.{stays, MayLead, IsClosed, HasGoalOfSets}
use Rattle.differences.proofs.Parted.{all_pass}
use Rattle.differences.proofs.PathMaps.{Pairs, len_within}
use Rattle.differences.proofs.Gone.{tied}
use Rattle.differences.proofs.Goals.{aimed_new}
use Rattle.differences.proofs.Respelled.{same_there}
use Rattle.differences.proofs.SettledEntries.{same_types, covered, all_wanted, attributes_good, single_good, types_good}
use Rattle.differences.proofs.SettledValues.{all_weaken, each_itself}
use Rattle.differences.proofs.SettledClasses.{classes_same, with_stays}

-- what a law of entries says: the test of an entry's classes is what they ask
abbrev pub TestsClasses : Type 0
TestsClasses = (conf : Conf) (attrs : Attributes) → IsConf conf → (fits_classes conf attrs ≡ true) ↔ FitsClasses conf attrs

-- ---- the map of what is to be there

module _ (conf : Conf) (c : Extent) (a b : Entries) where
  abbrev aim : Path → EntryContent → EntryContent
  aim p = aimed c.as_sets conf.types (finite.get a p)

  -- what isn't compared, and these entries of the second directory as they are to be
  filled : Pairs → Entries
  filled [] = finite.retain_keys a (λ p. not (c.has p))
  filled (y ∷ ys) = cond (c.has y.0) (finite.insert (filled ys) y.0 (aim y.0 y.1)) (filled ys)

  filled_at : (ys : Pairs) (q : Path) → finite.get (filled ys) q ≡ cond (c.has q) (option_map (aim q) (find path_cmp q ys)) (finite.get a q)
  unfolding filled
  filled_at [] q =
      finite.get-retain_keys a (λ p. not (c.has p)) q (λ x same. ap (λ (p : Path). not (c.has p)) (sym (path_exact q x same))) ∙ by (c.has q)
    where
      by : (d : Bool) → cond (not d) (finite.get a q) None ≡ cond d None (finite.get a q)
      by true = refl
      by false = refl
  filled_at (y ∷ ys) q = by (c.has y.0) refl (eq_by_cmp path_cmp q y.0) refl (filled_at ys q)
    where
      by : (d : Bool) → c.has y.0 ≡ d → (e : Bool) → eq_by_cmp path_cmp q y.0 ≡ e → finite.get (filled ys) q ≡ cond (c.has q) (option_map (aim q) (find path_cmp q ys)) (finite.get a q)
          → finite.get (cond d (finite.insert (filled ys) y.0 (aim y.0 y.1)) (filled ys)) q ≡ cond (c.has q) (option_map (aim q) (cond e (Some y.1) (find path_cmp q ys))) (finite.get a q)
      by true has true tie rest =
          let same : q ≡ y.0 = path_exact q y.0 (tied (path_cmp q y.0) tie) in
          finite.get-insert path_total (filled ys) y.0 (aim y.0 y.1) q
          ∙ ap (λ e. cond e (Some (aim y.0 y.1)) (finite.get (filled ys) q)) tie
          ∙ ap (λ (p : Path). Some (aim p y.1)) (sym same)
          ∙ sym (ap (λ d. cond d (Some (aim q y.1)) (finite.get a q)) (ap c.has same ∙ has))
      by true has false tie rest =
          finite.get-insert path_total (filled ys) y.0 (aim y.0 y.1) q ∙ ap (λ e. cond e (Some (aim y.0 y.1)) (finite.get (filled ys) q)) tie ∙ rest
      by false has true tie rest =
          let other : c.has q ≡ false = ap c.has (path_exact q y.0 (tied (path_cmp q y.0) tie)) ∙ has in
          rest ∙ ap (λ d. cond d (option_map (aim q) (find path_cmp q ys)) (finite.get a q)) other ∙ sym (ap (λ d. cond d (Some (aim q y.1)) (finite.get a q)) other)
      by false has false tie rest = rest

  pub goal_exists : (goal : Entries) × IsGoal conf c a b goal
  goal_exists = (filled (finite.entries b), λ q. filled_at (finite.entries b) q ∙ ap (λ (o : Option EntryContent). cond (c.has q) (option_map (aim q) o) (finite.get a q)) (sym (finite.get-entries b q)))

-- ---- an entry that is settled

module _ (tests : TestsClasses) (conf : Conf) (ok : IsConf conf) where
  settled_same : (x e : EntryContent) → AreSameSets conf.types (settled conf.types x e).attrs e.attrs
  settled_same x e = record {
    types_same = same_types conf.types x.attrs e.attrs;
    within = all_wanted conf.types x.attrs e.attrs;
    covers = λ t. all_weaken (λ v. has_equal conf.types t v (values_of e.attrs t) ≡ true) (λ v. has_equal conf.types t v (values_of (settled_attributes conf.types x.attrs e.attrs) t) ≡ true)
        (covered conf.types x.attrs e.attrs t) (values_of e.attrs t) (each_itself conf.types t (values_of e.attrs t));
  }

  settled_good : (x e : EntryContent) → IsGood conf x → IsGood conf e → AllByRecursion (IsThere conf.types e.attrs) x.rdn → IsGood conf (settled conf.types x e)
  settled_good x e h g there = record {
    attrs = attributes_good conf.types x.attrs e.attrs h.attrs g.attrs;
    types_apart = types_good conf.types x.attrs e.attrs h.types_apart g.types_apart;
    class = classes_same conf ok (λ attrs. tests conf attrs ok) (settled conf.types x e).attrs e.attrs (settled_same x e) g.class;
    single = single_good conf.types x.attrs e.attrs h.attrs g.attrs g.single;
    rdn = h.rdn;
    rdn_there = all_weaken (IsThere conf.types e.attrs) (IsThere conf.types (settled_attributes conf.types x.attrs e.attrs)) (λ p. covered conf.types x.attrs e.attrs p.0 p.1) x.rdn there;
  }

  -- with what users can't change in place of its own, what is to be there is of its classes where the second directory's entry is
  pub aimed_may : (as_sets : Bool) (o : Option EntryContent) (w : EntryContent) → has_its_classes conf (users conf.types w.attrs ++ stays conf.types o w) ≡ true
      → has_its_classes conf (users conf.types (aimed as_sets conf.types o w).attrs ++ stays conf.types o (aimed as_sets conf.types o w)) ≡ true
  aimed_may false o w h = h
  aimed_may true None w h = h
  aimed_may true (Some x) w h =
      classes_same conf ok (λ attrs. tests conf attrs ok) (users conf.types (settled conf.types x w).attrs ++ fixed conf.types x.attrs) (users conf.types w.attrs ++ fixed conf.types x.attrs)
      (with_stays conf.types (fixed conf.types x.attrs) (all_pass (is_fixed_at conf.types) x.attrs) (settled conf.types x w).attrs w.attrs (settled_same x w)) h

  module _ (a b : Entries) (h : IsDirectory conf a) (g : IsDirectory conf b) where
    -- the second directory's entry has the values of the first one's RDN
    rdn_in_other : (p : Path) (x e : EntryContent) → finite.get a p ≡ Some x → finite.get b p ≡ Some e → (p ≡ []) ⊎ ((q : Path) × (s : RdnKey) × (p ≡ q ++ s ∷ [])) → AllByRecursion (IsThere conf.types e.attrs) x.rdn
    rdn_in_other p x e at to (inl top) =
        let same : e.rdn ≡ x.rdn = g.root e (ap (λ (z : Path). finite.get b z) (sym top) ∙ to) ∙ sym (h.root x (ap (λ (z : Path). finite.get a z) (sym top) ∙ at)) in
        subst (AllByRecursion (IsThere conf.types e.attrs)) same (g.good p e to).rdn_there
    rdn_in_other p x e at to (inr k) =
        same_there conf ok e.attrs e.rdn x.rdn (g.good p e to).rdn (h.good p x at).rdn
        (g.last k.0 k.1 e (ap (λ (z : Path). finite.get b z) (sym k.2) ∙ to) ∙ sym (h.last k.0 k.1 x (ap (λ (z : Path). finite.get a z) (sym k.2) ∙ at))) (g.good p e to).rdn_there

    -- what each entry that is to be there comes of
    data ComesOf (p : Path) (e : EntryContent) : Type 0 where
      First : finite.get a p ≡ Some e → ComesOf p e
      Second : finite.get b p ≡ Some e → ComesOf p e
      Settled : (x w : EntryContent) → finite.get a p ≡ Some x → finite.get b p ≡ Some w → settled conf.types x w ≡ e → ComesOf p e

    comes_of : (c : Extent) (goal : Entries) → IsGoal conf c a b goal → (p : Path) (e : EntryContent) → finite.get goal p ≡ Some e → ComesOf p e
    comes_of c goal is p e at = by (c.has p) (finite.get b p) refl (finite.get a p) refl (sym (is p) ∙ at)
      where
        value : (y z : EntryContent) → ◌≡◌ {A = Option EntryContent} (Some y) (Some z) → y ≡ z
        value y z same = ap (λ (o : Option EntryContent). unwrap_or o y) same

        by : (d : Bool) (o : Option EntryContent) → finite.get b p ≡ o → (old : Option EntryContent) → finite.get a p ≡ old → cond d (option_map (aimed c.as_sets conf.types old) o) old ≡ Some e → ComesOf p e
        by false o to old from same = First (from ∙ same)
        by true None to old from same = absurd cc
        by true (Some w) to None from same = Second (to ∙ ap (λ (z : EntryContent). Some z) (sym (aimed_new c.as_sets conf.types w)) ∙ same)
        by true (Some w) to (Some x) from same = way c.as_sets same
          where
            way : (s : Bool) → ◌≡◌ {A = Option EntryContent} (Some (aimed s conf.types (Some x) w)) (Some e) → ComesOf p e
            way false said = Second (to ∙ said)
            way true said = Settled x w from to (value (settled conf.types x w) e said)

    pub is_directory : (c : Extent) (goal : Entries) → IsGoal conf c a b goal → IsClosed goal → finite.len goal ≤ 4294967295 → IsDirectory conf goal
    is_directory c goal is closed few = record {
      good = λ p e at. good p e (comes_of c goal is p e at);
      parent = λ p s e at. closed p s (ap is_some at);
      last = λ p s e at. last p s e (comes_of c goal is (p ++ s ∷ []) e at);
      root = λ e at. root e (comes_of c goal is [] e at);
      few = few;
    }
      where
        good : (p : Path) (e : EntryContent) → ComesOf p e → IsGood conf e
        good p e (First at) = h.good p e at
        good p e (Second at) = g.good p e at
        good p e (Settled x w from to same) = subst (IsGood conf) same (settled_good x w (h.good p x from) (g.good p w to) (rdn_in_other p x w from to (parted p)))

        last : (p : Path) (s : RdnKey) (e : EntryContent) → ComesOf (p ++ s ∷ []) e → rdn_key_of conf.types e.rdn ≡ s
        last p s e (First at) = h.last p s e at
        last p s e (Second at) = g.last p s e at
        last p s e (Settled x w from to same) = ap (λ (z : EntryContent). rdn_key_of conf.types z.rdn) (sym same) ∙ h.last p s x from

        root : (e : EntryContent) → ComesOf [] e → e.rdn ≡ root_rdn conf
        root e (First at) = h.root e at
        root e (Second at) = g.root e at
        root e (Settled x w from to same) = ap (λ (z : EntryContent). z.rdn) (sym same) ∙ h.root x from

    -- ---- where all is compared as sets

    module _ (goal : Entries) (is : IsGoal conf sets a b goal) where
      same_paths : (p : Path) → finite.contains_key goal p ≡ finite.contains_key b p
      same_paths p = ap is_some (is p) ∙ by (finite.get b p)
        where
          by : (o : Option EntryContent) → is_some (option_map (aimed true conf.types (finite.get a p)) o) ≡ is_some o
          by None = refl
          by (Some e) = refl

      closed : IsClosed goal
      closed p s there = by (finite.get b (p ++ s ∷ [])) refl
        where
          by : (o : Option EntryContent) → finite.get b (p ++ s ∷ []) ≡ o → finite.contains_key goal p ≡ true
          by (Some e) at = same_paths p ∙ g.parent p s e at
          by None at = absurd (let k = sym (same_paths (p ++ s ∷ []) ∙ ap is_some at) ∙ there in cc)

      few : finite.len goal ≤ 4294967295
      few = let le = len_within goal b (λ q there. sym (same_paths q) ∙ there) in let most = g.few in omega (arith, le, most)

      -- the entry is the second directory's, or is settled
      wanted : (p : Path) (w : EntryContent) → finite.get b p ≡ Some w → finite.get goal p ≡ Some (aimed true conf.types (finite.get a p) w)
      wanted p w to = is p ∙ ap (option_map (aimed true conf.types (finite.get a p))) to

      itself : (attrs : Attributes) → AreSameSets conf.types attrs attrs
      itself attrs = record { types_same = λ t. refl; within = λ t. each_itself conf.types t (values_of attrs t); covers = λ t. each_itself conf.types t (values_of attrs t) }

      aimed_same : (o : Option EntryContent) (w : EntryContent) → AreSameSets conf.types (aimed true conf.types o w).attrs w.attrs
      aimed_same None w = itself w.attrs
      aimed_same (Some x) w = settled_same x w

      same_sets : (p : Path) (e w : EntryContent) → finite.get goal p ≡ Some e → finite.get b p ≡ Some w → AreSameSets conf.types e.attrs w.attrs
      same_sets p e w at to =
          let same : aimed true conf.types (finite.get a p) w ≡ e = ap (λ (o : Option EntryContent). unwrap_or o w) (sym (wanted p w to) ∙ at) in
          subst (λ (z : EntryContent). AreSameSets conf.types z.attrs w.attrs) same (aimed_same (finite.get a p) w)

      may : MayLead conf a b → MayLead conf a goal
      may lead p e at = by (finite.get b p) refl
        where
          by : (o : Option EntryContent) → finite.get b p ≡ o → has_its_classes conf (users conf.types e.attrs ++ stays conf.types (finite.get a p) e) ≡ true
          by (Some w) to =
              let same : aimed true conf.types (finite.get a p) w ≡ e = ap (λ (o : Option EntryContent). unwrap_or o w) (sym (wanted p w to) ∙ at) in
              subst (λ (z : EntryContent). has_its_classes conf (users conf.types z.attrs ++ stays conf.types (finite.get a p) z) ≡ true) same (aimed_may true (finite.get a p) w (lead p w to))
          by None to = absurd (let k = sym (ap is_some at) ∙ same_paths p ∙ ap is_some to in cc)

    pub goal_of_sets : HasGoalOfSets conf a b
    goal_of_sets =
        let found = goal_exists conf sets a b in record {
          goal = found.0;
          is = found.1;
          directory = is_directory sets found.0 found.1 (closed found.0 found.1) (few found.0 found.1);
          same_paths = same_paths found.0 found.1;
          same_sets = same_sets found.0 found.1;
          may_lead = may found.0 found.1;
        }
