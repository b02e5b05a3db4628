-- What the last path up to another one tells of it and of its parent.
use Rattle.std.proofs.Common.{◌≡◌, ℕ, zero, suc, Bool, true, false, List, [], ◌∷◌, ◌++◌, ◌-◌, length, take, drop, refl, sym, ap, ◌∙◌, Some}
use Rattle.std.specs.Prelude.{◌&&◌, is_some, IsSome}
use Rattle.std.specs.declared.cmp.Ordering.{Ordering}
use Rattle.std.specs.declared.cmp.Ordering.TheVariants.{Less, Equal, Greater}
use Rattle.std.specs.Ordering.{is_eq, is_lt, is_le, is_gt, eq_by_cmp, ordering_reverse}
use Rattle.std.specs.Map.{lookup}
use Rattle.std.specs.BTreeMap.{is_at}
use Rattle.std.specs.FinMap as finite
use Rattle.std.proofs.lemmas.Bool.{and_parts}
use Rattle.std.proofs.lemmas.Cmp.{tied_itself}
use Rattle.paths.specs.Paths.{Path, rdn_key_cmp, path_cmp, begins, parent_of}
use Rattle.schema.specs.Conf.{Conf}
use Rattle.tree.specs.Directories.{Entries, IsDirectory}
use Rattle.tree.specs.inner.Trees.{numbers_of}
use Rattle.tree.proofs.Ancestors.{closed}
use Rattle.tree.proofs.Kept.{equal}
use Rattle.tree.proofs.Numbered.{IsRising, numbers_get}
use Rattle.tree.proofs.Order.{rdn_key_total, path_total, path_exact, step_exact}
use Rattle.tree.proofs.Stretch.{begun_from, not_again}

-- an entry stands at q, which is not behind p, and none stands between the two
pub record IsLastUpTo (d : Entries) (p q : Path) : Type 0 where
  pub there : finite.contains_key d q ≡ true
  pub within : is_gt (path_cmp q p) ≡ false
  pub last : (r : Path) → finite.contains_key d r ≡ true → is_gt (path_cmp r p) ≡ false → is_lt (path_cmp q r) ≡ false

begun : (a p : Path) → begins a p ≡ true → a ++ drop (length a) p ≡ p
begun [] p h = refl
begun (x ∷ a) [] h = absurd cc
begun (x ∷ a) (y ∷ p) h = let k = and_parts _ _ h in λ i. step_exact x y (equal (rdn_key_cmp x y) k.0) i ∷ begun a p k.1 i

begins_all : (n : ℕ) (p : Path) → begins (take n p) p ≡ true
begins_all zero p = refl
begins_all (suc n) [] = refl
begins_all (suc n) (x ∷ p) = ap (λ o. is_eq o && begins (take n p) p) (tied_itself rdn_key_total x) ∙ begins_all n p

pub le_within : (o : Ordering) → is_le o ≡ true → is_gt o ≡ false
le_within Less h = refl
le_within Equal h = refl
le_within Greater h = cc

between : (o : Ordering) → is_gt o ≡ false → is_lt o ≡ false → is_eq o ≡ true
between Less g l = cc
between Equal g l = refl
between Greater g l = cc

turned : (o : Ordering) → is_lt o ≡ false → is_le (ordering_reverse o) ≡ true
turned Less h = cc
turned Equal h = refl
turned Greater h = refl

abbrev within_itself : (p : Path) → is_gt (path_cmp p p) ≡ false
within_itself p = ap is_gt (tied_itself path_total p)

parent_within : (p : Path) → is_gt (path_cmp (parent_of p) p) ≡ false
parent_within p = le_within (path_cmp (parent_of p) p) (begun_from (parent_of p) p (begins_all (length p - 1) p))

module _ (conf : Conf) (d : Entries) (h : IsDirectory conf d) (p q : Path) (k : IsLastUpTo d p q) where
  same_as : is_eq (path_cmp q p) ≡ true → q ≡ p
  same_as tie = path_exact q p (equal (path_cmp q p) tie)

  pub entry_is : eq_by_cmp path_cmp q p ≡ finite.contains_key d p
  entry_is = by (finite.contains_key d p) refl (eq_by_cmp path_cmp q p) refl
    where
      by : (there : Bool) → finite.contains_key d p ≡ there → (same : Bool) → eq_by_cmp path_cmp q p ≡ same → same ≡ there
      by true th true sa = refl
      by true th false sa = sym sa ∙ between (path_cmp q p) k.within (k.last p th (within_itself p))
      by false th true sa = sym k.there ∙ ap (finite.contains_key d) (same_as sa) ∙ th
      by false th false sa = refl

  goes_on : begins (parent_of p) q ≡ false → path_cmp q p ≡ Less → is_le (path_cmp (parent_of p) q) ≡ true → true ≡ false
  goes_on n less le = sym (begins_all _ p) ∙ not_again rdn_key_total (parent_of p) q p le n less

  missing : begins (parent_of p) q ≡ false → finite.contains_key d (parent_of p) ≡ true → true ≡ false
  missing n there = by (path_cmp q p) refl k.within
    where
      le : is_le (path_cmp (parent_of p) q) ≡ true
      le = ap is_le (path_total.antisymm (parent_of p) q) ∙ turned (path_cmp q (parent_of p)) (k.last (parent_of p) there (parent_within p))

      by : (o : Ordering) → path_cmp q p ≡ o → is_gt o ≡ false → true ≡ false
      by Less is g = goes_on n is le
      by Equal is g = sym (begins_all _ p) ∙ ap (begins (parent_of p)) (sym (path_exact q p is)) ∙ n
      by Greater is g = cc

  pub parent_is : begins (parent_of p) q ≡ finite.contains_key d (parent_of p)
  parent_is = by (begins (parent_of p) q) refl (finite.contains_key d (parent_of p)) refl
    where
      by : (on : Bool) → begins (parent_of p) q ≡ on → (there : Bool) → finite.contains_key d (parent_of p) ≡ there → on ≡ there
      by true b true t = refl
      by true b false t =
          sym (closed conf d h (drop (length (parent_of p)) q) (parent_of p) (ap (finite.contains_key d) (begun (parent_of p) q b) ∙ k.there)) ∙ t
      by false b true t = sym (missing b t)
      by false b false t = refl

-- ---- what the map of the numbers tells

module _ (d : Entries) (es : List (Path × ℕ)) (rising : IsRising es) (numbered : (q : Path) → finite.contains_key (numbers_of es) q ≡ finite.contains_key d q) where
  found : (q : Path) → is_some (lookup (is_at (path_cmp q)) es) ≡ finite.contains_key d q
  found q = ap is_some (sym (numbers_get es q rising)) ∙ numbered q

  -- a path that is there, and none up to p behind it
  pub is_last : (p q : Path) (n : ℕ) → lookup (is_at (path_cmp q)) es ≡ Some n → is_gt (path_cmp q p) ≡ false
      → ((r : Path) → is_gt (path_cmp r p) ≡ false → IsSome (lookup (is_at (path_cmp r)) es) → is_lt (path_cmp q r) ≡ false) → IsLastUpTo d p q
  is_last p q n here within last = record {
    there = sym (found q) ∙ ap is_some here;
    within = within;
    last = λ r there le. last r le (found r ∙ there);
  }
