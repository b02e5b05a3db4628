-- A directory stays one when an entry that has no child is taken away.
use Rattle.std.proofs.Common.{◌≡◌, ◌≢◌, ℕ, ◌+◌, ◌-◌, ◌≤◌, Bool, true, false, cond, List, [], ◌∷◌, ◌++◌, Some, None, refl, sym, ap, ◌∙◌, arith, length, Option, inl, inr, subst}
use Rattle.std.specs.Prelude.{is_some, ◌&&◌, ◌||◌, ◌==◌}
use Rattle.std.specs.Ordering.{eq_by_cmp, is_eq}
use Rattle.std.specs.List.{list_any}
use Rattle.std.specs.FinMap as finite
use Rattle.std.proofs.lemmas.Cmp.{tied_itself}
use Rattle.paths.specs.Paths.{RdnKey, Path, path_cmp, begins}
use Rattle.schema.specs.Rdns.{rdn_key_of}
use Rattle.schema.specs.Conf.{Conf}
use Rattle.entries.specs.Entries.{EntryContent, IsGood}
use Rattle.tree.specs.Directories.{Entries, IsDirectory}
use Rattle.tree.specs.Changes.{MayStand}
use Rattle.tree.specs.Trees.{is_child, has_child}
use Rattle.tree.proofs.Kept.{equal}
use Rattle.tree.proofs.Order.{rdn_key_total, path_total, path_exact}
use Rattle.tree.proofs.Numbered.{removed, inserted}

-- ---- a child

pub begins_more : (p q : Path) → begins p (p ++ q) ≡ true
begins_more [] q = refl
begins_more (x ∷ p) q = ap (λ o. is_eq o && begins p (p ++ q)) (tied_itself rdn_key_total x) ∙ begins_more p q

length_push : (p : Path) (s : RdnKey) → length (p ++ s ∷ []) ≡ length p + 1
length_push [] s = refl
length_push (x ∷ p) s = let k = length_push p s in omega (arith, k)

same_number : (m n : ℕ) → m ≡ n → (m == n) ≡ true
same_number m n e = ap (λ k. k == n) e ∙ itself n
  where
    itself : (n : ℕ) → (n == n) ≡ true
    itself n = grind (arith, refl)

own_child : (p : Path) (s : RdnKey) → is_child p (p ++ s ∷ []) ≡ true
own_child p s = λ i. begins_more p (s ∷ []) i && same_number (length (p ++ s ∷ [])) (length p + 1) (length_push p s) i

any_step : (a b : Bool) (x y : Bool) → (a ≡ true → b ≡ true) → (x ≡ true → y ≡ true) → a || x ≡ true → b || y ≡ true
any_step a true x y one rest is = refl
any_step true false x y one rest is = absurd (let k : false ≡ true = one refl in cc)
any_step false false x y one rest is = rest is

any_more : (f g : Path → Bool) → ((k : Path) → f k ≡ true → g k ≡ true) → (ks : List Path) → list_any f ks ≡ true → list_any g ks ≡ true
any_more f g more [] is = cc
any_more f g more (k ∷ ks) is = any_step (f k) (g k) (list_any f ks) (list_any g ks) (more k) (any_more f g more ks) is

pub child_seen : (d : Entries) (p : Path) (s : RdnKey) (x : EntryContent) → finite.get d (p ++ s ∷ []) ≡ Some x → has_child d p ≡ true
child_seen d p s x is = any_more (eq_by_cmp path_cmp (p ++ s ∷ [])) (is_child p)
    (λ k tie. ap (is_child p) (sym (path_exact (p ++ s ∷ []) k (equal (path_cmp (p ++ s ∷ []) k) tie))) ∙ own_child p s)
    (finite.keys d) (sym (finite.contains_key-keys d (p ++ s ∷ [])) ∙ ap is_some is)

-- ---- one that is taken away

other_stays : (d : Entries) (p q : Path) → q ≢ p → finite.contains_key d q ≡ true → finite.contains_key (finite.remove d p) q ≡ true
other_stays d p q apart there = by (eq_by_cmp path_cmp q p) refl
  where
    by : (b : Bool) → eq_by_cmp path_cmp q p ≡ b → finite.contains_key (finite.remove d p) q ≡ true
    by true tie = absurd (apart (path_exact q p (equal (path_cmp q p) tie)))
    by false tie = ap is_some (finite.get-remove path_total d p q ∙ ap (λ b. cond b None (finite.get d q)) tie) ∙ there

fewer : (b : Bool) (n m : ℕ) → m ≡ cond b (n - 1) n → n ≤ 4294967295 → m ≤ 4294967295
fewer true n m is le = omega (arith, is, le)
fewer false n m is le = omega (arith, is, le)

pub removed_kept : (conf : Conf) (d : Entries) (p : Path) → IsDirectory conf d → has_child d p ≡ false → IsDirectory conf (finite.remove d p)
removed_kept conf d p h leaf = record {
  good = λ q x is. h.good q x (removed d p q x is).1;
  parent = λ q s x is.
      let k = removed d p (q ++ s ∷ []) x is in
      other_stays d p q (λ same. (let c : true ≡ false = sym (child_seen d p s x (ap (λ (y : Path). finite.get d (y ++ s ∷ [])) (sym same) ∙ k.1)) ∙ leaf in cc)) (h.parent q s x k.1);
  last = λ q s x is. h.last q s x (removed d p (q ++ s ∷ []) x is).1;
  root = λ x is. h.root x (removed d p [] x is).1;
  few = fewer (finite.contains_key d p) (finite.len d) (finite.len (finite.remove d p)) (finite.len-remove path_total d p) h.few;
}

pub begins_itself : (p : Path) → begins p p ≡ true
begins_itself [] = refl
begins_itself (x ∷ p) = ap (λ o. is_eq o && begins p p) (tied_itself rdn_key_total x) ∙ begins_itself p

-- ---- one in place of another

some_of : {A : Type 0} (o : Option A) → is_some o ≡ true → (a : A) × (o ≡ Some a)
some_of None h = cc
some_of (Some a) h = (a, refl)

pub put_there : (d : Entries) (p q : Path) (e : EntryContent) → finite.contains_key d q ≡ true → finite.contains_key (finite.insert d p e) q ≡ true
put_there d p q e there =
    ap is_some (finite.get-insert path_total d p e q)
    ∙ elim (eq_by_cmp path_cmp q p) as (λ b. is_some (cond b (Some e) (finite.get d q)) ≡ true) [ true ↦ refl | false ↦ there ]

pub replaced_kept : (conf : Conf) (d : Entries) (p : Path) (e : EntryContent) → IsDirectory conf d → finite.contains_key d p ≡ true → MayStand conf p e → IsDirectory conf (finite.insert d p e)
replaced_kept conf d p e h there fit = record {
  good = λ q x is. elim (inserted d p e q x is) [ inl a ↦ subst (IsGood conf) a.1 fit.good | inr a ↦ h.good q x a.1 ];
  parent = λ q s x is. put_there d p q e (elim (inserted d p e (q ++ s ∷ []) x is) [
    | inl a ↦ (let o = some_of (finite.get d p) there in h.parent q s o.0 (ap (λ (y : Path). finite.get d y) a.0 ∙ o.1))
    | inr a ↦ h.parent q s x a.1
  ]);
  last = λ q s x is. elim (inserted d p e (q ++ s ∷ []) x is) [ inl a ↦ ap (λ (y : EntryContent). rdn_key_of conf.types y.rdn) (sym a.1) ∙ fit.last q s (sym a.0) | inr a ↦ h.last q s x a.1 ];
  root = λ x is. elim (inserted d p e [] x is) [ inl a ↦ ap (λ (y : EntryContent). y.rdn) (sym a.1) ∙ fit.root (sym a.0) | inr a ↦ h.root x a.1 ];
  few = same_few (finite.len d) (finite.len (finite.insert d p e)) (finite.len-insert path_total d p e ∙ ap (λ b. cond b (finite.len d) (finite.len d + 1)) there) h.few;
}
  where
    same_few : (n m : ℕ) → m ≡ n → n ≤ 4294967295 → m ≤ 4294967295
    same_few n m is le = omega (arith, is, le)
