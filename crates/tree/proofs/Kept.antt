-- A directory stays one when an entry is added.
use Rattle.std.proofs.Common.{◌≡◌, ℕ, ◌+◌, ◌≤◌, Bool, true, false, cond, not, ◌&&◌, List, [], ◌∷◌, ◌++◌, Some, Result, Ok, Err, ◌⊎◌, inl, inr, refl, sym, ap, subst, ◌∙◌, arith}
use Rattle.std.specs.Prelude.{is_some, nat_le}
use Rattle.std.specs.declared.cmp.Ordering.{Ordering}
use Rattle.std.specs.declared.cmp.Ordering.TheVariants.{Less, Equal, Greater}
use Rattle.std.specs.Ordering.{eq_by_cmp, is_eq}
use Rattle.std.specs.List.{AllByRecursion, IsDistinct}
use Rattle.std.specs.FinMap as finite
use Rattle.std.proofs.lemmas.Cmp.{tied_itself}
use Rattle.std.proofs.lemmas.List.{same_from_push}
use Rattle.std.proofs.lemmas.Bool.{and_cases, not-false, leb-false}
use Rattle.ldif.specs.Attrs.{Attr}
use Rattle.schema.specs.declared.code.Code.{Code}
use Rattle.schema.specs.declared.code.Code.TheVariants.{EntryAlreadyExists, NoSuchObject, ObjectClassViolation, ConstraintViolation, AdminLimitExceeded}
use Rattle.paths.specs.Paths.{RdnKey, Path, path_cmp, parent_of, is_root}
use Rattle.schema.specs.Rdns.{TypedRdn, rdn_key_of}
use Rattle.schema.specs.GoodRdns.{IsRdn}
use Rattle.schema.specs.Conf.{Conf, IsConf, root_rdn, located, located_at, path_of, own_rdn}
use Rattle.schema.proofs.OwnRdns.{own_good}
use Rattle.base.specs.Answers.{◌>>=◌}
use Rattle.entries.specs.Entries.{EntryContent, Attributes, IsGood, add_lines, has_its_classes, are_single}
use Rattle.tree.specs.Directories.{Entries, IsDirectory}
use Rattle.tree.specs.Changes.{Change, Put, changed, MayStand}
use Rattle.ldif.specs.declared.record.Mode.{Mode}
use Rattle.tree.specs.Adds.{with_entry, entry_of, add_at, add}
use Rattle.tree.proofs.Order.{path_total, path_exact}
use Rattle.base.proofs.Bound.{bind_ok, same_ok}
use Rattle.entries.proofs.Pushed.{AreGood, lines_good, rdn_good, all_come}
use Rattle.entries.proofs.StaysGood.{guard_ok}
use Rattle.tree.proofs.Adding.{parent_is}

pub equal : (o : Ordering) → is_eq o ≡ true → o ≡ Equal
equal Less h = cc
equal Equal h = refl
equal Greater h = cc

-- ---- the map

pub record MayPut (conf : Conf) (d : Entries) (p : Path) (e : EntryContent) : Type 0 where
  pub stands : MayStand conf p e
  pub parent : (not (is_root p) && not (finite.contains_key d (parent_of p))) ≡ false
  pub room : nat_le 4294967295 (finite.len d) ≡ false

pub not_root : (q : Path) (s : RdnKey) → is_root (q ++ s ∷ []) ≡ false
not_root [] s = refl
not_root (x ∷ q) s = refl

module _ (conf : Conf) (d : Entries) (p : Path) (e : EntryContent) (h : IsDirectory conf d) (may : MayPut conf d p e) where
  -- what the new map has is the new entry, or was there
  inserted : (q : Path) (x : EntryContent) → finite.get (finite.insert d p e) q ≡ Some x → ((q ≡ p) × (x ≡ e)) ⊎ (finite.get d q ≡ Some x)
  inserted q x is = by (eq_by_cmp path_cmp q p) refl (sym (finite.get-insert path_total d p e q) ∙ is)
    where
      by : (b : Bool) → eq_by_cmp path_cmp q p ≡ b → cond b (Some e) (finite.get d q) ≡ Some x → ((q ≡ p) × (x ≡ e)) ⊎ (finite.get d q ≡ Some x)
      by true tie said = inl (path_exact q p (equal (path_cmp q p) tie), cc)
      by false tie said = inr said

  still_there : (q : Path) → finite.contains_key d q ≡ true → finite.contains_key (finite.insert d p e) q ≡ true
  still_there q there =
      ap is_some (finite.get-insert path_total d p e q)
      ∙ elim (eq_by_cmp path_cmp q p) as (λ b. is_some (cond b (Some e) (finite.get d q)) ≡ true) [ true ↦ refl | false ↦ there ]

  parent_there : (q : Path) (s : RdnKey) → q ++ s ∷ [] ≡ p → finite.contains_key d q ≡ true
  parent_there q s is = elim (and_cases (not (is_root p)) (not (finite.contains_key d (parent_of p))) may.parent) [
    | inl none ↦ absurd (let root = sym (not_root q s) ∙ ap is_root is ∙ not-false (is_root p) none in cc)
    | inr none ↦ ap (λ (x : Path). finite.contains_key d x) (sym (sym (ap parent_of is) ∙ parent_is q s)) ∙ not-false (finite.contains_key d (parent_of p)) none
  ]

  pub put_kept : IsDirectory conf (finite.insert d p e)
  put_kept = record {
    good = λ q x is. elim (inserted q x is) [ inl k ↦ subst (IsGood conf) (sym k.1) may.stands.good | inr k ↦ h.good q x k ];
    parent = λ q s x is. still_there q (elim (inserted (q ++ s ∷ []) x is) [ inl k ↦ parent_there q s k.0 | inr k ↦ h.parent q s x k ]);
    last = λ q s x is. elim (inserted (q ++ s ∷ []) x is) [ inl k ↦ ap (λ (y : EntryContent). rdn_key_of conf.types y.rdn) k.1 ∙ may.stands.last q s (sym k.0) | inr k ↦ h.last q s x k ];
    root = λ x is. elim (inserted [] x is) [ inl k ↦ ap (λ (y : EntryContent). y.rdn) k.1 ∙ may.stands.root (sym k.0) | inr k ↦ h.root x k ];
    few = few;
  }
    where
      few : finite.len (finite.insert d p e) ≤ 4294967295
      few = by (finite.contains_key d p) (finite.len-insert path_total d p e)
        where
          by : (b : Bool) → finite.len (finite.insert d p e) ≡ cond b (finite.len d) (finite.len d + 1) → finite.len (finite.insert d p e) ≤ 4294967295
          by true is = let k = h.few in omega arith
          by false is = let k = leb-false 4294967295 (finite.len d) may.room in omega arith

-- ---- the entry

own_last : (conf : Conf) (r : TypedRdn) (rs : List TypedRdn) → (front : Path) × (path_of conf (r ∷ rs) ≡ front ++ rdn_key_of conf.types (own_rdn conf (r ∷ rs)) ∷ [])
own_last conf r [] = ([], refl)
own_last conf r (s ∷ rs) = let k = own_last conf s rs in (rdn_key_of conf.types r ∷ k.0, ap (λ (x : Path). rdn_key_of conf.types r ∷ x) k.1)

nil_push : (q : Path) (s : RdnKey) → ◌≡◌ {A = Path} [] (q ++ s ∷ []) → ⊥
nil_push q s e = let k = sym (not_root q s) ∙ sym (ap is_root e) in cc

last_is : (conf : Conf) (rs : List TypedRdn) (q : Path) (s : RdnKey) → path_of conf rs ≡ q ++ s ∷ [] → rdn_key_of conf.types (own_rdn conf rs) ≡ s
last_is conf [] q s e = absurd (nil_push q s e)
last_is conf (r ∷ rs) q s e = let k = own_last conf r rs in (same_from_push k.0 q (rdn_key_of conf.types (own_rdn conf (r ∷ rs))) s (sym k.1 ∙ e)).1

root_is : (conf : Conf) (rs : List TypedRdn) → path_of conf rs ≡ [] → own_rdn conf rs ≡ root_rdn conf
root_is conf [] e = refl
root_is conf (r ∷ rs) e = absurd cc

none_good : (conf : Conf) → AreGood conf.types []
unfolding IsDistinct
none_good conf = record { all = tt; types_apart = tt }

put_ok : (conf : Conf) (d : Entries) (p : Path) (e : EntryContent) (out : Change) → with_entry conf d p e ≡ Ok out → (has_its_classes conf e.attrs ≡ true) × (are_single conf.types e.attrs ≡ true) × (nat_le 4294967295 (finite.len d) ≡ false) × (Put p e ≡ out)
put_ok conf d p e out said =
    let a = guard_ok (not (has_its_classes conf e.attrs)) ObjectClassViolation (cond (not (are_single conf.types e.attrs)) (Err ConstraintViolation) (cond (nat_le 4294967295 (finite.len d)) (Err AdminLimitExceeded) (Ok (Put p e)))) out said in
    let b = guard_ok (not (are_single conf.types e.attrs)) ConstraintViolation (cond (nat_le 4294967295 (finite.len d)) (Err AdminLimitExceeded) (Ok (Put p e))) out a.1 in
    let f = guard_ok (nat_le 4294967295 (finite.len d)) AdminLimitExceeded (Ok (Put p e)) out b.1 in
    (not-false (has_its_classes conf e.attrs) a.0, not-false (are_single conf.types e.attrs) b.0, f.0, same_ok (Put p e) out f.1)

pub keeps : ((conf : Conf) (text : List ℕ) (rs : List TypedRdn) → located conf text ≡ located_at rs → AllByRecursion (IsRdn conf.types) rs)
    → (conf : Conf) (mode : Mode) (d : Entries) (dn : List ℕ) (lines : List Attr) (out : Change) → IsConf conf → IsDirectory conf d → add conf mode d dn lines ≡ Ok out → IsDirectory conf (changed d out)
unfolding add add_at
keeps reads conf mode d dn lines out ok h said =
    let b = bind_ok (located conf dn) (λ rs. add_at conf mode d (path_of conf rs) (own_rdn conf rs) lines) out said in
    let rs : List TypedRdn = b.0 in
    let p : Path = path_of conf rs in
    let rdn : TypedRdn = own_rdn conf rs in
    let fine = reads conf dn rs b.1 in
    let put : Attributes → Result Change Code = λ attrs. with_entry conf d p (entry_of conf rdn attrs) in
    let g = guard_ok (finite.contains_key d p) EntryAlreadyExists (cond (not (is_root p) && not (finite.contains_key d (parent_of p))) (Err NoSuchObject) (add_lines mode conf.types [] lines >>= put)) out b.2 in
    let k = guard_ok (not (is_root p) && not (finite.contains_key d (parent_of p))) NoSuchObject (add_lines mode conf.types [] lines >>= put) out g.1 in
    let l = bind_ok (add_lines mode conf.types [] lines) put out k.1 in
    let e : EntryContent = entry_of conf rdn l.0 in
    let tests = put_ok conf d p e out l.2 in
    let is_rdn : IsRdn conf.types rdn = own_good conf ok rs fine in
    let attrs = rdn_good conf.types rdn l.0 is_rdn.avas (lines_good mode conf.types lines [] l.0 (none_good conf) l.1) in
    subst (λ (c : Change). IsDirectory conf (changed d c)) tests.3 (put_kept conf d p e h (record {
      stands = record {
        good = record { attrs = attrs.all; types_apart = attrs.types_apart; class = tests.0; single = tests.1; rdn = is_rdn; rdn_there = all_come conf.types rdn l.0 };
        last = λ q s is. last_is conf rs q s is;
        root = λ is. root_is conf rs is;
      };
      parent = k.0;
      room = tests.2;
    }))

-- an entry that was put is there
pub get_inserted : (d : Entries) (p : Path) (e : EntryContent) → finite.get (finite.insert d p e) p ≡ Some e
get_inserted d p e = finite.get-insert path_total d p e p ∙ ap (λ o. cond (is_eq o) (Some e) (finite.get d p)) (tied_itself path_total p)
