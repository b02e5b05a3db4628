-- What plans of a modify and of a rename lead to.
use Rattle.std.proofs.Common.{◌≡◌, ◌≢◌, ℕ, Bool, true, false, cond, not, List, [], ◌∷◌, ◌++◌, Some, refl, sym, ap, subst, ◌∙◌}
use Rattle.std.specs.Prelude.{is_some, ◌&&◌}
use Rattle.std.specs.FinMap as finite
use Rattle.ldif.specs.declared.record.Mod.{Mod}
use Rattle.paths.specs.Paths.{RdnKey, Path, path_cmp, begins, parent_of, is_root}
use Rattle.schema.specs.Rdns.{TypedRdn, rdn_key_of}
use Rattle.schema.specs.GoodRdns.{IsRdn}
use Rattle.schema.specs.Conf.{Conf}
use Rattle.entries.specs.Entries.{EntryContent, IsGood}
use Rattle.tree.specs.Directories.{Entries, IsDirectory}
use Rattle.entries.specs.StoredEntries.{Entry, EntryAttribute, content_of, IsMade}
use Rattle.tree.specs.Changes.{MayStand, MayMove}
use Rattle.entries.specs.Modifies.{modify_entry, rename_entry, changed_to}
use Rattle.tree.specs.Renames.{same_path, is_taken}
use Rattle.tree.specs.Trees.{Tree}
use Rattle.tree.specs.declared.plans.Change.TheVariants as changes
use Rattle.tree.specs.inner.Plans.{renaming, IsChange}
use Rattle.tree.proofs.Adding.{parent_is}
use Rattle.tree.proofs.Kept.{equal, not_root}
use Rattle.tree.proofs.Leaves.{replaced_kept}
use Rattle.tree.proofs.Moved.{moved_kept}
use Rattle.entries.proofs.StaysGood.{modify_keeps, rename_keeps}
use Rattle.tree.proofs.Order.{path_exact}

-- ---- under the configuration that a tree was made with

pub good_under : (made conf : Conf) (d : Entries) (p : Path) (e : EntryContent) → made ≡ conf → IsDirectory made d → finite.get d p ≡ Some e → IsGood conf e
good_under made conf d p e same h at = subst (λ (r : Conf). IsGood r e) same (h.good p e at)

made_under : (made conf : Conf) (attrs : List EntryAttribute) → made ≡ conf → IsMade conf.types attrs → IsMade made.types attrs
made_under made conf attrs same h = subst (λ (r : Conf). IsMade r.types attrs) (sym same) h

-- ---- where it stood

stays : (made : Conf) (d : Entries) (p : Path) (old out : EntryContent) → IsDirectory made d → finite.get d p ≡ Some old → IsGood made out → out.rdn ≡ old.rdn → MayStand made p out
stays made d p old out h at good same = record {
  good = good;
  last = λ q s is. ap (rdn_key_of made.types) same ∙ h.last q s old (ap (λ (y : Path). finite.get d y) (sym is) ∙ at);
  root = λ is. same ∙ h.root old (ap (λ (y : Path). finite.get d y) (sym is) ∙ at);
}

pub modified_change : (t : Tree) (conf : Conf) (p : Path) (n : ℕ) (old : EntryContent) (mods : List Mod) (out : Entry) → t.conf ≡ conf → IsDirectory t.conf t.entries → finite.get t.numbers p ≡ Some n → finite.get t.entries p ≡ Some old
    → IsMade conf.types out.attrs → modify_entry conf old mods ≡ changed_to (content_of out) → IsChange t (changes.Replace p n out)
modified_change t conf p n old mods out same h number at made said =
    let k = modify_keeps conf old (content_of out) mods (good_under t.conf conf t.entries p old same h at) said in
    record {
      fit = (number, made_under t.conf conf out.attrs same made);
      directory = replaced_kept t.conf t.entries p (content_of out) h (ap is_some at)
          (stays t.conf t.entries p old (content_of out) h at (subst (λ (r : Conf). IsGood r (content_of out)) (sym same) k.0) k.1);
    }

-- ---- where it comes

not_empty : (p : Path) (x : RdnKey) → p ++ x ∷ [] ≢ []
not_empty [] x e = cc
not_empty (a ∷ p) x e = cc

last_step : (p q : Path) (x y : RdnKey) → p ++ x ∷ [] ≡ q ++ y ∷ [] → x ≡ y
last_step [] [] x y e = cc
last_step [] (b ∷ q) x y e = absurd (not_empty q y (let k : [] ≡ q ++ y ∷ [] = cc in sym k))
last_step (a ∷ p) [] x y e = absurd (not_empty p x cc)
last_step (a ∷ p) (b ∷ q) x y e = last_step p q x y cc

stands : (made conf : Conf) (to upper : Path) (new : TypedRdn) (out : EntryContent) → made ≡ conf → to ≡ upper ++ rdn_key_of conf.types new ∷ [] → IsGood conf out → out.rdn ≡ new → MayStand made to out
stands made conf to upper new out same place good is = record {
  good = subst (λ (r : Conf). IsGood r out) (sym same) good;
  last = λ q s e.
      ap (λ (r : Conf). rdn_key_of r.types out.rdn) same ∙ ap (rdn_key_of conf.types) is
      ∙ last_step upper q (rdn_key_of conf.types new) s (sym place ∙ e);
  root = λ e. absurd (not_empty upper (rdn_key_of conf.types new) (sym place ∙ e));
}

moves : (d : Entries) (p to upper : Path) (s : RdnKey) → to ≡ upper ++ s ∷ [] → finite.contains_key d p ≡ true → begins p upper ≡ false → finite.contains_key d upper ≡ true → MayMove d p to
moves d p to upper s place there apart above =
    let parent : parent_of to ≡ upper = ap parent_of place ∙ parent_is upper s in
    record {
      there = there;
      below_root = ap is_root place ∙ not_root upper s;
      parent = ap (λ (y : Path). finite.contains_key d y) parent ∙ above;
      apart = ap (begins p) parent ∙ apart;
    }

module _ (t : Tree) (conf : Conf) (p to upper : Path) (n : ℕ) (old : EntryContent) (new : TypedRdn) (delete_old : Bool) (out : Entry) (same : t.conf ≡ conf) (h : IsDirectory t.conf t.entries) (number : finite.get t.numbers p ≡ Some n) (at : finite.get t.entries p ≡ Some old)
    (rdn : IsRdn conf.types new) (place : to ≡ upper ++ rdn_key_of conf.types new ∷ []) (made : IsMade conf.types out.attrs) (said : rename_entry conf old new delete_old ≡ changed_to (content_of out)) where
  may_stand : MayStand t.conf to (content_of out)
  may_stand =
      let k = rename_keeps conf old (content_of out) new delete_old (good_under t.conf conf t.entries p old same h at) rdn said in
      stands t.conf conf to upper new (content_of out) same place k.0 k.1

  -- another spelling of its name
  respelled_change : same_path p to ≡ true → IsChange t (changes.Replace p n out)
  respelled_change tie = record {
    fit = (number, made_under t.conf conf out.attrs same made);
    directory = replaced_kept t.conf t.entries p (content_of out) h (ap is_some at)
        (subst (λ (y : Path). MayStand t.conf y (content_of out)) (sym (path_exact p to (equal (path_cmp p to) tie))) may_stand);
  }

  moved_change : begins p upper ≡ false → finite.contains_key t.entries upper ≡ true → finite.contains_key t.entries to ≡ false → IsChange t (changes.Move p to n out)
  moved_change apart above free = record {
    fit = (number, free, made_under t.conf conf out.attrs same made);
    directory = moved_kept t.conf t.entries p to (content_of out) h
        (moves t.entries p to upper (rdn_key_of conf.types new) place (ap is_some at) apart above) may_stand;
  }

  -- either of them
  pub renaming_change : begins p upper ≡ false → finite.contains_key t.entries upper ≡ true → is_taken t.entries p to ≡ false → IsChange t (renaming p to n out)
  renaming_change apart above free = elim (same_path p to) as (λ (b : Bool). same_path p to ≡ b → not b && finite.contains_key t.entries to ≡ false → IsChange t (cond b (changes.Replace p n out) (changes.Move p to n out))) [
    | true ↦ λ tie _. respelled_change tie
    | false ↦ λ tie free. moved_change apart above free
  ] refl free
