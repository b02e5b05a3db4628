-- A map of texts, seen as files.
use Rattle.std.proofs.Common.{◌≡◌, Bool, true, false, cond, ℕ, List, [], ◌∷◌, ◌++◌, refl, sym, ◌∙◌, ap, Option, None, Some, Result, Ok, Err, OnOk, OnErr}
use Rattle.std.specs.Prelude.{map, string_bytes, string_cmp, vec_len}
use Rattle.std.specs.declared.cmp.Ordering.{Ordering}
use Rattle.std.specs.declared.cmp.Ordering.TheVariants.{Less, Equal, Greater}
use Rattle.std.specs.declared.alloc.AllocError.{AllocError}
use Rattle.std.specs.declared.string.String.{String}
use Rattle.std.specs.declared.vec.Vec.{Vec}
use Rattle.std.specs.Ordering.{is_eq, nat_cmp, eq_by_cmp}
use Rattle.std.specs.Cmp.{eq_by_cmp_equiv}
use Rattle.std.specs.Option.{option_map, option_map_or}
use Rattle.std.specs.Map.{lookup}
use Rattle.std.specs.Result.{is_ok}
use Rattle.std.specs.List.{AllZip}
use Rattle.std.specs.Str.{bytes_eq}
use Rattle.std.specs.BTreeMap.{BTreeMap, UpdatesBy, get_by_text}
use Rattle.std.specs.Cmp.Lexicographic.{slice_cmp}
use Rattle.std.specs.FinMap as finite
use Rattle.std.specs.FinMap.Entries.{find}
use Rattle.std.proofs.lemmas.Cmp.{nat_list_cmp_total}
use Rattle.std.proofs.lemmas.List.Elements.{same_from_all_zip}
use Rattle.std.proofs.lemmas.Map.Text.{is_eq-slice_cmp, btree_map_updates_text}
use Rattle.folders.specs.Folders.{Files}
use Rattle.memory_folder.specs.Memory.{file_seen, files_in, appended}

abbrev bytes_cmp : List ℕ → List ℕ → Ordering
bytes_cmp = slice_cmp nat_cmp

is_name : (q name : List ℕ) → bytes_eq name q ≡ eq_by_cmp bytes_cmp q name
is_name q name = sym (is_eq-slice_cmp name q) ∙ (eq_by_cmp_equiv nat_list_cmp_total).symm name q

map_cond : {X Y : Type 0} (f : X → Y) (b : Bool) (x y : Option X) → option_map f (cond b x y) ≡ cond b (option_map f x) (option_map f y)
map_cond f true x y = refl
map_cond f false x y = refl

same_files : (m n : Files) → ((q : List ℕ) → finite.get m q ≡ finite.get n q) → m ≡ n
same_files = finite.same_map nat_list_cmp_total (finite.slice_cmp-IsAntisymmetric finite.nat_cmp-IsAntisymmetric)

-- a file that is put in place of itself
put_again : (m : Files) (name bytes : List ℕ) → finite.get m name ≡ Some bytes → finite.insert m name bytes ≡ m
put_again m name bytes is = same_files _ _ (λ q.
    finite.get-insert nat_list_cmp_total m name bytes q
    ∙ elim (bytes_cmp q name) as (λ o. bytes_cmp q name ≡ o → cond (is_eq o) (Some bytes) (finite.get m q) ≡ finite.get m q) [
      | Less ↦ λ _. refl
      | Equal ↦ λ tied. sym is ∙ finite.get_tied nat_list_cmp_total m q name tied
      | Greater ↦ λ _. refl
    ] refl)

module _ {A B : Type 0} where
  find_seen : (q : List ℕ) (es : List (String A × Vec ℕ B)) → find bytes_cmp q (map file_seen es) ≡ option_map (λ v. v.items) (lookup (λ k. is_eq (bytes_cmp q (string_bytes k))) es)
  find_seen q [] = refl
  find_seen q (e ∷ es) =
      elim (is_eq (bytes_cmp q (string_bytes e.0))) as (λ b. cond b (Some e.1.items) (find bytes_cmp q (map file_seen es)) ≡ option_map (λ v. v.items) (cond b (Some e.1) (lookup (λ k. is_eq (bytes_cmp q (string_bytes k))) es))) [ true ↦ refl | false ↦ find_seen q es ]

  -- what stands at a name
  pub get_seen : (q : List ℕ) (m : BTreeMap (String A) (Vec ℕ B)) → finite.get (files_in m) q ≡ option_map (λ v. v.items) (get_by_text m q)
  get_seen q m = finite.get-from_entries nat_list_cmp_total (map file_seen m.entries) q ∙ find_seen q m.entries

  -- what stands at each name after a change at one
  after : (name : List ℕ) (m n : BTreeMap (String A) (Vec ℕ B)) (w : Option (Vec ℕ B)) → UpdatesBy string_cmp (λ k. bytes_cmp name (string_bytes k)) m n w → (q : List ℕ) → finite.get (files_in n) q ≡ cond (eq_by_cmp bytes_cmp q name) (option_map (λ v. v.items) w) (finite.get (files_in m) q)
  after name m n w updates q =
      get_seen q n ∙ ap (option_map (λ v. v.items)) (btree_map_updates_text name m n w updates q) ∙ map_cond (λ v. v.items) (bytes_eq name q) w (get_by_text m q)
      ∙ ap (cond (bytes_eq name q) (option_map (λ v. v.items) w)) (sym (get_seen q m)) ∙ ap (λ b. cond b (option_map (λ v. v.items) w) (finite.get (files_in m) q)) (is_name q name)

  put_files : (name : List ℕ) (m n : BTreeMap (String A) (Vec ℕ B)) (v : Vec ℕ B) → UpdatesBy string_cmp (λ k. bytes_cmp name (string_bytes k)) m n (Some v) → files_in n ≡ finite.insert (files_in m) name v.items
  put_files name m n v updates = same_files _ _ (λ q. after name m n (Some v) updates q ∙ sym (finite.get-insert nat_list_cmp_total (files_in m) name v.items q))

  -- as an insert says it, with the key of the name and the value of the bytes
  pub inserted : (k : String A) (v : Vec ℕ B) (m n : BTreeMap (String A) (Vec ℕ B)) (name bytes : List ℕ) → UpdatesBy string_cmp (string_cmp k) m n (Some v) → string_bytes k ≡ name → v.items ≡ bytes → files_in n ≡ finite.insert (files_in m) name bytes
  inserted k v m n name bytes updates named same = put_files (string_bytes k) m n v updates ∙ (λ i. finite.insert (files_in m) (named i) (same i))

  pub removed : (name : List ℕ) (m n : BTreeMap (String A) (Vec ℕ B)) → UpdatesBy string_cmp (λ k. bytes_cmp name (string_bytes k)) m n None → files_in n ≡ finite.remove (files_in m) name
  removed name m n updates = same_files _ _ (λ q. after name m n None updates q ∙ sym (finite.get-remove nat_list_cmp_total (files_in m) name q))

  -- as a look-up says it
  pub got_some : (name : List ℕ) (m : BTreeMap (String A) (Vec ℕ B)) (v : Vec ℕ B) (bytes : List ℕ) → Some v ≡ get_by_text m name → bytes ≡ v.items → Some bytes ≡ finite.get (files_in m) name
  got_some name m v bytes is same = ap Some same ∙ ap (option_map (λ v. v.items)) is ∙ sym (get_seen name m)

  pub got_none : (name : List ℕ) (m : BTreeMap (String A) (Vec ℕ B)) → None ≡ get_by_text m name → None ≡ finite.get (files_in m) name
  got_none name m is = ap (option_map (λ v. v.items)) is ∙ sym (get_seen name m)

  -- as a file that is lent says it, whose bytes were added to if there was memory
  pub appended_some : (name bytes : List ℕ) (m n : BTreeMap (String A) (Vec ℕ B)) (v w : Vec ℕ B) (r : Result (Unit {0}) AllocError) → Some v ≡ get_by_text m name → UpdatesBy string_cmp (λ k. bytes_cmp name (string_bytes k)) m n (Some w)
      → w.items ≡ cond (is_ok r) (v.items ++ bytes) v.items → OnOk r (files_in n ≡ appended name bytes (files_in m)) × OnErr r (files_in n ≡ files_in m)
  appended_some name bytes m n v w (Ok u) is updates items =
      (put_files name m n w updates ∙ ap (finite.insert (files_in m) name) items ∙ ap (λ o. option_map_or (λ old. finite.insert (files_in m) name (old ++ bytes)) o (files_in m)) (got_some name m v v.items is refl), tt)
  appended_some name bytes m n v w (Err e) is updates items =
      (tt, put_files name m n w updates ∙ ap (finite.insert (files_in m) name) items ∙ put_again (files_in m) name v.items (sym (got_some name m v v.items is refl)))

  pub appended_none : (name bytes : List ℕ) (m n : BTreeMap (String A) (Vec ℕ B)) → None ≡ get_by_text m name → n ≡ m → files_in n ≡ appended name bytes (files_in m)
  appended_none name bytes m n is same = ap files_in same ∙ ap (λ o. option_map_or (λ old. finite.insert (files_in m) name (old ++ bytes)) o (files_in m)) (got_none name m is)

  -- as a clone of the entries says it
  pub cloned : (es fs : List (String A × Vec ℕ B)) → AllZip (λ p q. (string_bytes q.0 ≡ string_bytes p.0) × (AllZip (λ (x y : ℕ). y ≡ x) p.1.items q.1.items × (vec_len q.1 ≡ vec_len p.1))) es fs → map file_seen fs ≡ map file_seen es
  cloned [] [] h = refl
  cloned [] (f ∷ fs) h = absurd h
  cloned (e ∷ es) [] h = absurd h
  cloned (e ∷ es) (f ∷ fs) h = λ i. (h.0.0 i, (same_from_all_zip _ e.1.items f.1.items h.0.1.0 (λ x y same. same)) i) ∷ cloned es fs h.1 i
