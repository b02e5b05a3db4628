-- An index that is made of all entries, one after the other.
use Rattle.std.proofs.Common.{◌≡◌, ℕ, Bool, true, false, cond, ◌&&◌, ◌||◌, nat_eq, List, [], ◌∷◌, ◌++◌, filter, map, Some, None, Result, Ok, Err, refl, sym, ap, ◌∙◌}
use Rattle.std.specs.Prelude.{unwrap_or, IfOk}
use Rattle.std.specs.List.{list_any, AllByRecursion}
use Rattle.std.specs.FinMap as finite
use Rattle.std.specs.FinSet as set
use Rattle.std.specs.Ordering.{eq_by_cmp}
use Rattle.std.specs.Cmp.{IsTotalOrder}
use Rattle.std.specs.FinMap.Entries.{find}
use Rattle.std.proofs.lemmas.Bool.{eqb-true, eq-eqb}
use Rattle.std.proofs.lemmas.List.Folds.{list_any-append}
use Rattle.paths.specs.Paths.{Path, path_cmp, begins}
use Rattle.schema.specs.Conf.{Conf}
use Rattle.entries.specs.Entries.{EntryContent}
use Rattle.tree.specs.Directories.{IsDirectory}
use Rattle.entries.specs.StoredEntries.{attributes_of, EntryAttribute}
use Rattle.tree.specs.Trees.{Tree, Placed, unnumbered, seen_entries, number_at, IsNumbered, HasEntry}
use Rattle.tree.proofs.Order.{path_exact}
use Rattle.tree.proofs.Kept.{equal}
use Rattle.index_text.specs.declared.slot_key.SlotKey.{SlotKey}
use Rattle.index_keys.specs.declared.type_norms.Numbered.{Numbered}
use Rattle.index_text.specs.Indexes.{Index, members}
use Rattle.index_keys.specs.EntryKeys.{slot_keys}
use Rattle.index_keys.specs.NumberedEntries.{has_among}
use Rattle.directory.specs.Indexes.{IsIndexOf}
use Rattle.directory.specs.inner.Indexes.{has_placed, has_in_tree}
use Rattle.databases.proofs.DumpText.{all_begin}
use Rattle.databases.proofs.LoadLaw.{all_there}
use Rattle.directory.proofs.RanksByNumber.{there_number}

or_false : (b : Bool) → (b || false) ≡ b
or_false true = refl
or_false false = refl

-- ---- one entry more

pub one_more : (conf : Conf) (old new : List Numbered) (x : Numbered) (e : Placed) (es rest : List Placed) (whole : ℕ → SlotKey → Bool)
    → es ≡ e ∷ rest → new ≡ old ++ x ∷ [] → x.number ≡ e.number → x.entry.now.attrs ≡ e.entry.attrs
    → ((n : ℕ) (k : SlotKey) → (has_among conf old n k || has_placed conf es n k) ≡ whole n k)
    → (n : ℕ) (k : SlotKey) → (has_among conf new n k || has_placed conf rest n k) ≡ whole n k
one_more conf old new x e es rest whole cut pushed number attrs so_far n k =
    ap (λ (xs : List Numbered). has_among conf xs n k || has_placed conf rest n k) pushed
    ∙ ap (λ b. b || has_placed conf rest n k) (list_any-append (λ (y : Numbered). nat_eq n y.number && set.contains (slot_keys conf (attributes_of y.entry.now.attrs)) k) old (x ∷ []))
    ∙ ap (λ m. (has_among conf old n k || ((nat_eq n m && set.contains (slot_keys conf (attributes_of x.entry.now.attrs)) k) || false)) || has_placed conf rest n k) number
    ∙ ap (λ (given : List EntryAttribute). (has_among conf old n k || ((nat_eq n e.number && set.contains (slot_keys conf (attributes_of given)) k) || false)) || has_placed conf rest n k) attrs
    ∙ by (has_among conf old n k) (nat_eq n e.number && set.contains (slot_keys conf (attributes_of e.entry.attrs)) k) (has_placed conf rest n k)
    ∙ ap (λ (xs : List Placed). has_among conf old n k || has_placed conf xs n k) (sym cut)
    ∙ so_far n k
  where
    by : (a b c : Bool) → ((a || (b || false)) || c) ≡ (a || (b || c))
    by true b c = refl
    by false true c = refl
    by false false c = refl

-- ---- the entries of a tree

module _ (conf : Conf) (t : Tree) where
  abbrev has_here : List (Path × EntryContent) → ℕ → SlotKey → Bool
  has_here es n k = list_any (λ e. nat_eq n (number_at t e.0) && set.contains (slot_keys conf e.1.attrs) k) es

  same_tests : (es : List Placed) → AllByRecursion (λ e. finite.get t.numbers e.path ≡ Some e.number) es → (n : ℕ) (k : SlotKey) → has_placed conf es n k ≡ has_here (seen_entries (map unnumbered es)) n k
  same_tests [] all n k = refl
  same_tests (e ∷ es) all n k =
      ap (λ (m : ℕ). (nat_eq n m && set.contains (slot_keys conf (attributes_of e.entry.attrs)) k) || has_placed conf es n k) (ap (λ o. unwrap_or o t.next_number) (sym all.0))
      ∙ ap (λ b. (nat_eq n (number_at t e.path) && set.contains (slot_keys conf (attributes_of e.entry.attrs)) k) || b) (same_tests es all.1 n k)

  -- before the first entry
  pub none_yet : (items : List Placed) (root : Path) → root ≡ []
      → seen_entries (map unnumbered items) ≡ filter (λ e. begins root e.0) (finite.entries t.entries) → AllByRecursion (λ e. finite.get t.numbers e.path ≡ Some e.number) items
      → (n : ℕ) (k : SlotKey) → has_placed conf items n k ≡ has_in_tree conf t n k
  none_yet items root top seen numbers n k =
      same_tests items numbers n k
      ∙ ap (λ (es : List (Path × EntryContent)). has_here es n k) (seen ∙ ap (λ (p : Path). filter (λ e. begins p e.0) (finite.entries t.entries)) top ∙ all_begin (finite.entries t.entries))

  -- behind the last entry
  pub no_more : (es : List Numbered) (rest : List Placed) → rest ≡ [] → ((n : ℕ) (k : SlotKey) → (has_among conf es n k || has_placed conf rest n k) ≡ has_in_tree conf t n k)
      → (n : ℕ) (k : SlotKey) → has_among conf es n k ≡ has_in_tree conf t n k
  no_more es rest none so_far n k = sym (or_false (has_among conf es n k)) ∙ ap (λ (xs : List Placed). has_among conf es n k || has_placed conf xs n k) (sym none) ∙ so_far n k

  module _ (numbered : IsNumbered t.entries t.numbers) where
    -- where no entry has the number, none of these has
    nobody_has : (n : ℕ) (k : SlotKey) → ((e : EntryContent) → HasEntry t.entries t.numbers n e → ⊥) → (es : List (Path × EntryContent)) → AllByRecursion (λ e. finite.get t.entries e.0 ≡ Some e.1) es → has_here es n k ≡ false
    nobody_has n k nobody [] all = refl
    nobody_has n k nobody (e ∷ es) all = by (nat_eq n (number_at t e.0)) refl (nobody_has n k nobody es all.1)
      where
        by : (b : Bool) → nat_eq n (number_at t e.0) ≡ b → has_here es n k ≡ false → ((b && set.contains (slot_keys conf e.1.attrs) k) || has_here es n k) ≡ false
        by true is rest = absurd (nobody e.1 (record { path = e.0; number = there_number t numbered e.0 e.1 all.0 ∙ ap (λ (m : ℕ). Some m) (sym (eqb-true n (number_at t e.0) is)); entry = all.0 }))
        by false is rest = rest

    module _ (n : ℕ) (k : SlotKey) (f : EntryContent) (h : HasEntry t.entries t.numbers n f) where
      abbrev f_has : Bool
      f_has = set.contains (slot_keys conf f.attrs) k

      -- one with the number is that entry
      same_entry : (e : Path × EntryContent) → finite.get t.entries e.0 ≡ Some e.1 → nat_eq n (number_at t e.0) ≡ true → e.1 ≡ f
      same_entry e at is =
          let place : e.0 ≡ h.path = numbered.apart e.0 h.path n (there_number t numbered e.0 e.1 at ∙ ap (λ (m : ℕ). Some m) (sym (eqb-true n (number_at t e.0) is))) h.number in
          some_same (sym at ∙ ap (λ (p : Path). finite.get t.entries p) place ∙ h.entry)
        where
          some_same : Some e.1 ≡ Some f → e.1 ≡ f
          some_same same = cc

      -- where one of these has the number and the key, the entry has the key
      hits : (es : List (Path × EntryContent)) → AllByRecursion (λ e. finite.get t.entries e.0 ≡ Some e.1) es → has_here es n k ≡ true → f_has ≡ true
      hits [] all is = absurd (let bad : false ≡ true = is in cc)
      hits (e ∷ es) all is = by (nat_eq n (number_at t e.0)) (set.contains (slot_keys conf e.1.attrs) k) refl refl (λ said. hits es all.1 said) is
        where
          by : (a b : Bool) → nat_eq n (number_at t e.0) ≡ a → set.contains (slot_keys conf e.1.attrs) k ≡ b → (has_here es n k ≡ true → f_has ≡ true) → ((a && b) || has_here es n k) ≡ true → f_has ≡ true
          by true true ea eb rest said = ap (λ (x : EntryContent). set.contains (slot_keys conf x.attrs) k) (sym (same_entry e all.0 ea)) ∙ eb
          by true false ea eb rest said = rest said
          by false b ea eb rest said = rest said

      -- where the entry is one of these and has the key, one of them has both
      found : (es : List (Path × EntryContent)) → find path_cmp h.path es ≡ Some f → f_has ≡ true → has_here es n k ≡ true
      found [] is has = absurd (let bad : None ≡ Some f = is in cc)
      found (e ∷ es) is has = by (eq_by_cmp path_cmp h.path e.0) refl (λ said. found es said has) is
        where
          or_true : (b : Bool) → (b || true) ≡ true
          or_true true = refl
          or_true false = refl

          by : (b : Bool) → eq_by_cmp path_cmp h.path e.0 ≡ b → (find path_cmp h.path es ≡ Some f → has_here es n k ≡ true) → cond b (Some e.1) (find path_cmp h.path es) ≡ Some f → ((nat_eq n (number_at t e.0) && set.contains (slot_keys conf e.1.attrs) k) || has_here es n k) ≡ true
          by true tie rest said =
              let place : h.path ≡ e.0 = path_exact h.path e.0 (equal (path_cmp h.path e.0) tie) in
              let number : number_at t e.0 ≡ n = ap (λ (p : Path). number_at t p) (sym place) ∙ ap (λ o. unwrap_or o t.next_number) h.number in
              let same : e.1 ≡ f = cc in
              ap (λ a. (a && set.contains (slot_keys conf e.1.attrs) k) || has_here es n k) (eq-eqb n (number_at t e.0) (sym number))
              ∙ ap (λ b. b || has_here es n k) (ap (λ (x : EntryContent). set.contains (slot_keys conf x.attrs) k) same ∙ has)
          by false tie rest said = ap (λ b. (nat_eq n (number_at t e.0) && set.contains (slot_keys conf e.1.attrs) k) || b) (rest said) ∙ or_true (nat_eq n (number_at t e.0) && set.contains (slot_keys conf e.1.attrs) k)

      entry_has : AllByRecursion (λ e. finite.get t.entries e.0 ≡ Some e.1) (finite.entries t.entries) → has_in_tree conf t n k ≡ f_has
      entry_has all = by (has_in_tree conf t n k) f_has refl refl
        where
          by : (a b : Bool) → has_in_tree conf t n k ≡ a → f_has ≡ b → a ≡ b
          by true true ea eb = refl
          by false false ea eb = refl
          by true false ea eb = sym (hits (finite.entries t.entries) all ea) ∙ eb
          by false true ea eb = sym ea ∙ found (finite.entries t.entries) (sym (finite.get-entries t.entries h.path) ∙ h.entry) eb

    -- an index of them is that of the tree
    pub whole : IsTotalOrder path_cmp → IsDirectory t.conf t.entries → (x : Index) (es : List Numbered) → x.conf ≡ conf
        → ((k : SlotKey) (n : ℕ) → set.contains (members x k) n ≡ has_among conf es n k) → ((n : ℕ) (k : SlotKey) → has_among conf es n k ≡ has_in_tree conf t n k)
        → IsIndexOf conf t.entries t.numbers x
    whole total directory x es same_conf has here = record {
      same_conf = same_conf;
      has = λ n e h k. has k n ∙ here n k ∙ entry_has n k e h all;
      none = λ n nobody k. has k n ∙ here n k ∙ nobody_has n k nobody (finite.entries t.entries) all;
    }
      where
        all : AllByRecursion (λ e. finite.get t.entries e.0 ≡ Some e.1) (finite.entries t.entries)
        all = all_there total t.conf t.entries directory

pub by_both : {X E : Type 0} (r : Result X E) (P Q R : X → Type 0) → ((x : X) → P x → Q x → R x) → IfOk r P → IfOk r Q → IfOk r R
by_both (Ok x) P Q R give p q = give x p q
by_both (Err e) P Q R give p q = tt
