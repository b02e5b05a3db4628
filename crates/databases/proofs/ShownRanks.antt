-- Postings that show what an index text says have the rank of each entry under exactly its keys.
use Rattle.std.proofs.Common.{◌≡◌, ℕ, ◌+◌, ◌<◌, Bool, true, false, cond, ◌||◌, List, [], ◌∷◌, map, get_or, Some, refl, sym, ap, subst, ◌∙◌, arith}
use Rattle.std.specs.declared.cmp.Ordering.{Ordering}
use Rattle.std.specs.declared.cmp.Ordering.TheVariants.{Less, Equal, Greater}
use Rattle.std.specs.Ordering.{is_eq, eq_by_cmp}
use Rattle.std.specs.List.{AllByRecursion, slice_get}
use Rattle.std.specs.FinMap as finite
use Rattle.std.specs.FinMap.Entries.{find}
use Rattle.std.specs.FinSet as set
use Rattle.std.proofs.lemmas.Bool.{eq-eqb, ne_eqb}
use Rattle.std.proofs.lemmas.List.Quantifiers.{position-Some}
use Rattle.std.proofs.lemmas.Option.{slice_get-get_or}
use Rattle.paths.specs.Paths.{Path, path_cmp}
use Rattle.values.specs.declared.types.AttributeType.{AttributeType}
use Rattle.schema.specs.declared.slots.IndexKind.{IndexKind}
use Rattle.schema.specs.declared.slots.Slot.{Slot}
use Rattle.schema.specs.Slots.{same_slot}
use Rattle.schema.specs.Conf.{Conf}
use Rattle.schema.proofs.SlotOrder.{same_is}
use Rattle.entries.specs.Entries.{EntryContent}
use Rattle.tree.specs.Directories.{Entries}
use Rattle.tree.proofs.Order.{path_exact}
use Rattle.id_sets.specs.Lists.{holds}
use Rattle.index_keys.specs.EntryKeys.{has_key}
use Rattle.index_text.specs.Postings.{Shown, slot_in}
use Rattle.databases.specs.Ranks.{rank_in}
use Rattle.databases.proofs.Places.{AreRanked, all_ranked}
use Rattle.databases.specs.IndexTexts.{ranks_with, contents}
use Rattle.databases.specs.Searches.{ReflectsDump, ShowsIndexText}

-- ---- the ranks of those that have a key

module _ (types : List AttributeType) (s : Slot) (key : List ℕ) (rank_of : Path → ℕ) where
  abbrev has : Path × EntryContent → Bool
  has e = has_key types e.1.attrs s.type_id s.kind key

  -- the ranks have exactly those of these entries that have the key
  abbrev AreTold : List ℕ → List (Path × EntryContent) → Type 0
  AreTold ranks es = AllByRecursion (λ (e : Path × EntryContent). holds ranks (rank_of e.0) ≡ has e) es

  none_yet : (n rank : ℕ) (es : List EntryContent) → n < rank → holds (ranks_with types s key rank es) n ≡ false
  none_yet n rank [] below = refl
  none_yet n rank (e ∷ es) below = by (has_key types e.attrs s.type_id s.kind key) (none_yet n (rank + 1) es (omega (arith, below)))
    where
      by : (b : Bool) → holds (ranks_with types s key (rank + 1) es) n ≡ false → holds (cond b (rank ∷ ranks_with types s key (rank + 1) es) (ranks_with types s key (rank + 1) es)) n ≡ false
      by true none = ap (λ b. b || holds (ranks_with types s key (rank + 1) es) n) (ne_eqb rank n (λ same. absurd (omega (arith, same, below)))) ∙ none
      by false none = none

  -- a rank before them changes nothing
  behind : (b : Bool) (rank n : ℕ) (ranks : List ℕ) (es : List (Path × EntryContent)) → rank < n → AreRanked rank_of n es → AreTold ranks es → AreTold (cond b (rank ∷ ranks) ranks) es
  behind b rank n ranks [] below ranked told = tt
  behind b rank n ranks (e ∷ es) below ranked told = (by b, behind b rank (n + 1) ranks es (omega (arith, below)) ranked.1 told.1)
    where
      first : rank_of e.0 ≡ n
      first = ranked.0

      by : (b : Bool) → holds (cond b (rank ∷ ranks) ranks) (rank_of e.0) ≡ has e
      by true = ap (λ b. b || holds ranks (rank_of e.0)) (ne_eqb rank (rank_of e.0) (λ same. absurd (omega (arith, same, first, below)))) ∙ told.0
      by false = told.0

  all_told : (rank : ℕ) (es : List (Path × EntryContent)) → AreRanked rank_of rank es → AreTold (ranks_with types s key rank (map (λ e. e.1) es)) es
  all_told rank [] ranked = tt
  all_told rank (e ∷ es) ranked =
      let later = ranks_with types s key (rank + 1) (map (λ e. e.1) es) in
      (by (has e) refl, behind (has e) rank (rank + 1) later es (omega arith) ranked.1 (all_told (rank + 1) es ranked.1))
    where
      by : (b : Bool) → has e ≡ b → holds (cond b (rank ∷ ranks_with types s key (rank + 1) (map (λ e. e.1) es)) (ranks_with types s key (rank + 1) (map (λ e. e.1) es))) (rank_of e.0) ≡ b
      by true is = ap (λ b. b || holds (ranks_with types s key (rank + 1) (map (λ e. e.1) es)) (rank_of e.0)) (eq-eqb rank (rank_of e.0) (sym ranked.0))
      by false is = ap (holds (ranks_with types s key (rank + 1) (map (λ e. e.1) es))) ranked.0 ∙ none_yet rank (rank + 1) (map (λ e. e.1) es) (omega arith)

-- ---- entries of a map

equal : (o : Ordering) → is_eq o ≡ true → o ≡ Equal
equal Less h = cc
equal Equal h = refl
equal Greater h = cc

found_of : (P : Path → EntryContent → Type 0) (p : Path) (x : EntryContent) (es : List (Path × EntryContent)) → AllByRecursion (λ (e : Path × EntryContent). P e.0 e.1) es → find path_cmp p es ≡ Some x → P p x
found_of P p x [] all is = absurd cc
found_of P p x (e ∷ es) all is = by (eq_by_cmp path_cmp p e.0) refl is (found_of P p x es all.1)
  where
    by : (b : Bool) → eq_by_cmp path_cmp p e.0 ≡ b → cond b (Some e.1) (find path_cmp p es) ≡ Some x → (find path_cmp p es ≡ Some x → P p x) → P p x
    by true tie said rest =
        let place : p ≡ e.0 = path_exact p e.0 (equal (path_cmp p e.0) tie) in
        let content : e.1 ≡ x = let k : Some e.1 ≡ Some x = said in cc in
        subst (λ q. P q x) (sym place) (subst (P e.0) content all.0)
    by false tie said rest = rest said

-- ---- the slot at a place

slot_at : (slots : List Slot) (t : ℕ) (kind : IndexKind) (n : ℕ) → slot_in slots t kind ≡ Some n → slice_get slots n ≡ Some (record { type_id = t; kind = kind })
slot_at slots t kind n is =
    let wanted : Slot = record { type_id = t; kind = kind } in
    let first = position-Some (same_slot wanted) slots n wanted is in
    slice_get-get_or slots n wanted first.0 ∙ ap Some (sym (same_is wanted (get_or slots n wanted) first.1))

pub reflect : (conf : Conf) (d : Entries) (shown : Shown) → ShowsIndexText shown conf d → ReflectsDump shown conf.types d
reflect conf d shown shows = record {
  each = λ p e at. record {
    exactly = λ t kind slot key is.
        let s : Slot = record { type_id = t; kind = kind } in
        ap (λ members. set.contains members (rank_in d p)) (shows.ranks slot s key (slot_at conf.slots t kind slot (sym (shows.slots t kind) ∙ is)))
        ∙ set.contains-from_list_nat (ranks_with conf.types s key 0 (contents d)) (rank_in d p)
        ∙ found_of (λ q x. holds (ranks_with conf.types s key 0 (contents d)) (rank_in d q) ≡ has_key conf.types x.attrs t kind key) p e (finite.entries d)
        (all_told conf.types s key (rank_in d) 0 (finite.entries d) (all_ranked d)) (sym (finite.get-entries d p) ∙ at);
  };
}
