-- The entries of a tree, each with its rank, one after the other.
use Rattle.std.proofs.Common.{◌≡◌, ℕ, ◌+◌, ◌≤◌, List, [], ◌∷◌, ◌++◌, filter, map, length, refl, sym, ap, subst, ◌∙◌, arith, append_assoc}
use Rattle.std.specs.FinMap as finite
use Rattle.std.specs.List.Sorted.{IsPermutation}
use Rattle.std.proofs.ByRecursion.{all_shuffled}
use Rattle.std.proofs.lemmas.List.{append-nil, length-map, length-append}
use Rattle.std.proofs.lemmas.List.Sorted.{IsPermutation-trans}
use Rattle.paths.specs.Paths.{Path, begins}
use Rattle.schema.specs.Conf.{Conf}
use Rattle.entries.specs.Entries.{EntryContent}
use Rattle.entries.specs.StoredEntries.{Entry, IsMade, attributes_of, content_of}
use Rattle.tree.specs.Directories.{Entries, IsDirectory}
use Rattle.tree.specs.Trees.{seen_entries}
use Rattle.index_keys.specs.declared.type_norms.Numbered.{Numbered}
use Rattle.databases.specs.IndexTexts.{contents}
use Rattle.databases.specs.inner.RankedEntries.{AreFrom, AreRankedEntries}
use Rattle.databases.proofs.DumpText.{all_begin}

one_behind : (rank : ℕ) (cs : List EntryContent) (es : List Numbered) (c : EntryContent) (e : Numbered) → AreFrom rank cs es → e.number ≡ rank + length cs → attributes_of e.entry.now.attrs ≡ c.attrs → AreFrom rank (cs ++ c ∷ []) (es ++ e ∷ [])
one_behind rank [] [] c e h number attrs = (number ∙ (let same : rank + 0 ≡ rank = omega arith in same), attrs, tt)
one_behind rank [] (f ∷ fs) c e h number attrs = absurd h
one_behind rank (d ∷ ds) [] c e h number attrs = absurd h
one_behind rank (d ∷ ds) (f ∷ fs) c e h number attrs = (h.0, h.1, one_behind (rank + 1) ds fs c e h.2 (number ∙ (let same : rank + length (d ∷ ds) ≡ rank + 1 + length ds = omega arith in same)) attrs)

-- the entries up to here have their ranks
pub record EntriesSoFar (d : Entries) (es : List Numbered) (rank : ℕ) (left : List (Path × Entry)) : Type 0 where
  pub done : List EntryContent
  pub parts : done ++ map (λ e. content_of e.1) left ≡ contents d
  pub are : AreFrom 0 done es
  pub count : length done ≡ rank

contents_are : (items : List (Path × Entry)) → map (λ e. content_of e.1) items ≡ map (λ e. e.1) (seen_entries items)
contents_are [] = refl
contents_are (e ∷ es) = ap (λ (cs : List EntryContent). content_of e.1 ∷ cs) (contents_are es)

pub none_ranked : (d : Entries) (es : List Numbered) (items : List (Path × Entry)) (root : Path) → es ≡ [] → root ≡ [] → seen_entries items ≡ filter (λ e. begins root e.0) (finite.entries d) → EntriesSoFar d es 0 items
none_ranked d es items root none top seen = record {
  done = [];
  parts = contents_are items ∙ ap (λ (xs : List (Path × EntryContent)). map (λ e. e.1) xs) (seen ∙ ap (λ (p : Path). filter (λ e. begins p e.0) (finite.entries d)) top ∙ all_begin (finite.entries d));
  are = subst (AreFrom 0 []) (sym none) tt;
  count = refl;
}

pub one_ranked : (d : Entries) (old new : List Numbered) (rank : ℕ) (left rest : List (Path × Entry)) (e : Path × Entry) (x : Numbered) → left ≡ e ∷ rest → new ≡ old ++ x ∷ [] → x.number ≡ rank → x.entry.now ≡ e.1
    → EntriesSoFar d old rank left → EntriesSoFar d new (rank + 1) rest
one_ranked d old new rank left rest e x cut pushed number entry h = record {
  done = h.done ++ content_of e.1 ∷ [];
  parts = append_assoc h.done (content_of e.1 ∷ []) (map (λ e. content_of e.1) rest) ∙ ap (λ (es : List (Path × Entry)). h.done ++ map (λ e. content_of e.1) es) (sym cut) ∙ h.parts;
  are = subst (AreFrom 0 (h.done ++ content_of e.1 ∷ [])) (sym pushed)
      (one_behind 0 h.done old (content_of e.1) x h.are (number ∙ (let count = h.count in omega (arith, count))) (ap (λ (f : Entry). attributes_of f.attrs) entry));
  count = length-append h.done (content_of e.1 ∷ []) ∙ (let count = h.count in omega (arith, count));
}

-- there are no more than 4,294,967,295 entries
pub few_ranked : (conf : Conf) (d : Entries) (es : List Numbered) (rank : ℕ) (left rest : List (Path × Entry)) (e : Path × Entry) → IsDirectory conf d → left ≡ e ∷ rest → EntriesSoFar d es rank left → rank + 1 ≤ 4294967295
few_ranked conf d es rank left rest e directory cut h =
    let whole : h.done ++ content_of e.1 ∷ map (λ e. content_of e.1) rest ≡ contents d = ap (λ (es : List (Path × Entry)). h.done ++ map (λ e. content_of e.1) es) (sym cut) ∙ h.parts in
    let length_is : length (h.done ++ content_of e.1 ∷ map (λ e. content_of e.1) rest) ≡ finite.len d = ap length whole ∙ length-map (finite.entries d) (λ e. e.1) ∙ sym (finite.len-entries d) in
    let parts : length (h.done ++ content_of e.1 ∷ map (λ e. content_of e.1) rest) ≡ length h.done + length (content_of e.1 ∷ map (λ e. content_of e.1) rest) = length-append h.done (content_of e.1 ∷ map (λ e. content_of e.1) rest) in
    let few = directory.few in
    let count = h.count in
    omega (arith, length_is, parts, few, count)

pub all_ranked : (d : Entries) (es : List Numbered) (rank : ℕ) (left : List (Path × Entry)) → left ≡ [] → EntriesSoFar d es rank left → AreFrom 0 (contents d) es
all_ranked d es rank left none h = subst (λ (cs : List EntryContent). AreFrom 0 cs es) (sym (append-nil h.done) ∙ ap (λ (xs : List (Path × Entry)). h.done ++ map (λ e. content_of e.1) xs) (sym none) ∙ h.parts) h.are

-- in any other order they are so, too
pub ranked_moved : (conf : Conf) (d : Entries) (es fs : List Numbered) → IsPermutation es fs → AreRankedEntries conf d es → AreRankedEntries conf d fs
ranked_moved conf d es fs moved h = record {
  made = all_shuffled (λ (e : Numbered). IsMade conf.types e.entry.now.attrs) es fs moved h.made;
  in_order = h.in_order;
  from = h.from;
  moved = IsPermutation-trans h.in_order es fs h.moved moved;
}
