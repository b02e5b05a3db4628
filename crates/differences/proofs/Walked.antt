-- The walk over both directories, entry by entry.
use Rattle.std.proofs.Common.{◌≡◌, ℕ, ◌+◌, ◌-◌, ◌<◌, ◌≤◌, Bool, true, false, cond, not, List, [], ◌∷◌, ◌++◌, map, filter, length, drop, reverse, get_or, Some, refl, sym, ◌∙◌, ap, subst, append_assoc, arith}
use Rattle.std.specs.Prelude.{is_some, ◌&&◌, ◌||◌, ◌==◌}
use Rattle.std.specs.Borrow.{Bor}
use Rattle.std.specs.Prelude.{Result, Err}
use Rattle.std.specs.Result.{IsErrAnd}
use Rattle.std.proofs.lemmas.Result.{err_from_is_err_and}
use Rattle.device.specs.Device.{Written}
use Rattle.ldif.specs.declared.write.WriteFault.{WriteFault}
use Rattle.ldif.specs.declared.write.WriteFault.TheVariants as faults
use Rattle.ldif.specs.Written.{Writes, WritesOn, end_of}
use Rattle.databases.proofs.Pieces.{want_at_once}
use Rattle.std.specs.List.{flat_map, All, AllByRecursion}
use Rattle.std.proofs.lemmas.List.Elements.{All-from_recursion}
use Rattle.std.specs.FinMap as finite
use Rattle.std.proofs.lemmas.Grind.{flat_map-append}
use Rattle.std.proofs.lemmas.List.{append-nil, drop-map, drop_more, drop_all, length-map, length-reverse, get_or-reverse, map-append, reverse-append}
use Rattle.ldif.specs.declared.record.Record.{Record}
use Rattle.paths.specs.Paths.{Path, begins}
use Rattle.schema.specs.Conf.{Conf}
use Rattle.entries.specs.Entries.{EntryContent}
use Rattle.entries.specs.StoredEntries.{Entry}
use Rattle.entries.proofs.StaysGood.{all_kept}
use Rattle.tree.specs.Directories.{Entries}
use Rattle.tree.specs.Trees.{seen_entries}
use Rattle.databases.proofs.DumpText.{all_begin}
use Rattle.databases.specs.inner.Dumps.{IsThere}
use Rattle.differences.specs.Comments.{change_text}
use Rattle.differences.specs.Differences.{Extent, removing, changes_of, is_some_change, only_in, changes_between}
use Rattle.differences.specs.Texts.{difference, differs}
use Rattle.differences.specs.inner.Walks.{changes_text, changes_by, all_changes_by, changes_ahead, path_of, gone_of, paths_gone, removals, lent_paths}
use Rattle.differences.proofs.PathMaps.{all_there}

-- ---- the entries of a directory, as they are lent

module _ (d : Entries) (items : List (Path × Entry)) (root : Path) (top : root ≡ []) (seen : seen_entries items ≡ filter (λ e. begins root e.0) (finite.entries d)) where
  pub all_seen : seen_entries items ≡ finite.entries d
  all_seen = seen ∙ ap (λ (p : Path). filter (λ e. begins p e.0) (finite.entries d)) top ∙ all_begin (finite.entries d)

  each_there : (es : List (Path × Entry)) → AllByRecursion (λ e. finite.get d e.0 ≡ Some e.1) (seen_entries es) → AllByRecursion (IsThere d) es
  each_there [] h = tt
  each_there (e ∷ es) h = (h.0, each_there es h.1)

  pub lent_there : AllByRecursion (IsThere d) items
  lent_there = each_there items (subst (AllByRecursion (λ e. finite.get d e.0 ≡ Some e.1)) (sym all_seen) (all_there d))

-- those at and below a path are there, too
pub some_there : (d : Entries) (items : List (Path × Entry)) (base : Path) → seen_entries items ≡ filter (λ e. begins base e.0) (finite.entries d) → AllByRecursion (IsThere d) items
some_there d items base seen = each items (subst (AllByRecursion (λ e. finite.get d e.0 ≡ Some e.1)) (sym seen) (all_kept (λ e. finite.get d e.0 ≡ Some e.1) (λ e. begins base e.0) (finite.entries d) (all_there d)))
  where
    each : (es : List (Path × Entry)) → AllByRecursion (λ e. finite.get d e.0 ≡ Some e.1) (seen_entries es) → AllByRecursion (IsThere d) es
    each [] h = tt
    each (e ∷ es) h = (h.0, each es h.1)

-- ---- what is to be done where the second directory has entries

module _ (conf : Conf) (c : Extent) (a b : Entries) where
  changes_are : (es : List (Path × Entry)) → all_changes_by conf c a b es ≡ flat_map (changes_of conf c a b) (seen_entries es)
  changes_are [] = refl
  changes_are (e ∷ es) = ap (λ (rs : List Record). changes_by conf c a b e ++ rs) (changes_are es)

  pub ahead_is : (items : List (Path × Entry)) → seen_entries items ≡ finite.entries b → changes_ahead conf c a b ≡ all_changes_by conf c a b items
  ahead_is items are = ap (flat_map (changes_of conf c a b)) (sym are) ∙ sym (changes_are items)

  -- the text of the first that is left, behind a text, and of none
  pub text_next : (text : List ℕ) (es : List (Path × Entry)) (e : Path × Entry) (rest : List (Path × Entry)) → es ≡ e ∷ rest
      → text ++ changes_text (all_changes_by conf c a b es) ≡ (text ++ changes_text (changes_by conf c a b e)) ++ changes_text (all_changes_by conf c a b rest)
  text_next text es e rest steps =
      ap (λ (xs : List (Path × Entry)). text ++ changes_text (all_changes_by conf c a b xs)) steps
      ∙ ap (λ (t : List ℕ). text ++ t) (flat_map-append change_text (changes_by conf c a b e) (all_changes_by conf c a b rest))
      ∙ sym (append_assoc text (changes_text (changes_by conf c a b e)) (changes_text (all_changes_by conf c a b rest)))

  pub text_end : (text : List ℕ) (es : List (Path × Entry)) → es ≡ [] → text ++ changes_text (all_changes_by conf c a b es) ≡ text
  text_end text es none = ap (λ (xs : List (Path × Entry)). text ++ changes_text (all_changes_by conf c a b xs)) none ∙ append-nil text

pub some_of_both : (xs ys : List Record) → is_some_change (xs ++ ys) ≡ is_some_change xs || is_some_change ys
some_of_both [] ys = refl
some_of_both (x ∷ xs) ys = refl

-- what was some before, with what is some of the next and of the rest
pub some_so_far : (before next : Bool) (xs ys : List Record) (whole : Bool) → next ≡ is_some_change xs → before || is_some_change (xs ++ ys) ≡ whole → (before || next) || is_some_change ys ≡ whole
some_so_far true next xs ys whole is h = h
some_so_far false next xs ys whole is h = ap (λ (b : Bool). b || is_some_change ys) is ∙ sym (some_of_both xs ys) ∙ h

-- ---- paths that are lent

map_reverse : {X Y : Type 0} (f : X → Y) (xs : List X) → map f (reverse xs) ≡ reverse (map f xs)
map_reverse f [] = refl
map_reverse {X} {Y} f (x ∷ xs) =
    ap (map f) (reverse-append (x ∷ []) xs)
    ∙ map-append f (reverse xs) (x ∷ [])
    ∙ ap (λ (ys : List Y). ys ++ f x ∷ []) (map_reverse f xs)
    ∙ sym (reverse-append (f x ∷ []) (map f xs))

path_next : (ps : List (Bor Path)) (i : ℕ) (p : Bor Path) → i < length ps → p ≡ get_or ps (length ps - 1 - i) p → drop i (reverse (lent_paths ps)) ≡ p.now ∷ drop (i + 1) (reverse (lent_paths ps))
path_next ps i p lt is =
    let now : Bor Path → Path = λ (q : Bor Path). q.now in
    ap (drop i) (sym (map_reverse now ps))
    ∙ drop-map now i (reverse ps)
    ∙ ap (map now) (drop_more (reverse ps) i p (subst (λ n. i < n) (sym (length-reverse ps)) lt))
    ∙ ap (λ (q : Bor Path). q.now ∷ map now (drop (i + 1) (reverse ps))) (get_or-reverse ps i p lt ∙ sym is)
    ∙ ap (λ (qs : List Path). p.now ∷ qs) (sym (drop-map now (i + 1) (reverse ps)) ∙ ap (drop (i + 1)) (map_reverse now ps))

module _ (conf : Conf) (a : Entries) where
  pub removal_next : (text : List ℕ) (ps : List (Bor Path)) (i : ℕ) (p : Bor Path) → i < length ps → p ≡ get_or ps (length ps - 1 - i) p
      → text ++ changes_text (map (removing conf a) (drop i (reverse (lent_paths ps)))) ≡ (text ++ change_text (removing conf a p.now)) ++ changes_text (map (removing conf a) (drop (i + 1) (reverse (lent_paths ps))))
  removal_next text ps i p lt is =
      ap (λ (qs : List Path). text ++ changes_text (map (removing conf a) qs)) (path_next ps i p lt is)
      ∙ sym (append_assoc text (change_text (removing conf a p.now)) (changes_text (map (removing conf a) (drop (i + 1) (reverse (lent_paths ps))))))

  pub no_removal : (text : List ℕ) (ps : List (Bor Path)) (i : ℕ) → length ps ≤ i → text ++ changes_text (map (removing conf a) (drop i (reverse (lent_paths ps)))) ≡ text
  no_removal text ps i le =
      ap (λ (qs : List Path). text ++ changes_text (map (removing conf a) qs)) (drop_all i (reverse (lent_paths ps)) (omega (arith, le, length-reverse (lent_paths ps), length-map ps (λ (q : Bor Path). q.now))))
      ∙ append-nil text

-- each path that goes is one of the first directory
module _ (c : Extent) (a b : Entries) where
  gone_there : (es : List (Path × EntryContent)) → AllByRecursion (λ e. finite.get a e.0 ≡ Some e.1) es → AllByRecursion (λ p. finite.contains_key a p ≡ true) (gone_of c b es)
  gone_there [] h = tt
  gone_there (e ∷ es) h = by (c.has e.0 && not (finite.contains_key b e.0)) (gone_there es h.1)
    where
      by : (d : Bool) → AllByRecursion (λ p. finite.contains_key a p ≡ true) (gone_of c b es)
          → AllByRecursion (λ p. finite.contains_key a p ≡ true)
          (map path_of (cond d (e ∷ filter (λ x. c.has x.0 && not (finite.contains_key b x.0)) es) (filter (λ x. c.has x.0 && not (finite.contains_key b x.0)) es)))
      by false rest = rest
      by true rest = (ap is_some h.0, rest)

  each_lent : (ps : List (Bor Path)) → AllByRecursion (λ p. finite.contains_key a p ≡ true) (lent_paths ps) → AllByRecursion (λ p. finite.contains_key a p.now ≡ true) ps
  each_lent [] h = tt
  each_lent (p ∷ ps) h = (h.0, each_lent ps h.1)

  pub paths_there : (ps : List (Bor Path)) → lent_paths ps ≡ paths_gone c a b → All (λ p. finite.contains_key a p.now ≡ true) ps
  paths_there ps is =
      All-from_recursion (λ (p : Bor Path). finite.contains_key a p.now ≡ true) ps
      (each_lent ps (subst (AllByRecursion (λ p. finite.contains_key a p ≡ true)) (sym is) (gone_there (finite.entries a) (all_there a))))

-- ---- the whole

removals_are : (conf : Conf) (a : Entries) (xs : List (Path × EntryContent)) → map (λ x. removing conf a x.0) xs ≡ map (removing conf a) (map path_of xs)
removals_are conf a [] = refl
removals_are conf a (x ∷ xs) = ap (λ (rs : List Record). removing conf a x.0 ∷ rs) (removals_are conf a xs)

between_is : (conf : Conf) (c : Extent) (a b : Entries) → changes_between conf c a b ≡ removals conf a (paths_gone c a b) ++ changes_ahead conf c a b
unfolding changes_between
between_is conf c a b = ap (λ (rs : List Record). rs ++ changes_ahead conf c a b) (removals_are conf a (reverse (only_in c a b)) ∙ ap (map (removing conf a)) (map_reverse path_of (only_in c a b)))

difference_is : (conf : Conf) (c : Extent) (a b : Entries) → difference conf c a b ≡ changes_text (removals conf a (paths_gone c a b)) ++ changes_text (changes_ahead conf c a b)
unfolding difference
difference_is conf c a b = ap changes_text (between_is conf c a b) ∙ flat_map-append change_text (removals conf a (paths_gone c a b)) (changes_ahead conf c a b)

-- the removals of paths that are lent, behind nothing, and what is ahead
pub whole_is : (conf : Conf) (c : Extent) (a b : Entries) (nothing : List ℕ) (ps : List (Bor Path)) → nothing ≡ [] → lent_paths ps ≡ paths_gone c a b
    → difference conf c a b ≡ (nothing ++ changes_text (removals conf a (lent_paths ps))) ++ changes_text (changes_ahead conf c a b)
whole_is conf c a b nothing ps none gone = difference_is conf c a b ∙ sym (λ i. (none i ++ changes_text (removals conf a (gone i))) ++ changes_text (changes_ahead conf c a b))

some_is : (rs : List Record) → is_some_change rs ≡ not (length rs == 0)
some_is [] = refl
some_is (r ∷ rs) = let e : (length (r ∷ rs) == 0) ≡ false = grind (arith) in ap not (sym e)

some_removals : (conf : Conf) (a : Entries) (ps : List Path) → is_some_change (removals conf a ps) ≡ not (length ps == 0)
some_removals conf a ps = some_is (removals conf a ps) ∙ ap (λ n. not (n == 0)) (length-map (reverse ps) (removing conf a) ∙ length-reverse ps)

pub differs_is : (conf : Conf) (c : Extent) (a b : Entries) (ps : List (Bor Path)) (some : Bool) → lent_paths ps ≡ paths_gone c a b → some ≡ is_some_change (changes_ahead conf c a b)
    → not (length ps == 0) || some ≡ differs conf c a b
differs_is conf c a b ps some is ahead =
    (λ i. not ((sym (length-map ps (λ (q : Bor Path). q.now)) ∙ ap length is) i == 0) || ahead i)
    ∙ ap (λ (d : Bool). d || is_some_change (changes_ahead conf c a b)) (sym (some_removals conf a (paths_gone c a b)))
    ∙ sym (some_of_both (removals conf a (paths_gone c a b)) (changes_ahead conf c a b))
    ∙ ap is_some_change (sym (between_is conf c a b))

-- ---- where memory ran out before anything was written

wanting : {A : Type 0} (answer : Result A WriteFault) → IsErrAnd answer (λ e. e ≡ faults.OutOfMemory) → answer ≡ Err faults.OutOfMemory
wanting answer is = let p = err_from_is_err_and answer is in p.1 ∙ ap Err p.2

pub wants_memory_end : {A : Type 0} (answer : Result A WriteFault) → IsErrAnd answer (λ e. e ≡ faults.OutOfMemory) → (a : Written) (whole : List ℕ) → Writes (end_of answer) a a whole
wants_memory_end {A} answer is a whole =
    subst (λ (r : Result A WriteFault). Writes (end_of r) a a whole) (sym (wanting answer is)) (want_at_once a whole)

pub wants_memory_of : {A : Type 0} (answer : Result A WriteFault) → IsErrAnd answer (λ e. e ≡ faults.OutOfMemory) → (a : Written) (whole left : List ℕ) → WritesOn (end_of answer) a a whole left
wants_memory_of {A} answer is a whole left =
    subst (λ (r : Result A WriteFault). WritesOn (end_of r) a a whole left) (sym (wanting answer is)) (want_at_once a whole)
