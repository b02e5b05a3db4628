-- Loading what was dumped.
use Rattle.std.proofs.Common.{◌≡◌, ℕ, ◌+◌, ◌≤◌, Bool, true, false, cond, List, [], ◌∷◌, ◌++◌, map, length, Result, Ok, Option, Some, None, refl, sym, ◌∙◌, ap, arith}
use Rattle.std.specs.Prelude.{T, is_some, ◌&&◌}
use Rattle.std.specs.List.{fold, flat_map, AllByRecursion}
use Rattle.std.specs.declared.cmp.Ordering.{Ordering}
use Rattle.std.specs.declared.cmp.Ordering.TheVariants.{Less, Equal, Greater}
use Rattle.std.specs.Ordering.{eq_by_cmp, is_eq, is_lt, ordering_reverse}
use Rattle.std.specs.Cmp.{IsTotalOrder}
use Rattle.std.specs.FinMap as finite
use Rattle.std.specs.FinMap.Entries.{find, is_sorted, below_all}
use Rattle.std.proofs.lemmas.Cmp.{tied_itself}
use Rattle.ldif.specs.declared.fault.LdifFaultKind.{LdifFaultKind}
use Rattle.ldif.specs.declared.record.Record.{Record}
use Rattle.ldif.specs.declared.record.Mode.TheVariants.{Content}
use Rattle.ldif.specs.Contents.{ContentRecord, IsWritableContent, write_content_to, readings, reading_of, as_record}
use Rattle.schema.specs.declared.code.Code.{Code}
use Rattle.base.specs.Answers.{◌>>=◌}
use Rattle.paths.specs.Paths.{RdnKey, Path, path_cmp}
use Rattle.schema.specs.Conf.{Conf, IsConf}
use Rattle.entries.specs.Entries.{EntryContent}
use Rattle.tree.specs.Directories.{Entries, IsDirectory, record_at}
use Rattle.tree.specs.Changes.{Change, changed}
use Rattle.tree.specs.Adds.{add, added, MayCome}
use Rattle.databases.specs.Runs.{State, start, outcome, of_change, take_up, step, after_records, record_of, dump_to, LoadsBackAt}

abbrev Pairs : Type 0
Pairs = List (Path × EntryContent)

split_and : (a b : Bool) → T (a && b) → T a × T b
split_and true b h = (tt, h)
split_and false b h = absurd h

less : (o : Ordering) → T (is_lt o) → o ≡ Less
less Less h = refl
less Equal h = absurd h
less Greater h = absurd h

equal : (o : Ordering) → is_eq o ≡ true → o ≡ Equal
equal Less h = cc
equal Equal h = refl
equal Greater h = cc

-- what the entries have, or else what the map has
or_get : Option EntryContent → Option EntryContent → Option EntryContent
or_get None o = o
or_get (Some v) o = Some v

or_none : (o : Option EntryContent) → or_get o None ≡ o
unfolding or_get
or_none None = refl
or_none (Some v) = refl

module _ (total : IsTotalOrder path_cmp) where
  -- what is less than a key, or ties with it, isn't among those above the key
  none_less : (k q : Path) → path_cmp q k ≡ Less → (es : Pairs) → T (below_all path_cmp k es) → find path_cmp q es ≡ None
  none_less k q lt [] h = refl
  none_less k q lt (e ∷ es) h =
      let both = split_and (is_lt (path_cmp k e.0)) (below_all path_cmp k es) h in
      ap (λ o. cond (is_eq o) (Some e.1) (find path_cmp q es)) (total.trans q k e.0 lt (less (path_cmp k e.0) both.0)) ∙ none_less k q lt es both.1

  none_tied : (k q : Path) → path_cmp q k ≡ Equal → (es : Pairs) → T (below_all path_cmp k es) → find path_cmp q es ≡ None
  none_tied k q tie [] h = refl
  none_tied k q tie (e ∷ es) h =
      let both = split_and (is_lt (path_cmp k e.0)) (below_all path_cmp k es) h in
      let is : path_cmp q e.0 ≡ Less = total.congr q k e.0 tie ∙ less (path_cmp k e.0) both.0 in
      ap (λ o. cond (is_eq o) (Some e.1) (find path_cmp q es)) is ∙ none_tied k q tie es both.1

  still_new : (m : Entries) (k : Path) (v : EntryContent) (es : Pairs) → T (below_all path_cmp k es) → AllByRecursion (λ e. finite.contains_key m e.0 ≡ false) es → AllByRecursion (λ e. finite.contains_key (finite.insert m k v) e.0 ≡ false) es
  still_new m k v [] h new = tt
  still_new m k v (e ∷ es) h new =
      let both = split_and (is_lt (path_cmp k e.0)) (below_all path_cmp k es) h in
      let above : path_cmp e.0 k ≡ Greater = total.antisymm e.0 k ∙ ap ordering_reverse (less (path_cmp k e.0) both.0) in
      (ap is_some (finite.get-insert total m k v e.0) ∙ ap (λ o. is_some (cond (is_eq o) (Some v) (finite.get m e.0))) above ∙ new.0, still_new m k v es both.1 new.1)

  -- a map that has the first entries of d, and those that are left
  record Stands (d m : Entries) (es : Pairs) : Type 0 where
    pub known : (q : Path) → finite.get d q ≡ or_get (find path_cmp q es) (finite.get m q)
    pub sorted : T (is_sorted path_cmp es)
    pub new : AllByRecursion (λ e. finite.contains_key m e.0 ≡ false) es
    pub few : finite.len m + length es ≤ 4294967295

  module _ (conf : Conf) (d : Entries) (h : IsDirectory conf d) where
    there : (m : Entries) (e : Path × EntryContent) (es : Pairs) → Stands d m (e ∷ es) → finite.get d e.0 ≡ Some e.1
    unfolding or_get
    there m e es s = s.known e.0 ∙ ap (λ o. or_get (cond (is_eq o) (Some e.1) (find path_cmp e.0 es)) (finite.get m e.0)) (tied_itself total e.0)

    may_come : ((p : Path) (s : RdnKey) → path_cmp p (p ++ s ∷ []) ≡ Less) → (m : Entries) (e : Path × EntryContent) (es : Pairs) → Stands d m (e ∷ es) → MayCome m e.0
    unfolding or_get
    may_come parent_first m e es s =
        let both = split_and (below_all path_cmp e.0 es) (is_sorted path_cmp es) s.sorted in
        record {
          new = s.new.0;
          parent = λ q x is.
              let lt : path_cmp q e.0 ≡ Less = ap (path_cmp q) is ∙ parent_first q x in
              let none : find path_cmp q (e ∷ es) ≡ None = ap (λ o. cond (is_eq o) (Some e.1) (find path_cmp q es)) lt ∙ none_less e.0 q lt es both.0 in
              let same : finite.get d q ≡ finite.get m q = s.known q ∙ ap (λ o. or_get o (finite.get m q)) none in
              ap is_some (sym same) ∙ h.parent q x e.1 (ap (finite.get d) (sym is) ∙ there m e es s);
          room = let few = s.few in omega arith;
        }

    next : (m : Entries) (e : Path × EntryContent) (es : Pairs) → Stands d m (e ∷ es) → Stands d (finite.insert m e.0 e.1) es
    unfolding or_get
    next m e es s =
        let both = split_and (below_all path_cmp e.0 es) (is_sorted path_cmp es) s.sorted in
        let longer : finite.len (finite.insert m e.0 e.1) ≡ finite.len m + 1 = finite.len-insert total m e.0 e.1 ∙ ap (λ b. cond b (finite.len m) (finite.len m + 1)) s.new.0 in
        record {
          known = λ q. s.known q ∙ by q (eq_by_cmp path_cmp q e.0) refl both.0 ∙ ap (or_get (find path_cmp q es)) (sym (finite.get-insert total m e.0 e.1 q));
          sorted = both.1;
          new = still_new m e.0 e.1 es both.0 s.new.1;
          few = let few = s.few in omega arith;
        }
      where
        by : (q : Path) (b : Bool) → eq_by_cmp path_cmp q e.0 ≡ b → T (below_all path_cmp e.0 es) → or_get (cond b (Some e.1) (find path_cmp q es)) (finite.get m q) ≡ or_get (find path_cmp q es) (cond b (Some e.1) (finite.get m q))
        by q true is below = ap (λ o. or_get o (Some e.1)) (sym (none_tied e.0 q (equal (path_cmp q e.0) is) es below))
        by q false is below = refl

    done : finite.IsAntisymmetric path_cmp → (m : Entries) → Stands d m [] → m ≡ d
    unfolding or_get
    done exact m s = finite.same_map total exact m d (λ q. sym (s.known q))

    abbrev read_of : Path × EntryContent → Result Record LdifFaultKind
    read_of x = as_record (record_of conf d x)

    loads_one : (s : State) (e : Path × EntryContent) → add conf Content s.entries (record_of conf d e).dn (record_of conf d e).attrs ≡ added e.0 e.1
        → outcome conf Content s.entries (read_of e) ≡ (finite.insert s.entries e.0 e.1, Rattle.databases.specs.declared.refusal.Outcome.TheVariants.Accepted)
    unfolding outcome
    loads_one s e adds = ap (λ (x : Result Change Code). of_change s.entries false (x >>= λ c. Ok (changed s.entries c))) adds

    -- the fold over the readings of what is left
    loaded : ((p : Path) (s : RdnKey) → path_cmp p (p ++ s ∷ []) ≡ Less) → finite.IsAntisymmetric path_cmp
        → ((m : Entries) (p : Path) (e : EntryContent) → finite.get d p ≡ Some e → MayCome m p → add conf Content m (record_at conf d p e).dn (record_at conf d p e).attrs ≡ added p e)
        → (rs : List (ℕ × Result Record LdifFaultKind)) (es : Pairs) (s : State) → map reading_of rs ≡ map read_of es → s.ended ≡ false → Stands d s.entries es
        → (let end = fold (step conf Content false) s rs in (end.entries ≡ d) × (end.refused ≡ s.refused))
    unfolding step
    loaded first exact adds [] [] s same going h = (done exact s.entries h, refl)
    loaded first exact adds [] (e ∷ es) s same going h = absurd cc
    loaded first exact adds (r ∷ rs) [] s same going h = absurd cc
    loaded first exact adds (r ∷ rs) (e ∷ es) s same going h =
        let read : r.1 ≡ read_of e = cc in
        let more : map reading_of rs ≡ map read_of es = cc in
        let t : State = record { entries = finite.insert s.entries e.0 e.1; accepted = s.accepted + 1; refused = s.refused; ended = false } in
        let one : step conf Content false s r ≡ t =
        ap (λ b. cond b s (take_up false s r.0 (outcome conf Content s.entries r.1))) going
        ∙ ap (λ (x : Result Record LdifFaultKind). take_up false s r.0 (outcome conf Content s.entries x)) read
        ∙ ap (take_up false s r.0) (loads_one s e (adds s.entries e.0 e.1 (there s.entries e es h) (may_come first s.entries e es h))) in
        let rest = loaded first exact adds rs es t more refl (next s.entries e es h) in
        (ap (λ (x : State). (fold (step conf Content false) x rs).entries) one ∙ rest.0, ap (λ (x : State). (fold (step conf Content false) x rs).refused) one ∙ rest.1)

none_there : (es : Pairs) → AllByRecursion (λ e. finite.contains_key (finite.empty {X = EntryContent} {R = path_cmp}) e.0 ≡ false) es
none_there [] = tt
none_there (e ∷ es) = (ap is_some (finite.get-empty path_cmp e.0), none_there es)

begins : (total : IsTotalOrder path_cmp) (conf : Conf) (d : Entries) → IsDirectory conf d → Stands total d finite.empty (finite.entries d)
begins total conf d h = record {
  known = λ q. finite.get-entries d q ∙ sym (or_none (find path_cmp q (finite.entries d))) ∙ ap (or_get (find path_cmp q (finite.entries d))) (sym (finite.get-empty path_cmp q));
  sorted = finite.entries_sorted d;
  new = none_there (finite.entries d);
  few = let few = h.few in omega (arith, finite.len-entries d, finite.len-empty path_cmp EntryContent);
}

all_left : (total : IsTotalOrder path_cmp) (conf : Conf) (d : Entries) (h : IsDirectory conf d) (m : Entries) (es : Pairs) → Stands total d m es → AllByRecursion (λ e. finite.get d e.0 ≡ Some e.1) es
all_left total conf d h m [] s = tt
all_left total conf d h m (e ∷ es) s = (there total conf d h m e es s, all_left total conf d h (finite.insert m e.0 e.1) es (next total conf d h m e es s))

-- each entry is there
pub all_there : IsTotalOrder path_cmp → (conf : Conf) (d : Entries) → IsDirectory conf d → AllByRecursion (λ e. finite.get d e.0 ≡ Some e.1) (finite.entries d)
all_there total conf d h = all_left total conf d h finite.empty (finite.entries d) (begins total conf d h)

pub map-map : {A B C : Type 0} (f : B → C) (g : A → B) (xs : List A) → map f (map g xs) ≡ map (λ x. f (g x)) xs
map-map f g [] = refl
map-map f g (x ∷ xs) = ap (λ ys. f (g x) ∷ ys) (map-map f g xs)

pub flat_map-map : {A B C : Type 0} (f : B → List C) (g : A → B) (xs : List A) → flat_map f (map g xs) ≡ flat_map (λ x. f (g x)) xs
flat_map-map f g [] = refl
flat_map-map f g (x ∷ xs) = ap (λ ys. f (g x) ++ ys) (flat_map-map f g xs)

pub all_written : (conf : Conf) (d : Entries) → ((p : Path) (e : EntryContent) → finite.get d p ≡ Some e → IsWritableContent (record_at conf d p e)) → (es : Pairs) → AllByRecursion (λ e. finite.get d e.0 ≡ Some e.1) es → AllByRecursion IsWritableContent (map (record_of conf d) es)
all_written conf d own [] h = tt
all_written conf d own (e ∷ es) h = (own e.0 e.1 h.0, all_written conf d own es h.1)

pub loads_back : (width : ℕ) → ((cs : List ContentRecord) → AllByRecursion IsWritableContent cs → map reading_of (readings Content (flat_map (write_content_to width) cs)) ≡ map as_record cs)
    → ((conf : Conf) (d : Entries) (p : Path) (e : EntryContent) → IsConf conf → IsDirectory conf d → finite.get d p ≡ Some e → IsWritableContent (record_at conf d p e))
    → ((conf : Conf) (d m : Entries) (p : Path) (e : EntryContent) → IsConf conf → IsDirectory conf d → finite.get d p ≡ Some e → MayCome m p → add conf Content m (record_at conf d p e).dn (record_at conf d p e).attrs ≡ added p e)
    → IsTotalOrder path_cmp → finite.IsAntisymmetric path_cmp → ((p : Path) (s : RdnKey) → path_cmp p (p ++ s ∷ []) ≡ Less)
    → (conf : Conf) (d : Entries) → IsConf conf → IsDirectory conf d → LoadsBackAt width conf d
unfolding dump_to after_records readings
loads_back width reads own adds total exact first conf d c h =
    let es : Pairs = finite.entries d in
    let all = all_written conf d (λ p e there. own conf d p e c h there) es (all_there total conf d h) in
    let same : map reading_of (readings Content (dump_to width conf d)) ≡ map (read_of total conf d h) es =
    ap (λ t. map reading_of (readings Content t)) (sym (flat_map-map (write_content_to width) (record_of conf d) es)) ∙ reads (map (record_of conf d) es) all ∙ map-map as_record (record_of conf d) es in
    let end = loaded total conf d h first exact (λ m p e there may. adds conf d m p e c h there may) (readings Content (dump_to width conf d)) es (start finite.empty) same refl (begins total conf d h) in
    record { entries = sym end.0; all = end.1 }
