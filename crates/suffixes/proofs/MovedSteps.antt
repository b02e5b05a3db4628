-- What becomes of each entry, where all are added.
use Rattle.std.proofs.Common.{◌≡◌, ℕ, Bool, true, false, not, ◌&&◌, cond, List, [], ◌∷◌, ◌++◌, Option, Some, None, Result, Ok, Err, refl, sym, ap, subst, ◌∙◌}
use Rattle.std.specs.Prelude.{T, is_some, nat_eq, nat_lt, nat_le, length}
use Rattle.std.specs.List.{AllByRecursion, IsDistinct}
use Rattle.std.specs.Map.{keys_of}
use Rattle.std.specs.FinMap as finite
use Rattle.std.specs.FinMap.Entries.{find, is_sorted, below_all}
use Rattle.std.specs.declared.cmp.Ordering.{Ordering}
use Rattle.std.specs.declared.cmp.Ordering.TheVariants.{Less, Equal, Greater}
use Rattle.std.specs.Ordering.{is_eq, is_lt, eq_by_cmp}
use Rattle.base.specs.Answers.{◌>>=◌, through}
use Rattle.base.proofs.Bound.{bind_ok, same_ok}
use Rattle.ldif.specs.Attrs.{Attr}
use Rattle.ldif.specs.declared.record.Mode.TheVariants.{Content}
use Rattle.paths.specs.Paths.{RdnKey, Path, path_cmp, is_root, parent_of}
use Rattle.values.specs.Types.{type_of, name_of, is_known}
use Rattle.schema.specs.declared.code.Code.{Code}
use Rattle.schema.specs.declared.code.Code.TheVariants.{EntryAlreadyExists, NoSuchObject, ObjectClassViolation, ConstraintViolation, AdminLimitExceeded}
use Rattle.schema.specs.Rdns.{TypedRdn}
use Rattle.schema.specs.GoodRdns.{IsRdn}
use Rattle.schema.specs.Conf.{Conf, IsConf, located, located_at, path_of, own_rdn, first_rdn, root_rdn, name_text}
use Rattle.entries.specs.Entries.{Attribute, Attributes, EntryContent, IsAttribute, IsGood, add_lines, lines_of, with_rdn, has_its_classes, are_single}
use Rattle.entries.specs.EntryClasses.{fits_classes}
use Rattle.entries.specs.Modifies.{rename_entry}
use Rattle.entries.proofs.Pushed.{AreGood, lines_good}
use Rattle.entries.proofs.Rebuilt.{own_lines, rdn_there}
use Rattle.entries.proofs.StaysGood.{guard_ok, rename_keeps}
use Rattle.tree.specs.Directories.{Entries, IsDirectory, rdn_in, rdns_from}
use Rattle.tree.specs.Changes.{Change, Put, changed}
use Rattle.tree.specs.Adds.{add, add_at, with_entry, entry_of}
use Rattle.tree.proofs.Ancestors.{along, own_is}
use Rattle.tree.proofs.Order.{path_total, path_exact}
use Rattle.tree.proofs.Views.{all_found, split_and}
use Rattle.suffixes.specs.Configurations.{with_suffix}
use Rattle.suffixes.specs.MovedDirectories.{Move, move_by, moved_attributes, suffix_entry, suffix_lines, moved_lines, moved_name, add_named, add_moved, moved_directory}
use Rattle.suffixes.specs.MovedEntries.{moved_entry, AreMoved}
use Rattle.suffixes.proofs.AddedLines.{HaveValues, added_lines}
use Rattle.suffixes.proofs.MovedAttributes.{keys_stay, each_stays, values_there, single_stays, rdn_stays, class_stays}

-- a type's printed name is one of its names
abbrev pub NamesNameTheirTypes : Type 0
NamesNameTheirTypes = (conf : Conf) (t : ℕ) → IsConf conf → is_known conf.types t ≡ true → type_of conf.types (name_of conf.types t) ≡ Some t

-- the name that is written for RDNs stands where they say
abbrev pub NamesAreLocated : Type 0
NamesAreLocated = (conf : Conf) (rs : List TypedRdn) → IsConf conf → AllByRecursion (IsRdn conf.types) rs → located conf (name_text conf rs) ≡ located_at rs

module _ (named : NamesNameTheirTypes) (reads : NamesAreLocated) (conf : Conf) (rdns : List TypedRdn) (ok : IsConf conf) (ok_new : IsConf (with_suffix conf rdns)) (name : List ℕ) (d : Entries) (h : IsDirectory conf d) where
  abbrev new : Conf
  new = with_suffix conf rdns

  abbrev mv : Move
  mv = move_by conf new name d

  -- what an entry becomes
  record Becomes (p : Path) (e out : EntryContent) : Type 0 where
    pub below : is_root p ≡ false → out ≡ moved_entry mv e
    pub top : is_root p ≡ true → rename_entry new (moved_entry mv e) (root_rdn new) true ≡ Ok out

  types_named : (attrs : Attributes) → AllByRecursion (IsAttribute conf.types) attrs → AllByRecursion (λ (a : Attribute). type_of conf.types (name_of conf.types a.0) ≡ Some a.0) attrs
  types_named [] is = tt
  types_named (a ∷ attrs) is = (named conf a.0 ok is.0.known, types_named attrs is.1)

  have_values : (attrs : Attributes) → AllByRecursion (IsAttribute conf.types) attrs → HaveValues attrs
  have_values [] is = tt
  have_values (a ∷ attrs) is = (is.0.some, have_values attrs is.1)

  -- ---- one record that is added

  abbrev put : Path → EntryContent → Result Change Code
  put p e = Ok (Put p e)

  entry_put : (m : Entries) (p : Path) (e : EntryContent) (c : Change) → with_entry new m p e ≡ Ok c → c ≡ Put p e
  entry_put m p e c said =
      let a = guard_ok (not (has_its_classes new e.attrs)) ObjectClassViolation (cond (not (are_single new.types e.attrs)) (Err ConstraintViolation) (cond (nat_le 4294967295 (finite.len m)) (Err AdminLimitExceeded) (put p e))) c said in
      let b = guard_ok (not (are_single new.types e.attrs)) ConstraintViolation (cond (nat_le 4294967295 (finite.len m)) (Err AdminLimitExceeded) (put p e)) c a.1 in
      let n = guard_ok (nat_le 4294967295 (finite.len m)) AdminLimitExceeded (put p e) c b.1 in
      sym (same_ok (Put p e) c n.1)

  -- at a path, with this RDN
  added_at : (m : Entries) (p : Path) (rdn : TypedRdn) (lines : List Attr) (c : Change) → add_at new Content m p rdn lines ≡ Ok c
      → (attrs : Attributes) × (add_lines Content new.types [] lines ≡ Ok attrs) × (c ≡ Put p (entry_of new rdn attrs))
  unfolding add_at
  added_at m p rdn lines c said =
      let done : Result Change Code = add_lines Content new.types [] lines >>= λ attrs. with_entry new m p (entry_of new rdn attrs) in
      let a = guard_ok (finite.contains_key m p) EntryAlreadyExists (cond (not (is_root p) && not (finite.contains_key m (parent_of p))) (Err NoSuchObject) done) c said in
      let b = guard_ok (not (is_root p) && not (finite.contains_key m (parent_of p))) NoSuchObject done c a.1 in
      let k = bind_ok (add_lines Content new.types [] lines) (λ attrs. with_entry new m p (entry_of new rdn attrs)) c b.1 in
      (k.0, k.1, entry_put m p (entry_of new rdn k.0) c k.2)

  -- the RDN of an entry under the new suffix
  abbrev new_rdn : Path → EntryContent → TypedRdn
  new_rdn p e = cond (is_root p) (root_rdn new) e.rdn

  own_below : (r : TypedRdn) (rs : List TypedRdn) → own_rdn new (r ∷ rs) ≡ own_rdn conf (r ∷ rs)
  own_below r [] = refl
  own_below r (s ∷ rs) = own_below s rs

  own_new : (p : Path) (e : EntryContent) → finite.get d p ≡ Some e → own_rdn new (rdns_from d [] p) ≡ new_rdn p e
  unfolding rdns_from
  own_new [] e there = refl
  own_new (s ∷ p) e there = own_below (rdn_in (finite.get d (s ∷ []))) (rdns_from d (s ∷ []) p) ∙ own_is conf d h (s ∷ p) e there

  -- an entry's lines, added under its name
  added : (m next : Entries) (p : Path) (e : EntryContent) (lines : List Attr) → finite.get d p ≡ Some e → add_named new m (moved_name mv p) lines ≡ Ok next
      → (attrs : Attributes) × (add_lines Content new.types [] lines ≡ Ok attrs) × (next ≡ finite.insert m p (entry_of new (new_rdn p e) attrs))
  unfolding add
  added m next p e lines there said =
      let up = along conf d h p [] (ap is_some there) in
      let rs : List TypedRdn = rdns_from d [] p in
      let k = bind_ok (add new Content m (moved_name mv p) lines) (λ c. Ok (changed m c)) next said in
      let at : add_at new Content m p (new_rdn p e) lines ≡ Ok k.0 =
      sym (ap (λ (x : Result (List TypedRdn) Code). x >>= λ ys. add_at new Content m (path_of new ys) (own_rdn new ys) lines) (reads new rs ok_new up.0)
      ∙ (λ i. add_at new Content m (up.1 i) (own_new p e there i) lines)) ∙ k.1 in
      let a = added_at m p (new_rdn p e) lines k.0 at in
      (a.0, a.1, sym (same_ok (changed m k.0) next k.2) ∙ ap (changed m) a.2)

  -- ---- one entry

  module _ (p : Path) (e : EntryContent) (there : finite.get d p ≡ Some e) where
    abbrev attrs : Attributes
    attrs = moved_attributes conf name e.attrs

    good : IsGood conf e
    good = h.good p e there

    types_apart : IsDistinct nat_eq (keys_of attrs)
    types_apart = subst (IsDistinct nat_eq) (sym (keys_stay conf name e.attrs)) good.types_apart

    lines_give : (out : Attributes) → add_lines Content new.types [] (lines_of new.types attrs) ≡ Ok out → out ≡ attrs
    lines_give out said =
        added_lines conf.types attrs out (each_stays conf name (λ t. type_of conf.types (name_of conf.types t) ≡ Some t) e.attrs (types_named e.attrs good.attrs))
        (values_there conf name e.attrs (have_values e.attrs good.attrs)) types_apart said

    -- below the suffix's entry
    stands_below : is_root p ≡ false → (m next : Entries) → add_named new m (moved_name mv p) (lines_of new.types attrs) ≡ Ok next → next ≡ finite.insert m p (moved_entry mv e)
    stands_below below m next said =
        let a = added m next p e (lines_of new.types attrs) there said in
        let own : new_rdn p e ≡ e.rdn = ap (λ b. cond b (root_rdn new) e.rdn) below in
        let is : a.0 ≡ attrs = lines_give a.0 a.1 in
        let kept : with_rdn conf.types e.rdn attrs ≡ attrs = rdn_there conf.types attrs e.rdn (rdn_stays conf name e.rdn e.attrs good.rdn.avas good.rdn_there) in
        a.2
        ∙ (λ i. finite.insert m p (entry_of new (own i) (is i)))
        ∙ ap (λ (x : Attributes). finite.insert m p (record { rdn = e.rdn; attrs = x })) kept

    -- the suffix's entry
    module _ (top : is_root p ≡ true) (out : EntryContent) (entry : suffix_entry new e.rdn (lines_of new.types attrs) ≡ Ok out) where
      given : (k : Attributes) × (add_lines Content new.types [] (lines_of new.types attrs) ≡ Ok k) × (rename_entry new (record { rdn = e.rdn; attrs = k }) (root_rdn new) true ≡ Ok out)
      given = bind_ok (add_lines Content new.types [] (lines_of new.types attrs)) (λ k. rename_entry new (record { rdn = e.rdn; attrs = k }) (root_rdn new) true) out entry

      renamed : rename_entry new (moved_entry mv e) (root_rdn new) true ≡ Ok out
      renamed = ap (λ (k : Attributes). rename_entry new (record { rdn = e.rdn; attrs = k }) (root_rdn new) true) (sym (lines_give given.0 given.1)) ∙ given.2

      moved_good : IsGood new (moved_entry mv e)
      unfolding IsDistinct fits_classes
      moved_good =
          let all : AreGood conf.types attrs = subst (AreGood conf.types) (lines_give given.0 given.1) (lines_good Content conf.types (lines_of new.types attrs) [] given.0 (record { all = tt; types_apart = tt }) given.1) in
          record {
            attrs = all.all;
            types_apart = types_apart;
            class = class_stays conf name ok e.attrs ∙ good.class;
            single = single_stays conf name e.attrs ∙ good.single;
            rdn = good.rdn;
            rdn_there = rdn_stays conf name e.rdn e.attrs good.rdn.avas good.rdn_there;
          }

      first_is : (rs : List TypedRdn) → AllByRecursion (IsRdn conf.types) rs → nat_lt 0 (length rs) ≡ true → IsRdn conf.types (first_rdn rs)
      first_is [] is some = cc
      first_is (r ∷ rs) is some = is.0

      out_good : IsGood new out × (out.rdn ≡ root_rdn new)
      out_good = rename_keeps new (moved_entry mv e) out (root_rdn new) true moved_good (first_is rdns ok_new.suffix ok_new.suffix_some) renamed

      stands_top : (m next : Entries) → add_named new m (moved_name mv p) (lines_of new.types out.attrs) ≡ Ok next → next ≡ finite.insert m p out
      stands_top m next said =
          let a = added m next p e (lines_of new.types out.attrs) there said in
          let own : new_rdn p e ≡ root_rdn new = ap (λ b. cond b (root_rdn new) e.rdn) top in
          let is : out.attrs ≡ a.0 = same_ok out.attrs a.0 (sym (own_lines conf.types (λ t. named conf t ok) out.attrs out_good.0.attrs out_good.0.types_apart) ∙ a.1) in
          let kept : with_rdn conf.types out.rdn out.attrs ≡ out.attrs = rdn_there conf.types out.attrs out.rdn out_good.0.rdn_there in
          a.2
          ∙ (λ i. finite.insert m p (entry_of new ((own ∙ sym out_good.1) i) (sym is i)))
          ∙ ap (λ (x : Attributes). finite.insert m p (record { rdn = out.rdn; attrs = x })) kept

    -- what a step leaves
    stands : (m next : Entries) → add_moved mv m (p, e) ≡ Ok next → (out : EntryContent) × (next ≡ finite.insert m p out) × Becomes p e out
    unfolding add_moved moved_lines
    stands m next said =
        let k = bind_ok (moved_lines mv p e) (add_named new m (moved_name mv p)) next said in
        by (is_root p) refl k.0 k.1 k.2
      where
        by : (b : Bool) → is_root p ≡ b → (lines : List Attr) → moved_lines mv p e ≡ Ok lines → add_named new m (moved_name mv p) lines ≡ Ok next → (out : EntryContent) × (next ≡ finite.insert m p out) × Becomes p e out
        by false below lines made put =
            let is : lines_of new.types attrs ≡ lines = same_ok (lines_of new.types attrs) lines (sym (ap (λ b. cond b (suffix_lines new e.rdn (lines_of new.types attrs)) (Ok (lines_of new.types attrs))) below) ∙ made) in
            (moved_entry mv e, stands_below below m next (ap (add_named new m (moved_name mv p)) is ∙ put), record { below = λ _. refl; top = λ at. absurd (let clash : false ≡ true = sym below ∙ at in cc) })
        by true top lines made put =
            let lined : suffix_lines new e.rdn (lines_of new.types attrs) ≡ Ok lines = sym (ap (λ b. cond b (suffix_lines new e.rdn (lines_of new.types attrs)) (Ok (lines_of new.types attrs))) top) ∙ made in
            let k = bind_ok (suffix_entry new e.rdn (lines_of new.types attrs)) (λ out. Ok (lines_of new.types out.attrs)) lines lined in
            (k.0, stands_top top k.0 k.1 m next (ap (add_named new m (moved_name mv p)) (same_ok (lines_of new.types k.0.attrs) lines k.2) ∙ put), record { below = λ at. absurd (let clash : true ≡ false = sym top ∙ at in cc); top = λ _. renamed top k.0 k.1 })

  -- ---- all entries

  abbrev Pairs : Type 0
  Pairs = List (Path × EntryContent)

  less : (o : Ordering) → T (is_lt o) → o ≡ Less
  less Less k = refl
  less Equal k = absurd k
  less Greater k = absurd k

  equal : (o : Ordering) → is_eq o ≡ true → o ≡ Equal
  equal Less k = cc
  equal Equal k = refl
  equal Greater k = cc

  none_tied : (k q : Path) → path_cmp q k ≡ Equal → (es : Pairs) → T (below_all path_cmp k es) → find path_cmp q es ≡ None
  none_tied k q tie [] below = refl
  none_tied k q tie (e ∷ es) below =
      let both = split_and (is_lt (path_cmp k e.0)) (below_all path_cmp k es) below in
      let is : path_cmp q e.0 ≡ Less = path_total.congr q k e.0 tie ∙ less (path_cmp k e.0) both.0 in
      ap (λ o. cond (is_eq o) (Some e.1) (find path_cmp q es)) is ∙ none_tied k q tie es both.1

  -- from a map to another one, by way of these entries
  record Leads (es : Pairs) (m out : Entries) : Type 0 where
    pub found : (q : Path) (e : EntryContent) → find path_cmp q es ≡ Some e → (o : EntryContent) × (finite.get out q ≡ Some o) × Becomes q e o
    pub rest : (q : Path) → find path_cmp q es ≡ None → finite.get out q ≡ finite.get m q

  no_found : {X : Type 0} (e : EntryContent) → ◌≡◌ {A = Option EntryContent} None (Some e) → X
  no_found e is = absurd cc

  leads : (es : Pairs) (m out : Entries) → T (is_sorted path_cmp es) → AllByRecursion (λ e. finite.get d e.0 ≡ Some e.1) es → through (add_moved mv) m es ≡ Ok out → Leads es m out
  unfolding through
  leads [] m out sorted there said = record { found = λ q e is. no_found e is; rest = λ q none. ap (λ (x : Entries). finite.get x q) (sym (same_ok m out said)) }
  leads (e ∷ es) m out sorted there said =
      let both = split_and (below_all path_cmp e.0 es) (is_sorted path_cmp es) sorted in
      let k = bind_ok (add_moved mv m (e.0, e.1)) (λ next. through (add_moved mv) next es) out said in
      let one = stands e.0 e.1 there.0 m k.0 k.1 in
      let more = leads es k.0 out both.1 there.1 k.2 in
      let got : (q : Path) → finite.get k.0 q ≡ cond (eq_by_cmp path_cmp q e.0) (Some one.0) (finite.get m q) = λ q. ap (λ (x : Entries). finite.get x q) one.1 ∙ finite.get-insert path_total m e.0 one.0 q in
      record {
        found = λ q f is. seek q f (eq_by_cmp path_cmp q e.0) refl both.0 k.0 one more (got q) is;
        rest = λ q none. pass q (eq_by_cmp path_cmp q e.0) refl k.0 one.0 more (got q) none;
      }
    where
      seek : (q : Path) (f : EntryContent) (b : Bool) → eq_by_cmp path_cmp q e.0 ≡ b → T (below_all path_cmp e.0 es) → (next : Entries)
          → (one : (o : EntryContent) × (next ≡ finite.insert m e.0 o) × Becomes e.0 e.1 o) → Leads es next out
          → finite.get next q ≡ cond b (Some one.0) (finite.get m q) → cond b (Some e.1) (find path_cmp q es) ≡ Some f → (o : EntryContent) × (finite.get out q ≡ Some o) × Becomes q f o
      seek q f true tied below next one more got is =
          let same : e.0 ≡ q = sym (path_exact q e.0 (equal (path_cmp q e.0) tied)) in
          let own : e.1 ≡ f = cc in
          (one.0, more.rest q (none_tied e.0 q (equal (path_cmp q e.0) tied) es below) ∙ got, subst (λ (p : Path). Becomes p f one.0) same (subst (λ (x : EntryContent). Becomes e.0 x one.0) own one.2))
      seek q f false tied below next one more got is = more.found q f is

      pass : (q : Path) (b : Bool) → eq_by_cmp path_cmp q e.0 ≡ b → (next : Entries) (o : EntryContent) → Leads es next out
          → finite.get next q ≡ cond b (Some o) (finite.get m q) → cond b (Some e.1) (find path_cmp q es) ≡ None → finite.get out q ≡ finite.get m q
      pass q true tied next o more got none = absurd cc
      pass q false tied next o more got none = more.rest q none ∙ got

  all : (moved : Entries) → moved_directory mv ≡ Ok moved → Leads (finite.entries d) finite.empty moved
  all moved said =
      leads (finite.entries d) finite.empty moved (finite.entries_sorted d)
      (all_found path_cmp path_total (λ q x. finite.get d q ≡ Some x) (finite.entries d) (finite.entries_sorted d) (λ q x is. finite.get-entries d q ∙ is)) said

  is_below : (p : Path) (s : RdnKey) → is_root (p ++ s ∷ []) ≡ false
  is_below [] s = refl
  is_below (t ∷ p) s = refl

  module _ (moved : Entries) (said : moved_directory mv ≡ Ok moved) where
    stays : (p : Path) (o : Option EntryContent) → finite.get d p ≡ o → finite.contains_key moved p ≡ is_some o
    stays p None is = ap is_some ((all moved said).rest p (sym (finite.get-entries d p) ∙ is) ∙ finite.get-empty path_cmp p)
    stays p (Some e) is = ap is_some ((all moved said).found p e (sym (finite.get-entries d p) ∙ is)).1

    pub are_moved : AreMoved mv moved
    are_moved = record {
      same_paths = λ p. stays p (finite.get d p) refl;
      below = λ p s e there.
          let k = (all moved said).found (p ++ s ∷ []) e (sym (finite.get-entries d (p ++ s ∷ [])) ∙ there) in
          k.1 ∙ ap (λ (x : EntryContent). Some x) (k.2.below (is_below p s));
      top = λ e there.
          let k = (all moved said).found [] e (sym (finite.get-entries d []) ∙ there) in
          record { entry = k.0; there = k.1; renamed = k.2.top refl };
    }
