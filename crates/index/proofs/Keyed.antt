-- Sets under keys, one of which changes.
use Rattle.std.proofs.Common.{◌≡◌, ◌≢◌, ℕ, zero, suc, get_or, Bool, true, false, cond, not, ◌&&◌, ◌||◌, nat_lt, List, [], ◌∷◌, map, Result, Ok, Err, Option, Some, None, refl, sym, ap, subst, ◌∙◌, arith}
use Rattle.std.specs.Prelude.{unwrap_or, IsErr, IfSome, IfOk, OnOk, OnErr, MatchOption}
use Rattle.std.specs.declared.cmp.Ordering.{Ordering}
use Rattle.std.specs.declared.cmp.Ordering.TheVariants.{Less}
use Rattle.std.specs.Option.{option_map}
use Rattle.std.specs.Ordering.{nat_cmp, is_eq, eq_by_cmp}
use Rattle.std.specs.Cmp.{nat_cmp_total, eq_by_cmp_equiv}
use Rattle.std.specs.Cmp.Lexicographic.{slice_cmp, nat_list_cmp_total, nat_list_eq_equiv}
use Rattle.std.specs.Str.{bytes_eq}
use Rattle.std.specs.Map.{lookup, keys_of, IsKeyTest, AreApart, KeepsOthers}
use Rattle.std.specs.Map.Calls.{RetainsPairs}
use Rattle.std.specs.List.{All, AllByRecursion}
use Rattle.std.specs.List.Sorted.{IsStrictlySortedBy}
use Rattle.std.specs.BTreeMap.{BTreeMap, UpdatesBy, get, get_by}
use Rattle.std.specs.FinMap as finite
use Rattle.std.specs.FinSet as set
use Rattle.std.proofs.lemmas.Bool.{ltb-false}
use Rattle.std.proofs.lemmas.Map.Text.{is_eq-slice_cmp}
use Rattle.dense_sets.specs.declared.key_set.KeySet.{KeySet}
use Rattle.std.proofs.lemmas.Result.{IfOk-weaker, on_ok_weaker, on_err_weaker}
use Rattle.index_text.specs.KeySets.{Members, SetsByKey, Row, members_in, members_at}
use Rattle.index.specs.KeySets.{AreRowsOf, Puts, Takes}
use Rattle.index_text.proofs.SlotKeyOrder.{same_bytes}
use Rattle.index.specs.inner.StoredSets.{rows_by, sets_by, HaveMembers}

abbrev pub at : List Row → List ℕ → Option Members
at rows q = lookup (bytes_eq q) rows

-- one key has this now, and each other key what it had
abbrev pub Updated : List Row → List Row → List ℕ → Option Members → Type 0
Updated old new key o = (q : List ℕ) → at new q ≡ cond (bytes_eq key q) o (at old q)

-- ---- rows

or_empty : (b : Bool) (o p : Option Members) → unwrap_or (cond b o p) set.empty ≡ cond b (unwrap_or o set.empty) (unwrap_or p set.empty)
or_empty true o p = refl
or_empty false o p = refl

either : (b : Bool) (x y z : Members) → (b ≡ true → x ≡ y) → cond b x z ≡ cond b y z
either true x y z same = same refl
either false x y z same = refl

pub changed : (f : Members → Members) (old new : List Row) (key : List ℕ) (o : Option Members) → Updated old new key o → unwrap_or o set.empty ≡ f (members_at old key)
    → (q : List ℕ) → members_at new q ≡ cond (bytes_eq key q) (f (members_at old q)) (members_at old q)
changed f old new key o h is q =
    ap (λ x. unwrap_or x set.empty) (h q)
    ∙ or_empty (bytes_eq key q) o (at old q)
    ∙ either (bytes_eq key q) _ _ _ (λ e. is ∙ ap (λ k. f (members_at old k)) (same_bytes key q e))

cond_same : {X : Type 0} (b : Bool) (x : X) → cond b x x ≡ x
cond_same true x = refl
cond_same false x = refl

pub unchanged : (old new : List Row) (key : List ℕ) (o : Option Members) → Updated old new key o → unwrap_or o set.empty ≡ members_at old key → (q : List ℕ) → members_at new q ≡ members_at old q
unchanged old new key o h is q = changed (λ s. s) old new key o h is q ∙ cond_same (bytes_eq key q) (members_at old q)

pub full : (old new : List Row) (key : List ℕ) (o : Option Members) → Updated old new key o → o ≢ Some set.empty → HaveMembers old → HaveMembers new
full old new key o h apart all q is = by (bytes_eq key q) (sym (h q) ∙ is)
  where
    by : (b : Bool) → cond b o (at old q) ≡ Some set.empty → ⊥
    by true e = apart e
    by false e = all q e

-- an entry is put in place, and that place is emptied
pub twice : (old mid new : List Row) (key : List ℕ) (o p : Option Members) → Updated old mid key o → Updated mid new key p → Updated old new key p
twice old mid new key o p first second q = second q ∙ ap (cond (bytes_eq key q) p) (first q) ∙ by (bytes_eq key q)
  where
    by : (b : Bool) → cond b p (cond b o (at old q)) ≡ cond b p (at old q)
    by true = refl
    by false = refl

pub some_is : (a b : Members) → Some a ≡ Some b → a ≡ b
some_is a b e = ap (λ o. unwrap_or o set.empty) e

pub insert_full : (s : Members) (n : ℕ) → set.insert s n ≢ set.empty
insert_full s n is =
    let has : set.contains (set.insert s n) n ≡ true = set.contains-insert nat_cmp_total s n n ∙ ap (λ b. b || set.contains s n) ((eq_by_cmp_equiv nat_cmp_total).refl n) in
    let none : set.contains (set.insert s n) n ≡ false = ap (λ (x : Members). set.contains x n) is ∙ set.contains-empty nat_cmp n in
    let bad : true ≡ false = sym has ∙ none in
    cc

pub put_full : {X E : Type 0} (r : Result X E) (s w : Members) (n : ℕ) → Some s ≢ Some set.empty → OnOk r (w ≡ set.insert s n) → OnErr r (w ≡ s) → Some w ≢ Some set.empty
put_full (Ok x) s w n apart ok err is = insert_full s n (sym ok ∙ some_is _ _ is)
put_full (Err x) s w n apart ok err is = apart (ap (λ (x : Members). Some x) (sym err) ∙ is)

pub none_has : (rows : List Row) (key : List ℕ) (n : ℕ) → at rows key ≡ None → set.contains (members_at rows key) n ≡ false
none_has rows key n is = ap (λ o. set.contains (unwrap_or o set.empty) n) is ∙ set.contains-empty nat_cmp n

pub not_empty : (w : Members) → Some w ≡ Some set.empty → set.len w ≡ 0
not_empty w is = ap set.len (some_is _ _ is) ∙ set.len-empty nat_cmp

pub emptied : (w f : Members) → w ≡ f → set.len w ≡ 0 → set.empty ≡ f
emptied w f is none = sym (set.empty_of_len w none) ∙ is

pub remove_none : (n : ℕ) → set.empty ≡ set.remove (set.empty {R = nat_cmp}) n
remove_none n = set.same_set nat_cmp_total set.nat_cmp-IsAntisymmetric _ _ (λ q. set.contains-empty nat_cmp q ∙ sym (set.contains-remove nat_cmp_total set.empty n q ∙ ap (λ b. not (eq_by_cmp nat_cmp q n) && b) (set.contains-empty nat_cmp q) ∙ and_false (not (eq_by_cmp nat_cmp q n))))
  where
    and_false : (b : Bool) → (b && false) ≡ false
    and_false true = refl
    and_false false = refl

-- a key that has no member loses none
pub take_none : (old new : List Row) (key : List ℕ) (n : ℕ) → at old key ≡ None → new ≡ old → (q : List ℕ) → members_at new q ≡ cond (bytes_eq key q) (set.remove (members_at old q) n) (members_at old q)
take_none old new key n none is q =
    ap (λ rows. members_at rows q) is
    ∙ by (bytes_eq key q) (λ e. ap (λ k. unwrap_or (at old k) set.empty) (sym (same_bytes key q e)) ∙ ap (λ o. unwrap_or o set.empty) none)
  where
    by : (b : Bool) → (b ≡ true → members_at old q ≡ set.empty) → members_at old q ≡ cond b (set.remove (members_at old q) n) (members_at old q)
    by true none = none refl ∙ remove_none n ∙ ap (λ (s : Members). set.remove s n) (sym (none refl))
    by false none = refl

-- ---- as they are stored

abbrev pub members_of : Option KeySet → Option Members
members_of o = option_map (λ s. s.members) o

map_cond : {X Y : Type 0} (f : X → Y) (b : Bool) (x y : Option X) → option_map f (cond b x y) ≡ cond b (option_map f x) (option_map f y)
map_cond f true x y = refl
map_cond f false x y = refl

-- g is w at bs, and f at other bytes
by_bytes : {W : Type 0} (f g : List ℕ → W) (bs : List ℕ) (w : W) → g bs ≡ w → ((cs : List ℕ) → bytes_eq bs cs ≡ false → g cs ≡ f cs) → (cs : List ℕ) → g cs ≡ cond (bytes_eq bs cs) w (f cs)
by_bytes {W} f g bs w here other cs = by (bytes_eq bs cs) refl
  where
    by : (b : Bool) → bytes_eq bs cs ≡ b → g cs ≡ cond b w (f cs)
    by true e = ap g (sym (same_bytes bs cs e)) ∙ here
    by false e = other cs e

apart_in_order : (bs cs ks : List ℕ) → bytes_eq bs cs ≡ false → is_eq (slice_cmp nat_cmp bs ks) ≡ true → is_eq (slice_cmp nat_cmp cs ks) ≡ false
apart_in_order bs cs ks n y = is_eq-slice_cmp cs ks ∙ nat_list_eq_equiv.symm cs ks ∙ sym (nat_list_eq_equiv.congr bs ks cs (sym (is_eq-slice_cmp bs ks) ∙ y)) ∙ n

pub find_is : (rows : List Row) (q : List ℕ) → finite.find (slice_cmp nat_cmp) q rows ≡ at rows q
find_is [] q = refl
find_is (row ∷ rows) q =
    ap (λ b. cond b (Some row.1) (finite.find (slice_cmp nat_cmp) q rows)) (is_eq-slice_cmp q row.0)
    ∙ ap (cond (bytes_eq q row.0) (Some row.1)) (find_is rows q)

-- bytes is what is read of a key, in whose order keys are
module _ {K : Type 0} (bytes : K → List ℕ) where
  abbrev pub found : BTreeMap K KeySet → List ℕ → Option KeySet
  found m q = lookup (λ k. is_eq (slice_cmp nat_cmp q (bytes k))) m.entries

  -- what a query finds that compares as these bytes do
  pub found_by : (compare : K → Ordering) (q : List ℕ) (m : BTreeMap K KeySet) → ((k : K) → compare k ≡ slice_cmp nat_cmp q (bytes k)) → get_by compare m ≡ found m q
  found_by compare q m finds = λ i. lookup (λ k. is_eq (finds k i)) m.entries

  pub at_rows : (q : List ℕ) (es : List (K × KeySet)) → at (rows_by bytes es) q ≡ members_of (lookup (λ k. is_eq (slice_cmp nat_cmp q (bytes k))) es)
  at_rows q [] = refl
  at_rows q (e ∷ es) =
      ap (λ b. cond b (Some e.1.members) (at (rows_by bytes es) q)) (sym (is_eq-slice_cmp q (bytes e.0)))
      ∙ ap (cond (is_eq (slice_cmp nat_cmp q (bytes e.0))) (Some e.1.members)) (at_rows q es)
      ∙ sym (map_cond (λ s. s.members) (is_eq (slice_cmp nat_cmp q (bytes e.0))) (Some e.1) (lookup (λ k. is_eq (slice_cmp nat_cmp q (bytes k))) es))

  -- what a look-up finds
  pub at_found : (m : BTreeMap K KeySet) (key : List ℕ) (o : Option KeySet) → o ≡ found m key → at (rows_by bytes m.entries) key ≡ members_of o
  at_found m key o is = at_rows key m.entries ∙ ap members_of (sym is)

  pub members_found : (m : BTreeMap K KeySet) (key : List ℕ) (s : KeySet) → Some s ≡ found m key → members_at (rows_by bytes m.entries) key ≡ s.members
  members_found m key s is = ap (λ o. unwrap_or o set.empty) (at_found m key (Some s) is)

  other_entries : (eq : K → K → Bool) (test : K → Bool) (old new : List (K × KeySet)) → KeepsOthers eq test old new → (other : K → Bool) → IsKeyTest eq other → AreApart test other → lookup other new ≡ lookup other old
  unfolding KeepsOthers
  other_entries eq test old new h = h

  by_bytes_updated : (key : List ℕ) (m n : BTreeMap K KeySet) (w : Option KeySet) → UpdatesBy (λ a b. slice_cmp nat_cmp (bytes a) (bytes b)) (λ k. slice_cmp nat_cmp key (bytes k)) m n w
      → Updated (rows_by bytes m.entries) (rows_by bytes n.entries) key (members_of w)
  by_bytes_updated key m n w h q =
      at_rows q n.entries
      ∙ ap members_of (by_bytes (found m) (found n) key w h.1 (λ cs e. other_entries _ _ _ _ h.3 (λ k. is_eq (slice_cmp nat_cmp cs (bytes k))) (λ x y. (eq_by_cmp_equiv nat_list_cmp_total).congr cs (bytes x) (bytes y)) (λ k. apart_in_order key cs (bytes k) e)) q)
      ∙ map_cond (λ s. s.members) (bytes_eq key q) w (found m q)
      ∙ ap (cond (bytes_eq key q) (members_of w)) (sym (at_rows q m.entries))

  module _ (cmp : K → K → Ordering) (ordered : (a b : K) → cmp a b ≡ slice_cmp nat_cmp (bytes a) (bytes b)) where
    pub updated : (compare : K → Ordering) (key : List ℕ) (m n : BTreeMap K KeySet) (w : Option KeySet) → ((k : K) → compare k ≡ slice_cmp nat_cmp key (bytes k)) → UpdatesBy cmp compare m n w
        → Updated (rows_by bytes m.entries) (rows_by bytes n.entries) key (members_of w)
    updated compare key m n w finds h = by_bytes_updated key m n w
        (subst (λ (c : K → Ordering). UpdatesBy (λ a b. slice_cmp nat_cmp (bytes a) (bytes b)) c m n w) (λ i k. finds k i)
        (subst (λ (c : K → K → Ordering). UpdatesBy c compare m n w) (λ i a b. ordered a b i) h))

    -- the same, of a map that is this one, and by the key that was made
    pub fresh : (old mid new : BTreeMap K KeySet) (key : List ℕ) (made : K) (w : Option KeySet) → mid ≡ old → bytes made ≡ key → UpdatesBy cmp (cmp made) mid new w
        → Updated (rows_by bytes old.entries) (rows_by bytes new.entries) key (members_of w)
    fresh old mid new key made w is same h =
        subst (λ (m : BTreeMap K KeySet). Updated (rows_by bytes m.entries) (rows_by bytes new.entries) key (members_of w)) is
        (updated (cmp made) key mid new w (λ k. ordered made k ∙ ap (λ bs. slice_cmp nat_cmp bs (bytes k)) same) h)

    pub in_order : (ks : List K) → IsStrictlySortedBy cmp ks → IsStrictlySortedBy (λ a b. slice_cmp nat_cmp (bytes a) (bytes b)) ks
    in_order ks rise = subst (λ (c : K → K → Ordering). IsStrictlySortedBy c ks) (λ i a b. ordered a b i) rise

    pub each_found : (m : BTreeMap K KeySet) → All (λ e. get cmp m e.0 ≡ Some e.1) m.entries → All (λ e. found m (bytes e.0) ≡ Some e.1) m.entries
    each_found m each = subst (λ (c : K → K → Ordering). All (λ e. get c m e.0 ≡ Some e.1) m.entries) (λ i a b. ordered a b i) each

    module _ (compare : K → Ordering) (key : List ℕ) (finds : (k : K) → compare k ≡ slice_cmp nat_cmp key (bytes k)) (number : ℕ) (old new : BTreeMap K KeySet) (each : HaveMembers (rows_by bytes old.entries)) where
      abbrev before : List Row
      before = rows_by bytes old.entries

      abbrev after : List Row
      after = rows_by bytes new.entries

      abbrev pub IsPut : {E : Type 0} → Result Bool E → Type 0
      IsPut r = HaveMembers after × Puts key number (members_at before) (members_at after) r

      abbrev pub IsTaken : Bool → Type 0
      IsTaken b = HaveMembers after × Takes key number (members_at before) (members_at after) b

      at_key : (o : Option KeySet) → o ≡ get_by compare old → at before key ≡ members_of o
      at_key o is = at_found old key o (is ∙ found_by compare key old finds)

      -- the set that is there changes
      pub put_found : {E : Type 0} (s w : KeySet) (r : Result Bool E) → Some s ≡ get_by compare old → UpdatesBy cmp compare old new (Some w)
          → IfOk r (λ b. b ≡ not (set.contains s.members number)) → OnOk r (w.members ≡ set.insert s.members number) → OnErr r (w ≡ s) → IsPut r
      put_found s w r is update new_there ok err = (
        full before after key (Some w.members) changes (put_full r s.members w.members number (λ none. each key (at_key (Some s) is ∙ none)) ok (on_err_weaker r (ap (λ x. x.members)) err)) each,
        record {
          is_new = IfOk-weaker r _ _ (λ b h. h ∙ ap (λ (x : Members). not (set.contains x number)) (sym there)) new_there;
          came = on_ok_weaker r (λ h. changed (λ x. set.insert x number) before after key (Some w.members) changes (h ∙ ap (λ (x : Members). set.insert x number) (sym there))) ok;
          stayed = on_err_weaker r (λ h. unchanged before after key (Some w.members) changes (ap (λ x. x.members) h ∙ sym there)) err;
        },
      )
        where
          changes : Updated before after key (Some w.members)
          changes = updated compare key old new (Some w) finds update

          there : members_at before key ≡ s.members
          there = ap (λ o. unwrap_or o set.empty) (at_key (Some s) is)

      -- a new key gets a set of its own
      pub put_fresh : (E : Type 0) (mid : BTreeMap K KeySet) (made : K) (w : KeySet) → None ≡ get_by compare old → mid ≡ old → bytes made ≡ key → UpdatesBy cmp (cmp made) mid new (Some w)
          → w.members ≡ set.insert set.empty number → IsPut {E = E} (Ok true)
      put_fresh E mid made w none same is update one = (
        full before after key (Some w.members) changes (λ bad. insert_full set.empty number (sym one ∙ some_is _ _ bad)) each,
        record {
          is_new = sym (ap not (none_has before key number (at_key None none)));
          came = changed (λ x. set.insert x number) before after key (Some w.members) changes (one ∙ ap (λ o. set.insert (unwrap_or o set.empty) number) (sym (at_key None none)));
          stayed = tt;
        },
      )
        where
          changes : Updated before after key (Some w.members)
          changes = fresh old mid new key made (Some w) same is update

      -- nothing changed for want of memory
      pub put_refused : {E : Type 0} (r : Result Bool E) → IsErr r → new.entries ≡ old.entries → Puts key number (members_at before) (members_at after) r
      put_refused (Ok b) bad same = absurd (let none : false ≡ true = bad in cc)
      put_refused (Err e) refused same = record { is_new = tt; came = tt; stayed = λ q. ap (λ (es : List (K × KeySet)). members_at (rows_by bytes es) q) same }

      -- no such key is there
      pub take_nothing : None ≡ get_by compare old → new ≡ old → IsTaken false
      take_nothing none same = (
        subst (λ (m : BTreeMap K KeySet). HaveMembers (rows_by bytes m.entries)) (sym same) each,
        record {
          was = sym (none_has before key number (at_key None none));
          went = take_none before after key number (at_key None none) (ap (λ m. rows_by bytes m.entries) same);
        },
      )

      module _ (s w : KeySet) (was : Bool) (is : Some s ≡ get_by compare old) (told : was ≡ set.contains s.members number) (less : w.members ≡ set.remove s.members number) where
        there : members_at before key ≡ s.members
        there = ap (λ o. unwrap_or o set.empty) (at_key (Some s) is)

        gone : w.members ≡ set.remove (members_at before key) number
        gone = less ∙ ap (λ (x : Members). set.remove x number) (sym there)

        told_there : was ≡ set.contains (members_at before key) number
        told_there = told ∙ ap (λ (x : Members). set.contains x number) (sym there)

        -- the set keeps other members
        pub take_one : UpdatesBy cmp compare old new (Some w) → set.len w.members ≢ 0 → IsTaken was
        take_one update some = (
          full before after key (Some w.members) changes (λ bad. some (not_empty w.members bad)) each,
          record { was = told_there; went = changed (λ x. set.remove x number) before after key (Some w.members) changes gone },
        )
          where
            changes : Updated before after key (Some w.members)
            changes = updated compare key old new (Some w) finds update

        -- the set goes with its last member
        pub take_last : (mid : BTreeMap K KeySet) → UpdatesBy cmp compare old mid (Some w) → UpdatesBy cmp compare mid new None → set.len w.members ≡ 0 → IsTaken was
        take_last mid first second none = (
          full before after key None changes (λ bad. cc) each,
          record { was = told_there; went = changed (λ x. set.remove x number) before after key None changes (emptied _ _ gone none) },
        )
          where
            changes : Updated before after key None
            changes = twice before (rows_by bytes mid.entries) after key (Some w.members) None (updated compare key old mid (Some w) finds first) (updated compare key mid new None finds second)

  none_left : (n : ℕ) → nat_lt 0 n ≡ false → n ≡ 0
  none_left n is = let le = ltb-false 0 n is in omega (arith, le)

  -- ---- each set without a number, those that are empty then left out

  module _ {F : Type 0} (T : F → K → KeySet → Bool → KeySet → F → Type 0) (Of : F → Type 0) (number : ℕ)
      (called : (f : F) (k : K) (v : KeySet) (b : Bool) (w : KeySet) (f' : F) → Of f → T f k v b w f' → (w.members ≡ set.remove v.members number) × ((b ≡ nat_lt 0 (set.len w.members)) × Of f')) where
    abbrev Behind : List ℕ → List (K × KeySet) → Type 0
    Behind q es = AllByRecursion (λ y. slice_cmp nat_cmp q (bytes y) ≡ Less) (keys_of es)

    none_behind : (q : List ℕ) (es kept : List (K × KeySet)) (f : F) → Of f → RetainsPairs T f es kept → Behind q es → at (rows_by bytes kept) q ≡ None
    none_behind q [] kept f of h behind = ap (λ es. at (rows_by bytes es) q) h
    none_behind q (e ∷ es) kept f of (b, w, f', rest, call, others, is) behind =
        ap (λ es. at (rows_by bytes es) q) is ∙ by b (none_behind q es rest f' (called f e.0 e.1 b w f' of call).1.1 others behind.1)
      where
        by : (b : Bool) → at (rows_by bytes rest) q ≡ None → at (rows_by bytes (cond b ((e.0, w) ∷ rest) rest)) q ≡ None
        by true none = ap (λ x. cond x (Some w.members) (at (rows_by bytes rest) q)) (sym (is_eq-slice_cmp q (bytes e.0)) ∙ ap is_eq behind.0) ∙ none
        by false none = none

    pub retained : (q : List ℕ) (es kept : List (K × KeySet)) (f : F) → Of f → RetainsPairs T f es kept → IsStrictlySortedBy (λ a b. slice_cmp nat_cmp (bytes a) (bytes b)) (keys_of es)
        → (members_at (rows_by bytes kept) q ≡ set.remove (members_at (rows_by bytes es) q) number) × (at (rows_by bytes kept) q ≢ Some set.empty)
    unfolding IsStrictlySortedBy
    retained q [] kept f of h rise = (ap (λ es. members_at (rows_by bytes es) q) h ∙ remove_none number, λ bad. let none : None ≡ Some set.empty = sym (ap (λ es. at (rows_by bytes es) q) h) ∙ bad in cc)
    retained q (e ∷ es) kept f of (b, w, f', rest, call, others, is) rise =
        subst (λ (es' : List (K × KeySet)). (members_at (rows_by bytes es') q ≡ set.remove (members_at (rows_by bytes (e ∷ es)) q) number) × (at (rows_by bytes es') q ≢ Some set.empty)) (sym is)
        (by b (bytes_eq q (bytes e.0)) (called f e.0 e.1 b w f' of call).1.0 refl (retained q es rest f' (called f e.0 e.1 b w f' of call).1.1 others rise.1))
      where
        Kept : List (K × KeySet) → Type 0
        Kept left = (members_at (rows_by bytes left) q ≡ set.remove (members_at (rows_by bytes (e ∷ es)) q) number) × (at (rows_by bytes left) q ≢ Some set.empty)

        removed : w.members ≡ set.remove e.1.members number
        removed = (called f e.0 e.1 b w f' of call).0

        first : bytes_eq q (bytes e.0) ≡ true → members_at (rows_by bytes (e ∷ es)) q ≡ e.1.members
        first hit = ap (λ x. unwrap_or (cond x (Some e.1.members) (at (rows_by bytes es) q)) set.empty) hit

        later : bytes_eq q (bytes e.0) ≡ true → at (rows_by bytes rest) q ≡ None
        later hit = none_behind q es rest f' (called f e.0 e.1 b w f' of call).1.1 others (subst (λ bs. Behind bs es) (sym (same_bytes q (bytes e.0) hit)) rise.0)

        skipped : (b : Bool) → bytes_eq q (bytes e.0) ≡ false → at (rows_by bytes (cond b ((e.0, w) ∷ rest) rest)) q ≡ at (rows_by bytes rest) q
        skipped true miss = ap (λ x. cond x (Some w.members) (at (rows_by bytes rest) q)) miss
        skipped false miss = refl

        by : (b hit : Bool) → b ≡ nat_lt 0 (set.len w.members) → bytes_eq q (bytes e.0) ≡ hit
            → (members_at (rows_by bytes rest) q ≡ set.remove (members_at (rows_by bytes es) q) number) × (at (rows_by bytes rest) q ≢ Some set.empty) → Kept (cond b ((e.0, w) ∷ rest) rest)
        by b false told miss ih = (
          ap (λ o. unwrap_or o set.empty) (skipped b miss) ∙ ih.0 ∙ ap (λ x. set.remove (unwrap_or (cond x (Some e.1.members) (at (rows_by bytes es) q)) set.empty) number) (sym miss),
          λ bad. ih.1 (sym (skipped b miss) ∙ bad),
        )
        by true true told hit ih =
            let here : at (rows_by bytes ((e.0, w) ∷ rest)) q ≡ Some w.members = ap (λ x. cond x (Some w.members) (at (rows_by bytes rest) q)) hit in (
              ap (λ o. unwrap_or o set.empty) here ∙ removed ∙ ap (λ (s : Members). set.remove s number) (sym (first hit)),
              λ bad. let false_is : true ≡ false = told ∙ ap (nat_lt 0) (not_empty w.members (sym here ∙ bad)) in cc,
            )
        by false true told hit ih = (
          ap (λ o. unwrap_or o set.empty) (later hit) ∙ sym (set.empty_of_len w.members (none_left (set.len w.members) (sym told))) ∙ removed ∙ ap (λ (s : Members). set.remove s number) (sym (first hit)),
          λ bad. let none : None ≡ Some set.empty = sym (later hit) ∙ bad in cc,
        )

  -- ---- the map that they are seen as

  pub get_is : (m : BTreeMap K KeySet) (s : SetsByKey) → sets_by bytes m ≡ s → (q : List ℕ) → finite.get s q ≡ at (rows_by bytes m.entries) q
  get_is m s is q = ap (λ (x : SetsByKey). finite.get x q) (sym is) ∙ finite.get-from_entries nat_list_cmp_total (rows_by bytes m.entries) q ∙ find_is (rows_by bytes m.entries) q

  pub seen : (m : BTreeMap K KeySet) (s : SetsByKey) → sets_by bytes m ≡ s → (q : List ℕ) → members_in s q ≡ members_at (rows_by bytes m.entries) q
  seen m s is q = ap (λ o. unwrap_or o set.empty) (get_is m s is q)

  pub got : (m : BTreeMap K KeySet) (s : SetsByKey) (key : List ℕ) {R : Type 0} (r : Option R) (set_in : R → KeySet) → sets_by bytes m ≡ s → option_map set_in r ≡ found m key
      → MatchOption r (members_in s key ≡ set.empty) (λ x. (set_in x).members ≡ members_in s key)
  got m s key None set_in is value = seen m s is key ∙ ap (λ o. unwrap_or o set.empty) (at_found m key None value)
  got m s key (Some x) set_in is value = sym (seen m s is key ∙ members_found m key (set_in x) value)

  pub got_some : (m : BTreeMap K KeySet) (s : SetsByKey) (key : List ℕ) {R : Type 0} (r : Option R) (set_in : R → KeySet) → sets_by bytes m ≡ s → option_map set_in r ≡ found m key
      → HaveMembers (rows_by bytes m.entries) → IfSome r (λ x. members_in s key ≢ set.empty)
  got_some m s key None set_in is value full = tt
  got_some m s key (Some x) set_in is value full = λ none. full key (at_found m key (Some (set_in x)) value ∙ ap (λ (ms : Members). Some ms) (got m s key (Some x) set_in is value ∙ none))

  pub moved : (f : Members → Members) (old new : BTreeMap K KeySet) (s : SetsByKey) (key : List ℕ) → sets_by bytes old ≡ s
      → ((q : List ℕ) → members_at (rows_by bytes new.entries) q ≡ cond (bytes_eq key q) (f (members_at (rows_by bytes old.entries) q)) (members_at (rows_by bytes old.entries) q))
      → (q : List ℕ) → members_in (sets_by bytes new) q ≡ cond (bytes_eq key q) (f (members_in s q)) (members_in s q)
  moved f old new s key is h q = seen new (sets_by bytes new) refl q ∙ h q ∙ ap (λ x. cond (bytes_eq key q) (f x) x) (sym (seen old s is q))

  -- ---- all of them

  keys_are : (es : List (K × KeySet)) → keys_of (rows_by bytes es) ≡ map bytes (keys_of es)
  keys_are [] = refl
  keys_are (e ∷ es) = ap (λ ks. bytes e.0 ∷ ks) (keys_are es)

  rise_is : (ks : List K) → IsStrictlySortedBy (λ a b. slice_cmp nat_cmp (bytes a) (bytes b)) ks → IsStrictlySortedBy (slice_cmp nat_cmp) (map bytes ks)
  unfolding IsStrictlySortedBy
  rise_is [] rise = tt
  rise_is (k ∷ ks) rise = (less ks rise.0, rise_is ks rise.1)
    where
      less : (others : List K) → AllByRecursion (λ y. slice_cmp nat_cmp (bytes k) (bytes y) ≡ Less) others → AllByRecursion (λ y. slice_cmp nat_cmp (bytes k) y ≡ Less) (map bytes others)
      less [] all = tt
      less (y ∷ others) all = (all.0, less others all.1)

  each_full : (m : BTreeMap K KeySet) (es : List (K × KeySet)) → HaveMembers (rows_by bytes m.entries) → All (λ e. found m (bytes e.0) ≡ Some e.1) es → AllByRecursion (λ row. row.1 ≢ set.empty) (rows_by bytes es)
  each_full m [] all h = tt
  each_full m (e ∷ es) all h = (λ is. all (bytes e.0) (at_found m (bytes e.0) (Some e.1) (sym (h 0 e (omega arith))) ∙ ap (λ (x : Members). Some x) is), each_full m es all (λ k d lt. h (suc k) d (omega (arith, lt))))

  pub rows_are : (m : BTreeMap K KeySet) (s : SetsByKey) → sets_by bytes m ≡ s → HaveMembers (rows_by bytes m.entries) → IsStrictlySortedBy (λ a b. slice_cmp nat_cmp (bytes a) (bytes b)) (keys_of m.entries)
      → All (λ e. found m (bytes e.0) ≡ Some e.1) m.entries → AreRowsOf s (rows_by bytes m.entries)
  rows_are m s is all rise each = record {
    rise = subst (IsStrictlySortedBy (slice_cmp nat_cmp)) (sym (keys_are m.entries)) (rise_is (keys_of m.entries) rise);
    full = each_full m m.entries all each;
    exact = λ key. sym (seen m s is key);
  }

-- ---- members that are alike

pub puts_alike : {E : Type 0} (key : List ℕ) (number : ℕ) (old new before later : List ℕ → Members) (r : Result Bool E) → ((q : List ℕ) → old q ≡ before q) → ((q : List ℕ) → new q ≡ later q)
    → Puts key number old new r → Puts key number before later r
puts_alike key number old new before later r first second h =
    subst (λ (f : List ℕ → Members). Puts key number before f r) (λ i q. second q i) (subst (λ (f : List ℕ → Members). Puts key number f new r) (λ i q. first q i) h)

pub takes_alike : (key : List ℕ) (number : ℕ) (old new before later : List ℕ → Members) (r : Bool) → ((q : List ℕ) → old q ≡ before q) → ((q : List ℕ) → new q ≡ later q)
    → Takes key number old new r → Takes key number before later r
takes_alike key number old new before later r first second h =
    subst (λ (f : List ℕ → Members). Takes key number before f r) (λ i q. second q i) (subst (λ (f : List ℕ → Members). Takes key number f new r) (λ i q. first q i) h)

-- ---- slots without keys

pub none_in : (key : List ℕ) → members_in finite.empty key ≡ set.empty
none_in key = ap (λ o. unwrap_or o set.empty) (finite.get-empty (slice_cmp nat_cmp) key)

pub all_empty : (slots : List SetsByKey) → AllByRecursion (λ s. s ≡ finite.empty) slots → (i : ℕ) (key : List ℕ) → members_in (get_or slots i finite.empty) key ≡ set.empty
all_empty slots all i key = ap (λ (s : SetsByKey). members_in s key) (by slots all i) ∙ none_in key
  where
    by : (slots : List SetsByKey) → AllByRecursion (λ s. s ≡ finite.empty) slots → (i : ℕ) → get_or slots i finite.empty ≡ finite.empty
    by [] all i = refl
    by (s ∷ ss) all zero = all.0
    by (s ∷ ss) all (suc i) = by ss all.1 i

-- ---- a look-up that lends a set

-- as it is told of one map, it is of another one that shows the same
pub still_some : {X : Type 0} (P Q : Type 0) (r : Option X) (f : X → Members) (m m' : Members) → MatchOption r P (λ s. f s ≡ m) → IfSome r (λ s. m ≢ set.empty) → MatchOption r Q (λ s. f s ≡ m') → IfSome r (λ s. m' ≢ set.empty)
still_some P Q None f m m' inner some outer = tt
still_some P Q (Some s) f m m' inner some outer = λ none. some (sym inner ∙ outer ∙ none)
