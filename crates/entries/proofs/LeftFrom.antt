-- Values that are left, where a map tells from which place on.
use Rattle.std.proofs.Common.{◌≡◌, ℕ, ◌+◌, ◌<◌, Bool, true, false, cond, not, List, [], ◌∷◌, ◌++◌, length, Option, Some, None, refl, sym, ap, subst, ◌∙◌, arith}
use Rattle.std.specs.Prelude.{◌&&◌, is_some, nat_lt}
use Rattle.std.specs.BTreeMap.{get, is_at}
use Rattle.std.specs.Cmp.Lexicographic.{slice_cmp, nat_list_eq_equiv}
use Rattle.std.specs.Ordering.{nat_cmp, is_eq}
use Rattle.std.specs.Str.{bytes_eq}
use Rattle.std.specs.Map.{lookup}
use Rattle.std.proofs.lemmas.Bool.{lt-ltb, lt-leb, le-leb, or_left, or_right}
use Rattle.std.proofs.lemmas.List.{append_assoc, append-nil, length-append}
use Rattle.std.proofs.lemmas.List.Folds.{list_any-append}
use Rattle.std.proofs.lemmas.Map.Text.{is_eq-slice_cmp}
use Rattle.std.proofs.lemmas.Map.Views.{any-filter_same}
use Rattle.std.proofs.lemmas.Slice.Eq.{bytes_eq-Decides}
use Rattle.values.specs.Values.{Value}
use Rattle.values.specs.Norms.{has_norm, but_norm}
use Rattle.entries.specs.inner.ValuesDrafts.{Since, put_if, is_from, is_left, left_from, left_of, AreLeft, IsAtStart, AreAllLeft, KeepsPlaces}
use Rattle.entries.specs.declared.values_draft.Places.{Places}
use Rattle.entries.proofs.NormLemmas.{or_swap}

abbrev at : Since → List ℕ → Option ℕ
at since n = get (slice_cmp nat_cmp) since n

-- what one more value does to a list's normal forms
one_more : (n : List ℕ) (vs : List Value) (v : Value) → cond (bytes_eq v.norm n) true (has_norm n vs) ≡ has_norm n (vs ++ v ∷ [])
one_more n vs v = or_swap (bytes_eq v.norm n) (has_norm n vs) ∙ sym (list_any-append (λ (w : Value). bytes_eq w.norm n) vs (v ∷ []))

none_in : (o : Option ℕ) (i : ℕ) → is_some o ≡ false → is_from i o ≡ false
none_in None i e = refl
none_in (Some k) i e = absurd cc

-- a value whose normal form isn't in
module _ (old new : Since) (same : (q : List ℕ) → at new q ≡ at old q) (v : Value) (out : is_some (at old v.norm) ≡ false) where
  still_left : (vs : List Value) (i : ℕ) → left_from new i (vs ++ v ∷ []) ≡ left_from old i vs
  unfolding left_from
  still_left [] i = ap (λ (o : Option ℕ). cond (is_from i o) (v ∷ []) []) (same v.norm) ∙ ap (λ b. cond b (v ∷ []) []) (none_in (at old v.norm) i out)
  still_left (w ∷ vs) i = let more = still_left vs (i + 1) in λ j. cond (is_from i (same w.norm j)) (w ∷ more j) (more j)

  pub are_still_left : (vs : List Value) → AreLeft old vs → AreLeft new (vs ++ v ∷ [])
  are_still_left vs h = record { each = λ q. ap is_some (same q) ∙ h.each q ∙ ap (has_norm q) (sym (still_left vs 0)) }

-- a value that is left by two tests
abbrev but_norm_at : Bool → Bool → Value → List Value → List Value
but_norm_at keeps o v rest = cond o (cond keeps (v ∷ rest) rest) rest

module _ (old new : Since) (n : List ℕ) where
  -- ---- a normal form that comes

  module _ (place : ℕ) (updates : (q : List ℕ) → at new q ≡ cond (is_eq (slice_cmp nat_cmp n q)) (Some place) (at old q)) where
    comes : (q : List ℕ) → at new q ≡ cond (bytes_eq n q) (Some place) (at old q)
    comes q = updates q ∙ ap (λ b. cond b (Some place) (at old q)) (is_eq-slice_cmp n q)

    module _ (fresh : is_some (at old n) ≡ false) where
      -- those before its place are left as before
      before : (i : ℕ) (v : Value) → i < place → is_left new i v ≡ is_left old i v
      before i v lt = ap (is_from i) (comes v.norm) ∙ by (bytes_eq n v.norm) refl
        where
          by : (b : Bool) → bytes_eq n v.norm ≡ b → is_from i (cond b (Some place) (at old v.norm)) ≡ is_from i (at old v.norm)
          by false e = refl
          by true e =
              let same : n ≡ v.norm = (bytes_eq-Decides n v.norm).0 e in
              lt-leb place i lt ∙ sym (none_in (at old v.norm) i (ap (λ (q : List ℕ). is_some (at old q)) (sym same) ∙ fresh))

      here : (v : Value) (i : ℕ) → v.norm ≡ n → i ≡ place → is_left new i v ≡ true
      here v i is e =
          ap (is_from i) (comes v.norm ∙ ap (λ b. cond b (Some place) (at old v.norm)) (ap (bytes_eq n) is ∙ nat_list_eq_equiv.refl n))
          ∙ le-leb place i (omega (arith, e))

      pushed : (vs : List Value) (v : Value) (i : ℕ) → v.norm ≡ n → i + length vs ≡ place → left_from new i (vs ++ v ∷ []) ≡ left_from old i vs ++ v ∷ []
      unfolding left_from
      pushed [] v i is e = ap (λ b. cond b (v ∷ []) []) (here v i is (omega (arith, e)))
      pushed (w ∷ vs) v i is e =
          let lt : i < place = omega (arith, e) in
          let more = pushed vs v (i + 1) is (omega (arith, e)) in
          let rest : List Value = left_from old (i + 1) vs in
          (λ j. cond (before i w lt j) (w ∷ more j) (more j))
          ∙ elim (is_left old i w) as (λ b. cond b (w ∷ (rest ++ v ∷ [])) (rest ++ v ∷ []) ≡ cond b (w ∷ rest) rest ++ v ∷ []) [ true ↦ refl | false ↦ refl ]

      pub pushed_last : (vs : List Value) (v : Value) → v.norm ≡ n → length vs ≡ place → left_from new 0 (vs ++ v ∷ []) ≡ left_from old 0 vs ++ v ∷ []
      pushed_last vs v is e = pushed vs v 0 is (omega (arith, e))

      pub left_pushed : (vs : List Value) (v : Value) → v.norm ≡ n → length vs ≡ place → AreLeft old vs → AreLeft new (vs ++ v ∷ [])
      left_pushed vs v is e h = record {
        each = λ q.
            ap is_some (comes q)
            ∙ elim (bytes_eq n q) as (λ b. is_some (cond b (Some place) (at old q)) ≡ cond b true (is_some (at old q))) [ true ↦ refl | false ↦ refl ]
            ∙ (λ j. cond (bytes_eq (sym is j) q) true (h.each q j))
            ∙ one_more q (left_from old 0 vs) v
            ∙ ap (has_norm q) (sym (pushed_last vs v is e));
      }

  -- ---- a normal form that goes

  module _ (updates : (q : List ℕ) → at new q ≡ cond (is_eq (slice_cmp nat_cmp n q)) None (at old q)) where
    gone : (q : List ℕ) → at new q ≡ cond (bytes_eq n q) None (at old q)
    gone q = updates q ∙ ap (λ b. cond b None (at old q)) (is_eq-slice_cmp n q)

    pub removed : (vs : List Value) (i : ℕ) → left_from new i vs ≡ but_norm n (left_from old i vs)
    unfolding left_from
    removed [] i = refl
    removed (v ∷ vs) i =
        let rest : List Value = but_norm n (left_from old (i + 1) vs) in
        let more = removed vs (i + 1) in
        (λ j. cond (is_from i (gone v.norm j)) (v ∷ more j) (more j))
        ∙ elim (bytes_eq n v.norm) as (λ e. cond (is_from i (cond e None (at old v.norm))) (v ∷ rest) rest ≡ but_norm_at (not e) (is_from i (at old v.norm)) v rest) [
          | true ↦ elim (is_from i (at old v.norm)) as (λ o. rest ≡ but_norm_at false o v rest) [ true ↦ refl | false ↦ refl ]
          | false ↦ elim (is_from i (at old v.norm)) as (λ o. cond o (v ∷ rest) rest ≡ but_norm_at true o v rest) [ true ↦ refl | false ↦ refl ]
        ]
        ∙ ap (λ e. but_norm_at (not e) (is_from i (at old v.norm)) v rest) (nat_list_eq_equiv.symm n v.norm)
        ∙ elim (is_from i (at old v.norm)) as (λ o. but_norm_at (not (bytes_eq v.norm n)) o v rest ≡ but_norm n (cond o (v ∷ left_from old (i + 1) vs) (left_from old (i + 1) vs))) [ true ↦ refl | false ↦ refl ]

    pub left_removed : (vs : List Value) → AreLeft old vs → AreLeft new vs
    left_removed vs h = record {
      each = λ q.
          ap is_some (gone q)
          ∙ elim (bytes_eq n q) as (λ b. is_some (cond b None (at old q)) ≡ (not b && is_some (at old q))) [ true ↦ refl | false ↦ refl ]
          ∙ (λ j. not (nat_list_eq_equiv.symm n q j) && h.each q j)
          ∙ sym (any-filter_same (λ (w : Value). bytes_eq w.norm q) (λ (w : Value). not (bytes_eq w.norm n)) (not (bytes_eq q n)) (λ w same. ap not (nat_list_eq_equiv.congr w.norm q n same)) (left_from old 0 vs))
          ∙ ap (has_norm q) (sym (removed vs 0));
    }

-- ---- at the start

abbrev start_if : Bool → Option ℕ
start_if b = cond b (Some 0) None

pub start_more : (old new : Since) (vs : List Value) (v : Value) → IsAtStart old vs → ((q : List ℕ) → at new q ≡ cond (is_eq (slice_cmp nat_cmp v.norm q)) (Some 0) (at old q)) → IsAtStart new (vs ++ v ∷ [])
start_more old new vs v h updates = record {
  each = λ q.
      comes old new v.norm 0 updates q
      ∙ ap (λ (o : Option ℕ). cond (bytes_eq v.norm q) (Some 0) o) (h.each q)
      ∙ elim (bytes_eq v.norm q) as (λ b. cond b (start_if true) (start_if (has_norm q vs)) ≡ start_if (cond b true (has_norm q vs))) [ true ↦ refl | false ↦ refl ]
      ∙ ap start_if (one_more q vs v);
}

-- each value that was gone through is left, and the others are still to come
pub record AtStart (since : Since) (places : ℕ) (rest vs : List Value) : Type 0 where
  pub done : List Value
  pub all : done ++ rest ≡ vs
  pub count : length done ≡ places
  pub start : IsAtStart since done

pub starts : (since : Since) (vs : List Value) → IsAtStart since [] → AtStart since 0 vs vs
starts since vs h = record { done = []; all = refl; count = refl; start = h }

pub goes_on : (old new : Since) (count : ℕ) (rest more vs : List Value) (v : Value) → rest ≡ v ∷ more → AtStart old count rest vs → ((q : List ℕ) → at new q ≡ cond (is_eq (slice_cmp nat_cmp v.norm q)) (Some 0) (at old q)) → AtStart new (count + 1) more vs
goes_on old new count rest more vs v is h updates = record {
  done = h.done ++ v ∷ [];
  all = append_assoc h.done (v ∷ []) more ∙ ap (λ (r : List Value). h.done ++ r) (sym is) ∙ h.all;
  count = length-append h.done (v ∷ []) ∙ ap (λ n. n + 1) h.count;
  start = start_more old new h.done v h.start updates;
}

pub ends : (places : Places) (rest vs : List Value) → rest ≡ [] → AtStart places.since places.count rest vs → AreAllLeft places vs
ends places rest vs none h =
    let is : h.done ≡ vs = sym (append-nil h.done) ∙ ap (λ (r : List Value). h.done ++ r) (sym none) ∙ h.all in
    record {
      start = subst (IsAtStart places.since) is h.start;
      count = sym h.count ∙ ap length is;
    }

start_from : (since : Since) (vs : List Value) (i : ℕ) → ((n : List ℕ) → has_norm n vs ≡ true → at since n ≡ Some 0) → left_from since i vs ≡ vs
unfolding left_from
start_from since [] i h = refl
start_from since (v ∷ vs) i h =
    let more = start_from since vs (i + 1) (λ n there. h n (or_right (bytes_eq v.norm n) (has_norm n vs) there)) in
    let here : is_left since i v ≡ true = ap (is_from i) (h v.norm (or_left (bytes_eq v.norm v.norm) (has_norm v.norm vs) (nat_list_eq_equiv.refl v.norm))) ∙ le-leb 0 i (omega arith) in
    λ j. cond (here j) (v ∷ more j) (more j)

pub all_left : (since : Since) (vs : List Value) → IsAtStart since vs → left_from since 0 vs ≡ vs
all_left since vs h = start_from since vs 0 (λ n there. h.each n ∙ ap start_if there)

pub left_start : (since : Since) (vs : List Value) → IsAtStart since vs → AreLeft since vs
left_start since vs h = record {
  each = λ n.
      ap is_some (h.each n)
      ∙ elim (has_norm n vs) as (λ b. is_some (start_if b) ≡ b) [ true ↦ refl | false ↦ refl ]
      ∙ ap (has_norm n) (sym (all_left since vs h));
}

-- ---- those that are left, one by one

module _ (since : Since) (place : ℕ) (s t : List Value) (v : Value) (first : s ≡ v ∷ t) (front left : List Value) where
  from_here : (b : Bool) → is_left since place v ≡ b → front ++ left_from since place s ≡ front ++ cond b (v ∷ left_from since (place + 1) t) (left_from since (place + 1) t)
  unfolding left_from
  from_here b is = ap (λ (vs : List Value). front ++ left_from since place vs) first ∙ ap (λ x. front ++ cond x (v ∷ left_from since (place + 1) t) (left_from since (place + 1) t)) is

  one_stays : is_left since place v ≡ true → left ≡ front ++ v ∷ [] → left ++ left_from since (place + 1) t ≡ front ++ left_from since place s
  one_stays is put = ap (λ (vs : List Value). vs ++ left_from since (place + 1) t) put ∙ append_assoc front (v ∷ []) (left_from since (place + 1) t) ∙ sym (from_here true is)

  one_goes : is_left since place v ≡ false → left ≡ front → left ++ left_from since (place + 1) t ≡ front ++ left_from since place s
  one_goes is same = ap (λ (vs : List Value). vs ++ left_from since (place + 1) t) same ∙ sym (from_here false is)

  pub one_through : left ≡ put_if (is_left since place v) front v → left ++ left_from since (place + 1) t ≡ front ++ left_from since place s
  one_through put = elim (is_left since place v) as (λ b. is_left since place v ≡ b → left ≡ put_if b front v → left ++ left_from since (place + 1) t ≡ front ++ left_from since place s) [
    | true ↦ one_stays
    | false ↦ one_goes
  ] refl put

-- ---- whether any are left

some_alike : (es : List (List ℕ × ℕ)) (ws : List Value) → ((n : List ℕ) → is_some (lookup (is_at (slice_cmp nat_cmp n)) es) ≡ has_norm n ws) → nat_lt 0 (length es) ≡ nat_lt 0 (length ws)
some_alike [] [] h = refl
some_alike [] (w ∷ ws) h = let k : false ≡ true = h w.norm ∙ or_left (bytes_eq w.norm w.norm) (has_norm w.norm ws) (nat_list_eq_equiv.refl w.norm) in absurd cc
some_alike (e ∷ es) [] h =
    let k : true ≡ false = sym (ap (λ b. is_some (cond b (Some e.1) (lookup (is_at (slice_cmp nat_cmp e.0)) es))) (is_eq-slice_cmp e.0 e.0 ∙ nat_list_eq_equiv.refl e.0)) ∙ h e.0 in absurd cc
some_alike (e ∷ es) (w ∷ ws) h = lt-ltb 0 (length (e ∷ es)) (omega arith) ∙ sym (lt-ltb 0 (length (w ∷ ws)) (omega arith))

pub some_left : (since : Since) (vs : List Value) → AreLeft since vs → nat_lt 0 (length since.entries) ≡ nat_lt 0 (length (left_from since 0 vs))
some_left since vs h = some_alike since.entries (left_from since 0 vs) h.each

pub all_kept : (places : Places) (vs : List Value) → AreAllLeft places vs → KeepsPlaces places vs
all_kept places vs h = record { left = left_start places.since vs h.start; count = h.count; all = λ _. all_left places.since vs h.start }

pub none_since : (places : Option Places) (vs : List Value) → is_some places ≡ false → left_of places vs ≡ vs
none_since None vs e = refl
none_since (Some places) vs e = absurd cc
