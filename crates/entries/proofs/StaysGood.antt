-- A good entry stays good under a modify and a rename.
use Rattle.std.proofs.Common.{◌≡◌, ℕ, Bool, true, false, cond, not, ◌&&◌, List, [], ◌∷◌, ◌++◌, Option, Some, None, Result, Ok, Err, refl, sym, ap, subst, ◌∙◌}
use Rattle.std.specs.Prelude.{nat_eq}
use Rattle.std.specs.List.{AllByRecursion, IsDistinct, filter}
use Rattle.std.proofs.lemmas.Bool.{not-false, and_parts, or_parts, eqb-true}
use Rattle.std.specs.Map.{keys_of}
use Rattle.std.proofs.lemmas.Cmp.{nat_eq_equiv}
use Rattle.std.proofs.lemmas.Map.Keys.{IsDistinct-push}
use Rattle.std.proofs.lemmas.Map.Views.{any-filter_same}
use Rattle.ldif.specs.declared.record.Mod.{Mod}
use Rattle.ldif.specs.declared.record.Op.{Op}
use Rattle.ldif.specs.declared.record.Op.TheVariants as ops
use Rattle.schema.specs.declared.code.Code.{Code}
use Rattle.schema.specs.declared.code.Code.TheVariants.{NoSuchAttribute, ConstraintViolation, AttributeOrValueExists, InvalidAttributeSyntax, NotAllowedOnRdn, ObjectClassViolation}
use Rattle.values.specs.declared.types.AttributeType.{AttributeType}
use Rattle.values.specs.Types.{type_of, is_known}
use Rattle.schema.specs.Values.{is_valid_at, are_equal}
use Rattle.schema.specs.Rdns.{Ava, TypedRdn}
use Rattle.schema.specs.GoodRdns.{IsAva, IsRdn}
use Rattle.schema.specs.Conf.{Conf}
use Rattle.base.specs.Answers.{through}
use Rattle.base.proofs.Bound.{bind_ok, same_ok}
use Rattle.entries.specs.Entries.{Attributes, EntryContent, values_of, has_equal, with_rdn, has_its_classes, are_single, IsGood}
use Rattle.entries.specs.Modifies.{unless, append_value, without_value, remove_value, has_values, block_fault, block_values, changed_values, set_values, modify_at, named_type, modify_block, entry_fault, has_rdn, modified_fault, modify_entry, has_ava, without_ava, without_rdn, renamed_attrs, rename_entry}
use Rattle.entries.proofs.Pushed.{AreGood, all_push, equal_equiv, turned, type_known, rdn_good, all_come, IsThere}
use Rattle.entries.proofs.SetValues.{AreValues, good_set, values_good, values_set}

pub guard_ok : {A : Type 0} (b : Bool) (d : Code) (x : Result A Code) (y : A) → cond b (Err d) x ≡ Ok y → (b ≡ false) × (x ≡ Ok y)
guard_ok true d x y e = absurd cc
guard_ok false d x y e = (refl, e)

-- what each step keeps, the whole keeps
pub through_keeps : {X Y : Type 0} (P : X → Type 0) (f : X → Y → Result X Code) → ((x z : X) (y : Y) → P x → f x y ≡ Ok z → P z) → (ys : List Y) (x out : X) → P x → through f x ys ≡ Ok out → P out
unfolding through
through_keeps P f step [] x out h e = subst P (same_ok x out e) h
through_keeps P f step (y ∷ ys) x out h e =
    let k = bind_ok (f x y) (λ z. through f z ys) out e in
    through_keeps P f step ys k.0 out (step x k.0 y h k.1) k.2

-- ---- values

pub all_kept : {X : Type 0} (P : X → Type 0) (p : X → Bool) (xs : List X) → AllByRecursion P xs → AllByRecursion P (filter p xs)
all_kept P p [] h = tt
all_kept P p (x ∷ xs) h = elim (p x) as (λ b. AllByRecursion P (cond b (x ∷ filter p xs) (filter p xs))) [
  | true ↦ (h.0, all_kept P p xs h.1)
  | false ↦ all_kept P p xs h.1
]

apart_kept : {X : Type 0} (eq : X → X → Bool) (p : X → Bool) (xs : List X) → IsDistinct eq xs → IsDistinct eq (filter p xs)
unfolding IsDistinct
apart_kept eq p [] h = tt
apart_kept eq p (x ∷ xs) h = elim (p x) as (λ b. IsDistinct eq (cond b (x ∷ filter p xs) (filter p xs))) [
  | true ↦ (all_kept (λ y. eq x y ≡ false) p xs h.0, apart_kept eq p xs h.1)
  | false ↦ apart_kept eq p xs h.1
]

module _ (types : List AttributeType) (t : ℕ) where
  none_good : is_known types t ≡ true → AreValues types t []
  unfolding IsDistinct
  none_good known = record { known = known; values = tt; apart = tt }

  append_good : (vs out : List (List ℕ)) (v : List ℕ) → AreValues types t vs → append_value types t vs v ≡ Ok out → AreValues types t out
  append_good vs out v h e =
      let a = guard_ok (not (is_valid_at types t v)) InvalidAttributeSyntax (cond (has_equal types t v vs) (Err AttributeOrValueExists) (Ok (vs ++ v ∷ []))) out e in
      let b = guard_ok (has_equal types t v vs) AttributeOrValueExists (Ok (vs ++ v ∷ [])) out a.1 in
      subst (AreValues types t) (same_ok (vs ++ v ∷ []) out b.1) (record {
        known = h.known;
        values = all_push (λ x. is_valid_at types t x ≡ true) vs v h.values (not-false (is_valid_at types t v) a.0);
        apart = IsDistinct-push (equal_equiv types t) vs v h.apart (turned types t v vs b.0);
      })

  without_good : (vs : List (List ℕ)) (v : List ℕ) → AreValues types t vs → AreValues types t (without_value types t vs v)
  without_good vs v h = record {
    known = h.known;
    values = all_kept (λ x. is_valid_at types t x ≡ true) (λ w. not (are_equal types t w v)) vs h.values;
    apart = apart_kept (are_equal types t) (λ w. not (are_equal types t w v)) vs h.apart;
  }

  remove_good : (vs out : List (List ℕ)) (v : List ℕ) → AreValues types t vs → remove_value types t vs v ≡ Ok out → AreValues types t out
  remove_good vs out v h e =
      let a = guard_ok (not (is_valid_at types t v)) InvalidAttributeSyntax (cond (not (has_equal types t v vs)) (Err NoSuchAttribute) (Ok (without_value types t vs v))) out e in
      let b = guard_ok (not (has_equal types t v vs)) NoSuchAttribute (Ok (without_value types t vs v)) out a.1 in
      subst (AreValues types t) (same_ok (without_value types t vs v) out b.1) (without_good vs v h)

  block_good : (op : Op) (old vs out : List (List ℕ)) → AreValues types t old → block_values types t op old vs ≡ Ok out → AreValues types t out
  block_good ops.Add old vs out h e = through_keeps (AreValues types t) (append_value types t) append_good vs old out h e
  block_good ops.Delete old [] out h e = subst (AreValues types t) (same_ok [] out e) (none_good h.known)
  block_good ops.Delete old (v ∷ vs) out h e = through_keeps (AreValues types t) (remove_value types t) remove_good (v ∷ vs) old out h e
  block_good ops.Replace old vs out h e = through_keeps (AreValues types t) (append_value types t) append_good vs [] out (none_good h.known) e

-- ---- blocks

none_said : {A : Type 0} (fault : Option Code) (said : Result A Code) (out : A) → unless fault said ≡ Ok out → (fault ≡ None) × (said ≡ Ok out)
none_said None said out e = (refl, e)
none_said (Some code) said out e = absurd cc

module _ (types : List AttributeType) where
  at_good : (attrs out : Attributes) (t : ℕ) (op : Op) (vs : List (List ℕ)) → is_known types t ≡ true → AreGood types attrs → modify_at types attrs t op vs ≡ Ok out → AreGood types out
  unfolding modify_at
  at_good attrs out t op vs known h e =
      let old : List (List ℕ) = values_of attrs t in
      let k = bind_ok (changed_values types t op old vs) (λ ws. Ok (set_values attrs t ws)) out e in
      let n = none_said (block_fault types t op (has_values old) (has_values vs)) (block_values types t op old vs) k.0 k.1 in
      subst (AreGood types) (same_ok (set_values attrs t k.0) out k.2) (good_set types t k.0 attrs h (block_good types t op old vs k.0 (values_good types t attrs known h.all) n.1))

  typed : (o : Option ℕ) (t : ℕ) → named_type o ≡ Ok t → o ≡ Some t
  typed None t e = absurd cc
  typed (Some u) t e = ap (λ k. Some k) (same_ok u t e)

  modify_good : (attrs out : Attributes) (m : Mod) → AreGood types attrs → modify_block types attrs m ≡ Ok out → AreGood types out
  modify_good attrs out m h e =
      let k = bind_ok (named_type (type_of types m.attr)) (λ t. modify_at types attrs t m.op m.values) out e in
      at_good attrs out k.0 m.op m.values (type_known types m.attr k.0 (typed (type_of types m.attr) k.0 k.1)) h k.2

  rdn_there : (attrs : Attributes) (rdn : TypedRdn) → has_rdn types rdn attrs ≡ true → AllByRecursion (IsThere types attrs) rdn
  rdn_there attrs [] h = tt
  rdn_there attrs (p ∷ ps) h =
      let k = and_parts (has_equal types p.0 p.1 (values_of attrs p.0)) (has_rdn types ps attrs) h in
      (k.0, rdn_there attrs ps k.1)

module _ (conf : Conf) where
  -- what is known where nothing failed
  whole_ok : (attrs : Attributes) → entry_fault conf attrs ≡ None → (has_its_classes conf attrs ≡ true) × (are_single conf.types attrs ≡ true)
  whole_ok attrs e = by (has_its_classes conf attrs) (are_single conf.types attrs) e
    where
      by : (a b : Bool) → cond (not a) (Some ObjectClassViolation) (cond (not b) (Some ConstraintViolation) None) ≡ None → (a ≡ true) × (b ≡ true)
      by false b said = absurd cc
      by true false said = absurd cc
      by true true said = (refl, refl)

  modified_ok : (rdn : TypedRdn) (attrs : Attributes) → modified_fault conf rdn attrs ≡ None → (has_rdn conf.types rdn attrs ≡ true) × (entry_fault conf attrs ≡ None)
  modified_ok rdn attrs e = by (has_rdn conf.types rdn attrs) e
    where
      by : (a : Bool) → cond (not a) (Some NotAllowedOnRdn) (entry_fault conf attrs) ≡ None → (a ≡ true) × (entry_fault conf attrs ≡ None)
      by false said = absurd cc
      by true said = (refl, said)

pub modify_keeps : (conf : Conf) (e out : EntryContent) (mods : List Mod) → IsGood conf e → modify_entry conf e mods ≡ Ok out → (IsGood conf out) × (out.rdn ≡ e.rdn)
unfolding modify_entry
modify_keeps conf e out mods h said =
    let now : Attributes → EntryContent = λ attrs. record { rdn = e.rdn; attrs = attrs } in
    let k = bind_ok (through (modify_block conf.types) e.attrs mods) (λ attrs. unless (modified_fault conf e.rdn attrs) (Ok (now attrs))) out said in
    let attrs : Attributes = k.0 in
    let good = through_keeps (AreGood conf.types) (modify_block conf.types) (modify_good conf.types) mods e.attrs attrs (record { all = h.attrs; types_apart = h.types_apart }) k.1 in
    let n = none_said (modified_fault conf e.rdn attrs) (Ok (now attrs)) out k.2 in
    let m = modified_ok conf e.rdn attrs n.0 in
    let tests = whole_ok conf attrs m.1 in
    let is : now attrs ≡ out = same_ok (now attrs) out n.1 in (
      subst (IsGood conf) is (record {
        attrs = good.all;
        types_apart = good.types_apart;
        class = tests.0;
        single = tests.1;
        rdn = h.rdn;
        rdn_there = rdn_there conf.types attrs e.rdn m.0;
      }),
      ap (λ (x : EntryContent). x.rdn) (sym is),
    )

-- ---- another RDN

module _ (types : List AttributeType) where
  -- a value that equals another than the one that goes
  differs : (t : ℕ) (v w k : List ℕ) → are_equal types t v w ≡ false → are_equal types t k v ≡ true → not (are_equal types t k w) ≡ true
  differs t v w k apart same = ap not ((equal_equiv types t).congr k v w same ∙ apart)

  left_there : (t : ℕ) (v w : List ℕ) (vs : List (List ℕ)) → are_equal types t v w ≡ false → has_equal types t v vs ≡ true → has_equal types t v (without_value types t vs w) ≡ true
  left_there t v w vs apart there = any-filter_same (λ k. are_equal types t k v) (λ k. not (are_equal types t k w)) true (λ k same. differs t v w k apart same) vs ∙ there

  stays_there : (attrs : Attributes) (p q : Ava) → IsDistinct nat_eq (keys_of attrs) → (nat_eq p.0 q.0 && are_equal types p.0 q.1 p.1) ≡ false → IsThere types attrs q → IsThere types (without_ava types p attrs) q
  stays_there attrs p q h other there =
      ap (has_equal types q.0 q.1) (values_set p.0 (without_value types p.0 (values_of attrs p.0) p.1) attrs q.0 h)
      ∙ elim (nat_eq q.0 p.0) as (λ b. nat_eq q.0 p.0 ≡ b → has_equal types q.0 q.1 (cond b (without_value types p.0 (values_of attrs p.0) p.1) (values_of attrs q.0)) ≡ true) [
        | false ↦ λ e. there
        | true ↦ λ e.
            let same : q.0 ≡ p.0 = eqb-true q.0 p.0 e in
            let apart : are_equal types p.0 q.1 p.1 ≡ false = sym (ap (λ b. b && are_equal types p.0 q.1 p.1) (nat_eq_equiv.symm p.0 q.0 ∙ e)) ∙ other in
            subst (λ k. has_equal types k q.1 (without_value types p.0 (values_of attrs p.0) p.1) ≡ true) (sym same)
            (left_there p.0 q.1 p.1 (values_of attrs p.0) apart (subst (λ k. has_equal types k q.1 (values_of attrs k) ≡ true) same there))
      ] refl

  all_stay : (attrs : Attributes) (p : Ava) (new : TypedRdn) → IsDistinct nat_eq (keys_of attrs) → has_ava types new p ≡ false → AllByRecursion (IsThere types attrs) new → AllByRecursion (IsThere types (without_ava types p attrs)) new
  all_stay attrs p [] h other there = tt
  all_stay attrs p (q ∷ qs) h other there =
      let k = or_parts (nat_eq p.0 q.0 && are_equal types p.0 q.1 p.1) (has_ava types qs p) other in
      (stays_there attrs p q h k.0 there.0, all_stay attrs p qs h k.1 there.1)

  ava_gone : (attrs : Attributes) (p : Ava) → is_known types p.0 ≡ true → AreGood types attrs → AreGood types (without_ava types p attrs)
  ava_gone attrs p known h = good_set types p.0 (without_value types p.0 (values_of attrs p.0) p.1) attrs h (without_good types p.0 (values_of attrs p.0) p.1 (values_good types p.0 attrs known h.all))

  rdn_gone : (new old : TypedRdn) (attrs : Attributes) → AllByRecursion (IsAva types) old → AreGood types attrs → AllByRecursion (IsThere types attrs) new → AreGood types (without_rdn types new old attrs) × AllByRecursion (IsThere types (without_rdn types new old attrs)) new
  unfolding without_rdn
  rdn_gone new [] attrs is h there = (h, there)
  rdn_gone new (p ∷ ps) attrs is h there =
      elim (has_ava types new p) as (λ b. has_ava types new p ≡ b → AreGood types (without_rdn types new ps (cond b attrs (without_ava types p attrs))) × AllByRecursion (IsThere types (without_rdn types new ps (cond b attrs (without_ava types p attrs)))) new) [
        | true ↦ λ e. rdn_gone new ps attrs is.1 h there
        | false ↦ λ e. rdn_gone new ps (without_ava types p attrs) is.1 (ava_gone attrs p is.0.known h) (all_stay attrs p new h.types_apart e there)
      ] refl

  renamed_good : (e : EntryContent) (new : TypedRdn) (delete_old : Bool) → AllByRecursion (IsAva types) e.rdn → AllByRecursion (IsAva types) new → AreGood types e.attrs → AreGood types (renamed_attrs types e new delete_old) × AllByRecursion (IsThere types (renamed_attrs types e new delete_old)) new
  renamed_good e new false old is h = (rdn_good types new e.attrs is h, all_come types new e.attrs)
  renamed_good e new true old is h = rdn_gone new e.rdn (with_rdn types new e.attrs) old (rdn_good types new e.attrs is h) (all_come types new e.attrs)

pub rename_keeps : (conf : Conf) (e out : EntryContent) (new : TypedRdn) (delete_old : Bool) → IsGood conf e → IsRdn conf.types new → rename_entry conf e new delete_old ≡ Ok out → (IsGood conf out) × (out.rdn ≡ new)
unfolding rename_entry
rename_keeps conf e out new delete_old h good_new said =
    let attrs : Attributes = renamed_attrs conf.types e new delete_old in
    let now : EntryContent = record { rdn = new; attrs = attrs } in
    let n = none_said (entry_fault conf attrs) (Ok now) out said in
    let tests = whole_ok conf attrs n.0 in
    let good = renamed_good conf.types e new delete_old h.rdn.avas good_new.avas (record { all = h.attrs; types_apart = h.types_apart }) in
    let is : now ≡ out = same_ok now out n.1 in (
      subst (IsGood conf) is (record {
        attrs = good.0.all;
        types_apart = good.0.types_apart;
        class = tests.0;
        single = tests.1;
        rdn = good_new;
        rdn_there = good.1;
      }),
      ap (λ (x : EntryContent). x.rdn) (sym is),
    )
