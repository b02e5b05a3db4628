-- Two maps as one, and what becomes of it when one of them changes.
use Rattle.std.proofs.Common.{◌≡◌, ℕ, Bool, true, false, cond, not, List, [], ◌∷◌, ◌++◌, Option, Some, None, Result, Ok, Err, refl, sym, ap, subst, ◌∙◌}
use Rattle.std.specs.Prelude.{unwrap_or, IfOk, OnOk, OnErr, MatchOption}
use Rattle.std.specs.Borrow.{Bor}
use Rattle.std.specs.Ordering.{nat_cmp}
use Rattle.std.specs.Cmp.Lexicographic.{slice_cmp, nat_list_cmp_total}
use Rattle.std.specs.Str.{bytes_eq}
use Rattle.std.specs.FinMap as finite
use Rattle.std.specs.FinSet as set
use Rattle.dense_sets.specs.declared.key_set.KeySet.{KeySet}
use Rattle.index_text.specs.KeySets.{Members, SetsByKey, Row, members_in}
use Rattle.index.specs.KeySets.{Puts, Takes}
use Rattle.index.specs.inner.JoinedSets.{joined, AreApart}
use Rattle.std.proofs.lemmas.Result.{on_ok_weaker, on_err_weaker}
use Rattle.index_text.proofs.SlotKeyOrder.{same_bytes}
use Rattle.index.proofs.Keyed.{at, find_is, none_in, remove_none, puts_alike, takes_alike}

abbrev pub either : Option Members → Option Members → Option Members
either None p = p
either (Some s) p = Some s

pub at-append : (xs ys : List Row) (q : List ℕ) → at (xs ++ ys) q ≡ either (at xs q) (at ys q)
at-append [] ys q = refl
at-append (x ∷ xs) ys q = ap (cond (bytes_eq q x.0) (Some x.1)) (at-append xs ys q) ∙ by (bytes_eq q x.0) (at xs q)
  where
    by : (b : Bool) (o : Option Members) → cond b (Some x.1) (either o (at ys q)) ≡ either (cond b (Some x.1) o) (at ys q)
    by true o = refl
    by false o = refl

pub at_entries : (m : SetsByKey) (q : List ℕ) → at (finite.entries m) q ≡ finite.get m q
at_entries m q = sym (finite.get-entries m q ∙ find_is (finite.entries m) q)

kept : (m : SetsByKey) (p : List ℕ → Bool) (q : List ℕ) → at (finite.entries (finite.retain_keys m p)) q ≡ cond (p q) (finite.get m q) None
kept m p q = at_entries (finite.retain_keys m p) q ∙ finite.get-retain_keys m p q (λ x tied. ap p (sym (finite.slice_cmp-IsAntisymmetric finite.nat_cmp-IsAntisymmetric q x tied)))

-- what is shown of a key, said of the members that it has in both
pub shown : {x y : Members} (r : Option (Bor KeySet)) → x ≡ y → MatchOption r (x ≡ set.empty) (λ s. s.now.members ≡ x) → MatchOption r (y ≡ set.empty) (λ s. s.now.members ≡ y)
shown None is h = sym is ∙ h
shown (Some s) is h = h ∙ is

module _ (test : List ℕ → Bool) where
  get_joined : (first others : SetsByKey) (q : List ℕ) → finite.get (joined test first others) q ≡ cond (test q) (finite.get first q) (finite.get others q)
  get_joined first others q =
      finite.get-from_entries nat_list_cmp_total _ q
      ∙ find_is _ q
      ∙ at-append (finite.entries (finite.retain_keys first test)) (finite.entries (finite.retain_keys others (λ key. not (test key)))) q
      ∙ (λ i. either (kept first test q i) (kept others (λ key. not (test key)) q i))
      ∙ by (test q) (finite.get first q) (finite.get others q)
    where
      by : (b : Bool) (o p : Option Members) → either (cond b o None) (cond (not b) p None) ≡ cond b o p
      by true None p = refl
      by true (Some s) p = refl
      by false o p = refl

  pub none_joined : joined test finite.empty finite.empty ≡ finite.empty
  none_joined = finite.same_map nat_list_cmp_total (finite.slice_cmp-IsAntisymmetric finite.nat_cmp-IsAntisymmetric) _ _ (λ q. get_joined finite.empty finite.empty q ∙ by (test q) q ∙ sym (finite.get-empty (slice_cmp nat_cmp) q))
    where
      by : (b : Bool) (q : List ℕ) → cond b (finite.get (finite.empty {X = Members} {R = slice_cmp nat_cmp}) q) (finite.get (finite.empty {X = Members} {R = slice_cmp nat_cmp}) q) ≡ None
      by true q = finite.get-empty (slice_cmp nat_cmp) q
      by false q = finite.get-empty (slice_cmp nat_cmp) q

  pub apart_none : AreApart test finite.empty finite.empty
  apart_none = record { first_alone = λ key kind. none_in key; others_alone = λ key kind. none_in key }

  -- ---- keys of the two kinds

  pub differ : (a b : List ℕ) (x : Bool) → test a ≡ x → test b ≡ not x → bytes_eq a b ≡ false
  differ a b x is_a is_b = by (bytes_eq a b) refl
    where
      never : (y : Bool) → y ≡ not y → ⊥
      never true is = cc
      never false is = cc

      by : (r : Bool) → bytes_eq a b ≡ r → r ≡ false
      by false e = refl
      by true e = absurd (never x (sym is_a ∙ ap test (same_bytes a b e) ∙ is_b))

  -- ---- the members of keys, of both kinds

  abbrev both : (List ℕ → Members) → (List ℕ → Members) → List ℕ → Members
  both f g q = cond (test q) (f q) (g q)

  pub members_joined : (first others : SetsByKey) (q : List ℕ) → members_in (joined test first others) q ≡ both (members_in first) (members_in others) q
  members_joined first others q = ap (λ o. unwrap_or o set.empty) (get_joined first others q) ∙ by (test q)
    where
      by : (b : Bool) → unwrap_or (cond b (finite.get first q) (finite.get others q)) set.empty ≡ cond b (members_in first q) (members_in others q)
      by true = refl
      by false = refl

  first_are : (f g : List ℕ → Members) (key : List ℕ) → test key ≡ true → both f g key ≡ f key
  first_are f g key kind = ap (λ b. cond b (f key) (g key)) kind

  second_are : (f g : List ℕ → Members) (key : List ℕ) → test key ≡ false → both f g key ≡ g key
  second_are f g key kind = ap (λ b. cond b (f key) (g key)) kind

  pub first_members : (first others : SetsByKey) (key : List ℕ) → test key ≡ true → members_in first key ≡ members_in (joined test first others) key
  first_members first others key kind = sym (members_joined first others key ∙ first_are (members_in first) (members_in others) key kind)

  pub second_members : (first others : SetsByKey) (key : List ℕ) → test key ≡ false → members_in others key ≡ members_in (joined test first others) key
  second_members first others key kind = sym (members_joined first others key ∙ second_are (members_in first) (members_in others) key kind)

  -- a key of one kind changes
  module _ (change : Members → Members) (key : List ℕ) where
    abbrev Changes : (List ℕ → Members) → (List ℕ → Members) → Type 0
    Changes old new = (q : List ℕ) → new q ≡ cond (bytes_eq key q) (change (old q)) (old q)

    first_changes : (f h g : List ℕ → Members) → test key ≡ true → Changes f h → Changes (both f g) (both h g)
    first_changes f h g kind step q = by (test q) refl
      where
        by : (b : Bool) → test q ≡ b → cond b (h q) (g q) ≡ cond (bytes_eq key q) (change (cond b (f q) (g q))) (cond b (f q) (g q))
        by true e = step q
        by false e = sym (ap (λ b. cond b (change (g q)) (g q)) (differ key q true kind e))

    second_changes : (f g h : List ℕ → Members) → test key ≡ false → Changes g h → Changes (both f g) (both f h)
    second_changes f g h kind step q = by (test q) refl
      where
        by : (b : Bool) → test q ≡ b → cond b (f q) (h q) ≡ cond (bytes_eq key q) (change (cond b (f q) (g q))) (cond b (f q) (g q))
        by true e = sym (ap (λ b. cond b (change (f q)) (f q)) (differ key q false kind e))
        by false e = step q

    -- where it has members, it is of that kind
    alone : (kind : Bool) (f h : List ℕ → Members) → test key ≡ kind → Changes f h → ((q : List ℕ) → test q ≡ not kind → f q ≡ set.empty) → (q : List ℕ) → test q ≡ not kind → h q ≡ set.empty
    alone kind f h is step none q other = step q ∙ ap (λ b. cond b (change (f q)) (f q)) (differ key q kind is other) ∙ none q other

  module _ (key : List ℕ) (number : ℕ) {E : Type 0} (r : Result Bool E) where
    puts_first : (f h g : List ℕ → Members) → test key ≡ true → Puts key number f h r → Puts key number (both f g) (both h g) r
    puts_first f h g kind puts = record {
      is_new = subst (λ (s : Members). IfOk r (λ b. b ≡ not (set.contains s number))) (sym (first_are f g key kind)) puts.is_new;
      came = on_ok_weaker r (first_changes (λ s. set.insert s number) key f h g kind) puts.came;
      stayed = on_err_weaker r (λ same q. ap (λ (s : Members). cond (test q) s (g q)) (same q)) puts.stayed;
    }

    puts_second : (f g h : List ℕ → Members) → test key ≡ false → Puts key number g h r → Puts key number (both f g) (both f h) r
    puts_second f g h kind puts = record {
      is_new = subst (λ (s : Members). IfOk r (λ b. b ≡ not (set.contains s number))) (sym (second_are f g key kind)) puts.is_new;
      came = on_ok_weaker r (second_changes (λ s. set.insert s number) key f g h kind) puts.came;
      stayed = on_err_weaker r (λ same q. ap (λ (s : Members). cond (test q) (f q) s) (same q)) puts.stayed;
    }

    pub put_first : (first new others : SetsByKey) → test key ≡ true → Puts key number (members_in first) (members_in new) r → Puts key number (members_in (joined test first others)) (members_in (joined test new others)) r
    put_first first new others kind puts = puts_alike _ _ _ _ _ _ _ (λ q. sym (members_joined first others q)) (λ q. sym (members_joined new others q)) (puts_first (members_in first) (members_in new) (members_in others) kind puts)

    pub put_second : (first others new : SetsByKey) → test key ≡ false → Puts key number (members_in others) (members_in new) r → Puts key number (members_in (joined test first others)) (members_in (joined test first new)) r
    put_second first others new kind puts = puts_alike _ _ _ _ _ _ _ (λ q. sym (members_joined first others q)) (λ q. sym (members_joined first new q)) (puts_second (members_in first) (members_in others) (members_in new) kind puts)

    put_alone : (kind : Bool) (f h : List ℕ → Members) → test key ≡ kind → Puts key number f h r → ((q : List ℕ) → test q ≡ not kind → f q ≡ set.empty) → (q : List ℕ) → test q ≡ not kind → h q ≡ set.empty
    put_alone kind f h is puts none q other = by r puts.came puts.stayed
      where
        by : (r : Result Bool E) → OnOk r ((q : List ℕ) → h q ≡ cond (bytes_eq key q) (set.insert (f q) number) (f q)) → OnErr r ((q : List ℕ) → h q ≡ f q) → h q ≡ set.empty
        by (Ok b) came stayed = alone (λ s. set.insert s number) key kind f h is came none q other
        by (Err e) came stayed = stayed q ∙ none q other

    pub apart_first : (first new others : SetsByKey) → test key ≡ true → Puts key number (members_in first) (members_in new) r → AreApart test first others → AreApart test new others
    apart_first first new others kind puts apart = record { first_alone = put_alone true (members_in first) (members_in new) kind puts apart.first_alone; others_alone = apart.others_alone }

    pub apart_second : (first others new : SetsByKey) → test key ≡ false → Puts key number (members_in others) (members_in new) r → AreApart test first others → AreApart test first new
    apart_second first others new kind puts apart = record { first_alone = apart.first_alone; others_alone = put_alone false (members_in others) (members_in new) kind puts apart.others_alone }

  module _ (key : List ℕ) (number : ℕ) (was : Bool) where
    takes_first : (f h g : List ℕ → Members) → test key ≡ true → Takes key number f h was → Takes key number (both f g) (both h g) was
    takes_first f h g kind takes = record {
      was = takes.was ∙ ap (λ (s : Members). set.contains s number) (sym (first_are f g key kind));
      went = first_changes (λ s. set.remove s number) key f h g kind takes.went;
    }

    takes_second : (f g h : List ℕ → Members) → test key ≡ false → Takes key number g h was → Takes key number (both f g) (both f h) was
    takes_second f g h kind takes = record {
      was = takes.was ∙ ap (λ (s : Members). set.contains s number) (sym (second_are f g key kind));
      went = second_changes (λ s. set.remove s number) key f g h kind takes.went;
    }

    pub take_first : (first new others : SetsByKey) → test key ≡ true → Takes key number (members_in first) (members_in new) was → Takes key number (members_in (joined test first others)) (members_in (joined test new others)) was
    take_first first new others kind takes = takes_alike _ _ _ _ _ _ _ (λ q. sym (members_joined first others q)) (λ q. sym (members_joined new others q)) (takes_first (members_in first) (members_in new) (members_in others) kind takes)

    pub take_second : (first others new : SetsByKey) → test key ≡ false → Takes key number (members_in others) (members_in new) was → Takes key number (members_in (joined test first others)) (members_in (joined test first new)) was
    take_second first others new kind takes = takes_alike _ _ _ _ _ _ _ (λ q. sym (members_joined first others q)) (λ q. sym (members_joined first new q)) (takes_second (members_in first) (members_in others) (members_in new) kind takes)

    pub left_first : (first new others : SetsByKey) → test key ≡ true → Takes key number (members_in first) (members_in new) was → AreApart test first others → AreApart test new others
    left_first first new others kind takes apart = record {
      first_alone = alone (λ s. set.remove s number) key true (members_in first) (members_in new) kind takes.went apart.first_alone;
      others_alone = apart.others_alone;
    }

    pub left_second : (first others new : SetsByKey) → test key ≡ false → Takes key number (members_in others) (members_in new) was → AreApart test first others → AreApart test first new
    left_second first others new kind takes apart = record {
      first_alone = apart.first_alone;
      others_alone = alone (λ s. set.remove s number) key false (members_in others) (members_in new) kind takes.went apart.others_alone;
    }

  -- each key of both kinds changes
  module _ (number : ℕ) where
    forgets_both : (f g h i : List ℕ → Members) → ((q : List ℕ) → h q ≡ set.remove (f q) number) → ((q : List ℕ) → i q ≡ set.remove (g q) number) → (q : List ℕ) → both h i q ≡ set.remove (both f g q) number
    forgets_both f g h i first second q = by (test q)
      where
        by : (b : Bool) → cond b (h q) (i q) ≡ set.remove (cond b (f q) (g q)) number
        by true = first q
        by false = second q

    pub forgets_joined : (first others new rest : SetsByKey) → ((q : List ℕ) → members_in new q ≡ set.remove (members_in first q) number) → ((q : List ℕ) → members_in rest q ≡ set.remove (members_in others q) number)
        → (q : List ℕ) → members_in (joined test new rest) q ≡ set.remove (members_in (joined test first others) q) number
    forgets_joined first others new rest h i q =
        members_joined new rest q
        ∙ forgets_both (members_in first) (members_in others) (members_in new) (members_in rest) h i q
        ∙ ap (λ (s : Members). set.remove s number) (sym (members_joined first others q))

    pub forgets_apart : (first others new rest : SetsByKey) → ((q : List ℕ) → members_in new q ≡ set.remove (members_in first q) number) → ((q : List ℕ) → members_in rest q ≡ set.remove (members_in others q) number)
        → AreApart test first others → AreApart test new rest
    forgets_apart first others new rest h i apart = record {
      first_alone = λ key kind. h key ∙ ap (λ (s : Members). set.remove s number) (apart.first_alone key kind) ∙ sym (remove_none number);
      others_alone = λ key kind. i key ∙ ap (λ (s : Members). set.remove s number) (apart.others_alone key kind) ∙ sym (remove_none number);
    }
