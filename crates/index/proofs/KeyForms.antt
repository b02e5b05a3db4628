-- Three maps as one: of tiny keys, of short ones, and of long ones.
use Rattle.std.proofs.Common.{◌≡◌, ℕ, Bool, true, false, List, Result, ap, subst, ◌∙◌}
use Rattle.std.specs.FinSet as set
use Rattle.index_text.specs.KeySets.{SetsByKey, members_in}
use Rattle.index.specs.KeySets.{Puts, Takes}
use Rattle.index.specs.inner.JoinedSets.{joined, AreApart}
use Rattle.index.specs.inner.ShortKeys.{fits}
use Rattle.index.proofs.Joined.{first_members, second_members, put_first, put_second, apart_first, apart_second, take_first, take_second, left_first, left_second, forgets_joined, forgets_apart}

module _ (tiny short long : SetsByKey) where
  abbrev others : SetsByKey
  others = joined (fits 32) short long

  abbrev all : SetsByKey
  all = joined (fits 4) tiny others

  abbrev AreOwn : Type 0
  AreOwn = AreApart (fits 4) tiny others × AreApart (fits 32) short long

  module _ (key : List ℕ) (s : SetsByKey) (is : all ≡ s) where
    pub tiny_members : (copied : List ℕ) → fits 4 key ≡ true → copied ≡ key → members_in tiny copied ≡ members_in s key
    tiny_members copied kind same = ap (members_in tiny) same ∙ first_members (fits 4) tiny others key kind ∙ ap (λ (x : SetsByKey). members_in x key) is

    pub short_members : (copied : List ℕ) → fits 4 key ≡ false → fits 32 key ≡ true → copied ≡ key → members_in short copied ≡ members_in s key
    short_members copied none kind same = ap (members_in short) same ∙ first_members (fits 32) short long key kind ∙ second_members (fits 4) tiny others key none ∙ ap (λ (x : SetsByKey). members_in x key) is

    pub long_members : fits 4 key ≡ false → fits 32 key ≡ false → members_in long key ≡ members_in s key
    long_members none kind = second_members (fits 32) short long key kind ∙ second_members (fits 4) tiny others key none ∙ ap (λ (x : SetsByKey). members_in x key) is

  module _ (key : List ℕ) (number : ℕ) {E : Type 0} (r : Result Bool E) (s : SetsByKey) (is : all ≡ s) (kinds : AreOwn) where
    -- a tiny key
    pub put_tiny : (new : SetsByKey) (copied : List ℕ) → fits 4 key ≡ true → copied ≡ key → Puts copied number (members_in tiny) (members_in new) r
        → (AreApart (fits 4) new others × AreApart (fits 32) short long) × Puts key number (members_in s) (members_in (joined (fits 4) new others)) r
    put_tiny new copied kind same h = ((apart_at kind here kinds.0, kinds.1), subst (λ (x : SetsByKey). Puts key number (members_in x) (members_in (joined (fits 4) new others)) r) is (put_first (fits 4) key number r tiny new others kind here))
      where
        here : Puts key number (members_in tiny) (members_in new) r
        here = subst (λ (k : List ℕ). Puts k number (members_in tiny) (members_in new) r) same h

        apart_at : fits 4 key ≡ true → Puts key number (members_in tiny) (members_in new) r → AreApart (fits 4) tiny others → AreApart (fits 4) new others
        apart_at = apart_first (fits 4) key number r tiny new others

    -- the second or the third map changes
    put_behind : (new : SetsByKey) → fits 4 key ≡ false → Puts key number (members_in others) (members_in new) r → AreApart (fits 4) tiny new × Puts key number (members_in s) (members_in (joined (fits 4) tiny new)) r
    put_behind new kind h = (apart_second (fits 4) key number r tiny others new kind h kinds.0, subst (λ (x : SetsByKey). Puts key number (members_in x) (members_in (joined (fits 4) tiny new)) r) is (put_second (fits 4) key number r tiny others new kind h))

    -- a short key
    pub put_short : (new : SetsByKey) (copied : List ℕ) → fits 4 key ≡ false → fits 32 key ≡ true → copied ≡ key → Puts copied number (members_in short) (members_in new) r
        → (AreApart (fits 4) tiny (joined (fits 32) new long) × AreApart (fits 32) new long) × Puts key number (members_in s) (members_in (joined (fits 4) tiny (joined (fits 32) new long))) r
    put_short new copied none kind same h = ((all_of.0, apart_first (fits 32) key number r short new long kind here kinds.1), all_of.1)
      where
        here : Puts key number (members_in short) (members_in new) r
        here = subst (λ (k : List ℕ). Puts k number (members_in short) (members_in new) r) same h

        all_of : AreApart (fits 4) tiny (joined (fits 32) new long) × Puts key number (members_in s) (members_in (joined (fits 4) tiny (joined (fits 32) new long))) r
        all_of = put_behind (joined (fits 32) new long) none (put_first (fits 32) key number r short new long kind here)

    -- a long key
    pub put_long : (new : SetsByKey) → fits 4 key ≡ false → fits 32 key ≡ false → Puts key number (members_in long) (members_in new) r
        → (AreApart (fits 4) tiny (joined (fits 32) short new) × AreApart (fits 32) short new) × Puts key number (members_in s) (members_in (joined (fits 4) tiny (joined (fits 32) short new))) r
    put_long new none kind h = ((all_of.0, apart_second (fits 32) key number r short long new kind h kinds.1), all_of.1)
      where
        all_of : AreApart (fits 4) tiny (joined (fits 32) short new) × Puts key number (members_in s) (members_in (joined (fits 4) tiny (joined (fits 32) short new))) r
        all_of = put_behind (joined (fits 32) short new) none (put_second (fits 32) key number r short long new kind h)

  module _ (key : List ℕ) (number : ℕ) (was : Bool) (s : SetsByKey) (is : all ≡ s) (kinds : AreOwn) where
    -- a tiny key
    pub take_tiny : (new : SetsByKey) (copied : List ℕ) → fits 4 key ≡ true → copied ≡ key → Takes copied number (members_in tiny) (members_in new) was
        → (AreApart (fits 4) new others × AreApart (fits 32) short long) × Takes key number (members_in s) (members_in (joined (fits 4) new others)) was
    take_tiny new copied kind same h = ((apart_at kind here kinds.0, kinds.1), subst (λ (x : SetsByKey). Takes key number (members_in x) (members_in (joined (fits 4) new others)) was) is (take_first (fits 4) key number was tiny new others kind here))
      where
        here : Takes key number (members_in tiny) (members_in new) was
        here = subst (λ (k : List ℕ). Takes k number (members_in tiny) (members_in new) was) same h

        apart_at : fits 4 key ≡ true → Takes key number (members_in tiny) (members_in new) was → AreApart (fits 4) tiny others → AreApart (fits 4) new others
        apart_at = left_first (fits 4) key number was tiny new others

    -- the second or the third map changes
    take_behind : (new : SetsByKey) → fits 4 key ≡ false → Takes key number (members_in others) (members_in new) was → AreApart (fits 4) tiny new × Takes key number (members_in s) (members_in (joined (fits 4) tiny new)) was
    take_behind new kind h = (left_second (fits 4) key number was tiny others new kind h kinds.0, subst (λ (x : SetsByKey). Takes key number (members_in x) (members_in (joined (fits 4) tiny new)) was) is (take_second (fits 4) key number was tiny others new kind h))

    -- a short key
    pub take_short : (new : SetsByKey) (copied : List ℕ) → fits 4 key ≡ false → fits 32 key ≡ true → copied ≡ key → Takes copied number (members_in short) (members_in new) was
        → (AreApart (fits 4) tiny (joined (fits 32) new long) × AreApart (fits 32) new long) × Takes key number (members_in s) (members_in (joined (fits 4) tiny (joined (fits 32) new long))) was
    take_short new copied none kind same h = ((all_of.0, left_first (fits 32) key number was short new long kind here kinds.1), all_of.1)
      where
        here : Takes key number (members_in short) (members_in new) was
        here = subst (λ (k : List ℕ). Takes k number (members_in short) (members_in new) was) same h

        all_of : AreApart (fits 4) tiny (joined (fits 32) new long) × Takes key number (members_in s) (members_in (joined (fits 4) tiny (joined (fits 32) new long))) was
        all_of = take_behind (joined (fits 32) new long) none (take_first (fits 32) key number was short new long kind here)

    -- a long key
    pub take_long : (new : SetsByKey) → fits 4 key ≡ false → fits 32 key ≡ false → Takes key number (members_in long) (members_in new) was
        → (AreApart (fits 4) tiny (joined (fits 32) short new) × AreApart (fits 32) short new) × Takes key number (members_in s) (members_in (joined (fits 4) tiny (joined (fits 32) short new))) was
    take_long new none kind h = ((all_of.0, left_second (fits 32) key number was short long new kind h kinds.1), all_of.1)
      where
        all_of : AreApart (fits 4) tiny (joined (fits 32) short new) × Takes key number (members_in s) (members_in (joined (fits 4) tiny (joined (fits 32) short new))) was
        all_of = take_behind (joined (fits 32) short new) none (take_second (fits 32) key number was short long new kind h)

  module _ (number : ℕ) (t u v : SetsByKey) (at_tiny : (q : List ℕ) → members_in t q ≡ set.remove (members_in tiny q) number) (at_short : (q : List ℕ) → members_in u q ≡ set.remove (members_in short q) number) (at_long : (q : List ℕ) → members_in v q ≡ set.remove (members_in long q) number) where
    pub all_forget : (s : SetsByKey) → all ≡ s → (q : List ℕ) → members_in (joined (fits 4) t (joined (fits 32) u v)) q ≡ set.remove (members_in s q) number
    all_forget s is q = forgets_joined (fits 4) number tiny others t (joined (fits 32) u v) at_tiny (forgets_joined (fits 32) number short long u v at_short at_long) q ∙ ap (λ (x : SetsByKey). set.remove (members_in x q) number) is

    pub own_after : AreOwn → AreApart (fits 4) t (joined (fits 32) u v) × AreApart (fits 32) u v
    own_after own = (forgets_apart (fits 4) number tiny others t (joined (fits 32) u v) at_tiny (forgets_joined (fits 32) number short long u v at_short at_long) own.0, forgets_apart (fits 32) number short long u v at_short at_long own.1)
