-- Two maps as one: keys that pass a test are looked up in the first, and all others in the second.
use Rattle.std.specs.Prelude.{◌≡◌, ℕ, Bool, true, false, not, List, ◌++◌}
use Rattle.std.specs.FinMap as finite
use Rattle.std.specs.FinSet as set
use Rattle.index_text.specs.KeySets.{SetsByKey, members_in}

module _ (test : List ℕ → Bool) where
  abbrev pub joined : SetsByKey → SetsByKey → SetsByKey
  joined first others = finite.from_entries (finite.entries (finite.retain_keys first test) ++ finite.entries (finite.retain_keys others (λ key. not (test key))))

  -- each key has its members in its own map alone
  pub record AreApart (first others : SetsByKey) : Type 0 where
    pub first_alone : (key : List ℕ) → test key ≡ false → members_in first key ≡ set.empty
    pub others_alone : (key : List ℕ) → test key ≡ true → members_in others key ≡ set.empty
