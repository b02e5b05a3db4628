-- What a pull and a push do to the bytes of a source and a sink.
use Rattle.std.specs.Prelude.{◌≡◌, ℕ, ◌+◌, ◌<◌, Bool, true, List, [], length, take, Option}
use Rattle.std.specs.Io.KnownBytes.{Consumes, Appends, Keeps}

-- What is seen of a source: the bytes left, where they are known; how many were pulled; how often it failed; whether it has ended.
pub record Seen : Type 0 where
  pub left : Option (List ℕ)
  pub pulled : ℕ
  pub failed : ℕ
  pub ended : Bool

-- a pull gave these bytes
pub record Gave (old new : Seen) (bytes : List ℕ) : Type 0 where
  pub left : Consumes old.left new.left bytes
  pub pulled : new.pulled ≡ old.pulled + length bytes
  pub failed : new.failed ≡ old.failed
  pub stays_ended : old.ended ≡ true → (new.ended ≡ true) × (bytes ≡ [])

-- these bytes were pulled, in any number of pulls, whichever of them failed
pub record Pulled (old new : Seen) (bytes : List ℕ) : Type 0 where
  pub left : Consumes old.left new.left bytes
  pub count : new.pulled ≡ old.pulled + length bytes

-- some bytes were pulled
pub record GaveSome (old new : Seen) : Type 0 where
  pub bytes : List ℕ
  pub are : Pulled old new bytes

-- a pull failed: the count of failures rose, and nothing else happened
pub record PullFailed (old new : Seen) : Type 0 where
  pub left : Keeps old.left new.left
  pub pulled : new.pulled ≡ old.pulled
  pub failed : new.failed ≡ old.failed + 1
  pub ended : new.ended ≡ old.ended

-- What is seen of a sink: the bytes that it took, where they are known; how many; how often it failed.
pub record Written : Type 0 where
  pub bytes : Option (List ℕ)
  pub count : ℕ
  pub failed : ℕ

-- a push took these bytes
pub record Took (old new : Written) (bytes : List ℕ) : Type 0 where
  pub taken : Appends old.bytes new.bytes bytes
  pub count : new.count ≡ old.count + length bytes
  pub failed : new.failed ≡ old.failed

-- a push failed: the count of failures rose, and nothing else happened
pub record PushFailed (old new : Written) : Type 0 where
  pub taken : Keeps old.bytes new.bytes
  pub count : new.count ≡ old.count
  pub failed : new.failed ≡ old.failed + 1

-- a beginning of the bytes was taken, not all of them, and then a push failed
pub record Broke (old new : Written) (bytes : List ℕ) : Type 0 where
  pub len : ℕ
  pub within : len < length bytes
  pub taken : Appends old.bytes new.bytes (take len bytes)
  pub count : new.count ≡ old.count + len
  pub failed : new.failed ≡ old.failed + 1
