-- What is seen of the sources and sinks in memory.
use Rattle.std.specs.Prelude.{◌≡◌, ℕ, ◌+◌, ◌<◌, ◌≤◌, ◌↔◌, ◌⊎◌, Option, None, Some, IfSome, MatchOption, Result, IfOk, IsOk, IsErr, OnOk, OnErr, nat_le, length, drop, vec_len}
use Rattle.std.specs.Vec.{vec_capacity}
use Rattle.device.specs.Device.{Seen, Written}
use Rattle.device.specs.declared.source.Device.{Device}
use Rattle.try_device.specs.declared.memory.TrySource.{TrySource}
use Rattle.try_device.specs.declared.memory.TrySink.{TrySink}

abbrev pub source_seen : TrySource → Seen
source_seen s = record { left = Some (drop s.at s.bytes.now); pulled = s.at; failed = s.failures; ended = nat_le (length s.bytes.now) s.at }

abbrev pub sink_written : TrySink → Written
sink_written s = record { bytes = Some s.bytes.items; count = vec_len s.bytes; failed = s.failures }

-- how many bytes come or go in one call at most
abbrev pub source_most : TrySource → ℕ
source_most s = s.most

abbrev pub sink_most : TrySink → ℕ
sink_most s = s.most

-- how many bytes come or go before each call fails, where there is such a number
abbrev pub source_limit : TrySource → Option ℕ
source_limit s = s.fails_after

abbrev pub sink_limit : TrySink → Option ℕ
sink_limit s = s.fails_after

-- for how many bytes in all there is room without more memory
abbrev pub sink_room : TrySink → ℕ
sink_room s = vec_capacity s.bytes

-- of so many further bytes, no more than go in one call, not all have room without more memory
abbrev pub LacksRoom : TrySink → ℕ → Type 0
LacksRoom s len = (sink_room s < vec_len s.bytes + len) × (sink_room s < vec_len s.bytes + s.most)

-- so many bytes came or went that each call fails
abbrev pub IsSpent : Option ℕ → ℕ → Type 0
IsSpent None count = ⊥
IsSpent (Some limit) count = limit ≤ count

-- how few bytes a pull gives, and when it fails
pub record PullsByLimit (old new : TrySource) (answer : Result ℕ Device) : Type 0 where
  pub most : source_most new ≡ source_most old
  pub few : IfOk answer (λ n. n ≤ source_most old)
  pub limit : source_limit new ≡ source_limit old
  pub fails : MatchOption (source_limit old) (IsOk answer) (λ limit. IsErr answer ↔ (limit ≤ (source_seen old).pulled))
  pub within : IfSome (source_limit old) (λ limit. OnOk answer ((source_seen new).pulled ≤ limit))

-- how few bytes a push takes, and when it fails: at its limit, or where it wants more memory for so many bytes
pub record PushesByLimit (old new : TrySink) (len : ℕ) (answer : Result ℕ Device) : Type 0 where
  pub most : sink_most new ≡ sink_most old
  pub few : IfOk answer (λ n. n ≤ sink_most old)
  pub limit : sink_limit new ≡ sink_limit old
  pub fails : IsSpent (sink_limit old) (sink_written old).count → IsErr answer
  pub only : OnErr answer (IsSpent (sink_limit old) (sink_written old).count ⊎ LacksRoom old len)
  pub within : IfSome (sink_limit old) (λ limit. OnOk answer ((sink_written new).count ≤ limit))
