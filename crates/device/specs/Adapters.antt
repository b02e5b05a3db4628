-- What is seen of std's readers and writers as sources and sinks.
use Rattle.std.specs.Prelude.{ℕ, List, Option}
use Rattle.std.specs.declared.io.traits.Read.{Ghosts}
use Rattle.device.specs.Device.{Seen, Written}
use Rattle.device.specs.declared.adapters.OfRead.{OfRead}
use Rattle.device.specs.declared.adapters.OfWrite.{OfWrite}

abbrev pub read_seen : {R : Type 0} {g : Ghosts R} → (R → Option (List ℕ)) → OfRead R g → Seen
read_seen remaining s = record { left = remaining s.inner; pulled = s.pulled; failed = s.failures; ended = s.ended }

abbrev pub write_seen : {W : Type 0} → (W → Option (List ℕ)) → OfWrite W → Written
write_seen contents s = record { bytes = contents s.inner; count = s.count; failed = s.failures }
