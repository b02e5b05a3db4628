-- Tests that tell where something holds.
use Rattle.std.proofs.Common.{◌≡◌, ◌↔◌, Bool, true}

pub told_by : (b : Bool) (P Q : Type 0) → ((b ≡ true) ↔ P) → (P ↔ Q) → ((b ≡ true) ↔ Q)
told_by b P Q h k = (λ e. k.0 (h.0 e), λ q. h.1 (k.1 q))
