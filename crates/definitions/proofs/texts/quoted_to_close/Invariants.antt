use Rattle.std.proofs.Common.{◌≡◌, drop}
use Rattle.definitions.specs.Words.{quoted_at}
use Rattle.definitions.specs.Texts.{to_close}
use Rattle.definitions.proofs.ToClose.{with_front}
use Rattle.definitions.proofs.texts.quoted_to_close.Given as goal

abbrev pub invariant-loop : goal.invariant-loop
invariant-loop l = with_front l.texts.items (to_close quoted_at (drop l.index l.text) l.rest) ≡ to_close quoted_at l.text l.text
