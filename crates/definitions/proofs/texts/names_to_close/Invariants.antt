use Rattle.std.proofs.Common.{◌≡◌, drop}
use Rattle.definitions.specs.Texts.{to_close, next_name_at, names_to_close}
use Rattle.definitions.proofs.ToClose.{with_front}
use Rattle.definitions.proofs.texts.names_to_close.Given as goal

abbrev pub invariant-loop : goal.invariant-loop
invariant-loop l = with_front l.names.items (to_close (next_name_at l.quotes) (drop l.index l.others) l.rest) ≡ names_to_close l.quotes l.text
