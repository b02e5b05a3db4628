use Rattle.std.proofs.Common.{◌≡◌, ◌++◌, drop}
use Rattle.std.specs.Prelude.{codes}
use Rattle.std.specs.List.{flat_map}
use Rattle.commands.specs.Lists.{comment_byte}
use Rattle.commands.proofs.list_text.comment.Given as goal

abbrev pub invariant-loop-byte : goal.invariant-loop-byte
invariant-loop-byte l = l.line.items ++ flat_map comment_byte (drop l.byte-index l.text) ≡ codes "# filter: " ++ flat_map comment_byte l.fn.text
