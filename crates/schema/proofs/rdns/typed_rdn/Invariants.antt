use Rattle.std.proofs.Common.{◌≡◌, drop}
use Rattle.schema.specs.Rdns.{typed_rdn, avas_from}
use Rattle.schema.specs.inner.Keys.{AreKnown}
use Rattle.schema.proofs.rdns.typed_rdn.Given as goal

-- what was typed, followed by what is made of the rest
abbrev pub invariant-loop-ava : goal.invariant-loop-ava
invariant-loop-ava l = (avas_from l.types l.typed.items (drop l.ava-index l.avas) ≡ typed_rdn l.types l.avas) × AreKnown l.types l.typed.items
