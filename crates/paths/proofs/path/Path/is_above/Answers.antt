use Rattle.std.proofs.Common.{◌∙◌, sym, ap, length}
use Rattle.std.specs.Prelude.{nat_lt, ◌&&◌}
use Rattle.paths.proofs.PackedPaths.{longer_packed}
use Rattle.paths.proofs.path.Path.is_above.Goals as goal

pub returns-then-begins : goal.returns-then-begins
returns-then-begins c =
    let on = sym c.begins.ensures ∙ c.if-begins.true in
    (λ i. nat_lt (length (c.bytes.ensures i)) (length (c.bytes-then-begins.ensures i)))
    ∙ longer_packed c.args.self.now c.args.other.now on
    ∙ sym (ap (λ b. b && nat_lt (length c.args.self.now) (length c.args.other.now)) on)
