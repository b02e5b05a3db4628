use Rattle.std.proofs.Common.{◌≡◌, ◌+◌, ◌<◌, ℕ, Bool, true, cond, ltb, Some, None, sym, ap, ◌∙◌, arith}
use Rattle.std.proofs.lemmas.Bool.{lt-ltb}
use Rattle.ldif.specs.PartLines.{name_line}
use Rattle.ldif.proofs.parts.control_line.Goals as goal

pub returns-then-index-count : goal.returns-then-index-count
returns-then-index-count c = λ fits.
    let front = name_line c.args.raw.now.first c.args.raw.now.lines in
    let some : 0 < c.args.count = omega (arith, c.if-index-count.true) in
    let at : c.saturating_add-then-index-count.result ≡ front + 1 + c.args.index = omega (arith, fits some, c.name_line.ensures, c.saturating_add.ensures, c.saturating_add-then-index-count.ensures, c.if-index-count.true, c.ranges.len.fits) in
    let within : ltb c.args.index c.args.count ≡ true = lt-ltb _ _ c.if-index-count.true in
    ap (λ (n : ℕ). Some n) at ∙ sym (ap (λ (t : Bool). cond t (Some (front + 1 + c.args.index)) None) within)
