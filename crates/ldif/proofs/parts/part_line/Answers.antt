use Rattle.std.proofs.Common.{sym, subst}
use Rattle.ldif.proofs.ChangeForms.{AreBytes}
use Rattle.ldif.proofs.PartPlaces.{front_fits, part_line_is}
use Rattle.ldif.proofs.RecordForms.{record_found}
use Rattle.ldif.specs.Parts.{IsPartLine}
use Rattle.ldif.proofs.parts.part_line.Goals as goal

pub returns : goal.returns
returns c = λ mode h.
    let raw = c.args.raw.now in
    let found = c.args.asked.now in
    let is = record_found mode raw.first raw.lines found (subst AreBytes c.all.ensures c.are_in_range.ensures) h in
    subst (IsPartLine mode found c.args.part raw.lines) (sym (c.line_of.ensures (front_fits mode raw.first raw.lines found is))) (part_line_is mode raw.first raw.lines found is c.args.part)
