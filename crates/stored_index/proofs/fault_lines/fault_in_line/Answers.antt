use Rattle.std.proofs.Common.{◌∷◌, refl, subst}
use Rattle.base.specs.Answers.{Fails}
use Rattle.stored_index.specs.Gives.{kind_of}
use Rattle.stored_index.specs.declared.fault.LineFault.{LineFault}
use Rattle.stored_index.proofs.fault_lines.fault_in_line.Goals as goal

pub returns-in_ok-text-in-Err-Fault : goal.returns-in_ok-text-in-Err-Fault
returns-in_ok-text-in-Err-Fault c = record {
  number_is = refl;
  text_is = c.in_ok-text-in-Err-Fault.ensures;
  fails = λ w goes next more. subst (λ (e : LineFault). Fails (kind_of e) (w (c.args.line.now ∷ next ∷ more))) c.in-Err-Fault.field-0-is (c.in-Err-Fault.ensures.err w goes next more);
}
