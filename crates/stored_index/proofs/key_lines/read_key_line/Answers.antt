use Rattle.std.proofs.Common.{ℕ, List, ◌∷◌, Option, Bor, Result, sym, ap, ◌∙◌, subst}
use Rattle.base.specs.Ascii.{space}
use Rattle.stored_index.specs.Cuts.{parts_if}
use Rattle.index_text.specs.IndexTexts.{Row}
use Rattle.stored_index.specs.inner.Kept.{IsLineOf}
use Rattle.stored_index.specs.inner.Reads.{Reads}
use Rattle.stored_index.specs.declared.fault.IndexFaultKind.{IndexFaultKind}
use Rattle.stored_index.proofs.RowLemmas.{row_is}
use Rattle.stored_index.proofs.key_lines.read_key_line.Goals as goal

pub returns-in-Some : goal.returns-in-Some
returns-in-Some c = λ before last.
    let cut = c.cut.ensures.parts ∙ ap (λ (r : Option (Bor (List ℕ))). c.cut.result.0.now ∷ parts_if space r) c.in-Some.is in
    subst (λ (said : Result Row IndexFaultKind). Reads (IsLineOf c.args.given.asked.now) c.read_words.result said) (sym (row_is before c.args.given.entries c.args.line.now _ cut)) (c.read_words.ensures before last)

pub returns-in-None : goal.returns-in-None
returns-in-None c = λ before last.
    let cut = c.cut.ensures.parts ∙ ap (λ (r : Option (Bor (List ℕ))). c.cut.result.0.now ∷ parts_if space r) c.in-None.is in
    rw c.form.ensures (row_is before c.args.given.entries c.args.line.now _ cut)
