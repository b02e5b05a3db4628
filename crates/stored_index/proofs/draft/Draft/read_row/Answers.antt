use Rattle.std.proofs.Common.{ℕ, List, ◌∷◌, None, refl, sym, subst}
use Rattle.std.proofs.lemmas.Result.{err_from_is_err_and}
use Rattle.base.proofs.Each.{passed_on}
use Rattle.stored_index.specs.FaultyLines.{key_behind}
use Rattle.stored_index.specs.Gives.{kind_of}
use Rattle.stored_index.specs.KeyLines.{row_in}
use Rattle.stored_index.specs.inner.Kept.{IsLast}
use Rattle.stored_index.proofs.DraftSteps.{behind_row, row_stops}
use Rattle.stored_index.proofs.draft.Draft.read_row.Goals as goal

pub returns-in_err-row-clause-err : goal.returns-in_err-row-clause-err
returns-in_err-row-clause-err c =
    let p = err_from_is_err_and c.from_residual.result c.from_residual.ensures.1 in
    rw (p.1, p.2) (λ w goes next more.
    let d = c.args.self.now in
    let key = key_behind None goes.rows in
    let last = subst (λ (word : List ℕ). IsLast key word) (sym c.as_slice.ensures.value) goes.last in
    passed_on (kind_of c.in_err-row.field-0.0) (row_in key d.given.entries c.args.line.now) (w (c.args.line.now ∷ next ∷ more))
    (λ fault bad. row_stops w d goes c.args.line.now c.requires.place c.requires.row fault bad next more) (c.in_err-row.ensures key last))

pub returns-clause-ok : goal.returns-clause-ok
returns-clause-ok c = record {
  given = refl;
  due = λ known. known;
  goes = λ w goes.
      let d = c.args.self.now in
      let key = key_behind None goes.rows in
      let last = subst (λ (word : List ℕ). IsLast key word) (sym c.as_slice.ensures.value) goes.last in
      let found = c.in_ok-row.ensures key last in
      behind_row w d goes c.args.line.now c.requires.place c.requires.row found.0 c.in_ok-row.row c.put.new.self found.1 found.2
      c.in_ok-put.ensures.slots c.in_ok-put.ensures.rows c.in_ok-put.ensures.word;
}
