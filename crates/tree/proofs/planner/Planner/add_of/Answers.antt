use Rattle.std.proofs.Common.{◌≡◌, ◌∙◌, sym, subst, ap, Result}
use Rattle.std.proofs.lemmas.Result.{IfOk-from_err, err_from_is_err_and}
use Rattle.base.specs.Answers.{◌>>=◌, Fails}
use Rattle.paths.specs.Paths.{Path}
use Rattle.schema.specs.declared.code.Code.{Code}
use Rattle.schema.specs.Conf.{Conf}
use Rattle.schema.specs.Rdns.{TypedRdn}
use Rattle.entries.specs.Gives.{fault_of}
use Rattle.entries.specs.StoredEntries.{content_of, IsMade}
use Rattle.tree.specs.Adds.{add_at, add}
use Rattle.tree.specs.Directories.{IsDirectory}
use Rattle.tree.specs.Changes.{Put, changed}
use Rattle.tree.specs.inner.Plans.{seen_change}
use Rattle.tree.proofs.Places.{add_from, place_is, refused}
use Rattle.tree.proofs.planner.Planner.add_of.Goals as goal
use Rattle.tree.proofs.planner.Planner.add_of.Goals.{In_ok-place}

-- what it comes to at the place that its name leads to
found : (c : In_ok-place) → add c.args.self.now.conf.now c.args.self.now.mode c.args.self.now.tree.now.entries c.args.dn.now c.args.lines.now ≡ add_at c.args.self.now.conf.now c.args.self.now.mode c.args.self.now.tree.now.entries c.in_ok-place.place.path c.in_ok-place.place.rdn c.args.lines.now
found c =
    let conf = c.args.self.now.conf.now in
    let d = c.args.self.now.tree.now in
    add_from conf c.args.self.now.mode d.entries c.args.dn.now c.args.lines.now
    ∙ ap (λ (x : Result (Path × TypedRdn) Code). x >>= λ l. add_at conf c.args.self.now.mode d.entries l.0 l.1 c.args.lines.now) c.in_ok-place.ensures.place

pub returns-clause-change : goal.returns-clause-change
returns-clause-change c =
    let d = c.args.self.now.tree.now in
    let conf = c.args.self.now.conf.now in
    record {
      fit = (c.in_ok-entry.ensures.new, subst (λ (r : Conf). IsMade r.types c.in_ok-entry.entry.attrs) (sym c.args.self.now.same_conf) c.in_ok-entry.ensures.made, c.next_number-number.ensures.number);
      directory = subst (λ (r : Conf). IsDirectory r (changed d.entries (Put c.in_ok-place.place.path (content_of c.in_ok-entry.entry)))) (sym c.args.self.now.same_conf)
          (c.adding_keeps_a_directory.ensures conf c.args.self.now.mode d.entries c.args.dn.now c.args.lines.now (Put c.in_ok-place.place.path (content_of c.in_ok-entry.entry)) c.rules_are_kept.ensures
          (subst (λ (r : Conf). IsDirectory r d.entries) c.args.self.now.same_conf c.entries_are_a_directory.ensures)
          (found (goal.at.returns-clause-change c).In_ok-place ∙ c.in_ok-entry.ensures.gives));
    }

pub returns-clause-path : goal.returns-clause-path
returns-clause-path c = place_is c.args.self.now.conf.now c.args.dn.now c.in_ok-place.place.path c.in_ok-place.place.rdn c.in_ok-place.ensures.place

pub returns-clause-gives : goal.returns-clause-gives
returns-clause-gives c = found (goal.at.returns-clause-gives c).In_ok-place ∙ c.in_ok-entry.ensures.gives

pub returns-in_err-place-clause-path : goal.returns-in_err-place-clause-path
returns-in_err-place-clause-path c = IfOk-from_err _ _ c.from_residual.ensures.0

pub returns-in_err-place-clause-change : goal.returns-in_err-place-clause-change
returns-in_err-place-clause-change c = IfOk-from_err _ _ c.from_residual.ensures.0

pub returns-in_err-place-clause-gives : goal.returns-in_err-place-clause-gives
returns-in_err-place-clause-gives c =
    refused seen_change c.from_residual.result c.in_err-place.field-0.0 _ (λ (l : Path × TypedRdn). add_at c.args.self.now.conf.now c.args.self.now.mode c.args.self.now.tree.now.entries l.0 l.1 c.args.lines.now) _
    c.from_residual.ensures.1 c.in_err-place.ensures.place (add_from c.args.self.now.conf.now c.args.self.now.mode c.args.self.now.tree.now.entries c.args.dn.now c.args.lines.now)

pub returns-in_err-entry-clause-path : goal.returns-in_err-entry-clause-path
returns-in_err-entry-clause-path c = IfOk-from_err _ _ c.from_residual-in_err-entry.ensures.0

pub returns-in_err-entry-clause-change : goal.returns-in_err-entry-clause-change
returns-in_err-entry-clause-change c = IfOk-from_err _ _ c.from_residual-in_err-entry.ensures.0

pub returns-in_err-entry-clause-gives : goal.returns-in_err-entry-clause-gives
returns-in_err-entry-clause-gives c =
    let p = err_from_is_err_and c.from_residual-in_err-entry.result c.from_residual-in_err-entry.ensures.1 in
    rw (p.1, p.2) (subst (Fails (fault_of c.in_err-entry.field-0.0)) (sym (found (goal.at.returns-in_err-entry-clause-gives c).In_ok-place)) c.in_err-entry.ensures.gives)
