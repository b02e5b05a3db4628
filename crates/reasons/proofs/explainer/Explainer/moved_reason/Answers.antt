use Rattle.std.proofs.Common.{◌∷◌, sym, ◌∙◌}
use Rattle.entries.specs.StoredEntries.{content_of}
use Rattle.reasons.specs.Flaws.{BelowItself, NoSuperior, IsTaken, entry_checks}
use Rattle.reasons.specs.inner.Found.{Finds}
use Rattle.reasons.proofs.RecordFound.{ok_map}
use Rattle.reasons.proofs.RenameFound.{becomes_renamed, below_found, no_superior_found, taken_found, free_found}
use Rattle.reasons.proofs.explainer.Explainer.moved_reason.Goals as goal

pub returns-then-begins : goal.returns-then-begins
returns-then-begins c =
    let conf = c.args.self.now.conf.now in
    let mode = c.args.self.now.mode in
    let d = c.args.self.now.tree.now.entries in
    let r = c.args.self.now.asked.now in
    below_found conf mode d r c.args.path.now (content_of c.args.entry.now) c.args.rdn.now c.args.delete_old c.args.upper.now c.requires.moves (NoSuperior ∷ IsTaken ∷ entry_checks) (sym c.begins.ensures ∙ c.if-begins.true)

pub returns-then-not-is_there : goal.returns-then-not-is_there
returns-then-not-is_there c =
    let conf = c.args.self.now.conf.now in
    let mode = c.args.self.now.mode in
    let d = c.args.self.now.tree.now.entries in
    let r = c.args.self.now.asked.now in
    no_superior_found conf mode d r c.args.path.now (content_of c.args.entry.now) c.args.rdn.now c.args.delete_old c.args.upper.now c.requires.moves (IsTaken ∷ entry_checks) (sym c.begins.ensures ∙ c.if-begins.false) (sym c.is_there.ensures ∙ c.if-not-is_there.true)

pub returns-then-is_taken : goal.returns-then-is_taken
returns-then-is_taken c =
    let conf = c.args.self.now.conf.now in
    let mode = c.args.self.now.mode in
    let d = c.args.self.now.tree.now.entries in
    let r = c.args.self.now.asked.now in
    taken_found conf mode d r c.args.path.now (content_of c.args.entry.now) c.args.rdn.now c.args.delete_old c.args.upper.now c.requires.moves c.in_ok-to.to c.in_ok-to.ensures entry_checks (sym c.begins.ensures ∙ c.if-begins.false) (sym c.is_there.ensures ∙ c.if-not-is_there.false) (sym c.is_taken.ensures ∙ c.if-is_taken.true)

pub renamed_entry_reason-requires-clause-becomes : goal.renamed_entry_reason-requires-clause-becomes
renamed_entry_reason-requires-clause-becomes c =
    let conf = c.args.self.now.conf.now in
    let mode = c.args.self.now.mode in
    let d = c.args.self.now.tree.now.entries in
    let r = c.args.self.now.asked.now in
    becomes_renamed conf mode d r c.args.path.now (content_of c.args.entry.now) c.args.rdn.now c.args.delete_old c.args.upper.now c.requires.moves

pub returns : goal.returns
returns c =
    let conf = c.args.self.now.conf.now in
    let mode = c.args.self.now.mode in
    let d = c.args.self.now.tree.now.entries in
    let r = c.args.self.now.asked.now in
    ok_map (Finds conf mode d r entry_checks) (Finds conf mode d r (BelowItself ∷ NoSuperior ∷ IsTaken ∷ entry_checks))
    (λ found is. free_found conf mode d r c.args.path.now (content_of c.args.entry.now) c.args.rdn.now c.args.delete_old c.args.upper.now c.requires.moves c.in_ok-to.to c.in_ok-to.ensures entry_checks found (sym c.begins.ensures ∙ c.if-begins.false) (sym c.is_there.ensures ∙ c.if-not-is_there.false) (sym c.is_taken.ensures ∙ c.if-is_taken.false) is)
    c.renamed_entry_reason.result c.renamed_entry_reason.ensures
