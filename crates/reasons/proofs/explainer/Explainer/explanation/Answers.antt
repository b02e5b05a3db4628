use Rattle.std.proofs.Common.{◌++◌, map, ap}
use Rattle.reasons.specs.Asked.{name_of_record}
use Rattle.reasons.specs.NameFlaws.{place_checks}
use Rattle.reasons.specs.Flaws.{Name, checks_of}
use Rattle.reasons.specs.declared.explainer.Explanation.{Explanation}
use Rattle.reasons.specs.inner.Found.{Finds, is_named, later_checks}
use Rattle.reasons.proofs.RecordFound.{ok_map, whole_found}
use Rattle.reasons.proofs.explainer.Explainer.explanation.Goals as goal

pub returns-in-Content-clause-finds : goal.returns-in-Content-clause-finds
returns-in-Content-clause-finds c =
    let conf = c.args.self.now.conf.now in
    let mode = c.args.self.now.mode in
    let d = c.args.self.now.tree.now.entries in
    let r = c.args.self.now.asked.now in
    ok_map (λ (e : Explanation). Finds conf mode d r (map Name (place_checks (name_of_record r)) ++ later_checks r) e.reason) (λ e. Finds conf mode d r (checks_of r) e.reason)
    (λ e. whole_found conf mode d r (ap is_named c.in-Content.is) c.requires e.reason) c.named.result c.named.ensures.finds

pub returns-in-Add-clause-finds : goal.returns-in-Add-clause-finds
returns-in-Add-clause-finds c =
    let conf = c.args.self.now.conf.now in
    let mode = c.args.self.now.mode in
    let d = c.args.self.now.tree.now.entries in
    let r = c.args.self.now.asked.now in
    ok_map (λ (e : Explanation). Finds conf mode d r (map Name (place_checks (name_of_record r)) ++ later_checks r) e.reason) (λ e. Finds conf mode d r (checks_of r) e.reason)
    (λ e. whole_found conf mode d r (ap is_named c.in-Add.is) c.requires e.reason) c.named-in-Add.result c.named-in-Add.ensures.finds

pub returns-in-Delete-clause-finds : goal.returns-in-Delete-clause-finds
returns-in-Delete-clause-finds c =
    let conf = c.args.self.now.conf.now in
    let mode = c.args.self.now.mode in
    let d = c.args.self.now.tree.now.entries in
    let r = c.args.self.now.asked.now in
    ok_map (λ (e : Explanation). Finds conf mode d r (map Name (place_checks (name_of_record r)) ++ later_checks r) e.reason) (λ e. Finds conf mode d r (checks_of r) e.reason)
    (λ e. whole_found conf mode d r (ap is_named c.in-Delete.is) c.requires e.reason) c.named-in-Delete.result c.named-in-Delete.ensures.finds

pub returns-in-Modify-clause-finds : goal.returns-in-Modify-clause-finds
returns-in-Modify-clause-finds c =
    let conf = c.args.self.now.conf.now in
    let mode = c.args.self.now.mode in
    let d = c.args.self.now.tree.now.entries in
    let r = c.args.self.now.asked.now in
    ok_map (λ (e : Explanation). Finds conf mode d r (map Name (place_checks (name_of_record r)) ++ later_checks r) e.reason) (λ e. Finds conf mode d r (checks_of r) e.reason)
    (λ e. whole_found conf mode d r (ap is_named c.in-Modify.is) c.requires e.reason) c.named-in-Modify.result c.named-in-Modify.ensures.finds

pub returns-in-ModRdn-clause-finds : goal.returns-in-ModRdn-clause-finds
returns-in-ModRdn-clause-finds c =
    let conf = c.args.self.now.conf.now in
    let mode = c.args.self.now.mode in
    let d = c.args.self.now.tree.now.entries in
    let r = c.args.self.now.asked.now in
    ok_map (λ (e : Explanation). Finds conf mode d r (map Name (place_checks (name_of_record r)) ++ later_checks r) e.reason) (λ e. Finds conf mode d r (checks_of r) e.reason)
    (λ e. whole_found conf mode d r (ap is_named c.in-ModRdn.is) c.requires e.reason) c.named-in-ModRdn.result c.named-in-ModRdn.ensures.finds
