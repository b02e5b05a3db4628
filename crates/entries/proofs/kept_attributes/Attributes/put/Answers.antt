use Rattle.std.proofs.Common.{rules, ◌≡◌, Some, None, nat_eq, sym, subst, if◌then◌else◌, IfOk, OnErr}
use Rattle.std.specs.Map.{lookup}
use Rattle.std.proofs.lemmas.Result.{IfOk-weaker, on_err_weaker}
use Rattle.indexmap.specs.IndexMap.{insert_entry}
use Rattle.entries.specs.Entries.{push_value}
use Rattle.entries.proofs.KeptAttributes.{pushed_last, put_behind, stayed}
use Rattle.entries.proofs.kept_attributes.Attributes.put.Goals.{in-Occupied, in-Vacant}
use Rattle.entries.proofs.kept_attributes.Attributes.put.Goals as goal

pub returns-clause-entries : goal.returns-clause-entries
returns-clause-entries c = elim c.match-branch-2.branch [
  | in-Occupied w ↦
      let there : Some w.get_mut.result.now ≡ lookup (nat_eq c.args.t) c.self.inside.map.entries = search rules in
      let set : c.match-branch-2.self-inside.map.entries ≡ insert_entry nat_eq c.self.inside.map.entries c.args.t w.push_new.new.values = search rules in
      subst (λ r. IfOk r (λ put. c.match-branch-2.self-inside.map.entries ≡ (if put then push_value c.args.self.now.entries c.args.t c.args.value else c.args.self.now.entries))) (sym w.result-is)
      (IfOk-weaker w.push_new.result _ _
      (λ put. put_behind c.args.t c.self.inside.map.entries c.args.self.now c.self.view_is _ w.get_mut.result.now w.push_new.new.values there set put c.args.value)
      w.push_new.ensures.values)
  | in-Vacant w ↦
      let none : lookup (nat_eq c.args.t) c.self.inside.map.entries ≡ None = search rules in
      let set : c.match-branch-2.self-inside.map.entries ≡ insert_entry nat_eq c.self.inside.map.entries c.args.t w.one.result = search rules in
      subst (λ r. IfOk r (λ put. c.match-branch-2.self-inside.map.entries ≡ (if put then push_value c.args.self.now.entries c.args.t c.args.value else c.args.self.now.entries))) (sym w.result-is)
      (pushed_last c.args.t c.self.inside.map.entries c.args.self.now c.self.view_is _ w.one.result c.args.value none set w.one.ensures)
]

pub returns-clause-err : goal.returns-clause-err
returns-clause-err c = elim c.match-branch-2.branch [
  | in-Occupied w ↦
      let there : Some w.get_mut.result.now ≡ lookup (nat_eq c.args.t) c.self.inside.map.entries = search rules in
      let set : c.match-branch-2.self-inside.map.entries ≡ insert_entry nat_eq c.self.inside.map.entries c.args.t w.push_new.new.values = search rules in
      subst (λ r. OnErr r (record { entries = c.match-branch-2.self-inside.map.entries } ≡ c.args.self.now)) (sym w.result-is)
      (on_err_weaker w.push_new.result
      (stayed c.args.t c.self.inside.map.entries c.args.self.now c.self.view_is _ w.get_mut.result.now w.push_new.new.values there set)
      w.push_new.ensures.err)
  | in-Vacant w ↦ subst (λ r. OnErr r (record { entries = c.match-branch-2.self-inside.map.entries } ≡ c.args.self.now)) (sym w.result-is) tt
]
