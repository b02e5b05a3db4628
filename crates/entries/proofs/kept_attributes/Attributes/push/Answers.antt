use Rattle.std.proofs.Common.{rules, ◌≡◌, Some, None, nat_eq, sym, subst, OnOk, OnErr}
use Rattle.std.specs.Map.{lookup}
use Rattle.std.proofs.lemmas.Result.{on_ok_weaker, on_err_weaker}
use Rattle.indexmap.specs.IndexMap.{insert_entry}
use Rattle.entries.specs.Entries.{push_value}
use Rattle.entries.proofs.KeptAttributes.{pushed_last, pushed_behind, stayed}
use Rattle.entries.proofs.kept_attributes.Attributes.push.Goals.{in-Occupied, in-Vacant}
use Rattle.entries.proofs.kept_attributes.Attributes.push.Goals as goal

pub returns-clause-ok : goal.returns-clause-ok
returns-clause-ok c = elim c.match-branch-2.branch [
  | in-Occupied w ↦
      let there : Some w.get_mut.result.now ≡ lookup (nat_eq c.args.t) c.self.inside.map.entries = search rules in
      let set : c.match-branch-2.self-inside.map.entries ≡ insert_entry nat_eq c.self.inside.map.entries c.args.t w.push.new.self = search rules in
      subst (λ r. OnOk r (c.match-branch-2.self-inside.map.entries ≡ push_value c.args.self.now.entries c.args.t c.args.value)) (sym w.result-is)
      (on_ok_weaker w.push.result
      (pushed_behind c.args.t c.self.inside.map.entries c.args.self.now c.self.view_is _ w.get_mut.result.now w.push.new.self there set c.args.value)
      w.push.ensures.ok)
  | in-Vacant w ↦
      let none : lookup (nat_eq c.args.t) c.self.inside.map.entries ≡ None = search rules in
      let set : c.match-branch-2.self-inside.map.entries ≡ insert_entry nat_eq c.self.inside.map.entries c.args.t w.one.result = search rules in
      subst (λ r. OnOk r (c.match-branch-2.self-inside.map.entries ≡ push_value c.args.self.now.entries c.args.t c.args.value)) (sym w.result-is)
      (pushed_last c.args.t c.self.inside.map.entries c.args.self.now c.self.view_is _ w.one.result c.args.value none set w.one.ensures)
]

pub returns-clause-err : goal.returns-clause-err
returns-clause-err c = elim c.match-branch-2.branch [
  | in-Occupied w ↦
      let there : Some w.get_mut.result.now ≡ lookup (nat_eq c.args.t) c.self.inside.map.entries = search rules in
      let set : c.match-branch-2.self-inside.map.entries ≡ insert_entry nat_eq c.self.inside.map.entries c.args.t w.push.new.self = search rules in
      subst (λ r. OnErr r (record { entries = c.match-branch-2.self-inside.map.entries } ≡ c.args.self.now)) (sym w.result-is)
      (on_err_weaker w.push.result
      (stayed c.args.t c.self.inside.map.entries c.args.self.now c.self.view_is _ w.get_mut.result.now w.push.new.self there set)
      w.push.ensures.err)
  | in-Vacant w ↦ subst (λ r. OnErr r (record { entries = c.match-branch-2.self-inside.map.entries } ≡ c.args.self.now)) (sym w.result-is) tt
]
