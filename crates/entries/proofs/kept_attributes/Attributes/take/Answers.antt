use Rattle.std.proofs.Common.{ap, ◌∙◌}
use Rattle.entries.specs.StoredEntries.{StoredAttributes}
use Rattle.entries.specs.Modifies.{set_values}
use Rattle.entries.proofs.KeptAttributes.{taken_out}
use Rattle.entries.proofs.kept_attributes.Attributes.take.Goals.{in-Some, in-None}
use Rattle.entries.proofs.kept_attributes.Attributes.take.Goals as goal

pub returns-clause-place : goal.returns-clause-place
returns-clause-place c = elim c.match-get_mut.branch [
  | in-Some w ↦ λ vs.
      ap (λ a. set_values a.map.entries c.args.t vs) w.self-inside-is
      ∙ taken_out c.args.t c.self.inside.map.entries c.args.self.now c.self.view_is _ w.replace.new.dest vs (c.get_mut.follows.holds w.replace.new.dest).0
  | in-None w ↦ λ vs.
      ap (λ a. set_values a.map.entries c.args.t vs) w.self-inside-is
      ∙ ap (λ m. set_values m.entries c.args.t vs) c.get_mut.follows.holds-at-none
      ∙ ap (λ (a : StoredAttributes). set_values a.entries c.args.t vs) c.self.view_is
]
