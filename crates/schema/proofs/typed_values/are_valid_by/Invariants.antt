use Rattle.std.proofs.Common.{◌≡◌, drop, map}
use Rattle.std.specs.List.{list_all}
use Rattle.schema.specs.Values.{is_valid_by}
use Rattle.schema.proofs.typed_values.are_valid_by.Given as goal

abbrev pub invariant-loop-text : goal.invariant-loop-text
invariant-loop-text l = list_all (is_valid_by l.types l.syntax) (map (λ text. text.now) (drop l.text-index l.texts)) ≡ list_all (is_valid_by l.types l.syntax) (map (λ text. text.now) l.texts)
