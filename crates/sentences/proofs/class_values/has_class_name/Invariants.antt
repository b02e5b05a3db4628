use Rattle.std.proofs.Common.{◌≡◌, drop}
use Rattle.std.specs.List.{list_any}
use Rattle.std.specs.Str.{str_eq_ignore_ascii_case}
use Rattle.sentences.proofs.class_values.has_class_name.Given as goal

abbrev pub invariant-loop-value : goal.invariant-loop-value
invariant-loop-value l =
    list_any (λ w. str_eq_ignore_ascii_case w l.name) (drop l.value-index l.values) ≡ list_any (λ w. str_eq_ignore_ascii_case w l.name) l.values
