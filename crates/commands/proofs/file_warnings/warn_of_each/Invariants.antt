use Rattle.std.proofs.Common.{◌≡◌, ◌++◌, drop}
use Rattle.std.specs.Prelude.{string_bytes}
use Rattle.std.specs.List.{flat_map}
use Rattle.commands.specs.Checks.{draft_warning}
use Rattle.commands.proofs.file_warnings.warn_of_each.Given as goal

abbrev pub invariant-loop-draft : goal.invariant-loop-draft
invariant-loop-draft l =
    l.out.items ++ flat_map (λ s. draft_warning (string_bytes s)) (drop l.draft-index l.drafts)
    ≡ l.fn.out.items ++ flat_map (λ s. draft_warning (string_bytes s)) l.fn.drafts
