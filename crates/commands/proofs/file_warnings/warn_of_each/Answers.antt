use Rattle.std.proofs.Common.{◌≡◌, ◌∙◌, ◌+◌, ◌<◌, ◌++◌, ℕ, List, length, drop, get_or, sym, ap, append_assoc}
use Rattle.std.specs.Prelude.{string_bytes}
use Rattle.std.specs.List.{flat_map}
use Rattle.std.proofs.lemmas.List.{drop_more}
use Rattle.commands.specs.Checks.{draft_warning}
use Rattle.commands.proofs.file_warnings.warn_of_each.Goals as goal

-- what is told of one more
told_more : {D : Type 0} (told : D → List ℕ) (drafts : List D) (i : ℕ) (draft : D) (old new total : List ℕ) → i < length drafts → draft ≡ get_or drafts i draft
    → new ≡ old ++ told draft → old ++ flat_map told (drop i drafts) ≡ total → new ++ flat_map told (drop (i + 1) drafts) ≡ total
told_more told drafts i draft old new total within is put so_far =
    ap (λ front. front ++ flat_map told (drop (i + 1) drafts)) (put ∙ ap (λ d. old ++ told d) is)
    ∙ append_assoc old (told (get_or drafts i draft)) (flat_map told (drop (i + 1) drafts))
    ∙ ap (λ ds. old ++ flat_map told ds) (sym (drop_more drafts i draft within))
    ∙ so_far

pub loop-draft-preserved : goal.loop-draft-preserved
loop-draft-preserved c =
    told_more (λ s. draft_warning (string_bytes s)) c.args.drafts.now c.loop-draft.draft-index c.draft-item.result c.loop-draft.out.items c.warn_of_draft.new.out.items _
    c.loop-draft-test.true c.draft-item.is c.in_ok-warn_of_draft.ensures c.loop-draft.invariant
