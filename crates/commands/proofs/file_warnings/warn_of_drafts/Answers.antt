use Rattle.std.proofs.Common.{◌≡◌, ◌∙◌, ◌++◌, ℕ, List, [], Option, None, Some, IfSome, Result, Ok, Err, OnOk, ap, subst}
use Rattle.std.specs.List.{flat_map}
use Rattle.std.specs.Prelude.{string_bytes}
use Rattle.std.proofs.lemmas.List.{append-nil}
use Rattle.folders.specs.Folders.{Files}
use Rattle.commands.specs.Checks.{draft_warning}
use Rattle.commands.proofs.file_warnings.warn_of_drafts.Goals as goal

-- where a folder tells its files, no draft is there to be told
none_told : {D X E : Type 0} (told : D → List ℕ) (files : Option Files) (drafts : List D) (r : Result X E) (old new : List ℕ)
    → IfSome files (λ _. drafts ≡ []) → OnOk r (new ≡ old ++ flat_map told drafts) → OnOk r (IfSome files (λ _. new ≡ old))
none_told told None drafts (Ok x) old new none put = tt
none_told told (Some m) drafts (Ok x) old new none put = put ∙ ap (λ ds. old ++ flat_map told ds) none ∙ append-nil old
none_told told files drafts (Err e) old new none put = tt

pub returns : goal.returns
returns g c =
    let old = c.args.out.now.items in
    let new = c.warn_of_each.new.out.items in
    none_told (λ s. draft_warning (string_bytes s)) (g.F.Folder.files c.args.folder.now) c.in_ok-drafts.drafts.items c.warn_of_each.result old new c.in_ok-drafts.ensures
    (subst (λ drafts. OnOk c.warn_of_each.result (new ≡ old ++ flat_map (λ s. draft_warning (string_bytes s)) drafts)) c.as_slice.ensures.value c.warn_of_each.ensures)
