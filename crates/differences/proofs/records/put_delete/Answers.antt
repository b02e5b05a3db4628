use Rattle.std.proofs.Common.{◌++◌, ◌∷◌, [], List, ℕ, codes, ap, ◌∙◌, append_assoc}
use Rattle.differences.specs.inner.RecordTexts.{head_text}
use Rattle.differences.proofs.RecordPieces.{delete_is}
use Rattle.differences.proofs.records.put_delete.Goals as goal

pub returns : goal.returns
returns c =
    let out = c.args.out.now.items in
    let head = head_text (codes "# delete") (codes "an entry that is gone") c.args.name.now (codes "delete") in
    c.in_ok-push.ensures.items
    ∙ ap (λ (x : List ℕ). x ++ 10 ∷ []) c.in_ok-put_head.ensures
    ∙ append_assoc out head (10 ∷ [])
    ∙ ap (λ (x : List ℕ). out ++ x) (delete_is c.args.name.now)
