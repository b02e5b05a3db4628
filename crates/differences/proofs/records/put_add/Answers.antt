use Rattle.std.proofs.Common.{◌++◌, ◌∷◌, [], List, ℕ, codes, ap, ◌∙◌}
use Rattle.entries.specs.Entries.{Attributes}
use Rattle.entries.specs.StoredEntries.{attributes_of}
use Rattle.differences.specs.EntryChanges.{users}
use Rattle.differences.specs.inner.LentAttributes.{all_lent}
use Rattle.differences.specs.inner.RecordTexts.{head_text, lines_text}
use Rattle.differences.proofs.RecordPieces.{add_is, set_apart}
use Rattle.differences.proofs.records.put_add.Goals as goal

pub returns : goal.returns
returns c =
    let types = c.args.conf.now.types in
    let out = c.args.out.now.items in
    let head = head_text (codes "# add") (codes "a new entry") c.args.name.now (codes "add") in
    let attrs = users types (attributes_of c.args.entry.now.attrs) in
    c.in_ok-push.ensures.items
    ∙ ap (λ (x : List ℕ). x ++ 10 ∷ [])
    (c.in_ok-put_lines.ensures
    ∙ ap (λ (x : List ℕ). x ++ lines_text types (all_lent c.as_slice.result.now)) c.in_ok-put_head.ensures
    ∙ ap (λ (xs : Attributes). (out ++ head) ++ lines_text types xs) (ap all_lent c.as_slice.ensures.value ∙ c.in_ok-attrs.ensures.users))
    ∙ set_apart out head (lines_text types attrs)
    ∙ ap (λ (x : List ℕ). out ++ x) (add_is types c.args.name.now attrs)
