use Rattle.std.proofs.Common.{[], ◌∷◌, ◌++◌, codes, ◌∙◌, sym, append_assoc}
use Rattle.std.specs.Fmt.{decimal}
use Rattle.base.proofs.Extended.{on_err_too}
use Rattle.base.specs.Ascii.{space, line_feed}
use Rattle.hex.specs.Hex.{encode_lower}
use Rattle.index_text.proofs.Putting.{begun_behind, begun_more, begun_as, on_err_of}
use Rattle.index_text.proofs.writing.put_header.Goals as goal

pub returns-in_err-put_count-clause-kept : goal.returns-in_err-put_count-clause-kept
returns-in_err-put_count-clause-kept c =
    let count = codes "slapindex 1 " ++ decimal c.args.entries in
    let stamp = space ∷ encode_lower c.args.stamp.now in
    on_err_too c.from_residual.result (begun_more (count ++ stamp) (line_feed ∷ []) _ _ (begun_more count stamp _ _ c.in_err-put_count.ensures.kept))

pub returns-clause-kept : goal.returns-clause-kept
returns-clause-kept c =
    let count = codes "slapindex 1 " ++ decimal c.args.entries in
    let stamp = space ∷ encode_lower c.args.stamp.now in
    on_err_of c.put_stamp.result c.put_stamp.ensures.kept
    (λ h. begun_as c.args.out.now.items c.put_stamp.new.out.items (sym (append_assoc count stamp (line_feed ∷ [])))
    (begun_behind count (stamp ++ line_feed ∷ []) c.args.out.now.items c.put_count.new.out.items c.put_stamp.new.out.items
    (c.in_ok-put_count.ensures.put ∙ append_assoc c.args.out.now.items (codes "slapindex 1 ") (decimal c.args.entries)) h))
