use Rattle.std.proofs.Common.{◌++◌, codes, ap₂, ◌∙◌}
use Rattle.index_text.proofs.Putting.{part_begun, last_put, last_kept}
use Rattle.index_text.proofs.writing.put_count.Goals as goal

pub returns-clause-put : goal.returns-clause-put
returns-clause-put c = last_put c.extend_from_slice-2.result _ _ c.extend_from_slice-2.ensures.items (λ put. put ∙ ap₂ ◌++◌ c.in_ok-extend_from_slice.ensures.items (c.as_bytes.ensures.value ∙ c.format.ensures.text))

pub returns-clause-kept : goal.returns-clause-kept
returns-clause-kept c = last_kept c.extend_from_slice-2.result _ _ c.extend_from_slice-2.ensures.items (λ same. part_begun (codes "slapindex 1 ") _ c.args.out.now.items c.extend_from_slice.new.self.items _ c.in_ok-extend_from_slice.ensures.items same)
