use Rattle.std.proofs.Common.{sym, ◌∙◌}
use Rattle.ldif_lines.specs.Folding.{standard_width}
use Rattle.databases.specs.Found.{up_to}
use Rattle.databases.proofs.FoldedTexts.{up_to_there, found_reads, dump_reads}
use Rattle.databases.proofs.laws.folded_texts_read_alike.Goals as goal

pub returns-clause-found : goal.returns-clause-found
returns-clause-found c width conf d s limit es wide good is there =
    let some = up_to_there d limit es there in
    found_reads conf d (λ p e at. c.own_content_is_written.ensures conf d p e good is at) width (λ cs. c.folded_contents_are_read.ensures width cs wide) s (up_to limit es) some
    ∙ sym (found_reads conf d (λ p e at. c.own_content_is_written.ensures conf d p e good is at) standard_width c.written_contents_are_read.ensures s (up_to limit es) some)

pub returns-clause-dump : goal.returns-clause-dump
returns-clause-dump c width conf d wide good is =
    dump_reads conf d (λ p e at. c.own_content_is_written.ensures conf d p e good is at) c.order_of_paths.ensures.total is width (λ cs. c.folded_contents_are_read.ensures width cs wide)
    ∙ sym (dump_reads conf d (λ p e at. c.own_content_is_written.ensures conf d p e good is at) c.order_of_paths.ensures.total is standard_width c.written_contents_are_read.ensures)
