use Rattle.databases.specs.Found.{up_to}
use Rattle.databases.proofs.FoldedTexts.{up_to_there, found_fits, dump_fits}
use Rattle.databases.proofs.laws.folded_texts_fit.Goals as goal

pub returns-clause-found : goal.returns-clause-found
returns-clause-found c width conf d s limit es wide good is there =
    found_fits conf d (λ p e at. c.own_content_is_written.ensures conf d p e good is at) width (λ cs. c.folded_contents_fit.ensures width cs wide) s (up_to limit es) (up_to_there d limit es there)

pub returns-clause-dump : goal.returns-clause-dump
returns-clause-dump c width conf d wide good is =
    dump_fits conf d (λ p e at. c.own_content_is_written.ensures conf d p e good is at) c.order_of_paths.ensures.total is width (λ cs. c.folded_contents_fit.ensures width cs wide)
