use Rattle.std.proofs.Common.{ap, ◌∙◌}
use Rattle.definitions.specs.Words.{skip, first_word}
use Rattle.server_schema.specs.Macros.{oid_for}
use Rattle.server_schema.proofs.macros.macro_of.Goals as goal

pub returns : goal.returns
returns c =
    let name = c.in_ok-name.ensures ∙ c.split_first_word.ensures.word in
    let word = c.split_first_word-2.ensures.word ∙ ap first_word (c.skip.ensures ∙ ap skip c.split_first_word.ensures.rest) in
    let oid = c.in_ok-oid.ensures ∙ ap (oid_for c.args.macros.now) word in
    λ i. record { name = name i; oid = oid i }
