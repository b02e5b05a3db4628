use Rattle.std.proofs.Common.{rules, tests, ℕ, List, Bor, sym, ◌∙◌}
use Rattle.std.proofs.lemmas.Iterator.{YieldsList-from_slice}
use Rattle.std.proofs.lemmas.Iterator.Search.{any_from_yields_List}
use Rattle.dir_conf.specs.FaultyLines.{is_kind_word}
use Rattle.dir_conf.proofs.Taken.{any_map}
use Rattle.dir_conf.proofs.index_flaws.is_listed.Goals as goal

pub returns : goal.returns
returns c =
    any_from_yields_List (λ (p : Bor (List ℕ)). is_kind_word c.args.kind p.now) _ _ c.any.result c.any.ensures.ran (YieldsList-from_slice c.args.words.now c.iter.ensures.rest) (λ x b q k. search (rules, tests))
    ∙ sym (any_map (is_kind_word c.args.kind) (λ (p : Bor (List ℕ)). p.now) c.args.words.now)
