-- The first line, and those behind it.
use Rattle.std.proofs.Common.{◌≡◌, ℕ, List, ◌∷◌, None, Result, Ok, sym, ap, ◌∙◌}
use Rattle.base.specs.Ascii.{line_feed}
use Rattle.base.specs.Answers.{◌>>=◌}
use Rattle.memchr.specs.Find.{is_byte}
use Rattle.schema.specs.Conf.{Conf}
use Rattle.stored_index.specs.Cuts.{parts}
use Rattle.stored_index.specs.Reading.{current_header, slots_of, lines_in, rows_in}
use Rattle.stored_index.specs.declared.fault.IndexFaultKind.{IndexFaultKind}
use Rattle.stored_index.proofs.CutLemmas.{split_cons}
use Rattle.stored_index.proofs.SlotLemmas.{AllRows}

module _ (conf : Conf) (entries : ℕ) (stamp text : List ℕ) where
  module _ (line rest : List ℕ) (cut : parts line_feed text ≡ line ∷ parts line_feed rest) where
    abbrev others : AllRows
    others = slots_of conf.types entries None conf.slots (parts line_feed rest)

    pub opened : rows_in conf entries stamp text ≡ (current_header entries stamp line >>= λ _. others)
    unfolding rows_in
    opened =
        let s = split_cons (is_byte line_feed) rest in
        ap (lines_in conf entries stamp) cut
        ∙ ap (λ (ps : List (List ℕ)). lines_in conf entries stamp (line ∷ ps)) s.2
        ∙ sym (ap (λ (ps : List (List ℕ)). current_header entries stamp line >>= λ _. slots_of conf.types entries None conf.slots ps) s.2)

    abbrev then_others : Result (Unit {0}) IndexFaultKind → AllRows
    then_others r = r >>= λ _. others

    pub behind_header : current_header entries stamp line ≡ Ok tt → rows_in conf entries stamp text ≡ others
    behind_header e = opened ∙ ap then_others e
