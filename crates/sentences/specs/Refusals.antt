-- What is told of a refusal, as the code has it.
use Rattle.std.specs.Prelude.{ℕ, List, Option}
use Rattle.std.specs.Option.{option_map}
use Rattle.std.specs.String.{string_bytes}
use Rattle.ldif.specs.declared.record.Record.{Record}
use Rattle.schema.specs.declared.locate.Located.{Located}
use Rattle.sentences.specs.RecordWords.{Case, IsTold}
use Rattle.sentences.specs.RefusedAdds.{refused_lines}
use Rattle.sentences.specs.declared.missing.RefusedAdds.{RefusedAdds}
use Rattle.sentences.specs.declared.explainer.Refusal.{Refusal}
use Rattle.sentences.specs.declared.lines.Sentence.{Sentence}

abbrev pub case_at : Refusal → RefusedAdds → Record → Option Located → Case
case_at r adds asked place =
    record { conf = r.conf.now; entries = r.tree.now.entries; raw = r.refused.now.raw.now; asked = asked; path = option_map (λ p. p.path) place; refused = refused_lines adds }

abbrev pub text_in : Option Sentence → Option (List ℕ)
text_in sentence = option_map (λ s. string_bytes s.text) sentence

-- what is told of this record, where it can be read
abbrev pub IsToldOf : Refusal → RefusedAdds → Record → Option Sentence → Type 0
IsToldOf r adds asked sentence =
    IsTold r.conf.now r.refused.now.mode r.tree.now.entries (refused_lines adds) r.refused.now.raw.now asked (text_in sentence)
