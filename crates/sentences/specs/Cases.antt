-- What a sentence tells of, as the code has it.
use Rattle.std.specs.Option.{option_map}
use Rattle.sentences.specs.RecordWords.{Case}
use Rattle.sentences.specs.RefusedAdds.{refused_lines}
use Rattle.sentences.specs.declared.record_words.Refused.{Refused}

abbrev pub case_of : Refused → Case
case_of r = record { conf = r.conf.now; entries = r.tree.now.entries; raw = r.raw.now; asked = r.asked.now; path = option_map (λ p. p.now.path) r.place; refused = refused_lines r.adds.now }
