-- Sentences that are told after they were taken note of.
use Rattle.std.specs.Prelude.{◌≡◌, Option, Some, None}
use Rattle.std.specs.String.{string_bytes}
use Rattle.ldif.specs.declared.record.Record.{Record}
use Rattle.schema.specs.Conf.{Conf}
use Rattle.tree.specs.Trees.{Tree}
use Rattle.databases.specs.declared.teller.NotedRecord.{NotedRecord}
use Rattle.device.specs.Device.{Written}
use Rattle.sentences.specs.RecordWords.{IsTold}
use Rattle.sentences.specs.RefusedAdds.{refused_lines}
use Rattle.sentences.specs.declared.missing.RefusedAdds.{RefusedAdds}
use Rattle.sentences.specs.Telling.{Tells}
use Rattle.sentences.specs.declared.lines.Sentence.{Sentence}

-- the sentence that was taken note of is told, or nothing where there is none
abbrev pub TellsNoted : Written → Written → Option Sentence → Type 0
TellsNoted old new None = new ≡ old
TellsNoted old new (Some sentence) = Tells old new (string_bytes sentence.text)

-- the sentence is that of a record that is refused under this configuration, with these entries, behind these refused adds
abbrev pub IsNoted : Conf → Tree → RefusedAdds → NotedRecord → Record → Sentence → Type 0
IsNoted conf tree adds refused asked sentence =
    IsTold conf refused.mode tree.entries (refused_lines adds) refused.raw.now asked (Some (string_bytes sentence.text))
