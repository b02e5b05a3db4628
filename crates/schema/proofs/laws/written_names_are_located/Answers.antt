use Rattle.schema.proofs.Locating.{located_is, name_ascii}
use Rattle.schema.proofs.laws.written_names_are_located.Goals as goal

pub returns : goal.returns
returns c = record {
  located = λ conf rs h good. located_is c.valid_values_are_bytes.ensures conf h c.written_names_are_read.ensures.read c.written_names_are_read.ensures.ascii rs good;
  ascii = λ conf rs h good. name_ascii c.valid_values_are_bytes.ensures conf h c.written_names_are_read.ensures.ascii rs good;
}
