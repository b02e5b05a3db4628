-- What is due as the place of a record that it is.
use Rattle.ldif.specs.declared.due.Due.{Due}
use Rattle.ldif.specs.declared.due.Due.TheVariants as dues
use Rattle.ldif.specs.Places.{Place, text_start, after_version, record_start, contents, changes, attributes, block_start, block_values, new_name, delete_old, new_superior, over}

abbrev pub place_of : Due → Place
place_of dues.TextStart = text_start
place_of dues.AfterVersion = after_version
place_of dues.RecordStart = record_start
place_of dues.Contents = contents
place_of (dues.Changes add) = changes add
place_of dues.Attributes = attributes
place_of dues.BlockStart = block_start
place_of (dues.BlockValues name) = block_values name
place_of dues.NewName = new_name
place_of dues.DeleteOld = delete_old
place_of dues.NewSuperior = new_superior
place_of dues.Over = over
