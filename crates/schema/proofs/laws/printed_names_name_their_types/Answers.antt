use Rattle.schema.proofs.Named.{type_is}
use Rattle.schema.proofs.Locating.{printed_is_text, printed_isnt_reserved}
use Rattle.schema.proofs.laws.printed_names_name_their_types.Goals as goal

pub returns : goal.returns
returns c = record { names = type_is; texts = printed_is_text; free = printed_isnt_reserved }
