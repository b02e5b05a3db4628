-- How a filter joins others.
use Rattle.filter_text.specs.declared.joining.Joining.{Joining}
use Rattle.filter_text.specs.declared.joining.Joining.TheVariants.{All, Any}
use Rattle.filter_text.specs.Spells.{FilterContent, FilterContents, All_of, Any_of}

abbrev pub joined : Joining → FilterContents → FilterContent
joined All operands = All_of operands
joined Any operands = Any_of operands
