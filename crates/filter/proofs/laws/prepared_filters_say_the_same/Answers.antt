use Rattle.filter.proofs.PreparedOperands.{filter_law}
use Rattle.filter.proofs.laws.prepared_filters_say_the_same.Goals as goal

pub returns : goal.returns
returns c = λ conf attrs f is made. filter_law conf.types is.fits attrs made.each f
