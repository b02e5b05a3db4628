-- What a filter is prepared from.
use Rattle.schema.specs.Conf.{Conf}
use Rattle.filter_text.specs.declared.filters.Filter.{Filter}

pub record Made : Type 0 where
  pub conf : Conf
  pub filter : Filter
