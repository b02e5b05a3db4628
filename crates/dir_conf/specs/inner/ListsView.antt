-- The two lists of an index line, as contracts see them.
use Rattle.std.specs.Prelude.{map}
use Rattle.dir_conf.specs.declared.index_flaws.Lists.{Lists}
use Rattle.dir_conf.specs.inner.FoundFlaws as found

abbrev pub lists_view : Lists → found.Lists
lists_view l = (map (λ n. n.now) l.names.items, map (λ k. k.now) l.kinds.items)
