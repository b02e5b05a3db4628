-- The values that a finder finds.
use Rattle.std.specs.Prelude.{List, filter}
use Rattle.checks.specs.declared.entry_value.EntryValue.{EntryValue}
use Rattle.checks.specs.declared.finder.Finder.{Finder}
use Rattle.checks.specs.References.{is_dangling}

-- those of these values that dangle
abbrev pub dangling_in : Finder → List EntryValue → List EntryValue
dangling_in f vs = filter (is_dangling f.conf.now f.tree.now.entries f.named.now) vs
