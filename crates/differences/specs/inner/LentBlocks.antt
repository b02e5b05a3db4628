-- Blocks of a modify that are lent.
use Rattle.std.specs.Prelude.{◌<◌, List, map, length}
use Rattle.std.specs.List.{All}
use Rattle.ldif.specs.declared.record.Mod.{Mod}
use Rattle.values.specs.declared.types.AttributeType.{AttributeType}
use Rattle.differences.specs.declared.blocks.Block.{Block as LentBlock}
use Rattle.differences.specs.EntryChanges.{Block, mod_of}
use Rattle.differences.specs.inner.Cuts.{texts}

abbrev pub seen : LentBlock → Block
seen b = record { number = b.t.now; op = b.op; values = texts b.values.items }

abbrev pub all_seen : List LentBlock → List Block
all_seen bs = map seen bs

abbrev pub lent_mod : List AttributeType → LentBlock → Mod
lent_mod types b = mod_of types (seen b)

abbrev pub lent_mods : List AttributeType → List LentBlock → List Mod
lent_mods types bs = map (lent_mod types) bs

abbrev pub AreBlocksKnown : List AttributeType → List LentBlock → Type 0
AreBlocksKnown types bs = All (λ b. b.t.now < length types) bs
