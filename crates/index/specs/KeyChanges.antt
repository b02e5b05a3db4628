-- The keys that come and go with a change of an entry.
use Rattle.std.specs.Prelude.{◌≡◌, ◌+◌, ◌<◌, ◌&&◌, not, List, length, Option, IfSome}
use Rattle.std.specs.Option.{option_map}
use Rattle.std.specs.List.{AllByRecursion, IsDistinct}
use Rattle.std.specs.List.Sorted.{IsStrictlySortedBy}
use Rattle.std.specs.Borrow.{Bor}
use Rattle.std.specs.FinSet as set
use Rattle.values.specs.declared.types.AttributeType.{AttributeType}
use Rattle.schema.specs.Conf.{Conf}
use Rattle.entries.specs.Entries.{EntryContent}
use Rattle.entries.specs.StoredEntries.{Entry, content_of, IsMade}
use Rattle.index_text.specs.declared.slot_key.SlotKey.{SlotKey}
use Rattle.index_text.specs.SlotKeys.{slot_key_cmp, same_slot_key, is_among}
use Rattle.index_keys.specs.EntryKeys.{slot_keys_in, edits}

-- what an entry that is lent has, where one is there
abbrev pub content_in : Option (Bor Entry) → Option EntryContent
content_in stored = option_map (λ e. content_of e.now) stored

-- made under a configuration with these types, where one is there
abbrev pub IsMadeIn : List AttributeType → Option (Bor Entry) → Type 0
IsMadeIn types stored = IfSome stored (λ e. IsMade types e.now.attrs)

-- the keys that the first entry has and the second hasn't, in order and each once
pub record AreOnlyIn (conf : Conf) (a b : Option EntryContent) (ps : List SlotKey) : Type 0 where
  pub rise : IsStrictlySortedBy slot_key_cmp ps
  pub apart : IsDistinct same_slot_key ps
  pub within : AllByRecursion (λ p. p.slot.0 < length conf.slots) ps
  pub exact : (p : SlotKey) → is_among p ps ≡ (set.contains (slot_keys_in conf a) p && not (set.contains (slot_keys_in conf b) p))

-- what comes, what goes, and how many keys that are
pub record AreChanges (conf : Conf) (before after : Option EntryContent) (came gone : List SlotKey) : Type 0 where
  pub come : AreOnlyIn conf after before came
  pub go : AreOnlyIn conf before after gone
  pub count : length came + length gone ≡ edits conf before after
