-- Stored entries and lent blocks by their types.
use Rattle.std.proofs.Common.{◌≡◌, ◌<◌, List, [], ◌∷◌, map, length, refl, sym, ap, subst, ltb-true}
use Rattle.std.specs.Prelude.{Result, Ok, Err, IfOk}
use Rattle.std.specs.List.{AllByRecursion}
use Rattle.std.proofs.lemmas.List.Elements.{All-from_recursion, recursion_from_All}
use Rattle.ldif.specs.declared.record.Mod.{Mod}
use Rattle.values.specs.declared.types.AttributeType.{AttributeType}
use Rattle.entries.specs.Entries.{Attributes, IsAttribute}
use Rattle.entries.specs.StoredEntries.{EntryAttribute, attributes_of}
use Rattle.differences.specs.declared.attributes.UserAttribute.{UserAttribute}
use Rattle.differences.specs.declared.blocks.Block.{Block as LentBlock}
use Rattle.differences.specs.EntryChanges.{mod_of, blocks_between}
use Rattle.differences.specs.inner.LentAttributes.{all_lent, AreLentKnown, AreStoredKnown}
use Rattle.differences.specs.inner.LentBlocks.{all_seen, lent_mod, lent_mods, AreBlocksKnown}
use Rattle.differences.proofs.Modified.{of_between}

pub if_ok : {A E : Type 0} (r : Result A E) (P Q : A → Type 0) → ((x : A) → P x → Q x) → IfOk r P → IfOk r Q
if_ok (Ok x) P Q f h = f x h
if_ok (Err e) P Q f h = tt

module _ (types : List AttributeType) where
  pub stored_known : (attrs : List EntryAttribute) → AllByRecursion (IsAttribute types) (attributes_of attrs) → AreStoredKnown types attrs
  stored_known [] h = tt
  stored_known (a ∷ rest) h = (ltb-true a.0 (length types) h.0.known, stored_known rest h.1)

  abbrev AreIn : Attributes → Type 0
  AreIn attrs = AllByRecursion (λ a. a.0 < length types) attrs

  lent_in : (attrs : List UserAttribute) → AllByRecursion (λ a. a.t.now < length types) attrs → AreIn (all_lent attrs)
  lent_in [] h = tt
  lent_in (a ∷ rest) h = (h.0, lent_in rest h.1)

  lent_known : (attrs : List UserAttribute) → AreLentKnown types attrs → AreIn (all_lent attrs)
  lent_known attrs h = lent_in attrs (recursion_from_All (λ (a : UserAttribute). a.t.now < length types) attrs h)

  blocks_in : (bs : List LentBlock) → AllByRecursion (λ b. b.number < length types) (all_seen bs) → AllByRecursion (λ b. b.t.now < length types) bs
  blocks_in [] h = tt
  blocks_in (b ∷ rest) h = (h.0, blocks_in rest h.1)

  -- the blocks between known attributes
  pub blocks_known : (before after : List UserAttribute) (bs : List LentBlock) → AreLentKnown types before → AreLentKnown types after
      → all_seen bs ≡ blocks_between types (all_lent before) (all_lent after) → AreBlocksKnown types bs
  blocks_known before after bs h g is =
      All-from_recursion (λ (b : LentBlock). b.t.now < length types) bs
      (blocks_in bs (subst (AllByRecursion (λ b. b.number < length types)) (sym is)
      (of_between (λ t. t < length types) types (all_lent before) (all_lent after) (lent_known before h) (lent_known after g))))

  pub mods_are : (bs : List LentBlock) → lent_mods types bs ≡ map (mod_of types) (all_seen bs)
  mods_are [] = refl
  mods_are (b ∷ rest) = ap (λ (ms : List Mod). lent_mod types b ∷ ms) (mods_are rest)
