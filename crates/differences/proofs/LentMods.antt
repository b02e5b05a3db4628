-- Blocks that are lent, one by one.
use Rattle.std.proofs.Common.{◌≡◌, ℕ, ◌+◌, ◌<◌, ◌≤◌, List, [], ◌∷◌, ◌++◌, length, drop, get_or, sym, ap, ◌∙◌, arith}
use Rattle.std.specs.List.{flat_map}
use Rattle.std.proofs.lemmas.List.{append-nil, drop-map, drop_more, drop_all, length-map}
use Rattle.ldif.specs.declared.record.Mod.{Mod}
use Rattle.values.specs.declared.types.AttributeType.{AttributeType}
use Rattle.differences.specs.declared.blocks.Block.{Block as LentBlock}
use Rattle.differences.specs.inner.LentBlocks.{lent_mod, lent_mods}
use Rattle.differences.proofs.LentLists.{put_more}

module _ (types : List AttributeType) (blocks : List LentBlock) (i : ℕ) where
  pub mods_more : (b : LentBlock) → i < length blocks → b ≡ get_or blocks i b → drop i (lent_mods types blocks) ≡ lent_mod types b ∷ drop (i + 1) (lent_mods types blocks)
  mods_more b lt is =
      drop-map (lent_mod types) i blocks
      ∙ ap (lent_mods types) (drop_more blocks i b lt)
      ∙ ap (λ (x : LentBlock). lent_mod types x ∷ lent_mods types (drop (i + 1) blocks)) (sym is)
      ∙ ap (λ (xs : List Mod). lent_mod types b ∷ xs) (sym (drop-map (lent_mod types) (i + 1) blocks))

  pub mods_none : length blocks ≤ i → drop i (lent_mods types blocks) ≡ []
  mods_none le = drop_all i (lent_mods types blocks) (omega (arith, le, length-map blocks (lent_mod types)))

  -- the text of one block more
  pub text_more : (f : Mod → List ℕ) (b : LentBlock) (out longer total : List ℕ) → i < length blocks → b ≡ get_or blocks i b → longer ≡ out ++ f (lent_mod types b)
      → out ++ flat_map f (drop i (lent_mods types blocks)) ≡ total → longer ++ flat_map f (drop (i + 1) (lent_mods types blocks)) ≡ total
  text_more f b out longer total lt is put so_far =
      put_more out longer (f (lent_mod types b)) (flat_map f (drop (i + 1) (lent_mods types blocks))) (flat_map f (drop i (lent_mods types blocks))) total put
      (ap (flat_map f) (mods_more b lt is)) so_far

  pub text_whole : (f : Mod → List ℕ) (out total : List ℕ) → length blocks ≤ i → out ++ flat_map f (drop i (lent_mods types blocks)) ≡ total → out ≡ total
  text_whole f out total le so_far = sym (append-nil out) ∙ ap (λ (ms : List Mod). out ++ flat_map f ms) (sym (mods_none le)) ∙ so_far
