-- The first value of blocks that names no class.
use Rattle.std.proofs.Common.{◌≡◌, ℕ, ◌+◌, ◌<◌, ◌∙◌, ap, sym, List, ◌∷◌, ◌++◌, length, drop, get_or, Option, Some, None}
use Rattle.std.specs.List.{slice_get}
use Rattle.std.proofs.lemmas.List.{at_drop_more}
use Rattle.ldif.specs.declared.record.Mod.{Mod}
use Rattle.schema.specs.Conf.{Conf}
use Rattle.sentences.specs.ClassWords.{brought_classes, blocks_classes}
use Rattle.sentences.proofs.Firsts.{first_of_front, first_of_back}

abbrev pub first_from : Conf → List Mod → Option (List ℕ)
first_from conf blocks = slice_get (blocks_classes conf blocks) 0

module _ (conf : Conf) (blocks : List Mod) (i : ℕ) (x : Mod) (later : List Mod) where
  next : i < length blocks → x ≡ get_or blocks i x → later ≡ drop (i + 1) blocks
      → first_from conf (drop i blocks) ≡ slice_get (brought_classes conf later x ++ blocks_classes conf later) 0
  next more is behind =
      at_drop_more (first_from conf) blocks i x more ∙ ap (λ y. first_from conf (y ∷ drop (i + 1) blocks)) (sym is)
      ∙ ap (λ ys. first_from conf (x ∷ ys)) (sym behind)

  pub block_found : (v : List ℕ) → i < length blocks → x ≡ get_or blocks i x → later ≡ drop (i + 1) blocks
      → Some v ≡ slice_get (brought_classes conf later x) 0 → first_from conf (drop i blocks) ≡ first_from conf blocks → Some v ≡ first_from conf blocks
  block_found v more is behind found same =
      first_of_front (brought_classes conf later x) (blocks_classes conf later) v found ∙ sym (next more is behind) ∙ same

  pub block_passed : i < length blocks → x ≡ get_or blocks i x → later ≡ drop (i + 1) blocks
      → ◌≡◌ {A = Option (List ℕ)} None (slice_get (brought_classes conf later x) 0) → first_from conf (drop i blocks) ≡ first_from conf blocks
      → first_from conf (drop (i + 1) blocks) ≡ first_from conf blocks
  block_passed more is behind none same =
      ap (first_from conf) (sym behind) ∙ sym (first_of_back (brought_classes conf later x) (blocks_classes conf later) none)
      ∙ sym (next more is behind) ∙ same
