use Rattle.std.proofs.Common.{◌≡◌, ◌++◌, ◌∷◌, [], List, ℕ, false, codes, length, sym, ap, ◌∙◌}
use Rattle.std.specs.Prelude.{◌==◌}
use Rattle.std.proofs.lemmas.List.{length-map}
use Rattle.ldif.specs.declared.record.Mod.{Mod}
use Rattle.differences.specs.Comments.{mods_words}
use Rattle.differences.specs.inner.BlockTexts.{mods_text}
use Rattle.differences.specs.inner.LentBlocks.{lent_mod, lent_mods}
use Rattle.differences.specs.inner.RecordTexts.{head_text}
use Rattle.differences.proofs.RecordPieces.{modify_of, set_apart}
use Rattle.differences.proofs.records.put_modify.Goals as goal

pub returns : goal.returns
returns c =
    let types = c.args.conf.now.types in
    let blocks = c.args.blocks.now in
    let ms : List Mod = lent_mods types blocks in
    let out = c.args.out.now.items in
    let dn = c.args.name.now in
    let head : List ℕ = head_text (codes "# modify") (mods_words ms) dn (codes "modify") in
    let words : c.as_slice.result.now ≡ mods_words ms = c.as_slice.ensures.value ∙ c.in_ok-put_words.ensures ∙ ap (λ (x : List ℕ). x ++ mods_words ms) c.new-words.ensures.items in
    let some : (length ms == 0) ≡ false = ap (λ n. n == 0) (length-map blocks (lent_mod types)) ∙ sym c.is_empty.ensures ∙ c.if-is_empty.false in
    c.in_ok-push.ensures.items
    ∙ ap (λ (x : List ℕ). x ++ 10 ∷ [])
    (c.in_ok-put_blocks.ensures
    ∙ ap (λ (x : List ℕ). x ++ mods_text ms) (c.in_ok-put_head.ensures ∙ ap (λ (w : List ℕ). out ++ head_text (codes "# modify") w dn (codes "modify")) words))
    ∙ set_apart out head (mods_text ms)
    ∙ ap (λ (x : List ℕ). out ++ x) (modify_of dn ms some)
