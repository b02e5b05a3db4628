use Rattle.std.proofs.Common.{◌||◌, Bool, is_eq, sym, ap, ◌∙◌}
use Rattle.std.proofs.lemmas.Map.Text.{is_eq-slice_cmp}
use Rattle.std.specs.Cmp.Lexicographic.{slice_cmp}
use Rattle.std.specs.List.{list_any}
use Rattle.std.specs.Ordering.{nat_cmp}
use Rattle.std.specs.Str.{bytes_eq}
use Rattle.stored_index.proofs.AskedLemmas.{passed}
use Rattle.stored_index.proofs.SearchLemmas.{same_from_tie}
use Rattle.stored_index.proofs.asked.add.Goals as goal

pub returns : goal.returns
returns c = λ word.
    let text = c.in_ok-text_of.field-0 in
    ap (λ ks. list_any (λ t. is_eq (slice_cmp nat_cmp word t.items)) ks) c.in_ok-insert.ensures.keys
    ∙ passed _ (λ t. is_eq (slice_cmp nat_cmp word t.items)) text (λ x tie. ap (λ bytes. is_eq (slice_cmp nat_cmp word bytes)) (sym (same_from_tie text.items x.items tie))) c.args.texts.now.keys
    ∙ ap (λ (b : Bool). b || list_any (λ t. is_eq (slice_cmp nat_cmp word t.items)) c.args.texts.now.keys) (is_eq-slice_cmp word text.items ∙ ap (bytes_eq word) c.in_ok-text_of.ensures)
