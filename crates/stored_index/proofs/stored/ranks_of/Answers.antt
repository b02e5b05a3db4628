use Rattle.std.proofs.Common.{◌≡◌, [], inl, inr, sym, ap, ◌∙◌, rules, arith}
use Rattle.std.proofs.lemmas.Bool.{cases_lt}
use Rattle.std.proofs.lemmas.Fn.{always_returns_same}
use Rattle.std.specs.Cmp.Lexicographic.{slice_cmp}
use Rattle.std.specs.declared.cmp.Ordering.TheVariants.{Less, Equal, Greater}
use Rattle.std.specs.FinSet as set
use Rattle.std.specs.Ordering.{nat_cmp}
use Rattle.index_text.specs.KeySets.{Row}
use Rattle.stored_index.proofs.SearchLemmas.{no_members, the_members, full_at, rises}
use Rattle.stored_index.proofs.stored.ranks_of.Goals as goal

pub returns-in-Ok-clause-members : goal.returns-in-Ok-clause-members
returns-in-Ok-clause-members c =
    let key = c.args.key.now in
    let d = c.index-rows-place.result in
    let tied = c.in-Ok.ensures.position (λ (row : Row). slice_cmp nat_cmp row.0 key) (always_returns_same _ _ _ (λ a r f called. (search rules, search rules))) in
    c.ranks.ensures ∙ ap (λ (row : Row). row.1) c.index-rows-place.is ∙ the_members c.args.rows.now d key c.in-Ok.place c.requires.sorted c.in-Ok.ensures.bound (tied d)

pub returns-in-Ok-clause-some : goal.returns-in-Ok-clause-some
returns-in-Ok-clause-some c =
    let key = c.args.key.now in
    let d = c.index-rows-place.result in
    let tied = c.in-Ok.ensures.position (λ (row : Row). slice_cmp nat_cmp row.0 key) (always_returns_same _ _ _ (λ a r f called. (search rules, search rules))) in
    λ none. full_at c.args.rows.now d c.in-Ok.place c.requires.full c.in-Ok.ensures.bound (the_members c.args.rows.now d key c.in-Ok.place c.requires.sorted c.in-Ok.ensures.bound (tied d) ∙ none)

pub returns-in-Err-clause-members : goal.returns-in-Err-clause-members
returns-in-Err-clause-members c =
    let rows = c.args.rows.now in
    let key = c.args.key.now in
    let d : Row = ([], set.empty) in
    let parted = c.in-Err.ensures.position (λ (row : Row). slice_cmp nat_cmp row.0 key) (always_returns_same _ _ _ (λ a r f called. (search rules, search rules))) (rises rows c.requires.sorted key) in
    no_members rows d key (λ k within tie. elim (cases_lt k c.in-Err.field-0) [
      | inl below ↦
          let bad : Less ≡ Equal = sym (parted.0 k d (omega arith) below) ∙ tie in
          cc
      | inr above ↦
          let bad : Greater ≡ Equal = sym (parted.1 k d (omega (arith, above)) within) ∙ tie in
          cc
    ])
