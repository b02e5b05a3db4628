use Rattle.std.proofs.Common.{◌≡◌, ◌+◌, ℕ, List, Bool, drop, sym, ◌∙◌}
use Rattle.std.specs.List.{list_any}
use Rattle.std.specs.Str.{str_eq_ignore_ascii_case}
use Rattle.dir_conf.proofs.Found.{behind_there, twin_here, no_twin_here}
use Rattle.dir_conf.proofs.type_flaws.twin.Goals as goal

stands : (name : List ℕ) (rest : List (List ℕ)) (text : List ℕ) (behind : List (List ℕ)) (found b : Bool) → text ≡ name → behind ≡ rest → found ≡ list_any (λ m. str_eq_ignore_ascii_case m text) behind → found ≡ b
    → list_any (λ m. str_eq_ignore_ascii_case m name) rest ≡ b
stands name rest text behind found b is at said e = sym (λ j. list_any (λ m. str_eq_ignore_ascii_case m (is j)) (at j)) ∙ sym said ∙ e

pub returns-then-stands_in : goal.returns-then-stands_in
returns-then-stands_in c =
    let xs = c.args.names.now in
    let behind = behind_there xs c.loop-name.name-index c.name-item.result c.loop-name-test.true c.name-item.is c.loop-name.rest.now c.split_at.result.1.now c.loop-name.invariant.rest c.split_at.ensures.back in
    twin_here xs c.loop-name.name-index c.name-item.result c.loop-name-test.true c.name-item.is
    (stands c.name-item.result (drop (c.loop-name.name-index + 1) xs) c.as_slice.result.now c.split_at.result.1.now c.stands_in.result _ c.as_slice.ensures behind c.stands_in.ensures c.if-stands_in.true)
    c.loop-name.invariant.left

pub loop-name-preserved : goal.loop-name-preserved
loop-name-preserved c =
    let xs = c.args.names.now in
    let behind = behind_there xs c.loop-name.name-index c.name-item.result c.loop-name-test.true c.name-item.is c.loop-name.rest.now c.split_at.result.1.now c.loop-name.invariant.rest c.split_at.ensures.back in
    record {
      rest = behind;
      left =
          no_twin_here xs c.loop-name.name-index c.name-item.result c.loop-name-test.true c.name-item.is
          (stands c.name-item.result (drop (c.loop-name.name-index + 1) xs) c.as_slice.result.now c.split_at.result.1.now c.stands_in.result _ c.as_slice.ensures behind c.stands_in.ensures c.if-stands_in.false)
          c.loop-name.invariant.left;
    }
