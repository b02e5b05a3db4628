use Rattle.std.proofs.Common.{◌≡◌, ◌<◌, ◌≤◌, ◌+◌, ◌-◌, ◌⊎◌, Bool, true, false, not, cond, length, get_or, refl, sym, ap, ◌∙◌, inl, inr, arith}
use Rattle.std.proofs.lemmas.Bool.{cases_lt, true≢false}
use Rattle.std.specs.FinSet as set
use mir.Val.{bool_byte}
use Rattle.id_sets.proofs.Ascending.{len_ascending}
use Rattle.dense_sets.proofs.Keys.{dense_is, few_not_dense, greatest_with, len_more, len_with, none_above}
use Rattle.dense_sets.proofs.key_set.is_dense_with.Goals.{in-Some, in-None}
use Rattle.dense_sets.proofs.key_set.is_dense_with.Goals as goal

one_more : (b : Bool) → bool_byte (not b) ≡ cond b 0 1
one_more true = refl
one_more false = refl

pub returns-then-ids-lt-MANY : goal.returns-then-ids-lt-MANY
returns-then-ids-lt-MANY c =
    let list = c.args.list.now in
    let long : set.len list ≡ length c.as_slice-ids.result.now = ap set.len (sym c.as_slice-ids.ensures.members) ∙ len_ascending c.as_slice-ids.result.now c.as_slice-ids.ensures.ascending in
    let few : set.len (set.insert list c.args.id) ≤ 64 = (let more = len_more list c.args.id in let less = c.if-ids-lt-MANY.true in omega (arith, more, less, long)) in
    (λ h. absurd (true≢false (sym h)), λ d. absurd (few_not_dense (set.insert list c.args.id) few d))

pub returns : goal.returns
returns c =
    let xs = c.as_slice-ids.result.now in
    let list = c.args.list.now in
    let id = c.args.id in
    let greatest = c.match-last.greatest in
    let ascending = c.as_slice-ids.ensures.ascending in
    let is = c.as_slice-ids.ensures.members in
    let top : (id ≤ greatest) × (0 < length xs → get_or xs (length xs - 1) 0 ≤ greatest) × ((greatest ≡ id) ⊎ ((0 < length xs) × (greatest ≡ get_or xs (length xs - 1) 0))) =
    elim c.match-last.branch [
      | in-Some w ↦
          (let last = w.in-Some.ensures.item.3.1 0 in
          let some = w.in-Some.ensures.item.3.0 in
          let most = w.max-greatest.ensures in
          let e = w.greatest-is in
          (omega (arith, last, most, e), (λ h. omega (arith, last, most, e)), elim (cases_lt id w.in-Some.last.now) [ inl l ↦ inr (some, omega (arith, last, most, e, l)) | inr l ↦ inl (omega (arith, last, most, e, l)) ]))
      | in-None w ↦ (let none = w.in-None.ensures.item.3 in let e = w.greatest-is in (omega (arith, e), (λ h. absurd (omega (arith, none, h))), inl e))
    ] in
    let more : c.from.result ≡ cond (set.contains list id) 0 1 = c.from.ensures ∙ one_more c.contains.result ∙ ap (λ b. cond b 0 1) c.contains.ensures in
    let dense = dense_is (set.insert list id) (length xs + c.from.result) greatest (len_with xs list id greatest ascending is c.from.result more) (greatest_with xs list id greatest ascending is top.0 top.1 top.2) (none_above xs list id greatest ascending is top.0 top.1) in
    ((λ t. dense.0 (c.is_dense.ensures.0 t)), (λ d. c.is_dense.ensures.1 (dense.1 d)))
