use Rattle.std.proofs.Common.{◌≡◌, ◌<◌, arith, sym, ◌∙◌, ap, length, Bool, false}
use Rattle.std.proofs.lemmas.Bool.Decides.{nat_tests}
use Rattle.std.specs.Str.Lines.{strip_carriage_return}
use Rattle.ldif_lines.specs.inner.View.{state_of}
use Rattle.ldif_lines.specs.inner.States.{State, gives, put, settle, ends_with_return}
use Rattle.ldif_lines.proofs.StateLemmas.{take-return, take-more}
use Rattle.ldif_lines.proofs.draft.RecordDraft.take.Goals as goal

pub returns-then-is_empty-2 : goal.returns-then-is_empty-2
returns-then-is_empty-2 c = λ count e only rest.
    let s = state_of c.args.self.now c.args.after_return count in
    let bs = c.args.bytes.now in
    let some : 0 < length bs = grind (arith, nat_tests) in
    let front = c.split_return-waits.ensures.front in
    let z : length (strip_carriage_return bs) ≡ 0 = let k = ap length front in grind (arith, nat_tests) in
    take-return only s bs rest some c.requires z
    ∙ ap (λ (t : State). gives only (record t { after_return = ends_with_return bs }) rest) (sym (c.in_ok-settle.ensures count (λ _. e)))
    ∙ ap (λ (r : Bool). gives only (record (state_of c.settle.new.self false count) { after_return = r }) rest) (sym c.split_return-waits.ensures.after_return)

pub returns : goal.returns
returns c = λ count e only rest.
    let s = state_of c.args.self.now c.args.after_return count in
    let bs = c.args.bytes.now in
    let some : 0 < length bs = grind (arith, nat_tests) in
    let front = c.split_return-waits.ensures.front in
    let z : 0 < length (strip_carriage_return bs) = let k = ap length front in grind (arith, nat_tests) in
    let after : state_of c.put.new.self false count ≡ put (settle s) (strip_carriage_return bs) =
    c.in_ok-put.ensures false count e ∙ ap (λ (t : State). put t c.split_return-waits.result.0.now) (c.in_ok-settle.ensures count (λ _. e)) ∙ ap (put (settle s)) front in
    take-more only s bs rest some c.requires z
    ∙ ap (λ (t : State). gives only (record t { after_return = ends_with_return bs }) rest) (sym after)
    ∙ ap (λ (r : Bool). gives only (record (state_of c.put.new.self false count) { after_return = r }) rest) (sym c.split_return-waits.ensures.after_return)
