use Rattle.std.proofs.Common.{◌≡◌, ◌≤◌, ◌++◌, ℕ, List, ap, length, subst, sym, take, drop, ◌∙◌}
use Rattle.std.specs.List.{list_all}
use Rattle.std.proofs.lemmas.List.{take-append-drop, take-append-le}
use Rattle.std.proofs.lemmas.List.Sums.{prefix_len-le-length}
use Rattle.dn.specs.Spelling.{may_stand}
use Rattle.dn.specs.inner.Cuts.{ends_in_space}
use Rattle.dn.proofs.Runs.{front_passes}
use Rattle.dn.proofs.Plain.{plain_first}
use Rattle.dn.proofs.value.split_plain.Goals as goal

pub split_at-requires : goal.split_at-requires
split_at-requires c = subst (λ (n : ℕ). n ≤ length c.args.text.now) (sym c.plain_len.ensures) (prefix_len-le-length may_stand c.args.text.now)

pub returns-clause-read : goal.returns-clause-read
returns-clause-read c =
    let text = c.args.text.now in
    let plain = c.split_at.result.0.now in
    let behind = c.split_at.result.1.now in
    let value = c.split_at-2.result.0.now in
    let kept = c.kept_len.result in
    let split : plain ++ behind ≡ text = ap (λ (x : List ℕ). x ++ behind) c.split_at.ensures.front ∙ ap (λ (x : List ℕ). take c.plain_len.result text ++ x) c.split_at.ensures.back ∙ take-append-drop c.plain_len.result text in
    let stands = ap (list_all may_stand) (c.split_at.ensures.front ∙ ap (λ (n : ℕ). take n text) c.plain_len.ensures) ∙ front_passes may_stand text in
    let value_is : value ≡ take kept plain = c.split_at-2.ensures.front ∙ ap (take kept) (sym split) ∙ take-append-le kept plain behind c.kept_len.ensures.bound in
    let plain_is : plain ≡ value ++ drop kept plain = sym (take-append-drop kept plain) ∙ ap (λ (x : List ℕ). x ++ drop kept plain) (sym value_is) in
    plain_first text plain value (drop kept plain) behind (sym split) plain_is stands (sym c.ends_piece.ensures ∙ c.if-not-ends_piece.false) (sym c.begins_form.ensures ∙ c.if-begins_form.false) (ap ends_in_space value_is ∙ c.kept_len.ensures.kept) c.kept_len.ensures.spaces
