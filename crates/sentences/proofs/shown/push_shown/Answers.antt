use Rattle.std.proofs.Common.{◌≡◌, ◌++◌, OnOk, ap, subst, List, ℕ}
use Rattle.std.specs.String.{string_bytes}
use Rattle.sentences.proofs.Plain.{shown_text, shown_bytes}
use Rattle.sentences.proofs.shown.push_shown.Goals as goal

pub returns-in-Ok : goal.returns-in-Ok
returns-in-Ok c =
    let e = shown_text c.args.form c.args.most c.args.bytes.now c.front-front.result.now c.in-Ok.text.now c.end_of-end.result.now
    c.front-front.ensures c.in-Ok.ensures.cases.0 c.in-Ok.ensures.cases.1 c.end_of-end.ensures.end in
    subst (λ (v : List ℕ). OnOk c.push_text.result (string_bytes c.push_text.new.out.text ≡ v)) (ap (λ x. string_bytes c.args.out.now.text ++ x) e)
    c.push_text.ensures

pub returns-in-Err : goal.returns-in-Err
returns-in-Err c =
    let e = shown_bytes c.args.form c.args.most c.args.bytes.now c.front-front.result.now c.end_of-end.result.now
    c.front-front.ensures c.in-Err.ensures.cases.0 c.end_of-end.ensures.end in
    subst (λ (v : List ℕ). OnOk c.push_bytes.result (string_bytes c.push_bytes.new.out.text ≡ v)) (ap (λ x. string_bytes c.args.out.now.text ++ x) e)
    c.push_bytes.ensures
