use Rattle.std.proofs.Common.{◌≡◌, ◌++◌, OnOk, true, sym, ap, subst, List, ℕ, ◌∙◌, arith}
use Rattle.std.specs.List.{list_all}
use Rattle.std.specs.String.{string_bytes}
use Rattle.std.proofs.lemmas.List.{append_assoc}
use Rattle.sentences.specs.Shown.{is_plain}
use Rattle.sentences.proofs.Plain.{fitting_plain, plain_shown}
use Rattle.sentences.proofs.shown.push_text.Goals as goal

pub push_str-requires : goal.push_str-requires
push_str-requires c =
    plain_shown c.args.form c.args.text.now
    (subst (λ (t : List ℕ). list_all (is_plain c.args.form) t ≡ true) c.as_bytes.ensures.value (sym c.are_plain.ensures ∙ c.if-are_plain.true))

pub returns-in_ok-push_str : goal.returns-in_ok-push_str
returns-in_ok-push_str c =
    let plain : list_all (is_plain c.args.form) c.args.text.now ≡ true =
    subst (λ (t : List ℕ). list_all (is_plain c.args.form) t ≡ true) c.as_bytes.ensures.value (sym c.are_plain.ensures ∙ c.if-are_plain.true) in
    let e = fitting_plain c.args.form c.args.most c.args.text.now c.args.end.now (omega arith) plain in
    subst (λ (v : List ℕ). OnOk c.push_str-then-are_plain.result (string_bytes c.push_str-then-are_plain.new.self.text ≡ v))
    (ap (λ x. x ++ c.args.end.now) c.in_ok-push_str.ensures ∙ append_assoc (string_bytes c.args.out.now.text) c.args.text.now c.args.end.now
    ∙ ap (λ x. string_bytes c.args.out.now.text ++ x) (sym e)) c.push_str-then-are_plain.ensures
