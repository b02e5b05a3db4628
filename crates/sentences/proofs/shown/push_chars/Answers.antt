use Rattle.std.proofs.Common.{◌≡◌, ◌++◌, OnOk, length, arith, sym, ap, subst, List, ℕ, ◌∙◌, ◌<◌}
use Rattle.std.specs.Str.{chars}
use Rattle.std.specs.String.{string_bytes}
use Rattle.std.proofs.lemmas.Iterator.{YieldsList-from_chars}
use Rattle.std.proofs.lemmas.Iterator.Consumers.{YieldsList-turn, YieldsList-end}
use Rattle.std.proofs.lemmas.List.{length_push}
use Rattle.sentences.specs.Shown.{shown_char}
use Rattle.sentences.proofs.Cut.{fitting_lacks, fitting_step, fitting_all}
use Rattle.sentences.proofs.shown.push_chars.Goals as goal

pub returns-then-taken-room : goal.returns-then-taken-room
returns-then-taken-room c =
    let t = YieldsList-turn (YieldsList-from_chars c.args.text.now c.utf8.text cc) c.loop-c.yielded _ c.loop-c.yielded_by _ _ c.in-Some.c c.in-Some.is c.next.ensures.steps in
    let lacks : c.loop-c.room < length (shown_char c.args.form c.in-Some.c) = omega arith in
    let e = fitting_lacks (shown_char c.args.form) (chars c.args.text.now) _ _ c.loop-c.room c.args.end.now t lacks in
    subst (λ (v : List ℕ). OnOk c.push_str.result (string_bytes c.push_str.new.self.text ≡ v))
    (ap (λ x. string_bytes c.loop-c.out.text ++ x) (sym e) ∙ c.loop-c.invariant) c.push_str.ensures

pub loop-c-preserved : goal.loop-c-preserved
loop-c-preserved c =
    let t = YieldsList-turn (YieldsList-from_chars c.args.text.now c.utf8.text cc) c.loop-c.yielded _ c.loop-c.yielded_by _ _ c.in-Some.c c.in-Some.is c.next.ensures.steps in
    fitting_step (shown_char c.args.form) (chars c.args.text.now) _ _ c.loop-c.room c.args.end.now _ _ (string_bytes c.loop-c.out.text) _ _ t
    (length_push c.loop-c.yielded c.in-Some.c) c.shown_len-taken.ensures c.if-taken-room.false c.in_ok-push_char.ensures c.loop-c.invariant

pub returns : goal.returns
returns c =
    let t = YieldsList-end (YieldsList-from_chars c.args.text.now c.utf8.text cc) c.loop-c.yielded _ c.loop-c.yielded_by _ _ c.in-None.is c.next.ensures.steps in
    let e = fitting_all (shown_char c.args.form) (chars c.args.text.now) (length c.loop-c.yielded) c.loop-c.room c.args.end.now (omega (arith, t.1)) in
    subst (λ (v : List ℕ). OnOk c.push_str-2.result (string_bytes c.push_str-2.new.self.text ≡ v))
    (ap (λ x. string_bytes c.loop-c.out.text ++ x) (sym e) ∙ c.loop-c.invariant) c.push_str-2.ensures
