use Rattle.std.proofs.Common.{◌≡◌, ℕ, ◌+◌, suc, List, Some, None, ◌∷◌, [], ◌++◌, take, true, false, sym, ap, subst, ◌∙◌, arith}
use Rattle.std.proofs.lemmas.Grind.{common_steps}
use Rattle.ldif.specs.Attrs.{Attr}
use Rattle.values.specs.Types.{type_of}
use Rattle.values.specs.Values.{Value}
use Rattle.schema.specs.Values.{is_valid_at, norm_at}
use Rattle.reasons.specs.inner.Found.{Finds}
use Rattle.reasons.specs.inner.Lines.{checks_of_line, AreSeen}
use Rattle.reasons.proofs.Finding.{at_place}
use Rattle.reasons.proofs.LinesFound.{unknown_found, barred_found, bad_found, equal_found, fine_found, here_in, said_in, take_one_more}
use Rattle.reasons.proofs.explainer.Explainer.line_reason.Goals as goal

pub returns-in_default-clause-found : goal.returns-in_default-clause-found
returns-in_default-clause-found c =
    let conf = c.args.self.now.conf.now in
    let mode = c.args.self.now.mode in
    let d = c.args.self.now.tree.now.entries in
    let r = c.args.self.now.asked.now in
    let i = c.args.index in
    let l = c.index-lines-index.result in
    subst (Finds conf mode d r (checks_of_line i)) (sym c.of_line.ensures)
    (unknown_found conf mode d r i l (here_in r c.args.lines.now i l c.requires.lines c.requires.within c.index-lines-index.is) (grind (arith, common_steps)))

pub returns-then-is_barred-clause-found : goal.returns-then-is_barred-clause-found
returns-then-is_barred-clause-found c =
    let conf = c.args.self.now.conf.now in
    let mode = c.args.self.now.mode in
    let d = c.args.self.now.tree.now.entries in
    let r = c.args.self.now.asked.now in
    let i = c.args.index in
    let l = c.index-lines-index.result in
    let known : type_of conf.types l.name ≡ Some c.in-Some.t = grind (arith, common_steps) in
    subst (Finds conf mode d r (checks_of_line i)) (sym c.of_line-then-is_barred.ensures)
    (barred_found conf mode d r i l (here_in r c.args.lines.now i l c.requires.lines c.requires.within c.index-lines-index.is) c.in-Some.t known (sym c.is_barred.ensures ∙ c.if-is_barred.true))

pub returns-in-Err-Invalid-clause-found : goal.returns-in-Err-Invalid-clause-found
returns-in-Err-Invalid-clause-found c =
    let conf = c.args.self.now.conf.now in
    let mode = c.args.self.now.mode in
    let d = c.args.self.now.tree.now.entries in
    let r = c.args.self.now.asked.now in
    let i = c.args.index in
    let l = c.index-lines-index.result in
    let known : type_of conf.types l.name ≡ Some c.in-Some.t = grind (arith, common_steps) in
    let invalid : is_valid_at conf.types c.in-Some.t l.value ≡ false = grind (arith, common_steps) in
    subst (Finds conf mode d r (checks_of_line i)) (sym c.of_line-in-Err-Invalid.ensures)
    (bad_found conf mode d r i l (here_in r c.args.lines.now i l c.requires.lines c.requires.within c.index-lines-index.is) c.in-Some.t known (sym c.is_barred.ensures ∙ c.if-is_barred.false) invalid)

pub returns-in-Some-2-clause-found : goal.returns-in-Some-2-clause-found
returns-in-Some-2-clause-found c =
    let conf = c.args.self.now.conf.now in
    let mode = c.args.self.now.mode in
    let d = c.args.self.now.tree.now.entries in
    let r = c.args.self.now.asked.now in
    let i = c.args.index in
    let l = c.index-lines-index.result in
    let t = c.in-Some.t in
    let known : type_of conf.types l.name ≡ Some t = grind (arith, common_steps) in
    let valid : is_valid_at conf.types t l.value ≡ true = grind (arith, common_steps) in
    let norm_is : c.norm.result.now ≡ norm_at conf.types t l.value = c.norm.ensures ∙ ap (λ (v : Value). v.norm) c.in-Ok.ensures.1 ∙ ap (norm_at conf.types t) c.value.ensures in
    let said = c.in_ok-earlier.ensures conf.types (take i c.args.lines.now) c.requires.seen in
    subst (Finds conf mode d r (checks_of_line i)) (sym c.of_line-in-Some-2.ensures)
    (equal_found conf mode d r i l (here_in r c.args.lines.now i l c.requires.lines c.requires.within c.index-lines-index.is) t known (sym c.is_barred.ensures ∙ c.if-is_barred.false) valid c.in-Some-2.earlier
    (said_in r c.args.lines.now i c.requires.lines conf.types t c.norm.result.now (norm_at conf.types t l.value) c.in_ok-earlier.field-0 (Some c.in-Some-2.earlier) norm_is c.in-Some-2.is said))

pub returns-clause-found : goal.returns-clause-found
returns-clause-found c =
    let conf = c.args.self.now.conf.now in
    let mode = c.args.self.now.mode in
    let d = c.args.self.now.tree.now.entries in
    let r = c.args.self.now.asked.now in
    let i = c.args.index in
    let l = c.index-lines-index.result in
    let t = c.in-Some.t in
    let known : type_of conf.types l.name ≡ Some t = grind (arith, common_steps) in
    let valid : is_valid_at conf.types t l.value ≡ true = grind (arith, common_steps) in
    let norm_is : c.norm.result.now ≡ norm_at conf.types t l.value = c.norm.ensures ∙ ap (λ (v : Value). v.norm) c.in-Ok.ensures.1 ∙ ap (norm_at conf.types t) c.value.ensures in
    let said = c.in_ok-earlier.ensures conf.types (take i c.args.lines.now) c.requires.seen in
    fine_found conf mode d r i l (here_in r c.args.lines.now i l c.requires.lines c.requires.within c.index-lines-index.is) t known (sym c.is_barred.ensures ∙ c.if-is_barred.false) valid
    (said_in r c.args.lines.now i c.requires.lines conf.types t c.norm.result.now (norm_at conf.types t l.value) c.in_ok-earlier.field-0 None norm_is c.in_default-2.is said)

pub returns-clause-seen : goal.returns-clause-seen
returns-clause-seen c =
    let types = c.args.self.now.conf.now.types in
    let lines = c.args.lines.now in
    let i = c.args.index in
    let l = c.index-lines-index.result in
    let t = c.in-Some.t in
    let known : type_of types l.name ≡ Some t = grind (arith, common_steps) in
    let one : suc i ≡ i + 1 = omega arith in
    let behind : take i lines ++ l ∷ [] ≡ take (i + 1) lines = sym (take_one_more lines i l (at_place lines i l c.requires.within c.index-lines-index.is)) ∙ ap (λ (n : ℕ). take n lines) one in
    subst (λ (ls : List Attr). AreSeen types ls c.push.new.self) behind
    (c.in_ok-push.ensures types (take i lines) l c.requires.seen (record {
      known = c.in-Some.ensures.known;
      type_is = known;
      raw_is = ap (λ (v : Value). v.raw) c.in-Ok.ensures.1 ∙ c.value.ensures;
      norm_is = ap (λ (v : Value). v.norm) c.in-Ok.ensures.1 ∙ ap (norm_at types t) c.value.ensures;
    }))
