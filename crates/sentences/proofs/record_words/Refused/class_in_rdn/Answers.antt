use Rattle.std.proofs.Common.{◌≡◌, true, ap, sym, ◌∙◌, None, Some, arith}
use Rattle.std.specs.List.{filter}
use Rattle.dn.specs.Names.{Ava, Rdn}
use Rattle.sentences.specs.ClassWords.{names_no_class}
use Rattle.sentences.proofs.Firsts.{first_at, first_none, first_seen}
use Rattle.sentences.proofs.record_words.Refused.class_in_rdn.Goals as goal

pub returns-then-names_no_class : goal.returns-then-names_no_class
returns-then-names_no_class c =
    let conf = c.args.self.now.conf.now in
    let avas : Rdn = c.args.avas.now in
    let x : Ava = c.ava-item.result in
    let passes : names_no_class conf x.0 x.1 ≡ true =
    (λ i. names_no_class conf (sym c.type_text.ensures i) (sym c.value.ensures i)) ∙ sym c.names_no_class.ensures ∙ c.if-names_no_class.true in
    let found = first_at (λ (p : Ava). names_no_class conf p.0 p.1) avas c.loop-ava.ava-index x (omega arith) c.ava-item.is passes c.loop-ava.invariant in
    ap Some c.value-then-names_no_class.ensures ∙ first_seen (λ (p : Ava). p.1) (filter (λ (p : Ava). names_no_class conf p.0 p.1) avas) (Some x) found

pub returns : goal.returns
returns c =
    let conf = c.args.self.now.conf.now in
    let avas : Rdn = c.args.avas.now in
    let none = first_none (λ (p : Ava). names_no_class conf p.0 p.1) avas c.loop-ava.ava-index (omega arith) c.loop-ava.invariant in
    first_seen (λ (p : Ava). p.1) (filter (λ (p : Ava). names_no_class conf p.0 p.1) avas) None none
