use Rattle.std.proofs.Common.{◌≡◌, List, true, ap, sym, ◌∙◌, None, Some, arith}
use Rattle.std.specs.List.{filter, slice_get}
use Rattle.ldif.specs.Attrs.{Attr}
use Rattle.sentences.specs.ClassWords.{names_no_class, line_classes}
use Rattle.sentences.proofs.Firsts.{first_at, first_none, first_seen}
use Rattle.sentences.proofs.record_words.Refused.class_in_lines.Goals as goal

pub returns-then-names_no_class : goal.returns-then-names_no_class
returns-then-names_no_class c =
    let conf = c.args.self.now.conf.now in
    let lines : List Attr = c.lines_in-lines.result.now in
    let x : Attr = c.line-item.result in
    let passes : names_no_class conf x.name x.value ≡ true =
    (λ i. names_no_class conf (sym c.name.ensures i) (sym c.value.ensures i)) ∙ sym c.names_no_class.ensures ∙ c.if-names_no_class.true in
    let found = first_at (λ (l : Attr). names_no_class conf l.name l.value) lines c.loop-line.line-index x (omega arith) c.line-item.is passes c.loop-line.invariant in
    let seen = first_seen (λ (l : Attr). l.value) (filter (λ (l : Attr). names_no_class conf l.name l.value) lines) (Some x) found in
    ap Some c.value-then-names_no_class.ensures ∙ seen ∙ ap (λ (ls : List Attr). slice_get (line_classes conf ls) 0) c.lines_in-lines.ensures

pub returns : goal.returns
returns c =
    let conf = c.args.self.now.conf.now in
    let lines : List Attr = c.lines_in-lines.result.now in
    let none = first_none (λ (l : Attr). names_no_class conf l.name l.value) lines c.loop-line.line-index (omega arith) c.loop-line.invariant in
    let seen = first_seen (λ (l : Attr). l.value) (filter (λ (l : Attr). names_no_class conf l.name l.value) lines) None none in
    seen ∙ ap (λ (ls : List Attr). slice_get (line_classes conf ls) 0) c.lines_in-lines.ensures
