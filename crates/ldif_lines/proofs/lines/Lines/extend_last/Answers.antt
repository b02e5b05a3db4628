use Rattle.std.proofs.Common.{◌≡◌, ◌+◌, ◌-◌, length, List, ℕ, sym, ap, ◌∙◌, arith}
use Rattle.ldif_lines.specs.inner.Drafts.{append_last}
use Rattle.ldif_lines.proofs.DraftLemmas.{append_last-none, append_last-length}
use Rattle.ldif_lines.proofs.CutLemmas.{length_cut, extended_closes, extended_cut}
use Rattle.ldif_lines.proofs.lines.Lines.extend_last.Goals as goal

pub returns-then-len-eq0-clause-put : goal.returns-then-len-eq0-clause-put
returns-then-len-eq0-clause-put c =
    let none : length c.args.self.now ≡ 0 = sym (ap length c.self.view_is) ∙ length_cut 0 c.self.inside.ends.items c.self.inside.bytes.items ∙ omega (arith, c.self.inside.ends.ok.0, c.len-len.ensures, c.if-len-eq0.true) in
    sym (append_last-none c.args.self.now c.args.bytes.now none)

pub invariant_of-self-2 : goal.invariant_of-self-2
invariant_of-self-2 c =
    let last : c.len-len.result - 1 + 1 ≡ length c.self.inside.ends.items = omega (arith, c.self.inside.ends.ok.0, c.len-len.ensures, c.if-len-eq0.false) in
    extended_closes c.self.inside.ends.items (c.len-len.result - 1) c.self.inside.bytes.items c.extend_from_slice.new.self.items c.args.bytes.now c.len.result c.self.invariant last (omega (arith, c.extend_from_slice.new.self.ok.0, c.len.ensures)) c.in_ok-extend_from_slice.ensures.items

pub returns-clause-put : goal.returns-clause-put
returns-clause-put c =
    let last : c.len-len.result - 1 + 1 ≡ length c.self.inside.ends.items = omega (arith, c.self.inside.ends.ok.0, c.len-len.ensures, c.if-len-eq0.false) in
    extended_cut c.self.inside.ends.items (c.len-len.result - 1) c.self.inside.bytes.items c.extend_from_slice.new.self.items c.args.bytes.now c.len.result c.self.invariant last (omega (arith, c.extend_from_slice.new.self.ok.0, c.len.ensures)) c.in_ok-extend_from_slice.ensures.items
    ∙ ap (λ (ls : List (List ℕ)). append_last ls c.args.bytes.now) c.self.view_is

pub returns-clause-len : goal.returns-clause-len
returns-clause-len c =
    let last : c.len-len.result - 1 + 1 ≡ length c.self.inside.ends.items = omega (arith, c.self.inside.ends.ok.0, c.len-len.ensures, c.if-len-eq0.false) in
    ap length (extended_cut c.self.inside.ends.items (c.len-len.result - 1) c.self.inside.bytes.items c.extend_from_slice.new.self.items c.args.bytes.now c.len.result c.self.invariant last (omega (arith, c.extend_from_slice.new.self.ok.0, c.len.ensures)) c.in_ok-extend_from_slice.ensures.items
    ∙ ap (λ (ls : List (List ℕ)). append_last ls c.args.bytes.now) c.self.view_is)
    ∙ append_last-length c.args.self.now c.args.bytes.now
