use Rattle.std.proofs.Common.{◌≡◌, ◌++◌, ◌∷◌, [], List, ℕ, codes, ap, ◌∙◌, append_assoc}
use Rattle.dn.specs.Writing.{rdn_text}
use Rattle.ldif.specs.Writing.{written_line}
use Rattle.schema.specs.Names.{written_rdn}
use Rattle.differences.specs.inner.RecordTexts.{head_text}
use Rattle.differences.proofs.RecordPieces.{respelling_is, set_apart}
use Rattle.differences.proofs.records.put_respelling.Goals as goal

pub returns : goal.returns
returns c =
    let types = c.args.conf.now.types in
    let out = c.args.out.now.items in
    let head = head_text (codes "# modrdn") (codes "another spelling of the RDN") c.args.name.now (codes "modrdn") in
    let text = rdn_text (written_rdn types c.args.new.now) in
    let a = written_line (codes "newrdn") text in
    let b = written_line (codes "deleteoldrdn") (codes "0") in
    let is : c.as_slice.result.now ≡ text = c.as_slice.ensures.value ∙ c.in_ok-put_rdn.ensures.put ∙ ap (λ (x : List ℕ). x ++ text) c.new-text.ensures.items in
    c.in_ok-push.ensures.items
    ∙ ap (λ (x : List ℕ). x ++ 10 ∷ [])
    (c.in_ok-put_line-2.ensures.put
    ∙ ap (λ (x : List ℕ). x ++ b) (c.in_ok-put_line.ensures.put ∙ (λ i. c.in_ok-put_head.ensures i ++ written_line (codes "newrdn") (is i)) ∙ append_assoc out head a))
    ∙ set_apart out (head ++ a) b
    ∙ ap (λ (x : List ℕ). out ++ x) (respelling_is types c.args.name.now c.args.new.now)
