use Rattle.std.proofs.Common.{◌≡◌, ℕ, List, Some, is_some, cond, sym, ap, nat_eq, ◌∙◌}
use Rattle.std.specs.Cmp.Lexicographic.{pointwise}
use Rattle.indexmap.specs.IndexMap.{get}
use Rattle.paths.specs.Packed.{pack}
use Rattle.sentences.specs.RefusedAdds.{refused_lines}
use Rattle.sentences.proofs.Kept.{kept_already, kept_new}
use Rattle.sentences.proofs.missing.RefusedAdds.keep.Goals as goal

pub returns-then-contains_key : goal.returns-then-contains_key
returns-then-contains_key c =
    let is_path : c.in_ok-bytes.bytes ≡ pack c.args.path.now = c.in_ok-bytes.ensures ∙ c.bytes.ensures in
    kept_already (refused_lines c.args.self.now) c.args.path.now c.args.line
    (ap (λ (bs : List ℕ). is_some (get (pointwise nat_eq) c.args.self.now.lines bs)) (sym is_path) ∙ sym c.contains_key.ensures ∙ c.if-contains_key.true)

pub returns : goal.returns
returns c = λ other.
    let is_path : c.in_ok-bytes.bytes ≡ pack c.args.path.now = c.in_ok-bytes.ensures ∙ c.bytes.ensures in
    c.in_ok-insert.ensures.updates.0 (pack other)
    ∙ ap (λ (bs : List ℕ). cond (pointwise nat_eq bs (pack other)) (Some c.args.line) (refused_lines c.args.self.now other)) is_path
    ∙ kept_new (refused_lines c.args.self.now) c.args.path.now c.args.line
    (ap (λ (bs : List ℕ). is_some (get (pointwise nat_eq) c.args.self.now.lines bs)) (sym is_path) ∙ sym c.contains_key.ensures ∙ c.if-contains_key.false) other
