use Rattle.std.proofs.Common.{◌∙◌, sym, ap, subst, ◌++◌, List, nat_eq}
use Rattle.std.specs.List.{IsDistinct}
use Rattle.std.specs.Map.{keys_of}
use Rattle.indexmap.specs.IndexMap.{insert_entry}
use Rattle.entries.specs.StoredEntries.{EntryAttribute, StoredAttributes}
use Rattle.entries.proofs.KeptAttributes.{copied_more}
use Rattle.entries.proofs.kept_attributes.Attributes.copy.Goals as goal

pub loop-t-preserved-in_ok-insert : goal.loop-t-preserved-in_ok-insert
loop-t-preserved-in_ok-insert c =
    let apart = subst (λ (a : StoredAttributes). IsDistinct nat_eq (keys_of a.entries)) c.self.view_is c.iter-t-items.ensures.unique in
    ap (λ (es : List EntryAttribute). es ++ c.next.new.self) (c.in_ok-insert.ensures.entries ∙ ap (insert_entry nat_eq c.loop-t.map.entries c.in-Some.t.now) c.in_ok-copy.ensures)
    ∙ copied_more c.args.self.now.entries c.loop-t.map.entries c.next.new.self c.in-Some.t.now c.in-Some.values.now apart
    (ap (λ (xs : List EntryAttribute). c.loop-t.map.entries ++ xs) (sym c.in-Some.ensures.steps) ∙ c.loop-t.invariant)

pub loop-t-preserved : goal.loop-t-preserved
loop-t-preserved c =
    let apart = subst (λ (a : StoredAttributes). IsDistinct nat_eq (keys_of a.entries)) c.self.view_is c.iter-t-items.ensures.unique in
    ap (λ (es : List EntryAttribute). es ++ c.next.new.self) (c.in_ok-insert.ensures.entries ∙ ap (insert_entry nat_eq c.loop-t.map.entries c.in-Some.t.now) c.in_ok-copy.ensures)
    ∙ copied_more c.args.self.now.entries c.loop-t.map.entries c.next.new.self c.in-Some.t.now c.in-Some.values.now apart
    (ap (λ (xs : List EntryAttribute). c.loop-t.map.entries ++ xs) (sym c.in-Some.ensures.steps) ∙ c.loop-t.invariant)
