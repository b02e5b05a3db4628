use Rattle.std.proofs.Common.{◌≡◌, ℕ, List, ◌++◌, sym, ap, ◌∙◌, subst}
use Rattle.entries.specs.StoredEntries.{EntryAttribute}
use Rattle.databases.specs.inner.Dumps.{AreKnown, attribute_text, selected_text}
use Rattle.databases.proofs.EntryText.{first_selected, no_attribute}
use Rattle.databases.proofs.Pieces.{put_on}
use Rattle.databases.proofs.dump.put_attributes.Goals as goal

pub loop-t-preserved : goal.loop-t-preserved
loop-t-preserved c =
    let width = c.args.width in
    let types = c.args.conf.now.types in
    let s = c.args.selection.now in
    let first : EntryAttribute = (c.in-Some.t.now, c.in-Some.values.now) in
    let left : List EntryAttribute = c.next.new.self in
    let more : selected_text width types s c.loop-t.t-iterator ≡ attribute_text width types s first ++ selected_text width types s left =
    ap (selected_text width types s) c.in-Some.ensures.steps ∙ first_selected width types s first left in
    record {
      known = (subst (AreKnown types) c.in-Some.ensures.steps c.loop-t.invariant.known).1;
      text = put_on _ _ (attribute_text width types s first) _ _ _ c.in_ok-put_attribute.ensures more c.loop-t.invariant.text;
    }

pub returns : goal.returns
returns c =
    let width = c.args.width in
    let types = c.args.conf.now.types in
    c.in_ok-push.ensures.items
    ∙ ap (λ (bs : List ℕ). c.loop-t.out.items ++ bs) (sym (ap (selected_text width types c.args.selection.now) c.in-None.ensures.steps.0 ∙ no_attribute width types))
    ∙ c.loop-t.invariant.text
