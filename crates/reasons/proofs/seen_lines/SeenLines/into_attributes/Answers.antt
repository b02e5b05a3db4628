use Rattle.std.proofs.Common.{◌≡◌, List, ◌∷◌, [], fold, map, sym, subst, ap, ◌∙◌, arith}
use Rattle.std.proofs.lemmas.Iterator.Adapters.{YieldsList-from_vec}
use Rattle.std.proofs.lemmas.Iterator.Consumers.{YieldsList-end}
use Rattle.std.proofs.lemmas.List.{map-append}
use Rattle.std.proofs.lemmas.List.Sums.{fold_push}
use Rattle.entries.specs.Entries.{push_value}
use Rattle.entries.specs.StoredEntries.{EntryAttribute, attributes_of, IsMade}
use Rattle.reasons.specs.inner.Lines.{TypedValue, put_typed_value}
use Rattle.reasons.proofs.LinesFound.{made_of, gathered_of}
use Rattle.reasons.proofs.seen_lines.SeenLines.into_attributes.Goals as goal

pub loop-typed-preserved : goal.loop-typed-preserved
loop-typed-preserved c =
    let x : TypedValue = c.in-Some.typed in
    let done : List TypedValue = map (λ (y : TypedValue). y) c.loop-typed.yielded in
    record {
      can = (tt, tt);
      so_far = c.in_ok-push_value.ensures ∙ ap (λ (es : List EntryAttribute). push_value es x.0 x.1) c.loop-typed.invariant.so_far
          ∙ sym (fold_push put_typed_value [] done x) ∙ ap (fold put_typed_value []) (sym (map-append (λ (y : TypedValue). y) c.loop-typed.yielded (x ∷ [])));
    }

-- all are put in
all_in : (c : goal.After-drop-typed-iterator-2) → c.loop-typed.attrs.items ≡ fold put_typed_value [] c.args.self.values.items
all_in c =
    let values = c.args.self.values in
    let gives = c.into_iter-typed-iterator.ensures.into_iter_gives in
    let all = YieldsList-from_vec {s = c.into_iter-typed-iterator.result} values.items gives.0 (omega (arith, values.ok.0, gives.1)) in
    let seen = YieldsList-end all c.loop-typed.yielded c.loop-typed.typed-iterator c.loop-typed.yielded_by c.next.result c.next.new.self c.in-None.is c.next.ensures.steps in
    c.loop-typed.invariant.so_far ∙ ap (fold put_typed_value []) seen.0

pub returns-clause-made : goal.returns-clause-made
returns-clause-made c types lines are = subst (IsMade types) (sym (all_in c)) (made_of types lines c.args.self.values.items [] are.typed (record { each = tt }))

pub returns-clause-attrs : goal.returns-clause-attrs
returns-clause-attrs c types lines are = ap attributes_of (all_in c) ∙ gathered_of types lines c.args.self.values.items [] are.typed
