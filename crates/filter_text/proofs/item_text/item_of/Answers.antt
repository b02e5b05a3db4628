use Rattle.std.proofs.lemmas.Grind.{common_steps}
use Rattle.std.proofs.Common.{◌≡◌, ℕ, ◌<◌, ◌==◌, List, [], ◌∷◌, ◌++◌, Option, Some, None, refl, sym, ap, subst, ◌∙◌, append_assoc, arith, length}
use Rattle.std.proofs.lemmas.List.{append-nil}
use Rattle.filter_text.specs.declared.comparison.Comparison.{Comparison}
use Rattle.filter_text.specs.declared.items.Item.{Item}
use Rattle.filter_text.specs.declared.items.Item.TheVariants.{Extensible}
use Rattle.filter_text.specs.Values.{IsValue, SomeValue}
use Rattle.filter_text.specs.Items.{IsItem, SomeItem, IsWords}
use Rattle.filter_text.specs.inner.Pieces.{IsPieces, SomePieces}
use Rattle.filter_text.specs.inner.Shapes.{Shape, Same, Order, Rule, IsShape, shape, item_of, of_pieces, compared, unless_empty, SomeWords, sign}
use Rattle.filter_text.proofs.Runs.{exit_only, exit_front, faulty_in, both_ways, stops_at, none_is_left, some_left, tail_eq, head_eq}
use Rattle.filter_text.proofs.ShapeTexts.{item_same, item_order, item_rule, item_nameless, same_sign}
use Rattle.filter_text.proofs.ItemTexts.{back, shaped, spelled, name_back}
use Rattle.filter_text.proofs.item_text.item_of.Goals as goal

-- the item of a shape that the text has
of_shape : (i : Item) (s : Shape) (text : List ℕ) → IsItem i text → shape i ≡ s → item_of s ≡ i
of_shape i s text h e = sym (ap item_of e) ∙ back i text h

some_shape : (s : Shape) (text : List ℕ) → IsShape s text → SomeItem text
some_shape s text h = (item_of s, spelled s text h)

-- an equality, a presence or substrings

pub returns-in_err-first-clause-only : goal.returns-in_err-first-clause-only
returns-in_err-first-clause-only c i h =
    let n = c.name_at.ensures in
    let same = item_same (shape i) c.args.text.now c.name_at.result.0.now c.name_at.result.1.now c.in-Some.right.now n.run n.stops n.all c.in-Some.ensures (shaped i c.args.text.now h) in
    exit_only _ c.from_residual-in_err-first.result _ c.from_residual-in_err-first.ensures.1 (c.in_err-first.ensures.only same.0 same.2)

pub returns-in_err-first-clause-front : goal.returns-in_err-first-clause-front
returns-in_err-first-clause-front c =
    let n = c.name_at.ensures in
    let name = c.name_at.result.0.now in
    let some : 0 < length name = some_left name c.is_empty.ensures c.if-is_empty.false in
    exit_front SomeItem c.args.text.now c.from_residual-in_err-first.result _ c.from_residual-in_err-first.ensures.1
    (faulty_in SomePieces SomeItem (name ++ 61 ∷ []) c.args.text.now c.in-Some.right.now (n.all ∙ ap (λ xs. name ++ xs) c.in-Some.ensures ∙ sym (append_assoc name (61 ∷ []) c.in-Some.right.now))
    (λ t h. ([], some_shape (Same name h.0) ((name ++ 61 ∷ []) ++ (t ++ [])) (t ++ [], append_assoc name (61 ∷ []) (t ++ []), (some, n.run), subst (IsPieces h.0) (sym (append-nil t)) h.1))) _ c.in_err-first.ensures.front)

pub returns-in-Some-clause-found : goal.returns-in-Some-clause-found
returns-in-Some-clause-found c =
    let n = c.name_at.ensures in
    let name = c.name_at.result.0.now in
    let some : 0 < length name = some_left name c.is_empty.ensures c.if-is_empty.false in
    let pieces = c.in_ok-first.first ∷ c.in_ok-first.others.items in
    subst (λ (i : Item). IsItem i c.args.text.now) (sym (c.of_pieces.ensures ∙ ap (λ (a : List ℕ). of_pieces a pieces) c.in_ok-attribute.ensures))
    (spelled (Same name pieces) c.args.text.now (c.in-Some.right.now, n.all ∙ ap (λ xs. name ++ xs) c.in-Some.ensures, (some, n.run), c.in_ok-first.ensures.found))

pub returns-in-Some-clause-only : goal.returns-in-Some-clause-only
returns-in-Some-clause-only c i h =
    let n = c.name_at.ensures in
    let name = c.name_at.result.0.now in
    let same = item_same (shape i) c.args.text.now name c.name_at.result.1.now c.in-Some.right.now n.run n.stops n.all c.in-Some.ensures (shaped i c.args.text.now h) in
    c.of_pieces.ensures ∙ ap (λ (a : List ℕ). of_pieces a (c.in_ok-first.first ∷ c.in_ok-first.others.items)) c.in_ok-attribute.ensures ∙ ap (of_pieces name) (c.in_ok-first.ensures.only same.0 same.2)
    ∙ of_shape i (Same name same.0) c.args.text.now h same.1

-- a comparison

pub returns-in_default-after-clause-only : goal.returns-in_default-after-clause-only
returns-in_default-after-clause-only c i h =
    let n = c.name_at.ensures in
    let o = item_order (shape i) c.args.text.now c.name_at.result.0.now c.name_at.result.1.now n.run n.stops n.all c.in-Some-comparison_at.comparison c.in-Some-comparison_at.equals.now c.in-Some-comparison_at.ensures (shaped i c.args.text.now h) in
    both_ways refl (stops_at (λ b. b == 61) 61 c.in-Some-comparison_at.equals.now o.2 c.in_default-after.ensures (tail_eq (sym c.in-Some-comparison_at.ensures ∙ o.4)))

pub returns-in_default-after-clause-front : goal.returns-in_default-after-clause-front
returns-in_default-after-clause-front c =
    let n = c.name_at.ensures in
    let name = c.name_at.result.0.now in
    let sort = c.in-Some-comparison_at.comparison in
    let some : 0 < length name = some_left name c.is_empty.ensures c.if-is_empty.false in
    record {
      done = name ++ sign sort ∷ [];
      rest = c.in-Some-comparison_at.equals.now;
      all = n.all ∙ ap (λ xs. name ++ xs) c.in-Some-comparison_at.ensures ∙ sym (append_assoc name (sign sort ∷ []) c.in-Some-comparison_at.equals.now);
      from_end = refl;
      more = 61 ∷ [];
      viable = some_shape (Order sort name []) ((name ++ sign sort ∷ []) ++ 61 ∷ []) ([], append_assoc name (sign sort ∷ []) (61 ∷ []), (some, n.run), refl);
    }

pub returns-in_err-value-clause-only : goal.returns-in_err-value-clause-only
returns-in_err-value-clause-only c i h =
    let n = c.name_at.ensures in
    let o = item_order (shape i) c.args.text.now c.name_at.result.0.now c.name_at.result.1.now n.run n.stops n.all c.in-Some-comparison_at.comparison c.in-Some-comparison_at.equals.now c.in-Some-comparison_at.ensures (shaped i c.args.text.now h) in
    let right = tail_eq (sym c.in-Some-after.ensures ∙ tail_eq (sym c.in-Some-comparison_at.ensures ∙ o.4)) in
    exit_only _ c.from_residual-in_err-value.result _ c.from_residual-in_err-value.ensures.1 (c.in_err-value.ensures.only o.1 (subst (IsValue o.1) (sym right) o.5))

pub returns-in_err-value-clause-front : goal.returns-in_err-value-clause-front
returns-in_err-value-clause-front c =
    let n = c.name_at.ensures in
    let name = c.name_at.result.0.now in
    let sort = c.in-Some-comparison_at.comparison in
    let right = c.in-Some-after.right.now in
    let some : 0 < length name = some_left name c.is_empty.ensures c.if-is_empty.false in
    exit_front SomeItem c.args.text.now c.from_residual-in_err-value.result _ c.from_residual-in_err-value.ensures.1
    (faulty_in SomeValue SomeItem (name ++ sign sort ∷ 61 ∷ []) c.args.text.now right
    (n.all ∙ ap (λ xs. name ++ xs) (c.in-Some-comparison_at.ensures ∙ ap (λ xs. sign sort ∷ xs) c.in-Some-after.ensures) ∙ sym (append_assoc name (sign sort ∷ 61 ∷ []) right))
    (λ t h. (
      [],
      some_shape (Order sort name h.0) ((name ++ sign sort ∷ 61 ∷ []) ++ (t ++ []))
          (t ++ [], append_assoc name (sign sort ∷ 61 ∷ []) (t ++ []), (some, n.run), subst (IsValue h.0) (sym (append-nil t)) h.1),
    )) _ c.in_err-value.ensures.front)

pub returns-clause-found : goal.returns-clause-found
returns-clause-found c =
    let n = c.name_at.ensures in
    let name = c.name_at.result.0.now in
    let sort = c.in-Some-comparison_at.comparison in
    let value = c.in_ok-value.value in
    let right = c.in-Some-after.right.now in
    let some : 0 < length name = some_left name c.is_empty.ensures c.if-is_empty.false in
    subst (λ (i : Item). IsItem i c.args.text.now) (sym (c.compared.ensures ∙ ap (λ (a : List ℕ). compared sort a value) c.in_ok-attribute-3.ensures))
    (spelled (Order sort name value) c.args.text.now
    (right, n.all ∙ ap (λ xs. name ++ xs) (c.in-Some-comparison_at.ensures ∙ ap (λ xs. sign sort ∷ xs) c.in-Some-after.ensures), (some, n.run), c.in_ok-value.ensures.found))

pub returns-clause-only : goal.returns-clause-only
returns-clause-only c i h =
    let n = c.name_at.ensures in
    let name = c.name_at.result.0.now in
    let sort = c.in-Some-comparison_at.comparison in
    let o = item_order (shape i) c.args.text.now name c.name_at.result.1.now n.run n.stops n.all sort c.in-Some-comparison_at.equals.now c.in-Some-comparison_at.ensures (shaped i c.args.text.now h) in
    let sorts = sym c.in-Some-comparison_at.ensures ∙ o.4 in
    let right = tail_eq (sym c.in-Some-after.ensures ∙ tail_eq sorts) in
    c.compared.ensures ∙ ap (λ (a : List ℕ). compared sort a c.in_ok-value.value) c.in_ok-attribute-3.ensures
    ∙ ap (λ (z : Comparison). compared z name c.in_ok-value.value) (same_sign sort o.0 (head_eq sorts))
    ∙ ap (compared o.0 name) (c.in_ok-value.ensures.only o.1 (subst (IsValue o.1) (sym right) o.5))
    ∙ of_shape i (Order o.0 name o.1) c.args.text.now h o.3

-- an extensible match without an attribute

pub returns-in_err-words-clause-only : goal.returns-in_err-words-clause-only
returns-in_err-words-clause-only c i h =
    let n = c.name_at.ensures in
    let r = item_nameless (shape i) c.args.text.now c.name_at.result.0.now c.name_at.result.1.now n.run n.stops n.all (ap (λ xs. length xs) (none_is_left c.name_at.result.0.now c.is_empty.ensures c.if-is_empty.true)) (shaped i c.args.text.now h) in
    exit_only _ c.from_residual.result _ c.from_residual.ensures.1 (c.in_err-words.ensures.only r.0 r.1 r.3 r.4)

pub returns-in_err-words-clause-front : goal.returns-in_err-words-clause-front
returns-in_err-words-clause-front c =
    let n = c.name_at.ensures in
    let name = c.name_at.result.0.now in
    exit_front SomeItem c.args.text.now c.from_residual.result _ c.from_residual.ensures.1
    (faulty_in (SomeWords 1) SomeItem name c.args.text.now c.name_at.result.1.now n.all
    (λ t h. (
      [],
      some_shape (Rule name h.0 h.1) (name ++ (t ++ []))
          (t ++ [], refl, (n.run, (let some = h.3.0 in omega (arith, some)), h.3.1), subst (IsWords h.0 h.1) (sym (append-nil t)) h.2),
    )) _ c.in_err-words.ensures.front)

pub returns-then-is_empty-clause-found : goal.returns-then-is_empty-clause-found
returns-then-is_empty-clause-found c =
    let none = none_is_left c.name_at.result.0.now c.is_empty.ensures c.if-is_empty.true in
    let found = c.in_ok-words.ensures.found in
    let some = found.1.0 in (
      omega (arith, some),
      found.1.1,
      subst (IsWords c.in_ok-words.words c.in_ok-words.value) (sym (c.name_at.ensures.all ∙ ap (λ xs. xs ++ c.name_at.result.1.now) none)) found.0,
    )

pub returns-then-is_empty-clause-only : goal.returns-then-is_empty-clause-only
returns-then-is_empty-clause-only c i h =
    let n = c.name_at.ensures in
    let name = c.name_at.result.0.now in
    let r = item_nameless (shape i) c.args.text.now name c.name_at.result.1.now n.run n.stops n.all (ap (λ xs. length xs) (none_is_left c.name_at.result.0.now c.is_empty.ensures c.if-is_empty.true)) (shaped i c.args.text.now h) in
    let none = none_is_left name c.is_empty.ensures c.if-is_empty.true in
    let read = c.in_ok-words.ensures.only r.0 r.1 r.3 r.4 in
    ap (λ (ws : List (List ℕ)). Extensible None ws c.in_ok-words.value) read.0 ∙ ap (Extensible None r.0) read.1
    ∙ ap (λ (a : List ℕ). Extensible (unless_empty a) r.0 r.1) (sym none) ∙ of_shape i (Rule name r.0 r.1) c.args.text.now h r.2

-- one with an attribute

pub returns-in_err-words-2-clause-only : goal.returns-in_err-words-2-clause-only
returns-in_err-words-2-clause-only c i h =
    let n = c.name_at.ensures in
    let r = item_rule (shape i) c.args.text.now c.name_at.result.0.now c.name_at.result.1.now n.run n.stops n.all c.in_default.ensures c.in_default-comparison_at.ensures (shaped i c.args.text.now h) in
    exit_only _ c.from_residual-in_err-words-2.result _ c.from_residual-in_err-words-2.ensures.1 (c.in_err-words-2.ensures.only r.0 r.1 r.3 (omega arith, r.4.2))

pub returns-in_err-words-2-clause-front : goal.returns-in_err-words-2-clause-front
returns-in_err-words-2-clause-front c =
    let n = c.name_at.ensures in
    let name = c.name_at.result.0.now in
    let some : 0 < length name = some_left name c.is_empty.ensures c.if-is_empty.false in
    exit_front SomeItem c.args.text.now c.from_residual-in_err-words-2.result _ c.from_residual-in_err-words-2.ensures.1
    (faulty_in (SomeWords 0) SomeItem name c.args.text.now c.name_at.result.1.now n.all
    (λ t h. (
      [],
      some_shape (Rule name h.0 h.1) (name ++ (t ++ []))
          (t ++ [], refl, (n.run, omega (arith, some), h.3.1), subst (IsWords h.0 h.1) (sym (append-nil t)) h.2),
    )) _ c.in_err-words-2.ensures.front)

pub returns-in_default-comparison_at-clause-found : goal.returns-in_default-comparison_at-clause-found
returns-in_default-comparison_at-clause-found c =
    let n = c.name_at.ensures in
    let name = c.name_at.result.0.now in
    let found = c.in_ok-words-2.ensures.found in
    let same = c.in_ok-attribute-2.ensures in
    let some : 0 < length name = some_left name c.is_empty.ensures c.if-is_empty.false in
    subst (λ (a : List ℕ). IsItem (Extensible (Some a) c.in_ok-words-2.words c.in_ok-words-2.value) c.args.text.now) (sym same) (c.name_at.result.1.now, n.all, (some, n.run), found.1.1, found.0)

pub returns-in_default-comparison_at-clause-only : goal.returns-in_default-comparison_at-clause-only
returns-in_default-comparison_at-clause-only c i h =
    let n = c.name_at.ensures in
    let name = c.name_at.result.0.now in
    let r = item_rule (shape i) c.args.text.now name c.name_at.result.1.now n.run n.stops n.all c.in_default.ensures c.in_default-comparison_at.ensures (shaped i c.args.text.now h) in
    let read = c.in_ok-words-2.ensures.only r.0 r.1 r.3 (omega arith, r.4.2) in
    let some : 0 < length name = some_left name c.is_empty.ensures c.if-is_empty.false in
    ap (λ (a : List ℕ). Extensible (Some a) c.in_ok-words-2.words c.in_ok-words-2.value) c.in_ok-attribute-2.ensures
    ∙ ap (λ (ws : List (List ℕ)). Extensible (Some name) ws c.in_ok-words-2.value) read.0 ∙ ap (Extensible (Some name) r.0) read.1
    ∙ ap (λ (a : Option (List ℕ)). Extensible a r.0 r.1) (sym (name_back name (some, n.run))) ∙ of_shape i (Rule name r.0 r.1) c.args.text.now h r.2

pub compared-requires : goal.compared-requires
compared-requires c = grind (arith, common_steps)
