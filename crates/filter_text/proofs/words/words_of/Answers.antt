use Rattle.std.proofs.Common.{◌≡◌, ℕ, ◌<◌, ◌≤◌, ◌==◌, List, [], ◌∷◌, ◌++◌, refl, sym, ap, subst, ◌∙◌, append_assoc, arith, length, length-append, rules}
use Rattle.std.proofs.lemmas.Grind.{common_steps}
use Rattle.std.proofs.lemmas.List.{append-nil}
use Rattle.filter_text.specs.inner.Begins.{Begins}
use Rattle.filter_text.specs.Values.{IsValue, SomeValue}
use Rattle.filter_text.specs.inner.Shapes.{IsAmount, SomeWords}
use Rattle.filter_text.specs.Items.{IsWords}
use Rattle.filter_text.proofs.Runs.{exit_only, exit_front, faulty_in, both_ways, stops_at, none_is_left, some_left}
use Rattle.filter_text.proofs.ShapeTexts.{words_first, words_go_on, words_end, words_more, completes}
use Rattle.filter_text.proofs.words.words_of.Goals as goal

-- the fault behind a colon
behind : (least : ℕ) (ws : List (List ℕ)) (front rest more bytes : List ℕ) → least ≤ 1 → length ws ≤ 2 → bytes ≡ front ++ rest → rest ≡ 58 ∷ more
    → ((vs : List (List ℕ)) (v t : List ℕ) → IsWords vs v t → IsWords (ws ++ vs) v (front ++ t)) → Begins (SomeWords least) bytes (length more)
behind least ws front rest more bytes l f e colon close =
    let k = completes least ws l f in
    record {
      done = front ++ 58 ∷ [];
      rest = more;
      all = e ∙ ap (λ xs. front ++ xs) colon ∙ sym (append_assoc front (58 ∷ []) more);
      from_end = refl;
      more = k.1;
      viable = subst (SomeWords least) (sym (append_assoc front (58 ∷ []) k.1)) (ws ++ k.0, [], close k.0 [] (58 ∷ k.1) k.2, k.3);
    }

pub returns-in_default-clause-only : goal.returns-in_default-clause-only
returns-in_default-clause-only c ws v h a =
    let o = c.words.invariant.only ws v h in
    let first = words_first o.0 v c.words.rest.now o.1 in
    both_ways refl (stops_at (λ b. b == 58) 58 c.words.rest.now first.0 c.in_default.ensures first.1)

pub returns-in_default-clause-front : goal.returns-in_default-clause-front
returns-in_default-clause-front c =
    let old = c.words.invariant.found in
    let k = completes c.args.least c.words.words c.requires c.words.invariant.few in
    record { done = old.0; rest = c.words.rest.now; all = old.1; from_end = refl; more = 58 ∷ k.1; viable = (c.words.words ++ k.0, [], old.2 k.0 [] (58 ∷ k.1) k.2, k.3) }

pub returns-then-len-least-clause-only : goal.returns-then-len-least-clause-only
returns-then-len-least-clause-only c ws v h a =
    let o = c.words.invariant.only ws v h in
    let ends = words_end o.0 v c.words.rest.now c.in-Some-after.right.now o.1 (c.in-Some.ensures ∙ ap (λ xs. 58 ∷ xs) c.in-Some-after.ensures) in
    let long = ap (λ xs. length xs) (o.2 ∙ ap (λ xs. c.words.words ++ xs) ends.0 ∙ append-nil c.words.words) in
    let few = c.if-len-least.true in
    let enough = a.0 in
    let len : c.len.result ≡ length c.words.words = search rules in
    omega (arith, long, few, enough, len)

pub returns-then-len-least-clause-front : goal.returns-then-len-least-clause-front
returns-then-len-least-clause-front c =
    let old = c.words.invariant.found in
    behind c.args.least c.words.words old.0 c.words.rest.now c.in-Some.more.now c.args.text.now c.requires c.words.invariant.few old.1 c.in-Some.ensures old.2

pub returns-in_err-value-clause-only : goal.returns-in_err-value-clause-only
returns-in_err-value-clause-only c ws v h a =
    let o = c.words.invariant.only ws v h in
    let ends = words_end o.0 v c.words.rest.now c.in-Some-after.right.now o.1 (c.in-Some.ensures ∙ ap (λ xs. 58 ∷ xs) c.in-Some-after.ensures) in
    exit_only _ c.from_residual.result _ c.from_residual.ensures.1 (c.in_err-value.ensures.only v ends.1)

pub returns-in_err-value-clause-front : goal.returns-in_err-value-clause-front
returns-in_err-value-clause-front c =
    let old = c.words.invariant.found in
    let ws = c.words.words in
    let right = c.in-Some-after.right.now in
    let enough : c.args.least ≤ length ws = (let f = c.if-len-least.false in let len : c.len.result ≡ length c.words.words = search rules in omega (arith, f, len)) in
    exit_front (SomeWords c.args.least) c.args.text.now c.from_residual.result _ c.from_residual.ensures.1
    (faulty_in SomeValue (SomeWords c.args.least) (old.0 ++ 58 ∷ 61 ∷ []) c.args.text.now right
    (old.1 ∙ ap (λ xs. old.0 ++ xs) (c.in-Some.ensures ∙ ap (λ xs. 58 ∷ xs) c.in-Some-after.ensures) ∙ sym (append_assoc old.0 (58 ∷ 61 ∷ []) right))
    (λ t h. (
      [],
      subst (SomeWords c.args.least) (sym (append_assoc old.0 (58 ∷ 61 ∷ []) (t ++ [])))
          (ws ++ [], h.0, old.2 [] h.0 (58 ∷ 61 ∷ (t ++ [])) (t ++ [], refl, subst (IsValue h.0) (sym (append-nil t)) h.1), subst (IsAmount c.args.least) (sym (append-nil ws)) (enough, c.words.invariant.few)),
    ))
    _ c.in_err-value.ensures.front)

pub returns-in-Some-after-clause-found : goal.returns-in-Some-after-clause-found
returns-in-Some-after-clause-found c =
    let old = c.words.invariant.found in
    let ws = c.words.words in
    let value = c.in_ok-value.value in
    let right = c.in-Some-after.right.now in
    let enough : c.args.least ≤ length ws = (let f = c.if-len-least.false in let len : c.len.result ≡ length c.words.words = search rules in omega (arith, f, len)) in (
      subst (λ (xs : List (List ℕ)). IsWords xs value c.args.text.now) (append-nil ws)
          (subst (IsWords (ws ++ []) value) (sym (old.1 ∙ ap (λ xs. old.0 ++ xs) (c.in-Some.ensures ∙ ap (λ xs. 58 ∷ xs) c.in-Some-after.ensures)))
          (old.2 [] value (58 ∷ 61 ∷ right) (right, refl, c.in_ok-value.ensures.found))),
      (enough, c.words.invariant.few),
    )

pub returns-in-Some-after-clause-only : goal.returns-in-Some-after-clause-only
returns-in-Some-after-clause-only c ws v h a =
    let o = c.words.invariant.only ws v h in
    let ends = words_end o.0 v c.words.rest.now c.in-Some-after.right.now o.1 (c.in-Some.ensures ∙ ap (λ xs. 58 ∷ xs) c.in-Some-after.ensures) in
    (sym (o.2 ∙ ap (λ xs. c.words.words ++ xs) ends.0 ∙ append-nil c.words.words), c.in_ok-value.ensures.only v ends.1)

pub returns-then-len-eq-MOST-clause-only : goal.returns-then-len-eq-MOST-clause-only
returns-then-len-eq-MOST-clause-only c ws v h a =
    let o = c.words.invariant.only ws v h in
    let more = words_more o.0 v c.words.rest.now c.in-Some.more.now o.1 c.in-Some.ensures c.in_default-after.ensures in
    let long = ap (λ xs. length xs) o.2 ∙ length-append c.words.words o.0 in
    let two = c.if-len-eq-MOST.true in
    let most = a.1 in
    let len : c.len-in-words.result ≡ length c.words.words = search rules in
    omega (arith, more, long, two, most, len)

pub returns-then-len-eq-MOST-clause-front : goal.returns-then-len-eq-MOST-clause-front
returns-then-len-eq-MOST-clause-front c =
    let old = c.words.invariant.found in
    behind c.args.least c.words.words old.0 c.words.rest.now c.in-Some.more.now c.args.text.now c.requires c.words.invariant.few old.1 c.in-Some.ensures old.2

pub returns-then-is_empty-clause-only : goal.returns-then-is_empty-clause-only
returns-then-is_empty-clause-only c ws v h a =
    let o = c.words.invariant.only ws v h in
    let n = c.name_at.ensures in
    let next = words_go_on o.0 v c.words.rest.now c.in-Some.more.now c.name_at.result.0.now c.name_at.result.1.now o.1 c.in-Some.ensures c.in_default-after.ensures n.run n.stops n.all in
    let some = next.3.0 in
    let none = ap (λ xs. length xs) (none_is_left c.name_at.result.0.now c.is_empty.ensures c.if-is_empty.true) in
    omega (arith, some, none)

pub returns-then-is_empty-clause-front : goal.returns-then-is_empty-clause-front
returns-then-is_empty-clause-front c =
    let old = c.words.invariant.found in
    behind c.args.least c.words.words old.0 c.words.rest.now c.in-Some.more.now c.args.text.now c.requires c.words.invariant.few old.1 c.in-Some.ensures old.2

pub words-preserved : goal.words-preserved
words-preserved c =
    let old = c.words.invariant.found in
    let n = c.name_at.ensures in
    let run = c.name_at.result.0.now in
    let end = c.name_at.result.1.now in
    let ws = c.words.words in
    let word = c.in_ok-word.word in
    let same = λ (vs : List (List ℕ)). ap (λ xs. xs ++ vs) c.in_ok-push.ensures.ok ∙ append_assoc ws (word ∷ []) vs ∙ ap (λ w. ws ++ w ∷ vs) c.in_ok-word.ensures in
    let some : 0 < length run = some_left run c.is_empty.ensures c.if-is_empty.false in
    let long = ap (λ xs. length xs) (sym (append-nil c.push.new.self) ∙ same []) ∙ length-append ws (run ∷ []) in
    let few = c.words.invariant.few in
    let not_two = c.if-len-eq-MOST.false in
    let len : c.len-in-words.result ≡ length c.words.words = search rules in
    record {
      few = omega (arith, long, few, not_two, len);
      found = (
        old.0 ++ 58 ∷ run,
        old.1 ∙ ap (λ xs. old.0 ++ xs) (c.in-Some.ensures ∙ ap (λ xs. 58 ∷ xs) n.all) ∙ sym (append_assoc old.0 (58 ∷ run) end),
        λ vs v t h. subst (λ (xs : List (List ℕ)). IsWords xs v ((old.0 ++ 58 ∷ run) ++ t)) (sym (same vs))
            (subst (IsWords (ws ++ run ∷ vs) v) (sym (append_assoc old.0 (58 ∷ run) t)) (old.2 (run ∷ vs) v (58 ∷ (run ++ t)) (t, refl, (some, n.run), h))),
      );
      only = λ xs v h.
          let o = c.words.invariant.only xs v h in
          let next = words_go_on o.0 v c.words.rest.now c.in-Some.more.now run end o.1 c.in-Some.ensures c.in_default-after.ensures n.run n.stops n.all in
          (next.0, next.2, o.2 ∙ ap (λ zs. ws ++ zs) next.1 ∙ sym (same next.0));
    }

pub words-smaller : goal.words-smaller
words-smaller c = grind (arith, common_steps)
