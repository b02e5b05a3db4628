use Rattle.std.proofs.Common.{ℕ, List, [], ◌∷◌, ◌++◌, refl, sym, ap, subst, ◌∙◌, append_assoc}
use Rattle.std.proofs.lemmas.List.{append-nil}
use Rattle.std.proofs.lemmas.Result.{IfOk-weaker}
use Rattle.filter_text.specs.Runs.{Stops, is_star}
use Rattle.filter_text.specs.Values.{SomeValue}
use Rattle.filter_text.specs.inner.Pieces.{IsStarred, IsPieces, SomePieces}
use Rattle.filter_text.proofs.Runs.{exit_only, exit_front, faulty_in, both_ways, stops_at, only_read, front_left}
use Rattle.filter_text.proofs.ValueTexts.{one_value}
use Rattle.filter_text.proofs.PieceTexts.{tail_stops, stops_after, value_stops_star, tail_goes_on, tail_ends, pattern_first, pattern_value}
use Rattle.filter_text.proofs.pieces.pieces_of.Goals as goal

pub returns-in_err-first-clause-only : goal.returns-in_err-first-clause-only
returns-in_err-first-clause-only c ps h =
    let v = pattern_value ps c.args.text.now h in
    exit_only _ c.from_residual.result _ c.from_residual.ensures.1 (c.in_err-first.ensures.none v.0 v.1 v.2 v.3 v.4 v.5)

pub returns-in_err-first-clause-front : goal.returns-in_err-first-clause-front
returns-in_err-first-clause-front c =
    exit_front SomePieces c.args.text.now c.from_residual.result _ c.from_residual.ensures.1
    (faulty_in SomeValue SomePieces [] c.args.text.now c.args.text.now refl (λ t h. ([], (h.0 ∷ [], (t, [], refl, h.1, refl)))) _ c.in_err-first.ensures.front)

pub stars-init : goal.stars-init
stars-init c =
    let found = c.in_ok-first.ensures.found in
    let first = c.in_ok-first.first in
    let none = λ (qs : List (List ℕ)). ap (λ xs. first ∷ xs ++ qs) c.new-others.ensures.items in
    record {
      stops = c.in_ok-first.ensures.stops;
      found = (found.0, found.2, λ qs t h follow. subst (λ (xs : List (List ℕ)). IsPieces xs (found.0 ++ t)) (sym (none qs)) (found.0, t, refl, found.1, h));
      only = λ ps h.
          let p = pattern_first ps first c.args.text.now found.0 c.in_ok-first.end.now h found.1 c.in_ok-first.ensures.stops found.2 in
          (p.0, p.1, p.2 ∙ sym (none p.0));
    }

pub returns-in_err-piece-clause-only : goal.returns-in_err-piece-clause-only
returns-in_err-piece-clause-only c ps h =
    let o = c.stars.invariant.only ps h in
    let run = c.skip_stars.ensures.run in
    let next = tail_goes_on o.0 c.stars.rest.now c.in-Some.more.now run.0 c.skip_stars.result.now o.1 c.in-Some.ensures run.1 run.2 c.skip_stars.ensures.stops in
    exit_only _ c.from_residual-in_err-piece.result _ c.from_residual-in_err-piece.ensures.1
    (c.in_err-piece.ensures.none next.0 next.2 next.3 next.5 (tail_stops next.1 next.3 next.6) next.7)

pub returns-in_err-piece-clause-front : goal.returns-in_err-piece-clause-front
returns-in_err-piece-clause-front c =
    let old = c.stars.invariant.found in
    let run = c.skip_stars.ensures.run in
    let pieces = c.in_ok-first.first ∷ c.stars.others.items in
    let before = old.0 ++ 42 ∷ run.0 in
    exit_front SomePieces c.args.text.now c.from_residual-in_err-piece.result _ c.from_residual-in_err-piece.ensures.1
    (faulty_in SomeValue SomePieces before c.args.text.now c.skip_stars.result.now
    (old.1 ∙ ap (λ xs. old.0 ++ xs) (c.in-Some.ensures ∙ ap (λ xs. 42 ∷ xs) run.2) ∙ sym (append_assoc old.0 (42 ∷ run.0) c.skip_stars.result.now))
    (λ t h. (
      [],
      (
        pieces ++ h.0 ∷ [],
        subst (IsPieces (pieces ++ h.0 ∷ [])) (sym (append_assoc old.0 (42 ∷ run.0) (t ++ [])))
            (old.2 (h.0 ∷ []) (42 ∷ (run.0 ++ (t ++ []))) (run.0, t, [], refl, run.1, value_stops_star h.0 t h.1, h.1, refl)
            (λ stops. absurd (both_ways refl (stops_at is_star 42 c.stars.rest.now c.in-Some.more.now stops c.in-Some.ensures)))),
      ),
    ))
    _ c.in_err-piece.ensures.front)

pub stars-preserved : goal.stars-preserved
stars-preserved c =
    let old = c.stars.invariant.found in
    let run = c.skip_stars.ensures.run in
    let found = c.in_ok-piece.ensures.found in
    let piece = c.in_ok-piece.piece in
    let end = c.in_ok-piece.end.now in
    let pieces = c.in_ok-first.first ∷ c.stars.others.items in
    let same = λ (qs : List (List ℕ)). ap (λ xs. c.in_ok-first.first ∷ xs ++ qs) c.in_ok-push.ensures.items ∙ append_assoc pieces (piece ∷ []) qs in
    let here = 42 ∷ (run.0 ++ found.0) in
    let stars = subst (Stops is_star) found.2 c.skip_stars.ensures.stops in
    record {
      stops = c.in_ok-piece.ensures.stops;
      found = (
        old.0 ++ here,
        old.1 ∙ ap (λ xs. old.0 ++ xs) (c.in-Some.ensures ∙ ap (λ xs. 42 ∷ xs) (run.2 ∙ ap (λ xs. run.0 ++ xs) found.2 ∙ sym (append_assoc run.0 found.0 end))) ∙ sym (append_assoc old.0 here end),
        λ qs t h follow. subst (λ (xs : List (List ℕ)). IsPieces xs ((old.0 ++ here) ++ t)) (sym (same qs))
            (subst (IsPieces (c.in_ok-first.first ∷ c.stars.others.items ++ piece ∷ qs))
            (ap (λ xs. old.0 ++ 42 ∷ xs) (sym (append_assoc run.0 found.0 t)) ∙ sym (append_assoc old.0 here t))
            (old.2 (piece ∷ qs) (42 ∷ (run.0 ++ (found.0 ++ t))) (run.0, found.0, t, refl, run.1, stops_after is_star found.0 end t stars follow, found.1, h)
            (λ stops. absurd (both_ways refl (stops_at is_star 42 c.stars.rest.now c.in-Some.more.now stops c.in-Some.ensures))))),
      );
      only = λ ps h.
          let o = c.stars.invariant.only ps h in
          let next = tail_goes_on o.0 c.stars.rest.now c.in-Some.more.now run.0 c.skip_stars.result.now o.1 c.in-Some.ensures run.1 run.2 c.skip_stars.ensures.stops in
          let one = one_value piece next.0 found.0 next.2 end next.3 found.1 next.5 c.in_ok-piece.ensures.stops (tail_stops next.1 next.3 next.6) (sym found.2 ∙ next.7) in
          (next.1, subst (IsStarred next.1) (sym one.1) next.6, o.2 ∙ ap (λ xs. c.in_ok-first.first ∷ c.stars.others.items ++ xs) (next.4 ∙ ap (λ z. z ∷ next.1) (sym one.0)) ∙ sym (same next.1));
    }

pub returns-clause-found : goal.returns-clause-found
returns-clause-found c =
    let old = c.stars.invariant.found in
    let pieces = c.in_ok-first.first ∷ c.stars.others.items in
    IfOk-weaker c.read_whole.result _ _
    (λ x done. subst (λ (ps : List (List ℕ)). IsPieces ps c.args.text.now) (append-nil pieces ∙ sym (ap (λ y. y.0 ∷ y.1.items) done.0))
    (subst (IsPieces (pieces ++ [])) (ap (λ xs. old.0 ++ xs) (sym done.1) ∙ sym old.1) (old.2 [] [] refl (λ _. tt))))
    c.read_whole.ensures.done

pub returns-clause-only : goal.returns-clause-only
returns-clause-only c ps h =
    let o = c.stars.invariant.only ps h in
    let ends = tail_ends o.0 c.stars.rest.now o.1 c.in_default.ensures in
    let pieces = c.in_ok-first.first ∷ c.stars.others.items in
    only_read _ c.read_whole.result (c.in_ok-first.first, c.stars.others) c.stars.rest.now c.read_whole.ensures.done c.read_whole.ensures.left
    (sym (o.2 ∙ ap (λ xs. pieces ++ xs) ends.0 ∙ append-nil pieces)) ends.1

pub returns-clause-front : goal.returns-clause-front
returns-clause-front c =
    let old = c.stars.invariant.found in
    let pieces = c.in_ok-first.first ∷ c.stars.others.items in
    front_left SomePieces c.args.text.now c.read_whole.result old.0 c.stars.rest.now c.read_whole.ensures.left old.1
    (pieces, subst (λ (ps : List (List ℕ)). IsPieces ps old.0) (append-nil pieces) (subst (IsPieces (pieces ++ [])) (append-nil old.0) (old.2 [] [] refl (λ _. tt))))
