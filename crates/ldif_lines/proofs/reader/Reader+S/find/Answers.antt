use Rattle.std.proofs.Common.{arith, ◌<◌, ◌^◌, [], subst, refl, ap, sym, ◌∙◌, inl, inr}
use Rattle.std.specs.Io.KnownBytes.{IsAtEnd}
use Rattle.device.proofs.Pulls.{pulled_failed}
use Rattle.ldif_lines.specs.Reader.{source_of}
use Rattle.ldif_lines.proofs.MoveLemmas.{moved-gave, moved-refl, moved-trans, moved-same, none_held, ended-trans, drained, broken}
use Rattle.ldif_lines.proofs.SearchLemmas.{still_late, is_late, searched_none, searched_more, searched_pull}
use Rattle.ldif_lines.proofs.reader.Reader+S.find.Goals as goal

pub loop-self-init : goal.loop-self-init
loop-self-init g c = record { moved = moved-refl _ _ _; searched = searched_none _ _; at_end = refl; late = inl (refl, refl); fits = λ h. absurd (omega arith) }

pub loop-self-preserved-in-Ok-false : goal.loop-self-preserved-in-Ok-false
loop-self-preserved-in-Ok-false g c = record {
  moved = moved-trans _ _ _ _ _ _ _ _ _ c.loop-self.invariant.moved (c.in-Ok-false.ensures.moved (cc));
  searched = searched_more _ _ _ _ c.loop-self.invariant.searched c.in-Ok-false.ensures.kept;
  at_end = c.in-Ok-false.ensures.kept.at_end ∙ c.loop-self.invariant.at_end;
  late = still_late g.S.Source.seen _ _ _ _ _ _ _ _ _ c.loop-self.invariant.late c.in-Ok-false.ensures.kept.source (c.in-Ok-false.ensures.moved (cc));
  fits = subst (λ x. (g.S.Source.seen (source_of c.args.self.now)).pulled < (g.S.Source.seen x).pulled → (g.S.Source.seen x).pulled < 2 ^ 64) (sym c.in-Ok-false.ensures.kept.source) c.loop-self.invariant.fits;
}

pub loop-self-preserved : goal.loop-self-preserved
loop-self-preserved g c =
    let r = c.loop-self.self in
    let k = c.in-Ok-true-pull.ensures in
    let late = is_late _ _ _ _ _ _ c.loop-self.invariant.late (none_held r.piece r.at r.end c.if-self.false) in
    record {
      moved = moved-trans _ _ _ _ _ _ _ _ _ c.loop-self.invariant.moved k.moved;
      searched = searched_pull _ _ _ _ c.loop-self.invariant.searched k.kept (moved-gave _ _ _ _ _ _ k.moved) c.loop-self.invariant.at_end k.ended late;
      at_end = k.more (cc) ∙ c.loop-self.invariant.at_end;
      late = inr late;
      fits = λ _. k.fits;
    }

pub returns-in-Ok-true-clause-kept : goal.returns-in-Ok-true-clause-kept
returns-in-Ok-true-clause-kept g c = searched_more _ _ _ _ c.loop-self.invariant.searched c.in-Ok-true.ensures.kept

pub returns-in-Ok-true-clause-found : goal.returns-in-Ok-true-clause-found
returns-in-Ok-true-clause-found g c = record {
  closed = λ h. ended-trans _ _ _ _ _ _ _ _ _ _ c.loop-self.invariant.moved (c.in-Ok-true.ensures.ended (cc));
  last = λ h. absurd (cc);
  nothing = λ h. absurd (cc);
  settled = c.in-Ok-true.ensures.settled (cc);
  at_end = λ h. c.in-Ok-true.ensures.kept.at_end ∙ c.loop-self.invariant.at_end;
  ended = λ h. elim h [ inl e ↦ absurd (cc) | inr e ↦ absurd (cc) ];
  fits = subst (λ x. (g.S.Source.seen (source_of c.args.self.now)).pulled < (g.S.Source.seen x).pulled → (g.S.Source.seen x).pulled < 2 ^ 64) (sym c.in-Ok-true.ensures.kept.source) c.loop-self.invariant.fits;
}

pub returns-in-Err-clause-kept : goal.returns-in-Err-clause-kept
returns-in-Err-clause-kept g c = searched_more _ _ _ _ c.loop-self.invariant.searched c.advance.ensures.kept

pub returns-in-Ok-true-last-clause-kept : goal.returns-in-Ok-true-last-clause-kept
returns-in-Ok-true-last-clause-kept g c =
    let r = c.loop-self.self in
    let k = c.in-Ok-false-pull.ensures in
    let late = is_late _ _ _ _ _ _ c.loop-self.invariant.late (none_held r.piece r.at r.end c.if-self.false) in
    searched_more _ _ _ _ (searched_pull _ _ _ _ c.loop-self.invariant.searched k.kept (moved-gave _ _ _ _ _ _ k.moved) c.loop-self.invariant.at_end k.ended late) c.in-Ok-true-last.ensures.kept

pub returns-in-Ok-false-last-clause-kept : goal.returns-in-Ok-false-last-clause-kept
returns-in-Ok-false-last-clause-kept g c =
    let r = c.loop-self.self in
    let k = c.in-Ok-false-pull.ensures in
    let late = is_late _ _ _ _ _ _ c.loop-self.invariant.late (none_held r.piece r.at r.end c.if-self.false) in
    searched_more _ _ _ _ (searched_pull _ _ _ _ c.loop-self.invariant.searched k.kept (moved-gave _ _ _ _ _ _ k.moved) c.loop-self.invariant.at_end k.ended late) c.in-Ok-false-last.ensures.kept

pub returns-in-Err-last-clause-kept : goal.returns-in-Err-last-clause-kept
returns-in-Err-last-clause-kept g c =
    let r = c.loop-self.self in
    let k = c.in-Ok-false-pull.ensures in
    let late = is_late _ _ _ _ _ _ c.loop-self.invariant.late (none_held r.piece r.at r.end c.if-self.false) in
    searched_more _ _ _ _ (searched_pull _ _ _ _ c.loop-self.invariant.searched k.kept (moved-gave _ _ _ _ _ _ k.moved) c.loop-self.invariant.at_end k.ended late) c.last.ensures.kept

pub returns-in-Err-pull-clause-kept : goal.returns-in-Err-pull-clause-kept
returns-in-Err-pull-clause-kept g c =
    let r = c.loop-self.self in
    let k = c.in-Err-pull.ensures in
    let late = is_late _ _ _ _ _ _ c.loop-self.invariant.late (none_held r.piece r.at r.end c.if-self.false) in
    searched_pull _ _ _ _ c.loop-self.invariant.searched k.kept (record { bytes = []; are = pulled_failed _ _ k.device.0 }) c.loop-self.invariant.at_end k.ended late

pub returns-in-Err-pull-clause-fault : goal.returns-in-Err-pull-clause-fault
returns-in-Err-pull-clause-fault g c =
    let r = c.loop-self.self in
    record {
      device = λ h. broken _ _ _ _ _ _ _ c.loop-self.invariant.moved (none_held r.piece r.at r.end c.if-self.false) c.in-Err-pull.ensures.device.0;
      before_end = λ h. sym c.loop-self.invariant.at_end ∙ c.in-Err-pull.ensures.device.2;
      memory = λ h. absurd (cc);
      never = λ h. absurd (cc);
    }

pub returns-in-Ok-true-last-clause-found : goal.returns-in-Ok-true-last-clause-found
returns-in-Ok-true-last-clause-found g c =
    let p = c.pull.new.self in
    let k = c.in-Ok-true-last.ensures in
    let over = c.in-Ok-false-pull.ensures.end (cc) in
    let seen = g.S.Source.seen in
    record {
      closed = λ h. absurd (cc);
      last = λ h.
          let m = moved-trans _ _ _ _ _ _ _ _ _ c.loop-self.invariant.moved c.in-Ok-false-pull.ensures.moved in
          let n = moved-same _ _ _ _ _ _ _ _ (ap seen k.kept.source) k.unread m in
          drained _ _ _ _ _ _ _ n (k.unread ∙ none_held p.piece p.at p.end over.1) (subst (λ x. IsAtEnd (seen x).left) (sym k.kept.source) over.0) (k.some (cc));
      nothing = λ h. absurd (cc);
      settled = k.settled;
      at_end = λ h. absurd (cc);
      ended = λ h. k.kept.at_end ∙ over.2;
      fits = λ h. subst (λ x. (seen x).pulled < 2 ^ 64) (sym k.kept.source) c.in-Ok-false-pull.ensures.fits;
    }

pub returns-in-Ok-false-last-clause-found : goal.returns-in-Ok-false-last-clause-found
returns-in-Ok-false-last-clause-found g c =
    let p = c.pull.new.self in
    let k = c.in-Ok-false-last.ensures in
    let over = c.in-Ok-false-pull.ensures.end (cc) in
    let seen = g.S.Source.seen in
    record {
      closed = λ h. absurd (cc);
      last = λ h. absurd (cc);
      nothing = λ h.
          let m = moved-trans _ _ _ _ _ _ _ _ _ c.loop-self.invariant.moved c.in-Ok-false-pull.ensures.moved in
          let n = moved-same _ _ _ _ _ _ _ _ (ap seen k.kept.source) k.unread m in
          let none = k.none (cc) in
          (drained _ _ _ _ _ _ _ n (k.unread ∙ none_held p.piece p.at p.end over.1) (subst (λ x. IsAtEnd (seen x).left) (sym k.kept.source) over.0) none.0, none.1, none.2);
      settled = k.settled;
      at_end = λ h. absurd (cc);
      ended = λ h. k.kept.at_end ∙ over.2;
      fits = λ h. subst (λ x. (seen x).pulled < 2 ^ 64) (sym k.kept.source) c.in-Ok-false-pull.ensures.fits;
    }
