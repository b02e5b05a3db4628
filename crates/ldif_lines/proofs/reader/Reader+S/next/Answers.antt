use Rattle.std.proofs.Common.{◌≡◌, ◌+◌, ◌^◌, ◌<◌, ◌++◌, ◌∷◌, [], inl, inr, ℕ, Bool, List, subst, refl, sym, ◌∙◌, ap, false, option_map, ◌-◌, length, take, drop, arith}
use Rattle.std.proofs.lemmas.List.{length-take}
use Rattle.ldif_lines.specs.Records.{RawRecord, records_from}
use Rattle.ldif_lines.specs.Reader.{Takes, source_of, unread, records_left, bytes_left}
use Rattle.ldif_lines.specs.inner.States.{State, next_state}
use Rattle.ldif_lines.specs.inner.Moves.{Broken}
use Rattle.ldif_lines.specs.inner.ReaderStates.{begins}
use Rattle.ldif_lines.specs.View.{view}
use Rattle.ldif_lines.proofs.MoveLemmas.{block_before, block_closed, block_bytes, closed_none, gives-fresh, ended-more, drained-more, ended-change, drained-change, ended-takes, drained-takes, drained-end, ended-falls, drained-falls}
use Rattle.ldif_lines.proofs.SearchLemmas.{keeps_none, keeps_source}
use Rattle.ldif_lines.proofs.reader.Reader+S.next.Goals as goal

held_some : (piece : List ℕ) (at end : ℕ) → 0 < length (take (end - at) (drop at piece)) → at < end
held_some piece at end h = omega (arith, h, length-take (end - at) (drop at piece))

place : (first : Bool) (n m : ℕ) → first ≡ false → n ≡ m → record (next_state n) { first = first } ≡ next_state m
place first n m e f = ap (λ (b : Bool). record (next_state n) { first = b }) e ∙ ap next_state f

pub returns-then-self-clause-source : goal.returns-then-self-clause-source
returns-then-self-clause-source g c = keeps_none g.S.Source.seen c.args.self.now

pub returns-in-Ok-Nothing-clause-source : goal.returns-in-Ok-Nothing-clause-source
returns-in-Ok-Nothing-clause-source g c = keeps_source g.S.Source.seen c.args.self.now _ _ _ refl refl refl refl (c.restart.ensures.state c.args.self.now.count) c.in-Ok-Nothing.ensures.kept refl refl

pub returns-in-Ok-Closed-clause-source : goal.returns-in-Ok-Closed-clause-source
returns-in-Ok-Closed-clause-source g c =
    keeps_source g.S.Source.seen c.args.self.now _ _ _ refl refl refl refl (c.restart.ensures.state c.args.self.now.count) c.in-Ok-Closed.ensures.kept c.give.ensures.same_loan c.give.ensures.source

pub returns-in-Ok-Last-clause-source : goal.returns-in-Ok-Last-clause-source
returns-in-Ok-Last-clause-source g c =
    keeps_source g.S.Source.seen c.args.self.now _ _ _ refl refl refl refl (c.restart.ensures.state c.args.self.now.count) c.in-Ok-Last.ensures.kept c.give-in-Ok-Last.ensures.same_loan c.give-in-Ok-Last.ensures.source

pub returns-in-Err-clause-source : goal.returns-in-Err-clause-source
returns-in-Err-clause-source g c = keeps_source g.S.Source.seen c.args.self.now _ _ _ refl refl refl refl (c.restart.ensures.state c.args.self.now.count) c.in-Err.ensures.kept refl refl

pub returns-in-Ok-Nothing-clause-told : goal.returns-in-Ok-Nothing-clause-told
unfolding records_left
returns-in-Ok-Nothing-clause-told g c =
    let r = c.args.self.now in
    let f = c.find.new.self in
    let none = c.in-Ok-Nothing.ensures.found.nothing (cc) in
    let d = drained-change _ _ _ _ _ _ _ (begins r) _ _ refl refl (sym (c.restart.ensures.state r.count)) refl none.0 in
    record {
      gives = tt;
      end = λ h. drained-end _ _ _ _ r.first f.first r.count f.count d;
      falls = tt;
      more = tt;
      took = tt;
      rest = λ h. record {
        got = d.got;
        pulled = d.pulled;
        at_end = d.at_end;
        ended = c.in-Ok-Nothing.ensures.found.ended (inr (cc));
        none = d.none;
        closed = closed_none r.first r.count _ d.closed;
        are = sym (gives-fresh r.first r.count (unread r ++ d.got)) ∙ d.rest;
      };
      going = d.failed;
      still_good = c.in-Ok-Nothing.ensures.kept.failed ∙ c.if-self.false;
      begun = none.2;
    }

pub returns-in-Ok-Closed-clause-told : goal.returns-in-Ok-Closed-clause-told
unfolding records_left bytes_left
returns-in-Ok-Closed-clause-told g c =
    let r = c.args.self.now in
    let v = c.give.new.self in
    let seen = g.S.Source.seen in
    let k = c.give.ensures in
    let found = c.in-Ok-Closed.ensures.found in
    let next = ended-change (seen (source_of r)) _ (seen (source_of v)) (unread r) _ (unread v) _ (begins r) _ (next_state v.count) _ (view c.give.result)
    (ap seen k.source) k.unread (sym (c.restart.ensures.state r.count)) (ap next_state k.place.0) k.record (found.closed (cc)) in
    let d = ended-change (seen (source_of r)) _ (seen (source_of v)) (unread r) _ (unread v) _ (begins r) _ (begins v) _ (view c.give.result)
    (ap seen k.source) k.unread (sym (c.restart.ensures.state r.count)) (place v.first v.count _ k.place.1 k.place.0) k.record (found.closed (cc)) in
    let fits = subst (λ x. (seen (source_of r)).pulled < (seen x).pulled → (seen x).pulled < 2 ^ 64) (sym k.source) found.fits in
    record {
      gives = subst (λ (b : Bool). Takes (option_map (λ (bs : List ℕ). records_from r.first (r.count + 1) (unread r ++ bs)) (seen (source_of r)).left) (option_map (λ (bs : List ℕ). records_from b (v.count + 1) (unread v ++ bs)) (seen (source_of v)).left) (view c.give.result ∷ [])) (sym k.place.1)
          (ended-takes _ _ _ _ r.first r.count v.count _ next);
      end = λ h. absurd (cc);
      falls = ended-falls _ _ _ _ _ _ _ next fits;
      more = ended-more _ _ _ _ _ _ _ next fits (λ h. r.fits (held_some r.piece r.at r.end h));
      took = inl (record {
        got = d.got;
        block = d.ends.eaten;
        pulled = d.pulled;
        bytes = block_bytes _ _ _ _ _ _ _ d;
        before = block_before r.first r.count _ _ _ d.ends;
        same_end = k.place.3 ∙ found.at_end (cc);
        closed = block_closed r.first v.first r.count v.count _ _ d.ends;
      });
      rest = λ h. absurd (cc);
      going = d.failed;
      still_good = k.place.2 ∙ c.in-Ok-Closed.ensures.kept.failed ∙ c.if-self.false;
      begun = k.begun;
    }

pub returns-in-Ok-Last-clause-told : goal.returns-in-Ok-Last-clause-told
unfolding records_left bytes_left
returns-in-Ok-Last-clause-told g c =
    let r = c.args.self.now in
    let v = c.give-in-Ok-Last.new.self in
    let seen = g.S.Source.seen in
    let k = c.give-in-Ok-Last.ensures in
    let found = c.in-Ok-Last.ensures.found in
    let d = drained-change (seen (source_of r)) _ (seen (source_of v)) (unread r) _ (unread v) _ (begins r) _ (view c.give-in-Ok-Last.result ∷ [])
    (ap seen k.source) k.unread (sym (c.restart.ensures.state r.count)) (ap (λ (x : RawRecord). x ∷ []) k.record) (found.last (cc)) in
    let fits = subst (λ x. (seen (source_of r)).pulled < (seen x).pulled → (seen x).pulled < 2 ^ 64) (sym k.source) found.fits in
    record {
      gives = (drained-takes _ _ _ _ r.first v.first r.count v.count _ d).0;
      end = λ h. absurd (cc);
      falls = drained-falls _ _ _ _ r.first r.count _ d fits;
      more = drained-more _ _ _ _ r.first r.count _ d fits (λ h. r.fits (held_some r.piece r.at r.end h));
      took = inr (record {
        got = d.got;
        pulled = d.pulled;
        at_end = d.at_end;
        ended = k.place.3 ∙ found.ended (inl (cc));
        none = d.none;
        closed = closed_none r.first r.count _ d.closed;
        are = sym (gives-fresh r.first r.count (unread r ++ d.got)) ∙ d.rest;
      });
      rest = λ h. absurd (cc);
      going = d.failed;
      still_good = k.place.2 ∙ c.in-Ok-Last.ensures.kept.failed ∙ c.if-self.false;
      begun = k.begun;
    }

pub returns-in-Err-clause-fault : goal.returns-in-Err-clause-fault
returns-in-Err-clause-fault g c =
    let r = c.args.self.now in
    let why = c.in-Err.ensures.fault in
    record {
      device = λ h. (why.device (cc)).failed;
      breaks = λ h.
          let d = subst (λ (s : State). Broken (g.S.Source.seen (source_of r)) (g.S.Source.seen (source_of c.find.new.self)) (unread r) s) (c.restart.ensures.state r.count) (why.device (cc)) in
          record { got = d.got; pulled = d.pulled; before_end = why.before_end (cc); closed = closed_none r.first r.count _ d.closed };
      memory = λ h. why.memory (cc);
      failed = (λ h. absurd (why.never (cc)), λ h. absurd (let e = c.if-self.false in cc));
      untouched = λ h. absurd (why.never (cc));
      for_good = refl;
    }
