-- One record after the other: from where a run stands to where it stands next.
use Rattle.std.proofs.Common.{◌≡◌, ℕ, ◌+◌, ◌≤◌, Bool, true, false, cond, List, [], ◌∷◌, ◌++◌, length, map, Option, Some, None, refl, sym, ◌∙◌, ap, subst, arith, append_assoc, length-append, inl, inr}
use Rattle.std.specs.Prelude.{Result, Ok, Err}
use Rattle.std.specs.List.{fold}
use Rattle.std.proofs.lemmas.List.{append-nil, map-append}
use Rattle.std.proofs.lemmas.List.Sums.{fold_push}
use Rattle.std.proofs.lemmas.Grind.{flat_map-append}
use Rattle.device.specs.Device.{Seen, Pulled, Written, Took}
use Rattle.device.proofs.Taken.{took_none, took_more}
use Rattle.ldif_lines.specs.Records.{RawRecord}
use Rattle.ldif_lines.specs.Reader.{Takes, IsEnd}
use Rattle.ldif.specs.declared.fault.LdifFaultKind.{LdifFaultKind}
use Rattle.ldif.specs.declared.record.Record.{Record}
use Rattle.ldif.specs.declared.record.Mode.{Mode}
use Rattle.ldif.specs.Reading.{reading}
use Rattle.schema.specs.Conf.{Conf}
use Rattle.tree.specs.Directories.{Entries}
use Rattle.databases.specs.Runs.{State, start, outcome, counted, take_up, step, after_records, read_as, state_after}
use Rattle.databases.specs.Reports.{report, report_line}
use Rattle.databases.specs.inner.Steps.{counts_after, reported, ends, IsTaken, IsCounted, IsBrokenOff}
use Rattle.databases.specs.inner.Stands.{IsReached, Stands}
use Rattle.databases.specs.Faults.{Failures, LastRefused, WasGoing, WrittenAt, tally_of}
use Rattle.databases.specs.FailedReads.{IsLeft, RanUpTo}
use Rattle.databases.specs.Folds.{Runs}
use Rattle.databases.proofs.Whole as whole
use Rattle.databases.specs.declared.refusal.RecordRefusal.{RecordRefusal}
use Rattle.databases.specs.declared.refusal.Outcome.{Outcome}
use Rattle.databases.specs.declared.refusal.Outcome.TheVariants.{Nothing, Accepted, Refused}
use Rattle.databases.specs.declared.runs.Tally.{Tally}
use Rattle.databases.specs.declared.runs.RunFault.{RunFault}
use Rattle.databases.specs.declared.runs.RunFault.TheVariants as faults

-- ---- the records that are left

pub takes_nothing : {A : Type 0} (all : Option (List A)) → Takes all all []
takes_nothing None = tt
takes_nothing (Some xs) = refl

pub takes_more : {A : Type 0} (all mid left : Option (List A)) (xs ys : List A) → Takes all mid xs → Takes mid left ys → Takes all left (xs ++ ys)
takes_more None mid left xs ys h k = tt
takes_more (Some all) None left xs ys h k = absurd h
takes_more (Some all) (Some mid) None xs ys h k = absurd k
takes_more (Some all) (Some mid) (Some left) xs ys h k = h ∙ ap (λ zs. xs ++ zs) k ∙ sym (append_assoc xs ys left)

-- ---- one record more

report_more : (refused : List (ℕ × RecordRefusal)) (r : ℕ × RecordRefusal) → report (refused ++ r ∷ []) ≡ report refused ++ report_line r
report_more refused r = flat_map-append report_line refused (r ∷ []) ∙ ap (λ bs. report refused ++ bs) (append-nil (report_line r))

pub counted_entries : (go_on : Bool) (s : State) (line : ℕ) (d : Entries) (out : Outcome) → d ≡ (counted go_on s line d out).entries
counted_entries go_on s line d Nothing = refl
counted_entries go_on s line d Accepted = refl
counted_entries go_on s line d (Refused why) = refl

counted_accepted : (go_on : Bool) (s : State) (line : ℕ) (d : Entries) (out : Outcome) (t : Tally) → t.accepted ≡ s.accepted → (counts_after out t).accepted ≡ (counted go_on s line d out).accepted
counted_accepted go_on s line d Nothing t h = h
counted_accepted go_on s line d Accepted t h = ap (λ n. n + 1) h
counted_accepted go_on s line d (Refused why) t h = h

counted_refused : (go_on : Bool) (s : State) (line : ℕ) (d : Entries) (out : Outcome) (t : Tally) → t.refused ≡ length s.refused → (counts_after out t).refused ≡ length (counted go_on s line d out).refused
counted_refused go_on s line d Nothing t h = h
counted_refused go_on s line d Accepted t h = h
counted_refused go_on s line d (Refused why) t h = let l = length-append s.refused ((line, why) ∷ []) in omega (arith, l)

counted_ended : (go_on : Bool) (s : State) (line : ℕ) (d : Entries) (out : Outcome) → (counted go_on s line d out).ended ≡ ends go_on out
counted_ended go_on s line d Nothing = refl
counted_ended go_on s line d Accepted = refl
counted_ended go_on s line d (Refused why) = refl

counted_report : (go_on : Bool) (s : State) (line : ℕ) (d : Entries) (out : Outcome) → report s.refused ++ reported line out ≡ report (counted go_on s line d out).refused
counted_report go_on s line d Nothing = append-nil (report s.refused)
counted_report go_on s line d Accepted = append-nil (report s.refused)
counted_report go_on s line d (Refused why) = sym (report_more s.refused (line, why))

module _ (conf : Conf) (mode : Mode) (go_on : Bool) (old : Entries) where
  abbrev at : List RawRecord → State
  at front = state_after conf mode go_on old front

  pub step_going : (s : State) (r : ℕ × Result Record LdifFaultKind) → s.ended ≡ false → step conf mode go_on s r ≡ take_up go_on s r.0 (outcome conf mode s.entries r.1)
  unfolding step
  step_going s r going = ap (λ b. cond b s (take_up go_on s r.0 (outcome conf mode s.entries r.1))) going

  pub one_more : (front : List RawRecord) (r : RawRecord) → at (front ++ r ∷ []) ≡ step conf mode go_on (at front) (read_as mode r)
  unfolding after_records
  one_more front r =
      ap (fold (step conf mode go_on) (start old)) (map-append (read_as mode) front (r ∷ [])) ∙ fold_push (step conf mode go_on) (start old) (map (read_as mode) front) (read_as mode r)

  module _ (now : Entries) (front : List RawRecord) (r : RawRecord) (going : (at front).ended ≡ false) (here : now ≡ (at front).entries) where
    abbrev o : Entries × Outcome
    o = outcome conf mode now (reading mode r.first r.lines)

    pub settled : at (front ++ r ∷ []) ≡ take_up go_on (at front) r.line o
    settled = one_more front r ∙ step_going (at front) (read_as mode r) going ∙ ap (λ (d : Entries). take_up go_on (at front) r.line (outcome conf mode d (reading mode r.first r.lines))) (sym here)

    module _ (all mid left : Option (List RawRecord)) (t t' : Tally) (new : Entries) (h : IsReached conf mode go_on old now all mid t front) (taken : Takes mid left (r ∷ [])) (entries : new ≡ o.0) (counts : t' ≡ counts_after o.1 t) where
      pub reached_more : IsReached conf mode go_on old new all left t' (front ++ r ∷ [])
      reached_more = record {
        parts = takes_more all mid left front (r ∷ []) h.parts taken;
        entries = entries ∙ counted_entries go_on (at front) r.line o.0 o.1 ∙ ap (λ (s : State). s.entries) (sym settled);
        accepted = ap (λ (x : Tally). x.accepted) counts ∙ counted_accepted go_on (at front) r.line o.0 o.1 t h.accepted ∙ ap (λ (s : State). s.accepted) (sym settled);
        refused = ap (λ (x : Tally). x.refused) counts ∙ counted_refused go_on (at front) r.line o.0 o.1 t h.refused ∙ ap (λ (s : State). length s.refused) (sym settled);
      }

    pub ended_is : (at (front ++ r ∷ [])).ended ≡ ends go_on o.1
    ended_is = ap (λ (s : State). s.ended) settled ∙ counted_ended go_on (at front) r.line o.0 o.1

    written_more : (a b c : Written) → Took a b (report (at front).refused) → Took b c (reported r.line o.1) → Took a c (report (at (front ++ r ∷ [])).refused)
    written_more a b c h k = took_more a b c (report (at front).refused) (reported r.line o.1) (report (at (front ++ r ∷ [])).refused) h k (counted_report go_on (at front) r.line o.0 o.1 ∙ ap (λ (s : State). report s.refused) (sym settled))

    pub last_refused : (why : RecordRefusal) → o.1 ≡ Refused why → (at (front ++ r ∷ [])).refused ≡ (at front).refused ++ (r.line, why) ∷ []
    last_refused why is = ap (λ (s : State). s.refused) (settled ∙ ap (counted go_on (at front) r.line o.0) is)

  -- ---- what the loop keeps

  pub begins : (P : List RawRecord → Type 0) → P [] → (all : Option (List RawRecord)) (a : Written) → Stands P conf mode go_on old old all all (record { accepted = 0; refused = 0 }) a a
  unfolding after_records
  begins P so all a = record {
    front = [];
    reached = record { parts = takes_nothing all; entries = refl; accepted = refl; refused = refl };
    going = refl;
    written = took_none a;
    so = so;
  }

  module _ (now new : Entries) (all mid left : Option (List RawRecord)) (t t' : Tally) (a b c : Written) (r : RawRecord) (P : List RawRecord → Type 0) (h : Stands P conf mode go_on old now all mid t a b) (taken : Takes mid left (r ∷ [])) where
    pub goes_on : (Q : List RawRecord → Type 0) → ((front : List RawRecord) → P front → (at front).ended ≡ false → now ≡ (at front).entries → Q (front ++ r ∷ [])) → (ended : Bool) → IsTaken (outcome conf mode now (reading mode r.first r.lines)) go_on r.line new t t' b c ended → ended ≡ false
        → Stands Q conf mode go_on old new all left t' a c
    goes_on Q more ended k off = record {
      front = h.front ++ r ∷ [];
      reached = reached_more now h.front r h.going h.reached.entries all mid left t t' new h.reached taken k.entries k.counts;
      going = ended_is now h.front r h.going h.reached.entries ∙ sym k.ended_is ∙ off;
      written = written_more now h.front r h.going h.reached.entries a b c h.written k.written;
      so = more h.front h.so h.going h.reached.entries;
    }

    pub ends_there : (ended : Bool) → IsTaken (outcome conf mode now (reading mode r.first r.lines)) go_on r.line new t t' b c ended → ended ≡ true → Runs conf mode go_on old new all (Ok t') a c
    ends_there ended k on = whole.ran conf mode go_on old new a c left (h.front ++ r ∷ []) all t'
        (reached_more now h.front r h.going h.reached.entries all mid left t t' new h.reached taken k.entries k.counts)
        (inr (ended_is now h.front r h.going h.reached.entries ∙ sym k.ended_is ∙ on))
        (written_more now h.front r h.going h.reached.entries a b c h.written k.written)

    last_one : (why : RecordRefusal) → (outcome conf mode now (reading mode r.first r.lines)).1 ≡ Refused why → LastRefused at (h.front ++ r ∷ []) a b (r.line, why)
    last_one why is = record {
      earlier = h.front;
      last = r;
      are = refl;
      refused = last_refused now h.front r h.going h.reached.entries why is;
      before = record { going = h.going; written = h.written };
    }

    -- behind the record that was refused
    counts_it : (f : RunFault) → (why : RecordRefusal) → IsCounted (outcome conf mode now (reading mode r.first r.lines)) new t (tally_of f) why → WrittenAt f at (h.front ++ r ∷ []) a c → Runs conf mode go_on old new all (Err f) a c
    counts_it f why k written = whole.broke_off conf mode go_on old new a c left (h.front ++ r ∷ []) f all
        (reached_more now h.front r h.going h.reached.entries all mid left t (tally_of f) new h.reached taken k.entries k.counts) written

    pub breaks_off : (f : RunFault) → IsBrokenOff (outcome conf mode now (reading mode r.first r.lines)) r.line now new t b c f → Runs conf mode go_on old new all (Err f) a c
    breaks_off (faults.Read u) k = absurd k
    breaks_off (faults.Write u) (why, k, broke) = counts_it (faults.Write u) why k (record { why = (r.line, why); mid = b; last = last_one why k.is; broke = broke })
    breaks_off (faults.OutOfMemory u) (inl k) = whole.broke_off conf mode go_on old new a c mid h.front (faults.OutOfMemory u) all
        (record {
          parts = h.reached.parts;
          entries = k.entries ∙ h.reached.entries;
          accepted = ap (λ (x : Tally). x.accepted) k.counts ∙ h.reached.accepted;
          refused = ap (λ (x : Tally). x.refused) k.counts ∙ h.reached.refused;
        })
        (inl (record { going = h.going; written = subst (λ w. Took a w (report (at h.front).refused)) (sym k.written) h.written }))
    breaks_off (faults.OutOfMemory u) (inr (why, k, same)) = counts_it (faults.OutOfMemory u) why k
        (inr (record { why = (r.line, why); last = subst (λ w. LastRefused at (h.front ++ r ∷ []) a w (r.line, why)) (sym same) (last_one why k.is) }))

  module _ (now : Entries) (all left : Option (List RawRecord)) (t : Tally) (a b : Written) (P : List RawRecord → Type 0) (h : Stands P conf mode go_on old now all left t a b) where
    was_going : WasGoing (at h.front) a b
    was_going = record { going = h.going; written = h.written }

    pub stops : IsEnd left → Runs conf mode go_on old now all (Ok t) a b
    stops over = whole.ran conf mode go_on old now a b left h.front all t h.reached (inl over) h.written

    pub stops_reading : Runs conf mode go_on old now all (Err (faults.Read t)) a b
    stops_reading = whole.broke_off conf mode go_on old now a b left h.front (faults.Read t) all h.reached was_going

    pub stops_wanting : Runs conf mode go_on old now all (Err (faults.OutOfMemory t)) a b
    stops_wanting = whole.broke_off conf mode go_on old now a b left h.front (faults.OutOfMemory t) all h.reached (inl was_going)

    -- where the records that were carried out are those that some bytes close
    pub stops_up_to : (closed : List ℕ → List RawRecord) (source source' : Seen) → ((front : List RawRecord) → P front → (got : List ℕ) × Pulled source source' got × (closed got ≡ front)) → RanUpTo closed conf mode go_on old now t source source' a b
    stops_up_to closed source source' up_to =
        let u = up_to h.front h.so in
        record {
          got = u.0;
          pulled = u.1;
          left = subst (λ (rs : List RawRecord). IsLeft (at rs) now t a b) (sym u.2) (record { entries = h.reached.entries; accepted = h.reached.accepted; refused = h.reached.refused; report = was_going });
        }

-- ---- counts

pub counts_few : (out : Outcome) (t : Tally) → (counts_after out t).accepted + (counts_after out t).refused ≤ t.accepted + t.refused + 1
counts_few Nothing t = omega arith
counts_few Accepted t = omega arith
counts_few (Refused why) t = omega arith

pub took_failed : (line : ℕ) (o : Entries × Outcome) (go_on : Bool) (new : Entries) (t t' : Tally) (a b : Written) (ended : Bool) → IsTaken o go_on line new t t' a b ended → b.failed ≡ a.failed
took_failed line o go_on new t t' a b ended k = k.written.failed

pub broke_failed : (f : RunFault) (o : Entries × Outcome) (line : ℕ) (old new : Entries) (t : Tally) (a b : Written) (s s' w : ℕ) → IsBrokenOff o line old new t a b f → s' ≡ s → a.failed ≡ w → Failures (Err f) s s' w b.failed
broke_failed (faults.Read u) o line old new t a b s s' w k same here = absurd k
broke_failed (faults.Write u) o line old new t a b s s' w (why, k, broke) same here = (same, broke.failed ∙ ap (λ n. n + 1) here)
broke_failed (faults.OutOfMemory u) o line old new t a b s s' w (inl k) same here = (same, ap (λ (x : Written). x.failed) k.written ∙ here)
broke_failed (faults.OutOfMemory u) o line old new t a b s s' w (inr (why, k, is)) same here = (same, ap (λ (x : Written). x.failed) is ∙ here)
