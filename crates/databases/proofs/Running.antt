-- What the next record of a run comes to: from where the run stands to where it stands next, or to its end.
use Rattle.std.proofs.Common.{◌≡◌, ◌↔◌, ℕ, ◌+◌, ◌*◌, ◌<◌, ◌≤◌, ◌^◌, inl, inr, Bool, true, false, List, length, Some, None, refl, sym, ◌∙◌, ap, subst, arith}
use Rattle.std.specs.Prelude.{Result, Ok, Err}
use Rattle.device.specs.Device.{Seen, Written, Took, Broke, GaveSome}
use Rattle.device.specs.declared.source.Source.{Ghosts}
use Rattle.device.proofs.Pulls.{gave_none, gave_more}
use Rattle.ldif_lines.specs.Reader.{IsEnd, source_of, loan_of, is_failed, records_left, bytes_left}
use Rattle.ldif_lines.specs.Pulls.{Breaks}
use Rattle.ldif_lines.specs.Records.{RawRecord}
use Rattle.ldif_lines.specs.declared.draft.RecordDraft.{RecordDraft}
use Rattle.ldif_lines.specs.declared.reader.Reader.{Reader}
use Rattle.ldif_lines.specs.declared.reader.ReadFault.{ReadFault}
use Rattle.ldif_lines.specs.declared.reader.ReadFault.TheVariants as reads
use Rattle.ldif.specs.declared.record.Mode.{Mode}
use Rattle.ldif.specs.Reading.{reading}
use Rattle.schema.specs.Conf.{Conf}
use Rattle.tree.specs.Directories.{Entries}
use Rattle.databases.specs.Runs.{outcome}
use Rattle.databases.specs.RunEdits.{CountEdits, RisesUpTo, edits_read}
use Rattle.databases.specs.inner.Endings.{IsEndedBy}
use Rattle.databases.specs.inner.Pulls.{closed_with}
use Rattle.databases.specs.inner.RecordEdits.{TookAndEdited}
use Rattle.databases.specs.inner.Running.{Standing, IsRunning, HasRun, HasRunTo, Reaches}
use Rattle.databases.specs.inner.Steps.{counts_after, reported, ends as is_ended, IsTaken, IsCounted, Counts, run_fault_of}
use Rattle.databases.specs.Reports.{report_line}
use Rattle.databases.specs.declared.refusal.RecordRefusal.{RecordRefusal}
use Rattle.databases.specs.declared.refusal.RefusedRecord.{RefusedRecord}
use Rattle.databases.specs.declared.refusal.Outcome.{Outcome}
use Rattle.databases.specs.declared.refusal.Outcome.TheVariants.{Refused}
use Rattle.databases.specs.declared.runs.Progress.{Progress}
use Rattle.databases.specs.declared.runs.Progress.TheVariants.{GoesOn, AtEnd, StoppedBy}
use Rattle.databases.specs.declared.runs.Tally.{Tally}
use Rattle.databases.specs.declared.runs.RunFault.{RunFault}
use Rattle.databases.specs.declared.runs.RunFault.TheVariants as faults
use Rattle.databases.proofs.Pulled.{TookOne, not_both, took_none, up_to}
use Rattle.databases.proofs.Records as records
use Rattle.databases.proofs.Records.{counts_few}
use Rattle.databases.proofs.Stops.{none_refused, never_at_end, goes_on_behind, stops_behind, only_refused}
use Rattle.databases.proofs.RunEdits as edited
use Rattle.databases.proofs.RunEdits.{none_edited, one_edited}

module _ {S : Type 0} {g : Ghosts S} (seen : S → Seen) (count : CountEdits) (mode : Mode) (go_on : Bool) (start : Standing S g) where
  abbrev conf : Conf
  conf = start.conf

  abbrev r : Reader S RecordDraft g
  r = start.reader

  abbrev d : Entries
  d = start.entries

  abbrev e : ℕ
  e = start.edits

  abbrev a : Written
  a = start.written

  pub begins : is_failed r ≡ false → bytes_left seen r ≤ 2 ^ 64 → IsRunning seen count mode go_on start start (record { accepted = 0; refused = 0 })
  begins going bound = record {
    same_conf = refl;
    same_loan = refl;
    going = going;
    failed = refl;
    gave = gave_none (seen (source_of r));
    few = omega (arith, bound);
    stands = records.begins conf mode go_on d (TookAndEdited seen r r count conf mode go_on d e e) ((λ _. took_none seen r), none_edited count conf mode go_on d e) (records_left seen r) a;
  }

  module _ (here : Standing S g) (t : Tally) (h : IsRunning seen count mode go_on start here t) where
    abbrev conf1 : Conf
    conf1 = here.conf

    abbrev r1 : Reader S RecordDraft g
    r1 = here.reader

    abbrev d1 : Entries
    d1 = here.entries

    abbrev e1 : ℕ
    e1 = here.edits

    abbrev b : Written
    b = here.written

    -- with another reader
    abbrev read_on : Reader S RecordDraft g → Standing S g
    read_on reader = record { conf = conf1; reader = reader; entries = d1; edits = e1; written = b }

    abbrev P : List RawRecord → Type 0
    P = TookAndEdited seen r r1 count conf mode go_on d e e1

    none_told : IsEndedBy conf mode go_on d (records_left seen r) t None
    none_told = λ first. h.stands.reached.refused ∙ ap length (none_refused conf mode go_on d first h.stands.front h.stands.going)

    -- no record is left
    pub ends : (r2 : Reader S RecordDraft g) → loan_of r2 ≡ loan_of r1 → (seen (source_of r2)).failed ≡ (seen (source_of r1)).failed → GaveSome (seen (source_of r1)) (seen (source_of r2)) → IsEnd (records_left seen r1)
        → HasRunTo seen count mode go_on start (read_on r2) t None
    ends r2 loan failed gave over = (
      record {
        same_conf = h.same_conf;
        same_loan = loan ∙ h.same_loan;
        runs = records.stops conf mode go_on d d1 (records_left seen r) (records_left seen r1) t a b P h.stands over;
        edits = edited.ends count conf mode go_on d e e1 P (λ front so. so.1) d1 (records_left seen r) (records_left seen r1) t a b h.stands over;
        read = tt;
        failures = (failed ∙ h.failed, h.stands.written.failed);
        gave = gave_more _ _ _ h.gave gave;
      },
      none_told,
    )

    fails_by : (r2 : Reader S RecordDraft g) (fault : ReadFault) → (fault ≡ reads.Failed → ⊥) → loan_of r2 ≡ loan_of r1 → GaveSome (seen (source_of r1)) (seen (source_of r2))
        → (fault ≡ reads.Device → (seen (source_of r2)).failed ≡ (seen (source_of r1)).failed + 1) → (fault ≡ reads.OutOfMemory → (seen (source_of r2)).failed ≡ (seen (source_of r1)).failed)
        → (fault ≡ reads.Device → Breaks seen r1 r2) → HasRun seen count mode go_on start (read_on r2) (Err (run_fault_of fault t))
    fails_by r2 reads.Device live loan gave device memory breaks = record {
      same_conf = h.same_conf;
      same_loan = loan ∙ h.same_loan;
      runs = records.stops_reading conf mode go_on d d1 (records_left seen r) (records_left seen r1) t a b P h.stands;
      edits = edited.stops_reading count conf mode go_on d e e1 P (λ front so. so.1) d1 (records_left seen r) (records_left seen r1) t a b h.stands;
      read = records.stops_up_to conf mode go_on d d1 (records_left seen r) (records_left seen r1) t a b P h.stands (closed_with r) (seen (source_of r)) (seen (source_of r2)) (λ front so. up_to seen r r1 r2 (breaks refl) front so.0);
      failures = (device refl ∙ ap (λ n. n + 1) h.failed, h.stands.written.failed);
      gave = gave_more _ _ _ h.gave gave;
    }
    fails_by r2 reads.OutOfMemory live loan gave device memory breaks = record {
      same_conf = h.same_conf;
      same_loan = loan ∙ h.same_loan;
      runs = records.stops_wanting conf mode go_on d d1 (records_left seen r) (records_left seen r1) t a b P h.stands;
      edits = edited.stops_wanting count conf mode go_on d e e1 P (λ front so. so.1) d1 (records_left seen r) (records_left seen r1) t a b h.stands;
      read = tt;
      failures = (memory refl ∙ h.failed, h.stands.written.failed);
      gave = gave_more _ _ _ h.gave gave;
    }
    fails_by r2 reads.Failed live loan gave device memory breaks = absurd (live refl)

    -- there is no next record
    pub fails : {A : Type 0} (r2 : Reader S RecordDraft g) (fault : ReadFault) (answer : Result A ReadFault) → answer ≡ Err fault → ((answer ≡ Err reads.Failed) ↔ (is_failed r1 ≡ true)) → is_failed r1 ≡ false → loan_of r2 ≡ loan_of r1 → GaveSome (seen (source_of r1)) (seen (source_of r2))
        → (answer ≡ Err reads.Device → (seen (source_of r2)).failed ≡ (seen (source_of r1)).failed + 1) → (answer ≡ Err reads.OutOfMemory → (seen (source_of r2)).failed ≡ (seen (source_of r1)).failed)
        → (answer ≡ Err reads.Device → Breaks seen r1 r2) → (f : RunFault) → f ≡ run_fault_of fault t → HasRun seen count mode go_on start (read_on r2) (Err f)
    fails r2 fault answer is failed live loan gave device memory breaks f by =
        subst (λ (x : RunFault). HasRun seen count mode go_on start (read_on r2) (Err x)) (sym by)
        (fails_by r2 fault (λ same. not_both (failed.0 (is ∙ ap Err same)) live) loan gave (λ same. device (is ∙ ap Err same)) (λ same. memory (is ∙ ap Err same)) (λ same. breaks (is ∙ ap Err same)))

    module _ (there : Standing S g) (raw : RawRecord) (m : TookOne seen r1 there.reader raw) (same : there.conf ≡ conf1) where
      abbrev r2 : Reader S RecordDraft g
      r2 = there.reader

      abbrev d2 : Entries
      d2 = there.entries

      abbrev e2 : ℕ
      e2 = there.edits

      -- memory ran out, and the entries are those before
      pub wants : there.written ≡ b → d2 ≡ d1 → RisesUpTo (2 * edits_read count conf1 mode d1 (reading mode raw.first raw.lines)) e1 e2 → HasRun seen count mode go_on start there (Err (faults.OutOfMemory t))
      wants silent is rise = record {
        same_conf = same ∙ h.same_conf;
        same_loan = m.same_loan ∙ h.same_loan;
        runs = records.breaks_off conf mode go_on d d1 d2 (records_left seen r) (records_left seen r1) (records_left seen r2) t t a b there.written raw P h.stands m.taken (faults.OutOfMemory t) (inl (record { entries = is; counts = refl; written = silent }));
        edits = edited.wants count conf mode go_on d e e1 P (λ front so. so.1) d1 d2 (records_left seen r) (records_left seen r1) (records_left seen r2) t t a b there.written raw h.stands m.taken e2 (sym is)
            (subst (λ (k : Conf). RisesUpTo (2 * edits_read count k mode d1 (reading mode raw.first raw.lines)) e1 e2) h.same_conf rise);
        read = tt;
        failures = (m.failed ∙ h.failed, ap (λ (x : Written). x.failed) silent ∙ h.stands.written.failed);
        gave = gave_more _ _ _ h.gave m.gave;
      }

      abbrev c : Written
      c = there.written

      module _ (t2 : Tally) (o : Outcome) (is : outcome conf1 mode d1 (reading mode raw.first raw.lines) ≡ (d2, o)) (rise : e2 ≡ e1 + edits_read count conf1 mode d1 (reading mode raw.first raw.lines)) where
        becomes : outcome conf mode d1 (reading mode raw.first raw.lines) ≡ (d2, o)
        becomes = subst (λ (k : Conf). outcome k mode d1 (reading mode raw.first raw.lines) ≡ (d2, o)) h.same_conf is

        rises : e2 ≡ e1 + edits_read count conf mode d1 (reading mode raw.first raw.lines)
        rises = subst (λ (k : Conf). e2 ≡ e1 + edits_read count k mode d1 (reading mode raw.first raw.lines)) h.same_conf rise

        taken_is : (ended : Bool) → (t2 ≡ counts_after o t) × Took b c (reported raw.line o) × (ended ≡ is_ended go_on o) → IsTaken (outcome conf mode d1 (reading mode raw.first raw.lines)) go_on raw.line d2 t t2 b c ended
        taken_is ended k = subst (λ (x : Entries × Outcome). IsTaken x go_on raw.line d2 t t2 b c ended) (sym becomes) (record { entries = refl; counts = k.0; written = k.1; ended_is = k.2 })

        counted_is : (why : RecordRefusal) (u : Tally) → o ≡ Refused why → u ≡ counts_after o t → IsCounted (outcome conf mode d1 (reading mode raw.first raw.lines)) d2 t u why
        counted_is why u refused counts = subst (λ (x : Entries × Outcome). IsCounted x d2 t u why) (sym becomes) (record { is = refused; entries = refl; counts = counts })

        -- it was carried out, counted and reported
        pub steps : (result : Result Progress RunFault) → Counts o go_on raw.line t t2 b c result → Reaches seen count mode go_on (bytes_left seen r1) start there t2 result
        steps (Ok GoesOn) k =
            let one = taken_is false (k.0, k.1, goes_on_behind go_on raw.line o k.2) in (
              record {
                same_conf = same ∙ h.same_conf;
                same_loan = m.same_loan ∙ h.same_loan;
                going = m.going;
                failed = m.failed ∙ h.failed;
                gave = gave_more _ _ _ h.gave m.gave;
                few =
                    let more = counts_few o t in
                    let accepted = ap (λ (x : Tally). x.accepted) k.0 in
                    let refused = ap (λ (x : Tally). x.refused) k.0 in
                    let falls = m.falls in
                    let few = h.few in
                    omega (arith, more, accepted, refused, falls, few);
                stands = records.goes_on conf mode go_on d d1 d2 (records_left seen r) (records_left seen r1) (records_left seen r2) t t2 a b c raw P h.stands m.taken
                    (TookAndEdited seen r r2 count conf mode go_on d e e2)
                    (λ front so going here. (m.took r front so.0, one_edited count conf mode go_on d e e1 e2 d1 front raw going here so.1 rises))
                    false one refl;
              },
              m.falls,
            )
        steps (Ok AtEnd) k = absurd (never_at_end go_on raw.line o k.2)
        steps (Ok (StoppedBy x)) k =
            let stopped = stops_behind go_on raw.line o x k.2 in
            let one = taken_is true (k.0, k.1, stopped.0) in (
              record {
                same_conf = same ∙ h.same_conf;
                same_loan = m.same_loan ∙ h.same_loan;
                runs = records.ends_there conf mode go_on d d1 d2 (records_left seen r) (records_left seen r1) (records_left seen r2) t t2 a b c raw P h.stands m.taken true one refl;
                edits = edited.ends_there count conf mode go_on d e e1 P (λ front so. so.1) d1 d2 (records_left seen r) (records_left seen r1) (records_left seen r2) t t2 a b c raw h.stands m.taken e2 true one refl rises;
                read = tt;
                failures = (m.failed ∙ h.failed, k.1.failed ∙ h.stands.written.failed);
                gave = gave_more _ _ _ h.gave m.gave;
              },
              only_refused conf mode go_on d d1 (records_left seen r) (records_left seen r1) (records_left seen r2) t a b raw P h.stands m.taken x stopped.1
                  (ap (λ (q : Entries × Outcome). q.1) becomes ∙ stopped.2) stopped.3,
            )
        steps (Err (faults.Read u)) k = absurd k
        steps (Err (faults.Write u)) (why, refused, counts, broke) =
            let one : (why' : RecordRefusal) × IsCounted (outcome conf mode d1 (reading mode raw.first raw.lines)) d2 t u why' × Broke b c (report_line (raw.line, why')) = (why, counted_is why u refused counts, broke) in
            record {
              same_conf = same ∙ h.same_conf;
              same_loan = m.same_loan ∙ h.same_loan;
              runs = records.breaks_off conf mode go_on d d1 d2 (records_left seen r) (records_left seen r1) (records_left seen r2) t t2 a b c raw P h.stands m.taken (faults.Write u) one;
              edits = edited.breaks_off count conf mode go_on d e e1 P (λ front so. so.1) d1 d2 (records_left seen r) (records_left seen r1) (records_left seen r2) t t2 a b c raw h.stands m.taken e2 u why (counted_is why u refused counts) rises;
              read = tt;
              failures = (m.failed ∙ h.failed, broke.failed ∙ ap (λ n. n + 1) h.stands.written.failed);
              gave = gave_more _ _ _ h.gave m.gave;
            }
        steps (Err (faults.OutOfMemory u)) (why, refused, counts, left) = record {
          same_conf = same ∙ h.same_conf;
          same_loan = m.same_loan ∙ h.same_loan;
          runs = records.breaks_off conf mode go_on d d1 d2 (records_left seen r) (records_left seen r1) (records_left seen r2) t t2 a b c raw P h.stands m.taken (faults.OutOfMemory u) (inr (why, counted_is why u refused counts, left));
          edits = edited.wants_report count conf mode go_on d e e1 P (λ front so. so.1) d1 d2 (records_left seen r) (records_left seen r1) (records_left seen r2) t t2 a b c raw h.stands m.taken e2 u why (counted_is why u refused counts) rises;
          read = tt;
          failures = (m.failed ∙ h.failed, ap (λ (x : Written). x.failed) left ∙ h.stands.written.failed);
          gave = gave_more _ _ _ h.gave m.gave;
        }

-- how it goes on
module _ {S : Type 0} {g : Ghosts S} (seen : S → Seen) (count : CountEdits) (mode : Mode) (go_on : Bool) (bytes : ℕ) (a b : Standing S g) (t : Tally) (progress : Progress) (h : Reaches seen count mode go_on bytes a b t (Ok progress)) where
  abbrev Here : Progress → Type 0
  Here p = Reaches seen count mode go_on bytes a b t (Ok p)

  pub goes_on : progress ≡ GoesOn → IsRunning seen count mode go_on a b t × (bytes_left seen b.reader < bytes)
  goes_on is = subst Here is h

  pub at_end : progress ≡ AtEnd → HasRunTo seen count mode go_on a b t None
  at_end is = subst Here is h

  pub stopped_by : (x : RefusedRecord) → progress ≡ StoppedBy x → HasRunTo seen count mode go_on a b t (Some x)
  stopped_by x is = subst Here is h
