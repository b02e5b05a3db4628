-- How the edits of the index add up over the records of a run.
use Rattle.std.proofs.Common.{◌≡◌, ℕ, ◌+◌, ◌*◌, ◌⊎◌, inl, inr, Bool, true, false, cond, List, [], ◌∷◌, ◌++◌, map, Option, Some, None, refl, sym, ◌∙◌, ap, arith, zero-add, length}
use Rattle.std.specs.Prelude.{Result, Ok, Err}
use Rattle.std.specs.List.{fold}
use Rattle.std.proofs.lemmas.List.{append-nil, map-append}
use Rattle.device.specs.Device.{Written}
use Rattle.ldif_lines.specs.Records.{RawRecord}
use Rattle.ldif_lines.specs.Reader.{Takes, IsEnd}
use Rattle.ldif.specs.declared.fault.LdifFaultKind.{LdifFaultKind}
use Rattle.ldif.specs.declared.record.Record.{Record}
use Rattle.ldif.specs.declared.record.Mode.{Mode}
use Rattle.ldif.specs.Reading.{reading}
use Rattle.schema.specs.Conf.{Conf}
use Rattle.tree.specs.Directories.{Entries}
use Rattle.databases.specs.Folds.{Over}
use Rattle.databases.specs.RunEdits.{CountEdits, RisesUpTo, edits_read, step_edits, next_edits, edits_from, run_edits, Edited, EditedByFirst, EditedAndTakenBack, EditsRise}
use Rattle.databases.specs.Runs.{State, start, outcome, step, after_records, read_as, state_after}
use Rattle.databases.specs.inner.Stands.{IsReached, Stands}
use Rattle.databases.specs.inner.Steps.{IsTaken, IsCounted}
use Rattle.databases.specs.declared.refusal.RecordRefusal.{RecordRefusal}
use Rattle.databases.specs.declared.runs.Tally.{Tally}
use Rattle.databases.specs.declared.runs.RunFault.TheVariants as faults
use Rattle.databases.proofs.Records.{ended_is, reached_more}
use Rattle.databases.proofs.Whole.{step_ended, after_all, others_of, parts_of}

module _ (count : CountEdits) (conf : Conf) (mode : Mode) (go_on : Bool) where
  -- after the end there are none
  none_ended : (s : State) (rs : List (ℕ × Result Record LdifFaultKind)) → s.ended ≡ true → edits_from count conf mode go_on s rs ≡ 0
  none_ended s [] over = refl
  none_ended s (r ∷ rs) over =
      let one : step_edits count conf mode s r.1 ≡ 0 = ap (λ b. cond b 0 (edits_read count conf mode s.entries r.1)) over in
      let stays : edits_from count conf mode go_on (step conf mode go_on s r) rs ≡ edits_from count conf mode go_on s rs = ap (λ (x : State). edits_from count conf mode go_on x rs) (step_ended conf mode go_on s.entries s r over) in
      let rest = none_ended s rs over in
      omega (arith, one, stays, rest)

  parts : (s : State) (rs qs : List (ℕ × Result Record LdifFaultKind)) → edits_from count conf mode go_on s (rs ++ qs) ≡ edits_from count conf mode go_on s rs + edits_from count conf mode go_on (fold (step conf mode go_on) s rs) qs
  parts s [] qs = sym (zero-add (edits_from count conf mode go_on s qs))
  parts s (r ∷ rs) qs = let rest = parts (step conf mode go_on s r) rs qs in omega (arith, rest)

  module _ (old : Entries) where
    abbrev at : List RawRecord → State
    at front = state_after conf mode go_on old front

    abbrev edits_of : List RawRecord → ℕ
    edits_of = run_edits count conf mode go_on old

    split : (front others : List RawRecord) → edits_of (front ++ others) ≡ edits_of front + edits_from count conf mode go_on (at front) (map (read_as mode) others)
    unfolding after_records
    split front others = ap (edits_from count conf mode go_on (start old)) (map-append (read_as mode) front others) ∙ parts (start old) (map (read_as mode) front) (map (read_as mode) others)

    going_on : (s : State) (now : Entries) (r : Result Record LdifFaultKind) → s.ended ≡ false → now ≡ s.entries → step_edits count conf mode s r ≡ edits_read count conf mode now r
    going_on s now r going here = ap (λ b. cond b 0 (edits_read count conf mode s.entries r)) going ∙ ap (λ (d : Entries). edits_read count conf mode d r) (sym here)

    -- one record more
    pub one_more : (now : Entries) (front : List RawRecord) (r : RawRecord) → (at front).ended ≡ false → now ≡ (at front).entries → edits_of (front ++ r ∷ []) ≡ edits_of front + edits_read count conf mode now (reading mode r.first r.lines)
    one_more now front r going here =
        let all = split front (r ∷ []) in
        let one = going_on (at front) now (reading mode r.first r.lines) going here in
        omega (arith, all, one)

    pub none_edited : (edits : ℕ) → edits ≡ edits + edits_of []
    none_edited edits = omega arith

    pub one_edited : (edits edits' edits'' : ℕ) (now : Entries) (front : List RawRecord) (r : RawRecord) → (at front).ended ≡ false → now ≡ (at front).entries → edits' ≡ edits + edits_of front
        → edits'' ≡ edits' + edits_read count conf mode now (reading mode r.first r.lines) → edits'' ≡ edits + edits_of (front ++ r ∷ [])
    one_edited edits edits' edits'' now front r going here so_far rise = let one = one_more now front r going here in omega (arith, so_far, one, rise)

    -- once all records were taken, or the run has ended, the rest makes none
    rest_makes_none : (rs front : List RawRecord) (left : Option (List RawRecord)) → Takes (Some rs) left front → (IsEnd left ⊎ ((at front).ended ≡ true)) → edits_of rs ≡ edits_of front
    rest_makes_none rs front None taken over = absurd taken
    rest_makes_none rs front (Some left) taken (inl none) = ap edits_of (taken ∙ ap (λ ys. front ++ ys) none ∙ append-nil front)
    rest_makes_none rs front (Some left) taken (inr ended) =
        let all = split front left in
        let none = none_ended (at front) (map (read_as mode) left) ended in
        let same : edits_of rs ≡ edits_of (front ++ left) = ap edits_of taken in
        omega (arith, all, none, same)

    module _ (new : Entries) (edits edits' : ℕ) (front : List RawRecord) (left : Option (List RawRecord)) (entries : new ≡ (at front).entries) (rise : edits' ≡ edits + edits_of front) where
      whole : (all : Option (List RawRecord)) → Takes all left front → (IsEnd left ⊎ ((at front).ended ≡ true)) → Over all (λ given. Edited count conf mode go_on old new given edits edits')
      whole None taken over = record { given = front; are = tt; so = record { entries = entries; rise = rise } }
      whole (Some rs) taken over =
          let same = rest_makes_none rs front left taken over in
          record {
            given = rs;
            are = refl;
            so = record {
              entries = entries ∙ ap (λ (s : State). s.entries) (sym (after_all conf mode go_on old rs front left taken over));
              rise = omega (arith, rise, same);
            };
          }

    -- the records of a tally were taken, and perhaps others are left
    module _ (new : Entries) (edits edits' : ℕ) (front : List RawRecord) (left : Option (List RawRecord)) (t : Tally) (rise : edits' ≡ edits + edits_of front) where
      of_tally : (given others : List RawRecord) → given ≡ front ++ others → (all : Option (List RawRecord)) → IsReached conf mode go_on old new all left t front → EditedByFirst count conf mode go_on old new given t edits edits'
      of_tally given others parts all h = record { front = front; others = others; parts = parts; accepted = h.accepted; refused = h.refused; edited = record { entries = h.entries; rise = rise } }

      first : (all : Option (List RawRecord)) → IsReached conf mode go_on old new all left t front → Over all (λ given. EditedByFirst count conf mode go_on old new given t edits edits')
      first None h = record { given = front; are = tt; so = of_tally front [] (sym (append-nil front)) None h }
      first (Some rs) h = record { given = rs; are = refl; so = of_tally rs (others_of left) (parts_of rs front left h.parts) (Some rs) h }

    -- ---- memory ran out

    module _ (given front others : List RawRecord) (new : Entries) (t : Tally) (edits edits' : ℕ) (entries : new ≡ (at front).entries) (accepted : t.accepted ≡ (at front).accepted) (refused : t.refused ≡ length (at front).refused) where
      back_in : given ≡ front ++ others → RisesUpTo (2 * next_edits count conf mode (at front) others) (edits + edits_of front) edits' → EditedAndTakenBack count conf mode go_on old new given t edits edits'
      back_in parts rise = record { front = front; others = others; parts = parts; entries = entries; accepted = accepted; refused = refused; rise = rise }

    -- in a record behind the first ones
    taken_back : (all mid left : Option (List RawRecord)) (r : RawRecord) (front : List RawRecord) (new : Entries) (t : Tally) (edits edits' : ℕ) → Takes all mid front → Takes mid left (r ∷ [])
        → new ≡ (at front).entries → t.accepted ≡ (at front).accepted → t.refused ≡ length (at front).refused
        → RisesUpTo (2 * step_edits count conf mode (at front) (reading mode r.first r.lines)) (edits + edits_of front) edits' → Over all (λ given. EditedAndTakenBack count conf mode go_on old new given t edits edits')
    taken_back None mid left r front new t edits edits' parts taken entries accepted refused rise =
        record { given = front ++ r ∷ []; are = tt; so = back_in (front ++ r ∷ []) front (r ∷ []) new t edits edits' entries accepted refused refl rise }
    taken_back (Some rs) None left r front new t edits edits' parts taken entries accepted refused rise = absurd parts
    taken_back (Some rs) (Some mid) None r front new t edits edits' parts taken entries accepted refused rise = absurd taken
    taken_back (Some rs) (Some mid) (Some left) r front new t edits edits' parts taken entries accepted refused rise =
        record { given = rs; are = refl; so = back_in rs front (r ∷ left) new t edits edits' entries accepted refused (parts ∙ ap (λ ys. front ++ ys) taken) rise }

    -- before anything of the next record came
    none_taken_back : (new : Entries) (edits edits' : ℕ) (front : List RawRecord) (left : Option (List RawRecord)) (t : Tally) → edits' ≡ edits + edits_of front → (all : Option (List RawRecord)) → IsReached conf mode go_on old new all left t front
        → Over all (λ given. EditedAndTakenBack count conf mode go_on old new given t edits edits')
    none_taken_back new edits edits' front left t rise None h =
        record { given = front; are = tt; so = back_in front front [] new t edits edits' h.entries h.accepted h.refused (sym (append-nil front)) (record { rises = omega (arith, rise); few = omega (arith, rise) }) }
    none_taken_back new edits edits' front left t rise (Some rs) h =
        record { given = rs; are = refl; so = back_in rs front (others_of left) new t edits edits' h.entries h.accepted h.refused (parts_of rs front left h.parts) (record { rises = omega (arith, rise); few = omega (arith, rise) }) }

    -- ---- where a run ends, or is broken off

    module _ (edits edits' : ℕ) (P : List RawRecord → Type 0) (rose : (front : List RawRecord) → P front → edits' ≡ edits + edits_of front) where
      module _ (now : Entries) (all left : Option (List RawRecord)) (t : Tally) (a b : Written) (h : Stands P conf mode go_on old now all left t a b) where
        pub ends : IsEnd left → EditsRise count conf mode go_on old now all (Ok t) edits edits'
        ends over = whole now edits edits' h.front left h.reached.entries (rose h.front h.so) all h.reached.parts (inl over)

        pub stops_reading : EditsRise count conf mode go_on old now all (Err (faults.Read t)) edits edits'
        stops_reading = first now edits edits' h.front left t (rose h.front h.so) all h.reached

        pub stops_wanting : EditsRise count conf mode go_on old now all (Err (faults.OutOfMemory t)) edits edits'
        stops_wanting = none_taken_back now edits edits' h.front left t (rose h.front h.so) all h.reached

      module _ (now new : Entries) (all mid left : Option (List RawRecord)) (t t' : Tally) (a b c : Written) (r : RawRecord) (h : Stands P conf mode go_on old now all mid t a b) (taken : Takes mid left (r ∷ [])) (edits'' : ℕ) where
        rose_more : edits'' ≡ edits' + edits_read count conf mode now (reading mode r.first r.lines) → edits'' ≡ edits + edits_of (h.front ++ r ∷ [])
        rose_more rise =
            let so_far = rose h.front h.so in
            let one = one_more now h.front r h.going h.reached.entries in
            omega (arith, so_far, one, rise)

        pub ends_there : (ended : Bool) → IsTaken (outcome conf mode now (reading mode r.first r.lines)) go_on r.line new t t' b c ended → ended ≡ true → edits'' ≡ edits' + edits_read count conf mode now (reading mode r.first r.lines) → EditsRise count conf mode go_on old new all (Ok t') edits edits''
        ends_there ended k on rise =
            let reached = reached_more conf mode go_on old now h.front r h.going h.reached.entries all mid left t t' new h.reached taken k.entries k.counts in
            whole new edits edits'' (h.front ++ r ∷ []) left reached.entries (rose_more rise) all reached.parts (inr (ended_is conf mode go_on old now h.front r h.going h.reached.entries ∙ sym k.ended_is ∙ on))

        pub breaks_off : (u : Tally) (why : RecordRefusal) → IsCounted (outcome conf mode now (reading mode r.first r.lines)) new t u why → edits'' ≡ edits' + edits_read count conf mode now (reading mode r.first r.lines)
            → EditsRise count conf mode go_on old new all (Err (faults.Write u)) edits edits''
        breaks_off u why k rise =
            let reached = reached_more conf mode go_on old now h.front r h.going h.reached.entries all mid left t u new h.reached taken k.entries k.counts in
            first new edits edits'' (h.front ++ r ∷ []) left u (rose_more rise) all reached

        -- its report was wanting memory
        pub wants_report : (u : Tally) (why : RecordRefusal) → IsCounted (outcome conf mode now (reading mode r.first r.lines)) new t u why → edits'' ≡ edits' + edits_read count conf mode now (reading mode r.first r.lines)
            → EditsRise count conf mode go_on old new all (Err (faults.OutOfMemory u)) edits edits''
        wants_report u why k rise =
            let reached = reached_more conf mode go_on old now h.front r h.going h.reached.entries all mid left t u new h.reached taken k.entries k.counts in
            none_taken_back new edits edits'' (h.front ++ r ∷ []) left u (rose_more rise) all reached

        -- it was wanting memory itself
        pub wants : now ≡ new → RisesUpTo (2 * edits_read count conf mode now (reading mode r.first r.lines)) edits' edits'' → EditsRise count conf mode go_on old new all (Err (faults.OutOfMemory t)) edits edits''
        wants same k = taken_back all mid left r h.front new t edits edits'' h.reached.parts taken (sym same ∙ h.reached.entries) h.reached.accepted h.reached.refused
            (let so_far = rose h.front h.so in
            let next = going_on (at h.front) now (reading mode r.first r.lines) h.going h.reached.entries in
            let rises = k.rises in
            let few = k.few in
            record { rises = omega (arith, so_far, rises); few = omega (arith, so_far, next, few) })
