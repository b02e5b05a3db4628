-- What a run over the records of a source comes to, where it ends and where it is broken off.
use Rattle.std.proofs.Common.{◌≡◌, ℕ, ◌⊎◌, inl, inr, Bool, true, cond, List, [], ◌∷◌, ◌++◌, length, map, Option, Some, None, refl, sym, ◌∙◌, ap, subst}
use Rattle.std.specs.Prelude.{Result}
use Rattle.std.specs.List.{fold}
use Rattle.std.proofs.lemmas.List.{append-nil, map-append}
use Rattle.std.proofs.lemmas.List.Sums.{fold-append}
use Rattle.device.specs.Device.{Written, Took}
use Rattle.ldif_lines.specs.Records.{RawRecord}
use Rattle.ldif_lines.specs.Reader.{Takes, IsEnd}
use Rattle.ldif.specs.declared.fault.LdifFaultKind.{LdifFaultKind}
use Rattle.ldif.specs.declared.record.Record.{Record}
use Rattle.ldif.specs.declared.record.Mode.{Mode}
use Rattle.schema.specs.Conf.{Conf}
use Rattle.tree.specs.Directories.{Entries}
use Rattle.databases.specs.Runs.{State, start, take_up, outcome, step, after_records, read_as, state_after}
use Rattle.databases.specs.Faults.{WrittenAt, tally_of}
use Rattle.databases.specs.Folds.{Over, Ran, BrokeOff}
use Rattle.databases.specs.Reports.{report}
use Rattle.databases.specs.inner.Stands.{IsReached}
use Rattle.databases.specs.declared.runs.Tally.{Tally}
use Rattle.databases.specs.declared.runs.RunFault.{RunFault}

pub others_of : Option (List RawRecord) → List RawRecord
others_of None = []
others_of (Some left) = left

pub parts_of : (rs front : List RawRecord) (left : Option (List RawRecord)) → Takes (Some rs) left front → rs ≡ front ++ others_of left
unfolding others_of
parts_of rs front None parts = absurd parts
parts_of rs front (Some left) parts = parts

module _ (conf : Conf) (mode : Mode) (go_on : Bool) (old : Entries) where
  pub step_ended : (s : State) (r : ℕ × Result Record LdifFaultKind) → s.ended ≡ true → step conf mode go_on s r ≡ s
  unfolding step
  step_ended s r over = ap (λ b. cond b s (take_up go_on s r.0 (outcome conf mode s.entries r.1))) over

  ended_stays : (s : State) (rs : List (ℕ × Result Record LdifFaultKind)) → s.ended ≡ true → fold (step conf mode go_on) s rs ≡ s
  ended_stays s [] over = refl
  ended_stays s (r ∷ rs) over = ap (λ x. fold (step conf mode go_on) x rs) (step_ended s r over) ∙ ended_stays s rs over

  after_parts : (front left : List (ℕ × Result Record LdifFaultKind)) → after_records conf mode go_on old (front ++ left) ≡ fold (step conf mode go_on) (after_records conf mode go_on old front) left
  unfolding after_records
  after_parts front left = fold-append (step conf mode go_on) (start old) front left

  -- once all records were taken, or the run has ended, the rest changes nothing
  pub after_all : (rs front : List RawRecord) (left : Option (List RawRecord)) → Takes (Some rs) left front → (IsEnd left ⊎ ((state_after conf mode go_on old front).ended ≡ true)) → state_after conf mode go_on old rs ≡ state_after conf mode go_on old front
  after_all rs front None parts over = absurd parts
  after_all rs front (Some left) parts (inl none) = ap (λ xs. after_records conf mode go_on old (map (read_as mode) xs)) (parts ∙ ap (λ ys. front ++ ys) none ∙ append-nil front)
  after_all rs front (Some left) parts (inr ended) =
      ap (λ xs. after_records conf mode go_on old (map (read_as mode) xs)) parts
      ∙ ap (after_records conf mode go_on old) (map-append (read_as mode) front left)
      ∙ after_parts (map (read_as mode) front) (map (read_as mode) left)
      ∙ ended_stays (state_after conf mode go_on old front) (map (read_as mode) left) ended

  module _ (now : Entries) (a b : Written) (left : Option (List RawRecord)) (front : List RawRecord) where
    pub ran : (all : Option (List RawRecord)) (t : Tally) → IsReached conf mode go_on old now all left t front → (IsEnd left ⊎ ((state_after conf mode go_on old front).ended ≡ true)) → Took a b (report (state_after conf mode go_on old front).refused)
        → Over all (λ given. Ran conf mode go_on old now given t a b)
    ran None t h over written = record {
      given = front;
      are = tt;
      so = record { entries = h.entries; accepted = h.accepted; refused = h.refused; written = written };
    }
    ran (Some rs) t h over written =
        let is : state_after conf mode go_on old front ≡ state_after conf mode go_on old rs = sym (after_all rs front left h.parts over) in
        record {
          given = rs;
          are = refl;
          so = record {
            entries = h.entries ∙ ap (λ (s : State). s.entries) is;
            accepted = h.accepted ∙ ap (λ (s : State). s.accepted) is;
            refused = h.refused ∙ ap (λ (s : State). length s.refused) is;
            written = subst (λ (s : State). Took a b (report s.refused)) is written;
          };
        }

    module _ (f : RunFault) where
      broke_in : (all : Option (List RawRecord)) (given others : List RawRecord) → given ≡ front ++ others → IsReached conf mode go_on old now all left (tally_of f) front → WrittenAt f (state_after conf mode go_on old) front a b → BrokeOff conf mode go_on old now given f a b
      broke_in all given others parts h written = record { front = front; others = others; parts = parts; entries = h.entries; accepted = h.accepted; refused = h.refused; written = written }

      pub broke_off : (all : Option (List RawRecord)) → IsReached conf mode go_on old now all left (tally_of f) front → WrittenAt f (state_after conf mode go_on old) front a b → Over all (λ given. BrokeOff conf mode go_on old now given f a b)
      broke_off None h written = record { given = front; are = tt; so = broke_in None front [] (sym (append-nil front)) h written }
      broke_off (Some rs) h written = record { given = rs; are = refl; so = broke_in (Some rs) rs (others_of left) (parts_of rs front left h.parts) h written }
