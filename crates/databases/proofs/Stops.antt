-- A run that the first refused record ends.
use Rattle.std.proofs.Common.{◌≡◌, ℕ, inr, Bool, true, false, cond, List, [], ◌∷◌, ◌++◌, map, Option, Some, None, refl, sym, ◌∙◌, ap, subst}
use Rattle.std.specs.Prelude.{Result}
use Rattle.std.specs.List.{fold}
use Rattle.device.specs.Device.{Written}
use Rattle.ldif_lines.specs.Records.{RawRecord}
use Rattle.ldif_lines.specs.Reader.{Takes}
use Rattle.ldif.specs.declared.fault.LdifFaultKind.{LdifFaultKind}
use Rattle.ldif.specs.declared.record.Record.{Record}
use Rattle.ldif.specs.declared.record.Mode.{Mode}
use Rattle.ldif.specs.Reading.{reading}
use Rattle.schema.specs.Conf.{Conf}
use Rattle.tree.specs.Directories.{Entries}
use Rattle.databases.specs.Folds.{Over}
use Rattle.databases.specs.Runs.{State, start, counted, outcome, take_up, step, after_records, read_as, state_after}
use Rattle.databases.specs.inner.Stands.{Stands}
use Rattle.databases.specs.inner.Steps.{ends, progress_after}
use Rattle.databases.specs.declared.refusal.RecordRefusal.{RecordRefusal}
use Rattle.databases.specs.declared.refusal.RefusedRecord.{RefusedRecord}
use Rattle.databases.specs.declared.refusal.Outcome.{Outcome}
use Rattle.databases.specs.declared.refusal.Outcome.TheVariants.{Nothing, Accepted, Refused}
use Rattle.databases.specs.declared.runs.Progress.{Progress}
use Rattle.databases.specs.declared.runs.Progress.TheVariants.{GoesOn, AtEnd, StoppedBy}
use Rattle.databases.specs.declared.runs.Tally.{Tally}
use Rattle.databases.proofs.Records.{takes_more, ended_is, last_refused}
use Rattle.databases.proofs.Whole.{after_all}

-- ---- how it goes on behind a record

pub never_at_end : (go_on : Bool) (line : ℕ) (o : Outcome) → AtEnd ≡ progress_after go_on line o → ⊥
never_at_end go_on line Nothing h = (cc)
never_at_end go_on line Accepted h = (cc)
never_at_end true line (Refused why) h = (cc)
never_at_end false line (Refused why) h = (cc)

pub goes_on_behind : (go_on : Bool) (line : ℕ) (o : Outcome) → GoesOn ≡ progress_after go_on line o → false ≡ ends go_on o
goes_on_behind go_on line Nothing h = refl
goes_on_behind go_on line Accepted h = refl
goes_on_behind true line (Refused why) h = refl
goes_on_behind false line (Refused why) h = (cc)

-- the refused record is the one on this line
abbrev pub record_in : RefusedRecord → Progress → RefusedRecord
record_in other (StoppedBy x) = x
record_in other GoesOn = other
record_in other AtEnd = other

pub stops_behind : (go_on : Bool) (line : ℕ) (o : Outcome) (x : RefusedRecord) → StoppedBy x ≡ progress_after go_on line o → (true ≡ ends go_on o) × (go_on ≡ false) × (o ≡ Refused x.refusal) × (x.line ≡ line)
stops_behind go_on line Nothing x h = (cc)
stops_behind go_on line Accepted x h = (cc)
stops_behind true line (Refused why) x h = (cc)
stops_behind false line (Refused why) x h =
    let is : x ≡ record { line = line; refusal = why } = ap (record_in x) h in
    (refl, refl, ap (λ (y : RefusedRecord). Refused y.refusal) (sym is), ap (λ (y : RefusedRecord). y.line) is)

-- ---- which records were refused

-- as long as it goes on, none was
abbrev NoneYet : State → Type 0
NoneYet s = s.ended ≡ false → s.refused ≡ []

module _ (conf : Conf) (mode : Mode) where
  counted_none : (s : State) (line : ℕ) (d : Entries) (o : Outcome) → NoneYet s → s.ended ≡ false → NoneYet (counted false s line d o)
  counted_none s line d Nothing h going = λ _. h going
  counted_none s line d Accepted h going = λ _. h going
  counted_none s line d (Refused why) h going = λ off. (cc)

  step_by : (s : State) (r : ℕ × Result Record LdifFaultKind) (ended : Bool) → s.ended ≡ ended → NoneYet s → NoneYet (cond ended s (take_up false s r.0 (outcome conf mode s.entries r.1)))
  step_by s r true is h = h
  step_by s r false is h = counted_none s r.0 (outcome conf mode s.entries r.1).0 (outcome conf mode s.entries r.1).1 h is

  step_none : (s : State) (r : ℕ × Result Record LdifFaultKind) → NoneYet s → NoneYet (step conf mode false s r)
  unfolding step
  step_none s r h = step_by s r s.ended refl h

  fold_none : (s : State) (rs : List (ℕ × Result Record LdifFaultKind)) → NoneYet s → NoneYet (fold (step conf mode false) s rs)
  fold_none s [] h = h
  fold_none s (r ∷ rs) h = fold_none (step conf mode false s r) rs (step_none s r h)

  after_none : (d : Entries) (rs : List (ℕ × Result Record LdifFaultKind)) → NoneYet (after_records conf mode false d rs)
  unfolding after_records
  after_none d rs = fold_none (start d) rs (λ _. refl)

pub none_refused : (conf : Conf) (mode : Mode) (go_on : Bool) (d : Entries) → go_on ≡ false → (front : List RawRecord) → (state_after conf mode go_on d front).ended ≡ false → (state_after conf mode go_on d front).refused ≡ []
none_refused conf mode go_on d first front =
    subst (λ (b : Bool). (state_after conf mode b d front).ended ≡ false → (state_after conf mode b d front).refused ≡ []) (sym first) (after_none conf mode d (map (read_as mode) front))

-- the one that ended it is the only one
module _ (conf : Conf) (mode : Mode) (go_on : Bool) (old : Entries) where
  over_all : (all left : Option (List RawRecord)) (front : List RawRecord) (last : ℕ × RecordRefusal) → Takes all left front → (state_after conf mode go_on old front).refused ≡ last ∷ [] → (state_after conf mode go_on old front).ended ≡ true
      → Over all (λ given. (state_after conf mode go_on old given).refused ≡ last ∷ [])
  over_all None left front last parts refused ended = record { given = front; are = tt; so = refused }
  over_all (Some rs) left front last parts refused ended = record {
    given = rs;
    are = refl;
    so = ap (λ (x : State). x.refused) (after_all conf mode go_on old rs front left parts (inr ended)) ∙ refused;
  }

  pub only_refused : (now : Entries) (all mid left : Option (List RawRecord)) (t : Tally) (a b : Written) (r : RawRecord) (P : List RawRecord → Type 0) (h : Stands P conf mode go_on old now all mid t a b) → Takes mid left (r ∷ [])
      → (x : RefusedRecord) → go_on ≡ false → (outcome conf mode now (reading mode r.first r.lines)).1 ≡ Refused x.refusal → x.line ≡ r.line → Over all (λ given. (state_after conf mode go_on old given).refused ≡ (x.line, x.refusal) ∷ [])
  only_refused now all mid left t a b r P h taken x first is line =
      let front = h.front ++ r ∷ [] in
      let none : (state_after conf mode go_on old h.front).refused ≡ [] = none_refused conf mode go_on old first h.front h.going in
      let last : (state_after conf mode go_on old front).refused ≡ (x.line, x.refusal) ∷ [] =
      last_refused conf mode go_on old now h.front r h.going h.reached.entries x.refusal is ∙ ap (λ xs. xs ++ (r.line, x.refusal) ∷ []) none ∙ ap (λ (n : ℕ). (n, x.refusal) ∷ []) (sym line) in
      let ended : (state_after conf mode go_on old front).ended ≡ true =
      ended_is conf mode go_on old now h.front r h.going h.reached.entries ∙ ap (ends go_on) is ∙ ap (λ (b : Bool). ends b (Refused x.refusal)) first in
      over_all all left front (x.line, x.refusal) (takes_more all mid left h.front (r ∷ []) h.reached.parts taken) last ended
