-- Records that are carried out in turn, one by one.
use Rattle.std.proofs.Common.{◌≡◌, ℕ, Bool, true, false, cond, List, [], ◌∷◌, ◌++◌, map, Some, refl, sym, ap, subst, ◌∙◌}
use Rattle.std.specs.Prelude.{Result, Ok, Err}
use Rattle.std.specs.List.{fold}
use Rattle.std.specs.Cmp.{IsTotalOrder}
use Rattle.std.specs.FinMap as finite
use Rattle.ldif_lines.specs.Records.{RawRecord}
use Rattle.ldif.specs.Attrs.{Attr}
use Rattle.ldif.specs.Reading.{reading}
use Rattle.ldif.specs.declared.record.Mode.TheVariants.{Content}
use Rattle.ldif.specs.declared.record.Record.TheVariants as records
use Rattle.paths.specs.Paths.{Path, path_cmp}
use Rattle.schema.specs.declared.code.Code.{Code}
use Rattle.schema.specs.Conf.{Conf, located}
use Rattle.tree.specs.Directories.{Entries}
use Rattle.tree.specs.Operations.{apply, path_in}
use Rattle.databases.specs.Runs.{State, start, of_change, outcome, counted, take_up, step, after_records, read_as, state_after}
use Rattle.databases.specs.declared.refusal.Outcome.{Outcome}
use Rattle.databases.specs.declared.refusal.Outcome.TheVariants as outcomes
use Rattle.databases.specs.declared.refusal.RecordRefusal.{RecordRefusal}
use Rattle.databases.specs.declared.refusal.RecordRefusal.TheVariants as refusals
use Rattle.sorted_loads.proofs.Content.{Answer, is_content, outcome_keeps, puts_it}

-- one after the other, from a state on
abbrev pub run : Conf → Bool → State → List RawRecord → State
run conf go_on s given = fold (step conf Content go_on) s (map (read_as Content) given)

pub run_is : (conf : Conf) (go_on : Bool) (d : Entries) (given : List RawRecord) → state_after conf Content go_on d given ≡ run conf go_on (start d) given
unfolding after_records
run_is conf go_on d given = refl

pub run_parts : (conf : Conf) (go_on : Bool) (s : State) (front more : List RawRecord) → run conf go_on s (front ++ more) ≡ run conf go_on (run conf go_on s front) more
run_parts conf go_on s [] more = refl
run_parts conf go_on s (r ∷ front) more = run_parts conf go_on (step conf Content go_on s (read_as Content r)) front more

-- ---- the end

ended_step : (conf : Conf) (go_on : Bool) (s : State) (r : RawRecord) → s.ended ≡ true → step conf Content go_on s (read_as Content r) ≡ s
unfolding step
ended_step conf go_on s r h = ap (λ (t : Bool). cond t s (take_up go_on s r.line (outcome conf Content s.entries (reading Content r.first r.lines)))) h

stays_ended : (conf : Conf) (go_on : Bool) (s : State) (given : List RawRecord) → s.ended ≡ true → (run conf go_on s given).ended ≡ true
stays_ended conf go_on s [] h = h
stays_ended conf go_on s (r ∷ given) h = stays_ended conf go_on (step conf Content go_on s (read_as Content r)) given (ap (λ (t : State). t.ended) (ended_step conf go_on s r h) ∙ h)

-- a run that hasn't ended hadn't before
pub not_ended : (conf : Conf) (go_on : Bool) (s : State) (given : List RawRecord) → (run conf go_on s given).ended ≡ false → s.ended ≡ false
not_ended conf go_on s given h = by s.ended refl
  where
    by : (t : Bool) → s.ended ≡ t → t ≡ false
    by true e = let no : true ≡ false = sym (stays_ended conf go_on s given e) ∙ h in no
    by false e = refl

pub takes_up : (conf : Conf) (go_on : Bool) (s : State) (r : RawRecord) → s.ended ≡ false
    → step conf Content go_on s (read_as Content r) ≡ take_up go_on s r.line (outcome conf Content s.entries (reading Content r.first r.lines))
unfolding step
takes_up conf go_on s r h = ap (λ (t : Bool). cond t s (take_up go_on s r.line (outcome conf Content s.entries (reading Content r.first r.lines)))) h

entries_taken : (go_on : Bool) (s : State) (line : ℕ) (d : Entries) (o : Outcome) → (counted go_on s line d o).entries ≡ d
entries_taken go_on s line d outcomes.Nothing = refl
entries_taken go_on s line d outcomes.Accepted = refl
entries_taken go_on s line d (outcomes.Refused why) = refl

pub entries_after : (conf : Conf) (go_on : Bool) (s : State) (r : RawRecord) → s.ended ≡ false
    → (step conf Content go_on s (read_as Content r)).entries ≡ (outcome conf Content s.entries (reading Content r.first r.lines)).0
entries_after conf go_on s r h =
    ap (λ (t : State). t.entries) (takes_up conf go_on s r h)
    ∙ entries_taken go_on s r.line (outcome conf Content s.entries (reading Content r.first r.lines)).0 (outcome conf Content s.entries (reading Content r.first r.lines)).1

module _ (total : IsTotalOrder path_cmp) where
  step_keeps : (conf : Conf) (go_on : Bool) (s : State) (r : RawRecord) (q : Path) → finite.contains_key s.entries q ≡ true → finite.contains_key (step conf Content go_on s (read_as Content r)).entries q ≡ true
  step_keeps conf go_on s r q h = by s.ended refl
    where
      by : (t : Bool) → s.ended ≡ t → finite.contains_key (step conf Content go_on s (read_as Content r)).entries q ≡ true
      by true e = ap (λ (t : State). finite.contains_key t.entries q) (ended_step conf go_on s r e) ∙ h
      by false e = ap (λ (m : Entries). finite.contains_key m q) (entries_after conf go_on s r e) ∙ outcome_keeps total conf s.entries (reading Content r.first r.lines) q (is_content r.first r.lines) h

  -- no entry goes away
  pub run_keeps : (conf : Conf) (go_on : Bool) (s : State) (given : List RawRecord) (q : Path) → finite.contains_key s.entries q ≡ true → finite.contains_key (run conf go_on s given).entries q ≡ true
  run_keeps conf go_on s [] q h = h
  run_keeps conf go_on s (r ∷ given) q h = run_keeps conf go_on (step conf Content go_on s (read_as Content r)) given q (step_keeps conf go_on s r q h)

  -- a record is refused, or its entry is there then
  pub data Came (d : Entries) (o : Entries × Outcome) (p : Path) : Type 0 where
    refused : (why : RecordRefusal) → o.1 ≡ outcomes.Refused why → Came d o p
    there : finite.contains_key o.0 p ≡ true → Came d o p

  pub came : (conf : Conf) (d : Entries) (read : Answer) (dn : List ℕ) (ls : List Attr) (p : Path) → read ≡ Ok (records.Content dn ls) → path_in conf (located conf dn) ≡ Some p
      → Came d (outcome conf Content d read) p
  unfolding outcome
  came conf d read dn ls p is at = subst (λ (x : Answer). Came d (outcome conf Content d x) p) (sym is) (by (apply conf Content d (records.Content dn ls)) refl)
    where
      by : (x : Result Entries Code) → apply conf Content d (records.Content dn ls) ≡ x → Came d (of_change d false x) p
      by (Ok next) e = there (puts_it total conf d next dn ls p e at)
      by (Err code) e = refused (refusals.Code code) refl

-- ---- a load

refused_ends : (s : State) (line : ℕ) (o : Entries × Outcome) (why : RecordRefusal) → o.1 ≡ outcomes.Refused why → (take_up false s line o).ended ≡ true
refused_ends s line o why e = ap (λ (x : Outcome). (counted false s line o.0 x).ended) e

-- without -c a record that was refused ends the run
pub refused_last : (conf : Conf) (s : State) (q : RawRecord) (more : List RawRecord) (why : RecordRefusal) → s.ended ≡ false
    → (outcome conf Content s.entries (reading Content q.first q.lines)).1 ≡ outcomes.Refused why → (run conf false s (q ∷ more)).ended ≡ true
refused_last conf s q more why going e =
    stays_ended conf false (step conf Content false s (read_as Content q)) more
    (ap (λ (t : State). t.ended) (takes_up conf false s q going) ∙ refused_ends s q.line (outcome conf Content s.entries (reading Content q.first q.lines)) why e)
