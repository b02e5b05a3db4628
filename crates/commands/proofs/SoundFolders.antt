-- A run that goes on and one that ends at the first refusal are the same where no record is refused.
use Rattle.std.proofs.Common.{◌≡◌, ◌↔◌, ℕ, ◌≤◌, Bool, true, false, cond, List, [], ◌∷◌, ◌++◌, length, map, refl, sym, ◌∙◌, ap, subst, arith, length-append}
use Rattle.std.specs.Prelude.{Result, Option, None, Some, codes}
use Rattle.std.specs.List.{fold}
use Rattle.ldif_lines.specs.Records.{RawRecord}
use Rattle.ldif.specs.declared.fault.LdifFaultKind.{LdifFaultKind}
use Rattle.ldif.specs.declared.record.Record.{Record}
use Rattle.ldif.specs.declared.record.Mode.{Mode}
use Rattle.ldif.specs.declared.record.Mode.TheVariants.{Content}
use Rattle.schema.specs.Conf.{Conf}
use Rattle.tree.specs.Directories.{Entries}
use Rattle.databases.specs.Runs.{State, start, outcome, counted, take_up, step, after_records, read_as, state_after, LoadsRecords}
use Rattle.databases.specs.Reports.{report, report_line}
use Rattle.databases.specs.declared.refusal.RecordRefusal.{RecordRefusal}
use Rattle.databases.specs.declared.refusal.Outcome.{Outcome}
use Rattle.databases.specs.declared.refusal.Outcome.TheVariants.{Nothing, Accepted, Refused}
use Rattle.std.specs.Str.{bytes_eq}
use Rattle.std.specs.FinMap as finite
use Rattle.std.proofs.lemmas.Slice.Eq.{bytes_eq-Decides}
use Rattle.checks.specs.declared.conf_faults.FoundFault.{FoundFault}
use Rattle.checks.specs.ConfFaults.{fault_reports}
use Rattle.checks.specs.LeftOut.{AreFaultsOf}
use Rattle.checks.proofs.FirstFaults.{none_found, says_conf, first_reported}
use Rattle.checks.specs.Reports as check_reports
use Rattle.databases.specs.IndexTexts.{index_text}
use Rattle.commands.specs.Checks.{AddsRecords, index_what, index_fault, line_of_difference, index_report}
use Rattle.checks.specs.IndexDifferences.{difference_of}
use Rattle.commands.specs.SoundFolders.{SaysConf, ConfAgrees, DataAgrees, IndexAgrees}

abbrev Reading : Type 0
Reading = ℕ × Result Record LdifFaultKind

-- a list to which one was put is not empty
some_put : {A : Type 0} (xs : List A) (x : A) → xs ++ x ∷ [] ≡ [] → ⊥
some_put [] x none = cc
some_put (y ∷ ys) x none = cc

-- ---- one record

-- where it isn't refused, the run goes on, and whether it would have ended makes no difference
counted_alike : (here other : Bool) (s : State) (line : ℕ) (d : Entries) (o : Outcome) → (counted here s line d o).refused ≡ [] → counted other s line d o ≡ counted here s line d o
counted_alike here other s line d Nothing none = refl
counted_alike here other s line d Accepted none = refl
counted_alike here other s line d (Refused why) none = absurd (some_put s.refused (line, why) none)

counted_goes : (here : Bool) (s : State) (line : ℕ) (d : Entries) (o : Outcome) → (counted here s line d o).refused ≡ [] → (counted here s line d o).ended ≡ false
counted_goes here s line d Nothing none = refl
counted_goes here s line d Accepted none = refl
counted_goes here s line d (Refused why) none = absurd (some_put s.refused (line, why) none)

-- refusals stay
counted_grows : (here : Bool) (s : State) (line : ℕ) (d : Entries) (o : Outcome) → length s.refused ≤ length (counted here s line d o).refused
counted_grows here s line d Nothing = omega arith
counted_grows here s line d Accepted = omega arith
counted_grows here s line d (Refused why) = omega (arith, length-append s.refused ((line, why) ∷ []))

none_of : {A : Type 0} (xs : List A) → length xs ≤ 0 → xs ≡ []
none_of [] le = refl
none_of (x ∷ xs) le = absurd (omega (arith, le))

module _ (conf : Conf) (mode : Mode) where
  going : (here : Bool) (s : State) (r : Reading) → s.ended ≡ false → step conf mode here s r ≡ take_up here s r.0 (outcome conf mode s.entries r.1)
  unfolding step
  going here s r goes = ap (λ b. cond b s (take_up here s r.0 (outcome conf mode s.entries r.1))) goes

  step_grows : (here : Bool) (s : State) (r : Reading) → length s.refused ≤ length (step conf mode here s r).refused
  unfolding step
  step_grows here s r = go s.ended refl
    where
      go : (b : Bool) → s.ended ≡ b → length s.refused ≤ length (step conf mode here s r).refused
      go false is = subst (λ (t : State). length s.refused ≤ length t.refused) (sym (going here s r is)) (counted_grows here s r.0 (outcome conf mode s.entries r.1).0 (outcome conf mode s.entries r.1).1)
      go true is = subst (λ (b : Bool). length s.refused ≤ length (cond b s (take_up here s r.0 (outcome conf mode s.entries r.1))).refused) (sym is) (omega arith)

  fold_grows : (here : Bool) (rs : List Reading) (s : State) → length s.refused ≤ length (fold (step conf mode here) s rs).refused
  fold_grows here [] s = omega arith
  fold_grows here (r ∷ rs) s = omega (arith, step_grows here s r, fold_grows here rs (step conf mode here s r))

  -- where no record is refused in one way, both ways are the same
  alike : (here other : Bool) (rs : List Reading) (s : State) → s.ended ≡ false → (fold (step conf mode here) s rs).refused ≡ []
      → fold (step conf mode other) s rs ≡ fold (step conf mode here) s rs
  alike here other [] s goes none = refl
  alike here other (r ∷ rs) s goes none =
      let next : State = step conf mode here s r in
      let o = outcome conf mode s.entries r.1 in
      let le : length next.refused ≤ 0 = omega (arith, fold_grows here rs next, ap (λ (l : List (ℕ × RecordRefusal)). length l) none) in
      let taken : next ≡ counted here s r.0 o.0 o.1 = going here s r goes in
      let quiet : (counted here s r.0 o.0 o.1).refused ≡ [] = subst (λ (t : State). t.refused ≡ []) taken (none_of next.refused le) in
      let same : step conf mode other s r ≡ next = going other s r goes ∙ counted_alike here other s r.0 o.0 o.1 quiet ∙ sym taken in
      let goes_on : next.ended ≡ false = ap (λ (t : State). t.ended) taken ∙ counted_goes here s r.0 o.0 o.1 quiet in
      ap (λ (t : State). fold (step conf mode other) t rs) same ∙ alike here other rs next goes_on none

-- ---- records

not_empty : (b : ℕ) (bs : List ℕ) → [] ≡ b ∷ bs → ⊥
not_empty b bs none = cc

-- a report of some is not empty
quiet_report : (refused : List (ℕ × RecordRefusal)) → [] ≡ report refused → refused ≡ []
unfolding report_line
quiet_report [] none = refl
quiet_report (r ∷ rs) none = absurd (not_empty _ _ none)

agrees : (conf : Conf) (old : Entries) (given : List RawRecord) (d : Entries) → AddsRecords conf old given d [] ↔ LoadsRecords conf old given d
unfolding after_records
agrees conf old given d = (loads, adds)
  where
    loads : AddsRecords conf old given d [] → LoadsRecords conf old given d
    loads is =
        let none = quiet_report (state_after conf Content true old given).refused is.told_is in
        let same = alike conf Content true false (map (read_as Content) given) (start old) refl none in
        record { entries = is.entries ∙ ap (λ (s : State). s.entries) (sym same); all = ap (λ (s : State). s.refused) same ∙ none }

    adds : LoadsRecords conf old given d → AddsRecords conf old given d []
    adds is =
        let same = alike conf Content false true (map (read_as Content) given) (start old) refl is.all in
        record { entries = is.entries ∙ ap (λ (s : State). s.entries) (sym same); told_is = sym (ap (λ (refused : List (ℕ × RecordRefusal)). report refused) (ap (λ (s : State). s.refused) same ∙ is.all)) }

pub data_agrees : (conf : Conf) (found : Option (Option (List ℕ))) (d : Entries) → DataAgrees conf found d
data_agrees conf None d = ((λ is. is.0), λ is. (is, refl))
data_agrees conf (Some text) d = (
  (λ over. record { given = over.given; are = over.are; so = (agrees conf finite.empty over.given d).0 over.so }),
  λ over. record { given = over.given; are = over.are; so = (agrees conf finite.empty over.given d).1 over.so },
)

-- ---- dir.conf

pub conf_agrees : (text : List ℕ) → ConfAgrees text
conf_agrees text = ((λ told. says told.found told.has_more told.are told.text_is), λ is. record { found = []; has_more = false; are = none_found text is; text_is = refl })
  where
    says : (found : List FoundFault) (more : Bool) → AreFaultsOf text found more → [] ≡ fault_reports found more → SaysConf text
    says [] false are none = says_conf text are
    says [] true are none = absurd (not_empty _ _ none)
    says (f ∷ fs) more are none = absurd (first_reported text f fs more are.count none)

-- ---- index.txt

pub index_agrees : (conf : Conf) (d : Entries) (index : Option (List ℕ)) → IndexAgrees conf d index
index_agrees conf d None = ((λ none. tt), λ is. refl)
index_agrees conf d (Some text) = ((λ none. own (bytes_eq text (index_text conf d)) refl none), λ is. quiet is)
  where
    own : (b : Bool) → bytes_eq text (index_text conf d) ≡ b → index_report conf d text ≡ [] → text ≡ index_text conf d
    own true same none = (bytes_eq-Decides text (index_text conf d)).0 same
    own false same none = absurd (not_empty _ _ (sym none ∙ ap (λ (b : Bool). cond b [] (check_reports.report (codes "faulty") (codes "index.txt")
        (index_what (index_fault conf d text) (line_of_difference text (index_text conf d)) (difference_of text (index_text conf d))))) same))

    quiet : text ≡ index_text conf d → index_report conf d text ≡ []
    quiet is = ap (λ (b : Bool). cond b [] (check_reports.report (codes "faulty") (codes "index.txt")
        (index_what (index_fault conf d text) (line_of_difference text (index_text conf d)) (difference_of text (index_text conf d))))) ((bytes_eq-Decides text (index_text conf d)).1 is)
