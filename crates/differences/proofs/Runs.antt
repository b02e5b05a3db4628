-- A run over the text of the changes between two directories.
use Rattle.std.proofs.Common.{◌≡◌, ℕ, Bool, true, false, cond, List, [], ◌∷◌, ◌++◌, map, Result, Ok, refl, sym, ap, subst, ◌∙◌}
use Rattle.std.specs.List.{AllByRecursion, fold, flat_map}
use Rattle.std.specs.FinMap as finite
use Rattle.ldif.specs.declared.fault.LdifFaultKind.{LdifFaultKind}
use Rattle.ldif.specs.declared.record.Mode.TheVariants as modes
use Rattle.ldif.specs.declared.record.Record.{Record}
use Rattle.ldif.specs.Contents.{readings, reading_of}
use Rattle.base.specs.Answers.{through}
use Rattle.base.proofs.Bound.{bind_ok, same_ok}
use Rattle.schema.specs.declared.code.Code.{Code}
use Rattle.schema.specs.Conf.{Conf}
use Rattle.tree.specs.Directories.{Entries}
use Rattle.tree.specs.Operations.{apply}
use Rattle.databases.specs.Runs.{State, start, is_empty, of_change, outcome, counted, take_up, step, after_records}
use Rattle.databases.specs.declared.refusal.Outcome.TheVariants.{Nothing, Accepted}
use Rattle.ldif.specs.Changes.{CommentedChange, change_of, write_change, read_as_itself, IsWritableChange, IsWritableComment}
use Rattle.differences.specs.Comments.{commented, change_text}
use Rattle.differences.specs.Differences.{Extent, changes_between}
use Rattle.differences.specs.Follows.{IsLeftAt, Leads}
use Rattle.differences.specs.Texts.{difference, LeadsByText}
use Rattle.differences.proofs.CommentLines.{all_commented, changes_are}

module _ (conf : Conf) (go_on : Bool) where
  abbrev one : State → ℕ × Result Record LdifFaultKind → State
  one = step conf (modes.Changes false) go_on

  went : (s : State) (line : ℕ) (d : Entries) (empty : Bool) → (let n = counted go_on s line d (cond empty Nothing Accepted) in (n.entries ≡ d) × (n.refused ≡ s.refused) × (n.ended ≡ false))
  went s line d true = (refl, refl, refl)
  went s line d false = (refl, refl, refl)

  steps : (rs : List Record) (ns : List (ℕ × Result Record LdifFaultKind)) (s : State) (out : Entries) → map reading_of ns ≡ map read_as_itself rs → s.ended ≡ false
      → through (apply conf (modes.Changes false)) s.entries rs ≡ Ok out → (let end = fold one s ns in (end.entries ≡ out) × (end.refused ≡ s.refused))
  unfolding step outcome through
  steps [] [] s out same going is = (same_ok s.entries out is, refl)
  steps [] (n ∷ ns) s out same going is = absurd cc
  steps (r ∷ rs) [] s out same going is = absurd cc
  steps (r ∷ rs) (n ∷ ns) s out same going is =
      let first = bind_ok (apply conf (modes.Changes false) s.entries r) (λ z. through (apply conf (modes.Changes false)) z rs) out is in
      let read : n.1 ≡ read_as_itself r = cc in
      let more : map reading_of ns ≡ map read_as_itself rs = cc in
      let t : State = counted go_on s n.0 first.0 (cond (is_empty r) Nothing Accepted) in
      let k = went s n.0 first.0 (is_empty r) in
      let whole : one s n ≡ t =
      ap (λ b. cond b s (take_up go_on s n.0 (outcome conf (modes.Changes false) s.entries n.1))) going
      ∙ ap (λ (x : Result Record LdifFaultKind). take_up go_on s n.0 (outcome conf (modes.Changes false) s.entries x)) read
      ∙ ap (λ (x : Result Entries Code). take_up go_on s n.0 (of_change s.entries (is_empty r) x)) first.1 in
      let rest = steps rs ns t out more k.2 (ap (λ (d : Entries). through (apply conf (modes.Changes false)) d rs) k.0 ∙ first.2) in
      (ap (λ (x : State). (fold one x ns).entries) whole ∙ rest.0, ap (λ (x : State). (fold one x ns).refused) whole ∙ rest.1 ∙ k.1)

  texts_are : (rs : List Record) → flat_map change_text rs ≡ flat_map write_change (map commented rs)
  texts_are [] = refl
  texts_are (r ∷ rs) = ap (λ (x : List ℕ). change_text r ++ x) (texts_are rs)

  pub by_text : ((cs : List CommentedChange) → AllByRecursion IsWritableComment cs → map reading_of (readings (modes.Changes false) (flat_map write_change cs)) ≡ map read_as_itself (map change_of cs))
      → (c : Extent) (a b goal : Entries) → AllByRecursion IsWritableChange (changes_between conf c a b) → Leads conf c a b goal → LeadsByText conf c a b goal go_on
  unfolding difference after_records readings
  by_text reads c a b goal writable l =
      let rs : List Record = changes_between conf c a b in
      let read : map reading_of (readings (modes.Changes false) (difference conf c a b)) ≡ map read_as_itself rs =
      ap (λ (x : List ℕ). map reading_of (readings (modes.Changes false) x)) (texts_are rs)
      ∙ reads (map commented rs) (all_commented rs writable)
      ∙ ap (map read_as_itself) (changes_are rs) in
      let k = steps rs (readings (modes.Changes false) (difference conf c a b)) (start a) l.after read refl l.done in
      record {
        refused = k.1;
        left = λ p. subst (λ (x : Entries). IsLeftAt conf.types (finite.get a p) (finite.get goal p) (finite.get x p)) (sym k.0) (l.left p);
      }
