-- What a search for a record's end has pulled.
use Rattle.std.proofs.Common.{◌≡◌, ◌⊎◌, ◌+◌, ◌-◌, ◌≤◌, inl, inr, List, [], ℕ, Bool, true, length, drop, subst, refl, sym, ap, ◌∙◌, arith}
use Rattle.std.proofs.lemmas.List.{length-take}
use Rattle.device.specs.Device.{Seen, GaveSome}
use Rattle.device.specs.declared.source.Source.{Ghosts}
use Rattle.device.proofs.Pulls.{gave_none, gave_more}
use Rattle.ldif_lines.specs.Records.{closed_from}
use Rattle.ldif_lines.specs.Reader.{source_of, loan_of, has_ended, unread}
use Rattle.ldif_lines.specs.Steps.{KeepsToSource}
use Rattle.ldif_lines.specs.inner.Moves.{Moved, PulledLate}
use Rattle.ldif_lines.specs.inner.States.{State, next_state, gives}
use Rattle.ldif_lines.specs.inner.ReaderStates.{begins, state, LeavesSource, LeavesRecord, Searched}
use Rattle.ldif_lines.specs.declared.draft.RecordDraft.{RecordDraft}
use Rattle.ldif_lines.specs.declared.reader.Reader.{Reader}
use Rattle.ldif_lines.proofs.MoveLemmas.{closed_none, late_taken, late_pulled}

-- where nothing more was pulled
pub still_late : {S : Type 0} (seen : S → Seen) (old now new : S) (u v w : List ℕ) (s t z : State) → PulledLate old now u v s t → new ≡ now → Moved (seen now) (seen new) v w t z → PulledLate old new u w s z
still_late seen old now new u v w s t z (inl h) e m = inl (e ∙ h.0, h.1 ∙ late_taken (seen now) (seen new) v w t z (ap seen e) m)
still_late seen old now new u v w s t z (inr h) e m = inr h

-- where no byte is held
pub is_late : {S : Type 0} (old now : S) (u v : List ℕ) (s t : State) → PulledLate old now u v s t → v ≡ [] → gives true s u ≡ []
is_late old now u v s t (inl h) e = late_pulled u v s t e h.1
is_late old now u v s t (inr h) e = h

still_alone : {S A : Type 0} (old now new : S) (x y : A) → (now ≡ old) ⊎ (x ≡ y) → new ≡ now → (new ≡ old) ⊎ (x ≡ y)
still_alone old now new x y (inl h) e = inl (e ∙ h)
still_alone old now new x y (inr h) e = inr h

closes_none : {S : Type 0} (old new : S) (first : Bool) (n : ℕ) (text : List ℕ) (s : State) → s ≡ record (next_state n) { first = first } → (new ≡ old) ⊎ (gives true s text ≡ []) → (new ≡ old) ⊎ (closed_from first (n + 1) text ≡ [])
closes_none old new first n text s e (inl h) = inl h
closes_none old new first n text s e (inr h) = inr (closed_none first n text (ap (λ (z : State). gives true z text) (sym e) ∙ h))

pub held_few : {S : Type 0} {g : Ghosts S} (r : Reader S RecordDraft g) → length (unread r) ≤ 8192
held_few r = omega (arith, length-take (r.end - r.at) (drop r.at r.piece), r.in_piece)

module _ {S : Type 0} {g : Ghosts S} (seen : S → Seen) where
  pub searched_none : (a : Reader S RecordDraft g) → Searched seen a a
  searched_none a = record { same_loan = refl; gave = gave_none (seen (source_of a)); failed = refl; first = refl; behind_end = λ _. refl; late = inl refl }

  -- a step that pulls nothing
  pub searched_more : (a b c : Reader S RecordDraft g) → Searched seen a b → LeavesSource b c → Searched seen a c
  searched_more a b c h k = record {
    same_loan = k.same_loan ∙ h.same_loan;
    gave = subst (λ (x : S). GaveSome (seen (source_of a)) (seen x)) (sym k.source) h.gave;
    failed = k.failed ∙ h.failed;
    first = k.first ∙ h.first;
    behind_end = λ e. k.source ∙ h.behind_end e;
    late = still_alone (source_of a) (source_of b) (source_of c) _ _ h.late k.source;
  }

  -- a pull, where what was held closes no record
  pub searched_pull : (a b c : Reader S RecordDraft g) → Searched seen a b → LeavesRecord b c → GaveSome (seen (source_of b)) (seen (source_of c)) → b.at_end ≡ a.at_end → (b.at_end ≡ true → source_of c ≡ source_of b)
      → gives true (state a) (unread a) ≡ [] → Searched seen a c
  searched_pull a b c h k gave same_end behind_end late = record {
    same_loan = k.same_loan ∙ h.same_loan;
    gave = gave_more _ _ _ h.gave gave;
    failed = k.failed ∙ h.failed;
    first = k.first ∙ h.first;
    behind_end = λ e. behind_end (same_end ∙ e) ∙ h.behind_end e;
    late = inr late;
  }

  -- a call that pulls nothing
  pub keeps_none : (a : Reader S RecordDraft g) → KeepsToSource seen a a
  keeps_none a = record { same_loan = refl; gave = gave_none (seen (source_of a)); piece = held_few a; behind_end = λ _. refl; left_alone = inl refl }

  -- a search from the beginning of a record, and a step that pulls nothing
  pub keeps_source : (a b c d : Reader S RecordDraft g) → loan_of b ≡ loan_of a → source_of b ≡ source_of a → has_ended b ≡ has_ended a → unread b ≡ unread a → state b ≡ begins a
      → Searched seen b c → loan_of d ≡ loan_of c → source_of d ≡ source_of c → KeepsToSource seen a d
  keeps_source a b c d loan source end held fresh h loan' source' = record {
    same_loan = loan' ∙ h.same_loan ∙ loan;
    gave = subst (λ (x : S). GaveSome (seen x) (seen (source_of d))) source (subst (λ (x : S). GaveSome (seen (source_of b)) (seen x)) (sym source') h.gave);
    piece = held_few d;
    behind_end = λ e. source' ∙ h.behind_end (end ∙ e) ∙ source;
    left_alone = subst (λ (x : S). (source_of d ≡ x) ⊎ (closed_from a.first (a.count + 1) (unread a) ≡ [])) source
        (subst (λ (l : List ℕ). (source_of d ≡ source_of b) ⊎ (closed_from a.first (a.count + 1) l ≡ [])) held
        (closes_none (source_of b) (source_of d) a.first a.count (unread b) (state b) fresh (still_alone (source_of b) (source_of c) (source_of d) _ _ h.late source')));
  }
