-- What calls of a reader took, one after the other.
use Rattle.std.proofs.Common.{◌≡◌, ◌<◌, ◌⊎◌, inl, inr, ℕ, Bool, true, false, List, [], ◌∷◌, ◌++◌, Option, Some, IfSome, refl, sym, ◌∙◌, ap, subst, append_assoc}
use Rattle.std.proofs.lemmas.List.{append-nil}
use Rattle.base.specs.Ascii.{line_feed}
use Rattle.std.specs.Prelude.{Result, Ok, Err, IfOk, IfErr}
use Rattle.device.specs.Device.{Seen, Pulled, Written, GaveSome}
use Rattle.device.specs.declared.source.Source.{Ghosts}
use Rattle.device.proofs.Pulls.{pulled_none, pulled_more}
use Rattle.ldif_lines.specs.Records.{RawRecord, closed_from, closed_records}
use Rattle.ldif_lines.specs.Reader.{Takes, source_of, loan_of, is_failed, unread, next_is_first, next_number, has_ended, records_left, bytes_left, AtSamePlace}
use Rattle.ldif_lines.specs.View.{view}
use Rattle.ldif_lines.specs.declared.raw_record.RawRecord as raws
use Rattle.ldif_lines.specs.Pulls.{closed_in, TakesBlock, TakesRest, Breaks}
use Rattle.ldif_lines.specs.declared.draft.RecordDraft.{RecordDraft}
use Rattle.ldif_lines.specs.declared.reader.Reader.{Reader}
use Rattle.ldif.specs.declared.record.Mode.{Mode}
use Rattle.schema.specs.Conf.{Conf}
use Rattle.tree.specs.Directories.{Entries}
use Rattle.databases.specs.Runs.{state_after}
use Rattle.databases.specs.FailedReads.{IsLeft, StopsReading}
use Rattle.databases.specs.inner.Pulls.{TookRecords, TookBeforeEnd, closed_with}
use Rattle.databases.specs.inner.Endings.{tally_in, EndsAsTold}
use Rattle.databases.specs.declared.runs.Ending.{Ending}
use Rattle.databases.specs.declared.runs.Tally.{Tally}
use Rattle.databases.specs.declared.runs.RunFault.{RunFault}
use Rattle.databases.specs.declared.runs.RunFault.TheVariants as faults

pub not_both : {b : Bool} → b ≡ true → b ≡ false → ⊥
not_both e f = (cc)

module _ {S : Type 0} {g : Ghosts S} (seen : S → Seen) where
  pub took_none : (r : Reader S RecordDraft g) → TookRecords seen r r []
  took_none r = record { got = []; pulled = pulled_none (seen (source_of r)); closed = λ rest. refl }

  took_block : (a b : Reader S RecordDraft g) (r : RawRecord) → TakesBlock seen a b r → TookRecords seen a b (r ∷ [])
  took_block a b r h = record {
    got = h.got;
    pulled = h.pulled;
    closed = λ rest.
        ap (closed_in a) (sym (append_assoc (unread a) h.got rest) ∙ ap (λ (l : List ℕ). l ++ rest) h.bytes ∙ append_assoc h.block (line_feed ∷ unread b) rest)
        ∙ h.closed (unread b ++ rest);
  }

  took_more : (a b c : Reader S RecordDraft g) (rs qs : List RawRecord) → TookRecords seen a b rs → TookRecords seen b c qs → TookRecords seen a c (rs ++ qs)
  took_more a b c rs qs h k = record {
    got = h.got ++ k.got;
    pulled = pulled_more _ _ _ h.got k.got h.pulled k.pulled;
    closed = λ rest.
        ap (λ (l : List ℕ). closed_in a (unread a ++ l)) (append_assoc h.got k.got rest)
        ∙ h.closed (k.got ++ rest)
        ∙ ap (λ (l : List RawRecord). rs ++ l) (k.closed rest)
        ∙ sym (append_assoc rs qs (closed_in c (unread c ++ rest)));
  }

  -- a reader that stands at the same place
  pub record SamePlace (b c : Reader S RecordDraft g) : Type 0 where
    pub source : source_of c ≡ source_of b
    pub number : next_number c ≡ next_number b
    pub first : next_is_first c ≡ next_is_first b
    pub unread : unread c ≡ unread b
    pub ended : has_ended c ≡ has_ended b

  closed_same : (b c : Reader S RecordDraft g) → SamePlace b c → (rest : List ℕ) → closed_in c (unread c ++ rest) ≡ closed_in b (unread b ++ rest)
  closed_same b c e rest =
      ap (λ (f : Bool). closed_from f (next_number c) (unread c ++ rest)) e.first
      ∙ ap (λ (n : ℕ). closed_from (next_is_first b) n (unread c ++ rest)) e.number
      ∙ ap (λ (l : List ℕ). closed_from (next_is_first b) (next_number b) (l ++ rest)) e.unread

  took_same : (a b c : Reader S RecordDraft g) (rs : List RawRecord) → SamePlace b c → TookRecords seen a b rs → TookRecords seen a c rs
  took_same a b c rs e h = record {
    got = h.got;
    pulled = subst (λ (x : S). Pulled (seen (source_of a)) (seen x) h.got) (sym e.source) h.pulled;
    closed = λ rest. h.closed rest ∙ ap (λ (l : List RawRecord). rs ++ l) (sym (closed_same b c e rest));
  }

  -- one record more, and the reader that has its memory back
  pub took_next : (a b c d : Reader S RecordDraft g) (r : RawRecord) → TakesBlock seen b c r ⊎ TakesRest seen b c (r ∷ []) → SamePlace c d → (rs : List RawRecord) → TookBeforeEnd seen a b rs → TookBeforeEnd seen a d (rs ++ r ∷ [])
  took_next a b c d r (inl t) e rs h = λ off.
      let on : has_ended c ≡ false = sym e.ended ∙ off in
      took_same a c d (rs ++ r ∷ []) e (took_more a b c rs (r ∷ []) (h (sym t.same_end ∙ on)) (took_block b c r t))
  took_next a b c d r (inr t) e rs h = λ off. absurd (not_both t.ended (sym e.ended ∙ off))

  -- a reader that took a record, and has its memory back
  pub record TookOne (b d : Reader S RecordDraft g) (r : RawRecord) : Type 0 where
    pub same_loan : loan_of d ≡ loan_of b
    pub going : is_failed d ≡ false
    pub failed : (seen (source_of d)).failed ≡ (seen (source_of b)).failed
    pub gave : GaveSome (seen (source_of b)) (seen (source_of d))
    pub falls : bytes_left seen d < bytes_left seen b
    pub taken : Takes (records_left seen b) (records_left seen d) (r ∷ [])
    pub took : (a : Reader S RecordDraft g) (rs : List RawRecord) → TookBeforeEnd seen a b rs → TookBeforeEnd seen a d (rs ++ r ∷ [])

  -- by what a call of `next` says, and then one of `reuse`
  module _ (b c d : Reader S RecordDraft g) (raw : raws.RawRecord) (found : Option raws.RawRecord) (is : found ≡ Some raw) where
    pub took_one : loan_of c ≡ loan_of b → is_failed c ≡ false → (seen (source_of c)).failed ≡ (seen (source_of b)).failed → GaveSome (seen (source_of b)) (seen (source_of c))
        → IfSome found (λ _. bytes_left seen c < bytes_left seen b)
        → IfSome found (λ r. Takes (records_left seen b) (records_left seen c) (view r ∷ []))
        → IfSome found (λ r. TakesBlock seen b c (view r) ⊎ TakesRest seen b c (view r ∷ []))
        → loan_of d ≡ loan_of c → source_of d ≡ source_of c → records_left seen d ≡ records_left seen c → bytes_left seen d ≡ bytes_left seen c → is_failed d ≡ is_failed c → AtSamePlace d c
        → TookOne b d (view raw)
    took_one loan going failed gave falls taken took loan' source records bytes failed' place = record {
      same_loan = loan' ∙ loan;
      going = failed' ∙ going;
      failed = ap (λ (x : S). (seen x).failed) source ∙ failed;
      gave = subst (λ (x : S). GaveSome (seen (source_of b)) (seen x)) (sym source) gave;
      falls = subst (λ n. n < bytes_left seen b) (sym bytes) (subst (λ (o : Option raws.RawRecord). IfSome o (λ _. bytes_left seen c < bytes_left seen b)) is falls);
      taken = subst (λ (left : Option (List RawRecord)). Takes (records_left seen b) left (view raw ∷ [])) (sym records) (subst (λ (o : Option raws.RawRecord). IfSome o (λ r. Takes (records_left seen b) (records_left seen c) (view r ∷ []))) is taken);
      took = λ a. took_next a b c d (view raw)
          (subst (λ (o : Option raws.RawRecord). IfSome o (λ r. TakesBlock seen b c (view r) ⊎ TakesRest seen b c (view r ∷ []))) is took)
          (record { source = source; number = place.0; first = place.1; unread = place.2; ended = place.3 });
    }

  -- where the source fails
  pub up_to : (a b c : Reader S RecordDraft g) → Breaks seen b c → (rs : List RawRecord) → TookBeforeEnd seen a b rs → (got : List ℕ) × Pulled (seen (source_of a)) (seen (source_of c)) got × (closed_with a got ≡ rs)
  up_to a b c k rs h =
      let t = h k.before_end in (
        t.got ++ k.got,
        pulled_more _ _ _ t.got k.got t.pulled k.pulled,
        t.closed k.got ∙ ap (λ (l : List RawRecord). rs ++ l) k.closed ∙ append-nil rs,
      )

-- ---- a reader that was just made

closed_at_first : (first : Bool) (n : ℕ) (held got : List ℕ) → first ≡ true → n ≡ 1 → held ≡ [] → closed_from first n (held ++ got) ≡ closed_records got
closed_at_first first n held got e f h =
    ap (λ (b : Bool). closed_from b n (held ++ got)) e
    ∙ ap (λ (k : ℕ). closed_from true k (held ++ got)) f
    ∙ ap (λ (l : List ℕ). closed_from true 1 (l ++ got)) h

pub closed_when_fresh : {S : Type 0} {g : Ghosts S} (r : Reader S RecordDraft g) → next_number r ≡ 1 → next_is_first r ≡ true → unread r ≡ [] → (got : List ℕ) → closed_with r got ≡ closed_records got
closed_when_fresh r n f u got = closed_at_first (next_is_first r) (next_number r) (unread r) got f n u

stops_same : (f : RunFault) (closed : List ℕ → List RawRecord) (conf : Conf) (mode : Mode) (go_on : Bool) (old new : Entries) (s s' : Seen) (a b : Written) → ((got : List ℕ) → closed got ≡ closed_records got)
    → StopsReading f closed conf mode go_on old new s s' a b → StopsReading f closed_records conf mode go_on old new s s' a b
stops_same (faults.Read t) closed conf mode go_on old new s s' a b same h = record {
  got = h.got;
  pulled = h.pulled;
  left = subst (λ (rs : List RawRecord). IsLeft (state_after conf mode go_on old rs) new t a b) (same h.got) h.left;
}
stops_same (faults.Write t) closed conf mode go_on old new s s' a b same h = tt
stops_same (faults.OutOfMemory t) closed conf mode go_on old new s s' a b same h = tt

pub stops_fresh : (r : Result Tally RunFault) (closed : List ℕ → List RawRecord) (conf : Conf) (mode : Mode) (go_on : Bool) (old new : Entries) (s s' t t' : Seen) (a b : Written) → ((got : List ℕ) → closed got ≡ closed_records got) → t ≡ s → t' ≡ s'
    → IfErr r (λ f. StopsReading f closed conf mode go_on old new s s' a b) → IfErr r (λ f. StopsReading f closed_records conf mode go_on old new t t' a b)
stops_fresh (Ok n) closed conf mode go_on old new s s' t t' a b same e e' h = h
stops_fresh (Err f) closed conf mode go_on old new s s' t t' a b same e e' h =
    subst (λ (x : Seen). StopsReading f closed_records conf mode go_on old new x t' a b) (sym e)
    (subst (λ (x : Seen). StopsReading f closed_records conf mode go_on old new s x a b) (sym e') (stops_same f closed conf mode go_on old new s s' a b same h))

pub ends_fresh : (r : Result Ending RunFault) (conf : Conf) (mode : Mode) (go_on : Bool) (old : Entries) (all all' : Option (List RawRecord)) → all ≡ all' → IfOk r (EndsAsTold conf mode go_on old all) → IfOk r (EndsAsTold conf mode go_on old all')
ends_fresh r conf mode go_on old all all' same h = subst (λ (rs : Option (List RawRecord)). IfOk r (EndsAsTold conf mode go_on old rs)) same h

-- where it failed
pub read_by : (P : RunFault → Type 0) (r : Result Ending RunFault) → IfErr (tally_in r) P → IfErr r P
read_by P (Ok e) h = tt
read_by P (Err f) h = h
