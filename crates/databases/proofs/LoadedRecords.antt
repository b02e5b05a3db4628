-- Loading: a run of content records from the empty directory on, which the first refused record ends.
use Rattle.std.proofs.Common.{◌≡◌, ℕ, arith, List, [], ◌∷◌, length, Option, refl, ◌∙◌, sym, subst}
use Rattle.std.specs.FinMap as finite
use Rattle.device.specs.Device.{Seen, Written}
use Rattle.ldif_lines.specs.Records.{RawRecord, closed_records}
use Rattle.ldif.specs.declared.record.Mode.TheVariants.{Content}
use Rattle.std.specs.Prelude.{false, Err}
use Rattle.databases.specs.Faults.{Failures}
use Rattle.databases.specs.Loading.{StopsAt, PullFailures}
use Rattle.databases.specs.inner.Endings.{load_fault_of}
use Rattle.databases.specs.declared.loading.LoadFault.{LoadFault}
use Rattle.databases.specs.declared.loading.LoadFault.TheVariants as load_faults
use Rattle.schema.specs.Conf.{Conf}
use Rattle.tree.specs.Directories.{Entries}
use Rattle.databases.specs.FailedReads.{LoadedUpTo, RanUpTo, StopsReading}
use Rattle.databases.specs.Folds.{Over, Ran}
use Rattle.databases.specs.Runs.{state_after, loaded_after, LoadsRecords}
use Rattle.databases.specs.declared.refusal.RefusedRecord.{RefusedRecord}
use Rattle.databases.specs.declared.runs.RunFault.{RunFault}
use Rattle.databases.specs.declared.runs.RunFault.TheVariants as faults
use Rattle.databases.specs.declared.runs.Tally.{Tally}
use Rattle.databases.proofs.Stops.{none_refused}

none_of : {A : Type 0} (xs : List A) → 0 ≡ length xs → xs ≡ []
none_of [] h = refl
none_of (x ∷ xs) h = (cc)

module _ (conf conf' : Conf) (d : Entries) (is : conf' ≡ conf) (empty : d ≡ finite.empty) where
  -- what holds from here on holds from the empty directory on
  from_empty : (P : Conf → Entries → Type 0) → P conf' d → P conf finite.empty
  from_empty P h = subst (λ (c : Conf). P c finite.empty) is (subst (P conf') empty h)

  module _ (all : Option (List RawRecord)) where
    -- none was refused
    pub loads_all : (new : Entries) (t : Tally) (a b : Written) → Over all (λ given. Ran conf' Content false d new given t a b) → t.refused ≡ 0 → Over all (λ given. LoadsRecords conf finite.empty given new)
    loads_all new t a b h none = from_empty (λ c x. Over all (λ given. LoadsRecords c x given new))
        (record { given = h.given; are = h.are; so = record { entries = h.so.entries; all = none_of _ (sym none ∙ h.so.refused) } })

    -- this one was
    pub stops_at : (x : RefusedRecord) → Over all (λ given. (state_after conf' Content false d given).refused ≡ (x.line, x.refusal) ∷ []) → Over all (λ given. (loaded_after conf finite.empty given).refused ≡ (x.line, x.refusal) ∷ [])
    stops_at x h = from_empty (λ c y. Over all (λ given. (loaded_after c y given).refused ≡ (x.line, x.refusal) ∷ [])) h

  -- the source failed
  stops_reading : (s s' : Seen) (new : Entries) (t : Tally) (a b : Written) → RanUpTo closed_records conf' Content false d new t s s' a b → LoadedUpTo closed_records conf finite.empty s s'
  stops_reading s s' new t a b h = from_empty (λ c x. LoadedUpTo closed_records c x s s')
      (record { got = h.got; pulled = h.pulled; taken = none_refused conf' Content false d refl (closed_records h.got) h.left.report.going })

  -- ---- it was broken off

  read_as : (f : RunFault) (s s' : Seen) (new : Entries) (a b : Written) → StopsReading f closed_records conf' Content false d new s s' a b → load_fault_of f ≡ load_faults.Read → LoadedUpTo closed_records conf finite.empty s s'
  read_as (faults.Read t) s s' new a b h is = stops_reading s s' new t a b h
  read_as (faults.Write t) s s' new a b h is = (cc)
  read_as (faults.OutOfMemory t) s s' new a b h is = (cc)

  pub read_by : (f : RunFault) (f' : LoadFault) → f' ≡ load_fault_of f → (s s' : Seen) (new : Entries) (a b : Written) → StopsReading f closed_records conf' Content false d new s s' a b → f' ≡ load_faults.Read → LoadedUpTo closed_records conf finite.empty s s'
  read_by f f' by s s' new a b h is = read_as f s s' new a b h (sym by ∙ is)

pub says_nothing : (conf : Conf) (old : Entries) (all : Option (List RawRecord)) (f : RunFault) (f' : LoadFault) → f' ≡ load_fault_of f → StopsAt f' conf old all
says_nothing conf old all f f' by = subst (λ (x : LoadFault). StopsAt x conf old all) (sym by) (at f)
  where
    at : (f : RunFault) → StopsAt (load_fault_of f) conf old all
    at (faults.Read t) = tt
    at (faults.Write t) = tt
    at (faults.OutOfMemory t) = tt

pub failed_so : (A : Type 0) (f : RunFault) (f' : LoadFault) → f' ≡ load_fault_of f → (s s' w w' : ℕ) → w' ≡ w → Failures (Err f) s s' w w' → PullFailures {A = A} (Err f') s s'
failed_so A f f' by s s' w w' same h = subst (λ (x : LoadFault). PullFailures {A = A} (Err x) s s') (sym by) (at f h)
  where
    at : (f : RunFault) → Failures (Err f) s s' w w' → PullFailures {A = A} (Err (load_fault_of f)) s s'
    at (faults.Read t) k = k.0
    at (faults.Write t) k = k.0
    at (faults.OutOfMemory t) k = k.0

-- what never fails wasn't written to in vain
pub not_writing : (f : RunFault) (s s' w w' : ℕ) → w' ≡ w → Failures (Err f) s s' w w' → (t : Tally) → f ≡ faults.Write t → ⊥
not_writing f s s' w w' same h t is =
    let k : Failures (Err (faults.Write t)) s s' w w' = subst (λ (x : RunFault). Failures (Err x) s s' w w') is h in
    let more = k.1 in
    omega (arith, same, more)
