-- How a command ends that writes, from what its parts say.
use Rattle.std.proofs.Common.{◌≡◌, ℕ, ◌⊎◌, true, false, inl, inr, List, Option, None, Some, refl, sym, subst, ◌∙◌}
use Rattle.std.specs.Prelude.{Result, Ok, Err, if◌then◌else◌}
use Rattle.device.specs.Device.{Written}
use Rattle.command_line.specs.declared.request.Request.{Request}
use Rattle.command_line.specs.declared.request.UsageFault.{UsageFault}
use Rattle.commands.specs.Changes.{written_by}
use Rattle.commands.specs.Commands.{RequestGoesThrough, RequestStops, writes_in}
use Rattle.commands.specs.Endings.{StoppedAt, ReportsStop}
use Rattle.commands.specs.Failures.{IsMemory, FailsToRead, TellsInUse}
use Rattle.folders.specs.Folders.{Files, Finds}
use Rattle.commands.specs.DirectoryFiles.{conf_name}
use Rattle.commands.specs.Locked.{LockFails, HasNoLock, EndsUnder}
use Rattle.folders.specs.Locks.{Locking, Others, IsInUse, IsFree, Takes}
use Rattle.commands.specs.Worlds.{World}
use Rattle.commands.specs.inner.Stopped.{HasEnded, HasEndedUnder}
use Rattle.commands.specs.declared.changes.Task.{Task}
use Rattle.commands.specs.declared.messages.Status.{Status}
use Rattle.commands.specs.declared.messages.CommandFault.{CommandFault}
use Rattle.commands.specs.declared.messages.CommandFault.TheVariants as faults
use Rattle.commands.specs.declared.messages.Stop.{Stop}
use Rattle.commands.specs.declared.messages.Stop.TheVariants as stops
use Rattle.commands.proofs.Stopping.{of_memory, of_unread, stopped, reported}

-- ---- why there is no lock

module _ (files : Option Files) (others : Option Others) (db : List ℕ) where
  pub memory_locks : (f : CommandFault) → IsMemory f → LockFails files others db f
  memory_locks = of_memory (LockFails files others db) tt

  -- it can't be had
  pub unlocked : (name : List ℕ) (f : CommandFault) → name ≡ conf_name db → IsFree others name ⊎ Finds files name None → FailsToRead name f → LockFails files others db f
  unlocked name f is free =
      of_unread (LockFails files others db) name (λ n named. (named ∙ is, subst (λ (n : List ℕ). IsFree others n ⊎ Finds files n None) is free)) tt f

  -- it is in use
  pub used : (name : List ℕ) (f : CommandFault) → name ≡ conf_name db → IsInUse others name → TellsInUse db f → LockFails files others db f
  used name faults.Words is holds h = absurd h
  used name (faults.Filter fault) is holds h = absurd h
  used name (faults.Code by code) is holds h = absurd h
  used name (faults.Configuration line kind) is holds h = absurd h
  used name (faults.Data line why) is holds h = absurd h
  used name (faults.Content file line why) is holds h = absurd h
  used name (faults.CannotRead n) is holds h = absurd h
  used name (faults.CannotWrite n) is holds h = absurd h
  used name (faults.Line number fault) is holds h = absurd h
  used name (faults.LineCode number code) is holds h = absurd h
  used name (faults.InUse n) is holds h = (h, subst (IsInUse others) is holds)
  used name faults.OutOfMemory is holds h = tt

-- ---- how a part ends

module _ (GoesThrough : World → World → Status → Type 0) (ComesTo : World → StoppedAt → Type 0) where
  -- the lock that is seen is the same
  pub so_locked : (w w' : World) (lock : Locking) (result : Result Status Stop) → lock ≡ w'.lock → HasEnded GoesThrough ComesTo w w' result → HasEnded GoesThrough ComesTo w (record w' { lock = lock }) result
  so_locked w w' lock result same = subst (λ (l : Locking). HasEnded GoesThrough ComesTo w (record w' { lock = l }) result) (sym same)

  module _ (db : List ℕ) where
    -- there is no lock
    pub no_lock : (w : World) (files : Option Files) (lock : Locking) (f : CommandFault) → files ≡ w.files → lock ≡ w.lock → LockFails w.files w.lock.others db f
        → HasEndedUnder (Some db) GoesThrough ComesTo w (record w { files = files; lock = lock }) (Err (stops.Fault f))
    no_lock w files lock f same_files same_lock fails =
        inl (stopped (HasNoLock db) w (record w { files = files; lock = lock }) (stops.Fault f) (fails, record { stored = refl; world = λ i. record w { files = same_files i; lock = same_lock i } }) same_files)

    -- there is one
    pub under : (w w' : World) (files : Option Files) (lock : Locking) (result : Result Status Stop) → Takes (conf_name db) w.files files w.lock lock
        → HasEnded GoesThrough ComesTo (record w { files = files; lock = lock }) w' result → HasEndedUnder (Some db) GoesThrough ComesTo w w' result
    under w w' files lock result takes ended = inr (record { locked = record w { files = files; lock = lock }; is = record { takes = takes; stays = refl }; goes = ended })

  -- of slapadd and ldapmodify, in a dry run, and else
  module _ (task : Task) (w w' : World) (result : Result Status Stop) where
    pub dry : task.dry_run ≡ true → HasEnded GoesThrough ComesTo w w' result → HasEndedUnder (written_by task) GoesThrough ComesTo w w' result
    dry is = subst (λ b. HasEndedUnder (if b then None else Some task.db.now) GoesThrough ComesTo w w' result) (sym is)

    pub wet : task.dry_run ≡ false → HasEndedUnder (Some task.db.now) GoesThrough ComesTo w w' result → HasEndedUnder (written_by task) GoesThrough ComesTo w w' result
    wet is = subst (λ b. HasEndedUnder (if b then None else Some task.db.now) GoesThrough ComesTo w w' result) (sym is)

  -- ---- how the command ends

  pub goes_through : (writes : Option (List ℕ)) (w w' : World) (s : Status) → HasEndedUnder writes GoesThrough ComesTo w w' (Ok s) → EndsUnder writes GoesThrough ComesTo w w' s
  goes_through None w w' s ended = inl ended
  goes_through (Some db) w w' s (inl none) = absurd none
  goes_through (Some db) w w' s (inr under) = inr (record { locked = under.locked; is = under.is; goes = inl under.goes })

  pub reports_why : (writes : Option (List ℕ)) (w mid : World) (messages : Written) (why : Stop) (s : Status) → HasEndedUnder writes GoesThrough ComesTo w mid (Err why) → ReportsStop why mid.messages messages s
      → EndsUnder writes GoesThrough ComesTo w (record mid { messages = messages }) s
  reports_why None w mid messages why s ended tells = inr (reported ComesTo w mid messages why s ended tells)
  reports_why (Some db) w mid messages why s (inl none) tells = inl (reported (HasNoLock db) w mid messages why s none tells)
  reports_why (Some db) w mid messages why s (inr under) tells = inr (record { locked = under.locked; is = under.is; goes = inr (reported ComesTo under.locked mid messages why s under.goes tells) })

-- what is asked for by another name
pub asked_so : (asked asked' : Result Request UsageFault) (w w' : World) (result : Result Status Stop) → asked ≡ asked' → HasEndedUnder (writes_in asked') (RequestGoesThrough asked') (RequestStops asked') w w' result
    → HasEndedUnder (writes_in asked) (RequestGoesThrough asked) (RequestStops asked) w w' result
asked_so asked asked' w w' result is = subst (λ (asked : Result Request UsageFault). HasEndedUnder (writes_in asked) (RequestGoesThrough asked) (RequestStops asked) w w' result) (sym is)
