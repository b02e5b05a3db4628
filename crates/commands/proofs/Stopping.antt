-- Why a command stops, from what its parts say.
use Rattle.std.proofs.Common.{◌≡◌, ℕ, true, ◌<◌, ◌-◌, ◌^◌, inl, inr, List, [], Option, Some, IfErr, refl, sym, subst, ◌∙◌}
use Rattle.std.specs.Prelude.{Result, Ok, Err, codes, string_bytes}
use Rattle.std.specs.Option.{option_map}
use Rattle.std.specs.FinMap as finite
use Rattle.device.specs.Device.{Written}
use Rattle.ldif_lines.specs.Records.{records}
use Rattle.ldif.specs.declared.write.WriteFault.{WriteFault}
use Rattle.ldif.specs.declared.write.WriteFault.TheVariants as writes
use Rattle.schema.specs.Conf.{Conf}
use Rattle.schema.specs.declared.code.Code.{Code}
use Rattle.tree.specs.Directories.{Entries}
use Rattle.ldif.specs.Written.{Writes}
use Rattle.databases.specs.Faults.{Failures}
use Rattle.databases.specs.Loading.{StopsAt}
use Rattle.databases.specs.declared.runs.RunFault.{RunFault}
use Rattle.databases.specs.declared.runs.RunFault.TheVariants as run_faults
use Rattle.databases.specs.declared.loading.LoadFault.{LoadFault}
use Rattle.databases.specs.declared.loading.LoadFault.TheVariants as loads
use Rattle.filter_text.specs.Spells.{FilterContent}
use Rattle.commands.specs.Asked.{IsFilter, HasFilter}
use Rattle.folders.specs.Folders.{Files, Finds}
use Rattle.commands.specs.DirectoryFiles.{conf_name, data_name, index_name}
use Rattle.commands.specs.Worlds.{World}
use Rattle.commands.specs.Endings.{StoppedAt, ReportsStop, Stops}
use Rattle.commands.specs.Loaded.{IsConfigured, IsLoaded, LoadFails}
use Rattle.commands.specs.Failures.{IsMemory, FailsToRead, FailsToWrite}
use Rattle.commands.specs.Changes.{Breaks}
use Rattle.commands.specs.Prints.{ComesFirst, ComesLater}
use Rattle.commands.specs.Queries.{Wanted, IsRefusedWith, target_of, StopsWith, IsBegun, HasBegun, PrintsPartly, QueryStops}
use Rattle.commands.specs.inner.Refusals.{FilterFails, RefusesOrBreaks}
use Rattle.commands.specs.Failures.{Refuses}
use Rattle.commands.specs.inner.LoadFaults.{TellsLoadFault}
use Rattle.commands.specs.inner.WriteFaults.{TellsWriteFault}
use Rattle.commands.specs.inner.Stopped.{CanReport, HasStopped}
use Rattle.commands.specs.declared.messages.Status.{Status}
use Rattle.commands.specs.declared.messages.CommandFault.{CommandFault}
use Rattle.commands.specs.declared.messages.CommandFault.TheVariants as faults
use Rattle.commands.specs.declared.messages.Stop.{Stop}
use Rattle.commands.specs.declared.messages.Stop.TheVariants as stops

-- ---- the faults that a failure becomes

-- memory ran out
pub of_memory : (P : CommandFault → Type 0) → P faults.OutOfMemory → (f : CommandFault) → IsMemory f → P f
of_memory P p faults.Words h = absurd h
of_memory P p (faults.Filter fault) h = absurd h
of_memory P p (faults.Code by code) h = absurd h
of_memory P p (faults.Configuration line kind) h = absurd h
of_memory P p (faults.Data line why) h = absurd h
of_memory P p (faults.Content file line why) h = absurd h
of_memory P p (faults.CannotRead n) h = absurd h
of_memory P p (faults.CannotWrite n) h = absurd h
of_memory P p (faults.Line number fault) h = absurd h
of_memory P p (faults.LineCode number code) h = absurd h
of_memory P p (faults.InUse n) h = absurd h
of_memory P p faults.OutOfMemory h = p

-- what has this name can't be read, or memory ran out
pub of_unread : (P : CommandFault → Type 0) (name : List ℕ) → ((n : _) → string_bytes n ≡ name → P (faults.CannotRead n)) → P faults.OutOfMemory → (f : CommandFault) → FailsToRead name f → P f
of_unread P name unread p faults.Words h = absurd h
of_unread P name unread p (faults.Filter fault) h = absurd h
of_unread P name unread p (faults.Code by code) h = absurd h
of_unread P name unread p (faults.Configuration line kind) h = absurd h
of_unread P name unread p (faults.Data line why) h = absurd h
of_unread P name unread p (faults.Content file line why) h = absurd h
of_unread P name unread p (faults.CannotRead n) h = unread n h
of_unread P name unread p (faults.CannotWrite n) h = absurd h
of_unread P name unread p (faults.Line number fault) h = absurd h
of_unread P name unread p (faults.LineCode number code) h = absurd h
of_unread P name unread p (faults.InUse n) h = absurd h
of_unread P name unread p faults.OutOfMemory h = p

-- what has this name can't be written, or memory ran out
of_unwritten : (P : CommandFault → Type 0) (name : List ℕ) → ((n : _) → string_bytes n ≡ name → P (faults.CannotWrite n)) → P faults.OutOfMemory → (f : CommandFault) → FailsToWrite name f → P f
of_unwritten P name unwritten p faults.Words h = absurd h
of_unwritten P name unwritten p (faults.Filter fault) h = absurd h
of_unwritten P name unwritten p (faults.Code by code) h = absurd h
of_unwritten P name unwritten p (faults.Configuration line kind) h = absurd h
of_unwritten P name unwritten p (faults.Data line why) h = absurd h
of_unwritten P name unwritten p (faults.Content file line why) h = absurd h
of_unwritten P name unwritten p (faults.CannotRead n) h = absurd h
of_unwritten P name unwritten p (faults.CannotWrite n) h = unwritten n h
of_unwritten P name unwritten p (faults.Line number fault) h = absurd h
of_unwritten P name unwritten p (faults.LineCode number code) h = absurd h
of_unwritten P name unwritten p (faults.InUse n) h = absurd h
of_unwritten P name unwritten p faults.OutOfMemory h = p

-- ---- what is reported of a stop

-- standard error can fail once more, so anything can be reported
pub fits_reports : (why : Stop) (n : ℕ) → n < 2 ^ 64 - 1 → CanReport why n
fits_reports (stops.Fault fault) n fits = fits
fits_reports (stops.Usage text) n fits = fits
fits_reports stops.Messages n fits = tt

pub each_reports : {A : Type 0} (r : Result A Stop) (n : ℕ) → n < 2 ^ 64 - 1 → IfErr r (λ why. CanReport why n)
each_reports {A} (Ok x) n fits = tt
each_reports {A} (Err why) n fits = fits_reports why n fits

-- where standard error can fail once more before a run, it can afterwards, unless it is what failed
pub can_report : (f : RunFault) (name : List ℕ) (why : Stop) (s s' w w' : ℕ) → w < 2 ^ 64 - 1 → Failures (Err f) s s' w w' → Breaks f name why → CanReport why w'
can_report (run_faults.Read t) name why s s' w w' fits h breaks = fits_reports why w' (subst (λ (n : ℕ). n < 2 ^ 64 - 1) (sym h.1) fits)
can_report (run_faults.Write t) name why s s' w w' fits h breaks = subst (λ (o : Stop). CanReport o w') (sym breaks) tt
can_report (run_faults.OutOfMemory t) name why s s' w w' fits h breaks = fits_reports why w' (subst (λ (n : ℕ). n < 2 ^ 64 - 1) (sym h.1) fits)

-- it stops, and no file was stored
pub stopped : (ComesTo : World → StoppedAt → Type 0) (w w' : World) (why : Stop) → ComesTo w (record { why = why; stored = []; world = w' }) → w'.files ≡ w.files → HasStopped ComesTo w w' why
stopped ComesTo w w' why comes same = record { stored = []; comes = comes; files = same }

-- and then it reports why
pub reported : (ComesTo : World → StoppedAt → Type 0) (w mid : World) (messages : Written) (why : Stop) (s : Status) → HasStopped ComesTo w mid why → ReportsStop why mid.messages messages s → Stops ComesTo w (record mid { messages = messages }) s
reported ComesTo w mid messages why s has tells = record {
  at = record { why = why; stored = has.stored; world = mid };
  comes = has.comes;
  files = has.files;
  reported = tells;
  stays = refl;
}

-- ---- loading

module _ (files : Option Files) (db : List ℕ) where
  pub data_unread : (conf : Conf) (name : List ℕ) (f : CommandFault) → IsConfigured files (conf_name db) conf → name ≡ data_name db → FailsToRead name f → LoadFails files db f
  data_unread conf name f configured is = of_unread (LoadFails files db) name (λ n named. inr (record { conf = conf; configured = configured; name_is = named ∙ is })) tt f

  pub memory_loads : (f : CommandFault) → IsMemory f → LoadFails files db f
  memory_loads = of_memory (LoadFails files db) tt

  -- a fault of loading the file, reported as the command's
  pub load_told : (conf : Conf) (named name : List ℕ) (text : Option (List ℕ)) (fault : LoadFault) (f : CommandFault)
      → TellsLoadFault named fault f → named ≡ data_name db → IsConfigured files (conf_name db) conf → name ≡ data_name db → Finds files name (Some text) → StopsAt fault conf finite.empty (option_map records text) → LoadFails files db f
  load_told conf named name text loads.Read f reported is configured is_data finds stops = data_unread conf named f configured is reported
  load_told conf named name text loads.OutOfMemory f reported is configured is_data finds stops = memory_loads f reported
  load_told conf named name text (loads.Refused line why) f reported is configured is_data finds stops = subst (LoadFails files db) (sym reported) (record {
    conf = conf;
    configured = configured;
    text = text;
    there = subst (λ (n : List ℕ). Finds files n (Some text)) is_data finds;
    refused = stops;
  })

-- ---- search and slapcat

-- of each fault that an answer may hold
pub of_faults : {A E : Type 0} {P Q : E → Type 0} (r : Result A E) → ((f : E) → P f → Q f) → IfErr r P → IfErr r Q
of_faults {A} {E} {P} {Q} (Ok x) goes h = tt
of_faults {A} {E} {P} {Q} (Err f) goes h = goes f h

module _ (q : Wanted) (files : Option Files) where
  pub filter_stops : (f : CommandFault) → FilterFails q.filter f → StopsWith q files f
  filter_stops faults.Words h = h
  filter_stops (faults.Filter fault) h = h
  filter_stops (faults.Code by code) h = absurd h
  filter_stops (faults.Configuration line kind) h = absurd h
  filter_stops (faults.Data line why) h = absurd h
  filter_stops (faults.Content file line why) h = absurd h
  filter_stops (faults.CannotRead name) h = absurd h
  filter_stops (faults.CannotWrite name) h = absurd h
  filter_stops (faults.Line number fault) h = absurd h
  filter_stops (faults.LineCode number code) h = absurd h
  filter_stops (faults.InUse name) h = absurd h
  filter_stops faults.OutOfMemory h = h

  unwritten_stops : (f : CommandFault) → FailsToWrite (target_of q.file) f → StopsWith q files f
  unwritten_stops = of_unwritten (StopsWith q files) (target_of q.file) (λ n named. named) tt

  -- behind the filter
  module _ (t : FilterContent) (spelled : IsFilter q.filter t) where
    has : HasFilter q.filter
    has = (t, spelled)

    pub load_stops : (f : CommandFault) → LoadFails files q.db f → StopsWith q files f
    load_stops faults.Words h = h
    load_stops (faults.Filter fault) h = absurd h
    load_stops (faults.Code by code) h = absurd h
    load_stops (faults.Configuration line kind) h = (has, h)
    load_stops (faults.Data line why) h = (has, h)
    load_stops (faults.Content file line why) h = absurd h
    load_stops (faults.CannotRead name) h = (has, inl h)
    load_stops (faults.CannotWrite name) h = absurd h
    load_stops (faults.Line number fault) h = absurd h
    load_stops (faults.LineCode number code) h = absurd h
    load_stops (faults.InUse name) h = absurd h
    load_stops faults.OutOfMemory h = tt

    pub index_stops : (conf : Conf) (d : Entries) → q.needs_index ≡ true → IsLoaded files q.db conf d → (f : CommandFault) → FailsToRead (index_name q.db) f → StopsWith q files f
    index_stops conf d needs loaded = of_unread (StopsWith q files) (index_name q.db) (λ n named. (has, inr (record { needs = needs; conf = conf; entries = d; loaded = loaded; name_is = named }))) tt

    refused_so : (conf : Conf) (d : Entries) → IsLoaded files q.db conf d → (f : CommandFault) → Refuses q.command (IsRefusedWith q conf d) f → StopsWith q files f
    refused_so conf d loaded faults.Words h = h
    refused_so conf d loaded (faults.Filter fault) h = absurd h
    refused_so conf d loaded (faults.Code by code) h = (has, h.0, record { conf = conf; entries = d; loaded = loaded; refused = h.1 })
    refused_so conf d loaded (faults.Configuration line kind) h = absurd h
    refused_so conf d loaded (faults.Data line why) h = absurd h
    refused_so conf d loaded (faults.Content file line why) h = absurd h
    refused_so conf d loaded (faults.CannotRead name) h = absurd h
    refused_so conf d loaded (faults.CannotWrite name) h = absurd h
    refused_so conf d loaded (faults.Line number fault) h = absurd h
    refused_so conf d loaded (faults.LineCode number code) h = absurd h
    refused_so conf d loaded (faults.InUse name) h = absurd h
    refused_so conf d loaded faults.OutOfMemory h = tt

    pub refused_stops : (conf : Conf) (d : Entries) → IsLoaded files q.db conf d → (f : CommandFault) → RefusesOrBreaks q conf d f → StopsWith q files f
    refused_stops conf d loaded f (inl refuses) = refused_so conf d loaded f refuses
    refused_stops conf d loaded f (inr unwritten) = unwritten_stops f unwritten

-- what holds of the code that a command ends with, said of more
pub refuses_more : (command : List ℕ) (Less More : Code → Type 0) → ((code : Code) → Less code → More code) → (f : CommandFault) → Refuses command Less f → Refuses command More f
refuses_more command Less More goes faults.Words h = h
refuses_more command Less More goes (faults.Filter fault) h = h
refuses_more command Less More goes (faults.Code by code) h = (h.0, goes code h.1)
refuses_more command Less More goes (faults.Configuration line kind) h = h
refuses_more command Less More goes (faults.Data line why) h = h
refuses_more command Less More goes (faults.Content file line why) h = h
refuses_more command Less More goes (faults.CannotRead name) h = h
refuses_more command Less More goes (faults.CannotWrite name) h = h
refuses_more command Less More goes (faults.Line number fault) h = h
refuses_more command Less More goes (faults.LineCode number code) h = h
refuses_more command Less More goes (faults.InUse name) h = h
refuses_more command Less More goes faults.OutOfMemory h = h

-- a query stops with this fault
pub query_stops : (q : Wanted) (IsText : List ℕ → Type 0) (w w' : World) (f : CommandFault) → StopsWith q w.files f → PrintsPartly (HasBegun IsText q.file) w.output w'.output f → w' ≡ record w { output = w'.output }
    → QueryStops q IsText w (record { why = stops.Fault f; stored = []; world = w' })
query_stops q IsText w w' f why printed stays = record { fault = f; fault_is = refl; why = why; printed = printed; only = record { stored = refl; stays = stays } }

-- ---- what was printed by then

first_of : (P : CommandFault → Type 0) → ((by : _) (code : Code) → P (faults.Code by code) → ⊥) → ((n : _) → P (faults.CannotWrite n) → ⊥) → (f : CommandFault) → P f → ComesFirst f
first_of P none unwritten faults.Words h = tt
first_of P none unwritten (faults.Filter fault) h = tt
first_of P none unwritten (faults.Code by code) h = none by code h
first_of P none unwritten (faults.Configuration line kind) h = tt
first_of P none unwritten (faults.Data line why) h = tt
first_of P none unwritten (faults.Content file line why) h = tt
first_of P none unwritten (faults.CannotRead name) h = tt
first_of P none unwritten (faults.CannotWrite name) h = unwritten name h
first_of P none unwritten (faults.Line number fault) h = tt
first_of P none unwritten (faults.LineCode number code) h = tt
first_of P none unwritten (faults.InUse name) h = tt
first_of P none unwritten faults.OutOfMemory h = tt

module _ (Partly : CommandFault → Written → Written → Type 0) (a b : Written) (same : b ≡ a) where
  -- nothing was, where the fault isn't one of writing
  nothing_prints : (P : CommandFault → Type 0) → ((n : _) → P (faults.CannotWrite n) → ⊥) → (f : CommandFault) → P f → PrintsPartly Partly a b f
  nothing_prints P none faults.Words h = same
  nothing_prints P none (faults.Filter fault) h = same
  nothing_prints P none (faults.Code by code) h = same
  nothing_prints P none (faults.Configuration line kind) h = same
  nothing_prints P none (faults.Data line why) h = same
  nothing_prints P none (faults.Content file line why) h = same
  nothing_prints P none (faults.CannotRead name) h = same
  nothing_prints P none (faults.CannotWrite name) h = absurd (none name h)
  nothing_prints P none (faults.Line number fault) h = same
  nothing_prints P none (faults.LineCode number code) h = same
  nothing_prints P none (faults.InUse name) h = same
  nothing_prints P none faults.OutOfMemory h = inl same

  pub filter_prints : (text : Option (List ℕ)) (f : CommandFault) → FilterFails text f → PrintsPartly Partly a b f
  filter_prints text = nothing_prints (FilterFails text) (λ n h. h)

  pub load_prints : (files : Option Files) (db : List ℕ) (f : CommandFault) → LoadFails files db f → PrintsPartly Partly a b f
  load_prints files db = nothing_prints (LoadFails files db) (λ n h. h)

  pub refused_prints : (command : List ℕ) (Holds : Code → Type 0) (f : CommandFault) → Refuses command Holds f → PrintsPartly Partly a b f
  refused_prints command Holds = nothing_prints (Refuses command Holds) (λ n h. h)

-- a fault of the filter, of the directory or of a file that is read comes first, and then nothing was
pub filter_first : (text : Option (List ℕ)) (f : CommandFault) → FilterFails text f → ComesFirst f
filter_first text = first_of (FilterFails text) (λ by code h. h) (λ n h. h)

pub load_first : (files : Option Files) (db : List ℕ) (f : CommandFault) → LoadFails files db f → ComesFirst f
load_first files db = first_of (LoadFails files db) (λ by code h. h) (λ n h. h)

pub unread_first : (name : List ℕ) (f : CommandFault) → FailsToRead name f → ComesFirst f
unread_first name = first_of (FailsToRead name) (λ by code h. h) (λ n h. h)

-- a base that isn't there, and what is printed to, come later
pub refused_later : (q : Wanted) (conf : Conf) (d : Entries) (f : CommandFault) → RefusesOrBreaks q conf d f → ComesLater f
refused_later q conf d faults.Words (inl h) = h
refused_later q conf d faults.Words (inr h) = h
refused_later q conf d (faults.Filter fault) (inl h) = h
refused_later q conf d (faults.Filter fault) (inr h) = h
refused_later q conf d (faults.Code by code) h = tt
refused_later q conf d (faults.Configuration line kind) (inl h) = h
refused_later q conf d (faults.Configuration line kind) (inr h) = h
refused_later q conf d (faults.Data line why) (inl h) = h
refused_later q conf d (faults.Content file line why) (inl h) = h
refused_later q conf d (faults.Data line why) (inr h) = h
refused_later q conf d (faults.Content file line why) (inr h) = h
refused_later q conf d (faults.CannotRead n) (inl h) = h
refused_later q conf d (faults.CannotRead n) (inr h) = h
refused_later q conf d (faults.CannotWrite n) h = tt
refused_later q conf d (faults.Line number fault) (inl h) = h
refused_later q conf d (faults.LineCode number code) (inl h) = h
refused_later q conf d (faults.InUse n) (inl h) = h
refused_later q conf d (faults.Line number fault) (inr h) = h
refused_later q conf d (faults.LineCode number code) (inr h) = h
refused_later q conf d (faults.InUse n) (inr h) = h
refused_later q conf d faults.OutOfMemory h = tt

pub first_prints : (Partly : CommandFault → Written → Written → Type 0) (a b : Written) → b ≡ a → (f : CommandFault) → ComesFirst f → PrintsPartly Partly a b f
first_prints Partly a b same = nothing_prints Partly a b same ComesFirst (λ n h. h)

-- while it was printed, that failed
pub unwritten_prints : (Partly : CommandFault → Written → Written → Type 0) (a b : Written) (target : List ℕ) (f : CommandFault) → FailsToWrite target f → Partly f a b → PrintsPartly Partly a b f
unwritten_prints Partly a b target = of_unwritten (λ f. Partly f a b → PrintsPartly Partly a b f) target (λ n named partly. partly) inr

-- what was printed by then, said of more
pub prints_more : (Less More : CommandFault → Written → Written → Type 0) (a b : Written) → ((f : CommandFault) → Less f a b → More f a b) → (f : CommandFault) → PrintsPartly Less a b f → PrintsPartly More a b f
prints_more Less More a b goes faults.Words same = same
prints_more Less More a b goes (faults.Filter fault) same = same
prints_more Less More a b goes (faults.Code by code) same = same
prints_more Less More a b goes (faults.Configuration line kind) same = same
prints_more Less More a b goes (faults.Data line why) same = same
prints_more Less More a b goes (faults.Content file line why) same = same
prints_more Less More a b goes (faults.CannotRead name) same = same
prints_more Less More a b goes (faults.CannotWrite name) partly = goes (faults.CannotWrite name) partly
prints_more Less More a b goes (faults.Line number fault) same = same
prints_more Less More a b goes (faults.LineCode number code) same = same
prints_more Less More a b goes (faults.InUse name) same = same
prints_more Less More a b goes faults.OutOfMemory (inl same) = inl same
prints_more Less More a b goes faults.OutOfMemory (inr partly) = inr (goes faults.OutOfMemory partly)

-- a text was begun, with the fault that the output's becomes
pub begun_told : (fault : WriteFault) (f : CommandFault) (a b : Written) (text : List ℕ) → TellsWriteFault fault f → Writes (Err fault) a b text → IsBegun f a b text
begun_told writes.Device f a b text reported broke = of_unwritten (λ f. IsBegun f a b text) (codes "output") (λ n named. broke) (inl broke) f reported
begun_told writes.OutOfMemory f a b text reported begun = of_memory (λ f. IsBegun f a b text) (inr begun) f reported

pub write_told : (fault : WriteFault) (f : CommandFault) → TellsWriteFault fault f → FailsToWrite (codes "output") f
write_told writes.Device f reported = reported
write_told writes.OutOfMemory f reported = of_memory (FailsToWrite (codes "output")) tt f reported
