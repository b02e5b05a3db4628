-- How a search of a list ends, from what its parts say.
use Rattle.std.proofs.Common.{◌≡◌, ℕ, inl, inr, List, [], Option, Some, None, refl, sym, ap, ◌∙◌, subst}
use Rattle.std.specs.Prelude.{Result, Ok, Err, codes}
use Rattle.std.specs.Option.{option_copied}
use Rattle.device.specs.Device.{Written}
use Rattle.schema.specs.Conf.{Conf}
use Rattle.tree.specs.Directories.{Entries}
use Rattle.tree.specs.Trees.{Tree}
use Rattle.filter_text.specs.declared.filter_fault.FilterFault.{FilterFault}
use Rattle.folders.specs.Folders.{Files, with_files}
use Rattle.command_line.specs.declared.request.SearchOptions.{SearchOptions}
use Rattle.commands.specs.DirectoryFiles.{index_name}
use Rattle.commands.specs.Endings.{StoppedAt}
use Rattle.commands.specs.Failures.{FailsToRead, Refuses}
use Rattle.commands.specs.IndexFiles.{Said, SaysOf, ReportsFault}
use Rattle.commands.specs.Lists.{Common, IsCommon, RunsLines, StopsInLine, StopsInLines, ReadsList, ListRuns, ListBreaks, ListGoesThrough, ListStops, list_source, lines}
use Rattle.commands.specs.Changes.{source_name}
use Rattle.commands.specs.Loaded.{IsLoaded, LoadFails}
use Rattle.commands.specs.Prints.{IsSaid}
use Rattle.commands.specs.Queries.{HasNoBase}
use Rattle.commands.specs.Texts.{ReadsAtMost}
use Rattle.commands.specs.Worlds.{World}
use Rattle.commands.specs.inner.IndexFiles.{FailsToReport}
use Rattle.commands.specs.inner.Lists.{HasFrame, common_of}
use Rattle.commands.specs.inner.Refusals.{FilterFails}
use Rattle.commands.specs.inner.Stopped.{HasStopped, HasEnded}
use Rattle.commands.specs.declared.messages.CommandFault.{CommandFault}
use Rattle.commands.specs.declared.messages.CommandFault.TheVariants as faults
use Rattle.commands.specs.declared.messages.Status.{Status}
use Rattle.commands.specs.declared.messages.Status.TheVariants.{Done}
use Rattle.commands.specs.declared.messages.Stop.{Stop}
use Rattle.commands.specs.declared.messages.Stop.TheVariants as stops
use Rattle.commands.specs.declared.query.Query.{Query}
use Rattle.commands.proofs.Listed.{want_in_line}
use Rattle.commands.proofs.SourcesRead.{same_files}
use Rattle.commands.proofs.Stopping.{stopped, memory_loads}

-- what stopped so, said of more
pub stopped_behind : (ComesTo ComesTo' : World → StoppedAt → Type 0) (w mid w' : World) → mid.files ≡ w.files → ((at : StoppedAt) → ComesTo mid at → ComesTo' w at)
    → (why : Stop) → HasStopped ComesTo mid w' why → HasStopped ComesTo' w w' why
stopped_behind ComesTo ComesTo' w mid w' same comes why h = record {
  stored = h.stored;
  comes = comes (record { why = why; stored = h.stored; world = w' }) h.comes;
  files = h.files ∙ ap (λ (fs : Option Files). with_files fs h.stored) same;
}

-- what ended behind a beginning that changed no file, said of the whole
pub ended_behind : (Goes Goes' : World → World → Status → Type 0) (ComesTo ComesTo' : World → StoppedAt → Type 0) (w mid w' : World) → mid.files ≡ w.files
    → ((s : Status) → Goes mid w' s → Goes' w w' s) → ((at : StoppedAt) → ComesTo mid at → ComesTo' w at)
    → (result : Result Status Stop) → HasEnded Goes ComesTo mid w' result → HasEnded Goes' ComesTo' w w' result
ended_behind Goes Goes' ComesTo ComesTo' w mid w' same goes comes (Ok s) h = goes s h
ended_behind Goes Goes' ComesTo ComesTo' w mid w' same goes comes (Err why) h = stopped_behind ComesTo ComesTo' w mid w' same comes why h

-- ---- a line

-- a fault that isn't one of the filter's text is want of memory
pub filter_want : (asked : SearchOptions) (c : Common) (line : List ℕ) (w : World) (text : Option (List ℕ)) (fault : CommandFault) → FilterFails text fault
    → ((f : FilterFault) → ¬ (fault ≡ faults.Filter f)) → HasStopped (StopsInLine asked c line) w w (stops.Fault fault)
filter_want asked c line w text (faults.Filter f) fails other = absurd (other f refl)
filter_want asked c line w text faults.OutOfMemory fails other = want_in_line asked c line w
filter_want asked c line w text faults.Words fails other = absurd fails
filter_want asked c line w text (faults.Line number fault) fails other = absurd fails
filter_want asked c line w text (faults.LineCode number code) fails other = absurd fails
filter_want asked c line w text (faults.Code by code) fails other = absurd fails
filter_want asked c line w text (faults.Configuration number kind) fails other = absurd fails
filter_want asked c line w text (faults.Data number why) fails other = absurd fails
filter_want asked c line w text (faults.Content file number why) fails other = absurd fails
filter_want asked c line w text (faults.CannotRead name) fails other = absurd fails
filter_want asked c line w text (faults.CannotWrite name) fails other = absurd fails
filter_want asked c line w text (faults.InUse name) fails other = absurd fails

-- ---- behind the report of what is wrong with index.txt

module _ (name : List ℕ) (asked : SearchOptions) (said : Said) (w : World) where
  -- the base isn't there, or memory ran out
  pub no_list_base : (conf : Conf) (d : Entries) → IsLoaded w.files asked.db.now conf d → (fault : CommandFault) → Refuses (codes "search") (HasNoBase conf d (option_copied asked.base)) fault
      → HasStopped (ListBreaks name asked said) w w (stops.Fault fault)
  no_list_base conf d loaded fault refuses = stopped (ListBreaks name asked said) w w (stops.Fault fault)
      (inl (record { conf = conf; entries = d; loaded = loaded; why = refuses; at_once = record { stored = refl; world = refl } })) refl

  -- the list can't be read, or memory ran out by then
  pub list_unread : (w' : World) (fault : CommandFault) → ReadsAtMost (list_source name) w w' → FailsToRead (source_name (list_source name)) fault
      → HasStopped (ListBreaks name asked said) w w' (stops.Fault fault)
  list_unread w' fault stays unread = stopped (ListBreaks name asked said) w w' (stops.Fault fault)
      (inr (inl (record { why = unread; stored = refl; stays = stays }))) (same_files (list_source name) w w' stays)

  -- what all searches have in common is looked up
  module _ (t : Tree) (q : Query) (frame : HasFrame asked t q) (loaded : IsLoaded w.files asked.db.now t.conf t.entries) (says : SaysOf w.files asked.db.now t.conf t.entries said)
      (text : List ℕ) (mid : World) (reads : ReadsList name text w mid) where
    is_common : IsCommon asked w.files (common_of said t q)
    is_common = record { loaded = loaded; says = says; base_is = frame.base; there = frame.frame.there; selects = frame.selection }

    pub list_ran : (w' : World) (result : Result Status Stop)
        → HasEnded (RunsLines asked (common_of said t q) 1 Done (lines text)) (StopsInLines asked (common_of said t q) 1 (lines text)) mid w' result
        → HasEnded (ListRuns name asked said) (ListBreaks name asked said) w w' result
    list_ran w' = ended_behind (RunsLines asked (common_of said t q) 1 Done (lines text)) (ListRuns name asked said) (StopsInLines asked (common_of said t q) 1 (lines text)) (ListBreaks name asked said) w mid w'
        (ap (λ (v : World). v.files) reads.stays)
        (λ s runs. record { common = common_of said t q; is = is_common; said_is = refl; text = text; mid = mid; reads = reads; runs = runs })
        (λ at breaks. inr (inr (record { common = common_of said t q; is = is_common; said_is = refl; text = text; mid = mid; reads = reads; stops = breaks })))

-- ---- the whole

module _ (name : List ℕ) (asked : SearchOptions) (w : World) where
  -- no directory was loaded
  pub list_unloaded : (fault : CommandFault) → LoadFails w.files asked.db.now fault → HasStopped (ListStops name asked) w w (stops.Fault fault)
  list_unloaded fault fails = stopped (ListStops name asked) w w (stops.Fault fault) (inl (fails, record { stored = refl; world = refl })) refl

  -- one was, and its index.txt can't be read
  pub list_index_unread : (conf : Conf) (d : Entries) → IsLoaded w.files asked.db.now conf d → (fault : CommandFault) → FailsToRead (index_name asked.db.now) fault
      → HasStopped (ListStops name asked) w w (stops.Fault fault)
  list_index_unread conf d loaded fault unread = stopped (ListStops name asked) w w (stops.Fault fault)
      (inr (inl (record { conf = conf; entries = d; loaded = loaded; why = unread; at_once = record { stored = refl; world = refl } }))) refl

  -- its fault can't be reported
  unreported_so : (s : Said) (m : Written) (why : Stop) → IsSaid asked w.files s → FailsToReport s w.messages m why → ListStops name asked w (record { why = why; stored = []; world = record w { messages = m } })
  unreported_so (Some (Err fault)) m (stops.Fault f) is fails =
      subst (λ (messages : Written). ListStops name asked w (record { why = stops.Fault f; stored = []; world = record w { messages = messages } })) (sym fails.1)
      (inl (memory_loads w.files asked.db.now f fails.0, record { stored = refl; world = refl }))
  unreported_so (Some (Err fault)) m (stops.Usage text) is fails = absurd fails
  unreported_so (Some (Err fault)) m stops.Messages is fails = inr (inr (inl (record { fault = fault; is = is; why = refl; stored = refl; broke = fails; stays = refl })))
  unreported_so (Some (Ok stored)) m why is fails = absurd fails
  unreported_so None m why is fails = absurd fails

  pub list_unreported : (s : Said) (m : Written) (why : Stop) → IsSaid asked w.files s → FailsToReport s w.messages m why → HasStopped (ListStops name asked) w (record w { messages = m }) why
  list_unreported s m why is fails = stopped (ListStops name asked) w (record w { messages = m }) why (unreported_so s m why is fails) refl

  -- it was reported, if there is one
  module _ (s : Said) (m : Written) (is : IsSaid asked w.files s) (reports : ReportsFault s w.messages m) where
    pub list_reported : (w' : World) (result : Result Status Stop) → HasEnded (ListRuns name asked s) (ListBreaks name asked s) (record w { messages = m }) w' result
        → HasEnded (ListGoesThrough name asked) (ListStops name asked) w w' result
    list_reported w' = ended_behind (ListRuns name asked s) (ListGoesThrough name asked) (ListBreaks name asked s) (ListStops name asked) w (record w { messages = m }) w' refl
        (λ status runs. record { said = s; is = is; index_reported = record w { messages = m }; reports = record { reports = reports; stays = refl }; runs = runs })
        (λ at breaks. inr (inr (inr (record { said = s; is = is; index_reported = record w { messages = m }; reports = record { reports = reports; stays = refl }; breaks = breaks }))))
