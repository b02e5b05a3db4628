-- How a search ends, from what its parts say.
use Rattle.std.proofs.Common.{◌≡◌, ℕ, inl, inr, Bool, true, false, List, [], ◌∷◌, ◌++◌, length, map, Option, Some, None, refl, sym, ap, ◌∙◌, subst}
use Rattle.std.specs.Prelude.{Ok, Err, if◌then◌else◌, codes}
use Rattle.std.specs.Fmt.{decimal}
use Rattle.std.specs.Option.{option_copied}
use Rattle.std.specs.FinMap as finite
use Rattle.device.specs.Device.{Written}
use Rattle.paths.specs.Paths.{Path}
use Rattle.schema.specs.Conf.{Conf}
use Rattle.schema.specs.declared.code.Code.TheVariants.{NoSuchObject, SizeLimitExceeded}
use Rattle.command_line.specs.declared.request.SearchOptions.{SearchOptions}
use Rattle.filter.specs.Made.{Made}
use Rattle.filter_text.specs.Spells.{view}
use Rattle.entries.specs.Entries.{EntryContent}
use Rattle.tree.specs.Directories.{Entries}
use Rattle.tree.specs.Trees.{Tree}
use Rattle.databases.specs.Found.{up_to, limited_text, goes_past}
use Rattle.databases.specs.Selections.{Selection}
use Rattle.databases.specs.Scanned.{scan}
use Rattle.commands.specs.Asked.{base_of, IsBase, IsSelection}
use Rattle.commands.specs.IndexFiles.{Said, SaysOf, found_by, ReportsFault, IsFaultReported}
use Rattle.commands.specs.Messages.{IsReported, code_text}
use Rattle.commands.specs.Prints.{search_wanted, IsFoundText, SearchText, SearchGoesThrough, IsSaid, ComesFirst, ComesLater, SearchStops}
use Rattle.commands.specs.Queries.{Basis, IsRefusedWith, StopsWith, HasBegun, PrintsPartly}
use Rattle.commands.specs.Worlds.{World}
use Rattle.commands.specs.inner.IndexFiles.{FailsToReport, HasLoaded}
use Rattle.commands.specs.inner.Printed.{HasPrinted, text_as, scanned, found, IsTextOf, FailsToPrint, PrintsFound}
use Rattle.commands.specs.inner.Refusals.{RefusesOrBreaks}
use Rattle.commands.specs.Failures.{Refuses}
use Rattle.commands.specs.inner.Sought.{IsQueryOf, form_of}
use Rattle.commands.specs.inner.Stopped.{HasStopped}
use Rattle.commands.specs.inner.Views.{basis_of}
use Rattle.commands.specs.declared.index_file.IndexFile.{IndexFile}
use Rattle.commands.specs.declared.messages.CommandFault.{CommandFault}
use Rattle.commands.specs.declared.messages.Status.{Status}
use Rattle.commands.specs.declared.messages.Status.TheVariants.{Done, Refused}
use Rattle.commands.specs.declared.messages.Stop.{Stop}
use Rattle.commands.specs.declared.messages.Stop.TheVariants as stops
use Rattle.commands.specs.declared.query.Query.{Query}
use Rattle.commands.proofs.Ends.{has_basis, printed_more}
use Rattle.commands.proofs.Stopping.{stopped, query_stops, first_prints, prints_more, of_memory, refuses_more, refused_prints, refused_later, refused_stops}

module _ (asked : SearchOptions) (w : World) where
  -- ---- where it stops

  at_once : (f : CommandFault) → StopsWith (search_wanted asked) w.files f → ComesFirst f → SearchStops asked w (record { why = stops.Fault f; stored = []; world = w })
  at_once f why first = inl (record {
    stops = query_stops (search_wanted asked) (λ text. ⊥) w w f why (first_prints (HasBegun (λ text. ⊥) None) w.output w.output refl f first) refl;
    first = first;
  })

  pub stopped_at_once : (f : CommandFault) → StopsWith (search_wanted asked) w.files f → ComesFirst f → HasStopped (SearchStops asked) w w (stops.Fault f)
  stopped_at_once f why first = stopped (SearchStops asked) w w (stops.Fault f) (at_once f why first) refl

  pub unreported : (s : Said) (m : Written) (why : Stop) → IsSaid asked w.files s → FailsToReport s w.messages m why → SearchStops asked w (record { why = why; stored = []; world = record w { messages = m } })
  unreported (Some (Err fault)) m (stops.Fault f) is fails =
      subst (λ (messages : Written). SearchStops asked w (record { why = stops.Fault f; stored = []; world = record w { messages = messages } })) (sym fails.1)
      (at_once f (of_memory (StopsWith (search_wanted asked) w.files) tt f fails.0) (of_memory ComesFirst tt f fails.0))
  unreported (Some (Err fault)) m (stops.Usage text) is fails = absurd fails
  unreported (Some (Err fault)) m stops.Messages is fails = inr (inr (record { fault = fault; is = is; why = refl; stored = refl; broke = fails; stays = refl }))
  unreported (Some (Ok stored)) m why is fails = absurd fails
  unreported None m why is fails = absurd fails

  module _ (s : Said) (m : Written) (reports : ReportsFault s w.messages m) where
    index_reported : IsFaultReported s w (record w { messages = m })
    index_reported = record { reports = reports; stays = refl }

    pub stops_reported : (output : Written) (f : CommandFault) → IsSaid asked w.files s → ComesLater f → StopsWith (search_wanted asked) w.files f → PrintsPartly (HasBegun (λ text. (past : Bool) × SearchText asked w.files s past text) None) w.output output f
        → SearchStops asked w (record { why = stops.Fault f; stored = []; world = record w { output = output; messages = m } })
    stops_reported output f is later why printed = inr (inl (record {
      said = s;
      is = is;
      index_reported = record w { messages = m };
      reports = index_reported;
      stops = query_stops (search_wanted asked) (λ text. (past : Bool) × SearchText asked w.files s past text) (record w { messages = m }) (record w { output = output; messages = m }) f why printed refl;
      later = later;
    }))

    -- ---- where it goes through

    pub searched : (output : Written) → HasPrinted (SearchText asked w.files s false) w.output output → SearchGoesThrough asked w (record w { output = output; messages = m }) Done
    searched output h = record {
      said = s;
      past = false;
      text = h.text;
      is = h.is;
      index_reported = record w { messages = m };
      reports = index_reported;
      mid = record w { output = output; messages = m };
      printed = record { took = h.took; stays = refl };
      reported = (refl, refl);
    }

    pub searched_past : (output messages : Written) (status : Status) → HasPrinted (SearchText asked w.files s true) w.output output
        → IsReported m messages (code_text (codes "search") SizeLimitExceeded) Refused status → SearchGoesThrough asked w (record w { output = output; messages = messages }) status
    searched_past output messages status h reported = record {
      said = s;
      past = true;
      text = h.text;
      is = h.is;
      index_reported = record w { messages = m };
      reports = index_reported;
      mid = record w { output = output; messages = m };
      printed = record { took = h.took; stays = refl };
      reported = record { reported = reported; stays = refl };
    }

-- what is printed of what is found, by its two forms
by_count : (count : Bool) (width : ℕ) (conf : Conf) (d : Entries) (s : Selection) (limit : Option ℕ) (es : List (Path × EntryContent))
    → text_as (form_of count) width conf d s limit es ≡ (if count then decimal (length (up_to limit es)) ++ 10 ∷ [] else limited_text width conf d s limit es)
by_count true width conf d s limit es = refl
by_count false width conf d s limit es = refl

-- ---- a search of what was loaded, behind the report of what index.txt says

module _ (asked : SearchOptions) (w : World) (f : Made) (t : Tree) (file : IndexFile) (h : HasLoaded asked w.files f t file) where
  pub is_said : IsSaid asked w.files h.index.said
  is_said = record { conf = t.conf; entries = t.entries; loaded = h.directory; says = h.index.in_file }

  module _ (m : Written) (reports : ReportsFault h.index.said w.messages m) where
    stops_so : (output : Written) (fault : CommandFault) → RefusesOrBreaks (search_wanted asked) t.conf t.entries fault
        → PrintsPartly (HasBegun (λ text. (past : Bool) × SearchText asked w.files h.index.said past text) None) w.output output fault
        → SearchStops asked w (record { why = stops.Fault fault; stored = []; world = record w { output = output; messages = m } })
    stops_so output fault refuses printed =
        stops_reported asked w h.index.said m reports output fault is_said
        (refused_later (search_wanted asked) t.conf t.entries fault refuses)
        (refused_stops (search_wanted asked) w.files (view f.filter) h.filter_is t.conf t.entries h.directory fault refuses)
        printed

    -- the base leads nowhere, or memory ran out
    pub no_base : (conf : Conf) → conf ≡ t.conf → (fault : CommandFault) → Refuses (codes "search") (λ code. base_of conf (option_copied asked.base) ≡ Err code) fault
        → SearchStops asked w (record { why = stops.Fault fault; stored = []; world = record w { messages = m } })
    no_base conf same fault refuses = stops_so w.output fault
        (inl (refuses_more (codes "search") (λ code. base_of conf (option_copied asked.base) ≡ Err code) (IsRefusedWith (search_wanted asked) t.conf t.entries)
        (λ code is. inl (refl, inl (ap (λ (conf : Conf). base_of conf (option_copied asked.base)) (sym same) ∙ is))) fault refuses))
        (refused_prints (HasBegun (λ text. (past : Bool) × SearchText asked w.files h.index.said past text) None) w.output w.output refl
        (codes "search") (λ code. base_of conf (option_copied asked.base) ≡ Err code) fault refuses)

    -- by a query
    module _ (q : Query) (conf : Conf) (same : conf ≡ t.conf) (is : IsQueryOf asked f conf q) where
      based : IsBase t.conf (option_copied asked.base) q.base
      based = subst (λ (conf : Conf). IsBase conf (option_copied asked.base) q.base) same is.base

      found_asked : (past : Bool) (text : List ℕ) → IsTextOf q h.index.said t past text → IsFoundText asked h.index.said (basis_of f.filter t) past text
      found_asked past text it =
          let es : found q h.index.said t ≡ found_by h.index.said t.conf t.entries q.base asked.scope (view f.filter)
          = λ i. found_by h.index.said t.conf t.entries q.base (is.scope i) (view (is.filter i).filter) in
          let all : scanned q t ≡ scan t.conf t.entries q.base asked.scope (view f.filter) = λ i. scan t.conf t.entries q.base (is.scope i) (view (is.filter i).filter) in
          record {
            base = q.base;
            selection = q.selection;
            base_is = based;
            there = it.there;
            selects = subst (λ (conf : Conf). IsSelection conf (map (λ w. w.now) asked.attributes.items) q.selection) same is.selection;
            past_is = it.past_is ∙ (λ i. goes_past (is.limit i) (es i));
            text_is = it.text_is
                ∙ (λ i. text_as (is.form i) (is.width i) t.conf t.entries q.selection (is.limit i) (es i))
                ∙ by_count asked.count asked.width t.conf t.entries q.selection asked.limit (found_by h.index.said t.conf t.entries q.base asked.scope (view f.filter));
            whole = λ own. sym es ∙ it.whole own ∙ all;
          }

      text_so : (past : Bool) (text : List ℕ) → IsTextOf q h.index.said t past text → SearchText asked w.files h.index.said past text
      text_so past text it =
          has_basis (search_wanted asked) w.files (basis_of f.filter t) h.filter_is h.directory
          (λ (basis : Basis). SaysOf w.files asked.db.now basis.conf basis.entries h.index.said × IsFoundText asked h.index.said basis past text) (h.index.in_file, found_asked past text it)

      pub found_all : (output : Written) (past : Bool) → past ≡ false → PrintsFound q h.index.said t w.output output (Ok past)
          → SearchGoesThrough asked w (record w { output = output; messages = m }) Done
      found_all output past none_more printed =
          searched asked w h.index.said m reports output
          (subst (λ (past : Bool). HasPrinted (SearchText asked w.files h.index.said past) w.output output) none_more
          (printed_more (IsTextOf q h.index.said t past) (SearchText asked w.files h.index.said past) (text_so past) w.output output printed))

      pub found_more : (output messages : Written) (status : Status) (past : Bool) → past ≡ true → PrintsFound q h.index.said t w.output output (Ok past)
          → IsReported m messages (code_text (codes "search") SizeLimitExceeded) Refused status → SearchGoesThrough asked w (record w { output = output; messages = messages }) status
      found_more output messages status past some_more printed told =
          searched_past asked w h.index.said m reports output messages status
          (subst (λ (past : Bool). HasPrinted (SearchText asked w.files h.index.said past) w.output output) some_more
          (printed_more (IsTextOf q h.index.said t past) (SearchText asked w.files h.index.said past) (text_so past) w.output output printed))
          told

      lacks : (fault : CommandFault) → FailsToPrint q t fault → RefusesOrBreaks (search_wanted asked) t.conf t.entries fault
      lacks fault (inl refuses) = inl (refuses_more (codes "search") (λ code. (finite.contains_key t.entries q.base ≡ false) × (code ≡ NoSuchObject)) (IsRefusedWith (search_wanted asked) t.conf t.entries)
          (λ code why. inl (refl, inr (record { base = q.base; base_is = based; missing = why.0 }, why.1))) fault refuses)
      lacks fault (inr breaks) = inr breaks

      pub not_found : (output : Written) (fault : CommandFault) → PrintsFound q h.index.said t w.output output (Err fault)
          → SearchStops asked w (record { why = stops.Fault fault; stored = []; world = record w { output = output; messages = m } })
      not_found output fault printed = stops_so output fault (lacks fault printed.0)
          (prints_more (HasBegun (λ text. (past : Bool) × IsTextOf q h.index.said t past text) None) (HasBegun (λ text. (past : Bool) × SearchText asked w.files h.index.said past text) None) w.output output
          (λ fault begun. record { text = begun.text; is = (begun.is.0, text_so begun.is.0 begun.text begun.is.1); begins = begun.begins }) fault printed.1)
