-- How the search of a line of a list ends, and how one line follows the other.
use Rattle.std.proofs.Common.{◌≡◌, ℕ, ◌+◌, Bool, true, false, inl, inr, List, [], ◌∷◌, ◌++◌, length, Some, None, refl, sym, ap, ◌∙◌, subst}
use Rattle.std.specs.Prelude.{Ok, Err, codes, if◌then◌else◌}
use Rattle.std.specs.Option.{option_copied}
use Rattle.std.specs.Fmt.{decimal}
use Rattle.std.specs.FinMap as finite
use Rattle.device.specs.Device.{Written}
use Rattle.paths.specs.Paths.{Path}
use Rattle.schema.specs.Conf.{Conf}
use Rattle.schema.specs.declared.code.Code.TheVariants.{SizeLimitExceeded}
use Rattle.entries.specs.Entries.{EntryContent}
use Rattle.tree.specs.Directories.{Entries}
use Rattle.tree.specs.Trees.{Tree}
use Rattle.filter.specs.Made.{Made}
use Rattle.filter_text.specs.Spells.{view}
use Rattle.databases.specs.Found.{up_to, limited_text, goes_past}
use Rattle.databases.specs.Scanned.{scan}
use Rattle.databases.specs.Selections.{Selection}
use Rattle.command_line.specs.declared.request.SearchOptions.{SearchOptions}
use Rattle.commands.specs.Asked.{IsFilter}
use Rattle.commands.specs.Endings.{StoppedAt}
use Rattle.commands.specs.Failures.{FailsToWrite}
use Rattle.commands.specs.IndexFiles.{Said}
use Rattle.commands.specs.Lists.{comment, count_tail, filter_text, Common, found_for, IsAnswer, EndsLine, StopsInLine, AsItGoesOn, RunsLines, StopsInLines}
use Rattle.commands.specs.Messages.{fault_text, IsReported}
use Rattle.commands.specs.Queries.{HasBegun}
use Rattle.commands.specs.Statuses.{goes_on, worse}
use Rattle.commands.specs.Worlds.{World}
use Rattle.commands.specs.inner.Lists.{line_form, IsFrame, IsKept, common_of}
use Rattle.commands.specs.inner.Printed.{text_as, scanned, found, IsTextOf, FailsToPrint, PrintsFound}
use Rattle.commands.specs.inner.Stopped.{HasStopped}
use Rattle.commands.specs.declared.messages.CommandFault.{CommandFault}
use Rattle.commands.specs.declared.messages.CommandFault.TheVariants as faults
use Rattle.commands.specs.declared.messages.Status.{Status}
use Rattle.commands.specs.declared.messages.Status.TheVariants.{Done, Refused, Usage, Failed}
use Rattle.commands.specs.declared.messages.Stop.TheVariants as stops
use Rattle.commands.specs.declared.query.Query.{Query}
use Rattle.commands.proofs.Stopping.{stopped, prints_more}

-- what is printed for a line, by the two forms
by_form : (count : Bool) (text line : List ℕ) (width : ℕ) (conf : Conf) (d : Entries) (s : Selection) (limit : _) (es : List (Path × EntryContent))
    → text_as (line_form count text line) width conf d s limit es
    ≡ (if count then decimal (length (up_to limit es)) ++ count_tail line else comment text ++ limited_text width conf d s limit es)
by_form true text line width conf d s limit es = refl
by_form false text line width conf d s limit es = refl

-- a query with the filter and the form of a line
abbrev pub for_line : SearchOptions → Query → Made → (text line : List ℕ) → Query
for_line asked q f text line = record q { filter = f; form = line_form asked.count text line }

module _ (asked : SearchOptions) (t : Tree) (q : Query) (frame : IsFrame asked t q) (said : Said) (f : Made) (text line : List ℕ)
    (text_is : text ≡ filter_text (option_copied asked.filter) line) (spelled : IsFilter (Some text) (view f.filter)) where
  -- ---- what it finds

  pub is_answer : (past : Bool) (printed : List ℕ) → IsTextOf (for_line asked q f text line) said t past printed → IsAnswer asked (common_of said t q) line past printed
  is_answer past printed it =
      let q' = for_line asked q f text line in
      let c = common_of said t q in
      let es : found q' said t ≡ found_for asked c (view f.filter) = ap (λ (scope : _). found (record q' { scope = scope }) said t) frame.scope in
      let all : scanned q' t ≡ scan t.conf t.entries q.base asked.scope (view f.filter) = ap (λ (scope : _). scan t.conf t.entries q.base scope (view f.filter)) frame.scope in
      record {
        filter = view f.filter;
        filter_is = subst (λ (text : List ℕ). IsFilter (Some text) (view f.filter)) text_is spelled;
        past_is = it.past_is ∙ (λ i. goes_past (frame.limit i) (es i));
        text_is = it.text_is
            ∙ (λ i. text_as (line_form asked.count (text_is i) line) (frame.width i) t.conf t.entries q.selection (frame.limit i) (es i))
            ∙ by_form asked.count (filter_text (option_copied asked.filter) line) line asked.width t.conf t.entries q.selection asked.limit (found_for asked c (view f.filter));
        whole = λ own. sym es ∙ it.whole own ∙ all;
      }

  module _ (n : ℕ) (w : World) (output : Written) where
    -- there is no more than the limit
    pub searched_all : (past : Bool) → past ≡ false → PrintsFound (for_line asked q f text line) said t w.output output (Ok past)
        → EndsLine asked (common_of said t q) n line w (record w { output = output }) Done
    searched_all past none_more printed = inl (record {
      past = false;
      text = printed.text;
      is = subst (λ (past : Bool). IsAnswer asked (common_of said t q) line past printed.text) none_more (is_answer past printed.text printed.is);
      mid = record w { output = output };
      printed = record { took = printed.took; stays = refl };
      reported = (refl, refl);
    })

    -- there is
    pub searched_more : (past : Bool) → past ≡ true → PrintsFound (for_line asked q f text line) said t w.output output (Ok past) → (messages : Written) (s : Status)
        → IsReported w.messages messages (fault_text (faults.LineCode n SizeLimitExceeded)) Refused s
        → EndsLine asked (common_of said t q) n line w (record w { output = output; messages = messages }) s
    searched_more past some_more printed messages s told = inl (record {
      past = true;
      text = printed.text;
      is = subst (λ (past : Bool). IsAnswer asked (common_of said t q) line past printed.text) some_more (is_answer past printed.text printed.is);
      mid = record w { output = output };
      printed = record { took = printed.took; stays = refl };
      reported = record { reported = told; stays = refl };
    })

    -- it was broken off: not for want of the base
    not_missing : (fault : CommandFault) → FailsToPrint (for_line asked q f text line) t fault → FailsToWrite (codes "output") fault
    not_missing fault (inr breaks) = breaks
    not_missing faults.Words (inl h) = h
    not_missing (faults.Filter fault) (inl h) = h
    not_missing (faults.Line number fault) (inl h) = h
    not_missing (faults.LineCode number code) (inl h) = h
    not_missing (faults.Code by code) (inl h) = let no : false ≡ true = sym h.1.0 ∙ frame.there in cc
    not_missing (faults.Configuration number kind) (inl h) = h
    not_missing (faults.Data number why) (inl h) = h
    not_missing (faults.Content file number why) (inl h) = h
    not_missing (faults.CannotRead name) (inl h) = absurd h
    not_missing (faults.CannotWrite name) (inl h) = absurd h
    not_missing (faults.InUse name) (inl h) = h
    not_missing faults.OutOfMemory (inl h) = h

    pub broken_off : (fault : CommandFault) → PrintsFound (for_line asked q f text line) said t w.output output (Err fault)
        → HasStopped (StopsInLine asked (common_of said t q) line) w (record w { output = output }) (stops.Fault fault)
    broken_off fault printed = stopped (StopsInLine asked (common_of said t q) line) w (record w { output = output }) (stops.Fault fault) (record {
      fault = fault;
      fault_is = refl;
      why = not_missing fault printed.0;
      printed = prints_more (HasBegun (λ text'. (past : Bool) × IsTextOf (for_line asked q f text line) said t past text') None) (HasBegun (λ text'. (past : Bool) × IsAnswer asked (common_of said t q) line past text') None) w.output output
          (λ fault begun. record { text = begun.text; is = (begun.is.0, is_answer begun.is.0 begun.text begun.is.1); begins = begun.begins }) fault printed.1;
      only = record { stored = refl; stays = refl };
    }) refl

-- ---- what a line leaves of a query

pub same_common : (said : Said) (t : Tree) (q q' : Query) → IsKept q q' → common_of said t q' ≡ common_of said t q
same_common said t q q' kept = λ i. record { conf = t.conf; entries = t.entries; said = said; base = kept.base i; selection = kept.selection i }

pub kept_itself : (q : Query) → IsKept q q
kept_itself q = record { base = refl; scope = refl; selection = refl; limit = refl; width = refl }

pub kept_on : (q q' q'' : Query) → IsKept q q' → IsKept q' q'' → IsKept q q''
kept_on q q' q'' one other = record {
  base = other.base ∙ one.base;
  scope = other.scope ∙ one.scope;
  selection = other.selection ∙ one.selection;
  limit = other.limit ∙ one.limit;
  width = other.width ∙ one.width;
}

pub frame_on : (asked : SearchOptions) (t : Tree) (q q' : Query) → IsFrame asked t q → IsKept q q' → IsFrame asked t q'
frame_on asked t q q' frame kept = record {
  there = ap (λ (base : Path). finite.contains_key t.entries base) kept.base ∙ frame.there;
  scope = kept.scope ∙ frame.scope;
  limit = kept.limit ∙ frame.limit;
  width = kept.width ∙ frame.width;
}

-- where a list goes on behind what ended so, it also does with -c
pub goes_on_true : (c : Bool) (s : Status) → goes_on c s ≡ true → goes_on true s ≡ true
goes_on_true c Done h = refl
goes_on_true c Refused h = refl
goes_on_true c Usage h = refl
goes_on_true c Failed h = h

-- ---- memory ran out before anything was printed

pub want_in_line : (asked : SearchOptions) (c : Common) (line : List ℕ) (w : World) → HasStopped (StopsInLine asked c line) w w (stops.Fault faults.OutOfMemory)
want_in_line asked c line w = stopped (StopsInLine asked c line) w w (stops.Fault faults.OutOfMemory) (record {
  fault = faults.OutOfMemory;
  fault_is = refl;
  why = tt;
  printed = inl refl;
  only = record { stored = refl; stays = refl };
}) refl

-- ---- one line after the other

module _ (asked : SearchOptions) (c : Common) (n : ℕ) (line : List ℕ) (more lines : List (List ℕ)) (are : lines ≡ line ∷ more) (w mid : World) (so_far ended : Status) (ends : EndsLine asked c n line w mid ended) where
  -- it goes on
  pub runs_on : goes_on asked.go_on ended ≡ true → (w' : World) (s : Status) → RunsLines asked c (n + 1) (worse so_far ended) more mid w' s → RunsLines asked c n so_far lines w w' s
  runs_on on w' s rest = subst (λ (ls : List (List ℕ)). RunsLines asked c n so_far ls w w' s) (sym are)
      (mid, ended, ends, subst (λ (t : Bool). AsItGoesOn t (RunsLines asked c (n + 1) (worse so_far ended) more mid w' s) ((s ≡ worse so_far ended) × (w' ≡ mid))) (sym on) rest)

  pub stops_later : goes_on asked.go_on ended ≡ true → (at : StoppedAt) → StopsInLines asked c (n + 1) more mid at → StopsInLines asked c n lines w at
  stops_later on at rest = subst (λ (ls : List (List ℕ)). StopsInLines asked c n ls w at) (sym are) (inr (mid, ended, ends, on, rest))

  -- it is the last one
  pub runs_out : goes_on asked.go_on ended ≡ false → RunsLines asked c n so_far lines w mid (worse so_far ended)
  runs_out off = subst (λ (ls : List (List ℕ)). RunsLines asked c n so_far ls w mid (worse so_far ended)) (sym are)
      (mid, ended, ends, subst (λ (t : Bool). AsItGoesOn t (RunsLines asked c (n + 1) (worse so_far ended) more mid mid (worse so_far ended)) ((worse so_far ended ≡ worse so_far ended) × (mid ≡ mid))) (sym off) (refl, refl))

pub stops_here : (asked : SearchOptions) (c : Common) (n : ℕ) (line : List ℕ) (more lines : List (List ℕ)) → lines ≡ line ∷ more → (w : World) (at : StoppedAt) → StopsInLine asked c line w at → StopsInLines asked c n lines w at
stops_here asked c n line more lines are w at h = subst (λ (ls : List (List ℕ)). StopsInLines asked c n ls w at) (sym are) (inl h)

pub no_line_left : (asked : SearchOptions) (c : Common) (n : ℕ) (so_far : Status) (lines : List (List ℕ)) → lines ≡ [] → (w : World) → RunsLines asked c n so_far lines w w so_far
no_line_left asked c n so_far lines none w = subst (λ (ls : List (List ℕ)). RunsLines asked c n so_far ls w w so_far) (sym none) (refl, refl)

-- where a report lets a list go on, standard error didn't fail
pub reported_on : (a b : Written) (text : List ℕ) (wanted s : Status) → IsReported a b text wanted s → goes_on true s ≡ true → b.failed ≡ a.failed
reported_on a b text wanted s (inl (inl h)) on = h.1.failed
reported_on a b text wanted s (inl (inr h)) on = let no : false ≡ true = ap (goes_on true) (sym h.0) ∙ on in cc
reported_on a b text wanted s (inr (inl h)) on = h.1.failed
reported_on a b text wanted s (inr (inr h)) on = let no : false ≡ true = ap (goes_on true) (sym h.0) ∙ on in cc
