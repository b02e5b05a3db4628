-- How a comparison of two directories ends, from what its parts say.
use Rattle.std.proofs.Common.{◌≡◌, ℕ, List, [], Option, None, Some, inl, inr, refl, sym, ap, subst, ◌∙◌, length, ◌≤◌, ◌+◌, ◌++◌, ◌∷◌, arith}
use Rattle.std.specs.Prelude.{Result, Ok, Err, true, ◌||◌, is_some}
use Rattle.std.specs.FinMap as finite
use Rattle.std.specs.Borrow.{Bor}
use Rattle.std.specs.Option.{option_copied, option_map, ForSome}
use Rattle.std.proofs.lemmas.List.{length-append}
use Rattle.device.specs.Device.{Written}
use Rattle.sentences.specs.Sentence.{IsLine}
use Rattle.paths.specs.Paths.{Path}
use Rattle.schema.specs.Conf.{Conf}
use Rattle.schema.specs.declared.code.Code.{Code}
use Rattle.tree.specs.Directories.{Entries}
use Rattle.filter_text.specs.Spells.{FilterContent, view}
use Rattle.filter.specs.Made.{Made}
use Rattle.differences.specs.Comparisons.{extent_by, extent_of}
use Rattle.differences.specs.declared.comparison.Comparison.{Comparison}
use Rattle.command_line.specs.declared.request.DiffOptions.{DiffOptions}
use Rattle.commands.specs.Asked.{IsBase}
use Rattle.commands.specs.Worlds.{World}
use Rattle.commands.specs.Endings.{IsFault}
use Rattle.commands.specs.Loaded.{IsLoaded, LoadFails}
use Rattle.commands.specs.Differences.{LoadsOther, IsWantedFilter, IsWantedExtent, TellsNoBase, LacksBoth, ComparingStops, DiffFails, DiffGoesThrough, DiffStops}
use Rattle.commands.specs.inner.Compared.{PreparedFor, IsUntold, HasCompared}
use Rattle.commands.specs.inner.Refusals.{FilterFails}
use Rattle.commands.specs.inner.Stopped.{HasEnded}
use Rattle.commands.specs.declared.messages.Status.{Status}
use Rattle.commands.specs.declared.messages.CommandFault.{CommandFault}
use Rattle.commands.specs.declared.messages.CommandFault.TheVariants as faults
use Rattle.commands.specs.declared.messages.Stop.{Stop}
use Rattle.commands.specs.declared.messages.Stop.TheVariants as stops
use Rattle.commands.proofs.Stopping.{stopped}

-- ---- what is compared

-- the filter that is prepared is the one that was read
pub prepared_is : (conf : Conf) (f : Option FilterContent) (p : Option Made) → PreparedFor conf f p → option_map (λ m. view m.filter) p ≡ f
prepared_is conf None None h = refl
prepared_is conf None (Some p) h = absurd h
prepared_is conf (Some f) None h = absurd h
prepared_is conf (Some f) (Some p) h = ap (λ (x : FilterContent). Some x) h.1

pub prepared_conf : (conf : Conf) (f : Option FilterContent) (p : Option Made) → PreparedFor conf f p → (m : Made) → p ≡ Some m → m.conf ≡ conf
prepared_conf conf None None h m is = absurd cc
prepared_conf conf None (Some p) h m is = absurd h
prepared_conf conf (Some f) None h m is = absurd h
prepared_conf conf (Some f) (Some p) h m is = let same : p ≡ m = cc in subst (λ (x : Made). x.conf ≡ conf) same h.0

copied_filter : (o : Option (Bor Made)) → option_map (λ f. view f.now.filter) o ≡ option_map (λ m. view m.filter) (option_copied o)
copied_filter None = refl
copied_filter (Some f) = refl

copied_some : (o : Option (Bor Made)) (m : Bor Made) → o ≡ Some m → option_copied o ≡ Some m.now
copied_some o m is = ap option_copied is

module _ (asked : DiffOptions) (conf : Conf) (a b : Entries) (compared : Comparison) (base : Path) (f : Option FilterContent) (p : Option Made)
    (order : compared.unordered ≡ asked.unordered) (at : compared.base.now ≡ base) (filter : option_copied compared.filter ≡ p) (prepared : PreparedFor conf f p) where
  pub wanted_extent : IsBase conf (option_copied asked.base) base → (is_some asked.base ≡ true → (finite.contains_key a base || finite.contains_key b base) ≡ true)
      → IsWantedFilter (option_copied asked.filter) f → IsWantedExtent asked conf a b (extent_of compared conf a b)
  wanted_extent is there wanted =
      let same : option_map (λ x. view x.now.filter) compared.filter ≡ f = copied_filter compared.filter ∙ ap (option_map (λ (m : Made). view m.filter)) filter ∙ prepared_is conf f p prepared in
      record { base = base; base_is = is; base_there = there; filter = f; filter_is = wanted; is = λ i. extent_by (order i) (at i) (same i) conf a b }

  pub prepared_under : ForSome compared.filter (λ m. m.now.conf ≡ conf)
  prepared_under m is = prepared_conf conf f p prepared m.now (sym filter ∙ copied_some compared.filter m is)

-- ---- where it stops before anything is told

pub no_memory : (asked : DiffOptions) (conf : Conf) (a b : Entries) (w : World) → ComparingStops asked conf a b w (record { why = stops.Fault faults.OutOfMemory; stored = []; world = w })
no_memory asked conf a b w = inl (record { why_is = tt; stays = refl })

pub no_base : (asked : DiffOptions) (conf : Conf) (a b : Entries) (w : World) (why : Stop) → TellsNoBase (LacksBoth conf a b (option_copied asked.base)) why
    → ComparingStops asked conf a b w (record { why = why; stored = []; world = w })
no_base asked conf a b w why tells = inl (record { why_is = tells; stays = refl })

pub untold : (asked : DiffOptions) (conf : Conf) (a b : Entries) (w : World) (messages : Written) (why : Stop) → IsUntold w.messages messages why
    → ComparingStops asked conf a b w (record { why = why; stored = []; world = record w { messages = messages } })
untold asked conf a b w messages (stops.Fault fault) h = inl (record { why_is = h.0; stays = ap (λ (m : Written). record w { messages = m }) h.1 })
untold asked conf a b w messages (stops.Usage text) h = absurd h
untold asked conf a b w messages stops.Messages h = inr (inl (record { why = refl; text = h.0; broke = h.1; stays = refl }))

-- a code that isn't told for want of memory
pub no_base_of : (P Q : Code → Type 0) → ((c : Code) → P c → Q c) → (why : Stop) → TellsNoBase P why → TellsNoBase Q why
no_base_of P Q to (stops.Fault fault) h = h
no_base_of P Q to (stops.Usage text) h = (h.0, to h.0 h.1, h.2)
no_base_of P Q to stops.Messages h = absurd h

-- ---- the whole

pub has_ended : (asked : DiffOptions) (start mid end : World) (conf : Conf) (a b : Entries) → IsLoaded start.files asked.db.now conf a → LoadsOther (option_copied asked.file) conf b start mid
    → end.files ≡ start.files → (r : Result Status Stop) → HasCompared asked conf a b mid end r → HasEnded (DiffGoesThrough asked) (DiffStops asked) start end r
has_ended asked start mid end conf a b loaded other same (Ok s) h = record { conf = conf; before = a; after = b; loaded = loaded; mid = mid; other = other; compares = h }
has_ended asked start mid end conf a b loaded other same (Err why) h =
    stopped (DiffStops asked) start end why
    (inr (inr (record { conf = conf; before = a; after = b; loaded = loaded; mid = mid; other = other; stops = h; stored = refl }))) same

-- the filter is none, or no directory is loaded
pub filter_fails : (asked : DiffOptions) (w : World) (fault : CommandFault) → FilterFails (option_copied asked.filter) fault → IsFault (DiffFails asked w) (stops.Fault fault)
filter_fails asked w faults.Words h = absurd h
filter_fails asked w (faults.Filter fault) h = h
filter_fails asked w (faults.Code by code) h = absurd h
filter_fails asked w (faults.Configuration line kind) h = absurd h
filter_fails asked w (faults.Data line why) h = absurd h
filter_fails asked w (faults.Content name line why) h = absurd h
filter_fails asked w (faults.CannotRead name) h = absurd h
filter_fails asked w (faults.CannotWrite name) h = absurd h
filter_fails asked w (faults.Line number fault) h = absurd h
filter_fails asked w (faults.LineCode number code) h = absurd h
filter_fails asked w (faults.InUse name) h = absurd h
filter_fails asked w faults.OutOfMemory h = tt

pub load_fails : (asked : DiffOptions) (w : World) (fault : CommandFault) → LoadFails w.files asked.db.now fault → IsFault (DiffFails asked w) (stops.Fault fault)
load_fails asked w faults.Words h = h
load_fails asked w (faults.Filter fault) h = absurd h
load_fails asked w (faults.Code by code) h = h
load_fails asked w (faults.Configuration line kind) h = h
load_fails asked w (faults.Data line why) h = h
load_fails asked w (faults.Content name line why) h = h
load_fails asked w (faults.CannotRead name) h = h
load_fails asked w (faults.CannotWrite name) h = h
load_fails asked w (faults.Line number fault) h = h
load_fails asked w (faults.LineCode number code) h = h
load_fails asked w (faults.InUse name) h = h
load_fails asked w faults.OutOfMemory h = h

-- ---- lines of what is warned of

line_some : (bytes : List ℕ) → IsLine bytes → 1 ≤ length bytes
line_some [] h = absurd cc
line_some (b ∷ bytes) h = omega arith

pub one_line_more : (text line longer : List ℕ) (i : ℕ) → i ≤ length text → IsLine line → longer ≡ text ++ line → i + 1 ≤ length longer
one_line_more text line longer i le is put = let some = line_some line is in omega (arith, le, some, ap length put, length-append text line)
