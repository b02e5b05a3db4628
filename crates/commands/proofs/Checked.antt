-- What a check has found in the files of a folder.
use Rattle.std.proofs.Common.{◌≡◌, ◌∙◌, ℕ, Bool, true, false, List, [], ◌∷◌, ◌++◌, length, Option, None, Some, IfSome, Result, Ok, Err, IfOk, IfErr, OnOk, OnErr, inl, inr, codes, sym, ap, subst, refl, arith}
use Rattle.std.specs.Option.{option_copied, option_map}
use Rattle.std.specs.Prelude.{if◌then◌else◌, bytes_eq}
use Rattle.std.proofs.lemmas.List.{append_assoc}
use Rattle.std.specs.FinMap as finite
use Rattle.std.specs.Io.KnownBytes.{Appends, Consumes}
use Rattle.base.specs.Answers.{Fails}
use Rattle.device.specs.Device.{Seen, Written, Took, Broke}
use Rattle.device.proofs.Taken.{broke_after}
use Rattle.ldif_lines.specs.Records.{records}
use Rattle.ldif.specs.declared.record.Mode.TheVariants.{Content}
use Rattle.schema.specs.Conf.{Conf}
use Rattle.dir_conf.specs.Configurations.{conf_of}
use Rattle.dir_conf.specs.Reads.{fault_at}
use Rattle.dir_conf.specs.declared.conf_fault.ConfFault.{ConfFault}
use Rattle.dir_conf.specs.declared.conf_fault.ConfFault.TheVariants.{Line}
use Rattle.dir_conf.specs.declared.conf_fault.ConfFaultKind.{ConfFaultKind}
use Rattle.tree.specs.Directories.{Entries}
use Rattle.checks.specs.Reports.{refused_reports}
use Rattle.databases.specs.Folds.{Runs}
use Rattle.databases.specs.declared.runs.Tally.{Tally}
use Rattle.command_line.specs.declared.request.CheckOptions.{CheckOptions}
use Rattle.folders.specs.Folders.{Files, Finds}
use Rattle.commands.specs.DirectoryFiles.{conf_name, data_name}
use Rattle.commands.specs.Changes.{IsSource, source_name}
use Rattle.commands.specs.Loaded.{IsConfigured}
use Rattle.commands.specs.Endings.{IsFault}
use Rattle.commands.specs.Failures.{FailsToWrite}
use Rattle.commands.specs.Statuses.{status_of_reports}
use Rattle.commands.specs.Worlds.{World}
use Rattle.commands.specs.Lists.{list_source}
use Rattle.commands.specs.Checks.{AddsText, AddsFile, AddsOver, FailsOver, file_name, file_reports, value_reports, line_of_difference, TellsFirstFaults, TellsFaults, TellsOthers, Checks, WarnsOf}
use Rattle.commands.specs.Checks.{LacksFirst, CheckFails, IsUncheckable, CheckGoesThrough, CheckStops}
use Rattle.commands.specs.inner.Checked.{AreTypesAsked, HasAdded, told_reports, HasGathered}
use Rattle.commands.specs.inner.Stopped.{HasStopped, HasEnded}
use Rattle.commands.proofs.SourcesRead.{same_files as files_stay, source_read}
use Rattle.commands.specs.declared.check.CheckedTypes.{CheckedTypes}
use Rattle.commands.specs.declared.check.Told.{Told}
use Rattle.commands.specs.declared.messages.CommandFault.{CommandFault}
use Rattle.commands.specs.declared.messages.CommandFault.TheVariants as faults
use Rattle.commands.specs.declared.messages.Status.{Status}
use Rattle.commands.specs.declared.messages.Stop.{Stop}
use Rattle.commands.specs.declared.messages.Stop.TheVariants as stops

-- ---- data.ldif

-- what a sink took from nothing on
took_all : (a b : Option (List ℕ)) (told text : List ℕ) → a ≡ Some [] → b ≡ Some told → Appends a b text → told ≡ text
took_all None b told text from to is = absurd cc
took_all (Some xs) None told text from to is = absurd cc
took_all (Some xs) (Some ys) told text from to is =
    let none : xs ≡ [] = cc in
    let all : ys ≡ told = cc in
    sym all ∙ is ∙ ap (λ (front : List ℕ). front ++ text) none

pub adds_so : (conf : Conf) (old d : Entries) (left : Option (List ℕ)) (a b : Written) (told : List ℕ) (t : Tally)
    → a.bytes ≡ Some [] → b.bytes ≡ Some told → Runs conf Content true old d (option_map records left) (Ok t) a b → AddsText conf old left d told
adds_so conf old d left a b told t from to runs = record {
  given = runs.given;
  are = runs.are;
  so = record { entries = runs.so.entries; told_is = took_all a.bytes b.bytes told _ from to runs.so.written.taken };
}

pub added_none : (files : Option Files) (db name : List ℕ) (conf : Conf) (d : Entries) → name ≡ data_name db → Finds files name None → d ≡ finite.empty → HasAdded files db conf d []
added_none files db name conf d named finds none = record {
  found = None;
  there = subst (λ (n : List ℕ). Finds files n None) named finds;
  adds = (none, refl);
}

pub added_so : (files : Option Files) (db name : List ℕ) (conf : Conf) (left : Option (List ℕ)) (old d : Entries) (told : List ℕ)
    → name ≡ data_name db → Finds files name (Some left) → old ≡ finite.empty → AddsText conf old left d told → HasAdded files db conf d told
added_so files db name conf left old d told named finds none adds = record {
  found = Some left;
  there = subst (λ (n : List ℕ). Finds files n (Some left)) named finds;
  adds = subst (λ (e : Entries). AddsText conf e left d told) none adds;
}

-- ---- FILE

abbrev named_by : List ℕ → Bool → Option (List ℕ)
named_by name is_input = if is_input then None else Some name

module _ (name : List ℕ) (conf : Conf) (old d : Entries) (told : List ℕ) (w : World) where
  pub from_input : (b : Bool) → b ≡ bytes_eq name (codes "-") → b ≡ true → (input : Seen) → AddsText conf old w.input.left d told
      → AddsFile name conf old d told w (record w { input = input })
  from_input b test is input adds =
      let none : list_source name ≡ None = ap (named_by name) (sym test ∙ is) in
      record {
        source = w.input;
        source' = input;
        source_is = subst (λ (o : Option (List ℕ)). IsSource o w (record w { input = input }) w.input input) (sym none) (refl, refl);
        adds = adds;
        stays = refl;
      }

  -- only what is left to read of it counts
  pub from_file : (b : Bool) → b ≡ bytes_eq name (codes "-") → b ≡ false → (left : Option (List ℕ)) → Finds w.files name (Some left) → AddsText conf old left d told
      → AddsFile name conf old d told w w
  from_file b test is left finds adds =
      let some : list_source name ≡ Some name = ap (named_by name) (sym test ∙ is) in
      let source : Seen = record (w.input) { left = left } in
      record {
        source = source;
        source' = source;
        source_is = subst (λ (o : Option (List ℕ)). IsSource o w w source source) (sym some) (finds, refl);
        adds = adds;
        stays = refl;
      }

-- the name of the input, and of any other file
pub input_name : (name : List ℕ) (b : Bool) → b ≡ bytes_eq name (codes "-") → b ≡ true → codes "input" ≡ file_name name
input_name name b test is = sym (ap (λ (o : Option (List ℕ)). source_name o) (ap (named_by name) (sym test ∙ is)))

pub own_name : (name : List ℕ) (b : Bool) → b ≡ bytes_eq name (codes "-") → b ≡ false → name ≡ file_name name
own_name name b test is = sym (ap (λ (o : Option (List ℕ)). source_name o) (ap (named_by name) (sym test ∙ is)))

-- ---- what is told

-- three texts, put behind another one after the other
pub three_put : (old r f i a b c : List ℕ) → a ≡ old ++ r → b ≡ a ++ f → c ≡ b ++ i → c ≡ old ++ (r ++ (f ++ i))
three_put old r f i a b c first second third =
    third ∙ ap (λ (front : List ℕ). front ++ i) (second ∙ ap (λ (front : List ℕ). front ++ f) first)
    ∙ append_assoc (old ++ r) f i ∙ append_assoc old r (f ++ i)

-- want of memory behind the file that is named, or where none is
pub want_behind : (asked : CheckOptions) (conf : Conf) (old d : Entries) (told : List ℕ) (w w' : World) → IsConfigured w.files (conf_name asked.db.now) conf
    → AddsOver (option_copied asked.file) conf old d told w w' → CheckFails asked faults.OutOfMemory w w'
want_behind asked conf old d told w w' configured = go (option_copied asked.file) refl
  where
    go : (file : Option (List ℕ)) → option_copied asked.file ≡ file → AddsOver file conf old d told w w' → CheckFails asked faults.OutOfMemory w w'
    go None is over = inl (inl tt, over.2)
    go (Some name) is over = inr ((conf, configured), subst (λ (file : Option (List ℕ)). FailsOver file faults.OutOfMemory w w') (sym is) (record { why = tt; stays = source_read (list_source name) w w' over.source over.source' over.source_is over.stays }))

-- behind all that is told
pub want_behind_all : (asked : CheckOptions) (text : List ℕ) (w w' : World) → Checks asked text w w' → IsUncheckable asked (stops.Fault faults.OutOfMemory) w w'
want_behind_all asked text w w' (inl faulty) = inl (inl (inl tt, faulty.stays))
want_behind_all asked text w w' (inr others) =
    inl (want_behind asked others.conf others.loaded others.entries others.over w w' others.configured others.adds_over)

pub others_told : (asked : CheckOptions) (w w' : World) (conf : Conf) (c : CheckedTypes) (d : Entries) (told : Told) (text : List ℕ)
    → IsConfigured w.files (conf_name asked.db.now) conf → AreTypesAsked asked conf.types c → HasGathered asked conf d told w w'
    → text ≡ told_reports (option_copied asked.file) told ++ value_reports conf d c.references.items c.unique.items → TellsOthers asked text w w'
others_told asked w w' conf c d told text configured types gathered is =
    let index = gathered.index in
    let file = option_copied asked.file in
    let values = value_reports conf d c.references.items c.unique.items in
    record {
      conf = conf;
      configured = configured;
      references = c.references.items;
      references_are = types.references;
      unique = c.unique.items;
      unique_are = types.unique;
      found = gathered.adds.found;
      there = gathered.adds.there;
      loaded = gathered.loaded;
      told = told.loaded.items;
      adds = gathered.adds.adds;
      index = index.index;
      index_there = index.there;
      entries = d;
      over = told.over.items;
      adds_over = gathered.over;
      text_is = is ∙ ap (λ (said : List ℕ). (refused_reports (codes "data.ldif") told.loaded.items ++ (file_reports file told.over.items ++ said)) ++ values) index.put;
    }

pub faults_told : (asked : CheckOptions) (w : World) (conf_text : List ℕ) (line : ℕ) (kind : ConfFaultKind) (text : List ℕ)
    → Finds w.files (conf_name asked.db.now) (Some (Some conf_text)) → conf_of conf_text ≡ Err (line, kind) → TellsFirstFaults conf_text text → TellsFaults asked text w w
faults_told asked w conf_text line kind text there fails tells = record { conf_text = conf_text; there = there; fault = (line, kind); faulty = fails; tells = tells; stays = refl }

-- where a text is read as a configuration, types may be named that aren't known under it
pub lacks_so : (asked : CheckOptions) (w : World) (text : List ℕ) (conf : Conf) (why : Stop) → Finds w.files (conf_name asked.db.now) (Some (Some text)) → conf_of text ≡ Ok conf
    → LacksFirst asked conf.types why → IsUncheckable asked why w w
lacks_so asked w text conf why there says lacks =
    inr (record { conf = conf; configured = record { text = text; there = there; says = says }; lacks = lacks }, refl)

-- where a text can't be read as a configuration, this is its first fault
pub fails_so : (slice text : List ℕ) → slice ≡ text → (e : ConfFault) (line : ℕ) (kind : ConfFaultKind) → e ≡ Line line kind → Fails (fault_at e) (conf_of slice) → conf_of text ≡ Err (line, kind)
fails_so slice text same e line kind is fails = subst (λ (t : List ℕ). conf_of t ≡ Err (line, kind)) same (subst (λ (f : ConfFault). Fails (fault_at f) (conf_of slice)) is fails)

-- ---- index.txt

-- where one text has ended, they differ on the first line of what is left
pub none_left : (xs ys : List ℕ) → length ys ≡ 0 → line_of_difference xs ys ≡ 1
unfolding line_of_difference
none_left [] ys none = refl
none_left (x ∷ xs) [] none = refl
none_left (x ∷ xs) (y ∷ ys) none = absurd (omega (arith, none))

-- the bytes that were read of a file are those that it has
pub read_so : (files : Option Files) (name : List ℕ) (left : Option (List ℕ)) (bytes : List ℕ)
    → Finds files name (Some left) → IfSome left (λ bs. bytes ≡ bs) → Finds files name (option_map (λ b. Some b) (Some bytes))
read_so None name left bytes finds same = tt
read_so (Some m) name (Some bs) bytes finds same = ap (λ (b : List ℕ). Some (Some b)) same ∙ finds
read_so (Some m) name None bytes finds same = absurd (unread (finite.get m name) finds)
  where
    unread : (o : Option (List ℕ)) → Some None ≡ option_map (λ (b : List ℕ). Some b) o → ⊥
    unread None is = cc
    unread (Some b) is = cc

pub consumes_more : (a b c : Option (List ℕ)) (xs ys : List ℕ) → Consumes a b xs → Consumes b c ys → Consumes a c (xs ++ ys)
consumes_more None b c xs ys one two = tt
consumes_more (Some all) None c xs ys one two = absurd one
consumes_more (Some all) (Some bs) None xs ys one two = absurd two
consumes_more (Some all) (Some bs) (Some cs) xs ys one two = one ∙ ap (λ (rest : List ℕ). xs ++ rest) two ∙ sym (append_assoc xs ys cs)

-- ---- how a check ends that prints what it tells

-- what was pushed behind a text, and failed
pub after_both : {X E : Type 0} (a b c : Written) (xs ys : List ℕ) (r : Result X E) → Took a b xs → OnErr r (Broke b c ys) → OnErr r (Broke a c (xs ++ ys))
after_both a b c xs ys (Ok x) took broke = tt
after_both a b c xs ys (Err e) took broke = broke_after a b c xs ys took broke

module _ (asked : CheckOptions) (w mid : World) where
  -- a check changes no file
  same_files : (text : List ℕ) → Checks asked text w mid → mid.files ≡ w.files
  same_files text (inl faulty) = ap (λ (v : World). v.files) faulty.stays
  same_files text (inr others) = over (option_copied asked.file) others.adds_over
    where
      over : (file : Option (List ℕ)) → AddsOver file others.conf others.loaded others.entries others.over w mid → mid.files ≡ w.files
      over None same = ap (λ (v : World). v.files) same.2
      over (Some name) added = ap (λ (v : World). v.files) added.stays

  pub printed_so : (b : Written) (text warned : List ℕ) (r : Result Status Stop) → Checks asked text w mid → WarnsOf w.files asked.db.now warned
      → IfOk r (λ s. s ≡ status_of_reports text) → OnOk r (Took mid.output b (text ++ warned))
      → IfErr r (λ why. IsFault (FailsToWrite (codes "output")) why × Broke mid.output b (text ++ warned))
      → HasEnded (CheckGoesThrough asked) (CheckStops asked) w (record mid { output = b }) r
  printed_so b text warned (Ok s) is warns status took broke =
      record { text = text; warned = warned; mid = mid; is = is; warns = warns; printed = record { took = took; stays = refl }; status = status }
  printed_so b text warned (Err why) is warns status took broke = record {
    stored = [];
    comes = inr (record { text = text; warned = warned; mid = mid; is = is; warns = warns; why = broke.0; broke = broke.1; only = record { stored = refl; stays = refl } });
    files = same_files text is;
  }

  -- what fails before it prints changes no file, either
  kept_files : (fault : CommandFault) → CheckFails asked fault w mid → mid.files ≡ w.files
  kept_files fault (inl fails) = ap (λ (v : World). v.files) fails.1
  kept_files fault (inr fails) = over (option_copied asked.file) fails.1
    where
      over : (file : Option (List ℕ)) → FailsOver file fault w mid → mid.files ≡ w.files
      over None none = absurd none
      over (Some name) fails = files_stay (list_source name) w mid fails.stays

  unchecked_files : (why : Stop) → IsUncheckable asked why w mid → mid.files ≡ w.files
  unchecked_files (stops.Fault fault) (inl fails) = kept_files fault fails
  unchecked_files (stops.Usage text) (inl fails) = absurd fails
  unchecked_files stops.Messages (inl fails) = absurd fails
  unchecked_files why (inr lacks) = ap (λ (v : World). v.files) lacks.1

  pub unchecked_so : (why : Stop) → IsUncheckable asked why w mid → HasStopped (CheckStops asked) w mid why
  unchecked_so why is = record { stored = []; comes = inl (is, refl); files = unchecked_files why is }
