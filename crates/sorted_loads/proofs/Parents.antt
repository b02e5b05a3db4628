-- Records of parents in a text that was sorted.
use Rattle.std.proofs.Common.{◌≡◌, ℕ, ◌-◌, Bool, true, false, List, [], ◌∷◌, ◌++◌, map, length, Some, refl, sym, ap, subst, ◌∙◌, arith}
use Rattle.std.specs.Prelude.{Result, Ok}
use Rattle.std.specs.Cmp.{IsTotalOrder}
use Rattle.std.specs.FinMap as finite
use Rattle.std.specs.List.{AllByRecursion}
use Rattle.std.proofs.lemmas.List.{length-take}
use Rattle.ldif_lines.specs.Records.{RawRecord, records}
use Rattle.ldif.specs.Attrs.{Attr}
use Rattle.ldif.specs.Reading.{reading}
use Rattle.ldif.specs.declared.record.Mode.TheVariants.{Content}
use Rattle.ldif.specs.declared.record.Record.{Record}
use Rattle.ldif.specs.declared.record.Record.TheVariants as records_of
use Rattle.ldif.specs.declared.fault.LdifFaultKind.{LdifFaultKind}
use Rattle.paths.specs.Paths.{Path, path_cmp, parent_of, is_root}
use Rattle.schema.specs.Conf.{Conf}
use Rattle.tree.specs.Directories.{Entries}
use Rattle.tree.specs.Operations.{record_path}
use Rattle.databases.specs.Runs.{State, start, of_change, outcome, step, read_as, after_records, state_after, loaded_after}
use Rattle.databases.specs.declared.refusal.Outcome.TheVariants as outcomes
use Rattle.databases.specs.declared.refusal.RecordRefusal.{RecordRefusal}
use Rattle.sorting.specs.NormalNames.{name_read}
use Rattle.sorting.specs.Orders.{is_above, AreInOrder}
use Rattle.sorting.specs.Sorted.{sorted_text}
use Rattle.sorted_loads.specs.Orphans.{IsRecordAt, IsOrphan, WasRefused, outcome_in, refused_orphan}
use Rattle.sorted_loads.proofs.Content.{refused_for_parent}
use Rattle.sorted_loads.proofs.Runs.{run, run_parts, not_ended, entries_after, run_keeps, Came, refused, there, came, refused_last}

abbrev pub Records : Type 0
Records = List RawRecord

-- ---- two places in one list

data Place (before : Records) (r : RawRecord) (behind front : Records) (q : RawRecord) (rest : Records) : Type 0 where
  earlier : (more : Records) → before ≡ front ++ q ∷ more → Place before r behind front q rest
  same : q ≡ r → Place before r behind front q rest
  later : (more : Records) → behind ≡ more ++ q ∷ rest → Place before r behind front q rest

place : (before : Records) (r : RawRecord) (behind front : Records) (q : RawRecord) (rest : Records) → before ++ r ∷ behind ≡ front ++ q ∷ rest → Place before r behind front q rest
place [] r behind [] q rest e = same (let h : q ≡ r = cc in h)
place [] r behind (f ∷ fs) q rest e = later fs (let h : behind ≡ fs ++ q ∷ rest = cc in h)
place (b ∷ bs) r behind [] q rest e = earlier bs (let h : b ≡ q = cc in ap (λ (x : RawRecord). x ∷ bs) h)
place (b ∷ bs) r behind (f ∷ fs) q rest e = by (place bs r behind fs q rest (let h : bs ++ r ∷ behind ≡ fs ++ q ∷ rest = cc in h))
  where
    by : Place bs r behind fs q rest → Place (b ∷ bs) r behind (f ∷ fs) q rest
    by (earlier more g) = earlier more (let h : b ≡ f = cc in λ i. h i ∷ g i)
    by (same g) = same g
    by (later more g) = later more g

-- ---- in order

rest_in_order : (before : Records) (r : RawRecord) (behind : Records) → AreInOrder (map name_read (before ++ r ∷ behind)) → AllByRecursion (λ other. is_above other (name_read r) ≡ false) (map name_read behind)
rest_in_order [] r behind h = h.0
rest_in_order (b ∷ bs) r behind h = rest_in_order bs r behind h.1

not_above : (r : RawRecord) (more : Records) (q : RawRecord) (rest : Records) → AllByRecursion (λ other. is_above other (name_read r) ≡ false) (map name_read (more ++ q ∷ rest)) → is_above (name_read q) (name_read r) ≡ false
not_above r [] q rest h = h.0
not_above r (m ∷ ms) q rest h = not_above r ms q rest h.1

-- ---- a record and its parent's

some_below : (p : Path) → is_root p ≡ false → p ≡ parent_of p → ⊥
some_below [] root e = cc
some_below (s ∷ ss) root e = let long = ap (λ (l : Path). length l) e ∙ length-take (length (s ∷ ss) - 1) (s ∷ ss) in omega (arith, long)

one_path : (conf : Conf) (r : RawRecord) (p q : Path) → IsRecordAt conf r p → IsRecordAt conf r q → p ≡ q
one_path conf r p q a b =
    let dn : a.dn ≡ b.dn = named (reading Content r.first r.lines) a.dn b.dn a.attrs b.attrs a.reads b.reads in
    let paths : Some p ≡ Some q = sym a.path ∙ ap (λ (x : List ℕ). record_path conf (records_of.Content x [])) dn ∙ b.path in cc
  where
    named : (r : Result Record LdifFaultKind) (x y : List ℕ) (xs ys : List Attr) → r ≡ Ok (records_of.Content x xs) → r ≡ Ok (records_of.Content y ys) → x ≡ y
    named r x y xs ys e g = cc

module _ (total : IsTotalOrder path_cmp) (conf : Conf) (go_on : Bool) (d : Entries) where
  stood_before : (front more : Records) (q : RawRecord) (p : Path) → IsRecordAt conf q p → (run conf go_on (start d) (front ++ q ∷ more)).ended ≡ false
      → finite.contains_key (run conf go_on (start d) (front ++ q ∷ more)).entries p ≡ false → WasRefused conf go_on d (front ++ q ∷ more) front q
  unfolding after_records
  stood_before front more q p at going missing =
      let s : State = run conf go_on (start d) front in
      let whole : run conf go_on (start d) (front ++ q ∷ more) ≡ run conf go_on (step conf Content go_on s (read_as Content q)) more = run_parts conf go_on (start d) front (q ∷ more) in
      let turn : s.ended ≡ false = not_ended conf go_on s (q ∷ more) (ap (λ (t : State). t.ended) (sym whole) ∙ going) in
      by s turn (λ here. ap (λ (t : State). finite.contains_key t.entries p) whole ∙ run_keeps total conf go_on (step conf Content go_on s (read_as Content q)) more p (ap (λ (m : Entries). finite.contains_key m p) (entries_after conf go_on s q turn) ∙ here))
      (λ why is. record { more = more; stands = refl; turn = turn; why = why; refused = is })
      (came total conf s.entries (reading Content q.first q.lines) at.dn at.attrs p at.reads at.path)
    where
      by : (s : State) → s.ended ≡ false
          → (finite.contains_key (outcome conf Content s.entries (reading Content q.first q.lines)).0 p ≡ true → finite.contains_key (run conf go_on (start d) (front ++ q ∷ more)).entries p ≡ true)
          → ((why : RecordRefusal) → (outcome conf Content s.entries (reading Content q.first q.lines)).1 ≡ outcomes.Refused why → WasRefused conf go_on d (front ++ q ∷ more) front q)
          → Came total s.entries (outcome conf Content s.entries (reading Content q.first q.lines)) p → WasRefused conf go_on d (front ++ q ∷ more) front q
      by s turn kept refuse (refused why e) = refuse why e
      by s turn kept refuse (there e) = absurd (let no : true ≡ false = sym (kept e) ∙ missing in cc)

  pub parents : ((text : List ℕ) → AreInOrder (map name_read (records (sorted_text text)))) → (text : List ℕ) (before behind front rest : Records) (r q : RawRecord) (p : Path)
      → records (sorted_text text) ≡ before ++ r ∷ behind → (state_after conf Content go_on d before).ended ≡ false
      → IsOrphan conf (state_after conf Content go_on d before).entries r p
      → records (sorted_text text) ≡ front ++ q ∷ rest → IsRecordAt conf q (parent_of p) → is_above (name_read q) (name_read r) ≡ true
      → WasRefused conf go_on d before front q
  unfolding after_records
  parents ordered text before behind front rest r q p is going orphan also at above = by (place before r behind front q rest (sym is ∙ also))
    where
      ended : (b : Records) → before ≡ b → (state_after conf Content go_on d b).ended ≡ false
      ended b e = subst (λ (x : Records). (state_after conf Content go_on d x).ended ≡ false) e going

      missing : (b : Records) → before ≡ b → finite.contains_key (state_after conf Content go_on d b).entries (parent_of p) ≡ false
      missing b e = subst (λ (x : Records). finite.contains_key (state_after conf Content go_on d x).entries (parent_of p) ≡ false) e orphan.missing

      by : Place before r behind front q rest → WasRefused conf go_on d before front q
      by (earlier more e) =
          subst (λ (x : Records). WasRefused conf go_on d x front q) (sym e) (stood_before front more q (parent_of p) at (ended (front ++ q ∷ more) e) (missing (front ++ q ∷ more) e))
      by (same e) =
          absurd (some_below p orphan.below_root (one_path conf r p (parent_of p) orphan.at (subst (λ (x : RawRecord). IsRecordAt conf x (parent_of p)) e at)))
      by (later more e) =
          let order = subst (λ (x : Records). AreInOrder (map name_read x)) is (ordered text) in
          let none = not_above r more q rest (subst (λ (x : Records). AllByRecursion (λ other. is_above other (name_read r) ≡ false) (map name_read x)) e (rest_in_order before r behind order)) in
          absurd (let no : true ≡ false = sym above ∙ none in cc)

pub stay : IsTotalOrder path_cmp → (conf : Conf) (go_on : Bool) (d : Entries) (given : Records) (p : Path) → finite.contains_key d p ≡ true → finite.contains_key (state_after conf Content go_on d given).entries p ≡ true
unfolding after_records
stay total conf go_on d given p h = run_keeps total conf go_on (start d) given p h

pub for_parent : (conf : Conf) (d : Entries) (r : RawRecord) (p : Path) → IsOrphan conf d r p → outcome_in conf d r ≡ refused_orphan d
unfolding outcome
for_parent conf d r p h =
    ap (outcome conf Content d) h.at.reads ∙ ap (of_change d false) (refused_for_parent conf d h.at.dn h.at.attrs p h.at.path h.new h.below_root h.missing)

-- without -c nothing was refused
pub none_refused : ((conf : Conf) (go_on : Bool) (d : Entries) (text : List ℕ) (before behind front rest : Records) (r q : RawRecord) (p : Path)
    → records (sorted_text text) ≡ before ++ r ∷ behind → (state_after conf Content go_on d before).ended ≡ false
    → IsOrphan conf (state_after conf Content go_on d before).entries r p
    → records (sorted_text text) ≡ front ++ q ∷ rest → IsRecordAt conf q (parent_of p) → is_above (name_read q) (name_read r) ≡ true
    → WasRefused conf go_on d before front q)
    → (conf : Conf) (d : Entries) (text : List ℕ) (before behind front rest : Records) (r q : RawRecord) (p : Path)
    → records (sorted_text text) ≡ before ++ r ∷ behind → (loaded_after conf d before).ended ≡ false
    → IsOrphan conf (loaded_after conf d before).entries r p
    → records (sorted_text text) ≡ front ++ q ∷ rest → IsRecordAt conf q (parent_of p) → is_above (name_read q) (name_read r) ≡ false
unfolding after_records
none_refused law conf d text before behind front rest r q p is going orphan also at = by (is_above (name_read q) (name_read r)) refl
  where
    ends : WasRefused conf false d before front q → ⊥
    ends h =
        let s : State = run conf false (start d) front in
        let end : (run conf false s (q ∷ h.more)).ended ≡ true = refused_last conf s q h.more h.why h.turn h.refused in
        let whole : run conf false (start d) before ≡ run conf false s (q ∷ h.more) = ap (run conf false (start d)) h.stands ∙ run_parts conf false (start d) front (q ∷ h.more) in
        let no : true ≡ false = sym end ∙ sym (ap (λ (t : State). t.ended) whole) ∙ going in cc

    by : (t : Bool) → is_above (name_read q) (name_read r) ≡ t → t ≡ false
    by true e = absurd (ends (law conf false d text before behind front rest r q p is going orphan also at e))
    by false e = refl
