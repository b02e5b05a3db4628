-- The first faults of a dir.conf, and those that are left out: what is left to be found stands behind what was found.
use Rattle.std.proofs.Common.{◌≡◌, ◌∙◌, ◌<◌, ◌-◌, ℕ, Bool, true, false, cond, List, [], ◌∷◌, ◌++◌, map, Option, Some, None, Ok, Err, inl, inr, sym, ap, subst, refl, arith, ◌⊎◌}
use Rattle.std.specs.Prelude.{option_and_then, is_some, count_by}
use Rattle.std.specs.List.{flat_map}
use Rattle.std.proofs.lemmas.List.{append-nil, append_assoc, map_push}
use Rattle.std.proofs.lemmas.List.Sums.{fold_push}
use Rattle.std.proofs.lemmas.Grind.{flat_map-append}
use Rattle.schema.specs.Conf.{Conf}
use Rattle.base.specs.Answers.{Fails}
use Rattle.definitions.specs.Lines.{lines_of}
use Rattle.dir_conf.specs.Configurations.{conf_of}
use Rattle.dir_conf.specs.Reads.{fault_at}
use Rattle.dir_conf.specs.declared.conf_fault.ConfFault.{ConfFault}
use Rattle.dir_conf.specs.declared.conf_fault.ConfFault.TheVariants.{Line as AtLine}
use Rattle.dir_conf.specs.declared.conf_fault.ConfFaultKind.{ConfFaultKind}
use Rattle.dir_conf.specs.declared.reason.ConfReason.{ConfReason}
use Rattle.dir_conf.specs.declared.reason.ConfFlaw.{ConfFlaw}
use Rattle.dir_conf.specs.declared.reason.ConfFlaw.TheVariants as flaws
use Rattle.dir_conf.specs.declared.reason.NameField.{NameField}
use Rattle.dir_conf.specs.declared.reason.NameField.TheVariants as fields
use Rattle.checks.specs.declared.conf_faults.ConfLineFault.{ConfLineFault}
use Rattle.checks.specs.declared.conf_faults.FoundFault.{FoundFault}
use Rattle.checks.specs.declared.lost_names.LostName.{LostName}
use Rattle.checks.specs.declared.lost_names.LostNames.{LostNames}
use Rattle.checks.specs.ConfFaults.{commented, most_faults, AreFirstFaults, fault_report, note_report, counts_with, found_report, more_report, fault_reports}
use Rattle.checks.specs.LostNames.{is_of_class}
use Rattle.checks.specs.LeftOut.{types_lost_by, classes_lost_by, types_lost, names_for, line_counting, is_unknown_name, CountsAs, Counts, text_behind, line_losing, CountsBehind, EachCounts, AreFaultsOf}
use Rattle.checks.specs.inner.FoundFaults.{Takes, HasFound}

-- ---- what reading a text says of it

-- where it can't be read as a configuration, this is its first fault
pub fails_so : (slice text : List ℕ) → slice ≡ text → (e : ConfFault) (line : ℕ) (kind : ConfFaultKind) → e ≡ AtLine line kind → Fails (fault_at e) (conf_of slice) → conf_of text ≡ Err (line, kind)
fails_so slice text same e line kind is fails = subst (λ (t : List ℕ). conf_of t ≡ Err (line, kind)) same (subst (λ (f : ConfFault). Fails (fault_at f) (conf_of slice)) is fails)

-- whether there are more
pub has_none : (text : List ℕ) (conf : Conf) → conf_of text ≡ Ok conf → AreFirstFaults 0 text [] false
unfolding AreFirstFaults
has_none text conf is = (conf, is)

pub has_more : (text : List ℕ) (e : ConfFault) (line : ℕ) (kind : ConfFaultKind) → e ≡ AtLine line kind → Fails (fault_at e) (conf_of text) → AreFirstFaults 0 text [] true
unfolding AreFirstFaults
has_more text e line kind is fails = (refl, ((line, kind), fails_so text text refl e line kind is fails))

-- ---- a list behind which one more stands

nothing_behind : {A : Type 0} (x : A) (xs ys : List A) → [] ≡ xs ++ x ∷ ys → ⊥
nothing_behind x [] ys is = cc
nothing_behind x (z ∷ zs) ys is = cc

-- each of its members is one of the list, or the last one behind all of it
pub record IsBefore {A : Type 0} (xs above : List A) (y : A) : Type 0 where
  pub after : List A
  pub is : xs ≡ above ++ y ∷ after

pub split_last : {A : Type 0} (xs : List A) (x : A) (above : List A) (y : A) (after : List A) → xs ++ x ∷ [] ≡ above ++ y ∷ after
    → IsBefore xs above y ⊎ ((above ≡ xs) × (y ≡ x))
split_last [] x [] y after is = inr (refl, cc)
split_last [] x (a ∷ bs) y after is = absurd (nothing_behind y bs after cc)
split_last (z ∷ zs) x [] y after is = inl (record { after = zs; is = cc })
split_last (z ∷ zs) x (a ∷ bs) y after is = more (split_last zs x bs y after cc)
  where
    more : IsBefore zs bs y ⊎ ((bs ≡ zs) × (y ≡ x)) → IsBefore (z ∷ zs) (a ∷ bs) y ⊎ ((a ∷ bs ≡ z ∷ zs) × (y ≡ x))
    more (inl before) = inl (record { after = before.after; is = let same : z ≡ a = cc in let rest = before.is in cc })
    more (inr same) = inr ((let first : a ≡ z = cc in let rest = same.0 in cc), same.1)

-- ---- one more fault

pub nothing_found : (text : List ℕ) → HasFound text text most_faults [] [] []
nothing_found text = record { before = λ others more are. are; left_is = refl; types_are = refl; classes_are = refl; count = record { each = λ above f after is. absurd (nothing_behind f above after is) } }

module _ (text left : List ℕ) (room : ℕ) (found : List FoundFault) (types classes : List LostName) (so : HasFound text left room found types classes) where
  -- nothing is left to be found
  pub is_all : (more : Bool) → AreFirstFaults room left [] more → AreFaultsOf text found more
  is_all more are = record { are = subst (λ (fs : List ConfLineFault). AreFirstFaults most_faults text fs more) (append-nil (map (λ f. f.fault) found)) (so.before [] more are); count = so.count }

  pub no_fault : (conf : Conf) → conf_of left ≡ Ok conf → AreFaultsOf text found false
  unfolding AreFirstFaults
  no_fault conf is = is_all false (conf, is)

  module _ (f : ConfLineFault) (lost lost' : LostNames) (found' : List FoundFault) (types_so : lost.types.items ≡ types) (classes_so : lost.classes.items ≡ classes)
      (takes : Takes (lines_of text) left f lost lost' found found') where
    abbrev taken : FoundFault
    taken = takes.taken

    -- it counts beside those that were found before it
    counts_behind : CountsBehind text found taken
    counts_behind =
        let lines = lines_of text in
        let here : Counts lines left lost.types.items lost.classes.items taken.fault taken.counted_with =
        subst (λ (one : ConfLineFault). Counts lines left lost.types.items lost.classes.items one taken.counted_with) (sym takes.of_fault) takes.counts in
        let in_text = subst (λ (t : List ℕ). Counts lines t lost.types.items lost.classes.items taken.fault taken.counted_with) so.left_is here in
        let of_types = subst (λ (ts : List LostName). Counts lines (text_behind text found) ts lost.classes.items taken.fault taken.counted_with) (types_so ∙ so.types_are) in_text in
        subst (λ (cs : List LostName). Counts lines (text_behind text found) (types_lost lines found) cs taken.fault taken.counted_with) (classes_so ∙ so.classes_are) of_types

    each_behind : (above : List FoundFault) (g : FoundFault) → IsBefore found above g ⊎ ((above ≡ found) × (g ≡ taken)) → CountsBehind text above g
    each_behind above g (inl before) = so.count.each above g before.after before.is
    each_behind above g (inr last) = subst (λ (h : FoundFault). CountsBehind text above h) (sym last.1) (subst (λ (fs : List FoundFault). CountsBehind text fs taken) (sym last.0) counts_behind)

    each_counts : EachCounts text found'
    each_counts = record { each = λ above g after is. each_behind above g (split_last found taken above g after (sym takes.found_is ∙ is)) }

    faults_put : map (λ g. g.fault) found' ≡ map (λ g. g.fault) found ++ f ∷ []
    faults_put = ap (λ (fs : List FoundFault). map (λ g. g.fault) fs) takes.found_is ∙ map_push (λ (g : FoundFault). g.fault) found taken
        ∙ ap (λ (one : ConfLineFault). map (λ g. g.fault) found ++ one ∷ []) takes.of_fault

    -- a line that is missing comes last
    pub last_fault : 0 < room → conf_of left ≡ Err (f.line, f.kind) → f.line ≡ 0 → AreFaultsOf text found' false
    unfolding AreFirstFaults
    last_fault some fails is = record {
      are = subst (λ (fs : List ConfLineFault). AreFirstFaults most_faults text fs false) (sym faults_put) (so.before (f ∷ []) false (some, (fails, ((λ _. (refl, refl)), λ at. absurd (omega (arith, is, at))))));
      count = each_counts;
    }

    pub next_fault : 0 < room → conf_of left ≡ Err (f.line, f.kind) → 0 < f.line → HasFound text (commented (f.line - 1) left) (room - 1) found' lost'.types.items lost'.classes.items
    unfolding AreFirstFaults
    next_fault some fails at = record {
      before = λ others more are.
          subst (λ (fs : List ConfLineFault). AreFirstFaults most_faults text fs more) (sym (ap (λ (fs : List ConfLineFault). fs ++ others) faults_put ∙ append_assoc (map (λ g. g.fault) found) (f ∷ []) others))
          (so.before (f ∷ others) more (some, (fails, ((λ none. absurd (omega (arith, none, at))), λ _. are))));
      left_is =
          ap (λ (one : ConfLineFault). commented (one.line - 1) left) (sym takes.of_fault) ∙ ap (commented (taken.fault.line - 1)) so.left_is
          ∙ sym (fold_push (λ (t : List ℕ) (g : FoundFault). commented (g.fault.line - 1) t) text found taken) ∙ ap (text_behind text) (sym takes.found_is);
      types_are = takes.types ∙ ap (λ (ts : List LostName). ts ++ types_lost_by (lines_of text) taken) (types_so ∙ so.types_are) ∙ sym (lost_put (types_lost_by (lines_of text)));
      classes_are = takes.classes ∙ ap (λ (cs : List LostName). cs ++ classes_lost_by (lines_of text) taken) (classes_so ∙ so.classes_are) ∙ sym (lost_put (classes_lost_by (lines_of text)));
      count = each_counts;
    }
      where
        lost_put : (by : FoundFault → List LostName) → flat_map by found' ≡ flat_map by found ++ by taken
        lost_put by = ap (flat_map by) takes.found_is ∙ flat_map-append by found (taken ∷ []) ∙ ap (λ (ns : List LostName). flat_map by found ++ ns) (append-nil (by taken))

-- ---- the first one

names_none : (of_class : Bool) (field : NameField) → names_for of_class field [] [] ≡ []
names_none true fields.Superior = refl
names_none false fields.Superior = refl
names_none of_class fields.Must = refl
names_none of_class fields.May = refl

-- where no name is lost, none counts at another line
none_counting : (of_class : Bool) (flaw : ConfFlaw) → line_counting of_class flaw [] [] ≡ None
none_counting of_class (flaws.UnknownName of field word) = ap (λ (lost : List LostName). line_losing lost word) (names_none of_class field)
none_counting of_class (flaws.UnknownIndexed word) = refl
none_counting of_class (flaws.Keyword word) = refl
none_counting of_class flaws.Indented = refl
none_counting of_class (flaws.Unread of part) = refl
none_counting of_class flaws.Lists = refl
none_counting of_class (flaws.Twice of word) = refl
none_counting of_class (flaws.Subtype of superior) = refl
none_counting of_class (flaws.RuleSyntax of rule stated_rule stated_syntax) = refl
none_counting of_class flaws.NoSuffix = refl
none_counting of_class flaws.SecondSuffix = refl
none_counting of_class (flaws.BadSuffix part) = refl
none_counting of_class (flaws.UnknownKind word) = refl
none_counting of_class (flaws.NoRule word kind) = refl
none_counting of_class (flaws.Collective of) = refl
none_counting of_class (flaws.TooManyTypes of) = refl

-- it is never left out, since nothing is lost above it
pub first_is_told : (text : List ℕ) (f : FoundFault) (others : List FoundFault) → EachCounts text (f ∷ others) → f.counted_with ≡ None
first_is_told text f others count = go (is_unknown_name f.fault.kind) text (is_of_class (lines_of text) f.fault.line) (count.each [] f others refl)
  where
    explained : (of_class : Bool) (why : Option ConfReason) → option_and_then (λ (r : ConfReason). line_counting of_class r.flaw [] []) why ≡ None
    explained of_class None = refl
    explained of_class (Some r) = none_counting of_class r.flaw

    go : (b : Bool) (left : List ℕ) (of_class : Bool) → CountsAs b left of_class [] [] f.counted_with → f.counted_with ≡ None
    go false left of_class none = none
    go true left of_class is = is.counted ∙ explained of_class is.why

-- so it is reported
pub first_reported : (text : List ℕ) (f : FoundFault) (others : List FoundFault) (more : Bool) → EachCounts text (f ∷ others) → [] ≡ fault_reports (f ∷ others) more → ⊥
first_reported text f others more count none = go f.counted_with (first_is_told text f others count) none
  where
    behind : List ℕ
    behind = fault_report f.fault ++ note_report f.fault.line (count_by (counts_with f.fault.line) (f ∷ others))

    go : (at : Option ℕ) → at ≡ None → [] ≡ (cond (is_some at) [] behind ++ flat_map (found_report (f ∷ others)) others) ++ more_report more → ⊥
    go None told none = cc
    go (Some line) told none = absurd cc

-- ---- none at all

pub none_found : (text : List ℕ) → (conf : Conf) × (conf_of text ≡ Ok conf) → AreFaultsOf text [] false
unfolding AreFirstFaults
none_found text is = record { are = is; count = (nothing_found text).count }

pub says_conf : (text : List ℕ) → AreFaultsOf text [] false → (conf : Conf) × (conf_of text ≡ Ok conf)
unfolding AreFirstFaults
says_conf text are = are.are
