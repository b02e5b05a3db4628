-- Flaws of a modify DN that are found.
use Rattle.std.proofs.Common.{◌≡◌, ◌≢◌, ℕ, Bool, true, false, cond, not, List, [], ◌∷◌, ◌++◌, map, Option, Some, None, Result, Ok, refl, sym, ap, subst, ◌∙◌}
use Rattle.std.specs.Prelude.{nat_eq, unwrap_or}
use Rattle.std.specs.FinMap as finite
use Rattle.std.specs.Map.{lookup}
use Rattle.std.specs.Option.{option_map}
use Rattle.ldif.specs.declared.record.Control.{Control}
use Rattle.ldif.specs.declared.record.Mode.{Mode}
use Rattle.ldif.specs.declared.record.Record.{Record}
use Rattle.ldif.specs.declared.record.Record.TheVariants as records
use Rattle.paths.specs.Paths.{Path, is_root, begins}
use Rattle.schema.specs.Conf.{Conf, located}
use Rattle.schema.specs.Rdns.{TypedRdn, rdn_key_of}
use Rattle.schema.specs.Values.{rdns_in}
use Rattle.values.specs.Values.{Value}
use Rattle.entries.specs.Entries.{EntryContent, values_of, push_value}
use Rattle.entries.specs.Modifies.{attribute, set_values, renamed_attrs}
use Rattle.entries.specs.StoredEntries.{EntryAttribute}
use Rattle.tree.specs.Directories.{Entries}
use Rattle.tree.specs.Renames.{rdn_in, same_path, is_taken}
use Rattle.reasons.specs.declared.reason.NameReason.{NameReason}
use Rattle.reasons.specs.declared.reason.Reason.{Reason}
use Rattle.reasons.specs.declared.reason.Reason.TheVariants as reasons
use Rattle.reasons.specs.NameFlaws.{NameFlaw, HasNameFlaw, HasPlace, SpellsRdn, name_flaw_code, place_checks, new_rdn_checks}
use Rattle.reasons.specs.Asked.{IsAt, IsAbout, ComesBelow, ComesTo, rdn_of_record, superior_of_record}
use Rattle.reasons.specs.Flaws.{Flaw, NewRdn, Superior, IsSuffix, BelowItself, NoSuperior, IsTaken, HasFlaw, superior_checks}
use Rattle.reasons.specs.Reasons.{name_flaw_of}
use Rattle.reasons.specs.inner.Found.{FindsFirst, Becomes}
use Rattle.reasons.specs.inner.Renames.{Renames, IsNewRdn, IsUpper, Moves}
use Rattle.reasons.proofs.Answering.{answers_none, none_answers}
use Rattle.reasons.proofs.AvaAnswers.{only_ok}
use Rattle.reasons.proofs.BlocksFound.{only_entry_about}
use Rattle.reasons.proofs.Elements.{both, joined, on, off}
use Rattle.reasons.proofs.Finding.{within}
use Rattle.reasons.proofs.NameAnswers.{place_answers, new_rdn_answers}
use Rattle.reasons.proofs.Places.{only_path}
use Rattle.reasons.proofs.RecordFound.{Found, found_here, found_later, found_before, found_none, of_this, differ}
use Rattle.reasons.proofs.RenameAnswers.{others, apart, same_rdn}

-- ---- a value last

last_of : (u : ℕ) (vs : List Value) (v : Value) (es : List EntryAttribute) → attribute u (vs ++ v ∷ []) ++ es ≡ (u, vs ++ v ∷ []) ∷ es
last_of u [] v es = refl
last_of u (w ∷ vs) v es = refl

pub set_last_value : (t : ℕ) (v : Value) (es : List EntryAttribute) → set_values es t (values_of es t ++ v ∷ []) ≡ push_value es t v
unfolding set_values push_value
set_last_value t v [] = refl
set_last_value t v (e ∷ es) =
    elim (nat_eq t e.0) as (λ b. cond b (attribute e.0 (unwrap_or (cond b (Some e.1) (lookup (nat_eq t) es)) [] ++ v ∷ []) ++ es) (e ∷ set_values es t (unwrap_or (cond b (Some e.1) (lookup (nat_eq t) es)) [] ++ v ∷ []))
    ≡ cond b ((e.0, e.1 ++ v ∷ []) ∷ es) (e ∷ push_value es t v)) [
      | true ↦ last_of e.0 e.1 v es
      | false ↦ ap (λ (xs : List EntryAttribute). e ∷ xs) (set_last_value t v es)
    ]

-- ---- a record that is a modify DN

module _ (conf : Conf) (mode : Mode) (d : Entries) (dn : List ℕ) (controls : List Control) (newrdn : List ℕ) (delete_old : Bool) (superior : Option (List ℕ)) where
  abbrev r : Record
  r = records.ModRdn dn controls newrdn delete_old superior

  abbrev FoundOf : List Flaw → Option Reason → Type 0
  FoundOf fs found = Found conf mode d r fs found

  module _ (path : Path) (at : IsAt conf r path) (e : EntryContent) (found : finite.get d path ≡ Some e) (rdn : TypedRdn) (spelled : SpellsRdn conf newrdn rdn) where
    path_is : (p : Path) → IsAt conf r p → p ≡ path
    path_is p other = only_path conf dn at.0 p at.1 other ∙ sym at.2

    about : IsAbout conf d r e
    about = (path, at, found)

    abbrev made : EntryContent → TypedRdn → EntryContent
    made old new = record { rdn = new; attrs = renamed_attrs conf.types old new delete_old }

    only_rdn_is : (other : TypedRdn) → SpellsRdn conf newrdn other → other ≡ rdn
    only_rdn_is other h = same_rdn other rdn (only_ok (rdns_in conf.types newrdn) (other ∷ []) (rdn ∷ []) h spelled)

    becomes_here : Becomes conf d r (made e rdn)
    becomes_here = record {
      have = (e, about, rdn, spelled, refl);
      only = λ other h.
          h.4 ∙ ap (λ (a : EntryContent). made a h.2) (only_entry_about conf mode d r e h.0 about h.1) ∙ ap (made e) (only_rdn_is h.2 h.3);
    }

    module _ (upper : Path) (below : ComesBelow conf superior path upper) where
      only_upper : (s : Option (List ℕ)) (p : Path) → ComesBelow conf s p upper → (u : Path) → ComesBelow conf s p u → u ≡ upper
      only_upper None p is u h = h ∙ sym is
      only_upper (Some text) p is u h = only_path conf text is.0 u is.1 h ∙ sym is.2

      abbrev to : Path
      to = upper ++ rdn_key_of conf.types rdn ∷ []

      -- what is so of where it comes is so of this
      of_upper : (Q : Path → Path → Type 0) (p : Path) → IsAt conf r p → (u : Path) → ComesBelow conf superior p u → Q p u → Q path upper
      of_upper Q p other u h is =
          let same : p ≡ path = path_is p other in
          subst (Q path) (only_upper superior path below u (subst (λ (q : Path). ComesBelow conf superior q u) same h)) (subst (λ (q : Path). Q q u) same is)

      of_to : (Q : Path → Path → Type 0) (p : Path) → IsAt conf r p → (t : Path) → ComesTo conf r p t → Q p t → Q path to
      of_to Q p other t h is =
          of_upper (λ q u. Q q (u ++ rdn_key_of conf.types rdn ∷ [])) p other h.2 h.3
          (subst (λ (s : TypedRdn). Q p (h.2 ++ rdn_key_of conf.types s ∷ [])) (only_rdn_is h.0 h.1) (subst (Q p) h.4 is))

      below_here : (fs : List Flaw) → begins path upper ≡ true → FoundOf (BelowItself ∷ fs) (Some reasons.BelowItself)
      below_here fs inside = found_here conf mode d r reasons.BelowItself fs (path, at, upper, below, inside) tt

      module _ (outside : begins path upper ≡ false) where
        behind_below : (fs : List Flaw) (o : Option Reason) → FoundOf fs o → FoundOf (BelowItself ∷ fs) o
        behind_below fs o is = found_later conf mode d r BelowItself fs o (λ has. differ (begins path upper) (of_upper (λ p u. begins p u ≡ true) has.0 has.1 has.2 has.3 has.4) outside) is

        no_superior_here : (fs : List Flaw) → finite.contains_key d upper ≡ false → FoundOf (BelowItself ∷ NoSuperior ∷ fs) (Some reasons.NoSuperior)
        no_superior_here fs none = behind_below (NoSuperior ∷ fs) (Some reasons.NoSuperior) (found_here conf mode d r reasons.NoSuperior fs (path, at, upper, below, none) tt)

        module _ (there : finite.contains_key d upper ≡ true) where
          behind_superior : (fs : List Flaw) (o : Option Reason) → FoundOf fs o → FoundOf (BelowItself ∷ NoSuperior ∷ fs) o
          behind_superior fs o is = behind_below (NoSuperior ∷ fs) o
              (found_later conf mode d r NoSuperior fs o (λ has. differ (finite.contains_key d upper) there (of_upper (λ p u. finite.contains_key d u ≡ false) has.0 has.1 has.2 has.3 has.4)) is)

          taken_here : (fs : List Flaw) → is_taken d path to ≡ true → FoundOf (BelowItself ∷ NoSuperior ∷ IsTaken ∷ fs) (Some reasons.IsTaken)
          taken_here fs taken =
              let k = both (not (same_path path to)) (finite.contains_key d to) taken in
              behind_superior (IsTaken ∷ fs) (Some reasons.IsTaken)
              (found_here conf mode d r reasons.IsTaken fs (path, at, to, (rdn, spelled, upper, below, refl), others path to (off (same_path path to) k.0), k.1) tt)

          free_here : (fs : List Flaw) (o : Option Reason) → is_taken d path to ≡ false → FoundOf fs o → FoundOf (BelowItself ∷ NoSuperior ∷ IsTaken ∷ fs) o
          free_here fs o free is = behind_superior (IsTaken ∷ fs) o
              (found_later conf mode d r IsTaken fs o (λ has.
              let k = of_to (λ p t. (t ≢ p) × (finite.contains_key d t ≡ true)) has.0 has.1 has.2 has.3 (has.4, has.5) in
              differ (is_taken d path to) (joined (not (same_path path to)) (finite.contains_key d to) (on (same_path path to) (apart path to k.0)) k.1) free) is)

-- ---- as calls know it

module _ (conf : Conf) (mode : Mode) (d : Entries) (r : Record) (path : Path) (e : EntryContent) (rdn : TypedRdn) (delete_old : Bool) (upper : Path) (moves : Moves conf d r path e rdn delete_old upper) where
  abbrev renaming : Record
  renaming = records.ModRdn moves.renames.dn moves.renames.controls moves.newrdn delete_old moves.superior

  at_renaming : IsAt conf renaming path
  at_renaming = subst (λ (q : Record). IsAt conf q path) moves.renames.record_is moves.at

  to_record : (fs : List Flaw) (o : Option Reason) → Found conf mode d renaming fs o → Found conf mode d r fs o
  to_record fs o is = subst (λ (q : Record). Found conf mode d q fs o) (sym moves.renames.record_is) is

  from_record : (fs : List Flaw) (o : Option Reason) → Found conf mode d r fs o → Found conf mode d renaming fs o
  from_record fs o is = subst (λ (q : Record). Found conf mode d q fs o) moves.renames.record_is is

  pub becomes_renamed : Becomes conf d r (record { rdn = rdn; attrs = renamed_attrs conf.types e rdn delete_old })
  becomes_renamed =
      subst (λ (q : Record). Becomes conf d q (record { rdn = rdn; attrs = renamed_attrs conf.types e rdn delete_old })) (sym moves.renames.record_is)
      (becomes_here conf mode d moves.renames.dn moves.renames.controls moves.newrdn delete_old moves.superior path at_renaming e moves.found rdn moves.spelled)

  pub below_found : (fs : List Flaw) → begins path upper ≡ true → Found conf mode d r (BelowItself ∷ fs) (Some reasons.BelowItself)
  below_found fs inside =
      to_record (BelowItself ∷ fs) (Some reasons.BelowItself)
      (below_here conf mode d moves.renames.dn moves.renames.controls moves.newrdn delete_old moves.superior path at_renaming e moves.found rdn moves.spelled upper moves.below fs inside)

  pub no_superior_found : (fs : List Flaw) → begins path upper ≡ false → finite.contains_key d upper ≡ false → Found conf mode d r (BelowItself ∷ NoSuperior ∷ fs) (Some reasons.NoSuperior)
  no_superior_found fs outside none =
      to_record (BelowItself ∷ NoSuperior ∷ fs) (Some reasons.NoSuperior)
      (no_superior_here conf mode d moves.renames.dn moves.renames.controls moves.newrdn delete_old moves.superior path at_renaming e moves.found rdn moves.spelled upper moves.below outside fs none)

  module _ (to_path : Path) (to_is : to_path ≡ upper ++ rdn_key_of conf.types rdn ∷ []) where
    pub taken_found : (fs : List Flaw) → begins path upper ≡ false → finite.contains_key d upper ≡ true → is_taken d path to_path ≡ true
        → Found conf mode d r (BelowItself ∷ NoSuperior ∷ IsTaken ∷ fs) (Some reasons.IsTaken)
    taken_found fs outside there taken =
        to_record (BelowItself ∷ NoSuperior ∷ IsTaken ∷ fs) (Some reasons.IsTaken)
        (taken_here conf mode d moves.renames.dn moves.renames.controls moves.newrdn delete_old moves.superior path at_renaming e moves.found rdn moves.spelled upper moves.below outside there fs
        (sym (ap (is_taken d path) to_is) ∙ taken))

    pub free_found : (fs : List Flaw) (o : Option Reason) → begins path upper ≡ false → finite.contains_key d upper ≡ true → is_taken d path to_path ≡ false → Found conf mode d r fs o
        → Found conf mode d r (BelowItself ∷ NoSuperior ∷ IsTaken ∷ fs) o
    free_found fs o outside there free is =
        to_record (BelowItself ∷ NoSuperior ∷ IsTaken ∷ fs) o
        (free_here conf mode d moves.renames.dn moves.renames.controls moves.newrdn delete_old moves.superior path at_renaming e moves.found rdn moves.spelled upper moves.below outside there fs o
        (sym (ap (is_taken d path) to_is) ∙ free) (from_record fs o is))

-- ---- its names

module _ (conf : Conf) (mode : Mode) (d : Entries) (r : Record) (newrdn : List ℕ) (delete_old : Bool) (superior : Option (List ℕ)) (renames : Renames r newrdn delete_old superior) where
  superior_is : superior_of_record r ≡ superior
  superior_is = ap superior_of_record renames.record_is

  rdn_is : rdn_of_record r ≡ newrdn
  rdn_is = ap rdn_of_record renames.record_is

  same_text : (a b : List ℕ) → ◌≡◌ {A = Option (List ℕ)} (Some a) (Some b) → b ≡ a
  same_text a b h = cc

  module _ (text : List ℕ) (named : superior ≡ Some text) where
    to_superior : (f : NameFlaw) → HasNameFlaw conf text f → HasFlaw conf mode d r (Superior f)
    to_superior f h = (text, superior_is ∙ named, h)

    from_superior : (f : NameFlaw) → HasFlaw conf mode d r (Superior f) → HasNameFlaw conf text f
    from_superior f h = subst (λ (t : List ℕ). HasNameFlaw conf t f) (same_text text h.0 (sym (superior_is ∙ named) ∙ h.1)) h.2

    of_superior : (o : Option NameFlaw) → FindsFirst (HasNameFlaw conf text) (place_checks text) o → FindsFirst (HasFlaw conf mode d r) (map Superior (place_checks text)) (option_map Superior o)
    of_superior o h = within (HasNameFlaw conf text) (HasFlaw conf mode d r) Superior to_superior from_superior (place_checks text) o h

  pub superior_found : (why : NameReason) (text : List ℕ) → superior ≡ Some text → FindsFirst (HasNameFlaw conf text) (place_checks text) (Some (name_flaw_of why)) → (fs : List Flaw)
      → Found conf mode d r (superior_checks superior ++ fs) (Some (reasons.Superior why))
  superior_found why text named h fs =
      subst (λ (s : Option (List ℕ)). Found conf mode d r (superior_checks s ++ fs) (Some (reasons.Superior why))) (sym named)
      (found_before conf mode d r (map Superior (place_checks text)) fs (reasons.Superior why) (record { first = of_superior text named (Some (name_flaw_of why)) h; so = tt }))

  pub superior_fine : (path upper : Path) → ComesBelow conf superior path upper → Found conf mode d r (superior_checks superior) None
  superior_fine path upper below = by superior refl below
    where
      by : (s : Option (List ℕ)) → superior ≡ s → ComesBelow conf s path upper → Found conf mode d r (superior_checks s) None
      by None named is = found_none conf mode d r
      by (Some text) named is = record {
        first = of_superior text named None (answers_none (HasNameFlaw conf text) name_flaw_code ((rdns : List TypedRdn) × HasPlace conf text rdns) (place_checks text) (located conf text) is.0 (place_answers conf text) is.1);
        so = tt;
      }

  to_rdn : (f : NameFlaw) → HasNameFlaw conf newrdn f → HasFlaw conf mode d r (NewRdn f)
  to_rdn f h = subst (λ (t : List ℕ). HasNameFlaw conf t f) (sym rdn_is) h

  from_rdn : (f : NameFlaw) → HasFlaw conf mode d r (NewRdn f) → HasNameFlaw conf newrdn f
  from_rdn f h = subst (λ (t : List ℕ). HasNameFlaw conf t f) rdn_is h

  pub new_rdn_found : (why : NameReason) → FindsFirst (HasNameFlaw conf newrdn) (new_rdn_checks newrdn) (Some (name_flaw_of why)) → (fs : List Flaw)
      → Found conf mode d r (map NewRdn (new_rdn_checks newrdn) ++ fs) (Some (reasons.NewRdn why))
  new_rdn_found why h fs =
      found_before conf mode d r (map NewRdn (new_rdn_checks newrdn)) fs (reasons.NewRdn why)
      (record { first = within (HasNameFlaw conf newrdn) (HasFlaw conf mode d r) NewRdn to_rdn from_rdn (new_rdn_checks newrdn) (Some (name_flaw_of why)) h; so = tt })

  pub new_rdn_fine : (rdn : TypedRdn) → rdn_in conf newrdn ≡ Ok rdn → Found conf mode d r (map NewRdn (new_rdn_checks newrdn)) None
  new_rdn_fine rdn is = record {
    first = within (HasNameFlaw conf newrdn) (HasFlaw conf mode d r) NewRdn to_rdn from_rdn (new_rdn_checks newrdn) None
        (answers_none (HasNameFlaw conf newrdn) name_flaw_code ((rdn : TypedRdn) × (rdn_in conf newrdn ≡ Ok rdn) × SpellsRdn conf newrdn rdn) (new_rdn_checks newrdn) (rdn_in conf newrdn) rdn (new_rdn_answers conf newrdn) is);
    so = tt;
  }

-- the RDN that a text spells
pub spells_it : (conf : Conf) (text : List ℕ) (rdn : TypedRdn) → rdn_in conf text ≡ Ok rdn → SpellsRdn conf text rdn
spells_it conf text rdn is =
    let k = none_answers (HasNameFlaw conf text) name_flaw_code ((other : TypedRdn) × (rdn_in conf text ≡ Ok other) × SpellsRdn conf text other) (new_rdn_checks text) (rdn_in conf text) (new_rdn_answers conf text)
    (answers_none (HasNameFlaw conf text) name_flaw_code ((other : TypedRdn) × (rdn_in conf text ≡ Ok other) × SpellsRdn conf text other) (new_rdn_checks text) (rdn_in conf text) rdn (new_rdn_answers conf text) is) in
    subst (SpellsRdn conf text) (only_ok (rdn_in conf text) k.0 rdn k.1 is) k.2

pub suffix_found : (conf : Conf) (mode : Mode) (d : Entries) (r : Record) (path : Path) → IsAt conf r path → (fs : List Flaw) → is_root path ≡ true → Found conf mode d r (IsSuffix ∷ fs) (Some reasons.IsSuffix)
suffix_found conf mode d r path at fs top = found_here conf mode d r reasons.IsSuffix fs (path, at, top) tt

pub below_suffix : (conf : Conf) (mode : Mode) (d : Entries) (r : Record) (path : Path) → IsAt conf r path → (fs : List Flaw) (o : Option Reason) → is_root path ≡ false → Found conf mode d r fs o → Found conf mode d r (IsSuffix ∷ fs) o
below_suffix conf mode d r path at fs o not_top is =
    found_later conf mode d r IsSuffix fs o (λ has. differ (is_root path) (of_this conf mode d r path at (λ p. is_root p ≡ true) has.0 has.1 has.2) not_top) is

pub new_rdn_is : (conf : Conf) (text : List ℕ) (o p : Result TypedRdn NameReason) → o ≡ p → IsNewRdn conf text o → IsNewRdn conf text p
new_rdn_is conf text o p is h = subst (IsNewRdn conf text) is h

pub upper_is : (conf : Conf) (path : Path) (superior : Option (List ℕ)) (o p : Result Path NameReason) → o ≡ p → IsUpper conf path superior o → IsUpper conf path superior p
upper_is conf path superior o p is h = subst (IsUpper conf path superior) is h
