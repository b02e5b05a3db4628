-- The first flaw of a modify DN.
use Rattle.std.proofs.Common.{◌≡◌, ◌≢◌, ℕ, Bool, true, false, cond, not, List, [], ◌∷◌, ◌++◌, map, Option, Some, None, Result, Ok, Err, refl, sym, ap, subst, ◌∙◌}
use Rattle.std.specs.Prelude.{◌&&◌, is_some}
use Rattle.std.specs.declared.cmp.Ordering.{Ordering}
use Rattle.std.specs.declared.cmp.Ordering.TheVariants.{Less, Equal, Greater}
use Rattle.std.specs.Ordering.{is_eq}
use Rattle.std.specs.FinMap as finite
use Rattle.std.proofs.lemmas.Cmp.{eq_by_cmp_equiv}
use Rattle.base.specs.Answers.{◌>>=◌}
use Rattle.ldif.specs.declared.record.Control.{Control}
use Rattle.ldif.specs.declared.record.Mode.{Mode}
use Rattle.ldif.specs.declared.record.Record.{Record}
use Rattle.ldif.specs.declared.record.Record.TheVariants as records
use Rattle.paths.specs.Paths.{Path, path_cmp, parent_of, is_root, begins}
use Rattle.schema.specs.declared.code.Code.{Code}
use Rattle.schema.specs.declared.code.Code.TheVariants.{NoSuchObject, EntryAlreadyExists}
use Rattle.schema.specs.Conf.{Conf, located, path_of}
use Rattle.schema.specs.Rdns.{TypedRdn, rdn_key_of}
use Rattle.schema.specs.Values.{rdns_in}
use Rattle.entries.specs.Entries.{EntryContent}
use Rattle.entries.specs.Modifies.{entry_fault, renamed_attrs, rename_entry}
use Rattle.tree.specs.Directories.{Entries}
use Rattle.tree.specs.Changes.{Change}
use Rattle.tree.specs.Renames.{rdn_in, upper_path, same_path, renamed_to, rename_below, rename_there, rename_at, rename}
use Rattle.tree.proofs.Order.{path_total, path_exact}
use Rattle.reasons.specs.NameFlaws.{HasNameFlaw, HasPlace, SpellsRdn, name_flaw_code, place_checks, new_rdn_checks}
use Rattle.reasons.specs.Asked.{ComesBelow, ComesTo, IsToBe}
use Rattle.reasons.specs.Flaws.{Flaw, Name, NoEntry, IsSuffix, NewRdn, Superior, BelowItself, NoSuperior, IsTaken, HasFlaw, flaw_code, entry_checks, superior_checks, rename_checks}
use Rattle.reasons.proofs.Elements.{both, is_none, joined, none_there, off, on}
use Rattle.reasons.proofs.Answering.{Answers, check, passed, failed, behind, weaker, within}
use Rattle.reasons.proofs.AvaAnswers.{only_ok}
use Rattle.reasons.proofs.NameAnswers.{place_answers, new_rdn_answers}
use Rattle.reasons.proofs.EntryAnswers.{fault_is}
use Rattle.reasons.proofs.Places.{only_path, its_path, is_at, of_path, is_about, only_entry}
use Rattle.reasons.proofs.Operated.{Comes, answers, name_answers, whole_answers, then_change}

-- ---- the same path

equal : (o : Ordering) → is_eq o ≡ true → o ≡ Equal
equal Less h = absurd cc
equal Equal h = refl
equal Greater h = absurd cc

pub others : (p q : Path) → same_path p q ≡ false → q ≢ p
others p q h e = let both = sym ((eq_by_cmp_equiv path_total).refl p) ∙ ap (same_path p) (sym e) ∙ h in absurd cc

pub apart : (p q : Path) → q ≢ p → same_path p q ≡ false
apart p q ne = by (same_path p q) refl
  where
    by : (b : Bool) → same_path p q ≡ b → b ≡ false
    by true e = absurd (ne (sym (path_exact p q (equal (path_cmp p q) e))))
    by false e = refl

pub same_rdn : (a b : TypedRdn) → a ∷ [] ≡ b ∷ [] → a ≡ b
same_rdn a b h = cc

module _ (conf : Conf) (mode : Mode) (d : Entries) (dn : List ℕ) (controls : List Control) (newrdn : List ℕ) (delete_old : Bool) (superior : Option (List ℕ)) (x : Result Change Code) where
  abbrev r : Record
  r = records.ModRdn dn controls newrdn delete_old superior

  abbrev part : Type 0 → List Flaw → Type 0
  part P checks = Answers (HasFlaw conf mode d r) flaw_code P checks x

  module _ (rdns : List TypedRdn) (here : HasPlace conf dn rdns) where
    abbrev path : Path
    path = its_path conf d r rdns here

    module _ (e : EntryContent) (found : finite.get d path ≡ Some e) (rdn : TypedRdn) (spelled : SpellsRdn conf newrdn rdn) where
      abbrev made : EntryContent → TypedRdn → EntryContent
      made old new = record { rdn = new; attrs = renamed_attrs conf.types old new delete_old }

      abbrev wanted : EntryContent
      wanted = made e rdn

      is_wanted : IsToBe conf d r wanted
      is_wanted = (e, is_about conf d r rdns here e found, rdn, spelled, refl)

      only_rdn_is : (other : TypedRdn) → SpellsRdn conf newrdn other → other ≡ rdn
      only_rdn_is other h = same_rdn other rdn (only_ok (rdns_in conf.types newrdn) (other ∷ []) (rdn ∷ []) h spelled)

      only_wanted : (other : EntryContent) → IsToBe conf d r other → other ≡ wanted
      only_wanted other h =
          h.4
          ∙ ap (λ (a : EntryContent). made a h.2) (only_entry conf d r rdns here e found h.0 h.1)
          ∙ ap (made e) (only_rdn_is h.2 h.3)

      module _ (upper : Path) (below : ComesBelow conf superior path upper) (only_upper : (other : Path) → ComesBelow conf superior path other → other ≡ upper) where
        abbrev to : Path
        to = upper ++ rdn_key_of conf.types rdn ∷ []

        -- what is so of where it comes is so of this
        of_upper : (Q : Path → Path → Type 0) (p : Path) → (rs : List TypedRdn) × HasPlace conf dn rs × (p ≡ path_of conf rs) → (u : Path) → ComesBelow conf superior p u → Q p u → Q path upper
        of_upper Q p at u h is =
            let same : p ≡ path = only_path conf dn rdns p here at in
            subst (Q path) (only_upper u (subst (λ (q : Path). ComesBelow conf superior q u) same h)) (subst (λ (q : Path). Q q u) same is)

        of_to : (Q : Path → Path → Type 0) (p : Path) → (rs : List TypedRdn) × HasPlace conf dn rs × (p ≡ path_of conf rs) → (t : Path) → ComesTo conf r p t → Q p t → Q path to
        of_to Q p at t h is =
            of_upper (λ q u. Q q (u ++ rdn_key_of conf.types rdn ∷ [])) p at h.2 h.3
            (subst (λ (s : TypedRdn). Q p (h.2 ++ rdn_key_of conf.types s ∷ [])) (only_rdn_is h.0 h.1) (subst (Q p) h.4 is))

        finished : x ≡ rename_entry conf e rdn delete_old >>= (λ out. Ok (renamed_to path to out)) → part (Comes conf d r x) entry_checks
        unfolding rename_entry
        finished is =
            let moved : Result Change Code = Ok (renamed_to path to wanted) in
            weaker (HasFlaw conf mode d r) flaw_code (x ≡ moved) (Comes conf d r x) comes entry_checks x
            (whole_answers conf mode d r x wanted moved is_wanted only_wanted
            (is ∙ then_change (entry_fault conf wanted.attrs) wanted (renamed_to path to) ∙ fault_is conf wanted.attrs moved))
          where
            comes : x ≡ Ok (renamed_to path to wanted) → Comes conf d r x
            comes done = record {
              change = renamed_to path to wanted;
              is = done;
              asked = (path, is_at conf d r rdns here, to, (rdn, spelled, upper, below, refl), wanted, is_wanted, refl);
              only = λ other h.
                  of_to (λ p t. other ≡ renamed_to p t h.4) h.0 h.1 h.2 h.3 h.6 ∙ ap (λ (a : EntryContent). renamed_to path to a) (only_wanted h.4 h.5);
            }

        renamed_below : x ≡ rename_below conf d path e rdn delete_old upper → part (Comes conf d r x) (BelowItself ∷ NoSuperior ∷ IsTaken ∷ entry_checks)
        renamed_below is =
            let inside : Bool = begins path upper in
            let there : Bool = finite.contains_key d upper in
            let same : Bool = same_path path to in
            let held : Bool = finite.contains_key d to in
            let last : Result Change Code = rename_entry conf e rdn delete_old >>= λ out. Ok (renamed_to path to out) in
            check (HasFlaw conf mode d r) flaw_code (Comes conf d r x) inside BelowItself (NoSuperior ∷ IsTaken ∷ entry_checks) x (cond (not there) (Err NoSuchObject) (cond (not same && held) (Err EntryAlreadyExists) last)) is
            (λ h. (path, is_at conf d r rdns here, upper, below, h)) (λ h. of_upper (λ p u. begins p u ≡ true) h.0 h.1 h.2 h.3 h.4) λ apart_from said.
            check (HasFlaw conf mode d r) flaw_code (Comes conf d r x) (not there) NoSuperior (IsTaken ∷ entry_checks) x (cond (not same && held) (Err EntryAlreadyExists) last) said
            (λ h. (path, is_at conf d r rdns here, upper, below, off there h)) (λ h. on there (of_upper (λ p u. finite.contains_key d u ≡ false) h.0 h.1 h.2 h.3 h.4)) λ known said.
            check (HasFlaw conf mode d r) flaw_code (Comes conf d r x) (not same && held) IsTaken entry_checks x last said
            (λ h. let k = both (not same) held h in (path, is_at conf d r rdns here, to, (rdn, spelled, upper, below, refl), others path to (off same k.0), k.1))
            (λ h. let k = of_to (λ p t. (t ≢ p) × (finite.contains_key d t ≡ true)) h.0 h.1 h.2 h.3 (h.4, h.5) in joined (not same) held (on same (apart path to k.0)) k.1) λ free.
            finished

module _ (conf : Conf) (mode : Mode) (d : Entries) (dn : List ℕ) (controls : List Control) (newrdn : List ℕ) (delete_old : Bool) where
  abbrev renaming : Option (List ℕ) → Record
  renaming superior = records.ModRdn dn controls newrdn delete_old superior

  abbrev parts : Option (List ℕ) → Result Change Code → Type 0 → List Flaw → Type 0
  parts superior x P checks = Answers (HasFlaw conf mode d (renaming superior)) flaw_code P checks x

  abbrev last_checks : List Flaw
  last_checks = BelowItself ∷ NoSuperior ∷ IsTaken ∷ entry_checks

  -- ---- its new superior

  above : (superior : Option (List ℕ)) (x : Result Change Code) (rdns : List TypedRdn) (here : HasPlace conf dn rdns) (e : EntryContent) (found : finite.get d (path_of conf rdns) ≡ Some e)
      (rdn : TypedRdn) (spelled : SpellsRdn conf newrdn rdn) → x ≡ (upper_path conf (path_of conf rdns) superior >>= λ upper. rename_below conf d (path_of conf rdns) e rdn delete_old upper)
      → parts superior x (Comes conf d (renaming superior) x) (superior_checks superior ++ last_checks)
  above None x rdns here e found rdn spelled is =
      renamed_below conf mode d dn controls newrdn delete_old None x rdns here e found rdn spelled (parent_of (path_of conf rdns)) refl (λ other h. h) is
  above (Some text) x rdns here e found rdn spelled is =
      behind (HasFlaw conf mode d (renaming (Some text))) flaw_code ((rs : List TypedRdn) × HasPlace conf text rs) (Comes conf d (renaming (Some text)) x) (map Superior (place_checks text)) last_checks x
      (within (HasNameFlaw conf text) name_flaw_code (HasFlaw conf mode d (renaming (Some text))) flaw_code Superior ((rs : List TypedRdn) × HasPlace conf text rs) (place_checks text) (located conf text) x
      (λ f h. (text, refl, h)) (λ f h. subst (λ (t : List ℕ). HasNameFlaw conf t f) (same_text h.0 h.1) h.2) (λ f. refl) (λ c fails. is ∙ ap from_place fails) (place_answers conf text))
      (λ k. renamed_below conf mode d dn controls newrdn delete_old (Some text) x rdns here e found rdn spelled (path_of conf k.0) (k.0, k.1, refl) (λ other h. only_path conf text k.0 other k.1 h) (is ∙ ap from_place k.1))
    where
      from_place : Result (List TypedRdn) Code → Result Change Code
      from_place place = (place >>= λ rs. Ok (path_of conf rs)) >>= λ upper. rename_below conf d (path_of conf rdns) e rdn delete_old upper

      same_text : (t : List ℕ) → ◌≡◌ {A = Option (List ℕ)} (Some text) (Some t) → t ≡ text
      same_text t h = cc

  -- ---- the whole

  module _ (superior : Option (List ℕ)) (x : Result Change Code) where
    abbrev r_of : Record
    r_of = renaming superior

    abbrev behind_suffix : List Flaw
    behind_suffix = map NewRdn (new_rdn_checks newrdn) ++ (superior_checks superior ++ last_checks)

    renamed_there : (rdns : List TypedRdn) (here : HasPlace conf dn rdns) (e : EntryContent) → finite.get d (path_of conf rdns) ≡ Some e
        → x ≡ rename_there conf d (path_of conf rdns) newrdn delete_old superior (Some e) → parts superior x (Comes conf d r_of x) (IsSuffix ∷ behind_suffix)
    renamed_there rdns here e found is =
        let path : Path = path_of conf rdns in
        check (HasFlaw conf mode d r_of) flaw_code (Comes conf d r_of x) (is_root path) IsSuffix behind_suffix x (from_rdn (rdn_in conf newrdn)) is
        (λ h. (path, is_at conf d r_of rdns here, h)) (λ h. of_path conf d r_of rdns here (λ p. is_root p ≡ true) h.0 h.1 h.2) λ below said.
        behind (HasFlaw conf mode d r_of) flaw_code ((rdn : TypedRdn) × (rdn_in conf newrdn ≡ Ok rdn) × SpellsRdn conf newrdn rdn) (Comes conf d r_of x) (map NewRdn (new_rdn_checks newrdn)) (superior_checks superior ++ last_checks) x
        (within (HasNameFlaw conf newrdn) name_flaw_code (HasFlaw conf mode d r_of) flaw_code NewRdn ((rdn : TypedRdn) × (rdn_in conf newrdn ≡ Ok rdn) × SpellsRdn conf newrdn rdn) (new_rdn_checks newrdn) (rdn_in conf newrdn) x
        (λ f h. h) (λ f h. h) (λ f. refl) (λ c fails. said ∙ ap from_rdn fails) (new_rdn_answers conf newrdn))
        (λ k. above superior x rdns here e found k.0 k.2 (said ∙ ap from_rdn k.1))
      where
        from_rdn : Result TypedRdn Code → Result Change Code
        from_rdn rdn = rdn >>= λ new. upper_path conf (path_of conf rdns) superior >>= λ upper. rename_below conf d (path_of conf rdns) e new delete_old upper

    renamed_at : (rdns : List TypedRdn) (here : HasPlace conf dn rdns) → x ≡ rename_at conf d (path_of conf rdns) newrdn delete_old superior → parts superior x (Comes conf d r_of x) (rename_checks newrdn superior)
    renamed_at rdns here is = by (finite.get d (path_of conf rdns)) refl
      where
        there : Option EntryContent → Result Change Code
        there o = rename_there conf d (path_of conf rdns) newrdn delete_old superior o

        by : (o : Option EntryContent) → finite.get d (path_of conf rdns) ≡ o → parts superior x (Comes conf d r_of x) (rename_checks newrdn superior)
        by None none = failed (HasFlaw conf mode d r_of) flaw_code (Comes conf d r_of x) NoEntry (IsSuffix ∷ behind_suffix) x (path_of conf rdns, is_at conf d r_of rdns here, ap is_some none) (is ∙ ap there none)
        by (Some e) found = passed (HasFlaw conf mode d r_of) flaw_code (Comes conf d r_of x) NoEntry (IsSuffix ∷ behind_suffix) x
            (λ h. is_none (finite.get d (path_of conf rdns)) e (none_there (finite.get d (path_of conf rdns)) (of_path conf d r_of rdns here (λ p. finite.contains_key d p ≡ false) h.0 h.1 h.2)) found)
            (renamed_there rdns here e found (is ∙ ap there found))

    pub rename_answers : x ≡ rename conf d dn newrdn delete_old superior → answers conf mode d r_of x (map Name (place_checks dn) ++ rename_checks newrdn superior)
    unfolding rename
    rename_answers is = name_answers conf mode d r_of x (λ rdns. rename_at conf d (path_of conf rdns) newrdn delete_old superior) (rename_checks newrdn superior) is renamed_at
