-- The first flaw of a modify.
use Rattle.std.proofs.Common.{◌≡◌, ◌↔◌, Bool, true, false, cond, not, List, ◌∷◌, ◌++◌, map, Option, Some, None, Result, Ok, Err, refl, ap, subst, ◌∙◌}
use Rattle.std.specs.Prelude.{is_some}
use Rattle.std.specs.List.{Any}
use Rattle.std.specs.FinMap as finite
use Rattle.base.specs.Answers.{◌>>=◌, through}
use Rattle.ldif.specs.declared.record.Mod.{Mod}
use Rattle.ldif.specs.declared.record.Mode.{Mode}
use Rattle.ldif.specs.declared.record.Record.{Record}
use Rattle.paths.specs.Paths.{Path}
use Rattle.schema.specs.declared.code.Code.{Code}
use Rattle.schema.specs.declared.code.Code.TheVariants.{NotAllowedOnRdn}
use Rattle.schema.specs.Conf.{Conf, path_of}
use Rattle.schema.specs.Rdns.{Ava, TypedRdn}
use Rattle.entries.specs.Entries.{Attributes, EntryContent, values_of, has_equal}
use Rattle.entries.specs.Modifies.{unless, modify_block, entry_fault, has_rdn, modified_fault, modify_entry}
use Rattle.tree.specs.Directories.{Entries}
use Rattle.tree.specs.Changes.{Change, Put}
use Rattle.tree.specs.Modifies.{modify_there, modify}
use Rattle.reasons.specs.NameFlaws.{HasPlace, place_checks}
use Rattle.reasons.specs.BlockFlaws.{modified}
use Rattle.reasons.specs.Asked.{name_of_record, blocks_of_record, IsAbout, IsToBe, IsToStand, AsksFor}
use Rattle.reasons.specs.Flaws.{Name, NoEntry, NoRdnValue, HasFlaw, IsMissing, flaw_code, block_checks, entry_checks, modify_checks}
use Rattle.reasons.proofs.Elements.{all_told, is_none, none_there, off, on}
use Rattle.reasons.proofs.Answering.{check, passed, failed, behind, weaker}
use Rattle.reasons.proofs.EntryAnswers.{fault_is}
use Rattle.reasons.proofs.Places.{its_path, is_at, of_path, is_about, only_entry}
use Rattle.reasons.proofs.BlockAnswers.{block_answers}
use Rattle.reasons.proofs.Operated.{Comes, answers, name_answers, whole_answers, in_turn, then_change, put_comes}

-- one more test in front
tested : (b : Bool) (code : Code) (fault : Option Code) (y : Result Change Code) → unless (cond b (Some code) fault) y ≡ cond b (Err code) (unless fault y)
tested true code fault y = refl
tested false code fault y = refl

module _ (conf : Conf) (mode : Mode) (d : Entries) (r : Record) (x : Result Change Code) where
  abbrev blocks : List Mod
  blocks = blocks_of_record r

  abbrev IsModified : EntryContent → Type 0
  IsModified e = (old : EntryContent) × IsAbout conf d r old × (e ≡ record { rdn = old.rdn; attrs = modified conf.types old.attrs blocks })

  module _ (have : (e : EntryContent) → IsModified e → IsToBe conf d r e) (had : (e : EntryContent) → IsToBe conf d r e → IsModified e)
      (asked : (change : Change) → IsToStand conf d r change → AsksFor conf d r change) (asks : (change : Change) → AsksFor conf d r change → IsToStand conf d r change) where
    module _ (rdns : List TypedRdn) (here : HasPlace conf (name_of_record r) rdns) where
      abbrev path : Path
      path = its_path conf d r rdns here

      module _ (e : EntryContent) (found : finite.get d path ≡ Some e) where
        abbrev with_attrs : Attributes → EntryContent
        with_attrs attrs = record { rdn = e.rdn; attrs = attrs }

        abbrev finish : Attributes → Result Change Code
        finish attrs = unless (modified_fault conf e.rdn attrs) (Ok (with_attrs attrs)) >>= λ out. Ok (Put path out)

        abbrev made : EntryContent → EntryContent
        made old = record { rdn = old.rdn; attrs = modified conf.types old.attrs blocks }

        abbrev wanted : EntryContent
        wanted = made e

        is_wanted : IsToBe conf d r wanted
        is_wanted = have wanted (e, is_about conf d r rdns here e found, refl)

        only_wanted : (other : EntryContent) → IsToBe conf d r other → other ≡ wanted
        only_wanted other h = let k = had other h in k.2 ∙ ap made (only_entry conf d r rdns here e found k.0 k.1)

        lost : (has_rdn conf.types e.rdn wanted.attrs ≡ false) ↔ Any (IsMissing conf wanted.attrs) wanted.rdn
        lost = all_told (λ (p : Ava). has_equal conf.types p.0 p.1 (values_of wanted.attrs p.0)) (IsMissing conf wanted.attrs) (λ p. (λ h. h, λ h. h)) e.rdn

        finished : x ≡ finish wanted.attrs → answers conf mode d r x (NoRdnValue ∷ entry_checks)
        finished is =
            let kept : Bool = has_rdn conf.types e.rdn wanted.attrs in
            let put : Result Change Code = Ok (Put path wanted) in
            check (HasFlaw conf mode d r) flaw_code (Comes conf d r x) (not kept) NoRdnValue entry_checks x (unless (entry_fault conf wanted.attrs) put)
            (is ∙ then_change (modified_fault conf e.rdn wanted.attrs) wanted (Put path) ∙ tested (not kept) NotAllowedOnRdn (entry_fault conf wanted.attrs) put)
            (λ h. (wanted, is_wanted, lost.0 (off kept h)))
            (λ h. on kept (lost.1 (subst (λ (a : EntryContent). Any (IsMissing conf a.attrs) a.rdn) (only_wanted h.0 h.1) h.2))) λ rdn said.
            weaker (HasFlaw conf mode d r) flaw_code (x ≡ put) (Comes conf d r x) (put_comes conf mode d r x rdns here wanted is_wanted only_wanted asked asks) entry_checks x
            (whole_answers conf mode d r x wanted put is_wanted only_wanted (said ∙ fault_is conf wanted.attrs put))

        modified_entry : x ≡ modify_there conf path blocks (Some e) → answers conf mode d r x (block_checks 0 blocks ++ NoRdnValue ∷ entry_checks)
        unfolding modify_entry
        modified_entry is =
            behind (HasFlaw conf mode d r) flaw_code (x ≡ finish wanted.attrs) (Comes conf d r x) (block_checks 0 blocks) (NoRdnValue ∷ entry_checks) x
            (block_answers conf mode d r rdns here e found x finish
            (is ∙ in_turn (through (modify_block conf.types) e.attrs blocks) (λ attrs. unless (modified_fault conf e.rdn attrs) (Ok (with_attrs attrs))) (λ out. Ok (Put path out))))
            finished

      modified_at : x ≡ modify_there conf path blocks (finite.get d path) → answers conf mode d r x (modify_checks blocks)
      modified_at is = by (finite.get d path) refl
        where
          by : (o : Option EntryContent) → finite.get d path ≡ o → answers conf mode d r x (modify_checks blocks)
          by None none = failed (HasFlaw conf mode d r) flaw_code (Comes conf d r x) NoEntry (block_checks 0 blocks ++ NoRdnValue ∷ entry_checks) x
              (path, is_at conf d r rdns here, ap is_some none) (is ∙ ap (modify_there conf path blocks) none)
          by (Some e) found = passed (HasFlaw conf mode d r) flaw_code (Comes conf d r x) NoEntry (block_checks 0 blocks ++ NoRdnValue ∷ entry_checks) x
              (λ h. is_none (finite.get d path) e (none_there (finite.get d path) (of_path conf d r rdns here (λ p. finite.contains_key d p ≡ false) h.0 h.1 h.2)) found)
              (modified_entry e found (is ∙ ap (modify_there conf path blocks) found))

    pub modify_answers : x ≡ modify conf d (name_of_record r) blocks → answers conf mode d r x (map Name (place_checks (name_of_record r)) ++ modify_checks blocks)
    unfolding modify
    modify_answers is = name_answers conf mode d r x (λ rdns. modify_there conf (path_of conf rdns) blocks (finite.get d (path_of conf rdns))) (modify_checks blocks) is modified_at
