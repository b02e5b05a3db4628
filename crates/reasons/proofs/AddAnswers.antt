-- The first flaw of an add and of a delete.
use Rattle.std.proofs.Common.{◌≡◌, Bool, true, false, cond, not, List, [], ◌∷◌, ◌++◌, map, Result, Ok, Err, refl, ap, ◌∙◌}
use Rattle.std.specs.Prelude.{◌&&◌, nat_le}
use Rattle.std.specs.FinMap as finite
use Rattle.std.proofs.lemmas.Bool.{le-leb, leb-true}
use Rattle.base.specs.Answers.{◌>>=◌}
use Rattle.ldif.specs.Attrs.{Attr}
use Rattle.ldif.specs.declared.record.Mode.{Mode}
use Rattle.ldif.specs.declared.record.Record.{Record}
use Rattle.paths.specs.Paths.{Path, parent_of, is_root}
use Rattle.schema.specs.declared.code.Code.{Code}
use Rattle.schema.specs.declared.code.Code.TheVariants.{NoSuchObject, NotAllowedOnNonLeaf}
use Rattle.schema.specs.Conf.{Conf, located, path_of, own_rdn}
use Rattle.schema.specs.Rdns.{TypedRdn}
use Rattle.entries.specs.Entries.{Attributes, EntryContent, add_lines}
use Rattle.tree.specs.Directories.{Entries}
use Rattle.tree.specs.Trees.{has_child}
use Rattle.tree.specs.Changes.{Change, Put, Remove}
use Rattle.tree.specs.Adds.{entry_of, with_entry, add_at, add_there, add}
use Rattle.tree.specs.Deletes.{delete_at, delete}
use Rattle.reasons.specs.NameFlaws.{HasPlace, LeadsTo, place_checks}
use Rattle.reasons.specs.LineFlaws.{gathered, attrs_of_lines}
use Rattle.reasons.specs.Asked.{name_of_record, lines_of_record, IsToBe, IsToStand, AsksFor}
use Rattle.reasons.specs.Flaws.{Flaw, Name, IsThere, NoParent, NoEntry, HasChildren, Full, HasFlaw, flaw_code, line_checks, entry_checks, add_checks, delete_checks}
use Rattle.reasons.proofs.Elements.{both, joined, off, on}
use Rattle.reasons.proofs.Answering.{check, behind}
use Rattle.reasons.proofs.AvaAnswers.{only_ok}
use Rattle.reasons.proofs.LineAnswers.{line_answers}
use Rattle.reasons.proofs.Places.{only_path, its_path, is_at, of_path}
use Rattle.reasons.proofs.Operated.{Comes, answers, name_answers, whole_answers, put_comes}

module _ (conf : Conf) (mode : Mode) (d : Entries) (r : Record) (x : Result Change Code) where
  abbrev lines : List Attr
  lines = lines_of_record r

  -- ---- an add

  abbrev IsAdded : EntryContent → Type 0
  IsAdded e = (rdns : List TypedRdn) × HasPlace conf (name_of_record r) rdns × (e ≡ record { rdn = own_rdn conf rdns; attrs = attrs_of_lines conf rdns lines })

  module _ (have : (e : EntryContent) → IsAdded e → IsToBe conf d r e) (had : (e : EntryContent) → IsToBe conf d r e → IsAdded e)
      (asked : (change : Change) → IsToStand conf d r change → AsksFor conf d r change) (asks : (change : Change) → AsksFor conf d r change → IsToStand conf d r change) where
    module _ (rdns : List TypedRdn) (here : HasPlace conf (name_of_record r) rdns) where
      abbrev path : Path
      path = its_path conf d r rdns here

      abbrev made : List TypedRdn → EntryContent
      made rs = record { rdn = own_rdn conf rs; attrs = attrs_of_lines conf rs lines }

      abbrev wanted : EntryContent
      wanted = made rdns

      abbrev finish : Attributes → Result Change Code
      finish attrs = with_entry conf d path (entry_of conf (own_rdn conf rdns) attrs)

      is_wanted : IsToBe conf d r wanted
      is_wanted = have wanted (rdns, here, refl)

      only_wanted : (e : EntryContent) → IsToBe conf d r e → e ≡ wanted
      only_wanted e h = let k = had e h in k.2 ∙ ap made (only_ok (located conf (name_of_record r)) k.0 rdns k.1 here)

      finished : x ≡ finish (gathered conf.types lines) → answers conf mode d r x (entry_checks ++ Full ∷ [])
      finished is =
          let full : Bool = nat_le 4294967295 (finite.len d) in
          let put : Result Change Code = Ok (Put path wanted) in
          behind (HasFlaw conf mode d r) flaw_code (x ≡ cond full (Err (flaw_code Full)) put) (Comes conf d r x) entry_checks (Full ∷ []) x
          (whole_answers conf mode d r x wanted (cond full (Err (flaw_code Full)) put) is_wanted only_wanted is)
          (λ said. check (HasFlaw conf mode d r) flaw_code (Comes conf d r x) full Full [] x put said (leb-true 4294967295 (finite.len d)) (le-leb 4294967295 (finite.len d)) λ room.
          put_comes conf mode d r x rdns here wanted is_wanted only_wanted asked asks)

      added_at : x ≡ add_there conf mode d path rdns lines → answers conf mode d r x (add_checks lines)
      unfolding add_at
      added_at is =
          let there : Bool = finite.contains_key d path in
          let top : Bool = is_root path in
          let above : Bool = finite.contains_key d (parent_of path) in
          let later : List Flaw = line_checks 0 lines ++ (entry_checks ++ Full ∷ []) in
          let rest : Result Change Code = add_lines mode conf.types [] lines >>= finish in
          check (HasFlaw conf mode d r) flaw_code (Comes conf d r x) there IsThere (NoParent ∷ later) x (cond (not top && not above) (Err NoSuchObject) rest) is
          (λ h. (path, is_at conf d r rdns here, h)) (λ h. of_path conf d r rdns here (λ p. finite.contains_key d p ≡ true) h.0 h.1 h.2) λ new said.
          check (HasFlaw conf mode d r) flaw_code (Comes conf d r x) (not top && not above) NoParent later x rest said
          (λ h. let k = both (not top) (not above) h in (path, is_at conf d r rdns here, off top k.0, off above k.1))
          (λ h. let k = of_path conf d r rdns here (λ p. (is_root p ≡ false) × (finite.contains_key d (parent_of p) ≡ false)) h.0 h.1 (h.2, h.3) in joined (not top) (not above) (on top k.0) (on above k.1)) λ parent said.
          behind (HasFlaw conf mode d r) flaw_code (x ≡ finish (gathered conf.types lines)) (Comes conf d r x) (line_checks 0 lines) (entry_checks ++ Full ∷ []) x
          (line_answers conf mode d r x finish said) finished

    pub add_answers : x ≡ add conf mode d (name_of_record r) lines → answers conf mode d r x (map Name (place_checks (name_of_record r)) ++ add_checks lines)
    unfolding add
    add_answers is = name_answers conf mode d r x (λ rdns. add_there conf mode d (path_of conf rdns) rdns lines) (add_checks lines) is added_at

  -- ---- a delete

  abbrev IsRemoved : Change → Type 0
  IsRemoved change = (path : Path) × LeadsTo conf (name_of_record r) path × (change ≡ Remove path)

  module _ (asked : (change : Change) → IsRemoved change → AsksFor conf d r change) (asks : (change : Change) → AsksFor conf d r change → IsRemoved change) where
    deleted_at : (rdns : List TypedRdn) (here : HasPlace conf (name_of_record r) rdns) → x ≡ delete_at d (its_path conf d r rdns here) → answers conf mode d r x delete_checks
    deleted_at rdns here is =
        let path : Path = its_path conf d r rdns here in
        let there : Bool = finite.contains_key d path in
        let below : Bool = has_child d path in
        check (HasFlaw conf mode d r) flaw_code (Comes conf d r x) (not there) NoEntry (HasChildren ∷ []) x (cond below (Err NotAllowedOnNonLeaf) (Ok (Remove path))) is
        (λ h. (path, is_at conf d r rdns here, off there h)) (λ h. on there (of_path conf d r rdns here (λ p. finite.contains_key d p ≡ false) h.0 h.1 h.2)) λ known said.
        check (HasFlaw conf mode d r) flaw_code (Comes conf d r x) below HasChildren [] x (Ok (Remove path)) said
        (λ h. (path, is_at conf d r rdns here, h)) (λ h. of_path conf d r rdns here (λ p. has_child d p ≡ true) h.0 h.1 h.2) λ leaf done.
        record {
          change = Remove path;
          is = done;
          asked = asked (Remove path) (path, is_at conf d r rdns here, refl);
          only = λ other h. let k = asks other h in k.2 ∙ ap (λ (p : Path). Remove p) (only_path conf (name_of_record r) rdns k.0 here k.1);
        }

    pub delete_answers : x ≡ delete conf d (name_of_record r) → answers conf mode d r x (map Name (place_checks (name_of_record r)) ++ delete_checks)
    unfolding delete
    delete_answers is = name_answers conf mode d r x (λ rdns. delete_at d (path_of conf rdns)) delete_checks is deleted_at
