-- Flaws of an add that are found.
use Rattle.std.proofs.Common.{◌≡◌, ℕ, ◌≤◌, ◌<◌, true, false, not, ◌&&◌, List, [], ◌∷◌, ◌++◌, Option, Some, None, ap, subst, ◌∙◌, arith}
use Rattle.std.specs.FinMap as finite
use Rattle.ldif.specs.Attrs.{Attr}
use Rattle.ldif.specs.declared.record.Mode.{Mode}
use Rattle.ldif.specs.declared.record.Record.{Record}
use Rattle.paths.specs.Paths.{Path, is_root, parent_of}
use Rattle.schema.specs.Conf.{Conf, located, own_rdn}
use Rattle.schema.specs.Rdns.{TypedRdn}
use Rattle.entries.specs.Entries.{Attributes, EntryContent, with_rdn}
use Rattle.tree.specs.Directories.{Entries}
use Rattle.reasons.specs.declared.reason.EntryReason.{EntryReason}
use Rattle.reasons.specs.declared.reason.Reason.{Reason}
use Rattle.reasons.specs.declared.reason.Reason.TheVariants as reasons
use Rattle.reasons.specs.LineFlaws.{gathered, attrs_of_lines}
use Rattle.reasons.specs.EntryFlaws.{EntryFlaw, HasEntryFlaw, entry_order}
use Rattle.reasons.specs.Asked.{IsAt, IsToBe, name_of_record, lines_of_record}
use Rattle.reasons.specs.Flaws.{Flaw, IsThere, NoParent, Full, Entry, HasFlaw, entry_checks}
use Rattle.reasons.specs.Reasons.{entry_flaw_of}
use Rattle.reasons.specs.inner.Found.{Stands, Adds}
use Rattle.reasons.specs.inner.Entries.{FindsInEntry}
use Rattle.reasons.proofs.AvaAnswers.{only_ok}
use Rattle.reasons.proofs.Elements.{both, joined, on, off}
use Rattle.reasons.proofs.Finding.{within}
use Rattle.reasons.proofs.RecordFound.{Found, found_here, found_later, found_before, found_behind, found_none, of_this, differ}

module _ (conf : Conf) (mode : Mode) (d : Entries) (r : Record) where
  pub at_place_of : (path : Path) (rdn : TypedRdn) → Stands conf (name_of_record r) path rdn → IsAt conf r path
  at_place_of path rdn stands = (stands.rdns, stands.here, stands.path_is)

  -- ---- what stands there

  module _ (path : Path) (at : IsAt conf r path) where
    pub there_found : (fs : List Flaw) → finite.contains_key d path ≡ true → Found conf mode d r (IsThere ∷ fs) (Some reasons.IsThere)
    there_found fs there = found_here conf mode d r reasons.IsThere fs (path, at, there) tt

    module _ (new : finite.contains_key d path ≡ false) where
      behind_new : (fs : List Flaw) (found : Option Reason) → Found conf mode d r fs found → Found conf mode d r (IsThere ∷ fs) found
      behind_new fs found is = found_later conf mode d r IsThere fs found
          (λ has. differ (finite.contains_key d path) (of_this conf mode d r path at (λ p. finite.contains_key d p ≡ true) has.0 has.1 has.2) new) is

      pub parent_found : (fs : List Flaw) → (not (is_root path) && not (finite.contains_key d (parent_of path))) ≡ true → Found conf mode d r (IsThere ∷ NoParent ∷ fs) (Some reasons.NoParent)
      parent_found fs lacks =
          let k = both (not (is_root path)) (not (finite.contains_key d (parent_of path))) lacks in
          behind_new (NoParent ∷ fs) (Some reasons.NoParent) (found_here conf mode d r reasons.NoParent fs (path, at, off (is_root path) k.0, off (finite.contains_key d (parent_of path)) k.1) tt)

      pub may_come : (fs : List Flaw) (found : Option Reason) → (not (is_root path) && not (finite.contains_key d (parent_of path))) ≡ false → Found conf mode d r fs found
          → Found conf mode d r (IsThere ∷ NoParent ∷ fs) found
      may_come fs found has_parent is = behind_new (NoParent ∷ fs) found (found_later conf mode d r NoParent fs found (λ has.
          let k = of_this conf mode d r path at (λ p. (is_root p ≡ false) × (finite.contains_key d (parent_of p) ≡ false)) has.0 has.1 (has.2, has.3) in
          differ (not (is_root path) && not (finite.contains_key d (parent_of path))) (joined (not (is_root path)) (not (finite.contains_key d (parent_of path))) (on (is_root path) k.0) (on (finite.contains_key d (parent_of path)) k.1)) has_parent) is)

  abbrev all : List Attr
  all = lines_of_record r

  -- ---- the entry that is to be

  module _ (e : EntryContent) (have : IsToBe conf d r e) (only : (other : EntryContent) → IsToBe conf d r other → other ≡ e) where
    to : (f : EntryFlaw) → HasEntryFlaw conf e.attrs f → HasFlaw conf mode d r (Entry f)
    to f h = (e, have, h)

    from : (f : EntryFlaw) → HasFlaw conf mode d r (Entry f) → HasEntryFlaw conf e.attrs f
    from f h = subst (λ (a : EntryContent). HasEntryFlaw conf a.attrs f) (only h.0 h.1) h.2

    pub entry_found : (why : EntryReason) → FindsInEntry conf e.attrs entry_order (Some why) → Found conf mode d r entry_checks (Some (reasons.Entry why))
    entry_found why is = record { first = within (HasEntryFlaw conf e.attrs) (HasFlaw conf mode d r) Entry to from entry_order (Some (entry_flaw_of why)) is.first; so = (e, have, is.so) }

    pub entry_fine : FindsInEntry conf e.attrs entry_order None → Found conf mode d r entry_checks None
    entry_fine is = record { first = within (HasEntryFlaw conf e.attrs) (HasFlaw conf mode d r) Entry to from entry_order None is.first; so = tt }

  -- an entry that is added
  module _ (path : Path) (rdn : TypedRdn) (stands : Stands conf (name_of_record r) path rdn) (adds : Adds conf d r) (lines : List Attr) (same : lines ≡ all)
      (attrs : Attributes) (is : attrs ≡ with_rdn conf.types rdn (gathered conf.types lines)) where
    abbrev made : List TypedRdn → EntryContent
    made rdns = record { rdn = own_rdn conf rdns; attrs = attrs_of_lines conf rdns all }

    abbrev wanted : EntryContent
    wanted = made stands.rdns

    only_wanted : (other : EntryContent) → IsToBe conf d r other → other ≡ wanted
    only_wanted other h = let k = adds.had other h in k.2 ∙ ap made (only_ok (located conf (name_of_record r)) k.0 stands.rdns k.1 stands.here)

    attrs_are : attrs ≡ wanted.attrs
    attrs_are = is ∙ ap (λ (q : TypedRdn). with_rdn conf.types q (gathered conf.types lines)) stands.rdn_is ∙ ap (λ (ls : List Attr). with_rdn conf.types (own_rdn conf stands.rdns) (gathered conf.types ls)) same

    pub added_found : (why : EntryReason) → FindsInEntry conf attrs entry_order (Some why) → Found conf mode d r (entry_checks ++ Full ∷ []) (Some (reasons.Entry why))
    added_found why found =
        found_before conf mode d r entry_checks (Full ∷ []) (reasons.Entry why)
        (entry_found wanted (adds.have stands.rdns stands.here) only_wanted why (subst (λ (as_is : Attributes). FindsInEntry conf as_is entry_order (Some why)) attrs_are found))

    module _ (fine : FindsInEntry conf attrs entry_order None) where
      behind_entry : (found : Option Reason) → Found conf mode d r (Full ∷ []) found → Found conf mode d r (entry_checks ++ Full ∷ []) found
      behind_entry found h =
          found_behind conf mode d r entry_checks (Full ∷ []) found
          (entry_fine wanted (adds.have stands.rdns stands.here) only_wanted (subst (λ (as_is : Attributes). FindsInEntry conf as_is entry_order None) attrs_are fine)) h

      pub full_found : (n : ℕ) → n ≡ finite.len d → 4294967295 ≤ n → Found conf mode d r (entry_checks ++ Full ∷ []) (Some reasons.Full)
      full_found n count many = behind_entry (Some reasons.Full) (found_here conf mode d r reasons.Full [] (subst (λ (k : ℕ). 4294967295 ≤ k) count many) tt)

      pub room_found : (n : ℕ) → n ≡ finite.len d → n < 4294967295 → Found conf mode d r (entry_checks ++ Full ∷ []) None
      room_found n count few = behind_entry None (found_later conf mode d r Full [] None (λ has. omega (arith, count, few, has)) (found_none conf mode d r))

pub entry_is : (conf : Conf) (attrs : Attributes) (order : List EntryFlaw) (o p : Option EntryReason) → o ≡ p → FindsInEntry conf attrs order o → FindsInEntry conf attrs order p
entry_is conf attrs order o p is h = subst (FindsInEntry conf attrs order) is h
