-- Flaws of an entry that blocks make.
use Rattle.std.proofs.Common.{◌≡◌, ◌↔◌, ℕ, false, ◌∷◌, Option, Some, None, sym, ap, subst, ◌∙◌}
use Rattle.std.specs.List.{Any}
use Rattle.std.specs.FinMap as finite
use Rattle.ldif.specs.declared.record.Mode.{Mode}
use Rattle.ldif.specs.declared.record.Record.{Record}
use Rattle.paths.specs.Paths.{Path}
use Rattle.schema.specs.Conf.{Conf}
use Rattle.schema.specs.Rdns.{Ava, TypedRdn}
use Rattle.entries.specs.Entries.{Attributes, EntryContent, values_of, has_equal}
use Rattle.entries.specs.Modifies.{has_rdn}
use Rattle.schema.specs.GoodRdns.{IsRdn}
use Rattle.tree.specs.Directories.{Entries, IsDirectory}
use Rattle.reasons.specs.declared.reason.EntryReason.{EntryReason}
use Rattle.reasons.specs.declared.reason.Reason.{Reason}
use Rattle.reasons.specs.declared.reason.Reason.TheVariants as reasons
use Rattle.reasons.specs.EntryFlaws.{entry_order}
use Rattle.reasons.specs.BlockFlaws.{modified}
use Rattle.reasons.specs.Asked.{IsAbout, blocks_of_record}
use Rattle.reasons.specs.Flaws.{NoRdnValue, IsMissing, entry_checks}
use Rattle.reasons.specs.inner.Entries.{FindsInEntry}
use Rattle.reasons.specs.inner.Found.{Becomes, Modifies, IsMissingIn}
use Rattle.reasons.proofs.AddFound.{entry_found, entry_fine}
use Rattle.reasons.proofs.BlocksFound.{only_entry_about}
use Rattle.reasons.proofs.Elements.{all_told}
use Rattle.reasons.proofs.EntriesFound.{any_get}
use Rattle.reasons.proofs.RecordFound.{Found, found_here, found_later, differ}

module _ (conf : Conf) (mode : Mode) (d : Entries) (r : Record) (e : EntryContent) (becomes : Becomes conf d r e) where
  lost : (has_rdn conf.types e.rdn e.attrs ≡ false) ↔ Any (IsMissing conf e.attrs) e.rdn
  lost = all_told (λ (p : Ava). has_equal conf.types p.0 p.1 (values_of e.attrs p.0)) (IsMissing conf e.attrs) (λ p. (λ h. h, λ h. h)) e.rdn

  pub missing_found : (i : ℕ) → IsMissingIn conf e.attrs e.rdn (Some i) → Found conf mode d r (NoRdnValue ∷ entry_checks) (Some (reasons.NoRdnValue i))
  missing_found i is = found_here conf mode d r (reasons.NoRdnValue i) entry_checks (e, becomes.have, any_get (IsMissing conf e.attrs) e.rdn i is.0 is.1 is.2) (e, becomes.have, is.0, is.1, is.2)

  module _ (kept : IsMissingIn conf e.attrs e.rdn None) where
    behind_rdn : (found : Option Reason) → Found conf mode d r entry_checks found → Found conf mode d r (NoRdnValue ∷ entry_checks) found
    behind_rdn found is = found_later conf mode d r NoRdnValue entry_checks found
        (λ has. differ (has_rdn conf.types e.rdn e.attrs) kept (lost.1 (subst (λ (a : EntryContent). Any (IsMissing conf a.attrs) a.rdn) (becomes.only has.0 has.1) has.2))) is

    pub modified_found : (why : EntryReason) → FindsInEntry conf e.attrs entry_order (Some why) → Found conf mode d r (NoRdnValue ∷ entry_checks) (Some (reasons.Entry why))
    modified_found why is = behind_rdn (Some (reasons.Entry why)) (entry_found conf mode d r e becomes.have becomes.only why is)

    pub modified_fine : FindsInEntry conf e.attrs entry_order None → Found conf mode d r (NoRdnValue ∷ entry_checks) None
    modified_fine is = behind_rdn None (entry_fine conf mode d r e becomes.have becomes.only is)

-- the entry that blocks make of this one
pub becomes_modified : (conf : Conf) (mode : Mode) (d : Entries) (r : Record) (old : EntryContent) (attrs : Attributes) → Modifies conf d r → IsAbout conf d r old → attrs ≡ modified conf.types old.attrs (blocks_of_record r)
    → Becomes conf d r (record { rdn = old.rdn; attrs = attrs })
becomes_modified conf mode d r old attrs modifies about are =
    subst (λ (xs : Attributes). Becomes conf d r (record { rdn = old.rdn; attrs = xs })) (sym are)
    (record {
      have = modifies.have old about;
      only = λ other h. let k = modifies.had other h in k.2 ∙ ap made (only_entry_about conf mode d r old k.0 about k.1);
    })
  where
    made : EntryContent → EntryContent
    made e = record { rdn = e.rdn; attrs = modified conf.types e.attrs (blocks_of_record r) }

pub good_rdn : (conf made : Conf) (d : Entries) (path : Path) (e : EntryContent) → made ≡ conf → IsDirectory made d → Some e ≡ finite.get d path → IsRdn conf.types e.rdn
good_rdn conf made d path e same is there = subst (λ (k : Conf). IsRdn k.types e.rdn) same ((is.good path e (sym there)).rdn)

pub missing_is : (conf : Conf) (attrs : Attributes) (q rdn : TypedRdn) (o p : Option ℕ) → q ≡ rdn → o ≡ p → IsMissingIn conf attrs q o → IsMissingIn conf attrs rdn p
missing_is conf attrs q rdn o p same is h = subst (λ (x : TypedRdn). IsMissingIn conf attrs x p) same (subst (IsMissingIn conf attrs q) is h)
