-- The attributes that the changes leave of an entry, made of lines.
use Rattle.std.proofs.Common.{◌≡◌, ℕ, Bool, true, false, not, List, [], ◌∷◌, ◌++◌, Option, Some, None, Ok, refl, sym, ap, ◌∙◌}
use Rattle.std.specs.Prelude.{nat_eq, IfSome}
use Rattle.std.specs.Borrow.{Bor}
use Rattle.std.specs.Option.{option_map}
use Rattle.std.specs.FinMap as finite
use Rattle.std.specs.List.{AllByRecursion, IsDistinct}
use Rattle.std.specs.Map.{keys_of}
use Rattle.std.proofs.lemmas.Bool.{eqb-true, not-true}
use Rattle.ldif.specs.declared.record.Mode.TheVariants as modes
use Rattle.values.specs.declared.types.AttributeType.{AttributeType}
use Rattle.values.specs.Types.{type_of, type_at, name_of, is_known}
use Rattle.paths.specs.Paths.{Path}
use Rattle.schema.specs.Conf.{Conf, IsConf}
use Rattle.tree.specs.Directories.{Entries, IsDirectory}
use Rattle.schema.proofs.Named.{type_is}
use Rattle.entries.specs.Entries.{Attribute, Attributes, EntryContent, IsAttribute, IsGood, add_lines, lines_of, with_rdn, has_its_classes}
use Rattle.entries.specs.StoredEntries.{Entry, content_of}
use Rattle.entries.proofs.Rebuilt.{own_lines}
use Rattle.entries.proofs.StaysGood.{all_kept}
use Rattle.differences.specs.EntryChanges.{is_fixed_at, users, fixed}
use Rattle.differences.specs.Follows.{stays}
use Rattle.differences.proofs.Brought.{users_come}
use Rattle.differences.proofs.Parted.{all_pass, types_kept, classes_parted}
use Rattle.differences.proofs.SettledValues.{all_join}

module _ (types : List AttributeType) where
  abbrev is_fixed : ℕ → Bool
  is_fixed t = (type_at types t).is_fixed

  apart_from : (a : Attribute) → is_fixed a.0 ≡ false → (fs : Attributes) → AllByRecursion (λ b. is_fixed_at types b ≡ true) fs → AllByRecursion (λ k. nat_eq a.0 k ≡ false) (keys_of fs)
  apart_from a free [] h = tt
  apart_from a free (b ∷ fs) h = (by (nat_eq a.0 b.0) refl, apart_from a free fs h.1)
    where
      by : (c : Bool) → nat_eq a.0 b.0 ≡ c → c ≡ false
      by false e = refl
      by true e = absurd (let k : false ≡ true = sym free ∙ ap is_fixed (eqb-true a.0 b.0 e) ∙ h.0 in cc)

  keys_join : (P : ℕ → Type 0) (xs ys : Attributes) → AllByRecursion P (keys_of xs) → AllByRecursion P (keys_of ys) → AllByRecursion P (keys_of (xs ++ ys))
  keys_join P [] ys h g = g
  keys_join P (x ∷ xs) ys h g = (h.0, keys_join P xs ys h.1 g)

  apart_both : (us fs : Attributes) → AllByRecursion (λ a. not (is_fixed_at types a) ≡ true) us → AllByRecursion (λ b. is_fixed_at types b ≡ true) fs
      → IsDistinct nat_eq (keys_of us) → IsDistinct nat_eq (keys_of fs) → IsDistinct nat_eq (keys_of (us ++ fs))
  unfolding IsDistinct
  apart_both [] fs free are h g = g
  apart_both (a ∷ us) fs free are h g =
      (keys_join (λ k. nat_eq a.0 k ≡ false) us fs h.0 (apart_from a (not-true (is_fixed a.0) free.0) fs are), apart_both us fs free.1 are h.1 g)

module _ (conf : Conf) (ok : IsConf conf) where
  names : (t : ℕ) → is_known conf.types t ≡ true → type_of conf.types (name_of conf.types t) ≡ Some t
  names t = type_is conf t ok

  module _ (e : EntryContent) (g : IsGood conf e) where
    abbrev us : Attributes
    us = users conf.types e.attrs

    free : AllByRecursion (λ a. not (is_fixed_at conf.types a) ≡ true) us
    free = all_pass (λ a. not (is_fixed_at conf.types a)) e.attrs

    us_good : AllByRecursion (IsAttribute conf.types) us
    us_good = all_kept (IsAttribute conf.types) (λ a. not (is_fixed_at conf.types a)) e.attrs g.attrs

    us_apart : IsDistinct nat_eq (keys_of us)
    us_apart = types_kept conf.types (λ a. not (is_fixed_at conf.types a)) e.attrs g.types_apart

    -- what users can change of an entry
    pub users_added : add_lines modes.Content conf.types [] (lines_of conf.types us) ≡ Ok us
    users_added = own_lines conf.types names us us_good us_apart

    -- and with what they can't of another
    pub left_added : (x : EntryContent) → IsGood conf x → add_lines modes.Content conf.types [] (lines_of conf.types (us ++ fixed conf.types x.attrs)) ≡ Ok (us ++ fixed conf.types x.attrs)
    left_added x h =
        let fs : Attributes = fixed conf.types x.attrs in
        own_lines conf.types names (us ++ fs)
        (all_join (IsAttribute conf.types) us fs us_good (all_kept (IsAttribute conf.types) (is_fixed_at conf.types) x.attrs h.attrs))
        (apart_both conf.types us fs free (all_pass (is_fixed_at conf.types) x.attrs) us_apart (types_kept conf.types (is_fixed_at conf.types) x.attrs h.types_apart))

    -- with the values of its RDN it is of the classes of which it is with those that stay
    pub left_new : has_its_classes conf (with_rdn conf.types e.rdn us) ≡ has_its_classes conf (us ++ stays conf.types None e)
    left_new =
        classes_parted conf (with_rdn conf.types e.rdn us)
        ∙ ap (λ (xs : Attributes). has_its_classes conf (xs ++ stays conf.types None e)) (users_come conf names e g.attrs g.types_apart g.single g.rdn g.rdn_there)

-- an entry that has the attributes of the one before is of its classes
pub keeps : (conf : Conf) (x e : EntryContent) → x.attrs ≡ e.attrs → IsGood conf e → has_its_classes conf (users conf.types e.attrs ++ stays conf.types (Some x) e) ≡ true
keeps conf x e same g = ap (λ (xs : Attributes). has_its_classes conf (users conf.types e.attrs ++ fixed conf.types xs)) same ∙ sym (classes_parted conf e.attrs) ∙ g.class

-- an entry that was looked up is good
pub good_at : (conf : Conf) (d : Entries) → IsDirectory conf d → (p : Path) (o : Option (Bor Entry)) → option_map (λ e. content_of e.now) o ≡ finite.get d p → IfSome o (λ e. IsGood conf (content_of e.now))
good_at conf d h p None is = tt
good_at conf d h p (Some e) is = h.good p (content_of e.now) (sym is)
