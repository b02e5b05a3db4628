-- The attributes that stay and those that are new, put one by one.
use Rattle.std.proofs.Common.{◌≡◌, ℕ, ◌<◌, Bool, true, false, not, List, [], ◌∷◌, ◌++◌, length, Option, Some, None, refl, sym, ap, subst, ◌∙◌}
use Rattle.std.specs.Prelude.{nat_eq, is_some, unwrap_or, filter, cond}
use Rattle.std.specs.List.{AllByRecursion}
use Rattle.std.specs.Map.{lookup}
use Rattle.std.specs.Option.{option_map}
use Rattle.std.proofs.lemmas.Bool.{eqb-true}
use Rattle.std.proofs.lemmas.List.{map-append}
use Rattle.std.proofs.lemmas.List.Elements.{All-from_recursion, recursion_from_All}
use Rattle.values.specs.declared.types.AttributeType.{AttributeType}
use Rattle.values.specs.Norms.{has_norm}
use Rattle.values.specs.Values.{Value}
use Rattle.entries.specs.Entries.{Attributes, values_of}
use Rattle.entries.specs.StoredEntries.{EntryAttribute, raws, attributes_of, AreNormal, IsMadeAttribute}
use Rattle.entries.proofs.Pushed.{all_push}
use Rattle.differences.specs.declared.attributes.UserAttribute.{UserAttribute}
use Rattle.differences.specs.EntryChanges.{Values, is_fixed_at, users}
use Rattle.differences.specs.AsSets.{settled_values, is_among, kept_attributes, new_attributes}
use Rattle.differences.specs.inner.Cuts.{texts}
use Rattle.differences.specs.inner.LentAttributes.{lent, all_lent, AreLentKnown}
use Rattle.differences.proofs.LentLists.{put_more}
use Rattle.differences.proofs.SettledLists.{settled_are, looked_up, among_is, kept_next, kept_gone, new_next, new_known}

pub known_more : (types : List AttributeType) (xs ys : List UserAttribute) (a : UserAttribute) → AreLentKnown types xs → a.t.now < length types → ys ≡ xs ++ a ∷ [] → AreLentKnown types ys
known_more types xs ys a h lt is =
    subst (AreLentKnown types) (sym is)
    (All-from_recursion (λ (x : UserAttribute). x.t.now < length types) (xs ++ a ∷ [])
    (all_push (λ (x : UserAttribute). x.t.now < length types) xs a (recursion_from_All (λ (x : UserAttribute). x.t.now < length types) xs h) lt))

made_found : (types : List AttributeType) (attrs : List EntryAttribute) → AllByRecursion (IsMadeAttribute types) attrs → (t : ℕ) (vs : List Value) → lookup (nat_eq t) attrs ≡ Some vs → AreNormal types t vs
made_found types [] h t vs is = absurd cc
made_found types (a ∷ attrs) h t vs is = by (nat_eq t a.0) refl is (made_found types attrs h.1 t vs)
  where
    by : (c : Bool) → nat_eq t a.0 ≡ c → cond c (Some a.1) (lookup (nat_eq t) attrs) ≡ Some vs → (lookup (nat_eq t) attrs ≡ Some vs → AreNormal types t vs) → AreNormal types t vs
    by true e said later =
        let values : a.1 ≡ vs = ap (λ (o : Option (List Value)). unwrap_or o []) said in
        subst (λ (n : ℕ). AreNormal types n vs) (sym (eqb-true t a.0 e)) (subst (AreNormal types a.0) values h.0.normal)
    by false e said later = later said

module _ (types : List AttributeType) (es : List EntryAttribute) (found : List UserAttribute) (items rest : List EntryAttribute) (total : Attributes) where
  abbrev others : Attributes
  others = attributes_of es

  among_at : (t : ℕ) (o : Option (List Value)) → lookup (nat_eq t) es ≡ o → (vs : Values) → is_among others (t, vs) ≡ is_some o
  among_at t o at vs = among_is others t ∙ ap is_some (looked_up t es) ∙ ap (λ (p : Option (List Value)). is_some (option_map raws p)) at ∙ same o
    where
      same : (p : Option (List Value)) → is_some (option_map raws p) ≡ is_some p
      same None = refl
      same (Some v) = refl

  -- ---- those that stay

  abbrev KeptSoFar : List UserAttribute → List EntryAttribute → Type 0
  KeptSoFar xs left = all_lent xs ++ users types (kept_attributes types others (attributes_of left)) ≡ total

  pub kept_pushed : (longer : List UserAttribute) (x : UserAttribute) (values with : List Value) → longer ≡ found ++ x ∷ [] → items ≡ (x.t.now, values) ∷ rest
      → is_fixed_at types (x.t.now, raws values) ≡ false → lookup (nat_eq x.t.now) es ≡ Some with
      → texts x.values.items ≡ raws (filter (λ v. has_norm v.norm with) values) ++ raws (filter (λ v. not (has_norm v.norm values)) with)
      → AllByRecursion (IsMadeAttribute types) items → AllByRecursion (IsMadeAttribute types) es → KeptSoFar found items → KeptSoFar longer rest
  kept_pushed longer x values with put steps free at are made other so_far =
      let t : ℕ = x.t.now in
      let normal : AreNormal types t values = (subst (AllByRecursion (IsMadeAttribute types)) steps made).0.normal in
      let wanted : values_of others t ≡ raws with = ap (λ (o : Option Values). unwrap_or o []) (looked_up t es ∙ ap (option_map raws) at) in
      let settled : settled_values types t (raws values) (values_of others t) ≡ texts x.values.items =
      ap (settled_values types t (raws values)) wanted ∙ sym (settled_are types t values with normal (made_found types es other t with at)) ∙ sym are in
      let more : Attributes = users types (kept_attributes types others (attributes_of rest)) in
      put_more (all_lent found) (all_lent longer) (lent x ∷ []) more (users types (kept_attributes types others (attributes_of items))) total
      (ap all_lent put ∙ map-append lent found (x ∷ []))
      (ap (λ (xs : List EntryAttribute). users types (kept_attributes types others (attributes_of xs))) steps
      ∙ kept_next types others (t, raws values) (attributes_of rest) free (among_at t (Some with) at (raws values))
      ∙ ap (λ (vs : Values). (t, vs) ∷ more) settled) so_far

  pub kept_passed : (t : ℕ) (values : List Value) → items ≡ (t, values) ∷ rest → lookup (nat_eq t) es ≡ None → KeptSoFar found items → KeptSoFar found rest
  kept_passed t values steps at so_far =
      ap (λ (xs : Attributes). all_lent found ++ xs) (sym (ap (λ (xs : List EntryAttribute). users types (kept_attributes types others (attributes_of xs))) steps
      ∙ kept_gone types others (t, raws values) (attributes_of rest) (among_at t None at (raws values)))) ∙ so_far

  -- ---- those that are new

  abbrev NewSoFar : List UserAttribute → List EntryAttribute → Type 0
  NewSoFar xs left = all_lent xs ++ users types (new_attributes others (attributes_of left)) ≡ total

  pub new_pushed : (longer : List UserAttribute) (x : UserAttribute) (values : List Value) → longer ≡ found ++ x ∷ [] → items ≡ (x.t.now, values) ∷ rest
      → is_fixed_at types (x.t.now, raws values) ≡ false → lookup (nat_eq x.t.now) es ≡ None → texts x.values.items ≡ raws values → NewSoFar found items → NewSoFar longer rest
  new_pushed longer x values put steps free at are so_far =
      let t : ℕ = x.t.now in
      let more : Attributes = users types (new_attributes others (attributes_of rest)) in
      put_more (all_lent found) (all_lent longer) (lent x ∷ []) more (users types (new_attributes others (attributes_of items))) total
      (ap all_lent put ∙ map-append lent found (x ∷ []))
      (ap (λ (xs : List EntryAttribute). users types (new_attributes others (attributes_of xs))) steps
      ∙ new_next types others (t, raws values) (attributes_of rest) free (among_at t None at (raws values))
      ∙ ap (λ (vs : Values). (t, vs) ∷ more) (sym are)) so_far

  pub new_passed : (t : ℕ) (values : List Value) (o : Option (List Value)) → items ≡ (t, values) ∷ rest → lookup (nat_eq t) es ≡ o → is_some o ≡ true → NewSoFar found items → NewSoFar found rest
  new_passed t values o steps at some so_far =
      ap (λ (xs : Attributes). all_lent found ++ xs) (sym (ap (λ (xs : List EntryAttribute). users types (new_attributes others (attributes_of xs))) steps
      ∙ new_known types others (t, raws values) (attributes_of rest) (among_at t o at (raws values) ∙ some))) ∙ so_far
