-- The values of an entry under a type, as they are stored.
use Rattle.std.proofs.Common.{◌≡◌, ℕ, ◌<◌, Bool, true, false, ◌&&◌, ◌||◌, List, [], ◌∷◌, length, cond, refl, sym, ap, ◌∙◌}
use Rattle.std.specs.List.{list_any, AllByRecursion}
use Rattle.std.proofs.lemmas.List.Folds.{list_any-append}
use Rattle.values.specs.declared.types.AttributeType.{AttributeType}
use Rattle.values.specs.Values.{Value}
use Rattle.schema.specs.Values.{norm_at}
use Rattle.entries.specs.StoredEntries.{EntryAttribute, raws, attributes_of, AreNormal, IsMadeAttribute}
use Rattle.filter.specs.declared.assertion.Assertion.{Assertion}
use Rattle.schema.specs.Subtypes.{is_subtype, subtypes}
use Rattle.filter.specs.Items.{values_under}
use Rattle.filter.specs.Prepared.{matches, has_match}
use Rattle.filter.proofs.SubtypeLists.{among_subtypes}

-- an assertion asks for these values of a type and its subtypes
abbrev pub AsksFor : List AttributeType → ℕ → Assertion → (List ℕ → Bool) → Type 0
AsksFor types t a p = (u : ℕ) → u < length types → is_subtype types u t ≡ true → (v : List ℕ) → matches a (norm_at types u v) ≡ p v

of_values : (types : List AttributeType) (u : ℕ) (a : Assertion) (p : List ℕ → Bool) → ((v : List ℕ) → matches a (norm_at types u v) ≡ p v)
    → (vs : List Value) → AreNormal types u vs → list_any (λ v. matches a v.norm) vs ≡ list_any p (raws vs)
of_values types u a p h [] normal = refl
of_values types u a p h (v ∷ vs) normal =
    ap (λ (n : List ℕ). matches a n || list_any (λ v. matches a v.norm) vs) normal.0
    ∙ ap (λ (b : Bool). b || list_any (λ v. matches a v.norm) vs) (h v.raw)
    ∙ ap (λ (b : Bool). p v.raw || b) (of_values types u a p h vs normal.1)

of_attribute : (types : List AttributeType) (t : ℕ) (a : Assertion) (p : List ℕ → Bool) → AsksFor types t a p → (x : EntryAttribute) → IsMadeAttribute types x
    → (b : Bool) → is_subtype types x.0 t ≡ b → (b && list_any (λ v. matches a v.norm) x.1) ≡ list_any p (cond b (raws x.1) [])
of_attribute types t a p h x made true is = of_values types x.0 a p (h x.0 made.known is) x.1 made.normal
of_attribute types t a p h x made false is = refl

pub of_entry : (types : List AttributeType) (t : ℕ) (a : Assertion) (p : List ℕ → Bool) → AsksFor types t a p → (attrs : List EntryAttribute)
    → AllByRecursion (IsMadeAttribute types) attrs → has_match (subtypes types t) a attrs ≡ list_any p (values_under types (attributes_of attrs) t)
of_entry types t a p h [] made = refl
of_entry types t a p h (x ∷ attrs) made =
    let here = list_any (λ v. matches a v.norm) x.1 in
    let rest = has_match (subtypes types t) a attrs in
    let later = values_under types (attributes_of attrs) t in
    ap (λ (b : Bool). b && here || rest) (among_subtypes types t x.0 made.0.known)
    ∙ ap (λ (b : Bool). b || rest) (of_attribute types t a p h x made.0 (is_subtype types x.0 t) refl)
    ∙ ap (λ (b : Bool). list_any p (cond (is_subtype types x.0 t) (raws x.1) []) || b) (of_entry types t a p h attrs made.1)
    ∙ sym (list_any-append p (cond (is_subtype types x.0 t) (raws x.1) []) later)
