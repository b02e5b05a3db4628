-- A modify's steps on stored values.
use Rattle.std.proofs.Common.{◌≡◌, ℕ, ◌<◌, Bool, true, false, cond, not, List, [], ◌∷◌, ◌++◌, length, Option, Some, None, Result, Ok, Err, refl, sym, ap, subst, ◌∙◌, nat_eq, arith}
use Rattle.std.specs.Str.{bytes_eq}
use Rattle.std.specs.List.{AllByRecursion, list_any, filter}
use Rattle.std.specs.Prelude.{nat_lt}
use Rattle.std.specs.Map.{lookup, set_value, remove_entry}
use Rattle.std.proofs.lemmas.Bool.{eqb-true, lt-ltb}
use Rattle.std.proofs.lemmas.List.{map-append}
use Rattle.indexmap.specs.IndexMap.{insert_entry}
use Rattle.ldif.specs.declared.record.Op.{Op}
use Rattle.schema.specs.declared.code.Code.{Code}
use Rattle.schema.specs.declared.code.Code.TheVariants.{NoSuchAttribute, AttributeOrValueExists, InvalidAttributeSyntax}
use Rattle.ldif.specs.declared.record.Mod.{Mod}
use Rattle.base.specs.Answers.{◌>>=◌, through, Fails}
use Rattle.values.specs.declared.types.AttributeType.{AttributeType}
use Rattle.values.specs.Values.{Value}
use Rattle.schema.specs.Values.{norm_at, is_valid_at}
use Rattle.schema.specs.Conf.{Conf}
use Rattle.entries.specs.Entries.{Attributes, EntryContent, values_of, has_equal}
use Rattle.entries.specs.StoredEntries.{Entry, EntryAttribute, raws, attributes_of, content_of, AreNormal, IsMadeAttribute, IsMade}
use Rattle.values.specs.Norms.{has_norm, but_norm}
use Rattle.entries.specs.Modifies.{unless, changed_values, modify_at, modify_block, modified_fault, modify_entry, append_value, without_value, remove_value, attribute, set_values}
use Rattle.entries.proofs.StoredLemmas.{any_norm, values_raw, normal_values}
use Rattle.entries.proofs.SetValues.{all_both, set_none}

-- ---- one value

module _ (types : List AttributeType) (t : ℕ) where
  kept_raws : (n : List ℕ) (vs : List Value) → AreNormal types t vs → filter (λ w. not (bytes_eq (norm_at types t w) n)) (raws vs) ≡ raws (but_norm n vs)
  kept_raws n [] made = refl
  kept_raws n (v ∷ vs) made =
      (λ i. cond (not (bytes_eq (sym made.0 i) n)) (v.raw ∷ kept_raws n vs made.1 i) (kept_raws n vs made.1 i))
      ∙ elim (not (bytes_eq v.norm n)) as (λ b. cond b (v.raw ∷ raws (but_norm n vs)) (raws (but_norm n vs)) ≡ raws (cond b (v ∷ but_norm n vs) (but_norm n vs))) [ true ↦ refl | false ↦ refl ]

  module _ (vs : List Value) (made : AreNormal types t vs) (raw : List ℕ) (valid : is_valid_at types t raw ≡ true) (v : Value) (is : v ≡ record { raw = raw; norm = norm_at types t raw }) where
    norm_is : norm_at types t raw ≡ v.norm
    norm_is = ap (λ (x : Value). x.norm) (sym is)

    found : has_equal types t raw (raws vs) ≡ has_norm v.norm vs
    found = ap (λ n. list_any (λ w. bytes_eq (norm_at types t w) n) (raws vs)) norm_is ∙ sym (any_norm types t v.norm vs made)

    pub append_is : (b : Bool) → has_norm v.norm vs ≡ b → append_value types t (raws vs) raw ≡ cond b (Err AttributeOrValueExists) (Ok (raws (vs ++ v ∷ [])))
    append_is b e =
        ap (λ x. cond (not x) (Err InvalidAttributeSyntax) (cond (has_equal types t raw (raws vs)) (Err AttributeOrValueExists) (Ok (raws vs ++ raw ∷ [])))) valid
        ∙ ap (λ x. cond x (Err AttributeOrValueExists) (Ok (raws vs ++ raw ∷ []))) (found ∙ e)
        ∙ ap (λ (x : List (List ℕ)). cond b (Err AttributeOrValueExists) (Ok x)) (ap (λ (x : Value). raws vs ++ x.raw ∷ []) (sym is) ∙ sym (map-append (λ (x : Value). x.raw) vs (v ∷ [])))

    pub remove_is : (b : Bool) → has_norm v.norm vs ≡ b → remove_value types t (raws vs) raw ≡ cond (not b) (Err NoSuchAttribute) (Ok (raws (but_norm v.norm vs)))
    remove_is b e =
        ap (λ x. cond (not x) (Err InvalidAttributeSyntax) (cond (not (has_equal types t raw (raws vs))) (Err NoSuchAttribute) (Ok (without_value types t (raws vs) raw)))) valid
        ∙ ap (λ x. cond (not x) (Err NoSuchAttribute) (Ok (without_value types t (raws vs) raw))) (found ∙ e)
        ∙ ap (λ (x : List (List ℕ)). cond (not b) (Err NoSuchAttribute) (Ok x)) (ap (λ n. filter (λ w. not (bytes_eq (norm_at types t w) n)) (raws vs)) norm_is ∙ kept_raws v.norm vs made)

-- ---- the values of one type set

module _ (t : ℕ) where
  pub removed_is : (es : List EntryAttribute) → remove_entry (nat_eq t) es ≡ set_values es t []
  unfolding set_values
  removed_is [] = refl
  removed_is (e ∷ es) = elim (nat_eq t e.0) as (λ b. cond b es (e ∷ remove_entry (nat_eq t) es) ≡ cond b (attribute e.0 [] ++ es) (e ∷ set_values es t [])) [ true ↦ refl | false ↦ ap (λ (xs : List EntryAttribute). e ∷ xs) (removed_is es) ]

  inserted : (es : List EntryAttribute) (v : Value) (vs : List Value) → insert_entry nat_eq es t (v ∷ vs) ≡ set_values es t (v ∷ vs)
  unfolding set_values
  inserted [] v vs = refl
  inserted (e ∷ es) v vs = elim (nat_eq t e.0) as (λ b. cond b ((e.0, v ∷ vs) ∷ es) (e ∷ insert_entry nat_eq es t (v ∷ vs)) ≡ cond b (attribute e.0 (v ∷ vs) ++ es) (e ∷ set_values es t (v ∷ vs))) [ true ↦ refl | false ↦ ap (λ (xs : List EntryAttribute). e ∷ xs) (inserted es v vs) ]

  pub emptied_is : (es : List EntryAttribute) (vs : List Value) → nat_eq (length vs) 0 ≡ true → remove_entry (nat_eq t) es ≡ set_values es t vs
  emptied_is es [] e = removed_is es
  emptied_is es (v ∷ vs) e = absurd (let k : length (v ∷ vs) ≡ 0 = eqb-true (length (v ∷ vs)) 0 e in omega arith)

  pub inserted_is : (es : List EntryAttribute) (vs : List Value) → nat_eq (length vs) 0 ≡ false → insert_entry nat_eq es t vs ≡ set_values es t vs
  inserted_is es [] e = absurd cc
  inserted_is es (v ∷ vs) e = inserted es v vs

  -- a type without values has no place
  pub dropped : (es new : List EntryAttribute) (vs : List Value) → nat_lt 0 (length vs) ≡ false → new ≡ remove_entry (nat_eq t) es → lookup (nat_eq t) new ≡ None → set_values new t vs ≡ set_values es t vs
  dropped es new [] e is none = set_none t new none ∙ is ∙ removed_is es
  dropped es new (v ∷ vs) e is none = absurd (let k : 0 < length (v ∷ vs) = omega arith in let l = sym (lt-ltb 0 (length (v ∷ vs)) k) ∙ e in cc)

  -- a lent value's place is the same
  pub set_again : (es : List EntryAttribute) (w vs : List Value) → set_values (set_value (nat_eq t) es w) t vs ≡ set_values es t vs
  unfolding set_values
  set_again [] w vs = refl
  set_again (e ∷ es) w vs = elim (nat_eq t e.0) as (λ b. nat_eq t e.0 ≡ b → set_values (cond b ((e.0, w) ∷ es) (e ∷ set_value (nat_eq t) es w)) t vs ≡ cond b (attribute e.0 vs ++ es) (e ∷ set_values es t vs)) [
    | true ↦ λ is. ap (λ b. cond b (attribute e.0 vs ++ es) ((e.0, w) ∷ set_values es t vs)) is
    | false ↦ λ is. ap (λ b. cond b (attribute e.0 vs ++ set_value (nat_eq t) es w) (e ∷ set_values (set_value (nat_eq t) es w) t vs)) is ∙ ap (λ (xs : List EntryAttribute). e ∷ xs) (set_again es w vs)
  ] refl

  front_raws : (k : ℕ) (vs : List Value) (es : List EntryAttribute) → attributes_of (attribute k vs ++ es) ≡ attribute k (raws vs) ++ attributes_of es
  front_raws k [] es = refl
  front_raws k (v ∷ vs) es = refl

  -- without the normal forms
  pub raws_set : (es : List EntryAttribute) (vs : List Value) → attributes_of (set_values es t vs) ≡ set_values (attributes_of es) t (raws vs)
  unfolding set_values
  raws_set [] [] = refl
  raws_set [] (v ∷ vs) = refl
  raws_set (e ∷ es) vs = elim (nat_eq t e.0) as (λ b. attributes_of (cond b (attribute e.0 vs ++ es) (e ∷ set_values es t vs)) ≡ cond b (attribute e.0 (raws vs) ++ attributes_of es) ((e.0, raws e.1) ∷ set_values (attributes_of es) t (raws vs))) [
    | true ↦ front_raws e.0 vs es
    | false ↦ ap (λ (xs : Attributes). (e.0, raws e.1) ∷ xs) (raws_set es vs)
  ]

  module _ (types : List AttributeType) where
    one_made : (k : ℕ) (vs : List Value) → k < length types → AreNormal types k vs → AllByRecursion (IsMadeAttribute types) (attribute k vs)
    one_made k [] known made = tt
    one_made k (v ∷ vs) known made = (record { known = known; normal = made }, tt)

    each_set : (es : List EntryAttribute) (vs : List Value) → AllByRecursion (IsMadeAttribute types) es → t < length types → AreNormal types t vs → AllByRecursion (IsMadeAttribute types) (set_values es t vs)
    unfolding set_values
    each_set [] vs all known made = one_made t vs known made
    each_set (e ∷ es) vs all known made = elim (nat_eq t e.0) as (λ b. nat_eq t e.0 ≡ b → AllByRecursion (IsMadeAttribute types) (cond b (attribute e.0 vs ++ es) (e ∷ set_values es t vs))) [
      | true ↦ λ is. all_both (IsMadeAttribute types) (attribute e.0 vs) es (one_made e.0 vs all.0.known (subst (λ k. AreNormal types k vs) (eqb-true t e.0 is) made)) all.1
      | false ↦ λ is. (all.0, each_set es vs all.1 known made)
    ] refl

    pub made_set : (es : List EntryAttribute) (vs : List Value) → IsMade types es → t < length types → AreNormal types t vs → IsMade types (set_values es t vs)
    made_set es vs all known made = record { each = each_set es vs all.each known made }

-- ---- a block

module _ (types : List AttributeType) (es : List EntryAttribute) (t : ℕ) (op : Op) (texts : List (List ℕ)) (old : List Value) (is : old ≡ values_of es t) where
  abbrev set : Result (List (List ℕ)) Code → Result Attributes Code
  set r = r >>= λ ws. Ok (set_values (attributes_of es) t ws)

  at_is : modify_at types (attributes_of es) t op texts ≡ set (changed_values types t op (raws old) texts)
  unfolding modify_at
  at_is = ap (λ vs. set (changed_values types t op vs texts)) (values_raw types t es ∙ ap raws (sym is))

  pub at_ok : (vs : List Value) → changed_values types t op (raws old) texts ≡ Ok (raws vs) → modify_at types (attributes_of es) t op texts ≡ Ok (attributes_of (set_values es t vs))
  at_ok vs gives = at_is ∙ ap set gives ∙ ap (λ (x : Attributes). Ok x) (sym (raws_set t es vs))

  pub at_fails : (fault : Option Code) → Fails fault (changed_values types t op (raws old) texts) → Fails fault (modify_at types (attributes_of es) t op texts)
  at_fails None said = tt
  at_fails (Some c) said = at_is ∙ ap set said

-- ---- an AVA of an RDN

pub ava_out : (types : List AttributeType) (es : List EntryAttribute) (t : ℕ) (raw n : List ℕ) → IsMade types es → n ≡ norm_at types t raw → attributes_of (set_values es t (but_norm n (values_of es t))) ≡ set_values (attributes_of es) t (without_value types t (values_of (attributes_of es) t) raw)
ava_out types es t raw n made is =
    raws_set t es (but_norm n (values_of es t))
    ∙ ap (set_values (attributes_of es) t)
    (sym (kept_raws types t n (values_of es t) (normal_values types t es made.each))
    ∙ (λ i. filter (λ w. not (bytes_eq (norm_at types t w) (is i))) (sym (values_raw types t es) i)))

-- ---- an entry

module _ (conf : Conf) (e : Entry) (mods : List Mod) (es : List EntryAttribute) (gives : through (modify_block conf.types) (attributes_of e.attrs) mods ≡ Ok (attributes_of es)) where
  abbrev with_attrs : Attributes → Result EntryContent Code
  with_attrs attrs = Ok (record { rdn = e.rdn; attrs = attrs })

  pub modified_is : (fault : Option Code) → fault ≡ modified_fault conf e.rdn (attributes_of es) → modify_entry conf (content_of e) mods ≡ unless fault (with_attrs (attributes_of es))
  unfolding modify_entry
  modified_is fault is =
      ap (λ (r : Result Attributes Code). r >>= λ attrs. unless (modified_fault conf e.rdn attrs) (with_attrs attrs)) gives
      ∙ ap (λ (f : Option Code). unless f (with_attrs (attributes_of es))) (sym is)
