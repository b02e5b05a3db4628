-- Adding an entry's own lines gives its attributes.
use Rattle.std.proofs.Common.{◌≡◌, ℕ, Bool, true, false, cond, List, [], ◌∷◌, ◌++◌, map, Option, Some, None, Result, Ok, Err, refl, sym, ap, ◌∙◌, append_assoc}
use Rattle.std.specs.Prelude.{nat_eq, unwrap_or}
use Rattle.std.specs.List.{list_any, AllByRecursion, IsDistinct}
use Rattle.std.specs.Map.{lookup, keys_of}
use Rattle.std.proofs.lemmas.Map.{lookup-none}
use Rattle.std.proofs.lemmas.List.{append-nil}
use Rattle.std.proofs.lemmas.Bool.{or_from, or_parts}
use Rattle.std.proofs.lemmas.Cmp.{nat_eq_equiv}
use Rattle.ldif.specs.Attrs.{Attr}
use Rattle.schema.specs.declared.code.Code.{Code}
use Rattle.schema.specs.declared.code.Code.TheVariants.{InvalidAttributeSyntax, AttributeOrValueExists}
use Rattle.values.specs.declared.types.AttributeType.{AttributeType}
use Rattle.values.specs.Types.{type_of, name_of, is_known}
use Rattle.schema.specs.Values.{is_valid_at, are_equal}
use Rattle.schema.specs.Rdns.{Ava, TypedRdn}
use Rattle.base.specs.Answers.{◌>>=◌}
use Rattle.ldif.specs.declared.record.Mode.TheVariants.{Content}
use Rattle.entries.specs.Entries.{Attribute, Attributes, values_of, has_equal, push_value, typed_value, put_value, add_lines, with_rdn, IsAttribute, attribute_lines, lines_of}

-- the type isn't there
abbrev Fresh : ℕ → Attributes → Type 0
Fresh t attrs = AllByRecursion (λ a. nat_eq t a.0 ≡ false) attrs

at_end : (t : ℕ) (done : Attributes) (ws : List (List ℕ)) → Fresh t done → lookup (nat_eq t) (done ++ (t, ws) ∷ []) ≡ Some ws
at_end t [] ws h = ap (λ b. cond b (Some ws) None) (nat_eq_equiv.refl t)
at_end t (a ∷ done) ws h = ap (λ b. cond b (Some a.1) (lookup (nat_eq t) (done ++ (t, ws) ∷ []))) h.0 ∙ at_end t done ws h.1

abbrev values_in : Option (List (List ℕ)) → List (List ℕ)
values_in o = unwrap_or o []

values_end : (t : ℕ) (done : Attributes) (ws : List (List ℕ)) → Fresh t done → values_of (done ++ (t, ws) ∷ []) t ≡ ws
values_end t done ws h = ap values_in (at_end t done ws h)

values_none : (t : ℕ) (done : Attributes) → Fresh t done → values_of done t ≡ []
values_none t done h = ap values_in (lookup-none (nat_eq t) done h)

push_end : (t : ℕ) (done : Attributes) (ws : List (List ℕ)) (v : List ℕ) → Fresh t done → push_value (done ++ (t, ws) ∷ []) t v ≡ done ++ (t, ws ++ v ∷ []) ∷ []
unfolding push_value
push_end t [] ws v h = ap (λ b. cond b ((t, ws ++ v ∷ []) ∷ []) ((t, ws) ∷ (t, v ∷ []) ∷ [])) (nat_eq_equiv.refl t)
push_end t (a ∷ done) ws v h =
    ap (λ b. cond b ((a.0, a.1 ++ v ∷ []) ∷ (done ++ (t, ws) ∷ [])) (a ∷ push_value (done ++ (t, ws) ∷ []) t v)) h.0
    ∙ ap (λ (x : Attributes). a ∷ x) (push_end t done ws v h.1)

push_new : (t : ℕ) (done : Attributes) (v : List ℕ) → Fresh t done → push_value done t v ≡ done ++ (t, v ∷ []) ∷ []
unfolding push_value
push_new t [] v h = refl
push_new t (a ∷ done) v h =
    ap (λ b. cond b ((a.0, a.1 ++ v ∷ []) ∷ done) (a ∷ push_value done t v)) h.0
    ∙ ap (λ (x : Attributes). a ∷ x) (push_new t done v h.1)

abbrev typed : Ava → Result Ava Code
typed p = Ok p

abbrev fine : Attributes → Result Attributes Code
fine attrs = Ok attrs

any_push : {X : Type 0} (test : X → Bool) (xs : List X) (x : X) → list_any test xs ≡ false → test x ≡ false → list_any test (xs ++ x ∷ []) ≡ false
any_push test [] x h g = or_from (test x) false g refl
any_push test (y ∷ ys) x h g = let k = or_parts (test y) (list_any test ys) h in or_from (test y) (list_any test (ys ++ x ∷ [])) k.0 (any_push test ys x k.1 g)

module _ (types : List AttributeType) where
  one_value : (attrs next : Attributes) (t : ℕ) (v : List ℕ) (ls : List Attr) → type_of types (name_of types t) ≡ Some t → is_valid_at types t v ≡ true → has_equal types t v (values_of attrs t) ≡ false → push_value attrs t v ≡ next
      → add_lines Content types attrs (record { name = name_of types t; value = v } ∷ ls) ≡ add_lines Content types next ls
  unfolding add_lines
  one_value attrs next t v ls found ok new pushed =
      ap (λ o. (typed_value Content types v o >>= put_value types attrs) >>= λ more. add_lines Content types more ls) found
      ∙ ap (λ b. ((cond b (typed (t, v)) (Err InvalidAttributeSyntax)) >>= put_value types attrs) >>= λ more. add_lines Content types more ls) ok
      ∙ ap (λ b. (cond b (Err AttributeOrValueExists) (fine (push_value attrs t v))) >>= λ more. add_lines Content types more ls) new
      ∙ ap (λ (x : Attributes). add_lines Content types x ls) pushed

  -- no value has an equal one there
  abbrev New : ℕ → List (List ℕ) → List (List ℕ) → Type 0
  New t ws vs = AllByRecursion (λ v. has_equal types t v ws ≡ false) vs

  still_new : (t : ℕ) (ws : List (List ℕ)) (w : List ℕ) (vs : List (List ℕ)) → New t ws vs → AllByRecursion (λ v. are_equal types t w v ≡ false) vs → New t (ws ++ w ∷ []) vs
  still_new t ws w [] h g = tt
  still_new t ws w (v ∷ vs) h g = (any_push (λ x. are_equal types t x v) ws w h.0 g.0, still_new t ws w vs h.1 g.1)

  none_new : (t : ℕ) (vs : List (List ℕ)) → New t [] vs
  none_new t [] = tt
  none_new t (v ∷ vs) = (refl, none_new t vs)

  abbrev lines_at : ℕ → List (List ℕ) → List Attr
  lines_at t vs = map (λ v. record { name = name_of types t; value = v }) vs

  module _ (t : ℕ) (found : type_of types (name_of types t) ≡ Some t) (done : Attributes) (fresh : Fresh t done) (ls : List Attr) where
    more_values : (vs ws : List (List ℕ)) → AllByRecursion (λ v. is_valid_at types t v ≡ true) vs → New t ws vs → IsDistinct (are_equal types t) vs
        → add_lines Content types (done ++ (t, ws) ∷ []) (lines_at t vs ++ ls) ≡ add_lines Content types (done ++ (t, ws ++ vs) ∷ []) ls
    unfolding IsDistinct
    more_values [] ws ok new apart = ap (λ (x : List (List ℕ)). add_lines Content types (done ++ (t, x) ∷ []) ls) (sym (append-nil ws))
    more_values (v ∷ vs) ws ok new apart =
        one_value (done ++ (t, ws) ∷ []) (done ++ (t, ws ++ v ∷ []) ∷ []) t v (lines_at t vs ++ ls) found ok.0 (ap (has_equal types t v) (values_end t done ws fresh) ∙ new.0) (push_end t done ws v fresh)
        ∙ more_values vs (ws ++ v ∷ []) ok.1 (still_new t ws v vs new.1 apart.0) apart.1
        ∙ ap (λ (x : List (List ℕ)). add_lines Content types (done ++ (t, x) ∷ []) ls) (append_assoc ws (v ∷ []) vs)

    all_values : (v : List ℕ) (vs : List (List ℕ)) → AllByRecursion (λ x. is_valid_at types t x ≡ true) (v ∷ vs) → IsDistinct (are_equal types t) (v ∷ vs)
        → add_lines Content types done (lines_at t (v ∷ vs) ++ ls) ≡ add_lines Content types (done ++ (t, v ∷ vs) ∷ []) ls
    unfolding IsDistinct
    all_values v vs ok apart =
        one_value done (done ++ (t, v ∷ []) ∷ []) t v (lines_at t vs ++ ls) found ok.0 (ap (has_equal types t v) (values_none t done fresh)) (push_new t done v fresh)
        ∙ more_values vs (v ∷ []) ok.1 (still_new t [] v vs (none_new t vs) apart.0) apart.1

  abbrev NewTypes : Attributes → Attributes → Type 0
  NewTypes done rest = AllByRecursion (λ a. Fresh a.0 done) rest

  fresh_push : (t : ℕ) (done : Attributes) (a : Attribute) → Fresh t done → nat_eq t a.0 ≡ false → Fresh t (done ++ a ∷ [])
  fresh_push t [] a h g = (g, tt)
  fresh_push t (b ∷ done) a h g = (h.0, fresh_push t done a h.1 g)

  new_types : (done : Attributes) (a : Attribute) (rest : Attributes) → NewTypes done rest → AllByRecursion (λ k. nat_eq a.0 k ≡ false) (keys_of rest) → NewTypes (done ++ a ∷ []) rest
  new_types done a [] h g = tt
  new_types done a (b ∷ rest) h g = (fresh_push b.0 done a h.0 (nat_eq_equiv.symm b.0 a.0 ∙ g.0), new_types done a rest h.1 g.1)

  none_types : (rest : Attributes) → NewTypes [] rest
  none_types [] = tt
  none_types (a ∷ rest) = (tt, none_types rest)

  module _ (named : (t : ℕ) → is_known types t ≡ true → type_of types (name_of types t) ≡ Some t) where
    one_attribute : (a : Attribute) (done : Attributes) (ls : List Attr) → IsAttribute types a → Fresh a.0 done → add_lines Content types done (attribute_lines types a ++ ls) ≡ add_lines Content types (done ++ a ∷ []) ls
    one_attribute (t, []) done ls is fresh = let k = is.some in cc
    one_attribute (t, v ∷ vs) done ls is fresh = all_values t (named t is.known) done fresh ls v vs is.values is.apart

    all_attributes : (rest done : Attributes) → AllByRecursion (IsAttribute types) rest → NewTypes done rest → IsDistinct nat_eq (keys_of rest) → add_lines Content types done (lines_of types rest) ≡ Ok (done ++ rest)
    unfolding add_lines lines_of IsDistinct
    all_attributes [] done is new apart = ap fine (sym (append-nil done))
    all_attributes (a ∷ rest) done is new apart =
        one_attribute a done (lines_of types rest) is.0 new.0
        ∙ all_attributes rest (done ++ a ∷ []) is.1 (new_types done a rest new.1 apart.0) apart.1
        ∙ ap fine (append_assoc done (a ∷ []) rest)

    -- adding an entry's own lines gives its attributes
    pub own_lines : (attrs : Attributes) → AllByRecursion (IsAttribute types) attrs → IsDistinct nat_eq (keys_of attrs) → add_lines Content types [] (lines_of types attrs) ≡ Ok attrs
    own_lines attrs is apart = all_attributes attrs [] is (none_types attrs) apart

  -- and its RDN's values are there
  pub rdn_there : (attrs : Attributes) (rdn : TypedRdn) → AllByRecursion (λ p. has_equal types p.0 p.1 (values_of attrs p.0) ≡ true) rdn → with_rdn types rdn attrs ≡ attrs
  unfolding with_rdn
  rdn_there attrs [] h = refl
  rdn_there attrs (p ∷ ps) h = ap (λ b. with_rdn types ps (cond b attrs (push_value attrs p.0 p.1))) h.0 ∙ rdn_there attrs ps h.1
