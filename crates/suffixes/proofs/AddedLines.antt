-- Lines that are added where none is refused: the attributes that they stand for.
use Rattle.std.proofs.Common.{◌≡◌, ℕ, Bool, true, false, cond, List, [], ◌∷◌, ◌++◌, map, Option, Some, None, Ok, Err, refl, sym, ap, ◌∙◌, append_assoc}
use Rattle.std.specs.Prelude.{nat_eq, nat_lt, length}
use Rattle.std.specs.List.{AllByRecursion, IsDistinct}
use Rattle.std.specs.Map.{keys_of}
use Rattle.std.proofs.lemmas.List.{append-nil}
use Rattle.std.proofs.lemmas.Cmp.{nat_eq_equiv}
use Rattle.base.proofs.Bound.{bind_ok, same_ok}
use Rattle.ldif.specs.Attrs.{Attr}
use Rattle.ldif.specs.declared.record.Mode.TheVariants.{Content}
use Rattle.schema.specs.declared.code.Code.TheVariants.{InvalidAttributeSyntax, AttributeOrValueExists}
use Rattle.values.specs.declared.types.AttributeType.{AttributeType}
use Rattle.values.specs.Types.{type_of, name_of}
use Rattle.schema.specs.Values.{is_valid_at}
use Rattle.schema.specs.Rdns.{Ava}
use Rattle.entries.specs.Entries.{Attribute, Attributes, values_of, has_equal, push_value, typed_value, line_value, put_value, add_line, add_lines, lines_of}
use Rattle.suffixes.specs.inner.Lines.{attribute_avas, avas_in, line_of, lines_in}
use Rattle.suffixes.proofs.AvaLines.{all_lines}

-- ---- values one after the other

pushes : Attributes → List Ava → Attributes
pushes attrs [] = attrs
pushes attrs (p ∷ ps) = pushes (push_value attrs p.0 p.1) ps

pushes_apart : (xs ys : List Ava) (attrs : Attributes) → pushes attrs (xs ++ ys) ≡ pushes (pushes attrs xs) ys
unfolding pushes
pushes_apart [] ys attrs = refl
pushes_apart (x ∷ xs) ys attrs = pushes_apart xs ys (push_value attrs x.0 x.1)

-- the type isn't there
abbrev Fresh : ℕ → Attributes → Type 0
Fresh t attrs = AllByRecursion (λ (a : Attribute). nat_eq t a.0 ≡ false) attrs

push_last : (t : ℕ) (done : Attributes) (ws : List (List ℕ)) (v : List ℕ) → Fresh t done → push_value (done ++ (t, ws) ∷ []) t v ≡ done ++ (t, ws ++ v ∷ []) ∷ []
unfolding push_value
push_last t [] ws v h = ap (λ b. cond b ((t, ws ++ v ∷ []) ∷ []) ((t, ws) ∷ (t, v ∷ []) ∷ [])) (nat_eq_equiv.refl t)
push_last t (a ∷ done) ws v h =
    ap (λ b. cond b ((a.0, a.1 ++ v ∷ []) ∷ (done ++ (t, ws) ∷ [])) (a ∷ push_value (done ++ (t, ws) ∷ []) t v)) h.0
    ∙ ap (λ (x : Attributes). a ∷ x) (push_last t done ws v h.1)

push_first : (t : ℕ) (done : Attributes) (v : List ℕ) → Fresh t done → push_value done t v ≡ done ++ (t, v ∷ []) ∷ []
unfolding push_value
push_first t [] v h = refl
push_first t (a ∷ done) v h =
    ap (λ b. cond b ((a.0, a.1 ++ v ∷ []) ∷ done) (a ∷ push_value done t v)) h.0
    ∙ ap (λ (x : Attributes). a ∷ x) (push_first t done v h.1)

module _ (t : ℕ) (done : Attributes) (fresh : Fresh t done) where
  more_pushed : (vs ws : List (List ℕ)) → pushes (done ++ (t, ws) ∷ []) (map (λ v. (t, v)) vs) ≡ done ++ (t, ws ++ vs) ∷ []
  unfolding pushes
  more_pushed [] ws = ap (λ (x : List (List ℕ)). done ++ (t, x) ∷ []) (sym (append-nil ws))
  more_pushed (v ∷ vs) ws =
      ap (λ (x : Attributes). pushes x (map (λ v. (t, v)) vs)) (push_last t done ws v fresh)
      ∙ more_pushed vs (ws ++ v ∷ [])
      ∙ ap (λ (x : List (List ℕ)). done ++ (t, x) ∷ []) (append_assoc ws (v ∷ []) vs)

  all_pushed : (v : List ℕ) (vs : List (List ℕ)) → pushes done (map (λ v. (t, v)) (v ∷ vs)) ≡ done ++ (t, v ∷ vs) ∷ []
  unfolding pushes
  all_pushed v vs = ap (λ (x : Attributes). pushes x (map (λ v. (t, v)) vs)) (push_first t done v fresh) ∙ more_pushed vs (v ∷ [])

abbrev NewTypes : Attributes → Attributes → Type 0
NewTypes done rest = AllByRecursion (λ (a : Attribute). Fresh a.0 done) rest

fresh_push : (t : ℕ) (done : Attributes) (a : Attribute) → Fresh t done → nat_eq t a.0 ≡ false → Fresh t (done ++ a ∷ [])
fresh_push t [] a h g = (g, tt)
fresh_push t (b ∷ done) a h g = (h.0, fresh_push t done a h.1 g)

new_types : (done : Attributes) (a : Attribute) (rest : Attributes) → NewTypes done rest → AllByRecursion (λ k. nat_eq a.0 k ≡ false) (keys_of rest) → NewTypes (done ++ a ∷ []) rest
new_types done a [] h g = tt
new_types done a (b ∷ rest) h g = (fresh_push b.0 done a h.0 (nat_eq_equiv.symm b.0 a.0 ∙ g.0), new_types done a rest h.1 g.1)

none_types : (rest : Attributes) → NewTypes [] rest
none_types [] = tt
none_types (a ∷ rest) = (tt, none_types rest)

-- each attribute has a value
abbrev pub HaveValues : Attributes → Type 0
HaveValues attrs = AllByRecursion (λ (a : Attribute). nat_lt 0 (length a.1) ≡ true) attrs

one_pushed : (a : Attribute) (done : Attributes) → nat_lt 0 (length a.1) ≡ true → Fresh a.0 done → pushes done (attribute_avas a) ≡ done ++ a ∷ []
one_pushed (t, []) done some fresh = cc
one_pushed (t, v ∷ vs) done some fresh = all_pushed t done fresh v vs

pushed_from : (rest done : Attributes) → HaveValues rest → NewTypes done rest → IsDistinct nat_eq (keys_of rest) → pushes done (avas_in rest) ≡ done ++ rest
unfolding pushes IsDistinct
pushed_from [] done some new apart = sym (append-nil done)
pushed_from (a ∷ rest) done some new apart =
    pushes_apart (attribute_avas a) (avas_in rest) done
    ∙ ap (λ (x : Attributes). pushes x (avas_in rest)) (one_pushed a done some.0 new.0)
    ∙ pushed_from rest (done ++ a ∷ []) some.1 (new_types done a rest new.1 apart.0) apart.1
    ∙ append_assoc done (a ∷ []) rest

-- ---- lines that are added

module _ (types : List AttributeType) where
  abbrev IsNamed : ℕ → Type 0
  IsNamed t = type_of types (name_of types t) ≡ Some t

  valued : (t : ℕ) (v : List ℕ) (o : Option ℕ) (q : Ava) → o ≡ Some t → typed_value Content types v o ≡ Ok q → ◌≡◌ {A = Ava} q (t, v)
  valued t v None q is e = absurd cc
  valued t v (Some u) q is e = by (is_valid_at types u v) e
    where
      by : (b : Bool) → cond b (Ok (u, v)) (Err InvalidAttributeSyntax) ≡ Ok q → ◌≡◌ {A = Ava} q (t, v)
      by true said = sym (same_ok (u, v) q said) ∙ ap (λ (k : ℕ). (k, v)) cc
      by false said = absurd cc

  put_is : (attrs next : Attributes) (p : Ava) → put_value types attrs p ≡ Ok next → next ≡ push_value attrs p.0 p.1
  put_is attrs next p e = by (has_equal types p.0 p.1 (values_of attrs p.0)) e
    where
      by : (b : Bool) → cond b (Err AttributeOrValueExists) (Ok (push_value attrs p.0 p.1)) ≡ Ok next → next ≡ push_value attrs p.0 p.1
      by true said = absurd cc
      by false said = sym (same_ok (push_value attrs p.0 p.1) next said)

  line_is : (attrs next : Attributes) (p : Ava) → IsNamed p.0 → add_line Content types attrs (line_of types p) ≡ Ok next → next ≡ push_value attrs p.0 p.1
  line_is attrs next p named e =
      let k = bind_ok (line_value Content types (line_of types p)) (put_value types attrs) next e in
      let same : ◌≡◌ {A = Ava} k.0 p = valued p.0 p.1 (type_of types (name_of types p.0)) k.0 named k.1 in
      put_is attrs next k.0 k.2 ∙ ap (λ (q : Ava). push_value attrs q.0 q.1) same

  lines_pushed : (ps : List Ava) (attrs out : Attributes) → AllByRecursion (λ (p : Ava). IsNamed p.0) ps → add_lines Content types attrs (lines_in types ps) ≡ Ok out → out ≡ pushes attrs ps
  unfolding add_lines pushes
  lines_pushed [] attrs out named e = sym (same_ok attrs out e)
  lines_pushed (p ∷ ps) attrs out named e =
      let k = bind_ok (add_line Content types attrs (line_of types p)) (λ more. add_lines Content types more (lines_in types ps)) out e in
      lines_pushed ps k.0 out named.1 k.2 ∙ ap (λ (x : Attributes). pushes x ps) (line_is attrs k.0 p named.0 k.1)

  both_named : (xs ys : List Ava) → AllByRecursion (λ (p : Ava). IsNamed p.0) xs → AllByRecursion (λ (p : Ava). IsNamed p.0) ys → AllByRecursion (λ (p : Ava). IsNamed p.0) (xs ++ ys)
  both_named [] ys h g = g
  both_named (x ∷ xs) ys h g = (h.0, both_named xs ys h.1 g)

  values_named : (t : ℕ) (vs : List (List ℕ)) → IsNamed t → AllByRecursion (λ (p : Ava). IsNamed p.0) (map (λ v. (t, v)) vs)
  values_named t [] h = tt
  values_named t (v ∷ vs) h = (h, values_named t vs h)

  all_named : (attrs : Attributes) → AllByRecursion (λ (a : Attribute). IsNamed a.0) attrs → AllByRecursion (λ (p : Ava). IsNamed p.0) (avas_in attrs)
  all_named [] h = tt
  all_named (a ∷ attrs) h = both_named (attribute_avas a) (avas_in attrs) (values_named a.0 a.1 h.0) (all_named attrs h.1)

  -- where the lines of attributes are added, they give these attributes
  pub added_lines : (attrs out : Attributes) → AllByRecursion (λ (a : Attribute). IsNamed a.0) attrs → HaveValues attrs → IsDistinct nat_eq (keys_of attrs) → add_lines Content types [] (lines_of types attrs) ≡ Ok out → out ≡ attrs
  added_lines attrs out named some apart e =
      lines_pushed (avas_in attrs) [] out (all_named attrs named) (ap (λ (ls : List Attr). add_lines Content types [] ls) (all_lines types attrs) ∙ e)
      ∙ pushed_from attrs [] some (none_types attrs) apart
