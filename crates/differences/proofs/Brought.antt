-- An entry that is added without the attributes that users can't change.
use Rattle.std.proofs.Common.{◌≡◌, ℕ, Bool, true, false, cond, not, List, [], ◌∷◌, ◌++◌, map, Option, Some, None, Result, Ok, Err, ◌⊎◌, inl, inr, refl, sym, ap, subst, ◌∙◌}
use Rattle.std.specs.Prelude.{nat_eq, nat_le, ◌&&◌, ◌||◌, unwrap_or}
use Rattle.std.specs.List.{AllByRecursion, IsDistinct, list_all, filter}
use Rattle.std.specs.Map.{lookup, keys_of}
use Rattle.std.specs.FinMap as finite
use Rattle.std.proofs.lemmas.Bool.{eqb-true, and_parts, and_right, lt-leb}
use Rattle.std.proofs.lemmas.Cmp.{nat_eq_equiv}
use Rattle.std.proofs.lemmas.Map.{lookup-none}
use Rattle.ldif.specs.Attrs.{Attr}
use Rattle.ldif.specs.declared.record.Mode.TheVariants as modes
use Rattle.values.specs.declared.types.AttributeType.{AttributeType}
use Rattle.values.specs.Types.{type_of, type_at, name_of, is_known}
use Rattle.paths.specs.Paths.{RdnKey, Path, parent_of, is_root}
use Rattle.base.specs.Answers.{◌>>=◌}
use Rattle.schema.specs.declared.code.Code.{Code}
use Rattle.schema.specs.declared.code.Code.TheVariants.{EntryAlreadyExists, NoSuchObject, ObjectClassViolation, ConstraintViolation, AdminLimitExceeded, InvalidAttributeSyntax}
use Rattle.schema.specs.Values.{is_valid_at}
use Rattle.schema.specs.Rdns.{Ava, TypedRdn}
use Rattle.schema.specs.GoodRdns.{IsRdn, type_in}
use Rattle.schema.specs.Conf.{Conf, located, path_of}
use Rattle.entries.specs.Entries.{Attribute, Attributes, EntryContent, values_of, has_equal, push_value, typed_value, line_value, put_value, add_lines, with_ava, with_rdn, has_its_classes, is_single, are_single, IsAttribute, attribute_lines, lines_of}
use Rattle.entries.proofs.Pushed.{IsThere}
use Rattle.entries.proofs.Rebuilt.{own_lines}
use Rattle.tree.specs.Directories.{Entries}
use Rattle.tree.specs.Changes.{Change, Put}
use Rattle.schema.specs.Conf.{own_rdn}
use Rattle.tree.specs.Adds.{with_entry, entry_of, add_at, add, MayCome}
use Rattle.tree.proofs.Adding.{parted, parent_is}
use Rattle.differences.specs.EntryChanges.{Values, is_fixed_at, users, fixed}
use Rattle.differences.proofs.Turned.{IsUsers, IsFresh}
use Rattle.differences.proofs.Parted.{values_users, users_good, single_users, types_kept, classes_parted}

abbrev values_in : Option Values → Values
values_in o = unwrap_or o []

filter_append : {X : Type 0} (q : X → Bool) (xs ys : List X) → filter q (xs ++ ys) ≡ filter q xs ++ filter q ys
filter_append q [] ys = refl
filter_append q (x ∷ xs) ys = by (q x) (filter_append q xs ys)
  where
    by : (b : Bool) → filter q (xs ++ ys) ≡ filter q xs ++ filter q ys → cond b (x ∷ filter q (xs ++ ys)) (filter q (xs ++ ys)) ≡ cond b (x ∷ filter q xs) (filter q xs) ++ filter q ys
    by true is = ap (λ zs. x ∷ zs) is
    by false is = is

-- ---- lines

module _ (types : List AttributeType) (names : (t : ℕ) → is_known types t ≡ true → type_of types (name_of types t) ≡ Some t) where
  -- lines that a change may have as well as an entry that is loaded
  abbrev IsOpen : Attr → Type 0
  IsOpen l = line_value (modes.Changes false) types l ≡ line_value modes.Content types l

  lines_same : (ls : List Attr) (attrs : Attributes) → AllByRecursion IsOpen ls → add_lines (modes.Changes false) types attrs ls ≡ add_lines modes.Content types attrs ls
  unfolding add_lines
  lines_same [] attrs h = refl
  lines_same (l ∷ ls) attrs h =
      ap (λ (r : Result Ava Code). (r >>= put_value types attrs) >>= λ more. add_lines (modes.Changes false) types more ls) h.0
      ∙ by (line_value modes.Content types l >>= put_value types attrs) (λ z. lines_same ls z h.1)
    where
      by : (r : Result Attributes Code) → ((z : Attributes) → add_lines (modes.Changes false) types z ls ≡ add_lines modes.Content types z ls)
          → (r >>= λ more. add_lines (modes.Changes false) types more ls) ≡ (r >>= λ more. add_lines modes.Content types more ls)
      by (Ok z) rest = rest z
      by (Err c) rest = refl

  values_open : (t : ℕ) (vs : Values) → is_known types t ≡ true → (type_at types t).is_fixed ≡ false → AllByRecursion IsOpen (attribute_lines types (t, vs))
  values_open t [] known free = tt
  values_open t (v ∷ vs) known free = (
    ap (typed_value (modes.Changes false) types v) (names t known)
        ∙ ap (λ b. cond b (Err ConstraintViolation) (cond (is_valid_at types t v) (Ok (t, v)) (Err InvalidAttributeSyntax))) free
        ∙ sym (ap (typed_value modes.Content types v) (names t known)),
    values_open t vs known free,
  )

  both_open : (xs ys : List Attr) → AllByRecursion IsOpen xs → AllByRecursion IsOpen ys → AllByRecursion IsOpen (xs ++ ys)
  both_open [] ys h g = g
  both_open (x ∷ xs) ys h g = (h.0, both_open xs ys h.1 g)

  all_open : (attrs : Attributes) → AllByRecursion (IsUsers types) attrs → AllByRecursion IsOpen (lines_of types attrs)
  unfolding lines_of
  all_open [] h = tt
  all_open (a ∷ more) h = both_open (attribute_lines types a) (lines_of types more) (values_open a.0 a.1 h.0.good.known h.0.free) (all_open more h.1)

  all_good : (attrs : Attributes) → AllByRecursion (IsUsers types) attrs → AllByRecursion (IsAttribute types) attrs
  all_good [] h = tt
  all_good (a ∷ more) h = (h.0.good, all_good more h.1)

  lines_come : (attrs : Attributes) → AllByRecursion (IsUsers types) attrs → IsDistinct nat_eq (keys_of attrs) → add_lines (modes.Changes false) types [] (lines_of types attrs) ≡ Ok attrs
  lines_come attrs h apart = lines_same (lines_of types attrs) [] (all_open attrs h) ∙ own_lines types names attrs (all_good attrs h) apart

-- ---- the values of the RDN

push_new : (t : ℕ) (done : Attributes) (v : List ℕ) → IsFresh t done → push_value done t v ≡ done ++ (t, v ∷ []) ∷ []
unfolding push_value
push_new t [] v h = refl
push_new t (a ∷ done) v h =
    ap (λ b. cond b ((a.0, a.1 ++ v ∷ []) ∷ done) (a ∷ push_value done t v)) h.0
    ∙ ap (λ (x : Attributes). a ∷ x) (push_new t done v h.1)

fresh_push : (t : ℕ) (done : Attributes) (a : Attribute) → IsFresh t done → nat_eq t a.0 ≡ false → IsFresh t (done ++ a ∷ [])
fresh_push t [] a h g = (g, tt)
fresh_push t (b ∷ done) a h g = (h.0, fresh_push t done a h.1 g)

lookup_push : (t : ℕ) (done : Attributes) (a : Attribute) → nat_eq t a.0 ≡ false → lookup (nat_eq t) (done ++ a ∷ []) ≡ lookup (nat_eq t) done
lookup_push t [] a h = ap (λ b. cond b (Some a.1) None) h
lookup_push t (b ∷ done) a h = ap (cond (nat_eq t b.0) (Some b.1)) (lookup_push t done a h)

single_push : (types : List AttributeType) (done : Attributes) (t : ℕ) (v : List ℕ) → list_all (is_single types) done ≡ true → list_all (is_single types) (done ++ (t, v ∷ []) ∷ []) ≡ true
single_push types [] t v h = by ((type_at types t).single_value)
  where
    by : (b : Bool) → ((not b || nat_le 1 1) && true) ≡ true
    by true = refl
    by false = refl
single_push types (a ∷ done) t v h = let k = and_parts (is_single types a) (list_all (is_single types) done) h in λ i. k.0 i && single_push types done t v k.1 i

module _ (types : List AttributeType) where
  -- it is there, or comes as the first of a type that users can't change
  abbrev Comes : Attributes → Ava → Type 0
  Comes attrs p = (((type_at types p.0).is_fixed ≡ true) × IsFresh p.0 attrs) ⊎ IsThere types attrs p

  pub record HasCome (before after : Attributes) : Type 0 where
    pub users : users types after ≡ users types before
    pub single : list_all (is_single types) after ≡ true

  still_comes : (attrs : Attributes) (a : Attribute) (ps : TypedRdn) → AllByRecursion (λ k. nat_eq a.0 k ≡ false) (map type_in ps) → AllByRecursion (Comes attrs) ps → AllByRecursion (Comes (attrs ++ a ∷ [])) ps
  still_comes attrs a [] h g = tt
  still_comes attrs a (p ∷ ps) h g =
      let other : nat_eq p.0 a.0 ≡ false = nat_eq_equiv.symm p.0 a.0 ∙ h.0 in (
        elim g.0 as (λ k. Comes (attrs ++ a ∷ []) p) [
          | inl k ↦ inl (k.0, fresh_push p.0 attrs a k.1 other)
          | inr k ↦ inr (ap (λ (o : Option Values). has_equal types p.0 p.1 (values_in o)) (lookup_push p.0 attrs a other) ∙ k)
        ],
        still_comes attrs a ps h.1 g.1,
      )

  rdn_comes : (ps : TypedRdn) (attrs : Attributes) → list_all (is_single types) attrs ≡ true → IsDistinct nat_eq (map type_in ps) → AllByRecursion (Comes attrs) ps → HasCome attrs (with_rdn types ps attrs)
  unfolding with_rdn IsDistinct
  rdn_comes [] attrs single apart h = record { users = refl; single = single }
  rdn_comes (p ∷ ps) attrs single apart h =
      let next : Attributes = attrs ++ (p.0, p.1 ∷ []) ∷ [] in
      by h.0 (rdn_comes ps attrs single apart.1 h.1) (rdn_comes ps next (single_push types attrs p.0 p.1 single) apart.1 (still_comes attrs (p.0, p.1 ∷ []) ps apart.0 h.1))
    where
      by : Comes attrs p → HasCome attrs (with_rdn types ps attrs) → HasCome (attrs ++ (p.0, p.1 ∷ []) ∷ []) (with_rdn types ps (attrs ++ (p.0, p.1 ∷ []) ∷ [])) → HasCome attrs (with_rdn types ps (with_ava types p attrs))
      by (inr there) here new = subst (λ (x : Attributes). HasCome attrs (with_rdn types ps x)) (sym (ap (λ b. cond b attrs (push_value attrs p.0 p.1)) there)) here
      by (inl k) here new =
          let none : has_equal types p.0 p.1 (values_of attrs p.0) ≡ false = ap (λ (o : Option Values). has_equal types p.0 p.1 (values_in o)) (lookup-none (nat_eq p.0) attrs k.1) in
          let is : with_ava types p attrs ≡ attrs ++ (p.0, p.1 ∷ []) ∷ [] = ap (λ b. cond b attrs (push_value attrs p.0 p.1)) none ∙ push_new p.0 attrs p.1 k.1 in
          subst (λ (x : Attributes). HasCome attrs (with_rdn types ps x)) (sym is) (record {
            users = new.users ∙ filter_append (λ a. not (is_fixed_at types a)) attrs ((p.0, p.1 ∷ []) ∷ []) ∙ ap (λ b. users types attrs ++ cond (not b) ((p.0, p.1 ∷ []) ∷ []) []) k.0 ∙ append_none (users types attrs);
            single = new.single;
          })
        where
          append_none : (xs : Attributes) → xs ++ [] ≡ xs
          append_none [] = refl
          append_none (x ∷ xs) = ap (λ (y : Attributes). x ∷ y) (append_none xs)

  none_left : (t : ℕ) → (type_at types t).is_fixed ≡ true → (attrs : Attributes) → AllByRecursion (IsUsers types) attrs → IsFresh t attrs
  none_left t bound [] h = tt
  none_left t bound (a ∷ more) h = (by (nat_eq t a.0) refl, none_left t bound more h.1)
    where
      by : (b : Bool) → nat_eq t a.0 ≡ b → b ≡ false
      by true e = absurd (let k = sym (ap (λ k. (type_at types k).is_fixed) (eqb-true t a.0 e)) ∙ bound in let l = sym k ∙ h.0.free in cc)
      by false e = refl

  comes_all : (attrs : Attributes) → AllByRecursion (IsAttribute types) attrs → (ps : TypedRdn) → AllByRecursion (IsThere types attrs) ps → AllByRecursion (Comes (users types attrs)) ps
  comes_all attrs good [] h = tt
  comes_all attrs good (p ∷ ps) h = (by ((type_at types p.0).is_fixed) refl, comes_all attrs good ps h.1)
    where
      by : (b : Bool) → (type_at types p.0).is_fixed ≡ b → Comes (users types attrs) p
      by true e = inl (e, none_left p.0 e (users types attrs) (users_good types attrs good))
      by false e = inr (ap (has_equal types p.0 p.1) (values_users types p.0 attrs e) ∙ h.0)

  users_again : (xs : Attributes) → AllByRecursion (IsUsers types) xs → users types xs ≡ xs
  users_again [] h = refl
  users_again (a ∷ xs) h = ap (λ b. cond (not b) (a ∷ users types xs) (users types xs)) h.0.free ∙ ap (λ (y : Attributes). a ∷ y) (users_again xs h.1)

-- ---- an entry

has_parent : (m : Entries) (p : Path) → ((q : Path) (s : RdnKey) → p ≡ q ++ s ∷ [] → finite.contains_key m q ≡ true) → (not (is_root p) && not (finite.contains_key m (parent_of p))) ≡ false
has_parent m p h = elim (parted p) [
  | inl e ↦ ap (λ (x : Path). not (is_root x) && not (finite.contains_key m (parent_of x))) e
  | inr k ↦ and_right (not (is_root p)) (not (finite.contains_key m (parent_of p)))
      (ap (λ (x : Path). not (finite.contains_key m x)) (ap parent_of k.2 ∙ parent_is k.0 k.1) ∙ ap not (h k.0 k.1 k.2))
]

-- what comes of it: its attributes that users can change, and the values of its RDN
abbrev pub brought : List AttributeType → EntryContent → EntryContent
brought types e = record { rdn = e.rdn; attrs = with_rdn types e.rdn (users types e.attrs) }

module _ (conf : Conf) (names : (t : ℕ) → is_known conf.types t ≡ true → type_of conf.types (name_of conf.types t) ≡ Some t) (e : EntryContent)
    (good : AllByRecursion (IsAttribute conf.types) e.attrs) (apart : IsDistinct nat_eq (keys_of e.attrs)) (single : are_single conf.types e.attrs ≡ true)
    (rdn : IsRdn conf.types e.rdn) (there : AllByRecursion (IsThere conf.types e.attrs) e.rdn) where
  abbrev only : Attributes
  only = users conf.types e.attrs

  has_come : HasCome conf.types only (brought conf.types e).attrs
  has_come = rdn_comes conf.types e.rdn only (single_users conf.types e.attrs single) rdn.types_apart (comes_all conf.types e.attrs good e.rdn there)

  pub users_come : users conf.types (brought conf.types e).attrs ≡ users conf.types e.attrs
  users_come = has_come.users ∙ users_again conf.types only (users_good conf.types e.attrs good)

  pub brings : (m : Entries) (p : Path) (dn : List ℕ) (rs : List TypedRdn) → located conf dn ≡ Ok rs → path_of conf rs ≡ p → own_rdn conf rs ≡ e.rdn → MayCome m p
      → has_its_classes conf (users conf.types e.attrs ++ fixed conf.types (brought conf.types e).attrs) ≡ true
      → add conf (modes.Changes false) m dn (lines_of conf.types only) ≡ Ok (Put p (brought conf.types e))
  unfolding add add_at
  brings m p dn rs found at own may classes =
      let lines : List Attr = lines_of conf.types only in
      let x : EntryContent = brought conf.types e in
      let fits : has_its_classes conf x.attrs ≡ true = classes_parted conf x.attrs ∙ ap (λ (us : Attributes). has_its_classes conf (us ++ fixed conf.types x.attrs)) users_come ∙ classes in
      let ones : are_single conf.types x.attrs ≡ true = has_come.single in
      let room = lt-leb 4294967295 (finite.len m) may.room in
      let with_attrs : Attributes → Result Change Code = λ attrs. with_entry conf m p (entry_of conf e.rdn attrs) in
      let done : Result Change Code = add_lines (modes.Changes false) conf.types [] lines >>= with_attrs in
      ap (λ (r : Result (List TypedRdn) Code). r >>= λ ys. add_at conf (modes.Changes false) m (path_of conf ys) (own_rdn conf ys) lines) found
      ∙ (λ i. add_at conf (modes.Changes false) m (at i) (own i) lines)
      ∙ ap (λ b. cond b (Err EntryAlreadyExists) (cond (not (is_root p) && not (finite.contains_key m (parent_of p))) (Err NoSuchObject) done)) may.new
      ∙ ap (λ b. cond b (Err NoSuchObject) done) (has_parent m p may.parent)
      ∙ ap (λ (r : Result Attributes Code). r >>= with_attrs) (lines_come conf.types names only (users_good conf.types e.attrs good) (types_kept conf.types (λ a. not (is_fixed_at conf.types a)) e.attrs apart))
      ∙ (λ i. cond (not (fits i)) (Err ObjectClassViolation) (cond (not (ones i)) (Err ConstraintViolation) (cond (room i) (Err AdminLimitExceeded) (Ok (Put p x)))))
