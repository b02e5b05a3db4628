-- How far a text can be read as a name: what is due behind a beginning of it, and which beginnings go on to a name.
use Rattle.std.proofs.Common.{◌≡◌, ℕ, zero, suc, ◌+◌, ◌<◌, ◌≤◌, ◌∙◌, ap, sym, refl, append_assoc, append-nil, subst, inl, inr, ◌⊎◌, true, false, Bool, not, ◌&&◌, ◌||◌, cond, ◌==◌, List, [], ◌∷◌, ◌++◌, length, take, drop, get_or, Option, Some, None, Result, Ok, Err, codes, arith}
use Rattle.std.specs.List.{list_all}
use Rattle.std.proofs.lemmas.Bool.{and_parts}
use Rattle.std.proofs.lemmas.List.{take-append-drop, take-take, take_more, take_all}
use Rattle.std.proofs.lemmas.Bool.Decides.{nat_tests}
use Rattle.base.specs.Ends.{is_space}
use Rattle.dn.specs.declared.faults.NameFaultKind.{NameFaultKind}
use Rattle.dn.specs.declared.faults.NameFaultKind.TheVariants.{EqualsMissing, Escape, NotEscaped, TypeMissing, FormNotSupported}
use Rattle.dn.specs.Names.{Ava, Rdn, Name, is_type_byte, is_type}
use Rattle.dn.specs.NameFaults.{is_equals, is_quote_or_sign, is_special, is_escape, Stops, Comes, IsTyped, IsValued, IsBegun, IsAvaFault, is_separator, AreAvas, IsNameFault}
use Rattle.dn.specs.Spelling.{Octet, may_stand, may_follow, is_hex, IsOctet, AreOctets, begins_well, spaces, SpellsAva, AreJoined, SpellsRdn, Spells}
use Rattle.dn.specs.Reading.{name_of}
use Rattle.dn.proofs.Named.{name_sound}
use Rattle.dn.proofs.TextFaults.{fault_stands}
use Rattle.sentences.specs.NamePlaces.{BeginsName, IsNameLike}
use Rattle.sentences.specs.declared.name_places.Due.{Due}
use Rattle.sentences.specs.declared.name_places.Due.TheVariants as dues
use Rattle.sentences.specs.inner.Dues.{next_due, due_behind}

-- ---- texts one behind the other

pub behind_both : (s : Option Due) (xs ys : List ℕ) → due_behind s (xs ++ ys) ≡ due_behind (due_behind s xs) ys
behind_both None xs ys = refl
behind_both (Some due) [] ys = refl
behind_both (Some due) (x ∷ xs) ys = behind_both (next_due due x) xs ys

-- one more byte
step : (due : Due) (b : ℕ) (s : Option Due) (xs : List ℕ) → next_due due b ≡ s → due_behind (Some due) (b ∷ xs) ≡ due_behind s xs
step due b s xs next = ap (λ x. due_behind x xs) next

-- ---- within a value

pub data InValue (s : Option Due) : Type 0 where
  AtFront : s ≡ Some dues.Value → InValue s
  Within : s ≡ Some dues.RestOfValue → InValue s

in_value : (s t : Option Due) → s ≡ t → InValue t → InValue s
in_value s t same at = subst InValue (sym same) at

separates : (b : ℕ) → is_separator b ≡ true → (next_due dues.Value b ≡ Some dues.Type) × (next_due dues.RestOfValue b ≡ Some dues.Type)
separates b is = (grind (arith, nat_tests), grind (arith, nat_tests))

-- a separator ends it
separated : (s : Option Due) (sep : ℕ) (rest : List ℕ) → is_separator sep ≡ true → InValue s → due_behind s (sep ∷ rest) ≡ due_behind (Some dues.Type) rest
separated s sep rest is (AtFront at) = ap (λ x. due_behind x (sep ∷ rest)) at ∙ step dues.Value sep _ rest (separates sep is).0
separated s sep rest is (Within at) = ap (λ x. due_behind x (sep ∷ rest)) at ∙ step dues.RestOfValue sep _ rest (separates sep is).1

-- ---- spaces and types

type_spaces : (n : ℕ) (ys : List ℕ) → due_behind (Some dues.Type) (spaces n ++ ys) ≡ due_behind (Some dues.Type) ys
type_spaces zero ys = refl
type_spaces (suc n) ys = type_spaces n ys

value_spaces : (n : ℕ) (ys : List ℕ) → due_behind (Some dues.Value) (spaces n ++ ys) ≡ due_behind (Some dues.Value) ys
value_spaces zero ys = refl
value_spaces (suc n) ys = value_spaces n ys

rest_spaces : (n : ℕ) (ys : List ℕ) → due_behind (Some dues.RestOfValue) (spaces n ++ ys) ≡ due_behind (Some dues.RestOfValue) ys
rest_spaces zero ys = refl
rest_spaces (suc n) ys = rest_spaces n ys

equals_spaces : (n : ℕ) (ys : List ℕ) → due_behind (Some dues.Equals) (spaces n ++ ys) ≡ due_behind (Some dues.Equals) ys
equals_spaces zero ys = refl
equals_spaces (suc n) ys = equals_spaces n ys

type_byte : (b : ℕ) → is_type_byte b ≡ true → (next_due dues.Type b ≡ Some dues.RestOfType) × (next_due dues.RestOfType b ≡ Some dues.RestOfType)
type_byte b is = (grind (arith, nat_tests), grind (arith, nat_tests))

rest_of_type : (ty ys : List ℕ) → list_all is_type_byte ty ≡ true → due_behind (Some dues.RestOfType) (ty ++ ys) ≡ due_behind (Some dues.RestOfType) ys
rest_of_type [] ys are = refl
rest_of_type (b ∷ bs) ys are =
    let p : (is_type_byte b ≡ true) × (list_all is_type_byte bs ≡ true) = and_parts _ _ are in
    step dues.RestOfType b _ (bs ++ ys) (type_byte b p.0).1 ∙ rest_of_type bs ys p.1

a_type : (ty ys : List ℕ) → is_type ty ≡ true → due_behind (Some dues.Type) (ty ++ ys) ≡ due_behind (Some dues.RestOfType) ys
a_type [] ys is = cc
a_type (b ∷ bs) ys is =
    let p : (is_type_byte b ≡ true) × (list_all is_type_byte bs ≡ true) =
    and_parts (is_type_byte b) (list_all is_type_byte bs) (and_parts (not (length (b ∷ bs) == 0)) (list_all is_type_byte (b ∷ bs)) is).1 in
    step dues.Type b _ (bs ++ ys) (type_byte b p.0).0 ∙ rest_of_type bs ys p.1

an_equals : (n : ℕ) (ys : List ℕ) → due_behind (Some dues.RestOfType) (spaces n ++ 61 ∷ ys) ≡ due_behind (Some dues.Value) ys
an_equals zero ys = refl
an_equals (suc n) ys = equals_spaces n (61 ∷ ys)

-- ---- octets

stands_within : (b : ℕ) → may_stand b ≡ true → next_due dues.RestOfValue b ≡ Some dues.RestOfValue
stands_within b is = grind (arith, nat_tests)

stands_first : (b : ℕ) → may_stand b ≡ true → not (b == 32 || b == 35) ≡ true → next_due dues.Value b ≡ Some dues.RestOfValue
stands_first b is first = grind (arith, nat_tests)

follows : (b : ℕ) → may_follow b ≡ true → next_due dues.Escaped b ≡ Some dues.RestOfValue
follows b is = rw is refl

no_follower : (b : ℕ) → is_hex b ≡ true → may_follow b ≡ false
no_follower b is = grind (arith, nat_tests)

digits : (b : ℕ) → is_hex b ≡ true → (next_due dues.Escaped b ≡ Some dues.Digit) × (next_due dues.Digit b ≡ Some dues.RestOfValue)
digits b is = (rw (no_follower b is, is) refl, rw is refl)

within_octet : (o : Octet) (front ys : List ℕ) → IsOctet o front → due_behind (Some dues.RestOfValue) (front ++ ys) ≡ due_behind (Some dues.RestOfValue) ys
within_octet o [] ys is = absurd is
within_octet o (b ∷ []) ys is = step dues.RestOfValue b _ ys (stands_within b is.0)
within_octet o (s ∷ b ∷ []) ys is = step dues.RestOfValue s _ (b ∷ ys) (ap (next_due dues.RestOfValue) is.0) ∙ step dues.Escaped b _ ys (follows b is.1)
within_octet o (s ∷ b ∷ c ∷ []) ys is =
    step dues.RestOfValue s _ (b ∷ c ∷ ys) (ap (next_due dues.RestOfValue) is.0) ∙ step dues.Escaped b _ (c ∷ ys) (digits b is.1).0
    ∙ step dues.Digit c _ ys (digits c is.2).1
within_octet o (s ∷ b ∷ c ∷ d ∷ bs) ys is = absurd is

first_octet : (o : Octet) (os : List Octet) (front ys : List ℕ) → IsOctet o front → begins_well (o ∷ os) ≡ true
    → due_behind (Some dues.Value) (front ++ ys) ≡ due_behind (Some dues.RestOfValue) ys
first_octet o os [] ys is well = absurd is
first_octet o os (b ∷ []) ys is well =
    let w : not (b == 32 || b == 35) ≡ true = subst (λ (x : Octet). not (x.raw && (x.byte == 32 || x.byte == 35)) ≡ true) is.1 well in
    step dues.Value b _ ys (stands_first b is.0 w)
first_octet o os (s ∷ b ∷ []) ys is well = step dues.Value s _ (b ∷ ys) (ap (next_due dues.Value) is.0) ∙ step dues.Escaped b _ ys (follows b is.1)
first_octet o os (s ∷ b ∷ c ∷ []) ys is well =
    step dues.Value s _ (b ∷ c ∷ ys) (ap (next_due dues.Value) is.0) ∙ step dues.Escaped b _ (c ∷ ys) (digits b is.1).0
    ∙ step dues.Digit c _ ys (digits c is.2).1
first_octet o os (s ∷ b ∷ c ∷ d ∷ bs) ys is well = absurd is

within_octets : (os : List Octet) (body ys : List ℕ) → AreOctets os body → due_behind (Some dues.RestOfValue) (body ++ ys) ≡ due_behind (Some dues.RestOfValue) ys
within_octets [] body ys are = rw are refl
within_octets (o ∷ os) body ys (front, rest, is, parts, are) =
    rw (parts, append_assoc front rest ys) (within_octet o front (rest ++ ys) is ∙ within_octets os rest ys are)

-- a value: nothing of it, or some
some_octets : (os : List Octet) (body ys : List ℕ) → AreOctets os body → begins_well os ≡ true
    → (due_behind (Some dues.Value) (body ++ ys) ≡ due_behind (Some dues.Value) ys) ⊎ (due_behind (Some dues.Value) (body ++ ys) ≡ due_behind (Some dues.RestOfValue) ys)
some_octets [] body ys are well = inl (rw are refl)
some_octets (o ∷ os) body ys (front, rest, is, parts, are) well =
    inr (rw (parts, append_assoc front rest ys) (first_octet o os front (rest ++ ys) is well ∙ within_octets os rest ys are))

-- ---- AVAs and names

-- from a type on, as far as the value
valued : (before between after : ℕ) (ty ys : List ℕ) → is_type ty ≡ true
    → due_behind (Some dues.Type) (spaces before ++ (ty ++ (spaces between ++ (61 ∷ (spaces after ++ ys))))) ≡ due_behind (Some dues.Value) ys
valued before between after ty ys is =
    type_spaces before _ ∙ a_type ty _ is ∙ an_equals between _ ∙ value_spaces after ys

value_end : (n : ℕ) (s : Option Due) → (s ≡ due_behind (Some dues.Value) (spaces n)) ⊎ (s ≡ due_behind (Some dues.RestOfValue) (spaces n)) → InValue s
value_end n s (inl is) = AtFront (is ∙ ap (due_behind (Some dues.Value)) (sym (append-nil (spaces n))) ∙ value_spaces n [])
value_end n s (inr is) = Within (is ∙ ap (due_behind (Some dues.RestOfValue)) (sym (append-nil (spaces n))) ∙ rest_spaces n [])

onto : (s t u v : Option Due) → s ≡ t → (t ≡ u) ⊎ (t ≡ v) → (s ≡ u) ⊎ (s ≡ v)
onto s t u v same (inl is) = inl (same ∙ is)
onto s t u v same (inr is) = inr (same ∙ is)

an_ava : (text : List ℕ) (p : Ava) → SpellsAva text p → InValue (due_behind (Some dues.Type) text)
an_ava text p h =
    let front : due_behind (Some dues.Type) text ≡ due_behind (Some dues.Value) (h.body ++ spaces h.behind) =
    ap (due_behind (Some dues.Type)) h.text_is ∙ valued h.before h.between h.after p.0 (h.body ++ spaces h.behind) h.type_is in
    value_end h.behind _ (onto _ _ _ _ front (some_octets h.octets h.body (spaces h.behind) h.body_is h.begins))

-- behind an AVA, or what is spelled so, comes a separator
next_one : (front rest : List ℕ) (sep : ℕ) → is_separator sep ≡ true → InValue (due_behind (Some dues.Type) front)
    → due_behind (Some dues.Type) (front ++ sep ∷ rest) ≡ due_behind (Some dues.Type) rest
next_one front rest sep is at = behind_both (Some dues.Type) front (sep ∷ rest) ∙ separated _ sep rest is at

joined : {X : Type 0} (P : List ℕ → X → Type 0) (sep : ℕ) → is_separator sep ≡ true
    → ((text : List ℕ) (x : X) → P text x → InValue (due_behind (Some dues.Type) text))
    → (text : List ℕ) (xs : List X) → AreJoined P sep text xs → InValue (due_behind (Some dues.Type) text)
joined P sep is each text [] h = absurd h
joined P sep is each text (x ∷ []) h = each text x h
joined P sep is each text (x ∷ y ∷ ys) (front, rest, one, parts, more) =
    in_value _ _ (ap (due_behind (Some dues.Type)) parts ∙ next_one front rest sep is (each front x one)) (joined P sep is each rest (y ∷ ys) more)

an_rdn : (text : List ℕ) (r : Rdn) → SpellsRdn text r → InValue (due_behind (Some dues.Type) text)
an_rdn = joined SpellsAva 43 refl an_ava

some_due : (s : Option Due) → InValue s → s ≡ None → ⊥
some_due s (AtFront at) none = let e : Some dues.Value ≡ None = sym at ∙ none in cc
some_due s (Within at) none = let e : Some dues.RestOfValue ≡ None = sym at ∙ none in cc

-- something is due behind each name
pub a_name : (text : List ℕ) (n : Name) → Spells text n → due_behind (Some dues.Type) text ≡ None → ⊥
a_name text [] (n, is) none =
    let e : Some dues.Type ≡ None =
    sym (ap (due_behind (Some dues.Type)) (is ∙ sym (append-nil (spaces n))) ∙ type_spaces n []) ∙ none in
    cc
a_name text (r ∷ rs) h none = some_due _ (joined SpellsRdn 44 refl an_rdn text (r ∷ rs) h) none

-- ---- where reading stops, no value is read to its end

abbrev is_in : Option Due → Bool
is_in None = false
is_in (Some dues.Type) = false
is_in (Some dues.RestOfType) = false
is_in (Some dues.Equals) = false
is_in (Some dues.Value) = true
is_in (Some dues.RestOfValue) = true
is_in (Some dues.Escaped) = false
is_in (Some dues.Digit) = false

stops : (due : Due) (b : ℕ) (bs : List ℕ) → next_due due b ≡ None → is_in (due_behind (Some due) (b ∷ bs)) ≡ false
stops due b bs none = ap is_in (step due b None bs none)

no_type_next : (b : ℕ) → is_space b ≡ false → is_equals b ≡ false → is_type_byte b ≡ false → (next_due dues.Type b ≡ None) × (next_due dues.RestOfType b ≡ None)
no_type_next b p q r = (grind (arith, nat_tests), grind (arith, nat_tests))

no_equals_next : (b : ℕ) → is_space b ≡ false → is_equals b ≡ false → next_due dues.Equals b ≡ None
no_equals_next b p q = grind (arith, nat_tests)

no_equals : (rest : List ℕ) → Stops is_space rest → Stops is_equals rest → is_in (due_behind (Some dues.Equals) rest) ≡ false
no_equals [] p q = refl
no_equals (b ∷ bs) p q = stops dues.Equals b bs (no_equals_next b p q)

-- neither more of a type, nor an equals sign
equals_missing : (ty rest : List ℕ) (between : ℕ) → Stops is_space (ty ++ (spaces between ++ rest)) → list_all is_type_byte ty ≡ true
    → Stops is_type_byte (spaces between ++ rest) → Stops is_space rest → Stops is_equals rest
    → is_in (due_behind (Some dues.Type) (ty ++ (spaces between ++ rest))) ≡ false
equals_missing [] [] zero f t l p q = refl
equals_missing [] (b ∷ bs) zero f t l p q = stops dues.Type b bs (no_type_next b p q l).0
equals_missing [] rest (suc k) f t l p q = let e : true ≡ false = f in cc
equals_missing (b ∷ bs) rest between f t l p q =
    let are : (is_type_byte b ≡ true) × (list_all is_type_byte bs ≡ true) = and_parts (is_type_byte b) (list_all is_type_byte bs) t in
    ap is_in (step dues.Type b _ (bs ++ (spaces between ++ rest)) (type_byte b are.0).0 ∙ rest_of_type bs (spaces between ++ rest) are.1)
    ∙ behind_type rest between l p q where
      behind_type : (rest : List ℕ) (between : ℕ) → Stops is_type_byte (spaces between ++ rest) → Stops is_space rest → Stops is_equals rest
          → is_in (due_behind (Some dues.RestOfType) (spaces between ++ rest)) ≡ false
      behind_type [] zero l p q = refl
      behind_type (c ∷ cs) zero l p q = stops dues.RestOfType c cs (no_type_next c p q l).1
      behind_type rest (suc k) l p q = ap is_in (equals_spaces k rest) ∙ no_equals rest p q

type_missing : (rest : List ℕ) (between : ℕ) → Stops is_space (spaces between ++ 61 ∷ rest) → is_in (due_behind (Some dues.Type) (spaces between ++ 61 ∷ rest)) ≡ false
type_missing rest zero f = refl
type_missing rest (suc k) f = let e : true ≡ false = f in cc

no_type_first : (text ty rest : List ℕ) → IsTyped text ty rest → Stops is_equals rest → is_in (due_behind (Some dues.Type) text) ≡ false
no_type_first text ty rest t q =
    let whole : t.from ≡ ty ++ (spaces t.between ++ rest) = t.from_is ∙ ap (λ a. ty ++ a) t.after_is in
    ap is_in (ap (due_behind (Some dues.Type)) t.text_is ∙ type_spaces t.before t.from ∙ ap (due_behind (Some dues.Type)) whole)
    ∙ equals_missing ty rest t.between (subst (Stops is_space) whole t.no_space) t.type_is (subst (Stops is_type_byte) t.after_is t.longest) t.no_space_more q

no_type_at_all : (text rest : List ℕ) → IsTyped text [] (61 ∷ rest) → is_in (due_behind (Some dues.Type) text) ≡ false
no_type_at_all text rest t =
    let whole : t.from ≡ spaces t.between ++ 61 ∷ rest = t.from_is ∙ t.after_is in
    ap is_in (ap (due_behind (Some dues.Type)) t.text_is ∙ type_spaces t.before t.from ∙ ap (due_behind (Some dues.Type)) whole)
    ∙ type_missing rest t.between (subst (Stops is_space) whole t.no_space)

as_far_as_value : (text value : List ℕ) → IsValued text value → due_behind (Some dues.Type) text ≡ due_behind (Some dues.Value) value
as_far_as_value text value v =
    ap (due_behind (Some dues.Type)) (v.typed.text_is ∙ ap (λ f. spaces v.typed.before ++ f)
    (v.typed.from_is ∙ ap (λ a. v.ty ++ a) (v.typed.after_is ∙ ap (λ r. spaces v.typed.between ++ (61 ∷ r)) v.rest_is)))
    ∙ valued v.typed.before v.typed.between v.after v.ty value v.type_is

raw_first : (b : ℕ) → is_space b ≡ false → is_quote_or_sign b ≡ false → not (b == 32 || b == 35) ≡ true
raw_first b p q = grind (arith, nat_tests)

well_begun : (o : Octet) (os : List Octet) (front more : List ℕ) → IsOctet o front → Stops is_space (front ++ more) → Stops is_quote_or_sign (front ++ more)
    → begins_well (o ∷ os) ≡ true
well_begun o os [] more is p q = absurd is
well_begun o os (b ∷ []) more is p q = ap (λ (x : Octet). not (x.raw && (x.byte == 32 || x.byte == 35))) is.1 ∙ raw_first b p q
well_begun o os (s ∷ b ∷ []) more is p q = ap (λ (x : Octet). not (x.raw && (x.byte == 32 || x.byte == 35))) is.2
well_begun o os (s ∷ b ∷ c ∷ []) more is p q = ap (λ (x : Octet). not (x.raw && (x.byte == 32 || x.byte == 35))) is.3
well_begun o os (s ∷ b ∷ c ∷ d ∷ bs) more is p q = absurd is

begins_so : (os : List Octet) (body bad : List ℕ) → AreOctets os body → Stops is_space (body ++ bad) → Stops is_quote_or_sign (body ++ bad) → begins_well os ≡ true
begins_so [] body bad are p q = refl
begins_so (o ∷ os) body bad (front, rest, is, parts, are) p q =
    let whole : body ++ bad ≡ front ++ (rest ++ bad) = ap (λ b. b ++ bad) parts ∙ append_assoc front rest bad in
    well_begun o os front (rest ++ bad) is (subst (Stops is_space) whole p) (subst (Stops is_quote_or_sign) whole q)

within_begun : (text bad : List ℕ) → IsBegun text bad
    → (due_behind (Some dues.Type) text ≡ due_behind (Some dues.Value) bad) ⊎ (due_behind (Some dues.Type) text ≡ due_behind (Some dues.RestOfValue) bad)
within_begun text bad b =
    onto _ _ _ _ (as_far_as_value text b.value b.valued ∙ ap (due_behind (Some dues.Value)) b.value_is)
    (some_octets b.octets b.body bad b.body_is
    (begins_so b.octets b.body bad b.body_is (subst (Stops is_space) b.value_is b.valued.no_space) (subst (Stops is_quote_or_sign) b.value_is b.form)))

either : (s t u : Option Due) → (s ≡ t) ⊎ (s ≡ u) → is_in t ≡ false → is_in u ≡ false → is_in s ≡ false
either s t u (inl is) p q = ap is_in is ∙ p
either s t u (inr is) p q = ap is_in is ∙ q

no_digits : (t u v : Bool) (c : ℕ) (bs : List ℕ) → is_hex c ≡ v → (t || (u && v)) ≡ false
    → is_in (due_behind (cond t (Some dues.RestOfValue) (cond u (Some dues.Digit) None)) (c ∷ bs)) ≡ false
no_digits true u v c bs is h = cc
no_digits false true true c bs is h = cc
no_digits false true false c bs is h = ap (λ t. is_in (due_behind (cond t (Some dues.RestOfValue) None) bs)) is
no_digits false false v c bs is h = refl

no_byte : (t u : Bool) → t ≡ false → is_in (due_behind (cond t (Some dues.RestOfValue) (cond u (Some dues.Digit) None)) []) ≡ false
no_byte true u h = cc
no_byte false true h = refl
no_byte false false h = refl

no_escape : (rest : List ℕ) → is_escape rest ≡ false → is_in (due_behind (Some dues.Escaped) rest) ≡ false
no_escape [] h = refl
no_escape (b ∷ []) h = no_byte (may_follow b) (is_hex b) h
no_escape (b ∷ c ∷ bs) h = no_digits (may_follow b) (is_hex b) (is_hex c) c bs refl h

special : (b : ℕ) → is_special b ≡ true → (next_due dues.Value b ≡ None) × (next_due dues.RestOfValue b ≡ None)
special b is = (grind (arith, nat_tests), grind (arith, nat_tests))

other_form : (b : ℕ) → is_quote_or_sign b ≡ true → next_due dues.Value b ≡ None
other_form b is = grind (arith, nat_tests)

no_form : (value : List ℕ) → Comes is_quote_or_sign value → is_in (due_behind (Some dues.Value) value) ≡ false
no_form [] h = absurd h
no_form (b ∷ bs) h = stops dues.Value b bs (other_form b h)

faulty_ava : (text : List ℕ) (f : NameFaultKind) → IsAvaFault text f → is_in (due_behind (Some dues.Type) text) ≡ false
faulty_ava text EqualsMissing (ty, rest, typed, q) = no_type_first text ty rest typed q
faulty_ava text TypeMissing (rest, typed) = no_type_at_all text rest typed
faulty_ava text Escape (rest, begun, none) = either _ _ _ (within_begun text (92 ∷ rest) begun) (no_escape rest none) (no_escape rest none)
faulty_ava text NotEscaped (b, rest, begun, is) =
    either _ _ _ (within_begun text (b ∷ rest) begun) (stops dues.Value b rest (special b is).0) (stops dues.RestOfValue b rest (special b is).1)
faulty_ava text FormNotSupported (inl (value, v, comes)) = ap is_in (as_far_as_value text value v) ∙ no_form value comes
faulty_ava text FormNotSupported (inr (rest, begun)) = either _ _ _ (within_begun text (59 ∷ rest) begun) refl refl

whole_avas : (ps : List Ava) (text ys : List ℕ) → AreAvas ps text → due_behind (Some dues.Type) (text ++ ys) ≡ due_behind (Some dues.Type) ys
whole_avas [] text ys is = ap (λ t. due_behind (Some dues.Type) (t ++ ys)) is
whole_avas (p ∷ ps) text ys (ava, sep, rest, spelled, is, parts, more) =
    ap (λ t. due_behind (Some dues.Type) (t ++ ys)) parts ∙ ap (due_behind (Some dues.Type)) (append_assoc ava (sep ∷ rest) ys)
    ∙ next_one ava (rest ++ ys) sep is (an_ava ava p spelled) ∙ whole_avas ps rest ys more

faulty : (text : List ℕ) (f : NameFaultKind) → IsNameFault text f → is_in (due_behind (Some dues.Type) text) ≡ false
faulty text f h =
    ap is_in (ap (due_behind (Some dues.Type)) h.text_is ∙ whole_avas h.avas h.front h.rest h.front_is) ∙ faulty_ava h.rest f h.rest_is

-- ---- what goes on to a name

-- the shortest end of a name
abbrev end_for : Due → List ℕ
end_for dues.Type = codes "a="
end_for dues.RestOfType = codes "="
end_for dues.Equals = codes "="
end_for dues.Value = []
end_for dues.RestOfValue = []
end_for dues.Escaped = codes ","
end_for dues.Digit = codes "0"

ends_in : (due : Due) → is_in (due_behind (Some due) (end_for due)) ≡ true
ends_in dues.Type = refl
ends_in dues.RestOfType = refl
ends_in dues.Equals = refl
ends_in dues.Value = refl
ends_in dues.RestOfValue = refl
ends_in dues.Escaped = refl
ends_in dues.Digit = refl

reads : (text : List ℕ) (r : Result Name NameFaultKind) → name_of text ≡ r → is_in (due_behind (Some dues.Type) text) ≡ true → (n : Name) × Spells text n
reads text (Ok n) is ended = (n, name_sound text n is)
reads text (Err f) is ended = let e : false ≡ true = sym (faulty text f (fault_stands text f is)) ∙ ended in cc

begins_name : (text : List ℕ) (due : Due) → due_behind (Some dues.Type) text ≡ Some due → BeginsName text
begins_name text due at =
    let ended : is_in (due_behind (Some dues.Type) (text ++ end_for due)) ≡ true =
    ap is_in (behind_both (Some dues.Type) text (end_for due) ∙ ap (λ s. due_behind s (end_for due)) at) ∙ ends_in due in
    let found = reads (text ++ end_for due) _ refl ended in
    (end_for due, found.0, found.1)

begins_none : (text rest : List ℕ) → due_behind (Some dues.Type) text ≡ None → BeginsName (text ++ rest) → ⊥
begins_none text rest none (more, n, spelled) =
    a_name ((text ++ rest) ++ more) n spelled
    (ap (due_behind (Some dues.Type)) (append_assoc text rest more) ∙ behind_both (Some dues.Type) text (rest ++ more) ∙ ap (λ s. due_behind s (rest ++ more)) none)

-- ---- so far and no further

one_more : (text : List ℕ) (i : ℕ) → i < length text → due_behind (Some dues.Type) (take (i + 1) text) ≡ due_behind (due_behind (Some dues.Type) (take i text)) (get_or text i 0 ∷ [])
one_more text i more = ap (due_behind (Some dues.Type)) (take_more text i 0 more) ∙ behind_both (Some dues.Type) (take i text) (get_or text i 0 ∷ [])

pub due_next : (text : List ℕ) (i b : ℕ) (due next : Due) → i < length text → b ≡ get_or text i 0 → due_behind (Some dues.Type) (take i text) ≡ Some due
    → next_due due b ≡ Some next → due_behind (Some dues.Type) (take (i + 1) text) ≡ Some next
due_next text i b due next more is at goes =
    one_more text i more ∙ ap (λ s. due_behind s (get_or text i 0 ∷ [])) at ∙ step due (get_or text i 0) _ [] (ap (next_due due) (sym is) ∙ goes)

pub like_so_far : (text : List ℕ) (i b : ℕ) (due : Due) → i < length text → b ≡ get_or text i 0 → due_behind (Some dues.Type) (take i text) ≡ Some due
    → next_due due b ≡ None → IsNameLike text i
like_so_far text i b due more is at none =
    let gone : due_behind (Some dues.Type) (take (i + 1) text) ≡ None =
    one_more text i more ∙ ap (λ s. due_behind s (get_or text i 0 ∷ [])) at ∙ step due (get_or text i 0) _ [] (ap (next_due due) (sym is) ∙ none) in
    record {
      within = omega (arith, more);
      begins = begins_name (take i text) due at;
      longest = λ k longer fits begins.
          let parts : take k text ≡ take (i + 1) text ++ drop (i + 1) (take k text) =
          sym (take-append-drop (i + 1) (take k text)) ∙ ap (λ t. t ++ drop (i + 1) (take k text)) (take-take (i + 1) k text (omega (arith, longer))) in
          begins_none (take (i + 1) text) (drop (i + 1) (take k text)) gone (subst BeginsName parts begins);
    }

pub like_to_the_end : (text : List ℕ) (i : ℕ) (due : Due) → length text ≤ i → due_behind (Some dues.Type) (take i text) ≡ Some due → IsNameLike text (length text)
like_to_the_end text i due all at = record {
  within = omega arith;
  begins = begins_name (take (length text) text) due (ap (due_behind (Some dues.Type)) (take_all (length text) text (omega arith) ∙ sym (take_all i text all)) ∙ at);
  longest = λ k longer fits begins. omega (arith, longer, fits);
}
