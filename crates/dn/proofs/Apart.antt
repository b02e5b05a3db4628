-- A text that is cut at a comma is read as its two parts are.
use Rattle.std.proofs.Common.{◌≡◌, ℕ, Bool, true, false, cond, not, ◌&&◌, List, [], ◌∷◌, ◌++◌, length, Result, Ok, Err, refl, sym, ap, ◌∙◌, ◌<◌, arith}
use Rattle.std.specs.Prelude.{◌==◌}
use Rattle.std.specs.List.{list_all, onto_first}
use Rattle.std.proofs.lemmas.Bool.{and_parts, not-true, eqb-true}
use Rattle.base.specs.Answers.{◌>>=◌, each}
use Rattle.base.proofs.Bound.{bind_ok, same_ok}
use Rattle.base.specs.Ascii.{comma, backslash}
use Rattle.base.specs.Ends.{is_space, ends_with}
use Rattle.dn.specs.declared.faults.NameFaultKind.{NameFaultKind}
use Rattle.dn.specs.Names.{Name}
use Rattle.dn.specs.Reading.{escapes, cut_raw, rdn_of, name_of}
use Rattle.dn.specs.Apart.{may_end, read_apart}

-- ---- cut at separators

-- whether the byte behind a text is escaped
after : Bool → List ℕ → Bool
after escaped [] = escaped
after escaped (b ∷ bs) = after (escapes escaped b) bs

record Some (texts : List (List ℕ)) : Type 0 where
  first : List ℕ
  others : List (List ℕ)
  is : texts ≡ first ∷ others

some_first : (b : ℕ) (texts : List (List ℕ)) → Some texts → Some (onto_first b texts)
some_first b texts k = record { first = b ∷ k.first; others = k.others; is = ap (onto_first b) k.is }

-- a text is cut into one piece or more
cut_some : (escaped : Bool) (text : List ℕ) → Some (cut_raw comma escaped text)
unfolding cut_raw
cut_some escaped [] = record { first = []; others = []; is = refl }
cut_some escaped (b ∷ bs) = elim (not escaped && b == comma) as (λ t. Some (cond t ([] ∷ cut_raw comma false bs) (onto_first b (cut_raw comma (escapes escaped b) bs)))) [
  | true ↦ record { first = []; others = cut_raw comma false bs; is = refl }
  | false ↦ some_first b (cut_raw comma (escapes escaped b) bs) (cut_some (escapes escaped b) bs)
]

onto_more : (b : ℕ) (xs ys : List (List ℕ)) → Some xs → onto_first b (xs ++ ys) ≡ onto_first b xs ++ ys
onto_more b xs ys k = ap (λ (zs : List (List ℕ)). onto_first b (zs ++ ys)) k.is ∙ sym (ap (λ (zs : List (List ℕ)). onto_first b zs ++ ys) k.is)

comma_escapes : (escaped : Bool) (b : ℕ) → (not escaped && b == comma) ≡ true → escapes escaped b ≡ false
comma_escapes escaped b h =
    let both = and_parts (not escaped) (b == comma) h in
    ap (λ (x : ℕ). escapes escaped x) (same b both.1) ∙ none escaped
  where
    same : (x : ℕ) → (x == comma) ≡ true → x ≡ comma
    same x k = eqb-true x comma k

    none : (e : Bool) → escapes e comma ≡ false
    none true = refl
    none false = refl

cut_apart : (escaped : Bool) (front rest : List ℕ) → after escaped front ≡ false → cut_raw comma escaped (front ++ comma ∷ rest) ≡ cut_raw comma escaped front ++ cut_raw comma false rest
unfolding cut_raw after
cut_apart true [] rest h = absurd cc
cut_apart false [] rest h = refl
cut_apart escaped (b ∷ bs) rest h = by (not escaped && b == comma) refl (cut_apart false bs rest) (cut_apart (escapes escaped b) bs rest h)
  where
    by : (t : Bool) → (not escaped && b == comma) ≡ t
        → (after false bs ≡ false → cut_raw comma false (bs ++ comma ∷ rest) ≡ cut_raw comma false bs ++ cut_raw comma false rest)
        → cut_raw comma (escapes escaped b) (bs ++ comma ∷ rest) ≡ cut_raw comma (escapes escaped b) bs ++ cut_raw comma false rest
        → cond t ([] ∷ cut_raw comma false (bs ++ comma ∷ rest)) (onto_first b (cut_raw comma (escapes escaped b) (bs ++ comma ∷ rest)))
        ≡ cond t ([] ∷ cut_raw comma false bs) (onto_first b (cut_raw comma (escapes escaped b) bs)) ++ cut_raw comma false rest
    by true is here later = ap (λ (xs : List (List ℕ)). [] ∷ xs) (here (ap (λ e. after e bs) (sym (comma_escapes escaped b is)) ∙ h))
    by false is here later = ap (onto_first b) later ∙ onto_more b (cut_raw comma (escapes escaped b) bs) (cut_raw comma false rest) (cut_some (escapes escaped b) bs)

-- ---- no backslash at the end

last_open : (escaped : Bool) (b : ℕ) (bs : List ℕ) → ends_with backslash (b ∷ bs) ≡ false → after escaped (b ∷ bs) ≡ false
unfolding after
last_open escaped b [] h = ap (λ (x : Bool). not escaped && x) h ∙ none (not escaped)
  where
    none : (e : Bool) → (e && false) ≡ false
    none true = refl
    none false = refl
last_open escaped b (c ∷ cs) h = last_open (escapes escaped b) c cs h

-- ---- names

module _ {X Y F : Type 0} (f : X → Result Y F) where
  abbrev joined : Result (List Y) F → Result (List Y) F → Result (List Y) F
  joined r s = r >>= λ a. s >>= λ b. Ok (a ++ b)

  same : (s : Result (List Y) F) → s ≡ joined (Ok []) s
  same (Ok b) = refl
  same (Err fault) = refl

  one_more : (r : Result Y F) (more others : Result (List Y) F) → (r >>= λ y. joined more others >>= λ ys. Ok (y ∷ ys)) ≡ joined (r >>= λ y. more >>= λ ys. Ok (y ∷ ys)) others
  one_more (Err fault) more others = refl
  one_more (Ok y) (Err fault) others = refl
  one_more (Ok y) (Ok ys) (Err fault) = refl
  one_more (Ok y) (Ok ys) (Ok zs) = refl

  each_apart : (xs ys : List X) → each f (xs ++ ys) ≡ joined (each f xs) (each f ys)
  unfolding each
  each_apart [] ys = same (each f ys)
  each_apart (x ∷ xs) ys = ap (λ (r : Result (List Y) F). f x >>= λ y. r >>= λ zs. Ok (y ∷ zs)) (each_apart xs ys) ∙ one_more (f x) (each f xs) (each f ys)

no_spaces : (b : ℕ) (bs : List ℕ) → is_space b ≡ false → list_all is_space (b ∷ bs) ≡ false
no_spaces b bs h = ap (λ t. t && list_all is_space bs) h

pub apart : (front end : List ℕ) → may_end front ≡ true → list_all is_space end ≡ false → name_of (front ++ comma ∷ end) ≡ read_apart front end
unfolding name_of
apart [] end may some = absurd cc
apart (b ∷ bs) end may some =
    let parts = and_parts (not (length (b ∷ bs) == 0) && not (is_space b)) (not (ends_with backslash (b ∷ bs))) may in
    let first = not-true (is_space b) (and_parts (not (length (b ∷ bs) == 0)) (not (is_space b)) parts.0).1 in
    let ends_open = last_open false b bs (not-true (ends_with backslash (b ∷ bs)) parts.1) in
    let whole : Name → Result Name NameFaultKind = λ n. Ok n in
    ap (λ t. cond t (whole []) (each rdn_of (cut_raw comma false (b ∷ bs ++ comma ∷ end)))) (no_spaces b (bs ++ comma ∷ end) first)
    ∙ ap (each rdn_of) (cut_apart false (b ∷ bs) end ends_open)
    ∙ each_apart rdn_of (cut_raw comma false (b ∷ bs)) (cut_raw comma false end)
    ∙ sym (λ i. joined rdn_of (cond (no_spaces b bs first i) (whole []) (each rdn_of (cut_raw comma false (b ∷ bs)))) (cond (some i) (whole []) (each rdn_of (cut_raw comma false end))))

each_some : {X Y F : Type 0} (f : X → Result Y F) (x : X) (xs : List X) (ys : List Y) → each f (x ∷ xs) ≡ Ok ys → 0 < length ys
unfolding each
each_some f x xs ys is =
    let one = bind_ok (f x) _ ys is in
    let more = bind_ok (each f xs) _ ys one.2 in
    let same : one.0 ∷ more.0 ≡ ys = same_ok _ _ more.2 in
    omega (arith, ap length same)

-- what stands before the comma is an RDN or more
pub front_some : (front : List ℕ) → may_end front ≡ true → (n : Name) → name_of front ≡ Ok n → 0 < length n
unfolding name_of
front_some [] may n is = absurd cc
front_some (b ∷ bs) may n is =
    let parts = and_parts (not (length (b ∷ bs) == 0) && not (is_space b)) (not (ends_with backslash (b ∷ bs))) may in
    let first = not-true (is_space b) (and_parts (not (length (b ∷ bs) == 0)) (not (is_space b)) parts.0).1 in
    let cut = cut_some false (b ∷ bs) in
    let whole : Name → Result Name NameFaultKind = λ m. Ok m in
    let read = sym (ap (λ t. cond t (whole []) (each rdn_of (cut_raw comma false (b ∷ bs)))) (no_spaces b bs first) ∙ ap (each rdn_of) cut.is) ∙ is in
    each_some rdn_of cut.first cut.others n read
