-- Texts that are told apart by the byte that ends each.
use Rattle.std.proofs.Common.{◌≡◌, ℕ, ◌+◌, ◌/◌, ◌%◌, ◌<◌, Bool, true, false, cond, not, ◌&&◌, List, [], ◌∷◌, ◌++◌, map, length, refl, sym, ap, ◌∙◌, append_assoc, arith}
use Rattle.std.specs.Prelude.{◌==◌, ◌||◌, nat_lt, nat_le}
use Rattle.std.proofs.lemmas.Bool.{eqb-true}
use Rattle.std.proofs.lemmas.Bool.Decides.{nat_tests}
use Rattle.std.specs.BTreeSet.{insert_key}
use Rattle.std.specs.Cmp.Lexicographic.{slice_cmp}
use Rattle.std.specs.Ordering.{nat_cmp, match_ordering}
use Rattle.std.specs.declared.cmp.Ordering.{Ordering}
use Rattle.std.specs.declared.cmp.Ordering.TheVariants.{Less, Equal, Greater}
use Rattle.std.specs.List.{list_all, AllByRecursion}
use Rattle.std.proofs.lemmas.List.Folds.{list_all-append}
use Rattle.base.specs.Ascii.{line_feed}
use Rattle.dn.specs.Writing.{digit, is_nothing, needs_pair, stands, written, text_from, value_text}
use Rattle.dn.specs.Names.{Ava, Rdn, Name}
use Rattle.sorting.specs.NormalNames.{ended_by, normal_ava, with_texts, normal_rdn, name_text}

abbrev pub is_no_feed : ℕ → Bool
is_no_feed b = not (b == line_feed)

-- no byte of it ends a text
abbrev pub is_free : List ℕ → Bool
is_free text = list_all is_no_feed text

pub left : (a b : Bool) → (a && b) ≡ true → a ≡ true
left true b h = refl
left false b h = h

pub right : (a b : Bool) → (a && b) ≡ true → b ≡ true
right true b h = h
right false b h = let no : false ≡ true = h in cc

neither : (a b : Bool) → (a || b) ≡ false → a ≡ false
neither false b h = refl
neither true b h = h

both : (a b : Bool) → a ≡ true → b ≡ true → (a && b) ≡ true
both a b g h = rw (g, h) refl

abbrev head_of : List ℕ → ℕ
head_of [] = 0
head_of (x ∷ xs) = x

abbrev tail_of : List ℕ → List ℕ
tail_of [] = []
tail_of (x ∷ xs) = xs

-- ---- a text and what follows it

no_feed : (b : ℕ) → line_feed ≡ b → is_no_feed b ≡ true → ⊥
no_feed b is free = let h : is_no_feed line_feed ≡ true = ap is_no_feed is ∙ free in let no : false ≡ true = h in cc

parted : (xs ys rest more : List ℕ) → is_free xs ≡ true → is_free ys ≡ true → xs ++ line_feed ∷ rest ≡ ys ++ line_feed ∷ more → (xs ≡ ys) × (rest ≡ more)
parted [] [] rest more a b e = (refl, ap tail_of e)
parted [] (y ∷ ys) rest more a b e = absurd (no_feed y (ap head_of e) (left (is_no_feed y) (is_free ys) b))
parted (x ∷ xs) [] rest more a b e = absurd (no_feed x (sym (ap head_of e)) (left (is_no_feed x) (is_free xs) a))
parted (x ∷ xs) (y ∷ ys) rest more a b e =
    let more_of = parted xs ys rest more (right (is_no_feed x) (is_free xs) a) (right (is_no_feed y) (is_free ys) b) (ap tail_of e) in
    ((λ i. ap head_of e i ∷ more_of.0 i), more_of.1)

abbrev pub AreFree : List (List ℕ) → Type 0
AreFree texts = AllByRecursion (λ text. is_free text ≡ true) texts

some_end : (x : List ℕ) (rest : List ℕ) → [] ≡ x ++ line_feed ∷ rest → ⊥
some_end [] rest e = let long = ap (λ (l : List ℕ). length l) e in omega (arith, long)
some_end (y ∷ ys) rest e = let long = ap (λ (l : List ℕ). length l) e in omega (arith, long)

-- a name's normal form tells its RDNs
pub same_rdns : (xs ys : List (List ℕ)) → AreFree xs → AreFree ys → name_text xs ≡ name_text ys → xs ≡ ys
same_rdns [] [] a b e = refl
same_rdns [] (y ∷ ys) a b e = absurd (some_end y (name_text ys) (e ∙ append_assoc y (line_feed ∷ []) (name_text ys)))
same_rdns (x ∷ xs) [] a b e = absurd (some_end x (name_text xs) (sym e ∙ append_assoc x (line_feed ∷ []) (name_text xs)))
same_rdns (x ∷ xs) (y ∷ ys) a b e =
    let parts = parted x y (name_text xs) (name_text ys) a.0 b.0 (sym (append_assoc x (line_feed ∷ []) (name_text xs)) ∙ e ∙ append_assoc y (line_feed ∷ []) (name_text ys)) in
    (λ i. parts.0 i ∷ same_rdns xs ys a.1 b.1 parts.1 i)

-- ---- normal forms are such texts

free_append : (xs ys : List ℕ) → is_free xs ≡ true → is_free ys ≡ true → is_free (xs ++ ys) ≡ true
free_append xs ys a b = list_all-append is_no_feed xs ys ∙ both (is_free xs) (is_free ys) a b

-- a number that isn't the feed's
other : (b : ℕ) → 10 < b → is_no_feed b ≡ true
other b h = by (b == 10) refl
  where
    by : (t : Bool) → (b == 10) ≡ t → not t ≡ true
    by false e = refl
    by true e = let same : b ≡ 10 = eqb-true b 10 e in absurd (omega (arith, h, same))

free_digit : (d : ℕ) → is_no_feed (digit d) ≡ true
free_digit d = by (nat_lt d 10) refl
  where
    by : (t : Bool) → nat_lt d 10 ≡ t → is_no_feed (cond t (d + 48) (d + 55)) ≡ true
    by true e = other (d + 48) (omega arith)
    by false e = other (d + 55) (omega arith)

free_written : (first last : Bool) (b : ℕ) → is_free (written first last b) ≡ true
unfolding written
free_written first last b = by (needs_pair b) refl
  where
    by : (t : Bool) → needs_pair b ≡ t → is_free (cond t (92 ∷ digit (b / 16) ∷ digit (b % 16) ∷ []) (cond (stands first last b) (b ∷ []) (92 ∷ b ∷ []))) ≡ true
    by true e = both true _ refl (both _ _ (free_digit (b / 16)) (both _ _ (free_digit (b % 16)) refl))
    by false e = alone (stands first last b)
      where
        here : is_no_feed b ≡ true
        here = let low = neither (nat_lt b 32) (nat_le 127 b) e in other b (grind (arith, nat_tests))

        alone : (t : Bool) → is_free (cond t (b ∷ []) (92 ∷ b ∷ [])) ≡ true
        alone true = both _ _ here refl
        alone false = both true _ refl (both _ _ here refl)

free_from : (first : Bool) (bs : List ℕ) → is_free (text_from first bs) ≡ true
unfolding text_from
free_from first [] = refl
free_from first (b ∷ bs) = free_append (written first (is_nothing bs) b) (text_from false bs) (free_written first (is_nothing bs) b) (free_from false bs)

free_ava : (p : Ava) → is_free (normal_ava p) ≡ true
free_ava p = free_append (value_text _) (61 ∷ value_text _) (free_from true _) (free_from true _)

free_avas : (so_far texts : List (List ℕ)) → AreFree so_far → AreFree texts → AreFree (with_texts so_far texts)
unfolding with_texts
free_avas so_far [] a b = a
free_avas so_far (text ∷ texts) a b = free_avas (insert_key (slice_cmp nat_cmp) so_far text) texts (inserted so_far a) b.1
  where
    inserted : (ks : List (List ℕ)) → AreFree ks → AreFree (insert_key (slice_cmp nat_cmp) ks text)
    inserted [] free = (b.0, tt)
    inserted (x ∷ xs) free = by (slice_cmp nat_cmp text x) (inserted xs free.1)
      where
        by : (o : Ordering) → AreFree (insert_key (slice_cmp nat_cmp) xs text) → AreFree (match_ordering o (text ∷ x ∷ xs) (x ∷ xs) (x ∷ insert_key (slice_cmp nat_cmp) xs text))
        by Less h = (b.0, free)
        by Equal h = free
        by Greater h = (free.0, h)

free_avas_of : (r : Rdn) → AreFree (map normal_ava r)
free_avas_of [] = tt
free_avas_of (p ∷ ps) = (free_ava p, free_avas_of ps)

free_ended : (end : ℕ) (texts : List (List ℕ)) → is_no_feed end ≡ true → AreFree texts → is_free (ended_by end texts) ≡ true
free_ended end [] h a = refl
free_ended end (text ∷ texts) h a = free_append (text ++ end ∷ []) (ended_by end texts) (free_append text (end ∷ []) a.0 (both _ _ h refl)) (free_ended end texts h a.1)

pub free_rdn : (r : Rdn) → is_free (normal_rdn r) ≡ true
free_rdn r = free_ended 43 (with_texts [] (map normal_ava r)) refl (free_avas [] (map normal_ava r) tt (free_avas_of r))

pub free_rdns : (n : Name) → AreFree (map normal_rdn n)
free_rdns [] = tt
free_rdns (r ∷ rs) = (free_rdn r, free_rdns rs)
