-- Flaws of lines that are found.
use Rattle.std.proofs.Common.{◌≡◌, ℕ, zero, suc, ◌<◌, ◌≤◌, Bool, true, false, cond, ◌||◌, List, [], ◌∷◌, ◌++◌, length, fold, take, drop, get_or, Option, Some, None, refl, sym, ap, subst, ◌∙◌}
use Rattle.std.specs.Prelude.{◌&&◌, nat_eq, is_some, IfNone}
use Rattle.std.specs.declared.cmp.Ordering.{Ordering}
use Rattle.std.specs.declared.cmp.Ordering.TheVariants.{Less, Equal, Greater}
use Rattle.std.specs.Ordering.{nat_cmp, ordering_then, is_eq}
use Rattle.std.specs.Cmp.Lexicographic.{slice_cmp}
use Rattle.std.specs.BTreeMap.{BTreeMap, get}
use Rattle.std.specs.List.{list_any, Any, slice_get}
use Rattle.std.specs.Str.{bytes_eq}
use Rattle.std.proofs.lemmas.Bool.{eqb-true}
use Rattle.std.proofs.lemmas.List.Folds.{list_any-append}
use Rattle.std.proofs.lemmas.Cmp.{nat_eq_equiv}
use Rattle.std.proofs.lemmas.Map.Text.{is_eq-slice_cmp}
use Rattle.ldif.specs.Attrs.{Attr}
use Rattle.ldif.specs.declared.record.Mode.{Mode}
use Rattle.ldif.specs.declared.record.Record.{Record}
use Rattle.paths.specs.Paths.{Pair, pair_cmp}
use Rattle.values.specs.declared.types.AttributeType.{AttributeType}
use Rattle.values.specs.Types.{type_of}
use Rattle.schema.specs.Conf.{Conf}
use Rattle.schema.specs.Subtypes.{passes}
use Rattle.schema.specs.Values.{is_valid_at, norm_at, are_equal}
use Rattle.entries.specs.Entries.{Attributes, push_value, is_barred}
use Rattle.entries.specs.StoredEntries.{EntryAttribute, attributes_of, IsMade}
use Rattle.entries.proofs.StoredLemmas.{made_pushed, raws_pushed}
use Rattle.tree.specs.Directories.{Entries}
use Rattle.reasons.specs.declared.reason.Reason.{Reason}
use Rattle.reasons.specs.declared.reason.Reason.TheVariants as reasons
use Rattle.reasons.specs.declared.reason.LineReason.{LineReason}
use Rattle.reasons.specs.declared.reason.LineReason.TheVariants as line_reasons
use Rattle.reasons.specs.LineFlaws.{UnknownType, UsersCantChange, BadSyntax, EqualValue, IsLine, SaysEqual, put_typed, put_line}
use Rattle.reasons.specs.Asked.{lines_of_record}
use Rattle.reasons.specs.Flaws.{Flaw, Line, HasFlaw, line_checks}
use Rattle.reasons.specs.inner.Found.{FindsFirst, Finds, Leaves}
use Rattle.reasons.specs.inner.Lines.{checks_of_line, says_norm, IsSaidBy, ArePlaced, TypedValue, IsTyped, AreTyped, has_norm_of, IsPlaceIn, put_typed_value}
use Rattle.reasons.proofs.Elements.{is_none, only_some, both}
use Rattle.reasons.proofs.Finding.{leaves_behind, leaves_before, element, split_at, none_left, at_place}
use Rattle.reasons.proofs.Lines.{get_seam, says, earlier_told, is_it}
use Rattle.reasons.proofs.RecordFound.{Found, found_here, found_later, found_none, differ}

-- ---- the lines that were gone through

pub take_one_more : {X : Type 0} (xs : List X) (i : ℕ) (x : X) → slice_get xs i ≡ Some x → take (suc i) xs ≡ take i xs ++ x ∷ []
take_one_more [] i x there = absurd cc
take_one_more {X} (y ∷ xs) zero x there = ap (λ (z : X). z ∷ []) (same y x there)
  where
    same : (a b : X) → ◌≡◌ {A = Option X} (Some a) (Some b) → a ≡ b
    same a b h = cc
take_one_more {X} (y ∷ xs) (suc i) x there = ap (λ (zs : List X). y ∷ zs) (take_one_more xs i x there)

get_front : {X : Type 0} (xs ys : List X) (i : ℕ) (x : X) → slice_get xs i ≡ Some x → slice_get (xs ++ ys) i ≡ Some x
get_front [] ys i x there = absurd cc
get_front (y ∷ xs) ys zero x there = there
get_front (y ∷ xs) ys (suc i) x there = get_front xs ys i x there

then_ties : (o r : Ordering) → is_eq (ordering_then o r) ≡ (is_eq o && is_eq r)
then_ties Less r = refl
then_ties Equal r = refl
then_ties Greater r = refl

then_equal : (o : Ordering) → is_eq (ordering_then o Equal) ≡ is_eq o
then_equal Less = refl
then_equal Equal = refl
then_equal Greater = refl

and_true : (b : Bool) → (b && true) ≡ b
and_true true = refl
and_true false = refl

numbers_tie : (t u : ℕ) → is_eq (nat_cmp t u) ≡ nat_eq t u
numbers_tie t u = sym (then_equal (nat_cmp t u)) ∙ is_eq-slice_cmp (t ∷ []) (u ∷ []) ∙ and_true (nat_eq t u)

pair_tie : (t u : ℕ) (n m : List ℕ) → is_eq (pair_cmp (t, n) (u, m)) ≡ (nat_eq t u && bytes_eq n m)
pair_tie t u n m = then_ties (nat_cmp t u) (slice_cmp nat_cmp n m) ∙ (λ i. numbers_tie t u i && is_eq-slice_cmp n m i)

module _ (types : List AttributeType) where
  pub placed_none : (places : BTreeMap Pair ℕ) → ((q : Pair) → get pair_cmp places q ≡ None) → ArePlaced types [] places
  placed_none places none = record { each = λ t norm. subst (IsSaidBy types [] t norm) (sym (none (t, norm))) refl }

  module _ (front : List Attr) (l : Attr) (t : ℕ) (known : type_of types l.name ≡ Some t) where
    abbrev norm : List ℕ
    norm = norm_at types t l.value

    says_by_tie : (u : ℕ) (n : List ℕ) → (b : Bool) → (nat_eq t u && bytes_eq norm n) ≡ b → says_norm types u n l ≡ b
    says_by_tie u n b is = ap (λ (o : Option ℕ). passes (nat_eq u) o && bytes_eq (norm_at types u l.value) n) known ∙ by (nat_eq t u) refl is
      where
        turned : nat_eq u t ≡ nat_eq t u
        turned = nat_eq_equiv.symm u t

        by : (c : Bool) → nat_eq t u ≡ c → (c && bytes_eq norm n) ≡ b → (nat_eq u t && bytes_eq (norm_at types u l.value) n) ≡ b
        by true same e =
            let one : t ≡ u = eqb-true t u same in
            ap (λ (a : Bool). a && bytes_eq (norm_at types u l.value) n) (turned ∙ same) ∙ ap (λ (w : ℕ). bytes_eq (norm_at types w l.value) n) (sym one) ∙ e
        by false same e = ap (λ (a : Bool). a && bytes_eq (norm_at types u l.value) n) (turned ∙ same) ∙ e

    one_more : (u : ℕ) (n : List ℕ) (o : Option ℕ) → says_norm types u n l ≡ false → IsSaidBy types front u n o → IsSaidBy types (front ++ l ∷ []) u n o
    one_more u n None other none = list_any-append (says_norm types u n) front (l ∷ []) ∙ ap (λ (b : Bool). b || (says_norm types u n l || false)) none ∙ ap (λ (b : Bool). b || false) other
    one_more u n (Some j) other h = (h.0, get_front front (l ∷ []) j h.0 h.1, h.2)

    pub placed_more : (old new : BTreeMap Pair ℕ) → ArePlaced types front old
        → ((q : Pair) → get pair_cmp new q ≡ cond (is_eq (pair_cmp (t, norm) q)) (Some (length front)) (get pair_cmp old q)) → ArePlaced types (front ++ l ∷ []) new
    placed_more old new placed updates = record {
      each = λ u n.
          subst (IsSaidBy types (front ++ l ∷ []) u n) (sym (updates (u, n)))
          (by u n (is_eq (pair_cmp (t, norm) (u, n))) (sym (pair_tie t u norm n)));
    }
      where
        by : (u : ℕ) (n : List ℕ) (b : Bool) → (nat_eq t u && bytes_eq norm n) ≡ b → IsSaidBy types (front ++ l ∷ []) u n (cond b (Some (length front)) (get pair_cmp old (u, n)))
        by u n true tie = (l, get_seam front l [], says_by_tie u n true tie)
        by u n false tie = one_more u n (get pair_cmp old (u, n)) (says_by_tie u n false tie) (placed.each u n)

-- ---- the values that lines say

module _ (types : List AttributeType) where
  pub typed_more : (ls : List Attr) (xs : List TypedValue) (l : Attr) (x : TypedValue) → AreTyped types ls xs → IsTyped types l x → AreTyped types (ls ++ l ∷ []) (xs ++ x ∷ [])
  typed_more [] [] l x are is = (is, tt)
  typed_more [] (y ∷ xs) l x are is = absurd are
  typed_more (k ∷ ls) [] l x are is = absurd are
  typed_more (k ∷ ls) (y ∷ xs) l x are is = (are.0, typed_more ls xs l x are.1 is)

  pub as_many : (ls : List Attr) (xs : List TypedValue) → AreTyped types ls xs → length xs ≡ length ls
  as_many [] [] are = refl
  as_many [] (x ∷ xs) are = absurd are
  as_many (l ∷ ls) [] are = absurd are
  as_many (l ∷ ls) (x ∷ xs) are = ap (λ (n : ℕ). suc n) (as_many ls xs are.1)

  says_same : (t : ℕ) (n : List ℕ) (l : Attr) (x : TypedValue) → IsTyped types l x → says_norm types t n l ≡ has_norm_of t n x
  says_same t n l x is = ap (λ (o : Option ℕ). passes (nat_eq t) o && bytes_eq (norm_at types t l.value) n) is.type_is ∙ by (nat_eq t x.0) refl
    where
      by : (b : Bool) → nat_eq t x.0 ≡ b → (b && bytes_eq (norm_at types t l.value) n) ≡ (b && bytes_eq x.1.norm n)
      by true same = ap (λ (u : ℕ). bytes_eq (norm_at types u l.value) n) (eqb-true t x.0 same) ∙ ap (λ (m : List ℕ). bytes_eq m n) (sym is.norm_is)
      by false same = refl

  none_says : (t : ℕ) (n : List ℕ) (ls : List Attr) (xs : List TypedValue) → AreTyped types ls xs → list_any (says_norm types t n) ls ≡ list_any (has_norm_of t n) xs
  none_says t n [] [] are = refl
  none_says t n [] (x ∷ xs) are = absurd are
  none_says t n (l ∷ ls) [] are = absurd are
  none_says t n (l ∷ ls) (x ∷ xs) are = λ i. says_same t n l x are.0 i || none_says t n ls xs are.1 i

  line_of : (ls : List Attr) (xs : List TypedValue) (j : ℕ) (x : TypedValue) → AreTyped types ls xs → slice_get xs j ≡ Some x → (l : Attr) × (slice_get ls j ≡ Some l) × IsTyped types l x
  line_of [] [] j x are at = absurd cc
  line_of [] (y ∷ xs) j x are at = absurd are
  line_of (l ∷ ls) [] j x are at = absurd are
  line_of (l ∷ ls) (y ∷ xs) zero x are at = (l, refl, subst (IsTyped types l) (same y x at) are.0)
    where
      same : (a b : TypedValue) → ◌≡◌ {A = Option TypedValue} (Some a) (Some b) → a ≡ b
      same a b h = cc
  line_of (l ∷ ls) (y ∷ xs) (suc j) x are at = line_of ls xs j x are.1 at

  -- where a value is among these, a line says it
  pub said_at : (t : ℕ) (n : List ℕ) (ls : List Attr) (xs : List TypedValue) (o : Option ℕ) → AreTyped types ls xs → IsPlaceIn t n xs o → IsSaidBy types ls t n o
  said_at t n ls xs None are none = none_says t n ls xs are ∙ none
  said_at t n ls xs (Some j) are is = let k = line_of ls xs j is.0 are is.1 in (k.0, k.1, says_same t n k.0 is.0 k.2 ∙ is.2)

  -- the attributes that they make
  pub made_of : (ls : List Attr) (xs : List TypedValue) (es : List EntryAttribute) → AreTyped types ls xs → IsMade types es → IsMade types (fold put_typed_value es xs)
  made_of [] [] es are made = made
  made_of [] (x ∷ xs) es are made = absurd are
  made_of (l ∷ ls) [] es are made = absurd are
  made_of (l ∷ ls) (x ∷ xs) es are made = made_of ls xs (push_value es x.0 x.1) are.1
      (made_pushed types x.0 es x.1 made are.0.known (are.0.norm_is ∙ ap (norm_at types x.0) (sym are.0.raw_is)))

  pub gathered_of : (ls : List Attr) (xs : List TypedValue) (es : List EntryAttribute) → AreTyped types ls xs → attributes_of (fold put_typed_value es xs) ≡ fold (put_line types) (attributes_of es) ls
  gathered_of [] [] es are = refl
  gathered_of [] (x ∷ xs) es are = absurd are
  gathered_of (l ∷ ls) [] es are = absurd are
  gathered_of (l ∷ ls) (x ∷ xs) es are =
      gathered_of ls xs (push_value es x.0 x.1) are.1
      ∙ ap (λ (attrs : Attributes). fold (put_line types) attrs ls)
      (raws_pushed es x.0 x.1 ∙ ap (push_value (attributes_of es) x.0) are.0.raw_is ∙ ap (put_typed (attributes_of es) l.value) (sym are.0.type_is))

-- ---- a line

module _ (conf : Conf) (mode : Mode) (d : Entries) (r : Record) (i : ℕ) (l : Attr) (there : slice_get (lines_of_record r) i ≡ Some l) where
  abbrev HasIt : Flaw → Type 0
  HasIt f = HasFlaw conf mode d r f

  abbrev all : List Attr
  all = lines_of_record r

  abbrev FoundAt : Option Reason → Type 0
  FoundAt found = Found conf mode d r (checks_of_line i) found

  abbrev why : LineReason → Reason
  why reason = reasons.Line i reason

  pub unknown_found : type_of conf.types l.name ≡ None → FoundAt (Some (why line_reasons.UnknownType))
  unknown_found none = found_here conf mode d r (why line_reasons.UnknownType) (Line i UsersCantChange ∷ Line i BadSyntax ∷ Line i EqualValue ∷ []) (l, there, none) tt

  module _ (t : ℕ) (known : type_of conf.types l.name ≡ Some t) where
    -- what is so of the line with this index is so of this one
    of_it : (Q : Attr → ℕ → Type 0) (m : Attr) (u : ℕ) → IsLine conf all i m u → Q m u → Q l t
    of_it Q m u is h =
        let same : m ≡ l = only_some (slice_get all i) m l is.0 there in
        let type_is : type_of conf.types l.name ≡ Some u = ap (λ (n : Attr). type_of conf.types n.name) (sym same) ∙ is.1 in
        subst (Q l) (only_some (type_of conf.types l.name) u t type_is known) (subst (λ (n : Attr). Q n u) same h)

    behind_type : (found : Option Reason) → Found conf mode d r (Line i UsersCantChange ∷ Line i BadSyntax ∷ Line i EqualValue ∷ []) found → FoundAt found
    behind_type found is = found_later conf mode d r (Line i UnknownType) (Line i UsersCantChange ∷ Line i BadSyntax ∷ Line i EqualValue ∷ []) found
        (λ h. is_none (type_of conf.types l.name) t (ap (λ (n : Attr). type_of conf.types n.name) (only_some (slice_get all i) l h.0 there h.1) ∙ h.2) known) is

    pub barred_found : is_barred mode conf.types t ≡ true → FoundAt (Some (why line_reasons.UsersCantChange))
    barred_found is = behind_type (Some (why line_reasons.UsersCantChange)) (found_here conf mode d r (why line_reasons.UsersCantChange) (Line i BadSyntax ∷ Line i EqualValue ∷ []) (l, t, (there, known), is) tt)

    module _ (free : is_barred mode conf.types t ≡ false) where
      behind_bar : (found : Option Reason) → Found conf mode d r (Line i BadSyntax ∷ Line i EqualValue ∷ []) found → FoundAt found
      behind_bar found is = behind_type found (found_later conf mode d r (Line i UsersCantChange) (Line i BadSyntax ∷ Line i EqualValue ∷ []) found
          (λ h. differ (is_barred mode conf.types t) (of_it (λ m u. is_barred mode conf.types u ≡ true) h.0 h.1 h.2 h.3) free) is)

      pub bad_found : is_valid_at conf.types t l.value ≡ false → FoundAt (Some (why line_reasons.BadSyntax))
      bad_found is = behind_bar (Some (why line_reasons.BadSyntax)) (found_here conf mode d r (why line_reasons.BadSyntax) (Line i EqualValue ∷ []) (l, t, (there, known), is) tt)

      module _ (valid : is_valid_at conf.types t l.value ≡ true) where
        behind_syntax : (found : Option Reason) → Found conf mode d r (Line i EqualValue ∷ []) found → FoundAt found
        behind_syntax found is = behind_bar found (found_later conf mode d r (Line i BadSyntax) (Line i EqualValue ∷ []) found
            (λ h. differ (is_valid_at conf.types t l.value) valid (of_it (λ m u. is_valid_at conf.types u m.value ≡ false) h.0 h.1 h.2 h.3)) is)

        abbrev key : List ℕ
        key = norm_at conf.types t l.value

        some_says : (ls : List Attr) (j : ℕ) (other : Attr) → slice_get ls j ≡ Some other → says conf.types t l.value other ≡ true → list_any (says conf.types t l.value) ls ≡ true
        some_says [] j other at is = absurd cc
        some_says (x ∷ ls) zero other at is = ap (λ (b : Bool). b || list_any (says conf.types t l.value) ls) (ap (says conf.types t l.value) (same x other at) ∙ is)
          where
            same : (a b : Attr) → ◌≡◌ {A = Option Attr} (Some a) (Some b) → a ≡ b
            same a b h = cc
        some_says (x ∷ ls) (suc j) other at is = or_true (says conf.types t l.value x) (list_any (says conf.types t l.value) ls) (some_says ls j other at is)
          where
            or_true : (a b : Bool) → b ≡ true → (a || b) ≡ true
            or_true true b h = refl
            or_true false b h = h

        says_told : (other : Attr) → says conf.types t l.value other ≡ true → SaysEqual conf t l.value other
        says_told other is = let k = both (passes (nat_eq t) (type_of conf.types other.name)) (are_equal conf.types t other.value l.value) is in (is_it t (type_of conf.types other.name) k.0, k.1)

        pub equal_found : (j : ℕ) → IsSaidBy conf.types (take i all) t key (Some j) → FoundAt (Some (why (line_reasons.EqualTo j)))
        equal_found j said =
            behind_syntax (Some (why (line_reasons.EqualTo j)))
            (found_here conf mode d r (why (line_reasons.EqualTo j)) [] (l, t, (there, known), (earlier_told conf t l.value (take i all)).0 (some_says (take i all) j said.0 said.1 said.2))
            (l, t, (there, known), said.0, said.1, says_told said.0 said.2))

        pub fine_found : IsSaidBy conf.types (take i all) t key None → FoundAt None
        fine_found none =
            behind_syntax None
            (found_later conf mode d r (Line i EqualValue) [] None
            (λ h. differ (list_any (says conf.types t l.value) (take i all)) ((earlier_told conf t l.value (take i all)).1 (of_it (λ m u. Any (SaysEqual conf u m.value) (take i all)) h.0 h.1 h.2 h.3)) none)
            (found_none conf mode d r))

-- ---- a step of the loop

module _ (conf : Conf) (mode : Mode) (d : Entries) (r : Record) (lines : List Attr) (i : ℕ) (within : i < length lines)
    (left : Leaves (HasFlaw conf mode d r) (line_checks 0 lines) (line_checks i (drop i lines))) where
  these : Leaves (HasFlaw conf mode d r) (line_checks 0 lines) (checks_of_line i ++ line_checks (suc i) (drop (suc i) lines))
  these = subst (λ (ls : List Attr). Leaves (HasFlaw conf mode d r) (line_checks 0 lines) (line_checks i ls)) (let k = element lines i within in split_at lines i k.0 within k.1) left

  pub line_found : (found : Option Reason) → is_some found ≡ true → Finds conf mode d r (checks_of_line i) found → Finds conf mode d r (line_checks 0 lines) found
  line_found None some h = absurd cc
  line_found (Some reason) some h = record { first = leaves_before (HasFlaw conf mode d r) (line_checks 0 lines) (checks_of_line i) (line_checks (suc i) (drop (suc i) lines)) _ these h.first; so = h.so }

  pub line_passed : (found : Option Reason) → is_some found ≡ false → Finds conf mode d r (checks_of_line i) found → Leaves (HasFlaw conf mode d r) (line_checks 0 lines) (line_checks (suc i) (drop (suc i) lines))
  line_passed None none h = leaves_behind (HasFlaw conf mode d r) (line_checks 0 lines) (checks_of_line i) (line_checks (suc i) (drop (suc i) lines)) these h.first
  line_passed (Some reason) none h = absurd cc

pub lines_done : (conf : Conf) (mode : Mode) (d : Entries) (r : Record) (lines : List Attr) (i : ℕ) → length lines ≤ i → Leaves (HasFlaw conf mode d r) (line_checks 0 lines) (line_checks i (drop i lines))
    → Finds conf mode d r (line_checks 0 lines) None
lines_done conf mode d r lines i le left = record {
  first = left None (subst (λ (ls : List Attr). FindsFirst (HasFlaw conf mode d r) (line_checks i ls) None) (sym (none_left lines i le)) tt);
  so = tt;
}

pub kept_at : (P : Type 0) (o : Option Reason) → is_some o ≡ false → IfNone o P → P
kept_at P None none h = h
kept_at P (Some reason) none h = absurd cc

pub here_in : (r : Record) (lines : List Attr) (i : ℕ) (l : Attr) → lines ≡ lines_of_record r → i < length lines → l ≡ get_or lines i l → slice_get (lines_of_record r) i ≡ Some l
here_in r lines i l same within is = ap (λ (ls : List Attr). slice_get ls i) (sym same) ∙ at_place lines i l within is

-- what the lines before say
pub said_in : (r : Record) (lines : List Attr) (i : ℕ) → lines ≡ lines_of_record r → (types : List AttributeType) (t : ℕ) (n m : List ℕ) (o p : Option ℕ) → n ≡ m → o ≡ p
    → IsSaidBy types (take i lines) t n o → IsSaidBy types (take i (lines_of_record r)) t m p
said_in r lines i same types t n m o p norm_is found_is said =
    subst (λ (ls : List Attr). IsSaidBy types (take i ls) t m p) same (subst (IsSaidBy types (take i lines) t m) found_is (subst (λ (k : List ℕ). IsSaidBy types (take i lines) t k o) norm_is said))

pub none_kept : (P : Type 0) (o : Option Reason) → is_some o ≡ true → IfNone o P
none_kept P None some = absurd cc
none_kept P (Some reason) some = tt
