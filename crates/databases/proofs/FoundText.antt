-- The text of found entries, entry by entry, up to a limit.
use Rattle.std.proofs.Common.{◌≡◌, ◌≢◌, ℕ, zero, suc, ◌+◌, ◌-◌, Bool, true, false, cond, List, [], ◌∷◌, ◌++◌, map, take, length, Option, Some, None, refl, sym, ◌∙◌, ap, subst, append_assoc, arith}
use Rattle.std.specs.Prelude.{nat_lt, ◌&&◌, filter, Err}
use Rattle.std.specs.Bool.{one_answer}
use Rattle.std.specs.Cmp.{IsTotalOrder}
use Rattle.std.specs.FinMap as finite
use Rattle.std.proofs.lemmas.List.{append-nil}
use Rattle.std.proofs.lemmas.Bool.{eqb-true, ltb-true, lt-ltb, le-ltb}
use Rattle.device.specs.Device.{Written}
use Rattle.ldif.specs.Contents.{write_content_to}
use Rattle.ldif.specs.declared.write.WriteFault.{WriteFault}
use Rattle.paths.specs.Paths.{Path, path_cmp}
use Rattle.schema.specs.Conf.{Conf}
use Rattle.entries.specs.Entries.{EntryContent}
use Rattle.tree.specs.Directories.{Entries, IsDirectory}
use Rattle.filter_text.specs.Spells.{FilterContent}
use Rattle.filter.specs.Truths.{is_true}
use Rattle.filter.specs.Filters.{truth}
use Rattle.paths.specs.declared.scope.Scope.{Scope}
use Rattle.paths.specs.Scopes.{is_in_scope}
use Rattle.databases.specs.Scanned.{scan, is_tested, scan_among}
use Rattle.databases.specs.Walks.{Lent, seen}
use Rattle.ldif.specs.Written.{SoFar, Writes}
use Rattle.databases.specs.Selections.{Selection}
use Rattle.databases.specs.Found.{AreThere, found_record, found_text, up_to, goes_past}
use Rattle.databases.specs.inner.Dumps.{entry_text}
use Rattle.databases.specs.inner.Found.{is_used_up, one_fewer}
use Rattle.databases.proofs.LoadLaw.{all_there}

-- ---- limits

pub up_more : {A : Type 0} (left : Option ℕ) (x : A) (xs : List A) → left ≢ Some 0 → up_to left (x ∷ xs) ≡ x ∷ up_to (one_fewer left) xs
up_more None x xs some = refl
up_more (Some zero) x xs some = absurd (some refl)
up_more (Some (suc n)) x xs some = ap (λ (k : ℕ). x ∷ take k xs) (let one : n ≡ suc n - 1 = omega arith in one)

pub past_more : {A : Type 0} (left : Option ℕ) (x : A) (xs : List A) → left ≢ Some 0 → goes_past left (x ∷ xs) ≡ goes_past (one_fewer left) xs
past_more None x xs some = refl
past_more (Some zero) x xs some = absurd (some refl)
past_more (Some (suc n)) x xs some =
    one_answer (nat_lt (suc n) (length (x ∷ xs))) (nat_lt (suc n - 1) (length xs))
    (λ h. ltb-true (suc n) (length (x ∷ xs)) h, λ h. lt-ltb (suc n) (length (x ∷ xs)) h)
    (λ h. omega (arith, ltb-true (suc n - 1) (length xs) h), λ h. lt-ltb (suc n - 1) (length xs) (omega (arith, h)))

pub up_to_nothing : (A : Type 0) (left : Option ℕ) → up_to {A = A} left [] ≡ []
up_to_nothing A None = refl
up_to_nothing A (Some zero) = refl
up_to_nothing A (Some (suc n)) = refl

pub past_nothing : (A : Type 0) (left : Option ℕ) → goes_past {A = A} left [] ≡ false
past_nothing A None = refl
past_nothing A (Some n) = le-ltb n 0 (omega arith)

pub past_at_once : {A : Type 0} (x : A) (xs : List A) → goes_past (Some 0) (x ∷ xs) ≡ true
past_at_once x xs = lt-ltb 0 (length (x ∷ xs)) (omega arith)

pub used_up : (left : Option ℕ) → is_used_up left ≡ true → left ≡ Some 0
used_up None h = cc
used_up (Some n) h = ap (λ (k : ℕ). Some k) (eqb-true n 0 h)

pub some_left : (left : Option ℕ) → is_used_up left ≡ false → left ≢ Some 0
some_left left h same = let no : false ≡ true = sym h ∙ ap is_used_up same in cc

-- how many they are, up to the limit
pub counts_more : {A : Type 0} (left fewer : Option ℕ) (x : A) (old new : List A) (n : ℕ) → old ≡ x ∷ new → left ≢ Some 0 → fewer ≡ one_fewer left
    → n + 1 + length (up_to fewer new) ≡ n + length (up_to left old)
counts_more {A} left fewer x old new n steps some is =
    let one : length (up_to left old) ≡ length (x ∷ up_to fewer new) = ap (λ (xs : List A). length (up_to left xs)) steps ∙ ap (λ (xs : List A). length xs) (up_more left x new some) ∙ ap (λ (l : Option ℕ). length (x ∷ up_to l new)) (sym is) in
    omega (arith, one)

pub counts_nothing : {A : Type 0} (left : Option ℕ) (old : List A) (n : ℕ) → old ≡ [] → n ≡ n + length (up_to left old)
counts_nothing {A} left old n none =
    let zero : length (up_to left old) ≡ 0 = ap (λ (xs : List A). length (up_to left xs)) none ∙ ap (λ (xs : List A). length xs) (up_to_nothing A left) in
    omega (arith, zero)

-- ---- entries of a directory

kept_there : (d : Entries) (p : Path × EntryContent → Bool) (es : List (Path × EntryContent)) → AreThere d es → AreThere d (filter p es)
kept_there d p [] h = tt
kept_there d p (e ∷ es) h = by (p e) (kept_there d p es h.1)
  where
    by : (b : Bool) → AreThere d (filter p es) → AreThere d (cond b (e ∷ filter p es) (filter p es))
    by true rest = (h.0, rest)
    by false rest = rest

-- what a scan finds
pub scanned_are_there : (conf : Conf) (d : Entries) (base : Path) (scope : Scope) (f : FilterContent) → IsTotalOrder path_cmp → IsDirectory conf d → AreThere d (scan conf d base scope f)
scanned_are_there conf d base scope f total is = kept_there d (λ e. is_in_scope scope base e.0 && is_true (truth conf.types e.1.attrs f)) (finite.entries d) (all_there total conf d is)

pub found_are_there : (conf : Conf) (d : Entries) (is_candidate : Path → Bool) (base : Path) (scope : Scope) (f : FilterContent) → IsTotalOrder path_cmp → IsDirectory conf d → AreThere d (scan_among conf d is_candidate base scope f)
found_are_there conf d is_candidate base scope f total is = kept_there d (λ e. is_tested is_candidate scope base e && is_true (truth conf.types e.1.attrs f)) (finite.entries d) (all_there total conf d is)

-- ---- text

module _ (width : ℕ) (conf : Conf) (d : Entries) (s : Selection) where
  pub text_more : (left : Option ℕ) (e : Path × EntryContent) (es : List (Path × EntryContent)) → left ≢ Some 0
      → found_text width conf d s (up_to left (e ∷ es)) ≡ write_content_to width (found_record conf d s e) ++ found_text width conf d s (up_to (one_fewer left) es)
  unfolding found_text
  text_more left e es some = ap (found_text width conf d s) (up_more left e es some)

  pub no_text : found_text width conf d s [] ≡ []
  unfolding found_text
  no_text = refl

  -- one more entry, behind what is written
  pub goes_on : (left fewer : Option ℕ) (found : Lent) (old new : List Lent) (text : List ℕ) → old ≡ found ∷ new → left ≢ Some 0 → fewer ≡ one_fewer left
      → text ++ found_text width conf d s (up_to left (map seen old)) ≡ (text ++ entry_text width conf d s (found.path, found.entry)) ++ found_text width conf d s (up_to fewer (map seen new))
  goes_on left fewer found old new text steps some is =
      ap (λ (ls : List Lent). text ++ found_text width conf d s (up_to left (map seen ls))) steps
      ∙ ap (λ (bs : List ℕ). text ++ bs) (text_more left (seen found) (map seen new) some)
      ∙ sym (append_assoc text (entry_text width conf d s (found.path, found.entry)) (found_text width conf d s (up_to (one_fewer left) (map seen new))))
      ∙ ap (λ (l : Option ℕ). (text ++ entry_text width conf d s (found.path, found.entry)) ++ found_text width conf d s (up_to l (map seen new))) (sym is)

  -- none is left, or none may be written any more
  pub none_left : (left : Option ℕ) (old : List Lent) (text : List ℕ) → old ≡ [] → text ++ found_text width conf d s (up_to left (map seen old)) ≡ text
  none_left left old text none =
      ap (λ (ls : List Lent). text ++ found_text width conf d s (up_to left (map seen ls))) none
      ∙ ap (λ (es : List (Path × EntryContent)). text ++ found_text width conf d s es) (up_to_nothing (Path × EntryContent) left)
      ∙ ap (λ (bs : List ℕ). text ++ bs) no_text
      ∙ append-nil text

  pub none_may : (left : Option ℕ) (old : List Lent) (text : List ℕ) → left ≡ Some 0 → text ++ found_text width conf d s (up_to left (map seen old)) ≡ text
  none_may left old text over =
      ap (λ (l : Option ℕ). text ++ found_text width conf d s (up_to l (map seen old))) over
      ∙ ap (λ (bs : List ℕ). text ++ bs) no_text
      ∙ append-nil text

-- ---- behind a text that is held

pub begun_behind : (a b : Written) (held front bytes left : List ℕ) → held ≡ front → SoFar a b (held ++ bytes) left → SoFar a b (front ++ bytes) left
begun_behind a b held front bytes left is h = subst (λ (xs : List ℕ). SoFar a b (xs ++ bytes) left) is h

pub fails_behind : (e : WriteFault) (a b : Written) (held front bytes : List ℕ) → held ≡ front → Writes (Err e) a b (held ++ bytes) → Writes (Err e) a b (front ++ bytes)
fails_behind e a b held front bytes is h = subst (λ (xs : List ℕ). Writes (Err e) a b (xs ++ bytes)) is h
