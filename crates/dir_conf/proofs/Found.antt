-- What is looked for in a list: the first that passes a test, and the first that stands twice.
use Rattle.std.proofs.Common.{◌≡◌, ℕ, ◌+◌, ◌<◌, Bool, true, false, cond, not, ◌&&◌, ◌||◌, List, [], ◌∷◌, ◌++◌, length, get_or, take, drop, Option, Some, None, refl, sym, ap, ◌∙◌}
use Rattle.std.specs.Prelude.{is_some}
use Rattle.std.specs.List.{list_any, list_all, find}
use Rattle.std.specs.Str.{str_eq_ignore_ascii_case}
use Rattle.std.proofs.lemmas.Bool.{not-true}
use Rattle.std.proofs.lemmas.List.{drop_more, take-append-drop}
use Rattle.schema.specs.TypeRules.{has_twin}
use Rattle.dir_conf.specs.Flaws.{IsAmong, IsTwin, IsMissing}
use Rattle.dir_conf.specs.inner.FoundFlaws.{twin, found_or, missing}

-- ---- a list cut at a place

module _ {X : Type 0} (xs : List X) (i : ℕ) (x : X) (lt : i < length xs) (is : x ≡ get_or xs i x) where
  pub cut_there : drop i xs ≡ x ∷ drop (i + 1) xs
  cut_there = drop_more xs i x lt ∙ ap (λ (y : X). y ∷ drop (i + 1) xs) (sym is)

  pub whole_there : xs ≡ take i xs ++ x ∷ drop (i + 1) xs
  whole_there = sym (take-append-drop i xs) ∙ ap (λ (ys : List X). take i xs ++ ys) cut_there

  pub behind_there : (rest behind : List X) → rest ≡ drop i xs → behind ≡ drop 1 rest → behind ≡ drop (i + 1) xs
  behind_there rest behind at is_behind = is_behind ∙ ap (λ (ys : List X). drop 1 ys) (at ∙ cut_there)

-- ---- the first that passes

abbrev Word : Type 0
Word = List ℕ

abbrev some : Word → Option Word
some w = Some w

same_word : (a b : Word) → ◌≡◌ {A = Option Word} (Some a) (Some b) → a ≡ b
same_word a b e = cc

pub record Passes (p : Word → Bool) (words : List Word) (w : Word) : Type 0 where
  pub among : IsAmong w words
  pub passes : p w ≡ true

behind_one : (p : Word → Bool) (v w : Word) (words : List Word) → Passes p words w → Passes p (v ∷ words) w
behind_one p v w words h = record {
  among = record { before = v ∷ h.among.before; after = h.among.after; is = ap (λ (ws : List Word). v ∷ ws) h.among.is };
  passes = h.passes;
}

at_front : (p : Word → Bool) (v w : Word) (words : List Word) → p v ≡ true → v ≡ w → Passes p (v ∷ words) w
at_front p v w words e same = record {
  among = record { before = []; after = words; is = ap (λ (u : Word). u ∷ words) same };
  passes = ap p (sym same) ∙ e;
}

pub found_passes : (p : Word → Bool) (words : List Word) (w : Word) → find p words ≡ Some w → Passes p words w
found_passes p [] w e = absurd cc
found_passes p (v ∷ words) w e = by (p v) refl e (found_passes p words w)
  where
    by : (b : Bool) → p v ≡ b → cond b (Some v) (find p words) ≡ Some w → (find p words ≡ Some w → Passes p words w) → Passes p (v ∷ words) w
    by true is said rest = at_front p v w words is (same_word v w said)
    by false is said rest = behind_one p v w words (rest said)

pub found_any : (p : Word → Bool) (words : List Word) → is_some (find p words) ≡ list_any p words
found_any p [] = refl
found_any p (v ∷ words) = by (p v) (found_any p words)
  where
    by : (b : Bool) → is_some (find p words) ≡ list_any p words → is_some (cond b (Some v) (find p words)) ≡ (b || list_any p words)
    by true rest = refl
    by false rest = rest

pub missing_all : (p : Word → Bool) (words : List Word) → is_some (missing p words) ≡ not (list_all p words)
missing_all p [] = refl
missing_all p (v ∷ words) = by (p v) (missing_all p words)
  where
    by : (b : Bool) → is_some (missing p words) ≡ not (list_all p words) → is_some (cond (not b) (Some v) (missing p words)) ≡ not (b && list_all p words)
    by true rest = rest
    by false rest = refl

pub is_missing : (p : Word → Bool) (words : List Word) (w : Word) → missing p words ≡ Some w → IsMissing p words w
is_missing p words w e = let h = found_passes (λ v. not (p v)) words w e in (h.among, not-true (p w) h.passes)

-- ---- the first that stands twice

abbrev again : Word → List Word → Bool
again v words = list_any (λ other. str_eq_ignore_ascii_case other v) words

pub is_twin : (words : List Word) (w : Word) → twin words ≡ Some w → IsTwin w words
is_twin [] w e = absurd cc
is_twin (v ∷ words) w e = by (again v words) refl e (is_twin words w)
  where
    by : (b : Bool) → again v words ≡ b → cond b (Some v) (twin words) ≡ Some w → (twin words ≡ Some w → IsTwin w words) → IsTwin w (v ∷ words)
    by true is said rest =
        let same = same_word v w said in
        record { before = []; after = words; is = ap (λ (u : Word). u ∷ words) same; again = ap (λ (u : Word). again u words) (sym same) ∙ is }
    by false is said rest =
        let h = rest said in
        record { before = v ∷ h.before; after = h.after; is = ap (λ (ws : List Word). v ∷ ws) h.is; again = h.again }

pub twin_any : (words : List Word) → is_some (twin words) ≡ has_twin words
twin_any [] = refl
twin_any (v ∷ words) = by (again v words) (twin_any words)
  where
    by : (b : Bool) → is_some (twin words) ≡ has_twin words → is_some (cond b (Some v) (twin words)) ≡ (b || has_twin words)
    by true rest = refl
    by false rest = rest

pub some_or : (a b : Option Word) → is_some (found_or a b) ≡ (is_some a || is_some b)
some_or None b = refl
some_or (Some w) b = refl

-- a loop that looks for it

module _ (xs : List Word) (i : ℕ) (x : Word) (lt : i < length xs) (is : x ≡ get_or xs i x) where
  pub twin_here : again x (drop (i + 1) xs) ≡ true → twin (drop i xs) ≡ twin xs → some x ≡ twin xs
  twin_here e left = sym (ap (λ (b : Bool). cond b (Some x) (twin (drop (i + 1) xs))) e) ∙ sym (ap twin (cut_there xs i x lt is)) ∙ left

  pub no_twin_here : again x (drop (i + 1) xs) ≡ false → twin (drop i xs) ≡ twin xs → twin (drop (i + 1) xs) ≡ twin xs
  no_twin_here e left = sym (ap (λ (b : Bool). cond b (Some x) (twin (drop (i + 1) xs))) e) ∙ sym (ap twin (cut_there xs i x lt is)) ∙ left
