-- What goes well where there is no flaw, and fails for the first one where there is.
use Rattle.std.proofs.Common.{◌≡◌, ℕ, Bool, true, false, ◌&&◌, List, [], ◌∷◌, Option, Some, None, Result, Ok, Err, ◌⊎◌, inl, inr, refl, sym, ap, ◌∙◌}
use Rattle.std.specs.Prelude.{is_some}
use Rattle.std.specs.List.{list_all}
use Rattle.std.proofs.lemmas.Bool.{and_parts}
use Rattle.base.specs.Answers.{◌>>=◌, each}
use Rattle.dir_conf.specs.declared.conf_fault.ConfFaultKind.{ConfFaultKind}
use Rattle.dir_conf.specs.declared.conf_fault.ConfFaultKind.TheVariants.{UnknownName}
use Rattle.dir_conf.specs.ConfFaults.{At}
use Rattle.dir_conf.specs.NamesInLines.{or_unknown}
use Rattle.schema.proofs.FirstFlaws.{some_flaw, same_flaw}
use Rattle.dir_conf.proofs.FirstStops.{same_err}

abbrev pub Told : {A : Type 0} → ℕ → Option ConfFaultKind → Result A At → Type 0
Told {A} line o r = ((o ≡ None) × ((out : A) × (r ≡ Ok out))) ⊎ ((kind : ConfFaultKind) × (o ≡ Some kind) × (r ≡ Err (line, kind)))

pub told_is : {A : Type 0} (line : ℕ) (o : Option ConfFaultKind) (r : Result A At) (at : ℕ) (kind : ConfFaultKind) → Told line o r → r ≡ Err (at, kind) → (at ≡ line) × (o ≡ Some kind)
told_is line o r at kind (inl (none, fine)) e = absurd (let both = sym fine.1 ∙ e in cc)
told_is {A} line o r at kind (inr (k, is, failed)) e =
    let same = same_err {A = A} (line, k) (at, kind) (sym failed ∙ e) in
    (sym (ap (λ (p : At). p.0) same), is ∙ ap (λ (p : At). some_flaw p.1) same)

abbrev pub failed_at : {A : Type 0} → ℕ → ConfFaultKind → Result A At
failed_at line kind = Err (line, kind)

pub is_told : {A : Type 0} (line : ℕ) (o : Option ConfFaultKind) (r : Result A At) (kind : ConfFaultKind) → Told line o r → o ≡ Some kind → r ≡ Err (line, kind)
is_told line o r kind (inl (none, fine)) e = absurd (let both = sym none ∙ e in cc)
is_told {A} line o r kind (inr (k, is, failed)) e = failed ∙ ap (failed_at {A = A} line) (same_flaw k kind (sym is ∙ e))

-- ---- names that stand for something, and names that don't

abbrev fine : {A : Type 0} → A → Result A At
fine x = Ok x

module _ (find : List ℕ → Option ℕ) (line : ℕ) where
  abbrev named : List ℕ → Result ℕ At
  named name = or_unknown line (find name)

  abbrev is_there : List ℕ → Bool
  is_there name = is_some (find name)

  one_there : (o : Option ℕ) → is_some o ≡ true → (n : ℕ) × (or_unknown line o ≡ Ok n)
  one_there None e = absurd cc
  one_there (Some n) e = (n, refl)

  one_missing : (o : Option ℕ) → is_some o ≡ false → or_unknown line o ≡ Err (line, UnknownName)
  one_missing None e = refl
  one_missing (Some n) e = absurd cc

  -- each stands for one
  pub each_there : (names : List (List ℕ)) → list_all is_there names ≡ true → (ns : List ℕ) × (each named names ≡ Ok ns)
  unfolding each
  each_there [] e = ([], refl)
  each_there (name ∷ names) e =
      let both = and_parts (is_there name) (list_all is_there names) e in
      let one = one_there (find name) both.0 in
      let rest = each_there names both.1 in
      (one.0 ∷ rest.0, ap (λ (r : Result ℕ At). r >>= λ n. each named names >>= λ ns. fine (n ∷ ns)) one.1 ∙ ap (λ (r : Result (List ℕ) At). r >>= λ ns. fine (one.0 ∷ ns)) rest.1)

  -- or one stands for none
  pub one_isnt_there : (names : List (List ℕ)) → list_all is_there names ≡ false → each named names ≡ Err (line, UnknownName)
  unfolding each
  one_isnt_there [] e = absurd cc
  one_isnt_there (name ∷ names) e = by (find name) e (one_isnt_there names)
    where
      by : (o : Option ℕ) → (is_some o && list_all is_there names) ≡ false → (list_all is_there names ≡ false → each named names ≡ Err (line, UnknownName))
          → (or_unknown line o >>= λ n. each named names >>= λ ns. fine (n ∷ ns)) ≡ Err (line, UnknownName)
      by None e rest = refl
      by (Some n) e rest = ap (λ (r : Result (List ℕ) At). r >>= λ ns. fine (n ∷ ns)) (rest e)
