-- Whether a name stands twice: each is looked up among those before it.
use Rattle.std.proofs.Common.{◌≡◌, ℕ, ◌+◌, ◌<◌, Bool, true, false, ◌||◌, List, ◌∷◌, length, get_or, drop, None, Option, refl, sym, ap, ◌∙◌}
use Rattle.std.specs.Prelude.{is_some}
use Rattle.std.specs.List.{list_any}
use Rattle.std.specs.Str.{str_eq_ignore_ascii_case, str_to_ascii_lowercase}
use Rattle.std.proofs.lemmas.Slice.Eq.{bytes_eq-Decides}
use Rattle.std.proofs.lemmas.List.{drop_more}
use Rattle.values.specs.declared.name_index.NameEntry.{NameEntry}
use Rattle.values.specs.Tables.{number_of, or_if}
use Rattle.schema.specs.TypeRules.{has_twin}
use Rattle.dir_conf.proofs.Taken.{any_or, any_none, any_same, some_or_if}

abbrev Names : Type 0
Names = List NameEntry

abbrev pub knows : Names → List ℕ → Bool
knows seen name = is_some (number_of seen name)

-- whether one of these names was seen, or stands twice among them
abbrev pub twin_left : Names → List (List ℕ) → Bool
twin_left seen names = list_any (knows seen) names || has_twin names

pub none_seen : (seen : Names) (names : List (List ℕ)) → ((name : List ℕ) → number_of seen name ≡ None) → twin_left seen names ≡ has_twin names
none_seen seen names none =
    ap (λ (b : Bool). b || has_twin names) (any_same (knows seen) (λ n. false) names (λ n. ap (λ (o : Option ℕ). is_some o) (none n)) ∙ any_none names)

two_alike : (a b : List ℕ) → str_eq_ignore_ascii_case a b ≡ str_eq_ignore_ascii_case b a
two_alike a b = by (str_eq_ignore_ascii_case a b) refl (str_eq_ignore_ascii_case b a) refl
  where
    by : (x : Bool) → str_eq_ignore_ascii_case a b ≡ x → (y : Bool) → str_eq_ignore_ascii_case b a ≡ y → x ≡ y
    by true h true k = refl
    by false h false k = refl
    by true h false k = sym ((bytes_eq-Decides (str_to_ascii_lowercase b) (str_to_ascii_lowercase a)).1 (sym ((bytes_eq-Decides (str_to_ascii_lowercase a) (str_to_ascii_lowercase b)).0 h))) ∙ k
    by false h true k = sym h ∙ (bytes_eq-Decides (str_to_ascii_lowercase a) (str_to_ascii_lowercase b)).1 (sym ((bytes_eq-Decides (str_to_ascii_lowercase b) (str_to_ascii_lowercase a)).0 k))

apart : (a b c : Bool) → ((a || b) || c) ≡ (a || (b || c))
apart true b c = refl
apart false b c = refl

module _ (old new : Names) (name : List ℕ) (n : ℕ) (put : (text : List ℕ) → number_of new text ≡ or_if (number_of old text) (str_eq_ignore_ascii_case name text) n) where
  knows_more : (rest : List (List ℕ)) → list_any (knows new) rest ≡ (list_any (knows old) rest || list_any (λ m. str_eq_ignore_ascii_case m name) rest)
  knows_more rest =
      any_same (knows new) (λ m. knows old m || str_eq_ignore_ascii_case m name) rest
      (λ m. ap (λ (o : Option ℕ). is_some o) (put m) ∙ some_or_if (number_of old m) (str_eq_ignore_ascii_case name m) n ∙ ap (λ (b : Bool). knows old m || b) (two_alike name m))
      ∙ any_or (knows old) (λ m. str_eq_ignore_ascii_case m name) rest

  pub twin_on : (rest : List (List ℕ)) → knows old name ≡ false → twin_left new rest ≡ twin_left old (name ∷ rest)
  twin_on rest h =
      ap (λ (b : Bool). b || has_twin rest) (knows_more rest)
      ∙ apart (list_any (knows old) rest) (list_any (λ m. str_eq_ignore_ascii_case m name) rest) (has_twin rest)
      ∙ ap (λ (b : Bool). (b || list_any (knows old) rest) || has_twin (name ∷ rest)) (sym h)

-- one name of a list, by its place
pub no_twin : (names : List (List ℕ)) (i : ℕ) (name : List ℕ) (seen new : Names) (n : ℕ) → ((text : List ℕ) → number_of new text ≡ or_if (number_of seen text) (str_eq_ignore_ascii_case name text) n)
    → i < length names → name ≡ get_or names i name → knows seen name ≡ false → twin_left seen (drop i names) ≡ has_twin names → twin_left new (drop (i + 1) names) ≡ has_twin names
no_twin names i name seen new n put lt at h so_far =
    twin_on seen new name n put (drop (i + 1) names) h
    ∙ ap (λ (n : List ℕ). twin_left seen (n ∷ drop (i + 1) names)) at
    ∙ ap (twin_left seen) (sym (drop_more names i name lt)) ∙ so_far
