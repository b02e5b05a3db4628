-- What is found can be reported: its entries are there, and its types are known.
use Rattle.std.proofs.Common.{◌≡◌, ◌<◌, ℕ, zero, suc, Bool, true, false, cond, nat_eq, List, [], ◌∷◌, ◌++◌, ap, subst, filter, length, arith}
use Rattle.std.specs.Prelude.{is_some, All, fold}
use Rattle.std.specs.List.{Contains, AllByRecursion, list_any}
use Rattle.std.specs.FinMap as finite
use Rattle.std.proofs.lemmas.List.Elements.{All-from_recursion}
use Rattle.values.specs.declared.types.AttributeType.{AttributeType}
use Rattle.paths.specs.Paths.{Path}
use Rattle.paths.proofs.Unpacked.{all_append}
use Rattle.schema.specs.TypeRules.{has_name_syntax}
use Rattle.schema.specs.Conf.{Conf}
use Rattle.tree.specs.Directories.{Entries}
use Rattle.checks.specs.declared.entry_value.EntryValue.{EntryValue}
use Rattle.checks.specs.declared.shared_value.SharedValue.{SharedValue}
use Rattle.checks.specs.References.{EachDangles}
use Rattle.checks.specs.Sharing.{path_of, has_value, holders, EachIsShared}
use Rattle.checks.specs.TypeNames.{put_once, each_once}
use Rattle.checks.specs.inner.Reports.{IsReportable, AreReportable, IsThereAt, AreThere, EachIsThere}
use Rattle.checks.proofs.Members.{here, later, from_map, from_filter, is_there}

-- what holds of each that stands in a list holds of all
each_in : {X : Type 0} (P : X → Type 0) (xs : List X) → ((x : X) → Contains xs x → P x) → AllByRecursion P xs
each_in P [] h = tt
each_in P (x ∷ xs) h = (h x (here x xs), each_in P xs (λ y at. h y (later x y xs at)))

all_in : {X : Type 0} (P : X → Type 0) (xs : List X) → ((x : X) → Contains xs x → P x) → All P xs
all_in P xs h = All-from_recursion P xs (each_in P xs h)

-- ---- references

-- a type that isn't there has no syntax of names
known_type : (types : List AttributeType) (t : ℕ) → has_name_syntax types t ≡ true → t < length types
known_type [] t h = absurd cc
known_type (x ∷ types) zero h = omega arith
known_type (x ∷ types) (suc t) h = let rest = known_type types t h in omega (arith, rest)

pub dangling_reportable : (conf : Conf) (d : Entries) (named : List ℕ) (vs : List EntryValue) → EachDangles conf d named vs → AreReportable conf d vs
dangling_reportable conf d named vs told = all_in (IsReportable conf d) vs (λ v at. record {
  there = ap is_some (told v at).there.at;
  known = known_type conf.types v.type_id (told v at).is_name;
})

-- ---- values of several entries

holder_there : (types : List AttributeType) (d : Entries) (t : ℕ) (v : List ℕ) (p : Path) → Contains (holders types (finite.entries d) t v) p → IsThereAt d p
holder_there types d t v p h =
    let e = from_map path_of p (filter (has_value types t v) (finite.entries d)) h in
    let entry = from_filter (has_value types t v) e.0 (finite.entries d) e.1 in
    subst (IsThereAt d) e.2 (ap is_some (is_there d e.0.0 e.0.1 entry.0))

pub shared_there : (types : List AttributeType) (d : Entries) (t : ℕ) (rs : List SharedValue) → EachIsShared types d t rs → EachIsThere d rs
shared_there types d t rs told = all_in (λ r. AreThere d r.paths) rs (λ r at.
    all_in (IsThereAt d) r.paths (λ p in_paths. holder_there types d t r.value p (subst (λ ps. Contains ps p) (told r at).all in_paths)))

-- ---- types that are named

module _ (P : ℕ → Type 0) where
  put_keeps : (seen : List ℕ) (t : ℕ) → AllByRecursion P seen → P t → AllByRecursion P (put_once seen t)
  put_keeps seen t all one = by (list_any (λ n. nat_eq n t) seen)
    where
      by : (b : Bool) → AllByRecursion P (cond b seen (seen ++ t ∷ []))
      by true = all
      by false = all_append P seen (t ∷ []) all (one, tt)

  once_keeps : (seen ts : List ℕ) → AllByRecursion P seen → AllByRecursion P ts → AllByRecursion P (fold put_once seen ts)
  once_keeps seen [] all others = all
  once_keeps seen (t ∷ ts) all others = once_keeps (put_once seen t) ts (put_keeps seen t all others.0) others.1

  pub once_all : (ts : List ℕ) → AllByRecursion P ts → All P (each_once ts)
  once_all ts all = All-from_recursion P (each_once ts) (once_keeps [] ts tt all)
