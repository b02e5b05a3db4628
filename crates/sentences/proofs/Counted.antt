-- Entries below one are counted.
use Rattle.std.proofs.Common.{◌≡◌, ℕ, suc, ◌≤◌, ◌∙◌, ap, sym, refl, true, false, Bool, ◌&&◌, cond, List, [], ◌∷◌, length, count_by, nat_lt, arith}
use Rattle.std.specs.FinMap as finite
use Rattle.std.specs.List.{filter}
use Rattle.std.proofs.lemmas.List.Sums.{count_by-le-length, length-filter}
use Rattle.paths.specs.Paths.{Path, begins, is_below}
use Rattle.entries.specs.Entries.{EntryContent}
use Rattle.entries.specs.StoredEntries.{Entry, content_of}
use Rattle.tree.specs.Directories.{Entries}
use Rattle.tree.specs.Trees.{seen_entries}
use Rattle.sentences.specs.Missing.{count_below}

abbrev pub below_in : {X : Type 0} → Path → List (Path × X) → ℕ
below_in path es = count_by (λ e. is_below path e.0) es

abbrev kept_in : {X : Type 0} → Path → List (Path × X) → List (Path × X)
kept_in path es = filter (λ e. is_below path e.0) es

as_long : {X Y : Type 0} (t : Bool) (x : X) (y : Y) (xs : List X) (ys : List Y) → length xs ≡ length ys
    → length (cond t (x ∷ xs) xs) ≡ length (cond t (y ∷ ys) ys)
as_long true x y xs ys same = ap suc same
as_long false x y xs ys same = same

seen_length : (path : Path) (es : List (Path × Entry)) → length (kept_in path es) ≡ length (kept_in path (seen_entries es))
seen_length path [] = refl
seen_length path (e ∷ es) =
    as_long (is_below path e.0) e (e.0, content_of e.1) (kept_in path es) (kept_in path (seen_entries es)) (seen_length path es)

-- what doesn't begin so isn't below it
begun_or_not : (path : Path) (e : Path × EntryContent) (rest ys : List (Path × EntryContent)) (b : Bool) → b ≡ begins path e.0
    → length (kept_in path rest) ≡ length ys → length (kept_in path (cond b (e ∷ rest) rest)) ≡ length (cond (is_below path e.0) (e ∷ ys) ys)
begun_or_not path e rest ys true is same = as_long (is_below path e.0) e e (kept_in path rest) ys same
begun_or_not path e rest ys false is same =
    same ∙ ap (λ t. length (cond (t && nat_lt (length path) (length e.0)) (e ∷ ys) ys)) is

begun_length : (path : Path) (es : List (Path × EntryContent)) → length (kept_in path (filter (λ e. begins path e.0) es)) ≡ length (kept_in path es)
begun_length path [] = refl
begun_length path (e ∷ es) =
    begun_or_not path e (filter (λ x. begins path x.0) es) (kept_in path es) (begins path e.0) refl (begun_length path es)

as_kept : {X : Type 0} (path : Path) (es : List (Path × X)) → below_in path es ≡ length (kept_in path es)
as_kept path es = sym (length-filter (λ e. is_below path e.0) es)

pub counted : (d : Entries) (path : Path) (items : List (Path × Entry)) → seen_entries items ≡ filter (λ e. begins path e.0) (finite.entries d)
    → below_in path items ≡ count_below d path
unfolding count_below
counted d path items are =
    as_kept path items ∙ seen_length path items ∙ ap (λ es. length (kept_in path es)) are ∙ begun_length path (finite.entries d)
    ∙ sym (as_kept path (finite.entries d))

pub few_below : (d : Entries) (path : Path) → finite.len d ≤ 4294967295 → count_below d path ≤ 4294967295
unfolding count_below
few_below d path few =
    let all : count_below d path ≤ length (finite.entries d) = count_by-le-length (λ e. is_below path e.0) (finite.entries d) in
    let len : finite.len d ≡ length (finite.entries d) = finite.len-entries d in
    omega (arith, few, all, len)
