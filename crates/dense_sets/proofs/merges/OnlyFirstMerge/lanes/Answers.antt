use Rattle.std.proofs.Common.{◌≡◌, ℕ, List, [], ◌∷◌, map, refl, ap}
use Rattle.std.specs.Simd.Lanes.{zip2}
use Rattle.dense_sets.proofs.merges.OnlyFirstMerge.lanes.Goals as goal

zip2_map : (f : ℕ → ℕ → ℕ) (h : ℕ → ℕ) (xs ys : List ℕ) → zip2 f xs (map h ys) ≡ zip2 (λ x y. f x (h y)) xs ys
zip2_map f h [] ys = refl
zip2_map f h (x ∷ xs) [] = refl
zip2_map f h (x ∷ xs) (y ∷ ys) = ap (λ zs. f x (h y) ∷ zs) (zip2_map f h xs ys)

pub returns : goal.returns
returns c = zip2_map _ _ c.args.left c.args.right
