-- The order of paths.
use Rattle.std.proofs.Common.{◌≡◌, [], ◌∷◌, ◌++◌, refl, ap, ◌∙◌}
use Rattle.std.specs.declared.cmp.Ordering.TheVariants.{Less}
use Rattle.std.specs.Ordering.{nat_cmp, ordering_then}
use Rattle.std.specs.Cmp.Lexicographic.{slice_cmp}
use Rattle.std.specs.FinMap as finite
use Rattle.std.proofs.lemmas.Cmp.{tied_itself}
use Rattle.std.proofs.lemmas.Map.Lookups.{exact_pairs, exact_unsigned, exact_bytes}
use Rattle.paths.specs.PathLaws.{rdn_key_total}
use Rattle.paths.specs.Paths.{RdnKey, Path, rdn_key_cmp, path_cmp}

pub step_exact : finite.IsAntisymmetric rdn_key_cmp
step_exact = finite.slice_cmp-IsAntisymmetric (exact_pairs nat_cmp (slice_cmp nat_cmp) exact_unsigned exact_bytes)

pub path_exact : finite.IsAntisymmetric path_cmp
path_exact = finite.slice_cmp-IsAntisymmetric step_exact

pub parent_first : (p : Path) (s : RdnKey) → path_cmp p (p ++ s ∷ []) ≡ Less
parent_first [] s = refl
parent_first (x ∷ p) s = ap (λ o. ordering_then o (path_cmp p (p ++ s ∷ []))) (tied_itself rdn_key_total x) ∙ parent_first p s
