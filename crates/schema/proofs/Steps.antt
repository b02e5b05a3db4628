-- What RDNs come to, from the last on.
use Rattle.std.proofs.Common.{◌≡◌, ℕ, ◌+◌, ◌-◌, ◌<◌, ◌≤◌, List, [], ◌∷◌, ◌++◌, length, map, reverse, drop, get_or, sym, ap, ◌∙◌, arith}
use Rattle.std.proofs.lemmas.List.{drop_more, drop_all, map-append, reverse-append}
use Rattle.paths.specs.Paths.{RdnKey, Path}
use Rattle.schema.specs.Rdns.{TypedRdn}

pub step_before : (f : TypedRdn → RdnKey) (rs : List TypedRdn) (i : ℕ) (old new : Path) (r : TypedRdn) → 0 < i → i ≤ length rs → old ≡ map f (reverse (drop i rs)) → r ≡ get_or rs (i - 1) r → new ≡ old ++ f r ∷ [] → new ≡ map f (reverse (drop (i - 1) rs))
step_before f rs i old new r some le so_far at pushed =
    let back : i - 1 + 1 ≡ i = omega arith in
    let rest : drop (i - 1) rs ≡ r ∷ drop i rs = drop_more rs (i - 1) r (omega arith) ∙ (λ k. sym at k ∷ drop (back k) rs) in
    let turned : map f (reverse (drop (i - 1) rs)) ≡ map f (reverse (drop i rs)) ++ f r ∷ [] =
    ap (λ (x : List TypedRdn). map f (reverse x)) rest ∙ ap (map f) (reverse-append (r ∷ []) (drop i rs)) ∙ map-append f (reverse (drop i rs)) (r ∷ []) in
    pushed ∙ ap (λ (p : Path). p ++ f r ∷ []) so_far ∙ sym turned

pub none_yet : (f : TypedRdn → RdnKey) (rs : List TypedRdn) (p : Path) → p ≡ [] → p ≡ map f (reverse (drop (length rs) rs))
none_yet f rs p is = is ∙ sym (ap (λ (x : List TypedRdn). map f (reverse x)) (drop_all (length rs) rs (omega arith)))
