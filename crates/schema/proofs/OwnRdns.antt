-- The RDN of the entry that a name leads to.
use Rattle.std.proofs.Common.{◌≡◌, ℕ, ◌<◌, true, List, [], ◌∷◌, ◌++◌, length, reverse, Result, Ok, refl, sym, ap, ◌∙◌, arith}
use Rattle.std.specs.Prelude.{nat_lt, slice_index_or}
use Rattle.std.specs.List.{AllByRecursion}
use Rattle.std.proofs.lemmas.List.{reverse-append}
use Rattle.base.specs.Answers.{◌>>=◌}
use Rattle.paths.specs.Paths.{Path}
use Rattle.schema.specs.declared.code.Code.{Code}
use Rattle.schema.specs.Rdns.{TypedRdn}
use Rattle.schema.specs.GoodRdns.{IsRdn}
use Rattle.schema.specs.Conf.{Conf, IsConf, first_rdn, root_rdn, located, path_of, own_rdn, place_of_text}

first_good : (P : TypedRdn → Type 0) (rs : List TypedRdn) → AllByRecursion P rs → nat_lt 0 (length rs) ≡ true → P (first_rdn rs)
first_good P [] h some = absurd cc
first_good P (r ∷ rs) h some = h.0

pub root_good : (conf : Conf) → IsConf conf → IsRdn conf.types (root_rdn conf)
root_good conf ok = first_good (IsRdn conf.types) conf.suffix ok.suffix ok.suffix_some

pub own_good : (conf : Conf) → IsConf conf → (rs : List TypedRdn) → AllByRecursion (IsRdn conf.types) rs → IsRdn conf.types (own_rdn conf rs)
own_good conf ok [] h = root_good conf ok
own_good conf ok (r ∷ []) h = h.0
own_good conf ok (r ∷ s ∷ rs) h = own_good conf ok (s ∷ rs) h.1

own_behind : (conf : Conf) (above : List TypedRdn) (r : TypedRdn) → own_rdn conf (above ++ r ∷ []) ≡ r
own_behind conf [] r = refl
own_behind conf (s ∷ []) r = refl
own_behind conf (s ∷ t ∷ above) r = own_behind conf (t ∷ above) r

-- of RDNs from the entry's own up
pub own_first : (conf : Conf) (rs : List TypedRdn) (r : TypedRdn) → 0 < length rs → r ≡ slice_index_or rs 0 r → r ≡ own_rdn conf (reverse rs)
own_first conf [] r some is = absurd (omega (arith, some))
own_first conf (s ∷ rs) r some is = is ∙ sym (ap (own_rdn conf) (reverse-append (s ∷ []) rs) ∙ own_behind conf (reverse rs) s)

pub place_is : (conf : Conf) (text : List ℕ) (rs : List TypedRdn) (p : Path) (r : TypedRdn) → located conf text ≡ Ok rs → p ≡ path_of conf rs → r ≡ own_rdn conf rs → place_of_text conf text ≡ Ok (p, r)
place_is conf text rs p r found at own =
    ap (λ (x : Result (List TypedRdn) Code). x >>= λ ys. Ok (path_of conf ys, own_rdn conf ys)) found
    ∙ (λ i. Ok (sym at i, sym own i))
