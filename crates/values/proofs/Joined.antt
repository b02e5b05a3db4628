-- A value's normal form and the value as written, as one byte string.
use Rattle.std.proofs.Common.{◌≡◌, ◌≢◌, ℕ, ◌==◌, true, false, List, [], ◌∷◌, ◌++◌, length, take, refl, ap, ◌∙◌, arith}
use Rattle.std.proofs.lemmas.Bool.{ne_eqb, eq-eqb}
use Rattle.std.proofs.lemmas.List.{length-append}
use Rattle.std.proofs.Math.Seq.{take-length, take-append_seam, drop-append_seam}
use Rattle.values.specs.Values.{Value}
use Rattle.matching.specs.declared.family.Family.{Family}
use Rattle.matching.specs.declared.family.Family.TheVariants as families
use Rattle.matching.specs.Forms.{norm}
use Rattle.values.specs.Joined.{raw_in}

abbrev seen : ℕ → List ℕ → Value
seen n bytes = record { raw = raw_in n bytes; norm = take n bytes }

abbrev made : List ℕ → List ℕ → Value
made raw norm = record { raw = raw; norm = norm }

equal_self : (n : ℕ) → (n == n) ≡ true
equal_self n = eq-eqb n n refl

-- the normal form alone, where it is the value as written
pub alone : (n : ℕ) (norm raw : List ℕ) → n ≡ length norm → norm ≡ raw → seen n norm ≡ made raw norm
alone n norm raw len same = rw (len, equal_self (length norm), take-length norm) (ap (λ (r : List ℕ). made r norm) same)

-- the same of bytes that are the normal form
pub same_bytes : (n : ℕ) (norm raw bytes : List ℕ) → n ≡ length norm → norm ≡ raw → bytes ≡ norm → seen n bytes ≡ made raw norm
same_bytes n norm raw bytes len same is = ap (seen n) is ∙ alone n norm raw len same

no_length : (xs : List ℕ) → length xs ≡ 0 → xs ≡ []
no_length [] e = refl
no_length (x ∷ xs) e = absurd (omega (arith, e))

-- both
pub both : (n : ℕ) (norm raw bytes : List ℕ) → n ≡ length norm → raw ≢ [] → bytes ≡ norm ++ raw → seen n bytes ≡ made raw norm
both n norm raw bytes len some is =
    let longer : (length (norm ++ raw) == length norm) ≡ false = ne_eqb (length (norm ++ raw)) (length norm) (λ e. some (no_length raw (omega (arith, length-append norm raw, e)))) in
    rw (is, len, longer, drop-append_seam norm raw, take-append_seam norm raw) refl

-- the normal form of nothing
pub nothing : (family : Family) → norm family [] ≡ []
unfolding norm
nothing families.Ignore = refl
nothing families.Exact = refl
nothing families.Numeric = refl
nothing families.Telephone = refl
nothing families.Integer = refl
nothing families.Boolean = refl
nothing families.Octet = refl
nothing families.Oid = refl
