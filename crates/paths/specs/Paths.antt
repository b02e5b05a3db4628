-- Paths: where an entry stands below the suffix, as the normal forms of the RDNs from the suffix down; and their order,
-- which is the order of a dump.
use Rattle.std.specs.Prelude.{◌-◌, ◌&&◌, length, take, ℕ, Bool, true, false, nat_lt, List, [], ◌∷◌}
use Rattle.std.specs.declared.cmp.Ordering.{Ordering}
use Rattle.std.specs.Ordering.{nat_cmp, ordering_then, is_eq}
use Rattle.std.specs.Cmp.Lexicographic.{slice_cmp}

-- a type's number and a normal value
abbrev pub Pair : Type 0
Pair = ℕ × List ℕ

-- what one RDN comes to: its pairs, by type number
abbrev pub RdnKey : Type 0
RdnKey = List Pair

-- from the suffix down; the suffix itself has none
abbrev pub Path : Type 0
Path = List RdnKey

-- by type number, then byte by byte
abbrev pub pair_cmp : Pair → Pair → Ordering
pair_cmp p q = ordering_then (nat_cmp p.0 q.0) (slice_cmp nat_cmp p.1 q.1)

abbrev pub rdn_key_cmp : RdnKey → RdnKey → Ordering
rdn_key_cmp = slice_cmp pair_cmp

-- as lists, a beginning first
abbrev pub path_cmp : Path → Path → Ordering
path_cmp = slice_cmp rdn_key_cmp

-- whether the second path is the first, or goes on from it
abbrev pub begins : Path → Path → Bool
begins [] q = true
begins (x ∷ p) [] = false
begins (x ∷ p) (y ∷ q) = is_eq (rdn_key_cmp x y) && begins p q

-- without the last step
abbrev pub parent_of : Path → Path
parent_of p = take (length p - 1) p

abbrev pub is_root : Path → Bool
is_root [] = true
is_root (x ∷ p) = false

abbrev pub is_below : Path → Path → Bool
is_below p q = begins p q && nat_lt (length p) (length q)
