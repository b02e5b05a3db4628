-- Worked examples of normal forms of names, and of the order of stanzas by their names, by computation.
use Rattle.std.proofs.Common.{◌≡◌, ℕ, true, false, List, [], ◌∷◌, map, Option, None, codes, refl}
use Rattle.sorting.specs.NormalNames.{with_texts, normal_rdn, name_of_rdns}
use Rattle.sorting.specs.Turns.{last_from, turns_from, with_turns, turns}
use Rattle.sorting.specs.declared.normal_names.NormalName.{NormalName}
use Rattle.sorting.specs.Orders.{is_above}
use Rattle.sorting.specs.declared.turns.Turn.{Turn}
use Rattle.dn.specs.Writing.{written, text_from}
use Rattle.matching.specs.Forms.{norm}

-- types and values in whatever case, AVAs in whatever order, and no space that doesn't count
alike : normal_rdn ((codes "CN", codes " Ann  B ") ∷ (codes "UID", codes "7") ∷ []) ≡ normal_rdn ((codes "uid", codes "7") ∷ (codes "cn", codes "ANN b") ∷ [])
unfolding with_texts written text_from norm
alike = refl

one : normal_rdn ((codes "OU", codes "People") ∷ []) ≡ codes "ou=people+"
unfolding with_texts written text_from norm
one = refl

abbrev name : List (List ℕ) → Option NormalName
name rdns = name_of_rdns rdns

abbrev order_of : List (Option NormalName) → List ℕ
order_of names = map (λ (t : Turn). t.number) (turns names)

-- dc=ex, ou=a below it, uid=b below that
abbrev top : Option NormalName
top = name (codes "x" ∷ [])

abbrev middle : Option NormalName
middle = name (codes "a" ∷ codes "x" ∷ [])

abbrev low : Option NormalName
low = name (codes "b" ∷ codes "a" ∷ codes "x" ∷ [])

stays : order_of (top ∷ middle ∷ low ∷ []) ≡ 0 ∷ 1 ∷ 2 ∷ []
unfolding turns with_turns turns_from last_from
stays = refl

-- what waits comes directly behind what it waits for, higher ones first
waits : order_of (low ∷ middle ∷ None ∷ top ∷ None ∷ []) ≡ 2 ∷ 3 ∷ 1 ∷ 0 ∷ 4 ∷ []
unfolding turns with_turns turns_from last_from
waits = refl

-- for the last where a name stands twice; and only for what is there
twice : order_of (top ∷ middle ∷ top ∷ low ∷ []) ≡ 0 ∷ 2 ∷ 1 ∷ 3 ∷ []
unfolding turns with_turns turns_from last_from
twice = refl

missing : order_of (low ∷ top ∷ []) ≡ 1 ∷ 0 ∷ []
unfolding turns with_turns turns_from last_from
missing = refl

nothing_above : order_of (low ∷ middle ∷ []) ≡ 1 ∷ 0 ∷ []
unfolding turns with_turns turns_from last_from
nothing_above = refl

-- ---- above: RDN by RDN a proper end

above : is_above top low ≡ true
above = refl

not_itself : is_above middle middle ≡ false
not_itself = refl

not_below : is_above low top ≡ false
not_below = refl

-- the end of an RDN is none of a name
within_an_rdn : is_above top (name (codes "a" ∷ codes "bx" ∷ [])) ≡ false
within_an_rdn = refl

nobody : is_above None low ≡ false
nobody = refl
