-- What becomes of an index: a number comes under keys, goes from keys, or leaves every key.
use Rattle.std.specs.Prelude.{◌≡◌, ℕ, Bool, true, false, List, refl, if◌then◌else◌}
use Rattle.std.specs.Coded.{Coded, code_by, coded×, coded_ℕ, coded_list}
use Rattle.std.specs.List.{AllByRecursion}
use Rattle.std.specs.FinSet as set
use Rattle.schema.specs.contracts.conf.Conf as conf_contract
use Rattle.schema.specs.Conf.{Conf}
use Rattle.index_text.specs.declared.slot_key.SlotKey.{SlotKey}
use Rattle.index_text.specs.KeySets.{SetsByKey}
use Rattle.index_text.specs.Indexes.{Index, members}
use Rattle.index.specs.KeySets.{sets_code}

abbrev pub index_code : Coded Index
index_code = code_by (Conf × (List SetsByKey × ℕ)) (coded× conf_contract.the_row.coded (coded× (coded_list sets_code) coded_ℕ)) (λ x. (x.conf, (x.slots, x.edits))) (λ p. record { conf = p.0; slots = p.1.0; edits = p.1.1 }) (λ _. refl)

-- each of these keys has the number
abbrev pub AllHave : ℕ → Index → List SlotKey → Type 0
AllHave number index ps = AllByRecursion (λ p. set.contains (members index p) number ≡ true) ps

-- each key that passes the test got the number, and each other key has the members that it had
abbrev pub Inserts : (SlotKey → Bool) → ℕ → Index → Index → Type 0
Inserts test number old new = (p : SlotKey) → members new p ≡ (if test p then set.insert (members old p) number else members old p)

-- each key that passes the test lost the number, and each other key has the members that it had
abbrev pub Removes : (SlotKey → Bool) → ℕ → Index → Index → Type 0
Removes test number old new = (p : SlotKey) → members new p ≡ (if test p then set.remove (members old p) number else members old p)

-- each key has the members that it had
abbrev pub KeepsMembers : Index → Index → Type 0
KeepsMembers old new = (p : SlotKey) → members new p ≡ members old p

-- every key lost the number
abbrev pub Forgets : ℕ → Index → Index → Type 0
Forgets number old new = (p : SlotKey) → members new p ≡ set.remove (members old p) number

-- no key has the number
abbrev pub IsNowhere : ℕ → Index → Type 0
IsNowhere number index = (p : SlotKey) → set.contains (members index p) number ≡ false
