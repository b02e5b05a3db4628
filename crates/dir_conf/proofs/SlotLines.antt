-- What an index line says are slots that can be kept.
use Rattle.std.proofs.Common.{◌≡◌, ℕ, ◌<◌, Bool, true, false, cond, List, [], ◌∷◌, length, map, Option, Some, None, Result, Ok, Err, refl, subst}
use Rattle.std.specs.List.{list_all, AllByRecursion}
use Rattle.std.proofs.lemmas.Bool.{and_parts, ltb-true}
use Rattle.values.specs.declared.types.AttributeType.{AttributeType}
use Rattle.values.specs.Types.{type_of, is_known}
use Rattle.base.specs.Answers.{◌>>=◌, each}
use Rattle.base.proofs.Bound.{bind_ok, same_ok}
use Rattle.paths.proofs.Unpacked.{all_append}
use Rattle.dir_conf.specs.declared.conf_fault.ConfFaultKind.TheVariants.{Index}
use Rattle.dir_conf.specs.ConfFaults.{At}
use Rattle.schema.specs.declared.slots.IndexKind.{IndexKind}
use Rattle.schema.specs.declared.slots.Slot.{Slot}
use Rattle.dir_conf.specs.NamesInLines.{or_unknown, type_named}
use Rattle.dir_conf.specs.IndexLines.{slots_with, words, two_words, members, kind_named, each_once, if_kept, slots_in}
use Rattle.schema.specs.Slots.{can_be_kept, IsSlot}
use Rattle.schema.proofs.Found.{found_is_known}

-- what holds of each that is read
each_good : {X Y F : Type 0} (P : Y → Type 0) (read : X → Result Y F) → ((x : X) (y : Y) → read x ≡ Ok y → P y) → (xs : List X) (ys : List Y) → each read xs ≡ Ok ys → AllByRecursion P ys
unfolding each
each_good P read good [] ys e = subst (AllByRecursion P) (same_ok [] ys e) tt
each_good {X} {Y} {F} P read good (x ∷ xs) ys e =
    let k = bind_ok (read x) (λ y. each read xs >>= λ rest. Ok (y ∷ rest)) ys e in
    let l = bind_ok (each read xs) (λ rest. Ok (k.0 ∷ rest)) ys k.2 in
    subst (AllByRecursion P) (same_ok (k.0 ∷ l.0) ys l.2) (good x k.0 k.1, each_good P read good xs l.0 l.1)

-- the slots of good types are good
with_kinds : (P : ℕ → Type 0) (t : ℕ) → P t → (kinds : List IndexKind) → AllByRecursion (λ (s : Slot). P s.type_id) (map (λ k. record { type_id = t; kind = k }) kinds)
with_kinds P t h [] = tt
with_kinds P t h (k ∷ kinds) = (h, with_kinds P t h kinds)

pub slots_good : (P : ℕ → Type 0) (ts : List ℕ) (kinds : List IndexKind) → AllByRecursion P ts → AllByRecursion (λ (s : Slot). P s.type_id) (slots_with ts kinds)
slots_good P [] kinds h = tt
slots_good P (t ∷ ts) kinds h =
    all_append (λ (s : Slot). P s.type_id) (map (λ k. record { type_id = t; kind = k }) kinds) (slots_with ts kinds) (with_kinds P t h.0 kinds) (slots_good P ts kinds h.1)

pub type_known : (types : List AttributeType) (line : ℕ) (name : List ℕ) (t : ℕ) → type_named types line name ≡ Ok t → is_known types t ≡ true
type_known types line name t e = by (type_of types name) refl e
  where
    by : (o : Option ℕ) → type_of types name ≡ o → or_unknown line o ≡ Ok t → is_known types t ≡ true
    by None is said = absurd cc
    by (Some u) is said = subst (λ (n : ℕ). is_known types n ≡ true) (same_ok u t said) (found_is_known types name u is)

both_good : (types : List AttributeType) (ss : List Slot) → AllByRecursion (λ s. is_known types s.type_id ≡ true) ss → list_all (can_be_kept types) ss ≡ true → AllByRecursion (IsSlot types) ss
both_good types [] h k = tt
both_good types (s ∷ ss) h k =
    let p = and_parts (can_be_kept types s) (list_all (can_be_kept types) ss) k in
    (record { known = h.0; kept = p.0 }, both_good types ss h.1 p.1)

kept_good : (types : List AttributeType) (line : ℕ) (ss out : List Slot) → AllByRecursion (λ s. is_known types s.type_id ≡ true) ss → if_kept types line ss ≡ Ok out → AllByRecursion (IsSlot types) out
kept_good types line ss out h e = by (list_all (can_be_kept types) ss) refl e
  where
    by : (b : Bool) → list_all (can_be_kept types) ss ≡ b → ◌≡◌ {A = Result (List Slot) At} (cond b (Ok ss) (Err (line, Index))) (Ok out) → AllByRecursion (IsSlot types) out
    by true is said = subst (AllByRecursion (IsSlot types)) (same_ok ss out said) (both_good types ss h is)
    by false is said = absurd cc

pub slots_are : (types : List AttributeType) (line : ℕ) (text : List ℕ) (out : List Slot) → slots_in types line text ≡ Ok out → AllByRecursion (IsSlot types) out
unfolding slots_in
slots_are types line text out e =
    let a = bind_ok (two_words line (words text)) _ out e in
    let b = bind_ok (members line a.0.0) _ out a.2 in
    let c = bind_ok (members line a.0.1) _ out b.2 in
    let d = bind_ok (each (type_named types line) b.0) _ out c.2 in
    let f = bind_ok (each (kind_named line) c.0) _ out d.2 in
    let known = each_good (λ t. is_known types t ≡ true) (type_named types line) (type_known types line) b.0 d.0 d.1 in
    kept_good types line (slots_with d.0 (each_once f.0)) out (slots_good (λ t. is_known types t ≡ true) d.0 (each_once f.0) known) f.2

-- the same as bounds
pub known_bounds : (types : List AttributeType) (ss : List Slot) → AllByRecursion (IsSlot types) ss → AllByRecursion (λ s. s.type_id < length types) ss
known_bounds types [] h = tt
known_bounds types (s ∷ ss) h = (ltb-true s.type_id (length types) h.0.known, known_bounds types ss h.1)
