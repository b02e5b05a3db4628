-- Values whose bytes are common.
use Rattle.std.proofs.Common.{◌≡◌, ℕ, Bool, true, false, not, eqb, leb, ◌&&◌, ◌||◌, List, refl, ap, ◌∙◌, arith}
use Rattle.std.specs.List.{list_all}
use Rattle.std.proofs.lemmas.Bool.{leb-true, le-leb, ne_eqb, and_parts, and_from}
use Rattle.base.specs.Ends.{begins_with, ends_with}
use Rattle.ldif.specs.Writing.{is_safe_byte, is_common_byte, has_plain_ends, is_plain}
use Rattle.ldif.proofs.WrittenLines.{all_weaker}

and_assoc : (a b c : Bool) → (a && b && c) ≡ (a && (b && c))
and_assoc true b c = refl
and_assoc false b c = refl

-- ---- common bytes are safe

safe : (b : ℕ) → is_common_byte b ≡ true → is_safe_byte b ≡ true
safe b e =
    let h = and_parts (leb 32 b) (leb b 127) e in
    let low = leb-true 32 b h.0 in
    let some = and_from (leb 1 b) (leb b 127) (le-leb 1 b (omega (arith, low))) h.1 in
    let begun = and_from (leb 1 b && leb b 127) (not (eqb b 10)) some (ap not (ne_eqb b 10 (λ q. omega (arith, low, q)))) in
    and_from (leb 1 b && leb b 127 && not (eqb b 10)) (not (eqb b 13)) begun (ap not (ne_eqb b 13 (λ q. omega (arith, low, q))))

abbrev no_mark : List ℕ → Bool
no_mark value = not (begins_with 32 value || begins_with 58 value || begins_with 60 value)

pub plain_by_ends : (value : List ℕ) → is_plain value ≡ (list_all is_safe_byte value && has_plain_ends value)
unfolding is_plain
plain_by_ends value = and_assoc (list_all is_safe_byte value) (no_mark value) (not (ends_with 32 value))

pub surely : (value : List ℕ) → (list_all is_common_byte value && has_plain_ends value) ≡ true → is_plain value ≡ true
surely value e =
    let h = and_parts (list_all is_common_byte value) (has_plain_ends value) e in
    plain_by_ends value ∙ and_from (list_all is_safe_byte value) (has_plain_ends value) (all_weaker is_common_byte is_safe_byte safe value h.0) h.1
