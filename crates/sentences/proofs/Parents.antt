-- What stands behind the first RDN of a name.
use Rattle.std.proofs.Common.{◌≡◌, ℕ, ◌+◌, ◌<◌, ◌≤◌, ◌∙◌, ap, sym, refl, true, false, Bool, not, ◌&&◌, cond, ◌==◌, if◌then◌else◌, List, [], ◌∷◌, length, drop, get_or}
use Rattle.std.proofs.lemmas.List.{at_drop_more, at_drop_all}
use Rattle.std.specs.List.{join_with_byte, onto_first}
use Rattle.base.specs.Ascii.{comma}
use Rattle.dn.specs.Reading.{escapes, cut_raw}
use Rattle.dn.proofs.Wholes.{cut_joins}
use Rattle.sentences.specs.Missing.{parent_text}

-- what stands behind the first comma that isn't escaped
abbrev pub behind : Bool → List ℕ → List ℕ
behind escaped [] = []
behind escaped (b ∷ bs) = if not escaped && b == 44 then bs else behind (escapes escaped b) bs

first_grows : (b : ℕ) (xs : List (List ℕ)) → drop 1 (onto_first b xs) ≡ drop 1 xs
first_grows b [] = refl
first_grows b (x ∷ xs) = refl

cut_either : (t : Bool) (b : ℕ) (bs : List ℕ) (next : List (List ℕ)) (rest : List ℕ)
    → join_with_byte comma (drop 1 next) ≡ rest
    → join_with_byte comma (drop 1 (cond t ([] ∷ cut_raw comma false bs) (onto_first b next))) ≡ cond t bs rest
cut_either true b bs next rest later = cut_joins comma false bs
cut_either false b bs next rest later = ap (join_with_byte comma) (first_grows b next) ∙ later

cut_behind : (escaped : Bool) (bs : List ℕ) → join_with_byte comma (drop 1 (cut_raw comma escaped bs)) ≡ behind escaped bs
unfolding cut_raw
cut_behind escaped [] = refl
cut_behind escaped (b ∷ bs) =
    cut_either (not escaped && b == 44) b bs (cut_raw comma (escapes escaped b) bs) _ (cut_behind (escapes escaped b) bs)

pub parent_is : (bs : List ℕ) → parent_text bs ≡ behind false bs
unfolding parent_text
parent_is bs = cut_behind false bs

pub parent_none : (escaped : Bool) (bs : List ℕ) (i : ℕ) → length bs ≤ i → behind escaped (drop i bs) ≡ behind false bs → ◌≡◌ {A = List ℕ} [] (parent_text bs)
parent_none escaped bs i all same = sym (at_drop_all (behind escaped) bs i all) ∙ same ∙ sym (parent_is bs)

pub parent_there : (escaped : Bool) (bs : List ℕ) (i : ℕ) → i < length bs → get_or bs i 0 ≡ 44 → escaped ≡ false
    → behind escaped (drop i bs) ≡ behind false bs → drop (i + 1) bs ≡ parent_text bs
parent_there escaped bs i more at plain same =
    let next : behind escaped (drop i bs) ≡ behind escaped (get_or bs i 0 ∷ drop (i + 1) bs) = at_drop_more (behind escaped) bs i 0 more in
    let here : behind escaped (get_or bs i 0 ∷ drop (i + 1) bs) ≡ drop (i + 1) bs = rw (plain, at) refl in
    sym here ∙ sym next ∙ same ∙ sym (parent_is bs)
