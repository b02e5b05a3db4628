-- Pieces in order: the leftmost place of each will do.
use Rattle.std.proofs.Common.{◌≡◌, ◌≢◌, ℕ, ◌+◌, ◌<◌, ◌≤◌, Bool, true, false, List, [], ◌∷◌, ◌++◌, ◌↔◌, ◌⊎◌, length, get_or, take, drop, refl, sym, ap, subst, ◌∙◌, inl, inr, arith, append_assoc, add-one}
use Rattle.std.proofs.lemmas.Bool.{cases_lt}
use Rattle.std.proofs.lemmas.List.{append_cancel_left, append-nil, drop_more, drop_all, drop_at, drop-append-le, take-append-drop, length-append, length-drop}
use Rattle.std.proofs.lemmas.List.Prefix.{at_reads, at_from_reads}
use Rattle.memchr.specs.Find.{OccursAt, NoneBefore, Nowhere}
use Rattle.matching.specs.inner.Places.{InOrder, AtEnd, FollowsFirst}
use Rattle.matching.specs.Substrings.{Fits, joined}

-- ---- one piece

pub occurs_from : (gap p rest text : List ℕ) → text ≡ gap ++ (p ++ rest) → OccursAt text p (length gap)
occurs_from gap p rest text e = record {
  fits = omega (arith, ap length e, length-append gap (p ++ rest), length-append p rest);
  reads = at_reads 0 text p (length gap) rest (ap (drop (length gap)) e ∙ drop_at gap (p ++ rest) (length gap) refl);
}

split_from : (p text : List ℕ) (k : ℕ) → OccursAt text p k → text ≡ take k text ++ (p ++ drop (k + length p) text)
split_from p text k o = sym (take-append-drop k text) ∙ ap (λ (t : List ℕ). take k text ++ t) (at_from_reads 0 text p k o.fits o.reads)

at_end_any : (back : Bool) (t : List ℕ) → back ≡ true → AtEnd back t
at_end_any true t e = tt
at_end_any false t e = absurd cc

-- more text in front does no harm, where a piece or a star is still to come
grow : (back : Bool) (ps : List (List ℕ)) (x rest : List ℕ) → (back ≡ true) ⊎ (0 < length ps) → InOrder back ps rest → InOrder back ps (x ++ rest)
grow back [] x rest (inl on) h = at_end_any back (x ++ rest) on
grow back [] x rest (inr lt) h = absurd (omega arith)
grow back (p ∷ ps) x rest or h = (x ++ h.0, h.1, ap (λ (t : List ℕ). x ++ t) h.2 ∙ sym (append_assoc x h.0 (p ++ h.1)), h.3)

pub found : (back : Bool) (p : List ℕ) (ps : List (List ℕ)) (text : List ℕ) (k : ℕ) → NoneBefore (OccursAt text p) 0 (length text + 1) k → OccursAt text p k → (back ≡ true) ⊎ (0 < length ps) → InOrder back (p ∷ ps) text ↔ InOrder back ps (drop (k + length p) text)
found back p ps text k none o or = (
  λ h.
      let gap = h.0 in
      let rest = h.1 in
      let at_gap = occurs_from gap p rest text h.2 in
      let le : k ≤ length gap = elim (cases_lt (length gap) k) [ inl lt ↦ absurd (none.before (length gap) (omega arith) lt at_gap) | inr ge ↦ ge ] in
      let n = k + length p in
      let room : n ≤ length (gap ++ p) = omega (arith, length-append gap p) in
      let cut : drop n text ≡ drop n (gap ++ p) ++ rest = ap (drop n) (h.2 ∙ sym (append_assoc gap p rest)) ∙ drop-append-le n (gap ++ p) rest room in
      subst (λ (t : List ℕ). InOrder back ps t) (sym cut) (grow back ps (drop n (gap ++ p)) rest or h.3),
  λ h. (take k text, drop (k + length p) text, split_from p text k o, h),
)

pub not_found : (back : Bool) (p : List ℕ) (ps : List (List ℕ)) (text : List ℕ) → Nowhere (OccursAt text p) 0 (length text + 1) → InOrder back (p ∷ ps) text → ⊥
not_found back p ps text none h =
    let o = occurs_from h.0 p h.1 text h.2 in
    none (length h.0) (omega arith) (omega (arith, o.fits)) o

-- the last piece, with no star behind it
pub last_piece : (p text : List ℕ) → InOrder false (p ∷ []) text ↔ ((gap : List ℕ) × (text ≡ gap ++ p))
last_piece p text = (
  λ h. (h.0, h.2 ∙ ap (λ (t : List ℕ). h.0 ++ (p ++ t)) h.3 ∙ ap (λ (t : List ℕ). h.0 ++ t) (append-nil p)),
  λ h. (h.0, [], h.1 ∙ ap (λ (t : List ℕ). h.0 ++ t) (sym (append-nil p)), refl),
)

-- ---- the loop

at_piece : (pieces : List (List ℕ)) (i : ℕ) (x p : List ℕ) → i < length pieces → x ≡ get_or pieces i x → p ≡ x → drop i pieces ≡ p ∷ drop (i + 1) pieces
at_piece pieces i x p lt is same = drop_more pieces i x lt ∙ ap (λ (y : List ℕ). y ∷ drop (i + 1) pieces) (sym is ∙ sym same)

pub loop_found : (A : Type 0) (back : Bool) (pieces : List (List ℕ)) (i : ℕ) (x p rest rest' : List ℕ) → i < length pieces → x ≡ get_or pieces i x → p ≡ x → (back ≡ true) ⊎ (i + 1 ≢ length pieces) → FollowsFirst rest p rest' → (A ↔ InOrder back (drop i pieces) rest) → (A ↔ InOrder back (drop (i + 1) pieces) rest')
loop_found A back pieces i x p rest rest' lt is same or first h =
    let here = at_piece pieces i x p lt is same in
    let left : (back ≡ true) ⊎ (0 < length (drop (i + 1) pieces)) = elim or [ inl on ↦ inl on | inr apart ↦ inr (omega (arith, length-drop (i + 1) pieces)) ] in
    let both = found back p (drop (i + 1) pieces) rest first.0 first.1 first.2 left in (
      λ a. rw first.3 (both.0 (subst (λ (ps : List (List ℕ)). InOrder back ps rest) here (h.0 a))),
      λ b. h.1 (subst (λ (ps : List (List ℕ)). InOrder back ps rest) (sym here) (both.1 (rw first.3 at b))),
    )

pub loop_none : (A : Type 0) (back : Bool) (pieces : List (List ℕ)) (i : ℕ) (x p rest : List ℕ) → i < length pieces → x ≡ get_or pieces i x → p ≡ x → Nowhere (OccursAt rest p) 0 (length rest + 1) → (A ↔ InOrder back (drop i pieces) rest) → A → ⊥
loop_none A back pieces i x p rest lt is same none h a =
    not_found back p (drop (i + 1) pieces) rest none (subst (λ (ps : List (List ℕ)). InOrder back ps rest) (at_piece pieces i x p lt is same) (h.0 a))

pub loop_last : (A : Type 0) (back : Bool) (pieces : List (List ℕ)) (i : ℕ) (x p rest : List ℕ) (r : Bool) → i < length pieces → x ≡ get_or pieces i x → p ≡ x → back ≡ false → i + 1 ≡ length pieces → ((r ≡ true) ↔ ((gap : List ℕ) × (rest ≡ gap ++ p))) → (A ↔ InOrder back (drop i pieces) rest) → ((r ≡ true) ↔ A)
loop_last A back pieces i x p rest r lt is same off whole ends h =
    let here : drop i pieces ≡ p ∷ [] = at_piece pieces i x p lt is same ∙ ap (λ (ps : List (List ℕ)). p ∷ ps) (drop_all (i + 1) pieces (omega arith)) in
    let both = last_piece p rest in
    let to : InOrder back (drop i pieces) rest → InOrder false (p ∷ []) rest = λ a. subst (λ (b : Bool). InOrder b (p ∷ []) rest) off (subst (λ (ps : List (List ℕ)). InOrder back ps rest) here a) in
    let from : InOrder false (p ∷ []) rest → InOrder back (drop i pieces) rest = λ a. subst (λ (ps : List (List ℕ)). InOrder back ps rest) (sym here) (subst (λ (b : Bool). InOrder b (p ∷ []) rest) (sym off) a) in
    (λ e. h.1 (from (both.1 (ends.0 e))), λ a. ends.1 (both.0 (to (h.0 a))))

pub loop_end : (A : Type 0) (back : Bool) (pieces : List (List ℕ)) (i : ℕ) (rest : List ℕ) (r : Bool) → length pieces ≤ i → ((r ≡ true) ↔ AtEnd back rest) → (A ↔ InOrder back (drop i pieces) rest) → ((r ≡ true) ↔ A)
loop_end A back pieces i rest r past test h =
    let none : drop i pieces ≡ [] = drop_all i pieces past in
    (λ e. h.1 (subst (λ (ps : List (List ℕ)). InOrder back ps rest) (sym none) (test.0 e)), λ a. test.1 (subst (λ (ps : List (List ℕ)). InOrder back ps rest) none (h.0 a)))

-- ---- stretches

to_order : (back : Bool) (ps stretches : List (List ℕ)) → length stretches ≡ length ps + 1 → (back ≡ false → get_or stretches (length ps) [] ≡ []) → InOrder back ps (joined stretches ps)
to_order back ps [] count end = absurd (omega arith)
to_order true [] (s ∷ ss) count end = tt
to_order false [] (s ∷ ss) count end = end refl
to_order back (p ∷ ps) (s ∷ ss) count end = (s, joined ss ps, refl, to_order back ps ss (omega arith) end)

at_end_nil : (back : Bool) (text : List ℕ) → AtEnd back text → back ≡ false → text ≡ []
at_end_nil true text h e = absurd cc
at_end_nil false text h e = h

from_order : (back : Bool) (ps : List (List ℕ)) (text : List ℕ) → InOrder back ps text → Fits true back ps text
from_order back [] text h = record { stretches = text ∷ []; count = refl; whole = refl; at_front = λ e. absurd cc; at_back = at_end_nil back text h }
from_order back (p ∷ ps) text h =
    let f = from_order back ps h.1 h.3 in
    record {
      stretches = h.0 ∷ f.stretches;
      count = omega (arith, f.count);
      whole = h.2 ∙ ap (λ (t : List ℕ). h.0 ++ (p ++ t)) f.whole;
      at_front = λ e. absurd cc;
      at_back = f.at_back;
    }

order_of : (front back : Bool) (ps : List (List ℕ)) (text : List ℕ) → Fits front back ps text → InOrder back ps text
order_of front back ps text f = subst (λ (t : List ℕ). InOrder back ps t) (sym f.whole) (to_order back ps f.stretches f.count f.at_back)

pub with_star : (front back : Bool) (ps : List (List ℕ)) (text : List ℕ) → front ≡ true → InOrder back ps text ↔ Fits front back ps text
with_star true back ps text e = (from_order back ps text, order_of true back ps text)
with_star false back ps text e = absurd cc

pub no_pieces : (front back : Bool) (text : List ℕ) → front ≡ false → (text ≡ []) ↔ Fits front back [] text
no_pieces true back text e = absurd cc
no_pieces false back text e = (
  λ nil. record { stretches = [] ∷ []; count = refl; whole = nil; at_front = λ e. refl; at_back = λ e. refl },
  λ f. no_pieces_nil f.stretches text f.count f.whole (f.at_front refl),
) where
  no_pieces_nil : (ss : List (List ℕ)) (text : List ℕ) → length ss ≡ 0 + 1 → text ≡ joined ss [] → get_or ss 0 [] ≡ [] → text ≡ []
  no_pieces_nil [] text count whole first = whole
  no_pieces_nil (s ∷ ss) text count whole first = whole ∙ first

-- without a star in front the first piece begins the text
begun : (back : Bool) (p : List ℕ) (ps ss : List (List ℕ)) (text : List ℕ) → length ss ≡ length ps + 1 + 1 → text ≡ joined ss (p ∷ ps) → get_or ss 0 [] ≡ [] → (back ≡ false → get_or ss (length ps + 1) [] ≡ []) → (rest : List ℕ) × (text ≡ p ++ rest) × InOrder back ps rest
begun back p ps [] text count whole first end = absurd (omega arith)
begun back p ps (s ∷ ss) text count whole first end = (
  joined ss ps,
  whole ∙ ap (λ (t : List ℕ). t ++ (p ++ joined ss ps)) first,
  to_order back ps ss (omega arith) (λ off. sym (ap (λ (n : ℕ). get_or (s ∷ ss) n []) (add-one (length ps))) ∙ end off),
)

pub without_star : (front back : Bool) (p : List ℕ) (ps : List (List ℕ)) (text : List ℕ) → front ≡ false → ((rest : List ℕ) × (text ≡ p ++ rest) × InOrder back ps rest) ↔ Fits front back (p ∷ ps) text
without_star true back p ps text e = absurd cc
without_star false back p ps text e = (
  λ h.
      let f = from_order back ps h.0 h.2 in
      record {
        stretches = [] ∷ f.stretches;
        count = omega (arith, f.count);
        whole = h.1 ∙ ap (λ (t : List ℕ). p ++ t) f.whole;
        at_front = λ e. refl;
        at_back = f.at_back;
      },
  λ f. begun back p ps f.stretches text (omega (arith, f.count)) f.whole (f.at_front refl) (λ off. ap (λ (n : ℕ). get_or f.stretches n []) (add-one (length ps)) ∙ f.at_back off),
)

pub first_stands : (front back : Bool) (pieces : List (List ℕ)) (first : List ℕ) (others : List (List ℕ)) (p text rest : List ℕ) (r : Bool) → front ≡ false → pieces ≡ first ∷ others → p ≡ first → text ≡ p ++ rest → ((r ≡ true) ↔ InOrder back others rest) → ((r ≡ true) ↔ Fits front back pieces text)
first_stands front back pieces first others p text rest r off parts same begins h =
    let both = without_star front back p others text off in
    let lists : pieces ≡ p ∷ others = parts ∙ ap (λ (q : List ℕ). q ∷ others) (sym same) in (
      λ on. subst (λ (ps : List (List ℕ)). Fits front back ps text) (sym lists) (both.0 (rest, begins, h.0 on)),
      λ f.
          let parts = both.1 (subst (λ (ps : List (List ℕ)). Fits front back ps text) lists f) in
          h.1 (subst (λ (t : List ℕ). InOrder back others t) (append_cancel_left p parts.0 rest (sym parts.1 ∙ begins)) parts.2),
    )

pub first_missing : (front back : Bool) (pieces : List (List ℕ)) (first : List ℕ) (others : List (List ℕ)) (p text : List ℕ) → front ≡ false → pieces ≡ first ∷ others → p ≡ first → ((rest : List ℕ) → text ≢ p ++ rest) → Fits front back pieces text → ⊥
first_missing front back pieces first others p text off parts same none f =
    let both = without_star front back p others text off in
    let lists : pieces ≡ p ∷ others = parts ∙ ap (λ (q : List ℕ). q ∷ others) (sym same) in
    let parts = both.1 (subst (λ (ps : List (List ℕ)). Fits front back ps text) lists f) in
    none parts.0 parts.1
