-- The loop over the bytes of a value.
use Rattle.std.proofs.Common.{◌≡◌, ℕ, ◌+◌, ◌<◌, ◌≤◌, Bool, true, false, cond, eqb, List, [], ◌∷◌, ◌++◌, map, take, drop, length, get_or, Result, Ok, Err, Option, Some, None, refl, sym, ap, subst, ◌∙◌, append_assoc, arith}
use Rattle.std.proofs.lemmas.List.{take-append-le, take_all, length_push, drop_more, drop_all}
use Rattle.dn.specs.declared.faults.NameFaultKind.{NameFaultKind}
use Rattle.dn.specs.declared.faults.NameFaultKind.TheVariants.{Escape}
use Rattle.dn.specs.Spelling.{Octet, may_stand, may_follow, is_hex, is_raw_space, byte_of}
use Rattle.dn.specs.Reading.{State, Plain, Backslash, HalfPair, with_octet, octets_from, keep, trimmed, value_from}
use Rattle.dn.specs.inner.Drafts.{draft_after}
use Rattle.dn.specs.inner.Octets.{state_seen, step}
use Rattle.dn.specs.declared.value.State as states
use Rattle.dn.specs.declared.value.State.TheVariants as variants

-- what a draft is with these octets behind it
ended : List ℕ → ℕ → List Octet → List ℕ
ended bytes kept [] = take kept bytes
ended bytes kept (o ∷ os) = bytes ++ map byte_of (o ∷ os)

pub finished : List ℕ → ℕ → Result (List Octet) NameFaultKind → Result (List ℕ) NameFaultKind
finished bytes kept (Ok os) = Ok (ended bytes kept (trimmed os))
finished bytes kept (Err e) = Err e

abbrev fine : List ℕ → Result (List ℕ) NameFaultKind
fine v = Ok v

ended_new : (os : List Octet) → ended [] 0 os ≡ map byte_of os
unfolding ended
ended_new [] = refl
ended_new (o ∷ os) = refl

pub finished_new : (r : Result (List Octet) NameFaultKind) → finished [] 0 r ≡ value_from r
unfolding finished
finished_new (Ok os) = ap fine (ended_new (trimmed os))
finished_new (Err e) = refl

ended_keep : (bytes : List ℕ) (kept : ℕ) (o : Octet) (os : List Octet) (s : Bool) → is_raw_space o ≡ s → kept ≤ length bytes
    → ended bytes kept (keep o os) ≡ ended (bytes ++ o.byte ∷ []) (cond s kept (length bytes + 1)) os
unfolding ended
ended_keep bytes kept o [] true is le = ap (λ (t : Bool). ended bytes kept (cond t [] (o ∷ []))) is ∙ sym (take-append-le kept bytes (o.byte ∷ []) le)
ended_keep bytes kept o [] false is le =
    ap (λ (t : Bool). ended bytes kept (cond t [] (o ∷ []))) is
    ∙ sym (take_all (length bytes + 1) (bytes ++ o.byte ∷ []) (omega (arith, length_push bytes o.byte)))
ended_keep bytes kept o (p ∷ os) s is le = sym (append_assoc bytes (o.byte ∷ []) (map byte_of (p ∷ os)))

finished_more : (bytes : List ℕ) (kept : ℕ) (o : Octet) (r : Result (List Octet) NameFaultKind) → kept ≤ length bytes
    → finished bytes kept (with_octet o.raw o.byte r) ≡ finished (bytes ++ o.byte ∷ []) (cond (is_raw_space o) kept (length bytes + 1)) r
unfolding finished trimmed
finished_more bytes kept o (Ok os) le = ap fine (ended_keep bytes kept o (trimmed os) (is_raw_space o) refl le)
finished_more bytes kept o (Err e) le = refl

-- ---- the code's state

pub is_plain : (s : states.State) → state_seen s ≡ Plain → s ≡ variants.Plain
is_plain variants.Plain e = refl
is_plain variants.Backslash e = absurd cc
is_plain (variants.HalfPair high) e = absurd cc

-- ---- one byte

abbrev Stepped : Type 0
Stepped = Result (State × Option Octet) NameFaultKind

after : Stepped → List ℕ → Result (List Octet) NameFaultKind
after (Ok (s, None)) bs = octets_from s bs
after (Ok (s, Some o)) bs = with_octet o.raw o.byte (octets_from s bs)
after (Err e) bs = Err e

after-cond : (t : Bool) (x y : Stepped) (bs : List ℕ) → after (cond t x y) bs ≡ cond t (after x bs) (after y bs)
after-cond true x y bs = refl
after-cond false x y bs = refl

step_is : (s : State) (b : ℕ) (bs : List ℕ) → after (step s b) bs ≡ octets_from s (b ∷ bs)
unfolding step octets_from after
step_is Plain b bs = after-cond (may_stand b) _ _ bs ∙ ap (λ (r : Result (List Octet) NameFaultKind). cond (may_stand b) (with_octet true b (octets_from Plain bs)) r) (after-cond (eqb b 92) _ _ bs)
step_is Backslash b bs = after-cond (may_follow b) _ _ bs ∙ ap (λ (r : Result (List Octet) NameFaultKind). cond (may_follow b) (with_octet false b (octets_from Plain bs)) r) (after-cond (is_hex b) _ _ bs)
step_is (HalfPair h) b bs = after-cond (is_hex b) _ _ bs

pub kept_within : (bytes : List ℕ) (kept : ℕ) (o : Option Octet) (new : List ℕ × ℕ) → new ≡ draft_after bytes kept o → kept ≤ length bytes → new.1 ≤ length new.0
kept_within bytes kept None new is le = subst (λ (d : List ℕ × ℕ). d.1 ≤ length d.0) (sym is) le
kept_within bytes kept (Some o) new is le = subst (λ (d : List ℕ × ℕ). d.1 ≤ length d.0) (sym is) (by (is_raw_space o))
  where
    by : (s : Bool) → cond s kept (length bytes + 1) ≤ length (bytes ++ o.byte ∷ [])
    by true = omega (arith, length_push bytes o.byte)
    by false = omega (arith, length_push bytes o.byte)

module _ (bytes : List ℕ) (kept : ℕ) (s : State) (text : List ℕ) (i : ℕ) (lt : i < length text) where
  rest : List ℕ
  rest = drop (i + 1) text

  split : octets_from s (drop i text) ≡ after (step s (get_or text i 0)) (drop (i + 1) text)
  split = ap (octets_from s) (drop_more text i 0 lt) ∙ sym (step_is s (get_or text i 0) (drop (i + 1) text))

  by_octet : (next : State) (o : Option Octet) → kept ≤ length bytes
      → finished bytes kept (after (Ok (next, o)) (drop (i + 1) text)) ≡ finished (draft_after bytes kept o).0 (draft_after bytes kept o).1 (octets_from next (drop (i + 1) text))
  unfolding after
  by_octet next None le = refl
  by_octet next (Some o) le = finished_more bytes kept o (octets_from next (drop (i + 1) text)) le

  pub goes_on : (next : State) (o : Option Octet) (new : List ℕ × ℕ) (total : Result (List ℕ) NameFaultKind) → kept ≤ length bytes → step s (get_or text i 0) ≡ Ok (next, o) → new ≡ draft_after bytes kept o
      → finished bytes kept (octets_from s (drop i text)) ≡ total → finished new.0 new.1 (octets_from next (drop (i + 1) text)) ≡ total
  goes_on next o new total le here is so_far =
      ap (λ (d : List ℕ × ℕ). finished d.0 d.1 (octets_from next (drop (i + 1) text))) is
      ∙ sym (by_octet next o le)
      ∙ sym (ap (finished bytes kept) (split ∙ ap (λ (r : Stepped). after r (drop (i + 1) text)) here))
      ∙ so_far

  pub faults : (f : NameFaultKind) (total : Result (List ℕ) NameFaultKind) → step s (get_or text i 0) ≡ Err f → finished bytes kept (octets_from s (drop i text)) ≡ total → total ≡ Err f
  unfolding after finished
  faults f total here so_far = sym so_far ∙ ap (finished bytes kept) (split ∙ ap (λ (r : Stepped). after r (drop (i + 1) text)) here)

at_end : (bytes : List ℕ) (kept : ℕ) (s : State) (text : List ℕ) (i : ℕ) (total : Result (List ℕ) NameFaultKind) → length text ≤ i → finished bytes kept (octets_from s (drop i text)) ≡ total → total ≡ finished bytes kept (octets_from s [])
at_end bytes kept s text i total le so_far = sym so_far ∙ ap (λ (bs : List ℕ). finished bytes kept (octets_from s bs)) (drop_all i text le)

pub ends_plain : (bytes : List ℕ) (kept : ℕ) (s : State) (text : List ℕ) (i : ℕ) (total : Result (List ℕ) NameFaultKind) → length text ≤ i → finished bytes kept (octets_from s (drop i text)) ≡ total → s ≡ Plain → total ≡ Ok (take kept bytes)
unfolding octets_from finished trimmed ended
ends_plain bytes kept s text i total le so_far is = at_end bytes kept s text i total le so_far ∙ ap (λ (t : State). finished bytes kept (octets_from t [])) is

pub ends_inside : (bytes : List ℕ) (kept : ℕ) (s : State) (text : List ℕ) (i : ℕ) (total : Result (List ℕ) NameFaultKind) → length text ≤ i → finished bytes kept (octets_from s (drop i text)) ≡ total → (s ≡ Plain → ⊥) → total ≡ Err Escape
unfolding octets_from finished
ends_inside bytes kept Plain text i total le so_far other = absurd (other refl)
ends_inside bytes kept Backslash text i total le so_far other = at_end bytes kept Backslash text i total le so_far
ends_inside bytes kept (HalfPair h) text i total le so_far other = at_end bytes kept (HalfPair h) text i total le so_far
