-- Lines that are walked through from the beginning of a record: where the walk stands.
use Rattle.std.proofs.Common.{◌≡◌, ℕ, zero, suc, ◌+◌, Bool, List, [], ◌∷◌, ◌++◌, length, take, Option, Some, None, Result, Ok, Err, refl, sym, ap, subst, ◌∙◌, inl, inr, append_assoc, append-nil, length-append, arith}
use Rattle.std.specs.Prelude.{slice_get}
use Rattle.std.proofs.lemmas.List.{take_at, take_all}
use Rattle.ldif.specs.declared.fault.LdifFaultKind.{LdifFaultKind}
use Rattle.ldif.specs.declared.record.Mode.{Mode}
use Rattle.ldif.specs.declared.record.Record.{Record}
use Rattle.ldif.specs.FaultPlaces.{IsFaultOf, IsAtFault}
use Rattle.ldif.specs.Places.{Place, start, IsStep, IsWay}
use Rattle.ldif.specs.Reading.{reading}
use Rattle.ldif.specs.Steps.{Done, finish, step}
use Rattle.ldif.proofs.ChangeForms.{AreBytes, bytes_back}
use Rattle.ldif.proofs.RecordPlaces.{record_fault_only}
use Rattle.ldif.proofs.Steps.{step_ok, step_err}
use Rattle.ldif.proofs.Walks.{fault_of, reading_walk}
use Rattle.ldif.proofs.Ways.{done, walk, all_through, unfinished}

-- These lines were walked through, to this place, and these are left.
pub record IsWalked (mode : Mode) (first : Bool) (lines : List (List ℕ)) (place : Place) (left : List (List ℕ)) : Type 0 where
  pub front : List (List ℕ)
  pub is : lines ≡ front ++ left
  pub way : IsWay mode (start first) front place

got_at : (front : List (List ℕ)) (l : List ℕ) (rest : List (List ℕ)) (n : ℕ) → length front ≡ n → slice_get (front ++ l ∷ rest) n ≡ Some l
got_at [] l rest zero e = refl
got_at [] l rest (suc n) e = absurd (omega arith)
got_at (x ∷ front) l rest zero e = absurd (omega arith)
got_at (x ∷ front) l rest (suc n) e = got_at front l rest n (omega arith)

none_at : (front : List (List ℕ)) (n : ℕ) → length front ≡ n → slice_get front n ≡ None
none_at [] zero e = refl
none_at [] (suc n) e = refl
none_at (x ∷ front) zero e = absurd (omega arith)
none_at (x ∷ front) (suc n) e = none_at front n (omega arith)

one_step : (mode : Mode) (p q r : Place) (front : List (List ℕ)) (l : List ℕ) → IsWay mode p front q → IsStep mode q l r → IsWay mode p (front ++ l ∷ []) r
one_step mode p q r [] l e s = (r, subst (λ (x : Place). IsStep mode x l r) (sym e) s, refl)
one_step mode p q r (x ∷ front) l (next, s, way) t = (next, s, one_step mode next q r front l way t)

known : (r : Result Record LdifFaultKind) (d : Done) → fault_of r ≡ fault_of d → d ≡ done → (found : Record) × (r ≡ Ok found)
unfolding fault_of
known (Ok found) d e h = (found, refl)
known (Err f) d e h = absurd (let k : Some f ≡ None = e ∙ ap fault_of h in cc)

module _ (mode : Mode) (first : Bool) (lines : List (List ℕ)) (bytes : AreBytes lines) where
  pub walked_none : IsWalked mode first lines (start first) lines
  walked_none = record { front = []; is = refl; way = refl }

  module _ (p : Place) (l : List ℕ) (rest : List (List ℕ)) (h : IsWalked mode first lines p (l ∷ rest)) where
    all_bytes : AreBytes (l ∷ rest)
    all_bytes = bytes_back h.front (l ∷ rest) (subst AreBytes h.is bytes)

    pub walked_more : (q : Place) → step mode p l ≡ Ok q → IsWalked mode first lines q rest
    walked_more q e = record {
      front = h.front ++ l ∷ [];
      is = h.is ∙ sym (append_assoc h.front (l ∷ []) rest);
      way = one_step mode (start first) p q h.front l h.way (step_ok mode p l all_bytes.0 q e);
    }

    pub stops_there : (f : LdifFaultKind) (index : ℕ) → step mode p l ≡ Err f → index + length (l ∷ rest) ≡ length lines → IsAtFault mode first lines index p
    stops_there f index e n =
        let here = step_err mode p l all_bytes.0 f e in
        let len : length h.front ≡ index = omega (arith, n, ap length h.is, length-append h.front (l ∷ rest)) in
        record {
          within = omega (arith, n);
          way = subst (λ (x : List (List ℕ)). IsWay mode (start first) x p) (sym (ap (take index) h.is ∙ take_at h.front (l ∷ rest) index len)) h.way;
          fault = f;
          is = record_fault_only mode first lines f bytes (inl (record { front = h.front; bad = l; rest = rest; is = h.is; place = p; way = h.way; here = here }));
          here = subst (λ (o : Option (List ℕ)). IsFaultOf p o f) (sym (ap (λ (x : List (List ℕ)). slice_get x index) h.is ∙ got_at h.front l rest index len)) here;
        }

  module _ (p : Place) (h : IsWalked mode first lines p []) where
    all : lines ≡ h.front
    all = h.is ∙ append-nil h.front

    whole_way : IsWay mode (start first) lines p
    whole_way = subst (λ (x : List (List ℕ)). IsWay mode (start first) x p) (sym all) h.way

    pub ends_there : (f : LdifFaultKind) → finish p ≡ Err f → IsAtFault mode first lines (length lines) p
    ends_there f e =
        let here = unfinished p f e in
        record {
          within = omega arith;
          way = subst (λ (x : List (List ℕ)). IsWay mode (start first) x p) (sym (take_all (length lines) lines (omega arith))) whole_way;
          fault = f;
          is = record_fault_only mode first lines f bytes (inr (p, whole_way, here));
          here = subst (λ (o : Option (List ℕ)). IsFaultOf p o f) (sym (none_at lines (length lines) refl)) here;
        }

    pub reads : finish p ≡ done → (found : Record) × (reading mode first lines ≡ Ok found)
    reads e = known (reading mode first lines) (walk mode (start first) lines) (reading_walk mode first lines) (all_through mode (start first) p lines bytes whole_way ∙ e)
