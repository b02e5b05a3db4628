-- Lines that are walked through from place to place: where they stop.
use Rattle.std.proofs.Common.{◌≡◌, ℕ, Bool, true, false, cond, List, [], ◌∷◌, ◌++◌, Result, Ok, Err, refl, sym, ap, subst, ◌∙◌, inl, inr}
use Rattle.base64.specs.GeneralPurpose.{IsBytes}
use Rattle.ldif.specs.declared.fault.LdifFaultKind.{LdifFaultKind}
use Rattle.ldif.specs.declared.fault.LdifFaultKind.TheVariants.{DnMissing, PartMissing, ChangetypeMissing}
use Rattle.ldif.specs.declared.record.Mode.{Mode}
use Rattle.ldif.specs.Places.{Place, text_start, after_version, record_start, contents, changes, attributes, block_start, block_values, new_name, delete_old, new_superior, over, IsStep, IsWay}
use Rattle.ldif.specs.RecordFaults.{IsFaultHere, IsUnfinished, IsBroken}
use Rattle.ldif.proofs.ChangeForms.{AreBytes, bytes_front, bytes_back}
use Rattle.ldif.specs.Steps.{Done, finish, step}
use Rattle.ldif.proofs.Steps.{failed, failed_is, never, step_ok, step_err, ok_step, err_step}
use Rattle.base.specs.Answers.{◌>>=◌}

abbrev pub done : Done
done = Ok tt

unfoldable pub walk : Mode → Place → List (List ℕ) → Done
walk mode p [] = finish p
walk mode p (l ∷ ls) = step mode p l >>= λ q. walk mode q ls

-- ---- the end

is_fault : (f g : LdifFaultKind) → failed {A = Unit {0}} g ≡ failed f → f ≡ g
is_fault f g e = sym (failed_is {A = Unit {0}} g f e)

none : (f : LdifFaultKind) → done ≡ failed f → ⊥
none f e = never tt f e

changes_end : (add : Bool) (f : LdifFaultKind) → cond add done (Err ChangetypeMissing) ≡ Err f → (f ≡ ChangetypeMissing) × (add ≡ false)
changes_end true f e = absurd (none f e)
changes_end false f e = (is_fault f ChangetypeMissing e, refl)

pub unfinished : (p : Place) (f : LdifFaultKind) → finish p ≡ Err f → IsUnfinished p f
unfolding finish
unfinished text_start f e = is_fault f DnMissing e
unfinished after_version f e = absurd (none f e)
unfinished record_start f e = is_fault f DnMissing e
unfinished contents f e = absurd (none f e)
unfinished (changes add) f e = changes_end add f e
unfinished attributes f e = absurd (none f e)
unfinished block_start f e = absurd (none f e)
unfinished (block_values name) f e = absurd (none f e)
unfinished new_name f e = is_fault f PartMissing e
unfinished delete_old f e = is_fault f PartMissing e
unfinished new_superior f e = absurd (none f e)
unfinished over f e = absurd (none f e)

ends : (p : Place) (f : LdifFaultKind) → IsUnfinished p f → finish p ≡ Err f
unfolding finish
ends text_start f h = ap failed (sym h)
ends after_version f h = absurd h
ends record_start f h = ap failed (sym h)
ends contents f h = absurd h
ends (changes add) f h = ap (λ (t : Bool). cond t done (Err ChangetypeMissing)) h.1 ∙ ap failed (sym h.0)
ends attributes f h = absurd h
ends block_start f h = absurd h
ends (block_values name) f h = absurd h
ends new_name f h = ap failed (sym h)
ends delete_old f h = ap failed (sym h)
ends new_superior f h = absurd h
ends over f h = absurd h

-- ---- where they stop

module _ (mode : Mode) where
  on : (p q : Place) (l : List ℕ) (ls : List (List ℕ)) (f : LdifFaultKind) → IsStep mode p l q → IsBroken mode q ls f → IsBroken mode p (l ∷ ls) f
  on p q l ls f s (inl h) = inl (record {
    front = l ∷ h.front;
    bad = h.bad;
    rest = h.rest;
    is = ap (λ (x : List (List ℕ)). l ∷ x) h.is;
    place = h.place;
    way = (q, s, h.way);
    here = h.here;
  })
  on p q l ls f s (inr (place, way, h)) = inr (place, (q, s, way), h)

  stop : (p : Place) (l : List ℕ) (ls : List (List ℕ)) (f : LdifFaultKind) → IsFaultHere p l f → IsBroken mode p (l ∷ ls) f
  stop p l ls f h = inl (record { front = []; bad = l; rest = ls; is = refl; place = p; way = refl; here = h })

  by_step : (p : Place) (l : List ℕ) (ls : List (List ℕ)) (f : LdifFaultKind) → IsBytes l → ((q : Place) → walk mode q ls ≡ Err f → IsBroken mode q ls f) → (r : Result Place LdifFaultKind) → step mode p l ≡ r
      → (r >>= λ q. walk mode q ls) ≡ Err f → IsBroken mode p (l ∷ ls) f
  by_step p l ls f bytes ih (Ok q) e k = on p q l ls f (step_ok mode p l bytes q e) (ih q k)
  by_step p l ls f bytes ih (Err g) e k = stop p l ls f (step_err mode p l bytes f (e ∙ ap (failed {A = Place}) (sym (is_fault f g k))))

  pub broken_found : (p : Place) (ls : List (List ℕ)) (f : LdifFaultKind) → AreBytes ls → walk mode p ls ≡ Err f → IsBroken mode p ls f
  unfolding walk
  broken_found p [] f bytes h = inr (p, refl, unfinished p f h)
  broken_found p (l ∷ ls) f bytes h = by_step p l ls f bytes.0 (λ q k. broken_found q ls f bytes.1 k) (step mode p l) refl h

  pub through : (p q : Place) (front rest : List (List ℕ)) → AreBytes front → IsWay mode p front q → walk mode p (front ++ rest) ≡ walk mode q rest
  unfolding walk
  through p q [] rest bytes e = ap (λ (x : Place). walk mode x rest) e
  through p q (l ∷ front) rest bytes (next, s, way) =
      ap (λ (r : Result Place LdifFaultKind). r >>= λ q. walk mode q (front ++ rest)) (ok_step mode p l bytes.0 next s) ∙ through next q front rest bytes.1 way

  stops : (p : Place) (l : List ℕ) (ls : List (List ℕ)) (f : LdifFaultKind) → IsBytes l → IsFaultHere p l f → walk mode p (l ∷ ls) ≡ Err f
  unfolding walk
  stops p l ls f bytes h = ap (λ (r : Result Place LdifFaultKind). r >>= λ q. walk mode q ls) (err_step mode p l bytes f h)

  pub all_through : (p q : Place) (ls : List (List ℕ)) → AreBytes ls → IsWay mode p ls q → walk mode p ls ≡ finish q
  unfolding walk
  all_through p q [] bytes e = ap finish e
  all_through p q (l ∷ ls) bytes (next, s, way) = ap (λ (r : Result Place LdifFaultKind). r >>= λ q. walk mode q ls) (ok_step mode p l bytes.0 next s) ∙ all_through next q ls bytes.1 way

  pub broken_only : (p : Place) (ls : List (List ℕ)) (f : LdifFaultKind) → AreBytes ls → IsBroken mode p ls f → walk mode p ls ≡ Err f
  broken_only p ls f bytes (inl h) =
      let all = subst AreBytes h.is bytes in
      ap (walk mode p) h.is ∙ through p h.place h.front (h.bad ∷ h.rest) (bytes_front h.front (h.bad ∷ h.rest) all) h.way
      ∙ stops h.place h.bad h.rest f (bytes_back h.front (h.bad ∷ h.rest) all).0 h.here
  broken_only p ls f bytes (inr (place, way, h)) = all_through p place ls bytes way ∙ ends place f h
