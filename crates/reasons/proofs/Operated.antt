-- The first flaw of the parts that operations share: their controls, their names, and the entry as a whole.
use Rattle.std.proofs.Common.{◌≡◌, ◌↔◌, ℕ, cond, List, ◌∷◌, ◌++◌, map, Option, Some, None, Result, Ok, Err, refl, ap, subst, ◌∙◌, true}
use Rattle.std.specs.List.{Any}
use Rattle.base.specs.Answers.{◌>>=◌}
use Rattle.ldif.specs.declared.record.Control.{Control}
use Rattle.ldif.specs.declared.record.Mode.{Mode}
use Rattle.ldif.specs.declared.record.Record.{Record}
use Rattle.schema.specs.declared.code.Code.{Code}
use Rattle.schema.specs.declared.code.Code.TheVariants.{UnavailableCriticalExtension}
use Rattle.paths.specs.Paths.{Path}
use Rattle.schema.specs.Conf.{Conf, located, path_of}
use Rattle.schema.specs.Rdns.{TypedRdn}
use Rattle.entries.specs.Entries.{EntryContent}
use Rattle.entries.specs.Modifies.{unless}
use Rattle.tree.specs.Directories.{Entries}
use Rattle.tree.specs.Changes.{Change, Put}
use Rattle.tree.specs.Operations.{has_critical, controls_of}
use Rattle.reasons.specs.NameFlaws.{HasNameFlaw, HasPlace, name_flaw_code, place_checks}
use Rattle.reasons.specs.EntryFlaws.{HasEntryFlaw, entry_flaw_code, entry_order}
use Rattle.reasons.specs.Asked.{name_of_record, IsToBe, IsToStand, AsksFor}
use Rattle.reasons.specs.Flaws.{Flaw, CriticalControl, Name, Entry, HasFlaw, flaw_code, entry_checks}
use Rattle.reasons.proofs.Answering.{Answers, check, behind, within}
use Rattle.reasons.proofs.Elements.{any_told}
use Rattle.reasons.proofs.Places.{only_path}
use Rattle.reasons.proofs.NameAnswers.{place_answers}
use Rattle.reasons.proofs.EntryAnswers.{looked_at, entry_answers}

-- one step, and a second one behind it
pub in_turn : {A B C F : Type 0} (x : Result A F) (f : A → Result B F) (g : B → Result C F) → ((x >>= f) >>= g) ≡ (x >>= λ a. f a >>= g)
in_turn (Ok a) f g = refl
in_turn (Err e) f g = refl

-- what comes of an entry without a fault
pub then_change : (fault : Option Code) (e : EntryContent) (change : EntryContent → Change) → (unless fault (Ok e) >>= λ out. Ok (change out)) ≡ unless fault (Ok (change e))
then_change None e change = refl
then_change (Some code) e change = refl

-- the change that is asked for, and no other one is
pub record Comes (conf : Conf) (d : Entries) (r : Record) (x : Result Change Code) : Type 0 where
  pub change : Change
  pub is : x ≡ Ok change
  pub asked : AsksFor conf d r change
  pub only : (other : Change) → AsksFor conf d r other → other ≡ change

module _ (conf : Conf) (mode : Mode) (d : Entries) (r : Record) (x : Result Change Code) where
  abbrev pub answers : List Flaw → Type 0
  answers checks = Answers (HasFlaw conf mode d r) flaw_code (Comes conf d r x) checks x

  abbrev text : List ℕ
  text = name_of_record r

  abbrev Placed : Type 0
  Placed = (rdns : List TypedRdn) × HasPlace conf text rdns

  pub name_answers : (next : List TypedRdn → Result Change Code) (checks : List Flaw) → x ≡ (located conf text >>= next)
      → ((rdns : List TypedRdn) → HasPlace conf text rdns → x ≡ next rdns → answers checks) → answers (map Name (place_checks text) ++ checks)
  name_answers next checks is more =
      behind (HasFlaw conf mode d r) flaw_code Placed (Comes conf d r x) (map Name (place_checks text)) checks x
      (within (HasNameFlaw conf text) name_flaw_code (HasFlaw conf mode d r) flaw_code Name Placed (place_checks text) (located conf text) x (λ f h. h) (λ f h. h) (λ f. refl)
      (λ c fails. is ∙ ap (λ (place : Result (List TypedRdn) Code). place >>= next) fails) (place_answers conf text))
      (λ k. more k.0 k.1 (is ∙ ap (λ (place : Result (List TypedRdn) Code). place >>= next) k.1))

  pub control_answers : (rest : Result Change Code) (checks : List Flaw) → x ≡ cond (has_critical (controls_of r)) (Err UnavailableCriticalExtension) rest
      → (x ≡ rest → answers checks) → answers (CriticalControl ∷ checks)
  control_answers rest checks is more = check (HasFlaw conf mode d r) flaw_code (Comes conf d r x) (has_critical (controls_of r)) CriticalControl checks x rest is critical.0 critical.1 λ free. more
    where
      critical : (has_critical (controls_of r) ≡ true) ↔ Any (λ (c : Control). c.critical ≡ true) (controls_of r)
      critical = any_told (λ (c : Control). c.critical) (λ c. c.critical ≡ true) (λ c. (λ h. h, λ h. h)) (controls_of r)

  pub whole_answers : (e : EntryContent) (rest : Result Change Code) → IsToBe conf d r e → ((other : EntryContent) → IsToBe conf d r other → other ≡ e) → x ≡ looked_at conf e.attrs rest
      → Answers (HasFlaw conf mode d r) flaw_code (x ≡ rest) entry_checks x
  whole_answers e rest have only is =
      within (HasEntryFlaw conf e.attrs) entry_flaw_code (HasFlaw conf mode d r) flaw_code Entry (x ≡ rest) entry_order x x
      (λ f h. (e, have, h)) (λ f h. subst (λ (other : EntryContent). HasEntryFlaw conf other.attrs f) (only h.0 h.1) h.2) (λ f. refl) (λ c fails. fails)
      (entry_answers conf e.attrs x rest is)

  -- the entry stands at the path of its name
  pub put_comes : (rdns : List TypedRdn) (here : HasPlace conf text rdns) (e : EntryContent) → IsToBe conf d r e → ((other : EntryContent) → IsToBe conf d r other → other ≡ e)
      → ((change : Change) → IsToStand conf d r change → AsksFor conf d r change) → ((change : Change) → AsksFor conf d r change → IsToStand conf d r change)
      → x ≡ Ok (Put (path_of conf rdns) e) → Comes conf d r x
  put_comes rdns here e have only to from is = record {
    change = Put (path_of conf rdns) e;
    is = is;
    asked = to (Put (path_of conf rdns) e) (path_of conf rdns, (rdns, here, refl), e, have, refl);
    only = λ other h. let k = from other h in
        k.4 ∙ ap (λ (path : Path). Put path k.2) (only_path conf text rdns k.0 here k.1) ∙ ap (λ (a : EntryContent). Put (path_of conf rdns) a) (only k.2 k.3);
  }
