-- A loop over the controls.
use Rattle.std.proofs.Common.{◌≡◌, ℕ, List, [], ◌∷◌, ◌++◌, Option, Result, Ok, Err, Bool, true, false, refl, sym, ap, ◌∙◌, codes}
use Rattle.std.proofs.lemmas.List.{append-nil}
use Rattle.ldif.specs.declared.fault.LdifFaultKind.{LdifFaultKind}
use Rattle.ldif.specs.declared.record.Control.{Control}
use Rattle.ldif.specs.Attrs.{Attr}
use Rattle.base.specs.Answers.{◌>>=◌, Fails}
use Rattle.base.proofs.Each.{passed_on, onto, onto_more}
use Rattle.ldif.specs.Line.{value_line, same_name}
use Rattle.ldif.specs.Controls.{control_of}
use Rattle.ldif.specs.Reading.{controls_of}

abbrev Read : Type 0
Read = Result (List Control × List (List ℕ)) LdifFaultKind

-- a line by whether it is a control
step : Bool → Attr → List ℕ → List (List ℕ) → Read
step true s l ls = control_of s.value >>= λ c. controls_of ls >>= λ x. Ok (c ∷ x.0, x.1)
step false s l ls = Ok ([], l ∷ ls)

first : (l : List ℕ) (ls : List (List ℕ)) (s : Attr) (b : Bool) → value_line l ≡ Ok s → same_name s.name (codes "control") ≡ b → controls_of (l ∷ ls) ≡ step b s l ls
unfolding controls_of step
first l ls s true e is = rw (e, is) refl
first l ls s false e is = rw (e, is) refl

module _ (front : List Control) (all : List (List ℕ)) (l : List ℕ) (ls : List (List ℕ)) (total : Read) (cut : all ≡ l ∷ ls) (so_far : onto front (controls_of all) ≡ total) where
  here : onto front (controls_of (l ∷ ls)) ≡ total
  here = ap (λ (zs : List (List ℕ)). onto front (controls_of zs)) (sym cut) ∙ so_far

  pub one_more : (s : Attr) (c : Control) → value_line l ≡ Ok s → same_name s.name (codes "control") ≡ true → control_of s.value ≡ Ok c → onto (front ++ c ∷ []) (controls_of ls) ≡ total
  unfolding step
  one_more s c e is read = onto_more front c (controls_of ls) ∙ sym (ap (onto front) (first l ls s true e is ∙ ap (λ (r : Result Control LdifFaultKind). r >>= λ c. controls_of ls >>= λ x. Ok (c ∷ x.0, x.1)) read)) ∙ here

  pub no_more : (s : Attr) → value_line l ≡ Ok s → same_name s.name (codes "control") ≡ false → total ≡ Ok (front, all)
  unfolding step onto
  no_more s e other = sym here ∙ ap (onto front) (first l ls s false e other) ∙ ap (λ (cs : List Control). Ok (cs, l ∷ ls)) (append-nil front) ∙ ap (λ (zs : List (List ℕ)). Ok (front, zs)) (sym cut)

  broken : (f : LdifFaultKind) → value_line l ≡ Err f → controls_of (l ∷ ls) ≡ Err f
  unfolding controls_of
  broken f h = rw h refl

  pub bad_line : (e : Option LdifFaultKind) → Fails e (value_line l) → Fails e total
  unfolding onto
  bad_line e = passed_on e (value_line l) total λ f h. sym here ∙ ap (onto front) (broken f h)

  pub bad_value : (e : Option LdifFaultKind) (s : Attr) → value_line l ≡ Ok s → same_name s.name (codes "control") ≡ true → Fails e (control_of s.value) → Fails e total
  unfolding step onto
  bad_value e s read is =
      passed_on e (control_of s.value) total λ f h. sym here ∙ ap (onto front) (first l ls s true read is ∙ ap (λ (r : Result Control LdifFaultKind). r >>= λ c. controls_of ls >>= λ x. Ok (c ∷ x.0, x.1)) h)

pub at_end : (front : List Control) (all : List (List ℕ)) (total : Read) → all ≡ [] → onto front (controls_of all) ≡ total → total ≡ Ok (front, all)
unfolding controls_of onto
at_end front all total nil so_far = sym so_far ∙ ap (λ (zs : List (List ℕ)). onto front (controls_of zs)) nil ∙ ap (λ (cs : List Control). Ok (cs, [])) (append-nil front) ∙ ap (λ (zs : List (List ℕ)). Ok (front, zs)) (sym nil)
