-- One line of a record: where it leads to, or its fault.
use Rattle.std.proofs.Common.{◌≡◌, ℕ, Bool, true, false, cond, List, Result, Ok, Err, codes, refl, sym, ap, subst, ◌∙◌, inl, inr}
use Rattle.std.specs.Str.{bytes_eq}
use Rattle.std.proofs.lemmas.Bool.{false_from_ne_true, true≢false}
use Rattle.std.proofs.lemmas.Slice.Eq.{bytes_eq-Decides}
use Rattle.base64.specs.GeneralPurpose.{IsBytes}
use Rattle.ldif.specs.declared.fault.LdifFaultKind.{LdifFaultKind}
use Rattle.ldif.specs.declared.fault.LdifFaultKind.TheVariants.{DnMissing, Version, ChangetypeUnknown, OtherAttribute, PartMissing, StrayLine, ChangetypeMissing, ChangetypeInContent, Word}
use Rattle.ldif.specs.Attrs.{Attr}
use Rattle.ldif.specs.declared.record.Control.{Control}
use Rattle.ldif.specs.declared.record.Op.{Op}
use Rattle.ldif.specs.declared.record.Op.TheVariants as ops
use Rattle.ldif.specs.declared.record.Mode.{Mode}
use Rattle.ldif.specs.Line.{value_line, same_name, is_word}
use Rattle.ldif.specs.Controls.{control_of}
use Rattle.ldif.specs.Reading.{flag_of, op_of}
use Rattle.ldif.specs.Forms.{IsValueLine, IsSame, IsLineOf, IsWord, op_word, flag_word}
use Rattle.ldif.specs.Places.{Place, text_start, after_version, record_start, contents, changes, attributes, block_start, block_values, new_name, delete_old, new_superior, over, body_place, IsChangeWord, IsDn, IsStep}
use Rattle.ldif.specs.Steps.{dn_told, change_told, told, ends_block, step}
use Rattle.ldif.specs.RecordFaults.{Not, IsNoChange, IsMisplaced, EndsBlock, IsFaultHere}
use Rattle.ldif.proofs.Inverted.{chosen, okay, ok_is, good, bad, same_found, same_only, other_found, other_only, other_word}
use Rattle.ldif.proofs.Spaces.{trimmed_found, trimmed_only}
use Rattle.ldif.proofs.ValueForms.{line_found, line_only, value_bytes}
use Rattle.ldif.proofs.ControlForms.{control_found, control_only}
use Rattle.ldif.proofs.ControlFaults.{control_fault_found, control_fault_only}
use Rattle.ldif.proofs.ChangeForms.{attr_of, named_found, named_only, word_found, word_only, word_other, dash_found, dash_only, no_dash, flag_found, flag_only, op_found, op_only}
use Rattle.ldif.proofs.LineFaults.{fault_found, fault_only}
use Rattle.base.specs.Answers.{◌>>=◌}
use Rattle.base.specs.Ends.{without_end}
use Rattle.base.proofs.Bound.{bind_ok}

abbrev pub failed : {A : Type 0} → LdifFaultKind → Result A LdifFaultKind
failed f = Err f

pub failed_is : {A : Type 0} (f g : LdifFaultKind) → failed {A = A} f ≡ failed g → f ≡ g
failed_is f g e = cc

pub never : {A : Type 0} (x : A) (f : LdifFaultKind) → okay x ≡ failed f → ⊥
never x f e = cc

-- ---- words

refused : (t : Bool) (p : Place) (g f : LdifFaultKind) → cond t (okay p) (failed g) ≡ failed f → (t ≡ false) × (f ≡ g)
refused true p g f e = absurd (never p f e)
refused false p g f e = (refl, sym (failed_is {A = Place} g f e))

mapped : {X : Type 0} (r : Result X LdifFaultKind) (p : Place) (f : LdifFaultKind) → (r >>= λ x. okay p) ≡ failed f → r ≡ failed f
mapped (Ok x) p f e = absurd (never p f e)
mapped {X} (Err g) p f e = ap (failed {A = X}) (failed_is {A = Place} g f e)

no_word : (text w : List ℕ) → is_word text w ≡ false → Not (IsWord text w)
no_word text w e h = true≢false (sym (word_only text w h) ∙ e)

not_word : (text w : List ℕ) → Not (IsWord text w) → is_word text w ≡ false
not_word text w h = false_from_ne_true (is_word text w) (λ e. h (word_found text w e))

op_fault : (name : List ℕ) (f : LdifFaultKind) → op_of name ≡ Err f → f ≡ StrayLine
unfolding op_of
op_fault name f h = elim (chosen (same_name name (codes "add")) (okay ops.Add) (cond (same_name name (codes "delete")) (okay ops.Delete) (cond (same_name name (codes "replace")) (okay ops.Replace) (Err StrayLine))) (Err f) h) [
  | inl a ↦ absurd (never ops.Add f a.1)
  | inr a ↦ elim (chosen (same_name name (codes "delete")) (okay ops.Delete) (cond (same_name name (codes "replace")) (okay ops.Replace) (Err StrayLine)) (Err f) a.1) [
    | inl d ↦ absurd (never ops.Delete f d.1)
    | inr d ↦ elim (chosen (same_name name (codes "replace")) (okay ops.Replace) (Err StrayLine) (Err f) d.1) [
      | inl r ↦ absurd (never ops.Replace f r.1)
      | inr r ↦ sym (failed_is {A = Op} StrayLine f r.1)
    ]
  ]
]

no_op : (name : List ℕ) (f : LdifFaultKind) → op_of name ≡ Err f → (op : Op) → Not (IsSame name (op_word op))
no_op name f e op h = never op f (sym (op_only name op h) ∙ e)

not_op_by : (name : List ℕ) → ((op : Op) → Not (IsSame name (op_word op))) → (r : Result Op LdifFaultKind) → op_of name ≡ r → op_of name ≡ Err StrayLine
not_op_by name h (Ok op) e = absurd (h op (op_found name op e))
not_op_by name h (Err f) e = e ∙ ap (failed {A = Op}) (op_fault name f e)

flag_fault : (text : List ℕ) (f : LdifFaultKind) → flag_of text ≡ Err f → f ≡ Word
unfolding flag_of
flag_fault text f h = elim (chosen (is_word text (codes "1")) (okay true) (cond (is_word text (codes "0")) (okay false) (Err Word)) (Err f) h) [
  | inl one ↦ absurd (never true f one.1)
  | inr other ↦ elim (chosen (is_word text (codes "0")) (okay false) (Err Word) (Err f) other.1) [
    | inl z ↦ absurd (never false f z.1)
    | inr z ↦ sym (failed_is {A = Bool} Word f z.1)
  ]
]

no_flag : (text : List ℕ) (f : LdifFaultKind) → flag_of text ≡ Err f → (flag : Bool) → Not (IsWord text (flag_word flag))
no_flag text f e flag h = never flag f (sym (flag_only text flag h) ∙ e)

not_flag_by : (text : List ℕ) → ((flag : Bool) → Not (IsWord text (flag_word flag))) → (r : Result Bool LdifFaultKind) → flag_of text ≡ r → flag_of text ≡ Err Word
not_flag_by text h (Ok flag) e = absurd (h flag (flag_found text flag e))
not_flag_by text h (Err f) e = e ∙ ap (failed {A = Bool}) (flag_fault text f e)

-- ---- the word of `changetype:`

module _ (w : List ℕ) where
  abbrev is : List ℕ → Bool
  is v = is_word w v

  abbrev tests : Bool → Bool → Bool → Bool → Bool → Result Place LdifFaultKind
  tests add delete modify modrdn moddn =
      cond add (okay attributes) (cond delete (okay over) (cond modify (okay block_start) (cond modrdn (okay new_name) (cond moddn (okay new_name) (Err ChangetypeUnknown)))))

  change_ok : (q : Place) → change_told w ≡ Ok q → IsChangeWord w q
  unfolding change_told
  change_ok q h = elim (chosen (is (codes "add")) (okay attributes) (tests false (is (codes "delete")) (is (codes "modify")) (is (codes "modrdn")) (is (codes "moddn"))) (Ok q) h) [
    | inl a ↦ inl (word_found w (codes "add") a.0, sym (ok_is attributes q a.1))
    | inr a ↦ inr (elim (chosen (is (codes "delete")) (okay over) (tests false false (is (codes "modify")) (is (codes "modrdn")) (is (codes "moddn"))) (Ok q) a.1) [
      | inl d ↦ inl (word_found w (codes "delete") d.0, sym (ok_is over q d.1))
      | inr d ↦ inr (elim (chosen (is (codes "modify")) (okay block_start) (tests false false false (is (codes "modrdn")) (is (codes "moddn"))) (Ok q) d.1) [
        | inl m ↦ inl (word_found w (codes "modify") m.0, sym (ok_is block_start q m.1))
        | inr m ↦ inr (elim (chosen (is (codes "modrdn")) (okay new_name) (tests false false false false (is (codes "moddn"))) (Ok q) m.1) [
          | inl n ↦ (inl (word_found w (codes "modrdn") n.0), sym (ok_is new_name q n.1))
          | inr n ↦ (let o = good (is (codes "moddn")) (okay new_name) ChangetypeUnknown q n.1 in (inr (word_found w (codes "moddn") o.0), sym (ok_is new_name q o.1)))
        ])
      ])
    ])
  ]

  change_err : (f : LdifFaultKind) → change_told w ≡ Err f → (f ≡ ChangetypeUnknown) × IsNoChange w
  unfolding change_told
  change_err f h = elim (chosen (is (codes "add")) (okay attributes) (tests false (is (codes "delete")) (is (codes "modify")) (is (codes "modrdn")) (is (codes "moddn"))) (Err f) h) [
    | inl a ↦ absurd (never attributes f a.1)
    | inr a ↦ elim (chosen (is (codes "delete")) (okay over) (tests false false (is (codes "modify")) (is (codes "modrdn")) (is (codes "moddn"))) (Err f) a.1) [
      | inl d ↦ absurd (never over f d.1)
      | inr d ↦ elim (chosen (is (codes "modify")) (okay block_start) (tests false false false (is (codes "modrdn")) (is (codes "moddn"))) (Err f) d.1) [
        | inl m ↦ absurd (never block_start f m.1)
        | inr m ↦ elim (chosen (is (codes "modrdn")) (okay new_name) (tests false false false false (is (codes "moddn"))) (Err f) m.1) [
          | inl n ↦ absurd (never new_name f n.1)
          | inr n ↦ (let o = refused (is (codes "moddn")) new_name ChangetypeUnknown f n.1 in
              (o.1, (no_word w (codes "add") a.0, no_word w (codes "delete") d.0, no_word w (codes "modify") m.0, no_word w (codes "modrdn") n.0, no_word w (codes "moddn") o.0)))
        ]
      ]
    ]
  ]

  ok_change : (q : Place) → IsChangeWord w q → change_told w ≡ Ok q
  unfolding change_told
  ok_change q (inl (h, e)) = ap (λ (t : Bool). tests t (is (codes "delete")) (is (codes "modify")) (is (codes "modrdn")) (is (codes "moddn"))) (word_only w (codes "add") h) ∙ ap okay (sym e)
  ok_change q (inr (inl (h, e))) =
      ap (λ (t : Bool). tests t (is (codes "delete")) (is (codes "modify")) (is (codes "modrdn")) (is (codes "moddn"))) (word_other w (codes "delete") (codes "add") h refl)
      ∙ ap (λ (t : Bool). tests false t (is (codes "modify")) (is (codes "modrdn")) (is (codes "moddn"))) (word_only w (codes "delete") h) ∙ ap okay (sym e)
  ok_change q (inr (inr (inl (h, e)))) =
      ap (λ (t : Bool). tests t (is (codes "delete")) (is (codes "modify")) (is (codes "modrdn")) (is (codes "moddn"))) (word_other w (codes "modify") (codes "add") h refl)
      ∙ ap (λ (t : Bool). tests false t (is (codes "modify")) (is (codes "modrdn")) (is (codes "moddn"))) (word_other w (codes "modify") (codes "delete") h refl)
      ∙ ap (λ (t : Bool). tests false false t (is (codes "modrdn")) (is (codes "moddn"))) (word_only w (codes "modify") h) ∙ ap okay (sym e)
  ok_change q (inr (inr (inr (inl h, e)))) =
      ap (λ (t : Bool). tests t (is (codes "delete")) (is (codes "modify")) (is (codes "modrdn")) (is (codes "moddn"))) (word_other w (codes "modrdn") (codes "add") h refl)
      ∙ ap (λ (t : Bool). tests false t (is (codes "modify")) (is (codes "modrdn")) (is (codes "moddn"))) (word_other w (codes "modrdn") (codes "delete") h refl)
      ∙ ap (λ (t : Bool). tests false false t (is (codes "modrdn")) (is (codes "moddn"))) (word_other w (codes "modrdn") (codes "modify") h refl)
      ∙ ap (λ (t : Bool). tests false false false t (is (codes "moddn"))) (word_only w (codes "modrdn") h) ∙ ap okay (sym e)
  ok_change q (inr (inr (inr (inr h, e)))) =
      ap (λ (t : Bool). tests t (is (codes "delete")) (is (codes "modify")) (is (codes "modrdn")) (is (codes "moddn"))) (word_other w (codes "moddn") (codes "add") h refl)
      ∙ ap (λ (t : Bool). tests false t (is (codes "modify")) (is (codes "modrdn")) (is (codes "moddn"))) (word_other w (codes "moddn") (codes "delete") h refl)
      ∙ ap (λ (t : Bool). tests false false t (is (codes "modrdn")) (is (codes "moddn"))) (word_other w (codes "moddn") (codes "modify") h refl)
      ∙ ap (λ (t : Bool). tests false false false t (is (codes "moddn"))) (word_other w (codes "moddn") (codes "modrdn") h refl)
      ∙ ap (λ (t : Bool). tests false false false false t) (word_only w (codes "moddn") h) ∙ ap okay (sym e)

  err_change : IsNoChange w → change_told w ≡ Err ChangetypeUnknown
  unfolding change_told
  err_change (a, d, m, n, o) =
      ap (λ (t : Bool). tests t (is (codes "delete")) (is (codes "modify")) (is (codes "modrdn")) (is (codes "moddn"))) (not_word w (codes "add") a)
      ∙ ap (λ (t : Bool). tests false t (is (codes "modify")) (is (codes "modrdn")) (is (codes "moddn"))) (not_word w (codes "delete") d)
      ∙ ap (λ (t : Bool). tests false false t (is (codes "modrdn")) (is (codes "moddn"))) (not_word w (codes "modify") m)
      ∙ ap (λ (t : Bool). tests false false false t (is (codes "moddn"))) (not_word w (codes "modrdn") n)
      ∙ ap (λ (t : Bool). tests false false false false t) (not_word w (codes "moddn") o)

-- ---- where a line leads

is_one : (a : Attr) → bytes_eq a.value (codes "1") ≡ true → a.value ≡ codes "1"
is_one a e = (bytes_eq-Decides a.value (codes "1")).0 e

one_is : (v : List ℕ) → v ≡ codes "1" → bytes_eq v (codes "1") ≡ true
one_is v e = (bytes_eq-Decides v (codes "1")).1 e

module _ (mode : Mode) (l : List ℕ) (a : Attr) (bytes : IsBytes l) (said : value_line l ≡ Ok a) where
  abbrev named : (key : List ℕ) → same_name a.name key ≡ true → IsLineOf key l a.value
  named key e = named_found key l a bytes said e

  dn_ok : (q : Place) → dn_told mode a ≡ Ok q → IsDn mode l q
  unfolding dn_told
  dn_ok q h = let g = good (same_name a.name (codes "dn")) (okay (body_place mode)) DnMissing q h in (a.value, named (codes "dn") g.0, sym (ok_is (body_place mode) q g.1))

  told_ok : (p q : Place) → told mode p a ≡ Ok q → IsStep mode p l q
  unfolding told
  told_ok text_start q h = elim (chosen (same_name a.name (codes "version")) (cond (bytes_eq a.value (codes "1")) (okay after_version) (Err Version)) (dn_told mode a) (Ok q) h) [
    | inl y ↦ (let g = good (bytes_eq a.value (codes "1")) (okay after_version) Version q y.1 in inl (subst (IsLineOf (codes "version") l) (is_one a g.0) (named (codes "version") y.0), sym (ok_is after_version q g.1)))
    | inr n ↦ inr (dn_ok q n.1)
  ]
  told_ok after_version q h = dn_ok q h
  told_ok record_start q h = dn_ok q h
  told_ok contents q h =
      let g = bad (same_name a.name (codes "changetype")) (okay contents) ChangetypeInContent q h in
      (a, (line_found l a bytes said, other_found a.name (codes "changetype") g.0), sym (ok_is contents q g.1))
  told_ok (changes add) q h =
      elim (chosen (same_name a.name (codes "control")) (control_of a.value >>= λ c. okay (changes add)) (cond (same_name a.name (codes "changetype")) (change_told a.value) (cond add (okay attributes) (Err ChangetypeMissing))) (Ok q) h) [
        | inl y ↦ (let c = bind_ok (control_of a.value) (λ c. okay (changes add)) q y.1 in
            inl (c.0, record { value = a.value; says = named (codes "control") y.0; form = control_found a.value c.0 (value_bytes l a bytes (line_found l a bytes said)) c.1 }, sym (ok_is (changes add) q c.2)))
        | inr n ↦ inr (elim (chosen (same_name a.name (codes "changetype")) (change_told a.value) (cond add (okay attributes) (Err ChangetypeMissing)) (Ok q) n.1) [
          | inl y ↦ inl (a.value, named (codes "changetype") y.0, change_ok a.value q y.1)
          | inr m ↦ (let g = good add (okay attributes) ChangetypeMissing q m.1 in
              inr (a, line_found l a bytes said, (other_found a.name (codes "control") n.0, other_found a.name (codes "changetype") m.0), g.0, sym (ok_is attributes q g.1)))
        ])
      ]
  told_ok attributes q h = (a, line_found l a bytes said, sym (ok_is attributes q h))
  told_ok block_start q h =
      let o = bind_ok (op_of a.name) (λ op. okay (block_values (without_end a.value))) q h in
      (o.0, a.value, without_end a.value, record { name = a.name; is = line_found l a bytes said; same = op_found a.name o.0 o.1 }, trimmed_found a.value, sym (ok_is (block_values (without_end a.value)) q o.2))
  told_ok (block_values name) q h = let g = good (same_name a.name name) (okay (block_values name)) OtherAttribute q h in inl (a.value, named name g.0, sym (ok_is (block_values name) q g.1))
  told_ok new_name q h = let g = good (same_name a.name (codes "newrdn")) (okay delete_old) PartMissing q h in (a.value, named (codes "newrdn") g.0, sym (ok_is delete_old q g.1))
  told_ok delete_old q h =
      let g = good (same_name a.name (codes "deleteoldrdn")) (flag_of a.value >>= λ f. okay new_superior) PartMissing q h in
      let f = bind_ok (flag_of a.value) (λ f. okay new_superior) q g.1 in
      (a.value, f.0, named (codes "deleteoldrdn") g.0, flag_found a.value f.0 f.1, sym (ok_is new_superior q f.2))
  told_ok new_superior q h = let g = good (same_name a.name (codes "newsuperior")) (okay over) StrayLine q h in (a.value, named (codes "newsuperior") g.0, sym (ok_is over q g.1))
  told_ok over q h = absurd (never q StrayLine (sym h))

-- ---- the fault of its place

module _ (mode : Mode) (a : Attr) (f : LdifFaultKind) where
  dn_err : dn_told mode a ≡ Err f → (f ≡ DnMissing) × Not (IsSame a.name (codes "dn"))
  unfolding dn_told
  dn_err h = let g = refused (same_name a.name (codes "dn")) (body_place mode) DnMissing f h in (g.1, other_found a.name (codes "dn") g.0)

  told_err : (p : Place) → told mode p a ≡ Err f → IsMisplaced p a f
  unfolding told
  told_err text_start h = elim (chosen (same_name a.name (codes "version")) (cond (bytes_eq a.value (codes "1")) (okay after_version) (Err Version)) (dn_told mode a) (Err f) h) [
    | inl y ↦ (let g = refused (bytes_eq a.value (codes "1")) after_version Version f y.1 in inl (g.1, same_found a.name (codes "version") y.0, λ e. true≢false (sym (one_is a.value e) ∙ g.0)))
    | inr n ↦ (let g = dn_err n.1 in inr (g.0, other_found a.name (codes "version") n.0, g.1))
  ]
  told_err after_version h = dn_err h
  told_err record_start h = dn_err h
  told_err contents h = elim (chosen (same_name a.name (codes "changetype")) (Err ChangetypeInContent) (okay contents) (Err f) h) [
    | inl y ↦ (sym (failed_is {A = Place} ChangetypeInContent f y.1), same_found a.name (codes "changetype") y.0)
    | inr n ↦ absurd (never contents f n.1)
  ]
  told_err (changes add) h =
      elim (chosen (same_name a.name (codes "control")) (control_of a.value >>= λ c. okay (changes add)) (cond (same_name a.name (codes "changetype")) (change_told a.value) (cond add (okay attributes) (Err ChangetypeMissing))) (Err f) h) [
        | inl y ↦ inl (same_found a.name (codes "control") y.0, control_fault_found a.value f (mapped (control_of a.value) (changes add) f y.1))
        | inr n ↦ inr (elim (chosen (same_name a.name (codes "changetype")) (change_told a.value) (cond add (okay attributes) (Err ChangetypeMissing)) (Err f) n.1) [
          | inl y ↦ (let c = change_err a.value f y.1 in inl (c.0, same_found a.name (codes "changetype") y.0, c.1))
          | inr m ↦ (let g = refused add attributes ChangetypeMissing f m.1 in inr (g.1, (other_found a.name (codes "control") n.0, other_found a.name (codes "changetype") m.0), g.0))
        ])
      ]
  told_err attributes h = never attributes f h
  told_err block_start h = let e = mapped (op_of a.name) (block_values (without_end a.value)) f h in (op_fault a.name f e, no_op a.name f e)
  told_err (block_values name) h = let g = refused (same_name a.name name) (block_values name) OtherAttribute f h in (g.1, other_found a.name name g.0)
  told_err new_name h = let g = refused (same_name a.name (codes "newrdn")) delete_old PartMissing f h in (g.1, other_found a.name (codes "newrdn") g.0)
  told_err delete_old h = elim (chosen (same_name a.name (codes "deleteoldrdn")) (flag_of a.value >>= λ f. okay new_superior) (Err PartMissing) (Err f) h) [
    | inl y ↦ (let e = mapped (flag_of a.value) new_superior f y.1 in inr (flag_fault a.value f e, same_found a.name (codes "deleteoldrdn") y.0, no_flag a.value f e))
    | inr n ↦ inl (sym (failed_is {A = Place} PartMissing f n.1), other_found a.name (codes "deleteoldrdn") n.0)
  ]
  told_err new_superior h = let g = refused (same_name a.name (codes "newsuperior")) over StrayLine f h in (g.1, other_found a.name (codes "newsuperior") g.0)
  told_err over h = sym (failed_is {A = Place} StrayLine f h)

  err_dn : f ≡ DnMissing → Not (IsSame a.name (codes "dn")) → dn_told mode a ≡ Err f
  unfolding dn_told
  err_dn e h = ap (λ (t : Bool). cond t (okay (body_place mode)) (failed DnMissing)) (other_only a.name (codes "dn") h) ∙ ap failed (sym e)

  abbrev changing : Bool → Bool → Bool → Result Place LdifFaultKind
  changing control changetype add = cond control (control_of a.value >>= λ c. okay (changes add)) (cond changetype (change_told a.value) (cond add (okay attributes) (failed ChangetypeMissing)))

  other_key : (key : List ℕ) (p : Place) (g : LdifFaultKind) → f ≡ g → Not (IsSame a.name key) → cond (same_name a.name key) (okay p) (failed g) ≡ Err f
  other_key key p g e h = ap (λ (t : Bool). cond t (okay p) (failed g)) (other_only a.name key h) ∙ ap failed (sym e)

  err_told : IsBytes a.value → (p : Place) → IsMisplaced p a f → told mode p a ≡ Err f
  unfolding told
  err_told bytes text_start (inl (e, same, no_one)) =
      ap (λ (t : Bool). cond t (cond (bytes_eq a.value (codes "1")) (okay after_version) (failed Version)) (dn_told mode a)) (same_only a.name (codes "version") same)
      ∙ ap (λ (t : Bool). cond t (okay after_version) (failed Version)) (false_from_ne_true (bytes_eq a.value (codes "1")) (λ k. no_one (is_one a k))) ∙ ap failed (sym e)
  err_told bytes text_start (inr (e, no_version, no_dn)) =
      ap (λ (t : Bool). cond t (cond (bytes_eq a.value (codes "1")) (okay after_version) (failed Version)) (dn_told mode a)) (other_only a.name (codes "version") no_version) ∙ err_dn e no_dn
  err_told bytes after_version h = err_dn h.0 h.1
  err_told bytes record_start h = err_dn h.0 h.1
  err_told bytes contents h = ap (λ (t : Bool). cond t (failed ChangetypeInContent) (okay contents)) (same_only a.name (codes "changetype") h.1) ∙ ap failed (sym h.0)
  err_told bytes (changes add) (inl (same, h)) =
      ap (λ (t : Bool). changing t (same_name a.name (codes "changetype")) add) (same_only a.name (codes "control") same)
      ∙ ap (λ (r : Result Control LdifFaultKind). r >>= λ c. okay (changes add)) (control_fault_only a.value f bytes h)
  err_told bytes (changes add) (inr (inl (e, same, h))) =
      ap (λ (t : Bool). changing t (same_name a.name (codes "changetype")) add) (other_word a.name (codes "changetype") (codes "control") same refl)
      ∙ ap (λ (t : Bool). changing false t add) (same_only a.name (codes "changetype") same) ∙ err_change a.value h ∙ ap failed (sym e)
  err_told bytes (changes add) (inr (inr (e, plain, is))) =
      ap (λ (t : Bool). changing t (same_name a.name (codes "changetype")) add) (other_only a.name (codes "control") plain.0)
      ∙ ap (λ (t : Bool). changing false t add) (other_only a.name (codes "changetype") plain.1)
      ∙ ap (λ (t : Bool). cond t (okay attributes) (failed ChangetypeMissing)) is ∙ ap failed (sym e)
  err_told bytes attributes h = absurd h
  err_told bytes block_start h = ap (λ (r : Result Op LdifFaultKind). r >>= λ op. okay (block_values (without_end a.value))) (not_op_by a.name h.1 (op_of a.name) refl) ∙ ap failed (sym h.0)
  err_told bytes (block_values name) h = other_key name (block_values name) OtherAttribute h.0 h.1
  err_told bytes new_name h = other_key (codes "newrdn") delete_old PartMissing h.0 h.1
  err_told bytes delete_old (inl (e, h)) = ap (λ (t : Bool). cond t (flag_of a.value >>= λ f. okay new_superior) (failed PartMissing)) (other_only a.name (codes "deleteoldrdn") h) ∙ ap failed (sym e)
  err_told bytes delete_old (inr (e, same, h)) =
      ap (λ (t : Bool). cond t (flag_of a.value >>= λ f. okay new_superior) (failed PartMissing)) (same_only a.name (codes "deleteoldrdn") same)
      ∙ ap (λ (r : Result Bool LdifFaultKind). r >>= λ f. okay new_superior) (not_flag_by a.value h (flag_of a.value) refl) ∙ ap failed (sym e)
  err_told bytes new_superior h = other_key (codes "newsuperior") over StrayLine h.0 h.1
  err_told bytes over h = ap failed (sym h)

-- ---- a line that leads on does

module _ (mode : Mode) (l : List ℕ) (q : Place) where
  abbrev told_by : Place → Result Attr LdifFaultKind → Result Place LdifFaultKind
  told_by p r = r >>= told mode p

  by_key : (key value : List ℕ) (h : IsLineOf key l value) (p : Place) → told mode p (attr_of h.name value) ≡ Ok q → told_by p (value_line l) ≡ Ok q
  by_key key value h p e = ap (told_by p) (named_only key l value h) ∙ e

  by_attr : (a : Attr) (p : Place) → IsValueLine l a → told mode p a ≡ Ok q → told_by p (value_line l) ≡ Ok q
  by_attr a p h e = ap (told_by p) (line_only l a h) ∙ e

  same_key : (key value : List ℕ) (h : IsLineOf key l value) (p : Place) (g : LdifFaultKind) → q ≡ p → cond (same_name h.name key) (okay p) (failed g) ≡ Ok q
  same_key key value h p g e = ap (λ (t : Bool). cond t (okay p) (failed g)) (same_only h.name key h.same) ∙ ap okay (sym e)

  ok_dn : (p : Place) (h : IsDn mode l q) → ((a : Attr) → same_name a.name (codes "dn") ≡ true → IsSame a.name (codes "dn") → told mode p a ≡ okay (body_place mode)) → told_by p (value_line l) ≡ Ok q
  ok_dn p h k = by_key (codes "dn") h.0 h.1 p (k (attr_of h.1.name h.0) (same_only h.1.name (codes "dn") h.1.same) h.1.same ∙ ap okay (sym h.2))

  dn_is : (a : Attr) → same_name a.name (codes "dn") ≡ true → dn_told mode a ≡ okay (body_place mode)
  unfolding dn_told
  dn_is a e = ap (λ (t : Bool). cond t (okay (body_place mode)) (failed DnMissing)) e

  abbrev changed : List ℕ → Bool → Bool → Bool → Result Place LdifFaultKind
  changed value control changetype add = cond control (control_of value >>= λ c. okay (changes add)) (cond changetype (change_told value) (cond add (okay attributes) (failed ChangetypeMissing)))

  ok_told : (p : Place) → ends_block p l ≡ false → IsStep mode p l q → told_by p (value_line l) ≡ Ok q
  unfolding told
  ok_told text_start n (inl (h, e)) =
      by_key (codes "version") (codes "1") h text_start (ap (λ (t : Bool). cond t (okay after_version) (dn_told mode (attr_of h.name (codes "1")))) (same_only h.name (codes "version") h.same) ∙ ap okay (sym e))
  ok_told text_start n (inr h) =
      ok_dn text_start h (λ a k same. ap (λ (t : Bool). cond t (cond (bytes_eq a.value (codes "1")) (okay after_version) (failed Version)) (dn_told mode a)) (other_word a.name (codes "dn") (codes "version") same refl) ∙ dn_is a k)
  ok_told after_version n h = ok_dn after_version h (λ a k same. dn_is a k)
  ok_told record_start n h = ok_dn record_start h (λ a k same. dn_is a k)
  ok_told contents n (a, (h, other), e) = by_attr a contents h (ap (λ (t : Bool). cond t (failed ChangetypeInContent) (okay contents)) (other_only a.name (codes "changetype") other) ∙ ap okay (sym e))
  ok_told (changes add) n (inl (c, h, e)) =
      by_key (codes "control") h.value h.says (changes add)
      (ap (λ (t : Bool). changed h.value t (same_name h.says.name (codes "changetype")) add) (same_only h.says.name (codes "control") h.says.same)
      ∙ ap (λ (r : Result Control LdifFaultKind). r >>= λ c. okay (changes add)) (control_only h.value c h.form) ∙ ap okay (sym e))
  ok_told (changes add) n (inr (inl (w, h, is))) =
      by_key (codes "changetype") w h (changes add)
      (ap (λ (t : Bool). changed w t (same_name h.name (codes "changetype")) add) (other_word h.name (codes "changetype") (codes "control") h.same refl)
      ∙ ap (λ (t : Bool). changed w false t add) (same_only h.name (codes "changetype") h.same) ∙ ok_change w q is)
  ok_told (changes add) n (inr (inr (a, h, plain, is, e))) =
      by_attr a (changes add) h
      (ap (λ (t : Bool). changed a.value t (same_name a.name (codes "changetype")) add) (other_only a.name (codes "control") plain.0)
      ∙ ap (λ (t : Bool). changed a.value false t add) (other_only a.name (codes "changetype") plain.1)
      ∙ ap (λ (t : Bool). cond t (okay attributes) (failed ChangetypeMissing)) is ∙ ap okay (sym e))
  ok_told attributes n (a, h, e) = by_attr a attributes h (ap okay (sym e))
  ok_told block_start n (op, text, name, h, trimmed, e) =
      by_key (op_word op) text h block_start
      (ap (λ (r : Result Op LdifFaultKind). r >>= λ op. okay (block_values (without_end text))) (op_only h.name op h.same) ∙ ap (λ (x : List ℕ). okay (block_values x)) (trimmed_only text name trimmed) ∙ ap okay (sym e))
  ok_told (block_values name) n (inl (value, h, e)) = by_key name value h (block_values name) (same_key name value h (block_values name) OtherAttribute e)
  ok_told (block_values name) n (inr (h, e)) = absurd (true≢false (sym (dash_only l h) ∙ n))
  ok_told new_name n (value, h, e) = by_key (codes "newrdn") value h new_name (same_key (codes "newrdn") value h delete_old PartMissing e)
  ok_told delete_old n (value, flag, h, is, e) =
      by_key (codes "deleteoldrdn") value h delete_old
      (ap (λ (t : Bool). cond t (flag_of value >>= λ f. okay new_superior) (failed PartMissing)) (same_only h.name (codes "deleteoldrdn") h.same)
      ∙ ap (λ (r : Result Bool LdifFaultKind). r >>= λ f. okay new_superior) (flag_only value flag is) ∙ ap okay (sym e))
  ok_told new_superior n (value, h, e) = by_key (codes "newsuperior") value h new_superior (same_key (codes "newsuperior") value h over StrayLine e)
  ok_told over n h = absurd h

-- ---- a line at a place

dash_place : (p : Place) (l : List ℕ) → ends_block p l ≡ true → EndsBlock p l
dash_place (block_values name) l e = dash_found l e
dash_place text_start l e = absurd (true≢false (sym e))
dash_place after_version l e = absurd (true≢false (sym e))
dash_place record_start l e = absurd (true≢false (sym e))
dash_place contents l e = absurd (true≢false (sym e))
dash_place (changes add) l e = absurd (true≢false (sym e))
dash_place attributes l e = absurd (true≢false (sym e))
dash_place block_start l e = absurd (true≢false (sym e))
dash_place new_name l e = absurd (true≢false (sym e))
dash_place delete_old l e = absurd (true≢false (sym e))
dash_place new_superior l e = absurd (true≢false (sym e))
dash_place over l e = absurd (true≢false (sym e))

place_dash : (p : Place) (l : List ℕ) → EndsBlock p l → ends_block p l ≡ true
place_dash (block_values name) l h = dash_only l h
place_dash text_start l h = absurd h
place_dash after_version l h = absurd h
place_dash record_start l h = absurd h
place_dash contents l h = absurd h
place_dash (changes add) l h = absurd h
place_dash attributes l h = absurd h
place_dash block_start l h = absurd h
place_dash new_name l h = absurd h
place_dash delete_old l h = absurd h
place_dash new_superior l h = absurd h
place_dash over l h = absurd h

dash_step : (mode : Mode) (p : Place) (l : List ℕ) (q : Place) → EndsBlock p l → q ≡ block_start → IsStep mode p l q
dash_step mode (block_values name) l q h e = inr (h, e)
dash_step mode text_start l q h e = absurd h
dash_step mode after_version l q h e = absurd h
dash_step mode record_start l q h e = absurd h
dash_step mode contents l q h e = absurd h
dash_step mode (changes add) l q h e = absurd h
dash_step mode attributes l q h e = absurd h
dash_step mode block_start l q h e = absurd h
dash_step mode new_name l q h e = absurd h
dash_step mode delete_old l q h e = absurd h
dash_step mode new_superior l q h e = absurd h
dash_step mode over l q h e = absurd h

-- a dash where it may stand leads nowhere else
step_dash : (mode : Mode) (p : Place) (l : List ℕ) (q : Place) → EndsBlock p l → IsStep mode p l q → q ≡ block_start
step_dash mode (block_values name) l q d (inl (value, h, e)) = absurd (true≢false (sym (dash_only l d) ∙ no_dash l (attr_of h.name value) h.is))
step_dash mode (block_values name) l q d (inr (h, e)) = e
step_dash mode text_start l q d h = absurd d
step_dash mode after_version l q d h = absurd d
step_dash mode record_start l q d h = absurd d
step_dash mode contents l q d h = absurd d
step_dash mode (changes add) l q d h = absurd d
step_dash mode attributes l q d h = absurd d
step_dash mode block_start l q d h = absurd d
step_dash mode new_name l q d h = absurd d
step_dash mode delete_old l q d h = absurd d
step_dash mode new_superior l q d h = absurd d
step_dash mode over l q d h = absurd d

value_no_dash : (p : Place) (l : List ℕ) (a : Attr) → IsValueLine l a → ends_block p l ≡ false
value_no_dash p l a h = false_from_ne_true (ends_block p l) (λ e. no p (dash_place p l e))
  where
    no : (p : Place) → EndsBlock p l → ⊥
    no (block_values name) d = true≢false (sym (dash_only l d) ∙ no_dash l a h)
    no text_start d = d
    no after_version d = d
    no record_start d = d
    no contents d = d
    no (changes add) d = d
    no attributes d = d
    no block_start d = d
    no new_name d = d
    no delete_old d = d
    no new_superior d = d
    no over d = d

module _ (mode : Mode) (p : Place) (l : List ℕ) (bytes : IsBytes l) where
  pub step_ok : (q : Place) → step mode p l ≡ Ok q → IsStep mode p l q
  unfolding step
  step_ok q h = elim (chosen (ends_block p l) (okay block_start) (value_line l >>= told mode p) (Ok q) h) [
    | inl y ↦ dash_step mode p l q (dash_place p l y.0) (sym (ok_is block_start q y.1))
    | inr n ↦ (let a = bind_ok (value_line l) (told mode p) q n.1 in told_ok mode l a.0 bytes a.1 p q a.2)
  ]

  fault_by : (f : LdifFaultKind) → ends_block p l ≡ false → (r : Result Attr LdifFaultKind) → value_line l ≡ r → (r >>= told mode p) ≡ Err f → IsFaultHere p l f
  fault_by f n (Ok a) e h = inr (a, line_found l a bytes e, told_err mode a f p h)
  fault_by f n (Err g) e h =
      inl (fault_found l f bytes (e ∙ ap (failed {A = Attr}) (failed_is {A = Place} g f h)), λ d. true≢false (sym (place_dash p l d) ∙ n))

  pub step_err : (f : LdifFaultKind) → step mode p l ≡ Err f → IsFaultHere p l f
  unfolding step
  step_err f h = elim (chosen (ends_block p l) (okay block_start) (value_line l >>= told mode p) (Err f) h) [
    | inl y ↦ absurd (never block_start f y.1)
    | inr n ↦ fault_by f n.0 (value_line l) refl n.1
  ]

  ok_by : (q : Place) (t : Bool) → ends_block p l ≡ t → IsStep mode p l q → cond t (okay block_start) (value_line l >>= told mode p) ≡ Ok q
  ok_by q true e h = ap okay (sym (step_dash mode p l q (dash_place p l e) h))
  ok_by q false e h = ok_told mode l q p e h

  pub ok_step : (q : Place) → IsStep mode p l q → step mode p l ≡ Ok q
  unfolding step
  ok_step q h = ok_by q (ends_block p l) refl h

  pub err_step : (f : LdifFaultKind) → IsFaultHere p l f → step mode p l ≡ Err f
  unfolding step
  err_step f (inl (h, n)) =
      ap (λ (t : Bool). cond t (okay block_start) (value_line l >>= told mode p)) (false_from_ne_true (ends_block p l) (λ e. n (dash_place p l e)))
      ∙ ap (λ (r : Result Attr LdifFaultKind). r >>= told mode p) (fault_only l f bytes h)
  err_step f (inr (a, h, m)) =
      ap (λ (t : Bool). cond t (okay block_start) (value_line l >>= told mode p)) (value_no_dash p l a h)
      ∙ ap (λ (r : Result Attr LdifFaultKind). r >>= told mode p) (line_only l a h) ∙ err_told mode a f (value_bytes l a bytes h) p m
