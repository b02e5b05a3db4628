-- A record is read exactly where its lines have the form of one.
use Rattle.std.proofs.Common.{◌≡◌, ℕ, Bool, true, false, cond, List, [], ◌∷◌, ◌++◌, Result, Ok, Err, codes, refl, sym, ap, subst, ◌∙◌, inl, inr, ◌⊎◌}
use Rattle.std.specs.Str.{bytes_eq}
use Rattle.std.proofs.lemmas.Slice.Eq.{bytes_eq-Decides}
use Rattle.base64.specs.GeneralPurpose.{IsBytes}
use Rattle.ldif.specs.declared.fault.LdifFaultKind.{LdifFaultKind}
use Rattle.ldif.specs.declared.fault.LdifFaultKind.TheVariants.{DnMissing, Version, ChangetypeMissing, ChangetypeInContent}
use Rattle.ldif.specs.Attrs.{Attr}
use Rattle.ldif.specs.declared.record.Control.{Control}
use Rattle.ldif.specs.declared.record.Mode.{Mode}
use Rattle.ldif.specs.declared.record.Mode.TheVariants.{Content, Changes}
use Rattle.ldif.specs.declared.record.Record.{Record}
use Rattle.ldif.specs.declared.record.Record.TheVariants as records
use Rattle.base.specs.Answers.{◌>>=◌, each}
use Rattle.ldif.specs.Line.{value_line, same_name}
use Rattle.ldif.specs.Controls.{control_of}
use Rattle.ldif.specs.Reading.{content_line, controls_of, change, after_controls, body, entry, after_version, first_of_text, reading}
use Rattle.ldif.specs.Forms.{IsEach, IsValueLine, IsSame, IsLineOf, IsControlLine, BeginsPlain, IsTyped, IsTail, IsContentLine, IsBody, IsEntry, IsVersioned, IsRecord}
use Rattle.base.proofs.Bound.{bind_ok}
use Rattle.ldif.proofs.Inverted.{chosen, okay, ok_is, good, bad, same_only, other_found, other_only, other_word, each_found, each_only, each_map, each_all, Reads}
use Rattle.ldif.proofs.ValueForms.{line_found, line_only, value_bytes}
use Rattle.ldif.proofs.ControlForms.{control_found, control_only}
use Rattle.ldif.proofs.ChangeForms.{AreBytes, named_found, named_only, attr_of, attrs_only, change_found, change_only, bytes_back}

-- ---- content lines

content_found : (line : List ℕ) (a : Attr) → IsBytes line → content_line line ≡ Ok a → IsContentLine line a
unfolding content_line
content_found line a bytes h =
    let b = bind_ok (value_line line) (λ x. cond (same_name x.name (codes "changetype")) (Err ChangetypeInContent) (Ok x)) a h in
    let g = bad (same_name b.0.name (codes "changetype")) (Ok b.0) ChangetypeInContent a b.2 in
    subst (λ (x : Attr). IsContentLine line x) (ok_is b.0 a g.1) (line_found line b.0 bytes b.1, other_found b.0.name (codes "changetype") g.0)

content_only : (line : List ℕ) (a : Attr) → IsContentLine line a → content_line line ≡ Ok a
unfolding content_line
content_only line a h =
    ap (λ (r : Result Attr LdifFaultKind). r >>= λ x. cond (same_name x.name (codes "changetype")) (Err ChangetypeInContent) (Ok x)) (line_only line a h.0)
    ∙ ap (λ (t : Bool). cond t (Err ChangetypeInContent) (okay a)) (other_only a.name (codes "changetype") h.1)

-- ---- controls

abbrev Controlled : Type 0
Controlled = List Control × List (List ℕ)

abbrev controlled : List Control → List (List ℕ) → Result Controlled LdifFaultKind
controlled cs ls = Ok (cs, ls)

-- the controls at the front, behind which stands none
record IsControlled (ls : List (List ℕ)) (x : Controlled) : Type 0 where
  pub front : List (List ℕ)
  pub is : ls ≡ front ++ x.1
  pub lines_are : IsEach IsControlLine front x.0
  pub stop : controls_of x.1 ≡ Ok ([], x.1)

controls_found : (ls : List (List ℕ)) (x : Controlled) → AreBytes ls → controls_of ls ≡ Ok x → IsControlled ls x
unfolding controls_of
controls_found [] x bytes h =
    let none : Controlled = ([], []) in
    subst (λ (y : Controlled). IsControlled [] y) (ok_is none x h) (record { front = []; is = refl; lines_are = tt; stop = refl })
controls_found (l ∷ ls) x bytes h =
    let a = bind_ok (value_line l) (λ attr. cond (same_name attr.name (codes "control")) (control_of attr.value >>= λ c. controls_of ls >>= λ o. controlled (c ∷ o.0) o.1) (controlled [] (l ∷ ls))) x h in
    let last : Controlled = ([], l ∷ ls) in
    elim (chosen (same_name a.0.name (codes "control")) (control_of a.0.value >>= λ c. controls_of ls >>= λ o. controlled (c ∷ o.0) o.1) (controlled [] (l ∷ ls)) (Ok x) a.2) [
      | inl k ↦ (
          let c = bind_ok (control_of a.0.value) (λ c. controls_of ls >>= λ o. controlled (c ∷ o.0) o.1) x k.1 in
          let o = bind_ok (controls_of ls) (λ o. controlled (c.0 ∷ o.0) o.1) x c.2 in
          let more = controls_found ls o.0 bytes.1 o.1 in
          let all : Controlled = (c.0 ∷ o.0.0, o.0.1) in
          let says = named_found (codes "control") l a.0 bytes.0 a.1 k.0 in
          subst (λ (y : Controlled). IsControlled (l ∷ ls) y) (ok_is all x o.2) (record {
            front = l ∷ more.front;
            is = ap (λ (z : List (List ℕ)). l ∷ z) more.is;
            lines_are = (record { value = a.0.value; says = says; form = control_found a.0.value c.0 (value_bytes l a.0 bytes.0 (line_found l a.0 bytes.0 a.1)) c.1 }, more.lines_are);
            stop = more.stop;
          }))
      | inr k ↦ subst (λ (y : Controlled). IsControlled (l ∷ ls) y) (ok_is last x k.1)
          (record { front = []; is = refl; lines_are = tt; stop = h ∙ ap okay (sym (ok_is last x k.1)) })
    ]

controls_only : (front rest : List (List ℕ)) (cs : List Control) → IsEach IsControlLine front cs → controls_of rest ≡ Ok ([], rest) → controls_of (front ++ rest) ≡ Ok (cs, rest)
unfolding controls_of
controls_only [] rest [] h stop = stop
controls_only [] rest (c ∷ cs) h stop = absurd h
controls_only (l ∷ front) rest [] h stop = absurd h
controls_only (l ∷ front) rest (c ∷ cs) h stop =
    let line = h.0 in
    ap (λ (r : Result Attr LdifFaultKind). r >>= λ attr. cond (same_name attr.name (codes "control")) (control_of attr.value >>= λ x. controls_of (front ++ rest) >>= λ o. controlled (x ∷ o.0) o.1) (controlled [] (l ∷ (front ++ rest)))) (named_only (codes "control") l line.value line.says)
    ∙ ap (λ (t : Bool). cond t (control_of line.value >>= λ x. controls_of (front ++ rest) >>= λ o. controlled (x ∷ o.0) o.1) (controlled [] (l ∷ (front ++ rest)))) (same_only line.says.name (codes "control") line.says.same)
    ∙ ap (λ (r : Result Control LdifFaultKind). r >>= λ x. controls_of (front ++ rest) >>= λ o. controlled (x ∷ o.0) o.1) (control_only line.value c line.form)
    ∙ ap (λ (r : Result Controlled LdifFaultKind). r >>= λ o. controlled (c ∷ o.0) o.1) (controls_only front rest cs h.1 stop)

-- a line behind the controls is none
no_control : (l : List ℕ) (ls : List (List ℕ)) (a : Attr) → controls_of (l ∷ ls) ≡ Ok ([], l ∷ ls) → value_line l ≡ Ok a → same_name a.name (codes "control") ≡ false
unfolding controls_of
no_control l ls a stop e =
    let last : Controlled = ([], l ∷ ls) in
    let k = sym (ap (λ (r : Result Attr LdifFaultKind). r >>= λ attr. cond (same_name attr.name (codes "control")) (control_of attr.value >>= λ c. controls_of ls >>= λ o. controlled (c ∷ o.0) o.1) (controlled [] (l ∷ ls))) e) ∙ stop in
    elim (chosen (same_name a.name (codes "control")) (control_of a.value >>= λ c. controls_of ls >>= λ o. controlled (c ∷ o.0) o.1) (controlled [] (l ∷ ls)) (Ok last) k) [
      | inl y ↦ (
          let c = bind_ok (control_of a.value) (λ c. controls_of ls >>= λ o. controlled (c ∷ o.0) o.1) last y.1 in
          let o = bind_ok (controls_of ls) (λ o. controlled (c.0 ∷ o.0) o.1) last c.2 in
          let all : Controlled = (c.0 ∷ o.0.0, o.0.1) in
          let same : all ≡ last = ok_is all last o.2 in
          let heads : c.0 ∷ o.0.0 ≡ [] = ap (λ (z : Controlled). z.0) same in
          absurd cc)
      | inr n ↦ n.0
    ]

stops : (l : List ℕ) (ls : List (List ℕ)) (a : Attr) → value_line l ≡ Ok a → same_name a.name (codes "control") ≡ false → controls_of (l ∷ ls) ≡ Ok ([], l ∷ ls)
unfolding controls_of
stops l ls a e other =
    ap (λ (r : Result Attr LdifFaultKind). r >>= λ attr. cond (same_name attr.name (codes "control")) (control_of attr.value >>= λ c. controls_of ls >>= λ o. controlled (c ∷ o.0) o.1) (controlled [] (l ∷ ls))) e
    ∙ ap (λ (t : Bool). cond t (control_of a.value >>= λ c. controls_of ls >>= λ o. controlled (c ∷ o.0) o.1) (controlled [] (l ∷ ls))) other

-- ---- behind the controls

module _ (add : Bool) (dn : List ℕ) (cs : List Control) where
  abbrev added : List Attr → Result Record LdifFaultKind
  added attrs = Ok (records.Add dn cs attrs)

  abbrev by_name : List ℕ → List (List ℕ) → Attr → Bool → Result Record LdifFaultKind
  by_name l ls attr is = cond is (change dn cs attr.value ls) (cond add (each value_line (l ∷ ls) >>= λ attrs. added attrs) (Err ChangetypeMissing))

  begins : (l : List ℕ) (ls : List (List ℕ)) (a : Attr) (attrs : List Attr) → value_line l ≡ Ok a → same_name a.name (codes "control") ≡ false → same_name a.name (codes "changetype") ≡ false
      → IsEach (Reads value_line) (l ∷ ls) attrs → BeginsPlain attrs
  begins l ls a [] e c t h = tt
  begins l ls a (b ∷ attrs) e c t h =
      let same : a ≡ b = ok_is a b (sym e ∙ h.0) in
      subst (λ (x : Attr). (IsSame x.name (codes "control") → ⊥) × (IsSame x.name (codes "changetype") → ⊥)) same (other_found a.name (codes "control") c, other_found a.name (codes "changetype") t)

  tail_found : (ls : List (List ℕ)) (r : Record) → AreBytes ls → controls_of ls ≡ Ok ([], ls) → after_controls add dn cs ls ≡ Ok r → IsTail add dn cs ls r
  unfolding after_controls
  tail_found [] r bytes stop h =
      let g = good add (added []) ChangetypeMissing r h in
      inr (g.0, record { attrs = []; lines_are = tt; begins = tt; record_is = sym (ok_is (records.Add dn cs []) r g.1) })
  tail_found (l ∷ ls) r bytes stop h =
      let a = bind_ok (value_line l) (λ attr. by_name l ls attr (same_name attr.name (codes "changetype"))) r h in
      elim (chosen (same_name a.0.name (codes "changetype")) (change dn cs a.0.value ls) (by_name l ls a.0 false) (Ok r) a.2) [
        | inl t ↦ inl (record {
          line = l;
          more = ls;
          is = refl;
          word = a.0.value;
          word_line = named_found (codes "changetype") l a.0 bytes.0 a.1 t.0;
          change = change_found dn cs a.0.value ls r bytes.1 t.1;
        })
        | inr t ↦ (
            let g = good add (each value_line (l ∷ ls) >>= λ attrs. added attrs) ChangetypeMissing r t.1 in
            let v = bind_ok (each value_line (l ∷ ls)) (λ attrs. added attrs) r g.1 in
            let reads = each_found value_line (l ∷ ls) v.0 v.1 in
            inr (
              g.0,
              record {
                attrs = v.0;
                lines_are = each_map IsBytes (Reads value_line) IsValueLine line_found (l ∷ ls) v.0 bytes reads;
                begins = begins l ls a.0 v.0 a.1 (no_control l ls a.0 stop a.1) t.0 reads;
                record_is = sym (ok_is (records.Add dn cs v.0) r v.2);
              },
            ))
      ]

  tail_stops : (ls : List (List ℕ)) (r : Record) → IsTail add dn cs ls r → controls_of ls ≡ Ok ([], ls)
  unfolding controls_of
  tail_stops ls r (inl h) =
      subst (λ (x : List (List ℕ)). controls_of x ≡ Ok ([], x)) (sym h.is)
      (stops h.line h.more (attr_of h.word_line.name h.word) (named_only (codes "changetype") h.line h.word h.word_line) (other_word h.word_line.name (codes "changetype") (codes "control") h.word_line.same refl))
  tail_stops [] r (inr h) = refl
  tail_stops (l ∷ ls) r (inr h) =
      elim h.1.attrs as (λ attrs. IsEach IsValueLine (l ∷ ls) attrs → BeginsPlain attrs → controls_of (l ∷ ls) ≡ Ok ([], l ∷ ls)) [
        | [] ↦ λ e b. absurd e
        | a ∷ attrs ↦ λ e b. stops l ls a (line_only l a e.0) (other_only a.name (codes "control") b.0)
      ] h.1.lines_are h.1.begins

  typed_only : (ls : List (List ℕ)) (r : Record) → IsTyped dn cs ls r → after_controls add dn cs ls ≡ Ok r
  unfolding after_controls
  typed_only ls r h =
      ap (after_controls add dn cs) h.is
      ∙ ap (λ (x : Result Attr LdifFaultKind). x >>= λ attr. by_name h.line h.more attr (same_name attr.name (codes "changetype"))) (named_only (codes "changetype") h.line h.word h.word_line)
      ∙ ap (by_name h.line h.more (attr_of h.word_line.name h.word)) (same_only h.word_line.name (codes "changetype") h.word_line.same)
      ∙ change_only dn cs h.word h.more r h.change

  untyped_only : (ls : List (List ℕ)) (attrs : List Attr) → add ≡ true → IsEach IsValueLine ls attrs → BeginsPlain attrs → after_controls add dn cs ls ≡ Ok (records.Add dn cs attrs)
  unfolding after_controls
  untyped_only [] [] e h b = ap (λ (t : Bool). cond t (added []) (Err ChangetypeMissing)) e
  untyped_only [] (a ∷ attrs) e h b = absurd h
  untyped_only (l ∷ ls) [] e h b = absurd h
  untyped_only (l ∷ ls) (a ∷ attrs) e h b =
      ap (λ (x : Result Attr LdifFaultKind). x >>= λ attr. by_name l ls attr (same_name attr.name (codes "changetype"))) (line_only l a h.0)
      ∙ ap (by_name l ls a) (other_only a.name (codes "changetype") b.1)
      ∙ ap (λ (t : Bool). cond t (each value_line (l ∷ ls) >>= λ all. added all) (Err ChangetypeMissing)) e
      ∙ ap (λ (x : Result (List Attr) LdifFaultKind). x >>= λ all. added all) (attrs_only (l ∷ ls) (a ∷ attrs) h)

  tail_only : (ls : List (List ℕ)) (r : Record) → IsTail add dn cs ls r → after_controls add dn cs ls ≡ Ok r
  tail_only ls r (inl h) = typed_only ls r h
  tail_only ls r (inr h) = untyped_only ls h.1.attrs h.0 h.1.lines_are h.1.begins ∙ ap okay (sym h.1.record_is)

-- ---- records

body_found : (mode : Mode) (dn : List ℕ) (ls : List (List ℕ)) (r : Record) → AreBytes ls → body mode dn ls ≡ Ok r → IsBody mode dn ls r
unfolding body
body_found Content dn ls r bytes h =
    let a = bind_ok (each content_line ls) (λ attrs. Ok (records.Content dn attrs)) r h in
    record { attrs = a.0; lines_are = each_map IsBytes (Reads content_line) IsContentLine content_found ls a.0 bytes (each_found content_line ls a.0 a.1); record_is = sym (ok_is (records.Content dn a.0) r a.2) }
body_found (Changes add) dn ls r bytes h =
    let c = bind_ok (controls_of ls) (λ c. after_controls add dn c.0 c.1) r h in
    let k = controls_found ls c.0 bytes c.1 in
    record { front = k.front; rest = c.0.1; is = k.is; controls = c.0.0; front_is = k.lines_are; tail = tail_found add dn c.0.0 c.0.1 r (bytes_back k.front c.0.1 (subst AreBytes k.is bytes)) k.stop c.2 }

body_only : (mode : Mode) (dn : List ℕ) (ls : List (List ℕ)) (r : Record) → IsBody mode dn ls r → body mode dn ls ≡ Ok r
unfolding body
body_only Content dn ls r h =
    ap (λ (x : Result (List Attr) LdifFaultKind). x >>= λ attrs. okay (records.Content dn attrs)) (each_only content_line ls h.attrs (each_all IsContentLine (Reads content_line) content_only ls h.attrs h.lines_are))
    ∙ ap okay (sym h.record_is)
body_only (Changes add) dn ls r h =
    ap (λ (x : List (List ℕ)). controls_of x >>= λ c. after_controls add dn c.0 c.1) h.is
    ∙ ap (λ (x : Result Controlled LdifFaultKind). x >>= λ c. after_controls add dn c.0 c.1) (controls_only h.front h.rest h.controls h.front_is (tail_stops add dn h.controls h.rest r h.tail))
    ∙ tail_only add dn h.controls h.rest r h.tail

entry_found : (mode : Mode) (ls : List (List ℕ)) (r : Record) → AreBytes ls → entry mode ls ≡ Ok r → IsEntry mode ls r
unfolding entry
entry_found mode [] r bytes h = absurd cc
entry_found mode (l ∷ ls) r bytes h =
    let a = bind_ok (value_line l) (λ attr. cond (same_name attr.name (codes "dn")) (body mode attr.value ls) (Err DnMissing)) r h in
    let g = good (same_name a.0.name (codes "dn")) (body mode a.0.value ls) DnMissing r a.2 in
    record { line = l; more = ls; is = refl; dn = a.0.value; dn_line = named_found (codes "dn") l a.0 bytes.0 a.1 g.0; body = body_found mode a.0.value ls r bytes.1 g.1 }

entry_only : (mode : Mode) (ls : List (List ℕ)) (r : Record) → IsEntry mode ls r → entry mode ls ≡ Ok r
unfolding entry
entry_only mode ls r h =
    ap (entry mode) h.is
    ∙ ap (λ (x : Result Attr LdifFaultKind). x >>= λ attr. cond (same_name attr.name (codes "dn")) (body mode attr.value h.more) (Err DnMissing)) (named_only (codes "dn") h.line h.dn h.dn_line)
    ∙ ap (λ (t : Bool). cond t (body mode h.dn h.more) (Err DnMissing)) (same_only h.dn_line.name (codes "dn") h.dn_line.same)
    ∙ body_only mode h.dn h.more r h.body

abbrev by_version : Mode → List ℕ → List (List ℕ) → Attr → Bool → Result Record LdifFaultKind
by_version mode l ls attr is = cond is (cond (bytes_eq attr.value (codes "1")) (after_version mode ls) (Err Version)) (entry mode (l ∷ ls))

versioned_found : (mode : Mode) (ls : List (List ℕ)) (r : Record) → AreBytes ls → after_version mode ls ≡ Ok r → ((ls ≡ []) × (r ≡ records.Empty)) ⊎ IsEntry mode ls r
unfolding after_version
versioned_found mode [] r bytes h = inl (refl, sym (ok_is records.Empty r h))
versioned_found mode (l ∷ ls) r bytes h = inr (entry_found mode (l ∷ ls) r bytes h)

entry_some : (mode : Mode) (ls : List (List ℕ)) (r : Record) → IsEntry mode ls r → after_version mode ls ≡ entry mode ls
unfolding after_version
entry_some mode ls r h = ap (after_version mode) h.is ∙ ap (entry mode) (sym h.is)

versioned_only : (mode : Mode) (ls : List (List ℕ)) (r : Record) → ((ls ≡ []) × (r ≡ records.Empty)) ⊎ IsEntry mode ls r → after_version mode ls ≡ Ok r
unfolding after_version
versioned_only mode ls r (inl h) = ap (after_version mode) h.0 ∙ ap okay (sym h.1)
versioned_only mode ls r (inr h) = entry_some mode ls r h ∙ entry_only mode ls r h

first_found : (mode : Mode) (ls : List (List ℕ)) (r : Record) → AreBytes ls → first_of_text mode ls ≡ Ok r → IsVersioned mode ls r ⊎ IsEntry mode ls r
unfolding first_of_text
first_found mode [] r bytes h = absurd cc
first_found mode (l ∷ ls) r bytes h =
    let a = bind_ok (value_line l) (λ attr. by_version mode l ls attr (same_name attr.name (codes "version"))) r h in
    elim (chosen (same_name a.0.name (codes "version")) (by_version mode l ls a.0 true) (entry mode (l ∷ ls)) (Ok r) a.2) [
      | inl v ↦ (
          let g = good (bytes_eq a.0.value (codes "1")) (after_version mode ls) Version r v.1 in
          let one : a.0.value ≡ codes "1" = (bytes_eq-Decides a.0.value (codes "1")).0 g.0 in
          inl (record {
            line = l;
            more = ls;
            is = refl;
            version = subst (λ (x : List ℕ). IsLineOf (codes "version") l x) one (named_found (codes "version") l a.0 bytes.0 a.1 v.0);
            rest = versioned_found mode ls r bytes.1 g.1;
          }))
      | inr v ↦ inr (entry_found mode (l ∷ ls) r bytes v.1)
    ]

first_only : (mode : Mode) (ls : List (List ℕ)) (r : Record) → IsVersioned mode ls r ⊎ IsEntry mode ls r → first_of_text mode ls ≡ Ok r
unfolding first_of_text
first_only mode ls r (inl h) =
    ap (first_of_text mode) h.is
    ∙ ap (λ (x : Result Attr LdifFaultKind). x >>= λ attr. by_version mode h.line h.more attr (same_name attr.name (codes "version"))) (named_only (codes "version") h.line (codes "1") h.version)
    ∙ ap (by_version mode h.line h.more (attr_of h.version.name (codes "1"))) (same_only h.version.name (codes "version") h.version.same)
    ∙ versioned_only mode h.more r h.rest
first_only mode ls r (inr h) =
    ap (first_of_text mode) h.is
    ∙ ap (λ (x : Result Attr LdifFaultKind). x >>= λ attr. by_version mode h.line h.more attr (same_name attr.name (codes "version"))) (named_only (codes "dn") h.line h.dn h.dn_line)
    ∙ ap (by_version mode h.line h.more (attr_of h.dn_line.name h.dn)) (other_word h.dn_line.name (codes "dn") (codes "version") h.dn_line.same refl)
    ∙ ap (entry mode) (sym h.is) ∙ entry_only mode ls r h

pub record_found : (mode : Mode) (first : Bool) (ls : List (List ℕ)) (r : Record) → AreBytes ls → reading mode first ls ≡ Ok r → IsRecord mode first ls r
record_found mode true ls r bytes h = first_found mode ls r bytes h
record_found mode false ls r bytes h = entry_found mode ls r bytes h

pub record_only : (mode : Mode) (first : Bool) (ls : List (List ℕ)) (r : Record) → IsRecord mode first ls r → reading mode first ls ≡ Ok r
record_only mode true ls r h = first_only mode ls r h
record_only mode false ls r h = entry_only mode ls r h
