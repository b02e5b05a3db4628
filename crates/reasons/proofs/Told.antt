-- What comes of a record, by its first flaw.
use Rattle.std.proofs.Common.{List, ◌∷◌, ◌⊎◌, ◌≢◌, ◌≡◌, ◌↔◌, map, ◌++◌, Result, Ok, Err, refl, sym, ap, subst, ◌∙◌, inl, Bool, true, not, []}
use Rattle.std.specs.Prelude.{nat_eq}
use Rattle.std.specs.List.{AllByRecursion, list_all}
use Rattle.std.proofs.lemmas.Bool.{eq-eqb}
use Rattle.ldif.specs.declared.record.Mode.{Mode}
use Rattle.ldif.specs.declared.record.Record.{Record}
use Rattle.ldif.specs.declared.record.Record.TheVariants as records
use Rattle.schema.specs.declared.code.Code.{Code}
use Rattle.schema.specs.Conf.{Conf}
use Rattle.tree.specs.Directories.{Entries}
use Rattle.tree.specs.Changes.{Change, Nothing}
use Rattle.tree.specs.Operations.{change_asked, change_of}
use Rattle.schema.specs.Codes.{code_number}
use Rattle.schema.specs.FirstFlaws.{Not}
use Rattle.reasons.specs.Asked.{AsksFor}
use Rattle.reasons.specs.NameFlaws.{place_checks}
use Rattle.reasons.specs.Flaws.{Flaw, Name, HasFlaw, IsFirst, IsRefused, IsFlawless, IsAllowed, IsGranted, flaw_code, checks_of, add_checks, delete_checks, modify_checks, rename_checks}
use Rattle.reasons.proofs.Answering.{refusal, is_no_answer, answers_first, first_answers, answers_none, none_answers, none_before}
use Rattle.reasons.proofs.Elements.{off, both}
use Rattle.reasons.proofs.AvaAnswers.{same_ok}
use Rattle.reasons.proofs.Operated.{Comes, answers, control_answers}
use Rattle.reasons.proofs.AddAnswers.{add_answers, delete_answers}
use Rattle.reasons.proofs.ModifyAnswers.{modify_answers}
use Rattle.reasons.proofs.RenameAnswers.{rename_answers}

all_answer : (conf : Conf) (mode : Mode) (d : Entries) (r : Record) → answers conf mode d r (change_of conf mode d r) (checks_of r)
all_answer conf mode d records.Empty = record { change = Nothing; is = refl; asked = refl; only = λ other h. h }
all_answer conf mode d (records.Content dn attrs) =
    let r : Record = records.Content dn attrs in
    let x : Result Change Code = change_of conf mode d r in
    control_answers conf mode d r x (change_asked conf mode d r) (map Name (place_checks dn) ++ add_checks attrs) refl λ said.
    add_answers conf mode d r x (λ e h. h) (λ e h. h) (λ change h. h) (λ change h. h) said
all_answer conf mode d (records.Add dn controls attrs) =
    let r : Record = records.Add dn controls attrs in
    let x : Result Change Code = change_of conf mode d r in
    control_answers conf mode d r x (change_asked conf mode d r) (map Name (place_checks dn) ++ add_checks attrs) refl λ said.
    add_answers conf mode d r x (λ e h. h) (λ e h. h) (λ change h. h) (λ change h. h) said
all_answer conf mode d (records.Delete dn controls) =
    let r : Record = records.Delete dn controls in
    let x : Result Change Code = change_of conf mode d r in
    control_answers conf mode d r x (change_asked conf mode d r) (map Name (place_checks dn) ++ delete_checks) refl λ said.
    delete_answers conf mode d r x (λ change h. h) (λ change h. h) said
all_answer conf mode d (records.Modify dn controls mods) =
    let r : Record = records.Modify dn controls mods in
    let x : Result Change Code = change_of conf mode d r in
    control_answers conf mode d r x (change_asked conf mode d r) (map Name (place_checks dn) ++ modify_checks mods) refl λ said.
    modify_answers conf mode d r x (λ e h. h) (λ e h. h) (λ change h. h) (λ change h. h) said
all_answer conf mode d (records.ModRdn dn controls newrdn delete_old superior) =
    let r : Record = records.ModRdn dn controls newrdn delete_old superior in
    let x : Result Change Code = change_of conf mode d r in
    control_answers conf mode d r x (change_asked conf mode d r) (map Name (place_checks dn) ++ rename_checks newrdn superior) refl λ said.
    rename_answers conf mode d dn controls newrdn delete_old superior x said

-- ---- the laws

abbrev allowed_change : Change → Result Change Code
allowed_change c = Ok c

module _ (conf : Conf) (mode : Mode) (d : Entries) (r : Record) where
  abbrev said : Result Change Code
  said = change_of conf mode d r

  abbrev told : answers conf mode d r said (checks_of r)
  told = all_answer conf mode d r

  refused_by : (code : Code) → said ≡ Err code → IsRefused conf mode d r code
  refused_by code e =
      let k = answers_first (HasFlaw conf mode d r) flaw_code (Comes conf d r said) (checks_of r) said code (λ done. is_no_answer said done.change code done.is) told e in
      record { flaw = k.0; first = k.1; code_is = k.2 }

  pub refused : (code : Code) → (said ≡ Err code) ↔ IsRefused conf mode d r code
  refused code = (
    refused_by code,
    λ k. first_answers (HasFlaw conf mode d r) flaw_code (Comes conf d r said) (checks_of r) said k.flaw told k.first ∙ ap (refusal {A = Change}) (sym k.code_is),
  )

  pub flawless : (change : Change) → said ≡ Ok change → IsFlawless conf mode d r
  flawless change is = answers_none (HasFlaw conf mode d r) flaw_code (Comes conf d r said) (checks_of r) said change told is

  pub comes : IsFlawless conf mode d r → Comes conf d r said
  comes none = none_answers (HasFlaw conf mode d r) flaw_code (Comes conf d r said) (checks_of r) said told none

  pub allowed : IsAllowed said ↔ IsFlawless conf mode d r
  allowed = (λ done. flawless done.0 done.1, λ none. ((comes none).change, (comes none).is))

  abbrev same_change : (a b : Change) → ◌≡◌ {A = Result Change Code} (Ok a) (Ok b) → a ≡ b
  same_change = same_ok

  asked_for : (change : Change) → said ≡ Ok change → IsGranted conf mode d r change
  asked_for change is =
      let none = flawless change is in
      record { flawless = none; asked = subst (AsksFor conf d r) (same_change (comes none).change change (sym (comes none).is ∙ is)) (comes none).asked }

  pub changed : (change : Change) → (said ≡ Ok change) ↔ IsGranted conf mode d r change
  changed change = (asked_for change, λ h. (comes h.flawless).is ∙ ap allowed_change (sym ((comes h.flawless).only change h.asked)))

  -- ---- which flaw is first, by the code that is answered

  -- of another code, or not there
  abbrev pub IsOther : Flaw → Flaw → Type 0
  IsOther flaw f = (flaw_code f ≢ flaw_code flaw) ⊎ Not (HasFlaw conf mode d r f)

  abbrev pub has_other_number : Flaw → Flaw → Bool
  has_other_number flaw f = not (nat_eq (code_number (flaw_code f)) (code_number (flaw_code flaw)))

  other_code : (flaw f : Flaw) → has_other_number flaw f ≡ true → flaw_code f ≢ flaw_code flaw
  other_code flaw f h e =
      let apart = off (nat_eq (code_number (flaw_code f)) (code_number (flaw_code flaw))) h in
      let same = eq-eqb (code_number (flaw_code f)) (code_number (flaw_code flaw)) (ap code_number e) in
      let both = sym same ∙ apart in
      absurd cc

  pub by_numbers : (flaw : Flaw) (fs gs : List Flaw) → list_all (has_other_number flaw) fs ≡ true → AllByRecursion (IsOther flaw) gs → AllByRecursion (IsOther flaw) (fs ++ gs)
  by_numbers flaw [] gs h rest = rest
  by_numbers flaw (f ∷ fs) gs h rest =
      let k = both (has_other_number flaw f) (list_all (has_other_number flaw) fs) h in
      (inl (other_code flaw f k.0), by_numbers flaw fs gs k.1 rest)

  pub first_by_code : (before after : List Flaw) (flaw : Flaw) → checks_of r ≡ before ++ flaw ∷ after → said ≡ Err (flaw_code flaw) → HasFlaw conf mode d r flaw → AllByRecursion (IsOther flaw) before
      → IsFirst conf mode d r flaw
  first_by_code before after flaw order is has others = record {
    before = before;
    after = after;
    order_is = order;
    has = has;
    none_before = none_before (HasFlaw conf mode d r) flaw_code (Comes conf d r said) before after flaw said (subst (λ (flaws : List Flaw). answers conf mode d r said flaws) order told) is others;
  }
