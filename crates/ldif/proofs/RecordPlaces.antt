-- A record's lines and its faults, by the places that the lines lead to.
use Rattle.std.proofs.Common.{◌≡◌, ℕ, Bool, List, [], ◌∷◌, ◌++◌, Some, None, Result, Ok, Err, codes, refl, sym, ap, ◌∙◌}
use Rattle.base64.specs.GeneralPurpose.{IsBytes}
use Rattle.ldif.specs.declared.fault.LdifFaultKind.{LdifFaultKind}
use Rattle.ldif.specs.declared.record.Mode.{Mode}
use Rattle.ldif.specs.declared.record.Mode.TheVariants.{Content, Changes}
use Rattle.ldif.specs.declared.record.Record.{Record}
use Rattle.std.specs.Prelude.{IfErr}
use Rattle.ldif.specs.declared.fault.LdifFault.{LdifFault}
use Rattle.ldif.specs.declared.fault.LdifFault.TheVariants as errors
use Rattle.ldif.specs.Gives.{Gives}
use Rattle.ldif.specs.Line.{value_line, value_of, form_of}
use Rattle.ldif.specs.Reading.{flag_of, reading}
use Rattle.ldif.specs.Forms.{IsRecord}
use Rattle.ldif.specs.Places.{Place, text_start, after_version, record_start, contents, changes, attributes, block_start, block_values, new_name, delete_old, new_superior, over, start, IsStep, IsWay}
use Rattle.ldif.specs.RecordFaults.{IsFaultHere, IsRecordFault, IsWhy}
use Rattle.ldif.proofs.ChangeForms.{AreBytes}
use Rattle.ldif.proofs.RecordForms.{record_found, record_only}
use Rattle.ldif.specs.Steps.{Done, told, dn_told, change_told, step, finish}
use Rattle.ldif.proofs.Steps.{step_ok, ok_step, err_step}
use Rattle.ldif.proofs.WrittenLines.{bytes_at}
use Rattle.ldif.proofs.Ways.{done, walk, through, broken_found, broken_only}
use Rattle.ldif.proofs.Walks.{fault_of, fault_is, reading_walk}
use Rattle.base.specs.Answers.{◌>>=◌}

abbrev failed : {A : Type 0} → LdifFaultKind → Result A LdifFaultKind
failed f = Err f

pub no_fault : (r : Record) (f : LdifFaultKind) → ◌≡◌ {A = Result Record LdifFaultKind} (Ok r) (Err f) → ⊥
no_fault r f e = cc

pub record_fault_found : (mode : Mode) (first : Bool) (ls : List (List ℕ)) (f : LdifFaultKind) → AreBytes ls → reading mode first ls ≡ Err f → IsRecordFault mode first ls f
record_fault_found mode first ls f bytes h = broken_found mode (start first) ls f bytes (fault_is (reading mode first ls) (walk mode (start first) ls) f (reading_walk mode first ls) h)

pub record_fault_only : (mode : Mode) (first : Bool) (ls : List (List ℕ)) (f : LdifFaultKind) → AreBytes ls → IsRecordFault mode first ls f → reading mode first ls ≡ Err f
record_fault_only mode first ls f bytes h = fault_is (walk mode (start first) ls) (reading mode first ls) f (sym (reading_walk mode first ls)) (broken_only mode (start first) ls f bytes h)

pub one_fault : (mode : Mode) (first : Bool) (ls : List (List ℕ)) (f g : LdifFaultKind) → AreBytes ls → IsRecordFault mode first ls f → IsRecordFault mode first ls g → f ≡ g
one_fault mode first ls f g bytes h k = same (sym (record_fault_only mode first ls f bytes h) ∙ record_fault_only mode first ls g bytes k)
  where
    same : failed {A = Record} f ≡ failed g → f ≡ g
    same e = cc

-- ---- places

pub apart : (mode : Mode) (p q : Place) (l : List ℕ) (f : LdifFaultKind) → IsBytes l → IsStep mode p l q → IsFaultHere p l f → ⊥
apart mode p q l f bytes s h = never (sym (ok_step mode p l bytes q s) ∙ err_step mode p l bytes f h)
  where
    never : ◌≡◌ {A = Result Place LdifFaultKind} (Ok q) (Err f) → ⊥
    never e = cc

-- lines that end a record
rest_of : Place → Mode → List (List ℕ)
rest_of text_start mode = codes "version:1" ∷ []
rest_of after_version mode = []
rest_of record_start Content = codes "dn:" ∷ []
rest_of record_start (Changes add) = codes "dn:" ∷ codes "changetype:add" ∷ []
rest_of contents mode = []
rest_of (changes add) mode = codes "changetype:add" ∷ []
rest_of attributes mode = []
rest_of block_start mode = []
rest_of (block_values name) mode = []
rest_of new_name mode = codes "newrdn:" ∷ codes "deleteoldrdn:1" ∷ []
rest_of delete_old mode = codes "deleteoldrdn:1" ∷ []
rest_of new_superior mode = []
rest_of over mode = []

closes : (p : Place) (mode : Mode) → walk mode p (rest_of p mode) ≡ done
unfolding rest_of walk step told dn_told change_told finish value_line value_of form_of flag_of
closes text_start mode = refl
closes after_version mode = refl
closes record_start Content = refl
closes record_start (Changes add) = refl
closes contents mode = refl
closes (changes add) mode = refl
closes attributes mode = refl
closes block_start mode = refl
closes (block_values name) mode = refl
closes new_name mode = refl
closes delete_old mode = refl
closes new_superior mode = refl
closes over mode = refl

closing_bytes : (p : Place) (mode : Mode) → AreBytes (rest_of p mode)
unfolding rest_of
closing_bytes text_start mode = (bytes_at (codes "version:1") refl, tt)
closing_bytes after_version mode = tt
closing_bytes record_start Content = (bytes_at (codes "dn:") refl, tt)
closing_bytes record_start (Changes add) = (bytes_at (codes "dn:") refl, (bytes_at (codes "changetype:add") refl, tt))
closing_bytes contents mode = tt
closing_bytes (changes add) mode = (bytes_at (codes "changetype:add") refl, tt)
closing_bytes attributes mode = tt
closing_bytes block_start mode = tt
closing_bytes (block_values name) mode = tt
closing_bytes new_name mode = (bytes_at (codes "newrdn:") refl, (bytes_at (codes "deleteoldrdn:1") refl, tt))
closing_bytes delete_old mode = (bytes_at (codes "deleteoldrdn:1") refl, tt)
closing_bytes new_superior mode = tt
closing_bytes over mode = tt

both_bytes : (a b : List (List ℕ)) → AreBytes a → AreBytes b → AreBytes (a ++ b)
both_bytes [] b h k = k
both_bytes (x ∷ a) b h k = (h.0, both_bytes a b h.1 k)

found_by : (mode : Mode) (first : Bool) (ls : List (List ℕ)) (r : Result Record LdifFaultKind) → AreBytes ls → reading mode first ls ≡ r → walk mode (start first) ls ≡ done → (found : Record) × IsRecord mode first ls found
unfolding fault_of
found_by mode first ls (Ok found) bytes e h = (found, record_found mode first ls found bytes e)
found_by mode first ls (Err f) bytes e h = absurd (never (sym h ∙ fault_is (reading mode first ls) (walk mode (start first) ls) f (reading_walk mode first ls) e))
  where
    never : done ≡ failed f → ⊥
    never e = cc

pub begins : (mode : Mode) (first : Bool) (ls : List (List ℕ)) (p : Place) → AreBytes ls → IsWay mode (start first) ls p → (more : List (List ℕ)) × (found : Record) × IsRecord mode first (ls ++ more) found
begins mode first ls p bytes way =
    let more = rest_of p mode in
    let f = found_by mode first (ls ++ more) (reading mode first (ls ++ more)) (both_bytes ls more bytes (closing_bytes p mode)) refl (through mode (start first) p ls more bytes way ∙ closes p mode) in
    (more, f.0, f.1)

-- lines that have no fault so far lead somewhere
leads : (mode : Mode) (p : Place) (ls more : List (List ℕ)) → AreBytes ls → walk mode p (ls ++ more) ≡ done → (q : Place) × IsWay mode p ls q
unfolding walk
leads mode p [] more bytes h = (p, refl)
leads mode p (l ∷ ls) more bytes h = by_step (step mode p l) refl h (λ q k. leads mode q ls more bytes.1 k)
  where
    by_step : (r : Result Place LdifFaultKind) → step mode p l ≡ r → (r >>= λ q. walk mode q (ls ++ more)) ≡ done → ((q : Place) → walk mode q (ls ++ more) ≡ done → (to : Place) × IsWay mode q ls to) → (to : Place) × IsWay mode p (l ∷ ls) to
    by_step (Ok q) e k ih = let w = ih q k in (w.0, (q, step_ok mode p l bytes.0 q e, w.1))
    by_step (Err f) e k ih = absurd cc

walked : (r : Done) (x : Result Record LdifFaultKind) (found : Record) → x ≡ Ok found → fault_of x ≡ fault_of r → r ≡ done
unfolding fault_of
walked (Ok tt) x found e h = refl
walked (Err f) x found e h = absurd (let k : None ≡ Some f = sym (ap fault_of e) ∙ h in cc)

pub led : (mode : Mode) (first : Bool) (ls more : List (List ℕ)) (found : Record) → AreBytes ls → IsRecord mode first (ls ++ more) found → (place : Place) × IsWay mode (start first) ls place
led mode first ls more found bytes h =
    leads mode (start first) ls more bytes (walked (walk mode (start first) (ls ++ more)) (reading mode first (ls ++ more)) found (record_only mode first (ls ++ more) found h) (reading_walk mode first (ls ++ more)))

pub why : (mode : Mode) (first : Bool) (ls : List (List ℕ)) (r : Result Record LdifFault) → AreBytes ls → Gives r (reading mode first ls) → IfErr r (IsWhy mode first ls)
why mode first ls (Ok found) bytes h = tt
why mode first ls (Err errors.OutOfMemory) bytes h = tt
why mode first ls (Err (errors.Fault f)) bytes h = record_fault_found mode first ls f bytes h
