-- A change record is what its type asks for.
use Rattle.std.proofs.Common.{◌≡◌, ℕ, Bool, true, false, cond, List, [], ◌∷◌, Option, Result, Ok, Err, refl, ap, ◌∙◌, codes}
use Rattle.ldif.specs.declared.fault.LdifFaultKind.{LdifFaultKind}
use Rattle.ldif.specs.declared.fault.LdifFaultKind.TheVariants.{ChangetypeUnknown, ChangetypeMissing}
use Rattle.ldif.specs.declared.changes.ChangeType.{ChangeType}
use Rattle.ldif.specs.declared.changes.ChangeType.TheVariants.{Add, Delete, Modify, ModRdn}
use Rattle.ldif.specs.declared.record.Control.{Control}
use Rattle.ldif.specs.declared.record.Mod.{Mod}
use Rattle.ldif.specs.declared.record.Record.{Record}
use Rattle.ldif.specs.declared.record.Record.TheVariants as records
use Rattle.base.specs.Answers.{◌>>=◌, each, Fails}
use Rattle.base.proofs.Each.{passed_on}
use Rattle.ldif.specs.Attrs.{Attr}
use Rattle.ldif.specs.Line.{value_line, same_name, is_word}
use Rattle.ldif.specs.Reading.{change, after_controls, named_type, type_of, typed, nothing_more, blocks, block, renaming}

abbrev Typed : Type 0
Typed = Result (ChangeType × List (List ℕ)) LdifFaultKind

module _ (add : Bool) (dn : List ℕ) (cs : List Control) where
  abbrev then_typed : Typed → Result Record LdifFaultKind
  then_typed r = r >>= λ t. typed dn cs t.0 t.1

  tests : (ls : List (List ℕ)) (a d m n o : Bool)
      → cond a (typed dn cs Add ls) (cond d (typed dn cs Delete ls) (cond m (typed dn cs Modify ls) (cond n (typed dn cs ModRdn ls) (cond o (typed dn cs ModRdn ls) (Err ChangetypeUnknown)))))
      ≡ then_typed (cond a (Ok Add) (cond d (Ok Delete) (cond m (Ok Modify) (cond n (Ok ModRdn) (cond o (Ok ModRdn) (Err ChangetypeUnknown))))) >>= λ type. Ok (type, ls))
  tests ls true d m n o = refl
  tests ls false true m n o = refl
  tests ls false false true n o = refl
  tests ls false false false true o = refl
  tests ls false false false false true = refl
  tests ls false false false false false = refl

  changed : (word : List ℕ) (ls : List (List ℕ)) → change dn cs word ls ≡ then_typed (named_type word >>= λ type. Ok (type, ls))
  unfolding change named_type typed
  changed word ls = tests ls (is_word word (codes "add")) (is_word word (codes "delete")) (is_word word (codes "modify")) (is_word word (codes "modrdn")) (is_word word (codes "moddn"))

  untyped : (t : Bool) (ls : List (List ℕ)) → cond t (typed dn cs Add ls) (Err ChangetypeMissing) ≡ then_typed (cond t (Ok (Add, ls)) (Err ChangetypeMissing))
  untyped true ls = refl
  untyped false ls = refl

  by_name : (l : List ℕ) (ls : List (List ℕ)) (attr : Attr) (t : Bool)
      → cond t (change dn cs attr.value ls) (cond add (typed dn cs Add (l ∷ ls)) (Err ChangetypeMissing))
      ≡ then_typed (cond t (named_type attr.value >>= λ type. Ok (type, ls)) (cond add (Ok (Add, l ∷ ls)) (Err ChangetypeMissing)))
  by_name l ls attr true = changed attr.value ls
  by_name l ls attr false = untyped add (l ∷ ls)

  by_line : (l : List ℕ) (ls : List (List ℕ)) (r : Result Attr LdifFaultKind) → value_line l ≡ r → after_controls add dn cs (l ∷ ls) ≡ then_typed (type_of add (l ∷ ls))
  unfolding after_controls type_of typed
  by_line l ls (Err f) e = rw e refl
  by_line l ls (Ok attr) e = rw e (by_name l ls attr (same_name attr.name (codes "changetype")))

  by_type : (ls : List (List ℕ)) → after_controls add dn cs ls ≡ then_typed (type_of add ls)
  unfolding after_controls type_of typed each
  by_type [] = untyped add []
  by_type (l ∷ ls) = by_line l ls (value_line l) refl

  -- ---- by what a type's reading answered

  pub no_type : (ls : List (List ℕ)) (e : Option LdifFaultKind) → Fails e (type_of add ls) → Fails e (after_controls add dn cs ls)
  no_type ls e = passed_on e (type_of add ls) (after_controls add dn cs ls) λ f h. by_type ls ∙ ap then_typed h

  module _ (ls rest : List (List ℕ)) (t : ChangeType) (found : type_of add ls ≡ Ok (t, rest)) where
    pub of_type : (v : ChangeType) → t ≡ v → after_controls add dn cs ls ≡ typed dn cs v rest
    of_type v is = by_type ls ∙ ap then_typed found ∙ ap (λ (t : ChangeType). typed dn cs t rest) is

    pub added : t ≡ Add → (attrs : List Attr) → each value_line rest ≡ Ok attrs → after_controls add dn cs ls ≡ Ok (records.Add dn cs attrs)
    unfolding typed
    added is attrs e = of_type Add is ∙ ap (λ (r : Result (List Attr) LdifFaultKind). r >>= λ attrs. Ok (records.Add dn cs attrs)) e

    pub not_added : t ≡ Add → (e : Option LdifFaultKind) → Fails e (each value_line rest) → Fails e (after_controls add dn cs ls)
    unfolding typed
    not_added is e = passed_on e (each value_line rest) (after_controls add dn cs ls) λ f h. of_type Add is ∙ ap (λ (r : Result (List Attr) LdifFaultKind). r >>= λ attrs. Ok (records.Add dn cs attrs)) h

    pub deleted : t ≡ Delete → (u : Unit {0}) → nothing_more rest ≡ Ok u → after_controls add dn cs ls ≡ Ok (records.Delete dn cs)
    unfolding typed
    deleted is u e = of_type Delete is ∙ ap (λ (r : Result (Unit {0}) LdifFaultKind). r >>= λ u. Ok (records.Delete dn cs)) e

    pub not_deleted : t ≡ Delete → (e : Option LdifFaultKind) → Fails e (nothing_more rest) → Fails e (after_controls add dn cs ls)
    unfolding typed
    not_deleted is e = passed_on e (nothing_more rest) (after_controls add dn cs ls) λ f h. of_type Delete is ∙ ap (λ (r : Result (Unit {0}) LdifFaultKind). r >>= λ u. Ok (records.Delete dn cs)) h

    pub modified : t ≡ Modify → (mods : List Mod) → each block (blocks rest) ≡ Ok mods → after_controls add dn cs ls ≡ Ok (records.Modify dn cs mods)
    unfolding typed
    modified is mods e = of_type Modify is ∙ ap (λ (r : Result (List Mod) LdifFaultKind). r >>= λ mods. Ok (records.Modify dn cs mods)) e

    pub not_modified : t ≡ Modify → (e : Option LdifFaultKind) → Fails e (each block (blocks rest)) → Fails e (after_controls add dn cs ls)
    unfolding typed
    not_modified is e = passed_on e (each block (blocks rest)) (after_controls add dn cs ls) λ f h. of_type Modify is ∙ ap (λ (r : Result (List Mod) LdifFaultKind). r >>= λ mods. Ok (records.Modify dn cs mods)) h

    pub renamed : t ≡ ModRdn → (r : Record) → renaming dn cs rest ≡ Ok r → after_controls add dn cs ls ≡ Ok r
    unfolding typed
    renamed is r e = of_type ModRdn is ∙ e

    pub not_renamed : t ≡ ModRdn → (e : Option LdifFaultKind) → Fails e (renaming dn cs rest) → Fails e (after_controls add dn cs ls)
    unfolding typed
    not_renamed is e = passed_on e (renaming dn cs rest) (after_controls add dn cs ls) λ f h. of_type ModRdn is ∙ h
