-- Forms that begin with a line of a name are what they make of its value.
use Rattle.std.proofs.Common.{◌≡◌, ℕ, Bool, true, false, cond, List, ◌∷◌, Option, Some, Result, Ok, Err, refl, ap, ◌∙◌, codes}
use Rattle.ldif.specs.declared.fault.LdifFaultKind.{LdifFaultKind}
use Rattle.ldif.specs.declared.fault.LdifFaultKind.TheVariants.{DnMissing, PartMissing, StrayLine}
use Rattle.ldif.specs.declared.record.Mode.{Mode}
use Rattle.base.specs.Answers.{◌>>=◌, Fails}
use Rattle.base.proofs.Each.{passed_on}
use Rattle.ldif.specs.Attrs.{Attr}
use Rattle.ldif.specs.Line.{value_line, value_named, same_name}
use Rattle.ldif.specs.Reading.{part, nothing_more, new_superior_of, body, entry}

module _ {B : Type 0} (other : LdifFaultKind) (name line : List ℕ) (next : List ℕ → Result B LdifFaultKind) where
  by_test : (v : List ℕ) (t : Bool) → cond t (next v) (Err other) ≡ (cond t (Ok v) (Err other) >>= next)
  by_test v true = refl
  by_test v false = refl

  by_line : (r : Result Attr LdifFaultKind)
      → (r >>= λ a. cond (same_name a.name name) (next a.value) (Err other)) ≡ ((r >>= λ a. cond (same_name a.name name) (Ok a.value) (Err other)) >>= next)
  by_line (Ok a) = by_test a.value (same_name a.name name)
  by_line (Err f) = refl

module _ (mode : Mode) (lines : List (List ℕ)) (l : List ℕ) (ls : List (List ℕ)) (cut : lines ≡ l ∷ ls) where
  entry_is : entry mode lines ≡ (value_named DnMissing (codes "dn") l >>= λ dn. body mode dn ls)
  unfolding entry value_named
  entry_is = rw cut (by_line DnMissing (codes "dn") l (λ dn. body mode dn ls) (value_line l))

  pub no_dn : (e : Option LdifFaultKind) → Fails e (value_named DnMissing (codes "dn") l) → Fails e (entry mode lines)
  no_dn e = passed_on e (value_named DnMissing (codes "dn") l) (entry mode lines) λ f h. entry_is ∙ ap (λ (r : Result (List ℕ) LdifFaultKind). r >>= λ dn. body mode dn ls) h

  pub at_dn : (dn : List ℕ) → value_named DnMissing (codes "dn") l ≡ Ok dn → entry mode lines ≡ body mode dn ls
  at_dn dn is = entry_is ∙ ap (λ (r : Result (List ℕ) LdifFaultKind). r >>= λ dn. body mode dn ls) is

module _ (lines : List (List ℕ)) (l : List ℕ) (ls : List (List ℕ)) (cut : lines ≡ l ∷ ls) where
  abbrev then_nothing : Result (List ℕ) LdifFaultKind → Result (Option (List ℕ)) LdifFaultKind
  then_nothing r = r >>= λ v. nothing_more ls >>= λ u. Ok (Some v)

  superior_is : new_superior_of lines ≡ then_nothing (value_named StrayLine (codes "newsuperior") l)
  unfolding new_superior_of value_named
  superior_is = rw cut (by_line StrayLine (codes "newsuperior") l (λ v. nothing_more ls >>= λ u. Ok (Some v)) (value_line l))

  pub no_superior : (e : Option LdifFaultKind) → Fails e (value_named StrayLine (codes "newsuperior") l) → Fails e (new_superior_of lines)
  no_superior e = passed_on e (value_named StrayLine (codes "newsuperior") l) (new_superior_of lines) λ f h. superior_is ∙ ap then_nothing h

  module _ (v : List ℕ) (is : value_named StrayLine (codes "newsuperior") l ≡ Ok v) where
    abbrev then_superior : Result (Unit {0}) LdifFaultKind → Result (Option (List ℕ)) LdifFaultKind
    then_superior r = r >>= λ u. Ok (Some v)

    pub more_behind : (e : Option LdifFaultKind) → Fails e (nothing_more ls) → Fails e (new_superior_of lines)
    more_behind e = passed_on e (nothing_more ls) (new_superior_of lines) λ f h. superior_is ∙ ap then_nothing is ∙ ap then_superior h

    pub superior : (u : Unit {0}) → nothing_more ls ≡ Ok u → new_superior_of lines ≡ Ok (Some v)
    superior u h = superior_is ∙ ap then_nothing is ∙ ap then_superior h

abbrev Parted : Type 0
Parted = List ℕ × List (List ℕ)

abbrev parted : List ℕ → List (List ℕ) → Result Parted LdifFaultKind
parted v ls = Ok (v, ls)

pub part_is : (keyword l : List ℕ) (ls : List (List ℕ)) → part keyword (l ∷ ls) ≡ (value_named PartMissing keyword l >>= λ v. parted v ls)
unfolding part value_named
part_is keyword l ls = by_line PartMissing keyword l (λ v. parted v ls) (value_line l)
