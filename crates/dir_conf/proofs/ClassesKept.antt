-- The classes that a text defines name what is defined above them.
use Rattle.std.proofs.Common.{ap, ◌≡◌, ℕ, zero, suc, ◌<◌, ◌≤◌, Bool, true, false, cond, List, [], ◌∷◌, ◌++◌, length, Option, Some, None, Result, Ok, Err, refl, sym, subst, arith}
use Rattle.std.specs.List.{list_any, AllByRecursion, IsDistinct}
use Rattle.std.proofs.lemmas.Bool.{or_parts}
use Rattle.std.proofs.lemmas.Bool.Decides.{nat_tests}
use Rattle.base.specs.Answers.{◌>>=◌, each}
use Rattle.base.proofs.Bound.{bind_ok, same_ok}
use Rattle.definitions.specs.declared.class_definition.ClassDefinition.{ClassDefinition}
use Rattle.values.specs.declared.types.AttributeType.{AttributeType}
use Rattle.values.specs.Types.{is_known}
use Rattle.dir_conf.specs.declared.conf_fault.ConfFaultKind.TheVariants.{Twice}
use Rattle.schema.specs.declared.object_class.ObjectClass.{ObjectClass}
use Rattle.schema.specs.TypeRules.{object_class, has_twin}
use Rattle.schema.specs.Classes.{class_of, class_at, no_class, top, extensible_object, share_class_name, IsClass}
use Rattle.dir_conf.specs.NamesInLines.{or_unknown, type_named}
use Rattle.dir_conf.specs.Configurations.{At, is_built_in, Defined, shares_class_name, is_class_taken, class_named, class_from, class_with, with_class, class_placed}
use Rattle.schema.proofs.ClassesFound.{found_is_known}
use Rattle.dir_conf.proofs.OneMore.{distinct_put, at_more}
use Rattle.dir_conf.proofs.SlotLines.{type_known}

pub record AreClasses (types : List AttributeType) (classes : List ObjectClass) : Type 0 where
  pub first : (rest : List ObjectClass) × (classes ≡ top ∷ extensible_object ∷ rest)
  pub fits : (c : ℕ) → c < length classes → IsClass types c (class_at classes c)
  pub apart : IsDistinct share_class_name classes

-- ---- more types

all_weaker : {X : Type 0} (P Q : X → Type 0) → ((x : X) → P x → Q x) → (xs : List X) → AllByRecursion P xs → AllByRecursion Q xs
all_weaker P Q weaker [] h = tt
all_weaker P Q weaker (x ∷ xs) h = (weaker x h.0, all_weaker P Q weaker xs h.1)

still_known : (types more : List AttributeType) → length types ≤ length more → (t : ℕ) → is_known types t ≡ true → is_known more t ≡ true
still_known types more le t h = grind (arith, nat_tests)

pub with_more_types : (types more : List AttributeType) (classes : List ObjectClass) → length types ≤ length more → AreClasses types classes → AreClasses more classes
with_more_types types more classes le h = record {
  first = h.first;
  fits =
      λ c lt.
      let k = h.fits c lt in
      record {
        superiors = k.superiors;
        must = all_weaker (λ t. is_known types t ≡ true) (λ t. is_known more t ≡ true) (still_known types more le) (class_at classes c).must k.must;
        may = all_weaker (λ t. is_known types t ≡ true) (λ t. is_known more t ≡ true) (still_known types more le) (class_at classes c).may k.may;
        names_apart = k.names_apart;
      };
  apart = h.apart;
}

-- ---- one class more

-- what holds of what one is read as, holds of what each is read as
each_all : {X Y : Type 0} (f : X → Result Y At) (P : Y → Type 0) → ((x : X) (y : Y) → f x ≡ Ok y → P y) → (xs : List X) (ys : List Y) → each f xs ≡ Ok ys → AllByRecursion P ys
unfolding each
each_all f P good [] ys e = subst (AllByRecursion P) (same_ok [] ys e) tt
each_all {X} {Y} f P good (x ∷ xs) ys e =
    let k = bind_ok (f x) (λ y. each f xs >>= λ zs. Ok (y ∷ zs)) ys e in
    let m = bind_ok (each f xs) (λ zs. Ok (k.0 ∷ zs)) ys k.2 in
    subst (AllByRecursion P) (same_ok (k.0 ∷ m.0) ys m.2) (good x k.0 k.1, each_all f P good xs m.0 m.1)

abbrev some : ℕ → Option ℕ
some n = Some n

stands_for : (line : ℕ) (o : Option ℕ) (n : ℕ) → or_unknown line o ≡ Ok n → o ≡ Some n
stands_for line None n e = absurd cc
stands_for line (Some m) n e = ap some (same_ok m n e)

named_class : (classes : List ObjectClass) (line : ℕ) (name : List ℕ) (c : ℕ) → class_named classes line name ≡ Ok c → c < length classes
named_class classes line name c e = found_is_known classes name (Some c) (sym (stands_for line (class_of classes name) c e))

class_added : (s : Defined) (line : ℕ) (d : ClassDefinition) (c : ObjectClass) → AreClasses s.types s.classes → is_class_taken s.classes d.element ≡ false → class_with s line d ≡ Ok c → AreClasses s.types (s.classes ++ c ∷ [])
unfolding class_with
class_added s line d c h free e =
    let superiors = bind_ok (each (class_named s.classes line) d.superiors) (λ superiors. each (type_named s.types line) d.must >>= λ must. each (type_named s.types line) d.may >>= λ may. Ok (class_from d superiors must may)) c e in
    let must = bind_ok (each (type_named s.types line) d.must) (λ must. each (type_named s.types line) d.may >>= λ may. Ok (class_from d superiors.0 must may)) c superiors.2 in
    let may = bind_ok (each (type_named s.types line) d.may) (λ may. Ok (class_from d superiors.0 must.0 may)) c must.2 in
    let new = class_from d superiors.0 must.0 may.0 in
    let o = or_parts (list_any (shares_class_name d.element) s.classes) (has_twin d.element.names) free in
    subst (λ (c : ObjectClass). AreClasses s.types (s.classes ++ c ∷ [])) {x = new} (same_ok new c may.2) (record {
      first = (h.first.0 ++ new ∷ [], ap (λ (cs : List ObjectClass). cs ++ new ∷ []) h.first.1);
      fits = at_more (IsClass s.types) s.classes new no_class h.fits (record {
        superiors = each_all (class_named s.classes line) (λ n. n < length s.classes) (named_class s.classes line) d.superiors superiors.0 superiors.1;
        must = each_all (type_named s.types line) (λ t. is_known s.types t ≡ true) (type_known s.types line) d.must must.0 must.1;
        may = each_all (type_named s.types line) (λ t. is_known s.types t ≡ true) (type_known s.types line) d.may may.0 may.1;
        names_apart = o.1;
      });
      apart = distinct_put share_class_name s.classes new h.apart o.0;
    })

abbrev Outcome : Type 0
Outcome = Result Defined At

-- the same types, and classes that are as they must be
pub class_keeps : (s : Defined) (line : ℕ) (d : Option ClassDefinition) (out : Defined) → AreClasses s.types s.classes → class_placed s line d ≡ Ok out → (classes : List ObjectClass) × (AreClasses s.types classes) × (record s { classes = classes } ≡ out)
unfolding class_placed
class_keeps s line None out h e = absurd cc
class_keeps s line (Some d) out h e = by (is_built_in d.element.oid) (is_class_taken s.classes d.element) refl e
  where
    by : (a b : Bool) → is_class_taken s.classes d.element ≡ b → cond {A = Outcome} a (Ok s) (cond {A = Outcome} b (Err (line, Twice)) (class_with s line d >>= with_class s)) ≡ Ok out → (classes : List ObjectClass) × (AreClasses s.types classes) × (record s { classes = classes } ≡ out)
    by true b taken said = (s.classes, h, same_ok s out said)
    by false true taken said = absurd cc
    by false false taken said =
        let k = bind_ok (class_with s line d) (with_class s) out said in
        (s.classes ++ k.0 ∷ [], class_added s line d k.0 h taken k.1, same_ok (record s { classes = s.classes ++ k.0 ∷ [] }) out k.2)

-- ---- the classes that are built in

class_fits : (c : ℕ) → c < length (top ∷ extensible_object ∷ []) → IsClass (object_class ∷ []) c (class_at (top ∷ extensible_object ∷ []) c)
class_fits zero lt = record { superiors = tt; must = (refl, tt); may = tt; names_apart = refl }
class_fits (suc zero) lt = record { superiors = (omega arith, tt); must = tt; may = tt; names_apart = refl }
class_fits (suc (suc c)) lt = absurd (omega (arith, lt))

pub built_in_are : AreClasses (object_class ∷ []) (top ∷ extensible_object ∷ [])
unfolding IsDistinct
built_in_are = record { first = ([], refl); fits = class_fits; apart = ((refl, tt), (tt, tt)) }
