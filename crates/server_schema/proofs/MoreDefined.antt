-- Lines of a dir.conf only add types and classes to those that are defined above them.
use Rattle.std.proofs.Common.{◌≡◌, ◌∙◌, ℕ, Bool, true, false, cond, ◌||◌, List, [], ◌∷◌, ◌++◌, codes, Option, Some, None, Result, Ok, Err, refl, sym, ap, subst, append_assoc, append-nil}
use Rattle.base.specs.Answers.{◌>>=◌, through}
use Rattle.base.proofs.Bound.{bind_ok, same_ok}
use Rattle.definitions.specs.declared.lines.Line.{Line}
use Rattle.definitions.specs.declared.type_definition.TypeDefinition.{TypeDefinition}
use Rattle.definitions.specs.declared.class_definition.ClassDefinition.{ClassDefinition}
use Rattle.definitions.specs.Lines.{begins_blank}
use Rattle.definitions.specs.Words.{after_word}
use Rattle.definitions.specs.TypeDefinitions.{type_definition_of}
use Rattle.definitions.specs.ClassDefinitions.{class_definition_of}
use Rattle.values.specs.declared.types.AttributeType.{AttributeType}
use Rattle.schema.specs.declared.object_class.ObjectClass.{ObjectClass}
use Rattle.schema.specs.TypeRules.{up_of}
use Rattle.dir_conf.specs.DerivedTypes.{type_with}
use Rattle.dir_conf.specs.declared.conf_fault.ConfFaultKind.TheVariants.{Keyword, Form, Twice}
use Rattle.dir_conf.specs.Configurations.{At, says_nothing, is_first, is_built_in, superior_of, flaw_of, unless, below, refused, placed, Defined, is_class_taken, class_with, with_class, class_placed, with_types, definition_line, defined_by}
use Rattle.dir_conf.proofs.Whole.{unrefused}

-- a beginning of a list
abbrev pub Begins : {X : Type 0} → List X → List X → Type 0
Begins {X} xs ys = (more : List X) × (ys ≡ xs ++ more)

begins_itself : {X : Type 0} (xs : List X) → Begins xs xs
begins_itself xs = ([], sym (append-nil xs))

begins_more : {X : Type 0} (xs ys zs : List X) → Begins xs ys → Begins ys zs → Begins xs zs
begins_more {X} xs ys zs h k = (h.0 ++ k.0, k.1 ∙ ap (λ (ls : List X). ls ++ k.0) h.1 ∙ append_assoc xs h.0 k.0)

-- all that is defined is still there, in its place
pub record Extends (s t : Defined) : Type 0 where
  pub types : Begins s.types t.types
  pub classes : Begins s.classes t.classes

extends_itself : (s : Defined) → Extends s s
extends_itself s = record { types = begins_itself s.types; classes = begins_itself s.classes }

either : {X : Type 0} (P : X → Type 0) (b : Bool) (x y : X) → P x → P y → P (cond b x y)
either P true x y h k = h
either P false x y h k = k

-- ---- a type

abbrev Types : Type 0
Types = Result (List AttributeType) At

abbrev AddsTypes : List AttributeType → Types → Type 0
AddsTypes types r = (out : List AttributeType) → r ≡ Ok out → Begins types out

same_types : (types : List AttributeType) → AddsTypes types (Ok types)
same_types types out e = ([], sym (same_ok {F = At} types out e) ∙ sym (append-nil types))

below_adds : (types : List AttributeType) (line : ℕ) (d : TypeDefinition) (up : Option (Option ℕ)) → AddsTypes types (below types line d up)
below_adds types line d None out e = absurd cc
below_adds types line d (Some number) out e =
    let new = type_with d number (up_of types number) in
    let k = unrefused line (flaw_of new (up_of types number)) (Ok (types ++ new ∷ [])) out e in
    (new ∷ [], sym (same_ok {F = At} (types ++ new ∷ []) out k.1))

placed_adds : (types : List AttributeType) (line : ℕ) (o : Option TypeDefinition) → AddsTypes types (placed types line o)
unfolding placed
placed_adds types line None = λ out e. absurd cc
placed_adds types line (Some d) =
    let rest = below types line d (superior_of types d.superior) in
    either (AddsTypes types) (is_built_in d.element.oid) (Ok types) (unless line (refused types d) rest) (same_types types)
    (λ out e. below_adds types line d (superior_of types d.superior) out (unrefused line (refused types d) rest out e).1)

-- ---- what is defined

abbrev Outcome : Type 0
Outcome = Result Defined At

abbrev Adds : Defined → Outcome → Type 0
Adds s r = (t : Defined) → r ≡ Ok t → Extends s t

same_defined : (s : Defined) → Adds s (Ok s)
same_defined s t e = subst (Extends s) (same_ok {F = At} s t e) (extends_itself s)

type_adds : (s : Defined) (r : Types) → AddsTypes s.types r → Adds s (with_types s r)
type_adds s (Err fault) adds t e = absurd cc
type_adds s (Ok types) adds t e =
    subst (Extends s) (same_ok {F = At} (record s { types = types }) t e) (record { types = adds types refl; classes = begins_itself s.classes })

one_class : (s : Defined) (c : ObjectClass) → Adds s (with_class s c)
one_class s c t e =
    subst (Extends s) (same_ok {F = At} (record s { classes = s.classes ++ c ∷ [] }) t e) (record { types = begins_itself s.types; classes = (c ∷ [], refl) })

class_adds : (s : Defined) (line : ℕ) (o : Option ClassDefinition) → Adds s (class_placed s line o)
unfolding class_placed
class_adds s line None = λ t e. absurd cc
class_adds s line (Some d) =
    let new : Outcome = class_with s line d >>= with_class s in
    let taken : Outcome = Err (line, Twice) in
    either (Adds s) (is_built_in d.element.oid) (Ok s) (cond (is_class_taken s.classes d.element) taken new) (same_defined s)
    (either (Adds s) (is_class_taken s.classes d.element) taken new (λ t e. absurd cc)
    (λ t e. let k = bind_ok (class_with s line d) (with_class s) t e in one_class s k.0 t k.2))

line_adds : (s : Defined) (l : Line) → Adds s (definition_line s l)
unfolding definition_line
line_adds s l =
    let stray : Outcome = Err (l.number, Keyword) in
    let blank : Outcome = Err (l.number, Form) in
    let class : Outcome = class_placed s l.number (class_definition_of (after_word l.text)) in
    let classes : Outcome = cond (is_first (codes "objectclass") l.text) class stray in
    let type : Outcome = with_types s (placed s.types l.number (type_definition_of (after_word l.text))) in
    let types : Outcome = cond (is_first (codes "attributetype") l.text) type classes in
    let others : Outcome = cond (is_first (codes "suffix") l.text || is_first (codes "index") l.text) (Ok s) types in
    either (Adds s) (says_nothing l.text) (Ok s) (cond (begins_blank l.text) blank others) (same_defined s)
    (either (Adds s) (begins_blank l.text) blank others (λ t e. absurd cc)
    (either (Adds s) (is_first (codes "suffix") l.text || is_first (codes "index") l.text) (Ok s) types (same_defined s)
    (either (Adds s) (is_first (codes "attributetype") l.text) type classes
    (type_adds s (placed s.types l.number (type_definition_of (after_word l.text))) (placed_adds s.types l.number (type_definition_of (after_word l.text))))
    (either (Adds s) (is_first (codes "objectclass") l.text) class stray (class_adds s l.number (class_definition_of (after_word l.text))) (λ t e. absurd cc)))))

pub lines_add : (ls : List Line) (s t : Defined) → defined_by s ls ≡ Ok t → Extends s t
unfolding through
lines_add [] s t e = same_defined s t e
lines_add (l ∷ ls) s t e =
    let k = bind_ok (definition_line s l) (λ next. through definition_line next ls) t e in
    let one = line_adds s l k.0 k.1 in
    let more = lines_add ls k.0 t k.2 in
    record { types = begins_more s.types k.0.types t.types one.types more.types; classes = begins_more s.classes k.0.classes t.classes one.classes more.classes }
