-- A type that is compared has its subtypes compared in the same way.
use Rattle.std.proofs.Common.{◌≡◌, ℕ, ◌<◌, ◌==◌, Bool, true, false, not, List, [], ◌∷◌, length, take, Option, Some, None, cond, refl, sym, ap, subst, ◌∙◌, arith}
use Rattle.std.specs.Prelude.{is_some}
use Rattle.std.proofs.lemmas.Bool.{eqb-true, or_parts}
use Rattle.std.proofs.lemmas.List.{get_or-take}
use Rattle.matching.specs.declared.family.Family.TheVariants as families
use Rattle.values.specs.declared.types.AttributeType.{AttributeType}
use Rattle.values.specs.declared.types.EqualityRule.{EqualityRule}
use Rattle.values.specs.declared.types.EqualityRule.TheVariants as rules
use Rattle.values.specs.Types.{type_at, no_type, has_equality}
use Rattle.schema.specs.Subtypes.{LeadsTo, IsSubtype, is_subtype}
use Rattle.schema.specs.TypeRules.{rule_number, is_equality, leaves_rule, leaves_family, breaks_with, is_syntax, up_of}
use Rattle.schema.specs.Values.{norm_at, norm_with}
use Rattle.schema.proofs.Subtypes.{above_lower}
use Rattle.schema.proofs.SubtypeTests.{AreTypes, subtype_told}

-- ---- rules with one number are one rule

rule_at : ℕ → EqualityRule
rule_at n =
    cond (n == 0) (rules.Plain families.Ignore)
    (cond (n == 1) (rules.Plain families.Exact)
    (cond (n == 2) (rules.Plain families.Numeric)
    (cond (n == 3) (rules.Plain families.Telephone)
    (cond (n == 4) (rules.Plain families.Integer)
    (cond (n == 5) (rules.Plain families.Boolean)
    (cond (n == 6) (rules.Plain families.Octet)
    (cond (n == 7) (rules.Plain families.Oid)
    rules.Name)))))))

numbered : (rule : EqualityRule) → rule_at (rule_number rule) ≡ rule
unfolding rule_at
numbered (rules.Plain families.Ignore) = refl
numbered (rules.Plain families.Exact) = refl
numbered (rules.Plain families.Numeric) = refl
numbered (rules.Plain families.Telephone) = refl
numbered (rules.Plain families.Integer) = refl
numbered (rules.Plain families.Boolean) = refl
numbered (rules.Plain families.Octet) = refl
numbered (rules.Plain families.Oid) = refl
numbered rules.Name = refl

same_rule : (rule : EqualityRule) (equality : Option EqualityRule) → is_equality rule equality ≡ true → equality ≡ Some rule
same_rule rule None e = cc
same_rule rule (Some other) e = ap Some (sym (sym (numbered rule) ∙ ap rule_at (eqb-true (rule_number rule) (rule_number other) e) ∙ numbered other))

-- ---- up a chain

kept : (b : Bool) → not b ≡ false → b ≡ true
kept true e = refl
kept false e = cc

from_above : (rule : EqualityRule) (t up : AttributeType) → up.equality ≡ Some rule → breaks_with t (Some up) ≡ false → t.equality ≡ Some rule
from_above rule t up is agrees =
    let leaves = (or_parts (leaves_family t up) (not (is_syntax t.syntax up.syntax)) agrees).0 in
    same_rule rule t.equality (kept (is_equality rule t.equality) (subst (λ (o : Option EqualityRule). leaves_rule o t ≡ false) is leaves))

one_step : (types : List AttributeType) → AreTypes types → (t s : ℕ) → t < length types → (type_at types t).superior ≡ Some s → (rule : EqualityRule)
    → (type_at types s).equality ≡ Some rule → (type_at types t).equality ≡ Some rule
one_step types each t s lt up rule is =
    let fits = each t lt in
    let below = above_lower types t s fits up in
    let here = get_or-take t types s no_type below in
    from_above rule (type_at types t) (type_at (take t types) s) (ap (λ (x : AttributeType). x.equality) here ∙ is)
    (subst (λ (o : Option ℕ). breaks_with (type_at types t) (up_of (take t types) o) ≡ false) up fits.agrees)

along : (types : List AttributeType) → AreTypes types → (rule : EqualityRule) (above : List ℕ) (t u : ℕ) → LeadsTo types t above u → t < length types
    → (type_at types u).equality ≡ Some rule → (type_at types t).equality ≡ Some rule
along types each rule [] t u e lt is = ap (λ (x : ℕ). (type_at types x).equality) e ∙ is
along types each rule (s ∷ ss) t u k lt is =
    let below = above_lower types t s (each t lt) k.0 in
    one_step types each t s lt k.0 rule (along types each rule ss s u k.1 (omega (arith, below, lt)) is)

same_equality : (types : List AttributeType) → AreTypes types → (t u : ℕ) → IsSubtype types u t → u < length types → (equality : Option EqualityRule)
    → (type_at types t).equality ≡ equality → is_some equality ≡ true → (type_at types u).equality ≡ equality
same_equality types each t u h lt None is some = cc
same_equality types each t u h lt (Some rule) is some = along types each rule h.above u t h.leads lt is

pub same_norm : (types : List AttributeType) → AreTypes types → (t u : ℕ) → is_subtype types u t ≡ true → u < length types → has_equality types t ≡ true
    → (v : List ℕ) → norm_at types u v ≡ norm_at types t v
unfolding norm_at
same_norm types each t u below lt some v =
    ap (λ (o : Option EqualityRule). norm_with types o v) (same_equality types each t u ((subtype_told types each u t lt).0 below) lt ((type_at types t).equality) refl some)
