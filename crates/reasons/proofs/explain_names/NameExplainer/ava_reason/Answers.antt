use Rattle.std.proofs.Common.{sym, ◌∙◌, arith}
use Rattle.std.proofs.lemmas.Grind.{common_steps}
use Rattle.reasons.proofs.NameFound.{unknown_type, name_syntax, no_equality, bad_value, type_twice, fine}
use Rattle.reasons.proofs.explain_names.NameExplainer.ava_reason.Goals as goal

pub returns-in_default : goal.returns-in_default
returns-in_default c = unknown_type c.args.self.now.conf.now.types c.args.earlier.now c.args.ava.now (grind (arith, common_steps))

pub returns-then-has_name_syntax : goal.returns-then-has_name_syntax
returns-then-has_name_syntax c = name_syntax c.args.self.now.conf.now.types c.args.earlier.now c.args.ava.now c.in-Some.t (grind (arith, common_steps)) (sym c.has_name_syntax.ensures ∙ c.if-has_name_syntax.true)

pub returns-then-is_none : goal.returns-then-is_none
returns-then-is_none c =
    no_equality c.args.self.now.conf.now.types c.args.earlier.now c.args.ava.now c.in-Some.t (grind (arith, common_steps)) (sym c.has_name_syntax.ensures ∙ c.if-has_name_syntax.false)
    (grind (arith, common_steps))

pub returns-then-not-branch : goal.returns-then-not-branch
returns-then-not-branch c =
    bad_value c.args.self.now.conf.now.types c.args.earlier.now c.args.ava.now c.in-Some.t (grind (arith, common_steps)) (sym c.has_name_syntax.ensures ∙ c.if-has_name_syntax.false)
    (grind (arith, common_steps)) (grind (arith, common_steps))

pub returns-then-has_type : goal.returns-then-has_type
returns-then-has_type c =
    type_twice c.args.self.now.conf.now.types c.args.earlier.now c.args.ava.now c.in-Some.t (grind (arith, common_steps)) (sym c.has_name_syntax.ensures ∙ c.if-has_name_syntax.false)
    (grind (arith, common_steps)) (grind (arith, common_steps)) (sym c.has_type.ensures ∙ c.if-has_type.true)

pub returns : goal.returns
returns c =
    fine c.args.self.now.conf.now.types c.args.earlier.now c.args.ava.now c.in-Some.t (grind (arith, common_steps)) (sym c.has_name_syntax.ensures ∙ c.if-has_name_syntax.false)
    (grind (arith, common_steps)) (grind (arith, common_steps)) (sym c.has_type.ensures ∙ c.if-has_type.false)
