use Rattle.schema.specs.Rdns.{rdn_key_of, key_from, put_pair}
use Rattle.std.proofs.lemmas.Grind.{common_steps}
use Rattle.std.proofs.lemmas.Result.{IfOk-from_err}
use Rattle.std.proofs.Common.{◌≡◌, ◌++◌, subst, ◌∙◌, arith}
use Rattle.std.specs.Prelude.{OnOk}
use Rattle.dn.specs.Writing.{rdn_text}
use Rattle.paths.specs.Paths.{RdnKey}
use Rattle.schema.specs.Values.{normal_avas}
use Rattle.schema.proofs.dn_values.put_rdn.Goals as goal

pub returns-in_ok-rdn_key_of-in_default : goal.returns-in_ok-rdn_key_of-in_default
returns-in_ok-rdn_key_of-in_default c =
    subst (λ (key : RdnKey). OnOk c.put_avas.result (c.put_avas.new.out.items ≡ c.args.out.now.items ++ rdn_text (normal_avas c.args.types.now key))) (c.pairs-in_default.ensures ∙ c.in_ok-rdn_key_of-in_default.ensures) c.put_avas.ensures

pub returns-in_err-norm-in-len1 : goal.returns-in_err-norm-in-len1
returns-in_err-norm-in-len1 c = IfOk-from_err _ _ c.from_residual.ensures.0

pub returns-in_err-rdn_key_of-in_default : goal.returns-in_err-rdn_key_of-in_default
returns-in_err-rdn_key_of-in_default c = IfOk-from_err _ _ c.from_residual-in_err-rdn_key_of-in_default.ensures.0

pub at-requires : goal.at-requires
at-requires c = grind (arith, common_steps)

pub returns-in_ok-norm-in-len1 : goal.returns-in_ok-norm-in-len1
unfolding rdn_key_of key_from put_pair
returns-in_ok-norm-in-len1 c = grind (arith, common_steps)
