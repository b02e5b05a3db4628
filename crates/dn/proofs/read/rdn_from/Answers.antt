use Rattle.std.proofs.Common.{[], refl, sym, ap, subst, ◌∙◌}
use Rattle.std.proofs.lemmas.Result.{err_from_is_err_and}
use Rattle.base.specs.Answers.{Fails}
use Rattle.dn.specs.Gives.{fault_of}
use Rattle.dn.specs.Names.{Rdn}
use Rattle.dn.specs.inner.Cuts.{avas_on}
use Rattle.dn.proofs.Firsts.{before}
use Rattle.dn.proofs.Loop.{one_only, rdn_push}
use Rattle.dn.proofs.read.rdn_from.Goals as goal

pub returns-then-not-begins_with_plus : goal.returns-then-not-begins_with_plus
returns-then-not-begins_with_plus c =
    one_only c.args.ava c.args.behind.now (sym c.begins_with_plus.ensures ∙ c.if-not-begins_with_plus.true)
    ∙ ap (λ (ps : Rdn). before c.args.behind.now ps) (sym c.one.ensures)

pub push_avas-requires : goal.push_avas-requires
push_avas-requires c = record { good = rdn_push [] c.args.ava c.in_ok-avas.avas.items c.in_ok-avas.ensures.items refl c.requires }

pub returns-in_err-rest : goal.returns-in_err-rest
returns-in_err-rest c =
    let p = err_from_is_err_and c.from_residual-in_err-rest.result c.from_residual-in_err-rest.ensures.1 in
    rw (p.1, p.2) (subst (λ (ps : Rdn). Fails (fault_of c.in_err-rest.field-0.0) (avas_on ps c.args.behind.now)) c.in_ok-avas.ensures.items c.in_err-rest.ensures.err)

pub returns : goal.returns
returns c =
    rw c.many.ensures (sym (ap (λ (ps : Rdn). avas_on ps c.args.behind.now) c.in_ok-avas.ensures.items) ∙ c.in_ok-rest.ensures.ok)
