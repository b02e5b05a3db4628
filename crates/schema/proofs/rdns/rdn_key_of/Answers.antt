use Rattle.std.proofs.lemmas.Result.{IfOk-from_err}
use Rattle.std.proofs.Common.{◌≡◌, ℕ, ◌+◌, List, drop, sym, ap, subst, ◌∙◌}
use Rattle.schema.specs.Rdns.{key_from, rdn_key_of, put_pair, norm_ava}
use Rattle.values.specs.declared.types.AttributeType.{AttributeType}
use Rattle.values.specs.Types.{type_at, plain_family}
use Rattle.values.specs.Values.{norm_by}
use Rattle.schema.specs.inner.Keys.{AreKnown}
use Rattle.paths.specs.Paths.{RdnKey}
use Rattle.schema.proofs.Rest.{first_left, none_left}
use Rattle.schema.proofs.rdns.rdn_key_of.Goals as goal

pub at-requires : goal.at-requires
at-requires c = (subst (AreKnown c.args.types.now) (first_left c.args.rdn.now _ c.loop-t.t-index c.avas-t-items.ensures c.loop-t-item.result c.loop-t-test.true c.loop-t-item.is) c.loop-t.invariant.1).0

pub loop-t-preserved : goal.loop-t-preserved
unfolding key_from
loop-t-preserved c =
    let types = c.args.types.now in
    let pair = c.loop-t-item.result in
    let before = c.loop-t.pairs.items in
    let rest = drop (c.loop-t.t-index + 1) c.args.rdn.now in
    let left = first_left c.args.rdn.now _ c.loop-t.t-index c.avas-t-items.ensures pair c.loop-t-test.true c.loop-t-item.is in
    let family : c.plain_family.result ≡ plain_family (type_at types pair.0).equality = c.plain_family.ensures ∙ ap (λ (t : AttributeType). plain_family t.equality) c.at.ensures in
    let norm : c.in_ok-norm.norm ≡ norm_ava types pair.0 pair.1 = c.in_ok-norm.ensures ∙ (λ i. norm_by (family i) (c.as_slice.ensures i)) in (
      ap (λ (k : RdnKey). key_from types k rest) (c.in_ok-put_pair.ensures ∙ ap (λ (n : List ℕ). put_pair (pair.0, n) before) norm) ∙ sym (ap (key_from types before) left) ∙ c.loop-t.invariant.0,
      (subst (AreKnown types) left c.loop-t.invariant.1).1,
    )

pub returns : goal.returns
unfolding rdn_key_of key_from
returns c =
    c.new.ensures ∙ c.from_vec.ensures ∙ sym (ap (key_from c.args.types.now c.loop-t.pairs.items) (none_left c.args.rdn.now _ c.loop-t.t-index c.avas-t-items.ensures c.loop-t-test.false)) ∙ c.loop-t.invariant.0

pub returns-in_err-norm : goal.returns-in_err-norm
returns-in_err-norm c = IfOk-from_err _ _ c.from_residual-in_err-norm.ensures.0

pub returns-in_err-put_pair : goal.returns-in_err-put_pair
returns-in_err-put_pair c = IfOk-from_err _ _ c.from_residual-in_err-put_pair.ensures.0
