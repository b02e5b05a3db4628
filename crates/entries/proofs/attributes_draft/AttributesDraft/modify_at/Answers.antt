use Rattle.std.proofs.Common.{◌∙◌, sym, ap, subst, List, Ok}
use Rattle.std.proofs.lemmas.Result.{err_from_is_err_and, IfOk-from_err}
use Rattle.values.specs.Values.{Value}
use Rattle.entries.specs.Entries.{values_of}
use Rattle.entries.specs.Modifies.{set_values}
use Rattle.entries.specs.StoredEntries.{EntryAttribute, attributes_of, AreNormal, IsMade}
use Rattle.entries.specs.inner.ValuesDrafts.{put_back}
use Rattle.entries.specs.Gives.{fault_of}
use Rattle.entries.proofs.StoredLemmas.{normal_values}
use Rattle.entries.proofs.ModifyLemmas.{at_ok, at_fails, made_set}
use Rattle.entries.proofs.attributes_draft.AttributesDraft.modify_at.Goals as goal

pub change_values-requires-clause-normal : goal.change_values-requires-clause-normal
change_values-requires-clause-normal c =
    let es_is = ap (put_back c.self.inside.attrs.entries) c.take.ensures.value ∙ c.self.view_is in
    subst (AreNormal c.args.conf.now.types c.args.t) (sym (c.in_ok-values.ensures.values ∙ ap (λ (es : List EntryAttribute). values_of es c.args.t) es_is))
    (normal_values c.args.conf.now.types c.args.t c.args.self.now c.requires.made.each)

pub returns-in_err-change_values-clause-gives : goal.returns-in_err-change_values-clause-gives
returns-in_err-change_values-clause-gives c =
    let es_is = ap (put_back c.self.inside.attrs.entries) c.take.ensures.value ∙ c.self.view_is in
    let p = err_from_is_err_and c.from_residual-in_err-change_values.result c.from_residual-in_err-change_values.ensures.1 in
    rw (p.1, p.2) (at_fails c.args.conf.now.types c.args.self.now c.args.t c.args.op c.args.texts.now c.in_ok-values.values
    (c.in_ok-values.ensures.values ∙ ap (λ (es : List EntryAttribute). values_of es c.args.t) es_is)
    (fault_of c.in_err-change_values.field-0.0) c.in_err-change_values.ensures.gives)

pub returns-clause-made : goal.returns-clause-made
returns-clause-made c =
    let es_is = ap (put_back c.self.inside.attrs.entries) c.take.ensures.value ∙ c.self.view_is in
    let left : List Value = c.change_values.new.values in
    subst (IsMade c.args.conf.now.types) (sym (c.drop_place.ensures.place ∙ c.in_ok-values.ensures.place left ∙ ap (λ (es : List EntryAttribute). set_values es c.args.t left) es_is))
    (made_set c.args.t c.args.conf.now.types c.args.self.now left c.requires.made c.requires.known c.in_ok-change_values.ensures.normal)

pub returns-clause-gives : goal.returns-clause-gives
returns-clause-gives c =
    let es_is = ap (put_back c.self.inside.attrs.entries) c.take.ensures.value ∙ c.self.view_is in
    let left : List Value = c.change_values.new.values in
    at_ok c.args.conf.now.types c.args.self.now c.args.t c.args.op c.args.texts.now c.in_ok-values.values
    (c.in_ok-values.ensures.values ∙ ap (λ (es : List EntryAttribute). values_of es c.args.t) es_is)
    left c.in_ok-change_values.ensures.gives
    ∙ ap (λ es. Ok (attributes_of es)) (sym (c.drop_place.ensures.place ∙ c.in_ok-values.ensures.place left ∙ ap (λ (es : List EntryAttribute). set_values es c.args.t left) es_is))

pub returns-in_err-change_values-clause-made : goal.returns-in_err-change_values-clause-made
returns-in_err-change_values-clause-made c = IfOk-from_err _ _ c.from_residual-in_err-change_values.ensures.0

pub returns-in_err-values-clause-made : goal.returns-in_err-values-clause-made
returns-in_err-values-clause-made c = IfOk-from_err _ _ c.from_residual.ensures.0

pub returns-in_err-values-clause-gives : goal.returns-in_err-values-clause-gives
returns-in_err-values-clause-gives c = let p = err_from_is_err_and c.from_residual.result c.from_residual.ensures.1 in rw (p.1, p.2) tt
