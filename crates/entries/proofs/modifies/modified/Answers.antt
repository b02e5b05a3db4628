use Rattle.std.proofs.Common.{◌∙◌, sym, ap, List, Some, None, Ok, subst}
use Rattle.std.proofs.lemmas.Result.{IfOk-from_err, err_from_is_err_and}
use Rattle.base.specs.Answers.{through}
use Rattle.schema.specs.GoodRdns.{IsRdn}
use Rattle.schema.specs.Rdns.{TypedRdn}
use Rattle.entries.specs.Modifies.{modify_block, modified_fault}
use Rattle.entries.specs.StoredEntries.{Entry, EntryAttribute, attributes_of, content_of, IsMade}
use Rattle.entries.proofs.ModifyLemmas.{modified_is}
use Rattle.entries.proofs.modifies.modified.Goals as goal

pub returns-in-Some-clause-gives : goal.returns-in-Some-clause-gives
returns-in-Some-clause-gives c =
    let es : List EntryAttribute = c.in_ok-attrs.attrs.entries in
    modified_is c.args.conf.now c.args.entry.now c.args.mods.now es (ap (λ (xs : List EntryAttribute). through (modify_block c.args.conf.now.types) (attributes_of xs) c.args.mods.now) (sym c.in_ok-copy_attributes.ensures) ∙ c.in_ok-attrs.ensures.gives)
    (Some c.in-Some.code) (sym c.in-Some.is ∙ c.in_ok-code.ensures ∙ ap (λ (r : TypedRdn). modified_fault c.args.conf.now r (attributes_of es)) c.rdn.ensures)

pub returns-clause-gives : goal.returns-clause-gives
returns-clause-gives c =
    let es : List EntryAttribute = c.in_ok-attrs.attrs.entries in
    modified_is c.args.conf.now c.args.entry.now c.args.mods.now es (ap (λ (xs : List EntryAttribute). through (modify_block c.args.conf.now.types) (attributes_of xs) c.args.mods.now) (sym c.in_ok-copy_attributes.ensures) ∙ c.in_ok-attrs.ensures.gives)
    None (sym c.in_default.is ∙ c.in_ok-code.ensures ∙ ap (λ (r : TypedRdn). modified_fault c.args.conf.now r (attributes_of es)) c.rdn.ensures)
    ∙ ap (λ (r : TypedRdn). Ok (content_of (record { rdn = r; attrs = es }))) (sym (c.in_ok-rdn.ensures ∙ c.rdn-2.ensures))
    ∙ ap (λ (e : Entry). Ok (content_of e)) (sym c.new.ensures)

pub returns-clause-made : goal.returns-clause-made
returns-clause-made c = subst (λ (e : Entry). IsMade c.args.conf.now.types e.attrs) (sym c.new.ensures) c.in_ok-attrs.ensures.made

pub modified_attributes-requires : goal.modified_attributes-requires
modified_attributes-requires c = subst (IsMade c.args.conf.now.types) (sym c.in_ok-copy_attributes.ensures) c.requires.made

pub modified_fault-requires-clause-rdn : goal.modified_fault-requires-clause-rdn
modified_fault-requires-clause-rdn c = subst (IsRdn c.args.conf.now.types) (sym c.rdn.ensures) c.requires.rdn

pub returns-in_err-rdn-clause-made : goal.returns-in_err-rdn-clause-made
returns-in_err-rdn-clause-made c = IfOk-from_err _ _ c.from_residual-in_err-rdn.ensures.0

pub returns-in_err-rdn-clause-gives : goal.returns-in_err-rdn-clause-gives
returns-in_err-rdn-clause-gives c = let p = err_from_is_err_and c.from_residual-in_err-rdn.result c.from_residual-in_err-rdn.ensures.1 in rw (p.1, p.2) tt

pub returns-in_err-code-clause-made : goal.returns-in_err-code-clause-made
returns-in_err-code-clause-made c = IfOk-from_err _ _ c.from_residual-in_err-code.ensures.0

pub returns-in_err-code-clause-gives : goal.returns-in_err-code-clause-gives
returns-in_err-code-clause-gives c = let p = err_from_is_err_and c.from_residual-in_err-code.result c.from_residual-in_err-code.ensures.1 in rw (p.1, p.2) tt

pub returns-in_err-attrs-clause-made : goal.returns-in_err-attrs-clause-made
returns-in_err-attrs-clause-made c = IfOk-from_err _ _ c.from_residual-in_err-attrs.ensures.0

pub returns-in_err-copy_attributes-clause-made : goal.returns-in_err-copy_attributes-clause-made
returns-in_err-copy_attributes-clause-made c = IfOk-from_err _ _ c.from_residual.ensures.0

pub returns-in_err-copy_attributes-clause-gives : goal.returns-in_err-copy_attributes-clause-gives
returns-in_err-copy_attributes-clause-gives c = let p = err_from_is_err_and c.from_residual.result c.from_residual.ensures.1 in rw (p.1, p.2) tt
