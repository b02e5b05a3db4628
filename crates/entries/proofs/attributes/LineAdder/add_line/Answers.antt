use Rattle.std.proofs.Common.{◌≡◌, ◌∙◌, sym, subst, ap, cond, refl, true, false, Bool, Err, Ok, List}
use Rattle.std.proofs.lemmas.Bool.{not-false, not-true}
use Rattle.schema.specs.declared.code.Code.TheVariants.{AttributeOrValueExists}
use Rattle.values.specs.Values.{Value}
use Rattle.entries.specs.Entries.{Attributes, values_of, push_value}
use Rattle.entries.specs.StoredEntries.{EntryAttribute, attributes_of, IsMade}
use Rattle.values.specs.Norms.{has_norm}
use Rattle.entries.proofs.LineLemmas.{line_is}
use Rattle.entries.proofs.StoredLemmas.{raws_pushed, made_pushed}
use Rattle.entries.proofs.attributes.LineAdder.add_line.Goals as goal

pub returns-in-Ok-false-clause-gives : goal.returns-in-Ok-false-clause-gives
returns-in-Ok-false-clause-gives c =
    let es : List EntryAttribute = c.args.attrs.now.entries in
    let v : Value = c.in_ok-t.value in
    let there : has_norm v.norm (values_of es c.in_ok-t.t) ≡ true = not-false _ (sym c.in-Ok-false.ensures.is_new ∙ c.in-Ok-false.field-0-test) in
    line_is c.args.self.now.conf.now.types es c.requires.made c.in_ok-t.t v c.in_ok-t.ensures.normal (has_norm v.norm (values_of es c.in_ok-t.t)) refl c.args.self.now.mode c.args.line.now c.in_ok-t.ensures.gives
    ∙ ap (λ b. cond b (Err AttributeOrValueExists) (Ok (push_value (attributes_of es) c.in_ok-t.t v.raw))) there

pub returns-in-Ok-true-clause-made : goal.returns-in-Ok-true-clause-made
returns-in-Ok-true-clause-made c =
    let es : List EntryAttribute = c.args.attrs.now.entries in
    let put : c.put_new.new.attrs.entries ≡ push_value es c.in_ok-t.t c.in_ok-t.value =
    c.in-Ok-true.ensures.entries ∙ ap (λ (b : Bool). cond b (push_value es c.in_ok-t.t c.in_ok-t.value) es) c.in-Ok-true.field-0-test in
    subst (IsMade c.args.self.now.conf.now.types) (sym put) (made_pushed c.args.self.now.conf.now.types c.in_ok-t.t es c.in_ok-t.value c.requires.made c.in_ok-t.ensures.known c.in_ok-t.ensures.normal)

pub returns-in-Ok-true-clause-gives : goal.returns-in-Ok-true-clause-gives
returns-in-Ok-true-clause-gives c =
    let es : List EntryAttribute = c.args.attrs.now.entries in
    let v : Value = c.in_ok-t.value in
    let put : c.put_new.new.attrs.entries ≡ push_value es c.in_ok-t.t v =
    c.in-Ok-true.ensures.entries ∙ ap (λ (b : Bool). cond b (push_value es c.in_ok-t.t v) es) c.in-Ok-true.field-0-test in
    let new : has_norm v.norm (values_of es c.in_ok-t.t) ≡ false = not-true _ (sym c.in-Ok-true.ensures.is_new ∙ c.in-Ok-true.field-0-test) in
    line_is c.args.self.now.conf.now.types es c.requires.made c.in_ok-t.t v c.in_ok-t.ensures.normal (has_norm v.norm (values_of es c.in_ok-t.t)) refl c.args.self.now.mode c.args.line.now c.in_ok-t.ensures.gives
    ∙ ap (λ b. cond b (Err AttributeOrValueExists) (Ok (push_value (attributes_of es) c.in_ok-t.t v.raw))) new
    ∙ ap (λ (x : Attributes). Ok x) (sym (raws_pushed es c.in_ok-t.t v) ∙ ap attributes_of (sym put))
