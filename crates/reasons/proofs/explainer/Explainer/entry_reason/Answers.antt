use Rattle.std.proofs.Common.{◌≡◌, ℕ, List, Option, Bor, true, false, sym, ap, subst, ◌∙◌}
use Rattle.std.specs.Prelude.{is_some}
use Rattle.std.specs.Option.{option_copied, IfSome, IfNone}
use Rattle.values.specs.Values.{Value}
use Rattle.entries.specs.Entries.{are_single}
use Rattle.entries.specs.EntryClasses.{has_class}
use Rattle.entries.specs.StoredEntries.{attributes_of}
use Rattle.entries.proofs.StoredLemmas.{there_is}
use Rattle.reasons.specs.Reasons.{IsMany}
use Rattle.reasons.proofs.EntriesFound.{no_class, class_found, many_found, single_found, none_of_classes}
use Rattle.reasons.proofs.explainer.Explainer.entry_reason.Goals as goal

pub returns-in_default : goal.returns-in_default
returns-in_default c =
    let es = c.args.attrs.now in
    let none : has_class (attributes_of es) ≡ false = sym (ap is_some c.values_at.ensures ∙ there_is 0 es) ∙ ap (λ (r : Option (Bor (List Value))). is_some (option_copied r)) c.in_default.is in
    no_class c.args.self.now.conf.now (attributes_of es) _ none

pub returns-then-is_some : goal.returns-then-is_some
returns-then-is_some c =
    let es = c.args.attrs.now in
    let there : has_class (attributes_of es) ≡ true = sym (ap is_some c.values_at.ensures ∙ there_is 0 es) ∙ ap (λ (r : Option (Bor (List Value))). is_some (option_copied r)) c.in-Some.is in
    class_found c.args.self.now.conf.now (attributes_of es) c.in_ok-found.found (sym c.is_some.ensures ∙ c.if-is_some.true) there c.in_ok-found.ensures

pub returns-in-Some-2 : goal.returns-in-Some-2
returns-in-Some-2 c =
    let es = c.args.attrs.now in
    let conf = c.args.self.now.conf.now in
    let there : has_class (attributes_of es) ≡ true = sym (ap is_some c.values_at.ensures ∙ there_is 0 es) ∙ ap (λ (r : Option (Bor (List Value))). is_some (option_copied r)) c.in-Some.is in
    let many = subst (λ (o : Option (ℕ × ℕ)). IfSome o (λ many. IsMany conf (attributes_of es) many.0 many.1)) c.in-Some-2.is c.in_ok-many.ensures.some in
    many_found conf (attributes_of es) there (none_of_classes conf (attributes_of es) c.in_ok-found.found (sym c.is_some.ensures ∙ c.if-is_some.false) c.in_ok-found.ensures) c.in-Some-2.many.0 c.in-Some-2.many.1 many

pub returns : goal.returns
returns c =
    let es = c.args.attrs.now in
    let conf = c.args.self.now.conf.now in
    let there : has_class (attributes_of es) ≡ true = sym (ap is_some c.values_at.ensures ∙ there_is 0 es) ∙ ap (λ (r : Option (Bor (List Value))). is_some (option_copied r)) c.in-Some.is in
    let single = subst (λ (o : Option (ℕ × ℕ)). IfNone o (are_single conf.types (attributes_of es) ≡ true)) c.in_default-2.is c.in_ok-many.ensures.none in
    single_found conf (attributes_of es) there (none_of_classes conf (attributes_of es) c.in_ok-found.found (sym c.is_some.ensures ∙ c.if-is_some.false) c.in_ok-found.ensures) single
