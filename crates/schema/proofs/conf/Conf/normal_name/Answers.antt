use Rattle.std.proofs.Common.{◌≡◌, ◌∙◌, ◌++◌, ◌∷◌, false, List, ℕ, Option, sym, ap, subst}
use Rattle.std.specs.Prelude.{IfOk}
use Rattle.std.specs.List.{list_all}
use Rattle.base.specs.Ends.{is_space}
use Rattle.dn.specs.Apart.{read_apart}
use Rattle.dn.specs.Reading.{name_of}
use Rattle.schema.proofs.Fronts.{normal_is}
use Rattle.schema.proofs.conf.Conf.normal_name.Goals as goal

pub returns-in-Some : goal.returns-in-Some
returns-in-Some c =
    let text : List ℕ = c.args.text.now in
    let front : List ℕ = c.in-Some.front.now in
    let is = c.in-Some.ensures.text ∙ ap (λ (suffix : List ℕ). front ++ 44 ∷ suffix) c.suffix_text.ensures in
    let apart = subst (λ (suffix : List ℕ). list_all is_space suffix ≡ false → name_of text ≡ read_apart front suffix) c.suffix_text.ensures c.in-Some.ensures.read in
    let said = normal_is c.valid_values_are_bytes.ensures c.args.self.now c.rules_are_kept.ensures c.written_names_are_read.ensures.read c.written_names_are_read.ensures.ascii text front is apart c.in-Some.ensures.some in
    subst (λ (d : Option (List ℕ)). IfOk c.normal_front.result (λ o. o ≡ d)) (sym said) c.normal_front.ensures
