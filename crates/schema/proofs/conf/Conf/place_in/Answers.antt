use Rattle.std.proofs.Common.{◌≡◌, ◌∙◌, ◌++◌, ◌∷◌, false, List, ℕ, Result, sym, ap, subst}
use Rattle.std.specs.List.{list_all}
use Rattle.base.specs.Ends.{is_space}
use Rattle.dn.specs.Apart.{read_apart}
use Rattle.dn.specs.Reading.{name_of}
use Rattle.schema.specs.declared.code.Code.{Code}
use Rattle.schema.specs.inner.Keys.{rdns_down}
use Rattle.schema.specs.Rdns.{TypedRdn}
use Rattle.schema.specs.Gives.{Gives}
use Rattle.schema.proofs.Fronts.{front_is}
use Rattle.schema.proofs.conf.Conf.place_in.Goals as goal

pub returns-in-Some-clause-rdns : goal.returns-in-Some-clause-rdns
returns-in-Some-clause-rdns c =
    let text : List ℕ = c.args.text.now in
    let front : List ℕ = c.in-Some.front.now in
    let is = c.in-Some.ensures.text ∙ ap (λ (suffix : List ℕ). front ++ 44 ∷ suffix) c.suffix_text.ensures in
    let apart = subst (λ (suffix : List ℕ). list_all is_space suffix ≡ false → name_of text ≡ read_apart front suffix) c.suffix_text.ensures c.in-Some.ensures.read in
    let said = front_is c.valid_values_are_bytes.ensures c.args.self.now c.rules_are_kept.ensures c.written_names_are_read.ensures.read c.written_names_are_read.ensures.ascii text front is apart in
    subst (λ (d : Result (List TypedRdn) Code). Gives rdns_down c.front_place.result d) (sym said) c.front_place.ensures.rdns
