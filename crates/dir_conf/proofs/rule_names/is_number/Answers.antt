use Rattle.std.proofs.Common.{ℕ, List, ◌≡◌, ◌++◌, ◌∙◌, sym, ap, take}
use Rattle.std.specs.Prelude.{codes}
use Rattle.std.specs.Str.{bytes_eq}
use Rattle.std.proofs.lemmas.List.{take-append-drop}
use Rattle.std.proofs.lemmas.Slice.Eq.{bytes_eq-Decides}
use Rattle.dir_conf.specs.RuleNames.{numbered}
use Rattle.dir_conf.proofs.RulePrefix.{same_front}
use Rattle.dir_conf.proofs.rule_names.is_number.Goals as goal

pub returns-in-Some : goal.returns-in-Some
returns-in-Some c =
    let front = codes "1.3.6.1.4.1.1466.115.121.1." in
    let oid = c.args.oid.now in
    let begins : take 27 oid ≡ front = (bytes_eq-Decides (take 27 oid) front).0 c.in-Some.ensures.cases.0 in
    let whole : oid ≡ front ++ c.in-Some.rest.now = sym (take-append-drop 27 oid) ∙ (λ j. begins j ++ sym c.in-Some.ensures.cases.1 j) in
    c.eq.ensures ∙ sym (same_front front c.in-Some.rest.now c.args.number.now) ∙ ap (λ (text : List ℕ). bytes_eq text (numbered c.args.number.now)) (sym whole)
