use Rattle.schema.proofs.WaysOut.{gives_nothing}
use Rattle.std.proofs.lemmas.Result.{IfOk-from_err}
use Rattle.std.proofs.Common.{◌≡◌, ℕ, ◌≤◌, ◌-◌, List, ap, sym, ◌∙◌, length, reverse, map, take, drop, Result, Ok, arith}
use Rattle.std.proofs.lemmas.List.{drop-map, length-map, length-reverse}
use Rattle.schema.specs.declared.code.Code.{Code}
use Rattle.paths.specs.Paths.{Path, begins}
use Rattle.schema.specs.Rdns.{TypedRdn, rdn_key_of}
use Rattle.schema.proofs.Below.{isnt_below, is_below, reversed_front, begins_long}
use Rattle.schema.proofs.conf.Conf.below_suffix.Goals.{After-suffix, After-truncate}
use Rattle.schema.proofs.conf.Conf.below_suffix.Goals as goal

abbrev ok : List TypedRdn → Result (List TypedRdn) Code
ok rs = Ok rs

pub returns-then-not-begins-clause-rdns : goal.returns-then-not-begins-clause-rdns
returns-then-not-begins-clause-rdns c =
    isnt_below c.args.self.now.types (reverse c.args.self.now.suffix) (reverse c.args.typed.rdns.items) c.args.typed.path c.begins.result c.requires
    (c.begins.ensures ∙ ap (λ (k : Path). begins k c.args.typed.path) c.root.ensures) c.if-not-begins.true

-- the name has as many RDNs as the suffix, or more
long : (c : After-suffix) → length c.args.self.now.suffix ≤ length c.args.typed.rdns.items
long c =
    let le = begins_long c.root.result.now c.args.typed.path (sym c.begins.ensures ∙ c.if-not-begins.false) in
    let upper : length c.root.result.now ≡ length c.args.self.now.suffix =
    ap (λ (p : Path). length p) c.root.ensures ∙ length-map (reverse c.args.self.now.suffix) (rdn_key_of c.args.self.now.types) ∙ length-reverse c.args.self.now.suffix in
    let whole : length c.args.typed.path ≡ length c.args.typed.rdns.items =
    ap (λ (p : Path). length p) c.requires ∙ length-map (reverse c.args.typed.rdns.items) (rdn_key_of c.args.self.now.types) ∙ length-reverse c.args.typed.rdns.items in
    omega (arith, le)

pub overflow_sub-len : goal.overflow_sub-len
overflow_sub-len c =
    let le = long c in
    let seen : length c.suffix.result.now ≡ length c.args.self.now.suffix = ap (λ (s : List TypedRdn). length s) c.suffix.ensures in
    omega (arith, le, c.args.typed.rdns.ok.0)

-- the RDNs below the suffix, from the suffix down
rest_is : (c : After-truncate) → length c.args.self.now.suffix ≤ length c.args.typed.rdns.items → reverse c.truncate.new.self.items ≡ drop (length (reverse c.args.self.now.suffix)) (reverse c.args.typed.rdns.items)
rest_is c le =
    let rdns : List TypedRdn = c.args.typed.rdns.items in
    let few : ℕ = length c.args.self.now.suffix in
    let kept : c.len.result - length c.suffix.result.now ≡ length rdns - few = λ i. (c.len.ensures ∙ c.args.typed.rdns.ok.0) i - length (c.suffix.ensures i) in
    ap (λ (rs : List TypedRdn). reverse rs) (c.truncate.ensures.items ∙ ap (λ n. take n rdns) kept) ∙ reversed_front rdns few le
    ∙ ap (λ n. drop n (reverse rdns)) (sym (length-reverse c.args.self.now.suffix))

pub returns-clause-rdns : goal.returns-clause-rdns
returns-clause-rdns c =
    is_below c.args.self.now.types (reverse c.args.self.now.suffix) (reverse c.args.typed.rdns.items) c.args.typed.path c.begins.result c.requires
    (c.begins.ensures ∙ ap (λ (k : Path). begins k c.args.typed.path) c.root.ensures) c.if-not-begins.false
    ∙ ap ok (sym (rest_is (goal.at.returns-clause-rdns c).After-truncate (long (goal.at.returns-clause-rdns c).After-suffix)))

pub returns-clause-keys : goal.returns-clause-keys
returns-clause-keys c =
    let types = c.args.self.now.types in
    let upper : length c.root-2.result.now ≡ length (reverse c.args.self.now.suffix) = ap (λ (p : Path). length p) c.root-2.ensures ∙ length-map (reverse c.args.self.now.suffix) (rdn_key_of types) in
    c.in_ok-path.ensures ∙ ap (λ n. drop n c.args.typed.path) upper ∙ ap (λ (p : Path). drop (length (reverse c.args.self.now.suffix)) p) c.requires
    ∙ drop-map (rdn_key_of types) (length (reverse c.args.self.now.suffix)) (reverse c.args.typed.rdns.items)
    ∙ ap (map (rdn_key_of types)) (sym (rest_is (goal.at.returns-clause-keys c).After-truncate (long (goal.at.returns-clause-keys c).After-suffix)))

pub returns-in_err-path-clause-keys : goal.returns-in_err-path-clause-keys
returns-in_err-path-clause-keys c = IfOk-from_err _ _ c.from_residual.ensures.0

pub returns-in_err-path-clause-rdns : goal.returns-in_err-path-clause-rdns
returns-in_err-path-clause-rdns c = gives_nothing _ c.from_residual.result _ c.from_residual.ensures.1
