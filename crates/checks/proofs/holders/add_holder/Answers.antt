use Rattle.std.proofs.Common.{◌≡◌, ◌∷◌, ◌++◌, [], List, ℕ, sym, ap, subst, ◌∙◌}
use Rattle.std.specs.Prelude.{is_some}
use Rattle.std.proofs.lemmas.Result.{on_ok_weaker}
use Rattle.checks.specs.inner.Holders.{HoldersByNorm, paths_in, paths_at}
use Rattle.checks.proofs.Holding.{Puts, one_put}
use Rattle.checks.proofs.holders.add_holder.Goals as goal

pub returns-in-Some : goal.returns-in-Some
returns-in-Some c =
    let m : HoldersByNorm = c.args.holders.now in
    let n : HoldersByNorm = c.get_mut.follows.lender c.push.new.self in
    let p = c.args.path.now in
    let there = sym (ap paths_in c.in-Some.ensures.value) in
    on_ok_weaker c.push.result (λ pushed. subst (λ (k : List ℕ). Puts m n k p) c.in_ok-norm.ensures
    (one_put m n c.in_ok-norm.norm p c.push.new.self (pushed ∙ ap (λ ps. ps ++ p ∷ []) (sym there)) ((c.get_mut.follows.holds c.push.new.self).3 (sym (ap is_some c.in-Some.ensures.value))).0)) c.push.ensures.ok

pub returns : goal.returns
returns c =
    let m : HoldersByNorm = c.args.holders.now in
    let mid : HoldersByNorm = c.get_mut.follows.lender-at-none in
    let n : HoldersByNorm = c.insert.new.self in
    let p = c.args.path.now in
    let none : paths_at mid c.in_ok-norm.norm ≡ [] = ap (λ (k : HoldersByNorm). paths_at k c.in_ok-norm.norm) c.get_mut.follows.holds-at-none ∙ sym (ap paths_in c.in_default.ensures.value) in
    subst (λ (k : List ℕ). Puts m n k p) c.in_ok-norm.ensures
    (subst (λ (k : HoldersByNorm). Puts k n c.in_ok-norm.norm p) c.get_mut.follows.holds-at-none
    (one_put mid n c.in_ok-norm.norm p c.one.result (c.one.ensures ∙ sym (ap (λ ps. ps ++ p ∷ []) none)) c.in_ok-insert.ensures.updates.0))
