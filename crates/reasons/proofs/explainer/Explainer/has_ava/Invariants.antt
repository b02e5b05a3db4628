use Rattle.std.proofs.Common.{◌≡◌, ◌&&◌, drop, nat_eq}
use Rattle.std.specs.List.{AllByRecursion, list_any}
use Rattle.std.specs.Str.{bytes_eq}
use Rattle.schema.specs.Values.{norm_at}
use Rattle.schema.specs.Rdns.{Ava}
use Rattle.schema.specs.GoodRdns.{IsAva}
use Rattle.reasons.proofs.explainer.Explainer.has_ava.Given as goal

abbrev pub invariant-loop-ava : goal.invariant-loop-ava
invariant-loop-ava l = record {
  left : AllByRecursion (IsAva l.self.conf.now.types) (drop l.ava-index l.ava-items);
  rest : list_any (λ (q : Ava). nat_eq l.t q.0 && bytes_eq (norm_at l.self.conf.now.types l.t q.1) l.norm) (drop l.ava-index l.ava-items) ≡ list_any (λ (q : Ava). nat_eq l.t q.0 && bytes_eq (norm_at l.self.conf.now.types l.t q.1) l.norm) l.rdn;
}
