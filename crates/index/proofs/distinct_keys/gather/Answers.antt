use Rattle.index.proofs.Distinct.{put_last}
use Rattle.index.proofs.distinct_keys.gather.Goals as goal

pub returns : goal.returns
returns c = λ q. put_last (λ k. k.now) q c.args.keys.now.items c.tidy_many-next.new.keys.items c.push.new.self.items c.args.key (c.tidy_many-next.ensures q) c.in_ok-push.ensures.items
