use Rattle.std.proofs.Common.{◌+◌, drop, ap, refl}
use Rattle.std.proofs.lemmas.List.{take-append-le}
use Rattle.device.proofs.adapters.OfReadSource.pull.Goals as goal

pub returns-in-Ok-clause-gave : goal.returns-in-Ok-clause-gave
returns-in-Ok-clause-gave g c =
    rw (take-append-le c.in-Ok.n c.read.new.buf (drop c.if-buffer-room.most c.args.buffer.now) c.in-Ok.ensures.bound.0) (record {
      left = c.in-Ok.ensures.bytes.0;
      pulled = ap (λ k. c.args.self.now.pulled + k) c.in-Ok.ensures.bound.1;
      failed = refl;
      stays_ended = λ h. absurd (cc);
    })
