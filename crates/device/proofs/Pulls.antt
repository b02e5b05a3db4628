-- Pulls one after another.
use Rattle.std.proofs.Common.{ℕ, List, [], ◌++◌, Option, Some, None, refl, sym, ap, ◌∙◌, append_assoc, arith}
use Rattle.std.proofs.lemmas.List.{length-append}
use Rattle.std.specs.Io.KnownBytes.{Consumes, Keeps}
use Rattle.device.specs.Device.{Seen, Gave, Pulled, GaveSome, PullFailed}

consumes_none : (a : Option (List ℕ)) → Consumes a a []
consumes_none None = tt
consumes_none (Some xs) = refl

consumes_more : (a b c : Option (List ℕ)) (xs ys : List ℕ) → Consumes a b xs → Consumes b c ys → Consumes a c (xs ++ ys)
consumes_more None b c xs ys h k = tt
consumes_more (Some as1) None c xs ys h k = absurd h
consumes_more (Some as1) (Some bs) None xs ys h k = absurd k
consumes_more (Some as1) (Some bs) (Some cs) xs ys h k = h ∙ ap (λ (z : List ℕ). xs ++ z) k ∙ sym (append_assoc xs ys cs)

keeps_consumes : (a b : Option (List ℕ)) → Keeps a b → Consumes a b []
keeps_consumes None b h = tt
keeps_consumes (Some xs) None h = absurd h
keeps_consumes (Some xs) (Some ys) h = sym h

pub pulled_none : (a : Seen) → Pulled a a []
pulled_none a = record { left = consumes_none a.left; count = omega arith }

pub pulled_more : (a b c : Seen) (xs ys : List ℕ) → Pulled a b xs → Pulled b c ys → Pulled a c (xs ++ ys)
pulled_more a b c xs ys h k = record {
  left = consumes_more a.left b.left c.left xs ys h.left k.left;
  count = omega (arith, h.count, k.count, length-append xs ys);
}

pub pulled_by : (a b : Seen) (xs : List ℕ) → Gave a b xs → Pulled a b xs
pulled_by a b xs h = record { left = h.left; count = h.pulled }

pub pulled_failed : (a b : Seen) → PullFailed a b → Pulled a b []
pulled_failed a b h = record { left = keeps_consumes a.left b.left h.left; count = omega (arith, h.pulled) }

pub gave_none : (a : Seen) → GaveSome a a
gave_none a = record { bytes = []; are = pulled_none a }

pub gave_more : (a b c : Seen) → GaveSome a b → GaveSome b c → GaveSome a c
gave_more a b c h k = record { bytes = h.bytes ++ k.bytes; are = pulled_more a b c h.bytes k.bytes h.are k.are }
