-- Pushes one after another.
use Rattle.std.proofs.Common.{◌≡◌, ℕ, ◌+◌, ◌<◌, ◌≤◌, List, [], ◌++◌, length, take, drop, Option, Some, None, refl, sym, ap, ◌∙◌, append_assoc, arith}
use Rattle.std.proofs.lemmas.List.{append-nil, length-append, take-append-drop, take-append-le, length-take, take-take, drop-take}
use Rattle.std.proofs.Math.Seq.{take-append-add}
use Rattle.std.specs.Io.KnownBytes.{Appends, Keeps}
use Rattle.device.specs.Device.{Written, Took, PushFailed, Broke}

appends_none : (a : Option (List ℕ)) → Appends a a []
appends_none None = tt
appends_none (Some xs) = sym (append-nil xs)

pub took_none : (a : Written) → Took a a []
took_none a = record { taken = appends_none a.bytes; count = omega arith; failed = refl }

appends_more : (a b c : Option (List ℕ)) (xs ys : List ℕ) → Appends a b xs → Appends b c ys → Appends a c (xs ++ ys)
appends_more None b c xs ys h k = tt
appends_more (Some as1) None c xs ys h k = absurd h
appends_more (Some as1) (Some bs) None xs ys h k = absurd k
appends_more (Some as1) (Some bs) (Some cs) xs ys h k = k ∙ ap (λ (z : List ℕ). z ++ ys) h ∙ append_assoc as1 xs ys

appends_keeps : (a b c : Option (List ℕ)) (xs : List ℕ) → Appends a b xs → Keeps b c → Appends a c xs
appends_keeps None b c xs h k = tt
appends_keeps (Some as1) None c xs h k = absurd h
appends_keeps (Some as1) (Some bs) None xs h k = absurd k
appends_keeps (Some as1) (Some bs) (Some cs) xs h k = k ∙ h

pub took_more : (a b c : Written) (xs ys zs : List ℕ) → Took a b xs → Took b c ys → xs ++ ys ≡ zs → Took a c zs
took_more a b c xs ys zs h k e = rw (← e) (record {
  taken = appends_more a.bytes b.bytes c.bytes xs ys h.taken k.taken;
  count = omega (arith, h.count, k.count, length-append xs ys);
  failed = k.failed ∙ h.failed;
})

pub broke : (a b c : Written) (bytes : List ℕ) (at : ℕ) → at < length bytes → Took a b (take at bytes) → PushFailed b c → Broke a c bytes
broke a b c bytes at le h k = record {
  len = at;
  within = le;
  taken = appends_keeps a.bytes b.bytes c.bytes (take at bytes) h.taken k.taken;
  count = omega (arith, h.count, k.count, length-take at bytes);
  failed = k.failed ∙ ap (λ n. n + 1) h.failed;
}

-- the bytes that one more push took
pub take_next : (bs : List ℕ) (at n k : ℕ) → n ≤ k → take at bs ++ take n (take k (drop at bs)) ≡ take (at + n) bs
take_next bs at n k le =
    let whole : take at (take (at + n) bs) ++ drop at (take (at + n) bs) ≡ take (at + n) bs = take-append-drop at (take (at + n) bs) in
    rw (take-take n k (drop at bs) le) (rw (take-take at (at + n) bs (omega arith), drop-take at n bs) at whole)

-- some bytes were taken, and then a beginning of others
pub broke_after : (a b c : Written) (xs ys : List ℕ) → Took a b xs → Broke b c ys → Broke a c (xs ++ ys)
broke_after a b c xs ys h k = record {
  len = length xs + k.len;
  within = omega (arith, k.within, length-append xs ys);
  taken = rw (take-append-add xs ys k.len) (appends_more a.bytes b.bytes c.bytes xs (take k.len ys) h.taken k.taken);
  count = omega (arith, h.count, k.count);
  failed = k.failed ∙ ap (λ n. n + 1) h.failed;
}

-- a beginning of some bytes is one of more bytes
pub broke_before : (a b : Written) (xs ys : List ℕ) → Broke a b xs → Broke a b (xs ++ ys)
broke_before a b xs ys h = record {
  len = h.len;
  within = omega (arith, h.within, length-append xs ys);
  taken = rw (take-append-le h.len xs ys (omega (arith, h.within))) h.taken;
  count = h.count;
  failed = h.failed;
}
