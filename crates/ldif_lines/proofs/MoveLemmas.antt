-- How a reader goes on.
use Rattle.std.proofs.Common.{◌≡◌, ℕ, zero, suc, ◌+◌, ◌^◌, ◌-◌, ◌<◌, ◌≤◌, Bool, true, false, List, [], ◌∷◌, ◌++◌, length, take, drop, Option, Some, None, refl, sym, ap, ◌∙◌, subst, option_map, append_assoc, append-nil, length-append, arith}
use Rattle.std.specs.Io.KnownBytes.{Consumes, IsAtEnd}
use Rattle.std.proofs.lemmas.List.{take-append-drop, drop-take, drop-drop}
use Rattle.device.specs.Device.{Seen, Gave, Pulled, GaveSome, PullFailed}
use Rattle.device.proofs.Pulls.{pulled_none, pulled_more, pulled_by, pulled_failed}
use Rattle.ldif_lines.specs.Records.{RawRecord, records_from, closed_from, with_first, body_of_block, joined_block, body_of}
use Rattle.ldif_lines.specs.Reader.{Takes, IsEnd}
use Rattle.ldif_lines.specs.inner.Drafts.{none_numbered}
use Rattle.ldif_lines.specs.inner.States.{State, next_state, gives}
use Rattle.ldif_lines.specs.inner.Moves.{Moved, EndsAt, Ended, Drained, Broken}
use Rattle.ldif_lines.proofs.StateLemmas.{closes-nothing}
use Rattle.ldif_lines.proofs.DraftLemmas.{pending-fresh, closing-fresh}

-- held bytes, of which some are taken
pub rest_cut : (p : List ℕ) (a e n : ℕ) → a + n ≤ e → take (e - a) (drop a p) ≡ take n (take (e - a) (drop a p)) ++ take (e - (a + n)) (drop (a + n) p)
rest_cut p a e n h =
    let xs = take (e - a) (drop a p) in
    let m = e - (a + n) in
    let size : e - a ≡ n + m = omega arith in
    let back : drop n xs ≡ take m (drop (a + n) p) = ap (λ (k : ℕ). drop n (take k (drop a p))) size ∙ drop-take n m (drop a p) ∙ ap (take m) (drop-drop n a p) in
    sym (take-append-drop n xs) ∙ ap (λ (l : List ℕ). take n xs ++ l) back

pub moved-refl : (a : Seen) (u : List ℕ) (s : State) → Moved a a u u s s
moved-refl a u s = record { got = []; eaten = []; pulled = pulled_none a; failed = refl; bytes = append-nil u; same = λ only rest. refl }

-- bytes that were held and are taken
pub moved-taken : (a : Seen) (n : ℕ) (u v : List ℕ) (s t : State) → u ≡ take n u ++ v → ((only : Bool) (rest : List ℕ) → gives only s (take n u ++ rest) ≡ gives only t rest) → Moved a a u v s t
moved-taken a n u v s t e law = record { got = []; eaten = take n u; pulled = pulled_none a; failed = refl; bytes = append-nil u ∙ e; same = law }

pub ended-taken : (a : Seen) (n : ℕ) (u v : List ℕ) (s t : State) (r : RawRecord) → u ≡ take n u ++ v → EndsAt s (take n u) r t → Ended a a u v s t r
ended-taken a n u v s t r e law = record { got = []; block = take n u; pulled = pulled_none a; failed = refl; bytes = append-nil u ∙ e; ends = law }

-- bytes that were pulled where none was held
pub moved-pulled : (a b : Seen) (u v : List ℕ) (s : State) → u ≡ [] → Gave a b v → Moved a b u v s s
moved-pulled a b u v s e g = record { got = v; eaten = []; pulled = pulled_by a b v g; failed = g.failed; bytes = ap (λ l. l ++ v) e; same = λ only rest. refl }

joined_bytes : (u v w x y p q : List ℕ) → u ++ p ≡ x ++ v → v ++ q ≡ y ++ w → u ++ (p ++ q) ≡ (x ++ y) ++ w
joined_bytes u v w x y p q e f = sym (append_assoc u p q) ∙ ap (λ l. l ++ q) e ∙ append_assoc x v q ∙ ap (λ l. x ++ l) f ∙ sym (append_assoc x y w)

pub moved-trans : (a b c : Seen) (u v w : List ℕ) (s t z : State) → Moved a b u v s t → Moved b c v w t z → Moved a c u w s z
moved-trans a b c u v w s t z h k = record {
  got = h.got ++ k.got;
  eaten = h.eaten ++ k.eaten;
  pulled = pulled_more a b c h.got k.got h.pulled k.pulled;
  failed = k.failed ∙ h.failed;
  bytes = joined_bytes u v w h.eaten k.eaten h.got k.got h.bytes k.bytes;
  same = λ only rest. ap (gives only s) (append_assoc h.eaten k.eaten rest) ∙ h.same only (k.eaten ++ rest) ∙ k.same only rest;
}

pub ends-trans : (s t z : State) (x y : List ℕ) (r : RawRecord) → ((only : Bool) (rest : List ℕ) → gives only s (x ++ rest) ≡ gives only t rest) → EndsAt t y r z → EndsAt s (x ++ y) r z
ends-trans s t z x y r law k = record {
  eaten = x ++ k.eaten;
  bytes = ap (λ l. x ++ l) k.bytes ∙ sym (append_assoc x k.eaten (10 ∷ []));
  before = law true k.eaten ∙ k.before;
  ends = λ only rest. ap (gives only s) (append_assoc x y rest) ∙ law only (y ++ rest) ∙ k.ends only rest;
}

pub ended-trans : (a b c : Seen) (u v w : List ℕ) (s t z : State) (r : RawRecord) → Moved a b u v s t → Ended b c v w t z r → Ended a c u w s z r
ended-trans a b c u v w s t z r h k = record {
  got = h.got ++ k.got;
  block = h.eaten ++ k.block;
  pulled = pulled_more a b c h.got k.got h.pulled k.pulled;
  failed = k.failed ∙ h.failed;
  bytes = joined_bytes u v w h.eaten k.block h.got k.got h.bytes k.bytes;
  ends = ends-trans s t z h.eaten k.block r h.same k.ends;
}

-- what all bytes that were held and pulled give
all_taken : (only : Bool) (a b : Seen) (u v : List ℕ) (s t : State) (h : Moved a b u v s t) → v ≡ [] → gives only s (u ++ h.got) ≡ gives only t []
all_taken only a b u v s t h e =
    ap (gives only s) (h.bytes ∙ ap (λ l. h.eaten ++ l) e) ∙ h.same only []

pub drained : (a b : Seen) (u v : List ℕ) (s t : State) (rs : List RawRecord) → Moved a b u v s t → v ≡ [] → IsAtEnd b.left → gives false t [] ≡ rs → Drained a b u v s rs
drained a b u v s t rs h e end last = record {
  got = h.got;
  pulled = h.pulled;
  at_end = end;
  failed = h.failed;
  none = e;
  closed = all_taken true a b u v s t h e ∙ closes-nothing t;
  rest = all_taken false a b u v s t h e ∙ last;
}

pub broken : (a b c : Seen) (u v : List ℕ) (s t : State) → Moved a b u v s t → v ≡ [] → PullFailed b c → Broken a c u s
broken a b c u v s t h e f = record {
  got = h.got ++ [];
  pulled = pulled_more a b c h.got [] h.pulled (pulled_failed b c f);
  failed = f.failed ∙ ap (λ (n : ℕ). n + 1) h.failed;
  closed = ap (λ l. gives true s (u ++ l)) (append-nil h.got) ∙ all_taken true a b u v s t h e ∙ closes-nothing t;
}

pub moved-same : (a b c : Seen) (u v w : List ℕ) (s t : State) → c ≡ b → w ≡ v → Moved a b u v s t → Moved a c u w s t
moved-same a b c u v w s t e f h = subst (λ (x : Seen). Moved a x u w s t) (sym e) (subst (λ (l : List ℕ). Moved a b u l s t) (sym f) h)

pub none_held : (p : List ℕ) (a e : ℕ) → e ≤ a → take (e - a) (drop a p) ≡ []
none_held p a e h = let z : e - a ≡ 0 = omega arith in ap (λ (k : ℕ). take k (drop a p)) z

-- ---- what the records that are left become

pub gives-fresh : (first : Bool) (count : ℕ) (rest : List ℕ) → gives false (record (next_state count) { first = first }) rest ≡ records_from first (count + 1) rest
unfolding gives
gives-fresh first count rest = pending-fresh first none_numbered (count + 1) rest

takes_by : (a b : Option (List ℕ)) (got block u v : List ℕ) (first : Bool) (n m : ℕ) (r : RawRecord) → Consumes a b got → u ++ got ≡ block ++ v
    → ((rest : List ℕ) → records_from first (n + 1) (block ++ rest) ≡ r ∷ records_from false (m + 1) rest)
    → Takes (option_map (λ bs. records_from first (n + 1) (u ++ bs)) a) (option_map (λ bs. records_from false (m + 1) (v ++ bs)) b) (r ∷ [])
takes_by None b got block u v first n m r c e law = tt
takes_by (Some x) None got block u v first n m r c e law = absurd c
takes_by (Some x) (Some y) got block u v first n m r c e law =
    ap (λ l. records_from first (n + 1) (u ++ l)) c
    ∙ ap (records_from first (n + 1)) (sym (append_assoc u got y) ∙ ap (λ l. l ++ y) e ∙ append_assoc block v y)
    ∙ law (v ++ y)

pub ended-takes : (a b : Seen) (u v : List ℕ) (first : Bool) (n m : ℕ) (r : RawRecord) → Ended a b u v (record (next_state n) { first = first }) (next_state m) r
    → Takes (option_map (λ bs. records_from first (n + 1) (u ++ bs)) a.left) (option_map (λ bs. records_from false (m + 1) (v ++ bs)) b.left) (r ∷ [])
ended-takes a b u v first n m r h =
    takes_by a.left b.left h.got h.block u v first n m r h.pulled.left h.bytes
    (λ rest. sym (gives-fresh first n (h.block ++ rest)) ∙ h.ends.ends false rest ∙ ap (λ (rs : List RawRecord). r ∷ rs) (gives-fresh false m rest))

pub no_records : (first : Bool) (n : ℕ) → records_from first n [] ≡ []
unfolding records_from with_first body_of_block joined_block body_of
no_records first n = refl

drained_by : (a b : Option (List ℕ)) (got u v : List ℕ) (first f : Bool) (n m : ℕ) (rs : List RawRecord) → Consumes a b got → IsAtEnd b → v ≡ []
    → records_from first (n + 1) (u ++ got) ≡ rs
    → Takes (option_map (λ bs. records_from first (n + 1) (u ++ bs)) a) (option_map (λ bs. records_from f (m + 1) (v ++ bs)) b) rs × IsEnd (option_map (λ bs. records_from f (m + 1) (v ++ bs)) b)
drained_by None None got u v first f n m rs c e z law = (tt, tt)
drained_by None (Some y) got u v first f n m rs c e z law = (tt, ap (λ l. records_from f (m + 1) (l ++ y)) z ∙ ap (records_from f (m + 1)) e ∙ no_records f (m + 1))
drained_by (Some x) None got u v first f n m rs c e z law = absurd c
drained_by (Some x) (Some y) got u v first f n m rs c e z law =
    let nil : records_from f (m + 1) (v ++ y) ≡ [] = ap (λ l. records_from f (m + 1) (l ++ y)) z ∙ ap (records_from f (m + 1)) e ∙ no_records f (m + 1) in
    let all : x ≡ got = c ∙ ap (λ l. got ++ l) e ∙ append-nil got in (
      ap (λ l. records_from first (n + 1) (u ++ l)) all ∙ law ∙ sym (append-nil rs) ∙ ap (λ (l : List RawRecord). rs ++ l) (sym nil),
      nil,
    )

pub drained-takes : (a b : Seen) (u v : List ℕ) (first f : Bool) (n m : ℕ) (rs : List RawRecord) → Drained a b u v (record (next_state n) { first = first }) rs
    → Takes (option_map (λ bs. records_from first (n + 1) (u ++ bs)) a.left) (option_map (λ bs. records_from f (m + 1) (v ++ bs)) b.left) rs × IsEnd (option_map (λ bs. records_from f (m + 1) (v ++ bs)) b.left)
drained-takes a b u v first f n m rs h = drained_by a.left b.left h.got u v first f n m rs h.pulled.left h.at_end h.none (sym (gives-fresh first n (u ++ h.got)) ∙ h.rest)

end_from : (o p : Option (List RawRecord)) → Takes o p [] → IsEnd p → IsEnd o
end_from None p t e = tt
end_from (Some x) None t e = absurd t
end_from (Some x) (Some y) t e = t ∙ e

pub drained-end : (a b : Seen) (u v : List ℕ) (first f : Bool) (n m : ℕ) → Drained a b u v (record (next_state n) { first = first }) []
    → IsEnd (option_map (λ bs. records_from first (n + 1) (u ++ bs)) a.left) × IsEnd (option_map (λ bs. records_from f (m + 1) (v ++ bs)) b.left)
drained-end a b u v first f n m h = let k = drained-takes a b u v first f n m [] h in (end_from _ _ k.0 k.1, k.1)

pub ended-change : (a b c : Seen) (u v w : List ℕ) (s q t z : State) (r x : RawRecord) → c ≡ b → w ≡ v → q ≡ s → z ≡ t → x ≡ r → Ended a b u v s t r → Ended a c u w q z x
ended-change a b c u v w s q t z r x e f g h k d =
    subst (λ (n : Seen). Ended a n u w q z x) (sym e)
    (subst (λ (n : List ℕ). Ended a b u n q z x) (sym f)
    (subst (λ (n : State). Ended a b u v n z x) (sym g)
    (subst (λ (n : State). Ended a b u v s n x) (sym h)
    (subst (λ (n : RawRecord). Ended a b u v s t n) (sym k) d))))

pub drained-change : (a b c : Seen) (u v w : List ℕ) (s q : State) (r x : List RawRecord) → c ≡ b → w ≡ v → q ≡ s → x ≡ r → Drained a b u v s r → Drained a c u w q x
drained-change a b c u v w s q r x e f g k d =
    subst (λ (n : Seen). Drained a n u w q x) (sym e)
    (subst (λ (n : List ℕ). Drained a b u n q x) (sym f)
    (subst (λ (n : State). Drained a b u v n x) (sym g)
    (subst (λ (n : List RawRecord). Drained a b u v s n) (sym k) d)))

falls_by : (p q n lu lv lb : ℕ) → q ≡ p + n → (p < q → q < 2 ^ 64) → lu + n ≡ lb + lv → 0 < lb → (2 ^ 64 - q) + lv < (2 ^ 64 - p) + lu
falls_by p q zero lu lv lb e fits all some = omega arith
falls_by p q (suc n) lu lv lb e fits all some = let k : q < 2 ^ 64 = fits (omega arith) in omega arith

pub ended-falls : (a b : Seen) (u v : List ℕ) (s t : State) (r : RawRecord) → Ended a b u v s t r → (a.pulled < b.pulled → b.pulled < 2 ^ 64) → (2 ^ 64 - b.pulled) + length v < (2 ^ 64 - a.pulled) + length u
ended-falls a b u v s t r h fits =
    let all = ap length h.bytes in
    let block = ap length h.ends.bytes in
    falls_by a.pulled b.pulled (length h.got) (length u) (length v) (length h.block) h.pulled.count fits
    (omega (arith, length-append u h.got, length-append h.block v, all)) (omega (arith, length-append h.ends.eaten (10 ∷ []), block))

nil_cons : {A : Type 0} {x : A} {xs : List A} → [] ≡ x ∷ xs → ⊥
nil_cons e = (cc)

some_bytes : (first : Bool) (n : ℕ) (xs : List ℕ) (r : RawRecord) → gives false (record (next_state n) { first = first }) xs ≡ r ∷ [] → 0 < length xs
some_bytes first n [] r e = absurd (nil_cons (sym (gives-fresh first n [] ∙ no_records first (n + 1)) ∙ e))
some_bytes first n (x ∷ xs) r e = omega arith

pub drained-falls : (a b : Seen) (u v : List ℕ) (first : Bool) (n : ℕ) (r : RawRecord) → Drained a b u v (record (next_state n) { first = first }) (r ∷ []) → (a.pulled < b.pulled → b.pulled < 2 ^ 64)
    → (2 ^ 64 - b.pulled) + length v < (2 ^ 64 - a.pulled) + length u
drained-falls a b u v first n r h fits =
    let none = ap length h.none in
    let some = some_bytes first n (u ++ h.got) r h.rest in
    falls_by a.pulled b.pulled (length h.got) (length u) (length v) (length u + length h.got) h.pulled.count fits (omega (arith, none)) (omega (arith, length-append u h.got, some))

-- ---- the same in the words of the records of a text

pub closes-fresh : (first : Bool) (count : ℕ) (text : List ℕ) → gives true (record (next_state count) { first = first }) text ≡ closed_from first (count + 1) text
unfolding gives
closes-fresh first count text = closing-fresh first none_numbered (count + 1) text

-- ---- what a call took

-- the records that are closed before a record's block is, with it, and behind it
pub block_before : (first : Bool) (n : ℕ) (text : List ℕ) (r : RawRecord) (t : State) (h : EndsAt (record (next_state n) { first = first }) text r t) → closed_from first (n + 1) h.eaten ≡ []
block_before first n text r t h = sym (closes-fresh first n h.eaten) ∙ h.before

pub block_closed : (first f : Bool) (n m : ℕ) (text : List ℕ) (r : RawRecord) (h : EndsAt (record (next_state n) { first = first }) text r (record (next_state m) { first = f })) (rest : List ℕ)
    → closed_from first (n + 1) (h.eaten ++ 10 ∷ rest) ≡ r ∷ closed_from f (m + 1) rest
block_closed first f n m text r h rest =
    sym (closes-fresh first n (h.eaten ++ 10 ∷ rest))
    ∙ ap (gives true (record (next_state n) { first = first })) (sym (append_assoc h.eaten (10 ∷ []) rest) ∙ ap (λ l. l ++ rest) (sym h.bytes))
    ∙ h.ends true rest
    ∙ ap (λ (rs : List RawRecord). r ∷ rs) (closes-fresh f m rest)

pub block_bytes : (a b : Seen) (u v : List ℕ) (s t : State) (r : RawRecord) (h : Ended a b u v s t r) → u ++ h.got ≡ h.ends.eaten ++ 10 ∷ v
block_bytes a b u v s t r h = h.bytes ∙ ap (λ (x : List ℕ). x ++ v) h.ends.bytes ∙ append_assoc h.ends.eaten (10 ∷ []) v

pub closed_none : (first : Bool) (n : ℕ) (text : List ℕ) → gives true (record (next_state n) { first = first }) text ≡ [] → closed_from first (n + 1) text ≡ []
closed_none first n text h = sym (closes-fresh first n text) ∙ h

-- ---- where the source is left alone

nothing_got : (a : Seen) (got : List ℕ) → Pulled a a got → got ≡ []
nothing_got a [] h = refl
nothing_got a (x ∷ xs) h = let k = h.count in absurd (omega (arith, k))

pub late_taken : (a b : Seen) (u v : List ℕ) (s t : State) → b ≡ a → Moved a b u v s t → gives true s u ≡ gives true t v
late_taken a b u v s t e m =
    let k = subst (λ (x : Seen). Moved a x u v s t) e m in
    let none = nothing_got a k.got k.pulled in
    ap (gives true s) (sym (append-nil u) ∙ ap (λ l. u ++ l) (sym none) ∙ k.bytes) ∙ k.same true v

pub late_pulled : (u v : List ℕ) (s t : State) → v ≡ [] → gives true s u ≡ gives true t v → gives true s u ≡ []
late_pulled u v s t e h = h ∙ ap (gives true t) e ∙ closes-nothing t

-- ---- what a call gave

pub moved-gave : (a b : Seen) (u v : List ℕ) (s t : State) → Moved a b u v s t → GaveSome a b
moved-gave a b u v s t h = record { bytes = h.got; are = h.pulled }

-- one byte is left to be pulled, or one is held
more_by : (p q n lu lv lb : ℕ) → q ≡ p + n → (p < q → q < 2 ^ 64) → (0 < lu → p < 2 ^ 64) → lu + n ≡ lb + lv → 0 < lb → 0 < (2 ^ 64 - q) + lv
more_by p q zero lu lv lb e fits held all some = let k : p < 2 ^ 64 = held (omega arith) in omega arith
more_by p q (suc n) lu lv lb e fits held all some = let k : q < 2 ^ 64 = fits (omega arith) in omega arith

pub ended-more : (a b : Seen) (u v : List ℕ) (s t : State) (r : RawRecord) → Ended a b u v s t r → (a.pulled < b.pulled → b.pulled < 2 ^ 64) → (0 < length u → a.pulled < 2 ^ 64) → 0 < (2 ^ 64 - b.pulled) + length v
ended-more a b u v s t r h fits held =
    let all = ap length h.bytes in
    let block = ap length h.ends.bytes in
    more_by a.pulled b.pulled (length h.got) (length u) (length v) (length h.block) h.pulled.count fits held
    (omega (arith, length-append u h.got, length-append h.block v, all)) (omega (arith, length-append h.ends.eaten (10 ∷ []), block))

pub drained-more : (a b : Seen) (u v : List ℕ) (first : Bool) (n : ℕ) (r : RawRecord) → Drained a b u v (record (next_state n) { first = first }) (r ∷ []) → (a.pulled < b.pulled → b.pulled < 2 ^ 64) → (0 < length u → a.pulled < 2 ^ 64)
    → 0 < (2 ^ 64 - b.pulled) + length v
drained-more a b u v first n r h fits held =
    let none = ap length h.none in
    let some = some_bytes first n (u ++ h.got) r h.rest in
    more_by a.pulled b.pulled (length h.got) (length u) (length v) (length u + length h.got) h.pulled.count fits held (omega (arith, none)) (omega (arith, length-append u h.got, some))
