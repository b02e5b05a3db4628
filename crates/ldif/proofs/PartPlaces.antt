-- Where the parts of a record stand.
use Rattle.std.proofs.Common.{◌≡◌, ℕ, zero, suc, ◌+◌, ◌-◌, ◌<◌, ◌≤◌, Bool, true, false, cond, eqb, ltb, List, [], ◌∷◌, ◌++◌, length, take, drop, Option, Some, None, Ok, codes, refl, sym, ap, subst, ◌∙◌, inl, inr, ◌⊎◌, append_assoc, append-nil, length-append, arith}
use Rattle.std.specs.List.{sum_by, position}
use Rattle.std.proofs.Math.Seq.{drop-append-add}
use Rattle.std.proofs.lemmas.List.{length-drop, drop-append-le}
use Rattle.std.proofs.lemmas.List.Sums.{sum_by-cons}
use Rattle.std.proofs.lemmas.Bool.{lt-ltb, ltb-true, true≢false}
use Rattle.base.specs.Answers.{◌>>=◌}
use Rattle.base.specs.Ends.{begins_with}
use Rattle.base.proofs.Bound.{bind_ok}
use Rattle.ldif.specs.Attrs.{Attr}
use Rattle.ldif.specs.declared.fault.LdifFaultKind.TheVariants.{Continuation, ColonMissing}
use Rattle.ldif.specs.declared.record.Control.{Control}
use Rattle.ldif.specs.declared.record.Mod.{Mod}
use Rattle.ldif.specs.declared.record.Mode.{Mode}
use Rattle.ldif.specs.declared.record.Mode.TheVariants.{Content, Changes}
use Rattle.ldif.specs.declared.record.Record.{Record}
use Rattle.ldif.specs.declared.record.Record.TheVariants as records
use Rattle.ldif.specs.declared.parts.Part.{Part}
use Rattle.ldif.specs.declared.parts.Part.TheVariants as parts
use Rattle.ldif.specs.Forms.{IsEach, IsValueLine, IsLineOf, IsControlLine, IsBlock, IsBlocks, IsMore, IsNewSuperior, IsRenaming, IsTail, IsEntry, IsRecord}
use Rattle.ldif.specs.Line.{is_colon, form_of, value_at, value_of, value_line, same_name}
use Rattle.ldif.specs.Parts.{attrs_in, mods_in, controls_in, superior_in, AreValuesFrom, AreControlsFrom, IsPartLine}
use Rattle.ldif.specs.PartLines.{last_dash, block_len, block_end, block_line_by, value_line_by, is_named_by, is_named, name_line, name_in, renaming_len, newrdn_line, superior_line, line_of}
use Rattle.ldif.specs.Reading.{is_dash}
use Rattle.ldif.proofs.ChangeForms.{attr_of, dash_only, no_dash}
use Rattle.ldif.proofs.Colon.{said}
use Rattle.ldif.proofs.Inverted.{ok_is, bad, same_only, other_word, each_all}
use Rattle.ldif.proofs.ValueForms.{line_only}

abbrev pub Lines : Type 0
Lines = List (List ℕ)

-- ---- lists

each_length : {X Y : Type 0} (R : X → Y → Type 0) (xs : List X) (ys : List Y) → IsEach R xs ys → length xs ≡ length ys
each_length R [] [] h = refl
each_length R [] (y ∷ ys) h = absurd h
each_length R (x ∷ xs) [] h = absurd h
each_length R (x ∷ xs) (y ∷ ys) h = ap suc (each_length R xs ys h.1)

each_drop : {X Y : Type 0} (R : X → Y → Type 0) (n : ℕ) (xs : List X) (ys : List Y) → IsEach R xs ys → IsEach R (drop n xs) (drop n ys)
each_drop R zero xs ys h = h
each_drop R (suc n) [] [] h = tt
each_drop R (suc n) [] (y ∷ ys) h = absurd h
each_drop R (suc n) (x ∷ xs) [] h = absurd h
each_drop R (suc n) (x ∷ xs) (y ∷ ys) h = each_drop R n xs ys h.1

ltb_false : (m n : ℕ) → ltb m n ≡ false → m < n → ⊥
ltb_false m n e h = true≢false (sym (lt-ltb m n h) ∙ e)

drop_within : {X : Type 0} (n : ℕ) (xs : List X) (y : X) (ys : List X) → drop n xs ≡ y ∷ ys → n < length xs
drop_within n xs y ys e = omega (arith, length-drop n xs, ap length e)

-- ---- attributes

record HaveAttrs (lines : Lines) (attrs : List Attr) : Type 0 where
  pre : Lines
  more : Lines
  is : lines ≡ pre ++ more
  each : IsEach IsValueLine more attrs

abbrev AttrsStand : Lines → Record → Type 0
AttrsStand lines found = (attrs_in found ≡ []) ⊎ HaveAttrs lines (attrs_in found)

from_end_is : {Y : Type 0} (R : List ℕ → Y → Type 0) (pre more : Lines) (ys : List Y) (i : ℕ) → IsEach R more ys → i < length ys → IsEach R (drop (length (pre ++ more) - (length ys - i)) (pre ++ more)) (drop i ys)
from_end_is R pre more ys i h lt =
    let at : length (pre ++ more) - (length ys - i) ≡ length pre + i = omega (arith, lt, length-append pre more, each_length R more ys h) in
    subst (λ (n : ℕ). IsEach R (drop n (pre ++ more)) (drop i ys)) (sym at) (subst (λ (l : Lines). IsEach R l (drop i ys)) (sym (drop-append-add pre more i)) (each_drop R i more ys h))

attribute_is : (mode : Mode) (lines : Lines) (found : Record) (i : ℕ) → AttrsStand lines found → (t : Bool) → ltb i (length (attrs_in found)) ≡ t
    → IsPartLine mode found (parts.Attribute i) lines (cond t (Some (length lines - (length (attrs_in found) - i))) None)
attribute_is mode lines found i s false e = λ k h. ltb_false i (length (attrs_in found)) e h.0
attribute_is mode lines found i (inl none) true e = let lt = ltb-true i (length (attrs_in found)) e in absurd (omega (arith, lt, ap length none))
attribute_is mode lines found i (inr h) true e =
    let lt = ltb-true i (length (attrs_in found)) e in
    (lt, subst (λ (l : Lines). IsEach IsValueLine (drop (length l - (length (attrs_in found) - i)) l) (drop i (attrs_in found))) (sym h.is) (from_end_is IsValueLine h.pre h.more (attrs_in found) i h.each lt))

module _ (add : Bool) (dn : List ℕ) (controls : List Control) (pre rest : Lines) (found : Record) where
  put_after : (line : List ℕ) (more : Lines) → rest ≡ line ∷ more → pre ++ rest ≡ (pre ++ line ∷ []) ++ more
  put_after line more e = ap (λ (l : Lines). pre ++ l) e ∙ sym (append_assoc pre (line ∷ []) more)

  attrs_tail : IsTail add dn controls rest found → AttrsStand (pre ++ rest) found
  attrs_tail (inl t) = elim t.change [
    | inl a ↦ inr (subst (λ (r : Record). HaveAttrs (pre ++ rest) (attrs_in r)) (sym a.1.record_is) (record { pre = pre ++ t.line ∷ []; more = t.more; is = put_after t.line t.more t.is; each = a.1.lines_are }))
    | inr b ↦ elim b [
      | inl d ↦ inl (ap attrs_in d.1.record_is)
      | inr c ↦ elim c [
        | inl m ↦ inl (ap attrs_in m.1.record_is)
        | inr n ↦ inl (ap attrs_in n.1.record_is)
      ]
    ]
  ]
  attrs_tail (inr u) = inr (subst (λ (r : Record). HaveAttrs (pre ++ rest) (attrs_in r)) (sym u.1.record_is) (record { pre = pre; more = rest; is = refl; each = u.1.lines_are }))

attrs_entry : (mode : Mode) (lines : Lines) (found : Record) → IsEntry mode lines found → AttrsStand lines found
attrs_entry Content lines found h =
    let c = h.body in
    inr (subst (λ (r : Record). HaveAttrs lines (attrs_in r)) (sym c.record_is) (record { pre = h.line ∷ []; more = h.more; is = h.is; each = each_all _ _ (λ x y k. k.0) h.more c.attrs c.lines_are }))
attrs_entry (Changes add) lines found h =
    let b = h.body in
    subst (λ (l : Lines). AttrsStand l found) (sym (h.is ∙ ap (λ (l : Lines). h.line ∷ l) b.is)) (attrs_tail add h.dn b.controls (h.line ∷ b.front) b.rest found b.tail)

-- ---- blocks

drop_none : {X : Type 0} (n : ℕ) (y : X) (ys : List X) → drop n [] ≡ y ∷ ys → ⊥
drop_none zero y ys e = cc
drop_none (suc n) y ys e = cc

-- the last line of more lines
last_dash_behind : (d e : Bool) (xs : Lines) (y : List ℕ) (ys : Lines) → last_dash d (xs ++ y ∷ ys) ≡ last_dash e (y ∷ ys)
unfolding last_dash
last_dash_behind d e [] y ys = refl
last_dash_behind d e (x ∷ xs) y ys = last_dash_behind (is_dash x) e xs y ys

any_start : (b : Bool) (ls : Lines) → 0 < length ls → last_dash b ls ≡ last_dash false ls
unfolding last_dash
any_start b [] h = absurd (omega arith)
any_start b (l ∷ ls) h = refl

last_of : (xs ys : Lines) → 0 < length ys → last_dash false (xs ++ ys) ≡ last_dash false ys
last_of xs [] h = absurd (omega arith)
last_of xs (y ∷ ys) h = last_dash_behind false false xs y ys

no_dashes : (key : List ℕ) (lines values : Lines) → IsEach (IsLineOf key) lines values → last_dash false lines ≡ false
unfolding last_dash
no_dashes key [] [] h = refl
no_dashes key [] (v ∷ vs) h = absurd h
no_dashes key (l ∷ ls) [] h = absurd h
no_dashes key (l ∷ ls) (v ∷ vs) h = ap (λ (d : Bool). last_dash d ls) (no_dash l (attr_of h.0.name v) h.0.is) ∙ no_dashes key ls vs h.1

block_has_no_dash : (front : Lines) (m : Mod) (d : Bool) → IsBlock front m → last_dash d front ≡ false
unfolding last_dash
block_has_no_dash front m d h = ap (last_dash d) h.is ∙ ap (λ (e : Bool). last_dash e h.values) (no_dash h.head (attr_of h.line.name h.text) h.line.is) ∙ no_dashes m.attr h.values m.values h.each

block_length : (front : Lines) (m : Mod) → IsBlock front m → length front ≡ 1 + length m.values
block_length front m h = omega (arith, ap length h.is, each_length (IsLineOf m.attr) h.values m.values h.each)

-- what stands behind the lines of a block
abbrev IsBehind : List Mod → Lines → Lines → Type 0
IsBehind ms front lines = ((lines ≡ front) × (ms ≡ [])) ⊎ IsMore (IsBlocks ms) front lines

abbrev dashes : Lines → ℕ
dashes lines = cond (last_dash false lines) 1 0

one_dash : (lines : Lines) (b : Bool) → last_dash false lines ≡ b → dashes lines ≡ cond b 1 0
one_dash lines b e = ap (λ (d : Bool). cond d 1 0) e

behind_length : (ms : List Mod) (front lines : Lines) → last_dash false front ≡ false → IsBehind ms front lines → length lines ≡ length front + dashes lines + sum_by block_len ms
unfolding last_dash
behind_length ms front lines none (inl (same, over)) =
    let d : dashes lines ≡ 0 = one_dash lines false (ap (last_dash false) same ∙ none) in
    let z : sum_by block_len ms ≡ 0 = ap (sum_by block_len) over in
    omega (arith, ap length same, d, z)
behind_length [] front lines none (inr k) =
    let all : lines ≡ front ++ k.dash ∷ [] = k.is ∙ ap (λ (l : Lines). front ++ k.dash ∷ l) k.blocks in
    let d : dashes lines ≡ 1 = one_dash lines true (ap (last_dash false) all ∙ last_dash_behind false false front k.dash [] ∙ dash_only k.dash k.ends) in
    omega (arith, ap length all, length-append front (k.dash ∷ []), d)
behind_length (n ∷ ms) front lines none (inr k) =
    let next = k.blocks in
    let first = next.1 in
    let len : length next.0 ≡ 1 + length n.values = block_length next.0 n first in
    let more : length k.more ≡ length next.0 + dashes k.more + sum_by block_len ms = behind_length ms next.0 k.more (block_has_no_dash next.0 n false first) next.2 in
    let some : 0 < length k.more = omega (arith, more, len) in
    let d : dashes lines ≡ dashes k.more = ap (λ (b : Bool). cond b 1 0) (ap (last_dash false) k.is ∙ last_dash_behind false false front k.dash k.more ∙ any_start (is_dash k.dash) k.more some) in
    omega (arith, more, len, d, ap length k.is, length-append front (k.dash ∷ k.more), sum_by-cons block_len n ms)

-- the blocks from one on
record BlocksAt (m : Mod) (ms : List Mod) (lines : Lines) : Type 0 where
  pre : Lines
  rest : Lines
  is : lines ≡ pre ++ rest
  blocks : IsBlocks (m ∷ ms) rest

blocks_at : (mods : List Mod) (n : ℕ) (lines : Lines) (m : Mod) (ms : List Mod) → IsBlocks mods lines → drop n mods ≡ m ∷ ms → BlocksAt m ms lines
blocks_at [] n lines m ms h e = absurd (drop_none n m ms e)
blocks_at (k ∷ mods) zero lines m ms h e = record { pre = []; rest = lines; is = refl; blocks = subst (λ (x : List Mod). IsBlocks x lines) e h }
blocks_at (k ∷ mods) (suc n) lines m ms (front, block, inl (same, over)) e = absurd (drop_none n m ms (sym (ap (drop n) over) ∙ e))
blocks_at (k ∷ mods) (suc n) lines m ms (front, block, inr h) e =
    let b = blocks_at mods n h.more m ms h.blocks e in
    record {
      pre = front ++ h.dash ∷ b.pre;
      rest = b.rest;
      is = h.is ∙ ap (λ (l : Lines). front ++ h.dash ∷ l) b.is ∙ sym (append_assoc front (h.dash ∷ b.pre) b.rest);
      blocks = b.blocks;
    }

record HaveBlocks (lines : Lines) (mods : List Mod) : Type 0 where
  pre : Lines
  more : Lines
  is : lines ≡ pre ++ more
  blocks : IsBlocks mods more

abbrev BlocksStand : Lines → Record → Type 0
BlocksStand lines found = (mods_in found ≡ []) ⊎ HaveBlocks lines (mods_in found)

-- the lines before a block, its lines, and what stands behind them
record BlockAt (lines : Lines) (m : Mod) (ms : List Mod) : Type 0 where
  pre : Lines
  front : Lines
  rest : Lines
  is : lines ≡ pre ++ rest
  block : IsBlock front m
  behind : IsBehind ms front rest
  end : block_end lines ms ≡ length pre + length front

block_at : (lines : Lines) (mods : List Mod) (n : ℕ) (m : Mod) (ms : List Mod) → HaveBlocks lines mods → drop n mods ≡ m ∷ ms → BlockAt lines m ms
unfolding last_dash
block_at lines mods n m ms h e =
    let b = blocks_at mods n h.more m ms h.blocks e in
    let front = b.blocks.0 in
    let block = b.blocks.1 in
    let len : length b.rest ≡ length front + dashes b.rest + sum_by block_len ms = behind_length ms front b.rest (block_has_no_dash front m false block) b.blocks.2 in
    let some : 0 < length b.rest = omega (arith, len, block_length front m block) in
    let all : lines ≡ (h.pre ++ b.pre) ++ b.rest = h.is ∙ ap (λ (l : Lines). h.pre ++ l) b.is ∙ sym (append_assoc h.pre b.pre b.rest) in
    let d : dashes lines ≡ dashes b.rest = ap (λ (x : Bool). cond x 1 0) (ap (last_dash false) all ∙ last_of (h.pre ++ b.pre) b.rest some) in
    record {
      pre = h.pre ++ b.pre;
      front = front;
      rest = b.rest;
      is = all;
      block = block;
      behind = b.blocks.2;
      end = omega (arith, len, d, ap length all, length-append (h.pre ++ b.pre) b.rest);
    }

at_block : (lines : Lines) (m : Mod) (ms : List Mod) (b : BlockAt lines m ms) → drop (block_end lines ms - length m.values - 1) lines ≡ b.rest
at_block lines m ms b =
    let at : block_end lines ms - length m.values - 1 ≡ length b.pre + 0 = omega (arith, b.end, block_length b.front m b.block) in
    ap (λ (n : ℕ). drop n lines) at ∙ ap (drop (length b.pre + 0)) b.is ∙ drop-append-add b.pre b.rest 0

block_is : (mode : Mode) (lines : Lines) (found : Record) (n : ℕ) → BlocksStand lines found → (left : List Mod) → drop n (mods_in found) ≡ left → IsPartLine mode found (parts.Block n) lines (block_line_by lines left)
block_is mode lines found n s [] e = λ k h. absurd (omega (arith, h.0, length-drop n (mods_in found), ap length e))
block_is mode lines found n (inl none) (m ∷ ms) e = absurd (drop_none n m ms (sym (ap (drop n) none) ∙ e))
block_is mode lines found n (inr h) (m ∷ ms) e =
    let b = block_at lines (mods_in found) n m ms h e in
    (drop_within n (mods_in found) m ms e, subst (IsBlocks (drop n (mods_in found))) (sym (at_block lines m ms b)) (subst (λ (x : List Mod). IsBlocks x b.rest) (sym e) (b.front, b.block, b.behind)))

same_head : {X : Type 0} {x y : X} {xs ys : List X} → x ∷ xs ≡ y ∷ ys → x ≡ y
same_head e = cc

nothing_left : {X : Type 0} {y : X} {ys : List X} → [] ≡ y ∷ ys → ⊥
nothing_left e = cc

behind_head : (v : ℕ) (l : List ℕ) (ls : Lines) → drop (1 + v) (l ∷ ls) ≡ drop v ls
behind_head v l ls = let e : 1 + v ≡ suc v = omega arith in ap (λ (n : ℕ). drop n (l ∷ ls)) e

-- the values of a block from one on
values_from : (mods : List Mod) (n v : ℕ) (m : Mod) (ms : List Mod) (front rest : Lines) → drop n mods ≡ m ∷ ms → v < length m.values → IsBlock front m → IsBehind ms front rest → AreValuesFrom mods n v (drop (1 + v) rest)
values_from mods n v m ms front rest e lt h (inl (same, over)) = record {
  change = m;
  others = ms;
  is = e;
  within = lt;
  front = drop v h.values;
  each = each_drop (IsLineOf m.attr) v h.values m.values h.each;
  behind = inl (ap (drop (1 + v)) (same ∙ h.is) ∙ behind_head v h.head h.values, over);
}
values_from mods n v m ms front rest e lt h (inr k) =
    let fits : v ≤ length h.values = omega (arith, lt, each_length (IsLineOf m.attr) h.values m.values h.each) in
    record {
      change = m;
      others = ms;
      is = e;
      within = lt;
      front = drop v h.values;
      each = each_drop (IsLineOf m.attr) v h.values m.values h.each;
      behind = inr (record {
        dash = k.dash;
        more = k.more;
        is = ap (drop (1 + v)) (k.is ∙ ap (λ (l : Lines). l ++ k.dash ∷ k.more) h.is) ∙ behind_head v h.head (h.values ++ k.dash ∷ k.more) ∙ drop-append-le v h.values (k.dash ∷ k.more) fits;
        ends = k.ends;
        blocks = k.blocks;
      });
    }

value_at_is : (mode : Mode) (lines : Lines) (found : Record) (n v : ℕ) (m : Mod) (ms : List Mod) → HaveBlocks lines (mods_in found) → drop n (mods_in found) ≡ m ∷ ms → (t : Bool) → ltb v (length m.values) ≡ t
    → IsPartLine mode found (parts.Value n v) lines (cond t (Some (block_end lines ms - (length m.values - v))) None)
value_at_is mode lines found n v m ms h e false f = λ k a. ltb_false v (length m.values) f (subst (λ (x : Mod). v < length x.values) (same_head (sym a.is ∙ e)) a.within)
value_at_is mode lines found n v m ms h e true f =
    let lt : v < length m.values = ltb-true v (length m.values) f in
    let b = block_at lines (mods_in found) n m ms h e in
    let at : block_end lines ms - (length m.values - v) ≡ length b.pre + (1 + v) = omega (arith, lt, b.end, block_length b.front m b.block) in
    let rest : drop (block_end lines ms - (length m.values - v)) lines ≡ drop (1 + v) b.rest =
    ap (λ (n : ℕ). drop n lines) at ∙ ap (drop (length b.pre + (1 + v))) b.is ∙ drop-append-add b.pre b.rest (1 + v) in
    subst (AreValuesFrom (mods_in found) n v) (sym rest) (values_from (mods_in found) n v m ms b.front b.rest e lt b.block b.behind)

value_is : (mode : Mode) (lines : Lines) (found : Record) (n v : ℕ) → BlocksStand lines found → (left : List Mod) → drop n (mods_in found) ≡ left → IsPartLine mode found (parts.Value n v) lines (value_line_by lines v left)
value_is mode lines found n v s [] e = λ k a. nothing_left (sym e ∙ a.is)
value_is mode lines found n v (inl none) (m ∷ ms) e = absurd (drop_none n m ms (sym (ap (drop n) none) ∙ e))
value_is mode lines found n v (inr h) (m ∷ ms) e = value_at_is mode lines found n v m ms h e (ltb v (length m.values)) refl

module _ (add : Bool) (dn : List ℕ) (controls : List Control) (pre rest : Lines) (found : Record) where
  blocks_tail : IsTail add dn controls rest found → BlocksStand (pre ++ rest) found
  blocks_tail (inl t) = elim t.change [
    | inl a ↦ inl (ap mods_in a.1.record_is)
    | inr b ↦ elim b [
      | inl d ↦ inl (ap mods_in d.1.record_is)
      | inr c ↦ elim c [
        | inl m ↦ inr (subst (λ (r : Record). HaveBlocks (pre ++ rest) (mods_in r)) (sym m.1.record_is) (record { pre = pre ++ t.line ∷ []; more = t.more; is = put_after add dn controls pre rest found t.line t.more t.is; blocks = m.1.blocks }))
        | inr n ↦ inl (ap mods_in n.1.record_is)
      ]
    ]
  ]
  blocks_tail (inr u) = inl (ap mods_in u.1.record_is)

blocks_entry : (mode : Mode) (lines : Lines) (found : Record) → IsEntry mode lines found → BlocksStand lines found
blocks_entry Content lines found h = inl (ap mods_in h.body.record_is)
blocks_entry (Changes add) lines found h =
    let b = h.body in
    subst (λ (l : Lines). BlocksStand l found) (sym (h.is ∙ ap (λ (l : Lines). h.line ∷ l) b.is)) (blocks_tail add h.dn b.controls (h.line ∷ b.front) b.rest found b.tail)

-- ---- renamings

record HaveRenaming (lines : Lines) (found : Record) : Type 0 where
  pre : Lines
  more : Lines
  is : lines ≡ pre ++ more
  dn : List ℕ
  controls : List Control
  renaming : IsRenaming dn controls more found

abbrev IsNoRenaming : Record → Type 0
IsNoRenaming (records.ModRdn dn controls newrdn delete_old new_superior) = ⊥
IsNoRenaming _ = Unit {0}

abbrev RenamingStands : Lines → Record → Type 0
RenamingStands lines found = IsNoRenaming found ⊎ HaveRenaming lines found

module _ (add : Bool) (dn : List ℕ) (controls : List Control) (pre rest : Lines) (found : Record) where
  renaming_tail : IsTail add dn controls rest found → RenamingStands (pre ++ rest) found
  renaming_tail (inl t) = elim t.change [
    | inl a ↦ inl (subst IsNoRenaming (sym a.1.record_is) tt)
    | inr b ↦ elim b [
      | inl d ↦ inl (subst IsNoRenaming (sym d.1.record_is) tt)
      | inr c ↦ elim c [
        | inl m ↦ inl (subst IsNoRenaming (sym m.1.record_is) tt)
        | inr n ↦ inr (record { pre = pre ++ t.line ∷ []; more = t.more; is = put_after add dn controls pre rest found t.line t.more t.is; dn = dn; controls = controls; renaming = n.1 })
      ]
    ]
  ]
  renaming_tail (inr u) = inl (subst IsNoRenaming (sym u.1.record_is) tt)

renaming_entry : (mode : Mode) (lines : Lines) (found : Record) → IsEntry mode lines found → RenamingStands lines found
renaming_entry Content lines found h = inl (subst IsNoRenaming (sym h.body.record_is) tt)
renaming_entry (Changes add) lines found h =
    let b = h.body in
    subst (λ (l : Lines). RenamingStands l found) (sym (h.is ∙ ap (λ (l : Lines). h.line ∷ l) b.is)) (renaming_tail add h.dn b.controls (h.line ∷ b.front) b.rest found b.tail)

no_renaming : (mode : Mode) (lines : Lines) (found : Record) → IsNoRenaming found → IsPartLine mode found parts.NewRdn lines (newrdn_line lines found)
no_renaming mode lines records.Empty h = λ k (dn, controls, r). absurd (let e = r.record_is in cc)
no_renaming mode lines (records.Content dn attrs) h = λ k (dn, controls, r). absurd (let e = r.record_is in cc)
no_renaming mode lines (records.Add dn controls attrs) h = λ k (dn, controls, r). absurd (let e = r.record_is in cc)
no_renaming mode lines (records.Delete dn controls) h = λ k (dn, controls, r). absurd (let e = r.record_is in cc)
no_renaming mode lines (records.Modify dn controls mods) h = λ k (dn, controls, r). absurd (let e = r.record_is in cc)
no_renaming mode lines (records.ModRdn dn controls newrdn delete_old new_superior) h = absurd h

superior_length : (lines : Lines) (superior : Option (List ℕ)) → IsNewSuperior lines superior → 2 + length lines ≡ renaming_len superior
superior_length lines None h = omega (arith, ap length h)
superior_length lines (Some value) h = omega (arith, ap length h.1)

newrdn_is : (mode : Mode) (lines : Lines) (found : Record) → RenamingStands lines found → IsPartLine mode found parts.NewRdn lines (newrdn_line lines found)
newrdn_is mode lines found (inl h) = no_renaming mode lines found h
newrdn_is mode lines found (inr h) =
    let r = h.renaming in
    let at : length lines - renaming_len r.new_superior ≡ length h.pre + 0 = omega (arith, ap length h.is, length-append h.pre h.more, ap length r.is, superior_length r.more r.new_superior r.superior) in
    let rest : drop (length lines - renaming_len r.new_superior) lines ≡ h.more = ap (λ (n : ℕ). drop n lines) at ∙ ap (drop (length h.pre + 0)) h.is ∙ drop-append-add h.pre h.more 0 in
    subst (λ (x : Record). IsPartLine mode x parts.NewRdn lines (newrdn_line lines x)) (sym r.record_is)
    (h.dn, h.controls, subst (λ (l : Lines). IsRenaming h.dn h.controls l (records.ModRdn h.dn h.controls r.newrdn r.delete_old r.new_superior)) (sym rest) (subst (IsRenaming h.dn h.controls h.more) r.record_is r))

superior_at : (mode : Mode) (lines pre more : Lines) (found : Record) (o : Option (List ℕ)) → superior_in found ≡ o → lines ≡ pre ++ more → IsNewSuperior more o → IsPartLine mode found parts.NewSuperior lines (superior_line lines o)
superior_at mode lines pre more found None e is h = λ k (superior, some, rest). absurd (let n = sym e ∙ some in cc)
superior_at mode lines pre more found (Some superior) e is h =
    let at : length lines - 1 ≡ length pre + 0 = omega (arith, ap length is, length-append pre more, ap length h.1) in
    let rest : drop (length lines - 1) lines ≡ more = ap (λ (n : ℕ). drop n lines) at ∙ ap (drop (length pre + 0)) is ∙ drop-append-add pre more 0 in
    (superior, e, subst (λ (l : Lines). IsNewSuperior l (Some superior)) (sym rest) h)

none_superior : (found : Record) → IsNoRenaming found → superior_in found ≡ None
none_superior records.Empty h = refl
none_superior (records.Content dn attrs) h = refl
none_superior (records.Add dn controls attrs) h = refl
none_superior (records.Delete dn controls) h = refl
none_superior (records.Modify dn controls mods) h = refl
none_superior (records.ModRdn dn controls newrdn delete_old new_superior) h = absurd h

superior_is : (mode : Mode) (lines : Lines) (found : Record) → RenamingStands lines found → IsPartLine mode found parts.NewSuperior lines (superior_line lines (superior_in found))
superior_is mode lines found (inl h) = superior_at mode lines lines [] found (superior_in found) refl (sym (append-nil lines)) (subst (IsNewSuperior []) (sym (none_superior found h)) refl)
superior_is mode lines found (inr h) =
    let r = h.renaming in
    superior_at mode lines (h.pre ++ r.first ∷ r.second ∷ []) r.more found (superior_in found) refl (h.is ∙ ap (λ (l : Lines). h.pre ++ l) r.is ∙ sym (append_assoc h.pre (r.first ∷ r.second ∷ []) r.more))
    (subst (IsNewSuperior r.more) (sym (ap superior_in r.record_is)) r.superior)

-- ---- controls

record HaveControls (lines : Lines) (controls : List Control) : Type 0 where
  line : List ℕ
  front : Lines
  behind : Lines
  is : lines ≡ line ∷ (front ++ behind)
  each : IsEach IsControlLine front controls

tail_controls : (add : Bool) (dn : List ℕ) (controls : List Control) (rest : Lines) (found : Record) → IsTail add dn controls rest found → controls_in found ≡ controls
tail_controls add dn controls rest found (inl t) = elim t.change [
  | inl a ↦ ap controls_in a.1.record_is
  | inr b ↦ elim b [
    | inl d ↦ ap controls_in d.1.record_is
    | inr c ↦ elim c [
      | inl m ↦ ap controls_in m.1.record_is
      | inr n ↦ ap controls_in n.1.record_is
    ]
  ]
]
tail_controls add dn controls rest found (inr u) = ap controls_in u.1.record_is

controls_entry : (mode : Mode) (lines : Lines) (found : Record) → IsEntry mode lines found → (controls_in found ≡ []) ⊎ HaveControls lines (controls_in found)
controls_entry Content lines found h = inl (ap controls_in h.body.record_is)
controls_entry (Changes add) lines found h =
    let b = h.body in
    inr (record {
      line = h.line;
      front = b.front;
      behind = b.rest;
      is = h.is ∙ ap (λ (l : Lines). h.line ∷ l) b.is;
      each = subst (IsEach IsControlLine b.front) (sym (tail_controls add h.dn b.controls b.rest found b.tail)) b.front_is;
    })

-- ---- the front of a record

named_by : (line key : List ℕ) (o : Option ℕ) (a : Attr) → value_at line o ≡ Ok a → is_named_by line key o ≡ same_name a.name key
named_by line key None a h = absurd cc
named_by line key (Some at) a h =
    let b = bad (eqb at 0) (form_of (drop (at + 1) line) >>= λ value. said (take at line) value) ColonMissing a h in
    let c = bind_ok (form_of (drop (at + 1) line)) (λ value. said (take at line) value) a b.1 in
    ap (λ (x : Attr). same_name x.name key) (ok_is (attr_of (take at line) c.0) a c.2)

named_is : (line key : List ℕ) (a : Attr) → value_line line ≡ Ok a → is_named line key ≡ same_name a.name key
unfolding value_line value_of
named_is line key a h = named_by line key (position is_colon line) a (bad (begins_with 32 line) (value_of line) Continuation a h).1

line_named : (line key value word : List ℕ) (h : IsLineOf key line value) → is_named line word ≡ same_name h.name word
line_named line key value word h = named_is line word (attr_of h.name value) (line_only line (attr_of h.name value) h.is)

-- the lines before `dn:`, and those of the entry
record Placed (mode : Mode) (first : Bool) (lines : Lines) (found : Record) : Type 0 where
  pre : Lines
  rest : Lines
  is : lines ≡ pre ++ rest
  entry : IsEntry mode rest found
  len : name_line first lines ≡ length pre

counted : (lines : Lines) (line : List ℕ) (more : Lines) (b : Bool) → lines ≡ line ∷ more → is_named line (codes "version") ≡ b → name_line true lines ≡ cond b 1 0
counted lines line more b e h = ap (name_line true) e ∙ ap (λ (t : Bool). cond t 1 0) h

placed : (mode : Mode) (first : Bool) (lines : Lines) (found : Record) → IsRecord mode first lines found → (found ≡ records.Empty) ⊎ Placed mode first lines found
placed mode false lines found h = inr (record { pre = []; rest = lines; is = refl; entry = h; len = refl })
placed mode true lines found (inl v) = elim v.rest [
  | inl e ↦ inl e.1
  | inr h ↦ inr (record {
    pre = v.line ∷ [];
    rest = v.more;
    is = v.is;
    entry = h;
    len = counted lines v.line v.more true v.is (line_named v.line (codes "version") (codes "1") (codes "version") v.version ∙ same_only v.version.name (codes "version") v.version.same);
  })
]
placed mode true lines found (inr h) =
    let d = h.dn_line in
    inr (record { pre = []; rest = lines; is = refl; entry = h; len = counted lines h.line h.more false h.is (line_named h.line (codes "dn") h.dn (codes "version") d ∙ other_word d.name (codes "dn") (codes "version") d.same refl) })

no_empty : (mode : Mode) (lines : Lines) → IsEntry mode lines records.Empty → ⊥
no_empty Content lines h = absurd (let e = h.body.record_is in cc)
no_empty (Changes add) lines h = elim h.body.tail [
  | inl t ↦ elim t.change [
    | inl a ↦ absurd (let e = a.1.record_is in cc)
    | inr b ↦ elim b [
      | inl d ↦ absurd (let e = d.1.record_is in cc)
      | inr c ↦ elim c [
        | inl m ↦ absurd (let e = m.1.record_is in cc)
        | inr n ↦ absurd (let e = n.1.record_is in cc)
      ]
    ]
  ]
  | inr u ↦ absurd (let e = u.1.record_is in cc)
]

name_by : (mode : Mode) (first : Bool) (lines : Lines) (found : Record) → Placed mode first lines found → IsPartLine mode found parts.Name lines (name_in first lines found)
name_by mode first lines found h = by_form found h.entry at
  where
    at : drop (name_line first lines) lines ≡ h.rest
    at = (let front : name_line first lines ≡ length h.pre + 0 = omega (arith, h.len) in ap (λ (n : ℕ). drop n lines) front ∙ ap (drop (length h.pre + 0)) h.is ∙ drop-append-add h.pre h.rest 0)

    by_form : (x : Record) → IsEntry mode h.rest x → drop (name_line first lines) lines ≡ h.rest → IsPartLine mode x parts.Name lines (name_in first lines x)
    by_form records.Empty k e = absurd (no_empty mode h.rest k)
    by_form (records.Content dn attrs) k e = subst (λ (l : Lines). IsEntry mode l (records.Content dn attrs)) (sym e) k
    by_form (records.Add dn controls attrs) k e = subst (λ (l : Lines). IsEntry mode l (records.Add dn controls attrs)) (sym e) k
    by_form (records.Delete dn controls) k e = subst (λ (l : Lines). IsEntry mode l (records.Delete dn controls)) (sym e) k
    by_form (records.Modify dn controls mods) k e = subst (λ (l : Lines). IsEntry mode l (records.Modify dn controls mods)) (sym e) k
    by_form (records.ModRdn dn controls newrdn delete_old new_superior) k e = subst (λ (l : Lines). IsEntry mode l (records.ModRdn dn controls newrdn delete_old new_superior)) (sym e) k

abbrev Found : Mode → Bool → Lines → Record → Type 0
Found mode first lines found = (found ≡ records.Empty) ⊎ Placed mode first lines found

module _ (mode : Mode) (first : Bool) (lines : Lines) (found : Record) where
  name_is : Found mode first lines found → IsPartLine mode found parts.Name lines (name_in first lines found)
  name_is (inl e) = subst (λ (x : Record). IsPartLine mode x parts.Name lines (name_in first lines x)) (sym e) (λ k h. no_empty mode (drop k lines) h)
  name_is (inr h) = name_by mode first lines found h

  no_control : (i : ℕ) → controls_in found ≡ [] → i < length (controls_in found) → ⊥
  no_control i e lt = absurd (omega (arith, lt, ap length e))

  control_from : (i : ℕ) → Placed mode first lines found → i < length (controls_in found) → AreControlsFrom (controls_in found) i (drop (name_line first lines + 1 + i) lines)
  control_from i h lt = elim (controls_entry mode h.rest found h.entry) [
    | inl none ↦ absurd (no_control i none lt)
    | inr c ↦ (
        let at : name_line first lines + 1 + i ≡ length h.pre + suc i = omega (arith, h.len) in
        let fits : i ≤ length c.front = omega (arith, lt, each_length IsControlLine c.front (controls_in found) c.each) in
        let rest : drop (name_line first lines + 1 + i) lines ≡ drop i c.front ++ c.behind =
        ap (λ (n : ℕ). drop n lines) at ∙ ap (drop (length h.pre + suc i)) h.is ∙ drop-append-add h.pre h.rest (suc i) ∙ ap (drop (suc i)) c.is ∙ drop-append-le i c.front c.behind fits in
        record { within = lt; front = drop i c.front; behind = c.behind; is = rest; each = each_drop IsControlLine i c.front (controls_in found) c.each }
        )
  ]

  control_is : (i : ℕ) → Found mode first lines found → (t : Bool) → ltb i (length (controls_in found)) ≡ t → IsPartLine mode found (parts.Control i) lines (cond t (Some (name_line first lines + 1 + i)) None)
  control_is i s false e = λ k a. ltb_false i (length (controls_in found)) e a.within
  control_is i (inl none) true e = absurd (no_control i (ap controls_in none) (ltb-true i (length (controls_in found)) e))
  control_is i (inr h) true e = control_from i h (ltb-true i (length (controls_in found)) e)

  fits_by : Found mode first lines found → 0 < length (controls_in found) → name_line first lines + length (controls_in found) < length lines
  fits_by (inl none) some = absurd (no_control 0 (ap controls_in none) some)
  fits_by (inr h) some = elim (controls_entry mode h.rest found h.entry) [
    | inl none ↦ absurd (no_control 0 none some)
    | inr c ↦ omega (arith, h.len, ap length h.is, length-append h.pre h.rest, ap length c.is, length-append c.front c.behind, each_length IsControlLine c.front (controls_in found) c.each)
  ]

  pub front_fits : IsRecord mode first lines found → 0 < length (controls_in found) → name_line first lines + length (controls_in found) < length lines
  front_fits h = fits_by (placed mode first lines found h)

  -- ---- all parts

  attrs_found : Found mode first lines found → AttrsStand lines found
  attrs_found (inl e) = inl (ap attrs_in e)
  attrs_found (inr h) = elim (attrs_entry mode h.rest found h.entry) [
    | inl none ↦ inl none
    | inr a ↦ inr (record { pre = h.pre ++ a.pre; more = a.more; is = h.is ∙ ap (λ (l : Lines). h.pre ++ l) a.is ∙ sym (append_assoc h.pre a.pre a.more); each = a.each })
  ]

  blocks_found : Found mode first lines found → BlocksStand lines found
  blocks_found (inl e) = inl (ap mods_in e)
  blocks_found (inr h) = elim (blocks_entry mode h.rest found h.entry) [
    | inl none ↦ inl none
    | inr b ↦ inr (record { pre = h.pre ++ b.pre; more = b.more; is = h.is ∙ ap (λ (l : Lines). h.pre ++ l) b.is ∙ sym (append_assoc h.pre b.pre b.more); blocks = b.blocks })
  ]

  renaming_found : Found mode first lines found → RenamingStands lines found
  renaming_found (inl e) = inl (subst IsNoRenaming (sym e) tt)
  renaming_found (inr h) = elim (renaming_entry mode h.rest found h.entry) [
    | inl none ↦ inl none
    | inr r ↦ inr (record { pre = h.pre ++ r.pre; more = r.more; is = h.is ∙ ap (λ (l : Lines). h.pre ++ l) r.is ∙ sym (append_assoc h.pre r.pre r.more); dn = r.dn; controls = r.controls; renaming = r.renaming })
  ]

  part_is : Found mode first lines found → (part : Part) → IsPartLine mode found part lines (line_of found first lines part)
  part_is h parts.Name = name_is h
  part_is h (parts.Attribute i) = attribute_is mode lines found i (attrs_found h) (ltb i (length (attrs_in found))) refl
  part_is h (parts.Block n) = block_is mode lines found n (blocks_found h) (drop n (mods_in found)) refl
  part_is h (parts.Value n v) = value_is mode lines found n v (blocks_found h) (drop n (mods_in found)) refl
  part_is h (parts.Control i) = control_is i h (ltb i (length (controls_in found))) refl
  part_is h parts.NewRdn = newrdn_is mode lines found (renaming_found h)
  part_is h parts.NewSuperior = superior_is mode lines found (renaming_found h)

  pub part_line_is : IsRecord mode first lines found → (part : Part) → IsPartLine mode found part lines (line_of found first lines part)
  part_line_is h = part_is (placed mode first lines found h)
