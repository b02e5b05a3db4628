-- Texts of filters, put together and taken apart.
use Rattle.std.proofs.Common.{◌≡◌, ℕ, ◌==◌, List, [], ◌∷◌, ◌++◌, map, refl, sym, ap, subst, ◌∙◌, append_assoc, arith}
use Rattle.std.proofs.Common.{Vec, Box, Global, true, false}
use Rattle.std.proofs.lemmas.Grind.{common_steps}
use Rattle.filter_text.specs.declared.filters.Filter.TheViews.{And, Or, Not}
use Rattle.filter_text.specs.declared.filters.Filter.TheBlock as block
use Rattle.filter_text.specs.declared.filters.Filter.TheVariants.{rolls-And, rolls-Or, rolls-Not, rolls-Item}
use Rattle.filter_text.specs.declared.filters.Filter.TheOpen as layer
use Rattle.filter_text.specs.declared.filters.Filter.TheFolds.{fold-roll-Filter}
use Rattle.filter_text.specs.declared.filters.Filter.{Filter}
use Rattle.filter_text.specs.declared.items.Item.{Item}
use Rattle.filter_text.specs.Items.{IsItem}
use Rattle.base.specs.Ends.{is_space}
use Rattle.filter_text.specs.Runs.{Run, Stops, Closed, is_plain, is_item_first}
use Rattle.filter_text.specs.Spells.{FilterContent, FilterContents, All_of, Any_of, Not_of, Leaf, No_more, And_then, contents_then, views, view, view_step, IsFilterComp, IsFilterList, IsFilter, IsSpacedList, SomeFilter}
use Rattle.filter_text.proofs.Runs.{head_eq, tail_eq, stops_at, both_ways, same_span, closed_space, closed_plain}
use Rattle.filter_text.proofs.ItemTexts.{item_plain, item_first}

pub view_and : (operands : Vec Filter Global) → view (And operands) ≡ All_of (views operands.items)
view_and operands = ap view (sym (rolls-And operands)) ∙ fold-roll-Filter FilterContent view_step (layer.And operands)

pub view_or : (operands : Vec Filter Global) → view (Or operands) ≡ Any_of (views operands.items)
view_or operands = ap view (sym (rolls-Or operands)) ∙ fold-roll-Filter FilterContent view_step (layer.Or operands)

pub view_not : (operand : Box Filter Global) → view (Not operand) ≡ Not_of (view operand.value)
view_not operand = ap view (sym (rolls-Not operand)) ∙ fold-roll-Filter FilterContent view_step (layer.Not operand)

pub view_item : (item : Item) → view (block.Item item) ≡ Leaf item
view_item item = ap view (sym (rolls-Item item)) ∙ fold-roll-Filter FilterContent view_step (layer.Item item)

pub map_push : {X Y : Type 0} (f : X → Y) (xs : List X) (x : X) → map f (xs ++ x ∷ []) ≡ map f xs ++ f x ∷ []
map_push f [] x = refl
map_push f (y ∷ xs) x = ap (λ zs. f y ∷ zs) (map_push f xs x)

pub contents_push : (ts : List FilterContent) (t : FilterContent) (us : FilterContents) → contents_then (ts ++ t ∷ []) us ≡ contents_then ts (And_then t us)
contents_push [] t us = refl
contents_push (x ∷ ts) t us = ap (And_then x) (contents_push ts t us)

pub views_push : (fs gs : List Filter) (f : Filter) (us : FilterContents) → gs ≡ fs ++ f ∷ [] → contents_then (map view gs) us ≡ contents_then (map view fs) (And_then (view f) us)
views_push fs gs f us e = ap (λ hs. contents_then (map view hs) us) e ∙ ap (λ ts. contents_then ts us) (map_push view fs f) ∙ contents_push (map view fs) (view f) us

pub item_clash : (byte b : ℕ) → is_item_first byte ≡ false → is_item_first b ≡ true → byte ≡ b → ⊥
item_clash byte b other first e = both_ways first (ap is_item_first (sym e) ∙ other)

byte_differs : (byte b : ℕ) → (b ≡ byte → ⊥) → (b == byte) ≡ false
byte_differs byte b apart = grind (arith, common_steps)

pub differs : (byte b : ℕ) → is_item_first byte ≡ false → is_item_first b ≡ true → (b == byte) ≡ false
differs byte b other first = byte_differs byte b (λ e. item_clash byte b other first (sym e))

-- which filter a first byte begins
pub comp_and : (f : FilterContent) (text more list : List ℕ) → IsFilterComp f text → 38 ∷ list ≡ text ++ more → (operands : FilterContents) × (inner : List ℕ) × (f ≡ All_of operands) × IsSpacedList operands inner × (list ≡ inner ++ more)
comp_and (All_of operands) text more list h e = (operands, h.0, refl, h.2, tail_eq (e ∙ ap (λ xs. xs ++ more) h.1))
comp_and (Any_of operands) text more list h e = absurd (let clash = head_eq (e ∙ ap (λ xs. xs ++ more) h.1) in omega (arith, clash))
comp_and (Not_of operand) text more list h e = absurd (let clash = head_eq (e ∙ ap (λ xs. xs ++ more) h.3) in omega (arith, clash))
comp_and (Leaf item) text more list h e = let first = item_first item text h in absurd (item_clash 38 first.0 refl first.3 (head_eq (e ∙ ap (λ xs. xs ++ more) first.2)))

pub comp_or : (f : FilterContent) (text more list : List ℕ) → IsFilterComp f text → 124 ∷ list ≡ text ++ more → (operands : FilterContents) × (inner : List ℕ) × (f ≡ Any_of operands) × IsSpacedList operands inner × (list ≡ inner ++ more)
comp_or (Any_of operands) text more list h e = (operands, h.0, refl, h.2, tail_eq (e ∙ ap (λ xs. xs ++ more) h.1))
comp_or (All_of operands) text more list h e = absurd (let clash = head_eq (e ∙ ap (λ xs. xs ++ more) h.1) in omega (arith, clash))
comp_or (Not_of operand) text more list h e = absurd (let clash = head_eq (e ∙ ap (λ xs. xs ++ more) h.3) in omega (arith, clash))
comp_or (Leaf item) text more list h e = let first = item_first item text h in absurd (item_clash 124 first.0 refl first.3 (head_eq (e ∙ ap (λ xs. xs ++ more) first.2)))

pub comp_not : (f : FilterContent) (text more list : List ℕ) → IsFilterComp f text → 33 ∷ list ≡ text ++ more
    → (operand : FilterContent) × (s : List ℕ) × (a : List ℕ) × (z : List ℕ) × (f ≡ Not_of operand) × Run is_space s × IsFilter operand a × Run is_space z × (list ≡ s ++ (a ++ (z ++ more)))
comp_not (Not_of operand) text more list h e = (
  operand,
  h.0,
  h.1,
  h.2,
  refl,
  h.4,
  h.5,
  h.6,
  tail_eq (e ∙ ap (λ xs. xs ++ more) h.3) ∙ append_assoc h.0 (h.1 ++ h.2) more ∙ ap (λ xs. h.0 ++ xs) (append_assoc h.1 h.2 more),
)
comp_not (All_of operands) text more list h e = absurd (let clash = head_eq (e ∙ ap (λ xs. xs ++ more) h.1) in omega (arith, clash))
comp_not (Any_of operands) text more list h e = absurd (let clash = head_eq (e ∙ ap (λ xs. xs ++ more) h.1) in omega (arith, clash))
comp_not (Leaf item) text more list h e = let first = item_first item text h in absurd (item_clash 33 first.0 refl first.3 (head_eq (e ∙ ap (λ xs. xs ++ more) first.2)))

-- the byte is not that one
abbrev pub Not_first : ℕ → List ℕ → Type 0
Not_first byte bytes = Stops (λ b. b == byte) bytes

pub not_first : (byte : ℕ) (bytes rest : List ℕ) → (byte == byte) ≡ true → Not_first byte bytes → bytes ≡ byte ∷ rest → ⊥
not_first byte bytes rest same s e = both_ways same (stops_at (λ b. b == byte) byte bytes rest s e)

pub comp_item : (f : FilterContent) (bytes text more : List ℕ) → Not_first 38 bytes → Not_first 124 bytes → Not_first 33 bytes → IsFilterComp f text → bytes ≡ text ++ more
    → (item : Item) × (f ≡ Leaf item) × IsItem item text
comp_item (All_of operands) bytes text more a o n h e = absurd (not_first 38 bytes (h.0 ++ more) refl a (e ∙ ap (λ xs. xs ++ more) h.1))
comp_item (Any_of operands) bytes text more a o n h e = absurd (not_first 124 bytes (h.0 ++ more) refl o (e ∙ ap (λ xs. xs ++ more) h.1))
comp_item (Not_of operand) bytes text more a o n h e = absurd (not_first 33 bytes ((h.0 ++ (h.1 ++ h.2)) ++ more) refl n (e ∙ ap (λ xs. xs ++ more) h.3))
comp_item (Leaf item) bytes text more a o n h e = (item, refl, h)

-- an item ends at the first parenthesis
pub item_only : (item : Item) (bytes text end t more : List ℕ) → Run is_plain text → Stops is_plain end → bytes ≡ text ++ end → IsItem item t → Closed more → bytes ≡ t ++ more → (t ≡ text) × (end ≡ more)
item_only item bytes text end t more r s all h closed e =
    let both = same_span is_plain t text more end (item_plain item t h) r (closed_plain more closed) s (sym e ∙ all) in
    (both.0, sym both.1)

pub list_stops : (fs : FilterContents) (t more : List ℕ) → IsFilterList fs t → Closed more → Stops is_space (t ++ more)
list_stops No_more t more h closed = subst (λ (xs : List ℕ). Stops is_space (xs ++ more)) (sym h) (closed_space more closed)
list_stops (And_then f fs) t more h closed = subst (λ (xs : List ℕ). Stops is_space (xs ++ more)) (sym (h.2 ∙ ap (λ xs. xs ++ h.1) h.3.1)) refl

-- the spaces before a list are those that were skipped
pub list_only : (fs : FilterContents) (bytes text more s rest : List ℕ) → IsSpacedList fs text → Closed more → bytes ≡ text ++ more → Run is_space s → bytes ≡ s ++ rest → Stops is_space rest
    → (t : List ℕ) × IsFilterList fs t × (rest ≡ t ++ more)
list_only fs bytes text more s rest h closed e r all stops =
    let cut = e ∙ ap (λ xs. xs ++ more) h.2 ∙ append_assoc h.0 h.1 more in
    let both = same_span is_space s h.0 rest (h.1 ++ more) r h.3 stops (list_stops fs h.1 more h.4 closed) (sym all ∙ cut) in
    (h.1, h.4, both.1)

-- a filter begins with a parenthesis, so spaces before it are skipped
pub filter_after : (f : FilterContent) (bytes s rest z a more : List ℕ) → Run is_space s → bytes ≡ s ++ rest → Stops is_space rest → Run is_space z → IsFilter f a → bytes ≡ z ++ (a ++ more) → rest ≡ a ++ more
filter_after f bytes s rest z a more r all stops q h e =
    (same_span is_space s z rest (a ++ more) r q stops (subst (λ (xs : List ℕ). Stops is_space (xs ++ more)) (sym h.1) refl) (sym all ∙ e)).1

-- a list that goes on at a parenthesis has one more filter
pub list_goes_on : (fs : FilterContents) (rest inside t more : List ℕ) → IsFilterList fs t → Closed more → rest ≡ 40 ∷ inside → rest ≡ t ++ more
    → (f : FilterContent) × (gs : FilterContents) × (a : List ℕ) × (b : List ℕ) × (fs ≡ And_then f gs) × IsFilter f a × IsSpacedList gs b × (rest ≡ a ++ (b ++ more))
list_goes_on No_more rest inside t [] h closed e all = absurd (let clash : 40 ∷ inside ≡ [] = sym e ∙ all ∙ ap (λ xs. xs ++ []) h in cc)
list_goes_on No_more rest inside t (b ∷ more) h closed e all = absurd (let clash = head_eq (sym e ∙ all ∙ ap (λ xs. xs ++ b ∷ more) h) in omega (arith, clash, closed))
list_goes_on (And_then f gs) rest inside t more h closed e all = (f, gs, h.0, h.1, refl, h.3, h.4, all ∙ ap (λ xs. xs ++ more) h.2 ∙ append_assoc h.0 h.1 more)

-- a list that stops has no more filters
pub list_ends : (fs : FilterContents) (rest t more : List ℕ) → IsFilterList fs t → Not_first 40 rest → rest ≡ t ++ more → (fs ≡ No_more) × (rest ≡ more)
list_ends No_more rest t more h s all = (refl, all ∙ ap (λ xs. xs ++ more) h)
list_ends (And_then f gs) rest t more h s all = absurd (not_first 40 rest ((h.3.0 ++ 41 ∷ []) ++ h.1 ++ more) refl s (all ∙ ap (λ xs. xs ++ more) (h.2 ∙ ap (λ xs. xs ++ h.1) h.3.1)))

-- any text that may follow closes a list, a filter
pub empty_filter : SomeFilter (40 ∷ 38 ∷ 41 ∷ [])
empty_filter = (All_of No_more, (38 ∷ [], refl, ([], refl, ([], [], refl, tt, refl))))

-- what stands between parentheses begins with no space and no parenthesis
pub comp_first : (f : FilterContent) (a : List ℕ) → IsFilterComp f a → (b : ℕ) × (rest : List ℕ) × (a ≡ b ∷ rest) × (is_space b ≡ false) × ((b == 40) ≡ false)
comp_first (All_of operands) a h = (38, h.0, h.1, refl, refl)
comp_first (Any_of operands) a h = (124, h.0, h.1, refl, refl)
comp_first (Not_of operand) a h = (33, h.0 ++ (h.1 ++ h.2), h.3, refl, refl)
comp_first (Leaf item) a h = let first = item_first item a h in (first.0, first.1, first.2, differs 32 first.0 refl first.3, differs 40 first.0 refl first.3)

pub spells_stops : (f : FilterContent) (a more : List ℕ) → IsFilter f a → Stops is_space (a ++ more)
spells_stops f a more h = subst (λ (xs : List ℕ). Stops is_space (xs ++ more)) (sym h.1) refl
