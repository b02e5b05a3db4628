-- Items and their shapes.
use Rattle.std.proofs.Common.{◌≡◌, ℕ, ◌<◌, List, [], ◌∷◌, ◌++◌, length, Option, Some, None, refl, sym, ap, subst, ◌∙◌, arith, true}
use Rattle.std.proofs.lemmas.List.{append-nil}
use Rattle.filter_text.specs.declared.comparison.Comparison.TheVariants as by
use Rattle.filter_text.specs.declared.items.Item.{Item}
use Rattle.filter_text.specs.declared.items.Item.TheVariants.{Equality, Approx, GreaterOrEqual, LessOrEqual, Present, Substrings, Extensible}
use Rattle.filter_text.specs.Runs.{Run, Stops, is_star, is_plain, is_item_first}
use Rattle.filter_text.specs.Values.{IsValue}
use Rattle.filter_text.specs.Items.{IsName, IsPiece, IsAnyAndLast, IsSubstrings, SomePiece, IsWords, IsItem}
use Rattle.filter_text.specs.inner.Pieces.{IsStarred}
use Rattle.filter_text.specs.inner.Shapes.{Shape, Same, Order, Rule, IsShape, shape, item_of, unless_empty, or_empty, ends, of_many, of_pieces}
use Rattle.filter_text.proofs.Runs.{both_ways, stops_at}
use Rattle.filter_text.proofs.ValueTexts.{byte_first}
use Rattle.filter_text.proofs.PieceTexts.{value_no_star, value_stops_star}
use Rattle.filter_text.proofs.ShapeTexts.{shape_plain, shape_first, one_shape}

-- ---- the last of some pieces

pub ends_join : (piece : List ℕ) (pieces : List (List ℕ)) → (ends piece pieces).0 ++ (ends piece pieces).1 ∷ [] ≡ piece ∷ pieces
ends_join piece [] = refl
ends_join piece (next ∷ pieces) = ap (λ ps. piece ∷ ps) (ends_join next pieces)

ends_of : (any : List (List ℕ)) (piece last : List ℕ) → ((ends piece (any ++ last ∷ [])).0 ≡ piece ∷ any) × ((ends piece (any ++ last ∷ [])).1 ≡ last)
ends_of [] piece last = (refl, refl)
ends_of (next ∷ any) piece last = let rest = ends_of any next last in (ap (λ ps. piece ∷ ps) rest.0, rest.1)

pub of_first_any_last : (attribute first : List ℕ) (any : List (List ℕ)) (last : List ℕ) → of_pieces attribute (first ∷ (any ++ last ∷ [])) ≡ of_many attribute first any last
of_first_any_last attribute first [] last = refl
of_first_any_last attribute first (next ∷ any) last =
    let rest = ends_of any next last in
    ap (λ ps. of_many attribute first ps (ends next (any ++ last ∷ [])).1) rest.0 ∙ ap (of_many attribute first (next ∷ any)) rest.1

pub all_empty : (attribute first : List ℕ) (any : List (List ℕ)) (last : List ℕ) → first ≡ [] → any ≡ [] → last ≡ [] → of_many attribute first any last ≡ Present attribute
all_empty attribute [] [] [] e f g = refl
all_empty attribute (b ∷ first) any last e f g = absurd (let clash : b ∷ first ≡ [] = e in cc)
all_empty attribute [] (piece ∷ any) last e f g = absurd (let clash : piece ∷ any ≡ [] = f in cc)
all_empty attribute [] [] (b ∷ last) e f g = absurd (let clash : b ∷ last ≡ [] = g in cc)

pub not_all_empty : (attribute first : List ℕ) (any : List (List ℕ)) (last : List ℕ) → (first ≡ [] → any ≡ [] → last ≡ [] → ⊥)
    → of_many attribute first any last ≡ Substrings attribute (unless_empty first) any (unless_empty last)
not_all_empty attribute [] [] [] h = absurd (h refl refl refl)
not_all_empty attribute (b ∷ first) any last h = refl
not_all_empty attribute [] (piece ∷ any) last h = refl
not_all_empty attribute [] [] (b ∷ last) h = refl

-- ---- an item is that of its shape

some_back : (piece : Option (List ℕ)) (text : List ℕ) → IsPiece piece text → unless_empty (or_empty piece) ≡ piece
some_back None text h = refl
some_back (Some []) text h = absurd (let none : ◌<◌ 0 0 = h.0 in omega arith)
some_back (Some (b ∷ value)) text h = refl

pub name_back : (name : List ℕ) → IsName name → unless_empty name ≡ Some name
name_back [] h = absurd (let none : ◌<◌ 0 0 = h.0 in omega arith)
name_back (b ∷ name) h = refl

many_back : (attribute : List ℕ) (initial : Option (List ℕ)) (any : List (List ℕ)) (last : Option (List ℕ)) (a z : List ℕ) → IsPiece initial a → IsPiece last z → SomePiece initial any last
    → of_many attribute (or_empty initial) any (or_empty last) ≡ Substrings attribute initial any last
many_back attribute None [] None a z h k s = absurd s
many_back attribute None [] (Some []) a z h k s = absurd (let none : ◌<◌ 0 0 = k.0 in omega arith)
many_back attribute None [] (Some (b ∷ value)) a z h k s = refl
many_back attribute None (next ∷ any) last a z h k s = ap (Substrings attribute None (next ∷ any)) (some_back last z k)
many_back attribute (Some []) any last a z h k s = absurd (let none : ◌<◌ 0 0 = h.0 in omega arith)
many_back attribute (Some (b ∷ value)) any last a z h k s = ap (Substrings attribute (Some (b ∷ value)) any) (some_back last z k)

last_piece : (any : List (List ℕ)) (last : Option (List ℕ)) (text : List ℕ) → IsAnyAndLast any last text → (z : List ℕ) × IsPiece last z
last_piece [] last text h = (h.1, h.4)
last_piece (value ∷ any) last text h = last_piece any last h.2 h.6

pub back : (item : Item) (text : List ℕ) → IsItem item text → item_of (shape item) ≡ item
back (Equality attribute value) text h = refl
back (Approx attribute value) text h = refl
back (GreaterOrEqual attribute value) text h = refl
back (LessOrEqual attribute value) text h = refl
back (Present attribute) text h = refl
back (Substrings attribute initial any last) text h =
    let z = last_piece any last h.3.1 h.3.4 in
    of_first_any_last attribute (or_empty initial) any (or_empty last) ∙ many_back attribute initial any last h.3.0 z.0 h.3.3 z.1 h.4
back (Extensible None words value) text h = refl
back (Extensible (Some name) words value) text h = ap (λ n. Extensible n words value) (name_back name h.2)

-- ---- a text that spells an item has its shape

piece_value : (piece : Option (List ℕ)) (text : List ℕ) → IsPiece piece text → IsValue (or_empty piece) text
piece_value None text h = h
piece_value (Some value) text h = h.1

full_stops : (value a rest : List ℕ) → 0 < length value → IsValue value a → Stops is_star (a ++ rest)
full_stops [] a rest some h = absurd (let none : ◌<◌ 0 0 = some in omega arith)
full_stops (b ∷ value) a rest some h =
    let first = byte_first b a h.0 h.1 in
    subst (λ (xs : List ℕ). Stops is_star (xs ++ rest)) (sym first.2) (value_no_star first.0 first.3)

starred : (any : List (List ℕ)) (last : Option (List ℕ)) (text : List ℕ) → IsAnyAndLast any last text → IsStarred (any ++ or_empty last ∷ []) text
starred [] last text h =
    let value = piece_value last h.1 h.4 in
    (h.0, h.1, [], h.2 ∙ ap (λ xs. 42 ∷ (h.0 ++ xs)) (sym (append-nil h.1)), h.3, value_stops_star (or_empty last) h.1 value, value, refl)
starred (value ∷ any) last text h = (h.0, h.1, h.2, h.3, h.4, full_stops value h.1 h.2 h.5.0 h.5.1, h.5.1, starred any last h.2 h.6)

pub shaped : (item : Item) (text : List ℕ) → IsItem item text → IsShape (shape item) text
shaped (Equality attribute value) text h = (h.0, h.1, h.2, (h.0, [], sym (append-nil h.0), h.3, refl))
shaped (Approx attribute value) text h = h
shaped (GreaterOrEqual attribute value) text h = h
shaped (LessOrEqual attribute value) text h = h
shaped (Present attribute) text h =
    (42 ∷ h.0, h.1, h.2, ([], 42 ∷ h.0, refl, refl, (h.0, [], [], ap (λ xs. 42 ∷ xs) (sym (append-nil h.0)), h.3, tt, refl, refl)))
shaped (Substrings attribute initial any last) text h =
    (h.0, h.1, h.2, (h.3.0, h.3.1, h.3.2, piece_value initial h.3.0 h.3.3, starred any last h.3.1 h.3.4))
shaped (Extensible None words value) text h = (text, refl, (tt, (let some = h.0 in omega (arith, some)), h.1), h.2)
shaped (Extensible (Some name) words value) text h = (h.0, h.1, (h.2.1, (let some = h.2.0 in omega (arith, some)), h.3), h.4)

-- ---- a text that has a shape spells its item

piece_of : (value a : List ℕ) → IsValue value a → IsPiece (unless_empty value) a
piece_of [] a h = h
piece_of (b ∷ value) a h = (omega arith, h)

nonempty : (value a rest more : List ℕ) → IsValue value a → Stops is_star (a ++ rest) → rest ≡ 42 ∷ more → 0 < length value
nonempty [] a rest more h stops e = absurd (both_ways refl (stops_at is_star 42 (a ++ rest) more stops (ap (λ xs. xs ++ rest) h ∙ e)))
nonempty (b ∷ value) a rest more h stops e = omega arith

starred_first : (any : List (List ℕ)) (last text : List ℕ) → IsStarred (any ++ last ∷ []) text → (more : List ℕ) × (text ≡ 42 ∷ more)
starred_first [] last text h = (h.0 ++ (h.1 ++ h.2), h.3)
starred_first (value ∷ any) last text h = (h.0 ++ (h.1 ++ h.2), h.3)

any_last : (any : List (List ℕ)) (last text : List ℕ) → IsStarred (any ++ last ∷ []) text → IsAnyAndLast any (unless_empty last) text
any_last [] last text h =
    (h.0, h.1, h.3 ∙ ap (λ xs. 42 ∷ (h.0 ++ (h.1 ++ xs))) h.7 ∙ ap (λ xs. 42 ∷ (h.0 ++ xs)) (append-nil h.1), h.4, piece_of last h.1 h.6)
any_last (value ∷ any) last text h =
    let first = starred_first any last h.2 h.7 in
    (h.0, h.1, h.2, h.3, h.4, (nonempty value h.1 h.2 first.0 h.6 h.5 first.1, h.6), any_last any last h.2 h.7)

subs : (first : List ℕ) (any : List (List ℕ)) (last text a rest : List ℕ) → text ≡ a ++ rest → IsValue first a → IsStarred (any ++ last ∷ []) rest
    → IsSubstrings (unless_empty first) any (unless_empty last) text
subs first any last text a rest e h k = (a, rest, e, piece_of first a h, any_last any last rest k)

many_spelled : (attribute first : List ℕ) (any : List (List ℕ)) (last text right a rest : List ℕ) → text ≡ attribute ++ 61 ∷ right → IsName attribute → right ≡ a ++ rest → IsValue first a
    → IsStarred (any ++ last ∷ []) rest → IsItem (of_many attribute first any last) text
many_spelled attribute [] [] [] text right a rest e n cut h k =
    (k.0, e ∙ ap (λ xs. attribute ++ 61 ∷ xs) (cut ∙ ap (λ xs. xs ++ rest) h ∙ k.3 ∙ ap (λ xs. 42 ∷ (k.0 ++ (xs ++ k.2))) k.6 ∙ ap (λ xs. 42 ∷ (k.0 ++ xs)) k.7 ∙ ap (λ xs. 42 ∷ xs) (append-nil k.0)), n, k.4)
many_spelled attribute [] [] (b ∷ last) text right a rest e n cut h k = (right, e, n, subs [] [] (b ∷ last) right a rest cut h k, tt)
many_spelled attribute [] (next ∷ any) last text right a rest e n cut h k = (right, e, n, subs [] (next ∷ any) last right a rest cut h k, tt)
many_spelled attribute (b ∷ first) any last text right a rest e n cut h k = (right, e, n, subs (b ∷ first) any last right a rest cut h k, tt)

pub spelled : (s : Shape) (text : List ℕ) → IsShape s text → IsItem (item_of s) text
spelled (Same name []) text h = absurd h.3
spelled (Same name (piece ∷ [])) text h = (h.0, h.1, h.2, subst (IsValue piece) (sym (h.3.2 ∙ ap (λ xs. h.3.0 ++ xs) h.3.4 ∙ append-nil h.3.0)) h.3.3)
spelled (Same name (first ∷ next ∷ pieces)) text h =
    many_spelled name first (ends next pieces).0 (ends next pieces).1 text h.0 h.3.0 h.3.1 h.1 h.2 h.3.2 h.3.3
    (subst (λ (ps : List (List ℕ)). IsStarred ps h.3.1) (sym (ends_join next pieces)) h.3.4)
spelled (Order by.Approx name value) text h = h
spelled (Order by.Greater name value) text h = h
spelled (Order by.Less name value) text h = h
spelled (Rule [] words value) text h = ((let some = h.2.1 in omega (arith, some)), h.2.2, subst (IsWords words value) (sym h.1) h.3)
spelled (Rule (b ∷ name) words value) text h = (h.0, h.1, (omega arith, h.2.0), h.2.2, h.3)

-- ---- texts of items

pub item_plain : (item : Item) (text : List ℕ) → IsItem item text → Run is_plain text
item_plain item text h = shape_plain (shape item) text (shaped item text h)

pub item_first : (item : Item) (text : List ℕ) → IsItem item text → (b : ℕ) × (rest : List ℕ) × (text ≡ b ∷ rest) × (is_item_first b ≡ true)
item_first item text h = shape_first (shape item) text (shaped item text h)

-- no text spells two items
pub one_item : (i j : Item) (text : List ℕ) → IsItem i text → IsItem j text → i ≡ j
one_item i j text h k = sym (back i text h) ∙ ap item_of (one_shape (shape i) (shape j) text (shaped i text h) (shaped j text k)) ∙ back j text k
