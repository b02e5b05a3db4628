-- Texts of items.
use Rattle.std.proofs.Common.{◌≡◌, ℕ, ◌<◌, ◌≤◌, ◌==◌, List, [], ◌∷◌, ◌++◌, length, false, true, refl, sym, ap, subst, ◌∙◌, arith, inl, inr, Bool, Some, None}
use Rattle.std.proofs.lemmas.List.{append-nil}
use Rattle.std.proofs.lemmas.Grind.{common_steps}
use Rattle.filter_text.specs.declared.comparison.Comparison.{Comparison}
use Rattle.filter_text.specs.declared.comparison.Comparison.TheVariants.{Approx, Greater, Less}
use Rattle.filter_text.specs.Runs.{Run, Stops, is_star, is_plain, is_item_first, is_name_byte}
use Rattle.filter_text.specs.Values.{digit_of, is_raw, ByteAt, IsValue}
use Rattle.filter_text.specs.inner.Pieces.{IsStarred, IsPieces}
use Rattle.filter_text.specs.Items.{IsName, IsWords}
use Rattle.filter_text.specs.inner.Shapes.{Shape, Same, Order, Rule, IsShape, IsRule, IsAmount, sign, is_sign}
use Rattle.filter_text.proofs.Runs.{head_eq, tail_eq, both_ways, same_span, run_append, stops_at}
use Rattle.filter_text.proofs.ValueTexts.{one_value, byte_cut}
use Rattle.filter_text.proofs.PieceTexts.{tail_goes_on, tail_stops}

pub plain : (b : ℕ) → (b ≡ 40 → ⊥) → (b ≡ 41 → ⊥) → is_plain b ≡ true
plain b o c = grind (arith, common_steps)

run_plain : (p : ℕ → Bool) → p 40 ≡ false → p 41 ≡ false → (a : List ℕ) → Run p a → Run is_plain a
run_plain p o c [] r = tt
run_plain p o c (b ∷ a) r = (plain b (λ e. both_ways r.0 (ap p e ∙ o)) (λ e. both_ways r.0 (ap p e ∙ c)), run_plain p o c a r.1)

digit_plain : (b m : ℕ) → digit_of b ≡ Some m → is_plain b ≡ true
digit_plain b m h = plain b
    (λ e. let clash : None ≡ Some m = sym (ap digit_of e) ∙ h in cc)
    (λ e. let clash : None ≡ Some m = sym (ap digit_of e) ∙ h in cc)

byte_plain : (b : ℕ) (piece : List ℕ) → ByteAt b piece [] → Run is_plain piece
byte_plain b piece (inl h) = subst (Run is_plain) (sym h.0) (plain b (λ e. both_ways h.1 (ap is_raw e)) (λ e. both_ways h.1 (ap is_raw e)), tt)
byte_plain b piece (inr h) = subst (Run is_plain) (sym h.4) (refl, (digit_plain h.0 h.2 h.5, (digit_plain h.1 h.3 h.6, tt)))

value_plain : (v a : List ℕ) → IsValue v a → Run is_plain a
value_plain [] a h = subst (Run is_plain) (sym h) tt
value_plain (b ∷ v) a h =
    let cut = byte_cut b a h.0 h.1 in
    subst (Run is_plain) (sym cut.1) (run_append is_plain cut.0 h.0 (byte_plain b cut.0 cut.2) (value_plain v h.0 h.2))

tail_plain : (ps : List (List ℕ)) (a : List ℕ) → IsStarred ps a → Run is_plain a
tail_plain [] a h = subst (Run is_plain) (sym h) tt
tail_plain (p ∷ ps) a h =
    subst (Run is_plain) (sym h.3) (refl, run_append is_plain h.0 (h.1 ++ h.2) (run_plain is_star refl refl h.0 h.4) (run_append is_plain h.1 h.2 (value_plain p h.1 h.6) (tail_plain ps h.2 h.7)))

pattern_plain : (ps : List (List ℕ)) (a : List ℕ) → IsPieces ps a → Run is_plain a
pattern_plain [] a h = absurd h
pattern_plain (p ∷ ps) a h = subst (Run is_plain) (sym h.2) (run_append is_plain h.0 h.1 (value_plain p h.0 h.3) (tail_plain ps h.1 h.4))

sign_plain : (o : Comparison) → is_plain (sign o) ≡ true
sign_plain Approx = refl
sign_plain Greater = refl
sign_plain Less = refl

no_equals_sign : (b : ℕ) → (b ≡ 61 → ⊥) → (b == 61) ≡ false
no_equals_sign b h = grind (arith, common_steps)

-- no word begins with `=`
no_word : (w rest right : List ℕ) → IsName w → w ++ rest ≡ 61 ∷ right → ⊥
no_word [] rest right h e = absurd (let none : ◌<◌ 0 0 = h.0 in omega arith)
no_word (b ∷ w) rest right h e = both_ways h.1.0 (ap is_name_byte (head_eq e))

word_first : (w rest : List ℕ) → IsName w → Stops (λ b. b == 61) (w ++ rest)
word_first [] rest h = absurd (let none : ◌<◌ 0 0 = h.0 in omega arith)
word_first (b ∷ w) rest h = no_equals_sign b (λ e. both_ways h.1.0 (ap is_name_byte e))

words_plain : (ws : List (List ℕ)) (v t : List ℕ) → IsWords ws v t → Run is_plain t
words_plain [] v t h = subst (Run is_plain) (sym h.1) (refl, (refl, value_plain v h.0 h.2))
words_plain (w ∷ ws) v t h = subst (Run is_plain) (sym h.1) (refl, run_append is_plain w h.0 (run_plain is_name_byte refl refl w h.2.1) (words_plain ws v h.0 h.3))

-- words begin with a colon
pub words_first : (ws : List (List ℕ)) (v t : List ℕ) → IsWords ws v t → (more : List ℕ) × (t ≡ 58 ∷ more)
words_first [] v t h = (61 ∷ h.0, h.1)
words_first (w ∷ ws) v t h = (w ++ h.0, h.1)

pub words_stop : (ws : List (List ℕ)) (v t : List ℕ) → IsWords ws v t → Stops is_name_byte t
words_stop ws v t h = let first = words_first ws v t h in subst (Stops is_name_byte) (sym first.1) refl

-- a word that goes on
pub words_go_on : (ws : List (List ℕ)) (v rest more run end : List ℕ) → IsWords ws v rest → rest ≡ 58 ∷ more → Stops (λ b. b == 61) more → Run is_name_byte run → Stops is_name_byte end → more ≡ run ++ end
    → (vs : List (List ℕ)) × (ws ≡ run ∷ vs) × IsWords vs v end × IsName run
words_go_on [] v rest more run end h e no_equals r s cut = absurd (both_ways refl (stops_at (λ b. b == 61) 61 more h.0 no_equals (tail_eq (sym e ∙ h.1))))
words_go_on (w ∷ ws) v rest more run end h e no_equals r s cut =
    let same = same_span is_name_byte run w end h.0 r h.2.1 s (words_stop ws v h.0 h.3) (sym cut ∙ tail_eq (sym e ∙ h.1)) in
    (ws, ap (λ z. z ∷ ws) (sym same.0), subst (IsWords ws v) (sym same.1) h.3, subst IsName (sym same.0) h.2)

-- words that end
pub words_end : (ws : List (List ℕ)) (v rest right : List ℕ) → IsWords ws v rest → rest ≡ 58 ∷ 61 ∷ right → (ws ≡ []) × IsValue v right
words_end [] v rest right h e = (refl, subst (IsValue v) (tail_eq (tail_eq (sym h.1 ∙ e))) h.2)
words_end (w ∷ ws) v rest right h e = absurd (no_word w h.0 right h.2 (tail_eq (sym h.1 ∙ e)))

-- there are words, or two would be too many
pub words_more : (ws : List (List ℕ)) (v rest more : List ℕ) → IsWords ws v rest → rest ≡ 58 ∷ more → Stops (λ b. b == 61) more → 0 < length ws
words_more [] v rest more h e no_equals = absurd (both_ways refl (stops_at (λ b. b == 61) 61 more h.0 no_equals (tail_eq (sym e ∙ h.1))))
words_more (w ∷ ws) v rest more h e no_equals = omega arith

-- whatever words there are, some text completes them
pub completes : (least : ℕ) (ws : List (List ℕ)) → least ≤ 1 → length ws ≤ 2 → (vs : List (List ℕ)) × (t : List ℕ) × IsWords vs [] (58 ∷ t) × IsAmount least (ws ++ vs)
completes least [] l f = ((97 ∷ []) ∷ [], 97 ∷ 58 ∷ 61 ∷ [], (58 ∷ 61 ∷ [], refl, (omega arith, (refl, tt)), ([], refl, refl)), (omega arith, omega arith))
completes least (w ∷ ws) l f = ([], 61 ∷ [], ([], refl, refl), subst (IsAmount least) (sym (append-nil (w ∷ ws))) (omega arith, f))

pub one_words : (ws us : List (List ℕ)) (v u t : List ℕ) → IsWords ws v t → IsWords us u t → (ws ≡ us) × (v ≡ u)
one_words [] us v u t h k =
    let ends = words_end us u t h.0 k h.1 in
    (sym ends.0, (one_value v u h.0 h.0 [] [] h.2 ends.1 tt tt refl).0)
one_words (w ∷ ws) us v u t h k =
    let next = words_go_on us u t (w ++ h.0) w h.0 k h.1 (word_first w h.0 h.2) h.2.1 (words_stop ws v h.0 h.3) refl in
    let rest = one_words ws next.0 v u h.0 h.3 next.2 in
    (ap (λ z. w ∷ z) rest.0 ∙ sym next.1, rest.1)

pub sign_ends : (o : Comparison) → is_name_byte (sign o) ≡ false
sign_ends Approx = refl
sign_ends Greater = refl
sign_ends Less = refl

pub shape_plain : (s : Shape) (t : List ℕ) → IsShape s t → Run is_plain t
shape_plain (Same name pieces) t h =
    subst (Run is_plain) (sym h.1) (run_append is_plain name (61 ∷ h.0) (run_plain is_name_byte refl refl name h.2.1) (refl, pattern_plain pieces h.0 h.3))
shape_plain (Order o name value) t h =
    subst (Run is_plain) (sym h.1) (run_append is_plain name (sign o ∷ 61 ∷ h.0) (run_plain is_name_byte refl refl name h.2.1) (sign_plain o, (refl, value_plain value h.0 h.3)))
shape_plain (Rule name words value) t h =
    subst (Run is_plain) (sym h.1) (run_append is_plain name h.0 (run_plain is_name_byte refl refl name h.2.0) (words_plain words value h.0 h.3))

name_first : (b : ℕ) → is_name_byte b ≡ true → is_item_first b ≡ true
name_first b h = grind (arith, common_steps)

front_first : (name rest t : List ℕ) → IsName name → t ≡ name ++ rest → (b : ℕ) × (more : List ℕ) × (t ≡ b ∷ more) × (is_item_first b ≡ true)
front_first [] rest t h e = absurd (let none : ◌<◌ 0 0 = h.0 in omega arith)
front_first (b ∷ name) rest t h e = (b, name ++ rest, e, name_first b h.1.0)

-- what an item begins with
pub shape_first : (s : Shape) (t : List ℕ) → IsShape s t → (b : ℕ) × (rest : List ℕ) × (t ≡ b ∷ rest) × (is_item_first b ≡ true)
shape_first (Same name pieces) t h = front_first name (61 ∷ h.0) t h.2 h.1
shape_first (Order o name value) t h = front_first name (sign o ∷ 61 ∷ h.0) t h.2 h.1
shape_first (Rule [] words value) t h = let first = words_first words value h.0 h.3 in (58, first.0, h.1 ∙ first.1, refl)
shape_first (Rule (b ∷ name) words value) t h = (b, name ++ h.0, h.1, name_first b h.2.0.0)

one_tail : (ps qs : List (List ℕ)) (t : List ℕ) → IsStarred ps t → IsStarred qs t → ps ≡ qs
one_tail [] [] t h k = refl
one_tail [] (q ∷ qs) t h k = absurd (let clash : [] ≡ 42 ∷ (k.0 ++ (k.1 ++ k.2)) = sym h ∙ k.3 in cc)
one_tail (p ∷ ps) qs t h k =
    let next = tail_goes_on qs t (h.0 ++ (h.1 ++ h.2)) h.0 (h.1 ++ h.2) k h.3 h.4 refl h.5 in
    let same = one_value p next.0 h.1 next.2 h.2 next.3 h.6 next.5 (tail_stops ps h.2 h.7) (tail_stops next.1 next.3 next.6) next.7 in
    ap (λ z. z ∷ ps) same.0 ∙ ap (λ zs. next.0 ∷ zs) (one_tail ps next.1 h.2 h.7 (subst (IsStarred next.1) (sym same.1) next.6)) ∙ sym next.4

pub one_pattern : (ps qs : List (List ℕ)) (t : List ℕ) → IsPieces ps t → IsPieces qs t → ps ≡ qs
one_pattern [] qs t h k = absurd h
one_pattern (p ∷ ps) [] t h k = absurd k
one_pattern (p ∷ ps) (q ∷ qs) t h k =
    let same = one_value p q h.0 k.0 h.1 k.1 h.3 k.3 (tail_stops ps h.1 h.4) (tail_stops qs k.1 k.4) (sym h.2 ∙ k.2) in
    ap (λ z. z ∷ ps) same.0 ∙ ap (λ zs. q ∷ zs) (one_tail ps qs h.1 h.4 (subst (IsStarred qs) (sym same.1) k.4))

pub sign_begins : (o : Comparison) → is_sign (sign o) ≡ true
sign_begins Approx = refl
sign_begins Greater = refl
sign_begins Less = refl

colon_clash : (o : Comparison) → 58 ≡ sign o → ⊥
colon_clash Approx e = omega (arith, e)
colon_clash Greater e = omega (arith, e)
colon_clash Less e = omega (arith, e)

sign_clash : (o : Comparison) → 61 ≡ sign o → ⊥
sign_clash Approx e = omega (arith, e)
sign_clash Greater e = omega (arith, e)
sign_clash Less e = omega (arith, e)

-- the sort that a sign stands for
abbrev sort_of : ℕ → Comparison
sort_of n = elim (n == 126) [ true ↦ Approx | false ↦ elim (n == 62) [ true ↦ Greater | false ↦ Less ] ]

sort_of_sign : (o : Comparison) → sort_of (sign o) ≡ o
sort_of_sign Approx = refl
sort_of_sign Greater = refl
sort_of_sign Less = refl

pub same_sign : (o p : Comparison) → sign o ≡ sign p → o ≡ p
same_sign o p e = sym (sort_of_sign o) ∙ ap sort_of e ∙ sort_of_sign p

-- the name and what follows it are fixed
pub item_cut : (name rest other after text : List ℕ) → Run is_name_byte name → Stops is_name_byte rest → text ≡ name ++ rest → IsName other → Stops is_name_byte after → text ≡ other ++ after → (name ≡ other) × (rest ≡ after)
item_cut name rest other after text r s e n u k = same_span is_name_byte name other rest after r n.1 s u (sym e ∙ k)

pub item_same : (s : Shape) (text name rest right : List ℕ) → Run is_name_byte name → Stops is_name_byte rest → text ≡ name ++ rest → rest ≡ 61 ∷ right → IsShape s text
    → (ps : List (List ℕ)) × (s ≡ Same name ps) × IsPieces ps right
item_same (Same other ps) text name rest right r st e eq h =
    let cut = item_cut name rest other (61 ∷ h.0) text r st e h.2 refl h.1 in
    (ps, ap (λ n. Same n ps) (sym cut.0), subst (IsPieces ps) (sym (tail_eq (sym eq ∙ cut.1))) h.3)
item_same (Order o other v) text name rest right r st e eq h =
    absurd (sign_clash o (head_eq (sym eq ∙ (item_cut name rest other (sign o ∷ 61 ∷ h.0) text r st e h.2 (sign_ends o) h.1).1)))
item_same (Rule other words v) text name rest right r st e eq h =
    let first = words_first words v h.0 h.3 in
    let cut = same_span is_name_byte name other rest h.0 r h.2.0 st (words_stop words v h.0 h.3) (sym e ∙ h.1) in
    absurd (let clash = head_eq (sym eq ∙ cut.1 ∙ first.1) in omega (arith, clash))

-- words follow a name, perhaps an empty one
pub item_rule : (s : Shape) (text name rest : List ℕ) → Run is_name_byte name → Stops is_name_byte rest → text ≡ name ++ rest → Stops (λ b. b == 61) rest → Stops is_sign rest → IsShape s text
    → (ws : List (List ℕ)) × (v : List ℕ) × (s ≡ Rule name ws v) × IsWords ws v rest × IsRule name ws
item_rule (Same other ps) text name rest r st e no_equals no_sign h =
    absurd (both_ways refl (stops_at (λ b. b == 61) 61 rest h.0 no_equals (item_cut name rest other (61 ∷ h.0) text r st e h.2 refl h.1).1))
item_rule (Order o other v) text name rest r st e no_equals no_sign h =
    absurd (both_ways (sign_begins o) (stops_at is_sign (sign o) rest (61 ∷ h.0) no_sign (item_cut name rest other (sign o ∷ 61 ∷ h.0) text r st e h.2 (sign_ends o) h.1).1))
item_rule (Rule other words v) text name rest r st e no_equals no_sign h =
    let cut = same_span is_name_byte name other rest h.0 r h.2.0 st (words_stop words v h.0 h.3) (sym e ∙ h.1) in
    (words, v, ap (λ n. Rule n words v) (sym cut.0), subst (IsWords words v) (sym cut.1) h.3, subst (λ (n : List ℕ). IsRule n words) (sym cut.0) h.2)

pub item_order : (s : Shape) (text name rest : List ℕ) → Run is_name_byte name → Stops is_name_byte rest → text ≡ name ++ rest → (sort : Comparison) (equals : List ℕ) → rest ≡ sign sort ∷ equals → IsShape s text
    → (o : Comparison) × (v : List ℕ) × (right : List ℕ) × (s ≡ Order o name v) × (rest ≡ sign o ∷ 61 ∷ right) × IsValue v right
item_order (Same other ps) text name rest r st e sort equals eq h =
    absurd (sign_clash sort (sym (head_eq (sym eq ∙ (item_cut name rest other (61 ∷ h.0) text r st e h.2 refl h.1).1))))
item_order (Rule other words v) text name rest r st e sort equals eq h =
    let first = words_first words v h.0 h.3 in
    let cut = same_span is_name_byte name other rest h.0 r h.2.0 st (words_stop words v h.0 h.3) (sym e ∙ h.1) in
    absurd (colon_clash sort (sym (head_eq (sym eq ∙ cut.1 ∙ first.1))))
item_order (Order o other v) text name rest r st e sort equals eq h =
    let cut = item_cut name rest other (sign o ∷ 61 ∷ h.0) text r st e h.2 (sign_ends o) h.1 in
    (o, v, h.0, ap (λ n. Order o n v) (sym cut.0), cut.1, h.3)

pub same_order : (o p : Comparison) (n v w : List ℕ) → o ≡ p → v ≡ w → Order o n v ≡ Order p n w
same_order o p n v w e f = ap (λ z. Order z n v) e ∙ ap (Order p n) f

-- no text spells two items
pub one_shape : (s r : Shape) (t : List ℕ) → IsShape s t → IsShape r t → s ≡ r
one_shape (Same name ps) r t h k =
    let other = item_same r t name (61 ∷ h.0) h.0 h.2.1 refl h.1 refl k in
    ap (Same name) (one_pattern ps other.0 h.0 h.3 other.2) ∙ sym other.1
one_shape (Order o name v) r t h k =
    let other = item_order r t name (sign o ∷ 61 ∷ h.0) h.2.1 (sign_ends o) h.1 o (61 ∷ h.0) refl k in
    let right = tail_eq (tail_eq other.4) in
    same_order o other.0 name v other.1 (same_sign o other.0 (head_eq other.4))
    (one_value v other.1 h.0 other.2 [] [] h.3 other.5 tt tt (ap (λ xs. xs ++ []) right)).0 ∙ sym other.3
one_shape (Rule name ws v) r t h k =
    let first = words_first ws v h.0 h.3 in
    let other = item_rule r t name h.0 h.2.0 (words_stop ws v h.0 h.3) h.1
    (subst (Stops (λ b. b == 61)) (sym first.1) refl) (subst (Stops is_sign) (sym first.1) refl) k in
    let same = one_words ws other.0 v other.1 h.0 h.3 other.3 in
    ap (λ z. Rule name z v) same.0 ∙ ap (Rule name other.0) same.1 ∙ sym other.2

-- without a name it is words
pub item_nameless : (s : Shape) (text name rest : List ℕ) → Run is_name_byte name → Stops is_name_byte rest → text ≡ name ++ rest → length name ≡ 0 → IsShape s text
    → (ws : List (List ℕ)) × (v : List ℕ) × (s ≡ Rule name ws v) × IsWords ws v rest × IsAmount 1 ws
item_nameless (Same other ps) text name rest r st e zero h =
    absurd (let same = ap (λ xs. length xs) (item_cut name rest other (61 ∷ h.0) text r st e h.2 refl h.1).0 in let some = h.2.0 in omega (arith, same, some, zero))
item_nameless (Order o other v) text name rest r st e zero h =
    absurd (let same = ap (λ xs. length xs) (item_cut name rest other (sign o ∷ 61 ∷ h.0) text r st e h.2 (sign_ends o) h.1).0 in let some = h.2.0 in omega (arith, same, some, zero))
item_nameless (Rule other words v) text name rest r st e zero h =
    let cut = same_span is_name_byte name other rest h.0 r h.2.0 st (words_stop words v h.0 h.3) (sym e ∙ h.1) in
    let same = ap (λ xs. length xs) cut.0 in
    let some = h.2.1 in
    (words, v, ap (λ n. Rule n words v) (sym cut.0), subst (IsWords words v) (sym cut.1) h.3, (omega (arith, same, some, zero), h.2.2))

pub same_rule : (n m : List ℕ) (ws us : List (List ℕ)) (v u : List ℕ) → n ≡ m → ws ≡ us → v ≡ u → Rule n ws v ≡ Rule m us u
same_rule n m ws us v u e f g = ap (λ z. Rule z ws v) e ∙ ap (λ z. Rule m z v) f ∙ ap (Rule m us) g
