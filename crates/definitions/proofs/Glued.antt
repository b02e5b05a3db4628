-- Lines from the left: the last of those that were read goes on with what comes.
use Rattle.std.proofs.Common.{◌≡◌, ℕ, ◌+◌, ◌<◌, ◌≤◌, Bool, true, false, ◌==◌, cond, List, [], ◌∷◌, ◌++◌, length, get_or, drop, map, refl, sym, ap, ◌∙◌, append_assoc, arith}
use Rattle.std.specs.Str.Lines.{strip_carriage_return}
use Rattle.std.proofs.lemmas.Bool.{ne_eqb}
use Rattle.std.proofs.lemmas.Bool.Decides.{nat_tests}
use Rattle.std.proofs.lemmas.List.{drop_more, drop_all, length-drop, length-map}
use Rattle.definitions.specs.declared.lines.Line.{Line}
use Rattle.definitions.specs.Lines.{begins_blank, numbered, goes_on_with, joined, onto, unfolded}
use Rattle.definitions.specs.inner.Lines.{last_goes_on, join_last, with_line}

abbrev pub glued_from : Line → List Line → List Line → List Line
glued_from x [] rest = onto x rest
glued_from x (y ∷ ys) rest = x ∷ glued_from y ys rest

-- what was read, and what comes
abbrev pub glued : List Line → List Line → List Line
glued [] rest = rest
glued (x ∷ xs) rest = glued_from x xs rest

abbrev line : ℕ → List ℕ → Line
line n text = record { number = n; text = text }

-- two lines that go on on a third, in either order
three : (k n : ℕ) (cs bs : List ℕ) (a b : ℕ) (m : List ℕ) → joined (joined (line k (a ∷ cs)) (b ∷ bs)) m ≡ joined (line k (a ∷ cs)) (joined (line n (b ∷ bs)) m).text
three k n cs bs a b m = λ j. line k (append_assoc (a ∷ cs) (32 ∷ bs) (32 ∷ drop 1 m) j)

-- a line that goes on with another: what that goes on with it goes on with too
both_go : (k n : ℕ) (t u : List ℕ) (rest : List Line) → goes_on_with t u ≡ true → onto (joined (line k t) u) rest ≡ onto (line k t) (onto (line n u) rest)
both_go k n [] u rest goes = absurd cc
both_go k n (a ∷ cs) [] rest goes = absurd cc
both_go k n (a ∷ cs) (b ∷ bs) [] goes = sym (ap (λ (z : Bool). cond z (joined (line k (a ∷ cs)) (b ∷ bs) ∷ []) (line k (a ∷ cs) ∷ line n (b ∷ bs) ∷ [])) goes)
both_go k n (a ∷ cs) (b ∷ bs) (m ∷ ms) goes =
    let x = line k (a ∷ cs) in
    let l = line n (b ∷ bs) in
    elim (begins_blank m.text) as (λ z. cond z (joined (joined x l.text) m.text ∷ ms) (joined x l.text ∷ m ∷ ms) ≡ onto x (cond z (joined l m.text ∷ ms) (l ∷ m ∷ ms))) [
      | true ↦
          ap (λ (y : Line). y ∷ ms) (three k n cs bs a b m.text)
          ∙ sym (ap (λ (z : Bool). cond z (joined x (joined l m.text).text ∷ ms) (x ∷ joined l m.text ∷ ms)) goes)
      | false ↦ sym (ap (λ (z : Bool). cond z (joined x l.text ∷ m ∷ ms) (x ∷ l ∷ m ∷ ms)) goes)
    ]

same_begin : (t : List ℕ) (b : ℕ) (bs cs : List ℕ) → goes_on_with t (b ∷ bs) ≡ goes_on_with t (b ∷ cs)
same_begin [] b bs cs = refl
same_begin (a ∷ more) b bs cs = refl

-- a line that doesn't go on with another doesn't go on with what that becomes
apart : (x : Line) (n : ℕ) (u : List ℕ) (rest : List Line) → goes_on_with x.text u ≡ false → x ∷ onto (line n u) rest ≡ onto x (onto (line n u) rest)
apart x n u [] goes = sym (ap (λ (z : Bool). cond z (joined x u ∷ []) (x ∷ line n u ∷ [])) goes)
apart x n [] (m ∷ ms) goes = sym (ap (λ (z : Bool). cond z (joined x [] ∷ m ∷ ms) (x ∷ line n [] ∷ m ∷ ms)) goes)
apart x n (b ∷ bs) (m ∷ ms) goes =
    let l = line n (b ∷ bs) in
    elim (begins_blank m.text) as (λ z. x ∷ cond z (joined l m.text ∷ ms) (l ∷ m ∷ ms) ≡ onto x (cond z (joined l m.text ∷ ms) (l ∷ m ∷ ms))) [
      | true ↦ sym (ap (λ (z : Bool). cond z (joined x (joined l m.text).text ∷ ms) (x ∷ joined l m.text ∷ ms)) (same_begin x.text b (bs ++ 32 ∷ drop 1 m.text) bs ∙ goes))
      | false ↦ sym (ap (λ (z : Bool). cond z (joined x l.text ∷ m ∷ ms) (x ∷ l ∷ m ∷ ms)) goes)
    ]

last_one : (x l : Line) (rest : List Line) (b : Bool) → goes_on_with x.text l.text ≡ b → glued (cond b (joined x l.text ∷ []) (x ∷ l ∷ [])) rest ≡ onto x (onto l rest)
last_one x l rest true goes = both_go x.number l.number x.text l.text rest goes
last_one x l rest false goes = apart x l.number l.text rest goes

-- a line more behind another, with lines behind both
behind : (x y : Line) (ys : List Line) (next : Line) (rest : List Line) (b : Bool) → glued (cond b (x ∷ join_last (y ∷ ys) next.text) (x ∷ y ∷ ys ++ next ∷ [])) rest ≡ x ∷ glued (cond b (join_last (y ∷ ys) next.text) (y ∷ ys ++ next ∷ [])) rest
behind x y [] next rest true = refl
behind x y (z ∷ zs) next rest true = refl
behind x y ys next rest false = refl

-- one more line
pub one_more : (xs : List Line) (next : Line) (rest : List Line) → glued (with_line xs next) rest ≡ glued xs (onto next rest)
one_more [] next rest = refl
one_more (x ∷ []) next rest = last_one x next rest (goes_on_with x.text next.text) refl
one_more (x ∷ y ∷ ys) next rest = behind x y ys next rest (last_goes_on (y ∷ ys) next.text) ∙ ap (λ (ls : List Line). x ∷ ls) (one_more (y ∷ ys) next rest)

nothing_left : (xs : List Line) → glued xs [] ≡ xs
nothing_left [] = refl
nothing_left (x ∷ []) = refl
nothing_left (x ∷ y ∷ ys) = ap (λ (ls : List Line). x ∷ ls) (nothing_left (y ∷ ys))

-- ---- the loop

numbered_one : (n : ℕ) (stretch : List ℕ) (rest : List (List ℕ)) (last : Bool) → last ≡ (length rest == 0) → numbered n (stretch ∷ rest) ≡ line n (cond last stretch (strip_carriage_return stretch)) ∷ numbered (n + 1) rest
numbered_one n stretch [] last e = sym (ap (λ b. line n (cond b stretch (strip_carriage_return stretch)) ∷ []) e)
numbered_one n stretch (q ∷ qs) last e =
    sym (ap (λ b. line n (cond b stretch (strip_carriage_return stretch)) ∷ numbered (n + 1) (q ∷ qs)) (e ∙ ne_eqb (length (q ∷ qs)) 0 (λ x. omega arith)))

same_test : (i n l : ℕ) → l + (i + 1) ≡ n → (i + 1 == n) ≡ (l == 0)
same_test i n l h = grind (arith, nat_tests)

module _ {A : Type 0} (seen : A → List ℕ) (stretches : List A) (i : ℕ) (read total : List Line) (so_far : glued read (unfolded (numbered (i + 1) (map seen (drop i stretches)))) ≡ total) where
  pub goes_on : (d : A) (read' : List Line) (text : List ℕ) (last : Bool) → i < length stretches → last ≡ (i + 1 == length stretches)
      → text ≡ cond last (seen (get_or stretches i d)) (strip_carriage_return (seen (get_or stretches i d))) → read' ≡ with_line read (line (i + 1) text)
      → glued read' (unfolded (numbered (i + 1 + 1) (map seen (drop (i + 1) stretches)))) ≡ total
  unfolding unfolded
  goes_on d read' text last within is_last is_text put =
      let others = numbered (i + 1 + 1) (map seen (drop (i + 1) stretches)) in
      let left : length (map seen (drop (i + 1) stretches)) + (i + 1) ≡ length stretches =
      (let a = length-map (drop (i + 1) stretches) seen in let b = length-drop (i + 1) stretches in omega (arith, a, b)) in
      ap (λ (ls : List Line). glued ls (unfolded others)) put ∙ one_more read (line (i + 1) text) (unfolded others)
      ∙ ap (λ (t : List ℕ). glued read (unfolded (line (i + 1) t ∷ others))) is_text
      ∙ ap (λ (ls : List Line). glued read (unfolded ls)) (sym (numbered_one (i + 1) (seen (get_or stretches i d)) (map seen (drop (i + 1) stretches)) last (is_last ∙ same_test i (length stretches) (length (map seen (drop (i + 1) stretches))) left)))
      ∙ ap (λ (ps : List A). glued read (unfolded (numbered (i + 1) (map seen ps)))) (sym (drop_more stretches i d within)) ∙ so_far

  pub is_done : length stretches ≤ i → read ≡ total
  unfolding unfolded
  is_done past =
      sym (nothing_left read) ∙ ap (λ (ps : List A). glued read (unfolded (numbered (i + 1) (map seen ps)))) (sym (drop_all i stretches past)) ∙ so_far
