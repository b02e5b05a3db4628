-- A text has one faulty line at most.
use Rattle.std.proofs.Common.{◌≡◌, ℕ, suc, ◌+◌, false, List, [], ◌∷◌, ◌++◌, take, count_by, Result, Ok, Err, ◌⊎◌, inl, inr, refl, sym, ap, ◌∙◌, subst, append_assoc, arith}
use Rattle.std.proofs.lemmas.List.{append-nil, append_cancel_left}
use Rattle.base.specs.Ascii.{line_feed}
use Rattle.memchr.specs.Find.{is_byte}
use Rattle.schema.specs.Conf.{Conf}
use Rattle.index_text.specs.IndexTexts.{Rows}
use Rattle.stored_index.specs.Reading.{rows_in}
use Rattle.stored_index.specs.FaultyLines.{HasNoLineFeed, IsHeader}
use Rattle.stored_index.specs.FaultLines.{AreWholeLines, IsFaultLine}
use Rattle.stored_index.specs.declared.fault.IndexFaultKind.{IndexFaultKind}
use Rattle.stored_index.specs.declared.fault_lines.FaultLine.{FaultLine}

abbrev Text : Type 0
Text = List ℕ

-- ---- two cuts of one text

-- the second one stands so much behind the first
pub record IsBehind (a b x y : Text) : Type 0 where
  pub between : Text
  pub second : b ≡ a ++ between
  pub rest : x ≡ between ++ y

same_head : (a b : ℕ) (x y : Text) → ◌≡◌ {A = Text} (a ∷ x) (b ∷ y) → (a ≡ b) × (x ≡ y)
same_head a b x y e = (cc, cc)

one_on : (a b : ℕ) (x y u v : Text) → a ≡ b → IsBehind x y u v → IsBehind (a ∷ x) (b ∷ y) u v
one_on a b x y u v same h = record { between = h.between; second = λ j. sym same j ∷ h.second j; rest = h.rest }

two_cuts : (a b x y : Text) → a ++ x ≡ b ++ y → IsBehind a b x y ⊎ IsBehind b a y x
two_cuts [] b x y e = inl (record { between = b; second = refl; rest = e })
two_cuts (c ∷ a) [] x y e = inr (record { between = c ∷ a; second = refl; rest = sym e })
two_cuts (c ∷ a) (d ∷ b) x y e =
    let same = same_head c d (a ++ x) (b ++ y) e in
    elim (two_cuts a b x y same.1) [ inl h ↦ inl (one_on c d a b x y same.0 h) | inr h ↦ inr (one_on d c b a y x (sym same.0) h) ]

-- ---- line feeds

has_feed : (front more : Text) → HasNoLineFeed (front ++ line_feed ∷ more) → ⊥
has_feed [] more none = absurd (let e : is_byte line_feed line_feed ≡ false = none 0 0 (omega arith) in cc)
has_feed (c ∷ front) more none = has_feed front more (λ k d lt. none (suc k) d (omega (arith, lt)))

-- a text that ends with a line feed, behind another one: so does what is between, or nothing is
ends_so : (a d body : Text) → a ++ d ≡ body ++ line_feed ∷ [] → (d ≡ []) ⊎ ((e : Text) × (d ≡ e ++ line_feed ∷ []))
ends_so a d body is = elim (two_cuts a body d (line_feed ∷ []) is) [
  | inl h ↦ inr (h.between, h.rest)
  | inr h ↦ last h.between d h.rest
]
  where
    last : (f d : Text) → line_feed ∷ [] ≡ f ++ d → (d ≡ []) ⊎ ((e : Text) × (d ≡ e ++ line_feed ∷ []))
    last [] d e = inr ([], sym e)
    last (c ∷ []) d e = inl (sym ((same_head line_feed c [] d e).1))
    last (c ∷ b ∷ f) d e = absurd (let bad = (same_head line_feed c [] (b ∷ f ++ d) e).1 in cc)

whole_ends : (a d b : Text) → b ≡ a ++ d → AreWholeLines b → (d ≡ []) ⊎ ((e : Text) × (d ≡ e ++ line_feed ∷ []))
whole_ends [] d b is (inl none) = inl (sym is ∙ none)
whole_ends (c ∷ a) d b is (inl none) = absurd (let bad = sym none ∙ is in cc)
whole_ends a d b is (inr (body, ends)) = ends_so a d body (sym is ∙ ends)

-- ---- a line and what ends it, before a line feed further on

-- the line feed that ends the line stands there, or further on
pub record IsWithin (l e : Text) : Type 0 where
  pub further : Text
  pub is : e ≡ l ++ further

line_within : (l r e y : Text) → HasNoLineFeed l → l ++ r ≡ e ++ line_feed ∷ y → IsWithin l e
line_within l r e y none is = elim (two_cuts l e r (line_feed ∷ y) is) [
  | inl h ↦ record { further = h.between; is = h.second }
  | inr h ↦ by h.between h.second h.rest
]
  where
    by : (f : Text) → l ≡ e ++ f → line_feed ∷ y ≡ f ++ r → IsWithin l e
    by [] longer rest = record { further = []; is = sym (longer ∙ append-nil e) ∙ sym (append-nil l) }
    by (c ∷ f) longer rest =
        let head = (same_head line_feed c y (f ++ r) rest).0 in
        absurd (has_feed e f (subst HasNoLineFeed (longer ∙ ap (λ (b : ℕ). e ++ b ∷ f) (sym head)) none))

-- what is behind the line up to there begins with its line feed
behind_line : (l r f y : Text) → l ++ r ≡ (l ++ f) ++ line_feed ∷ y → r ≡ f ++ line_feed ∷ y
behind_line l r f y is = append_cancel_left l r (f ++ line_feed ∷ y) (is ∙ append_assoc l f (line_feed ∷ y))

from_feed : (f y more rest : Text) → line_feed ∷ more ≡ f ++ line_feed ∷ y → (other : Text) × (f ++ line_feed ∷ rest ≡ line_feed ∷ other)
from_feed [] y more rest e = (rest, refl)
from_feed (c ∷ f) y more rest e = (f ++ line_feed ∷ rest, ap (λ (b : ℕ). b ∷ (f ++ line_feed ∷ rest)) (sym (same_head line_feed c more (f ++ line_feed ∷ y) e).0))

-- ---- faults

module _ (conf : Conf) (entries : ℕ) (stamp whole : Text) (own : IsHeader entries stamp) where
  abbrev Fault : FaultLine → Type 0
  Fault fault = IsFaultLine conf entries stamp whole fault

  abbrev read : Text → Result Rows IndexFaultKind
  read text = rows_in conf entries stamp text

  -- no whole lines that can go on have a faulty line in them
  module _ (f g : FaultLine) (one : Fault f) (two : Fault g) where
    goes_past : (e : Text) → two.front ≡ one.front ++ (e ++ line_feed ∷ []) → one.line ++ one.rest ≡ (e ++ line_feed ∷ []) ++ (two.line ++ two.rest) → ⊥
    goes_past e front rest =
        let y = two.line ++ two.rest in
        let is = rest ∙ append_assoc e (line_feed ∷ []) y in
        let within = line_within one.line one.rest e y one.alone is in
        let r_is = behind_line one.line one.rest within.further y (is ∙ ap (λ (t : Text). t ++ line_feed ∷ y) within.is) in
        by within.further within.is r_is one.bad
      where
        by : (further : Text) → e ≡ one.line ++ further → one.rest ≡ further ++ line_feed ∷ (two.line ++ two.rest)
            → ((one.rest ≡ []) × (read (one.front ++ one.line) ≡ Err f.kind)) ⊎ ((more : Text) × (one.rest ≡ line_feed ∷ more) × ((other : Text) → read (one.front ++ (one.line ++ line_feed ∷ other)) ≡ Err f.kind)) → ⊥
        by [] e_is r_is (inl (none, fails)) = absurd (let bad = sym none ∙ r_is in cc)
        by (c ∷ further) e_is r_is (inl (none, fails)) = absurd (let bad = sym none ∙ r_is in cc)
        by further e_is r_is (inr (more, feeds, fails)) =
            let on = two.good own in
            let other = from_feed further (two.line ++ two.rest) more on.0 (sym feeds ∙ r_is) in
            let same = ap (λ (t : Text). t ++ on.0) (front ∙ ap (λ (t : Text). one.front ++ (t ++ line_feed ∷ [])) e_is)
            ∙ append_assoc one.front ((one.line ++ further) ++ line_feed ∷ []) on.0
            ∙ ap (λ (t : Text). one.front ++ t) (append_assoc (one.line ++ further) (line_feed ∷ []) on.0 ∙ append_assoc one.line further (line_feed ∷ on.0) ∙ ap (λ (t : Text). one.line ++ t) other.1) in
            absurd (let both : Ok on.1 ≡ Err f.kind = sym on.2 ∙ ap read same ∙ fails other.0 in cc)

    -- the one that stands first stands where the other does
    no_further : IsBehind one.front two.front (one.line ++ one.rest) (two.line ++ two.rest) → one.front ≡ two.front
    no_further h = elim (whole_ends one.front h.between two.front h.second two.lines) [
      | inl none ↦ sym (h.second ∙ ap (λ (t : Text). one.front ++ t) none ∙ append-nil one.front)
      | inr ends ↦ absurd (goes_past ends.0 (h.second ∙ ap (λ (t : Text). one.front ++ t) ends.1) (h.rest ∙ ap (λ (t : Text). t ++ (two.line ++ two.rest)) ends.1))
    ]

  -- ---- and it is one

  fails_whole : (f : FaultLine) → Fault f → read whole ≡ Err f.kind
  fails_whole f one = by one.bad
    where
      by : ((one.rest ≡ []) × (read (one.front ++ one.line) ≡ Err f.kind)) ⊎ ((more : Text) × (one.rest ≡ line_feed ∷ more) × ((other : Text) → read (one.front ++ (one.line ++ line_feed ∷ other)) ≡ Err f.kind)) → read whole ≡ Err f.kind
      by (inl (none, fails)) = ap read (one.whole_is ∙ ap (λ (t : Text). one.front ++ (one.line ++ t)) none ∙ ap (λ (t : Text). one.front ++ t) (append-nil one.line)) ∙ fails
      by (inr (more, feeds, fails)) = ap read (one.whole_is ∙ ap (λ (t : Text). one.front ++ (one.line ++ t)) feeds) ∙ fails more

  same_kind : (j k : IndexFaultKind) → ◌≡◌ {A = Result Rows IndexFaultKind} (Err j) (Err k) → j ≡ k
  same_kind j k e = cc

  -- nothing, or a line feed
  abbrev Ends : Text → Type 0
  Ends rest = (rest ≡ []) ⊎ ((more : Text) × (rest ≡ line_feed ∷ more))

  ends_of : (f : FaultLine) (one : Fault f) → Ends one.rest
  ends_of f one = elim one.bad [ inl h ↦ inl h.0 | inr h ↦ inr (h.0, h.1) ]

  no_more : (l r m s : Text) → HasNoLineFeed m → Ends r → IsBehind l m r s → m ≡ l
  no_more l r m s none ends h = by h.between h.second h.rest ends
    where
      by : (d : Text) → m ≡ l ++ d → r ≡ d ++ s → Ends r → m ≡ l
      by [] second rest ends = second ∙ append-nil l
      by (c ∷ d) second rest (inl nothing) = absurd (let bad = sym nothing ∙ rest in cc)
      by (c ∷ d) second rest (inr (more, feeds)) =
          let head = (same_head line_feed c more (d ++ s) (sym feeds ∙ rest)).0 in
          absurd (has_feed l d (subst HasNoLineFeed (second ∙ ap (λ (b : ℕ). l ++ b ∷ d) (sym head)) none))

  abbrev made : ℕ → IndexFaultKind → Text → FaultLine
  made number kind text = record { number = number; kind = kind; text = text }

  pub one_fault_line : (f g : FaultLine) → Fault f → Fault g → f ≡ g
  one_fault_line f g one two =
      let cut : one.front ++ (one.line ++ one.rest) ≡ two.front ++ (two.line ++ two.rest) = sym one.whole_is ∙ two.whole_is in
      let front : one.front ≡ two.front = elim (two_cuts one.front two.front (one.line ++ one.rest) (two.line ++ two.rest) cut) [ inl h ↦ no_further f g one two h | inr h ↦ sym (no_further g f two one h) ] in
      let lines : one.line ++ one.rest ≡ two.line ++ two.rest = append_cancel_left two.front (one.line ++ one.rest) (two.line ++ two.rest) (ap (λ (t : Text). t ++ (one.line ++ one.rest)) (sym front) ∙ cut) in
      let line : one.line ≡ two.line = elim (two_cuts one.line two.line one.rest two.rest lines) [
        | inl h ↦ sym (no_more one.line one.rest two.line two.rest two.alone (ends_of f one) h)
        | inr h ↦ no_more two.line two.rest one.line one.rest one.alone (ends_of g two) h
      ] in
      let number : f.number ≡ g.number = one.number_is ∙ ap (λ (t : Text). count_by (is_byte line_feed) t + 1) front ∙ sym two.number_is in
      let text : f.text ≡ g.text = one.text_is ∙ ap (λ (t : Text). take 60 t) line ∙ sym two.text_is in
      let kind : f.kind ≡ g.kind = same_kind f.kind g.kind (sym (fails_whole f one) ∙ fails_whole g two) in
      λ j. made (number j) (kind j) (text j)
