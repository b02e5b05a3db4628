-- How growth goes on: step by step, and several definitions at once.
use Rattle.std.proofs.Common.{◌≡◌, ◌∙◌, ◌⊎◌, ℕ, Bool, true, false, cond, ◌||◌, List, [], ◌∷◌, ◌++◌, inl, inr, map, refl, sym, ap, subst, append_assoc, append-nil}
use Rattle.std.specs.List.{Contains}
use Rattle.std.proofs.lemmas.List.Concat.{flat_map-append}
use Rattle.std.proofs.lemmas.List.Folds.{flat_map-map}
use Rattle.std.proofs.lemmas.List.Elements.{Contains-append_left, Contains-append_right, Contains-append_cases, Contains-push_cases}
use Rattle.server_schema.specs.declared.definition.Definition.{Definition}
use Rattle.server_schema.specs.Definitions.{line_of, lines_of}
use Rattle.server_schema.specs.Repairs.{IsRepairOf}
use Rattle.server_schema.specs.Growth.{is_read, comment_of, IsLineOf, IsRepairedLineOf, IsPrinted, concat, Grows, AreRefused}
use Rattle.server_schema.proofs.Members.{here, later, in_none, first_or_later, only_one, in_map, from_map}

abbrev AllIn : List Definition → List Definition → Type 0
AllIn ds es = (d : Definition) → Contains ds d → Contains es d

-- ---- lines that are printed of more definitions

same_of_more : (ds es : List Definition) (line : List ℕ) → AllIn ds es → IsLineOf ds line → IsLineOf es line
same_of_more ds es line all same = (same.0, all same.0 same.1, same.2)

repaired_of_more : (ds es : List Definition) (line : List ℕ) → AllIn ds es → IsRepairedLineOf ds line → IsRepairedLineOf es line
repaired_of_more ds es line all r = (r.0, r.1, all r.0 r.2, r.3, r.4)

printed_of_more : (ds es : List Definition) (line : List ℕ) → AllIn ds es → IsPrinted ds line → IsPrinted es line
printed_of_more ds es line all (inl comment) = inl comment
printed_of_more ds es line all (inr (inl same)) = inr (inl (same_of_more ds es line all same))
printed_of_more ds es line all (inr (inr r)) = inr (inr (repaired_of_more ds es line all r))

-- ---- growth

pub stays : (text : List ℕ) (ds : List Definition) → Grows text ds text ds false
stays text ds = record {
  lines = [];
  text_is = sym (append-nil text);
  printed = λ line h. absurd (in_none line h);
  kept = λ d h. inr h;
  came = λ d h. h;
  read = λ h. h;
  changed = λ h. absurd cc;
  unchanged = λ h line at. absurd (in_none line at);
}

pub one_of : (p q : Bool) → (p || q) ≡ true → (p ≡ true) ⊎ (q ≡ true)
one_of true q h = inl refl
one_of false q h = inr h

none_of : (p q : Bool) → (p || q) ≡ false → (p ≡ false) × (q ≡ false)
none_of true q h = absurd cc
none_of false q h = (refl, h)

module _ (a b c : List ℕ) (ds es fs : List Definition) (p q : Bool) where
  pub then_grows : Grows a ds b es p → Grows b es c fs q → Grows a ds c fs (p || q)
  then_grows f g = record {
    lines = f.lines ++ g.lines;
    text_is = g.text_is ∙ ap (λ (t : List ℕ). t ++ concat g.lines) f.text_is ∙ append_assoc a (concat f.lines) (concat g.lines)
        ∙ ap (λ (t : List ℕ). a ++ t) (sym (flat_map-append (λ (line : List ℕ). line) f.lines g.lines));
    printed = λ line h. elim (Contains-append_cases f.lines g.lines line h) [
      | inl early ↦ f.printed line early
      | inr late ↦ printed_of_more es ds line f.came (g.printed line late)
    ];
    kept = λ d h. elim (f.kept d h) [
      | inl early ↦ inl (Contains-append_left f.lines g.lines (line_of d) early)
      | inr left ↦ elim (g.kept d left) [
        | inl late ↦ inl (Contains-append_right f.lines g.lines (line_of d) late)
        | inr rest ↦ inr rest
      ]
    ];
    came = λ d h. f.came d (g.came d h);
    read = λ h. g.read (f.read h);
    changed = λ h. elim (one_of p q h) [
      | inl early ↦ let k = f.changed early in (k.0, Contains-append_left f.lines g.lines k.0 k.1, k.2)
      | inr late ↦ let k = g.changed late in (k.0, Contains-append_right f.lines g.lines k.0 k.1, repaired_of_more es ds k.0 f.came k.2)
    ];
    unchanged = λ h line at.
        let none = none_of p q h in
        elim (Contains-append_cases f.lines g.lines line at) [
          | inl early ↦ f.unchanged none.0 line early
          | inr late ↦ same_of_more es ds line f.came (g.unchanged none.1 line late)
        ];
  }

-- growth without a change
pub then_grows_more : (a b c : List ℕ) (ds es fs : List Definition) (p : Bool) → Grows a ds b es p → Grows b es c fs false → Grows a ds c fs p
then_grows_more a b c ds es fs p f g = subst (Grows a ds c fs) (no_more p) (then_grows a b c ds es fs p false f g)
  where
    no_more : (p : Bool) → (p || false) ≡ p
    no_more true = refl
    no_more false = refl

-- ---- definitions that are taken

lines_are : (ds : List Definition) → lines_of ds ≡ concat (map line_of ds)
lines_are ds = sym (flat_map-map (λ (line : List ℕ). line) line_of ds)

-- some of those that are left
pub take_grows : (a b : List ℕ) (left taken more : List Definition) → b ≡ a ++ lines_of taken → (is_read a ≡ true → is_read b ≡ true)
    → Grows a (left ++ (taken ++ more)) b (left ++ more) false
take_grows a b left taken more is reads = record {
  lines = map line_of taken;
  text_is = is ∙ ap (λ (t : List ℕ). a ++ t) (lines_are taken);
  printed = λ line h. inr (inl (line_is line h));
  kept = λ d h. elim (Contains-append_cases left (taken ++ more) d h) [
    | inl early ↦ inr (Contains-append_left left more d early)
    | inr late ↦ elim (Contains-append_cases taken more d late) [
      | inl one ↦ inl (in_map line_of d taken one)
      | inr rest ↦ inr (Contains-append_right left more d rest)
    ]
  ];
  came = λ d h. elim (Contains-append_cases left more d h) [
    | inl early ↦ Contains-append_left left (taken ++ more) d early
    | inr rest ↦ Contains-append_right left (taken ++ more) d (Contains-append_right taken more d rest)
  ];
  read = reads;
  changed = λ h. absurd cc;
  unchanged = λ h line at. line_is line at;
}
  where
    line_is : (line : List ℕ) → Contains (map line_of taken) line → IsLineOf (left ++ (taken ++ more)) line
    line_is line h = let d = from_map line_of line taken h in (d.0, Contains-append_right left (taken ++ more) d.0 (Contains-append_left taken more d.0 d.1), sym d.2)

-- a definition with repairs, behind a comment
pub repair_grows : (a b : List ℕ) (d e : Definition) (remark : List ℕ) → IsRepairOf d e → b ≡ a ++ (comment_of remark ++ line_of e) → (is_read a ≡ true → is_read b ≡ true)
    → Grows a (d ∷ []) b (d ∷ []) true
repair_grows a b d e remark repair is reads = record {
  lines = comment_of remark ∷ line_of e ∷ [];
  text_is = is ∙ ap (λ (t : List ℕ). a ++ (comment_of remark ++ t)) (sym (append-nil (line_of e)));
  printed = λ line h. elim (first_or_later (comment_of remark) line (line_of e ∷ []) h) [
    | inl first ↦ inl (remark, sym first)
    | inr more ↦ inr (inr (d, e, here d [], repair, sym (only_one (line_of e) line more)))
  ];
  kept = λ f h. inr h;
  came = λ f h. h;
  read = reads;
  changed = λ h. (line_of e, later (comment_of remark) (line_of e) (line_of e ∷ []) (here (line_of e) []), (d, e, here d [], repair, refl));
  unchanged = λ h. absurd cc;
}

-- growth by one of several definitions, which stay
pub one_grows : (a b : List ℕ) (d : Definition) (ds : List Definition) (p : Bool) → Contains ds d → Grows a (d ∷ []) b (d ∷ []) p → Grows a ds b ds p
one_grows a b d ds p at g = record {
  lines = g.lines;
  text_is = g.text_is;
  printed = λ line h. printed_of_more (d ∷ []) ds line all (g.printed line h);
  kept = λ e h. inr h;
  came = λ e h. h;
  read = g.read;
  changed = λ h. let k = g.changed h in (k.0, k.1, repaired_of_more (d ∷ []) ds k.0 all k.2);
  unchanged = λ h line at. same_of_more (d ∷ []) ds line all (g.unchanged h line at);
}
  where
    all : AllIn (d ∷ []) ds
    all e one = subst (λ (x : Definition). Contains ds x) (only_one d e one) at

-- ---- what is refused

pub none_refused : (text : List ℕ) → AreRefused text []
none_refused text = λ d h. absurd (in_none d h)

pub more_refused : (text : List ℕ) (ds : List Definition) (d : Definition) → AreRefused text ds → is_read (text ++ line_of d) ≡ false → AreRefused text (ds ++ d ∷ [])
more_refused text ds d refused this = λ e h. elim (Contains-push_cases ds d e h) [
  | inl before ↦ refused e before
  | inr is ↦ subst (λ (x : Definition). is_read (text ++ line_of x) ≡ false) is this
]

-- lines of a repair that were tried
pub repair_tried : (a b lines : List ℕ) (d e : Definition) (remark : List ℕ) (t : Bool) → IsRepairOf d e → lines ≡ comment_of remark ++ line_of e
    → t ≡ is_read (a ++ lines) → b ≡ cond t (a ++ lines) a → Grows a (d ∷ []) b (d ∷ []) t
repair_tried a b lines d e remark true repair are read put =
    repair_grows a b d e remark repair (put ∙ ap (λ (l : List ℕ). a ++ l) are) (λ h. ap is_read put ∙ sym read)
repair_tried a b lines d e remark false repair are read put = subst (λ (t : List ℕ). Grows a (d ∷ []) t (d ∷ []) false) (sym put) (stays a (d ∷ []))
