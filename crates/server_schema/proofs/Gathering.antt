-- Which definitions are gathered, and that comments are put one behind the other.
use Rattle.std.proofs.Common.{◌≡◌, ◌∙◌, ◌⊎◌, ℕ, ◌+◌, ◌<◌, true, false, List, [], ◌∷◌, ◌++◌, length, get_or, take, inl, inr, refl, sym, ap, subst, append_assoc, append-nil}
use Rattle.std.specs.List.{Contains}
use Rattle.std.proofs.lemmas.List.{take_more}
use Rattle.std.proofs.lemmas.List.Concat.{flat_map-append}
use Rattle.std.proofs.lemmas.List.Elements.{Contains-append_left, Contains-append_right, Contains-append_cases, Contains-push, Contains-push_cases}
use Rattle.server_schema.specs.declared.definition.Definition.{Definition}
use Rattle.dir_conf.specs.Configurations.{Defined}
use Rattle.server_schema.specs.declared.alike.Meaning.{Meaning}
use Rattle.server_schema.specs.declared.taking.Candidate.{Candidate}
use Rattle.server_schema.specs.Stated.{is_built_in}
use Rattle.server_schema.specs.Alike.{is_among}
use Rattle.server_schema.specs.Growth.{comment_of}
use Rattle.server_schema.specs.Transfers.{is_said, Gathers, IsOneMore, IsStepFor, AreComments, AddsComments, NeedNoRemark}
use Rattle.server_schema.proofs.Members.{in_none, only_one}

-- ---- definitions

pub one_more_first : (types classes : List Definition) (d : Definition) → IsOneMore (types ++ classes) d ((types ++ d ∷ []) ++ classes)
one_more_first types classes d = record {
  this = Contains-append_left (types ++ d ∷ []) classes d (Contains-push types d);
  others = λ e h. elim (Contains-append_cases types classes e h) [
    | inl early ↦ Contains-append_left (types ++ d ∷ []) classes e (Contains-append_left types (d ∷ []) e early)
    | inr late ↦ Contains-append_right (types ++ d ∷ []) classes e late
  ];
  only = λ e h. elim (Contains-append_cases (types ++ d ∷ []) classes e h) [
    | inl early ↦ elim (Contains-push_cases types d e early) [
      | inl before ↦ inl (Contains-append_left types classes e before)
      | inr is ↦ inr is
    ]
    | inr late ↦ inl (Contains-append_right types classes e late)
  ];
}

pub one_more_last : (types classes : List Definition) (d : Definition) → IsOneMore (types ++ classes) d (types ++ (classes ++ d ∷ []))
one_more_last types classes d = record {
  this = Contains-append_right types (classes ++ d ∷ []) d (Contains-push classes d);
  others = λ e h. elim (Contains-append_cases types classes e h) [
    | inl early ↦ Contains-append_left types (classes ++ d ∷ []) e early
    | inr late ↦ Contains-append_right types (classes ++ d ∷ []) e (Contains-append_left classes (d ∷ []) e late)
  ];
  only = λ e h. elim (Contains-append_cases types (classes ++ d ∷ []) e h) [
    | inl early ↦ inl (Contains-append_left types classes e early)
    | inr late ↦ elim (Contains-push_cases classes d e late) [
      | inl before ↦ inl (Contains-append_right types classes e before)
      | inr is ↦ inr is
    ]
  ];
}

module _ (defined : Defined) (stated : List Meaning) where
  pub none_gathered : Gathers defined stated [] []
  none_gathered = record { all = λ d h. absurd (in_none d h); only = λ d h. absurd (in_none d h); needed = λ d h. absurd (in_none d h) }

  -- one that needs no line
  one_said : (ds wanted : List Definition) (d : Definition) → Gathers defined stated ds wanted → is_said defined stated d ≡ true → Gathers defined stated (ds ++ d ∷ []) wanted
  one_said ds wanted d g said = record {
    all = λ e h. elim (Contains-push_cases ds d e h) [
      | inl before ↦ g.all e before
      | inr is ↦ inl (subst (λ (x : Definition). is_said defined stated x ≡ true) is said)
    ];
    only = λ e h. Contains-append_left ds (d ∷ []) e (g.only e h);
    needed = g.needed;
  }

  one_wanted : (ds wanted more : List Definition) (d : Definition) → Gathers defined stated ds wanted → is_said defined stated d ≡ false → IsOneMore wanted d more
      → Gathers defined stated (ds ++ d ∷ []) more
  one_wanted ds wanted more d g unsaid one = record {
    all = λ e h. elim (Contains-push_cases ds d e h) [
      | inl before ↦ elim (g.all e before) [ inl said ↦ inl said | inr there ↦ inr (one.others e there) ]
      | inr is ↦ inr (subst (λ (x : Definition). Contains more x) is one.this)
    ];
    only = λ e h. elim (one.only e h) [
      | inl before ↦ Contains-append_left ds (d ∷ []) e (g.only e before)
      | inr is ↦ subst (λ (x : Definition). Contains (ds ++ d ∷ []) x) is (Contains-push ds d)
    ];
    needed = λ e h. elim (one.only e h) [
      | inl before ↦ g.needed e before
      | inr is ↦ subst (λ (x : Definition). is_said defined stated x ≡ false) is unsaid
    ];
  }

  pub next_gathered : (ds before after : List Definition) (d : Definition) → Gathers defined stated ds before → IsStepFor (is_said defined stated d) before d after
      → Gathers defined stated (ds ++ d ∷ []) after
  next_gathered ds before after d g (inl said) = subst (Gathers defined stated (ds ++ d ∷ [])) (sym said.1) (one_said ds before d g said.0)
  next_gathered ds before after d g (inr one) = one_wanted ds before after d g one.0 one.1

-- ---- comments

pub no_comment : (text : List ℕ) → AddsComments text text
no_comment text = ([], ([], refl, λ line h. absurd (in_none line h)), sym (append-nil text))

pub one_comment : (before after comment : List ℕ) → after ≡ before ++ comment_of comment → AddsComments before after
one_comment before after comment is =
    (comment_of comment, (comment_of comment ∷ [], sym (append-nil (comment_of comment)), λ line h. (comment, sym (only_one (comment_of comment) line h))), is)

pub more_comments : (a b c : List ℕ) → AddsComments a b → AddsComments b c → AddsComments a c
more_comments a b c f g = (
  f.0 ++ g.0,
  (
    f.1.0 ++ g.1.0,
    (λ i. f.1.1 i ++ g.1.1 i) ∙ sym (flat_map-append (λ (line : List ℕ). line) f.1.0 g.1.0),
    λ line h. elim (Contains-append_cases f.1.0 g.1.0 line h) [ inl early ↦ f.1.2 line early | inr late ↦ g.1.2 line late ],
  ),
  g.2 ∙ ap (λ (t : List ℕ). t ++ g.0) f.2 ∙ append_assoc a f.0 g.0,
)

pub are_comments : (text : List ℕ) → AddsComments [] text → AreComments text
are_comments text f = subst AreComments (sym f.2) f.1

pub one_is_comments : (text comment : List ℕ) → text ≡ comment_of comment → AreComments text
one_is_comments text comment is = (text ∷ [], sym (append-nil text), λ line h. (comment, sym (only_one text line h) ∙ is))

-- ---- remarks

-- a comment is something
pub some_comment : (before comment : List ℕ) → before ++ comment_of comment ≡ [] → ⊥
some_comment [] comment h = absurd cc
some_comment (b ∷ bs) comment h = absurd cc

-- where nothing stands behind comments, nothing stood before them
pub nothing_before : (before after : List ℕ) → AddsComments before after → after ≡ [] → before ≡ []
nothing_before [] after adds none = refl
nothing_before (b ∷ bs) after adds none = absurd (let both = sym adds.2 ∙ none in cc)

module _ (defined : Defined) (stated : List Meaning) where
  pub none_needs : NeedNoRemark defined stated []
  none_needs c at = absurd (in_none c at)

  pub next_needs : (cs : List Candidate) (i : ℕ) (c : Candidate) → i < length cs → c ≡ get_or cs i c → NeedNoRemark defined stated (take i cs)
      → (c.is_repaired ≡ true) ⊎ (is_among defined stated c.definition.now ≡ true) → NeedNoRemark defined stated (take (i + 1) cs)
  next_needs cs i c lt is none this =
      subst (NeedNoRemark defined stated) (sym (take_more cs i c lt ∙ ap (λ (d : Candidate). take i cs ++ d ∷ []) (sym is)))
      (λ d at. elim (Contains-push_cases (take i cs) c d at) [
        | inl before ↦ none d before
        | inr same ↦ subst (λ (e : Candidate). (e.is_repaired ≡ true) ⊎ (is_among defined stated e.definition.now ≡ true)) same this
      ])

  -- of those of what is built in, each is one of these
  abbrev pub SayThese : List Definition → Type 0
  SayThese ds = (d : Definition) → Contains ds d → is_built_in d ≡ true → is_among defined stated d ≡ true

  pub none_say : SayThese []
  none_say d at = absurd (in_none d at)

  pub next_says : (ds : List Definition) (i : ℕ) (d : Definition) → i < length ds → d ≡ get_or ds i d → SayThese (take i ds)
      → (is_built_in d ≡ true → is_among defined stated d ≡ true) → SayThese (take (i + 1) ds)
  next_says ds i d lt is say this =
      subst SayThese (sym (take_more ds i d lt ∙ ap (λ (e : Definition). take i ds ++ e ∷ []) (sym is)))
      (λ e at. elim (Contains-push_cases (take i ds) d e at) [
        | inl before ↦ say e before
        | inr same ↦ subst (λ (f : Definition). is_built_in f ≡ true → is_among defined stated f ≡ true) same this
      ])
