-- Which candidates stand with repairs: those that something was repaired of.
use Rattle.std.proofs.Common.{◌≡◌, ◌∙◌, ℕ, ◌<◌, Bool, true, false, ◌||◌, List, [], ◌∷◌, ◌++◌, length, get_or, inl, inr, refl, sym, ap, subst}
use Rattle.std.specs.List.{Contains}
use Rattle.std.proofs.lemmas.List.Elements.{Contains-append_cases, Contains-push_cases}
use Rattle.server_schema.specs.declared.taking.Candidate.{Candidate}
use Rattle.server_schema.specs.Growth.{AreAmong, AreMarked, Marks}
use Rattle.server_schema.proofs.Members.{in_none}
use Rattle.server_schema.proofs.Growing.{one_of}

pub none_marked : (is_changed : Bool) → AreMarked is_changed []
none_marked is_changed c at = absurd (in_none c at)

or_left : (a b : Bool) → a ≡ true → (a || b) ≡ true
or_left a b h = ap (λ (c : Bool). c || b) h

or_right : (a b : Bool) → b ≡ true → (a || b) ≡ true
or_right true b h = refl
or_right false b h = h

or_assoc : (a b c : Bool) → ((a || b) || c) ≡ (a || (b || c))
or_assoc true b c = refl
or_assoc false b c = refl

-- ---- fresh candidates

pub fresh_pushed : (cs after : List Candidate) (c : Candidate) → after ≡ cs ++ c ∷ [] → c.is_repaired ≡ false → AreMarked false cs → AreMarked false after
fresh_pushed cs after c is fresh marked d at repaired = elim (Contains-push_cases cs c d (subst (λ (ds : List Candidate). Contains ds d) is at)) [
  | inl before ↦ marked d before repaired
  | inr same ↦ sym fresh ∙ ap (λ (e : Candidate). e.is_repaired) same ∙ repaired
]

pub fresh_both : (cs ds all : List Candidate) → all ≡ cs ++ ds → AreMarked false cs → AreMarked false ds → AreMarked false all
fresh_both cs ds all is h k c at = elim (Contains-append_cases cs ds c (subst (λ (es : List Candidate). Contains es c) is at)) [ inl early ↦ h c early | inr late ↦ k c late ]

-- ---- some of them

pub none_among : (cs : List Candidate) → AreAmong [] cs
none_among cs c at = absurd (in_none c at)

pub among_pushed : (left after cs : List Candidate) (at : ℕ) (c : Candidate) → after ≡ left ++ c ∷ [] → at < length cs → c ≡ get_or cs at c → AreAmong left cs → AreAmong after cs
among_pushed left after cs at c is lt there among d h = elim (Contains-push_cases left c d (subst (λ (ds : List Candidate). Contains ds d) is h)) [
  | inl before ↦ among d before
  | inr same ↦ subst (λ (e : Candidate). Contains cs e) same (at, lt, sym there)
]

pub among_more : (a b c : List Candidate) → AreAmong a b → AreAmong b c → AreAmong a c
among_more a b c h k d at = k d (h d at)

-- ---- marks

pub marks_itself : (cs : List Candidate) → Marks cs cs false
marks_itself cs before marked c at repaired = or_left before false (marked c at repaired)

pub then_marks : (a b c : List Candidate) (p q : Bool) → Marks a b p → Marks b c q → Marks a c (p || q)
then_marks a b c p q h k before marked d at repaired = sym (or_assoc before p q) ∙ k (before || p) (h before marked) d at repaired

-- behind candidates of which only some are left
pub marks_among : (a b c : List Candidate) (p : Bool) → AreAmong b a → Marks b c p → Marks a c p
marks_among a b c p among marks before marked = marks before (λ d at repaired. marked d (among d at) repaired)

pub among_marks : (a b c : List Candidate) (p : Bool) → Marks a b p → AreAmong c b → Marks a c p
among_marks a b c p marks among before marked d at = marks before marked d (among d at)

-- one more was tried
pub marked_pushed : (cs left after : List Candidate) (at : ℕ) (c d : Candidate) (grew taken : Bool) → at < length cs → c ≡ get_or cs at c
    → d.is_repaired ≡ (c.is_repaired || taken) → after ≡ left ++ d ∷ [] → Marks cs left grew → Marks cs after (grew || taken)
marked_pushed cs left after at c d grew taken lt there repaired_is is marks before marked e h repaired = elim (Contains-push_cases left d e (subst (λ (ds : List Candidate). Contains ds e) is h)) [
  | inl early ↦ sym (or_assoc before grew taken) ∙ or_left (before || grew) taken (marks before marked e early repaired)
  | inr same ↦ elim (one_of c.is_repaired taken (sym repaired_is ∙ ap (λ (x : Candidate). x.is_repaired) same ∙ repaired)) [
    | inl was ↦ or_left before (grew || taken) (marked c (at, lt, sym there) was)
    | inr now ↦ or_right before (grew || taken) (or_right grew taken now)
  ]
]
