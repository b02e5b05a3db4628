-- A name is read exactly where a text spells it.
use Rattle.std.proofs.Common.{◌≡◌, ℕ, Bool, true, false, cond, ◌&&◌, List, [], ◌∷◌, ◌++◌, length, Result, Ok, Err, inl, inr, refl, sym, ap, subst, ◌∙◌}
use Rattle.std.specs.List.{list_all, join_with_byte}
use Rattle.std.proofs.lemmas.List.Folds.{list_all-append}
use Rattle.dn.specs.declared.faults.NameFaultKind.{NameFaultKind}
use Rattle.dn.specs.declared.faults.NameFault.{NameFault}
use Rattle.dn.specs.Names.{Ava, Rdn, Name, is_type}
use Rattle.dn.specs.Spelling.{spaces, SpellsAva, AreJoined, SpellsRdn, Spells}
use Rattle.base.specs.Answers.{◌>>=◌, each}
use Rattle.base.specs.Ends.{is_space}
use Rattle.dn.specs.Reading.{ava_of, cut_raw, rdn_of, name_of}
use Rattle.dn.specs.Gives.{Gives}
use Rattle.std.specs.Prelude.{IfOk}
use Rattle.dn.proofs.Octets.{chosen}
use Rattle.dn.specs.NameFaults.{Stops}
use Rattle.dn.proofs.Runs.{all_spaces, spaces_are}
use Rattle.base.proofs.Bound.{bind_ok, same_ok}
use Rattle.dn.proofs.SpelledAvas.{ava_sound, ava_complete, type_first}
use Rattle.dn.proofs.Wholes.{IsWhole, IsSome, cut_at, cut_none, cut_some, cut_joins, ava_whole, rdn_whole}

-- ---- what is read of each piece

module _ {X : Type 0} (f : List ℕ → Result X NameFaultKind) (P : List ℕ → X → Type 0) (sep : ℕ) where
  two : (text : List ℕ) (texts : List (List ℕ)) (x : X) (xs : List X) → P text x → AreJoined P sep (join_with_byte sep texts) xs → IsSome texts → AreJoined P sep (join_with_byte sep (text ∷ texts)) (x ∷ xs)
  two text [] x xs is more some = absurd some
  two text (t ∷ ts) x [] is more some = absurd more
  two text (t ∷ ts) x (y ∷ ys) is more some = (text, join_with_byte sep (t ∷ ts), is, refl, more)

  one : (text : List ℕ) (x : X) (xs ys : List X) → P text x → xs ≡ [] → ys ≡ x ∷ xs → AreJoined P sep text ys
  one text x xs ys is e same = subst (AreJoined P sep text) (sym (same ∙ ap (λ (zs : List X). x ∷ zs) e)) is

  pub each_sound : ((text : List ℕ) (x : X) → f text ≡ Ok x → P text x) → (texts : List (List ℕ)) (xs : List X) → IsSome texts → each f texts ≡ Ok xs → AreJoined P sep (join_with_byte sep texts) xs
  unfolding each
  each_sound sound [] xs some e = absurd some
  each_sound sound (t ∷ []) xs some e =
      let a = bind_ok (f t) (λ y. (each f [] >>= λ ys. Ok (y ∷ ys))) xs e in
      one t a.0 [] xs (sound t a.0 a.1) refl (sym (same_ok (a.0 ∷ []) xs a.2))
  each_sound sound (t ∷ u ∷ us) xs some e =
      let a = bind_ok (f t) (λ y. (each f (u ∷ us) >>= λ ys. Ok (y ∷ ys))) xs e in
      let b = bind_ok (each f (u ∷ us)) (λ ys. Ok (a.0 ∷ ys)) xs a.2 in
      subst (AreJoined P sep (join_with_byte sep (t ∷ u ∷ us))) (same_ok (a.0 ∷ b.0) xs b.2) (two t (u ∷ us) a.0 b.0 (sound t a.0 a.1) (each_sound sound (u ∷ us) b.0 tt b.1) tt)

  module _ (complete : (text : List ℕ) (x : X) → P text x → f text ≡ Ok x) (whole : (text : List ℕ) (x : X) → P text x → IsWhole sep false text) where
    pub each_complete : (text : List ℕ) (xs : List X) → AreJoined P sep text xs → each f (cut_raw sep false text) ≡ Ok xs
    unfolding each
    each_complete text [] h = absurd h
    each_complete text (x ∷ []) h =
        ap (each f) (cut_none sep false text (whole text x h))
        ∙ ap (λ (r : Result X NameFaultKind). r >>= λ y. (each f [] >>= λ ys. Ok (y ∷ ys))) (complete text x h)
    each_complete text (x ∷ y ∷ ys) (front, rest, is, e, more) =
        ap (λ (t : List ℕ). each f (cut_raw sep false t)) e
        ∙ ap (each f) (cut_at sep false front rest (whole front x is))
        ∙ ap (λ (r : Result X NameFaultKind). r >>= λ z. (each f (cut_raw sep false rest) >>= λ zs. Ok (z ∷ zs))) (complete front x is)
        ∙ ap (λ (r : Result (List X) NameFaultKind). r >>= λ zs. Ok (x ∷ zs)) (each_complete rest (y ∷ ys) more)

  cut_sound : ((text : List ℕ) (x : X) → f text ≡ Ok x → P text x) → (text : List ℕ) (xs : List X) → each f (cut_raw sep false text) ≡ Ok xs → AreJoined P sep text xs
  cut_sound sound text xs e =
      subst (λ (t : List ℕ). AreJoined P sep t xs) (cut_joins sep false text) (each_sound sound (cut_raw sep false text) xs (cut_some sep false text) e)

rdn_sound : (text : List ℕ) (r : Rdn) → rdn_of text ≡ Ok r → SpellsRdn text r
unfolding rdn_of
rdn_sound text r e = cut_sound ava_of SpellsAva 43 ava_sound text r e

rdn_complete : (text : List ℕ) (r : Rdn) → SpellsRdn text r → rdn_of text ≡ Ok r
unfolding rdn_of
rdn_complete text r h = each_complete ava_of SpellsAva 43 ava_complete (λ t p s. ava_whole 43 refl t p s) text r h

-- ---- a text with RDNs isn't all spaces

first_no_space : (text : List ℕ) (b : ℕ) (bs : List ℕ) → text ≡ b ∷ bs → Stops is_space text → list_all is_space text ≡ false
first_no_space text b bs e h = ap (list_all is_space) e ∙ ap (λ (t : Bool). t && list_all is_space bs) (subst (Stops is_space) e h)

type_no_space : (ty rest : List ℕ) → is_type ty ≡ true → list_all is_space (ty ++ rest) ≡ false
type_no_space [] rest h = absurd cc
type_no_space (b ∷ bs) rest h = first_no_space ((b ∷ bs) ++ rest) b (bs ++ rest) refl (type_first (b ∷ bs) rest h)

ava_no_spaces : (text : List ℕ) (p : Ava) → SpellsAva text p → list_all is_space text ≡ false
ava_no_spaces text p s =
    let rest = spaces s.between ++ (61 ∷ (spaces s.after ++ (s.body ++ spaces s.behind))) in
    ap (list_all is_space) s.text_is ∙ list_all-append is_space (spaces s.before) (p.0 ++ rest)
    ∙ ap (λ (t : Bool). t && list_all is_space (p.0 ++ rest)) (all_spaces s.before) ∙ type_no_space p.0 rest s.type_is

joined_no_spaces : {X : Type 0} (P : List ℕ → X → Type 0) (sep : ℕ) → ((text : List ℕ) (x : X) → P text x → list_all is_space text ≡ false) → (text : List ℕ) (xs : List X) → AreJoined P sep text xs → list_all is_space text ≡ false
joined_no_spaces P sep never text [] h = absurd h
joined_no_spaces P sep never text (x ∷ []) h = never text x h
joined_no_spaces P sep never text (x ∷ y ∷ ys) (front, rest, is, e, more) =
    ap (list_all is_space) e ∙ list_all-append is_space front (sep ∷ rest) ∙ ap (λ (t : Bool). t && list_all is_space (sep ∷ rest)) (never front x is)

rdn_no_spaces : (text : List ℕ) (r : Rdn) → SpellsRdn text r → list_all is_space text ≡ false
rdn_no_spaces text r h = joined_no_spaces SpellsAva 43 ava_no_spaces text r h

-- ---- names

abbrev none : Result Name NameFaultKind
none = Ok []

spelled : (text : List ℕ) (n : Name) → AreJoined SpellsRdn 44 text n → Spells text n
spelled text [] h = absurd h
spelled text (r ∷ rs) h = h

pub name_sound : (text : List ℕ) (n : Name) → name_of text ≡ Ok n → Spells text n
unfolding name_of
name_sound text n e = elim (chosen (list_all is_space text) none (each rdn_of (cut_raw 44 false text)) (Ok n) e) [
  | inl y ↦ subst (Spells text) (same_ok [] n y.1) (length text, spaces_are text y.0)
  | inr m ↦ spelled text n (cut_sound rdn_of SpellsRdn 44 rdn_sound text n m.1)
]

joined_read : (text : List ℕ) (r : Rdn) (rs : Name) → AreJoined SpellsRdn 44 text (r ∷ rs) → name_of text ≡ Ok (r ∷ rs)
unfolding name_of
joined_read text r rs h =
    ap (λ (t : Bool). cond t none (each rdn_of (cut_raw 44 false text))) (joined_no_spaces SpellsRdn 44 rdn_no_spaces text (r ∷ rs) h)
    ∙ each_complete rdn_of SpellsRdn 44 rdn_complete rdn_whole text (r ∷ rs) h

pub name_complete : (text : List ℕ) (n : Name) → Spells text n → name_of text ≡ Ok n
unfolding name_of
name_complete text [] (n, e) = ap name_of e ∙ ap (λ (t : Bool). cond t none (each rdn_of (cut_raw 44 false (spaces n)))) (all_spaces n)
name_complete text (r ∷ rs) h = joined_read text r rs h

pub one_name : (text : List ℕ) (n m : Name) → Spells text n → Spells text m → n ≡ m
one_name text n m h g = same_ok n m (sym (name_complete text n h) ∙ name_complete text m g)

-- ---- what a call answers

pub found : (text : List ℕ) (r : Result Name NameFault) → Gives (λ n. n) r (name_of text) → IfOk r (λ n. Spells text n)
found text (Ok n) h = name_sound text n h
found text (Err e) h = tt
