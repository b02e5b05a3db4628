-- What is put at the end of a text, step by step.
use Rattle.std.proofs.Common.{◌≡◌, ℕ, ◌+◌, ◌<◌, List, [], ◌++◌, length, get_or, drop, Result, Ok, Err, refl, sym, ap, subst, ◌∙◌, append_assoc}
use Rattle.std.specs.Prelude.{OnOk, OnErr, if◌then◌else◌, is_ok}
use Rattle.std.specs.List.{flat_map}
use Rattle.std.proofs.lemmas.List.{append-nil, drop_more}
use Rattle.index_text.specs.Begun.{HasBegun}

pub then_put : {mid new : List ℕ} (old a b : List ℕ) → mid ≡ old ++ a → new ≡ mid ++ b → new ≡ old ++ (a ++ b)
then_put old a b first next = next ∙ ap (λ (xs : List ℕ). xs ++ b) first ∙ append_assoc old a b

pub put_as : {new a b : List ℕ} (old : List ℕ) → new ≡ old ++ a → a ≡ b → new ≡ old ++ b
put_as old put same = put ∙ ap (λ (xs : List ℕ). old ++ xs) same

-- ---- a beginning of what is put

-- nothing was put
pub none_begun : (text old new : List ℕ) → new ≡ old → HasBegun text old new
none_begun text old new same = record { begun = []; rest = text; parts = refl; after_is = same ∙ sym (append-nil old) }

-- a part was put, and a beginning of what comes behind it
pub begun_behind : (a b old mid new : List ℕ) → mid ≡ old ++ a → HasBegun b mid new → HasBegun (a ++ b) old new
begun_behind a b old mid new put h = record {
  begun = a ++ h.begun;
  rest = h.rest;
  parts = ap (λ (xs : List ℕ). a ++ xs) h.parts ∙ sym (append_assoc a h.begun h.rest);
  after_is = h.after_is ∙ ap (λ (xs : List ℕ). xs ++ h.begun) put ∙ append_assoc old a h.begun;
}

-- a part was put, and no more
pub part_begun : (a b old mid new : List ℕ) → mid ≡ old ++ a → new ≡ mid → HasBegun (a ++ b) old new
part_begun a b old mid new put same = begun_behind a b old mid new put (none_begun b mid new same)

-- a beginning of a first part is one of the whole
pub begun_more : (a b old new : List ℕ) → HasBegun a old new → HasBegun (a ++ b) old new
begun_more a b old new h = record {
  begun = h.begun;
  rest = h.rest ++ b;
  parts = ap (λ (xs : List ℕ). xs ++ b) h.parts ∙ append_assoc h.begun h.rest b;
  after_is = h.after_is;
}

pub begun_as : {a b : List ℕ} (old new : List ℕ) → a ≡ b → HasBegun a old new → HasBegun b old new
begun_as old new same h = subst (λ (text : List ℕ). HasBegun text old new) same h

-- ---- where the last call may fail

pub on_err_of : {T E P Q : Type 0} (r : Result T E) → OnErr r P → (P → Q) → OnErr r Q
on_err_of (Ok x) h f = tt
on_err_of (Err e) h f = f h

pub last_put : {T E P : Type 0} {new : List ℕ} (r : Result T E) (put same : List ℕ) → new ≡ (if is_ok r then put else same) → (new ≡ put → P) → OnOk r P
last_put (Ok x) put same is f = f is
last_put (Err e) put same is f = tt

pub last_kept : {T E P : Type 0} {new : List ℕ} (r : Result T E) (put same : List ℕ) → new ≡ (if is_ok r then put else same) → (new ≡ same → P) → OnErr r P
last_kept (Ok x) put same is f = tt
last_kept (Err e) put same is f = f is

-- ---- one of several

-- what was put of them, and what is still to be put
pub record ArePut {X : Type 0} (f : X → List ℕ) (xs rest : List X) (old now : List ℕ) : Type 0 where
  pub done : List ℕ
  pub now_is : now ≡ old ++ done
  pub total : done ++ flat_map f rest ≡ flat_map f xs

pub none_put : {X : Type 0} (f : X → List ℕ) (xs : List X) (old : List ℕ) → ArePut f xs xs old old
none_put f xs old = record { done = []; now_is = sym (append-nil old); total = refl }

module _ {X : Type 0} (f : X → List ℕ) (xs : List X) (i : ℕ) (d : X) (lt : i < length xs) (old now : List ℕ) (so_far : ArePut f xs (drop i xs) old now) where
  abbrev one : List ℕ
  one = f (get_or xs i d)

  abbrev rest : List ℕ
  rest = flat_map f (drop (i + 1) xs)

  total_is : so_far.done ++ (one ++ rest) ≡ flat_map f xs
  total_is = ap (λ (ys : List X). so_far.done ++ flat_map f ys) (sym (drop_more xs i d lt)) ∙ so_far.total

  pub one_put : (new : List ℕ) → new ≡ now ++ one → ArePut f xs (drop (i + 1) xs) old new
  one_put new put = record {
    done = so_far.done ++ one;
    now_is = put ∙ ap (λ (ys : List ℕ). ys ++ one) so_far.now_is ∙ append_assoc old so_far.done one;
    total = append_assoc so_far.done one rest ∙ total_is;
  }

  pub one_begun : (new : List ℕ) → HasBegun one now new → HasBegun (flat_map f xs) old new
  one_begun new h = begun_as old new total_is (begun_behind so_far.done (one ++ rest) old now new so_far.now_is (begun_more one rest now new h))

pub all_put : {X : Type 0} (f : X → List ℕ) (xs left : List X) (old now : List ℕ) → ArePut f xs left old now → left ≡ [] → now ≡ old ++ flat_map f xs
all_put {X} f xs left old now h none = h.now_is ∙ ap (λ (ys : List ℕ). old ++ ys) (sym (append-nil h.done) ∙ ap (λ (ys : List X). h.done ++ flat_map f ys) (sym none) ∙ h.total)
