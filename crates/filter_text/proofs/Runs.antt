-- Runs of bytes, and results of readers.
use Rattle.std.proofs.Common.{◌≡◌, ℕ, ◌+◌, Bool, true, false, cond, List, [], ◌∷◌, ◌++◌, Result, Ok, Err, refl, sym, ap, subst, ◌∙◌, append_assoc, length, arith, length-append, ◌≤◌, ◌<◌, ◌==◌}
use Rattle.std.proofs.lemmas.Bool.Decides.{nat_tests}
use Rattle.std.proofs.lemmas.List.{append-nil}
use Rattle.std.specs.Result.{MatchResult, IfErr, IfOk, IsErrAnd}
use Rattle.filter_text.specs.declared.fault.Fault.{Fault}
use Rattle.filter_text.specs.declared.fault.Fault.TheVariants.{OutOfMemory, Syntax}
use Rattle.filter_text.specs.inner.Begins.{IsMemory, Faulty, Begins}
use Rattle.base.specs.Ends.{is_space, without_front}
use Rattle.filter_text.specs.Runs.{Run, Stops, Closed, is_plain}

pub head_eq : {a b : ℕ} {xs ys : List ℕ} → a ∷ xs ≡ b ∷ ys → a ≡ b
head_eq e = cc

pub tail_eq : {a b : ℕ} {xs ys : List ℕ} → a ∷ xs ≡ b ∷ ys → xs ≡ ys
tail_eq e = cc

pub stops_at : (p : ℕ → Bool) (b : ℕ) (bytes rest : List ℕ) → Stops p bytes → bytes ≡ b ∷ rest → p b ≡ false
stops_at p b bytes rest s e = subst (Stops p) e s

pub both_ways : {b : Bool} → b ≡ true → b ≡ false → ⊥
both_ways t f = cc

-- a run that stops has one end
pub same_span : (p : ℕ → Bool) (a b x y : List ℕ) → Run p a → Run p b → Stops p x → Stops p y → a ++ x ≡ b ++ y → (a ≡ b) × (x ≡ y)
same_span p [] [] x y r q s u e = (refl, e)
same_span p [] (d ∷ b) x y r q s u e = absurd (both_ways q.0 (stops_at p d x (b ++ y) s e))
same_span p (c ∷ a) [] x y r q s u e = absurd (both_ways r.0 (stops_at p c y (a ++ x) u (sym e)))
same_span p (c ∷ a) (d ∷ b) x y r q s u e =
    let rest = same_span p a b x y r.1 q.1 s u (tail_eq e) in
    let here = head_eq e in
    (ap (λ z. z ∷ a) here ∙ ap (λ zs. d ∷ zs) rest.0, rest.1)

pub run_append : (p : ℕ → Bool) (a b : List ℕ) → Run p a → Run p b → Run p (a ++ b)
run_append p [] b r q = q
run_append p (c ∷ a) b r q = (r.0, run_append p a b r.1 q)

pub closed_space : (x : List ℕ) → Closed x → Stops is_space x
closed_space [] h = tt
closed_space (b ∷ x) h = ap is_space h

pub closed_plain : (x : List ℕ) → Closed x → Stops is_plain x
closed_plain [] h = tt
closed_plain (b ∷ x) h = ap is_plain h

pub exit_only : {T : Type 0} (P : T → Type 0) (r : Result T Fault) (e : Fault) → IsErrAnd r (λ y. y ≡ e) → IsMemory e → MatchResult r P IsMemory
exit_only P (Ok x) e h m = absurd h
exit_only P (Err y) e h m = subst IsMemory (sym h) m

pub exit_front : {T : Type 0} (P : List ℕ → Type 0) (bytes : List ℕ) (r : Result T Fault) (e : Fault) → IsErrAnd r (λ y. y ≡ e) → Faulty P bytes e → IfErr r (Faulty P bytes)
exit_front P bytes (Ok x) e h m = tt
exit_front P bytes (Err y) e h m = subst (Faulty P bytes) (sym h) m

-- a fault in a part is one in the whole
pub faulty_in : (P Q : List ℕ → Type 0) (pre bytes inner : List ℕ) → bytes ≡ pre ++ inner → ((t : List ℕ) → P t → (post : List ℕ) × Q (pre ++ (t ++ post))) → (e : Fault) → Faulty P inner e → Faulty Q bytes e
faulty_in P Q pre bytes inner e close OutOfMemory f = tt
faulty_in P Q pre bytes inner e close (Syntax left) f =
    let whole = close (f.done ++ f.more) f.viable in
    record {
      done = pre ++ f.done;
      rest = f.rest;
      all = e ∙ ap (λ xs. pre ++ xs) f.all ∙ sym (append_assoc pre f.done f.rest);
      from_end = f.from_end;
      more = f.more ++ whole.0;
      viable = subst Q (ap (λ xs. pre ++ xs) (append_assoc f.done f.more whole.0) ∙ sym (append_assoc pre f.done (f.more ++ whole.0))) whole.1;
    }

-- a fault in a text that other bytes follow
pub begins_before : (P : List ℕ → Type 0) (bytes text end : List ℕ) (left : ℕ) → bytes ≡ text ++ end → Begins P text left → Begins P bytes (left + length end)
begins_before P bytes text end left e f =
    record {
      done = f.done;
      rest = f.rest ++ end;
      all = e ∙ ap (λ xs. xs ++ end) f.all ∙ append_assoc f.done f.rest end;
      from_end = length-append f.rest end ∙ ap (λ n. n + length end) f.from_end;
      more = f.more;
      viable = f.viable;
    }

pub begins_also : (P Q : List ℕ → Type 0) (bytes : List ℕ) (left : ℕ) → ((t : List ℕ) → P t → Q t) → Begins P bytes left → Begins Q bytes left
begins_also P Q bytes left f b = record { done = b.done; rest = b.rest; all = b.all; from_end = b.from_end; more = b.more; viable = f (b.done ++ b.more) b.viable }

pub exit_err : {T : Type 0} (Q : Fault → Type 0) (r : Result T Fault) (e : Fault) → IsErrAnd r (λ y. y ≡ e) → Q e → IfErr r Q
exit_err Q (Ok x) e h m = tt
exit_err Q (Err y) e h m = subst Q (sym h) m

-- where the text must have been read to its end
pub only_done : {T : Type 0} (P Q : T → Type 0) (F : Fault → Type 0) (r : Result T Fault) → IfOk r P → IfErr r F → ((x : T) → P x → Q x) → ((e : Fault) → F e → ⊥) → MatchResult r Q IsMemory
only_done P Q F (Ok x) done left read more = read x done
only_done P Q F (Err e) done left read more = absurd (more e left)

pub only_read : {T : Type 0} (P : T → Type 0) (r : Result T Fault) (x : T) (rest : List ℕ)
    → IfOk r (λ y. (y ≡ x) × (rest ≡ [])) → IfErr r (λ e. (e ≡ Syntax (length rest)) × (0 < length rest)) → P x → rest ≡ [] → MatchResult r P IsMemory
only_read P (Ok y) x rest done left p none = subst P (sym done.0) p
only_read P (Err e) x rest done left p none = absurd (let long = left.1 in let end = ap (λ xs. length xs) none in omega (arith, long, end))

-- where something is left, what was read begins a text
pub front_left : {T : Type 0} (P : List ℕ → Type 0) (bytes : List ℕ) (r : Result T Fault) (done rest : List ℕ)
    → IfErr r (λ e. (e ≡ Syntax (length rest)) × (0 < length rest)) → bytes ≡ done ++ rest → P done → IfErr r (Faulty P bytes)
front_left P bytes (Ok x) done rest left e p = tt
front_left P bytes (Err y) done rest left e p =
    subst (Faulty P bytes) (sym left.0) record { done = done; rest = rest; all = e; from_end = refl; more = []; viable = subst P (sym (append-nil done)) p }

pub none_left : (xs : List ℕ) → length xs ≤ 0 → xs ≡ []
none_left [] h = refl
none_left (x ∷ xs) h = absurd (omega arith)

front_by : (b : ℕ) (bytes : List ℕ) (t : Bool) → is_space b ≡ t → (s : List ℕ) × Run is_space s × (bytes ≡ s ++ without_front bytes)
    → (s : List ℕ) × Run is_space s × (b ∷ bytes ≡ s ++ cond t (without_front bytes) (b ∷ bytes))
front_by b bytes true e h = (b ∷ h.0, (e, h.1), ap (λ xs. b ∷ xs) h.2)
front_by b bytes false e h = ([], tt, refl)

-- the spaces at the front
pub front_run : (bytes : List ℕ) → (s : List ℕ) × Run is_space s × (bytes ≡ s ++ without_front bytes)
front_run [] = ([], tt, refl)
front_run (b ∷ bytes) = front_by b bytes (is_space b) refl (front_run bytes)

stops_by : (b : ℕ) (bytes : List ℕ) (t : Bool) → is_space b ≡ t → Stops is_space (without_front bytes) → Stops is_space (cond t (without_front bytes) (b ∷ bytes))
stops_by b bytes true e h = h
stops_by b bytes false e h = e

pub front_stops : (bytes : List ℕ) → Stops is_space (without_front bytes)
front_stops [] = tt
front_stops (b ∷ bytes) = stops_by b bytes (is_space b) refl (front_stops bytes)

-- what a test for no bytes tells
pub some_left : (xs : List ℕ) {b : Bool} → b ≡ (length xs == 0) → b ≡ false → 0 < length xs
some_left [] e f = absurd (let clash : true ≡ false = sym e ∙ f in cc)
some_left (x ∷ xs) e f = omega arith

some_length : (n : ℕ) → 0 < n → (n == 0) ≡ false
some_length n h = grind (arith, nat_tests)

pub none_is_left : (xs : List ℕ) {b : Bool} → b ≡ (length xs == 0) → b ≡ true → xs ≡ []
none_is_left [] e t = refl
none_is_left (x ∷ xs) e t = absurd (both_ways (sym e ∙ t) (some_length (length (x ∷ xs)) (omega arith)))
