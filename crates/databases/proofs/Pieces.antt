-- Writing piece by piece.
use Rattle.std.proofs.Common.{◌≡◌, ℕ, List, [], ◌++◌, refl, sym, ◌∙◌, ap, subst, append_assoc}
use Rattle.std.specs.Prelude.{Result, Ok, Err}
use Rattle.std.specs.Result.{IsErrAnd}
use Rattle.std.proofs.lemmas.List.{append-nil}
use Rattle.std.proofs.lemmas.Result.{err_from_is_err_and}
use Rattle.device.specs.Device.{Written, Took, Broke}
use Rattle.device.proofs.Taken.{took_none, took_more, broke_after, broke_before}
use Rattle.ldif.specs.declared.write.WriteFault.{WriteFault}
use Rattle.ldif.specs.declared.write.WriteFault.TheVariants as faults
use Rattle.ldif.specs.Written.{SoFar, Begun, Writes, WritesOn}

pub begins : (a : Written) (whole : List ℕ) → SoFar a a whole whole
begins a whole = record { front = []; parts = refl; written = took_none a }

module _ (a b c : Written) (whole rest : List ℕ) (h : SoFar a b whole rest) where
  -- of the next piece something is left
  pub goes_further : (xs more left : List ℕ) → rest ≡ xs ++ more → SoFar b c xs left → SoFar a c whole (left ++ more)
  goes_further xs more left is k = record {
    front = h.front ++ k.front;
    parts = h.parts ∙ ap (λ ys. h.front ++ ys) (is ∙ ap (λ ys. ys ++ more) k.parts ∙ append_assoc k.front left more) ∙ sym (append_assoc h.front k.front (left ++ more));
    written = took_more a b c h.front k.front (h.front ++ k.front) h.written k.written refl;
  }

  breaks : (xs more : List ℕ) → rest ≡ xs ++ more → Broke b c xs → Broke a c whole
  breaks xs more is k = subst (λ ys. Broke a c ys) (sym (h.parts ∙ ap (λ ys. h.front ++ ys) is)) (broke_after a b c h.front (xs ++ more) h.written (broke_before b c xs more k))

  wants : (xs more : List ℕ) → rest ≡ xs ++ more → Begun b c xs → Begun a c whole
  wants xs more is k = record {
    rest = k.rest ++ more;
    so_far = record {
      front = h.front ++ k.so_far.front;
      parts = h.parts ∙ ap (λ ys. h.front ++ ys) (is ∙ ap (λ ys. ys ++ more) k.so_far.parts ∙ append_assoc k.so_far.front k.rest more) ∙ sym (append_assoc h.front k.so_far.front (k.rest ++ more));
      written = took_more a b c h.front k.so_far.front (h.front ++ k.so_far.front) h.written k.so_far.written refl;
    };
  }

  -- what was left of the last piece by a fault is left of the whole
  pub stops : (e : WriteFault) (xs more : List ℕ) → rest ≡ xs ++ more → Writes (Err e) b c xs → Writes (Err e) a c whole
  stops faults.Device xs more is k = breaks xs more is k
  stops faults.OutOfMemory xs more is k = wants xs more is k

  -- the rest was begun
  pub goes_on : (left : List ℕ) → SoFar b c rest left → SoFar a c whole left
  goes_on left k = record {
    front = h.front ++ k.front;
    parts = h.parts ∙ ap (λ ys. h.front ++ ys) k.parts ∙ sym (append_assoc h.front k.front left);
    written = took_more a b c h.front k.front (h.front ++ k.front) h.written k.written refl;
  }

  -- the last piece is the rest
  pub ends : (answer : Result (Unit {0}) WriteFault) → Writes answer b c rest → Writes answer a c whole
  ends (Ok u) k = subst (λ ys. Took a c ys) (sym h.parts) (took_more a b c h.front rest (h.front ++ rest) h.written k refl)
  ends (Err e) k = stops e rest [] (sym (append-nil rest)) k

-- nothing was written yet
pub nothing_yet : (a : Written) (whole left : List ℕ) → left ≡ whole → SoFar a a whole left
nothing_yet a whole left is = subst (SoFar a a whole) (sym is) (begins a whole)

pub want_at_once : (a : Written) (whole : List ℕ) → Begun a a whole
want_at_once a whole = record { rest = whole; so_far = begins a whole }

-- memory ran out before anything was written
module _ (answer : Result (Unit {0}) WriteFault) (is : IsErrAnd answer (λ e. e ≡ faults.OutOfMemory)) (a : Written) (whole : List ℕ) where
  pub wants_memory : Writes answer a a whole
  wants_memory =
      let p = err_from_is_err_and answer is in
      rw (p.1, p.2) (want_at_once a whole)

  pub wants_memory_on : (left : List ℕ) → WritesOn answer a a whole left
  wants_memory_on left =
      let p = err_from_is_err_and answer is in
      rw (p.1, p.2) (want_at_once a whole)

-- what was put at the end, of what is to come there
pub put_on : (out longer xs rest more total : List ℕ) → longer ≡ out ++ xs → rest ≡ xs ++ more → out ++ rest ≡ total → longer ++ more ≡ total
put_on out longer xs rest more total is parts so_far =
    ap (λ (bs : List ℕ). bs ++ more) is ∙ append_assoc out xs more ∙ ap (λ (bs : List ℕ). out ++ bs) (sym parts) ∙ so_far
