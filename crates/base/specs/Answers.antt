-- What a call answers, against what a definition says. A definition says a value or a fault, as if memory never ran out. The call's
-- error is such a fault, or says that memory ran out.
use Rattle.std.specs.Prelude.{◌≡◌, List, [], ◌∷◌, Option, Some, None, Result, Ok, Err}

-- the next step of a definition, which the first fault ends
infixl 10 ◌>>=◌
abbrev pub ◌>>=◌ : {A B F : Type 0} → Result A F → (A → Result B F) → Result B F
(Ok x) >>= next = next x
(Err fault) >>= next = Err fault

-- what each of a list gives, in order, or the fault of the first that has one
unfoldable pub each : {X Y F : Type 0} → (X → Result Y F) → List X → Result (List Y) F
each read [] = Ok []
each read (x ∷ xs) = do
  y ← read x
  ys ← each read xs
  Ok (y ∷ ys)

-- one after the other, each from where the one before stopped; the first fault answers
unfoldable pub through : {S L F : Type 0} → (S → L → Result S F) → S → List L → Result S F
through step s [] = Ok s
through step s (l ∷ ls) = step s l >>= λ next. through step next ls

-- an error with this fault in it is what the definition says; one with none says that memory ran out
abbrev pub Fails : {Y F : Type 0} → Option F → Result Y F → Type 0
Fails None said = Unit {0}
Fails (Some fault) said = said ≡ Err fault

-- seen by view, what was answered is what the definition says, unless memory ran out
abbrev pub Gives : {X Y E F : Type 0} → (E → Option F) → (X → Y) → Result X E → Result Y F → Type 0
Gives fault_of view (Ok x) said = said ≡ Ok (view x)
Gives fault_of view (Err error) said = Fails (fault_of error) said
