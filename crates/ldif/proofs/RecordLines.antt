-- What each line of a record adds to what is read of the lines behind it.
use Rattle.std.proofs.Common.{◌≡◌, ℕ, ◌+◌, Bool, true, false, not, cond, ltb, List, [], ◌∷◌, length, replicate, Option, Some, None, Result, Ok, Err, codes, refl, ap, ◌∙◌, arith}
use Rattle.std.specs.List.{list_all, onto_first, position_or_len, prefix_len}
use Rattle.std.proofs.lemmas.Bool.{and_parts, le-ltb}
use Rattle.ldif.specs.declared.fault.LdifFaultKind.{LdifFaultKind}
use Rattle.ldif.specs.declared.fault.LdifFaultKind.TheVariants.{ColonMissing, OtherAttribute, PartMissing, ChangetypeMissing}
use Rattle.ldif.specs.Attrs.{Attr}
use Rattle.ldif.specs.declared.record.Control.{Control}
use Rattle.ldif.specs.declared.record.Mod.{Mod}
use Rattle.ldif.specs.declared.record.Op.{Op}
use Rattle.ldif.specs.declared.record.Record.{Record}
use Rattle.ldif.specs.declared.record.Record.TheVariants as records
use Rattle.base.specs.Answers.{◌>>=◌, each}
use Rattle.base.specs.Ends.{without_end}
use Rattle.ldif.specs.Line.{is_colon, value_at, value_of, value_line, same_name}
use Rattle.ldif.specs.Controls.{control_of}
use Rattle.ldif.specs.Reading.{new_superior_of, flag_of, delete_old_of, controls_of, is_dash, blocks, op_of, value_under, block, change, after_controls}
use Rattle.ldif.specs.Forms.{is_no_colon}
use Rattle.ldif.proofs.ChangeForms.{dash_found, spaces_no_colon}

abbrev pub Lines : Type 0
Lines = List (List ℕ)

-- ---- the parts of a renaming

abbrev parted : List ℕ → Lines → Result (List ℕ × Lines) LdifFaultKind
parted value ls = Ok (value, ls)

abbrev flagged : Bool → Lines → Result (Bool × Lines) LdifFaultKind
flagged flag ls = Ok (flag, ls)

abbrev controlled : List Control → Lines → Result (List Control × Lines) LdifFaultKind
controlled cs ls = Ok (cs, ls)

module _ (dn : List ℕ) (cs : List Control) where
  abbrev renamed : List ℕ → Bool → Option (List ℕ) → Record
  renamed newrdn flag superior = records.ModRdn dn cs newrdn flag superior

  -- behind `newrdn:`
  unfoldable pub old : List ℕ → Lines → Result Record LdifFaultKind
  old newrdn ls = delete_old_of ls >>= λ o. new_superior_of o.1 >>= λ s. Ok (renamed newrdn o.0 s)

  unfoldable pub old_tail : List ℕ → Attr → Lines → Result Record LdifFaultKind
  old_tail newrdn a more = cond (same_name a.name (codes "deleteoldrdn")) (flag_of a.value >>= λ f. new_superior_of more >>= λ s. Ok (renamed newrdn f s)) (Err PartMissing)

  flag_by : (newrdn : List ℕ) (more : Lines) (r : Result Bool LdifFaultKind)
      → ((r >>= λ f. flagged f more) >>= λ o. new_superior_of o.1 >>= λ s. Ok (renamed newrdn o.0 s)) ≡ (r >>= λ f. new_superior_of more >>= λ s. Ok (renamed newrdn f s))
  flag_by newrdn more (Ok f) = refl
  flag_by newrdn more (Err e) = refl

  pub old_by : (newrdn : List ℕ) (more : Lines) (r : Result Attr LdifFaultKind)
      → (((r >>= λ a. cond (same_name a.name (codes "deleteoldrdn")) (parted a.value more) (Err PartMissing)) >>= λ w. flag_of w.0 >>= λ f. flagged f w.1) >>= λ o. new_superior_of o.1 >>= λ s. Ok (renamed newrdn o.0 s))
      ≡ (r >>= λ a. old_tail newrdn a more)
  unfolding old_tail
  old_by newrdn more (Err e) = refl
  old_by newrdn more (Ok a) =
      elim (same_name a.name (codes "deleteoldrdn")) as (λ t. (((cond t (parted a.value more) (Err PartMissing)) >>= λ w. flag_of w.0 >>= λ f. flagged f w.1) >>= λ o. new_superior_of o.1 >>= λ s. Ok (renamed newrdn o.0 s))
      ≡ cond t (flag_of a.value >>= λ f. new_superior_of more >>= λ s. Ok (renamed newrdn f s)) (Err PartMissing)) [
        | true ↦ flag_by newrdn more (flag_of a.value)
        | false ↦ refl
      ]

  unfoldable pub new_tail : Attr → Lines → Result Record LdifFaultKind
  new_tail a more = cond (same_name a.name (codes "newrdn")) (old a.value more) (Err PartMissing)

  pub new_by : (more : Lines) (r : Result Attr LdifFaultKind)
      → ((r >>= λ a. cond (same_name a.name (codes "newrdn")) (parted a.value more) (Err PartMissing)) >>= λ n. delete_old_of n.1 >>= λ o. new_superior_of o.1 >>= λ s. Ok (renamed n.0 o.0 s)) ≡ (r >>= λ a. new_tail a more)
  unfolding new_tail old
  new_by more (Err e) = refl
  new_by more (Ok a) =
      elim (same_name a.name (codes "newrdn")) as (λ t. ((cond t (parted a.value more) (Err PartMissing)) >>= λ n. delete_old_of n.1 >>= λ o. new_superior_of o.1 >>= λ s. Ok (renamed n.0 o.0 s)) ≡ cond t (old a.value more) (Err PartMissing)) [
        | true ↦ refl
        | false ↦ refl
      ]

-- ---- the blocks of a modify

abbrev pub read_blocks : Lines → Result (List Mod) LdifFaultKind
read_blocks ls = each block (blocks ls)

-- where value lines of a block are due, the first of these pieces
unfoldable pub first_values : List ℕ → (List (List ℕ) → Mod) → List Lines → Result (List Mod) LdifFaultKind
first_values name made [] = Ok (made [] ∷ [])
first_values name made (b ∷ bs) = each (value_under name) b >>= λ vs. each block bs >>= λ ms. Ok (made vs ∷ ms)

abbrev pub read_values : List ℕ → (List (List ℕ) → Mod) → Lines → Result (List Mod) LdifFaultKind
read_values name made ls = first_values name made (blocks ls)

abbrev pub with_value : (List (List ℕ) → Mod) → List ℕ → List (List ℕ) → Mod
with_value made v vs = made (v ∷ vs)

pieces_by : (name : List ℕ) (made : List (List ℕ) → Mod) (l : List ℕ) (bs : List Lines) (r : Result (List ℕ) LdifFaultKind) → value_under name l ≡ r
    → first_values name made (onto_first l bs) ≡ (r >>= λ v. first_values name (with_value made v) bs)
unfolding first_values each
pieces_by name made l [] (Err f) e = ap (λ (r : Result (List ℕ) LdifFaultKind). (r >>= λ y. Ok (y ∷ [])) >>= λ vs. Ok (made vs ∷ [])) e
pieces_by name made l [] (Ok v) e = ap (λ (r : Result (List ℕ) LdifFaultKind). (r >>= λ y. Ok (y ∷ [])) >>= λ vs. Ok (made vs ∷ [])) e
pieces_by name made l (b ∷ bs) (Err f) e = ap (λ (r : Result (List ℕ) LdifFaultKind). (r >>= λ y. each (value_under name) b >>= λ ys. Ok (y ∷ ys)) >>= λ vs. each block bs >>= λ ms. Ok (made vs ∷ ms)) e
pieces_by name made l (b ∷ bs) (Ok v) e =
    ap (λ (r : Result (List ℕ) LdifFaultKind). (r >>= λ y. each (value_under name) b >>= λ ys. Ok (y ∷ ys)) >>= λ vs. each block bs >>= λ ms. Ok (made vs ∷ ms)) e
    ∙ (elim (each (value_under name) b) as (λ x. ((x >>= λ ys. Ok (v ∷ ys)) >>= λ vs. each block bs >>= λ ms. Ok (made vs ∷ ms)) ≡ (x >>= λ vs. each block bs >>= λ ms. Ok (made (v ∷ vs) ∷ ms))) [
      | Ok ys ↦ refl
      | Err f ↦ refl
    ])

under_by : (name : List ℕ) (K : List ℕ → Result (List Mod) LdifFaultKind) (r : Result Attr LdifFaultKind)
    → ((r >>= λ a. cond (same_name a.name name) (Ok a.value) (Err OtherAttribute)) >>= K) ≡ (r >>= λ a. cond (same_name a.name name) (K a.value) (Err OtherAttribute))
under_by name K (Err f) = refl
under_by name K (Ok a) = elim (same_name a.name name) as (λ t. ((cond t (Ok a.value) (Err OtherAttribute)) >>= K) ≡ cond t (K a.value) (Err OtherAttribute)) [
  | true ↦ refl
  | false ↦ refl
]

pub values_line : (name : List ℕ) (made : List (List ℕ) → Mod) (l : List ℕ) (more : Lines) → is_dash l ≡ false
    → read_values name made (l ∷ more) ≡ (value_line l >>= λ a. cond (same_name a.name name) (read_values name (with_value made a.value) more) (Err OtherAttribute))
unfolding blocks value_under
values_line name made l more e =
    ap (λ (t : Bool). first_values name made (cond t ([] ∷ blocks more) (onto_first l (blocks more)))) e
    ∙ pieces_by name made l (blocks more) (value_under name l) refl
    ∙ under_by name (λ v. read_values name (with_value made v) more) (value_line l)

pub values_dash : (name : List ℕ) (made : List (List ℕ) → Mod) (l : List ℕ) (more : Lines) → is_dash l ≡ true → read_values name made (l ∷ more) ≡ (read_blocks more >>= λ ms. Ok (made [] ∷ ms))
unfolding blocks first_values each
values_dash name made l more e = ap (λ (t : Bool). first_values name made (cond t ([] ∷ blocks more) (onto_first l (blocks more)))) e

abbrev pub made : Op → List ℕ → List (List ℕ) → Mod
made op attr values = record { op = op; attr = attr; values = values }

abbrev pub block_tail : Attr → Lines → Result (List Mod) LdifFaultKind
block_tail a more = op_of a.name >>= λ op. read_values (without_end a.value) (made op (without_end a.value)) more

head_by : (l : List ℕ) (bs : List Lines) (r : Result Attr LdifFaultKind) → value_line l ≡ r
    → each block (onto_first l bs) ≡ (r >>= λ a. op_of a.name >>= λ op. first_values (without_end a.value) (made op (without_end a.value)) bs)
unfolding each block first_values
head_by l [] (Err f) e = ap (λ (r : Result Attr LdifFaultKind). (r >>= λ a. op_of a.name >>= λ op. Ok (made op (without_end a.value) [])) >>= λ m. Ok (m ∷ [])) e
head_by l [] (Ok a) e =
    ap (λ (r : Result Attr LdifFaultKind). (r >>= λ a. op_of a.name >>= λ op. Ok (made op (without_end a.value) [])) >>= λ m. Ok (m ∷ [])) e
    ∙ (elim (op_of a.name) as (λ x. ((x >>= λ op. Ok (made op (without_end a.value) [])) >>= λ m. Ok (m ∷ [])) ≡ (x >>= λ op. Ok (made op (without_end a.value) [] ∷ []))) [
      | Ok op ↦ refl
      | Err f ↦ refl
    ])
head_by l (b ∷ bs) (Err f) e = ap (λ (r : Result Attr LdifFaultKind). (r >>= λ a. op_of a.name >>= λ op. each (value_under (without_end a.value)) b >>= λ vs. Ok (made op (without_end a.value) vs)) >>= λ m. each block bs >>= λ ms. Ok (m ∷ ms)) e
head_by l (b ∷ bs) (Ok a) e =
    let name = without_end a.value in
    ap (λ (r : Result Attr LdifFaultKind). (r >>= λ a. op_of a.name >>= λ op. each (value_under (without_end a.value)) b >>= λ vs. Ok (made op (without_end a.value) vs)) >>= λ m. each block bs >>= λ ms. Ok (m ∷ ms)) e
    ∙ (elim (op_of a.name) as (λ x. ((x >>= λ op. each (value_under name) b >>= λ vs. Ok (made op name vs)) >>= λ m. each block bs >>= λ ms. Ok (m ∷ ms)) ≡ (x >>= λ op. each (value_under name) b >>= λ vs. each block bs >>= λ ms. Ok (made op name vs ∷ ms))) [
      | Ok op ↦ elim (each (value_under name) b) as (λ x. ((x >>= λ vs. Ok (made op name vs)) >>= λ m. each block bs >>= λ ms. Ok (m ∷ ms)) ≡ (x >>= λ vs. each block bs >>= λ ms. Ok (made op name vs ∷ ms))) [
        | Ok vs ↦ refl
        | Err f ↦ refl
      ]
      | Err f ↦ refl
    ])

pub blocks_line : (l : List ℕ) (more : Lines) → is_dash l ≡ false → read_blocks (l ∷ more) ≡ (value_line l >>= λ a. block_tail a more)
unfolding blocks
blocks_line l more e = ap (λ (t : Bool). each block (cond t ([] ∷ blocks more) (onto_first l (blocks more)))) e ∙ head_by l (blocks more) (value_line l) refl

pub blocks_dash : (l : List ℕ) (more : Lines) → is_dash l ≡ true → read_blocks (l ∷ more) ≡ Err ColonMissing
unfolding blocks each block
blocks_dash l more e = ap (λ (t : Bool). each block (cond t ([] ∷ blocks more) (onto_first l (blocks more)))) e

-- a `-` is no value line
no_place : (xs : List ℕ) → list_all is_no_colon xs ≡ true → position_or_len is_colon xs ≡ length xs
no_place [] h = refl
no_place (b ∷ bs) h =
    let a = and_parts (is_no_colon b) (list_all is_no_colon bs) h in
    ap (λ (t : Bool). cond t (1 + prefix_len (λ x. not (is_colon x)) bs) 0) a.0 ∙ ap (λ (n : ℕ). 1 + n) (no_place bs a.1) ∙ omega arith

pub no_colon : (xs : List ℕ) → list_all is_no_colon xs ≡ true → value_of xs ≡ Err ColonMissing
unfolding value_of
no_colon xs h =
    ap (λ (n : ℕ). value_at xs (cond (ltb n (length xs)) (Some n) None)) (no_place xs h)
    ∙ ap (λ (t : Bool). value_at xs (cond t (Some (length xs)) None)) (le-ltb (length xs) (length xs) (omega arith))

pub dash_line : (l : List ℕ) → is_dash l ≡ true → value_line l ≡ Err ColonMissing
unfolding value_line
dash_line l e =
    let d = dash_found l e in
    ap value_line d.is ∙ no_colon (45 ∷ replicate d.spaces 32) (spaces_no_colon d.spaces)

-- ---- changes

module _ (add : Bool) (dn : List ℕ) where
  -- behind `dn:`, where these controls stand before
  unfoldable pub changes : (List Control → List Control) → Lines → Result Record LdifFaultKind
  changes f ls = controls_of ls >>= λ o. after_controls add dn (f o.0) o.1

  abbrev pub untyped : List Control → List ℕ → Lines → Result Record LdifFaultKind
  untyped cs l more = each value_line (l ∷ more) >>= λ attrs. Ok (records.Add dn cs attrs)

  abbrev pub typed : List Control → List ℕ → Attr → Lines → Result Record LdifFaultKind
  typed cs l a more = cond (same_name a.name (codes "changetype")) (change dn cs a.value more) (cond add (untyped cs l more) (Err ChangetypeMissing))

  abbrev pub tail : (List Control → List Control) → List ℕ → Attr → Lines → Result Record LdifFaultKind
  tail f l a more = cond (same_name a.name (codes "control")) (control_of a.value >>= λ c. changes (λ cs. f (c ∷ cs)) more) (typed (f []) l a more)

  control_by : (f : List Control → List Control) (more : Lines) (r : Result Control LdifFaultKind)
      → ((r >>= λ c. controls_of more >>= λ o. controlled (c ∷ o.0) o.1) >>= λ o. after_controls add dn (f o.0) o.1) ≡ (r >>= λ c. changes (λ cs. f (c ∷ cs)) more)
  unfolding changes
  control_by f more (Err e) = refl
  control_by f more (Ok c) = elim (controls_of more) as (λ x. ((x >>= λ o. controlled (c ∷ o.0) o.1) >>= λ o. after_controls add dn (f o.0) o.1) ≡ (x >>= λ o. after_controls add dn (f (c ∷ o.0)) o.1)) [
    | Ok o ↦ refl
    | Err e ↦ refl
  ]

  pub changes_by : (f : List Control → List Control) (l : List ℕ) (more : Lines) (r : Result Attr LdifFaultKind) → value_line l ≡ r → changes f (l ∷ more) ≡ (r >>= λ a. tail f l a more)
  unfolding changes controls_of after_controls
  changes_by f l more (Err e) k = ap (λ (r : Result Attr LdifFaultKind). (r >>= λ a. cond (same_name a.name (codes "control")) (control_of a.value >>= λ c. controls_of more >>= λ o. controlled (c ∷ o.0) o.1) (controlled [] (l ∷ more))) >>= λ o. after_controls add dn (f o.0) o.1) k
  changes_by f l more (Ok a) k =
      ap (λ (r : Result Attr LdifFaultKind). (r >>= λ a. cond (same_name a.name (codes "control")) (control_of a.value >>= λ c. controls_of more >>= λ o. controlled (c ∷ o.0) o.1) (controlled [] (l ∷ more))) >>= λ o. after_controls add dn (f o.0) o.1) k
      ∙ (elim (same_name a.name (codes "control")) as (λ t. ((cond t (control_of a.value >>= λ c. controls_of more >>= λ o. controlled (c ∷ o.0) o.1) (controlled [] (l ∷ more))) >>= λ o. after_controls add dn (f o.0) o.1)
      ≡ cond t (control_of a.value >>= λ c. changes (λ cs. f (c ∷ cs)) more) (typed (f []) l a more)) [
        | true ↦ control_by f more (control_of a.value)
        | false ↦ ap (λ (r : Result Attr LdifFaultKind). r >>= λ a. typed (f []) l a more) k
      ])
