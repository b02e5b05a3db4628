-- What a record comes to at the path that its name leads to.
use Rattle.std.proofs.Common.{◌≡◌, ℕ, Bool, List, Option, Some, Result, Ok, Err, refl, sym, ap, ◌∙◌}
use Rattle.std.specs.Prelude.{IsErrAnd}
use Rattle.std.specs.FinMap as finite
use Rattle.std.proofs.lemmas.Result.{err_from_is_err_and}
use Rattle.ldif.specs.Attrs.{Attr}
use Rattle.ldif.specs.declared.record.Mod.{Mod}
use Rattle.ldif.specs.declared.record.Mode.{Mode}
use Rattle.base.specs.Answers.{◌>>=◌, Fails}
use Rattle.base.proofs.Bound.{same_ok}
use Rattle.paths.specs.Paths.{Path}
use Rattle.schema.specs.declared.code.Code.{Code}
use Rattle.schema.specs.declared.fault.PathFault.{PathFault}
use Rattle.schema.specs.declared.fault.PathFault.TheVariants as faults
use Rattle.schema.specs.Gives as schema_gives
use Rattle.schema.specs.Rdns.{TypedRdn}
use Rattle.schema.specs.Conf.{Conf, located, path_of, own_rdn, path_of_text, place_of_text}
use Rattle.entries.specs.declared.refusal.Refusal.{Refusal}
use Rattle.entries.specs.Gives.{Gives, of_path_fault}
use Rattle.tree.specs.Directories.{Entries}
use Rattle.tree.specs.Adds.{add_at, add}
use Rattle.tree.specs.Deletes.{delete_at, delete}
use Rattle.tree.specs.Modifies.{modify_there, modify}
use Rattle.tree.specs.Renames.{rename_at, rename}
use Rattle.tree.specs.Operations.{path_in}

-- a step that sees a part of what was found
through : {A B C F : Type 0} (x : Result A F) (part : A → B) (step : B → Result C F) → (x >>= λ a. step (part a)) ≡ ((x >>= λ a. Ok (part a)) >>= step)
through (Ok a) part step = refl
through (Err fault) part step = refl

pub add_from : (conf : Conf) (mode : Mode) (d : Entries) (dn : List ℕ) (lines : List Attr) → add conf mode d dn lines ≡ (place_of_text conf dn >>= λ l. add_at conf mode d l.0 l.1 lines)
unfolding add
add_from conf mode d dn lines = through (located conf dn) (λ rs. (path_of conf rs, own_rdn conf rs)) (λ l. add_at conf mode d l.0 l.1 lines)

pub delete_from : (conf : Conf) (d : Entries) (dn : List ℕ) → delete conf d dn ≡ (path_of_text conf dn >>= delete_at d)
unfolding delete
delete_from conf d dn = through (located conf dn) (path_of conf) (delete_at d)

pub modify_from : (conf : Conf) (d : Entries) (dn : List ℕ) (mods : List Mod) → modify conf d dn mods ≡ (path_of_text conf dn >>= λ p. modify_there conf p mods (finite.get d p))
unfolding modify
modify_from conf d dn mods = through (located conf dn) (path_of conf) (λ p. modify_there conf p mods (finite.get d p))

pub rename_from : (conf : Conf) (d : Entries) (dn newrdn : List ℕ) (delete_old : Bool) (superior : Option (List ℕ)) → rename conf d dn newrdn delete_old superior ≡ (path_of_text conf dn >>= λ p. rename_at conf d p newrdn delete_old superior)
unfolding rename
rename_from conf d dn newrdn delete_old superior = through (located conf dn) (path_of conf) (λ p. rename_at conf d p newrdn delete_old superior)

-- ---- the path that was found

pub path_is : (conf : Conf) (dn : List ℕ) (p : Path) → path_of_text conf dn ≡ Ok p → Some p ≡ path_in conf (located conf dn)
path_is conf dn p = by (located conf dn)
  where
    by : (x : Result (List TypedRdn) Code) → (x >>= λ rs. Ok (path_of conf rs)) ≡ Ok p → Some p ≡ path_in conf x
    by (Ok rs) e = ap (λ (q : Path). Some q) (sym (same_ok (path_of conf rs) p e))
    by (Err code) e = absurd cc

-- the place of these RDNs
abbrev place : Conf → List TypedRdn → Result (Path × TypedRdn) Code
place conf rs = Ok (path_of conf rs, own_rdn conf rs)

pub place_is : (conf : Conf) (dn : List ℕ) (p : Path) (r : TypedRdn) → place_of_text conf dn ≡ Ok (p, r) → Some p ≡ path_in conf (located conf dn)
place_is conf dn p r = by (located conf dn)
  where
    by : (x : Result (List TypedRdn) Code) → (x >>= place conf) ≡ Ok (p, r) → Some p ≡ path_in conf x
    by (Ok rs) e = ap (λ (l : Path × TypedRdn). Some l.0) (sym (same_ok (path_of conf rs, own_rdn conf rs) (p, r) e))
    by (Err code) e = absurd cc

-- ---- where none was found

pub refused : {X Y Z : Type 0} (seen : X → Y) (r : Result X Refusal) (fault : PathFault) (found : Result Z Code) (step : Z → Result Y Code) (said : Result Y Code)
    → IsErrAnd r (λ e. e ≡ of_path_fault fault) → Fails (schema_gives.fault_of fault) found → said ≡ (found >>= step) → Gives seen r said
refused seen r faults.OutOfMemory found step said h fails is = let p = err_from_is_err_and r h in rw (p.1, p.2) tt
refused {X} {Y} {Z} seen r (faults.Code code) found step said h fails is = let p = err_from_is_err_and r h in rw (p.1, p.2) (is ∙ ap (λ (x : Result Z Code). x >>= step) fails)
