-- What is found of a modify DN.
use Rattle.std.specs.Prelude.{◌≡◌, ℕ, Bool, List, Option, Some, Result, Ok, Err}
use Rattle.std.specs.FinMap as finite
use Rattle.ldif.specs.declared.record.Control.{Control}
use Rattle.ldif.specs.declared.record.Record.{Record}
use Rattle.ldif.specs.declared.record.Record.TheVariants as records
use Rattle.paths.specs.Paths.{Path}
use Rattle.schema.specs.Conf.{Conf}
use Rattle.schema.specs.GoodRdns.{IsRdn}
use Rattle.schema.specs.Rdns.{TypedRdn}
use Rattle.entries.specs.Entries.{EntryContent}
use Rattle.tree.specs.Directories.{Entries}
use Rattle.tree.specs.Renames.{rdn_in}
use Rattle.reasons.specs.declared.reason.NameReason.{NameReason}
use Rattle.reasons.specs.NameFlaws.{HasNameFlaw, SpellsRdn, place_checks, new_rdn_checks}
use Rattle.reasons.specs.Asked.{IsAt, ComesBelow}
use Rattle.reasons.specs.Reasons.{name_flaw_of}
use Rattle.reasons.specs.inner.Found.{FindsFirst}

-- a record that is a modify DN
pub record Renames (r : Record) (newrdn : List ℕ) (delete_old : Bool) (superior : Option (List ℕ)) : Type 0 where
  pub dn : List ℕ
  pub controls : List Control
  pub record_is : r ≡ records.ModRdn dn controls newrdn delete_old superior

-- the RDN that a text spells, or what that is refused for
abbrev pub IsNewRdn : Conf → List ℕ → Result TypedRdn NameReason → Type 0
IsNewRdn conf text (Ok rdn) = (rdn_in conf text ≡ Ok rdn) × SpellsRdn conf text rdn × IsRdn conf.types rdn
IsNewRdn conf text (Err why) = FindsFirst (HasNameFlaw conf text) (new_rdn_checks text) (Some (name_flaw_of why))

-- the path that an entry is to come below, or what the name of its new superior is refused for
abbrev pub IsUpper : Conf → Path → Option (List ℕ) → Result Path NameReason → Type 0
IsUpper conf path superior (Ok upper) = ComesBelow conf superior path upper
IsUpper conf path superior (Err why) = (text : List ℕ) × (superior ≡ Some text) × FindsFirst (HasNameFlaw conf text) (place_checks text) (Some (name_flaw_of why))

-- an entry is to move below a path, with this RDN
pub record Moves (conf : Conf) (d : Entries) (r : Record) (path : Path) (e : EntryContent) (rdn : TypedRdn) (delete_old : Bool) (upper : Path) : Type 0 where
  pub newrdn : List ℕ
  pub superior : Option (List ℕ)
  pub renames : Renames r newrdn delete_old superior
  pub at : IsAt conf r path
  pub found : finite.get d path ≡ Some e
  pub spelled : SpellsRdn conf newrdn rdn
  pub below : ComesBelow conf superior path upper
