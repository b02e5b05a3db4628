-- What a refused record makes of the edits.
use Rattle.std.proofs.Common.{◌≡◌, ℕ, ◌+◌, ◌*◌, refl, arith, ◌∙◌, ap}
use Rattle.std.specs.Prelude.{Result, Ok, Err, OnErr}
use Rattle.base.specs.Answers.{◌>>=◌, Fails}
use Rattle.ldif.specs.declared.record.Record.{Record}
use Rattle.ldif.specs.declared.record.Mode.{Mode}
use Rattle.schema.specs.Conf.{Conf}
use Rattle.schema.specs.declared.code.Code.{Code}
use Rattle.tree.specs.Changes.{Change, changed}
use Rattle.tree.specs.Directories.{Entries}
use Rattle.tree.specs.Operations.{apply, change_of}
use Rattle.entries.specs.Gives.{fault_of}
use Rattle.entries.specs.declared.refusal.Refusal.{Refusal}
use Rattle.entries.specs.declared.refusal.Refusal.TheVariants as refusals
use Rattle.databases.specs.RunEdits.{RisesUpTo, RiseBy}
use Rattle.directory.specs.Indexes.{edits_by, record_edits}

-- a refused record makes none
refused_by : (conf : Conf) (d : Entries) (r : Result Change Code) (code : Code) → (r >>= λ c. Ok (changed d c)) ≡ Err code → edits_by conf d r ≡ 0
refused_by conf d (Ok c) code e = cc
refused_by conf d (Err code') code e = refl

pub none_refused : (conf : Conf) (mode : Mode) (d : Entries) (r : Record) (code : Code) → apply conf mode d r ≡ Err code → record_edits conf mode d r ≡ 0
none_refused conf mode d r code e = refused_by conf d (change_of conf mode d r) code e

-- whichever way a record is refused
pub refused_edits : (conf : Conf) (mode : Mode) (d : Entries) (r : Record) (edits edits' : ℕ) (refusal : Refusal) → Fails (fault_of refusal) (apply conf mode d r)
    → ((code : Code) → refusal ≡ refusals.Code code → edits' ≡ edits) → RisesUpTo (2 * record_edits conf mode d r) edits edits' → RiseBy (Err refusal) (record_edits conf mode d r) edits edits'
refused_edits conf mode d r edits edits' (refusals.Code code) fails same rises = let none = none_refused conf mode d r code fails in let is = same code refl in omega (arith, none, is)
refused_edits conf mode d r edits edits' refusals.OutOfMemory fails same rises = rises
