use Rattle.std.proofs.Common.{◌≡◌, ℕ, List, Option, None, Some, refl, ap, subst, ◌∙◌, Bor}
use Rattle.std.specs.Prelude.{unwrap_or}
use Rattle.std.specs.Option.{option_copied}
use Rattle.std.proofs.lemmas.Result.{IfOk-weaker}
use Rattle.filter_text.specs.Depth.{IsShallow}
use Rattle.filter_text.specs.Spells.{FilterText, view}
use Rattle.commands.specs.Asked.{any_entry}
use Rattle.commands.specs.inner.Refusals.{FilterFails}
use Rattle.commands.specs.declared.messages.CommandFault.{CommandFault}
use Rattle.commands.specs.declared.messages.CommandFault.TheVariants as faults
use Rattle.commands.proofs.Stopping.{of_faults}
use Rattle.commands.proofs.finding.filter_of.Goals as goal

copied : (text : Option (Bor (List ℕ))) (other : Bor (List ℕ)) → (unwrap_or text other).now ≡ unwrap_or (option_copied text) other.now
copied None other = refl
copied (Some x) other = refl

-- what is said of the text that is read, is said of the text that was asked for
as_asked : (text : Option (List ℕ)) (fault : CommandFault) → FilterFails (Some (unwrap_or text any_entry)) fault → FilterFails text fault
as_asked text (faults.Filter fault) h = record { none = h.none; deep = h.deep; front = h.front }
as_asked text faults.OutOfMemory h = h
as_asked text faults.Words h = h
as_asked text (faults.Line number fault) h = h
as_asked text (faults.LineCode number code) h = h
as_asked text (faults.Code by code) h = h
as_asked text (faults.Configuration line kind) h = h
as_asked text (faults.Data line why) h = h
as_asked text (faults.Content file line why) h = h
as_asked text (faults.CannotRead name) h = h
as_asked text (faults.CannotWrite name) h = h
as_asked text (faults.InUse name) h = h

pub returns-clause-found : goal.returns-clause-found
returns-clause-found c =
    IfOk-weaker c.filter_of_text.result _ _
    (λ filter found. subst (λ (b : List ℕ). FilterText (view filter) b × IsShallow b) (c.as_bytes.ensures.value ∙ ap (λ (t : Bor (List ℕ)). t.now) c.unwrap_or.ensures ∙ copied c.args.text _) found)
    c.filter_of_text.ensures.found

pub returns-clause-fault : goal.returns-clause-fault
returns-clause-fault c =
    of_faults c.filter_of_text.result
    (λ fault fails. as_asked (option_copied c.args.text) fault
    (subst (λ (b : List ℕ). FilterFails (Some b) fault) (c.as_bytes.ensures.value ∙ ap (λ (t : Bor (List ℕ)). t.now) c.unwrap_or.ensures ∙ copied c.args.text _) fails))
    c.filter_of_text.ensures.fault
