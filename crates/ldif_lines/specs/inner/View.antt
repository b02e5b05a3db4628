-- Drafts as contracts see them.
use Rattle.std.specs.Prelude.{ℕ, Bool}
use Rattle.ldif_lines.specs.inner.Drafts.{Draft}
use Rattle.ldif_lines.specs.inner.States.{State}
use Rattle.ldif_lines.specs.declared.draft.RecordDraft.{RecordDraft}
use Rattle.ldif_lines.specs.declared.taken.Taken.{Taken}

abbrev pub draft_of : RecordDraft → Draft
draft_of d = record { numbers = record { first = d.record.line; all = d.record.numbers.items }; comment = d.in_comment; lines = d.record.lines }

-- the state after this many lines, where a carriage return may have come last
abbrev pub state_of : RecordDraft → Bool → ℕ → State
state_of d after_return count = record { draft = draft_of d; first = d.record.first; count = count; inside = d.in_line; after_return = after_return }

-- the state behind the bytes that were taken
abbrev pub state_behind : RecordDraft → Taken → State
state_behind d taken = state_of d taken.after_return taken.count
