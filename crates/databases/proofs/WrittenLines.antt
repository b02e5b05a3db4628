-- Lines that are put behind a text, which is handed on where it is long.
use Rattle.std.proofs.Common.{◌≡◌, ℕ, ◌+◌, ◌<◌, List, ◌∷◌, ◌++◌, length, get_or, drop, sym, ap, ◌∙◌, append_assoc}
use Rattle.std.specs.Prelude.{Err}
use Rattle.std.proofs.lemmas.List.{drop_more}
use Rattle.device.specs.Device.{Written}
use Rattle.ldif.specs.declared.write.WriteFault.{WriteFault}
use Rattle.schema.specs.declared.slots.Slot.{Slot}
use Rattle.schema.specs.Conf.{Conf}
use Rattle.tree.specs.Directories.{Entries}
use Rattle.index_text.specs.IndexTexts.{ended, end_line}
use Rattle.index_text.specs.IndexTexts as texts
use Rattle.ldif.specs.Written.{SoFar, Writes}
use Rattle.databases.specs.IndexTexts.{index_text, first_line, slot_lines, slots_lines}
use Rattle.databases.proofs.Pieces as pieces

module _ (a b c : Written) (whole text rest lines more : List ℕ) (h : SoFar a b whole (text ++ rest)) (cut : rest ≡ lines ++ more) where
  split : text ++ rest ≡ (text ++ lines) ++ more
  split = ap (λ (bs : List ℕ). text ++ bs) cut ∙ sym (append_assoc text lines more)

  -- some lines more
  pub further : (left : List ℕ) → SoFar b c (text ++ lines) left → SoFar a c whole (left ++ more)
  further left k = pieces.goes_further a b c whole (text ++ rest) h (text ++ lines) more left split k

  -- a fault in them
  pub stopped : (e : WriteFault) → Writes (Err e) b c (text ++ lines) → Writes (Err e) a c whole
  stopped e k = pieces.stops a b c whole (text ++ rest) h e (text ++ lines) more split k

-- a text that goes on behind what was to be written so far
pub longer : (a b : Written) (whole rest more all : List ℕ) → all ≡ whole ++ more → SoFar a b whole rest → SoFar a b all (rest ++ more)
longer a b whole rest more all is h = record {
  front = h.front;
  parts = is ∙ ap (λ (bs : List ℕ). bs ++ more) h.parts ∙ append_assoc h.front rest more;
  written = h.written;
}

-- a fault in the beginning of a text
pub stopped_early : (a b : Written) (whole more all : List ℕ) → all ≡ whole ++ more → (e : WriteFault) → Writes (Err e) a b whole → Writes (Err e) a b all
stopped_early a b whole more all is e k = pieces.stops a a b all all (pieces.begins a all) e whole more is k

-- ---- the lines of an index text

pub next_slot : (conf : Conf) (d : Entries) (slots : List Slot) (place : ℕ) (s : Slot) → place < length slots → s ≡ get_or slots place s → slots_lines conf d (drop place slots) ≡ slot_lines conf d s ++ slots_lines conf d (drop (place + 1) slots)
next_slot conf d slots place s within is = ap (slots_lines conf d) (drop_more slots place s within ∙ ap (λ (x : Slot). x ∷ drop (place + 1) slots) (sym is))

pub in_parts : (conf : Conf) (d : Entries) (start : List ℕ) → start ≡ first_line conf d → index_text conf d ≡ start ++ slots_lines conf d conf.slots ++ ended end_line
unfolding index_text texts.index_text
in_parts conf d start is = ap (λ (bs : List ℕ). bs ++ slots_lines conf d conf.slots ++ ended end_line) (sym is)
