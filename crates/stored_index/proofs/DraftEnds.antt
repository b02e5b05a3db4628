-- Before the first line of an index text, and at its end.
use Rattle.std.proofs.Common.{◌≡◌, ℕ, ◌==◌, false, length, List, [], ◌∷◌, None, Result, Ok, Err, refl, sym, ap, ◌∙◌}
use Rattle.std.proofs.lemmas.List.{append-nil}
use Rattle.std.proofs.lemmas.List.Splits.{slice_split_none}
use Rattle.base.specs.Answers.{◌>>=◌}
use Rattle.base.specs.Ascii.{line_feed}
use Rattle.memchr.specs.Find.{is_byte}
use Rattle.schema.specs.Conf.{Conf}
use Rattle.schema.specs.declared.slots.Slot.{Slot}
use Rattle.stored_index.specs.Cuts.{parts}
use Rattle.stored_index.specs.FaultyLines.{key_behind}
use Rattle.stored_index.specs.Reading.{current_header, slots_of, lines_in}
use Rattle.stored_index.specs.inner.Drafts.{Lines, Reading, coming_at, header_coming, joined, Awaits}
use Rattle.stored_index.specs.declared.draft.Draft.{Draft}
use Rattle.stored_index.specs.declared.draft.Place.{Place}
use Rattle.stored_index.specs.declared.draft.Place.TheVariants.{Header, Slots, End}
use Rattle.stored_index.specs.declared.fault.IndexFaultKind.{IndexFaultKind}
use Rattle.stored_index.specs.declared.fault.IndexFaultKind.TheVariants as kinds
use Rattle.stored_index.proofs.DraftLemmas.{header_unended, slots_unended, bytes_come}

-- ---- nothing was read

alone : (r : Result (Unit {0}) IndexFaultKind) (s : Reading) → (r >>= λ _. s) ≡ joined [] [] None (r >>= λ _. s >>= λ rows. Ok ([], rows))
alone (Err fault) s = refl
alone (Ok u) (Err fault) = refl
alone (Ok u) (Ok rows) = refl

pub whole_comes : (conf : Conf) (entries : ℕ) (stamp : List ℕ) (due : List Slot) → due ≡ conf.slots → (line : List ℕ) (more : Lines)
    → lines_in conf entries stamp (line ∷ more) ≡ joined [] [] None (header_coming conf.types entries stamp None None due (line ∷ more))
whole_comes conf entries stamp due is line [] = refl
whole_comes conf entries stamp due is line (next ∷ more) =
    alone (current_header entries stamp line) (slots_of conf.types entries None conf.slots (next ∷ more))
    ∙ ap (λ (ds : List Slot). joined [] [] None (header_coming conf.types entries stamp None None ds (line ∷ next ∷ more))) (sym is)

-- ---- the text ends

module _ (W : List ℕ → Reading) (d : Draft) (held : List ℕ) (awaits : Awaits W d held []) where
  abbrev at : Place → List ℕ → Reading
  at p bytes = joined awaits.goes.done awaits.goes.rows d.before (coming_at p d (key_behind None awaits.goes.rows) (bytes ∷ []))

  at_end : (p : Place) → d.place ≡ p → W [] ≡ at p held
  at_end p is =
      awaits.same []
      ∙ ap (λ (text : List ℕ). awaits.w (parts line_feed text)) (append-nil held)
      ∙ ap awaits.w (slice_split_none (is_byte line_feed) held awaits.none)
      ∙ awaits.goes.goes_on held []
      ∙ ap (λ (q : Place). at q held) is

  pub ends_early : d.place ≡ Header → W [] ≡ Err kinds.Header
  ends_early is =
      at_end Header is
      ∙ header_unended d.given.conf.now.types d.given.entries d.given.stamp.now awaits.goes.done awaits.goes.rows d.before (key_behind None awaits.goes.rows) d.due.now held

  pub lacks_end : d.place ≡ Slots → W [] ≡ Err kinds.Form
  lacks_end is = at_end Slots is ∙ slots_unended d.given.conf.now.types d.given.entries awaits.goes.done awaits.goes.rows d.before (key_behind None awaits.goes.rows) d.due.now held

  pub goes_past : d.place ≡ End → (length held == 0) ≡ false → W [] ≡ Err kinds.Form
  goes_past is some = at_end End is ∙ bytes_come awaits.goes.done awaits.goes.rows d.before held some
