-- What an index that was read from its text shows.
use Rattle.std.specs.Prelude.{◌≡◌, ℕ, Bool, false, List, [], Option, IfSome, map, refl, slice_index_or, Result, Ok}
use Rattle.std.specs.Coded.{Coded, code_by, coded×, coded_list}
use Rattle.std.specs.FinSet as set
use Rattle.std.specs.List.{AllByRecursion, list_any}
use Rattle.std.specs.Str.{bytes_eq}
use Rattle.base.specs.Answers.{◌>>=◌}
use Rattle.schema.specs.contracts.conf.Conf as conf_contract
use Rattle.schema.specs.Conf.{Conf}
use Rattle.index_text.specs.KeySets as keys
use Rattle.index_text.specs.declared.slot_key.SlotKey.{SlotKey}
use Rattle.index_text.specs.Postings.{Shown, slot_in}
use Rattle.index_text.specs.IndexTexts as texts
use Rattle.stored_index.specs.Reading.{rows_in}
use Rattle.stored_index.specs.declared.fault.IndexFaultKind.{IndexFaultKind}

-- the configuration that it was read under, and the keys of each slot in order, each with its ranks
pub record Stored : Type 0 where
  pub conf : Conf
  pub slots : List (List keys.Row)

abbrev pub stored_code : Coded Stored
stored_code = code_by (Conf × List (List keys.Row)) (coded× conf_contract.the_row.coded (coded_list keys.rows_code)) (λ x. (x.conf, x.slots)) (λ p. record { conf = p.0; slots = p.1 }) (λ _. refl)

-- a key, and the set of its ranks
abbrev pub kept_row : texts.Row → keys.Row
kept_row row = (row.0, set.from_list row.1)

-- the rows of a slot
abbrev pub kept_rows : List texts.Row → List keys.Row
kept_rows rows = map kept_row rows

-- the rows of each slot
abbrev pub kept_slots : texts.Rows → List (List keys.Row)
kept_slots rows = map (λ s. kept_rows s.1) rows

-- these rows under a configuration
abbrev pub stored : Conf → texts.Rows → Stored
stored conf rows = record { conf = conf; slots = kept_slots rows }

-- what a text is read as
abbrev pub index_in : Conf → ℕ → List ℕ → List ℕ → Result Stored IndexFaultKind
index_in conf entries stamp text = rows_in conf entries stamp text >>= λ rows. Ok (stored conf rows)

-- the ranks of a key in a slot
abbrev pub ranks_at : Stored → ℕ → List ℕ → keys.Members
ranks_at x slot key = keys.members_at (slice_index_or x.slots slot []) key

abbrev pub shown_by : Stored → Shown
shown_by x = record { slot_of = slot_in x.conf.slots; members = ranks_at x }

-- ---- where some keys are asked for

-- whether an index text writes one of these keys as this word
abbrev pub is_written_as : List SlotKey → List ℕ → Bool
is_written_as keys word = list_any (λ k. bytes_eq word (texts.key_text k.key)) keys

-- a part of an index shows these keys as the whole does, and no key that is written otherwise than each of them
pub record ShowsKeys (asked : List SlotKey) (whole part : Stored) : Type 0 where
  pub conf : part.conf ≡ whole.conf
  pub keys : AllByRecursion (λ k. ranks_at part k.slot.0 k.key ≡ ranks_at whole k.slot.0 k.key) asked
  pub alone : (slot : ℕ) (key : List ℕ) → is_written_as asked (texts.key_text key) ≡ false → ranks_at part slot key ≡ set.empty

-- so it is of what was read
abbrev pub ReadsKeys : List SlotKey → Result Stored IndexFaultKind → Stored → Type 0
ReadsKeys asked said part = (whole : Stored) × (said ≡ Ok whole) × ShowsKeys asked whole part

-- this holds of the text that is left of a source, or of some text where its bytes aren't known
pub record HasText (left : Option (List ℕ)) (Says : List ℕ → Type 0) : Type 0 where
  pub text : List ℕ
  pub left_is : IfSome left (λ bytes. text ≡ bytes)
  pub says : Says text
