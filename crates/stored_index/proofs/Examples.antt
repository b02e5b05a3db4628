-- Worked examples, by computation: a directory without entries, one of five, and texts of it that were changed.
use Rattle.std.proofs.Common.{◌≡◌, ℕ, inl, inr, false, List, [], ◌∷◌, ◌++◌, Some, None, Result, Ok, Err, codes, refl, arith}
use Rattle.std.specs.Prelude.{⊤}
use Rattle.std.specs.List.{flat_map}
use Rattle.base.specs.Ascii.{line_feed}
use Rattle.base.specs.Answers.{each}
use Rattle.hex.specs.Hex.{encode_with}
use Rattle.values.specs.declared.types.AttributeType.{AttributeType}
use Rattle.values.specs.Types.{type_of, no_type}
use Rattle.schema.specs.Conf.{Conf}
use Rattle.schema.specs.declared.slots.IndexKind.{IndexKind}
use Rattle.schema.specs.declared.slots.IndexKind.TheVariants.{Equality, Presence, Substrings}
use Rattle.schema.specs.declared.slots.Slot.{Slot}
use Rattle.index_text.specs.IndexTexts.{Rows, ended, index_text}
use Rattle.stored_index.specs.KeyLines.{are_rising, ranks_in, row_in}
use Rattle.stored_index.specs.Reading.{header_in, rows_of, slots_of, rows_in}
use Rattle.stored_index.specs.SlotLines.{slot_in}
use Rattle.stored_index.specs.FaultyLines.{KeyComesAfter, SlotComesAfter, EndsKeys}
use Rattle.stored_index.specs.Words.{number_after, number_in, bytes_in, key_in}
use Rattle.stored_index.specs.declared.fault.IndexFaultKind.{IndexFaultKind}
use Rattle.stored_index.specs.declared.fault.IndexFaultKind.TheVariants as faults
use Rattle.stored_index.proofs.FaultWords.{slot_not_after, no_keys_end}

-- what a text is read by
unfoldable on_texts : ⊤
unfolding each encode_with type_of number_after number_in bytes_in key_in are_rising ranks_in row_in slot_in header_in rows_of slots_of rows_in index_text
on_texts = tt

-- ---- the configuration

abbrev named : List ℕ → List (List ℕ) → AttributeType
named oid names =
    record {
      oid = oid;
      names = names;
      superior = None;
      syntax = no_type.syntax;
      equality = None;
      is_ordered = false;
      has_substrings = false;
      single_value = false;
      is_fixed = false;
      is_operational = false;
    }

abbrev types : List AttributeType
types =
    named (codes "2.5.4.0") (codes "objectClass" ∷ []) ∷ named (codes "2.5.4.41") (codes "name" ∷ []) ∷ named (codes "2.5.4.3") (codes "cn" ∷ codes "commonName" ∷ [])
    ∷ named (codes "2.5.4.4") (codes "sn" ∷ codes "surname" ∷ []) ∷ named (codes "1.3.6.1.1.1.1.0") (codes "uidNumber" ∷ []) ∷ named (codes "2.5.4.13") (codes "description" ∷ []) ∷ []

abbrev slot : ℕ → IndexKind → Slot
slot t kind = record { type_id = t; kind = kind }

abbrev conf : Conf
conf =
    record {
      types = types;
      suffix = [];
      slots = slot 2 Equality ∷ slot 2 Presence ∷ slot 2 Substrings ∷ slot 3 Equality ∷ slot 4 Equality ∷ slot 5 Equality ∷ slot 5 Substrings ∷ [];
      classes = [];
    }

-- ---- texts

abbrev text_of : List (List ℕ) → List ℕ
text_of lines = flat_map ended lines

abbrev read : Rows → Result Rows IndexFaultKind
read rows = Ok rows

abbrev refused : IndexFaultKind → Result Rows IndexFaultKind
refused kind = Err kind

abbrev of_none : List ℕ
of_none = 227 ∷ 176 ∷ 196 ∷ 66 ∷ 152 ∷ 252 ∷ 28 ∷ 20 ∷ 154 ∷ 251 ∷ 244 ∷ 200 ∷ 153 ∷ 111 ∷ 185 ∷ 36 ∷ 39 ∷ 174 ∷ 65 ∷ 228 ∷ 100 ∷ 155 ∷ 147 ∷ 76 ∷ 164 ∷ 149 ∷ 153 ∷ 27 ∷ 120 ∷ 82 ∷ 184 ∷ 85 ∷ []

abbrev of_five : List ℕ
of_five = 134 ∷ 147 ∷ 213 ∷ 12 ∷ 20 ∷ 238 ∷ 37 ∷ 211 ∷ 99 ∷ 132 ∷ 25 ∷ 13 ∷ 242 ∷ 191 ∷ 151 ∷ 41 ∷ 177 ∷ 182 ∷ 69 ∷ 136 ∷ 218 ∷ 132 ∷ 134 ∷ 226 ∷ 74 ∷ 50 ∷ 146 ∷ 185 ∷ 78 ∷ 91 ∷ 187 ∷ 43 ∷ []

abbrev read_as : List (List ℕ) → Result Rows IndexFaultKind
read_as lines = rows_in conf 5 of_five (text_of lines)

abbrev first_line : List ℕ
first_line = codes "slapindex 1 5 8693d50c14ee25d36384190df2bf9729b1b64588da8486e24a3292b94e5bbb2b"

abbrev rows_of_none : Rows
rows_of_none = (slot 2 Equality, []) ∷ (slot 2 Presence, []) ∷ (slot 2 Substrings, []) ∷ (slot 3 Equality, []) ∷ (slot 4 Equality, []) ∷ (slot 5 Equality, []) ∷ (slot 5 Substrings, []) ∷ []

abbrev rows_of_five : Rows
rows_of_five = (slot 2 Equality, (97 ∷ 98 ∷ 97 ∷ [], 1 ∷ []) ∷ (97 ∷ 98 ∷ 98 ∷ 97 ∷ [], 2 ∷ []) ∷ (97 ∷ 98 ∷ 99 ∷ 32 ∷ 98 ∷ 99 ∷ 100 ∷ [], 3 ∷ []) ∷ (98 ∷ 111 ∷ 98 ∷ [], 4 ∷ []) ∷ []) ∷ (slot 2 Presence, ([], 1 ∷ 2 ∷ 3 ∷ 4 ∷ []) ∷ []) ∷ (slot 2 Substrings, (32 ∷ 98 ∷ 99 ∷ [], 3 ∷ []) ∷ (97 ∷ 98 ∷ 97 ∷ [], 1 ∷ []) ∷ (97 ∷ 98 ∷ 98 ∷ [], 2 ∷ []) ∷ (97 ∷ 98 ∷ 99 ∷ [], 3 ∷ []) ∷ (98 ∷ 98 ∷ 97 ∷ [], 2 ∷ []) ∷ (98 ∷ 99 ∷ 32 ∷ [], 3 ∷ []) ∷ (98 ∷ 99 ∷ 100 ∷ [], 3 ∷ []) ∷ (98 ∷ 111 ∷ 98 ∷ [], 4 ∷ []) ∷ (99 ∷ 32 ∷ 98 ∷ [], 3 ∷ []) ∷ []) ∷ (slot 3 Equality, []) ∷ (slot 4 Equality, (55 ∷ [], 4 ∷ []) ∷ []) ∷ (slot 5 Equality, []) ∷ (slot 5 Substrings, []) ∷ []

abbrev lines_of_five : List (List ℕ)
lines_of_five = codes "slot cn eq" ∷ codes "616261 1" ∷ codes "61626261 2" ∷ codes "61626320626364 3" ∷ codes "626f62 4" ∷ codes "slot cn pres" ∷ codes "- 1 2 3 4" ∷ codes "slot cn sub" ∷ codes "206263 3" ∷ codes "616261 1" ∷ codes "616262 2" ∷ codes "616263 3" ∷ codes "626261 2" ∷ codes "626320 3" ∷ codes "626364 3" ∷ codes "626f62 4" ∷ codes "632062 3" ∷ codes "slot sn eq" ∷ codes "slot uidNumber eq" ∷ codes "37 4" ∷ codes "slot description eq" ∷ codes "slot description sub" ∷ codes "end" ∷ []

-- ---- what is read

no_entries : rows_in conf 0 of_none (text_of (codes "slapindex 1 0 e3b0c44298fc1c149afbf4c8996fb92427ae41e4649b934ca495991b7852b855" ∷ codes "slot cn eq" ∷ codes "slot cn pres" ∷ codes "slot cn sub" ∷ codes "slot sn eq" ∷ codes "slot uidNumber eq" ∷ codes "slot description eq" ∷ codes "slot description sub" ∷ codes "end" ∷ [])) ≡ read rows_of_none
unfolding on_texts
no_entries = refl

five_entries : read_as (first_line ∷ lines_of_five) ≡ read rows_of_five
unfolding on_texts
five_entries = refl

-- ---- what isn't

no_text : rows_in conf 5 of_five [] ≡ refused faults.Header
unfolding on_texts
no_text = refl

no_line_end : rows_in conf 5 of_five first_line ≡ refused faults.Header
unfolding on_texts
no_line_end = refl

return_behind : rows_in conf 5 of_five (first_line ++ 13 ∷ line_feed ∷ []) ≡ refused faults.Header
unfolding on_texts
return_behind = refl

only_the_first_line : read_as (first_line ∷ []) ≡ refused faults.Form
unfolding on_texts
only_the_first_line = refl

six_entries : read_as (codes "slapindex 1 6 8693d50c14ee25d36384190df2bf9729b1b64588da8486e24a3292b94e5bbb2b" ∷ []) ≡ refused faults.Stale
unfolding on_texts
six_entries = refl

another_stamp : read_as (codes "slapindex 1 5 e3b0c44298fc1c149afbf4c8996fb92427ae41e4649b934ca495991b7852b855" ∷ []) ≡ refused faults.Stale
unfolding on_texts
another_stamp = refl

capital_digits_in_the_stamp : read_as (codes "slapindex 1 5 8693D50C14EE25D36384190DF2BF9729B1B64588DA8486E24A3292B94E5BBB2B" ∷ []) ≡ refused faults.Header
unfolding on_texts
capital_digits_in_the_stamp = refl

keys_exchanged : read_as (first_line ∷ codes "slot cn eq" ∷ codes "61626261 2" ∷ codes "616261 1" ∷ codes "61626320626364 3" ∷ codes "626f62 4" ∷ codes "slot cn pres" ∷ codes "- 1 2 3 4" ∷ codes "slot cn sub" ∷ codes "206263 3" ∷ codes "616261 1" ∷ codes "616262 2" ∷ codes "616263 3" ∷ codes "626261 2" ∷ codes "626320 3" ∷ codes "626364 3" ∷ codes "626f62 4" ∷ codes "632062 3" ∷ codes "slot sn eq" ∷ codes "slot uidNumber eq" ∷ codes "37 4" ∷ codes "slot description eq" ∷ codes "slot description sub" ∷ codes "end" ∷ []) ≡ refused faults.Order
unfolding on_texts
keys_exchanged = refl

a_rank_of_no_entry : read_as (first_line ∷ codes "slot cn eq" ∷ codes "616261 5" ∷ codes "61626261 2" ∷ codes "61626320626364 3" ∷ codes "626f62 4" ∷ codes "slot cn pres" ∷ codes "- 1 2 3 4" ∷ codes "slot cn sub" ∷ codes "206263 3" ∷ codes "616261 1" ∷ codes "616262 2" ∷ codes "616263 3" ∷ codes "626261 2" ∷ codes "626320 3" ∷ codes "626364 3" ∷ codes "626f62 4" ∷ codes "632062 3" ∷ codes "slot sn eq" ∷ codes "slot uidNumber eq" ∷ codes "37 4" ∷ codes "slot description eq" ∷ codes "slot description sub" ∷ codes "end" ∷ []) ≡ refused faults.Rank
unfolding on_texts
a_rank_of_no_entry = refl

a_leading_zero : read_as (first_line ∷ codes "slot cn eq" ∷ codes "616261 01" ∷ codes "61626261 2" ∷ codes "61626320626364 3" ∷ codes "626f62 4" ∷ codes "slot cn pres" ∷ codes "- 1 2 3 4" ∷ codes "slot cn sub" ∷ codes "206263 3" ∷ codes "616261 1" ∷ codes "616262 2" ∷ codes "616263 3" ∷ codes "626261 2" ∷ codes "626320 3" ∷ codes "626364 3" ∷ codes "626f62 4" ∷ codes "632062 3" ∷ codes "slot sn eq" ∷ codes "slot uidNumber eq" ∷ codes "37 4" ∷ codes "slot description eq" ∷ codes "slot description sub" ∷ codes "end" ∷ []) ≡ refused faults.Form
unfolding on_texts
a_leading_zero = refl

a_capital_digit : read_as (first_line ∷ codes "slot cn eq" ∷ codes "616261 1" ∷ codes "61626261 2" ∷ codes "61626320626364 3" ∷ codes "626F62 4" ∷ codes "slot cn pres" ∷ codes "- 1 2 3 4" ∷ codes "slot cn sub" ∷ codes "206263 3" ∷ codes "616261 1" ∷ codes "616262 2" ∷ codes "616263 3" ∷ codes "626261 2" ∷ codes "626320 3" ∷ codes "626364 3" ∷ codes "626f62 4" ∷ codes "632062 3" ∷ codes "slot sn eq" ∷ codes "slot uidNumber eq" ∷ codes "37 4" ∷ codes "slot description eq" ∷ codes "slot description sub" ∷ codes "end" ∷ []) ≡ refused faults.Form
unfolding on_texts
a_capital_digit = refl

a_line_behind_the_end : read_as (first_line ∷ codes "slot cn eq" ∷ codes "616261 1" ∷ codes "61626261 2" ∷ codes "61626320626364 3" ∷ codes "626f62 4" ∷ codes "slot cn pres" ∷ codes "- 1 2 3 4" ∷ codes "slot cn sub" ∷ codes "206263 3" ∷ codes "616261 1" ∷ codes "616262 2" ∷ codes "616263 3" ∷ codes "626261 2" ∷ codes "626320 3" ∷ codes "626364 3" ∷ codes "626f62 4" ∷ codes "632062 3" ∷ codes "slot sn eq" ∷ codes "slot uidNumber eq" ∷ codes "37 4" ∷ codes "slot description eq" ∷ codes "slot description sub" ∷ codes "end" ∷ codes "end" ∷ []) ≡ refused faults.Form
unfolding on_texts
a_line_behind_the_end = refl

a_slot_left_out : read_as (first_line ∷ codes "slot cn eq" ∷ codes "616261 1" ∷ codes "61626261 2" ∷ codes "61626320626364 3" ∷ codes "626f62 4" ∷ codes "slot cn sub" ∷ codes "206263 3" ∷ codes "616261 1" ∷ codes "616262 2" ∷ codes "616263 3" ∷ codes "626261 2" ∷ codes "626320 3" ∷ codes "626364 3" ∷ codes "626f62 4" ∷ codes "632062 3" ∷ codes "slot sn eq" ∷ codes "slot uidNumber eq" ∷ codes "37 4" ∷ codes "slot description eq" ∷ codes "slot description sub" ∷ codes "end" ∷ []) ≡ refused faults.Form
unfolding on_texts
a_slot_left_out = refl

a_rank_twice : read_as (first_line ∷ codes "slot cn eq" ∷ codes "616261 1 1" ∷ codes "61626261 2" ∷ codes "61626320626364 3" ∷ codes "626f62 4" ∷ codes "slot cn pres" ∷ codes "- 1 2 3 4" ∷ codes "slot cn sub" ∷ codes "206263 3" ∷ codes "616261 1" ∷ codes "616262 2" ∷ codes "616263 3" ∷ codes "626261 2" ∷ codes "626320 3" ∷ codes "626364 3" ∷ codes "626f62 4" ∷ codes "632062 3" ∷ codes "slot sn eq" ∷ codes "slot uidNumber eq" ∷ codes "37 4" ∷ codes "slot description eq" ∷ codes "slot description sub" ∷ codes "end" ∷ []) ≡ refused faults.Order
unfolding on_texts
a_rank_twice = refl

a_slot_twice : read_as (first_line ∷ codes "slot cn eq" ∷ codes "616261 1" ∷ codes "61626261 2" ∷ codes "61626320626364 3" ∷ codes "626f62 4" ∷ codes "slot cn eq" ∷ codes "slot cn pres" ∷ codes "- 1 2 3 4" ∷ codes "slot cn sub" ∷ codes "206263 3" ∷ codes "616261 1" ∷ codes "616262 2" ∷ codes "616263 3" ∷ codes "626261 2" ∷ codes "626320 3" ∷ codes "626364 3" ∷ codes "626f62 4" ∷ codes "632062 3" ∷ codes "slot sn eq" ∷ codes "slot uidNumber eq" ∷ codes "37 4" ∷ codes "slot description eq" ∷ codes "slot description sub" ∷ codes "end" ∷ []) ≡ refused faults.Order
unfolding on_texts
a_slot_twice = refl

another_name_of_a_type : read_as (first_line ∷ codes "slot commonName eq" ∷ codes "616261 1" ∷ codes "61626261 2" ∷ codes "61626320626364 3" ∷ codes "626f62 4" ∷ codes "slot cn pres" ∷ codes "- 1 2 3 4" ∷ codes "slot cn sub" ∷ codes "206263 3" ∷ codes "616261 1" ∷ codes "616262 2" ∷ codes "616263 3" ∷ codes "626261 2" ∷ codes "626320 3" ∷ codes "626364 3" ∷ codes "626f62 4" ∷ codes "632062 3" ∷ codes "slot sn eq" ∷ codes "slot uidNumber eq" ∷ codes "37 4" ∷ codes "slot description eq" ∷ codes "slot description sub" ∷ codes "end" ∷ []) ≡ refused faults.Form
unfolding on_texts
another_name_of_a_type = refl

its_oid : read_as (first_line ∷ codes "slot 2.5.4.3 eq" ∷ codes "616261 1" ∷ codes "61626261 2" ∷ codes "61626320626364 3" ∷ codes "626f62 4" ∷ codes "slot cn pres" ∷ codes "- 1 2 3 4" ∷ codes "slot cn sub" ∷ codes "206263 3" ∷ codes "616261 1" ∷ codes "616262 2" ∷ codes "616263 3" ∷ codes "626261 2" ∷ codes "626320 3" ∷ codes "626364 3" ∷ codes "626f62 4" ∷ codes "632062 3" ∷ codes "slot sn eq" ∷ codes "slot uidNumber eq" ∷ codes "37 4" ∷ codes "slot description eq" ∷ codes "slot description sub" ∷ codes "end" ∷ []) ≡ refused faults.Form
unfolding on_texts
its_oid = refl

another_case : read_as (first_line ∷ codes "slot CN eq" ∷ codes "616261 1" ∷ codes "61626261 2" ∷ codes "61626320626364 3" ∷ codes "626f62 4" ∷ codes "slot cn pres" ∷ codes "- 1 2 3 4" ∷ codes "slot cn sub" ∷ codes "206263 3" ∷ codes "616261 1" ∷ codes "616262 2" ∷ codes "616263 3" ∷ codes "626261 2" ∷ codes "626320 3" ∷ codes "626364 3" ∷ codes "626f62 4" ∷ codes "632062 3" ∷ codes "slot sn eq" ∷ codes "slot uidNumber eq" ∷ codes "37 4" ∷ codes "slot description eq" ∷ codes "slot description sub" ∷ codes "end" ∷ []) ≡ refused faults.Form
unfolding on_texts
another_case = refl

a_key_before_any_slot : read_as (first_line ∷ codes "616261 1" ∷ codes "slot cn eq" ∷ codes "616261 1" ∷ codes "61626261 2" ∷ codes "61626320626364 3" ∷ codes "626f62 4" ∷ codes "slot cn pres" ∷ codes "- 1 2 3 4" ∷ codes "slot cn sub" ∷ codes "206263 3" ∷ codes "616261 1" ∷ codes "616262 2" ∷ codes "616263 3" ∷ codes "626261 2" ∷ codes "626320 3" ∷ codes "626364 3" ∷ codes "626f62 4" ∷ codes "632062 3" ∷ codes "slot sn eq" ∷ codes "slot uidNumber eq" ∷ codes "37 4" ∷ codes "slot description eq" ∷ codes "slot description sub" ∷ codes "end" ∷ []) ≡ refused faults.Form
unfolding on_texts
a_key_before_any_slot = refl

a_key_without_ranks : read_as (first_line ∷ codes "slot cn eq" ∷ codes "616261" ∷ codes "61626261 2" ∷ codes "61626320626364 3" ∷ codes "626f62 4" ∷ codes "slot cn pres" ∷ codes "- 1 2 3 4" ∷ codes "slot cn sub" ∷ codes "206263 3" ∷ codes "616261 1" ∷ codes "616262 2" ∷ codes "616263 3" ∷ codes "626261 2" ∷ codes "626320 3" ∷ codes "626364 3" ∷ codes "626f62 4" ∷ codes "632062 3" ∷ codes "slot sn eq" ∷ codes "slot uidNumber eq" ∷ codes "37 4" ∷ codes "slot description eq" ∷ codes "slot description sub" ∷ codes "end" ∷ []) ≡ refused faults.Form
unfolding on_texts
a_key_without_ranks = refl

the_end_too_early : read_as (first_line ∷ codes "slot cn eq" ∷ codes "616261 1" ∷ codes "61626261 2" ∷ codes "61626320626364 3" ∷ codes "626f62 4" ∷ codes "end" ∷ []) ≡ refused faults.Form
unfolding on_texts
the_end_too_early = refl

-- ---- what is in order, and what ends keys

a_beginning_comes_first : KeyComesAfter (Some (codes "ab")) (codes "abc")
a_beginning_comes_first = refl

it_does_not_come_last : KeyComesAfter (Some (codes "abc")) (codes "ab") → ⊥
it_does_not_come_last e = cc

the_first_other_byte_decides : KeyComesAfter (Some (codes "abz")) (codes "b")
the_first_other_byte_decides = refl

no_key_after_itself : KeyComesAfter (Some (codes "ab")) (codes "ab") → ⊥
no_key_after_itself e = cc

the_first_key : KeyComesAfter None []
the_first_key = tt

presence_after_equality : SlotComesAfter (Some (slot 2 Equality)) (slot 2 Presence)
presence_after_equality = inr (refl, omega arith)

a_later_type : SlotComesAfter (Some (slot 1 Substrings)) (slot 2 Equality)
a_later_type = inl (omega arith)

an_earlier_kind : SlotComesAfter (Some (slot 2 Substrings)) (slot 2 Presence) → ⊥
an_earlier_kind after = slot_not_after (Some (slot 2 Substrings)) (slot 2 Presence) refl after

no_slot_after_itself : SlotComesAfter (Some (slot 2 Presence)) (slot 2 Presence) → ⊥
no_slot_after_itself after = slot_not_after (Some (slot 2 Presence)) (slot 2 Presence) refl after

a_slot_that_cannot_be_read : EndsKeys (codes "slot nothing of that kind")
a_slot_that_cannot_be_read = inl (codes "nothing of that kind", refl)

another_first_word : EndsKeys (codes "slots cn eq") → ⊥
another_first_word = no_keys_end (codes "slots cn eq") refl

no_space_behind : EndsKeys (codes "slot") → ⊥
no_space_behind = no_keys_end (codes "slot") refl

more_behind_the_end : EndsKeys (codes "end ") → ⊥
more_behind_the_end = no_keys_end (codes "end ") refl

a_key : EndsKeys (codes "616261 1") → ⊥
a_key = no_keys_end (codes "616261 1") refl
