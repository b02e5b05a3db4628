-- Worked examples of the text of an index under seven slots: of five entries, and of none.
use Rattle.std.proofs.Common.{◌≡◌, ℕ, Bool, true, false, List, [], ◌∷◌, ◌++◌, map, length, Option, Some, None, refl, sym, ap, ◌∙◌, arith}
use Rattle.std.specs.Prelude.{codes, ⊤}
use Rattle.std.specs.Fmt.{digits}
use Rattle.std.specs.declared.cmp.Ordering.{Ordering}
use Rattle.std.specs.List.{flat_map}
use Rattle.std.specs.Cmp.{IsTotalOrder}
use Rattle.std.specs.Cmp.Lexicographic.{nat_list_cmp_total}
use Rattle.std.specs.FinMap as finite
use Rattle.std.specs.FinMap.Entries.{put}
use Rattle.hex.specs.Hex.{encode_lower, encode_with}
use Rattle.matching.specs.Forms.{norm}
use Rattle.matching.specs.declared.family.Family.{Family}
use Rattle.matching.specs.declared.family.Family.TheVariants as families
use Rattle.matching.specs.declared.syntax.Syntax.{Syntax}
use Rattle.matching.specs.declared.syntax.Syntax.TheVariants as syntaxes
use Rattle.values.specs.declared.types.AttributeType.{AttributeType}
use Rattle.values.specs.declared.types.TypeSyntax.TheVariants as type_syntaxes
use Rattle.values.specs.declared.types.EqualityRule.TheVariants as rules
use Rattle.schema.specs.declared.slots.IndexKind.TheVariants.{Equality, Presence, Substrings}
use Rattle.schema.specs.declared.slots.Slot.{Slot}
use Rattle.schema.specs.TypeRules.{object_class}
use Rattle.schema.specs.Values.{norm_at}
use Rattle.schema.specs.Conf.{Conf}
use Rattle.entries.specs.Entries.{EntryContent}
use Rattle.tree.specs.Directories.{Entries}
use Rattle.index_keys.specs.EntryKeys.{entry_keys}
use Rattle.index_text.specs.IndexTexts.{Row, slot_text}
use Rattle.index_text.specs.IndexTexts as texts
use Rattle.databases.specs.IndexTexts.{ranks_with, slot_rows, contents, stamp, index_text}

-- ---- a map that is made of a list, entry by entry

module _ {K X : Type 0} {R : K → K → Ordering} (total : IsTotalOrder R) where
  abbrev puts : List (K × X) → List (K × X)
  puts [] = []
  puts (e ∷ es) = put R e.0 e.1 (puts es)

  nothing : (es : List (K × X)) → length es ≡ 0 → es ≡ []
  nothing [] h = refl
  nothing (e ∷ es) h = absurd (omega (arith, h))

  entries_are : (es : List (K × X)) → finite.entries (finite.from_entries {R = R} es) ≡ puts es
  entries_are [] = nothing (finite.entries (finite.empty {X = X} {R = R})) (sym (finite.len-entries (finite.empty {X = X} {R = R})) ∙ finite.len-empty R X)
  entries_are (e ∷ es) = finite.entries-insert total (finite.from_entries es) e.0 e.1 ∙ ap (put R e.0 e.1) (entries_are es)

-- ---- the configuration

abbrev rule : List ℕ → List ℕ → Option ℕ → Syntax → Family → Bool → AttributeType
rule oid name superior syntax family substrings = record { oid = oid; names = name ∷ []; superior = superior; syntax = type_syntaxes.Plain syntax; equality = Some (rules.Plain family); is_ordered = false; has_substrings = substrings; single_value = false; is_fixed = false; is_operational = false }

-- cn and sn stand below name
abbrev types : List AttributeType
types =
    object_class
    ∷ rule (codes "2.5.4.41") (codes "name") None syntaxes.Text families.Ignore true
    ∷ rule (codes "2.5.4.3") (codes "cn") (Some 1) syntaxes.Text families.Ignore true
    ∷ rule (codes "2.5.4.4") (codes "sn") (Some 1) syntaxes.Text families.Ignore true
    ∷ rule (codes "0.9.2342.19200300.100.1.25") (codes "dc") None syntaxes.Ascii families.Ignore true
    ∷ rule (codes "1.3.6.1.1.1.1.0") (codes "uidNumber") None syntaxes.Integer families.Integer false
    ∷ rule (codes "2.5.4.13") (codes "description") None syntaxes.Text families.Ignore true
    ∷ []

abbrev slots : List Slot
slots =
    record { type_id = 2; kind = Equality }
    ∷ record { type_id = 2; kind = Presence }
    ∷ record { type_id = 2; kind = Substrings }
    ∷ record { type_id = 3; kind = Equality }
    ∷ record { type_id = 5; kind = Equality }
    ∷ record { type_id = 6; kind = Equality }
    ∷ record { type_id = 6; kind = Substrings }
    ∷ []

abbrev conf : Conf
conf = record { types = types; suffix = ((4, codes "ex") ∷ []) ∷ []; slots = slots; classes = [] }

-- ---- the entries, in the order of the dump

abbrev person : List ℕ → EntryContent
person cn = record { rdn = (2, cn) ∷ []; attrs = (0, codes "person" ∷ []) ∷ (2, cn ∷ []) ∷ [] }

abbrev five : List EntryContent
five =
    record { rdn = (4, codes "ex") ∷ []; attrs = (0, codes "domain" ∷ []) ∷ (4, codes "ex" ∷ []) ∷ [] }
    ∷ person (codes "aba")
    ∷ person (codes "abba")
    ∷ person (codes "abc bcd")
    ∷ record { rdn = (2, codes "Bob") ∷ []; attrs = (0, codes "person" ∷ []) ∷ (5, codes "7" ∷ []) ∷ (2, codes "Bob" ∷ []) ∷ [] }
    ∷ []

-- ---- their rows, slot by slot

unfoldable on_keys : ⊤
unfolding norm norm_at
on_keys = tt

abbrev made : Slot → List Row
made s = puts nat_list_cmp_total (map (λ key. (key, ranks_with types s key 0 five)) (flat_map (λ e. entry_keys types e.attrs s.type_id s.kind) five))

rows_are : (s : Slot) → slot_rows types five s ≡ made s
rows_are s = entries_are nat_list_cmp_total (map (λ key. (key, ranks_with types s key 0 five)) (flat_map (λ e. entry_keys types e.attrs s.type_id s.kind) five))

cn_equality : slot_rows types five (record { type_id = 2; kind = Equality }) ≡ (codes "aba", 1 ∷ []) ∷ (codes "abba", 2 ∷ []) ∷ (codes "abc bcd", 3 ∷ []) ∷ (codes "bob", 4 ∷ []) ∷ []
unfolding on_keys
cn_equality = rows_are (record { type_id = 2; kind = Equality })

cn_presence : slot_rows types five (record { type_id = 2; kind = Presence }) ≡ ([], 1 ∷ 2 ∷ 3 ∷ 4 ∷ []) ∷ []
unfolding on_keys
cn_presence = rows_are (record { type_id = 2; kind = Presence })

cn_windows : List Row
cn_windows =
    (codes " bc", 3 ∷ []) ∷ (codes "aba", 1 ∷ []) ∷ (codes "abb", 2 ∷ []) ∷ (codes "abc", 3 ∷ []) ∷ (codes "bba", 2 ∷ [])
    ∷ (codes "bc ", 3 ∷ []) ∷ (codes "bcd", 3 ∷ []) ∷ (codes "bob", 4 ∷ []) ∷ (codes "c b", 3 ∷ []) ∷ []

cn_substrings : slot_rows types five (record { type_id = 2; kind = Substrings }) ≡ cn_windows
unfolding on_keys cn_windows
cn_substrings = rows_are (record { type_id = 2; kind = Substrings })

sn_equality : slot_rows types five (record { type_id = 3; kind = Equality }) ≡ []
unfolding on_keys
sn_equality = rows_are (record { type_id = 3; kind = Equality })

number_equality : slot_rows types five (record { type_id = 5; kind = Equality }) ≡ (codes "7", 4 ∷ []) ∷ []
unfolding on_keys
number_equality = rows_are (record { type_id = 5; kind = Equality })

description_equality : slot_rows types five (record { type_id = 6; kind = Equality }) ≡ []
unfolding on_keys
description_equality = rows_are (record { type_id = 6; kind = Equality })

description_substrings : slot_rows types five (record { type_id = 6; kind = Substrings }) ≡ []
unfolding on_keys
description_substrings = rows_are (record { type_id = 6; kind = Substrings })

-- ---- the text

-- a line with its end
abbrev ended : List ℕ → List ℕ
ended line = line ++ 10 ∷ []

lines : List ℕ
lines =
    ended (codes "slot cn eq")
    ++ ended (codes "616261 1") ++ ended (codes "61626261 2") ++ ended (codes "61626320626364 3") ++ ended (codes "626f62 4")
    ++ ended (codes "slot cn pres")
    ++ ended (codes "- 1 2 3 4")
    ++ ended (codes "slot cn sub")
    ++ ended (codes "206263 3") ++ ended (codes "616261 1") ++ ended (codes "616262 2") ++ ended (codes "616263 3") ++ ended (codes "626261 2")
    ++ ended (codes "626320 3") ++ ended (codes "626364 3") ++ ended (codes "626f62 4") ++ ended (codes "632062 3")
    ++ ended (codes "slot sn eq")
    ++ ended (codes "slot uidNumber eq")
    ++ ended (codes "37 4")
    ++ ended (codes "slot description eq")
    ++ ended (codes "slot description sub")

abbrev text_of : List Row → List Row → List Row → List Row → List Row → List Row → List Row → List ℕ
text_of a b c d e f g = flat_map (slot_text types) (
    (record { type_id = 2; kind = Equality }, a) ∷ (record { type_id = 2; kind = Presence }, b) ∷ (record { type_id = 2; kind = Substrings }, c)
    ∷ (record { type_id = 3; kind = Equality }, d) ∷ (record { type_id = 5; kind = Equality }, e)
    ∷ (record { type_id = 6; kind = Equality }, f) ∷ (record { type_id = 6; kind = Substrings }, g) ∷ [])

slots_are : flat_map (slot_text types) (map (λ s. (s, slot_rows types five s)) slots) ≡ lines
unfolding lines cn_windows digits encode_with
slots_are = λ i. text_of (cn_equality i) (cn_presence i) (cn_substrings i) (sn_equality i) (number_equality i) (description_equality i) (description_substrings i)

-- of each directory with these five entries, by its stamp
text_is : (d : Entries) → finite.len d ≡ 5 → contents d ≡ five → index_text conf d ≡ ended (codes "slapindex 1 5 " ++ encode_lower (stamp conf d)) ++ lines ++ ended (codes "end")
unfolding index_text texts.index_text digits
text_is d count are =
    (λ i. texts.index_text types (count i) (stamp conf d) (map (λ s. (s, slot_rows types (are i) s)) slots))
    ∙ ap (λ bs. ended (codes "slapindex 1 5 " ++ encode_lower (stamp conf d)) ++ bs ++ ended (codes "end")) slots_are

-- ---- no entry

no_rows : (s : Slot) → slot_rows types [] s ≡ []
no_rows s = entries_are nat_list_cmp_total []

no_lines : List ℕ
no_lines =
    ended (codes "slot cn eq") ++ ended (codes "slot cn pres") ++ ended (codes "slot cn sub") ++ ended (codes "slot sn eq")
    ++ ended (codes "slot uidNumber eq") ++ ended (codes "slot description eq") ++ ended (codes "slot description sub")

no_slots_are : flat_map (slot_text types) (map (λ s. (s, slot_rows types [] s)) slots) ≡ no_lines
unfolding no_lines
no_slots_are =
    λ i. text_of (no_rows (record { type_id = 2; kind = Equality }) i) (no_rows (record { type_id = 2; kind = Presence }) i) (no_rows (record { type_id = 2; kind = Substrings }) i)
    (no_rows (record { type_id = 3; kind = Equality }) i) (no_rows (record { type_id = 5; kind = Equality }) i)
    (no_rows (record { type_id = 6; kind = Equality }) i) (no_rows (record { type_id = 6; kind = Substrings }) i)

text_of_none : (d : Entries) → finite.len d ≡ 0 → contents d ≡ [] → index_text conf d ≡ ended (codes "slapindex 1 0 " ++ encode_lower (stamp conf d)) ++ no_lines ++ ended (codes "end")
unfolding index_text texts.index_text digits
text_of_none d count are =
    (λ i. texts.index_text types (count i) (stamp conf d) (map (λ s. (s, slot_rows types (are i) s)) slots))
    ∙ ap (λ bs. ended (codes "slapindex 1 0 " ++ encode_lower (stamp conf d)) ++ bs ++ ended (codes "end")) no_slots_are
