-- A text that has a fault is refused with it.
use Rattle.std.proofs.Common.{◌≡◌, ℕ, ◌<◌, ◌^◌, inl, inr, ◌==◌, ◌&&◌, Bool, true, false, cond, not, List, [], ◌∷◌, ◌++◌, map, Option, Some, None, Result, Ok, Err, refl, sym, ap, ◌∙◌, subst, append_assoc}
use Rattle.std.proofs.lemmas.Bool.{eqb-true, eq-eqb, and_parts, false_from_ne_true}
use Rattle.std.proofs.lemmas.Slice.Eq.{bytes_eq-Decides}
use Rattle.std.specs.List.{flat_map, AllByRecursion}
use Rattle.std.specs.List.Sorted.{IsStrictlySortedBy}
use Rattle.std.specs.Ordering.{is_lt}
use Rattle.std.specs.Str.{bytes_eq}
use Rattle.std.specs.declared.cmp.Ordering.{Ordering}
use Rattle.std.specs.declared.cmp.Ordering.TheVariants.{Less}
use Rattle.base.specs.Ascii.{line_feed}
use Rattle.base.specs.Answers.{◌>>=◌}
use Rattle.base.proofs.Bound.{same_ok}
use Rattle.hex.specs.Hex.{encode_lower}
use Rattle.values.specs.declared.types.AttributeType.{AttributeType}
use Rattle.schema.specs.Conf.{Conf}
use Rattle.schema.specs.declared.slots.Slot.{Slot}
use Rattle.schema.specs.Slots.{slot_cmp}
use Rattle.index_text.specs.IndexTexts.{Rows, ended, header_line, slot_text, end_line, index_text}
use Rattle.stored_index.specs.Cuts.{parts}
use Rattle.stored_index.specs.Words.{bytes_in}
use Rattle.stored_index.specs.SlotLines.{is_passed}
use Rattle.stored_index.specs.Reading.{HeaderContent, is_current, if_current, slots_of, rows_in}
use Rattle.stored_index.specs.Rows as good
use Rattle.stored_index.specs.FaultyLines.{IsKnown, IsLaterFault, IsHeader, IsIndexFault}
use Rattle.stored_index.specs.declared.fault.IndexFaultKind.{IndexFaultKind}
use Rattle.stored_index.specs.declared.fault.IndexFaultKind.TheVariants.{Header, Stale, Form, Order, Rank}
use Rattle.stored_index.proofs.FaultsStand.{AreOpen, later_stands}
use Rattle.stored_index.proofs.HeaderFaults.{fault_of_text}
use Rattle.stored_index.proofs.KeyLaws.{bytes_read}
use Rattle.stored_index.proofs.OrderLaws.{all_weaker}
use Rattle.stored_index.proofs.RowLaws.{parts_at}
use Rattle.stored_index.proofs.SlotLemmas.{AllRows}
use Rattle.stored_index.proofs.WholeLaws.{text_writes}
use Rattle.stored_index.proofs.WholeLemmas.{opened}
use Rattle.stored_index.specs.inner.Named.{AreNamed}
use Rattle.stored_index.proofs.WrittenLaws.{header_lacks, header_is_told}

-- ---- slots in their order

none_passed : (slots : List Slot) → AllByRecursion (λ d. is_passed None d ≡ false) slots
none_passed [] = tt
none_passed (s ∷ slots) = (refl, none_passed slots)

module _ (types : List AttributeType) (named : AreNamed types) (entries : ℕ) (few : entries < 10 ^ 10) where
  open_by : (before : Option Slot) (done : Rows) (due : List Slot) → AllByRecursion (IsKnown types) (map good.slot_of done ++ due) → IsStrictlySortedBy slot_cmp (map good.slot_of done ++ due)
      → AllByRecursion (λ d. is_passed before d ≡ false) (map good.slot_of done ++ due) → AreOpen types named entries few before done due
  unfolding IsStrictlySortedBy
  open_by before [] [] known order above = tt
  open_by before [] (d ∷ due) known order above = above.0
  open_by before (s ∷ done) due known order above = (
    known.0,
    open_by (Some s.0) done due known.1 order.1
        (all_weaker (λ d. slot_cmp s.0 d ≡ Less) (λ d. is_passed (Some s.0) d ≡ false) (λ d less. ap (λ (o : Ordering). not (is_lt o)) less) (map good.slot_of done ++ due) order.0),
  )

-- ---- stamps

same_digits : (s t : List ℕ) → AllByRecursion good.IsByte s → AllByRecursion good.IsByte t → encode_lower s ≡ encode_lower t → s ≡ t
same_digits s t one two e = same_ok s t (sym (bytes_read s one) ∙ ap bytes_in e ∙ bytes_read t two)

-- ---- the whole

module _ (conf : Conf) (named : AreNamed conf.types) (known : AllByRecursion (IsKnown conf.types) conf.slots) (order : IsStrictlySortedBy slot_cmp conf.slots) (entries : ℕ) (stamp : List ℕ) (own : IsHeader entries stamp) (text : List ℕ) where
  abbrev refused : IndexFaultKind → AllRows
  refused k = Err k

  header_of_rows : (rows : Rows) → text ≡ index_text conf.types entries stamp rows → (rest : List ℕ) × (text ≡ header_line entries stamp ++ line_feed ∷ rest)
  unfolding index_text
  header_of_rows rows is =
      let rest = flat_map (slot_text conf.types) rows ++ ended end_line in
      (rest, is ∙ append_assoc (ended (header_line entries stamp)) (flat_map (slot_text conf.types) rows) (ended end_line) ∙ append_assoc (header_line entries stamp) (line_feed ∷ []) rest)

  header_stands : (r : AllRows) → rows_in conf entries stamp text ≡ r → IsIndexFault conf entries stamp text Header → r ≡ Err Header
  header_stands (Ok rows) e none =
      let at = header_of_rows rows (text_writes conf entries stamp text rows e).written in
      absurd (none entries stamp at.0 own at.1)
  header_stands (Err k) e none = elim (fault_of_text conf named entries stamp text k e) [
    | inl is ↦ ap refused is
    | inr f ↦ elim f [ inl g ↦ absurd (none g.1.0 g.1.1 g.1.2 g.1.3 g.1.4) | inr g ↦ absurd (none entries stamp g.0 own g.1) ]
  ]

  behind : (n : ℕ) (s rest : List ℕ) → IsHeader n s → text ≡ header_line n s ++ line_feed ∷ rest
      → rows_in conf entries stamp text ≡ (if_current entries stamp (record { entries = n; stamp = encode_lower s }) >>= λ _. slots_of conf.types entries None conf.slots (parts line_feed rest))
  behind n s rest header is =
      opened conf entries stamp text (header_line n s) rest (ap (parts line_feed) is ∙ parts_at line_feed (header_line n s) rest refl (header_lacks n header.short s header.size header.bytes))
      ∙ ap (λ (r : Result HeaderContent IndexFaultKind). (r >>= if_current entries stamp) >>= λ _. slots_of conf.types entries None conf.slots (parts line_feed rest)) (header_is_told n header.short s header.size header.bytes)

  abbrev well : Result (Unit {0}) IndexFaultKind
  well = Ok tt

  abbrev then_slots : List ℕ → Bool → AllRows
  then_slots rest b = cond b well (Err Stale) >>= λ _. slots_of conf.types entries None conf.slots (parts line_feed rest)

  stale_stands : IsIndexFault conf entries stamp text Stale → rows_in conf entries stamp text ≡ Err Stale
  stale_stands f =
      behind f.0 f.1 f.2 f.3 f.4
      ∙ ap (then_slots f.2) (false_from_ne_true (is_current entries stamp (record { entries = f.0; stamp = encode_lower f.1 })) (λ e.
      let both = and_parts (f.0 == entries) (bytes_eq (encode_lower f.1) (encode_lower stamp)) e in
      f.5 (eqb-true f.0 entries both.0) (same_digits f.1 stamp f.3.bytes own.bytes ((bytes_eq-Decides (encode_lower f.1) (encode_lower stamp)).0 both.1))))

  its_own : is_current entries stamp (record { entries = entries; stamp = encode_lower stamp }) ≡ true
  its_own = (λ i. eq-eqb entries entries refl i && bytes_eq (encode_lower stamp) (encode_lower stamp)) ∙ (bytes_eq-Decides (encode_lower stamp) (encode_lower stamp)).1 refl

  later_text_stands : (k : IndexFaultKind) (rest : List ℕ) → text ≡ header_line entries stamp ++ line_feed ∷ rest → IsLaterFault conf.types entries None conf.slots rest k → rows_in conf entries stamp text ≡ Err k
  later_text_stands k rest is f =
      let slots = map good.slot_of f.done ++ f.due in
      behind entries stamp rest own is
      ∙ ap (then_slots rest) its_own
      ∙ (λ i. slots_of conf.types entries None (f.slots_are i) (parts line_feed (f.text_is i)))
      ∙ later_stands conf.types named entries own.short f.done f.due f.rest k
      (open_by conf.types named entries own.short None f.done f.due (subst (AllByRecursion (IsKnown conf.types)) f.slots_are known) (subst (IsStrictlySortedBy slot_cmp) f.slots_are order) (none_passed slots)) f.good f.fault

  pub text_stands : (k : IndexFaultKind) → IsIndexFault conf entries stamp text k → rows_in conf entries stamp text ≡ Err k
  text_stands Header f = header_stands (rows_in conf entries stamp text) refl f
  text_stands Stale f = stale_stands f
  text_stands Form f = later_text_stands Form f.0 f.1 f.2
  text_stands Order f = later_text_stands Order f.0 f.1 f.2
  text_stands Rank f = later_text_stands Rank f.0 f.1 f.2
