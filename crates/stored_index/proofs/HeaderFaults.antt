-- What is wrong with the first line.
use Rattle.std.proofs.Common.{◌≡◌, ℕ, ◌⊎◌, inl, inr, ◌==◌, ◌&&◌, Bool, true, false, cond, List, [], ◌∷◌, ◌++◌, length, decimal, None, Some, Result, Ok, Err, codes, refl, sym, ap, ◌∙◌, subst, arith}
use Rattle.std.proofs.lemmas.Bool.{eqb-true, and_parts, eq-eqb}
use Rattle.std.proofs.lemmas.Slice.Eq.{bytes_eq-Decides}
use Rattle.std.proofs.lemmas.List.Splits.{join_with_byte-slice_split}
use Rattle.std.specs.List.{list_all, AllByRecursion}
use Rattle.std.specs.Str.{bytes_eq}
use Rattle.base.specs.Ascii.{space, line_feed}
use Rattle.base.specs.Answers.{◌>>=◌}
use Rattle.hex.specs.Hex.{lower_digits, encode_lower}
use Rattle.hex.proofs.HexLemmas.{length-encode_with}
use Rattle.values.specs.declared.types.AttributeType.{AttributeType}
use Rattle.schema.specs.Conf.{Conf}
use Rattle.schema.specs.declared.slots.Slot.{Slot}
use Rattle.index_text.specs.IndexTexts.{header_line}
use Rattle.stored_index.specs.Cuts.{parts}
use Rattle.stored_index.specs.Words.{is_hex_byte, number_in}
use Rattle.stored_index.specs.Reading.{HeaderContent, is_stamp, has_header_form, header_with, header_of, header_in, is_current, if_current, current_header, slots_of, lines_in, rows_in}
use Rattle.stored_index.specs.FaultyLines.{Last, last_behind, IsLineFault, IsLaterFault, IsHeader, IsIndexFault}
use Rattle.stored_index.specs.Rows.{IsByte}
use Rattle.stored_index.specs.declared.fault.IndexFaultKind.{IndexFaultKind}
use Rattle.stored_index.specs.declared.fault.IndexFaultKind.TheVariants.{Header, Stale, Form, Order, Rank}
use Rattle.stored_index.proofs.KeyLaws.{bytes_write}
use Rattle.stored_index.proofs.KeyLemmas.{bytes_told}
use Rattle.stored_index.proofs.NumberLaws.{Lacks, test_ok, number_writes}
use Rattle.stored_index.proofs.RowFaults.{bind_err, is_err, test_err}
use Rattle.stored_index.proofs.RowLaws.{parts_at}
use Rattle.stored_index.proofs.SlotLemmas.{AllRows}
use Rattle.stored_index.proofs.TextFaults.{parts_lack, slots_fault}
use Rattle.stored_index.proofs.WholeLaws.{text_of, header_by, words_write, header_writes}
use Rattle.stored_index.proofs.WholeLemmas.{opened}
use Rattle.stored_index.specs.inner.Named.{AreNamed}
use Rattle.stored_index.proofs.WrittenLaws.{header_lacks, header_is_told}

abbrev Told : Type 0 → Type 0
Told X = Result X IndexFaultKind

-- ---- hexadecimal digits of 32 bytes

-- a stamp is the digits of 32 bytes
stamp_told : (word : List ℕ) → is_stamp word ≡ true → (s : List ℕ) × (word ≡ encode_lower s) × (length s ≡ 32) × AllByRecursion IsByte s
stamp_told word e =
    let both = and_parts (length word == 64) (list_all is_hex_byte word) e in
    let size : length word ≡ 64 = eqb-true (length word) 64 both.0 in
    let bs = bytes_told 32 word (omega (arith, size)) both.1 in
    let written = bytes_write word bs.0 bs.1 in
    (bs.0, written.0, omega (arith, size, ap length written.0, length-encode_with lower_digits bs.0), written.1)

-- ---- the first line

words_header : (words : List (List ℕ)) (h : HeaderContent) → header_of words ≡ Ok h → (s : List ℕ) × IsHeader h.entries s × (h.stamp ≡ encode_lower s)
words_header [] h e = absurd cc
words_header (name ∷ []) h e = absurd cc
words_header (name ∷ version ∷ []) h e = absurd cc
words_header (name ∷ version ∷ count ∷ []) h e = absurd cc
words_header (name ∷ version ∷ count ∷ stamp ∷ []) h e =
    let here = test_ok (has_header_form name version stamp) (header_with stamp (number_in count)) Header h e in
    let form = and_parts (bytes_eq name (codes "slapindex")) (bytes_eq version (codes "1") && is_stamp stamp) here.0 in
    let form1 = and_parts (bytes_eq version (codes "1")) (is_stamp stamp) form.1 in
    let both = header_by count stamp (number_in count) h refl here.1 in
    let s = stamp_told stamp form1.1 in
    (s.0, record { short = (number_writes count h.entries both.0).1; size = s.2; bytes = s.3 }, sym both.1 ∙ s.1)
words_header (name ∷ version ∷ count ∷ stamp ∷ more ∷ others) h e = absurd cc

header_told : (line : List ℕ) (h : HeaderContent) → header_in line ≡ Ok h → (s : List ℕ) × IsHeader h.entries s × (h.stamp ≡ encode_lower s) × (line ≡ header_line h.entries s)
unfolding header_in
header_told line h e =
    let s = words_header (parts space line) h e in
    (s.0, s.1, s.2, sym (join_with_byte-slice_split space line) ∙ words_write (parts space line) h e ∙ (λ i. codes "slapindex 1 " ++ decimal h.entries ++ space ∷ s.2 i))

words_fail : (words : List (List ℕ)) (k : IndexFaultKind) → header_of words ≡ Err k → k ≡ Header
words_fail [] k e = is_err Header k e
words_fail (name ∷ []) k e = is_err Header k e
words_fail (name ∷ version ∷ []) k e = is_err Header k e
words_fail (name ∷ version ∷ count ∷ []) k e = is_err Header k e
words_fail (name ∷ version ∷ count ∷ stamp ∷ []) k e =
    elim (test_err (has_header_form name version stamp) (header_with stamp (number_in count)) Header k e) [
      | inl f ↦ by (number_in count) f
      | inr is ↦ is
    ]
  where
    by : (r : Told ℕ) → header_with stamp r ≡ Err k → k ≡ Header
    by (Ok n) e = absurd cc
    by (Err f) e = is_err Header k e
words_fail (name ∷ version ∷ count ∷ stamp ∷ more ∷ others) k e = is_err Header k e

header_fails : (line : List ℕ) (k : IndexFaultKind) → header_in line ≡ Err k → k ≡ Header
unfolding header_in
header_fails line k e = words_fail (parts space line) k e

abbrev well : Told (Unit {0})
well = Ok tt

-- ---- later lines have other faults

module _ (types : List AttributeType) (entries : ℕ) where
  no_line_fault : (last : Last) (due : List Slot) (line more : List ℕ) (k : IndexFaultKind) → (k ≡ Header) ⊎ (k ≡ Stale) → IsLineFault types entries last due line more k → ⊥
  no_line_fault None due line more Header is fault = fault
  no_line_fault None due line more Stale is fault = fault
  no_line_fault None due line more Form is fault = elim is [ inl bad ↦ cc | inr bad ↦ cc ]
  no_line_fault None due line more Order is fault = elim is [ inl bad ↦ cc | inr bad ↦ cc ]
  no_line_fault None due line more Rank is fault = elim is [ inl bad ↦ cc | inr bad ↦ cc ]
  no_line_fault (Some last) due line more Header is fault = elim fault [ inl f ↦ f.1 | inr f ↦ f.1 ]
  no_line_fault (Some last) due line more Stale is fault = elim fault [ inl f ↦ f.1 | inr f ↦ f.1 ]
  no_line_fault (Some last) due line more Form is fault = elim is [ inl bad ↦ cc | inr bad ↦ cc ]
  no_line_fault (Some last) due line more Order is fault = elim is [ inl bad ↦ cc | inr bad ↦ cc ]
  no_line_fault (Some last) due line more Rank is fault = elim is [ inl bad ↦ cc | inr bad ↦ cc ]

  never : (last : Last) (due : List Slot) (text : List ℕ) (k : IndexFaultKind) → (k ≡ Header) ⊎ (k ≡ Stale) → IsLaterFault types entries last due text k → ⊥
  never last due text k is f = elim f.fault [
    | inl short ↦ elim is [
      | inl same ↦
          let bad : Header ≡ Form = sym same ∙ short.1 in
          cc
      | inr same ↦
          let bad : Stale ≡ Form = sym same ∙ short.1 in
          cc
    ]
    | inr at ↦ no_line_fault (last_behind last f.done) f.due at.0 at.1 k is at.4
  ]

-- ---- the whole

module _ (conf : Conf) (named : AreNamed conf.types) (entries : ℕ) (stamp : List ℕ) where
  abbrev others : List (List ℕ) → AllRows
  others lines = slots_of conf.types entries None conf.slots lines

  abbrev pub Later : List ℕ → IndexFaultKind → Type 0
  Later text k = (rest : List ℕ) × (text ≡ header_line entries stamp ++ line_feed ∷ rest) × IsLaterFault conf.types entries None conf.slots rest k

  abbrev pub StaleHeader : List ℕ → Type 0
  StaleHeader text = (n : ℕ) × (s : List ℕ) × (rest : List ℕ) × IsHeader n s × (text ≡ header_line n s ++ line_feed ∷ rest) × (n ≡ entries → s ≡ stamp → ⊥)

  stale_header : (line rest : List ℕ) (h : HeaderContent) → header_in line ≡ Ok h → is_current entries stamp h ≡ false → StaleHeader (line ++ line_feed ∷ rest)
  stale_header line rest h e other =
      let s = header_told line h e in (
        h.entries,
        s.0,
        rest,
        s.1,
        ap (λ (l : List ℕ). l ++ line_feed ∷ rest) s.3,
        λ count same.
            let bad : true ≡ false = sym (current (h.entries == entries) (bytes_eq h.stamp (encode_lower stamp)) (eq-eqb h.entries entries count) ((bytes_eq-Decides h.stamp (encode_lower stamp)).1 (s.2 ∙ ap encode_lower same))) ∙ other in
            cc,
      )
    where
      current : (a b : Bool) → a ≡ true → b ≡ true → (a && b) ≡ true
      current a b p q = (λ i. p i && b) ∙ q

  -- a header that can't be read, one that is stale, or a later line
  abbrev pub Fault : List ℕ → IndexFaultKind → Type 0
  Fault text k = (k ≡ Header) ⊎ (((k ≡ Stale) × StaleHeader text) ⊎ Later text k)

  lines_fault : (lines : List (List ℕ)) (k : IndexFaultKind) → AllByRecursion (Lacks line_feed) lines → lines_in conf entries stamp lines ≡ Err k → Fault (text_of lines) k
  lines_fault [] k lack e = inl (is_err Header k e)
  lines_fault (line ∷ []) k lack e = inl (is_err Header k e)
  lines_fault (line ∷ next ∷ more) k lack e =
      elim (bind_err (current_header entries stamp line) (λ _. others (next ∷ more)) k e) [
        | inl f ↦ elim (bind_err (header_in line) (if_current entries stamp) k f) [
          | inl g ↦ inl (header_fails line k g)
          | inr h ↦ inr (inl (stale_by (is_current entries stamp h.0) line (text_of (next ∷ more)) h.0 k h.1 refl h.2))
        ]
        | inr u ↦ inr (inr (
          text_of (next ∷ more),
          ap (λ (l : List ℕ). l ++ line_feed ∷ text_of (next ∷ more)) (header_writes entries stamp line u.0 u.1),
          slots_fault conf.types named entries None conf.slots (next ∷ more) k tt lack.1 u.2,
        ))
      ]
    where
      stale_by : (b : Bool) (line rest : List ℕ) (h : HeaderContent) (k : IndexFaultKind) → header_in line ≡ Ok h → is_current entries stamp h ≡ b → cond b well (Err Stale) ≡ Err k → (k ≡ Stale) × StaleHeader (line ++ line_feed ∷ rest)
      stale_by true line rest h k e is f = absurd cc
      stale_by false line rest h k e is f = (is_err Stale k f, stale_header line rest h e is)

  module _ (text : List ℕ) where
    pub fault_of_text : (k : IndexFaultKind) → rows_in conf entries stamp text ≡ Err k → Fault text k
    unfolding rows_in
    fault_of_text k e = subst (λ (t : List ℕ). Fault t k) (join_with_byte-slice_split line_feed text) (lines_fault (parts line_feed text) k (parts_lack line_feed text) e)

    later : (k : IndexFaultKind) → (k ≡ Header → ⊥) → (k ≡ Stale → ⊥) → rows_in conf entries stamp text ≡ Err k → Later text k
    later k one two e = elim (fault_of_text k e) [ inl is ↦ absurd (one is) | inr f ↦ elim f [ inl g ↦ absurd (two g.0) | inr g ↦ g ] ]

    -- a text with a header is another's, or at fault later
    has_header : (n : ℕ) (s rest : List ℕ) → IsHeader n s → text ≡ header_line n s ++ line_feed ∷ rest → rows_in conf entries stamp text ≡ Err Header → ⊥
    has_header n s rest header is e =
        let line = header_line n s in
        let cut = ap (parts line_feed) is ∙ parts_at line_feed line rest refl (header_lacks n header.short s header.size header.bytes) in
        let told = ap (λ (r : Told HeaderContent). r >>= if_current entries stamp) (header_is_told n header.short s header.size header.bytes) in
        elim (bind_err (current_header entries stamp line) (λ _. others (parts line_feed rest)) Header (sym (behind entries stamp line rest cut) ∙ e)) [
          | inl f ↦ not_header (is_current entries stamp (record { entries = n; stamp = encode_lower s })) (sym told ∙ f)
          | inr u ↦ never conf.types entries None conf.slots (text_of (parts line_feed rest)) Header (inl refl) (slots_fault conf.types named entries None conf.slots (parts line_feed rest) Header tt (parts_lack line_feed rest) u.2)
        ]
      where
        not_header : (b : Bool) → cond b well (Err Stale) ≡ Err Header → ⊥
        not_header true e = cc
        not_header false e = cc

        behind : (entries : ℕ) (stamp line rest : List ℕ) → parts line_feed text ≡ line ∷ parts line_feed rest → rows_in conf entries stamp text ≡ (current_header entries stamp line >>= λ _. slots_of conf.types entries None conf.slots (parts line_feed rest))
        behind entries stamp line rest cut = opened conf entries stamp text line rest cut

    pub text_fault : (k : IndexFaultKind) → rows_in conf entries stamp text ≡ Err k → IsIndexFault conf entries stamp text k
    text_fault Header e = λ n s rest header is. has_header n s rest header is e
    text_fault Stale e = elim (fault_of_text Stale e) [
      | inl bad ↦ absurd cc
      | inr f ↦ elim f [ inl g ↦ g.1 | inr g ↦ absurd (never conf.types entries None conf.slots g.0 Stale (inr refl) g.2) ]
    ]
    text_fault Form e = later Form (λ bad. cc) (λ bad. cc) e
    text_fault Order e = later Order (λ bad. cc) (λ bad. cc) e
    text_fault Rank e = later Rank (λ bad. cc) (λ bad. cc) e
