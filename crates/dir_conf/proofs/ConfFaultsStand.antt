-- A configuration is refused exactly for its first fault.
use Rattle.std.proofs.Common.{◌≡◌, ℕ, false, List, Option, Some, None, Result, Ok, Err, ◌⊎◌, inl, inr, refl, sym, ap, ◌∙◌}
use Rattle.std.specs.Prelude.{is_some}
use Rattle.base.specs.Answers.{◌>>=◌}
use Rattle.definitions.specs.declared.lines.Line.{Line}
use Rattle.definitions.specs.Lines.{lines_of}
use Rattle.dir_conf.specs.declared.conf_fault.ConfFaultKind.{ConfFaultKind}
use Rattle.dir_conf.specs.declared.conf_fault.ConfFaultKind.TheVariants.{Suffix}
use Rattle.schema.specs.Conf.{Conf}
use Rattle.schema.specs.Rdns.{TypedRdn}
use Rattle.dir_conf.specs.Configurations.{At, Defined, built_in, definition_line, defined_by, Found, none_found, later_line, found_in, rules_of, conf_of}
use Rattle.dir_conf.specs.FaultyLines.{IsDefinitionFaultAt, IsLaterFaultAt, IsWithoutSuffix, IsConfFault}
use Rattle.dir_conf.proofs.FirstStops.{same_err, bind_err, stops, fails}
use Rattle.dir_conf.proofs.TypeFlaws.{TypesRead}
use Rattle.dir_conf.proofs.ClassFlaws.{ClassesRead}
use Rattle.dir_conf.proofs.DefinitionFaults.{line_faulty, line_fails}
use Rattle.dir_conf.proofs.LaterFaults.{later_faulty, later_fails, sees, none_at_fault, all_found}

abbrev Refused : Type 0
Refused = Result Conf At

abbrev refused : ℕ → ConfFaultKind → Refused
refused line kind = Err (line, kind)

module _ (types_read : TypesRead) (classes_read : ClassesRead) (lines : List Line) where
  abbrev behind : Defined → Result Found At → Refused
  behind s r = r >>= λ found. rules_of s found.slots found.suffix

  abbrev whole : Result Defined At → Refused
  whole r = r >>= λ s. behind s (found_in s.types none_found lines)

  defined_badly : (line : ℕ) (kind : ConfFaultKind) → defined_by built_in lines ≡ Err (line, kind) → IsDefinitionFaultAt lines line kind
  defined_badly line kind e =
      let h = stops definition_line lines built_in (line, kind) e in
      let k = line_faulty types_read classes_read h.known h.bad line kind h.here in
      record { above = h.before; bad = h.bad; after = h.after; is = h.is; known = h.known; known_is = h.known_is; number_is = k.0; here = k.1 }

  later_badly : (s : Defined) (line : ℕ) (kind : ConfFaultKind) → found_in s.types none_found lines ≡ Err (line, kind) → IsLaterFaultAt s.types lines line kind
  later_badly s line kind e =
      let h = stops (later_line s.types) lines none_found (line, kind) e in
      let k = later_faulty s.types h.known h.bad h.before (sees s.types h.before h.known h.known_is) line kind h.here in
      record { above = h.before; bad = h.bad; after = h.after; is = h.is; none_above = none_at_fault s.types h.before h.known h.known_is; number_is = k.0; here = k.1 }

  no_suffix : (s : Defined) (f : Found) → found_in s.types none_found lines ≡ Ok f → (line : ℕ) (kind : ConfFaultKind) (o : Option (List TypedRdn)) → f.suffix ≡ o → rules_of s f.slots o ≡ Err (line, kind) → IsWithoutSuffix s.types lines line kind
  no_suffix s f found line kind (Some suffix) is e = absurd cc
  no_suffix s f found line kind None is e =
      let same = same_err {A = Conf} (0, Suffix) (line, kind) e in
      record {
        none = none_at_fault s.types lines f found;
        no_suffix = sym (sees s.types lines f found) ∙ ap (λ (o : Option (List TypedRdn)). is_some o) is;
        line_is = sym (ap (λ (p : At). p.0) same);
        kind_is = sym (ap (λ (p : At). p.1) same);
      }

  faulty : (line : ℕ) (kind : ConfFaultKind) → whole (defined_by built_in lines) ≡ Err (line, kind) → IsDefinitionFaultAt lines line kind ⊎ ((s : Defined) × (defined_by built_in lines ≡ Ok s) × (IsLaterFaultAt s.types lines line kind ⊎ IsWithoutSuffix s.types lines line kind))
  faulty line kind e = elim (bind_err (defined_by built_in lines) (λ s. behind s (found_in s.types none_found lines)) (line, kind) e) [
    | inl first ↦ inl (defined_badly line kind first)
    | inr on ↦ inr (
      on.0,
      on.1,
      elim (bind_err (found_in on.0.types none_found lines) (λ found. rules_of on.0 found.slots found.suffix) (line, kind) on.2) [
        | inl second ↦ inl (later_badly on.0 line kind second)
        | inr last ↦ inr (no_suffix on.0 last.0 last.1 line kind last.0.suffix refl last.2)
      ],
    )
  ]

  -- ---- and it fails for it

  fails_there : (line : ℕ) (kind : ConfFaultKind) → IsDefinitionFaultAt lines line kind → defined_by built_in lines ≡ Err (line, kind)
  fails_there line kind h =
      fails definition_line lines h.above h.bad h.after built_in h.known (line, kind) h.is h.known_is
      (line_fails types_read classes_read h.known h.bad kind h.here ∙ ap (λ (n : ℕ). failed n) (sym h.number_is))
    where
      failed : ℕ → Result Defined At
      failed n = Err (n, kind)

  fails_later : (s : Defined) (line : ℕ) (kind : ConfFaultKind) → IsLaterFaultAt s.types lines line kind → found_in s.types none_found lines ≡ Err (line, kind)
  fails_later s line kind h =
      let f = all_found s.types h.above h.none_above in
      fails (later_line s.types) lines h.above h.bad h.after none_found f.0 (line, kind) h.is f.1
      (later_fails s.types f.0 h.bad h.above (sees s.types h.above f.0 f.1) kind h.here ∙ ap (λ (n : ℕ). failed n) (sym h.number_is))
    where
      failed : ℕ → Result Found At
      failed n = Err (n, kind)

  none_there : (o : Option (List TypedRdn)) → is_some o ≡ false → o ≡ None
  none_there None e = refl
  none_there (Some suffix) e = absurd cc

  fails_last : (s : Defined) (line : ℕ) (kind : ConfFaultKind) → IsWithoutSuffix s.types lines line kind → behind s (found_in s.types none_found lines) ≡ Err (line, kind)
  fails_last s line kind h =
      let f = all_found s.types lines h.none in
      ap (behind s) f.1
      ∙ ap (rules_of s f.0.slots) (none_there f.0.suffix (sees s.types lines f.0 f.1 ∙ h.no_suffix))
      ∙ (λ j. refused (sym h.line_is j) (sym h.kind_is j))

  fails_whole : (line : ℕ) (kind : ConfFaultKind) → IsDefinitionFaultAt lines line kind ⊎ ((s : Defined) × (defined_by built_in lines ≡ Ok s) × (IsLaterFaultAt s.types lines line kind ⊎ IsWithoutSuffix s.types lines line kind)) → whole (defined_by built_in lines) ≡ Err (line, kind)
  fails_whole line kind (inl first) = ap whole (fails_there line kind first)
  fails_whole line kind (inr (s, defined, inl later)) = ap whole defined ∙ ap (behind s) (fails_later s line kind later)
  fails_whole line kind (inr (s, defined, inr without)) = ap whole defined ∙ fails_last s line kind without

module _ (types_read : TypesRead) (classes_read : ClassesRead) (text : List ℕ) where
  conf_is : conf_of text ≡ whole types_read classes_read (lines_of text) (defined_by built_in (lines_of text))
  unfolding conf_of
  conf_is = refl

  pub conf_faulty : (line : ℕ) (kind : ConfFaultKind) → conf_of text ≡ Err (line, kind) → IsConfFault text line kind
  conf_faulty line kind e = faulty types_read classes_read (lines_of text) line kind (sym conf_is ∙ e)

  pub conf_fails : (line : ℕ) (kind : ConfFaultKind) → IsConfFault text line kind → conf_of text ≡ Err (line, kind)
  conf_fails line kind h = conf_is ∙ fails_whole types_read classes_read (lines_of text) line kind h

  pub one_fault : (a b : ℕ) (j k : ConfFaultKind) → IsConfFault text a j → IsConfFault text b k → (a ≡ b) × (j ≡ k)
  one_fault a b j k h i =
      let same = same_err {A = Conf} (a, j) (b, k) (sym (conf_fails a j h) ∙ conf_fails b k i) in
      (ap (λ (p : At). p.0) same, ap (λ (p : At). p.1) same)
