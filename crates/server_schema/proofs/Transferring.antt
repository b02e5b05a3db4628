-- What growth from a dir.conf comes to, with comments behind it.
use Rattle.std.proofs.Common.{◌≡◌, ◌∙◌, ℕ, Bool, true, false, true≢false, not, ◌&&◌, eqb, List, [], ◌∷◌, ◌++◌, drop, length, inl, inr, refl, sym, ap, subst, append_assoc, arith}
use Rattle.std.specs.List.{Contains}
use Rattle.std.proofs.Math.Seq.{drop-append_seam}
use Rattle.std.proofs.lemmas.Bool.{eqb-true}
use Rattle.std.proofs.lemmas.List.Concat.{flat_map-append}
use Rattle.server_schema.specs.declared.definition.Definition.{Definition}
use Rattle.server_schema.specs.declared.taking.Candidate.{Candidate}
use Rattle.server_schema.specs.Definitions.{definitions_in, line_of}
use Rattle.server_schema.specs.Stated.{stated_in}
use Rattle.std.specs.Prelude.{is_ok, Result, Ok, Err}
use Rattle.dir_conf.specs.declared.conf_fault.ConfFault.{ConfFault}
use Rattle.dir_conf.specs.declared.conf_fault.ConfFault.TheVariants as faults
use Rattle.dir_conf.specs.Configurations.{At, Defined, definitions_of}
use Rattle.server_schema.specs.Alike.{meanings_of, is_among}
use Rattle.server_schema.specs.Growth.{is_read, end_of, comment_of, concat, Grows, AreRefused, AreMarked, definitions_of_all}
use Rattle.server_schema.specs.Grown.{IsReadBehind}
use Rattle.server_schema.specs.Transfers.{Gathers, AreComments, no_definition, with_lines, IsTransferred, IsWhole, IsPartly, IsTold, NeedNoRemark, SayBuiltIn, IsRefusedFor}
use Rattle.server_schema.proofs.Members.{from_map}
use Rattle.server_schema.proofs.OneLine.{definition_one}
use Rattle.server_schema.proofs.PrintedLines.{AreEnded, IsSilent, comment_silent, printed_ended}
use Rattle.server_schema.proofs.ReadBehind.{end_read, comments_read, ended_both, silent_ended, is_read_behind}

-- behind what was read no other fault is found
pub never_refused : (conf text : List ℕ) (fault : ConfFault) → is_read text ≡ true → IsRefusedFor text fault → IsRefusedFor conf fault
never_refused conf text faults.OutOfMemory read why = why
never_refused conf text (faults.Line line kind) read why = absurd (true≢false (sym read ∙ ap is_ok why))

-- the end of the last line changes nothing
pub still_read : (conf ended : List ℕ) → ended ≡ conf ++ end_of conf → is_read conf ≡ true → is_read ended ≡ true
still_read conf ended is read = ap is_read is ∙ ap is_ok (end_read conf) ∙ read

nothing_left : (remarks : List ℕ) → eqb (length remarks) 0 ≡ true → remarks ≡ []
nothing_left [] h = refl
nothing_left (b ∷ bs) h = absurd (let none = eqb-true (length (b ∷ bs)) 0 h in omega arith)

something_left : (remarks : List ℕ) → eqb (length remarks) 0 ≡ false → remarks ≡ [] → ⊥
something_left remarks h is = true≢false (sym (ap (λ (bs : List ℕ). eqb (length bs) 0) is) ∙ h)

ok_value : (r : Result Defined At) → is_ok r ≡ true → (s : Defined) × (r ≡ Ok s)
ok_value (Ok s) h = (s, refl)
ok_value (Err fault) h = absurd cc

module _ (source conf text last printed : List ℕ) (defined : Defined) (wanted : List Definition) (rest : List Candidate) (remarks : List ℕ) (is_changed : Bool)
    (defines : definitions_of conf ≡ Ok defined) (gathers : Gathers defined (meanings_of (stated_in conf)) (definitions_in source) wanted)
    (g : Grows (conf ++ end_of conf) wanted text (definitions_of_all rest) is_changed) (refused : AreRefused text (definitions_of_all rest)) (comments : AreComments remarks)
    (none : definitions_in source ≡ [] → remarks ≡ comment_of no_definition) (put : last ≡ text ++ remarks) (is : printed ≡ drop (length conf) last)
  where
    one_line : AreEnded g.lines
    one_line line at = printed_ended wanted (λ d among. definition_one source d (gathers.only d among)) line (g.printed line at)

    silent : (line : List ℕ) → Contains comments.0 line → IsSilent line
    silent line at = comment_silent line (comments.2 line at)

    text_is : text ≡ with_lines conf g.lines
    text_is = g.text_is ∙ append_assoc conf (end_of conf) (concat g.lines)

    joined : concat (g.lines ++ comments.0) ≡ concat g.lines ++ remarks
    joined = flat_map-append (λ (line : List ℕ). line) g.lines comments.0 ∙ ap (λ (t : List ℕ). concat g.lines ++ t) (sym comments.1)

    last_is : last ≡ conf ++ (end_of conf ++ (concat g.lines ++ remarks))
    last_is =
        put ∙ ap (λ (t : List ℕ). t ++ remarks) text_is
        ∙ append_assoc conf (end_of conf ++ concat g.lines) remarks
        ∙ ap (λ (t : List ℕ). conf ++ t) (append_assoc (end_of conf) (concat g.lines) remarks)

    printed_is : printed ≡ end_of conf ++ (concat g.lines ++ remarks)
    printed_is = is ∙ ap (drop (length conf)) last_is ∙ drop-append_seam conf (end_of conf ++ (concat g.lines ++ remarks))

    text_read : is_read (with_lines conf g.lines) ≡ true
    text_read = ap is_read (sym text_is) ∙ g.read (still_read conf (conf ++ end_of conf) refl (ap is_ok defines))

    whole_is : conf ++ printed ≡ with_lines conf (g.lines ++ comments.0)
    whole_is = ap (λ (t : List ℕ). conf ++ t) (printed_is ∙ ap (λ (t : List ℕ). end_of conf ++ t) (sym joined))

    whole_defined : definitions_of (with_lines conf (g.lines ++ comments.0)) ≡ definitions_of (with_lines conf g.lines)
    whole_defined = comments_read conf g.lines comments.0 one_line silent

    all_read : is_read (conf ++ printed) ≡ true
    all_read = ap is_read whole_is ∙ ap is_ok whole_defined ∙ text_read

    read_behind : IsReadBehind conf (conf ++ printed)
    read_behind =
        let k = ok_value (definitions_of (with_lines conf (g.lines ++ comments.0))) (ap is_ok whole_defined ∙ text_read) in
        subst (IsReadBehind conf) (sym whole_is)
        (is_read_behind conf (g.lines ++ comments.0) (ended_both g.lines comments.0 one_line (silent_ended comments.0 silent)) k.0 k.1)

    pub transferred : IsTransferred source conf printed
    transferred = record {
      defined = defined;
      defined_is = defines;
      wanted = wanted;
      gathers = gathers;
      lines = g.lines;
      remarks = remarks;
      printed_is = printed_is;
      read = all_read;
      read_behind = read_behind;
      from_wanted = g.printed;
      whole = λ d h. elim (g.kept d h) [
        | inl stands ↦ inl stands
        | inr left ↦ inr (subst (λ (t : List ℕ). is_read (t ++ line_of d) ≡ false) text_is (refused d left))
      ];
      comments = comments;
      none = none;
    }

    -- ---- what is said of it

    module _ (grown : Defined) (grown_is : definitions_of text ≡ Ok grown) (marked : AreMarked is_changed rest)
        (no_remark : remarks ≡ [] → NeedNoRemark grown (meanings_of (stated_in text)) rest) (built_in : remarks ≡ [] → SayBuiltIn grown (definitions_in source)) where
      nothing_lost : remarks ≡ [] → is_changed ≡ false → IsWhole source conf wanted g.lines remarks
      nothing_lost empty same = record {
        no_remark = empty;
        unchanged = g.unchanged same;
        grown = grown;
        grown_is = sym (ap definitions_of text_is) ∙ grown_is;
        all = λ d h. elim (g.kept d h) [
          | inl stands ↦ inl stands
          | inr left ↦ inr (
              let c = from_map (λ (c : Candidate). c.definition.now) d rest left in
              let among : is_among grown (meanings_of (stated_in text)) c.0.definition.now ≡ true = elim (no_remark empty c.0 c.1) [
                | inl repaired ↦ absurd (true≢false (sym (marked c.0 c.1 repaired) ∙ same))
                | inr said ↦ said
              ] in
              subst (λ (t : List ℕ). is_among grown (meanings_of (stated_in t)) d ≡ true) text_is (subst (λ (e : Definition). is_among grown (meanings_of (stated_in text)) e ≡ true) c.2 among))
        ];
        built_in = built_in empty;
      }

      abbrev Tells : Bool → Bool → Type 0
      Tells empty changed = ((empty && not changed) ≡ true → IsWhole source conf wanted g.lines remarks) × ((empty && not changed) ≡ false → IsPartly wanted g.lines remarks)

      tells : (empty : Bool) → eqb (length remarks) 0 ≡ empty → (changed : Bool) → is_changed ≡ changed → Tells empty changed
      tells true e true changed = (λ h. absurd cc, λ h. inr (g.changed changed))
      tells true e false changed = (λ h. nothing_lost (nothing_left remarks e) changed, λ h. absurd cc)
      tells false e changed is = (λ h. absurd cc, λ h. inl (something_left remarks e))

      pub told : (is_whole : Bool) → is_whole ≡ (eqb (length remarks) 0 && not is_changed) → IsTold source conf printed is_whole
      unfolding transferred
      told is_whole said =
          let k = tells (eqb (length remarks) 0) refl is_changed refl in
          record { transferred = transferred; whole = λ h. k.0 (sym said ∙ h); partly = λ h. k.1 (sym said ∙ h) }
