-- Where a line that spells a name stands in place of a suffix line, the lines differ in that line alone.
use Rattle.std.proofs.Common.{◌≡◌, ℕ, ◌-◌, Bool, true, false, cond, not, ◌||◌, ◌&&◌, List, [], ◌∷◌, ◌++◌, length, take, drop, inl, inr, codes, refl, ap, ◌∙◌, arith}
use Rattle.std.specs.Prelude.{nat_le}
use Rattle.std.specs.List.{list_all}
use Rattle.std.specs.Str.{str_eq_ignore_ascii_case, bytes_eq}
use Rattle.std.proofs.lemmas.Bool.{or_parts}
use Rattle.std.proofs.lemmas.Bool.Decides.{nat_tests}
use Rattle.std.proofs.lemmas.List.{length_push}
use Rattle.std.proofs.lemmas.List.Folds.{list_all-append}
use Rattle.std.proofs.Math.Seq.{drop-append_seam, take-append_seam}
use Rattle.base.specs.Ends.{ends_with, onto_text, without_end}
use Rattle.base.proofs.LastByte.{end_other}
use Rattle.definitions.specs.Lines.{begins_blank, lines_of}
use Rattle.definitions.specs.LineGrammar.{is_in_line}
use Rattle.definitions.specs.Words.{is_blank, is_no_blank, skip, after_word}
use Rattle.definitions.proofs.Ends.{Stops, run_front, run_rest}
use Rattle.dir_conf.specs.Configurations.{is_quoted, unquoted, suffix_text}
use Rattle.dir_conf.proofs.LineWords.{suffix_word, says_some}
use Rattle.suffixes.specs.SuffixLines.{is_suffix_line, texts_of, ChangesSuffix, plain_line, quoted_line, needs_quotes, SpellsSuffix, ReplacesSuffixLine}
use Rattle.suffixes.proofs.OneLine.{texts_above, texts_below, line_between}

-- ---- the name that a line says

-- what stands behind the word, and the blank
bare : (text : List ℕ) → begins_blank text ≡ false → Stops is_no_blank text
bare [] e = tt
bare (b ∷ bs) e = ap not e

behind_word : (text : List ℕ) → begins_blank text ≡ false → skip (after_word (plain_line text)) ≡ text
behind_word text e = ap skip (run_rest is_blank (codes "suffix") (32 ∷ text) refl refl) ∙ run_rest is_no_blank (32 ∷ []) text refl (bare text e)

end_kept : (text : List ℕ) → ends_with 32 text ≡ false → without_end text ≡ text
end_kept [] e = refl
end_kept (b ∷ []) e = ap (λ (t : Bool). cond t [] (b ∷ [])) e
end_kept (b ∷ c ∷ cs) e = ap (onto_text b) (end_kept (c ∷ cs) e)

plain_says : (name : List ℕ) → needs_quotes name ≡ false → suffix_text (plain_line name) ≡ name
plain_says name e =
    let k = or_parts (begins_blank name) (ends_with 32 name || is_quoted name) e in
    let j = or_parts (ends_with 32 name) (is_quoted name) k.1 in
    ap (λ (text : List ℕ). unquoted (without_end text)) (behind_word name k.0)
    ∙ ap unquoted (end_kept name j.0)
    ∙ ap (λ (t : Bool). cond t (take (length name - 2) (drop 1 name)) name) j.1

module _ (name : List ℕ) where
  abbrev quoted : List ℕ
  quoted = 34 ∷ (name ++ 34 ∷ [])

  two : nat_le 2 (length quoted) ≡ true
  two = grind (arith, nat_tests, length_push name 34)

  last : drop (length quoted - 1) quoted ≡ 34 ∷ []
  last =
      let n : length quoted - 1 ≡ length (34 ∷ name) = omega (arith, length_push name 34) in
      ap (λ (k : ℕ). drop k quoted) n ∙ drop-append_seam (34 ∷ name) (34 ∷ [])

  inside : take (length quoted - 2) (drop 1 quoted) ≡ name
  inside =
      let n : length quoted - 2 ≡ length name = omega (arith, length_push name 34) in
      ap (λ (k : ℕ). take k (name ++ 34 ∷ [])) n ∙ take-append_seam name (34 ∷ [])

  quoted_is : is_quoted quoted ≡ true
  quoted_is = λ i. two i && true && bytes_eq (last i) (34 ∷ [])

  quoted_says : suffix_text (quoted_line name) ≡ name
  quoted_says =
      ap (λ (text : List ℕ). unquoted (without_end text)) (behind_word quoted refl)
      ∙ ap unquoted (end_other (34 ∷ name) 34 refl)
      ∙ ap (λ (t : Bool). cond t (take (length quoted - 2) (drop 1 quoted)) quoted) quoted_is
      ∙ inside

record Says (line name : List ℕ) : Type 0 where
  one : list_all is_in_line line ≡ true
  suffix : is_suffix_line line ≡ true
  text : suffix_text line ≡ name

begins_so : (text : List ℕ) → is_suffix_line (plain_line text) ≡ true
begins_so text = ap (λ (word : List ℕ). str_eq_ignore_ascii_case word (codes "suffix")) (run_front is_blank (codes "suffix") (32 ∷ text) refl refl)

says : (line name : List ℕ) → list_all is_in_line name ≡ true → SpellsSuffix line name → Says line name
says line name one (inl e) = record {
  one = ap (list_all is_in_line) e ∙ list_all-append is_in_line name (34 ∷ []) ∙ ap (λ (t : Bool). t && true) one;
  suffix = ap is_suffix_line e ∙ begins_so (quoted name);
  text = ap suffix_text e ∙ quoted_says name;
}
says line name one (inr e) = record {
  one = ap (list_all is_in_line) e.0 ∙ one;
  suffix = ap is_suffix_line e.0 ∙ begins_so name;
  text = ap suffix_text e.0 ∙ plain_says name e.1;
}

-- ---- the lines

no_blank : (line : List ℕ) → is_suffix_line line ≡ true → begins_blank line ≡ false
no_blank line e = (says_some (codes "suffix") suffix_word line e).1

pub changes_suffix : (old new name : List ℕ) → ReplacesSuffixLine old new name → ChangesSuffix old new name
changes_suffix old new name h =
    let s = says h.new_line name h.name_one h.new_spells in
    record {
      above = texts_above h.above h.above_ends;
      old_line = h.old_line;
      new_line = h.new_line;
      below = texts_below h.below;
      old_lines =
          ap (λ (text : List ℕ). texts_of (lines_of text)) h.old_is
          ∙ line_between h.above h.old_line h.old_end h.below h.above_ends h.old_one h.old_ends (no_blank h.old_line h.old_is_suffix) h.below_begins;
      new_lines =
          ap (λ (text : List ℕ). texts_of (lines_of text)) h.new_is
          ∙ line_between h.above h.new_line h.new_end h.below h.above_ends s.one h.new_ends (no_blank h.new_line s.suffix) h.below_begins;
      old_is_suffix = h.old_is_suffix;
      new_is_suffix = s.suffix;
      says_name = s.text;
    }
