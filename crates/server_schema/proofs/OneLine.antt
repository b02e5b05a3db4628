-- Each definition in a schema's text is in one line, and so is what a repair makes of it.
use Rattle.std.proofs.Common.{◌≡◌, ◌∙◌, ℕ, zero, suc, ◌+◌, Bool, true, false, cond, not, ◌||◌, ◌&&◌, eqb, List, [], ◌∷◌, ◌++◌, map, take, drop, Option, Some, None, inl, inr, refl, sym, ap, subst, arith}
use Rattle.std.specs.Prelude.{position}
use Rattle.std.specs.List.{find, AllByRecursion, Contains}
use Rattle.std.specs.Str.{str_eq_ignore_ascii_case}
use Rattle.std.proofs.lemmas.Bool.{and_parts}
use Rattle.std.proofs.lemmas.List.{take_all, drop_all}
use Rattle.std.proofs.lemmas.List.Folds.{list_all-append}
use Rattle.definitions.specs.LineGrammar.{is_in_line}
use Rattle.definitions.specs.Words.{is_blank, is_no_blank, skip, first_word, after_word, end_of}
use Rattle.server_schema.specs.declared.definition.Definition.{Definition}
use Rattle.server_schema.specs.declared.definition.Sort.{Sort}
use Rattle.server_schema.specs.declared.definition.Sort.TheVariants as sorts
use Rattle.server_schema.specs.declared.macros.Macro.{Macro}
use Rattle.server_schema.specs.declared.statements.Word.{Word}
use Rattle.server_schema.specs.declared.statements.Word.TheVariants as words
use Rattle.server_schema.specs.declared.statements.Statement.{Statement}
use Rattle.server_schema.specs.declared.expanding.Due.{Due}
use Rattle.server_schema.specs.declared.expanding.Due.TheVariants as dues
use Rattle.server_schema.specs.Sources.{is_colon, is_ldif, source_lines}
use Rattle.server_schema.specs.Statements.{in_line, without_number, value_behind, ldif_word, directive, ldif_said, named_to, conf_said, said, all_said, statements_on, statements_in}
use Rattle.server_schema.specs.Macros.{name_end, name_in, suffix_in, macro_named, with_suffix, oid_for, macro_of, with_said, with_macro, macros_from, macros_in}
use Rattle.server_schema.specs.Expanding.{ends_word, is_due, behind_word, behind_sign, length_start, oid_and_length, put_word, expanded_from}
use Rattle.server_schema.specs.Definitions.{of_word, of_statement, of_statements, definitions_in}
use Rattle.server_schema.specs.Repairs.{is_one_line, IsNameCut, IsStep, IsRepaired, unchanged, changed, IsRepairOf}
use Rattle.server_schema.proofs.Members.{all_more, one_of_all}

abbrev pub IsOneLine : List ℕ → Type 0
IsOneLine text = is_one_line text ≡ true

-- ---- parts and wholes

both : (a b : Bool) → a ≡ true → b ≡ true → (a && b) ≡ true
both a b h k = ap (λ (x : Bool). x && b) h ∙ k

pub joined : (xs ys : List ℕ) → IsOneLine xs → IsOneLine ys → IsOneLine (xs ++ ys)
joined xs ys h k = list_all-append is_in_line xs ys ∙ both (is_one_line xs) (is_one_line ys) h k

parts : (xs ys : List ℕ) → IsOneLine (xs ++ ys) → IsOneLine xs × IsOneLine ys
parts xs ys h = and_parts (is_one_line xs) (is_one_line ys) (sym (list_all-append is_in_line xs ys) ∙ h)

taken : (n : ℕ) (xs : List ℕ) → IsOneLine xs → IsOneLine (take n xs)
taken n [] h = subst IsOneLine (sym (take_all n [] (omega arith))) refl
taken zero (x ∷ xs) h = refl
taken (suc n) (x ∷ xs) h = let k = and_parts (is_in_line x) (is_one_line xs) h in both (is_in_line x) (is_one_line (take n xs)) k.0 (taken n xs k.1)

dropped : (n : ℕ) (xs : List ℕ) → IsOneLine xs → IsOneLine (drop n xs)
dropped n [] h = subst IsOneLine (sym (drop_all n [] (omega arith))) refl
dropped zero (x ∷ xs) h = h
dropped (suc n) (x ∷ xs) h = dropped n xs (and_parts (is_in_line x) (is_one_line xs) h).1

-- ---- statements

no_feed : (b : ℕ) → is_in_line (in_line b) ≡ true
no_feed b = by (eqb b 10) refl (eqb b 13)
  where
    by : (feed : Bool) → eqb b 10 ≡ feed → (back : Bool) → not (eqb (cond (feed || back) 32 b) 10) ≡ true
    by true e back = refl
    by false e true = refl
    by false e false = ap not e

pub in_one_line : (text : List ℕ) → IsOneLine (map in_line text)
in_one_line [] = refl
in_one_line (b ∷ bs) = both (is_in_line (in_line b)) (is_one_line (map in_line bs)) (no_feed b) (in_one_line bs)

abbrev SaysOne : Statement → Type 0
SaysOne s = IsOneLine s.text

ldif_says : (line : List ℕ) (at : ℕ) (word : Option Word) → AllByRecursion SaysOne (all_said (ldif_said line at word))
ldif_says line at None = tt
ldif_says line at (Some word) = (in_one_line (skip (without_number (value_behind (drop (at + 1) line)))), tt)

named_says : (line : List ℕ) (at : Option ℕ) → AllByRecursion SaysOne (all_said (named_to line at))
named_says line None = tt
named_says line (Some at) = ldif_says line at (ldif_word (take at line))

conf_says : (line : List ℕ) (word : Option Word) → AllByRecursion SaysOne (all_said (conf_said line word))
conf_says line None = tt
conf_says line (Some word) = (in_one_line (skip (after_word line)), tt)

line_says : (line : List ℕ) → AllByRecursion SaysOne (all_said (said line))
line_says line = by (is_ldif line)
  where
    by : (t : Bool) → AllByRecursion SaysOne (all_said (cond t (named_to line (position is_colon line)) (conf_said line (directive (first_word line)))))
    by true = named_says line (position is_colon line)
    by false = conf_says line (directive (first_word line))

lines_say : (lines : List (List ℕ)) → AllByRecursion SaysOne (statements_on lines)
lines_say [] = tt
lines_say (line ∷ lines) = all_more SaysOne (all_said (said line)) (statements_on lines) (line_says line) (lines_say lines)

all_say : (text : List ℕ) → AllByRecursion SaysOne (statements_in text)
unfolding statements_in
all_say text = lines_say (source_lines text)

-- ---- macros

abbrev NamesOne : Macro → Type 0
NamesOne m = IsOneLine m.oid

suffix_one : (text : List ℕ) → IsOneLine text → IsOneLine (suffix_in text)
suffix_one [] h = refl
suffix_one (b ∷ bs) h = (and_parts (is_in_line b) (is_one_line bs) h).1

abbrev IfNamesOne : Option Macro → Type 0
IfNamesOne None = Unit {0}
IfNamesOne (Some m) = NamesOne m

found_one : (test : Macro → Bool) (macros : List Macro) → AllByRecursion NamesOne macros → IfNamesOne (find test macros)
found_one test [] h = tt
found_one test (m ∷ macros) h = by (test m) (found_one test macros h.1)
  where
    by : (t : Bool) → IfNamesOne (find test macros) → IfNamesOne (cond t (Some m) (find test macros))
    by true more = h.0
    by false more = more

with_suffix_one : (word : List ℕ) (m : Option Macro) → IsOneLine word → IfNamesOne m → IsOneLine (with_suffix word m)
with_suffix_one word None h k = h
with_suffix_one word (Some m) h k = joined m.oid (suffix_in (drop (name_end word) word)) k (suffix_one (drop (name_end word) word) (dropped (name_end word) word h))

oid_one : (macros : List Macro) → AllByRecursion NamesOne macros → (word : List ℕ) → IsOneLine word → IsOneLine (oid_for macros word)
oid_one macros named word h = with_suffix_one word (macro_named macros (name_in word)) h (found_one (λ m. str_eq_ignore_ascii_case m.name (name_in word)) macros named)

-- the first word of what stands behind the first
second_one : (text : List ℕ) → IsOneLine text → IsOneLine (first_word (skip (after_word text)))
second_one text h =
    let behind = dropped (end_of is_blank text) text h in
    let rest = dropped (end_of is_no_blank (after_word text)) (after_word text) behind in
    taken (end_of is_blank (skip (after_word text))) (skip (after_word text)) rest

macro_more : (macros : List Macro) (s : Statement) → AllByRecursion NamesOne macros → SaysOne s → AllByRecursion NamesOne (with_macro macros s)
macro_more macros s named one = by s.word
  where
    by : (word : Word) → AllByRecursion NamesOne (with_said macros s.text word)
    by words.Macro = all_more NamesOne macros (macro_of macros s.text ∷ []) named (oid_one macros named (first_word (skip (after_word s.text))) (second_one s.text one), tt)
    by (words.Definition sort) = named

macros_one : (macros : List Macro) (statements : List Statement) → AllByRecursion NamesOne macros → AllByRecursion SaysOne statements → AllByRecursion NamesOne (macros_from macros statements)
unfolding macros_from
macros_one macros [] named say = named
macros_one macros (s ∷ statements) named say = macros_one (with_macro macros s) statements (macro_more macros s named say.0) say.1

-- ---- definitions

module _ (macros : List Macro) (named : AllByRecursion NamesOne macros) where
  word_one : (due : Due) (word : List ℕ) → IsOneLine word → IsOneLine (put_word macros due word)
  word_one due [] h = refl
  word_one due (b ∷ bs) h = by (is_due due)
    where
      n : ℕ
      n = length_start (b ∷ bs)

      by : (t : Bool) → IsOneLine (cond t (oid_and_length macros (b ∷ bs)) (b ∷ bs))
      by true = joined (oid_for macros (take n (b ∷ bs))) (drop n (b ∷ bs)) (oid_one macros named (take n (b ∷ bs)) (taken n (b ∷ bs) h)) (dropped n (b ∷ bs) h)
      by false = h

  expanded_one : (due : Due) (word text : List ℕ) → IsOneLine word → IsOneLine text → IsOneLine (expanded_from macros due word text)
  unfolding expanded_from
  expanded_one due word [] h k = word_one due word h
  expanded_one due word (b ∷ bs) h k =
      let p = and_parts (is_in_line b) (is_one_line bs) k in
      by (ends_word b) p.0 (expanded_one (behind_sign (behind_word due word) b) [] bs refl p.1)
      (expanded_one due (word ++ b ∷ []) bs (joined word (b ∷ []) h (both (is_in_line b) true p.0 refl)) p.1)
    where
      next : Due
      next = behind_sign (behind_word due word) b

      by : (t : Bool) → is_in_line b ≡ true → IsOneLine (expanded_from macros next [] bs) → IsOneLine (expanded_from macros due (word ++ b ∷ []) bs)
          → IsOneLine (cond t (put_word macros due word ++ b ∷ expanded_from macros next [] bs) (expanded_from macros due (word ++ b ∷ []) bs))
      by true here behind on =
          joined (put_word macros due word) (b ∷ expanded_from macros next [] bs) (word_one due word h)
          (both (is_in_line b) (is_one_line (expanded_from macros next [] bs)) here behind)
      by false here behind on = on

  abbrev DefinesOne : Definition → Type 0
  DefinesOne d = IsOneLine d.text

  statement_one : (s : Statement) → SaysOne s → AllByRecursion DefinesOne (of_statement macros s)
  statement_one s one = by s.word
    where
      by : (word : Word) → AllByRecursion DefinesOne (of_word macros s.text word)
      by words.Macro = tt
      by (words.Definition sort) = (expanded_one dues.Opening [] s.text refl one, tt)

  statements_one : (statements : List Statement) → AllByRecursion SaysOne statements → AllByRecursion DefinesOne (of_statements macros statements)
  statements_one [] say = tt
  statements_one (s ∷ statements) say = all_more DefinesOne (of_statement macros s) (of_statements macros statements) (statement_one s say.0) (statements_one statements say.1)

pub definition_one : (source : List ℕ) (d : Definition) → Contains (definitions_in source) d → IsOneLine d.text
definition_one source d at =
    let say = all_say source in
    let named = macros_one [] (statements_in source) tt say in
    one_of_all (λ (e : Definition). IsOneLine e.text) (definitions_in source) d (statements_one (macros_in (statements_in source)) named (statements_in source) say) at

-- ---- repairs

name_cut_one : (sort : Sort) (old new : List ℕ) → IsNameCut sort old new → IsOneLine old → IsOneLine new
name_cut_one sort old new cut one =
    let whole = parts cut.front (39 ∷ (cut.name ++ 39 ∷ cut.behind)) (subst IsOneLine cut.old_is one) in
    let behind = parts cut.name (39 ∷ cut.behind) whole.1 in
    subst IsOneLine (sym cut.new_is) (joined cut.front cut.behind whole.0 behind.1)

step_one : (sort : Sort) (old new : List ℕ) → IsStep sort old new → IsOneLine old → IsOneLine new
step_one sorts.AttributeType old new (inl cut) one = name_cut_one sorts.AttributeType old new cut one
step_one sorts.AttributeType old new (inr rule) one = rule.one_line
step_one sorts.ObjectClass old new (inl cut) one = name_cut_one sorts.ObjectClass old new cut one
step_one sorts.ObjectClass old new (inr may) one = may.one_line

repaired_one : (sort : Sort) (old new : List ℕ) → IsRepaired sort old new → IsOneLine old → IsOneLine new
repaired_one sort old new (unchanged text) one = one
repaired_one sort old new (changed first mid last before step) one = step_one sort mid new step (repaired_one sort old mid before one)

pub repair_one : (d e : Definition) → IsRepairOf d e → IsOneLine d.text → IsOneLine e.text
repair_one d e repair one = repaired_one d.sort d.text e.text repair.steps one
