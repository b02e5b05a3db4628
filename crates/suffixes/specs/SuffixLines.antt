-- Two texts of a dir.conf that differ in their suffix line alone.
use Rattle.std.specs.Prelude.{◌≡◌, ℕ, Bool, true, false, ◌||◌, ◌⊎◌, List, [], ◌∷◌, ◌++◌, map, Result, Ok, Err, codes}
use Rattle.std.specs.List.{list_all}
use Rattle.base.specs.Ascii.{line_feed, space, quotation_mark}
use Rattle.base.specs.Ends.{ends_with}
use Rattle.definitions.specs.declared.lines.Line.{Line}
use Rattle.definitions.specs.Lines.{begins_blank, lines_of}
use Rattle.definitions.specs.LineGrammar.{is_in_line, IsEnd}
use Rattle.schema.specs.declared.code.Code.{Code}
use Rattle.schema.specs.Conf.{Conf}
use Rattle.dir_conf.specs.declared.conf_fault.ConfFaultKind.TheVariants.{Suffix}
use Rattle.dir_conf.specs.Configurations.{is_first, is_quoted, suffix_text, conf_of}
use Rattle.dir_conf.specs.FaultyLines.{has_suffix}

-- whether its first word is `suffix`, in any case
abbrev pub is_suffix_line : List ℕ → Bool
is_suffix_line line = is_first (codes "suffix") line

-- what lines say, whatever their numbers
abbrev pub texts_of : List Line → List (List ℕ)
texts_of lines = map (λ l. l.text) lines

-- The new text has the lines of the old one, but for a suffix line, which says this name. A line counts with those that it goes on on, so that it may
-- be broken at other places.
pub record ChangesSuffix (old new name : List ℕ) : Type 0 where
  pub above : List (List ℕ)
  pub old_line : List ℕ
  pub new_line : List ℕ
  pub below : List (List ℕ)
  pub old_lines : texts_of (lines_of old) ≡ above ++ old_line ∷ below
  pub new_lines : texts_of (lines_of new) ≡ above ++ new_line ∷ below
  pub old_is_suffix : is_suffix_line old_line ≡ true
  pub new_is_suffix : is_suffix_line new_line ≡ true
  pub says_name : suffix_text new_line ≡ name

-- a text with one suffix line is refused for what that says
pub record IsRefusedAtSuffix (text : List ℕ) : Type 0 where
  pub above : List Line
  pub bad : Line
  pub below : List Line
  pub lines_are : lines_of text ≡ above ++ bad ∷ below
  pub is_suffix : is_suffix_line bad.text ≡ true
  pub none_above : has_suffix above ≡ false
  pub none_below : has_suffix below ≡ false
  pub fault_is : conf_of text ≡ Err (bad.number, Suffix)

-- the text says this configuration; or where there is a code in its place, it is refused at its suffix line
abbrev pub SaysOrIsRefused : List ℕ → Result Conf Code → Type 0
SaysOrIsRefused text (Ok conf) = conf_of text ≡ Ok conf
SaysOrIsRefused text (Err code) = IsRefusedAtSuffix text

-- the texts differ in their suffix line alone, which says this name in the new one, and say these two configurations
pub record BothSay (old new name : List ℕ) (conf under : Conf) : Type 0 where
  pub changes : ChangesSuffix old new name
  pub old_says : conf_of old ≡ Ok conf
  pub new_says : conf_of new ≡ Ok under

-- ---- one line of a text in place of another

-- nothing, or lines with their ends
abbrev pub AreWhole : List ℕ → Type 0
AreWhole text = (text ≡ []) ⊎ (ends_with line_feed text ≡ true)

-- `suffix NAME`
abbrev pub plain_line : List ℕ → List ℕ
plain_line name = codes "suffix " ++ name

-- `suffix "NAME"`
abbrev pub quoted_line : List ℕ → List ℕ
quoted_line name = codes "suffix \"" ++ (name ++ quotation_mark ∷ [])

-- whether a blank stands before a name, a space behind it, or quotes round it
abbrev pub needs_quotes : List ℕ → Bool
needs_quotes name = begins_blank name || (ends_with space name || is_quoted name)

-- in quotes, which any name may have; or where it needs none, without
abbrev pub SpellsSuffix : List ℕ → List ℕ → Type 0
SpellsSuffix line name = (line ≡ quoted_line name) ⊎ ((line ≡ plain_line name) × (needs_quotes name ≡ false))

-- a line that spells this name stands in place of a suffix line, which goes on on no other, between the same lines
pub record ReplacesSuffixLine (old new name : List ℕ) : Type 0 where
  pub above : List ℕ
  pub old_line : List ℕ
  pub old_end : List ℕ
  pub new_line : List ℕ
  pub new_end : List ℕ
  pub below : List ℕ
  pub old_is : old ≡ above ++ (old_line ++ (old_end ++ below))
  pub new_is : new ≡ above ++ (new_line ++ (new_end ++ below))
  pub above_ends : AreWhole above
  pub below_begins : begins_blank below ≡ false
  pub old_one : list_all is_in_line old_line ≡ true
  pub old_ends : IsEnd old_line old_end
  pub old_is_suffix : is_suffix_line old_line ≡ true
  pub name_one : list_all is_in_line name ≡ true
  pub new_spells : SpellsSuffix new_line name
  pub new_ends : IsEnd new_line new_end
