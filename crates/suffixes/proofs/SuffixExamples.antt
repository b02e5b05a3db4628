-- Worked examples of texts that differ in their suffix line alone, by computation.
use Rattle.std.proofs.Common.{◌≡◌, ℕ, true, List, [], ◌∷◌, inl, inr, codes, refl}
use Rattle.std.specs.Prelude.{⊤}
use Rattle.definitions.specs.Lines.{unfolded, lines_of}
use Rattle.dir_conf.specs.Configurations.{suffix_text}
use Rattle.suffixes.specs.SuffixLines.{is_suffix_line, texts_of, ChangesSuffix, SpellsSuffix, needs_quotes, ReplacesSuffixLine}

unfoldable on_texts : ⊤
unfolding lines_of unfolded
on_texts = tt

abbrev old : List ℕ
old = codes "# a directory\nsuffix o=old\nindex cn eq\n"

differs : (new line name : List ℕ) → texts_of (lines_of new) ≡ codes "# a directory" ∷ line ∷ codes "index cn eq" ∷ [] ∷ [] → is_suffix_line line ≡ true → suffix_text line ≡ name → ChangesSuffix old new name
unfolding on_texts
differs new line name lines suffix text = record {
  above = codes "# a directory" ∷ [];
  old_line = codes "suffix o=old";
  new_line = line;
  below = codes "index cn eq" ∷ [] ∷ [];
  old_lines = refl;
  new_lines = lines;
  old_is_suffix = refl;
  new_is_suffix = suffix;
  says_name = text;
}

one_word : ChangesSuffix old (codes "# a directory\nsuffix o=new\nindex cn eq\n") (codes "o=new")
unfolding on_texts
one_word = differs (codes "# a directory\nsuffix o=new\nindex cn eq\n") (codes "suffix o=new") (codes "o=new") refl refl refl

-- on two lines, in quotes, with ends of two kinds; the blanks before the quotes count for nothing, the space before the second one stays
in_quotes : ChangesSuffix old (codes "# a directory\nSUFFIX\r\n \t\"ou=x, o=new \"  \r\nindex cn eq\n") (codes "ou=x, o=new ")
unfolding on_texts
in_quotes = differs (codes "# a directory\nSUFFIX\r\n \t\"ou=x, o=new \"  \r\nindex cn eq\n") (codes "SUFFIX \t\"ou=x, o=new \"  ") (codes "ou=x, o=new ") refl refl refl

-- ---- one line in place of another

replaced : ReplacesSuffixLine old (codes "# a directory\nsuffix o=new\r\nindex cn eq\n") (codes "o=new")
replaced = record {
  above = codes "# a directory\n";
  old_line = codes "suffix o=old";
  old_end = codes "\n";
  new_line = codes "suffix o=new";
  new_end = codes "\r\n";
  below = codes "index cn eq\n";
  old_is = refl;
  new_is = refl;
  above_ends = inr refl;
  below_begins = refl;
  old_one = refl;
  old_ends = inr (refl, refl);
  old_is_suffix = refl;
  name_one = refl;
  new_spells = inr (refl, refl);
  new_ends = inl refl;
}

a_space_behind : needs_quotes (codes "o=new ") ≡ true
a_space_behind = refl

with_quotes : SpellsSuffix (codes "suffix \"o=new \"") (codes "o=new ")
with_quotes = inl refl
