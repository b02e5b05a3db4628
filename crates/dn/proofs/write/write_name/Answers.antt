use Rattle.std.proofs.Common.{List, ℕ, subst, sym, rules}
use Rattle.std.specs.Str.{IsUtf8}
use Rattle.dn.specs.Writing.{text_of}
use Rattle.dn.specs.Spelling.{Spells}
use Rattle.dn.proofs.Ascii.{name_ascii, ascii_utf8}
use Rattle.dn.proofs.Spelled.{name_spelled}
use Rattle.dn.proofs.write.write_name.Goals as goal

pub unwrap-requires : goal.unwrap-requires
unwrap-requires c =
    c.from_utf8.ensures.succeeds (subst IsUtf8 (sym c.in_ok-text.ensures.text) (ascii_utf8 (text_of c.args.name.now) (name_ascii c.args.name.now c.in_ok-text.ensures.good)))

pub returns-clause-text : goal.returns-clause-text
returns-clause-text c = search rules

pub returns-clause-spelled : goal.returns-clause-spelled
returns-clause-spelled c = subst (λ (t : List ℕ). Spells t c.args.name.now) (sym (returns-clause-text c)) (name_spelled c.args.name.now c.in_ok-text.ensures.good)
