use Rattle.std.proofs.Common.{ℕ, Option, subst}
use Rattle.memchr.specs.Find.{IsFirstByte, is_byte}
use Rattle.sorting.proofs.Cutting.{cut_at, uncut}
use Rattle.sorting.proofs.stanzas.split_line.Goals as goal

pub returns-in-Some-clause-lines : goal.returns-in-Some-clause-lines
returns-in-Some-clause-lines c =
    cut_at c.args.text.now _ _ c.in-Some.at (subst (λ (r : Option ℕ). IsFirstByte (is_byte 10) c.args.text.now r) c.in-Some.is c.memchr.ensures) c.split_at.ensures.front c.split_at.ensures.back

pub returns-in-None-clause-lines : goal.returns-in-None-clause-lines
returns-in-None-clause-lines c =
    uncut c.args.text.now _ _ c.requires (subst (λ (r : Option ℕ). IsFirstByte (is_byte 10) c.args.text.now r) c.in-None.is c.memchr.ensures) c.split_at-in-None.ensures.front c.split_at-in-None.ensures.back
