use Rattle.matching.proofs.Texts.{ascii_is_text}
use Rattle.matching.proofs.syntax.is_text.Goals as goal

pub returns-then-are_ascii : goal.returns-then-are_ascii
returns-then-are_ascii c = ascii_is_text c.are_ascii.result c.args.bytes.now c.if-are_ascii.true c.are_ascii.ensures
