use Rattle.std.proofs.Common.{◌∙◌}
use Rattle.paths.proofs.Unpacked.{bytes_of}
use Rattle.paths.proofs.path.Path.bytes.Goals as goal

pub returns : goal.returns
returns c = c.as_slice.ensures ∙ bytes_of c.self.inside.bytes.items c.args.self.now c.self.invariant c.self.view_is
