use Rattle.std.proofs.Common.{eqb, arith, w8}
use Rattle.std.proofs.lemmas.Simd.{bitmask_splat}
use Rattle.ldif.proofs.line.colons.Goals as goal

pub returns : goal.returns
returns c = bitmask_splat w8 eqb c.args.bytes 16 58 c.fits-bytes.0 (omega arith)
