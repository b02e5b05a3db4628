use Rattle.std.proofs.Common.{◌∙◌, sym, ap}
use Rattle.values.specs.Values.{Value}
use Rattle.schema.specs.Values.{norm_at}
use Rattle.entries.specs.Entries.{values_of}
use Rattle.values.specs.Norms.{has_norm}
use Rattle.entries.proofs.StoredLemmas.{equal_stored}
use Rattle.entries.proofs.rdn_values.has_value.Goals as goal

pub returns : goal.returns
returns c =
    let types = c.args.conf.now.types in
    let t = c.args.ava.now.0 in
    c.has_norm_at.ensures ∙ ap (λ n. has_norm n (values_of c.args.attrs.now.entries t)) c.norm.ensures
    ∙ sym (equal_stored types t c.args.ava.now.1 c.in_ok-value.value.norm c.args.attrs.now.entries c.requires.made
    (ap (λ (x : Value). x.norm) c.in_ok-value.ensures ∙ ap (norm_at types t) c.as_slice.ensures))
