-- One line of an add, and one AVA of an RDN.
use Rattle.std.proofs.Common.{◌≡◌, ℕ, Bool, cond, List, Result, Ok, Err, sym, ap, ◌∙◌}
use Rattle.ldif.specs.Attrs.{Attr}
use Rattle.ldif.specs.declared.record.Mode.{Mode}
use Rattle.schema.specs.declared.code.Code.{Code}
use Rattle.schema.specs.declared.code.Code.TheVariants.{AttributeOrValueExists}
use Rattle.values.specs.declared.types.AttributeType.{AttributeType}
use Rattle.values.specs.Values.{Value}
use Rattle.schema.specs.Values.{norm_at}
use Rattle.base.specs.Answers.{◌>>=◌}
use Rattle.schema.specs.Rdns.{Ava}
use Rattle.entries.specs.Entries.{values_of, has_equal, push_value, line_value, put_value, add_line, with_ava}
use Rattle.entries.specs.StoredEntries.{EntryAttribute, attributes_of, IsMade}
use Rattle.values.specs.Norms.{has_norm}
use Rattle.entries.proofs.StoredLemmas.{equal_stored}

module _ (types : List AttributeType) (es : List EntryAttribute) (made : IsMade types es) (t : ℕ) (v : Value) (normal : v.norm ≡ norm_at types t v.raw) (b : Bool) (has : b ≡ has_norm v.norm (values_of es t)) where
  equal_is : has_equal types t v.raw (values_of (attributes_of es) t) ≡ b
  equal_is = equal_stored types t v.raw v.norm es made normal ∙ sym has

  -- a line with this value
  pub line_is : (mode : Mode) (l : Attr) → line_value mode types l ≡ Ok (t, v.raw) → add_line mode types (attributes_of es) l ≡ cond b (Err AttributeOrValueExists) (Ok (push_value (attributes_of es) t v.raw))
  line_is mode l is =
      ap (λ (x : Result Ava Code). x >>= put_value types (attributes_of es)) is
      ∙ ap (λ (x : Bool). cond x (Err AttributeOrValueExists) (Ok (push_value (attributes_of es) t v.raw))) equal_is

  -- an AVA with this value
  pub ava_is : (p : Ava) → ◌≡◌ {A = Ava} p (t, v.raw) → with_ava types p (attributes_of es) ≡ cond b (attributes_of es) (push_value (attributes_of es) t v.raw)
  ava_is p is =
      ap (λ (x : Ava). with_ava types x (attributes_of es)) is
      ∙ ap (λ (x : Bool). cond x (attributes_of es) (push_value (attributes_of es) t v.raw)) equal_is

-- a value that was made of these bytes
module _ (types : List AttributeType) where
  pub ava_normal : (t : ℕ) (raw : List ℕ) (v : Value) → v ≡ record { raw = raw; norm = norm_at types t raw } → v.norm ≡ norm_at types t v.raw
  ava_normal t raw v is = ap (λ (x : Value). x.norm) is ∙ ap (λ (x : Value). norm_at types t x.raw) (sym is)

  pub ava_value : (p : Ava) (raw : List ℕ) (v : Value) → raw ≡ p.1 → v ≡ record { raw = raw; norm = norm_at types p.0 raw } → ◌≡◌ {A = Ava} p (p.0, v.raw)
  ava_value p raw v from is = ap (λ (x : List ℕ). (p.0, x)) (sym from ∙ ap (λ (x : Value). x.raw) (sym is))
