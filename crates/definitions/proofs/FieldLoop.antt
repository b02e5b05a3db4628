-- A loop that reads the fields of a definition.
use Rattle.std.proofs.Common.{◌≡◌, ℕ, ◌+◌, ◌<◌, ◌≤◌, Bool, true, false, cond, List, length, drop, Option, Some, None, sym, ap, ◌∙◌}
use Rattle.std.proofs.lemmas.List.{drop_more, drop_all}
use Rattle.definitions.specs.declared.fault.DefinitionFault.{DefinitionFault}
use Rattle.definitions.specs.declared.fault.DefinitionFault.TheVariants as faults
use Rattle.definitions.specs.Gives.{Fails}
use Rattle.definitions.specs.Words.{◌>>>◌}
use Rattle.definitions.specs.Elements.{ends_there, fields_to_end}

module _ {D F : Type 0} (field_at : List ℕ → Option (F × List ℕ)) (with_field : D → F → Option D) (bytes : List ℕ) (i : ℕ) (rest : List ℕ) (d : D) (total : Option D) (within : i < length bytes) (so_far : fields_to_end field_at with_field d (drop i bytes) rest ≡ total) where
  after : Option (F × List ℕ) → Option D
  after field = field >>> λ f. (with_field d f.0 >>> λ next. fields_to_end field_at with_field next (drop (i + 1) bytes) f.1)

  cut : fields_to_end field_at with_field d (drop i bytes) rest ≡ cond (ends_there rest) (Some d) (after (field_at rest))
  unfolding fields_to_end after
  cut = ap (λ (fuel : List ℕ). fields_to_end field_at with_field d fuel rest) (drop_more bytes i 0 within)

  pub ends : ends_there rest ≡ true → total ≡ Some d
  ends on = sym so_far ∙ cut ∙ ap (λ (b : Bool). cond b (Some d) (after (field_at rest))) on

  goes : ends_there rest ≡ false → total ≡ after (field_at rest)
  goes off = sym so_far ∙ cut ∙ ap (λ (b : Bool). cond b (Some d) (after (field_at rest))) off

  pub goes_on : (field : (F × List ℕ)) (next : D) → ends_there rest ≡ false → field_at rest ≡ Some field → with_field d field.0 ≡ Some next → fields_to_end field_at with_field next (drop (i + 1) bytes) field.1 ≡ total
  unfolding after
  goes_on field next off is put =
      sym (goes off ∙ ap after is ∙ ap (λ (r : Option D). r >>> λ n. fields_to_end field_at with_field n (drop (i + 1) bytes) field.1) put)

  pub no_field : (e : DefinitionFault) → ends_there rest ≡ false → Fails e (field_at rest) → Fails e total
  unfolding after
  no_field faults.OutOfMemory off h = tt
  no_field faults.Form off h = goes off ∙ ap after h

  pub not_put : (e : DefinitionFault) (field : (F × List ℕ)) → ends_there rest ≡ false → field_at rest ≡ Some field → Fails e (with_field d field.0) → Fails e total
  unfolding after
  not_put faults.OutOfMemory field off is h = tt
  not_put faults.Form field off is h = goes off ∙ ap after is ∙ ap (λ (r : Option D). r >>> λ n. fields_to_end field_at with_field n (drop (i + 1) bytes) field.1) h

pub runs_out : {D F : Type 0} (field_at : List ℕ → Option (F × List ℕ)) (with_field : D → F → Option D) (bytes : List ℕ) (i : ℕ) (rest : List ℕ) (d : D) (total : Option D) → length bytes ≤ i → fields_to_end field_at with_field d (drop i bytes) rest ≡ total → total ≡ None
unfolding fields_to_end
runs_out field_at with_field bytes i rest d total past so_far = sym so_far ∙ ap (λ (fuel : List ℕ). fields_to_end field_at with_field d fuel rest) (drop_all i bytes past)
