-- The value of a `control:` line: an OID, perhaps its criticality, perhaps a value (RFC 2849, "control").
use Rattle.std.specs.Prelude.{ℕ, Bool, true, false, not, ◌&&◌, ◌||◌, ◌==◌, nat_le, if◌then◌else◌, List, [], ◌∷◌, length, take, drop, Option, Some, None, Result, Ok, Err, codes, position}
use Rattle.std.specs.Option.{unwrap_or}
use Rattle.base.specs.Ascii.{space, colon, full_stop}
use Rattle.base.specs.Ends.{begins_with, without_front}
use Rattle.ldif.specs.declared.fault.LdifFaultKind.{LdifFaultKind}
use Rattle.ldif.specs.declared.fault.LdifFaultKind.TheVariants.{Word}
use Rattle.ldif.specs.declared.record.Control.{Control}
use Rattle.base.specs.Answers.{◌>>=◌}
use Rattle.ldif.specs.Line.{form_of, same_name}

-- neither a digit nor a dot
abbrev pub ends_oid : ℕ → Bool
ends_oid b = not ((nat_le 48 b && nat_le b 57) || b == full_stop)

-- how many digits and dots stand at the front
abbrev pub oid_len : List ℕ → ℕ
oid_len text = unwrap_or (position ends_oid text) (length text)

-- whether the control is critical, and what stands after the word, which stands behind a space; without it the control is not
unfoldable pub criticality : List ℕ → Bool × List ℕ
criticality rest =
    if begins_with space rest && same_name (take 4 (without_front rest)) (codes "true") then (true, drop 4 (without_front rest))
    else if begins_with space rest && same_name (take 5 (without_front rest)) (codes "false") then (false, drop 5 (without_front rest))
    else (false, rest)

-- nothing, or a colon with a form of a value
unfoldable pub control_value : List ℕ → Result (Option (List ℕ)) LdifFaultKind
control_value [] = Ok None
control_value (b ∷ bs) = if b == colon then (form_of bs >>= λ value. Ok (Some value)) else Err Word

unfoldable pub control_of : List ℕ → Result Control LdifFaultKind
control_of text =
    if oid_len text == 0 then Err Word else do
      value ← control_value (without_front (criticality (drop (oid_len text) text)).1)
      Ok (record { oid = take (oid_len text) text; critical = (criticality (drop (oid_len text) text)).0; value = value })
