-- What is kept of refused records that were to add entries.
use Rattle.std.proofs.Common.{◌≡◌, ℕ, Bool, true, false, Option, Some, ◌&&◌, not, cond, is_some, if◌then◌else◌, refl, sym, ap, nat_eq, ◌∙◌}
use Rattle.std.specs.Cmp.Lexicographic.{pointwise}
use Rattle.paths.specs.Paths.{Path}
use Rattle.paths.specs.Packed.{pack}
use Rattle.sentences.specs.Missing.{RefusedLines}
use Rattle.sentences.specs.RefusedAdds.{with_line}

abbrev chosen : Bool → Bool → ℕ → Option ℕ → Option ℕ
chosen same there line other = if same && not there then Some line else other

chosen-there : (same : Bool) (line : ℕ) (other : Option ℕ) → other ≡ chosen same true line other
chosen-there true line other = refl
chosen-there false line other = refl

chosen-missing : (same : Bool) (line : ℕ) (other : Option ℕ) → cond same (Some line) other ≡ chosen same false line other
chosen-missing true line other = refl
chosen-missing false line other = refl

-- where one is kept for the path, it stays
pub kept_already : (lines : RefusedLines) (path : Path) (line : ℕ) → is_some (lines path) ≡ true → (other : Path) → lines other ≡ with_line lines path line other
kept_already lines path line there other =
    chosen-there (pointwise nat_eq (pack path) (pack other)) line (lines other)
    ∙ ap (λ (b : Bool). chosen (pointwise nat_eq (pack path) (pack other)) b line (lines other)) (sym there)

-- else this one is kept
pub kept_new : (lines : RefusedLines) (path : Path) (line : ℕ) → is_some (lines path) ≡ false → (other : Path)
    → cond (pointwise nat_eq (pack path) (pack other)) (Some line) (lines other) ≡ with_line lines path line other
kept_new lines path line missing other =
    chosen-missing (pointwise nat_eq (pack path) (pack other)) line (lines other)
    ∙ ap (λ (b : Bool). chosen (pointwise nat_eq (pack path) (pack other)) b line (lines other)) (sym missing)
