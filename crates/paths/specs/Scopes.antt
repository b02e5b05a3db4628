-- Scopes (RFC 4511, 4.5.1.2).
use Rattle.std.specs.Prelude.{ℕ, ◌+◌, Bool, true, not, ◌&&◌, ◌==◌, length}
use Rattle.paths.specs.Paths.{Path, begins}
use Rattle.paths.specs.declared.scope.Scope.{Scope}
use Rattle.paths.specs.declared.scope.Scope.TheVariants.{Base, One, Sub, Children}

-- how deep an entry stands that the base begins: as deep as it, one deeper, anywhere, deeper
abbrev pub depth_fits : Scope → ℕ → ℕ → Bool
depth_fits Base base depth = depth == base
depth_fits One base depth = depth == base + 1
depth_fits Sub base depth = true
depth_fits Children base depth = not (depth == base)

-- whether an entry at the second path is in scope of the first
abbrev pub is_in_scope : Scope → Path → Path → Bool
is_in_scope scope base path = begins base path && depth_fits scope (length base) (length path)
