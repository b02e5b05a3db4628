-- Values of DN syntax (RFC 4517, 3.3.9) under another suffix.
use Rattle.std.specs.Prelude.{ℕ, zero, suc, ◌+◌, Bool, true, false, ◌==◌, ◌&&◌, List, [], ◌∷◌, ◌++◌, length, take, drop, slice_index, Option, None, Some, Result, Ok, Err, if◌then◌else◌}
use Rattle.base.specs.Ascii.{comma}
use Rattle.dn.specs.Names as names
use Rattle.paths.specs.Paths.{Path, is_root}
use Rattle.schema.specs.declared.code.Code.{Code}
use Rattle.schema.specs.Names.{name_in}
use Rattle.schema.specs.Conf.{Conf, path_of_text}

-- ---- where the suffix begins in a name

abbrev pub is_at_root : Result Path Code → Bool
is_at_root (Ok p) = is_root p
is_at_root (Err code) = false

-- whether a text is the suffix's own name, in whatever spelling
unfoldable pub is_suffix : Conf → List ℕ → Bool
is_suffix conf text = is_at_root (path_of_text conf text)

abbrev pub is_some_name : Result names.Name Code → Bool
is_some_name (Ok []) = false
is_some_name (Ok (r ∷ rs)) = true
is_some_name (Err code) = false

-- whether a text spells RDNs, one or more
unfoldable pub has_rdns : List ℕ → Bool
has_rdns text = is_some_name (name_in text)

-- whether a comma stands at this index, the suffix's own name behind it, and RDNs before it
unfoldable pub is_cut : Conf → List ℕ → ℕ → Bool
is_cut conf text at = slice_index text at == comma && (is_suffix conf (drop (at + 1) text) && has_rdns (take at text))

-- what stands before the last such comma, of those that stand before an index
unfoldable pub front_before : Conf → List ℕ → ℕ → Option (List ℕ)
front_before conf text zero = None
front_before conf text (suc at) = if is_cut conf text at then Some (take at text) else front_before conf text at

-- the RDNs of a name below the suffix, as they are written
abbrev pub front_of : Conf → List ℕ → Option (List ℕ)
front_of conf text = front_before conf text (length text)

-- ---- another name in place of the suffix

-- RDNs, and behind them the name
abbrev pub put_below : List ℕ → List ℕ → Option (List ℕ) → List ℕ
put_below name value None = value
put_below name value (Some front) = front ++ comma ∷ name

abbrev pub moved_below : Conf → List ℕ → List ℕ → List ℕ
moved_below conf name value = put_below name value (front_of conf value)

-- by where the value stands: at the suffix, below it, or nowhere
abbrev pub moved_from : Conf → List ℕ → List ℕ → Result Path Code → List ℕ
moved_from conf name value (Ok p) = if is_root p then name else moved_below conf name value
moved_from conf name value (Err code) = value

-- A value that is the name of something at the suffix or below it, in whatever spelling, has this name in place of the suffix; what stands before
-- it stays as it is written. Any other value stays.
unfoldable pub moved_value : Conf → List ℕ → List ℕ → List ℕ
moved_value conf name value = moved_from conf name value (path_of_text conf value)
