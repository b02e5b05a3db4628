-- Three truths, and how filters join them (RFC 4511, 4.5.1.7).
use Rattle.std.specs.Prelude.{Bool, true, false, List, if◌then◌else◌}
use Rattle.std.specs.List.{list_any}
use Rattle.filter.specs.declared.truth.Truth.{Truth}
use Rattle.filter.specs.declared.truth.Truth.TheVariants.{True, Undefined, False}

abbrev pub is_true : Truth → Bool
is_true True = true
is_true Undefined = false
is_true False = false

abbrev pub is_undefined : Truth → Bool
is_undefined True = false
is_undefined Undefined = true
is_undefined False = false

abbrev pub is_false : Truth → Bool
is_false True = false
is_false Undefined = false
is_false False = true

-- False if one is False, else Undefined if one is Undefined, else True
abbrev pub and_of : List Truth → Truth
and_of ts = if list_any is_false ts then False else (if list_any is_undefined ts then Undefined else True)

-- True if one is True, else Undefined if one is Undefined, else False
abbrev pub or_of : List Truth → Truth
or_of ts = if list_any is_true ts then True else (if list_any is_undefined ts then Undefined else False)

-- True and False swapped; Undefined stays
abbrev pub opposite : Truth → Truth
opposite True = False
opposite Undefined = Undefined
opposite False = True
