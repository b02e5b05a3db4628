-- What a call leaves that stops while it puts something at the end of a list.
use Rattle.std.specs.Prelude.{◌≡◌, List, length, take}

-- what was there stands in front, and perhaps more behind it
abbrev pub Extends : {A : Type 0} → List A → List A → Type 0
Extends before after = take (length before) after ≡ before
