-- Numbers of entries that a set gives, and their complement.
use Rattle.std.specs.Prelude.{Result, Ok, Err}
use Rattle.candidates.specs.declared.numbers.Numbers.{Numbers}
use Rattle.candidates.specs.declared.numbers.Numbers.TheVariants.{Only, AllBut}

-- the members of a set, where it was made
abbrev pub only : {S F : Type 0} → Result S F → Result (Numbers S) F
only (Ok s) = Ok (Only s)
only (Err e) = Err e

-- all but these, where it was made
abbrev pub all_but : {S F : Type 0} → Result S F → Result (Numbers S) F
all_but (Ok s) = Ok (AllBut s)
all_but (Err e) = Err e

-- all numbers but these
abbrev pub others : {S : Type 0} → Numbers S → Numbers S
others (Only s) = AllBut s
others (AllBut s) = Only s
