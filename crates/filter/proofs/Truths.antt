-- Truths one by one.
use Rattle.std.proofs.Common.{◌≡◌, Bool, true, false, cond, List, ◌∷◌, refl}
use Rattle.std.specs.List.{list_any}
use Rattle.filter.specs.declared.truth.Truth.{Truth}
use Rattle.filter.specs.declared.truth.Truth.TheVariants.{True, Undefined, False}
use Rattle.filter.specs.Truths.{and_of, or_of, opposite, is_false, is_true, is_undefined}

-- the lesser of two truths
abbrev pub lesser : Truth → Truth → Truth
lesser True y = y
lesser False y = False
lesser Undefined False = False
lesser Undefined True = Undefined
lesser Undefined Undefined = Undefined

-- the greater
abbrev pub greater : Truth → Truth → Truth
greater False y = y
greater True y = True
greater Undefined True = True
greater Undefined False = Undefined
greater Undefined Undefined = Undefined

and_undefined : (a b : Bool) → cond a False (cond true Undefined True) ≡ lesser Undefined (cond a False (cond b Undefined True))
and_undefined true b = refl
and_undefined false true = refl
and_undefined false false = refl

pub and_of_more : (t : Truth) (ts : List Truth) → and_of (t ∷ ts) ≡ lesser t (and_of ts)
and_of_more True ts = refl
and_of_more False ts = refl
and_of_more Undefined ts = and_undefined (list_any is_false ts) (list_any is_undefined ts)

or_undefined : (a b : Bool) → cond a True (cond true Undefined False) ≡ greater Undefined (cond a True (cond b Undefined False))
or_undefined true b = refl
or_undefined false true = refl
or_undefined false false = refl

pub or_of_more : (t : Truth) (ts : List Truth) → or_of (t ∷ ts) ≡ greater t (or_of ts)
or_of_more False ts = refl
or_of_more True ts = refl
or_of_more Undefined ts = or_undefined (list_any is_true ts) (list_any is_undefined ts)

pub twice : (t : Truth) → opposite (opposite t) ≡ t
twice True = refl
twice Undefined = refl
twice False = refl
