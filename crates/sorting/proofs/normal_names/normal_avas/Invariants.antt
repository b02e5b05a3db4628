use Rattle.std.proofs.Common.{◌≡◌, [], map, drop}
use Rattle.sorting.specs.NormalNames.{normal_ava, with_texts}
use Rattle.sorting.proofs.normal_names.normal_avas.Given as goal

abbrev pub invariant-loop-ava : goal.invariant-loop-ava
invariant-loop-ava l = with_texts l.texts.keys (map normal_ava (drop l.ava-index l.avas)) ≡ with_texts [] (map normal_ava l.fn.avas)
