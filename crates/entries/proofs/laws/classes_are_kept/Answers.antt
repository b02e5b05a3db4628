use Rattle.entries.specs.Entries.{values_of}
use Rattle.entries.specs.EntryClasses.{named_classes}
use Rattle.entries.proofs.ClassLaw.{fits_is}
use Rattle.entries.proofs.laws.classes_are_kept.Goals as goal

pub returns : goal.returns
returns c = λ conf attrs is. fits_is conf attrs (λ d. c.superclasses_are_listed.ensures conf (named_classes conf.classes (values_of attrs 0)) d is)
