-- What the whole of a dir.conf says with more definitions behind it: they add types and classes, and no fault of their own.
use Rattle.std.specs.Prelude.{◌≡◌, ◌⊎◌, ℕ, true, false, List, [], ◌∷◌, ◌++◌, Ok, Err, codes}
use Rattle.std.specs.List.{Contains}
use Rattle.definitions.specs.declared.lines.Line.{Line}
use Rattle.definitions.specs.Lines.{lines_of}
use Rattle.values.specs.declared.types.AttributeType.{AttributeType}
use Rattle.schema.specs.declared.object_class.ObjectClass.{ObjectClass}
use Rattle.schema.specs.Conf.{Conf}
use Rattle.dir_conf.specs.declared.conf_fault.ConfFaultKind.{ConfFaultKind}
use Rattle.dir_conf.specs.declared.conf_fault.ConfFaultKind.TheVariants.{Suffix}
use Rattle.dir_conf.specs.Configurations.{is_first, conf_of}
use Rattle.dir_conf.specs.FaultyLines.{has_suffix}

abbrev pub empty_line : ℕ → Line
empty_line n = record { number = n; text = [] }

-- the lines of a text stand in front of those of another one, each as it is, but for an empty line at the end
pub record StandInFront (text whole : List ℕ) : Type 0 where
  pub front : List Line
  pub more : List Line
  pub own : (lines_of text ≡ front) ⊎ ((n : ℕ) × (lines_of text ≡ front ++ empty_line n ∷ []))
  pub all : lines_of whole ≡ front ++ more

-- a configuration with more types and classes; its suffix and its slots are the same, and so are the numbers of its types and classes
pub record IsGrown (conf grown : Conf) : Type 0 where
  pub suffix : grown.suffix ≡ conf.suffix
  pub slots : grown.slots ≡ conf.slots
  pub types : (more : List AttributeType) × (grown.types ≡ conf.types ++ more)
  pub classes : (more : List ObjectClass) × (grown.classes ≡ conf.classes ++ more)

-- a suffix or indexes stand on a line of the text with this number
pub record StandsLater (text : List ℕ) (number : ℕ) : Type 0 where
  pub line : Line
  pub stands : Contains (lines_of text) line
  pub number_is : number ≡ line.number
  pub later : (is_first (codes "suffix") line.text ≡ true) ⊎ (is_first (codes "index") line.text ≡ true)

-- no suffix stands in the dir.conf, which is told with no line
pub record IsWithoutSuffix (conf : List ℕ) (number : ℕ) (kind : ConfFaultKind) : Type 0 where
  pub no_suffix : has_suffix (lines_of conf) ≡ false
  pub number_is : number ≡ 0
  pub kind_is : kind ≡ Suffix

-- that, or a line of a suffix or of indexes in the dir.conf is at fault
abbrev pub IsFaultOfOwn : List ℕ → ℕ → ConfFaultKind → Type 0
IsFaultOfOwn conf number kind = IsWithoutSuffix conf number kind ⊎ StandsLater conf number

-- What is read of a text that begins with a dir.conf, whose lines stay. Each fault is of one of these, or of all. Where these say a configuration, it
-- has only grown.
pub record IsReadBehind (conf text : List ℕ) : Type 0 where
  pub lines : StandInFront conf text
  pub faults : (number : ℕ) (kind : ConfFaultKind) → conf_of text ≡ Err (number, kind) → IsFaultOfOwn conf number kind
  pub grows : (was : Conf) → conf_of conf ≡ Ok was → (grown : Conf) × (conf_of text ≡ Ok grown) × IsGrown was grown
