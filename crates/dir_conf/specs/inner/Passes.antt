-- What going through the lines of a configuration comes to, where flaws are looked for.
use Rattle.std.specs.Prelude.{◌≡◌, Bool, true, false, ◌⊎◌, is_some, List, ◌∷◌, ◌++◌, Option, Some, None, Ok}
use Rattle.definitions.specs.declared.lines.Line.{Line}
use Rattle.values.specs.declared.types.AttributeType.{AttributeType}
use Rattle.schema.specs.Conf.{Conf}
use Rattle.dir_conf.specs.declared.reason.ConfFlaw.TheVariants as flaws
use Rattle.dir_conf.specs.declared.explaining.FlawAt.{FlawAt}
use Rattle.dir_conf.specs.declared.explaining.Step.{Step}
use Rattle.dir_conf.specs.declared.explaining.Step.TheVariants.{Goes, Stops}
use Rattle.dir_conf.specs.declared.explaining.FirstPass.{FirstPass}
use Rattle.dir_conf.specs.declared.explaining.FirstPass.TheVariants as passes
use Rattle.dir_conf.specs.Configurations.{Defined, built_in, definition_line, defined_by, Found, none_found, found_in, conf_on_lines}
use Rattle.dir_conf.specs.inner.FoundFlaws.{TellsDefinition, TellsLater}
use Rattle.dir_conf.specs.inner.Views.{defined_view}

abbrev pub StepTells : Defined → Line → Step → Type 0
StepTells s l (Goes known) = definition_line s l ≡ Ok (defined_view known)
StepTells s l (Stops flaw) = TellsDefinition s l.text (Some flaw)

-- lines that define so much, and then one with a flaw
pub record FirstStops (lines : List Line) (found : FlawAt) : Type 0 where
  pub above : List Line
  pub bad : Line
  pub after : List Line
  pub is : lines ≡ above ++ bad ∷ after
  pub known : Defined
  pub known_is : defined_by built_in above ≡ Ok known
  pub number_is : found.line ≡ bad.number
  pub here : TellsDefinition known bad.text (Some found.flaw)

abbrev pub FirstTells : List Line → FirstPass → Type 0
FirstTells lines (passes.Defined known) = defined_by built_in lines ≡ Ok (defined_view known)
FirstTells lines (passes.Stopped found) = FirstStops lines found

-- lines without a flaw say so much, with a suffix or without
pub record AreFine (types : List AttributeType) (lines : List Line) (has_suffix : Bool) : Type 0 where
  pub found : Found
  pub found_is : found_in types none_found lines ≡ Ok found
  pub suffix_is : is_some found.suffix ≡ has_suffix

pub record SecondStops (types : List AttributeType) (lines : List Line) (flaw : FlawAt) : Type 0 where
  pub above : List Line
  pub bad : Line
  pub after : List Line
  pub is : lines ≡ above ++ bad ∷ after
  pub has_suffix : Bool
  pub fine : AreFine types above has_suffix
  pub number_is : flaw.line ≡ bad.number
  pub here : TellsLater types has_suffix bad.text (Some flaw.flaw)

-- all lines are fine, and one says a suffix; or none does; or one has a flaw
abbrev pub SecondTells : List AttributeType → List Line → Option FlawAt → Type 0
SecondTells types lines None = AreFine types lines true
SecondTells types lines (Some flaw) = SecondStops types lines flaw ⊎ (AreFine types lines false × (flaw.line ≡ 0) × (flaw.flaw ≡ flaws.NoSuffix))

abbrev pub LinesTell : List Line → Option FlawAt → Type 0
LinesTell lines None = (conf : Conf) × (conf_on_lines lines ≡ Ok conf)
LinesTell lines (Some flaw) = FirstStops lines flaw ⊎ ((s : Defined) × (defined_by built_in lines ≡ Ok s) × SecondTells s.types lines (Some flaw))
