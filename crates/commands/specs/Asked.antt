-- What the words of search and slapcat ask for: a filter, a base and attributes.
use Rattle.std.specs.Prelude.{◌≡◌, ◌↔◌, ℕ, ◌<◌, List, [], length, Option, None, Some, Result, Ok, codes, unwrap_or}
use Rattle.base.specs.Answers.{◌>>=◌}
use Rattle.paths.specs.Paths.{Path}
use Rattle.schema.specs.Conf.{Conf, located, path_of}
use Rattle.schema.specs.declared.code.Code.{Code}
use Rattle.filter_text.specs.Depth.{IsShallow, IsDeepAt}
use Rattle.filter_text.specs.Faults.{BeginsAt}
use Rattle.filter_text.specs.Spells.{FilterContent, FilterText}
use Rattle.filter_text.specs.declared.filter_fault.FilterFault.{FilterFault}
use Rattle.filter_text.specs.declared.filter_fault.FilterFault.TheVariants.{At}
use Rattle.filter_text.specs.declared.filter_fault.FilterFaultKind.TheVariants.{Deep}
use Rattle.databases.specs.Selections.{Selection, selects, is_selected}

-- ---- the filter (RFC 4515)

-- the text of a filter that is True of every entry, since each has an object class (RFC 4512, 2.4)
abbrev pub any_entry : List ℕ
any_entry = codes "(objectClass=*)"

-- the filter that the text spells, and that isn't too deep; without a text, the filter that is True of every entry
abbrev pub IsFilter : Option (List ℕ) → FilterContent → Type 0
IsFilter text f = FilterText f (unwrap_or text any_entry) × IsShallow (unwrap_or text any_entry)

-- there is one
abbrev pub HasFilter : Option (List ℕ) → Type 0
HasFilter text = (f : FilterContent) × IsFilter text f

-- there is none
abbrev pub IsNoFilter : Option (List ℕ) → Type 0
IsNoFilter text = (f : FilterContent) → ¬ (IsFilter text f)

-- what is reported of a text that spells none: where it is too deep, exactly that; else a place, and the bytes before it begin one
pub record IsNoFilterFor (text : Option (List ℕ)) (fault : FilterFault) : Type 0 where
  pub none : IsNoFilter text
  pub deep : (at : ℕ) → IsDeepAt (unwrap_or text any_entry) at ↔ (fault ≡ At at Deep)
  pub front : BeginsAt (unwrap_or text any_entry) fault

-- ---- the base (RFC 4514)

-- the path of the entry with this name, or the code where there can be none; without a name, the path of the suffix's entry
abbrev pub base_of : Conf → Option (List ℕ) → Result Path Code
base_of conf None = Ok []
base_of conf (Some name) = located conf name >>= λ rs. Ok (path_of conf rs)

abbrev pub IsBase : Conf → Option (List ℕ) → Path → Type 0
IsBase conf name base = base_of conf name ≡ Ok base

-- ---- the attributes (RFC 4511, 4.5.1.8)

-- of each type of the configuration, it says whether these words ask for it
abbrev pub IsSelection : Conf → List (List ℕ) → Selection → Type 0
IsSelection conf words s = (t : ℕ) → t < length conf.types → selects s t ≡ is_selected conf.types words t
