-- What the parts of a search of a list say.
use Rattle.std.specs.Prelude.{◌≡◌, ℕ, ◌-◌, Bool, true, false, List, length, take, if◌then◌else◌, map}
use Rattle.std.specs.Option.{option_copied}
use Rattle.std.specs.FinMap as finite
use Rattle.base.specs.Ascii.{carriage_return}
use Rattle.base.specs.Ends.{ends_with}
use Rattle.device.specs.Device.{Written}
use Rattle.tree.specs.Trees.{Tree}
use Rattle.command_line.specs.declared.request.SearchOptions.{SearchOptions}
use Rattle.commands.specs.Asked.{IsBase, IsSelection}
use Rattle.commands.specs.IndexFiles.{Said}
use Rattle.commands.specs.Lists.{comment, count_tail, Common}
use Rattle.commands.specs.Statuses.{goes_on}
use Rattle.commands.specs.declared.messages.Status.{Status}
use Rattle.commands.specs.declared.query.Form.{Form}
use Rattle.commands.specs.declared.query.Form.TheVariants.{Records, Count}
use Rattle.commands.specs.declared.query.Query.{Query}

-- a line without the CR at its end
abbrev pub without_return : List ℕ → List ℕ
without_return line = if ends_with carriage_return line then take (length line - 1) line else line

-- what is printed for a line whose filter has this text
abbrev pub line_form : Bool → List ℕ → List ℕ → Form
line_form true text line = Count (count_tail line)
line_form false text line = Records (comment text)

-- a query that is made for a list: it has the base, which is there, and the scope, the limit and the width that are asked for
pub record IsFrame (asked : SearchOptions) (t : Tree) (q : Query) : Type 0 where
  pub there : finite.contains_key t.entries q.base ≡ true
  pub scope : q.scope ≡ asked.scope
  pub limit : q.limit ≡ asked.limit
  pub width : q.width ≡ asked.width

-- so it is made anew, with what a list has in common
pub record HasFrame (asked : SearchOptions) (t : Tree) (q : Query) : Type 0 where
  pub frame : IsFrame asked t q
  pub base : IsBase t.conf (option_copied asked.base) q.base
  pub selection : IsSelection t.conf (map (λ w. w.now) asked.attributes.items) q.selection

-- it keeps all but its filter and its form
pub record IsKept (q q' : Query) : Type 0 where
  pub base : q'.base ≡ q.base
  pub scope : q'.scope ≡ q.scope
  pub selection : q'.selection ≡ q.selection
  pub limit : q'.limit ≡ q.limit
  pub width : q'.width ≡ q.width

abbrev pub common_of : Said → Tree → Query → Common
common_of said t q = record { conf = t.conf; entries = t.entries; said = said; base = q.base; selection = q.selection }

-- the output didn't fail, and standard error didn't where a line ended so that a list may go on
pub record CanGoOn (a a' b b' : Written) (s : Status) : Type 0 where
  pub output : a'.failed ≡ a.failed
  pub messages : goes_on true s ≡ true → b'.failed ≡ b.failed
