-- The forms in which a key has its members, kept and lent.
use Rattle.std.specs.Prelude.{true, false, [], ◌∷◌}
use Rattle.std.specs.Ordering.{nat_cmp}
use Rattle.std.specs.FinSet as set
use Rattle.dense_sets.specs.declared.forms.Form.{Form}
use Rattle.dense_sets.specs.declared.forms.Form.TheVariants.{Empty, One, List, Words}
use Rattle.dense_sets.specs.declared.forms.Lent.{Lent}
use Rattle.dense_sets.specs.declared.forms.Lent.TheVariants.{List as LentList, Words as LentWords}
use Rattle.id_sets.specs.Ascending.{IsAscending}
use Rattle.dense_sets.specs.Keys.{Kept}

-- what a form is seen as
abbrev pub kept_as : Form → Kept
kept_as Empty = record { members = set.empty; is_words = false }
kept_as (One id) = record { members = set.from_list (id ∷ []); is_words = false }
kept_as (List list) = record { members = list.value; is_words = false }
kept_as (Words words) = record { members = words.value; is_words = true }

abbrev pub members_of : Form → set.FinSet nat_cmp
members_of form = (kept_as form).members

-- the same of what is lent
abbrev pub lent_as : Lent → Kept
lent_as (LentList ids) = record { members = set.from_list ids.now; is_words = false }
lent_as (LentWords words) = record { members = words.now; is_words = true }

-- a list that is lent is ascending
abbrev pub IsInOrder : Lent → Type 0
IsInOrder (LentList ids) = IsAscending ids.now
IsInOrder (LentWords _) = Unit {0}
