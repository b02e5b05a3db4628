-- What stays where a source is read, or can't be.
use Rattle.std.proofs.Common.{◌≡◌, ◌∙◌, ℕ, Bool, List, Option, Some, None, refl, ap}
use Rattle.std.specs.Prelude.{if◌then◌else◌}
use Rattle.device.specs.Device.{Seen}
use Rattle.commands.specs.Changes.{IsSource}
use Rattle.commands.specs.Texts.{ReadsAtMost}
use Rattle.commands.specs.Worlds.{World}

-- the input, or the file of this name
abbrev pub named : List ℕ → Bool → Option (List ℕ)
named name is_input = if is_input then None else Some name

pub nothing_read : (file : Option (List ℕ)) (w : World) → ReadsAtMost file w w
nothing_read None w = refl
nothing_read (Some name) w = refl

-- no file changed
pub same_files : (file : Option (List ℕ)) (w w' : World) → ReadsAtMost file w w' → w'.files ≡ w.files
same_files None w w' stays = ap (λ (v : World). v.files) stays
same_files (Some name) w w' stays = ap (λ (v : World). v.files) stays

-- what was read of a source is at most read
pub source_read : (file : Option (List ℕ)) (w w' : World) (source source' : Seen) → IsSource file w w' source source' → w' ≡ record w { input = w'.input } → ReadsAtMost file w w'
source_read None w w' source source' is stays = stays
source_read (Some name) w w' source source' is stays = stays ∙ ap (λ (input : Seen). record w { input = input }) is.1
