-- There is one place for a name, one entry there, and one block with an index.
use Rattle.std.proofs.Common.{◌≡◌, ℕ, List, take, Some, refl, ap, subst, ◌∙◌}
use Rattle.std.specs.List.{slice_get}
use Rattle.std.specs.FinMap as finite
use Rattle.ldif.specs.declared.record.Mod.{Mod}
use Rattle.ldif.specs.declared.record.Record.{Record}
use Rattle.paths.specs.Paths.{Path}
use Rattle.schema.specs.Conf.{Conf, located, path_of}
use Rattle.schema.specs.Rdns.{TypedRdn}
use Rattle.entries.specs.Entries.{Attributes, EntryContent}
use Rattle.tree.specs.Directories.{Entries}
use Rattle.reasons.specs.NameFlaws.{HasPlace, LeadsTo}
use Rattle.reasons.specs.BlockFlaws.{modified}
use Rattle.reasons.specs.Asked.{IsAt, IsAbout, name_of_record, blocks_of_record}
use Rattle.reasons.specs.Flaws.{IsBlock}
use Rattle.reasons.proofs.Elements.{only_some}
use Rattle.reasons.proofs.AvaAnswers.{only_ok}

pub only_path : (conf : Conf) (text : List ℕ) (rdns : List TypedRdn) (path : Path) → HasPlace conf text rdns → LeadsTo conf text path → path ≡ path_of conf rdns
only_path conf text rdns path here at = at.2 ∙ ap (path_of conf) (only_ok (located conf text) at.0 rdns at.1 here)

module _ (conf : Conf) (d : Entries) (r : Record) (rdns : List TypedRdn) (here : HasPlace conf (name_of_record r) rdns) where
  abbrev pub its_path : Path
  its_path = path_of conf rdns

  pub is_at : IsAt conf r its_path
  is_at = (rdns, here, refl)

  -- what is so of a path that its name leads to is so of this one
  pub of_path : (Q : Path → Type 0) (path : Path) → IsAt conf r path → Q path → Q its_path
  of_path Q path at h = subst Q (only_path conf (name_of_record r) rdns path here at) h

  module _ (e : EntryContent) (found : finite.get d its_path ≡ Some e) where
    pub is_about : IsAbout conf d r e
    is_about = (its_path, is_at, found)

    pub only_entry : (a : EntryContent) → IsAbout conf d r a → a ≡ e
    only_entry a h = only_some (finite.get d its_path) a e (of_path (λ path. finite.get d path ≡ Some a) h.0 h.1 h.2) found

    abbrev pub before_block : ℕ → Attributes
    before_block b = modified conf.types e.attrs (take b (blocks_of_record r))

    module _ (b : ℕ) (m : Mod) (block : slice_get (blocks_of_record r) b ≡ Some m) where
      pub is_block : IsBlock conf d r b m (before_block b)
      is_block = record { entry = e; about = is_about; block = block; before_is = refl }

      -- what is so of the block with this index is so of this one
      pub of_block : (Q : Mod → Attributes → Type 0) (n : Mod) (before : Attributes) → IsBlock conf d r b n before → Q n before → Q m (before_block b)
      of_block Q n before is h =
          let same : before ≡ before_block b = is.before_is ∙ ap (λ (a : EntryContent). modified conf.types a.attrs (take b (blocks_of_record r))) (only_entry is.entry is.about) in
          subst (Q m) same (subst (λ (o : Mod). Q o before) (only_some (slice_get (blocks_of_record r) b) n m is.block block) h)
