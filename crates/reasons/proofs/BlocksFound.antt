-- Flaws of blocks that are found.
use Rattle.std.proofs.Common.{◌≡◌, ◌≢◌, ℕ, zero, suc, ◌<◌, ◌≤◌, Bool, true, false, cond, not, ◌&&◌, List, [], ◌∷◌, ◌++◌, length, take, drop, map, get_or, Option, Some, None, Result, refl, sym, ap, subst, ◌∙◌, arith}
use Rattle.std.specs.Prelude.{nat_lt, is_some}
use Rattle.std.specs.FinMap as finite
use Rattle.std.specs.List.{slice_get}
use Rattle.std.proofs.lemmas.Bool.{lt-ltb}
use Rattle.std.proofs.lemmas.List.{append_assoc, length-map}
use Rattle.std.proofs.lemmas.List.Sums.{fold-append}
use Rattle.ldif.specs.declared.record.Mod.{Mod}
use Rattle.ldif.specs.declared.record.Mode.{Mode}
use Rattle.ldif.specs.declared.record.Op.{Op}
use Rattle.ldif.specs.declared.record.Op.TheVariants as ops
use Rattle.ldif.specs.declared.record.Record.{Record}
use Rattle.paths.specs.Paths.{Path}
use Rattle.values.specs.declared.types.AttributeType.{AttributeType}
use Rattle.values.specs.Types.{type_of, type_at, has_equality}
use Rattle.schema.specs.Conf.{Conf, path_of}
use Rattle.entries.specs.Entries.{Attributes, EntryContent, values_of}
use Rattle.entries.specs.Modifies.{has_values}
use Rattle.entries.specs.StoredEntries.{EntryAttribute, attributes_of}
use Rattle.entries.proofs.StoredLemmas.{values_raw}
use Rattle.values.specs.Values as stored
use Rattle.tree.specs.Directories.{Entries}
use Rattle.reasons.specs.declared.reason.BlockReason.{BlockReason}
use Rattle.reasons.specs.declared.reason.ValueReason.{ValueReason}
use Rattle.reasons.specs.declared.reason.Reason.{Reason}
use Rattle.reasons.specs.declared.reason.Reason.TheVariants as reasons
use Rattle.reasons.specs.BlockFlaws.{BlockFlaw, UnknownType, UsersCantChange, NoValues, NoEquality, NoAttribute, ValueFlaw, HasBlockFlaw, HasValueFlaw, IsOfType, Compares, after_block, modified, block_order}
use Rattle.reasons.specs.Asked.{IsAbout, blocks_of_record, name_of_record}
use Rattle.reasons.specs.Flaws.{Flaw, Block, Value, IsBlock, HasFlaw, value_checks, block_checks}
use Rattle.reasons.specs.Reasons.{flaw_of, block_flaw_of, value_flaw_of}
use Rattle.reasons.specs.inner.Changes.{LooksAt, operation_flaw, value_order}
use Rattle.reasons.specs.inner.Found.{FindsFirst, Leaves}
use Rattle.reasons.proofs.Elements.{only_some, is_none}
use Rattle.reasons.proofs.Finding.{here, passed, within, leaves_before, leaves_behind, element, split_at, none_left, at_place}
use Rattle.reasons.proofs.LinesFound.{take_one_more}
use Rattle.reasons.proofs.Places.{only_path}
use Rattle.reasons.proofs.RecordFound.{Found, differ, found_before, found_behind}

-- ---- a block before its values

nothing_there : {X : Type 0} (xs : List X) → has_values xs ≡ false → xs ≡ []
nothing_there [] h = refl
nothing_there (x ∷ xs) h = absurd (let some : has_values (x ∷ xs) ≡ true = lt-ltb 0 (suc (length xs)) (omega arith) in differ (has_values (x ∷ xs)) some h)

something_there : {X : Type 0} (xs : List X) → has_values xs ≡ true → xs ≢ []
something_there [] h e = absurd cc
something_there (x ∷ xs) h e = absurd cc

module _ (types : List AttributeType) (attrs : Attributes) (m : Mod) where
  abbrev Has : BlockFlaw → Type 0
  Has f = HasBlockFlaw types attrs m f

  pub unknown_block : type_of types m.attr ≡ None → FindsFirst Has block_order (Some UnknownType)
  unknown_block none = here Has UnknownType (UsersCantChange ∷ NoValues ∷ NoEquality ∷ NoAttribute ∷ []) none

  module _ (t : ℕ) (known : type_of types m.attr ≡ Some t) where
    of_type : (Q : ℕ → Type 0) (u : ℕ) → IsOfType types m u → Q u → Q t
    of_type Q u is h = subst Q (only_some (type_of types m.attr) u t is known) h

    behind_type : (o : Option BlockFlaw) → FindsFirst Has (UsersCantChange ∷ NoValues ∷ NoEquality ∷ NoAttribute ∷ []) o → FindsFirst Has block_order o
    behind_type o h = passed Has UnknownType (UsersCantChange ∷ NoValues ∷ NoEquality ∷ NoAttribute ∷ []) o (λ none. is_none (type_of types m.attr) t none known) h

    pub fixed_block : (type_at types t).is_fixed ≡ true → FindsFirst Has block_order (Some UsersCantChange)
    fixed_block is = behind_type (Some UsersCantChange) (here Has UsersCantChange (NoValues ∷ NoEquality ∷ NoAttribute ∷ []) (t, known, is))

    module _ (free : (type_at types t).is_fixed ≡ false) where
      behind_bar : (o : Option BlockFlaw) → FindsFirst Has (NoValues ∷ NoEquality ∷ NoAttribute ∷ []) o → FindsFirst Has block_order o
      behind_bar o h = behind_type o (passed Has UsersCantChange (NoValues ∷ NoEquality ∷ NoAttribute ∷ []) o (λ has. differ (type_at types t).is_fixed (of_type (λ u. (type_at types u).is_fixed ≡ true) has.0 has.1 has.2) free) h)

      abbrev old : List (List ℕ)
      old = values_of attrs t

      compared : Has NoEquality → Compares m.op old m.values × (has_equality types t ≡ false)
      compared h = (of_type (λ u. Compares m.op (values_of attrs u) m.values) h.0 h.1 h.2, of_type (λ u. has_equality types u ≡ false) h.0 h.1 h.3)

      absent : Has NoAttribute → old ≡ []
      absent h = of_type (λ u. values_of attrs u ≡ []) h.0 h.1 h.3

      -- an add with values, or one that doesn't compare
      adds : m.op ≡ ops.Add → (there some ruled : Bool) → has_values old ≡ there → has_values m.values ≡ some → has_equality types t ≡ ruled
          → FindsFirst Has block_order (cond (not some) (Some NoValues) (cond (there && not ruled) (Some NoEquality) None))
      adds op there false ruled is_there is_some is_ruled =
          behind_bar (Some NoValues) (here Has NoValues (NoEquality ∷ NoAttribute ∷ []) (op, nothing_there m.values is_some))
      adds op true true false is_there is_some is_ruled =
          behind_bar (Some NoEquality)
          (passed Has NoValues (NoEquality ∷ NoAttribute ∷ []) (Some NoEquality) (λ has. something_there m.values is_some has.1)
          (here Has NoEquality (NoAttribute ∷ []) (t, known, subst (λ (o : Op). Compares o old m.values) (sym op) (something_there old is_there), is_ruled)))
      adds op true true true is_there is_some is_ruled =
          behind_bar None
          (passed Has NoValues (NoEquality ∷ NoAttribute ∷ []) None (λ has. something_there m.values is_some has.1)
          (passed Has NoEquality (NoAttribute ∷ []) None (λ has. differ (has_equality types t) is_ruled (compared has).1)
          (passed Has NoAttribute [] None (λ has. let two = sym op ∙ has.2 in absurd cc) tt)))
      adds op false true ruled is_there is_some is_ruled =
          behind_bar None
          (passed Has NoValues (NoEquality ∷ NoAttribute ∷ []) None (λ has. something_there m.values is_some has.1)
          (passed Has NoEquality (NoAttribute ∷ []) None (λ has. (let k : old ≢ [] = subst (λ (o : Op). Compares o old m.values) op (compared has).0 in k) (nothing_there old is_there))
          (passed Has NoAttribute [] None (λ has. let two = sym op ∙ has.2 in absurd cc) tt)))

      not_added : m.op ≡ ops.Delete → (o : Option BlockFlaw) → FindsFirst Has (NoEquality ∷ NoAttribute ∷ []) o → FindsFirst Has block_order o
      not_added op o h = behind_bar o (passed Has NoValues (NoEquality ∷ NoAttribute ∷ []) o (λ has. let two = sym op ∙ has.0 in absurd cc) h)

      has_something : (there : Bool) → has_values old ≡ there → m.op ≡ ops.Delete → FindsFirst Has (NoAttribute ∷ []) (cond (not there) (Some NoAttribute) None)
      has_something true is op = passed Has NoAttribute [] None (λ has. something_there old is (absent has)) tt
      has_something false is op = here Has NoAttribute [] (t, known, op, nothing_there old is)

      deletes : m.op ≡ ops.Delete → (there some ruled : Bool) → has_values old ≡ there → has_values m.values ≡ some → has_equality types t ≡ ruled
          → FindsFirst Has block_order (cond (some && not ruled) (Some NoEquality) (cond (not there) (Some NoAttribute) None))
      deletes op there true false is_there is_some is_ruled =
          not_added op (Some NoEquality) (here Has NoEquality (NoAttribute ∷ []) (t, known, subst (λ (o : Op). Compares o old m.values) (sym op) (something_there m.values is_some), is_ruled))
      deletes op there true true is_there is_some is_ruled =
          not_added op (cond (not there) (Some NoAttribute) None)
          (passed Has NoEquality (NoAttribute ∷ []) (cond (not there) (Some NoAttribute) None) (λ has. differ (has_equality types t) is_ruled (compared has).1) (has_something there is_there op))
      deletes op there false ruled is_there is_some is_ruled =
          not_added op (cond (not there) (Some NoAttribute) None)
          (passed Has NoEquality (NoAttribute ∷ []) (cond (not there) (Some NoAttribute) None)
          (λ has. (let k : m.values ≢ [] = subst (λ (o : Op). Compares o old m.values) op (compared has).0 in k) (nothing_there m.values is_some)) (has_something there is_there op))

      replaces : m.op ≡ ops.Replace → FindsFirst Has block_order None
      replaces op =
          behind_bar None
          (passed Has NoValues (NoEquality ∷ NoAttribute ∷ []) None (λ has. let two = sym op ∙ has.0 in absurd cc)
          (passed Has NoEquality (NoAttribute ∷ []) None (λ has. let k : ⊥ = subst (λ (o : Op). Compares o old m.values) op (compared has).0 in k)
          (passed Has NoAttribute [] None (λ has. let two = sym op ∙ has.2 in absurd cc) tt)))

      pub operated : (op : Op) → m.op ≡ op → (there some : Bool) → has_values old ≡ there → has_values m.values ≡ some → FindsFirst Has block_order (operation_flaw types t op there some)
      operated ops.Add op there some is_there is_some = adds op there some (has_equality types t) is_there is_some refl
      operated ops.Delete op there some is_there is_some = deletes op there some (has_equality types t) is_there is_some refl
      operated ops.Replace op there some is_there is_some = replaces op

-- ---- in a record

module _ (conf : Conf) (mode : Mode) (d : Entries) (r : Record) where
  abbrev HasIt : Flaw → Type 0
  HasIt f = HasFlaw conf mode d r f

  pub only_entry_about : (e a : EntryContent) → IsAbout conf d r e → IsAbout conf d r a → a ≡ e
  only_entry_about e a is other =
      let path_is : is.0 ≡ path_of conf is.1.0 = is.1.2 in
      let same : other.0 ≡ is.0 = only_path conf (name_of_record r) is.1.0 other.0 is.1.1 other.1 ∙ sym path_is in
      only_some (finite.get d is.0) a e (subst (λ (p : Path). finite.get d p ≡ Some a) same other.2) is.2

  module _ (b : ℕ) (m : Mod) (before : Attributes) (block : IsBlock conf d r b m before) where
    -- what is so of the block with this index is so of this one
    of_block : (Q : Mod → Attributes → Type 0) (n : Mod) (attrs : Attributes) → IsBlock conf d r b n attrs → Q n attrs → Q m before
    of_block Q n attrs is h =
        let same_entry : is.entry ≡ block.entry = only_entry_about block.entry is.entry block.about is.about in
        let same_attrs : attrs ≡ before = is.before_is ∙ ap (λ (a : EntryContent). modified conf.types a.attrs (take b (blocks_of_record r))) same_entry ∙ sym block.before_is in
        subst (Q m) same_attrs (subst (λ (o : Mod). Q o attrs) (only_some (slice_get (blocks_of_record r) b) n m is.block block.block) h)

    to_block : (f : BlockFlaw) → HasBlockFlaw conf.types before m f → HasIt (Block b f)
    to_block f h = (m, before, block, h)

    from_block : (f : BlockFlaw) → HasIt (Block b f) → HasBlockFlaw conf.types before m f
    from_block f h = of_block (λ n attrs. HasBlockFlaw conf.types attrs n f) h.0 h.1 h.2 h.3

    pub block_found : (fs : List Flaw) (why : BlockReason) → FindsFirst (HasBlockFlaw conf.types before m) block_order (Some (block_flaw_of why)) → Found conf mode d r (map (Block b) block_order ++ fs) (Some (reasons.Block b why))
    block_found fs why h =
        found_before conf mode d r (map (Block b) block_order) fs (reasons.Block b why)
        (record { first = within (HasBlockFlaw conf.types before m) HasIt (Block b) to_block from_block block_order (Some (block_flaw_of why)) h; so = tt })

    pub block_fine : (fs : List Flaw) (found : Option Reason) → FindsFirst (HasBlockFlaw conf.types before m) block_order None → Found conf mode d r fs found → Found conf mode d r (map (Block b) block_order ++ fs) found
    block_fine fs found h is =
        found_behind conf mode d r (map (Block b) block_order) fs found
        (record { first = within (HasBlockFlaw conf.types before m) HasIt (Block b) to_block from_block block_order None h; so = tt }) is

    -- ---- its values

    module _ (i : ℕ) (lt : i < length m.values) (left : Leaves HasIt (value_checks b 0 m.values) (value_checks b i (drop i m.values))) where
      to_value : (f : ValueFlaw) → HasValueFlaw conf.types before m i f → HasIt (Value b i f)
      to_value f h = (m, before, block, h)

      from_value : (f : ValueFlaw) → HasIt (Value b i f) → HasValueFlaw conf.types before m i f
      from_value f h = of_block (λ n attrs. HasValueFlaw conf.types attrs n i f) h.0 h.1 h.2 h.3

      these : Leaves HasIt (value_checks b 0 m.values) (map (Value b i) value_order ++ value_checks b (suc i) (drop (suc i) m.values))
      these = subst (λ (vs : List (List ℕ)). Leaves HasIt (value_checks b 0 m.values) (value_checks b i vs)) (let k = element m.values i lt in split_at m.values i k.0 lt k.1) left

      pub value_found : (why : ValueReason) → FindsFirst (HasValueFlaw conf.types before m i) value_order (Some (value_flaw_of why)) → Found conf mode d r (value_checks b 0 m.values) (Some (reasons.Value b i why))
      value_found why h = record {
        first =
            leaves_before HasIt (value_checks b 0 m.values) (map (Value b i) value_order) (value_checks b (suc i) (drop (suc i) m.values)) (Value b i (value_flaw_of why)) these
            (within (HasValueFlaw conf.types before m i) HasIt (Value b i) to_value from_value value_order (Some (value_flaw_of why)) h);
        so = tt;
      }

      pub value_passed : FindsFirst (HasValueFlaw conf.types before m i) value_order None → Leaves HasIt (value_checks b 0 m.values) (value_checks b (suc i) (drop (suc i) m.values))
      value_passed h =
          leaves_behind HasIt (value_checks b 0 m.values) (map (Value b i) value_order) (value_checks b (suc i) (drop (suc i) m.values)) these
          (within (HasValueFlaw conf.types before m i) HasIt (Value b i) to_value from_value value_order None h)

    pub values_done : (i : ℕ) → length m.values ≤ i → Leaves HasIt (value_checks b 0 m.values) (value_checks b i (drop i m.values)) → Found conf mode d r (value_checks b 0 m.values) None
    values_done i le left = record { first = left None (subst (λ (vs : List (List ℕ)). FindsFirst HasIt (value_checks b i vs) None) (sym (none_left m.values i le)) tt); so = tt }

  -- ---- block by block

  module _ (blocks : List Mod) (i : ℕ) (m : Mod) (lt : i < length blocks) (is : m ≡ get_or blocks i m) (left : Leaves HasIt (block_checks 0 blocks) (block_checks i (drop i blocks))) where
    abbrev whole : List Flaw
    whole = map (Block i) block_order ++ value_checks i 0 m.values

    those : Leaves HasIt (block_checks 0 blocks) (whole ++ block_checks (suc i) (drop (suc i) blocks))
    those =
        subst (λ (fs : List Flaw). Leaves HasIt (block_checks 0 blocks) fs) (sym (append_assoc (map (Block i) block_order) (value_checks i 0 m.values) (block_checks (suc i) (drop (suc i) blocks))))
        (subst (λ (ms : List Mod). Leaves HasIt (block_checks 0 blocks) (block_checks i ms)) (split_at blocks i m lt is) left)

    pub whole_found : (found : Option Reason) → is_some found ≡ true → Found conf mode d r whole found → Found conf mode d r (block_checks 0 blocks) found
    whole_found None some h = absurd cc
    whole_found (Some reason) some h = record { first = leaves_before HasIt (block_checks 0 blocks) whole (block_checks (suc i) (drop (suc i) blocks)) (flaw_of reason) those h.first; so = h.so }

    pub whole_passed : (found : Option Reason) → is_some found ≡ false → Found conf mode d r whole found → Leaves HasIt (block_checks 0 blocks) (block_checks (suc i) (drop (suc i) blocks))
    whole_passed None none h = leaves_behind HasIt (block_checks 0 blocks) whole (block_checks (suc i) (drop (suc i) blocks)) those h.first
    whole_passed (Some reason) none h = absurd cc

  pub blocks_done : (blocks : List Mod) (i : ℕ) → length blocks ≤ i → Leaves HasIt (block_checks 0 blocks) (block_checks i (drop i blocks)) → Found conf mode d r (block_checks 0 blocks) None
  blocks_done blocks i le left = record { first = left None (subst (λ (ms : List Mod). FindsFirst HasIt (block_checks i ms) None) (sym (none_left blocks i le)) tt); so = tt }

-- one more block
pub modified_more : (types : List AttributeType) (attrs after : Attributes) (blocks : List Mod) (i : ℕ) (m : Mod) → i < length blocks → m ≡ get_or blocks i m
    → after ≡ after_block types (modified types attrs (take i blocks)) m → after ≡ modified types attrs (take (suc i) blocks)
modified_more types attrs after blocks i m lt is after_is =
    after_is
    ∙ sym (ap (λ (ms : List Mod). modified types attrs ms) (take_one_more blocks i m (at_place blocks i m lt is)) ∙ fold-append (after_block types) attrs (take i blocks) (m ∷ []))

pub all_taken : {X : Type 0} (xs : List X) (i : ℕ) → length xs ≤ i → take i xs ≡ xs
all_taken [] zero le = refl
all_taken [] (suc i) le = refl
all_taken (x ∷ xs) zero le = absurd (omega (arith, le))
all_taken {X} (x ∷ xs) (suc i) le = ap (λ (ys : List X). x ∷ ys) (all_taken xs i (omega (arith, le)))

-- ---- as calls know them

pub there_is_some : (types : List AttributeType) (es : List EntryAttribute) (t : ℕ) (b : Bool) → b ≡ has_values (values_of es t) → has_values (values_of (attributes_of es) t) ≡ b
there_is_some types es t b is = ap has_values (values_raw types t es) ∙ ap (λ (n : ℕ). nat_lt 0 n) (length-map (values_of es t) (λ (v : stored.Value). v.raw)) ∙ sym is

pub block_is : (types : List AttributeType) (attrs : Attributes) (m : Mod) (o p : Option BlockFlaw) → o ≡ p → FindsFirst (HasBlockFlaw types attrs m) block_order p → FindsFirst (HasBlockFlaw types attrs m) block_order o
block_is types attrs m o p is h = subst (FindsFirst (HasBlockFlaw types attrs m) block_order) (sym is) h

pub looks_is : (types : List AttributeType) (ds es : List EntryAttribute) (m : Mod) (o p : Result ℕ BlockReason) → ds ≡ es → o ≡ p → LooksAt types (attributes_of ds) m o → LooksAt types (attributes_of es) m p
looks_is types ds es m o p same is h = subst (λ (xs : List EntryAttribute). LooksAt types (attributes_of xs) m p) same (subst (LooksAt types (attributes_of ds) m) is h)

-- the block with an index, where the attributes are those behind the blocks before it
pub block_here : (conf : Conf) (d : Entries) (r : Record) (e : EntryContent) (blocks : List Mod) (i : ℕ) (m : Mod) (before : Attributes) → IsAbout conf d r e → blocks ≡ blocks_of_record r → i < length blocks → m ≡ get_or blocks i m
    → before ≡ modified conf.types e.attrs (take i blocks) → IsBlock conf d r i m before
block_here conf d r e blocks i m before about same lt is are = record {
  entry = e;
  about = about;
  block = ap (λ (ms : List Mod). slice_get ms i) (sym same) ∙ at_place blocks i m lt is;
  before_is = are ∙ ap (λ (ms : List Mod). modified conf.types e.attrs (take i ms)) same;
}
