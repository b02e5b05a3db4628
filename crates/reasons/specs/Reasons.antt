-- Why a record is refused, as it is told: the first of its flaws (RFC 4511, 4.6 to 4.9), and what that flaw is of.
use Rattle.std.specs.Prelude.{◌≡◌, ℕ, ◌<◌, true, false, take, length, List, Option, Some, None, Err}
use Rattle.std.specs.List.{Any, slice_get}
use Rattle.ldif.specs.Attrs.{Attr}
use Rattle.ldif.specs.declared.record.Control.{Control}
use Rattle.ldif.specs.declared.record.Mode.{Mode}
use Rattle.ldif.specs.declared.record.Record.{Record}
use Rattle.values.specs.Types.{type_at}
use Rattle.schema.specs.Conf.{Conf}
use Rattle.schema.specs.Classes.{class_of}
use Rattle.schema.specs.Rdns.{Ava}
use Rattle.schema.specs.FaultyNames as avas
use Rattle.schema.specs.FaultyNames.{AvaFlaw}
use Rattle.schema.specs.Superclasses.{has_number, is_required}
use Rattle.entries.specs.Entries.{Attributes, EntryContent, values_of}
use Rattle.entries.specs.EntryClasses.{has_type, is_allowed, classes_of, named_classes}
use Rattle.tree.specs.Directories.{Entries}
use Rattle.tree.specs.Operations.{controls_of, change_of}
use Rattle.reasons.specs.declared.reason.AvaReason.{AvaReason}
use Rattle.reasons.specs.declared.reason.AvaReason.TheVariants as ava_reasons
use Rattle.reasons.specs.declared.reason.NameReason.{NameReason}
use Rattle.reasons.specs.declared.reason.NameReason.TheVariants as name_reasons
use Rattle.reasons.specs.declared.reason.LineReason.{LineReason}
use Rattle.reasons.specs.declared.reason.LineReason.TheVariants as line_reasons
use Rattle.reasons.specs.declared.reason.BlockReason.{BlockReason}
use Rattle.reasons.specs.declared.reason.BlockReason.TheVariants as block_reasons
use Rattle.reasons.specs.declared.reason.ValueReason.{ValueReason}
use Rattle.reasons.specs.declared.reason.ValueReason.TheVariants as value_reasons
use Rattle.reasons.specs.declared.reason.EntryReason.{EntryReason}
use Rattle.reasons.specs.declared.reason.EntryReason.TheVariants as entry_reasons
use Rattle.reasons.specs.declared.reason.Reason.{Reason}
use Rattle.reasons.specs.declared.reason.Reason.TheVariants as reasons
use Rattle.reasons.specs.NameFlaws as name_flaws
use Rattle.reasons.specs.NameFlaws.{NameFlaw}
use Rattle.reasons.specs.LineFlaws as line_flaws
use Rattle.reasons.specs.LineFlaws.{LineFlaw, IsLine, SaysEqual}
use Rattle.reasons.specs.BlockFlaws as block_flaws
use Rattle.reasons.specs.BlockFlaws.{BlockFlaw, ValueFlaw}
use Rattle.reasons.specs.EntryFlaws as entry_flaws
use Rattle.reasons.specs.EntryFlaws.{EntryFlaw}
use Rattle.reasons.specs.Asked.{lines_of_record, IsToBe}
use Rattle.reasons.specs.Flaws as flaws
use Rattle.reasons.specs.Flaws.{Flaw, IsFirst, IsMissing, IsAllowed, flaw_code}

-- ---- the flaw that a reason tells

abbrev pub ava_flaw_of : AvaReason → AvaFlaw
ava_flaw_of ava_reasons.UnknownType = avas.UnknownType
ava_flaw_of ava_reasons.NameSyntax = avas.NameSyntax
ava_flaw_of ava_reasons.NoEquality = avas.NoEquality
ava_flaw_of ava_reasons.BadValue = avas.BadValue
ava_flaw_of ava_reasons.TypeTwice = avas.TypeTwice

abbrev pub name_flaw_of : NameReason → NameFlaw
name_flaw_of name_reasons.Unreadable = name_flaws.Unreadable
name_flaw_of name_reasons.NotOneRdn = name_flaws.NotOneRdn
name_flaw_of (name_reasons.Ava rdn ava why) = name_flaws.Ava rdn ava (ava_flaw_of why)
name_flaw_of name_reasons.OutsideSuffix = name_flaws.OutsideSuffix

abbrev pub line_flaw_of : LineReason → LineFlaw
line_flaw_of line_reasons.UnknownType = line_flaws.UnknownType
line_flaw_of line_reasons.UsersCantChange = line_flaws.UsersCantChange
line_flaw_of line_reasons.BadSyntax = line_flaws.BadSyntax
line_flaw_of (line_reasons.EqualTo earlier) = line_flaws.EqualValue

abbrev pub block_flaw_of : BlockReason → BlockFlaw
block_flaw_of block_reasons.UnknownType = block_flaws.UnknownType
block_flaw_of block_reasons.UsersCantChange = block_flaws.UsersCantChange
block_flaw_of block_reasons.NoValues = block_flaws.NoValues
block_flaw_of block_reasons.NoEquality = block_flaws.NoEquality
block_flaw_of block_reasons.NoAttribute = block_flaws.NoAttribute

abbrev pub value_flaw_of : ValueReason → ValueFlaw
value_flaw_of value_reasons.BadSyntax = block_flaws.BadSyntax
value_flaw_of value_reasons.EqualValue = block_flaws.EqualValue
value_flaw_of value_reasons.NoValue = block_flaws.NoValue

abbrev pub entry_flaw_of : EntryReason → EntryFlaw
entry_flaw_of entry_reasons.NoObjectClass = entry_flaws.NoObjectClass
entry_flaw_of (entry_reasons.UnknownClass value) = entry_flaws.UnknownClass
entry_flaw_of (entry_reasons.LacksType class needed) = entry_flaws.LacksType
entry_flaw_of (entry_reasons.TypeNotAllowed found) = entry_flaws.TypeNotAllowed
entry_flaw_of (entry_reasons.ManyValues single count) = entry_flaws.ManyValues

abbrev pub flaw_of : Reason → Flaw
flaw_of (reasons.CriticalControl control) = flaws.CriticalControl
flaw_of (reasons.Name why) = flaws.Name (name_flaw_of why)
flaw_of reasons.IsThere = flaws.IsThere
flaw_of reasons.NoParent = flaws.NoParent
flaw_of reasons.NoEntry = flaws.NoEntry
flaw_of reasons.HasChildren = flaws.HasChildren
flaw_of (reasons.Line line why) = flaws.Line line (line_flaw_of why)
flaw_of (reasons.Block block why) = flaws.Block block (block_flaw_of why)
flaw_of (reasons.Value block value why) = flaws.Value block value (value_flaw_of why)
flaw_of (reasons.NoRdnValue ava) = flaws.NoRdnValue
flaw_of reasons.IsSuffix = flaws.IsSuffix
flaw_of (reasons.NewRdn why) = flaws.NewRdn (name_flaw_of why)
flaw_of (reasons.Superior why) = flaws.Superior (name_flaw_of why)
flaw_of reasons.BelowItself = flaws.BelowItself
flaw_of reasons.NoSuperior = flaws.NoSuperior
flaw_of reasons.IsTaken = flaws.IsTaken
flaw_of (reasons.Entry why) = flaws.Entry (entry_flaw_of why)
flaw_of reasons.Full = flaws.Full

-- ---- what is told besides the flaw

-- of a line: an earlier one says an equal value
abbrev pub IsSoOfLine : Conf → Record → ℕ → LineReason → Type 0
IsSoOfLine conf r i line_reasons.UnknownType = Unit {0}
IsSoOfLine conf r i line_reasons.UsersCantChange = Unit {0}
IsSoOfLine conf r i line_reasons.BadSyntax = Unit {0}
IsSoOfLine conf r i (line_reasons.EqualTo earlier) =
    (l : Attr) × (t : ℕ) × IsLine conf (lines_of_record r) i l t
    × (other : Attr) × (slice_get (take i (lines_of_record r)) earlier ≡ Some other) × SaysEqual conf t l.value other

-- a class that objectClass names requires a type, by itself or by a superclass, and there is no value of it
pub record IsLacked (conf : Conf) (attrs : Attributes) (class needed : ℕ) : Type 0 where
  pub class_known : class < length conf.classes
  pub type_known : needed < length conf.types
  pub named : has_number (named_classes conf.classes (values_of attrs 0)) class ≡ true
  pub required : is_required conf.classes class needed ≡ true
  pub lacked : has_type attrs needed ≡ false

-- a type is there, and none of the entry's classes allows it
pub record IsNotAllowed (conf : Conf) (attrs : Attributes) (found : ℕ) : Type 0 where
  pub type_known : found < length conf.types
  pub there : has_type attrs found ≡ true
  pub refused : is_allowed conf (classes_of conf attrs) found ≡ false

-- so many values of a SINGLE-VALUE type are there, and more than one
pub record IsMany (conf : Conf) (attrs : Attributes) (single count : ℕ) : Type 0 where
  pub type_known : single < length conf.types
  pub one_at_most : (type_at conf.types single).single_value ≡ true
  pub counted : Any (λ a. (a.0 ≡ single) × (length a.1 ≡ count)) attrs
  pub more : 1 < count

-- of an entry with these attributes
abbrev pub IsSoOfEntry : Conf → Attributes → EntryReason → Type 0
IsSoOfEntry conf attrs entry_reasons.NoObjectClass = Unit {0}
IsSoOfEntry conf attrs (entry_reasons.UnknownClass value) = (v : List ℕ) × (slice_get (values_of attrs 0) value ≡ Some v) × (class_of conf.classes v ≡ None)
IsSoOfEntry conf attrs (entry_reasons.LacksType class needed) = IsLacked conf attrs class needed
IsSoOfEntry conf attrs (entry_reasons.TypeNotAllowed found) = IsNotAllowed conf attrs found
IsSoOfEntry conf attrs (entry_reasons.ManyValues single count) = IsMany conf attrs single count

-- what a reason tells besides its flaw is so
abbrev pub IsSo : Conf → Entries → Record → Reason → Type 0
IsSo conf d r (reasons.CriticalControl control) = (c : Control) × (slice_get (controls_of r) control ≡ Some c) × (c.critical ≡ true)
IsSo conf d r (reasons.Name why) = Unit {0}
IsSo conf d r reasons.IsThere = Unit {0}
IsSo conf d r reasons.NoParent = Unit {0}
IsSo conf d r reasons.NoEntry = Unit {0}
IsSo conf d r reasons.HasChildren = Unit {0}
IsSo conf d r (reasons.Line line why) = IsSoOfLine conf r line why
IsSo conf d r (reasons.Block block why) = Unit {0}
IsSo conf d r (reasons.Value block value why) = Unit {0}
IsSo conf d r (reasons.NoRdnValue ava) = (e : EntryContent) × IsToBe conf d r e × (p : Ava) × (slice_get e.rdn ava ≡ Some p) × IsMissing conf e.attrs p
IsSo conf d r reasons.IsSuffix = Unit {0}
IsSo conf d r (reasons.NewRdn why) = Unit {0}
IsSo conf d r (reasons.Superior why) = Unit {0}
IsSo conf d r reasons.BelowItself = Unit {0}
IsSo conf d r reasons.NoSuperior = Unit {0}
IsSo conf d r reasons.IsTaken = Unit {0}
IsSo conf d r (reasons.Entry why) = (e : EntryContent) × IsToBe conf d r e × IsSoOfEntry conf e.attrs why
IsSo conf d r reasons.Full = Unit {0}

-- ---- why a record is refused

pub record IsReason (conf : Conf) (mode : Mode) (d : Entries) (r : Record) (reason : Reason) : Type 0 where
  -- its flaw is the record's first
  pub first : IsFirst conf mode d r (flaw_of reason)
  pub so : IsSo conf d r reason
  -- and the code that is answered is that flaw's
  pub refused : change_of conf mode d r ≡ Err (flaw_code (flaw_of reason))

-- a reason exactly where a record is refused
abbrev pub Explains : Conf → Mode → Entries → Record → Option Reason → Type 0
Explains conf mode d r None = IsAllowed (change_of conf mode d r)
Explains conf mode d r (Some reason) = IsReason conf mode d r reason
