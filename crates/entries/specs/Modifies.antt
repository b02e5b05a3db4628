-- What the blocks of a modify and another RDN make of an entry (RFC 4511, 4.6 and 4.9), or the code of the first check that fails.
use Rattle.std.specs.Prelude.{ℕ, Bool, not, ◌&&◌, List, [], ◌∷◌, ◌++◌, length, nat_eq, nat_lt, Option, Some, None, Result, Ok, Err, if◌then◌else◌}
use Rattle.std.specs.List.{list_any, list_all, filter}
use Rattle.ldif.specs.declared.record.Mod.{Mod}
use Rattle.ldif.specs.declared.record.Op.{Op}
use Rattle.ldif.specs.declared.record.Op.TheVariants as ops
use Rattle.schema.specs.declared.code.Code.{Code}
use Rattle.schema.specs.declared.code.Code.TheVariants.{ProtocolError, NoSuchAttribute, UndefinedAttributeType, InappropriateMatching, ConstraintViolation, AttributeOrValueExists, InvalidAttributeSyntax, ObjectClassViolation, NotAllowedOnRdn}
use Rattle.values.specs.declared.types.AttributeType.{AttributeType}
use Rattle.values.specs.Types.{type_of, type_at, has_equality}
use Rattle.schema.specs.Values.{is_valid_at, are_equal}
use Rattle.schema.specs.Rdns.{Ava, TypedRdn}
use Rattle.schema.specs.Conf.{Conf}
use Rattle.base.specs.Answers.{◌>>=◌, through}
use Rattle.entries.specs.Entries.{Attributes, EntryContent, values_of, has_equal, with_rdn, has_its_classes, are_single}

-- a check's fault, or what is said where it finds none
abbrev pub unless : {A : Type 0} → Option Code → Result A Code → Result A Code
unless None said = said
unless (Some code) said = Err code

-- ---- one value

-- behind those that are there, none of which equals it
abbrev pub append_value : List AttributeType → ℕ → List (List ℕ) → List ℕ → Result (List (List ℕ)) Code
append_value types t vs v =
    if not (is_valid_at types t v) then Err InvalidAttributeSyntax
    else (if has_equal types t v vs then Err AttributeOrValueExists else Ok (vs ++ v ∷ []))

abbrev pub without_value : List AttributeType → ℕ → List (List ℕ) → List ℕ → List (List ℕ)
without_value types t vs v = filter (λ w. not (are_equal types t w v)) vs

-- the value that equals it goes, and the others keep their order
abbrev pub remove_value : List AttributeType → ℕ → List (List ℕ) → List ℕ → Result (List (List ℕ)) Code
remove_value types t vs v =
    if not (is_valid_at types t v) then Err InvalidAttributeSyntax
    else (if not (has_equal types t v vs) then Err NoSuchAttribute else Ok (without_value types t vs v))

-- ---- the values of one type, under a block of a modify (RFC 4511, 4.6)

abbrev pub has_values : {X : Type 0} → List X → Bool
has_values vs = nat_lt 0 (length vs)

-- an add has values, and an equality rule where it compares them with some that are there
abbrev pub add_fault : List AttributeType → ℕ → Bool → Bool → Option Code
add_fault types t there some =
    if not some then Some ProtocolError
    else (if there && not (has_equality types t) then Some InappropriateMatching else None)

-- a delete has an equality rule where it has values, and the attribute is there
abbrev pub delete_fault : List AttributeType → ℕ → Bool → Bool → Option Code
delete_fault types t there some =
    if some && not (has_equality types t) then Some InappropriateMatching
    else (if not there then Some NoSuchAttribute else None)

-- a replace can always be carried out
abbrev pub op_fault : List AttributeType → ℕ → Op → Bool → Bool → Option Code
op_fault types t ops.Add there some = add_fault types t there some
op_fault types t ops.Delete there some = delete_fault types t there some
op_fault types t ops.Replace there some = None

-- what is looked at before a block's values: users can change the type, and the operation can be carried out on an attribute that is
-- there or isn't, with some values or none
abbrev pub block_fault : List AttributeType → ℕ → Op → Bool → Bool → Option Code
block_fault types t op there some = if (type_at types t).is_fixed then Some ConstraintViolation else op_fault types t op there some

-- one value after the other; a delete without values takes all, and a replace begins with none
abbrev pub block_values : List AttributeType → ℕ → Op → List (List ℕ) → List (List ℕ) → Result (List (List ℕ)) Code
block_values types t ops.Add old vs = through (append_value types t) old vs
block_values types t ops.Delete old [] = Ok []
block_values types t ops.Delete old (v ∷ vs) = through (remove_value types t) old (v ∷ vs)
block_values types t ops.Replace old vs = through (append_value types t) [] vs

-- what a block makes of them
abbrev pub changed_values : List AttributeType → ℕ → Op → List (List ℕ) → List (List ℕ) → Result (List (List ℕ)) Code
changed_values types t op old vs = unless (block_fault types t op (has_values old) (has_values vs)) (block_values types t op old vs)

-- ---- attributes

-- a type with its values, where it has some
abbrev pub attribute : {X : Type 0} → ℕ → List X → List (ℕ × List X)
attribute t [] = []
attribute t (v ∷ vs) = (t, v ∷ vs) ∷ []

-- these values in place of those of a type, where they stand, or else last; an attribute without values goes
unfoldable pub set_values : {X : Type 0} → List (ℕ × List X) → ℕ → List X → List (ℕ × List X)
set_values [] t vs = attribute t vs
set_values (a ∷ more) t vs = if nat_eq t a.0 then attribute a.0 vs ++ more else a ∷ set_values more t vs

unfoldable pub modify_at : List AttributeType → Attributes → ℕ → Op → List (List ℕ) → Result Attributes Code
modify_at types attrs t op vs = changed_values types t op (values_of attrs t) vs >>= λ ws. Ok (set_values attrs t ws)

abbrev pub named_type : Option ℕ → Result ℕ Code
named_type None = Err UndefinedAttributeType
named_type (Some t) = Ok t

-- a block changes the type that it names, and no subtype
abbrev pub modify_block : List AttributeType → Attributes → Mod → Result Attributes Code
modify_block types attrs m = named_type (type_of types m.attr) >>= λ t. modify_at types attrs t m.op m.values

-- ---- an entry

-- what is looked at in the end
abbrev pub entry_fault : Conf → Attributes → Option Code
entry_fault conf attrs =
    if not (has_its_classes conf attrs) then Some ObjectClassViolation
    else (if not (are_single conf.types attrs) then Some ConstraintViolation else None)

-- whether each value of the RDN is there, in whatever spelling
abbrev pub has_rdn : List AttributeType → TypedRdn → Attributes → Bool
has_rdn types rdn attrs = list_all (λ p. has_equal types p.0 p.1 (values_of attrs p.0)) rdn

abbrev pub modified_fault : Conf → TypedRdn → Attributes → Option Code
modified_fault conf rdn attrs = if not (has_rdn conf.types rdn attrs) then Some NotAllowedOnRdn else entry_fault conf attrs

-- the blocks in order, and then a look at the whole
unfoldable pub modify_entry : Conf → EntryContent → List Mod → Result EntryContent Code
modify_entry conf e mods =
    through (modify_block conf.types) e.attrs mods >>= λ attrs. unless (modified_fault conf e.rdn attrs) (Ok (record { rdn = e.rdn; attrs = attrs }))

-- ---- another RDN (RFC 4511, 4.9)

-- whether an RDN has this value, in whatever spelling
abbrev pub has_ava : List AttributeType → TypedRdn → Ava → Bool
has_ava types rdn p = list_any (λ q. nat_eq p.0 q.0 && are_equal types p.0 q.1 p.1) rdn

abbrev pub without_ava : List AttributeType → Ava → Attributes → Attributes
without_ava types p attrs = set_values attrs p.0 (without_value types p.0 (values_of attrs p.0) p.1)

-- the value of an AVA goes, unless the new RDN has it
abbrev pub without_old_ava : List AttributeType → TypedRdn → Ava → Attributes → Attributes
without_old_ava types new p attrs = if has_ava types new p then attrs else without_ava types p attrs

-- the old RDN's values go, but for those that the new one has
unfoldable pub without_rdn : List AttributeType → TypedRdn → TypedRdn → Attributes → Attributes
without_rdn types new [] attrs = attrs
without_rdn types new (p ∷ ps) attrs = without_rdn types new ps (without_old_ava types new p attrs)

-- the new RDN's values come, and the old one's go where that is asked for
abbrev pub renamed_attrs : List AttributeType → EntryContent → TypedRdn → Bool → Attributes
renamed_attrs types e new delete_old =
    if delete_old then without_rdn types new e.rdn (with_rdn types new e.attrs) else with_rdn types new e.attrs

unfoldable pub rename_entry : Conf → EntryContent → TypedRdn → Bool → Result EntryContent Code
rename_entry conf e new delete_old =
    unless (entry_fault conf (renamed_attrs conf.types e new delete_old)) (Ok (record { rdn = new; attrs = renamed_attrs conf.types e new delete_old }))

-- a change that leads to this entry
abbrev pub changed_to : EntryContent → Result EntryContent Code
changed_to e = Ok e
