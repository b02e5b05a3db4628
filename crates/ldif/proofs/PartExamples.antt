-- The lines of the parts of some records, by computation.
use Rattle.std.proofs.Common.{◌≡◌, ℕ, true, false, List, [], ◌∷◌, ◌++◌, Option, Some, None, codes, refl}
use Rattle.ldif.specs.declared.record.Mod.{Mod}
use Rattle.ldif.specs.declared.record.Op.TheVariants as ops
use Rattle.ldif.specs.declared.record.Record.TheVariants as records
use Rattle.ldif.specs.declared.parts.Part.{Part}
use Rattle.ldif.specs.declared.parts.Part.TheVariants as parts
use Rattle.ldif.specs.PartLines.{last_dash, line_of}
use Rattle.ldif.specs.Reading.{is_dash}
use Rattle.ldif.proofs.ChangeForms.{attr_of}

-- ---- a content record behind a version line, with one attribute twice

content : Part → Option ℕ
content part =
    line_of (records.Content (codes "x") (attr_of (codes "cn") (codes "a") ∷ attr_of (codes "cn") (codes "a") ∷ [])) true
    (codes "version: 1" ∷ codes "dn: x" ∷ codes "cn: a" ∷ codes "cn: a" ∷ []) part

name_line : content parts.Name ≡ Some 1
unfolding content
name_line = refl

first_attribute : content (parts.Attribute 0) ≡ Some 2
unfolding content
first_attribute = refl

second_attribute : content (parts.Attribute 1) ≡ Some 3
unfolding content
second_attribute = refl

no_third : content (parts.Attribute 2) ≡ None
unfolding content
no_third = refl

-- ---- a modify with a control and two blocks, behind the last of which a `-` may stand

block : List ℕ → List (List ℕ) → Mod
block name values = record { op = ops.Add; attr = name; values = values }

modify : List (List ℕ) → Part → Option ℕ
modify end part =
    line_of (records.Modify (codes "x") (record { oid = codes "1.2"; critical = false; value = None } ∷ []) (block (codes "tel") (codes "1" ∷ codes "2" ∷ []) ∷ block (codes "info") (codes "i" ∷ []) ∷ [])) false
    ((codes "dn: x" ∷ codes "control: 1.2" ∷ codes "changetype: modify" ∷ codes "add: tel" ∷ codes "tel: 1" ∷ codes "tel: 2" ∷ codes "-" ∷ codes "add: info" ∷ codes "info: i" ∷ []) ++ end) part

dash : List (List ℕ)
dash = codes "- " ∷ []

control_line : modify [] (parts.Control 0) ≡ Some 1
unfolding modify block
control_line = refl

first_block : modify [] (parts.Block 0) ≡ Some 3
unfolding modify block last_dash is_dash
first_block = refl

same_block : modify dash (parts.Block 0) ≡ Some 3
unfolding modify block dash last_dash is_dash
same_block = refl

second_value : modify dash (parts.Value 0 1) ≡ Some 5
unfolding modify block dash last_dash is_dash
second_value = refl

last_block : modify dash (parts.Block 1) ≡ Some 7
unfolding modify block dash last_dash is_dash
last_block = refl

last_value : modify [] (parts.Value 1 0) ≡ Some 8
unfolding modify block last_dash is_dash
last_value = refl

no_value : modify [] (parts.Value 1 1) ≡ None
unfolding modify block
no_value = refl
