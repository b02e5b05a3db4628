-- Change records that are written are read back.
use Rattle.std.proofs.Common.{◌≡◌, ℕ, Bool, true, false, cond, List, [], ◌∷◌, ◌++◌, map, length, codes, Option, Some, None, Result, Ok, Err, refl, sym, ap, ◌∙◌, append_assoc}
use Rattle.std.specs.Prelude.{◌&&◌, ◌==◌}
use Rattle.std.specs.List.{flat_map, onto_first, AllByRecursion}
use Rattle.std.specs.Str.{bytes_eq}
use Rattle.std.proofs.lemmas.Cmp.{nat_list_eq_equiv}
use Rattle.base64.specs.GeneralPurpose.{encode_of}
use Rattle.base64.specs.Engines.{standard}
use Rattle.base.specs.Answers.{◌>>=◌, each}
use Rattle.base.specs.Ends.{onto_text, without_end}
use Rattle.ldif_lines.specs.Records.{RawRecord, records}
use Rattle.ldif_lines.specs.Folding.{IsWritable, AreWritable, CommentedBlock, IsWritableComment as IsWritableBlock, written_commented, record_lines, raw_block, with_first_flag}
use Rattle.ldif.specs.declared.fault.LdifFaultKind.{LdifFaultKind}
use Rattle.ldif.specs.declared.fault.LdifFaultKind.TheVariants.{DnMissing, ChangetypeMissing, Version, OtherAttribute, PartMissing, StrayLine}
use Rattle.ldif.specs.Attrs.{Attr}
use Rattle.ldif.specs.declared.record.Mod.{Mod}
use Rattle.ldif.specs.declared.record.Op.{Op}
use Rattle.ldif.specs.declared.record.Op.TheVariants as ops
use Rattle.ldif.specs.declared.record.Control.{Control}
use Rattle.ldif.specs.declared.record.Record.{Record}
use Rattle.ldif.specs.declared.record.Record.TheVariants as kinds
use Rattle.ldif.specs.declared.record.Mode.TheVariants.{Changes}
use Rattle.ldif.specs.Controls.{control_of}
use Rattle.ldif.specs.Line.{value_line, same_name, lower}
use Rattle.ldif.specs.Reading.{part, nothing_more, new_superior_of, flag_of, delete_old_of, controls_of, is_dash, blocks, op_of, value_under, block, renaming, change, after_controls, body, entry, after_version, first_of_text, reading}
use Rattle.ldif.specs.Writing.{is_plain, line_text}
use Rattle.ldif.specs.Contents.{IsName, readings, reading_of}
use Rattle.ldif.proofs.WrittenLines.{read_again, writable}
use Rattle.ldif.specs.Forms.{op_word}
use Rattle.ldif.specs.Changes.{attr_text, value_text, mod_lines, flag_word, superior_lines, begun, change_lines, CommentedChange, change_of, write_change, read_as_itself, AreBytes, IsWritableLine, IsWritableMod, IsSuperior, IsWritableChange, IsWritableComment}

abbrev AttrRead : Type 0
AttrRead = Result Attr LdifFaultKind

abbrev RecordRead : Type 0
RecordRead = Result Record LdifFaultKind

-- ---- a line is no `-`

end_more : (b : ℕ) (bs : List ℕ) (c : ℕ) (cs : List ℕ) → without_end bs ≡ c ∷ cs → without_end (b ∷ bs) ≡ b ∷ c ∷ cs
end_more b bs c cs is = ap (onto_text b) is

colon_kept : (name rest : List ℕ) → without_end (name ++ 58 ∷ rest) ≡ name ++ 58 ∷ without_end rest
colon_kept [] rest = by (without_end rest)
  where
    by : (ws : List ℕ) → onto_text 58 ws ≡ 58 ∷ ws
    by [] = refl
    by (w ∷ ws) = refl
colon_kept (b ∷ []) rest = ap (onto_text b) (colon_kept [] rest)
colon_kept (b ∷ c ∷ name) rest = ap (onto_text b) (colon_kept (c ∷ name) rest)

longer : (name rest : List ℕ) → IsName name → bytes_eq (name ++ 58 ∷ rest) (codes "-") ≡ false
longer [] rest h = absurd (let k = h.begins in cc)
longer (b ∷ []) rest h = and_no (b == 45)
  where
    and_no : (c : Bool) → (c && false) ≡ false
    and_no true = refl
    and_no false = refl
longer (b ∷ c ∷ name) rest h = and_no (b == 45)
  where
    and_no : (c : Bool) → (c && false) ≡ false
    and_no true = refl
    and_no false = refl

line_form : (name value : List ℕ) → (rest : List ℕ) × (line_text name value ≡ name ++ 58 ∷ rest)
unfolding line_text
line_form name value = by (length value == 0) (is_plain value)
  where
    by : (a b : Bool) → (rest : List ℕ) × (cond a (name ++ codes ":") (cond b (name ++ codes ": " ++ value) (name ++ codes ":: " ++ encode_of standard value)) ≡ name ++ 58 ∷ rest)
    by true b = ([], refl)
    by false true = (32 ∷ value, append_assoc name (codes ": ") value)
    by false false = (58 ∷ 32 ∷ encode_of standard value, append_assoc name (codes ":: ") (encode_of standard value))

no_dash : (name value : List ℕ) → IsName name → is_dash (line_text name value) ≡ false
unfolding is_dash
no_dash name value h = let k = line_form name value in ap (λ (l : List ℕ). bytes_eq (without_end l) (codes "-")) k.1 ∙ ap (λ (l : List ℕ). bytes_eq l (codes "-")) (colon_kept name k.0) ∙ longer name (without_end k.0) h

-- ---- names that are keywords

dn_name : IsName (codes "dn")
dn_name = record { begins = refl; bytes = refl }

type_name : IsName (codes "changetype")
type_name = record { begins = refl; bytes = refl }

op_name : (op : Op) → IsName (op_word op)
op_name ops.Add = record { begins = refl; bytes = refl }
op_name ops.Delete = record { begins = refl; bytes = refl }
op_name ops.Replace = record { begins = refl; bytes = refl }

abbrev line_of : List ℕ → List ℕ → Attr
line_of name value = record { name = name; value = value }

-- ---- the parts

attrs_are : (attrs : List Attr) → AllByRecursion IsWritableLine attrs → each value_line (map attr_text attrs) ≡ Ok attrs
unfolding each
attrs_are [] h = refl
attrs_are (a ∷ attrs) h =
    ap (λ (r : AttrRead). r >>= λ x. each value_line (map attr_text attrs) >>= λ xs. Ok (x ∷ xs)) (read_again a.name a.value h.0.name h.0.value)
    ∙ ap (λ (r : Result (List Attr) LdifFaultKind). r >>= λ xs. Ok (a ∷ xs)) (attrs_are attrs h.1)

values_are : (name : List ℕ) (vs : List (List ℕ)) → IsName name → AllByRecursion AreBytes vs → each (value_under name) (map (value_text name) vs) ≡ Ok vs
unfolding each value_under
values_are name [] is h = refl
values_are name (v ∷ vs) is h =
    let done : List ℕ → Result (List (List ℕ)) LdifFaultKind = λ x. each (value_under name) (map (value_text name) vs) >>= λ xs. Ok (x ∷ xs) in
    ap (λ (r : AttrRead). (r >>= λ x. cond (same_name x.name name) (Ok x.value) (Err OtherAttribute)) >>= done) (read_again name v is h.0)
    ∙ ap (λ (b : Bool). (cond b (Ok v) (Err OtherAttribute)) >>= done) (nat_list_eq_equiv.refl (lower name))
    ∙ ap (λ (r : Result (List (List ℕ)) LdifFaultKind). r >>= λ xs. Ok (v ∷ xs)) (values_are name vs is h.1)

op_is : (op : Op) → op_of (op_word op) ≡ Ok op
unfolding op_of
op_is ops.Add = refl
op_is ops.Delete = refl
op_is ops.Replace = refl

abbrev front_lines : Mod → List (List ℕ)
front_lines m = line_text (op_word m.op) m.attr ∷ map (value_text m.attr) m.values

block_is : (m : Mod) → IsWritableMod m → block (front_lines m) ≡ Ok m
unfolding block
block_is m h =
    let vs : List (List ℕ) = map (value_text m.attr) m.values in
    let made : Op → List ℕ → List (List ℕ) → Result Mod LdifFaultKind = λ op attr values. Ok (record { op = op; attr = attr; values = values }) in
    ap (λ (r : AttrRead). r >>= λ head. op_of head.name >>= λ op. each (value_under (without_end head.value)) vs >>= λ values. made op (without_end head.value) values) (read_again (op_word m.op) m.attr (op_name m.op) h.bytes)
    ∙ ap (λ (r : Result Op LdifFaultKind). r >>= λ op. each (value_under (without_end m.attr)) vs >>= λ values. made op (without_end m.attr) values) (op_is m.op)
    ∙ ap (λ (attr : List ℕ). each (value_under attr) vs >>= λ values. made m.op attr values) h.trimmed
    ∙ ap (λ (r : Result (List (List ℕ)) LdifFaultKind). r >>= λ values. made m.op m.attr values) (values_are m.attr m.values h.name h.values)

abbrev AreNoDashes : List (List ℕ) → Type 0
AreNoDashes ls = AllByRecursion (λ l. is_dash l ≡ false) ls

cut_at : (ls more : List (List ℕ)) → AreNoDashes ls → blocks (ls ++ codes "-" ∷ more) ≡ ls ∷ blocks more
unfolding blocks is_dash
cut_at [] more h = refl
cut_at (l ∷ ls) more h =
    ap (λ (b : Bool). cond b ([] ∷ blocks (ls ++ codes "-" ∷ more)) (onto_first l (blocks (ls ++ codes "-" ∷ more)))) h.0
    ∙ ap (onto_first l) (cut_at ls more h.1)

values_no_dash : (name : List ℕ) (vs : List (List ℕ)) → IsName name → AreNoDashes (map (value_text name) vs)
values_no_dash name [] h = tt
values_no_dash name (v ∷ vs) h = (no_dash name v h, values_no_dash name vs h)

cut_mods : (mods : List Mod) → AllByRecursion IsWritableMod mods → blocks (flat_map mod_lines mods) ≡ map front_lines mods
unfolding blocks
cut_mods [] h = refl
cut_mods (m ∷ mods) h =
    ap (λ (ls : List (List ℕ)). blocks (line_text (op_word m.op) m.attr ∷ ls)) (append_assoc (map (value_text m.attr) m.values) (codes "-" ∷ []) (flat_map mod_lines mods))
    ∙ cut_at (front_lines m) (flat_map mod_lines mods) (no_dash (op_word m.op) m.attr (op_name m.op), values_no_dash m.attr m.values h.0.name)
    ∙ ap (λ (bs : List (List (List ℕ))). front_lines m ∷ bs) (cut_mods mods h.1)

mods_are : (mods : List Mod) → AllByRecursion IsWritableMod mods → each block (map front_lines mods) ≡ Ok mods
unfolding each
mods_are [] h = refl
mods_are (m ∷ mods) h =
    ap (λ (r : Result Mod LdifFaultKind). r >>= λ x. each block (map front_lines mods) >>= λ xs. Ok (x ∷ xs)) (block_is m h.0)
    ∙ ap (λ (r : Result (List Mod) LdifFaultKind). r >>= λ xs. Ok (m ∷ xs)) (mods_are mods h.1)

rdn_name : IsName (codes "newrdn")
rdn_name = record { begins = refl; bytes = refl }

old_name : IsName (codes "deleteoldrdn")
old_name = record { begins = refl; bytes = refl }

superior_name : IsName (codes "newsuperior")
superior_name = record { begins = refl; bytes = refl }

flag_bytes : (b : Bool) → AreBytes (flag_word b)
flag_bytes true = refl
flag_bytes false = refl

flag_is : (b : Bool) → flag_of (flag_word b) ≡ Ok b
unfolding flag_of
flag_is true = refl
flag_is false = refl

superior_is : (o : Option (List ℕ)) → IsSuperior o → new_superior_of (superior_lines o) ≡ Ok o
unfolding new_superior_of nothing_more
superior_is None h = refl
superior_is (Some dn) h = ap (λ (r : AttrRead). r >>= λ attr. cond (same_name attr.name (codes "newsuperior")) (nothing_more [] >>= λ u. Ok (Some attr.value)) (Err StrayLine)) (read_again (codes "newsuperior") dn superior_name h)

abbrev part_read : List ℕ → List (List ℕ) → Result (List ℕ × List (List ℕ)) LdifFaultKind
part_read v ls = Ok (v, ls)

abbrev flag_read : List (List ℕ) → Bool → Result (Bool × List (List ℕ)) LdifFaultKind
flag_read ls flag = Ok (flag, ls)

abbrev controls_read : List Control → List (List ℕ) → Result (List Control × List (List ℕ)) LdifFaultKind
controls_read cs ls = Ok (cs, ls)

part_is : (keyword v : List ℕ) (ls : List (List ℕ)) → IsName keyword → AreBytes v → part keyword (line_text keyword v ∷ ls) ≡ part_read v ls
unfolding part
part_is keyword v ls is bytes =
    ap (λ (r : AttrRead). r >>= λ attr. cond (same_name attr.name keyword) (part_read attr.value ls) (Err PartMissing)) (read_again keyword v is bytes)
    ∙ ap (λ (b : Bool). cond b (part_read v ls) (Err PartMissing)) (nat_list_eq_equiv.refl (lower keyword))

old_is : (old : Bool) (ls : List (List ℕ)) → delete_old_of (line_text (codes "deleteoldrdn") (flag_word old) ∷ ls) ≡ flag_read ls old
unfolding delete_old_of
old_is old ls =
    ap (λ (r : Result (List ℕ × List (List ℕ)) LdifFaultKind). r >>= λ word. flag_of word.0 >>= flag_read word.1) (part_is (codes "deleteoldrdn") (flag_word old) ls old_name (flag_bytes old))
    ∙ ap (λ (r : Result Bool LdifFaultKind). r >>= flag_read ls) (flag_is old)

renaming_is : (dn newrdn : List ℕ) (old : Bool) (o : Option (List ℕ)) → AreBytes newrdn → IsSuperior o
    → renaming dn [] (line_text (codes "newrdn") newrdn ∷ line_text (codes "deleteoldrdn") (flag_word old) ∷ superior_lines o) ≡ Ok (kinds.ModRdn dn [] newrdn old o)
unfolding renaming
renaming_is dn newrdn old o bytes h =
    let made : List ℕ → Bool → Option (List ℕ) → RecordRead = λ r d s. Ok (kinds.ModRdn dn [] r d s) in
    let tail : List (List ℕ) = line_text (codes "deleteoldrdn") (flag_word old) ∷ superior_lines o in
    ap (λ (r : Result (List ℕ × List (List ℕ)) LdifFaultKind). r >>= λ first. delete_old_of first.1 >>= λ second. new_superior_of second.1 >>= λ s. made first.0 second.0 s) (part_is (codes "newrdn") newrdn tail rdn_name bytes)
    ∙ ap (λ (r : Result (Bool × List (List ℕ)) LdifFaultKind). r >>= λ second. new_superior_of second.1 >>= λ s. made newrdn second.0 s) (old_is old (superior_lines o))
    ∙ ap (λ (r : Result (Option (List ℕ)) LdifFaultKind). r >>= λ s. made newrdn old s) (superior_is o h)

-- ---- a record

begun_is : (add : Bool) (dn word : List ℕ) (ls : List (List ℕ)) → AreBytes dn → AreBytes word → entry (Changes add) (begun dn word ls) ≡ change dn [] word ls
unfolding entry body controls_of after_controls
begun_is add dn word ls bytes known =
    let second = read_again (codes "changetype") word type_name known in
    let kind : List ℕ = line_text (codes "changetype") word in
    ap (λ (r : AttrRead). r >>= λ attr. cond (same_name attr.name (codes "dn")) (body (Changes add) attr.value (kind ∷ ls)) (Err DnMissing)) (read_again (codes "dn") dn dn_name bytes)
    ∙ ap (λ (r : AttrRead). (r >>= λ attr. cond (same_name attr.name (codes "control"))
    (control_of attr.value >>= λ control. controls_of ls >>= λ others. controls_read (control ∷ others.0) others.1) (controls_read [] (kind ∷ ls))) >>= λ c. after_controls add dn c.0 c.1) second
    ∙ ap (λ (r : AttrRead). r >>= λ attr. cond (same_name attr.name (codes "changetype")) (change dn [] attr.value ls)
    (cond add (each value_line (kind ∷ ls) >>= λ attrs. Ok (kinds.Add dn [] attrs)) (Err ChangetypeMissing))) second

change_is : (add : Bool) (r : Record) → IsWritableChange r → entry (Changes add) (change_lines r) ≡ Ok r
unfolding change nothing_more
change_is add kinds.Empty h = absurd h
change_is add (kinds.Content dn attrs) h = absurd h
change_is add (kinds.Add dn controls attrs) h =
    begun_is add dn (codes "add") (map attr_text attrs) h.0.dn refl
    ∙ ap (λ (r : Result (List Attr) LdifFaultKind). r >>= λ xs. Ok (kinds.Add dn [] xs)) (attrs_are attrs h.1)
    ∙ ap (λ (cs : List Control). Ok (kinds.Add dn cs attrs)) (sym h.0.controls)
change_is add (kinds.Delete dn controls) h = begun_is add dn (codes "delete") [] h.dn refl ∙ ap (λ (cs : List Control). Ok (kinds.Delete dn cs)) (sym h.controls)
change_is add (kinds.Modify dn controls mods) h =
    begun_is add dn (codes "modify") (flat_map mod_lines mods) h.0.dn refl
    ∙ ap (λ (bs : List (List (List ℕ))). each block bs >>= λ ms. Ok (kinds.Modify dn [] ms)) (cut_mods mods h.1)
    ∙ ap (λ (r : Result (List Mod) LdifFaultKind). r >>= λ ms. Ok (kinds.Modify dn [] ms)) (mods_are mods h.1)
    ∙ ap (λ (cs : List Control). Ok (kinds.Modify dn cs mods)) (sym h.0.controls)
change_is add (kinds.ModRdn dn controls newrdn old o) h =
    begun_is add dn (codes "modrdn") (line_text (codes "newrdn") newrdn ∷ line_text (codes "deleteoldrdn") (flag_word old) ∷ superior_lines o) h.0.dn refl
    ∙ renaming_is dn newrdn old o h.1 h.2
    ∙ ap (λ (cs : List Control). Ok (kinds.ModRdn dn cs newrdn old o)) (sym h.0.controls)

first_is : (add : Bool) (dn word : List ℕ) (ls : List (List ℕ)) → AreBytes dn → first_of_text (Changes add) (begun dn word ls) ≡ entry (Changes add) (begun dn word ls)
unfolding first_of_text
first_is add dn word ls bytes =
    ap (λ (r : AttrRead). r >>= λ x. cond (same_name x.name (codes "version")) (cond (bytes_eq x.value (codes "1")) (after_version (Changes add) (line_text (codes "changetype") word ∷ ls)) (Err Version)) (entry (Changes add) (begun dn word ls)))
    (read_again (codes "dn") dn dn_name bytes)

first_change : (add : Bool) (r : Record) → IsWritableChange r → first_of_text (Changes add) (change_lines r) ≡ entry (Changes add) (change_lines r)
first_change add kinds.Empty h = absurd h
first_change add (kinds.Content dn attrs) h = absurd h
first_change add (kinds.Add dn controls attrs) h = first_is add dn (codes "add") (map attr_text attrs) h.0.dn
first_change add (kinds.Delete dn controls) h = first_is add dn (codes "delete") [] h.dn
first_change add (kinds.Modify dn controls mods) h = first_is add dn (codes "modify") (flat_map mod_lines mods) h.0.dn
first_change add (kinds.ModRdn dn controls newrdn old o) h = first_is add dn (codes "modrdn") (line_text (codes "newrdn") newrdn ∷ line_text (codes "deleteoldrdn") (flag_word old) ∷ superior_lines o) h.0.dn

reading_is : (add first : Bool) (r : Record) → IsWritableChange r → reading (Changes add) first (change_lines r) ≡ read_as_itself r
reading_is add true r h = first_change add r h ∙ change_is add r h
reading_is add false r h = change_is add r h

-- ---- the lines can be written

dash_writable : IsWritable (codes "-")
dash_writable = record { begins = refl; bytes = refl }

attrs_writable : (attrs : List Attr) → AllByRecursion IsWritableLine attrs → AllByRecursion IsWritable (map attr_text attrs)
attrs_writable [] h = tt
attrs_writable (a ∷ attrs) h = (writable a.name a.value h.0.name, attrs_writable attrs h.1)

mods_writable : (mods : List Mod) → AllByRecursion IsWritableMod mods → AllByRecursion IsWritable (flat_map mod_lines mods)
mods_writable [] h = tt
mods_writable (m ∷ mods) h = (writable (op_word m.op) m.attr (op_name m.op), values m.values (mods_writable mods h.1))
  where
    values : (vs : List (List ℕ)) → AllByRecursion IsWritable (flat_map mod_lines mods) → AllByRecursion IsWritable ((map (value_text m.attr) vs ++ codes "-" ∷ []) ++ flat_map mod_lines mods)
    values [] rest = (dash_writable, rest)
    values (v ∷ vs) rest = (writable m.attr v h.0.name, values vs rest)

superior_writable : (o : Option (List ℕ)) → AllByRecursion IsWritable (superior_lines o)
superior_writable None = tt
superior_writable (Some dn) = (writable (codes "newsuperior") dn superior_name, tt)

begun_writable : (dn word : List ℕ) (ls : List (List ℕ)) → AllByRecursion IsWritable ls → AreWritable (begun dn word ls)
begun_writable dn word ls h = (writable (codes "dn") dn dn_name, (writable (codes "changetype") word type_name, h))

change_writable : (r : Record) → IsWritableChange r → AreWritable (change_lines r)
change_writable kinds.Empty h = absurd h
change_writable (kinds.Content dn attrs) h = absurd h
change_writable (kinds.Add dn controls attrs) h = begun_writable dn (codes "add") (map attr_text attrs) (attrs_writable attrs h.1)
change_writable (kinds.Delete dn controls) h = begun_writable dn (codes "delete") [] tt
change_writable (kinds.Modify dn controls mods) h = begun_writable dn (codes "modify") (flat_map mod_lines mods) (mods_writable mods h.1)
change_writable (kinds.ModRdn dn controls newrdn old o) h =
    begun_writable dn (codes "modrdn") (line_text (codes "newrdn") newrdn ∷ line_text (codes "deleteoldrdn") (flag_word old) ∷ superior_lines o)
    (writable (codes "newrdn") newrdn rdn_name, (writable (codes "deleteoldrdn") (flag_word old) old_name, superior_writable o))

-- ---- the records of a text

abbrev as_block : CommentedChange → CommentedBlock
as_block c = record { comment = c.comment; lines = change_lines c.change }

all_writable : (cs : List CommentedChange) → AllByRecursion IsWritableComment cs → AllByRecursion IsWritableBlock (map as_block cs)
all_writable [] h = tt
all_writable (c ∷ cs) h = (record { comment = h.0.comment; lines = change_writable c.change h.0.change }, all_writable cs h.1)

changes_text : (cs : List CommentedChange) → flat_map write_change cs ≡ flat_map written_commented (map as_block cs)
unfolding write_change
changes_text [] = refl
changes_text (c ∷ cs) = ap (λ (x : List ℕ). written_commented (as_block c) ++ x) (changes_text cs)

module _ (add : Bool) where
  abbrev read_block : Bool × List (List ℕ) → RecordRead
  read_block b = reading (Changes add) b.0 b.1

  blocks_are : (first : Bool) (cs : List CommentedChange) → AllByRecursion IsWritableComment cs
      → map read_block (with_first_flag first (map record_lines (map as_block cs))) ≡ map read_as_itself (map change_of cs)
  unfolding with_first_flag
  blocks_are first [] h = refl
  blocks_are first (c ∷ cs) h = λ i. reading_is add first c.change h.0.change i ∷ blocks_are false cs h.1 i

  abbrev numbered : RawRecord → ℕ × RecordRead
  numbered r = (r.line, reading (Changes add) r.first r.lines)

  unnumbered : (rs : List RawRecord) → map reading_of (map numbered rs) ≡ map read_block (map raw_block rs)
  unnumbered [] = refl
  unnumbered (r ∷ rs) = ap (λ (xs : List RecordRead). reading (Changes add) r.first r.lines ∷ xs) (unnumbered rs)

  pub changes_back : ((blocks : List CommentedBlock) → AllByRecursion IsWritableBlock blocks → map raw_block (records (flat_map written_commented blocks)) ≡ with_first_flag true (map record_lines blocks))
      → (cs : List CommentedChange) → AllByRecursion IsWritableComment cs → map reading_of (readings (Changes add) (flat_map write_change cs)) ≡ map read_as_itself (map change_of cs)
  unfolding readings
  changes_back blocks_back cs h =
      unnumbered (records (flat_map write_change cs))
      ∙ ap (λ (x : List ℕ). map read_block (map raw_block (records x))) (changes_text cs)
      ∙ ap (map read_block) (blocks_back (map as_block cs) (all_writable cs h))
      ∙ blocks_are true cs h
