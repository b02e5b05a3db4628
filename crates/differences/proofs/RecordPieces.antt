-- The text of a change record, put together of its pieces.
use Rattle.std.proofs.Common.{◌≡◌, ℕ, false, List, [], ◌∷◌, ◌++◌, map, length, codes, refl, sym, ap, ◌∙◌, append_assoc}
use Rattle.std.specs.Prelude.{◌==◌}
use Rattle.std.specs.List.{flat_map}
use Rattle.std.proofs.lemmas.Grind.{flat_map-append}
use Rattle.std.proofs.lemmas.List.{append-nil}
use Rattle.ldif_lines.specs.Folding.{folded, folded_to, written_block}
use Rattle.ldif.specs.declared.record.Mod.{Mod}
use Rattle.ldif.specs.Attrs.{Attr}
use Rattle.ldif.specs.Forms.{op_word}
use Rattle.ldif.specs.Writing.{line_text, written_line}
use Rattle.ldif.specs.Changes.{attr_text, value_text, mod_lines, begun, write_change}
use Rattle.dn.specs.Writing.{text_of, rdn_text}
use Rattle.values.specs.declared.types.AttributeType.{AttributeType}
use Rattle.values.specs.Types.{name_of}
use Rattle.schema.specs.Names.{written_rdn}
use Rattle.schema.specs.Rdns.{TypedRdn}
use Rattle.entries.specs.Entries.{Attributes, attribute_lines, lines_of}
use Rattle.differences.specs.EntryChanges.{Values}
use Rattle.differences.specs.Comments.{mods_words}
use Rattle.differences.specs.inner.BlockTexts.{value_lines, mod_text, mods_text}
use Rattle.differences.specs.inner.RecordTexts.{head_text, modify_text, delete_text, lines_text, add_text, respelling_text}

lines_at : (name : List ℕ) (vs : Values) → flat_map (folded 76) (map (value_text name) vs) ≡ value_lines name vs
lines_at name [] = refl
lines_at name (v ∷ vs) = ap (λ (x : List ℕ). written_line name v ++ x) (lines_at name vs)

mod_is : (m : Mod) → flat_map (folded 76) (mod_lines m) ≡ mod_text m
unfolding folded_to
mod_is m =
    let head : List ℕ = written_line (op_word m.op) m.attr in
    ap (λ (x : List ℕ). head ++ x) (flat_map-append (folded 76) (map (value_text m.attr) m.values) (codes "-" ∷ []) ∙ ap (λ (x : List ℕ). x ++ 45 ∷ 10 ∷ []) (lines_at m.attr m.values))
    ∙ sym (append_assoc head (value_lines m.attr m.values) (45 ∷ 10 ∷ []))

mods_are : (ms : List Mod) → flat_map (folded 76) (flat_map mod_lines ms) ≡ mods_text ms
mods_are [] = refl
mods_are (m ∷ ms) = flat_map-append (folded 76) (mod_lines m) (flat_map mod_lines ms) ∙ (λ i. mod_is m i ++ mods_are ms i)

-- a record whose comment is of these words
begun_is : (note words dn kind : List ℕ) (ls : List (List ℕ)) → written_block (line_text note words ∷ begun dn kind ls) ≡ (head_text note words dn kind ++ flat_map (folded 76) ls) ++ 10 ∷ []
begun_is note words dn kind ls =
    let comment : List ℕ = written_line note words in
    let name : List ℕ = written_line (codes "dn") dn in
    let type : List ℕ = written_line (codes "changetype") kind in
    let rest : List ℕ = flat_map (folded 76) ls in
    ap (λ (x : List ℕ). x ++ 10 ∷ []) (sym (append_assoc (comment ++ name) type rest ∙ append_assoc comment name (type ++ rest)))

pub delete_is : (dn : List ℕ) → head_text (codes "# delete") (codes "an entry that is gone") dn (codes "delete") ++ 10 ∷ [] ≡ delete_text dn
unfolding write_change
delete_is dn =
    let head : List ℕ = head_text (codes "# delete") (codes "an entry that is gone") dn (codes "delete") in
    ap (λ (x : List ℕ). x ++ 10 ∷ []) (sym (append-nil head)) ∙ sym (begun_is (codes "# delete") (codes "an entry that is gone") dn (codes "delete") [])

modify_is : (dn : List ℕ) (m : Mod) (ms : List Mod) → (head_text (codes "# modify") (mods_words (m ∷ ms)) dn (codes "modify") ++ mods_text (m ∷ ms)) ++ 10 ∷ [] ≡ modify_text dn (m ∷ ms)
unfolding write_change
modify_is dn m ms =
    sym (begun_is (codes "# modify") (mods_words (m ∷ ms)) dn (codes "modify") (flat_map mod_lines (m ∷ ms))
    ∙ ap (λ (x : List ℕ). (head_text (codes "# modify") (mods_words (m ∷ ms)) dn (codes "modify") ++ x) ++ 10 ∷ []) (mods_are (m ∷ ms)))

-- of blocks, where there are some
pub modify_of : (dn : List ℕ) (ms : List Mod) → (length ms == 0) ≡ false → (head_text (codes "# modify") (mods_words ms) dn (codes "modify") ++ mods_text ms) ++ 10 ∷ [] ≡ modify_text dn ms
modify_of dn [] h = absurd cc
modify_of dn (m ∷ ms) h = modify_is dn m ms

module _ (types : List AttributeType) where
  -- ---- the lines of an add

  attrs_append : (xs ys : List Attr) → flat_map (folded 76) (map attr_text (xs ++ ys)) ≡ flat_map (folded 76) (map attr_text xs) ++ flat_map (folded 76) (map attr_text ys)
  attrs_append [] ys = refl
  attrs_append (x ∷ xs) ys = ap (λ (t : List ℕ). written_line x.name x.value ++ t) (attrs_append xs ys) ∙ sym (append_assoc (written_line x.name x.value) (flat_map (folded 76) (map attr_text xs)) (flat_map (folded 76) (map attr_text ys)))

  one_attribute : (t : ℕ) (vs : Values) → flat_map (folded 76) (map attr_text (attribute_lines types (t, vs))) ≡ value_lines (name_of types t) vs
  one_attribute t [] = refl
  one_attribute t (v ∷ vs) = ap (λ (x : List ℕ). written_line (name_of types t) v ++ x) (one_attribute t vs)

  lines_are : (attrs : Attributes) → flat_map (folded 76) (map attr_text (lines_of types attrs)) ≡ lines_text types attrs
  unfolding lines_of
  lines_are [] = refl
  lines_are (a ∷ more) = attrs_append (attribute_lines types a) (lines_of types more) ∙ (λ i. one_attribute a.0 a.1 i ++ lines_are more i)

  pub add_is : (dn : List ℕ) (attrs : Attributes) → (head_text (codes "# add") (codes "a new entry") dn (codes "add") ++ lines_text types attrs) ++ 10 ∷ [] ≡ add_text types dn attrs
  unfolding write_change
  add_is dn attrs =
      sym (begun_is (codes "# add") (codes "a new entry") dn (codes "add") (map attr_text (lines_of types attrs))
      ∙ ap (λ (x : List ℕ). (head_text (codes "# add") (codes "a new entry") dn (codes "add") ++ x) ++ 10 ∷ []) (lines_are attrs))

  -- ---- another spelling

  abbrev renamed : List ℕ → List ℕ
  renamed dn = head_text (codes "# modrdn") (codes "another spelling of the RDN") dn (codes "modrdn")

  pub respelling_is : (dn : List ℕ) (new : TypedRdn) → ((renamed dn ++ written_line (codes "newrdn") (rdn_text (written_rdn types new))) ++ written_line (codes "deleteoldrdn") (codes "0")) ++ 10 ∷ [] ≡ respelling_text types dn new
  unfolding write_change text_of
  respelling_is dn new =
      let text : List ℕ = rdn_text (written_rdn types new) in
      let a : List ℕ = written_line (codes "newrdn") text in
      let b : List ℕ = written_line (codes "deleteoldrdn") (codes "0") in
      ap (λ (x : List ℕ). x ++ 10 ∷ []) (append_assoc (renamed dn) a b ∙ ap (λ (x : List ℕ). renamed dn ++ (a ++ x)) (sym (append-nil b)))
      ∙ sym (begun_is (codes "# modrdn") (codes "another spelling of the RDN") dn (codes "modrdn") (line_text (codes "newrdn") text ∷ line_text (codes "deleteoldrdn") (codes "0") ∷ []))

pub set_apart : (out xs ys : List ℕ) → ((out ++ xs) ++ ys) ++ 10 ∷ [] ≡ out ++ ((xs ++ ys) ++ 10 ∷ [])
set_apart out xs ys = ap (λ (x : List ℕ). x ++ 10 ∷ []) (append_assoc out xs ys) ∙ append_assoc out (xs ++ ys) (10 ∷ [])
