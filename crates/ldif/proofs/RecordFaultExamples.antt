-- Where the faults of some records stand, worked out by hand.
use Rattle.std.proofs.Common.{◌≡◌, ℕ, ◌<◌, Bool, true, false, List, [], ◌∷◌, ◌++◌, length, codes, refl, sym, ◌∙◌, inl, inr, arith}
use Rattle.std.specs.List.{list_all}
use Rattle.std.proofs.lemmas.Bool.{true≢false}
use Rattle.std.proofs.lemmas.Slice.Eq.{bytes_eq-Decides}
use Rattle.ldif.specs.declared.fault.LdifFaultKind.{LdifFaultKind}
use Rattle.ldif.specs.declared.fault.LdifFaultKind.TheVariants.{DnMissing, Continuation, Version, Url, ColonMissing, ChangetypeUnknown, OtherAttribute, PartMissing, StrayLine, ChangetypeMissing, ChangetypeInContent, Word}
use Rattle.ldif.specs.declared.record.Op.TheVariants as ops
use Rattle.ldif.specs.declared.record.Mode.{Mode}
use Rattle.ldif.specs.declared.record.Mode.TheVariants.{Content, Changes}
use Rattle.ldif.specs.Line.{same_name, is_word}
use Rattle.ldif.specs.Forms.{IsValueLine, IsSame, IsLineOf, IsWord, flag_word, is_no_colon}
use Rattle.ldif.specs.Places.{Place, text_start, after_version, record_start, contents, changes, block_start, block_values, new_name, delete_old, over, start, IsWay}
use Rattle.ldif.specs.RecordFaults.{Not, IsFaultHere, IsRecordFault}
use Rattle.ldif.proofs.Inverted.{other_found}
use Rattle.ldif.proofs.ChangeForms.{attr_of, word_only}
use Rattle.base.specs.Ends.{begins_with}

abbrev line_for : List ℕ → List ℕ → List ℕ
line_for key value = key ++ 58 ∷ value

-- `key:value`
said : (key value : List ℕ) → 0 < length key → list_all is_no_colon key ≡ true → begins_with 32 (line_for key value) ≡ false → begins_with 32 value ≡ false → begins_with 58 value ≡ false → begins_with 60 value ≡ false
    → IsValueLine (line_for key value) (attr_of key value)
said key value some free front space colon angle =
    record { rest = value; is = refl; some = some; name = free; front = front; value = inr (record { front = 0; is = refl; no_space = space; no_colon = colon; no_angle = angle }) }

named : (key value : List ℕ) → IsValueLine (line_for key value) (attr_of key value) → IsLineOf key (line_for key value) value
named key value h = record { name = key; is = h; same = refl }

dn : IsLineOf (codes "dn") (codes "dn:x") (codes "x")
dn = named (codes "dn") (codes "x") (said (codes "dn") (codes "x") (omega arith) refl refl refl refl refl)

cn : IsValueLine (codes "cn:a") (attr_of (codes "cn") (codes "a"))
cn = said (codes "cn") (codes "a") (omega arith) refl refl refl refl refl

changetype : (w : List ℕ) → begins_with 32 w ≡ false → begins_with 58 w ≡ false → begins_with 60 w ≡ false → IsLineOf (codes "changetype") (codes "changetype:" ++ w) w
changetype w a b c = named (codes "changetype") w (said (codes "changetype") w (omega arith) refl refl a b c)

-- at a line, and the lines that lead to it
at : (mode : Mode) (first : Bool) (front : List (List ℕ)) (bad : List ℕ) (rest : List (List ℕ)) (p : Place) (f : LdifFaultKind) → IsWay mode (start first) front p → IsFaultHere p bad f → IsRecordFault mode first (front ++ bad ∷ rest) f
at mode first front bad rest p f way h = inl (record { front = front; bad = bad; rest = rest; is = refl; place = p; way = way; here = h })

other : (a b : List ℕ) → same_name a b ≡ false → Not (IsSame a b)
other a b e = other_found a b e

no_word : (text w : List ℕ) → is_word text w ≡ false → Not (IsWord text w)
no_word text w e h = true≢false (sym (word_only text w h) ∙ e)

-- no line at all
nothing : IsRecordFault Content false [] DnMissing
nothing = inr (record_start, refl, refl)

-- a first line with no colon has that fault, and not that it is no `dn:`
no_colon : IsRecordFault Content true (codes "foo" ∷ []) ColonMissing
no_colon = at Content true [] (codes "foo") [] text_start ColonMissing refl (inl ((refl, inl refl), λ h. h))

-- another version; something else behind version 1
two : IsRecordFault Content true (codes "version:2" ∷ codes "cn:a" ∷ []) Version
two = at Content true [] (codes "version:2") (codes "cn:a" ∷ []) text_start Version refl (inr (attr_of (codes "version") (codes "2"), said (codes "version") (codes "2") (omega arith) refl refl refl refl refl, inl (refl, refl, λ e. true≢false (sym ((bytes_eq-Decides (codes "2") (codes "1")).1 e)))))

behind_version : IsRecordFault Content true (codes "version:1" ∷ codes "cn:a" ∷ []) DnMissing
behind_version =
    at Content true (codes "version:1" ∷ []) (codes "cn:a") [] after_version DnMissing
    (after_version, inl (named (codes "version") (codes "1") (said (codes "version") (codes "1") (omega arith) refl refl refl refl refl), refl), refl)
    (inr (attr_of (codes "cn") (codes "a"), cn, (refl, other (codes "cn") (codes "dn") refl)))

-- `changetype:` in a content record; a line that continues none comes first
content : IsRecordFault Content false (codes "dn:x" ∷ codes "changetype:add" ∷ codes " y" ∷ []) ChangetypeInContent
content =
    at Content false (codes "dn:x" ∷ []) (codes "changetype:add") (codes " y" ∷ []) contents ChangetypeInContent (contents, (codes "x", dn, refl), refl)
    (inr (attr_of (codes "changetype") (codes "add"), said (codes "changetype") (codes "add") (omega arith) refl refl refl refl refl, (refl, refl)))

space : IsRecordFault Content false (codes "dn:x" ∷ codes " y:" ∷ []) Continuation
space = at Content false (codes "dn:x" ∷ []) (codes " y:") [] contents Continuation (contents, (codes "x", dn, refl), refl) (inl (refl, λ h. h))

-- changes without `changetype:`, at a line and at the end
untyped : IsRecordFault (Changes false) false (codes "dn:x" ∷ codes "cn:a" ∷ []) ChangetypeMissing
untyped =
    at (Changes false) false (codes "dn:x" ∷ []) (codes "cn:a") [] (changes false) ChangetypeMissing (changes false, (codes "x", dn, refl), refl)
    (inr (attr_of (codes "cn") (codes "a"), cn, inr (inr (refl, (other (codes "cn") (codes "control") refl, other (codes "cn") (codes "changetype") refl), refl))))

untyped_end : IsRecordFault (Changes false) false (codes "dn:x" ∷ []) ChangetypeMissing
untyped_end = inr (changes false, (changes false, (codes "x", dn, refl), refl), (refl, refl))

-- another word
unknown : IsRecordFault (Changes true) false (codes "dn:x" ∷ codes "changetype:frob" ∷ []) ChangetypeUnknown
unknown =
    let w = codes "frob" in
    at (Changes true) false (codes "dn:x" ∷ []) (codes "changetype:frob") [] (changes true) ChangetypeUnknown (changes true, (codes "x", dn, refl), refl)
    (inr (attr_of (codes "changetype") w, said (codes "changetype") w (omega arith) refl refl refl refl refl, inr (inl (refl, refl, (no_word w (codes "add") refl, no_word w (codes "delete") refl, no_word w (codes "modify") refl, no_word w (codes "modrdn") refl, no_word w (codes "moddn") refl)))))

-- a line behind a delete; its own base64 comes first
abbrev deleting : List (List ℕ)
deleting = codes "dn:x" ∷ codes "changetype:delete" ∷ []

deleted : IsWay (Changes false) record_start deleting over
deleted = (changes false, (codes "x", dn, refl), (over, inr (inl (codes "delete", changetype (codes "delete") refl refl refl, inr (inl (record { written = codes "delete"; trimmed = record { spaces = 0; is = refl; end = refl }; same = refl }, refl)))), refl))

stray : IsRecordFault (Changes false) false (deleting ++ codes "cn:a" ∷ []) StrayLine
stray = at (Changes false) false deleting (codes "cn:a") [] over StrayLine deleted (inr (attr_of (codes "cn") (codes "a"), cn, refl))

url : IsRecordFault (Changes false) false (deleting ++ codes "cn:<a" ∷ []) Url
url = at (Changes false) false deleting (codes "cn:<a") [] over Url deleted (inl ((codes "a", record { name = codes "cn"; is = refl; some = omega arith; no_colon = refl; front = refl }), λ h. h))

-- a value of another attribute in a block; a `-` where a block begins
abbrev modifying : List (List ℕ)
modifying = codes "dn:x" ∷ codes "changetype:modify" ∷ []

modified : IsWay (Changes false) record_start modifying block_start
modified = (changes false, (codes "x", dn, refl), (block_start, inr (inl (codes "modify", changetype (codes "modify") refl refl refl, inr (inr (inl (record { written = codes "modify"; trimmed = record { spaces = 0; is = refl; end = refl }; same = refl }, refl))))), refl))

dash : IsRecordFault (Changes false) false (modifying ++ codes "-" ∷ []) ColonMissing
dash = at (Changes false) false modifying (codes "-") [] block_start ColonMissing modified (inl ((refl, inl refl), λ h. h))

in_block : IsWay (Changes false) record_start (modifying ++ codes "add:sn" ∷ []) (block_values (codes "sn"))
unfolding modified
in_block = (
  modified.0,
  modified.1,
  (
    modified.2.0,
    modified.2.1,
    (
      block_values (codes "sn"),
      (ops.Add, codes "sn", codes "sn", named (codes "add") (codes "sn") (said (codes "add") (codes "sn") (omega arith) refl refl refl refl refl), record { spaces = 0; is = refl; end = refl }, refl),
      refl,
    ),
  ),
)

another : IsRecordFault (Changes false) false (modifying ++ codes "add:sn" ∷ codes "cn:a" ∷ []) OtherAttribute
another = at (Changes false) false (modifying ++ codes "add:sn" ∷ []) (codes "cn:a") [] (block_values (codes "sn")) OtherAttribute in_block (inr (attr_of (codes "cn") (codes "a"), cn, (refl, other (codes "cn") (codes "sn") refl)))

-- a renaming that ends too soon, and one with another word than 0 and 1
abbrev renaming : List (List ℕ)
renaming = codes "dn:x" ∷ codes "changetype:modrdn" ∷ codes "newrdn:a" ∷ []

renamed : IsWay (Changes false) record_start renaming delete_old
renamed = (
  changes false,
  (codes "x", dn, refl),
  (
    new_name,
    inr (inl (codes "modrdn", changetype (codes "modrdn") refl refl refl, inr (inr (inr (inl (record { written = codes "modrdn"; trimmed = record { spaces = 0; is = refl; end = refl }; same = refl }), refl))))),
    (delete_old, (codes "a", named (codes "newrdn") (codes "a") (said (codes "newrdn") (codes "a") (omega arith) refl refl refl refl refl), refl), refl),
  ),
)

too_soon : IsRecordFault (Changes false) false renaming PartMissing
too_soon = inr (delete_old, renamed, refl)

no_flag : (flag : Bool) → Not (IsWord (codes "2") (flag_word flag))
no_flag true = no_word (codes "2") (codes "1") refl
no_flag false = no_word (codes "2") (codes "0") refl

two_flag : IsRecordFault (Changes false) false (renaming ++ codes "deleteoldrdn:2" ∷ []) Word
two_flag =
    at (Changes false) false renaming (codes "deleteoldrdn:2") [] delete_old Word renamed
    (inr (attr_of (codes "deleteoldrdn") (codes "2"), said (codes "deleteoldrdn") (codes "2") (omega arith) refl refl refl refl refl, inr (refl, refl, no_flag)))
